mod Oldest
mod Storing
mod Receiving
