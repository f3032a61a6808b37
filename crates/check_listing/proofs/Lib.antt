mod Records
mod Answers
