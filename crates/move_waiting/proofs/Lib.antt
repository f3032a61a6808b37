mod WaitLaws
mod ReplyLaws
