mod Meaning
mod Answered
