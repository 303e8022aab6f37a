mod Listed
mod OneStep
mod Passing
mod Reached
mod Tables
mod Turn
