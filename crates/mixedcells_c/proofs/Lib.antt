mod Statuses
mod Ends
mod CommandWords
