mod Meeting
mod Peeking
