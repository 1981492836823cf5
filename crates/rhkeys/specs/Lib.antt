-- Ends: how a command on lists ends
pub mod Ends
-- Request: what a line asks of which lists, or why it is refused
pub mod Request
