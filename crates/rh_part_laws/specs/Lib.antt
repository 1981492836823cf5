-- Commands: what the commands of a script make of sets and lists of any size, and the part of it
pub mod Commands
-- Scripts: the state of a script as such sets and lists
pub mod Scripts
