-- Commands: what a command writes
pub mod Commands
