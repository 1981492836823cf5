-- Finishing: how a command ends that works through a buffer
pub mod Finishing
-- Shared: the reader and the writer that share who is told how far the reading is
pub mod Shared
-- ByLine: the writer whose lines are written at once
pub mod ByLine
-- Notes: why a file was not opened or read
pub mod Notes
-- Quoted: bytes as they are shown to a person
pub mod Quoted
