-- Each function that draws says what its content shows: marks, lines and heads. Contents beside each other show what the first
-- does, and then what the second does, which is all that most functions need (Showing). The cells that are listed as changed
-- by a step are those that change; so are the flags of the columns, record by record (Flagging).
pub mod Changed
pub mod Flagging
pub mod Showing
