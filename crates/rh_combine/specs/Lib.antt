-- Combine: what comes of lists of numbers, and of their numbers in a range
pub mod Combine
-- Grid: a range of numbers that is cut in parts
pub mod Grid
-- Table: the tables that lists are met by, their room and their size
pub mod Table
