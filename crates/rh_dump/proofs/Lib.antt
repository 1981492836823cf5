-- Written: a dump, written line by line.

pub mod Written
