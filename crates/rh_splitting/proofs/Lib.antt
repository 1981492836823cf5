-- Given: what each part was given of a list, key after key and list after list.
-- Texts: a text that is split, part of the text after part.
-- IntoFiles: a list that is split into key files, before whose bytes none was taken.
-- Plans: the lines of a plan, one after another.

pub mod Given
pub mod Texts
pub mod IntoFiles
pub mod Plans
