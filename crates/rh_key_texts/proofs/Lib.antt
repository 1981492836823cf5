-- Header: a snapshot that was read begins with a header.
-- Pieces: the texts of pieces of a list, one after the other.
-- Listed: files that are listed one after the other.
-- Same: packing and listing, one after the other.

mod Header
mod Pieces
mod Listed
mod Same
