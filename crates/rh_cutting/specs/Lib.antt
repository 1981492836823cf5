-- Pieces: the keys of a list in pieces
pub mod Pieces
-- Borders: the borders between parts, and lists that are cut there
pub mod Borders
-- Cut: lists that were cut, of which nothing else is left
pub mod Cut
