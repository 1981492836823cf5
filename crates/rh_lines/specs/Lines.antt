-- The lines of a text, and the words of a line.
use Rattle.std.specs.Prelude.{ℕ, ◌-◌, Bool, true, false, ◌||◌, ◌==◌, nat_eq, if◌then◌else◌, List, [], ◌∷◌, length, take, filter, codes}
use Rattle.std.specs.Char.{is_ascii_graphic}
use Rattle.std.specs.List.{list_all, slice_split, starts_with, ends_with}

abbrev pub is_line_feed : ℕ → Bool
is_line_feed b = b == 10

abbrev pub is_space : ℕ → Bool
is_space b = b == 32

-- a byte that may stand in a line that is not skipped: a space, or 33 to 126
abbrev pub is_printable : ℕ → Bool
is_printable b = is_space b || is_ascii_graphic b

abbrev pub has_bytes : List ℕ → Bool
has_bytes [] = false
has_bytes (b ∷ bs) = true

-- What stands after the last line feed is a line only if it has a byte.
abbrev pub without_empty_last : List (List ℕ) → List (List ℕ)
without_empty_last [] = []
without_empty_last (last ∷ []) = if has_bytes last then last ∷ [] else []
without_empty_last (part ∷ parts) = part ∷ without_empty_last parts

-- the lines, without their line feeds
-- "#a\r\n  b c\n" has two, of which the first is skipped
unfoldable pub lines_of : List ℕ → List (List ℕ)
lines_of text = without_empty_last (slice_split is_line_feed text)

-- one carriage return at the end of a line is dropped
unfoldable pub without_return : List ℕ → List ℕ
without_return line = if ends_with nat_eq line (codes "\r") then take (length line - 1) line else line

-- a comment, or a line with no word
unfoldable pub is_skipped : List ℕ → Bool
is_skipped line = starts_with nat_eq line (codes "#") || list_all is_space line

-- the words between the spaces
-- "  b c" has b and c
unfoldable pub words_of : List ℕ → List (List ℕ)
words_of line = filter has_bytes (slice_split is_space line)
