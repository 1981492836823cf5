-- A line that is looked for: what passes from one byte to the next.
use Rattle.std.specs.Prelude.{ℕ, ◌==◌, if◌then◌else◌, List, ◌++◌, take, Option, option_map}
use Rattle.rh_numbers.specs.declared.excerpt.TheConstants.{HELD_BYTES}
use Rattle.rh_numbers.specs.declared.search.Search.{Search}
use Rattle.rh_numbers.specs.Excerpt.{held_by, line_behind}
use Rattle.rh_numbers.specs.Grammar.{without_mark}

-- the lines of the bytes that are left of a text, of which so many parts were read
abbrev pub lines_left : (parts : ℕ) → List ℕ → List ℕ
lines_left parts rest = if parts == 0 then without_mark rest else rest

-- the first bytes of the line behind so many line feeds, where those that are held stand before these bytes
abbrev pub found_in : (feeds : ℕ) (held rest : List ℕ) → Option (List ℕ)
found_in feeds held rest = option_map (λ line. take HELD_BYTES (held ++ line)) (line_behind feeds rest)

abbrev pub found_by : Search → List ℕ → Option (List ℕ)
found_by search rest = found_in search.feeds (held_by search.line) rest
