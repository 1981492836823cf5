-- The classes by which the style sheet knows how an element looks.
use Rattle.std.specs.Prelude.{ℕ, ◌%◌, ◌==◌, if◌then◌else◌, List, [], codes}
use Rattle.rh_svg.specs.declared.looks.TheConstants.{COLOURS}
use Rattle.rh_svg.specs.declared.looks.Look.{Look}
use Rattle.rh_svg.specs.declared.looks.Look.TheVariants.{Ground, Title, Number, Head, Lane, Help, Act, Decision, Late, Round, Saying, Empty, Key, Mark, Desc, Odd, Word, Value}

abbrev pub look_word : Look → List ℕ
look_word Ground = codes "ground"
look_word Title = codes "title"
look_word Number = codes "number"
look_word Head = codes "head"
look_word (Lane worker) = codes "lane"
look_word (Help worker) = codes "help"
look_word Act = codes "act"
look_word Decision = codes "decision"
look_word Late = codes "late"
look_word Round = codes "round"
look_word Saying = codes "saying"
look_word Empty = codes "empty"
look_word Key = codes "key"
look_word (Mark worker) = codes "mark"
look_word (Desc worker) = codes "desc"
look_word Odd = codes "odd"
look_word Word = codes "word"
look_word Value = codes "value"

abbrev pub colour_at : ℕ → List ℕ
colour_at n =
    if n == 0 then codes " w0"
    else if n == 1 then codes " w1"
    else if n == 2 then codes " w2"
    else if n == 3 then codes " w3"
    else if n == 4 then codes " w4"
    else if n == 5 then codes " w5"
    else if n == 6 then codes " w6"
    else if n == 7 then codes " w7"
    else if n == 8 then codes " w8"
    else if n == 9 then codes " w9"
    else if n == 10 then codes " w10"
    else if n == 11 then codes " w11"
    else if n == 12 then codes " w12"
    else if n == 13 then codes " w13"
    else if n == 14 then codes " w14"
    else codes " w15"

abbrev pub colour : (worker : ℕ) → List ℕ
colour worker = colour_at (worker % COLOURS)

-- the class of its colour, or nothing
abbrev pub tint : Look → List ℕ
tint Ground = []
tint Title = []
tint Number = []
tint Head = []
tint (Lane worker) = colour worker
tint (Help worker) = colour worker
tint Act = []
tint Decision = []
tint Late = []
tint Round = []
tint Saying = []
tint Empty = []
tint Key = []
tint (Mark worker) = colour worker
tint (Desc worker) = colour worker
tint Odd = []
tint Word = []
tint Value = []
