-- Words and their numbers. That the lowest bits tell a reference from a value is Harris, Fraser and Pratt 2002;
-- the numbers are this project's own.
use Rattle.std.specs.Prelude.{ℕ, ◌+◌, ◌*◌, ◌/◌, ◌%◌, ◌^◌, ◌<◌, ◌≤◌, ◌==◌, Bool, if◌then◌else◌, Option, Some, None, ⊤}
use Rattle.rh_layout.specs.Key.{IsKey, cell_of, is_full, key_in}
use Rattle.rh_layout.specs.declared.limits.TheConstants.{MAX_KEY}
use Rattle.rh_tagword.specs.declared.limits.TheConstants.{TAG_BITS, PLAIN, MARK, DESC, WORKER_BITS, NUMBER_BITS}
use Rattle.rh_tagword.specs.declared.word.Word.{Word}
use Rattle.rh_tagword.specs.declared.word.Word.TheVariants.{Empty, Key, Mark, Desc}

-- ---- the parts of a number

abbrev pub tag_of : ℕ → ℕ
tag_of n = n % 2 ^ TAG_BITS

-- the number with this tag, and this above it
abbrev pub tagged : (tag rest : ℕ) → ℕ
tagged tag rest = rest * 2 ^ TAG_BITS + tag

-- the tag that no word has
abbrev pub unused_tag : ℕ
unused_tag = 3

abbrev pub is_plain : ℕ → Bool
is_plain n = tag_of n == PLAIN

-- what a cell may hold
abbrev pub IsValue : ℕ → Type 0
IsValue value = value ≤ cell_of MAX_KEY

-- the number of the word of a cell that holds this
abbrev pub plain_number : ℕ → ℕ
plain_number value = tagged PLAIN value

-- a mark or a descriptor, by its worker and its number among that worker's
abbrev pub IsRef : (worker number : ℕ) → Type 0
IsRef worker number = (worker < 2 ^ WORKER_BITS) × (number < 2 ^ NUMBER_BITS)

abbrev pub ref_number : (worker number : ℕ) → ℕ
ref_number worker number = worker * 2 ^ NUMBER_BITS + number

-- ---- words

abbrev pub IsWord : Word → Type 0
IsWord Empty = ⊤
IsWord (Key k) = IsKey k
IsWord (Mark worker number) = IsRef worker number
IsWord (Desc worker number) = IsRef worker number

-- Empty is 0, and Key 17 is 4 * 18 = 72. Mark 5 of worker 2 is 4 * (2 * 2^56 + 5) + 1 = 576460752303423509, and Desc 1 of worker
-- 0 is 4 * 1 + 2 = 6. The number 3 is no word.
abbrev pub word_number : Word → ℕ
word_number Empty = plain_number 0
word_number (Key k) = plain_number (cell_of k)
word_number (Mark worker number) = tagged MARK (ref_number worker number)
word_number (Desc worker number) = tagged DESC (ref_number worker number)

-- the word with this tag, and this above it
abbrev pub word_with : (tag rest : ℕ) → Option Word
word_with tag rest =
    if tag == PLAIN then Some (if is_full rest then Key (key_in rest) else Empty)
    else if tag == MARK then Some (Mark (rest / 2 ^ NUMBER_BITS) (rest % 2 ^ NUMBER_BITS))
    else if tag == DESC then Some (Desc (rest / 2 ^ NUMBER_BITS) (rest % 2 ^ NUMBER_BITS))
    else None

-- the word that a number is read as
abbrev pub word_in : ℕ → Option Word
word_in n = word_with (tag_of n) (n / 2 ^ TAG_BITS)
