-- The grammar of the texts of plays: what the lines of a text say, or its first fault.
use Rattle.std.specs.Prelude.{ℕ, ◌+◌, ◌^◌, Bool, true, ◌&&◌, nat_le, nat_lt, if◌then◌else◌, List, [], ◌∷◌, ◌++◌, length, codes, Option, Some, None, ok_or, Result, Ok, Err}
use Rattle.std.specs.Char.{is_ascii_digit}
use Rattle.std.specs.Str.{bytes_eq}
use Rattle.std.specs.Str.Parse.{digits_value}
use Rattle.std.specs.List.{list_all}
use Rattle.rh_words.specs.declared.steps.StepKind.{StepKind}
use Rattle.rh_words.specs.declared.steps.StepKind.TheVariants as steps
use Rattle.rh_ledger.specs.declared.tally.Kind.{Kind}
use Rattle.rh_ledger.specs.declared.tally.Kind.TheVariants.{Insert, Remove, Ask}
use Rattle.rh_play_text.specs.declared.fault.PlayTextFault.{PlayTextFault}
use Rattle.rh_play_text.specs.declared.fault.PlayTextKind.{PlayTextKind}
use Rattle.rh_play_text.specs.declared.fault.PlayTextKind.TheVariants.{BadLine, TooLong}
use Rattle.rh_play_text.specs.declared.limits.TheConstants.{MAX_TEXT_BYTES, MIN_BITS, MAX_BITS, MAX_PLAY_ROOM, MAX_TURNS, MAX_DIGITS}
use Rattle.rh_play_text.specs.declared.schedule.Order.TheVariants.{Turn, Until, Rest, Round, Show}
use Rattle.rh_play_text.specs.declared.verb.Verb.{Verb}
use Rattle.rh_play_text.specs.declared.verb.Verb.TheVariants as verbs
use Rattle.rh_play_text.specs.Saying.{Saying, Play, Bits, Held, Rooms, Work, Share, Schedule, TextStage, AtStart, AfterPlay, AfterBits, AfterHeld, AfterRooms, AmongWork, AmongSchedule}
use Rattle.rh_lines.specs.Lines.{lines_of, without_return}
use Rattle.rh_lines.specs.Grammar.{◌>>=◌, Grammar, at_line, no_word, read_by}
use Rattle.rh_lines.specs.Grammar as texts

-- ---- words

-- one to twenty digits that write a number below 2^64
unfoldable pub number_of : List ℕ → Result ℕ PlayTextKind
number_of word =
    if nat_le 1 (length word) && nat_le (length word) MAX_DIGITS && list_all is_ascii_digit word && nat_lt (digits_value 10 word) (2 ^ 64)
    then Ok (digits_value 10 word)
    else Err BadLine

unfoldable pub kind_of : List ℕ → Option Kind
kind_of word =
    if bytes_eq word (codes "insert") then Some Insert
    else if bytes_eq word (codes "remove") then Some Remove
    else if bytes_eq word (codes "ask") then Some Ask
    else None

unfoldable pub step_of : List ℕ → Option StepKind
step_of word =
    if bytes_eq word (codes "write") then Some steps.Write
    else if bytes_eq word (codes "open") then Some steps.Open
    else if bytes_eq word (codes "read") then Some steps.Read
    else if bytes_eq word (codes "place") then Some steps.Place
    else if bytes_eq word (codes "settle") then Some steps.Settle
    else if bytes_eq word (codes "decide") then Some steps.Decide
    else if bytes_eq word (codes "release") then Some steps.Release
    else if bytes_eq word (codes "claim") then Some steps.Claim
    else None

unfoldable pub verb_of : List ℕ → Option Verb
verb_of word =
    if bytes_eq word (codes "play") then Some verbs.Play
    else if bytes_eq word (codes "bits") then Some verbs.Bits
    else if bytes_eq word (codes "held") then Some verbs.Held
    else if bytes_eq word (codes "rooms") then Some verbs.Rooms
    else if bytes_eq word (codes "work") then Some verbs.Work
    else if bytes_eq word (codes "share") then Some verbs.Share
    else if bytes_eq word (codes "turn") then Some verbs.Turn
    else if bytes_eq word (codes "until") then Some verbs.Until
    else if bytes_eq word (codes "rest") then Some verbs.Rest
    else if bytes_eq word (codes "round") then Some verbs.Round
    else if bytes_eq word (codes "show") then Some verbs.Show
    else None

-- ---- the words after the first

unfoldable pub one_number : List (List ℕ) → Result ℕ PlayTextKind
one_number (word ∷ []) = number_of word
one_number _ = Err BadLine

unfoldable pub two_numbers : List (List ℕ) → Result (ℕ × ℕ) PlayTextKind
two_numbers (first ∷ second ∷ []) = number_of first >>= (λ m. number_of second >>= (λ n. Ok (m, n)))
two_numbers _ = Err BadLine

-- these numbers, and those of the words
unfoldable pub numbers_after : List ℕ → List (List ℕ) → Result (List ℕ) PlayTextKind
numbers_after before [] = Ok before
numbers_after before (word ∷ words) = number_of word >>= (λ n. numbers_after (before ++ n ∷ []) words)

unfoldable pub one_kind : List (List ℕ) → Result Kind PlayTextKind
one_kind (word ∷ []) = ok_or (kind_of word) BadLine
one_kind _ = Err BadLine

unfoldable pub number_and_step : List (List ℕ) → Result (ℕ × StepKind) PlayTextKind
number_and_step (word ∷ step ∷ []) = number_of word >>= (λ n. ok_or (step_of step) BadLine >>= (λ s. Ok (n, s)))
number_and_step _ = Err BadLine

-- the first is the number of workers
unfoldable pub shared : List (List ℕ) → Result Saying PlayTextKind
shared [] = Err BadLine
shared (word ∷ words) = number_of word >>= (λ workers. numbers_after [] words >>= (λ keys. Ok (Share workers keys)))

-- ---- a line

unfoldable pub saying_of : Verb → List (List ℕ) → Result Saying PlayTextKind
saying_of verbs.Play words = one_kind words >>= (λ kind. Ok (Play kind))
saying_of verbs.Bits words = one_number words >>= (λ bits. Ok (Bits bits))
saying_of verbs.Held words = numbers_after [] words >>= (λ keys. Ok (Held keys))
saying_of verbs.Rooms words = two_numbers words >>= (λ rooms. Ok (Rooms rooms.0 rooms.1))
saying_of verbs.Work words = numbers_after [] words >>= (λ keys. Ok (Work keys))
saying_of verbs.Share words = shared words
saying_of verbs.Turn words = two_numbers words >>= (λ turn. Ok (Schedule (Turn turn.0 turn.1)))
saying_of verbs.Until words = number_and_step words >>= (λ until. Ok (Schedule (Until until.0 until.1)))
saying_of verbs.Rest words = no_word BadLine (Schedule Rest) words
saying_of verbs.Round words = no_word BadLine (Schedule Round) words
saying_of verbs.Show words = no_word BadLine (Schedule Show) words

unfoldable pub saying_in : List (List ℕ) → Result Saying PlayTextKind
saying_in [] = Err BadLine
saying_in (word ∷ words) = ok_or (verb_of word) BadLine >>= (λ verb. saying_of verb words)

-- what a line says, if anything
abbrev pub said_in : List ℕ → Result (Option Saying) PlayTextKind
said_in = texts.line_said BadLine saying_in

-- ---- the order of the lines

abbrev pub is_within : (least most : ℕ) → ℕ → Bool
is_within least most n = nat_le least n && nat_le n most

-- the numbers lie in their ranges
unfoldable pub fits : Saying → Bool
fits (Bits bits) = is_within MIN_BITS MAX_BITS bits
fits (Rooms descriptors marks) = is_within 1 MAX_PLAY_ROOM descriptors && is_within 1 MAX_PLAY_ROOM marks
fits (Schedule (Turn worker turns)) = is_within 1 MAX_TURNS turns
fits _ = true

-- how far a text has come after a line, if that may stand there
-- `play ask`, `bits 3`, `held 9`, `work 1`, `rest` are a play; its first three lines alone are a bad line at line 4
unfoldable pub follow : TextStage → Saying → Option TextStage
follow AtStart (Play kind) = Some AfterPlay
follow AfterPlay (Bits bits) = Some AfterBits
follow AfterBits (Held keys) = Some AfterHeld
follow AfterHeld (Rooms descriptors marks) = Some AfterRooms
follow AfterHeld (Work keys) = Some AmongWork
follow AfterHeld (Share workers keys) = Some AmongSchedule
follow AfterRooms (Work keys) = Some AmongWork
follow AfterRooms (Share workers keys) = Some AmongSchedule
follow AmongWork (Work keys) = Some AmongWork
follow AmongWork (Schedule order) = Some AmongSchedule
follow AmongSchedule (Schedule order) = Some AmongSchedule
follow _ _ = None

-- how far a text has come, and what was said on the way
abbrev pub Way : Type 0
Way = TextStage × List Saying

unfoldable pub entered : Way → Saying → Result Way PlayTextKind
entered way said =
    if fits said then ok_or (follow way.0 said) BadLine >>= (λ stage. Ok (stage, way.1 ++ said ∷ []))
    else Err BadLine

abbrev pub entered_if_any : Way → Option Saying → Result Way PlayTextKind
entered_if_any way None = Ok way
entered_if_any way (Some said) = entered way said

unfoldable pub after_line : Way → List ℕ → Result Way PlayTextKind
after_line way line = said_in (without_return line) >>= entered_if_any way

-- ---- a text

abbrev pub play_grammar : Grammar Way PlayTextKind PlayTextFault
play_grammar = record {
  start = (AtStart, []);
  after_line = λ _. after_line;
  fault_at = λ number kind. record { line = number; kind = kind };
}

-- the lines of a text before that of this number have no fault
abbrev pub HasNoFaultBefore : ℕ → List ℕ → Type 0
HasNoFaultBefore = texts.NoFaultBefore play_grammar

-- a text may end among the lines of work and after them
unfoldable pub saying_ended : Way → Result (List Saying) PlayTextKind
saying_ended (AmongWork, said) = Ok said
saying_ended (AmongSchedule, said) = Ok said
saying_ended _ = Err BadLine

-- what the lines of a text say, in order
unfoldable pub sayings_of : List ℕ → Result (List Saying) PlayTextFault
sayings_of text =
    if nat_le (length text) MAX_TEXT_BYTES
    then read_by play_grammar text >>= (λ way. at_line play_grammar (length (lines_of text) + 1) (saying_ended way))
    else Err (record { line = 0; kind = TooLong })
