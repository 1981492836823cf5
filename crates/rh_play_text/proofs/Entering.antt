-- A line more of a draft.
use Rattle.std.proofs.Common.{◌≡◌, ◌∙◌, ap, sym, refl, ℕ, ◌≤◌, Vec, true, false, List, [], ◌∷◌, ◌++◌, map, Some, None, Result, Ok, Err, IsTrue, inl, inr, append_assoc, append-nil, arith}
use Rattle.std.specs.Global.{Global}
use Rattle.std.proofs.lemmas.Bool.{cases_Bool}
use Rattle.std.proofs.lemmas.Bool.Decides.{nat_tests}
use Rattle.std.proofs.lemmas.List.{map-append}
use Rattle.rh_ledger.specs.declared.tally.Kind.{Kind}
use Rattle.rh_play_text.specs.declared.draft.Table.{Table}
use Rattle.rh_play_text.specs.declared.fault.PlayTextKind.{PlayTextKind}
use Rattle.rh_play_text.specs.declared.fault.PlayTextKind.TheVariants.{BadLine}
use Rattle.rh_play_text.specs.declared.limits.TheConstants.{MIN_BITS, MAX_BITS, MAX_PLAY_ROOM}
use Rattle.rh_play_text.specs.declared.line.TextLine.{TextLine}
use Rattle.rh_play_text.specs.declared.line.TextLine.TheVariants as lines
use Rattle.rh_play_text.specs.declared.play.Play as plays
use Rattle.rh_play_text.specs.declared.play.Work.TheVariants as work
use Rattle.rh_play_text.specs.declared.schedule.Order.{Order}
use Rattle.rh_play_text.specs.Saying.{Saying, Play, Bits, Held, Work, Share, Schedule, TextStage, AtStart, AfterPlay, AfterBits, AfterHeld, AfterRooms, AmongWork, AmongSchedule}
use Rattle.rh_play_text.specs.Grammar.{Way, entered, fits, follow}
use Rattle.rh_play_text.specs.Play.{rooms_said, said_of, saying_as, table_said, with_work, work_said}

-- ---- a line that may stand there, or not

abbrev To : TextStage → List Saying → Result Way PlayTextKind
To stage said = Ok (stage, said)

pub goes : (way : Way) (line : TextLine) (said : Saying) (stage : TextStage) (more : List Saying) → IsTrue (fits (saying_as line)) → saying_as line ≡ said → follow way.0 said ≡ Some stage → way.1 ++ said ∷ [] ≡ more → entered way (saying_as line) ≡ Ok (stage, more)
unfolding entered
goes way line said stage more fit is next same =
    let fits_too : fits said ≡ true = rw is at fit in
    rw (is, fits_too, next) (ap (To stage) same)

pub stays : (way : Way) (said : Saying) → follow way.0 said ≡ None → entered way said ≡ Err BadLine
unfolding entered
stays way said none =
    elim (cases_Bool (fits said)) [
      | inl fit ↦ rw (fit, none) refl
      | inr out ↦ rw out refl
    ]

pub out_of_range : (way : Way) (said : Saying) → fits said ≡ false → entered way said ≡ Err BadLine
unfolding entered
out_of_range way said out = rw out refl

-- ---- the lines that may not

pub not_first : (line : TextLine) → ((kind : Kind) → line ≡ lines.Play kind → ⊥) → follow AtStart (saying_as line) ≡ None
unfolding follow
not_first (lines.Play k) not_play = absurd (not_play k refl)
not_first _ not_play = refl

pub not_sized : (line : TextLine) → ((bits : ℕ) → line ≡ lines.Bits bits → ⊥) → follow AfterPlay (saying_as line) ≡ None
unfolding follow
not_sized (lines.Bits b) not_bits = absurd (not_bits b refl)
not_sized _ not_bits = refl

pub not_filled : (line : TextLine) → ((keys : Vec ℕ Global) → line ≡ lines.Held keys → ⊥) → follow AfterBits (saying_as line) ≡ None
unfolding follow
not_filled (lines.Held v) not_held = absurd (not_held v refl)
not_filled _ not_held = refl

pub not_begun : (line : TextLine) → ((keys : Vec ℕ Global) → line ≡ lines.Work keys → ⊥) → ((workers : ℕ) (keys : Vec ℕ Global) → line ≡ lines.Share workers keys → ⊥) → follow AfterRooms (saying_as line) ≡ None
unfolding follow
not_begun (lines.Work v) not_work not_share = absurd (not_work v refl)
not_begun (lines.Share w v) not_work not_share = absurd (not_share w v refl)
not_begun _ not_work not_share = refl

pub not_worked : (line : TextLine) → ((keys : Vec ℕ Global) → line ≡ lines.Work keys → ⊥) → ((order : Order) → line ≡ lines.Schedule order → ⊥) → follow AmongWork (saying_as line) ≡ None
unfolding follow
not_worked (lines.Work v) not_work not_schedule = absurd (not_work v refl)
not_worked (lines.Schedule o) not_work not_schedule = absurd (not_schedule o refl)
not_worked _ not_work not_schedule = refl

pub not_scheduled : (line : TextLine) → ((order : Order) → line ≡ lines.Schedule order → ⊥) → follow AmongSchedule (saying_as line) ≡ None
unfolding follow
not_scheduled (lines.Schedule o) not_schedule = absurd (not_schedule o refl)
not_scheduled _ not_schedule = refl

-- without rooms the line is read as after them
pub no_rooms : (line : TextLine) → ((descriptors marks : ℕ) → line ≡ lines.Rooms descriptors marks → ⊥) → follow AfterHeld (saying_as line) ≡ follow AfterRooms (saying_as line)
unfolding follow
no_rooms (lines.Rooms e m) not_rooms = absurd (not_rooms e m refl)
no_rooms _ not_rooms = refl

pub entered_alike : (stage other : TextStage) (said : List Saying) (line : Saying) → follow stage line ≡ follow other line → entered (stage, said) line ≡ entered (other, said) line
unfolding entered
entered_alike stage other said line same = rw same refl

-- ---- ranges

pub bits_fit : (line : TextLine) (bits : ℕ) → IsTrue (fits (saying_as line)) → line ≡ lines.Bits bits → (MIN_BITS ≤ bits) × (bits ≤ MAX_BITS)
unfolding fits
bits_fit (lines.Bits b) bits fit is = grind (arith, nat_tests)
bits_fit _ bits fit is = absurd cc

pub rooms_fit : (line : TextLine) (descriptors marks : ℕ) → IsTrue (fits (saying_as line)) → line ≡ lines.Rooms descriptors marks → (1 ≤ descriptors) × (descriptors ≤ MAX_PLAY_ROOM) × (1 ≤ marks) × (marks ≤ MAX_PLAY_ROOM)
unfolding fits
rooms_fit (lines.Rooms e m) descriptors marks fit is = grind (arith, nat_tests)
rooms_fit _ descriptors marks fit is = absurd cc

-- ---- what was said, and a line more

mapped_more : {A : Type 0} (f : A → Saying) (said : List Saying) (before after : List A) (x : A) → after ≡ before ++ x ∷ [] → (said ++ map f before) ++ f x ∷ [] ≡ said ++ map f after
mapped_more f said before after x is =
    append_assoc said (map f before) (f x ∷ []) ∙ ap (λ more. said ++ more) (sym (map-append f before (x ∷ [])))
    ∙ ap (λ all. said ++ map f all) (sym is)

abbrev piece_said : Vec ℕ Global → Saying
piece_said piece = Work piece.items

pub first_piece : (table : Table) (line : TextLine) (keys : Vec ℕ Global) (pieces : List (Vec ℕ Global)) → IsTrue (fits (saying_as line)) → line ≡ lines.Work keys → pieces ≡ keys ∷ [] → entered (AfterRooms, table_said table) (saying_as line) ≡ Ok (AmongWork, table_said table ++ map piece_said pieces)
unfolding follow
first_piece table line keys pieces fit is one =
    goes (AfterRooms, table_said table) line (Work keys.items) AmongWork _ fit (ap saying_as is) refl (ap (λ all. table_said table ++ map piece_said all) (sym one))

pub shared_work : (table : Table) (line : TextLine) (workers : ℕ) (keys : Vec ℕ Global) (schedule : Vec Order Global) (play : plays.Play) → IsTrue (fits (saying_as line)) → line ≡ lines.Share workers keys → schedule.items ≡ [] → play ≡ with_work table (work.Share workers keys) schedule → entered (AfterRooms, table_said table) (saying_as line) ≡ Ok (AmongSchedule, said_of play)
unfolding follow
shared_work table line workers keys schedule play fit is none made =
    goes (AfterRooms, table_said table) line (Share workers keys.items) AmongSchedule _ fit (ap saying_as is) refl
    (sym (ap said_of made ∙ ap (λ all. (table_said table ++ Share workers keys.items ∷ []) ++ map Schedule all) none ∙ append-nil (table_said table ++ Share workers keys.items ∷ [])))

pub one_more_piece : (table : Table) (line : TextLine) (keys : Vec ℕ Global) (before after : List (Vec ℕ Global)) → IsTrue (fits (saying_as line)) → line ≡ lines.Work keys → after ≡ before ++ keys ∷ [] → entered (AmongWork, table_said table ++ map piece_said before) (saying_as line) ≡ Ok (AmongWork, table_said table ++ map piece_said after)
unfolding follow
one_more_piece table line keys before after fit is more =
    goes (AmongWork, table_said table ++ map piece_said before) line (Work keys.items) AmongWork _ fit (ap saying_as is) refl (mapped_more piece_said (table_said table) before after keys more)

pub first_order : (table : Table) (line : TextLine) (order : Order) (pieces : Vec (Vec ℕ Global) Global) (schedule : Vec Order Global) (play : plays.Play) → IsTrue (fits (saying_as line)) → line ≡ lines.Schedule order → schedule.items ≡ order ∷ [] → play ≡ with_work table (work.Pieces pieces) schedule → entered (AmongWork, table_said table ++ map piece_said pieces.items) (saying_as line) ≡ Ok (AmongSchedule, said_of play)
unfolding follow
first_order table line order pieces schedule play fit is one made =
    goes (AmongWork, table_said table ++ map piece_said pieces.items) line (Schedule order) AmongSchedule _ fit (ap saying_as is) refl
    (sym (ap said_of made ∙ ap (λ all. (table_said table ++ map piece_said pieces.items) ++ map Schedule all) one))

-- the lines before the schedule
abbrev before_orders : plays.Play → List Saying
before_orders play =
    Play play.kind ∷ Bits play.bits.value ∷ Held play.held.items ∷ rooms_said play.rooms ++ work_said play.work

pub one_more_order : (play : plays.Play) (line : TextLine) (order : Order) (schedule : Vec Order Global) → IsTrue (fits (saying_as line)) → line ≡ lines.Schedule order → schedule.items ≡ play.schedule.items ++ order ∷ [] → entered (AmongSchedule, said_of play) (saying_as line) ≡ Ok (AmongSchedule, said_of (record play { schedule = schedule }))
unfolding follow
one_more_order play line order schedule fit is more =
    goes (AmongSchedule, said_of play) line (Schedule order) AmongSchedule _ fit (ap saying_as is) refl
    (mapped_more Schedule (before_orders play) play.schedule.items schedule.items order more)
