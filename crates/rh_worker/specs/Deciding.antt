-- What the cells from a key's home on lead to, and the entries of the key's act.
use Rattle.std.specs.Prelude.{◌≡◌, ℕ, ◌^◌, ◌<◌, ◌≤◌, ◌⊎◌, Bool, true, false, List, length, take}
use Rattle.std.specs.List.{Contains}
use Rattle.rh_tagword.specs.Word.{IsValue, plain_number}
use Rattle.rh_probe.specs.Look.{Finds}
use Rattle.rh_probe.specs.declared.answer.Look.TheVariants as look
use Rattle.rh_ledger.specs.declared.tally.Kind.{Kind}
use Rattle.rh_ledger.specs.declared.tally.Kind.TheVariants.{Insert, Remove, Ask}
use Rattle.rh_acts.specs.Done.{Does}
use Rattle.rh_layout.specs.declared.entry.Entry.{Entry}
use Rattle.rh_acts.specs.declared.answer.Insertion.TheVariants as insertion
use Rattle.rh_acts.specs.declared.answer.Removal.{Removal}
use Rattle.rh_acts.specs.declared.answer.Removal.TheVariants as removal
use Rattle.rh_acts.specs.Decision.{Inserts, Removes}
use Rattle.rh_words.specs.Words.{IsPlain}
use Rattle.rh_order.specs.History.{act_of}
use Rattle.rh_worker.specs.declared.stage.Plan.{Plan}
use Rattle.rh_worker.specs.declared.deciding.Decision.{Decision}
use Rattle.rh_worker.specs.declared.deciding.Decision.TheVariants.{Done, More, Acts}

-- an entry of values, with the words that say them
abbrev pub worded : Entry → Entry
worded e = record { cell = e.cell; old = plain_number e.old; new = plain_number e.new }

-- the values of the entries are values of cells
abbrev pub AreValued : List Entry → Type 0
AreValued act = (e : Entry) → Contains act e → IsValue e.old × IsValue e.new

-- the entries are of cells of the table, and their words are plain words
abbrev pub AreFit : (b : ℕ) → List Entry → Type 0
AreFit b entries = (e : Entry) → Contains entries e → (e.cell < 2 ^ b) × IsPlain e.old × IsPlain e.new

-- the first of the entries are those of a descriptor whose act is planned for the key
pub record IsPlan (kind : Kind) (b k : ℕ) (entries : List Entry) (p : Plan) : Type 0 where
  pub some : 0 < p.entries
  pub within : p.entries ≤ length entries
  pub act : Does kind b k p.changes (act_of (take p.entries entries))
  pub fit : AreFit b (take p.entries entries)

-- The key is done by what was seen, with this answer: it is to be inserted and is there, or it is asked for and its place
-- is seen. It is never removed without an act.
abbrev pub IsDoneBy : Kind → (b k : ℕ) → (seen : List ℕ) → (answer : Bool) → Type 0
IsDoneBy Insert b k seen answer = (answer ≡ false) × ((i : ℕ) × Finds b k seen (look.Here i))
IsDoneBy Remove b k seen answer = ⊥
IsDoneBy Ask b k seen answer =
    ((answer ≡ true) × ((i : ℕ) × Finds b k seen (look.Here i))) ⊎ ((answer ≡ false) × ((i : ℕ) × Finds b k seen (look.Goes i)))

-- a removal with so many entries, that changes a cell or does not
abbrev pub removal_of : (changes : Bool) (entries : ℕ) → Removal
removal_of true n = removal.TakesOut n
removal_of false n = removal.ShowsAbsent n

-- what was seen asks for the planned act
abbrev pub IsAskedBy : Kind → (b k : ℕ) → (seen : List ℕ) → (entries : List Entry) → Plan → Type 0
IsAskedBy Insert b k seen entries p = Inserts b k seen (act_of entries) (insertion.PutsIn p.entries)
IsAskedBy Remove b k seen entries p = Removes b k seen (act_of entries) (removal_of p.changes p.entries)
IsAskedBy Ask b k seen entries p = ⊥

-- what was seen leaves it open
abbrev pub IsLeftOpenBy : Kind → (b k : ℕ) → (seen : List ℕ) → (entries : List Entry) → Type 0
IsLeftOpenBy Insert b k seen entries = Inserts b k seen entries insertion.More
IsLeftOpenBy Remove b k seen entries = Removes b k seen entries removal.More
IsLeftOpenBy Ask b k seen entries = Finds b k seen look.More

abbrev pub Decides : Kind → (b k : ℕ) → (seen : List ℕ) → (entries : List Entry) → Decision → Type 0
Decides kind b k seen entries (Done answer) = IsDoneBy kind b k seen answer
Decides kind b k seen entries (Acts p) = IsPlan kind b k entries p × IsAskedBy kind b k seen entries p
Decides kind b k seen entries More = IsLeftOpenBy kind b k seen entries
