-- What the laws of this crate say.
use Rattle.std.specs.Prelude.{◌≡◌, ◌≢◌, ℕ, ◌+◌, ◌^◌, ◌<◌, List, [], ◌∷◌, ◌++◌, length, slice_index, slice_index_or, take, Bool, false, IsTrue, count_by}
use Rattle.std.specs.List.{Contains}
use Rattle.std.specs.FinSet as set
use Rattle.std.specs.FinSet.{contains}
use Rattle.rh_layout.specs.Layout.{Keys, Layout}
use Rattle.rh_ledger.specs.declared.tally.Kind.{Kind}
use Rattle.rh_ledger.specs.declared.tally.Kind.TheVariants.{Insert, Ask}
use Rattle.rh_ledger.specs.Tally.{sum_of}
use Rattle.rh_ledger.specs.Phase.{set_after, tally_of, looked_up}
use Rattle.rh_acts.specs.Act.{Act, apply_act, apply_acts, Meets, AllMeet, changes}
use Rattle.rh_acts.specs.KeyActs.{IsInsertAct, IsRemoveAct, IsAbsenceAct, IsRemovalAct}
use Rattle.rh_acts.specs.Moments.{Grown, Shrunk}
use Rattle.rh_acts.specs.Done.{Kept, WereTrue, Does, KeyDone, IsDone}
use Rattle.rh_acts.specs.Workers.{Made, acts_of, own, AreOf, joined, piece, how_many, counted, sum_of_all, LeavesRoom}
use Rattle.rh_acts.specs.Shared.{IsSharedOut, pieces_at, AreSplit}

-- ---- one act, on a layout of S that it meets

abbrev pub InsertActPutsIn : Type 0
InsertActPutsIn = (b k : ℕ) (act : Act) (cells : List ℕ) (S : Keys) → IsInsertAct b k act → Layout cells b S → Meets act cells
    → set.len S + 1 < 2 ^ b → (contains S k ≡ false) × Layout (apply_act act cells) b (set.insert S k)

abbrev pub RemoveActTakesOut : Type 0
RemoveActTakesOut = (b k : ℕ) (act : Act) (cells : List ℕ) (S : Keys) → IsRemoveAct b k act → Layout cells b S → Meets act cells
    → IsTrue (contains S k) × Layout (apply_act act cells) b (set.remove S k)

abbrev pub AbsenceActChangesNothing : Type 0
AbsenceActChangesNothing = (b k : ℕ) (act : Act) (cells : List ℕ) (S : Keys) → IsAbsenceAct b k act → Layout cells b S → Meets act cells
    → (contains S k ≡ false) × (apply_act act cells ≡ cells)

-- an act that puts a key in or takes one out changes a cell, and one that shows that it is not there does not
abbrev pub AnswerIsChange : Type 0
AnswerIsChange = (kind : Kind) (b k : ℕ) (answer : Bool) (act : Act) → Does kind b k answer act → changes act ≡ answer

-- ---- lists of acts

-- All acts meet their old values if the n-th does, on the cells after the first n.
abbrev pub MeetOneByOne : Type 0
MeetOneByOne = (acts : List Act) (cells : List ℕ)
    → ((n : ℕ) → n < length acts → Meets (slice_index_or acts n []) (apply_acts (take n acts) cells)) → AllMeet acts cells

-- one act more, at the end
abbrev pub OneMoreAct : Type 0
OneMoreAct = (acts : List Act) (a : Act) (cells : List ℕ)
    → (apply_acts (acts ++ a ∷ []) cells ≡ apply_act a (apply_acts acts cells))
    × (AllMeet acts cells → Meets a (apply_acts acts cells) → AllMeet (acts ++ a ∷ []) cells)

-- it is its worker's, and no other's
abbrev pub OneMoreIsOwn : Type 0
OneMoreIsOwn = (made : List Made) (m : Made) (w : ℕ)
    → (m.worker ≡ w → own w (made ++ m ∷ []) ≡ own w made ++ m.act ∷ []) × (m.worker ≢ w → own w (made ++ m ∷ []) ≡ own w made)

-- what was true after some first n acts stays so
abbrev pub ReadsStayTrue : Type 0
ReadsStayTrue = (opening : List ℕ) (acts more : List Act) (reads : List Kept) → WereTrue opening acts reads → WereTrue opening (acts ++ more) reads

-- ---- a phase, finished or not, after its first n acts

abbrev pub InsertionsGrow : Type 0
InsertionsGrow = (b : ℕ) (opening : List ℕ) (S : Keys) (keys : List ℕ) (acts : List Act) → Layout opening b S → AllMeet acts opening
    → set.len (set_after Insert S keys) < 2 ^ b
    → ((a : Act) → Contains acts a → (k : ℕ) × Contains keys k × IsInsertAct b k a)
    → (n : ℕ) → (T : Keys) × Grown b (take n acts) opening S T

abbrev pub RemovalsShrink : Type 0
RemovalsShrink = (b : ℕ) (opening : List ℕ) (S : Keys) (acts : List Act) → Layout opening b S → AllMeet acts opening
    → ((a : Act) → Contains acts a → (k : ℕ) × IsRemovalAct b k a)
    → (n : ℕ) → (T : Keys) × Shrunk b (take n acts) opening S T

-- The acts so far are a phase over their keys, in the order of the acts: each key is done by an act, and none by a read.
abbrev pub ActsAreAPhase : Type 0
ActsAreAPhase = (kind : Kind) (b : ℕ) (opening : List ℕ) (S : Keys) (keys : List ℕ) (acts : List Act) → Layout opening b S → AllMeet acts opening
    → LeavesRoom kind b S keys → (answers : List Bool) → IsDone kind b [] keys acts answers
    → Layout (apply_acts acts opening) b (set_after kind S keys) × (counted kind answers ≡ tally_of kind S keys)

-- ---- a finished phase

-- What the workers make of their lists is what one worker makes of the joined lists: the layout of the same set, and the
-- same tally.
abbrev pub PhaseIsOfJoinedLists : Type 0
PhaseIsOfJoinedLists = (kind : Kind) (b : ℕ) (opening : List ℕ) (S : Keys) (pieces : List (List ℕ)) (made : List Made) (reads : List (List Kept)) (answers : List (List Bool))
    → Layout opening b S → AllMeet (acts_of made) opening → AreOf (length pieces) made → LeavesRoom kind b S (joined pieces)
    → ((w : ℕ) → w < length pieces → WereTrue opening (acts_of made) (piece reads w))
    → ((w : ℕ) → w < length pieces → IsDone kind b (piece reads w) (piece pieces w) (own w made) (piece answers w))
    → Layout (apply_acts (acts_of made) opening) b (set_after kind S (joined pieces))
    × (sum_of_all (λ w. counted kind (piece answers w)) (length pieces) ≡ tally_of kind S (joined pieces))

-- Where keys are asked for there is no act, and the answers are the look-ups.
abbrev pub AnswersAreLookUps : Type 0
AnswersAreLookUps = (b : ℕ) (opening : List ℕ) (S : Keys) (pieces : List (List ℕ)) (made : List Made) (reads : List (List Kept)) (answers : List (List Bool))
    → Layout opening b S → AreOf (length pieces) made
    → ((w : ℕ) → w < length pieces → WereTrue opening (acts_of made) (piece reads w))
    → ((w : ℕ) → w < length pieces → IsDone Ask b (piece reads w) (piece pieces w) (own w made) (piece answers w))
    → (made ≡ []) × ((w : ℕ) → w < length pieces → piece answers w ≡ looked_up S (piece pieces w))
    × (length answers ≡ length pieces → joined answers ≡ looked_up S (joined pieces))

-- ---- lists in rounds, and a shared list

abbrev pub RoundsAreOnePhase : Type 0
RoundsAreOnePhase = (kind : Kind) (S : Keys) (pieces first next : List (List ℕ)) → AreSplit pieces first next
    → (set_after kind (set_after kind S (joined first)) (joined next) ≡ set_after kind S (joined pieces))
    × (sum_of (tally_of kind S (joined first)) (tally_of kind (set_after kind S (joined first)) (joined next)) ≡ tally_of kind S (joined pieces))

-- The set and the tally of a list that is shared out are those of the list, and each of its look-ups has its position among
-- the answers of the worker that claimed it.
abbrev pub SharedListIsOneList : Type 0
SharedListIsOneList = (kind : Kind) (S : Keys) (keys : List ℕ) (claims : List (List ℕ)) → IsSharedOut (length keys) claims
    → (set_after kind S (joined (pieces_at keys claims)) ≡ set_after kind S keys)
    × (tally_of kind S (joined (pieces_at keys claims)) ≡ tally_of kind S keys)
    × ((w j : ℕ) → w < length claims → j < length (piece claims w)
    → slice_index_or (looked_up S (piece (pieces_at keys claims) w)) j false ≡ slice_index_or (looked_up S keys) (slice_index (piece claims w) j) false)

-- ---- how the lists of done keys grow

abbrev pub OneMoreIsDone : Type 0
OneMoreIsDone = (kind : Kind) (b : ℕ) (reads : List Kept) (keys : List ℕ) (k : ℕ) (acts first : List Act) (answers : List Bool) (so : Bool)
    → IsDone kind b reads keys acts answers → KeyDone kind b reads k first so
    → IsDone kind b reads (keys ++ k ∷ []) (acts ++ first) (answers ++ so ∷ [])

-- what is done by some reads is done by more
abbrev pub MoreIsRead : Type 0
MoreIsRead = (kind : Kind) (b : ℕ) (reads more : List Kept) (keys : List ℕ) (acts : List Act) (answers : List Bool)
    → ((r : Kept) → Contains reads r → Contains more r) → IsDone kind b reads keys acts answers → IsDone kind b more keys acts answers

-- ---- the answers of the keys that are done

-- Each key has an answer. Where keys are changed, as many answers are yes as there are acts that change a cell.
abbrev pub AnswersCountChanges : Type 0
AnswersCountChanges = (kind : Kind) (b : ℕ) (reads : List Kept) (keys : List ℕ) (acts : List Act) (answers : List Bool) → IsDone kind b reads keys acts answers
    → (length answers ≡ length keys) × (kind ≢ Ask → how_many answers ≡ count_by changes acts)
