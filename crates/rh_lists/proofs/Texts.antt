-- A text that is read block by block.
use Rattle.std.proofs.Common.{◌≡◌, ℕ, ◌+◌, ◌≤◌, ◌<◌, Bool, List, [], ◌++◌, length, Option, Some, None, Result, Ok, Err, inl, inr, refl, sym, ap, subst, ◌∙◌, arith, append_assoc, length-append}
use Rattle.std.specs.Prelude.{IsFalse, IsTrue, OnOk}
use Rattle.std.proofs.lemmas.Bool.{cases_Bool}
use Rattle.std.specs.Io.KnownBytes.{Consumes, IsAtEnd}
use Rattle.std.proofs.KnownBytes.{Consumes-trans}
use Rattle.rh_numbers.specs.Chunks.{ReadsTo}
use Rattle.rh_numbers.specs.declared.chunk.ChunkEnd.{ChunkEnd}
use Rattle.rh_numbers.specs.declared.chunk.ChunkEnd.TheVariants.{Open, Bad}
use Rattle.rh_numbers.specs.declared.fault.TextFault.{TextFault}
use Rattle.rh_numbers.specs.declared.line_so_far.LineSoFar.TheVariants.{Head}
use Rattle.rh_numbers.specs.Reading.{text_said}
use Rattle.rh_cutting.specs.declared.list.KeyList.{KeyList}
use Rattle.rh_lists.specs.declared.part.ListPart.{ListPart}
use Rattle.rh_cutting.specs.Pieces.{keys_in}
use Rattle.rh_lists.specs.Lists.{HasBytes, HasNoFault, TakesNoFault}
use Rattle.rh_lists.specs.Parts.{IsOpen, IsReadTo, TellsText, ReadsTextList, Refuses}

-- All that was read of what comes behind these bytes, but for the last block, is read to the text so far.
pub record Going (begun : List ℕ) (start now : Option (List ℕ)) (text : ListPart) (block : List ℕ) : Type 0 where
  pub before : List ℕ
  pub front : List ℕ
  pub taken : Consumes start now front
  pub whole : begun ++ front ≡ before ++ block
  pub read : IsReadTo Head before text

-- the first block came, and only what the text begins with is read
pub first_going : (begun : List ℕ) (start now : Option (List ℕ)) (text : ListPart) (block : List ℕ) → IsReadTo Head begun text → Consumes start now block → Going begun start now text block
first_going begun start now text block read comes = record { before = begun; front = block; taken = comes; whole = refl; read = read }

-- the block is read, and the next one comes behind it
pub going_on : (begun : List ℕ) (a b c : Option (List ℕ)) (block next : List ℕ) (text more : ListPart) → Going begun a b text block → Consumes b c next
    → ((before : List ℕ) → IsReadTo Head before text → IsReadTo Head (before ++ block) more) → Going begun a c more next
going_on begun a b c block next text more going comes step = record {
  before = going.before ++ block;
  front = going.front ++ next;
  taken = Consumes-trans a b c going.front next going.taken comes;
  whole = sym (append_assoc begun going.front next) ∙ ap (λ l. l ++ next) going.whole;
  read = step going.before going.read;
}

-- the block has the first fault
pub block_refused : (begun : List ℕ) (a b c : Option (List ℕ)) (block : List ℕ) (text : ListPart) (fault : TextFault) → Going begun a b text block
    → ((before rest : List ℕ) → IsReadTo Head before text → Refuses (text_said ((before ++ block) ++ rest)) fault) → ReadsTextList begun a c (Err fault)
block_refused begun None b c block text fault going stop = tt
block_refused begun (Some xs) None c block text fault going stop = absurd going.taken
block_refused begun (Some xs) (Some ys) c block text fault going stop =
    let whole : begun ++ xs ≡ (going.before ++ block) ++ ys = ap (λ l. begun ++ l) going.taken ∙ sym (append_assoc begun going.front ys) ∙ ap (λ l. l ++ ys) going.whole in
    subst (λ l. Refuses (text_said l) fault) (sym whole) (stop going.before ys going.read)

-- what the last bytes of a text are told to say, behind which nothing comes, or a read failed
abbrev pub TellsLast : ListPart → (last : List ℕ) → Bool → Result KeyList TextFault → Type 0
TellsLast text last failed r = (before rest : List ℕ) → IsReadTo Head before text → (IsFalse failed → rest ≡ []) → TellsText (text_said ((before ++ last) ++ rest)) r

known : (begun xs rest : List ℕ) (failed : Bool) (r : Result KeyList TextFault) → TellsText (text_said (begun ++ xs)) r → (IsFalse failed → rest ≡ []) → OnOk r (IsFalse failed) → ReadsTextList begun (Some xs) (Some rest) r
known begun xs rest failed (Ok keys) told end fine = (told, end fine)
known begun xs rest failed (Err fault) told end fine = told

pub last_read : (begun : List ℕ) (a b c : Option (List ℕ)) (block last : List ℕ) (text more : ListPart) (failed : Bool) (r : Result KeyList TextFault) → Going begun a b text block
    → Consumes b c last → (IsFalse failed → IsAtEnd c) → ((before : List ℕ) → IsReadTo Head before text → IsReadTo Head (before ++ block) more) → TellsLast more last failed r → OnOk r (IsFalse failed) → ReadsTextList begun a c r
last_read begun None b c block last text more failed r going comes end step told fine = tt
last_read begun (Some xs) None c block last text more failed r going comes end step told fine = absurd going.taken
last_read begun (Some xs) (Some ys) None block last text more failed r going comes end step told fine = absurd comes
last_read begun (Some xs) (Some ys) (Some zs) block last text more failed r going comes end step told fine =
    let whole : begun ++ xs ≡ ((going.before ++ block) ++ last) ++ zs =
    ap (λ l. begun ++ l) (going.taken ∙ ap (λ l. going.front ++ l) comes) ∙ sym (append_assoc begun going.front (last ++ zs)) ∙ ap (λ l. l ++ (last ++ zs)) going.whole ∙ sym (append_assoc (going.before ++ block) last zs) in
    known begun xs zs failed r (subst (λ l. TellsText (text_said l) r) (sym whole) (told (going.before ++ block) zs (step going.before going.read) end)) end fine

-- the first block is the last one
pub only_read : (begun : List ℕ) (a c : Option (List ℕ)) (last : List ℕ) (text : ListPart) (failed : Bool) (r : Result KeyList TextFault) → IsReadTo Head begun text
    → Consumes a c last → (IsFalse failed → IsAtEnd c) → TellsLast text last failed r → OnOk r (IsFalse failed) → ReadsTextList begun a c r
only_read begun None c last text failed r read comes end told fine = tt
only_read begun (Some xs) None last text failed r read comes end told fine = absurd comes
only_read begun (Some xs) (Some zs) last text failed r read comes end told fine =
    let whole : begun ++ xs ≡ (begun ++ last) ++ zs = ap (λ l. begun ++ l) comes ∙ sym (append_assoc begun last zs) in
    known begun xs zs failed r (subst (λ l. TellsText (text_said l) r) (sym whole) (told begun zs read end)) end fine

-- the first block came from the reader, as the others do
pub block_first : (begun : List ℕ) (a b c : Option (List ℕ)) (block : List ℕ) (r : Result KeyList TextFault) → Consumes a b block → ReadsTextList (begun ++ block) b c r → ReadsTextList begun a c r
block_first begun None b c block r comes read = tt
block_first begun (Some xs) None c block r comes read = absurd comes
block_first begun (Some xs) (Some ys) c block r comes read = moved c r read
  where
    whole : (begun ++ block) ++ ys ≡ begun ++ xs
    whole = append_assoc begun block ys ∙ ap (λ l. begun ++ l) (sym comes)

    moved : (c : Option (List ℕ)) (r : Result KeyList TextFault) → ReadsTextList (begun ++ block) (Some ys) c r → ReadsTextList begun (Some xs) c r
    moved None (Ok keys) h = absurd h
    moved (Some zs) (Ok keys) h = (ap text_said (sym whole) ∙ h.0, h.1)
    moved c (Err fault) h = subst (λ l. Refuses (text_said l) fault) whole h

-- ---- so many bytes were read

pub record Taken (start now : Option (List ℕ)) (passed : ℕ) : Type 0 where
  pub front : List ℕ
  pub taken : Consumes start now front
  pub many : length front ≡ passed

pub taken_on : (a b c : Option (List ℕ)) (passed : ℕ) (next : List ℕ) → Taken a b passed → Consumes b c next → (n : ℕ) → length next ≡ n → Taken a c (passed + n)
taken_on a b c passed next t comes n len = record {
  front = t.front ++ next;
  taken = Consumes-trans a b c t.front next t.taken comes;
  many = omega (arith, length-append t.front next, t.many, len);
}

pub long_taken : (a b : Option (List ℕ)) (passed n : ℕ) → Taken a b passed → n ≤ passed → HasBytes n a
long_taken None b passed n t many = tt
long_taken (Some xs) None passed n t many = absurd t.taken
long_taken (Some xs) (Some ys) passed n t many = omega (arith, t.many, many, ap length t.taken, length-append t.front ys)

-- what comes behind other bytes is no more than both
pub has_more : (n : ℕ) (a b : Option (List ℕ)) (front : List ℕ) → Consumes a b front → HasBytes n b → HasBytes n a
has_more n None b front comes has = tt
has_more n (Some xs) None front comes has = absurd comes
has_more n (Some xs) (Some ys) front comes has = omega (arith, has, ap length comes, length-append front ys)

-- a buffer that is full was filled with no failure
pub not_failed : (failed : Bool) (count size : ℕ) → (IsTrue failed → count < size) → size ≤ count → IsFalse failed
not_failed failed count size early full =
    elim (cases_Bool failed) [
      | inl t ↦ absurd (omega (arith, early t, full))
      | inr f ↦ f
    ]

-- ---- a failed read behind good lines

no_bad_line : (bytes keys : List ℕ) (lines : ℕ) (end : ChunkEnd) → IsOpen end → ReadsTo Head bytes keys lines end → HasNoFault bytes
no_bad_line bytes keys lines (Open so_far) good read = (keys, (1 + lines, so_far, λ rest. read [] 1 rest))
no_bad_line bytes keys lines (Bad bad) good read = absurd good

pub no_fault : (bytes : List ℕ) (part : ListPart) → IsOpen part.end → IsReadTo Head bytes part → HasNoFault bytes
no_fault bytes part good read = no_bad_line bytes (keys_in part.keys) part.lines part.end good read

-- the last bytes before a failed read hold none
abbrev pub TestsLast : ListPart → (last : List ℕ) → Type 0
TestsLast text last = (before : List ℕ) → IsReadTo Head before text → HasNoFault (before ++ last)

pub last_tested : (begun : List ℕ) (a b c : Option (List ℕ)) (block last : List ℕ) (text more : ListPart) → Going begun a b text block → Consumes b c last
    → ((before : List ℕ) → IsReadTo Head before text → IsReadTo Head (before ++ block) more) → TestsLast more last → TakesNoFault begun a c
last_tested begun a b c block last text more going comes step tests =
    let whole : (going.before ++ block) ++ last ≡ begun ++ (going.front ++ last) = ap (λ l. l ++ last) (sym going.whole) ∙ append_assoc begun going.front last in
    (going.front ++ last, Consumes-trans a b c going.front last going.taken comes, subst HasNoFault whole (tests (going.before ++ block) (step going.before going.read)))

pub only_tested : (begun : List ℕ) (a c : Option (List ℕ)) (last : List ℕ) (text : ListPart) → IsReadTo Head begun text → Consumes a c last → TestsLast text last → TakesNoFault begun a c
only_tested begun a c last text read comes tests = (last, comes, tests begun read)

pub first_tested : (begun : List ℕ) (a b c : Option (List ℕ)) (block : List ℕ) → Consumes a b block → TakesNoFault (begun ++ block) b c → TakesNoFault begun a c
first_tested begun a b c block comes (taken, later, good) = (block ++ taken, Consumes-trans a b c block taken comes later, subst HasNoFault (append_assoc begun block taken) good)
