-- Keys that come batch by batch, and the phases over them.
use Rattle.std.proofs.Common.{◌≡◌, ◌≢◌, ℕ, zero, suc, ◌+◌, ◌^◌, ◌<◌, ◌≤◌, refl, sym, ap, ◌∙◌, arith, Bool, true, false, cond, List, [], ◌∷◌, ◌++◌, length, take, append_assoc, length-append, length-take}
use Rattle.std.proofs.lemmas.List.{map-append}
use Rattle.std.specs.Prelude.{All, Some, None, Result, Ok, Err}
use Rattle.std.specs.FinSet as set
use Rattle.std.specs.FinSet.{contains}
use Rattle.std.proofs.lemmas.List.Elements.{All-append, All-nil}
use Rattle.rh_layout.specs.Key.{IsKey}
use Rattle.rh_layout.specs.Layout.{Keys, keys_of}
use Rattle.rh_key_files.specs.declared.fault.KeyFault.{KeyFault}
use Rattle.rh_key_files.specs.Source.{Coming, keys_then, Gives}
use Rattle.rh_ledger.specs.declared.tally.Kind.{Kind}
use Rattle.rh_ledger.specs.declared.tally.Kind.TheVariants.{Insert, Remove, Ask}
use Rattle.rh_ledger.specs.declared.tally.Tally.{Tally}
use Rattle.rh_ledger.specs.Tally.{sum_of, FitsTally}
use Rattle.rh_ledger.specs.Phase.{set_with, count_of, set_after, tally_of, looked_up, most_added}
use Rattle.rh_ledger.proofs.PhaseLemmas.{set_after-append, tally_of-append, len-insert_all}
use Rattle.rh_runner.specs.Lists.{Ran, may_add}
use Rattle.rh_runner.proofs.SingleLemmas.{len-remove_all}

-- ---- what came so far, and what is still to come

abbrev pub Ahead : Coming → List ℕ → Coming → Type 0
Ahead None done now = Unit {0}
Ahead (Some said) done None = ⊥
Ahead (Some said) done (Some rest) = said ≡ keys_then done rest

-- Of a list that had this many keys these came, and so many are left.
pub record Came (before now : Coming) (most left : ℕ) (done : List ℕ) : Type 0 where
  pub ahead : Ahead before done now
  pub long : length done + left ≡ most
  pub in_range : All IsKey done

keys_then-nil : (said : Result (List ℕ) KeyFault) → said ≡ keys_then [] said
keys_then-nil (Ok keys) = refl
keys_then-nil (Err e) = refl

keys_then-append : (xs ys : List ℕ) (said : Result (List ℕ) KeyFault) → keys_then xs (keys_then ys said) ≡ keys_then (xs ++ ys) said
keys_then-append xs ys (Ok keys) = ap Ok (sym (append_assoc xs ys keys))
keys_then-append xs ys (Err e) = refl

ahead_none : (now : Coming) → Ahead now [] now
ahead_none None = tt
ahead_none (Some said) = keys_then-nil said

ahead_more : (before now new : Coming) (done batch : List ℕ) (n : ℕ) → Ahead before done now → Gives now new batch (Ok n) → n ≢ 0 → Ahead before (done ++ take n batch) new
ahead_more None now new done batch n a g some = tt
ahead_more (Some said) None new done batch n a g some = absurd a
ahead_more (Some said) (Some rest) new done batch zero a g some = absurd (some refl)
ahead_more (Some said) (Some rest) None done batch (suc n) a g some = absurd g
ahead_more (Some said) (Some rest) (Some after) done batch (suc n) a g some =
    a ∙ ap (keys_then done) g ∙ keys_then-append done (take (suc n) batch) after

module _ {before now : Coming} {most left : ℕ} {done : List ℕ} (came : Came before now most left done) (new : Coming) (batch : List ℕ) where
  pub more_came : (rest n : ℕ) → Gives now new batch (Ok n) → n ≢ 0 → n ≤ length batch → left ≡ rest + n → All IsKey (take n batch) → Came before new most rest (done ++ take n batch)
  more_came rest n gives some inside less keys = record {
    ahead = ahead_more before now new done batch n came.ahead gives some;
    long = simp (length-append, length-take) (omega (arith, came.long));
    in_range = All-append IsKey done (take n batch) came.in_range keys;
  }

pub none_came : (now : Coming) (left : ℕ) → Came now now left left []
none_came now left = record { ahead = ahead_none now; long = omega arith; in_range = All-nil IsKey }

-- ---- a phase over a list, batch by batch

module _ {kind : Kind} {bits : ℕ} {done old mid : List ℕ} {t : Tally} (ran : Ran kind bits done old mid t) where
  pub more_ran : {batch new : List ℕ} {made : Tally} → Ran kind bits batch mid new made → Ran kind bits (done ++ batch) old new (sum_of t made)
  more_ran {batch} {new} {made} next = record {
    layout = next.layout;
    held = next.held ∙ ap (λ (S : Keys). set_after kind S batch) ran.held ∙ sym (set_after-append kind (keys_of old) done batch);
    tally =
        ap (sum_of t) (next.tally ∙ ap (λ (S : Keys). tally_of kind S batch) ran.held)
        ∙ ap (λ (r : Tally). sum_of r (tally_of kind (set_after kind (keys_of old) done) batch)) ran.tally
        ∙ sym (tally_of-append kind (keys_of old) done batch);
  }

pub inserted-le : {bits : ℕ} {keys old new : List ℕ} {t : Tally} → Ran Insert bits keys old new t → set.len (keys_of new) ≤ set.len (keys_of old) + length keys
inserted-le {bits} {keys} {old} ran = rw ran.held (len-insert_all (keys_of old) keys)

pub removed-le : {bits : ℕ} {keys old new : List ℕ} {t : Tally} → Ran Remove bits keys old new t → set.len (keys_of new) ≤ set.len (keys_of old)
removed-le {bits} {keys} {old} ran = rw ran.held (len-remove_all (keys_of old) keys)

pub room_left : {kind : Kind} {bits : ℕ} {keys old new : List ℕ} {t : Tally} → Ran kind bits keys old new t → (most : ℕ) (batch : List ℕ) → kind ≢ Ask → set.len (keys_of old) + may_add kind most < 2 ^ bits → length keys + length batch ≤ most → set.len (keys_of new) + most_added kind batch < 2 ^ bits
room_left {kind = Insert} ran most batch change room few = omega (arith, inserted-le ran)
room_left {kind = Remove} ran most batch change room few = omega (arith, removed-le ran)
room_left {kind = Ask} ran most batch change room few = absurd (change refl)

pub look_ups_more : (S : Keys) (done batch : List ℕ) (found answers more : List Bool) → found ≡ looked_up S done → answers ≡ looked_up S batch → more ≡ found ++ answers → more ≡ looked_up S (done ++ batch)
look_ups_more S done batch found answers more so_far next joined =
    joined
    ∙ ap (λ (l : List Bool). l ++ answers) so_far
    ∙ ap (λ (l : List Bool). looked_up S done ++ l) next
    ∙ sym (map-append (contains S) done batch)

-- ---- no count is greater than the number of keys

cond-le_one : (b : Bool) → (cond b 1 0 ≤ 1) × (cond b 0 1 ≤ 1)
cond-le_one true = (omega arith, omega arith)
cond-le_one false = (omega arith, omega arith)

abbrev AtMost : ℕ → Tally → Type 0
AtMost n t = (t.read ≤ n) × (t.added ≤ n) × (t.removed ≤ n) × (t.found ≤ n)

count-at_most : (kind : Kind) (S : Keys) (k : ℕ) → AtMost 1 (count_of kind S k)
count-at_most Insert S k = let h = cond-le_one (contains S k) in (omega arith, h.1, omega arith, omega arith)
count-at_most Remove S k = let h = cond-le_one (contains S k) in (omega arith, omega arith, h.0, omega arith)
count-at_most Ask S k = let h = cond-le_one (contains S k) in (omega arith, omega arith, omega arith, h.0)

tally-at_most : (kind : Kind) (S : Keys) (keys : List ℕ) → AtMost (length keys) (tally_of kind S keys)
tally-at_most kind S [] = (omega arith, omega arith, omega arith, omega arith)
tally-at_most kind S (k ∷ keys) =
    let h = count-at_most kind S k in
    let t = tally-at_most kind (set_with kind S k) keys in
    (omega (arith, h.0, t.0), omega (arith, h.1, t.1), omega (arith, h.2, t.2), omega (arith, h.3, t.3))

pub tally_fits : {kind : Kind} {bits : ℕ} {keys old new : List ℕ} {t : Tally} → Ran kind bits keys old new t → length keys < 2 ^ 64 → FitsTally t
tally_fits {kind} {bits} {keys} {old} ran few =
    let h = tally-at_most kind (keys_of old) keys in
    rw ran.tally (omega (arith, h.0), omega (arith, h.1), omega (arith, h.2), omega (arith, h.3))
