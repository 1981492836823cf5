-- Two readings of the same bytes.
use Rattle.std.proofs.Common.{◌≡◌, ℕ, true, List, Option, Some, None, Result, Ok, Err, inl, inr, sym, ◌∙◌}
use Rattle.std.proofs.lemmas.Bool.{cases_Bool}
use Rattle.rh_bytes.proofs.Parsed.{same_value}
use Rattle.rh_lists.specs.declared.fault.ListFault.{ListFault}
use Rattle.rh_cutting.specs.declared.list.KeyList.{KeyList}
use Rattle.rh_cutting.specs.Pieces.{keys_in}
use Rattle.rh_lists.specs.Lists.{Agree, ReadsKeyList, is_list_silent, list_said}

abbrev Told : Type 0
Told = Result (List ℕ × List ℕ) ListFault

not_both : (r : Told) (keys : List ℕ × List ℕ) (fault : ListFault) → r ≡ Ok keys → r ≡ Err fault → ⊥
not_both r keys fault p q = cc

same_fault : (r : Told) (e f : ListFault) → r ≡ Err e → r ≡ Err f → e ≡ f
same_fault r e f p q = cc

-- keys were said, and a fault is told, which says nothing of them
told_silently : (bytes : List ℕ) (keys : List ℕ × List ℕ) (left : Option (List ℕ)) (fault : ListFault) → list_said bytes ≡ Ok keys → ReadsKeyList (Some bytes) left (Err fault) → is_list_silent fault ≡ true
told_silently bytes keys left fault said read =
    elim (cases_Bool (is_list_silent fault)) [
      | inl quiet ↦ quiet
      | inr says ↦ absurd (not_both (list_said bytes) keys fault said (rw says at read))
    ]

pub agree : (bytes : List ℕ) (left rest : Option (List ℕ)) (first second : Result KeyList ListFault) → ReadsKeyList (Some bytes) left first → ReadsKeyList (Some bytes) rest second → Agree first second
agree bytes None rest (Ok a) second p q = absurd p
agree bytes (Some xs) None (Ok a) (Ok b) p q = absurd q
agree bytes (Some xs) (Some ys) (Ok a) (Ok b) p q = same_value (keys_in a, xs) (keys_in b, ys) (sym p ∙ q)
agree bytes (Some xs) rest (Ok a) (Err e) p q = told_silently bytes (keys_in a, xs) rest e p q
agree bytes left None (Err e) (Ok b) p q = absurd q
agree bytes left (Some ys) (Err e) (Ok b) p q = told_silently bytes (keys_in b, ys) left e q p
agree bytes left rest (Err e) (Err f) p q =
    elim (cases_Bool (is_list_silent e)) [
      | inl quiet ↦ rw quiet tt
      | inr says ↦
          elim (cases_Bool (is_list_silent f)) [
            | inl quiet ↦ rw (says, quiet) tt
            | inr too ↦ rw (says, too) (same_fault (list_said bytes) e f (rw says at p) (rw too at q))
          ]
    ]
