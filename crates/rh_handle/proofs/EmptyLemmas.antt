-- The empty set that a handle with none stands for.
use Rattle.std.proofs.Common.{◌≡◌, ℕ, ◌∙◌, sym, ap, false}
use Rattle.std.specs.Prelude.{Option, None}
use Rattle.std.specs.Ordering.{nat_cmp}
use Rattle.std.specs.FinSet as set
use Rattle.std.specs.FinSet.{contains, contains-empty}
use Rattle.rh_layout.specs.Key.{IsKey}
use Rattle.rh_layout.specs.Layout.{Keys}
use Rattle.rh_layout.proofs.SetLemmas.{same_keys, out_cases}
use Rattle.rh_edit.specs.Held.{Held}
use Rattle.rh_set.specs.Inserting.{IsNew}
use Rattle.rh_handle.specs.Holding.{set_in}

pub lacks : (x : Option Held) (k : ℕ) → None ≡ x → false ≡ contains (set_in x).keys k
lacks x k none = sym (ap (λ y. contains (set_in y).keys k) (sym none) ∙ contains-empty nat_cmp k)

pub has_none : (x : Option Held) → None ≡ x → 0 ≡ set.len (set_in x).keys
has_none x none = sym (ap (λ y. set.len (set_in y).keys) (sym none) ∙ set.len-empty nat_cmp)

pub stays_empty : (x y : Option Held) (k : ℕ) → None ≡ x → y ≡ None → (set_in y).keys ≡ set.remove (set_in x).keys k
stays_empty x y k none left =
    let S : Keys = (set_in x).keys in
    ap (λ z. (set_in z).keys) (left ∙ none)
    ∙ same_keys S (set.remove S k)
    (λ q has. let no = lacks x q none in (cc))
    (λ q has. (out_cases S k q has).1)

pub is_new : (x : Option Held) (k : ℕ) → IsKey k → None ≡ x → IsNew (set_in x) k
is_new x k key none = record { key = key; absent = sym (lacks x k none) }
