-- What a list whose file is known gives.
use Rattle.std.proofs.Common.{◌≡◌, ◌∙◌, ap, sym, subst, refl, ℕ, List, length, Option, Some, None, Result, Ok, Err}
use Rattle.std.proofs.lemmas.Bool.{eq-eqb}
use Rattle.rh_edit.specs.Held.{Held}
use Rattle.rh_key_files.specs.declared.fault.KeyFault.{KeyFault}
use Rattle.rh_key_files.specs.Source.{AllCome, Coming, ComesFrom, keys_of_file}
use Rattle.rh_key_files.proofs.Coming.{counts_its_keys}
use Rattle.rh_bytes.specs.Input.{◌>>=◌}
use Rattle.rh_ledger.specs.declared.tally.Kind.TheVariants.{Insert}
use Rattle.rh_ledger.specs.Phase.{set_after, tally_of}
use Rattle.rh_report.specs.declared.lines.Change.TheVariants.{Added}
use Rattle.rh_runner.specs.Lists.{Took}
use Rattle.rh_shelf.specs.Shelf.{Files}
use Rattle.rh_script.specs.declared.action.Action.{Action}
use Rattle.rh_script.specs.declared.action.Action.TheVariants.{Add, Drop, Keep, Flip, Ask}
use Rattle.rh_operations.specs.declared.cause.Cause.{Cause}
use Rattle.rh_operations.specs.declared.key_lists.KeyList.{KeyList}
use Rattle.rh_operations.specs.Actions.{Changed, CommandResult, made_of, means, room_for, table}
use Rattle.rh_operations.specs.Found.{count_again, count_or_cause, keys_found, keys_or_cause, still}
use Rattle.rh_operations.specs.KeyLists.{Gave, Opens, Stands, source_bytes}

pub gave : (files : Option Files) (list : KeyList) (bytes : Option (List ℕ)) (coming : Coming) (left : ℕ) (keys : List ℕ) → Opens files list.source bytes → ComesFrom bytes coming → Took coming left keys → left ≡ list.count → Gave files list keys
gave None list bytes coming left keys opens comes took noted = took.long ∙ noted
gave (Some files) list bytes coming left keys opens comes took noted =
    let known : ComesFrom (Some opens.0) coming = subst (λ b. ComesFrom b coming) opens.2 comes in
    let all : keys_of_file opens.0 ≡ Ok keys = subst (λ c. AllCome c keys) known took.came in
    (ap keys_found opens.1 ∙ ap keys_or_cause all, took.long ∙ noted)

-- a list whose file is known gives its keys
its_keys : (files : Option Files) (list : KeyList) (keys given : List ℕ) → Stands files list keys → Gave files list given → given ≡ keys
its_keys None list keys given stands gave = absurd stands
its_keys (Some files) list keys given stands gave =
    ap (λ (r : Result (List ℕ) Cause). elim r [ Ok k ↦ k | Err e ↦ given ]) (sym gave.0 ∙ stands.0)

-- so what is said of them is said of its keys
pub given : (P : List ℕ → Type 0) (files : Option Files) (list : KeyList) (keys : List ℕ) → Stands files list keys → (given : List ℕ) × Gave files list given × P given → P keys
given P files list keys stands (some, gave, said) = subst P (its_keys files list keys some stands gave) said

pub known_stands : (files : Option Files) (list : KeyList) (keys : List ℕ) → Stands files list keys → (known : Files) × (files ≡ Some known) × Stands (Some known) list keys
known_stands None list keys stands = absurd stands
known_stands (Some files) list keys stands = (files, refl, stands)

the_keys : (said : Result (List ℕ) KeyFault) (keys : List ℕ) → keys_or_cause said ≡ Ok keys → said ≡ Ok keys
the_keys (Ok k) keys h = ap (λ (r : Result (List ℕ) Cause). elim r [ Ok x ↦ Ok x | Err e ↦ Ok k ]) h
the_keys (Err e) keys h = absurd cc

pub still_noted : (noted count : ℕ) → count ≡ noted → still noted count ≡ Ok count
still_noted noted count is = rw (eq-eqb count noted is) refl

count_stands : (found : Option (List ℕ)) (keys : List ℕ) (noted : ℕ) → keys_found found ≡ Ok keys → length keys ≡ noted → count_again noted found ≡ Ok (length keys)
count_stands None keys noted is many = absurd cc
count_stands (Some bytes) keys noted is many =
    ap (λ r. r >>= still noted) (ap count_or_cause (counts_its_keys bytes keys (the_keys (keys_of_file bytes) keys is)))
    ∙ still_noted noted (length keys) many

-- ---- what is made of its keys

once : (r : Result ℕ Cause) (make : ℕ → CommandResult) → (r >>= (λ _. r >>= make)) ≡ (r >>= make)
once (Ok n) make = refl
once (Err e) make = refl

-- the size that is found before the keys come is the one that is found for them
room_first : (action : Action) (t : Held) (keys : List ℕ) → (room_for action t (length keys) >>= (λ _. means action t keys)) ≡ means action t keys
room_first Add t keys = once (room_for Add t (length keys)) (λ bits. Ok (table bits (set_after Insert t.keys keys), Changed (Added (tally_of Insert t.keys keys).added)))
room_first Drop t keys = refl
room_first Keep t keys = refl
room_first Flip t keys = refl
room_first Ask t keys = refl

pub made_again : (files : Files) (list : KeyList) (keys : List ℕ) (action : Action) (t : Held) → Stands (Some files) list keys → made_of action t list.count (source_bytes files list.source) ≡ means action t keys
made_again files list keys action t stands =
    let found = source_bytes files list.source in
    ap (λ r. (r >>= room_for action t) >>= (λ _. keys_found found >>= means action t)) (count_stands found keys list.count stands.0 stands.1)
    ∙ ap (λ r. room_for action t (length keys) >>= (λ _. r >>= means action t)) stands.0
    ∙ room_first action t keys
