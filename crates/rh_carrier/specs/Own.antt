-- What a worker knows of its own descriptors, and that it owes nothing.
use Rattle.std.specs.Prelude.{suc, ◌≡◌, ℕ, ◌<◌, Option, Some, None, List, [], ◌∷◌, length}
use Rattle.rh_world.specs.World.{In}
use Rattle.rh_world.specs.Facts.Fact.{known, size_is, target_is, old_is, new_is}
use Rattle.rh_words.specs.View.{OwnDesc, View, own_ref}
use Rattle.rh_words.specs.Steps.{entry_of, row_word}

-- all that the rows of an own descriptor say is noted
pub record IsAllNoted (v : View) (o : OwnDesc) : Type 0 where
  pub known : In (known (own_ref v o.number)) v.side.facts
  pub size : In (size_is (own_ref v o.number) (length o.entries)) v.side.facts
  pub cells : (e : ℕ) → e < length o.entries → In (target_is (own_ref v o.number) e (entry_of o.entries e).cell) v.side.facts
  pub olds : (e : ℕ) → e < length o.entries → In (old_is (own_ref v o.number) e (entry_of o.entries e).old) v.side.facts
  pub news : (e : ℕ) → e < length o.entries → In (new_is (own_ref v o.number) e (entry_of o.entries e).new) v.side.facts

-- this own descriptor is the newest
abbrev pub IsNewestOwn : List OwnDesc → OwnDesc → Type 0
IsNewestOwn [] d = ⊥
IsNewestOwn (o ∷ os) d = o ≡ d

abbrev pub IsOpenOf : List OwnDesc → Option OwnDesc → Type 0
IsOpenOf opened None = Unit {0}
IsOpenOf opened (Some d) = IsNewestOwn opened d

abbrev pub open_number : Option OwnDesc → Option ℕ
open_number None = None
open_number (Some d) = Some d.number

-- what a worker knows of its descriptors, of which this one is open: it is the newest
pub record Owns (v : View) (opens : Option OwnDesc) : Type 0 where
  pub current : v.side.current ≡ open_number opens
  pub newest : IsOpenOf v.opened opens
  pub noted : (o : OwnDesc) → In o v.opened → IsAllNoted v o
  pub last : (n : ℕ) → v.side.current ≡ Some n → suc n ≡ v.next_number

-- and that its row is still of the newest one
pub record KnowsOwn (v : View) (opens : Option OwnDesc) : Type 0 where
  pub owns : Owns v opens
  pub open owns use *
  pub row : (n : ℕ) → suc n ≡ v.next_number → row_word v.written 1 ≡ n

-- no mark of it is unsettled, it owes no cell, and no entry of its open descriptor is released
pub record OwesNothing (v : View) : Type 0 where
  pub settled : v.side.unsettled ≡ None
  pub paid : v.side.debts ≡ []
  pub unreleased : v.side.released ≡ []

-- no own descriptor is open, and nothing is owed
pub record IsClear (v : View) : Type 0 where
  pub own : KnowsOwn v None
  pub owes : OwesNothing v
