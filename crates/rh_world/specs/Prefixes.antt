-- The third part of the rule: what a worker's failed descriptors and kept reads say of the acts. Each has its own
-- number of acts, its prefix, and along one worker's events these numbers never get smaller.
use Rattle.std.specs.Prelude.{◌≡◌, ℕ, ◌<◌, ◌≤◌, Some, List, [], ◌∷◌}
use Rattle.rh_world.specs.World.{Ref, World, IsOpened, HasFailed, In}
use Rattle.rh_world.specs.Facts.{Fact, HoldsIn, IsPrefix, IsMismatch, part_of}
use Rattle.rh_world.specs.Facts.RulePart.{of_prefixes}
use Rattle.rh_world.specs.Sides.{Side, KeptRead}

-- d failed at its entry e: there is a prefix after which the entry's cell did not hold its old value. It lies between the
-- opening of d and what its worker did next.
pub record FailedAt (w : World) (side : ℕ → Side) (d : Ref) (e : ℕ) : Type 0 where
  pub acts : ℕ
  pub mismatch : IsMismatch w d e acts
  pub opens : (f : Ref) → IsOpened (w.control f) → f.worker ≡ d.worker → d.number < f.number → acts ≤ w.acts_before f
  pub reads : (k : KeptRead) → In k (side d.worker).reads → d.number < k.next_number → acts ≤ k.acts

-- worker v read the word: after the acts at the Read, which are a prefix for the worker's next number then, the cell
-- stood for it. They lie between the openings before and behind the Read.
pub record ReadAt (w : World) (v : ℕ) (k : KeptRead) : Type 0 where
  pub prefix : IsPrefix w v k.next_number k.acts
  pub word : w.logical k.acts k.cell ≡ k.word
  pub low : (d : Ref) → IsOpened (w.control d) → d.worker ≡ v → d.number < k.next_number → w.acts_before d ≤ k.acts
  pub high : (d : Ref) → IsOpened (w.control d) → d.worker ≡ v → k.next_number ≤ d.number → k.acts ≤ w.acts_before d
  pub within : k.next_number ≤ w.next_number v

-- along the reads, of which the newest stands first, neither number gets smaller
abbrev pub InOrder : List KeptRead → Type 0
InOrder [] = Unit {0}
InOrder (k ∷ ks) = ((j : KeptRead) → In j ks → (j.acts ≤ k.acts) × (j.next_number ≤ k.next_number)) × InOrder ks

pub record Prefixes (w : World) (side : ℕ → Side) : Type 0 where
  -- the acts at the opening of a descriptor are a prefix for it, and never fewer than those at an earlier opening
  pub acts_before : (d : Ref) → IsOpened (w.control d) → IsPrefix w d.worker d.number (w.acts_before d)
  pub opens : (d f : Ref) → IsOpened (w.control d) → IsOpened (w.control f) → d.worker ≡ f.worker → d.number < f.number → w.acts_before d ≤ w.acts_before f
  pub failed : (d : Ref) (e : ℕ) → HasFailed w d e → FailedAt w side d e
  pub reads : (v : ℕ) (k : KeptRead) → In k (side v).reads → ReadAt w v k
  pub in_order : (v : ℕ) → InOrder (side v).reads
  -- no read is kept while a descriptor is open
  pub at_rest : (v p : ℕ) (k : KeptRead) → In k (side v).reads → (side v).current ≡ Some p → k.next_number ≤ p
  pub facts : (v : ℕ) (n : Fact) → In n (side v).facts → part_of n ≡ of_prefixes → HoldsIn w n
