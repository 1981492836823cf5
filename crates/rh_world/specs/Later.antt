-- What a step may change: w is the world before, v the world after. It is a rely, as in rely and guarantee (Jones
-- 1983): each kind of step is shown to respect it, and each kind of fact to be kept by it. It has another name here, as the
-- crates above speak of what a worker relies on at its next step (`Relies`).
use Rattle.std.specs.Prelude.{◌≡◌, ◌≢◌, ℕ, ◌<◌, ◌≤◌, ◌⊎◌}
use Rattle.rh_world.specs.World.{Ref, World, IsOpened, IsDecided, IsUsed}
use Rattle.rh_world.specs.World.Cell.{mark, desc}
use Rattle.rh_world.specs.World.Control.{undecided, succeeded}

pub record Steady (w v : World) : Type 0 where
  -- an opened descriptor stays so, with its entries; a decided control stays
  pub opened : (d : Ref) → IsOpened (w.control d) → IsOpened (v.control d)
  pub size : (d : Ref) → IsOpened (w.control d) → v.size d ≡ w.size d
  pub target : (d : Ref) (e : ℕ) → IsOpened (w.control d) → v.target d e ≡ w.target d e
  pub old : (d : Ref) (e : ℕ) → IsOpened (w.control d) → v.old d e ≡ w.old d e
  pub new : (d : Ref) (e : ℕ) → IsOpened (w.control d) → v.new d e ≡ w.new d e
  pub acts_before : (d : Ref) → IsOpened (w.control d) → v.acts_before d ≡ w.acts_before d
  pub decided : (d : Ref) → IsDecided (w.control d) → v.control d ≡ w.control d
  pub was_undecided : (d : Ref) → IsOpened (w.control d) → v.control d ≡ undecided → w.control d ≡ undecided
  -- a used mark stays so, with its descriptor and entry; it is placed once, so it stands where it stood before
  pub marks : (x : Ref) → IsUsed w x → IsUsed v x
  pub mark_desc : (x : Ref) → IsUsed w x → v.mark_desc x ≡ w.mark_desc x
  pub mark_entry : (x : Ref) → IsUsed w x → v.mark_entry x ≡ w.mark_entry x
  pub stood : (c : ℕ) (x : Ref) → IsUsed w x → v.cell c ≡ mark x → w.cell c ≡ mark x
  -- a descriptor leaves a cell only when it is decided
  pub stays : (c : ℕ) (d : Ref) → w.cell c ≡ desc d → v.control d ≡ undecided → v.cell c ≡ desc d
  -- acts come at the end, and are of descriptors that were undecided
  pub act_count : w.act_count ≤ v.act_count
  pub act : (i : ℕ) → i < w.act_count → v.act i ≡ w.act i
  pub logical : (n c : ℕ) → n ≤ w.act_count → v.logical n c ≡ w.logical n c
  pub fresh : (i : ℕ) → w.act_count ≤ i → i < v.act_count → w.control (v.act i) ≡ undecided
  -- the workers and the list of keys stay, and the counter never falls
  pub workers : v.workers ≡ w.workers
  pub keys : v.keys ≡ w.keys
  pub counter : w.counter ≤ v.counter

pub record Later (w v : World) : Type 0 where
  pub steady : Steady w v
  pub open steady use *
  -- a descriptor that has succeeded comes to stand in no cell where it did not stand
  pub came : (c : ℕ) (d : Ref) → IsOpened (w.control d) → v.cell c ≡ desc d → (w.cell c ≡ desc d) ⊎ (v.control d ≢ succeeded)
  -- it does not come to succeed while a mark of it stands in a cell
  pub late : (c : ℕ) (x : Ref) → IsUsed w x → v.cell c ≡ mark x → v.control (w.mark_desc x) ≡ succeeded → w.control (w.mark_desc x) ≡ succeeded
