-- Each allowed step changes the world only as steps may.
use Rattle.std.proofs.Common.{◌≡◌, ◌≢◌, ℕ, ◌<◌, Bool, true, false, true≢false, cond, refl, ap, ◌∙◌, sym, subst, inl, inr, None}
use Rattle.rh_world.specs.World.{Cell, Control, IsDecided, Ref, World}
use Rattle.rh_world.specs.World.Cell.{desc, mark, plain}
use Rattle.rh_world.specs.World.Control.{failed, succeeded, undecided, unused, withdrawn}
use Rattle.rh_world.specs.Facts.Fact.{decided, installed, may_promote, over, size_is}
use Rattle.rh_world.specs.Later.{Later}
use Rattle.rh_world.specs.Sides.{Side}
use Rattle.rh_world.specs.Rows.{Rows}
use Rattle.rh_world.specs.Acts.{Acts}
use Rattle.rh_world.specs.Moves.{IsAllowed, KnowsOver, MayDecide, MayWork, Move, cell_world, decided_world, is_desc, is_mark, is_plain, next_desc, next_mark, place_world, released_cell, settled_cell, world_after}
use Rattle.rh_world.specs.Moves.Move.{claims, decides, opens, places, releases, settles}
use Rattle.rh_world.proofs.Laters.{later_cell, later_claim, later_decide, later_open, later_place, later_same, later_succeed}
use Rattle.rh_world.proofs.Tests.{eqb_yes, is_desc_yes, is_mark_yes}

decided_later : (w : World) (side : ℕ → Side) (who : ℕ) (d : Ref) (k x : Control) → Rows w side → Acts w side
    → w.control d ≡ k → MayDecide (side who) who d x → Later w (decided_world w d k x)
decided_later w side who d unused x rows acts e may = later_same w
decided_later w side who d undecided unused rows acts e may = later_same w
decided_later w side who d undecided undecided rows acts e may = later_same w
decided_later w side who d undecided succeeded rows acts e may =
    let size = rows.facts who (size_is d may.0) may.1 refl in
    later_succeed w side d rows e (λ i h. (acts.facts who (installed d i) (may.2 i (subst (λ (n : ℕ). i < n) size.1 h)) refl).1 e)
decided_later w side who d undecided withdrawn rows acts e may = later_decide w d withdrawn e tt (λ q. cc)
decided_later w side who d undecided (failed i by) rows acts e may = later_decide w d (failed i by) e tt (λ q. cc)
decided_later w side who d succeeded x rows acts e may = later_same w
decided_later w side who d withdrawn x rows acts e may = later_same w
decided_later w side who d (failed i by) x rows acts e may = later_same w

placed_later : (w : World) (side : ℕ → Side) (who : ℕ) (d : Ref) (e : ℕ) (k : Cell) → Rows w side
    → w.cell (w.target d e) ≡ k → MayWork (side who) d e → (side who).unsettled ≡ None → (b : Bool)
    → is_plain k (w.old d e) ≡ b → Later w (cond b (place_world w (next_mark w who) d e) w)
placed_later w side who d e k rows here may free false q = later_same w
placed_later w side who d e (plain u) rows here may free true q =
    let size = rows.facts who (size_is d may.size) may.known refl in
    later_place w side (next_mark w who) d e rows
    record { next = refl; settled = free; opened = size.0; within = subst (λ (n : ℕ). e < n) (sym size.1) may.within; found = here ∙ ap plain (eqb_yes u (w.old d e) q) }
placed_later w side who d e (mark x) rows here may free true q = cc
placed_later w side who d e (desc f) rows here may free true q = cc

settled_later : (w : World) (c : ℕ) (x : Ref) (to b : Bool) → is_mark (w.cell c) x ≡ b
    → (to ≡ true → w.cell c ≡ mark x → w.control (w.mark_desc x) ≢ succeeded)
    → Later w (cond b (cell_world w c (settled_cell w x to)) w)
settled_later w c x to false q fails = later_same w
settled_later w c x true true q fails = later_cell w c (desc (w.mark_desc x)) (λ y e. cc) (λ d e. let r : mark x ≡ desc d = sym (is_mark_yes (w.cell c) x q) ∙ e in cc)
    (λ d e s. let r : w.mark_desc x ≡ d = cc in fails refl (is_mark_yes (w.cell c) x q) (ap w.control r ∙ s))
settled_later w c x false true q fails = later_cell w c (plain (w.old (w.mark_desc x) (w.mark_entry x))) (λ y e. cc) (λ d e. let r : mark x ≡ desc d = sym (is_mark_yes (w.cell c) x q) ∙ e in cc) (λ d e s. cc)

released_later : (w : World) (d : Ref) (e : ℕ) → IsDecided (w.control d) → (b : Bool)
    → is_desc (w.cell (w.target d e)) d ≡ b → Later w (cond b (cell_world w (w.target d e) (released_cell w d e)) w)
released_later w d e dec false q = later_same w
released_later w d e dec true q = later_cell w (w.target d e) (released_cell w d e) (λ y p. cc)
    (λ f p. let r : desc d ≡ desc f = sym (is_desc_yes (w.cell (w.target d e)) d q) ∙ p in let t : d ≡ f = cc in subst (λ (x : Ref). IsDecided (w.control x)) t dec) (λ f p s. cc)

-- it is decided
pub known_over : (w : World) (side : ℕ → Side) (who : ℕ) (d : Ref) → Rows w side → KnowsOver (side who) d → IsDecided (w.control d)
known_over w side who d rows (inl so) = (let t = rows.facts who (decided d so.0) so.1 refl in subst IsDecided (sym t.1) t.0)
known_over w side who d rows (inr gone) = rows.facts who (over d) gone.0 refl

pub steps_later : (w : World) (side : ℕ → Side) (who : ℕ) (m : Move) → Rows w side → Acts w side
    → IsAllowed w side who m → Later w (world_after w who m)
steps_later w side who (opens p) rows acts may = later_open w side (next_desc w who) p rows record { next = refl; can = may }
steps_later w side who (places d e) rows acts may = placed_later w side who d e (w.cell (w.target d e)) rows refl may.0 may.1 (is_plain (w.cell (w.target d e)) (w.old d e)) refl
steps_later w side who (settles x c true) rows acts may = settled_later w c x true (is_mark (w.cell c) x) refl (λ t here. (acts.facts who (may_promote x c) may.1 refl).1 here)
steps_later w side who (settles x c false) rows acts may = settled_later w c x false (is_mark (w.cell c) x) refl (λ t. absurd (true≢false (sym t)))
steps_later w side who (decides d x) rows acts may = decided_later w side who d (w.control d) x rows acts refl may.1
steps_later w side who (releases d e) rows acts may = released_later w d e (known_over w side who d rows may.1) (is_desc (w.cell (w.target d e)) d) refl
steps_later w side who claims rows acts may = later_claim w
steps_later w side who _ rows acts may = later_same w
