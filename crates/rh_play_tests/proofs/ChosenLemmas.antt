-- What is chosen for the Write of a reason allows it.
use Rattle.std.proofs.Common.{ℕ, inl, inr, [], ◌∷◌, refl}
use Rattle.rh_world.specs.World.{Ref, Control, In}
use Rattle.rh_world.specs.Facts.Fact.{decided, mismatch}
use Rattle.rh_words.specs.Steps.{MayGiveReason}
use Rattle.rh_words.specs.declared.shape.Part.TheVariants.{Reason}
use Rattle.rh_words.specs.declared.shape.Shape.{Shape}
use Rattle.rh_words.specs.declared.steps.Request.TheVariants.{Write}
use Rattle.rh_play_tests.specs.Chosen.{chosen}

none_decided : (d r : Ref) (k : Control) → In (decided d k) (mismatch r 0 0 ∷ []) → ⊥
none_decided d r k (inl same) = cc
none_decided d r k (inr none) = none

pub may_give_reason : (z : Shape) (who owner word : ℕ) → MayGiveReason (chosen z who 0 0 0 (Write (Reason who owner) word)) owner
may_give_reason z who owner word = record {
  desc = record { worker = owner; number = 0 };
  entry = 0;
  of_owner = refl;
  mismatch = (0, inl refl);
  older = λ d of_owner is. absurd (none_decided d (record { worker = owner; number = 0 }) _ is);
}
