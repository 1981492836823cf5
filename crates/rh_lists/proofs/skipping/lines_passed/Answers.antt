use Rattle.std.proofs.Common.{◌≡◌, inl, inr, refl, take, arith, length-take}
use Rattle.std.proofs.lemmas.List.{take_all}
use Rattle.rh_lists.proofs.Skips.{few_passed, text_passed}
use Rattle.rh_lists.proofs.skipping.lines_passed.Goals as goal

pub returns-then-held-lt-MAGIC_BYTES : goal.returns-then-held-lt-MAGIC_BYTES
returns-then-held-lt-MAGIC_BYTES c = λ rest full. elim full [
  | inl four ↦ absurd (omega (arith, four, c.if-held-lt-MAGIC_BYTES.true))
  | inr none ↦ few_passed c.args.lines (take c.args.held c.args.front) rest (omega (arith, length-take c.args.held c.args.front, c.if-held-lt-MAGIC_BYTES.true)) none
]

pub returns-in-None : goal.returns-in-None
returns-in-None c = λ rest full.
    let whole : take c.args.held c.args.front ≡ c.args.front = take_all c.args.held c.args.front (omega (arith, c.if-held-lt-MAGIC_BYTES.false)) in
    let other = c.in-None.ensures.none refl rest in
    rw whole (text_passed c.args.lines c.args.front rest other.0 other.1)
