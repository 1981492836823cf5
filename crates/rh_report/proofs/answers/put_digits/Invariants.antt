use Rattle.std.proofs.Common.{ℕ, ◌<◌, ◌≡◌, get_or, false}
use Rattle.rh_report.specs.Texts.{digit_of}
use Rattle.rh_report.proofs.answers.put_digits.Given as goal

abbrev pub invariant-loop-place : goal.invariant-loop-place
invariant-loop-place l = (p : ℕ) → p < l.place → get_or l.digits p 0 ≡ digit_of (get_or l.answers p false)
