use Rattle.std.proofs.Common.{◌≡◌, flat_map, string_bytes, take}
use Rattle.rh_checks.specs.Texts.{bad_text}
use Rattle.rh_checks.proofs.report.Report.text.Given as goal

abbrev pub invariant-loop-line : goal.invariant-loop-line
invariant-loop-line l = string_bytes l.text ≡ flat_map (bad_text l.place) (take l.line-index l.self.bad.items)
