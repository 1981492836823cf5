use Rattle.std.proofs.Common.{◌≡◌, drop}
use Rattle.rh_draw.specs.Changes.{set_all}
use Rattle.rh_draw.proofs.changes.put_all.Given as goal

abbrev pub invariant-loop-place : goal.invariant-loop-place
invariant-loop-place l = set_all l.list (drop l.place-index l.places) l.word ≡ set_all l.fn.list l.places l.word
