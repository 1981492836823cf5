use Rattle.std.proofs.Common.{◌≡◌, [], None, drop, length}
use Rattle.rh_expressions.specs.Grammar.{read, state_of}
use Rattle.rh_expressions.proofs.reading.read.Given as goal

abbrev pub invariant-loop-token : goal.invariant-loop-token
invariant-loop-token l = read (length l.text) l.token-items ([], None) ≡ read (length l.text) (drop l.token-index l.token-items) (state_of l.state)
