use Rattle.std.proofs.Common.{◌≡◌, ◌++◌, drop, false}
use Rattle.std.specs.Prelude.{map, string_bytes}
use Rattle.rh_expressions.specs.Tokens.{tokens_of}
use Rattle.rh_expressions.proofs.token.tokens.Given as goal

abbrev pub invariant-loop-at : goal.invariant-loop-at
invariant-loop-at l = tokens_of (map string_bytes l.names) 0 false l.text ≡ l.tokens.items ++ tokens_of (map string_bytes l.names) l.at l.in_name (drop l.at l.text)
