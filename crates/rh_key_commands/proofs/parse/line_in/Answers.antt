use Rattle.std.proofs.Common.{◌≡◌, List, Some, option_map, arith, inl, inr}
use Rattle.clap.specs.Words.{Row, Text}
use Rattle.rh_key_commands.specs.Line.{IsCommand, name_of}
use Rattle.rh_combine.specs.declared.how.How.{How}
use Rattle.rh_combine.specs.declared.how.How.TheVariants.{Intersect, Union, Subtract, Xor}
use Rattle.rh_arguments.proofs.CommandLemmas.{name_found}
use Rattle.rh_key_commands.proofs.parse.line_in.Goals as goal
use Rattle.rh_key_commands.proofs.parse.line_in.Goals.{in_default-via-in-Some+in_default, in_default-via-in_default}

-- the arms above have each command
pub unreachable-requires : goal.unreachable-requires
unreachable-requires c =
    let named : (row : Text × List Row) × (option_map (λ p. p.0.now) c.subcommand.result ≡ Some row.0) × IsCommand row.0 row.1 =
    name_found IsCommand c.args.matches.now _ c.subcommand.ensures.name c.requires in
    elim c.in_default.branch [
      | in_default-via-in-Some+in_default w ↦
          let unnamed : (how : How) → named.0.0 ≡ name_of how → ⊥ =
          λ how. elim how [
            | Intersect ↦ λ is. grind (arith, named.1, is, w.in_default.is)
            | Union ↦ λ is. grind (arith, named.1, is, w.in_default.is)
            | Subtract ↦ λ is. grind (arith, named.1, is, w.in_default.is)
            | Xor ↦ λ is. grind (arith, named.1, is, w.in_default.is)
          ] in
          elim named.2 [
            | inl lists ↦ absurd (unnamed lists.0 lists.1)
            | inr (inl atleast) ↦ grind (arith, named.1, atleast.0, w.in_default.is)
            | inr (inr select) ↦ grind (arith, named.1, select.0, w.in_default.is)
          ]
      | in_default-via-in_default w ↦ grind (arith, named.1, w.in_default.is)
    ]
