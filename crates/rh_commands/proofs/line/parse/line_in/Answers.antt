use Rattle.std.proofs.Common.{◌≡◌, inl, inr, List, Some, option_map, arith}
use Rattle.clap.specs.Words.{Row, Text}
use Rattle.rh_commands.specs.Line.{IsCommand}
use Rattle.rh_arguments.proofs.CommandLemmas.{name_found}
use Rattle.rh_commands.proofs.line.parse.line_in.Goals as goal
use Rattle.rh_commands.proofs.line.parse.line_in.Goals.{in_default-via-in-Some+in_default, in_default-via-in_default}

-- the arms above have each command
pub unreachable-requires : goal.unreachable-requires
unreachable-requires c =
    let named : (row : Text × List Row) × (option_map (λ p. p.0.now) c.subcommand.result ≡ Some row.0) × IsCommand row.0 row.1 =
    name_found IsCommand c.args.matches.now _ c.subcommand.ensures.name c.requires in
    elim c.in_default.branch [
      | in_default-via-in-Some+in_default w ↦ elim named.2 [
        | inl dump ↦ grind (arith, named.1, dump, w.in_default.is)
        | inr (inl run) ↦ grind (arith, named.1, run.0, w.in_default.is)
        | inr (inr check) ↦ grind (arith, named.1, check.0, w.in_default.is)
      ]
      | in_default-via-in_default w ↦ grind (arith, named.1, w.in_default.is)
    ]
