use Rattle.std.proofs.Common.{◌≡◌, inl, inr, List, Some, option_map, arith}
use Rattle.clap.specs.Words.{Row, Text}
use Rattle.rh_pack_commands.specs.Line.{IsCommand}
use Rattle.rh_arguments.proofs.CommandLemmas.{name_found}
use Rattle.rh_pack_commands.proofs.parse.line_in.Goals as goal
use Rattle.rh_pack_commands.proofs.parse.line_in.Goals.{in_default-via-in-Some+in_default, in_default-via-in_default}

-- the arms above have each command
pub unreachable-requires : goal.unreachable-requires
unreachable-requires c =
    let named : (row : Text × List Row) × (option_map (λ p. p.0.now) c.subcommand.result ≡ Some row.0) × IsCommand row.0 row.1 =
    name_found IsCommand c.args.matches.now _ c.subcommand.ensures.name c.requires in
    elim c.in_default.branch [
      | in_default-via-in-Some+in_default w ↦ elim named.2 [
        | inl check ↦ grind (arith, named.1, check.0, w.in_default.is)
        | inr (inl pack) ↦ grind (arith, named.1, pack.0, w.in_default.is)
        | inr (inr (inl list)) ↦ grind (arith, named.1, list, w.in_default.is)
        | inr (inr (inr split)) ↦ grind (arith, named.1, split.0, w.in_default.is)
      ]
      | in_default-via-in_default w ↦ grind (arith, named.1, w.in_default.is)
    ]
