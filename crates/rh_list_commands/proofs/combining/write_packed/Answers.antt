use Rattle.std.proofs.Common.{◌≡◌, ◌++◌, map, rules, subst}
use Rattle.std.specs.Io.KnownBytes.{Appends}
use Rattle.rh_combine_workers.specs.Spelled.{spelled}
use Rattle.rh_combine.specs.declared.form.Form.TheVariants.{Packed}
use Rattle.rh_key_files.specs.KeyFile.{header, spelling}
use Rattle.rh_key_files.specs.declared.version.Version.TheVariants.{Second}
use Rattle.rh_cutting.specs.Pieces.{keys_in}
use Rattle.rh_list_commands.proofs.Written.{packed}
use Rattle.rh_list_commands.proofs.combining.write_packed.Goals as goal

pub returns : goal.returns
returns g c =
    let numbers = g.Q.Question.answer c.args.question.now (map keys_in c.args.lists.items) in
    let bytes : c.deref.result.now ≡ spelled Packed numbers = search rules in
    let file : header Second c.in-Ok.count ++ c.deref.result.now ≡ spelling Second numbers = packed numbers c.deref.result.now c.in-Ok.count c.in-Ok.ensures.written.count bytes in
    record {
      written = subst (Appends _ _) file c.in_ok-write_file.ensures.appended;
      counts = search rules;
    }
