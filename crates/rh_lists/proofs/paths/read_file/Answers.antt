use Rattle.std.proofs.Common.{option_map, rules, subst, sym, IfOk}
use Rattle.rh_shelf.specs.Shelf.{Finds}
use Rattle.rh_lists.specs.Files.{without_heads}
use Rattle.rh_lists.proofs.Given.{numbers_read, skips_found}
use Rattle.rh_lists.proofs.paths.read_file.Goals as goal

pub returns-in-Ok : goal.returns-in-Ok
returns-in-Ok g c =
    let files = (g.S.Lender.state c.args.shelf.now).files in
    let remaining = g.S.Reader.Read.remaining in
    let lent = subst (λ r. IfOk r (λ reader. Finds files c.args.path.now (remaining reader))) c.in_ok-file.was c.lend.ensures.found in
    let found = subst (Finds (option_map (without_heads c.args.skip) files) c.args.path.now) (sym (c.new.ensures.left remaining)) (skips_found c.args.skip files c.args.path.now _ lent) in
    record {
      read = (_, _, rw c.new-reader.ensures.inner found, numbers_read _ _ c.in-Ok.list c.in-Ok.ensures.known);
      blamed = search rules;
      fine = search rules;
      same_files = search rules;
    }
