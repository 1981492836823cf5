use Rattle.std.proofs.Common.{◌∙◌, ◌<◌, length, ◌++◌, ◌∷◌, [], ap, map, rules, string_bytes, subst, sym, take}
use Rattle.std.proofs.lemmas.List.{map-append}
use Rattle.rh_bytes.specs.Counting.{Rose, failures_of, inner_of}
use Rattle.rh_cutting.specs.Pieces.{keys_in}
use Rattle.rh_lists.specs.Files.{BlamesAt, GiveEach, GivesNumbers, HasFault, seen}
use Rattle.rh_lists.proofs.Given.{inside_too, next_path, one_more, path_at}
use Rattle.rh_lists.proofs.paths.read_paths.Goals as goal

pub loop-index-preserved : goal.loop-index-preserved
loop-index-preserved g c =
    let paths = map string_bytes c.args.paths.now in
    let index = c.loop-index.index in
    let files = (seen c.args.skip (g.S.Lender.state c.args.shelf.now)).files in
    let start = g.I.Read.remaining (inner_of c.args.input.now) in
    let mid = g.I.Read.remaining (inner_of c.loop-index.input) in
    let end = g.I.Read.remaining (inner_of c.read_path.new.input) in
    let path = string_bytes c.index-paths-index.result in
    let before = map keys_in c.loop-index.lists.items in
    let numbers = keys_in c.in-Ok.list in
    let gives = subst (λ s. GivesNumbers s.files path mid end numbers) c.loop-index.invariant.shelf_fine (subst (λ p. GivesNumbers (seen c.args.skip (g.S.Lender.state c.loop-index.shelf)).files p mid end numbers) c.deref.ensures c.in-Ok.ensures.read) in
    let more = one_more files (take index paths) path start mid end before numbers c.loop-index.invariant.given gives in
    let lists = ap (map keys_in) c.in-Ok-push.ensures.items ∙ map-append keys_in c.loop-index.lists.items (c.in-Ok.list ∷ []) in
    record {
      given = subst (λ p. GiveEach files p start end (map keys_in c.push.new.self.items)) (sym (next_path string_bytes c.args.paths.now index c.index-paths-index.result (search rules) c.index-paths-index.is))
          (subst (λ l. GiveEach files (take index paths ++ path ∷ []) start end l) (sym lists) more);
      shelf_fine = search rules;
      input_fine = search rules;
    }

-- no memory for the list that was read
pub returns-in_default-clause-lists : goal.returns-in_default-clause-lists
returns-in_default-clause-lists g c =
    let paths = map string_bytes c.args.paths.now in
    let index = c.loop-index.index in
    let files = (seen c.args.skip (g.S.Lender.state c.args.shelf.now)).files in
    let start = g.I.Read.remaining (inner_of c.args.input.now) in
    let mid = g.I.Read.remaining (inner_of c.loop-index.input) in
    let end = g.I.Read.remaining (inner_of c.read_path.new.input) in
    let path = string_bytes c.index-paths-index.result in
    let before = map keys_in c.loop-index.lists.items in
    let numbers = keys_in c.in-Ok.list in
    let gives = subst (λ s. GivesNumbers s.files path mid end numbers) c.loop-index.invariant.shelf_fine (subst (λ p. GivesNumbers (seen c.args.skip (g.S.Lender.state c.loop-index.shelf)).files p mid end numbers) c.deref.ensures c.in-Ok.ensures.read) in
    let more = one_more files (take index paths) path start mid end before numbers c.loop-index.invariant.given gives in
    let inside : index < length c.args.paths.now = search rules in
    record {
      read = (
        index,
        before ++ numbers ∷ [],
        inside_too string_bytes c.args.paths.now index inside,
        subst (λ p. GiveEach files p start end (before ++ numbers ∷ [])) (sym (next_path string_bytes c.args.paths.now index c.index-paths-index.result inside c.index-paths-index.is)) more,
      );
      blamed = search rules;
      fine = search rules;
      input_fine = search rules;
      same_files = search rules;
    }

pub returns-in-Err-clause-lists : goal.returns-in-Err-clause-lists
returns-in-Err-clause-lists g c =
    let index = c.loop-index.index in
    let mid = g.I.Read.remaining (inner_of c.loop-index.input) in
    let end = g.I.Read.remaining (inner_of c.read_path.new.input) in
    let path = string_bytes c.index-paths-index.result in
    let now = seen c.args.skip (g.S.Lender.state c.read_path.new.shelf) in
    let fails = failures_of c.read_path.new.input in
    let fault = c.in-Err.fault in
    let there = path_at string_bytes c.args.paths.now index c.index-paths-index.result (search rules) c.index-paths-index.is in
    record {
      read = (
        path,
        mid,
        _,
        there,
        c.loop-index.invariant.given,
        subst (λ s. HasFault s.files path mid end fault) c.loop-index.invariant.shelf_fine (subst (λ p. HasFault (seen c.args.skip (g.S.Lender.state c.loop-index.shelf)).files p mid end fault) c.deref.ensures c.in-Err.ensures.read),
      );
      blamed = (
        path,
        there,
        subst (λ n. BlamesAt (seen c.args.skip (g.S.Lender.state c.args.shelf.now)) now path (Rose n fails) fault) c.loop-index.invariant.input_fine
            (subst (λ s. BlamesAt s now path (Rose (failures_of c.loop-index.input) fails) fault) c.loop-index.invariant.shelf_fine
            (subst (λ p. BlamesAt (seen c.args.skip (g.S.Lender.state c.loop-index.shelf)) now p (Rose (failures_of c.loop-index.input) fails) fault) c.deref.ensures c.in-Err.ensures.blamed)),
      );
      fine = search rules;
      input_fine = search rules;
      same_files = search rules;
    }
