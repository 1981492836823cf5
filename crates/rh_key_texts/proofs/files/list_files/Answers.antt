use Rattle.std.proofs.Common.{ap, Err, map, string_bytes, inl, inr, rules, subst, sym}
use Rattle.rh_bytes.specs.Counting.{inner_of}
use Rattle.rh_key_texts.specs.Files.{ListsEach}
use Rattle.rh_key_texts.proofs.Listed.{lists_one_more, text_at, up_to}
use Rattle.rh_key_texts.proofs.files.list_files.Goals as goal

pub returns-in-Err-clause-listed : goal.returns-in-Err-clause-listed
returns-in-Err-clause-listed g c = (
  string_bytes c.index-paths-index.result,
  _,
  text_at string_bytes c.args.paths.now c.loop-index.index c.index-paths-index.result (search rules) c.index-paths-index.is,
  c.loop-index.invariant.listed,
  search rules,
)

pub returns-in-Err-clause-missing : goal.returns-in-Err-clause-missing
returns-in-Err-clause-missing g c missing =
    let at = text_at string_bytes c.args.paths.now c.loop-index.index c.index-paths-index.result (search rules) c.index-paths-index.is in
    elim (c.in-Err.ensures.missing (ap Err missing)) [
      | inl lacks ↦ inl (_, at, search rules)
      | inr rose ↦ inr (search rules)
    ]

pub loop-index-preserved : goal.loop-index-preserved
loop-index-preserved g c =
    let at = text_at string_bytes c.args.paths.now c.loop-index.index c.index-paths-index.result (search rules) c.index-paths-index.is in
    record {
      fine = search rules;
      listed = subst (λ p. ListsEach (g.S.Lender.state c.args.shelf.now).files c.args.form p (g.W.Write.contents (inner_of c.args.writer.now)) (g.W.Write.contents (inner_of c.list_file.new.writer))) (sym (up_to (map string_bytes c.args.paths.now) c.loop-index.index _ at))
          (lists_one_more (g.S.Lender.state c.args.shelf.now).files c.args.form _ (string_bytes c.index-paths-index.result) _ (g.W.Write.contents (inner_of c.loop-index.writer)) (g.W.Write.contents (inner_of c.list_file.new.writer)) c.loop-index.invariant.listed (search rules));
      written = search rules;
    }
