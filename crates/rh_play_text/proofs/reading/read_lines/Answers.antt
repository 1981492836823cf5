use Rattle.std.proofs.lemmas.Result.{err_from_is_err_and}
use Rattle.std.proofs.Common.{◌∙◌, ap, arith, refl, sym, Err, length}
use Rattle.rh_lines.specs.Lines.{lines_of}
use Rattle.rh_lines.proofs.Reading.{begun, gone_on, refused}
use Rattle.rh_lines.proofs.Splitting.{lines_few}
use Rattle.rh_play_text.specs.Grammar.{play_grammar}
use Rattle.rh_play_text.proofs.reading.read_lines.Goals as goal

pub loop-line-init : goal.loop-line-init
loop-line-init c = record {
  few = omega (arith, lines_few c.args.text.now);
  stands = begun play_grammar (lines_of c.args.text.now);
}

pub returns-in_err-draft-clause-refused : goal.returns-in_err-draft-clause-refused
returns-in_err-draft-clause-refused c =
    let fault = err_from_is_err_and c.from_residual.result c.from_residual.ensures.1 in
    let kind = c.in_err-draft.field-0.0.kind in
    rw (fault.1, fault.2) (λ known.
    refused play_grammar c.args.text.now c.loop-line.number _ _ kind _ _ _ c.loop-line.invariant.stands c.in-Some.ensures refl (c.in_err-draft.ensures.refused known)
    ∙ ap (λ line. Err (record { line = line; kind = kind })) (sym c.in_err-draft.ensures.at))

pub loop-line-preserved : goal.loop-line-preserved
loop-line-preserved c = record {
  few = omega (arith, ap length c.in-Some.ensures, c.loop-line.invariant.few);
  stands = gone_on play_grammar (lines_of c.args.text.now) c.loop-line.number _ _ _ _ _ _ c.loop-line.invariant.stands c.in-Some.ensures refl c.in_ok-draft.ensures.read;
}
