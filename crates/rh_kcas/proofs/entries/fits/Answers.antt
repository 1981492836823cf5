use Rattle.std.proofs.Common.{◌∙◌, sym, arith}
use Rattle.std.proofs.lemmas.Bool.Decides.{nat_tests}
use Rattle.rh_words.specs.Steps.{no_entry}
use Rattle.rh_kcas.proofs.Fitting.{fits_so, words_fit}
use Rattle.rh_kcas.proofs.entries.fits.Goals as goal

pub returns : goal.returns
returns c =
    let z = c.args.shape.now in
    let es = c.args.entries.now in (
      λ new. fits_so z es c.args.entry no_entry c.requires (c.is_behind.ensures.0 c.if-not-is_behind.false) (omega (arith, c.cells.ensures)) (c.is_plain.ensures.0 c.if-not-is_plain.false) (c.is_plain-2.ensures.0 new),
      λ fit. c.is_plain-2.ensures.1 (words_fit z es c.args.entry no_entry c.requires fit).new,
    )

pub returns-then-cell-cells : goal.returns-then-cell-cells
returns-then-cell-cells c = (
  λ h. cc,
  λ fit. let inside = (words_fit c.args.shape.now c.args.entries.now c.args.entry no_entry c.requires fit).cell in grind (arith, nat_tests, inside),
)

pub returns-then-not-is_plain : goal.returns-then-not-is_plain
returns-then-not-is_plain c = (
  λ h. cc,
  λ fit. let plain = c.is_plain.ensures.1 (words_fit c.args.shape.now c.args.entries.now c.args.entry no_entry c.requires fit).old in
      sym c.if-not-is_plain.true ∙ plain,
)
