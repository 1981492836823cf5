use Rattle.std.proofs.Common.{◌-◌, ◌<◌, get_or, arith}
use Rattle.std.proofs.lemmas.Bool.Decides.{nat_tests}
use Rattle.rh_words.specs.Steps.{no_entry}
use Rattle.rh_kcas.proofs.Fitting.{behind_back, behind_so}
use Rattle.rh_kcas.proofs.entries.is_behind.Goals as goal

pub returns : goal.returns
returns c =
    let es = c.args.entries.now in (
      λ h before is.
          let less : (get_or es (c.args.entry - 1) no_entry).cell < (get_or es c.args.entry no_entry).cell = grind (arith, nat_tests) in
          behind_so es c.args.entry before c.requires is less,
      λ behind. let less = behind_back es c.args.entry c.requires (omega arith) behind in grind (arith, nat_tests, less),
    )
