use Rattle.std.proofs.Common.{◌∙◌, sym}
use Rattle.rh_combine_workers.specs.Spelled.{spelled}
use Rattle.rh_combine_workers.proofs.laws.workers_agree.Goals as goal

pub returns : goal.returns
returns c answer form lists first first_new second second_new m n one two =
    (spelled form (answer lists), one.text, two.text, one.count ∙ sym two.count)
