use Rattle.rh_tagword.proofs.ControlLemmas.{control_number_fits, control_in_is, control_number_one}
use Rattle.rh_tagword.proofs.laws.one_control.Goals as goal

pub returns-clause-fits : goal.returns-clause-fits
returns-clause-fits c = control_number_fits c.args.serial c.args.state c.requires

pub returns-clause-read : goal.returns-clause-read
returns-clause-read c n e = control_in_is n c.args.serial c.args.state e

pub returns-clause-one : goal.returns-clause-one
returns-clause-one c i k h e = control_number_one i c.args.serial k c.args.state h.1 c.requires.1 e
