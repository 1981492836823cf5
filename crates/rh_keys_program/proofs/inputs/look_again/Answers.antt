use Rattle.rh_keys_program.proofs.inputs.look_again.Goals as goal

-- what the first bytes say is of any line
pub returns-in-Some : goal.returns-in-Some
returns-in-Some g c = c.in-Some.ensures c.args.line
