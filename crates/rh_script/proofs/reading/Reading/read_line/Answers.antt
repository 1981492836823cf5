use Rattle.rh_script.proofs.Naming.{known_more, numbered_as}
use Rattle.rh_script.proofs.reading.Reading.read_line.Goals as goal

pub returns-in_ok-push-clause-known : goal.returns-in_ok-push-clause-known
returns-in_ok-push-clause-known c =
    known_more c.args.self.now.given c.admit.new.self c.args.self.now.steps.items c.push.new.self.items _ c.requires.known c.in_ok-list.ensures.kept (numbered_as _ _ _ (c.in_ok-list.ensures.admitted _ c.requires.known.kept)) c.in_ok-push.ensures.items
