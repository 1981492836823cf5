use Rattle.rh_rdcss.proofs.EntriesRead.{says_known, tried_places}
use Rattle.rh_rdcss.proofs.calls.place.Goals as goal

pub place_there-requires-clause-knows_it : goal.place_there-requires-clause-knows_it
place_there-requires-clause-knows_it c =
    says_known _ c.args.desc c.args.entry c.in-Some.piece c.in-Some.old _ _ c.requires.entry c.in-Some.ensures.says

pub returns-in-Some-clause-places : goal.returns-in-Some-clause-places
returns-in-Some-clause-places c =
    tried_places c.args.table.now.shape c.args.desc c.args.entry _ c.in-Some.piece c.in-Some.old _ c.in-Some.ensures.says c.place_there.result _ c.place_there.ensures.tried
