use Rattle.std.proofs.Common.{sym, ap, ◌∙◌}
use Rattle.rh_play_run.specs.Beginning.{rooms_in}
use Rattle.rh_play_run.proofs.Begun.{pieces_made, share_made}
use Rattle.rh_play_run.proofs.beginning.player_on.Goals as goal

pub returns-in-Pieces-None : goal.returns-in-Pieces-None
returns-in-Pieces-None c =
    let usual = sym (ap rooms_in c.in-Pieces-None.is-1) in
    pieces_made c.args.play.now _ _ _ _ _ c.in-Pieces-None.is-0 c.deref.ensures.value usual c.new.ensures

pub returns-in-Pieces-Some : goal.returns-in-Pieces-Some
returns-in-Pieces-Some c =
    let said = sym (ap rooms_in c.in-Pieces-Some.is-1) in
    pieces_made c.args.play.now _ _ _ _ _ c.in-Pieces-Some.is-0 c.deref-in-Pieces-Some.ensures.value (c.rooms_for-rooms.ensures.same ∙ said) c.with_rooms.ensures

pub returns-in-Share-None : goal.returns-in-Share-None
returns-in-Share-None c =
    let usual = sym (ap rooms_in c.in-Share-None.is-1) in
    share_made c.args.play.now _ _ _ _ _ _ c.in-Share-None.is-0 c.deref-in-Share-None.ensures.value usual c.share.ensures

pub returns-in-Share-Some : goal.returns-in-Share-Some
returns-in-Share-Some c =
    let said = sym (ap rooms_in c.in-Share-Some.is-1) in
    share_made c.args.play.now _ _ _ _ _ _ c.in-Share-Some.is-0 c.deref-in-Share-Some.ensures.value (c.rooms_for-rooms-in-Share-Some.ensures.same ∙ said) c.share_with_rooms.ensures
