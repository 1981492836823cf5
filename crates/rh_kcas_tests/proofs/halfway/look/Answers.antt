use Rattle.std.proofs.Common.{ℕ, Some, ◌∙◌, subst, inl}
use Rattle.rh_world.specs.World.{In, Ref}
use Rattle.rh_world.specs.Facts.Fact.{known}
use Rattle.rh_words.specs.Steps.{IsDesc, IsKnown}
use Rattle.rh_words.specs.View.{OwnDesc}
use Rattle.rh_helping.proofs.Owing.{nothing_saw, open_all_noted}
use Rattle.rh_helping.proofs.Starting.{own_saw}
use Rattle.rh_shared.specs.Seats.{sitter_of}
use Rattle.rh_kcas_tests.proofs.Peeking.{status_saw}
use Rattle.rh_kcas_tests.proofs.halfway.look.Goals as goal

pub status-requires-clause-desc : goal.status-requires-clause-desc
status-requires-clause-desc c =
    let z = c.args.table.now.shape in
    let side = c.args.seat.now.side in
    let v = side.known.view in
    subst (λ (w : ℕ). IsDesc z (record { worker = w; number = c.args.number })) side.same_worker
    (c.requires.knows.sound.descs _ (inl (inl (open_all_noted v _ c.requires.own).known)))

pub returns : goal.returns
returns c =
    let side = c.args.seat.now.side in
    let v = side.known.view in
    let e = c.status.ensures in
    let h = c.requires in
    let d : Ref = record { worker = side.worker; number = c.args.number } in
    let own : OwnDesc = record { number = c.args.number; entries = c.args.entries.now } in
    let opened : IsKnown v.side.facts d = inl (inl (subst (λ (w : ℕ). In (known (record { worker = w; number = c.args.number })) v.side.facts) side.same_worker (open_all_noted v own h.own).known)) in
    let saw = status_saw c.args.table.now.shape (sitter_of c.args.seat.now) _ (record { worker = side.worker; number = c.args.number }) c.status.result opened e.read in record {
      here = record { own = e.same.table ∙ h.here.own; alone = e.same.count ∙ h.here.alone };
      knows = e.read.control.knows;
      own = own_saw v _ d saw.0 (Some own) saw.1 h.own;
      owes = nothing_saw v _ d saw.0 saw.1 h.owes;
    }
