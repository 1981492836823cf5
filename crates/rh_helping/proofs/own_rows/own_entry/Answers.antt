use Rattle.std.proofs.Common.{◌∙◌, refl, sym, arith}
use Rattle.std.proofs.Math.Pow.{pow_mono}
use Rattle.rh_words.specs.Words.{ref_of}
use Rattle.rh_helping.proofs.Knowing.{entry_here}
use Rattle.rh_helping.proofs.OwnRows.{open_goal_known, open_inside, own_goal_known}
use Rattle.rh_helping.proofs.own_rows.own_entry.Goals as goal

pub offset_bounds-entries-task : goal.offset_bounds-entries-task
offset_bounds-entries-task g c =
    let room = entry_here _ _ c.requires.between.trusts.knows c.args.task c.requires.task c.requires.entry in
    omega (arith, room, pow_mono {j = 18} c.args.shape.now.bits_fit.1)

pub bounds-entries-task : goal.bounds-entries-task
bounds-entries-task g c = open_inside _ _ c.requires.between.trusts.knows _ c.requires.between.own c.args.task.desc.number c.in-Some.entries.now c.in-Some.ensures
    (ref_of c.args.task.desc) (c.requires.worker ∙ sym c.args.side.now.same_worker) refl c.args.task.size c.args.task.entry c.requires.task.size c.requires.entry

pub row_entry-requires-clause-entry : goal.row_entry-requires-clause-entry
row_entry-requires-clause-entry g c = entry_here _ _ c.requires.between.trusts.knows c.args.task c.requires.task c.requires.entry

pub returns-in-Some-clause-goal : goal.returns-in-Some-clause-goal
returns-in-Some-clause-goal g c = open_goal_known _ _ c.requires.between.trusts.knows _ c.requires.between.own c.args.task.desc.number c.in-Some.entries.now c.in-Some.ensures
    c.args.task c.requires.task (c.requires.worker ∙ sym c.args.side.now.same_worker) refl c.requires.entry record { cell = 0; old = 0; new = 0 }

pub returns-in-None-clause-goal : goal.returns-in-None-clause-goal
returns-in-None-clause-goal g c =
    let goal = c.row_entry.result in
    (own_goal_known _ _ c.requires.between.trusts.knows _ c.requires.between.own c.args.task goal.cell goal.old goal.new c.requires.task (c.requires.worker ∙ sym c.args.side.now.same_worker)
    c.requires.entry c.row_entry.ensures.cell c.row_entry.ensures.old c.row_entry.ensures.new)
