use Rattle.std.proofs.Common.{◌<◌, ℕ, Option, Some, None, IfSome, List, subst, sym}
use Rattle.std.specs.Prelude.{length}
use Rattle.rh_layout.specs.declared.entry.Entry.{Entry}
use Rattle.rh_words.specs.declared.shape.Shape.{Shape}
use Rattle.rh_words.specs.Parts.{cell_count}
use Rattle.rh_words.specs.Steps.{AreEntries, entry_of, no_entry}
use Rattle.rh_words.specs.View.{View}
use Rattle.rh_rule.specs.Rest.{RuleTells}
use Rattle.rh_helping.proofs.OwnRows.{entry_is}
use Rattle.rh_kcas.specs.Reads.{OwnChangesAreRead}
use Rattle.rh_swaps.specs.Swaps.{HasReadCell, Swaps}
use Rattle.rh_swaps.specs.declared.swapping.Outcome.TheVariants.{Done}
use Rattle.rh_shared.specs.Seats.{view_of}
use Rattle.rh_kcas_tests.specs.ReadsBack.{ReadsBack}
use Rattle.rh_kcas_tests.proofs.swaps.swapped_and_read.Goals as goal

pub read-requires-clause-cell : goal.read-requires-clause-cell
read-requires-clause-cell g c =
    subst (λ (x : Entry). x.cell < cell_count c.args.table.now.shape) (entry_is c.args.entries.now c.args.entry no_entry c.requires.entry) (c.requires.entries.cells c.args.entry c.requires.entry)

back : (law : OwnChangesAreRead) (z : Shape) (es : List Entry) (e : ℕ) (v then next : View) → AreEntries z es → e < length es → Swaps z es v then Done → RuleTells z next
    → (r : Option ℕ) → HasReadCell z (entry_of es e).cell then next r → IfSome r (ReadsBack z es e v next)
back law z es e v then next fits within swaps rule_tells None read = tt
back law z es e v then next fits within swaps rule_tells (Some word) read = (rule_tells, law rule_tells.w z rule_tells.keep rule_tells.side rule_tells.tells es e word v then next fits within swaps read rule_tells.within rule_tells.is)

pub returns-in-Done-clause-reads_back : goal.returns-in-Done-clause-reads_back
returns-in-Done-clause-reads_back g c =
    let z = c.args.table.now.shape in
    let read = subst (λ (x : Entry). HasReadCell z x.cell (view_of c.kcas.new.seat) (view_of c.read.new.seat) c.read.result)
    (sym (entry_is c.args.entries.now c.args.entry no_entry c.requires.entry)) c.read.ensures.reads in
    back c.own_changes_are_read.ensures z c.args.entries.now c.args.entry (view_of c.args.seat.now) (view_of c.kcas.new.seat) (view_of c.read.new.seat) c.requires.entries c.requires.entry
    c.in-Done.ensures.swaps c.read.ensures.rule_tells c.read.result read
