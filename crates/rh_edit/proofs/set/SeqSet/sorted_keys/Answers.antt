use Rattle.rh_edit.proofs.RisingLemmas.{sorted_all, sorted_facts, AreKeysOf}
use Rattle.rh_edit.proofs.set.SeqSet.sorted_keys.Goals as goal

facts : (c : goal.After-sort_keys) → AreKeysOf c.args.self.now c.sort_keys.result.items
facts c =
    sorted_facts c.self.inside.table.items c.self.inside.bits c.self.invariant.0 c.sort_keys.result.items
    (sorted_all c.self.inside.table.items c.deref-value-items.result.now c.loop-value.keys.items c.sort_keys.result.items c.loop-value.value-index
    c.deref-value-items.ensures.value c.loop-value-test.false c.loop-value.invariant c.sort_keys.ensures.moved)
    c.self.inside.len c.args.self.now c.self.view_is c.self.invariant.1 c.self.invariant.2 c.sort_keys.ensures.sorted

pub returns-clause-items : goal.returns-clause-items
returns-clause-items c = (facts c).items

pub returns-clause-rising : goal.returns-clause-rising
returns-clause-rising c = (facts c).rising

pub returns-clause-held : goal.returns-clause-held
returns-clause-held c = (facts c).same

pub returns-clause-many : goal.returns-clause-many
returns-clause-many c = (facts c).many

pub returns-clause-keys : goal.returns-clause-keys
returns-clause-keys c = (facts c).keys

pub returns-clause-few : goal.returns-clause-few
returns-clause-few c = (facts c).few
