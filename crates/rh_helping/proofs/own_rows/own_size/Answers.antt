use Rattle.std.proofs.Common.{ℕ, ◌∙◌, refl, sym, subst}
use Rattle.rh_world.specs.World.{In}
use Rattle.rh_world.specs.Facts.Fact.{size_is}
use Rattle.rh_words.specs.Words.{ref_of}
use Rattle.rh_helping.proofs.OwnRows.{open_size, own_size}
use Rattle.rh_helping.proofs.own_rows.own_size.Goals as goal

pub returns-in-Some-clause-size : goal.returns-in-Some-clause-size
returns-in-Some-clause-size g c = open_size _ _ c.requires.between.trusts.knows _ c.requires.between.own c.args.desc.number c.in-Some.entries.now c.in-Some.ensures
    (ref_of c.args.desc) (c.requires.worker ∙ sym c.args.side.now.same_worker) refl

pub returns-in-None-clause-size : goal.returns-in-None-clause-size
returns-in-None-clause-size g c = subst (λ (n : ℕ). In (size_is (ref_of c.args.desc) n) c.args.side.now.known.view.side.facts) (sym c.row_size.ensures.size)
    (own_size _ _ c.requires.between.trusts.knows _ c.requires.between.own (ref_of c.args.desc) (c.requires.worker ∙ sym c.args.side.now.same_worker) (c.requires.last ∙ sym c.args.side.now.same_number) c.requires.known)
