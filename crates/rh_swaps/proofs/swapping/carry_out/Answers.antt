use Rattle.std.proofs.Common.{ℕ, inl, subst, sym}
use Rattle.rh_world.specs.World.{In}
use Rattle.rh_world.specs.Facts.Fact.{known}
use Rattle.rh_helping.specs.Next.{Work}
use Rattle.rh_helping.specs.Work.{Stands}
use Rattle.rh_helping.proofs.Owing.{open_all_noted}
use Rattle.rh_swaps.proofs.Going.{carried_then, goes_then}
use Rattle.rh_swaps.proofs.swapping.carry_out.Goals as goal

pub install-requires : goal.install-requires
install-requires g c =
    let v = c.args.side.now.known.view in
    let k = (open_all_noted v _ c.requires.own).known in record {
      relies = record { now = c.requires.trusts; may = c.requires.trusts.rows };
      own = c.requires.own;
      stands = subst (λ (w : Work). Stands c.args.shape.now v w) (sym c.about-machine.ensures)
          (c.requires.owes, inl (inl (subst (λ (w : ℕ). In (known (record { worker = w; number = c.args.own.number })) v.side.facts) c.args.side.now.same_worker k)));
    }

pub returns-then-not-install : goal.returns-then-not-install
returns-then-not-install g c = carried_then c.install.ensures c.carry_on_copy.ensures

pub returns-in-Some : goal.returns-in-Some
returns-in-Some g c = carried_then c.install.ensures c.in-Some.ensures

pub returns-in-None : goal.returns-in-None
returns-in-None g c = carried_then (goes_then c.install.ensures c.in-None.ensures) c.carry_on_copy-in-None.ensures
