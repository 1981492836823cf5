use Rattle.std.proofs.Common.{ℕ, inl, subst, sym}
use Rattle.rh_helping.specs.Next.{Work}
use Rattle.rh_helping.specs.Work.{Stands}
use Rattle.rh_world.specs.World.{In}
use Rattle.rh_world.specs.Facts.Fact.{known}
use Rattle.rh_helping.proofs.Owing.{open_all_noted}
use Rattle.rh_shared.proofs.Lending.{stays_first}
use Rattle.rh_kcas_tests.proofs.halfway.comes_to_decide.Goals as goal

pub loop-made-init : goal.loop-made-init
loop-made-init c =
    let v = c.args.side.now.known.view in
    let k = (open_all_noted v _ c.requires.own).known in record {
      trusts = c.requires.trusts;
      own = c.requires.own;
      stands = subst (λ (w : Work). Stands c.args.shape.now v w) (sym c.about-machine.ensures) (c.requires.owes, inl (inl (subst (λ (w : ℕ). In (known (record { worker = w; number = c.args.own.number })) v.side.facts) c.args.side.now.same_worker k)));
      stays = stays_first _;
    }
