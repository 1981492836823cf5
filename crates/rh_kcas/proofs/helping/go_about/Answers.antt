use Rattle.std.proofs.Common.{inl, inr, subst, sym, ◌∙◌}
use Rattle.rh_helping.specs.Next.{Work}
use Rattle.rh_helping.specs.Work.{Stands}
use Rattle.rh_helping.proofs.Growing.{known_sub}
use Rattle.rh_shared.proofs.Lending.{stays_first, stays_on}
use Rattle.rh_swaps.proofs.Noting.{made_notes, noted_first, noted_on}
use Rattle.rh_kcas.proofs.Helped.{over_as_read}
use Rattle.rh_kcas.proofs.helping.go_about.Goals as goal

pub loop-init : goal.loop-init
loop-init g c = record {
  trusts = c.requires.trusts;
  own = c.requires.clear.own;
  stands = subst (λ (w : Work). Stands c.args.shape.now c.args.side.now.known.view w) (sym c.about-machine.ensures) (c.requires.clear.owes, c.requires.known);
  known = c.requires.known;
  stays = stays_first _;
  noted = noted_first _;
}

pub loop-preserved-in-On : goal.loop-preserved-in-On
loop-preserved-in-On g c =
    let h = c.loop.invariant in
    let m = c.in-On.ensures.made in record {
      trusts = m.trusts;
      own = c.in-On.ensures.leads.0;
      stands = c.in-On.ensures.leads.1;
      known = known_sub _ _ m.facts _ h.known;
      stays = stays_on _ _ _ h.stays m.steps.stays;
      noted = noted_on _ _ _ h.noted (made_notes _ _ _ _ _ _ m);
    }

pub returns-in-Spent-clause-helps : goal.returns-in-Spent-clause-helps
returns-in-Spent-clause-helps g c = record {
  noted = noted_on _ _ _ c.loop.invariant.noted (made_notes _ _ _ _ _ _ c.in-Spent.ensures.made);
  decided_so = inr c.in-Spent.ensures.leads.3;
}

pub returns-then-is_over-clause-helps : goal.returns-then-is_over-clause-helps
returns-then-is_over-clause-helps g c = record {
  noted = noted_on _ _ _ (noted_on _ _ _ c.loop.invariant.noted (made_notes _ _ _ _ _ _ c.in-Over.ensures.made)) c.state.ensures.facts;
  decided_so = inl (over_as_read c.state.new.side.known.view _ c.state.result c.state.ensures.stands (sym c.is_over.ensures ∙ c.if-is_over.true));
}

pub loop-preserved : goal.loop-preserved
loop-preserved g c =
    let h = c.loop.invariant in
    let m = c.in-Over.ensures.made in
    let k = c.state.ensures in
    let known = known_sub _ _ k.facts.facts _ (known_sub _ _ m.facts _ h.known) in record {
      trusts = k.stays.trusts;
      own = k.clear.own;
      stands = subst (λ (w : Work). Stands c.args.shape.now c.state.new.side.known.view w) (sym c.go_about.ensures) (k.clear.owes, known);
      known = known;
      stays = stays_on _ _ _ (stays_on _ _ _ h.stays m.steps.stays) k.stays.stays;
      noted = noted_on _ _ _ (noted_on _ _ _ h.noted (made_notes _ _ _ _ _ _ m)) k.facts;
    }

pub state-requires : goal.state-requires
state-requires g c =
    let e = c.in-Over.ensures in
    record { trusts = e.made.trusts; clear = record { own = e.leads.0; owes = e.leads.1 }; known = known_sub _ _ e.made.facts _ c.loop.invariant.known }
