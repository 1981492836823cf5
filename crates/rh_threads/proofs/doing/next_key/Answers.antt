use Rattle.std.proofs.Common.{ℕ, Bool, refl, rules, sym, ap, ◌∙◌, true≢false, [], ◌∷◌, arith}
use Rattle.rh_shared.specs.Seats.{view_of}
use Rattle.rh_threads.specs.Hands.{left_over}
use Rattle.rh_threads.proofs.Standing.{claims_below, may_claim, stands_claimed, stands_ended}
use Rattle.rh_threads.proofs.doing.next_key.Goals as goal

pub claim-requires-clause-keys : goal.claim-requires-clause-keys
claim-requires-clause-keys g c = c.requires.at.hand.claims.below c.if-hand-2.false

pub returns-in_default-clause-works : goal.returns-in_default-clause-works
returns-in_default-clause-works g c =
    let z = c.args.table.now.shape in
    let v = view_of c.args.seat.now in
    let at = c.requires.at in
    let e = c.in_default.ensures in
    let may = may_claim z v at.rests.rested.clear at.rests.knows (at.hand.claims.below c.if-hand-2.false) in
    record {
      stays = e.stays;
      hand = search rules;
      stands = λ past was. stands_ended z c.args.keys.now past c.args.hand.now _ v (view_of c.claim.new.seat) was e.claims.position may e.claims.view_is e.stays.rests.knows.sound refl c.if-hand.false refl refl refl
          e.claims.is (ap (λ (b : Bool). left_over b c.args.hand.now.position) c.if-hand.false);
    }

pub returns-clause-works : goal.returns-clause-works
returns-clause-works g c =
    let z = c.args.table.now.shape in
    let v = view_of c.args.seat.now in
    let at = c.requires.at in
    let e = c.in-Some.ensures in
    let is = e.claims.is in
    let list = at.list in
    let below = at.hand.claims.below c.if-hand-2.false in
    let may = may_claim z v at.rests.rested.clear at.rests.knows below in
    record {
      stays = e.stays;
      hand = record {
        room = at.hand.room;
        within = λ _. omega (arith, is.0, is.1, list);
        claims = record {
          below = λ b n i. claims_below z v (view_of c.claim.new.seat) e.claims.position e.claims.view_is is.0 below n i;
          ended = λ b. absurd (true≢false (sym b ∙ c.if-hand-2.false));
        };
      };
      stands = λ past was. stands_claimed z c.args.keys.now past c.args.hand.now _ v (view_of c.claim.new.seat) was e.claims.position may e.claims.view_is e.stays.rests.knows.sound refl c.if-hand.false refl refl refl
          is.0 (ap (λ (n : ℕ). n ∷ []) is.1);
    }
