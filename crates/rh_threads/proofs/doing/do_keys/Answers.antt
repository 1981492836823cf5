use Rattle.std.proofs.Common.{◌≡◌, ◌∙◌, ap, refl, subst, sym, true, true≢false, Bool}
use Rattle.std.specs.Prelude.{slice_index}
use Rattle.rh_shared.specs.Seats.{view_of}
use Rattle.rh_threads.specs.Buffer.{HasBufferRoom}
use Rattle.rh_threads.specs.Hands.{left_over}
use Rattle.rh_threads.proofs.Standing.{among, claims_on, stands_done, stands_left, works_on}
use Rattle.rh_threads.proofs.doing.do_keys.Goals as goal

pub loop-preserved : goal.loop-preserved
loop-preserved g c =
    let z = c.args.table.now.shape in
    let keys = c.args.keys.now in
    let n = c.next_key.new.hand in
    let then = c.count.new.self in
    let next = c.next_key.ensures in
    let e = c.in-Some-do_in_buffer.ensures in
    let has : n.has_key ≡ true = c.if-not-next_key.ensures.has_key refl in
    let key = slice_index keys n.position in
    record {
      works = works_on c.loop.invariant.works (works_on next.works (record {
        stays = e.stays;
        hand = record {
          room = subst (HasBufferRoom z.bits) (sym c.count.ensures.buffer) e.room;
          within = λ still. absurd (true≢false (sym still ∙ c.count.ensures.no_key));
          claims = claims_on z n then (view_of c.next_key.new.seat) (view_of c.do_in_buffer.new.seat) next.works.hand.claims c.count.ensures.ended e.ends.claims;
        };
        stands = λ past was. stands_done z keys past n then (view_of c.next_key.new.seat) (view_of c.do_in_buffer.new.seat) was key
            (among keys n.position key (next.works.hand.within has) refl) refl c.count.ensures.kind e.ends.claims e.ends.opening has c.in-Some-do_in_buffer.answer e.ends.furthers
            c.count.ensures.no_key c.count.ensures.done c.count.ensures.changed c.count.ensures.found;
      }));
    }

pub returns-in-None-do_in_buffer-clause-works : goal.returns-in-None-do_in_buffer-clause-works
returns-in-None-do_in_buffer-clause-works g c =
    let z = c.args.table.now.shape in
    let keys = c.args.keys.now in
    let n = c.next_key.new.hand in
    let next = c.next_key.ensures in
    let e = c.in-None-do_in_buffer.ensures in
    let has : n.has_key ≡ true = c.if-not-next_key.ensures.has_key refl in
    let key = slice_index keys n.position in
    works_on c.loop.invariant.works (works_on next.works (record {
      stays = e.stays;
      hand = record {
        room = e.room;
        within = next.works.hand.within;
        claims = claims_on z n _ (view_of c.next_key.new.seat) (view_of c.do_in_buffer.new.seat) next.works.hand.claims refl e.ends.0.claims;
      };
      stands = λ past was. stands_left z keys past n _ (view_of c.next_key.new.seat) (view_of c.do_in_buffer.new.seat) was key
          (among keys n.position key (next.works.hand.within has) refl) refl refl e.ends.0.claims e.ends.0.opening has e.ends.0.furthers (ap (λ (b : Bool). left_over b n.position) has) refl refl refl;
    }))
