use Rattle.std.proofs.Common.{◌≡◌, ◌∙◌, List, ℕ, length, sym, ap, subst, rules}
use Rattle.rh_layout.specs.Layout.{IsLayout, keys_of}
use Rattle.rh_acts.specs.Workers.{LeavesRoom}
use Rattle.rh_interleaving.specs.Made.{cut}
use Rattle.rh_interleaving.proofs.Setting.{will_claim}
use Rattle.rh_interleaving.proofs.Starting.{has_room, are_workers, no_fault}
use Rattle.rh_interleaving.proofs.player.Player.share_with_rooms.Goals as goal

pub shape_for-shape-requires-clause-workers : goal.shape_for-shape-requires-clause-workers
shape_for-shape-requires-clause-workers c =
    let all : length c.args.keys.now ≡ cut (length c.args.keys.now) = search rules in
    are_workers c.args.kind c.args.bits c.args.cells.now c.args.workers c.args.keys.now (c.in_ok-test_table.ensures.tests c.args.keys.now all) c.in_ok-test_table.ensures.layout

pub set_up-requires-clause-opening : goal.set_up-requires-clause-opening
set_up-requires-clause-opening c = subst (λ (n : ℕ). IsLayout n c.args.cells.now) (sym c.shape_for-shape.ensures.bits_are) c.in_ok-test_table.ensures.layout

pub set_up-requires-clause-room : goal.set_up-requires-clause-room
set_up-requires-clause-room c =
    let all : length c.args.keys.now ≡ cut (length c.args.keys.now) = search rules in
    subst (λ (keys : List ℕ). LeavesRoom c.args.kind c.shape_for-shape.result.bits (keys_of c.args.cells.now) keys) (sym (c.in_ok-keys.ensures.items_if_clones_equal (λ x y e. e)))
    (subst (λ (n : ℕ). LeavesRoom c.args.kind n (keys_of c.args.cells.now) c.args.keys.now) (sym c.shape_for-shape.ensures.bits_are)
    (has_room c.args.kind c.args.bits c.args.cells.now c.args.workers c.args.keys.now (c.in_ok-test_table.ensures.tests c.args.keys.now all) c.in_ok-test_table.ensures.layout))

pub returns : goal.returns
returns c =
    let all : length c.args.keys.now ≡ cut (length c.args.keys.now) = search rules in
    let start = c.in_ok-set_up.ensures.start in
    let same = c.in_ok-set_up.ensures.shape in
    let is = c.shape_for-shape.ensures in
    let keys_are = c.in_ok-keys.ensures.items_if_clones_equal (λ x y e. e) in
    let shared : c.len.result ≡ length c.args.keys.now = c.len.ensures ∙ c.in_ok-keys.keys.ok.0 ∙ ap length keys_are in (
      no_fault c.args.kind c.args.bits c.args.cells.now c.args.workers c.args.keys.now (c.in_ok-test_table.ensures.tests c.args.keys.now all) (sym c.are_keys.ensures ∙ c.if-not-are_keys.false),
      record {
        sizes = record {
          bits_are = ap (λ z. z.bits) same ∙ is.bits_are;
          workers_are = ap (λ z. z.workers) same ∙ is.workers_are;
          rooms_are = ap (λ z. z.rooms) same ∙ is.rooms_are;
          shared_is = ap (λ z. z.keys) same ∙ is.shared_is ∙ shared;
        };
        start = record {
          kind_is = start.kind_is;
          opening_is = start.opening_is;
          keys_are = start.keys_are ∙ keys_are;
          starts = start.starts;
        };
        claims = will_claim c.in_ok-shares.shares.items c.in_ok-set_up.field-0.hands (c.in_ok-set_up.ensures.shares ∙ c.deref.ensures.value) c.in_ok-shares.ensures.all;
      },
    )
