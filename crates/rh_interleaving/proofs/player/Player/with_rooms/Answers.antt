use Rattle.std.proofs.Common.{◌≡◌, ◌∙◌, List, ℕ, length, sym, subst, true}
use Rattle.std.specs.Prelude.{All}
use Rattle.rh_layout.specs.Key.{IsKey}
use Rattle.rh_layout.specs.Layout.{IsLayout, keys_of}
use Rattle.rh_acts.specs.Workers.{LeavesRoom}
use Rattle.rh_interleaving.specs.SetUp.{AreDealt}
use Rattle.rh_interleaving.specs.Start.{HasSizes, are_keys, keys_of_pieces}
use Rattle.rh_interleaving.proofs.Starting.{all_keys, has_room, are_workers, made_none, no_fault, pieces_are, refuses_key, refuses_memory}
use Rattle.rh_interleaving.proofs.player.Player.with_rooms.Goals as goal

pub returns-then-not-are_all_keys : goal.returns-then-not-are_all_keys
returns-then-not-are_all_keys c =
    refuses_key c.args.kind c.args.bits c.args.cells.now (length c.args.pieces.now) (keys_of_pieces c.args.pieces.now)
    (c.in_ok-test_table.ensures.tests (keys_of_pieces c.args.pieces.now) c.count_keys.ensures) (sym c.are_all_keys.ensures ∙ c.if-not-are_all_keys.true)

pub returns-in_err-keys : goal.returns-in_err-keys
returns-in_err-keys c =
    made_none _ _ c.from_residual-in_err-keys.result _ c.from_residual-in_err-keys.ensures.0 c.from_residual-in_err-keys.ensures.1 (λ given gives. gives)
    (refuses_memory c.args.kind c.args.bits c.args.cells.now (length c.args.pieces.now) (keys_of_pieces c.args.pieces.now)
    (c.in_ok-test_table.ensures.tests (keys_of_pieces c.args.pieces.now) c.count_keys.ensures) (sym c.are_all_keys.ensures ∙ c.if-not-are_all_keys.false))

pub shape_for-shape-requires-clause-workers : goal.shape_for-shape-requires-clause-workers
shape_for-shape-requires-clause-workers c =
    are_workers c.args.kind c.args.bits c.args.cells.now (length c.args.pieces.now) (keys_of_pieces c.args.pieces.now) (c.in_ok-test_table.ensures.tests (keys_of_pieces c.args.pieces.now) c.count_keys.ensures) c.in_ok-test_table.ensures.layout

pub set_up-requires-clause-opening : goal.set_up-requires-clause-opening
set_up-requires-clause-opening c = subst (λ (n : ℕ). IsLayout n c.args.cells.now) (sym c.shape_for-shape.ensures.bits_are) c.in_ok-test_table.ensures.layout

pub set_up-requires-clause-room : goal.set_up-requires-clause-room
set_up-requires-clause-room c =
    subst (λ (keys : List ℕ). LeavesRoom c.args.kind c.shape_for-shape.result.bits (keys_of c.args.cells.now) keys) (sym c.in_ok-keys.ensures.keys)
    (subst (λ (n : ℕ). LeavesRoom c.args.kind n (keys_of c.args.cells.now) (keys_of_pieces c.args.pieces.now)) (sym c.shape_for-shape.ensures.bits_are)
    (has_room c.args.kind c.args.bits c.args.cells.now (length c.args.pieces.now) (keys_of_pieces c.args.pieces.now)
    (c.in_ok-test_table.ensures.tests (keys_of_pieces c.args.pieces.now) c.count_keys.ensures) c.in_ok-test_table.ensures.layout))

pub set_up-requires-clause-keys : goal.set_up-requires-clause-keys
set_up-requires-clause-keys c =
    subst (λ (keys : List ℕ). All IsKey keys) (sym c.in_ok-keys.ensures.keys) (all_keys (keys_of_pieces c.args.pieces.now) (sym c.are_all_keys.ensures ∙ c.if-not-are_all_keys.false))

pub returns-in_err-set_up : goal.returns-in_err-set_up
returns-in_err-set_up c =
    made_none _ _ c.from_residual-in_err-set_up.result _ c.from_residual-in_err-set_up.ensures.0 c.from_residual-in_err-set_up.ensures.1 (λ given gives. gives)
    (refuses_memory c.args.kind c.args.bits c.args.cells.now (length c.args.pieces.now) (keys_of_pieces c.args.pieces.now)
    (c.in_ok-test_table.ensures.tests (keys_of_pieces c.args.pieces.now) c.count_keys.ensures) (sym c.are_all_keys.ensures ∙ c.if-not-are_all_keys.false))

pub returns : goal.returns
returns c =
    let good : are_keys (keys_of_pieces c.args.pieces.now) ≡ true = sym c.are_all_keys.ensures ∙ c.if-not-are_all_keys.false in
    let g = c.in_ok-set_up.field-0 in
    let start = c.in_ok-set_up.ensures.start in
    let keys_are = start.keys_are ∙ c.in_ok-keys.ensures.keys in (
      no_fault c.args.kind c.args.bits c.args.cells.now (length c.args.pieces.now) (keys_of_pieces c.args.pieces.now)
          (c.in_ok-test_table.ensures.tests (keys_of_pieces c.args.pieces.now) c.count_keys.ensures) good,
      record {
        sizes = subst (HasSizes c.args.bits (length c.args.pieces.now) c.args.rooms 0) (sym c.in_ok-set_up.ensures.shape) c.shape_for-shape.ensures;
        start = record { kind_is = start.kind_is; opening_is = start.opening_is; keys_are = keys_are; starts = start.starts };
        pieces_are = pieces_are c.args.pieces.now c.in_ok-keys.shares.items g (c.in_ok-set_up.ensures.shares ∙ c.deref.ensures.value)
            (subst (λ (keys : List ℕ). AreDealt keys c.in_ok-keys.shares.items c.args.pieces.now) (sym start.keys_are) c.in_ok-keys.ensures.each);
      },
    )
