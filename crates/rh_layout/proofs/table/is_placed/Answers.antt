use Rattle.std.proofs.Common.{◌≡◌, ◌^◌, ap, ◌∙◌, arith}
use Rattle.rh_layout.specs.Round.{cell_behind}
use Rattle.rh_layout.proofs.PlacedLemmas.{unplaced_out_of_range, placed_behind, beats_from_placed}
use Rattle.rh_layout.proofs.table.is_placed.Goals as goal

pub returns-then-key-gt-MAX_KEY : goal.returns-then-key-gt-MAX_KEY
returns-then-key-gt-MAX_KEY c = (
  λ h. (cc),
  λ placed. absurd (unplaced_out_of_range c.args.bits c.args.cells.now c.args.cell c.in-Some.key (omega arith, c.in-Some.ensures) (λ key. omega arith) placed),
)

pub returns-in-Some-key_in : goal.returns-in-Some-key_in
returns-in-Some-key_in c =
    let back : c.cell_before-before.result ≡ cell_behind (2 ^ c.args.bits) c.args.cell = c.cell_before-before.ensures.value ∙ ap (λ n. cell_behind n c.args.cell) c.requires.size in (
      λ beats. placed_behind c.args.bits c.args.cells.now c.args.cell c.in-Some.key (omega arith, c.in-Some.ensures) c.cell_before-before.result c.in-Some-key_in.found back (omega arith) (omega (arith, c.cell_before-before.ensures.in_table), c.in-Some-key_in.ensures) (c.beats.ensures.0 beats),
      λ placed. c.beats.ensures.1 (beats_from_placed c.args.bits c.args.cells.now c.args.cell c.in-Some.key (omega arith, c.in-Some.ensures) c.cell_before-before.result c.in-Some-key_in.found back (omega (arith, c.dist.ensures.value)) c.in-Some-key_in.ensures placed),
    )
