use Rattle.std.proofs.Common.{rules, ◌≡◌, ◌<◌, ◌^◌, length, arith, refl, true}
use Rattle.std.proofs.lemmas.Nat.{one_shl}
use Rattle.rh_layout.specs.Key.{IsBits}
use Rattle.rh_layout.specs.Layout.{keys_of}
use Rattle.rh_layout.proofs.PlacedLemmas.{placed_more, layout_from_placed, placed_from_layout}
use Rattle.rh_layout.proofs.TestLemmas.{not_tested, tested}
use Rattle.rh_layout.proofs.table.is_layout.Goals as goal

pub returns-then-bits-lt-MIN_BITS-clause-test : goal.returns-then-bits-lt-MIN_BITS-clause-test
returns-then-bits-lt-MIN_BITS-clause-test c =
    not_tested c.args.bits c.args.cells.now (λ layout.
    let few : c.args.bits < 64 = omega (arith, layout.bits) in
    grind (arith, layout.bits, layout.size, one_shl c.args.bits 64 few))

pub returns-then-not-is_placed-clause-layout : goal.returns-then-not-is_placed-clause-layout
returns-then-not-is_placed-clause-layout c = (
  λ h. (cc),
  λ layout.
      let c_in : c.loop-cell.cell < 2 ^ c.args.bits = omega (arith, layout.size) in
      let placed : c.is_placed.result ≡ true = c.is_placed.ensures.1 (placed_from_layout c.args.bits c.args.cells.now (keys_of c.args.cells.now) layout c.loop-cell.cell c_in) in
      (cc),
)

pub returns-then-not-is_placed-clause-test : goal.returns-then-not-is_placed-clause-test
returns-then-not-is_placed-clause-test c = tested c.args.bits c.args.cells.now _ (returns-then-not-is_placed-clause-layout c)

pub returns-clause-layout : goal.returns-clause-layout
returns-clause-layout c = (
  λ _. let fits : IsBits c.args.bits = (omega arith, omega arith) in
      let size : length c.args.cells.now ≡ 2 ^ c.args.bits = omega (arith, one_shl c.args.bits 64 (omega arith)) in
      layout_from_placed c.args.bits c.args.cells.now fits size (λ d d_in. c.loop-cell.invariant d (omega arith)),
  λ _. refl,
)

pub returns-clause-test : goal.returns-clause-test
returns-clause-test c = tested c.args.bits c.args.cells.now _ (returns-clause-layout c)

pub loop-cell-preserved : goal.loop-cell-preserved
loop-cell-preserved c =
    let placed : c.is_placed.result ≡ true = search rules in
    placed_more c.args.bits c.args.cells.now c.loop-cell.cell c.loop-cell.invariant (c.is_placed.ensures.0 placed)
