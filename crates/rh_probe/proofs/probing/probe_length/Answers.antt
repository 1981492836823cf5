use Rattle.std.proofs.Common.{rules, ◌≡◌, ◌+◌, ◌^◌, ◌<◌, length, arith, true}
use Rattle.std.proofs.Math.Nat.{mod-lt}
use Rattle.rh_layout.specs.Order.{home_of}
use Rattle.rh_layout.proofs.LayoutLemmas.{low_of}
use Rattle.rh_probe.proofs.ProbeLemmas.{walk_starts, walk_goes_on, passed_more, passed_all}
use Rattle.rh_probe.proofs.probing.probe_length.Goals as goal

pub loop-i-init : goal.loop-i-init
loop-i-init c = record {
  in_table = c.home-cell.ensures.in_table;
  at = walk_starts (2 ^ c.args.bits) (home_of c.args.bits c.args.key) c.home-cell.result (low_of c.args.bits c.requires.bits c.args.key) c.home-cell.ensures.value;
  passed = λ d _ less. absurd (omega arith);
}

pub loop-i-preserved : goal.loop-i-preserved
loop-i-preserved c =
    let n = 2 ^ c.args.bits in
    let h = home_of c.args.bits c.args.key in
    let kept = c.loop-i.invariant in
    let i_in : c.loop-i.i < n = omega arith in
    let beaten : c.beats.result ≡ true = search rules in
    record {
      in_table = rw c.next_cell-cell.ensures (rw c.requires.size (mod-lt (c.loop-i.cell + 1) (omega arith)));
      at = walk_goes_on n (length c.args.cells.now) h c.loop-i.i c.loop-i.cell c.next_cell-cell.result c.requires.size (low_of c.args.bits c.requires.bits c.args.key) i_in kept.at c.next_cell-cell.ensures;
      passed = passed_more c.args.bits c.args.cells.now c.args.key c.loop-i.i c.loop-i.cell c.requires.bits kept.at kept.passed (c.in-Some.found, (omega (arith, kept.in_table), c.in-Some.ensures), c.beats.ensures.0 beaten);
    }

pub unreachable-requires : goal.unreachable-requires
unreachable-requires c = passed_all c.args.bits c.args.cells.now c.args.key c.loop-i.i c.requires.bits c.requires.size (omega arith) c.loop-i.invariant.passed c.requires.free
