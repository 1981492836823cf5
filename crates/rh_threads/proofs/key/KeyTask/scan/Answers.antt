use Rattle.std.proofs.Common.{◌≡◌, ◌+◌, ◌<◌, ℕ, Bool, List, length, length-set, true≢false, rules, subst, sym, ◌∙◌, set, take, arith}
use Rattle.std.proofs.lemmas.List.{take_all}
use Rattle.rh_layout.specs.Order.{home_of}
use Rattle.rh_layout.specs.Round.{cell_ahead}
use Rattle.rh_tagword.proofs.PlainWords.{value_said}
use Rattle.rh_words.specs.Parts.{cell_count}
use Rattle.rh_order.specs.History.{kept_of}
use Rattle.rh_shared.specs.Seats.{view_of}
use Rattle.rh_worker.specs.Reading.{HasScanned}
use Rattle.rh_worker.proofs.Keeping.{value_read}
use Rattle.rh_threads.proofs.Keying.{cell_read, only_read, one_value, scan_tells, stays_on}
use Rattle.rh_threads.specs.Scanning.{AllArePassed, IsPassed}
use Rattle.rh_threads.proofs.Scanning.{goes_on, is_open, is_placed_then}
use Rattle.rh_threads.proofs.key.KeyTask.scan.Goals.{else-may_decide, then-may_decide+in-More}
use Rattle.rh_threads.proofs.key.KeyTask.scan.Goals as goal

pub returns-in_default-clause-scans : goal.returns-in_default-clause-scans
returns-in_default-clause-scans g c =
    let h = c.loop-count.invariant in
    let e = c.read.ensures in
    record { reads = only_read h.stays.rests.rested e.stays.rests.rested h.reads (search rules) e.acts e.reads; leads = search rules }

pub returns-in-Acts-clause-scans : goal.returns-in-Acts-clause-scans
returns-in-Acts-clause-scans g c =
    let h = c.loop-count.invariant in
    let e = c.read.ensures in
    record { reads = only_read h.stays.rests.rested e.stays.rests.rested h.reads (search rules) e.acts e.reads; leads = search rules }

pub returns-in-Done-clause-scans : goal.returns-in-Done-clause-scans
returns-in-Done-clause-scans g c =
    let z = c.args.self.now.table.now.shape in
    let l = c.loop-count in
    let h = l.invariant in
    let e = c.read.ensures in
    let value = c.unwrap-value.result in
    let at : c.cell_after-cell.result ≡ cell_ahead (cell_count z) (home_of z.bits c.args.self.now.key) l.count = cc in
    let said = value_said c.plain_value.result c.in-Some.word value c.plain_value.ensures c.unwrap-value.ensures in
    let within : l.count < length l.seen = (let t = c.loop-count-test.true in let s = h.seen in omega (arith, t, s)) in
    let long = length-set l.seen l.count value in
    record {
      reads = only_read h.stays.rests.rested e.stays.rests.rested h.reads (search rules) e.acts e.reads;
      leads = scan_tells c.decide.new.entries (omega (arith, long, within)) (let s = h.seen in let r = c.requires.room.few in omega (arith, long, s, r))
          (cell_read c.in-Some.ensures.reads (value_read c.in-Some.word value said) (search rules) at within h.read) c.in-Done.ensures;
    }

pub returns-clause-scans : goal.returns-clause-scans
returns-clause-scans g c =
    let task = c.args.self.now in
    let z = task.table.now.shape in
    let l = c.loop-count in
    let h = l.invariant in
    let all : l.count ≡ length c.args.seen.now = (let t = c.loop-count-test.false in let w = h.within in let s = h.seen in omega (arith, t, w, s)) in
    record {
      reads = h.reads;
      leads = record {
        seen = l.seen;
        long = h.seen;
        read = subst (HasScanned z (kept_of z (view_of c.args.seat.now)) (view_of l.seat) task.key l.seen) all h.read;
        open_by = is_open l.is_placed task.kind z.bits task.key l.seen
            (subst (λ (seen : List ℕ). AllArePassed l.is_placed task.kind z.bits task.key seen) (take_all l.count l.seen (let s = h.seen in omega (arith, all, s))) h.passed);
      };
    }

pub loop-count-preserved : goal.loop-count-preserved
loop-count-preserved g c =
    let task = c.args.self.now in
    let z = task.table.now.shape in
    let b = z.bits in
    let k = task.key in
    let l = c.loop-count in
    let h = l.invariant in
    let e = c.read.ensures in
    let n = l.count in
    let value = c.unwrap-value.result in
    let at : c.cell_after-cell.result ≡ cell_ahead (cell_count z) (home_of b k) n = cc in
    let said = value_said c.plain_value.result c.in-Some.word value c.plain_value.ensures c.unwrap-value.ensures in
    let within : n < length l.seen = (let t = c.loop-count-test.true in let s = h.seen in omega (arith, t, s)) in
    let passed = λ (is : Bool). AllArePassed is task.kind b k (take (n + 1) (set l.seen n value)) in
    let passes = λ (cell : ℕ). IsPassed l.is_placed task.kind b k cell value in
    record {
      within = let t = c.loop-count-test.true in omega (arith, t);
      stays = stays_on h.stays.same e.stays;
      reads = only_read h.stays.rests.rested e.stays.rests.rested h.reads (search rules) e.acts e.reads;
      read = cell_read c.in-Some.ensures.reads (value_read c.in-Some.word value said) (search rules) at within h.read;
      passed = elim c.if-may_decide.branch [
        | then-may_decide+in-More w ↦ subst passed (sym w.is_placed-is) (is_placed_then b k l.seen n value within l.is_placed task.kind w.decide.new.entries h.passed
            (λ it. true≢false (sym w.if-may_decide.true ∙ c.may_decide.ensures.1 (subst passes (sym at) it))) w.in-More.ensures)
        | else-may_decide w ↦ subst passed (sym w.is_placed-is) (goes_on b k l.seen n value within l.is_placed task.kind h.passed (subst passes at (c.may_decide.ensures.0 w.if-may_decide.false)))
      ];
      values = one_value l.seen n value within said.0 h.values;
      seen = length-set l.seen n value ∙ h.seen;
      entries = search rules;
    }
