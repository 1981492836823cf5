use Rattle.std.proofs.Math.ListN.{length-set}
use Rattle.std.proofs.Common.{◌≡◌, ℕ, ◌+◌, ◌*◌, List, [], ◌∷◌, ◌++◌, ◌∙◌, Ok, refl, sym, ap, subst, length, take, rules, arith}
use Rattle.std.proofs.lemmas.Result.{err_from_is_err_and}
use Rattle.std.proofs.lemmas.List.{take_more_set, take_all}
use Rattle.sha2.specs.Hashers.{Holds256}
use Rattle.rh_bytes.specs.Counting.{inner_of}
use Rattle.rh_bytes.specs.Input.{always}
use Rattle.rh_bytes.proofs.Many.{more_fails, more_got, none_yet, one_fails, one_got}
use Rattle.rh_bytes.proofs.Parts.{number_fails, number_is}
use Rattle.rh_bytes.proofs.Reading.{Reads-seen}
use Rattle.rh_bytes.proofs.Taking.{takes_both, takes_nothing}
use Rattle.rh_snapshot.specs.declared.fault.SnapFault.TheVariants.{Short}
use Rattle.rh_snapshot.specs.Snapshot.{text_of}
use Rattle.rh_snapshot.specs.Reading.{ReadsSnap, is_snap_silent, nth_number, numbers_at}
use Rattle.rh_snapshot.proofs.Numbers.{text-more}
use Rattle.rh_snapshot.proofs.parts.fill_numbers.Goals as goal

pub returns-in_err-read_bytes-clause-reads : goal.returns-in_err-read_bytes-clause-reads
returns-in_err-read_bytes-clause-reads g c =
    let p = err_from_is_err_and c.from_residual.result c.from_residual.ensures.1 in
    let i = c.loop-slot.slot-index in
    let number = number_fails Short c.read_bytes.new.buf (search rules) c.in_err-read_bytes.ensures in
    rw (p.1, p.2) (record {
      known = more_fails nth_number is_snap_silent 0 i i 1 _ _ _ _ (take i c.loop-slot.numbers) (λ (u : Unit {0}). []) _ _ (omega arith) (search rules) c.loop-slot.invariant.read (one_fails nth_number is_snap_silent i _ _ (λ (u : Unit {0}). []) _ number.known);
      takes = takes_both _ _ _ (8 * i) 8 _ c.loop-slot.invariant.takes number.takes (omega (arith, length-set {A = ℕ}));
      counts = search rules;
      no_memory = search rules;
    })

pub loop-slot-init : goal.loop-slot-init
loop-slot-init g c = record { read = none_yet nth_number is_snap_silent 0 _; hashed = search rules; takes = takes_nothing _ _; fine = refl }

pub loop-slot-preserved : goal.loop-slot-preserved
loop-slot-preserved g c =
    let i = c.loop-slot.slot-index in
    let before = take i c.loop-slot.numbers in
    let eight = c.read_bytes.new.buf in
    let n : ℕ = c.number_of.result in
    let number = number_is Short eight (search rules) {n = n} c.in_ok-read_bytes.ensures c.number_of.ensures.value in
    let next = take_more_set c.loop-slot.numbers i n (search rules) in
    record {
      read = more_got nth_number is_snap_silent 0 i i 1 (i + 1) _ _ _ before (n ∷ []) _ (omega arith) refl next c.loop-slot.invariant.read (one_got nth_number is_snap_silent i n _ _ number.known);
      hashed = subst (Holds256 c.update.new.self) (ap (λ b. text_of c.args.header before ++ b) (sym c.number_of.ensures.spelled) ∙ text-more c.args.header before n ∙ ap (text_of c.args.header) (sym next))
          (c.update.ensures (text_of c.args.header before) c.loop-slot.invariant.hashed);
      takes = takes_both _ _ _ (8 * i) 8 _ c.loop-slot.invariant.takes number.takes (omega arith);
      fine = search rules;
    }

pub returns-clause-reads : goal.returns-clause-reads
returns-clause-reads g c =
    let numbers = c.loop-slot.numbers in
    let end : c.loop-slot.slot-index ≡ length numbers = omega arith in
    let whole : take c.loop-slot.slot-index numbers ≡ numbers = take_all c.loop-slot.slot-index numbers (omega arith) in
    let read = subst (λ n. ReadsSnap (g.R.Read.remaining (inner_of c.args.reader.now)) (g.R.Read.remaining (inner_of c.loop-slot.reader)) (numbers_at n) (always {X = Unit {0}} numbers) (Ok tt)) end (rw whole at c.loop-slot.invariant.read) in
    search (rules, Reads-seen is_snap_silent _ _ (numbers_at (length numbers)) (always {X = Unit {0}} numbers) (always {X = List ℕ} numbers) tt c.finalize.result refl read)
