use Rattle.std.proofs.Common.{◌≡◌, ℕ, ◌+◌, ◌*◌, ◌-◌, ◌≤◌, List, ◌++◌, length, take, arith, rules, refl, length-append, length-take}
use Rattle.std.proofs.lemmas.Result.{err_from_is_err_and}
use Rattle.std.proofs.lemmas.Slice.{take-put_mid}
use Rattle.std.proofs.lemmas.List.Elements.{All-append}
use borrow.Rule.Slice.PartMut.{post_of, put_mid}
use Rattle.rh_layout.specs.Key.{IsKey}
use Rattle.rh_bytes.proofs.Taking.{takes_nothing, takes_both}
use Rattle.rh_bytes.proofs.Many.{more_fails, more_got, none_yet}
use Rattle.rh_key_files.specs.Reading.{is_silent, key_at}
use Rattle.rh_key_files.proofs.Bounds.{keys_stop}
use Rattle.rh_key_files.proofs.Interrupted.{cut_later}
use Rattle.rh_key_files.proofs.batch.read_keys.Goals as goal

-- a part of a batch lies within it
part_inside : (a k : ℕ) (batch keys : List ℕ) → a ≤ length batch → a + length keys ≤ length (put_mid a k batch keys)
part_inside a k batch keys inside =
    omega (arith, length-append (take a batch) (keys ++ post_of a k batch), length-append keys (post_of a k batch), length-take a batch)

pub loop-done-init : goal.loop-done-init
loop-done-init g c =
    record { within = omega arith; read = none_yet _ is_silent _ _; in_range = λ k d less. absurd (omega arith); takes = takes_nothing _ _; fine = refl }

pub returns-in_err-read_part-clause-run : goal.returns-in_err-read_part-clause-run
returns-in_err-read_part-clause-run g c =
    let p = err_from_is_err_and c.from_residual.result c.from_residual.ensures.1 in
    let done = c.loop-done.done in
    let part = c.in_err-read_part.ensures.run in
    let len : length c.read_part.new.keys ≡ c.min-many.result = search rules in
    let within = part_inside done _ c.loop-done.batch c.read_part.new.keys c.loop-done.invariant.within in
    rw (p.1, p.2) (record {
      reads = record {
        known = more_fails (key_at c.args.version) is_silent c.args.index done (c.args.index + done) (length c.read_part.new.keys) _ _ _ _ (take done c.loop-done.batch) _ _ _ refl within c.loop-done.invariant.read part.known;
        takes = keys_stop _ c.args.version c.args.index done (c.args.index + done) (length c.read_part.new.keys) _ _ _ _ _ refl (omega (arith, len, c.min-many.ensures)) within c.loop-done.invariant.takes part.takes part.known;
        counts = search rules;
      };
      tested = λ failed. cut_later c.args.version c.args.index done (c.args.index + done) (length c.read_part.new.keys) _ _ _ _ (take done c.loop-done.batch) refl within c.loop-done.invariant.read (part.tested (search failed));
      no_memory = search rules;
    })

pub loop-done-preserved : goal.loop-done-preserved
loop-done-preserved g c =
    let done = c.loop-done.done in
    let batch = c.loop-done.batch in
    let keys = c.read_part.new.keys in
    let now = done + c.min-many.result in
    let len : length keys ≡ c.min-many.result = search rules in
    let later : now ≡ done + length keys = omega (arith, len) in
    let both : take now (put_mid done (now - done) batch keys) ≡ take done batch ++ keys = take-put_mid done (now - done) batch keys now later c.loop-done.invariant.within in
    record {
      within = omega (arith, len, part_inside done (now - done) batch keys c.loop-done.invariant.within);
      read = more_got (key_at c.args.version) is_silent c.args.index done (c.args.index + done) (length keys) now _ _ _ (take done batch) keys _ refl later both c.loop-done.invariant.read c.in_ok-read_part.ensures.run.known;
      in_range = rw both (All-append IsKey (take done batch) keys c.loop-done.invariant.in_range c.in_ok-read_part.ensures.in_range);
      takes = takes_both _ _ _ (8 * done) (8 * length keys) _ c.loop-done.invariant.takes c.in_ok-read_part.ensures.run.takes (omega (arith, later));
      fine = search rules;
    }
