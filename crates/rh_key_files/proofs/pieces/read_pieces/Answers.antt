use Rattle.std.proofs.Common.{rules, ◌≡◌, ◌*◌, ◌+◌, ◌-◌, min, [], refl, ap, arith, append-nil}
use Rattle.std.proofs.lemmas.List.Concat.{flat_map-append}
use Rattle.std.proofs.lemmas.Result.{err_from_is_err_and}
use Rattle.rh_bytes.proofs.Many.{more_fails, more_got, none_yet}
use Rattle.rh_bytes.proofs.Reading.{Reads-begins, Reads-seen}
use Rattle.rh_key_files.specs.declared.header.Header.{Header}
use Rattle.rh_bytes.proofs.Taking.{takes_both, takes_fewer, takes_nothing}
use Rattle.rh_key_files.proofs.PieceBounds as bounds
use Rattle.rh_key_files.proofs.PieceBounds.{NumberRead, all_taken, memory_stops, number_stops, piece_stops}
use Rattle.rh_bytes.specs.Counting.{inner_of}
use Rattle.rh_bytes.specs.Input.{always}
use Rattle.rh_bytes.specs.declared.counted.Counted.{Counted}
use Rattle.rh_key_files.specs.Reading.{header_behind, is_silent, key_at}
use Rattle.rh_key_files.proofs.Interrupted.{cut_later}
use Rattle.rh_key_files.proofs.Tested.{behind_long, good_cut, good_front, good_in_header, good_moved, good_whole, header_of}
use Rattle.rh_key_files.proofs.Whole.{all_read, as_many, behind_number, end_stops, keys_stop, number_faults}
use Rattle.rh_key_files.proofs.pieces.read_pieces.Goals as goal

pub returns-in_err-count-clause-list : goal.returns-in_err-count-clause-list
returns-in_err-count-clause-list g c =
    let p = err_from_is_err_and c.from_residual.result c.from_residual.ensures.1 in
    let number = c.in_err-count.ensures in
    rw (p.1, p.2) (record {
      known = number_faults _ c.args.version _ _ _ _ number.known;
      takes = number_stops _ _ _ number.takes;
      counts = search rules;
      memory = search rules;
      tested = λ _. good_in_header (header_behind c.args.version) 8 _ _ (behind_long c.args.version) number.takes;
      tested_too = search rules;
    })

pub loop-taken-init : goal.loop-taken-init
loop-taken-init g c = rw c.new-pieces.ensures.items (record { within = omega arith; read = none_yet _ is_silent _ _; in_range = λ k d less. absurd (omega (arith, less)); takes = takes_nothing _ _; fine = search rules })

pub returns-in_err-piece-clause-list : goal.returns-in_err-piece-clause-list
returns-in_err-piece-clause-list g c =
    let p = err_from_is_err_and c.from_residual-in_err-piece.result c.from_residual-in_err-piece.ensures.1 in
    let taken = c.loop-taken.taken in
    let count = c.in_ok-count.count in
    let many = min (count - taken) 65536 in
    let read = c.loop-taken.invariant.read in
    let piece = c.in_err-piece.ensures in
    let number : NumberRead _ _ count = record { read = c.in_ok-count.ensures.known; taken = c.in_ok-count.ensures.takes } in
    let header = header_of c.args.version _ _ count number.read in
    rw (p.1, p.2) (record {
      known = behind_number _ c.args.version count _ _ _ _ number.read (keys_stop _ c.args.version count _ _ _ (λ u. []) _
          (more_fails (key_at c.args.version) is_silent 0 taken taken many count _ _ _ _ _ (λ u. []) _ (omega arith) (omega arith) read piece.reads.known));
      takes = piece_stops _ _ _ _ c.args.version count taken many _ _ number (omega arith) c.loop-taken.invariant.takes piece.reads.takes piece.reads.known;
      counts = search rules;
      memory = λ _. Reads-begins is_silent _ _ (header_behind c.args.version) (λ (h : Header). h) _ header;
      tested = λ failed. good_cut (header_behind c.args.version) _ _ _ (record { version = c.args.version; count = count }) header
          (cut_later c.args.version 0 taken taken many count _ _ _ _ (omega arith) (omega arith) read (piece.tested (search failed)));
      tested_too = λ memory. good_moved (header_behind c.args.version) _ _ _ (ap (λ (r : Counted g.row.R.Denot). g.R.Read.remaining (inner_of r)) (piece.memory (search memory)))
          (good_front (header_behind c.args.version) _ _ _ (record { version = c.args.version; count = count }) taken _ header c.loop-taken.invariant.within read);
    })

pub loop-taken-preserved : goal.loop-taken-preserved
loop-taken-preserved g c =
    let taken = c.loop-taken.taken in
    let piece = c.in_ok-piece.piece in
    let many = min (c.in_ok-count.count - taken) 65536 in
    let len : c.len.result ≡ many = search rules in
    record {
      within = omega (arith, len);
      read = more_got (key_at c.args.version) is_silent 0 taken taken many _ _ _ _ _ piece.items _ (omega arith) (omega (arith, len)) (rw c.in-Ok.ensures.items (rw flat_map-append (rw append-nil refl))) c.loop-taken.invariant.read (Reads-seen is_silent _ _ _ (λ p. p.items) (always {X = Unit {0}} piece.items) piece tt refl c.in_ok-piece.ensures.reads.known);
      in_range = search rules;
      takes = takes_both _ _ _ (8 * taken) (8 * many) _ c.loop-taken.invariant.takes c.in_ok-piece.ensures.reads.takes (omega (arith, len));
      fine = search rules;
    }

pub returns-in_default-clause-list : goal.returns-in_default-clause-list
returns-in_default-clause-list g c =
    let taken = c.loop-taken.taken in
    let count = c.in_ok-count.count in
    let piece = c.in_ok-piece.piece in
    let many = min (count - taken) 65536 in
    let number : NumberRead _ _ count = record { read = c.in_ok-count.ensures.known; taken = c.in_ok-count.ensures.takes } in
    let header = header_of c.args.version _ _ count number.read in
    record {
      known = search rules;
      takes = memory_stops _ _ _ count (taken + many) number (omega arith) (takes_both _ _ _ (8 * taken) (8 * many) (8 * (taken + many)) c.loop-taken.invariant.takes c.in_ok-piece.ensures.reads.takes (omega arith));
      counts = search rules;
      memory = λ _. Reads-begins is_silent _ _ (header_behind c.args.version) (λ (h : Header). h) _ header;
      tested = search rules;
      tested_too = λ _. good_front (header_behind c.args.version) _ _ _ (record { version = c.args.version; count = count }) (taken + many) _ header (omega arith)
          (more_got (key_at c.args.version) is_silent 0 taken taken many (taken + many) _ _ _ _ piece.items _ (omega arith) refl refl c.loop-taken.invariant.read (Reads-seen is_silent _ _ _ (λ p. p.items) (always {X = Unit {0}} piece.items) piece tt refl c.in_ok-piece.ensures.reads.known));
    }

pub returns-in_err-read_end-clause-list : goal.returns-in_err-read_end-clause-list
returns-in_err-read_end-clause-list g c =
    let p = err_from_is_err_and c.from_residual-in_err-read_end.result c.from_residual-in_err-read_end.ensures.1 in
    let count = c.in_ok-count.count in
    let number : NumberRead _ _ count = record { read = c.in_ok-count.ensures.known; taken = c.in_ok-count.ensures.takes } in
    let end = c.in_err-read_end.ensures in
    let all : c.loop-taken.taken ≡ count = omega arith in
    let keys = as_many _ _ _ _ _ _ _ all c.loop-taken.invariant.read in
    rw (p.1, p.2) (record {
      known = behind_number _ c.args.version count _ _ _ _ number.read (end_stops _ c.args.version count _ _ _ _ keys _ _ _ end.known);
      takes = bounds.end_stops _ _ _ _ count _ _ number end.no_memory (takes_fewer _ _ (8 * c.loop-taken.taken) (8 * count) c.loop-taken.invariant.takes (omega (arith, all))) end.takes end.known;
      counts = search rules;
      memory = search rules;
      tested = λ _. good_whole (header_behind c.args.version) _ _ _ _ (record { version = c.args.version; count = count }) 1 _ (header_of c.args.version _ _ count number.read) keys end.takes;
      tested_too = search rules;
    })

pub returns-clause-list : goal.returns-clause-list
returns-clause-list g c =
    let count = c.in_ok-count.count in
    let number : NumberRead _ _ count = record { read = c.in_ok-count.ensures.known; taken = c.in_ok-count.ensures.takes } in
    let end = c.in_ok-read_end.ensures in
    let all : c.loop-taken.taken ≡ count = omega arith in
    record {
      known = behind_number _ c.args.version count _ _ _ _ number.read (all_read _ c.args.version count _ _ _ _ (as_many _ _ _ _ _ _ _ all c.loop-taken.invariant.read) c.loop-taken.pieces refl end.known);
      takes = all_taken _ _ _ _ count number (takes_fewer _ _ (8 * c.loop-taken.taken) (8 * count) c.loop-taken.invariant.takes (omega (arith, all))) end.takes;
      counts = search rules;
      memory = search rules;
      tested = search rules;
      tested_too = search rules;
    }
