-- A whole snapshot, read by its header, its numbers, its seal and its end.
use Rattle.std.proofs.Common.{◌≡◌, ℕ, ◌^◌, true, false, List, [], Option, Result, Ok, Err, refl}
use Rattle.rh_bytes.specs.Input.{◌>>=◌, bytes_at, end_at}
use Rattle.rh_bytes.proofs.Reading.{Reads-err, Reads-fails, Reads-ok, Reads-then}
use Rattle.rh_snapshot.specs.declared.header.Header.{Header}
use Rattle.rh_snapshot.specs.declared.fault.SnapFault.{SnapFault}
use Rattle.rh_snapshot.specs.declared.fault.SnapFault.TheVariants.{Damaged, NotALayout, Long, Short}
use Rattle.rh_snapshot.specs.Snapshot.{Table, table_with}
use Rattle.rh_snapshot.specs.Reading.{ReadsSnap, snap_header_at, numbers_at, is_sealed, is_table, table_in, after_snap_header, after_numbers, snap_ended, file_table, is_snap_silent}

abbrev pub HeaderRead : (a b : Option (List ℕ)) → Result Header SnapFault → Type 0
HeaderRead a b r = ReadsSnap a b snap_header_at (λ (h : Header). h) r

abbrev SealRead : (c d : Option (List ℕ)) → Result (List ℕ) SnapFault → Type 0
SealRead c d r = ReadsSnap c d (bytes_at Short 32) (λ (s : List ℕ). s) r

module _ {X : Type 0} (view : X → Table) where
  pub header_faults : (a b : Option (List ℕ)) (e : SnapFault) → HeaderRead a b (Err e) → ReadsSnap a b file_table view (Err e)
  unfolding file_table
  header_faults a b e p = Reads-fails is_snap_silent a b b snap_header_at after_snap_header (λ (h : Header). h) view e p

  module _ {N : Type 0} (numbers_of : N → List ℕ) (header : Header) (a b : Option (List ℕ)) (begun : HeaderRead a b (Ok header)) where
    abbrev NumbersRead : (c : Option (List ℕ)) → Result N SnapFault → Type 0
    NumbersRead c r = ReadsSnap b c (numbers_at (2 ^ header.bits)) numbers_of r

    behind_header : (c : Option (List ℕ)) (r : Result X SnapFault) → ReadsSnap b c (λ bytes. after_snap_header (header, bytes)) view r → ReadsSnap a c file_table view r
    unfolding file_table
    behind_header c r later = Reads-then is_snap_silent a b c snap_header_at after_snap_header (λ (h : Header). h) view header r begun later

    pub numbers_fault : (c : Option (List ℕ)) (e : SnapFault) → NumbersRead c (Err e) → ReadsSnap a c file_table view (Err e)
    numbers_fault c e q = behind_header c (Err e) (Reads-fails is_snap_silent b c c (numbers_at (2 ^ header.bits)) (after_numbers header) numbers_of view e q)

    module _ (c : Option (List ℕ)) (n : N) (read : NumbersRead c (Ok n)) where
      -- the seal and then the table, of the numbers that were read
      abbrev sealed_table : List ℕ × List ℕ → Result (Table × List ℕ) SnapFault
      sealed_table seal = table_in header (numbers_of n) seal.0 >>= snap_ended seal.1

      behind_numbers : (d : Option (List ℕ)) (r : Result X SnapFault) → ReadsSnap c d (λ bytes. bytes_at Short 32 bytes >>= sealed_table) view r → ReadsSnap a d file_table view r
      behind_numbers d r later = behind_header d r (Reads-then is_snap_silent b c d (numbers_at (2 ^ header.bits)) (after_numbers header) numbers_of view n r read later)

      pub seal_faults : (d : Option (List ℕ)) (e : SnapFault) → SealRead c d (Err e) → ReadsSnap a d file_table view (Err e)
      seal_faults d e q = behind_numbers d (Err e) (Reads-fails is_snap_silent c d d (bytes_at Short 32) sealed_table (λ (s : List ℕ). s) view e q)

      module _ (d : Option (List ℕ)) (seal : List ℕ) (tested : SealRead c d (Ok seal)) where
        behind_seal : (last : Option (List ℕ)) (r : Result X SnapFault) → ReadsSnap d last (λ bytes. table_in header (numbers_of n) seal >>= snap_ended bytes) view r → ReadsSnap a last file_table view r
        behind_seal last r later = behind_numbers last r (Reads-then is_snap_silent c d last (bytes_at Short 32) sealed_table (λ (s : List ℕ). s) view seal r tested later)

        -- what was read, and is no table
        pub refused : (e : SnapFault) → table_in header (numbers_of n) seal ≡ Err e → ReadsSnap a d file_table view (Err e)
        refused e bad = behind_seal d (Err e) (Reads-err is_snap_silent d d (λ bytes. table_in header (numbers_of n) seal >>= snap_ended bytes) view e (λ bytes. rw bad refl))

        module _ (good : table_in header (numbers_of n) seal ≡ Ok (table_with header (numbers_of n) seal)) (v : Unit {0} → List ℕ) (last : Option (List ℕ)) where
          pub end_faults : (e : SnapFault) → ReadsSnap d last (end_at Long) v (Err e) → ReadsSnap a last file_table view (Err e)
          end_faults e q = behind_seal last (Err e) (rw good (Reads-fails is_snap_silent d last last (end_at Long) (λ end. Ok (table_with header (numbers_of n) seal, end.1)) v view e q))

          pub whole_ok : (done : X) → view done ≡ table_with header (numbers_of n) seal → ReadsSnap d last (end_at Long) v (Ok tt) → ReadsSnap a last file_table view (Ok done)
          whole_ok done is q =
              let ended : List ℕ × List ℕ → Result (Table × List ℕ) SnapFault = λ end. Ok (table_with header (numbers_of n) seal, end.1) in
              behind_seal last (Ok done) (rw good (Reads-then is_snap_silent d last last (end_at Long) ended v view tt (Ok done) q (Reads-ok is_snap_silent last (λ bytes. ended ([], bytes)) view done (λ bytes. rw is refl))))

-- ---- what was read, tested

pub damaged : (header : Header) (numbers seal : List ℕ) → is_sealed header numbers seal ≡ false → table_in header numbers seal ≡ Err Damaged
unfolding table_in
damaged header numbers seal bad = rw bad refl

pub no_layout : (header : Header) (numbers seal : List ℕ) → is_sealed header numbers seal ≡ true → is_table header numbers ≡ false → table_in header numbers seal ≡ Err NotALayout
unfolding table_in
no_layout header numbers seal good bad = rw (good, bad) refl

pub is_good : (header : Header) (numbers seal : List ℕ) → is_sealed header numbers seal ≡ true → is_table header numbers ≡ true → table_in header numbers seal ≡ Ok (table_with header numbers seal)
unfolding table_in
is_good header numbers seal good table = rw (good, table) refl
