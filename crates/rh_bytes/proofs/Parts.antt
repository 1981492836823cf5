-- Parts of a file, read one after the other.
use Rattle.std.proofs.Common.{◌≡◌, ◌≢◌, ℕ, Bool, List, length, Option, Result, Ok, Err, refl, subst, ◌∙◌}
use Rattle.std.specs.Int.{w64, from_be_bytes}
use Rattle.rh_bytes.specs.declared.counted.Counted.{Counted}
use Rattle.rh_bytes.specs.Counting.{Rose, failures_of, inner_of}
use Rattle.rh_bytes.specs.Input.{◌>>=◌, always, bytes_at, number_at, number_in}
use Rattle.rh_bytes.specs.Parts.{ReadsPart}
use Rattle.rh_bytes.specs.Taking.{TakesAtMost}
use Rattle.rh_bytes.proofs.Reading.{Reads-err, Reads-fails, Reads-ok, Reads-then}

abbrev fault_as : (X : Type 0) {E : Type 0} → E → Result X E
fault_as X e = Err e

same_fault : {X Y E : Type 0} (e d : E) → fault_as X e ≡ Err d → fault_as Y e ≡ Err d
same_fault e d is = cc

module _ {R E : Type 0} {bytes_of : R → Option (List ℕ)} {silent : E → Bool} {read memory : E} where
  -- as many bytes as the buffer has room for
  pub part_of : {a b : Counted R} {r : Result (Unit {0}) E} (short : E) (buf : List ℕ) (n : ℕ) → ReadsPart bytes_of silent read memory a b (bytes_at short (length buf)) (always buf) (length buf) r → length buf ≡ n
      → ReadsPart bytes_of silent read memory a b (bytes_at short n) (always buf) n r
  part_of {a = a} {b = b} {r = r} short buf n h len = subst (λ k. ReadsPart bytes_of silent read memory a b (bytes_at short k) (always buf) k r) len h

  module _ {X Y A B : Type 0} {f : List ℕ → Result (A × List ℕ) E} {v : X → A} {w : Y → B} {a b : Counted R} {m : ℕ} (g : A × List ℕ → Result (B × List ℕ) E) where
    -- a fault of the first part is one of both
    pub part_fails : {n : ℕ} {e : E} → ReadsPart bytes_of silent read memory a b f v m (Err e) → TakesAtMost (bytes_of (inner_of a)) (bytes_of (inner_of b)) n → ReadsPart bytes_of silent read memory a b (λ bytes. f bytes >>= g) w n (Err e)
    part_fails {e = e} h taken = record {
      known = Reads-fails silent _ _ _ f g v w e h.known;
      takes = taken;
      counts = record { rose = λ is. h.counts.rose (same_fault e read is); stays = λ other. h.counts.stays (λ is. other (same_fault e read is)) };
      no_memory = λ is. h.no_memory (same_fault e memory is);
    }

    -- one part after the other
    pub part_then : {c : Counted R} {x : X} {n most : ℕ} {r : Result Y E} → ReadsPart bytes_of silent read memory a b f v m (Ok x) → ReadsPart bytes_of silent read memory b c (λ bytes. g (v x, bytes)) w n r → TakesAtMost (bytes_of (inner_of a)) (bytes_of (inner_of c)) most
        → ReadsPart bytes_of silent read memory a c (λ bytes. f bytes >>= g) w most r
    part_then {c = c} {x = x} {r = r} p q taken =
        let same : failures_of b ≡ failures_of a = p.counts.stays (λ is. cc) in
        record {
          known = Reads-then silent _ _ _ f g v w x r p.known q.known;
          takes = taken;
          counts = record { rose = λ failed. subst (λ k. Rose k (failures_of c)) same (q.counts.rose failed); stays = λ other. q.counts.stays other ∙ same };
          no_memory = q.no_memory;
        }

    -- what was read is tested
    pub part_is : {x : X} {y : Y} → ReadsPart bytes_of silent read memory a b f v m (Ok x) → ((bytes : List ℕ) → g (v x, bytes) ≡ Ok (w y, bytes)) → ReadsPart bytes_of silent read memory a b (λ bytes. f bytes >>= g) w m (Ok y)
    part_is {x = x} {y = y} h is = record {
      known = Reads-then silent _ _ _ f g v w x (Ok y) h.known (Reads-ok silent _ (λ bytes. g (v x, bytes)) w y is);
      takes = h.takes;
      counts = record { rose = λ failed. absurd cc; stays = λ other. h.counts.stays (λ is. cc) };
      no_memory = λ is. cc;
    }

    pub part_is_not : {x : X} {e : E} → ReadsPart bytes_of silent read memory a b f v m (Ok x) → ((bytes : List ℕ) → g (v x, bytes) ≡ Err e) → e ≢ read → e ≢ memory → ReadsPart bytes_of silent read memory a b (λ bytes. f bytes >>= g) w m (Err e)
    part_is_not {x = x} {e = e} h is not_read not_memory = record {
      known = Reads-then silent _ _ _ f g v w x (Err e) h.known (Reads-err silent _ _ (λ bytes. g (v x, bytes)) w e is);
      takes = h.takes;
      counts = record { rose = λ failed. absurd (not_read cc); stays = λ other. h.counts.stays (λ is. cc) };
      no_memory = λ is. not_memory cc;
    }

  -- a number is eight bytes
  module _ {a b : Counted R} (short : E) (buf : List ℕ) (eight : length buf ≡ 8) where
    pub number_fails : {e : E} → ReadsPart {X = Unit {0}} bytes_of silent read memory a b (bytes_at short (length buf)) (always buf) (length buf) (Err e) → ReadsPart bytes_of silent read memory a b (number_at short) (λ (n : ℕ). n) 8 (Err e)
    unfolding number_at
    number_fails h = let part = part_of short buf 8 h eight in part_fails number_in part part.takes

    pub number_is : {n : ℕ} → ReadsPart {X = Unit {0}} bytes_of silent read memory a b (bytes_at short (length buf)) (always buf) (length buf) (Ok tt) → n ≡ from_be_bytes w64 buf → ReadsPart bytes_of silent read memory a b (number_at short) (λ (n : ℕ). n) 8 (Ok n)
    unfolding number_at
    number_is h is = part_is number_in (part_of short buf 8 h eight) (λ bytes. rw is refl)
