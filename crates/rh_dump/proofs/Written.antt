-- A dump, written line by line.
use Rattle.std.proofs.Common.{◌≡◌, ℕ, zero, suc, ◌+◌, ◌-◌, ◌<◌, ◌≤◌, List, [], ◌∷◌, ◌++◌, length, take, drop, Option, Result, refl, sym, ap, ◌∙◌, subst, arith, append_assoc, append-nil, get_or, eq-eqb, count_by, codes}
use Rattle.std.proofs.lemmas.Bool.{ne_eqb}
use Rattle.rh_layout.specs.Key.{is_full, cell_of}
use Rattle.rh_bytes.specs.Counting.{Emitted, EmittedFront, Emits}
use Rattle.rh_bytes.specs.declared.counted.Counted.{Counted}
use Rattle.rh_bytes.proofs.Writing.{emitted_after, emitted_both, emitted_longer, emitted_then, emitting_stops}
use Rattle.rh_dump.specs.Dump.{cell_text, line_of, lines_from, head_of, dump_text}

-- ---- cells

pub lines-more : (bits from : ℕ) (cells : List ℕ) (i : ℕ) → i < length cells → lines_from bits from (take (suc i) cells) ≡ lines_from bits from (take i cells) ++ cell_text bits (from + i) (get_or cells i 0)
lines-more bits from [] i lt = absurd (omega (arith, lt))
lines-more bits from (x ∷ xs) zero lt =
    let k : from ≡ from + 0 = omega arith in
    append-nil (cell_text bits from x) ∙ ap (λ c. cell_text bits c x) k
lines-more bits from (x ∷ xs) (suc i) lt =
    let k : from + 1 + i ≡ from + suc i = omega arith in
    ap (λ l. cell_text bits from x ++ l) (lines-more bits (from + 1) xs i (omega (arith, lt)) ∙ ap (λ c. lines_from bits (from + 1) (take i xs) ++ cell_text bits c (get_or xs i 0)) k) ∙ sym (append_assoc (cell_text bits from x) (lines_from bits (from + 1) (take i xs)) (cell_text bits (from + suc i) (get_or xs i 0)))

pub lines-split : (bits from : ℕ) (cells : List ℕ) (i : ℕ) → i ≤ length cells → lines_from bits from cells ≡ lines_from bits from (take i cells) ++ lines_from bits (from + i) (drop i cells)
lines-split bits from [] zero le = refl
lines-split bits from [] (suc i) le = absurd (omega (arith, le))
lines-split bits from (x ∷ xs) zero le =
    let k : from ≡ from + 0 = omega arith in
    ap (λ c. lines_from bits c (x ∷ xs)) k
lines-split bits from (x ∷ xs) (suc i) le =
    let k : from + 1 + i ≡ from + suc i = omega arith in
    ap (λ l. cell_text bits from x ++ l) (lines-split bits (from + 1) xs i (omega (arith, le)) ∙ ap (λ c. lines_from bits (from + 1) (take i xs) ++ lines_from bits c (drop i xs)) k) ∙ sym (append_assoc (cell_text bits from x) (lines_from bits (from + 1) (take i xs)) (lines_from bits (from + suc i) (drop i xs)))

-- where the line of a cell fails
pub cells-stop : {V : Type 0} {contents : V → Option (List ℕ)} (a b c : Counted V) (bits : ℕ) (cells : List ℕ) (i : ℕ) (t : List ℕ) → i < length cells → t ≡ cell_text bits i (get_or cells i 0) → Emitted contents a b (lines_from bits 0 (take i cells)) → EmittedFront contents b c t → EmittedFront contents a c (lines_from bits 0 cells)
cells-stop a b c bits cells i t lt is p q =
    let z : 0 + i ≡ i = omega arith in
    let front : lines_from bits 0 (take (suc i) cells) ≡ lines_from bits 0 (take i cells) ++ t = lines-more bits 0 cells i lt ∙ ap (λ k. lines_from bits 0 (take i cells) ++ cell_text bits k (get_or cells i 0)) z ∙ ap (λ u. lines_from bits 0 (take i cells) ++ u) (sym is) in
    let whole : lines_from bits 0 cells ≡ (lines_from bits 0 (take i cells) ++ t) ++ lines_from bits (0 + suc i) (drop (suc i) cells) = lines-split bits 0 cells (suc i) (omega (arith, lt)) ∙ ap (λ l. l ++ lines_from bits (0 + suc i) (drop (suc i) cells)) front in
    emitting_stops a b c (lines_from bits 0 (take i cells)) t (lines_from bits (0 + suc i) (drop (suc i) cells)) (lines_from bits 0 cells) whole p q

-- as the loop goes on
pub cells-go-on : {V : Type 0} {contents : V → Option (List ℕ)} (a b c : Counted V) (bits : ℕ) (cells : List ℕ) (i : ℕ) (t : List ℕ) → i < length cells → t ≡ cell_text bits i (get_or cells i 0) → Emitted contents a b (lines_from bits 0 (take i cells)) → Emitted contents b c t → Emitted contents a c (lines_from bits 0 (take (i + 1) cells))
cells-go-on a b c bits cells i t lt is p q =
    let z : 0 + i ≡ i = omega arith in
    let s : i + 1 ≡ suc i = omega arith in
    let front : lines_from bits 0 (take (i + 1) cells) ≡ lines_from bits 0 (take i cells) ++ t = ap (λ k. lines_from bits 0 (take k cells)) s ∙ lines-more bits 0 cells i lt ∙ ap (λ k. lines_from bits 0 (take i cells) ++ cell_text bits k (get_or cells i 0)) z ∙ ap (λ u. lines_from bits 0 (take i cells) ++ u) (sym is) in
    rw front (emitted_both a b c (lines_from bits 0 (take i cells)) t p q)

pub cell-empty : (bits cell value : ℕ) → value ≡ 0 → [] ≡ cell_text bits cell value
cell-empty bits cell value e = rw (eq-eqb value 0 e) refl

pub cell-full : (bits cell value key : ℕ) → value ≡ cell_of key → line_of bits cell key ≡ cell_text bits cell value
cell-full bits cell value key is =
    let here : value - 1 ≡ key = omega arith in
    rw (ne_eqb value 0 (λ z. omega (arith, z, is)), here) refl

-- ---- the whole dump

pub dump_done : {X E V : Type 0} {contents : V → Option (List ℕ)} (a b c d : Counted V) (bits held : ℕ) (cells end : List ℕ) (r : Result X E) → held ≡ count_by is_full cells → end ≡ codes "end\n" → Emitted contents a b (head_of bits held) → Emitted contents b c (lines_from bits 0 cells) → Emits contents c d end r → Emits contents a d (dump_text bits cells) r
unfolding dump_text
dump_done {contents = contents} a b c d bits held cells end r is e p q w =
    let text : (head_of bits held ++ lines_from bits 0 cells) ++ end ≡ dump_text bits cells = ap (λ n. (head_of bits n ++ lines_from bits 0 cells) ++ end) is ∙ ap (λ t. (head_of bits (count_by is_full cells) ++ lines_from bits 0 cells) ++ t) e in
    subst (λ t. Emits contents a d t r) text (emitted_then a c d (head_of bits held ++ lines_from bits 0 cells) end r (emitted_both a b c (head_of bits held) (lines_from bits 0 cells) p q) w)

pub dump_stops_early : {V : Type 0} {contents : V → Option (List ℕ)} (a b : Counted V) (bits held : ℕ) (cells : List ℕ) → held ≡ count_by is_full cells → EmittedFront contents a b (head_of bits held) → EmittedFront contents a b (dump_text bits cells)
unfolding dump_text
dump_stops_early {contents = contents} a b bits held cells is p =
    emitted_longer a b (head_of bits (count_by is_full cells) ++ lines_from bits 0 cells) (codes "end\n") (emitted_longer a b (head_of bits (count_by is_full cells)) (lines_from bits 0 cells) (subst (λ n. EmittedFront contents a b (head_of bits n)) is p))

pub dump_stops : {V : Type 0} {contents : V → Option (List ℕ)} (a b c : Counted V) (bits held : ℕ) (cells : List ℕ) → held ≡ count_by is_full cells → Emitted contents a b (head_of bits held) → EmittedFront contents b c (lines_from bits 0 cells) → EmittedFront contents a c (dump_text bits cells)
unfolding dump_text
dump_stops {contents = contents} a b c bits held cells is p q =
    emitted_longer a c (head_of bits (count_by is_full cells) ++ lines_from bits 0 cells) (codes "end\n") (emitted_after a b c (head_of bits (count_by is_full cells)) (lines_from bits 0 cells) (subst (λ n. Emitted contents a b (head_of bits n)) is p) q)
