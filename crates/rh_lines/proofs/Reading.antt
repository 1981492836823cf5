-- A text that is read line by line: what its grammar says of the lines that were read, and of those that are left.
use Rattle.std.proofs.Common.{◌≡◌, ◌∙◌, ap, sym, refl, ℕ, ◌+◌, arith, add-zero, append_assoc, append-nil, length, length-append, List, [], ◌∷◌, ◌++◌, Result, Ok, Err}
use Rattle.rh_lines.specs.Lines.{lines_of}
use Rattle.rh_lines.specs.Grammar.{◌>>=◌, Grammar, after_lines, at_line, read_by}

-- if two steps succeed, each does
pub both : {A B E : Type 0} (r : Result A E) (f : A → Result B E) (b : B) → (r >>= f) ≡ Ok b → (a : A) × (r ≡ Ok a) × (f a ≡ Ok b)
both (Ok a) f b h = (a, refl, h)
both (Err e) f b h = absurd cc

all_read : {S E F : Type 0} (grammar : Grammar S E F) (number : ℕ) (so_far : S) → after_lines grammar number so_far [] ≡ Ok so_far
unfolding after_lines
all_read grammar number so_far = refl

one_read : {S E F : Type 0} (grammar : Grammar S E F) (number : ℕ) (so_far next : S) (line : List ℕ) → grammar.after_line number so_far line ≡ Ok next → after_lines grammar number so_far (line ∷ []) ≡ Ok next
unfolding after_lines
one_read grammar number so_far next line h = rw h refl

one_refused : {S E F : Type 0} (grammar : Grammar S E F) (number : ℕ) (so_far : S) (e : E) (line : List ℕ) (lines : List (List ℕ)) → grammar.after_line number so_far line ≡ Err e → after_lines grammar number so_far (line ∷ lines) ≡ Err (grammar.fault_at number e)
unfolding after_lines
one_refused grammar number so_far e line lines h = rw h refl

-- the lines after those that were read
read_on : {S E F : Type 0} (grammar : Grammar S E F) (number : ℕ) (start so_far : S) (lines more : List (List ℕ)) → after_lines grammar number start lines ≡ Ok so_far → after_lines grammar number start (lines ++ more) ≡ after_lines grammar (number + length lines) so_far more
unfolding after_lines
read_on grammar number start so_far [] more h =
    let same : start ≡ so_far = cc in
    rw (same, add-zero) refl
read_on grammar number start so_far (line ∷ lines) more h =
    let one = both (at_line grammar number (grammar.after_line number start line)) _ so_far h in
    let there : number + length (line ∷ lines) ≡ number + 1 + length lines = omega arith in
    rw (one.1, there) (read_on grammar (number + 1) one.0 so_far lines more one.2)

-- ---- the loop over the lines

-- n lines of the text were read, and these are left
pub record Stands {S E F : Type 0} (grammar : Grammar S E F) (lines : List (List ℕ)) (n : ℕ) (so_far : S) (left : List (List ℕ)) : Type 0 where
  pub passed : List (List ℕ)
  pub parts : lines ≡ passed ++ left
  pub counted : length passed ≡ n
  pub read : after_lines grammar 1 grammar.start passed ≡ Ok so_far

pub begun : {S E F : Type 0} (grammar : Grammar S E F) (lines : List (List ℕ)) → Stands grammar lines 0 grammar.start lines
begun grammar lines = record { passed = []; parts = refl; counted = refl; read = all_read grammar 1 grammar.start }

pub gone_on : {S E F : Type 0} (grammar : Grammar S E F) (lines : List (List ℕ)) (n m : ℕ) (so_far next : S) (line : List ℕ) (left rest : List (List ℕ)) → Stands grammar lines n so_far left → left ≡ line ∷ rest → m ≡ n + 1 → grammar.after_line m so_far line ≡ Ok next → Stands grammar lines m next rest
gone_on grammar lines n m so_far next line left rest h is one_more read =
    let number : m ≡ 1 + length h.passed = omega (arith, h.counted) in
    record {
      passed = h.passed ++ line ∷ [];
      parts = h.parts ∙ ap (λ l. h.passed ++ l) is ∙ sym (append_assoc h.passed (line ∷ []) rest);
      counted = omega (arith, h.counted, length-append h.passed (line ∷ []));
      read = read_on grammar 1 grammar.start so_far h.passed (line ∷ []) h.read ∙ one_read grammar (1 + length h.passed) so_far next line (rw number at read);
    }

pub refused : {S E F : Type 0} (grammar : Grammar S E F) (text : List ℕ) (n m : ℕ) (so_far : S) (e : E) (line : List ℕ) (left rest : List (List ℕ)) → Stands grammar (lines_of text) n so_far left → left ≡ line ∷ rest → m ≡ n + 1 → grammar.after_line m so_far line ≡ Err e → read_by grammar text ≡ Err (grammar.fault_at m e)
refused grammar text n m so_far e line left rest h is one_more read =
    let number : 1 + length h.passed ≡ m = omega (arith, h.counted) in
    ap (after_lines grammar 1 grammar.start) h.parts
    ∙ read_on grammar 1 grammar.start so_far h.passed left h.read
    ∙ rw (number, is) (one_refused grammar m so_far e line rest read)

pub all_done : {S E F : Type 0} (grammar : Grammar S E F) (text : List ℕ) (n : ℕ) (so_far : S) (left : List (List ℕ)) → Stands grammar (lines_of text) n so_far left → left ≡ [] → read_by grammar text ≡ Ok so_far
all_done grammar text n so_far left h none =
    ap (after_lines grammar 1 grammar.start) (h.parts ∙ rw none (append-nil h.passed)) ∙ h.read
