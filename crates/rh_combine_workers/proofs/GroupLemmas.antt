-- What came of consecutive ranges, one after the other.
use Rattle.std.proofs.Common.{◌≡◌, ◌∙◌, ap, sym, subst, ℕ, zero, suc, ◌+◌, ◌-◌, ◌^◌, ◌<◌, ◌≤◌, arith, List, [], ◌∷◌, ◌++◌, length, get_or, Ok, Result}
use Rattle.std.specs.Prelude.{All, map, min, slice_index, sum_by}
use Rattle.std.specs.List.{flat_map}
use Rattle.std.proofs.Math.Nat.{add-mul}
use Rattle.std.proofs.lemmas.List.{length-append}
use Rattle.std.proofs.lemmas.List.Sums.{sum_by-cons}
use Rattle.rh_layout.specs.Key.{IsKey}
use Rattle.rh_layout.specs.declared.limits.TheConstants.{MAX_KEY}
use Rattle.rh_cutting.specs.Pieces.{keys_in}
use Rattle.rh_cutting.specs.declared.list.KeyList.{KeyList}
use Rattle.rh_layout.specs.Range.{within}
use Rattle.rh_combine.specs.Combine.{AllWithin}
use Rattle.rh_combine.proofs.RangeLemmas.{all_keys, within-none}
use Rattle.rh_combine_workers.specs.declared.group.Group.{Group}
use Rattle.rh_cutting.specs.declared.whole.CutLists.{CutLists}
use Rattle.rh_combine.specs.declared.form.Form.{Form}
use Rattle.rh_cutting.specs.Borders.{AreBorders, between}
use Rattle.rh_cutting.specs.Cut.{AreLists}
use Rattle.rh_combine_workers.specs.Groups.{IsGroup, IsRound, TellsGroup, group_edge, parts_of}
use Rattle.rh_combine_workers.specs.Questions.{IsByNumber}
use Rattle.rh_combine_workers.specs.Spelled.{spelled}
use Rattle.rh_combine_workers.proofs.QuestionLemmas.{of_all, of_two}
use Rattle.rh_combine_workers.proofs.SpelledLemmas.{spelled-append, spelled-none}
use Rattle.rh_cutting.proofs.BorderLemmas.{rise_to}
use Rattle.rh_cutting.proofs.CutLemmas.{as_many, one_done}

module _ (answer : List (List ℕ) → List ℕ) (by : IsByNumber answer) (lists : List (List ℕ)) where
  abbrev of : (a c : ℕ) → List ℕ
  of a c = within a c (answer lists)

  -- borders that rise
  rising : (at : ℕ → ℕ) (n : ℕ) → ((i : ℕ) → i < n → at i ≤ at (i + 1)) → at 0 ≤ at n
  rising at zero rise = omega arith
  rising at (suc n) rise =
      let before : at 0 ≤ at n = rising at n (λ i inside. rise i (omega (arith, inside))) in
      let next : at n ≤ at (n + 1) = rise n (omega arith) in
      let same : n + 1 ≡ suc n = omega arith in
      omega (arith, before, next, ap at same)

  module _ {V : Type 0} where
    -- g makes of the numbers the numbers in what was made of them
    pub all_numbers : (numbers_in : V → List ℕ) (g : List ℕ → List ℕ) → g [] ≡ [] → ((xs ys : List ℕ) → g (xs ++ ys) ≡ g xs ++ g ys) → (groups : List V) (at : ℕ → ℕ) → ((i : ℕ) → i < length groups → at i ≤ at (i + 1))
        → ((i : ℕ) (d : V) → i < length groups → numbers_in (get_or groups i d) ≡ g (of (at i) (at (i + 1))))
        → flat_map numbers_in groups ≡ g (of (at 0) (at (length groups)))
    all_numbers numbers_in g none both [] at rise each = sym (ap g (within-none (at 0) (answer lists)) ∙ none)
    all_numbers numbers_in g none both (x ∷ groups) at rise each =
        let many : length groups + 1 ≡ length (x ∷ groups) = omega arith in
        let later : (i : ℕ) → suc i ≡ i + 1 = λ i. omega arith in
        let this : numbers_in x ≡ g (of (at 0) (at 1)) = each 0 x (omega arith) in
        let others : flat_map numbers_in groups ≡ g (of (at 1) (at (length groups + 1))) =
        all_numbers numbers_in g none both groups (λ i. at (i + 1)) (λ i inside. rise (i + 1) (omega (arith, inside)))
        (λ i d inside. each (suc i) d (omega (arith, inside)) ∙ (λ j. g (of (at (later i j)) (at (later i j + 1))))) in
        let behind : at 1 ≤ at (length groups + 1) = rising (λ i. at (i + 1)) (length groups) (λ i inside. rise (i + 1) (omega (arith, inside))) in
        (λ j. this j ++ others j)
        ∙ sym (ap g (of_two answer by (at 0) (at 1) (at (length groups + 1)) (rise 0 (omega arith)) behind lists)
        ∙ both (of (at 0) (at 1)) (of (at 1) (at (length groups + 1))))
        ∙ ap (λ n. g (of (at 0) (at n))) many

    pub all_counts : (count : V → ℕ) (groups : List V) (at : ℕ → ℕ) → ((i : ℕ) → i < length groups → at i ≤ at (i + 1))
        → ((i : ℕ) (d : V) → i < length groups → count (get_or groups i d) ≡ min (length (of (at i) (at (i + 1)))) (2 ^ 64 - 1))
        → min (sum_by count groups) (2 ^ 64 - 1) ≡ min (length (of (at 0) (at (length groups)))) (2 ^ 64 - 1)
    all_counts count [] at rise each = omega (arith, ap length (within-none (at 0) (answer lists)))
    all_counts count (x ∷ groups) at rise each =
        let many : length groups + 1 ≡ length (x ∷ groups) = omega arith in
        let later : (i : ℕ) → suc i ≡ i + 1 = λ i. omega arith in
        let this : count x ≡ min (length (of (at 0) (at 1))) (2 ^ 64 - 1) = each 0 x (omega arith) in
        let others : min (sum_by count groups) (2 ^ 64 - 1) ≡ min (length (of (at 1) (at (length groups + 1)))) (2 ^ 64 - 1) =
        all_counts count groups (λ i. at (i + 1)) (λ i inside. rise (i + 1) (omega (arith, inside)))
        (λ i d inside. each (suc i) d (omega (arith, inside)) ∙ (λ j. min (length (of (at (later i j)) (at (later i j + 1)))) (2 ^ 64 - 1))) in
        let behind : at 1 ≤ at (length groups + 1) = rising (λ i. at (i + 1)) (length groups) (λ i inside. rise (i + 1) (omega (arith, inside))) in
        let all : length (of (at 0) (at (length groups + 1))) ≡ length (of (at 0) (at 1)) + length (of (at 1) (at (length groups + 1))) =
        ap length (of_two answer by (at 0) (at 1) (at (length groups + 1)) (rise 0 (omega arith)) behind lists)
        ∙ length-append (of (at 0) (at 1)) (of (at 1) (at (length groups + 1))) in
        omega (arith, sum_by-cons count x groups, this, others, all) ∙ ap (λ n. min (length (of (at 0) (at n))) (2 ^ 64 - 1)) many

-- ---- the edges of groups

pub edge-first : (first size parts : ℕ) → first ≤ parts → group_edge first 0 size parts ≡ first
edge-first first size parts inside = omega (arith, inside)

pub edge-inside : (first i size parts : ℕ) → group_edge first i size parts ≤ parts
edge-inside first i size parts = omega arith

pub edge-rises : (first i size parts : ℕ) → group_edge first i size parts ≤ group_edge first (i + 1) size parts
edge-rises first i size parts = omega (arith, add-mul i 1 size)

module _ (cut : CutLists) (are : AreBorders cut.borders.values.items) (first size : ℕ) where
  abbrev border_at : ℕ → ℕ
  border_at i = slice_index cut.borders.values.items (group_edge first i size (parts_of cut))

  pub border-rises : (i : ℕ) → border_at i ≤ border_at (i + 1)
  border-rises i =
      rise_to cut.borders.values.items are (group_edge first i size (parts_of cut)) (group_edge first (i + 1) size (parts_of cut)) (edge-rises first i size (parts_of cut)) (omega (arith, edge-inside first (i + 1) size (parts_of cut), are.some))

-- ---- a round of groups

module _ {E : Type 0} (answer : List (List ℕ) → List ℕ) (by : IsByNumber answer) (form : Form) (cut : CutLists) (lists : List (List ℕ)) (are : AreLists cut lists) (first size n : ℕ) (inside : first < length cut.borders.values.items) (done : List Group) (tried : List (Result Group E))
    (is : map Ok done ≡ tried) (many : length tried ≡ n) (each : (i : ℕ) (d : Result Group E) → i < n → TellsGroup answer form cut first size i (get_or tried i d)) where
  so_many : length done ≡ n
  so_many = as_many done tried is ∙ many

  group_is : (i : ℕ) (d : Group) → i < length done → IsGroup answer form cut.borders.values.items (group_edge first i size (parts_of cut)) (group_edge first (i + 1) size (parts_of cut)) lists (get_or done i d)
  group_is i d here =
      one_done (IsGroup answer form cut.borders.values.items (group_edge first i size (parts_of cut)) (group_edge first (i + 1) size (parts_of cut)) lists) done tried i d is here
      ((each i (Ok d) (omega (arith, here, so_many))).is lists are)

  begins : group_edge first 0 size (parts_of cut) ≡ first
  begins = edge-first first size (parts_of cut) (omega (arith, inside))

  pub round_bytes : flat_map (λ g. g.bytes.items) done ≡ spelled form (between cut.borders.values.items first (group_edge first n size (parts_of cut)) (answer lists))
  round_bytes =
      all_numbers answer by lists (λ (g : Group). g.bytes.items) (spelled form) (spelled-none form) (spelled-append form) done (border_at cut are.borders first size) (λ i _. border-rises cut are.borders first size i) (λ i d here. (group_is i d here).bytes)
      ∙ (λ j. spelled form (between cut.borders.values.items (begins j) (group_edge first (so_many j) size (parts_of cut)) (answer lists)))

  pub round_count : min (sum_by (λ g. g.count) done) (2 ^ 64 - 1) ≡ min (length (between cut.borders.values.items first (group_edge first n size (parts_of cut)) (answer lists))) (2 ^ 64 - 1)
  round_count =
      all_counts answer by lists (λ (g : Group). g.count) done (border_at cut are.borders first size) (λ i _. border-rises cut are.borders first size i) (λ i d here. (group_is i d here).count)
      ∙ (λ j. min (length (between cut.borders.values.items (begins j) (group_edge first (so_many j) size (parts_of cut)) (answer lists))) (2 ^ 64 - 1))

-- of no part come no groups
pub no_round : (answer : List (List ℕ) → List ℕ) (form : Form) (cut : CutLists) (p q : ℕ) → p ≡ q → IsRound answer form cut p q []
no_round answer form cut p q same =
    subst (λ r. IsRound answer form cut p r []) same
    (record {
      bytes = λ lists are. sym (ap (spelled form) (within-none (slice_index cut.borders.values.items p) (answer lists)) ∙ spelled-none form);
      count = λ lists are. omega (arith, ap length (within-none (slice_index cut.borders.values.items p) (answer lists)));
    })

-- ---- all parts

pub all_parts : (answer : List (List ℕ) → List ℕ) → IsByNumber answer → (borders : List ℕ) → AreBorders borders → (lists : List (List ℕ)) → AllWithin 0 (MAX_KEY + 1) lists → between borders 0 (length borders - 1) (answer lists) ≡ answer lists
all_parts answer by borders are lists all =
    let last = are.last (length borders - 1) (omega (arith, are.some)) in
    (λ j. within (are.first j) (last j) (answer lists)) ∙ of_all answer by 0 (MAX_KEY + 1) lists all

keys_of_pieces : {K : Type 0} (f : K → List ℕ) (pieces : List K) → All (λ k. All IsKey (f k)) pieces → All IsKey (flat_map f pieces)
keys_of_pieces f [] all = λ i d inside. absurd (omega (arith, inside))
keys_of_pieces f (x ∷ pieces) all = both (f x) (flat_map f pieces) (all 0 x (omega arith)) (keys_of_pieces f pieces (λ j e here. all (suc j) e (omega (arith, here))))
  where
    both : (xs ys : List ℕ) → All IsKey xs → All IsKey ys → All IsKey (xs ++ ys)
    both [] ys first second i d inside = second i d inside
    both (x ∷ xs) ys first second zero d inside = first 0 x (omega arith)
    both (x ∷ xs) ys first second (suc i) d inside = both xs ys (λ j e here. first (suc j) e (omega (arith, here))) second i d (omega (arith, inside))

pub keys_of_lists : (lists : List KeyList) → AllWithin 0 (MAX_KEY + 1) (map keys_in lists)
keys_of_lists lists = all_keys keys_in lists (λ i d inside. keys_of_pieces (λ piece. piece.items) (get_or lists i d).pieces.items (get_or lists i d).in_range)
