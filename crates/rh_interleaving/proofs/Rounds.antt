-- A round that begins.
use Rattle.std.proofs.Common.{◌≡◌, ℕ, ◌+◌, ◌-◌, ◌<◌, ◌≤◌, ⊎_elim, sym, refl, ap, ◌∙◌, subst, arith, List, ◌++◌, length, take, drop, set, get_or}
use Rattle.std.specs.Prelude.{slice_index}
use Rattle.std.proofs.lemmas.Bool.{cases_eq}
use Rattle.std.proofs.lemmas.List.{get_or_append_left, get_or-append_right, get_or-drop, get_or-set_other, get_or-set_same, get_or-take, length-append, length-drop, length-take, take_at}
use Rattle.rh_words.specs.declared.shape.Shape.{Shape}
use Rattle.rh_words.specs.Parts.{cell_count, word_count}
use Rattle.rh_rule.specs.Wipes.{row_total}
use Rattle.rh_order.specs.Words.{IsWiped}
use Rattle.rh_turns.specs.declared.hand.Hand.{Hand}
use Rattle.rh_turns.specs.Game.{AllStopped, Game, Plays}
use Rattle.rh_turns.specs.Laws.{HandBegins, begun}
use Rattle.rh_turns.proofs.Rounds.{plays_round}
use Rattle.rh_interleaving.specs.Turned.{AllBegin, BeginsRound}

-- the cells stay
pub front_same : (words behind : List ℕ) (cells n : ℕ) → cells ≤ length words → cells ≡ n → take cells (take cells words ++ behind) ≡ take n words
front_same words behind cells n high is = take_at (take cells words) behind cells (length-take cells words ∙ omega (arith, high)) ∙ ap (λ (m : ℕ). take m words) is

-- so many words stand between the cells and the counter
pub between : (words : List ℕ) (cells n : ℕ) → cells + n ≤ length words → length (take n (drop cells words)) ≡ n
between words cells n high = let rest : length (drop cells words) ≡ length words - cells = length-drop cells words in length-take n (drop cells words) ∙ omega (arith, rest, high)

-- the words between the cells and the counter are put to 0
module _ (z : Shape) (words mid : List ℕ) (cells rows : ℕ) (sized : length words ≡ word_count z) (cells_is : cells ≡ cell_count z) (rows_is : rows ≡ row_total z)
    (size : length mid ≡ rows) (zeros : (k : ℕ) → k < rows → slice_index mid k ≡ 0) where
  abbrev then : List ℕ
  then = take cells words ++ (mid ++ drop rows (drop cells words))

  front : length (take cells words) ≡ cells
  front = length-take cells words ∙ omega (arith, sized, cells_is)

  rest : length (drop rows (drop cells words)) ≡ length words - cells - rows
  rest = length-drop rows (drop cells words) ∙ ap (λ (n : ℕ). n - rows) (length-drop cells words)

  behind : (k : ℕ) → slice_index then (cells + k) ≡ slice_index (mid ++ drop rows (drop cells words)) k
  behind k =
      let on : cells + k - cells ≡ k = omega arith in
      get_or-append_right (take cells words) (mid ++ drop rows (drop cells words)) cells (cells + k) 0 front (omega arith) ∙ ap (slice_index (mid ++ drop rows (drop cells words))) on

  pub wipes : IsWiped z words then
  wipes = record {
    size = length-append (take cells words) (mid ++ drop rows (drop cells words)) ∙ whole;
    cells = λ c inside. get_or_append_left (take cells words) (mid ++ drop rows (drop cells words)) 0 c (omega (arith, inside, front, cells_is)) ∙ get_or-take cells words c 0 (omega (arith, inside, cells_is));
    rows = λ i inside. ap (λ (n : ℕ). slice_index then (n + i)) (sym cells_is) ∙ behind i ∙ get_or_append_left mid (drop rows (drop cells words)) 0 i (omega (arith, inside, size, rows_is)) ∙ zeros i (omega (arith, inside, rows_is));
    counter = last;
  }
    where
      whole : length (take cells words) + length (mid ++ drop rows (drop cells words)) ≡ length words
      whole =
          let back : length (mid ++ drop rows (drop cells words)) ≡ length mid + length (drop rows (drop cells words)) = length-append mid (drop rows (drop cells words)) in
          let last : length (drop rows (drop cells words)) ≡ length words - cells - rows = rest in
          omega (arith, front, back, last, size, sized, cells_is, rows_is)

      at : cell_count z + row_total z ≡ cells + rows
      at = omega (arith, cells_is, rows_is)

      last : slice_index then (cell_count z + row_total z) ≡ slice_index words (cell_count z + row_total z)
      last =
          let on : rows - rows ≡ 0 = omega arith in
          let start : cells + (rows + 0) ≡ cells + rows = omega arith in
          ap (slice_index then) at ∙ behind rows ∙ get_or-append_right mid (drop rows (drop cells words)) rows rows 0 size (omega arith) ∙ ap (slice_index (drop rows (drop cells words))) on
          ∙ get_or-drop rows (drop cells words) 0 0 ∙ get_or-drop cells words (rows + 0) 0 ∙ ap (slice_index words) (start ∙ sym at)

-- one worker more has begun
pub begins_more : (z : Shape) (cells : List ℕ) (hs now : List Hand) (n : ℕ) (next : Hand) → length now ≡ length hs → n < length hs
    → ((v : ℕ) (other : Hand) → v < n → HandBegins z cells (get_or hs v other) (get_or now v other)) → ((other : Hand) → HandBegins z cells (get_or hs n other) next)
    → (v : ℕ) (other : Hand) → v < n + 1 → HandBegins z cells (get_or hs v other) (get_or (set now n next) v other)
begins_more z cells hs now n next size inside before begins v other less = ⊎_elim
    (λ (here : v ≡ n). subst (λ (m : ℕ). HandBegins z cells (get_or hs m other) (get_or (set now n next) m other)) (sym here)
    (subst (HandBegins z cells (get_or hs n other)) (sym (get_or-set_same now n next other (omega (arith, size, inside)))) (begins other)))
    (λ ne. subst (HandBegins z cells (get_or hs v other)) (sym (get_or-set_other now n v next other ne)) (before v other (earlier v n less ne))) (cases_eq v n)
  where
    earlier : (v n : ℕ) → v < n + 1 → (v ≡ n → ⊥) → v < n
    earlier v n less ne = omega (arith, less, ne)

-- ---- the game in the next round

module _ (g : Game) (words : List ℕ) (hands : List Hand) (then : List ℕ) (next : List Hand) (words_are : words ≡ g.words) (hands_are : hands ≡ g.hands)
    (wiped : IsWiped g.shape words then) (workers : length next ≡ length hands) (begins : AllBegin g.shape words hands next) where
  wiped_on : IsWiped g.shape g.words then
  wiped_on = subst (λ (ws : List ℕ). IsWiped g.shape ws then) words_are wiped

  as_many : length next ≡ length g.hands
  as_many = workers ∙ ap length hands_are

  begins_on : AllBegin g.shape g.words g.hands next
  begins_on = subst (λ (ws : List ℕ). AllBegin g.shape ws g.hands next) words_are (subst (λ (hs : List Hand). AllBegin g.shape words hs next) hands_are begins)

  pub begins_round : (now : Game) → g ≡ now → (ws : List ℕ) (hs : List Hand) → ws ≡ then → hs ≡ next → BeginsRound now (begun g ws hs)
  begins_round now now_is ws hs ws_are hs_are =
      subst (λ (x : Game). BeginsRound x (begun g ws hs)) now_is
      (subst (λ (x : List ℕ). BeginsRound g (begun g x hs)) (sym ws_are)
      (subst (λ (x : List Hand). BeginsRound g (begun g then x)) (sym hs_are) (record { next_is = refl; wiped = wiped_on; workers = as_many; begins = begins_on })))

  module _ (plays : Plays g) (stopped : AllStopped g) where
    first_cells : (c : ℕ) → c < cell_count g.shape → slice_index g.words c ≡ slice_index (take (cell_count g.shape) g.words) c
    first_cells c inside = sym (get_or-take (cell_count g.shape) g.words c 0 inside)

    pub plays_next : (ws : List ℕ) (hs : List Hand) → ws ≡ then → hs ≡ next → Plays (begun g ws hs)
    plays_next ws hs ws_are hs_are =
        subst (λ (x : List ℕ). Plays (begun g x hs)) (sym ws_are)
        (subst (λ (x : List Hand). Plays (begun g then x)) (sym hs_are)
        (plays_round g plays stopped then (take (cell_count g.shape) g.words) wiped_on first_cells next as_many begins_on))
