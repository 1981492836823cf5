-- What a player shows of the cells and of the answers.
use Rattle.std.proofs.Common.{◌≡◌, ℕ, ◌+◌, ◌/◌, ◌^◌, ◌<◌, ⊎_elim, refl, sym, ap, ◌∙◌, subst, arith, Option, Some, None, Bool, true, false, true≢false, List, length, set, get_or}
use Rattle.std.specs.Prelude.{IsSome, slice_index}
use Rattle.std.proofs.lemmas.Bool.{cases_eq}
use Rattle.std.proofs.lemmas.List.{get_or-set_other, get_or-set_same}
use Rattle.rh_tagword.specs.declared.limits.TheConstants.{PLAIN, TAG_BITS}
use Rattle.rh_tagword.specs.declared.word.Word.{Word}
use Rattle.rh_tagword.specs.Word.{tag_of, word_in, word_with}
use Rattle.rh_words.specs.Parts.{cell_count}
use Rattle.rh_words.specs.Words.{cell_said}
use Rattle.rh_order.specs.History.{history, value_of}
use Rattle.rh_order.specs.Words.{AreNow, IsLogicalWord, WordStandsFor}
use Rattle.rh_order.proofs.Saying.{logical_words}
use Rattle.rh_turns.specs.Game.{Game, Plays, keep}
use Rattle.rh_turns.specs.Readable.{IsValueOf}
use Rattle.rh_turns.proofs.Playing.{plays_moment, plays_readable}
use Rattle.rh_turns.proofs.Telling.{plays_tells}
use Rattle.rh_interleaving.specs.Made.{SoFar}

-- one value more is written
pub values_more : (Holds : (c value : ℕ) → Type 0) (cells : List ℕ) (n x : ℕ) → n < length cells → ((k : ℕ) → k < n → Holds k (get_or cells k 0)) → Holds n x
    → (k : ℕ) → k < n + 1 → Holds k (get_or (set cells n x) k 0)
values_more Holds cells n x inside before is k less = ⊎_elim
    (λ (here : k ≡ n). subst (λ (m : ℕ). Holds m (get_or (set cells n x) m 0)) (sym here) (subst (Holds n) (sym (get_or-set_same cells n x 0 inside)) is))
    (λ ne. subst (Holds k) (sym (get_or-set_other cells n k x 0 ne)) (before k (earlier k n less ne))) (cases_eq k n)
  where
    earlier : (k n : ℕ) → k < n + 1 → (k ≡ n → ⊥) → k < n
    earlier k n less ne = omega (arith, less, ne)

-- values for which the cells stand are all for which they stand
pub all_now : (g : Game) → Plays g → (cells : List ℕ) → length cells ≡ cell_count g.shape → ((c : ℕ) → c < cell_count g.shape → IsValueOf g.shape g.words (keep g) c (get_or cells c 0))
    → AreNow g.shape g.words (keep g) cells
all_now g plays cells size each =
    let w = plays.running.world in
    let one = λ (c word : ℕ) (inside : c < cell_count g.shape) (is : IsLogicalWord g.shape g.words (keep g) c word). logical_words w g.shape g.words (keep g) c word plays.running.core inside is in
    record {
      size = size;
      stands = λ c inside. let it = each c inside in (it.word, it.stands);
      values = λ c word inside is. let it = each c inside in it.is ∙ ap value_of (one c it.word inside it.stands ∙ sym (one c word inside is));
    }

-- ---- what stands in a cell

abbrev is_some : {A : Type 0} → Option A → Bool
is_some None = false
is_some (Some a) = true

pub is_there : {A : Type 0} (o : Option A) → (o ≡ None → ⊥) → IsSome o
is_there None none = absurd (none refl)
is_there (Some a) none = refl

-- a word of a cell is one that can be told
pub is_word : (g : Game) → Plays g → (c : ℕ) → c < cell_count g.shape → word_in (slice_index g.words c) ≡ None → ⊥
is_word g plays c inside none =
    let word : ℕ = slice_index g.words c in
    let stands : IsLogicalWord g.shape g.words (keep g) c word = subst (λ (r : Option Word). WordStandsFor g.shape g.words (keep g) c (cell_said r word) word) (sym none) refl in
    let plain : tag_of word ≡ PLAIN = (plays_readable g plays c inside).value word stands in
    true≢false (sym (ap (λ (t : ℕ). is_some (word_with t (word / 2 ^ TAG_BITS))) plain) ∙ ap is_some none)

-- ---- what was made so far

abbrev pub so_far : (g : Game) → Plays g → SoFar g
so_far g plays = record {
  before = plays.running.before;
  now = history plays.running.world;
  own_answers = plays.own_answers;
  stands = plays_moment g plays;
  tells = plays_tells g plays;
}
