-- A player that is set up.
use Rattle.std.proofs.Common.{◌≡◌, ℕ, ◌+◌, ◌-◌, ◌<◌, ◌≤◌, inl, inr, ⊎_elim, refl, sym, ap, ◌∙◌, subst, arith, Option, Some, None, Bool, false, List, [], ◌∷◌, ◌++◌, length, map, replicate, take, get_or}
use Rattle.std.specs.Prelude.{All}
use Rattle.std.proofs.lemmas.Bool.{cases_lt}
use Rattle.std.proofs.lemmas.List.{get_or_append_left, get_or_at, get_or-map, length-append, length-map, length-take, map-append, take_all, take_more}
use Rattle.rh_layout.specs.Key.{IsKey}
use Rattle.rh_layout.specs.Layout.{IsLayout, keys_of}
use Rattle.rh_ledger.specs.declared.tally.Kind.{Kind}
use Rattle.rh_tagword.specs.Word.{plain_number}
use Rattle.rh_words.specs.declared.shape.Shape.{Shape}
use Rattle.rh_words.specs.Parts.{cell_count, word_count}
use Rattle.rh_words.specs.View.{new_view}
use Rattle.rh_rule.specs.Wipes.{row_total}
use Rattle.rh_acts.specs.Workers.{LeavesRoom}
use Rattle.rh_turns.specs.declared.hand.Hand.{Hand}
use Rattle.rh_turns.specs.declared.hand.Share.{Share}
use Rattle.rh_turns.specs.declared.hand.Share.TheVariants.{Claims}
use Rattle.rh_turns.specs.Hands.{IsNew}
use Rattle.rh_turns.specs.Game.{ArePieces, Game, shares_of}
use Rattle.rh_turns.specs.Laws.{GameStarts, WillClaim}
use Rattle.rh_interleaving.specs.SetUp.{AreNew, AreShares, ClaimsAll}

-- one worker more
module _ (kind : Kind) (z : Shape) (words : List ℕ) (shares : List Share) (hands : List Hand) (n : ℕ) (h : Hand) (inside : n < length shares)
    (before : shares_of hands ≡ take n shares) (share_is : h.share ≡ get_or shares n h.share) where
  size : length hands ≡ n
  size = sym (length-map hands (λ (x : Hand). x.share)) ∙ ap length before ∙ length-take n shares ∙ omega (arith, inside)

  more_shares : shares_of (hands ++ h ∷ []) ≡ take (n + 1) shares
  more_shares =
      map-append (λ (x : Hand). x.share) hands (h ∷ []) ∙ (λ i. before i ++ share_is i ∷ []) ∙ sym (take_more shares n h.share inside)

  more_new : AreNew kind z words hands → IsNew kind z words n h → AreNew kind z words (hands ++ h ∷ [])
  more_new new now v other less =
      let long : length (hands ++ h ∷ []) ≡ length hands + 1 = length-append hands (h ∷ []) in
      ⊎_elim
      (λ (earlier : v < length hands). subst (IsNew kind z words v) (sym (get_or_append_left hands (h ∷ []) other v earlier)) (new v other earlier))
      (λ (here : length hands ≤ v).
      let now_is : v ≡ n = omega (arith, here, less, long, size) in
      subst (λ (m : ℕ). IsNew kind z words m (get_or (hands ++ h ∷ []) m other)) (sym now_is)
      (subst (IsNew kind z words n) (sym (get_or_at hands h [] other n size)) now)) (cases_lt v (length hands))

  pub next_hands : AreNew kind z words hands → IsNew kind z words n h → (now : List Hand) → now ≡ hands ++ h ∷ [] → (shares_of now ≡ take (n + 1) shares) × AreNew kind z words now
  next_hands new one now is = (ap shares_of is ∙ more_shares, subst (AreNew kind z words) (sym is) (more_new new one))

-- what is so of no answer is so of None alone
pub none_alone : (P : Option Bool → Type 0) → ((answer : Bool) → P (Some answer) → ⊥) → (answer : Option Bool) → P answer → answer ≡ None
none_alone P not None p = refl
none_alone P not (Some answer) p = absurd (not answer p)

-- all claim their keys
pub will_claim : (shares : List Share) (hands : List Hand) → shares_of hands ≡ shares → All ClaimsAll shares → All WillClaim hands
will_claim shares hands shares_are all v d inside =
    let here : v < length shares = omega (arith, inside, length-map hands (λ (x : Hand). x.share), ap length shares_are) in
    (0, sym (get_or-map (λ (x : Hand). x.share) hands v d (Claims 0 false) inside) ∙ ap (λ (ss : List Share). get_or ss v (Claims 0 false)) shares_are ∙ all v (Claims 0 false) here)

-- ---- the whole

module _ (kind : Kind) (z : Shape) (cells keys : List ℕ) (shares : List Share) (opening words plain all : List ℕ) (answers : List (Option Bool)) (hands : List Hand)
    (workers : length shares ≡ z.workers) (layout : IsLayout z.bits cells) (room : LeavesRoom kind z.bits (keys_of cells) keys)
    (are_keys : All IsKey keys) (dealt : AreShares z shares (length keys))
    (opening_is : opening ≡ cells) (words_are : words ≡ map plain_number cells) (plain_is : plain ≡ words) (n : ℕ) (n_is : n ≡ word_count z) (m : ℕ) (m_is : m ≡ length words)
    (all_is : all ≡ take n words ++ replicate (n - m) 0) (none_answered : answers ≡ replicate (length keys) None) (shares_are : shares_of hands ≡ shares) (new : AreNew kind z plain hands) where
  abbrev game : Game
  game = record { kind = kind; shape = z; opening = opening; words = all; keys = keys; answers = answers; hands = hands }

  as_many : length hands ≡ z.workers
  as_many = sym (length-map hands (λ (x : Hand). x.share)) ∙ ap length shares_are ∙ workers

  all_words : all ≡ map plain_number opening ++ replicate (row_total z + 1) 0
  all_words =
      let size : length words ≡ cell_count z = ap length words_are ∙ length-map cells plain_number ∙ layout.size in
      let behind : n - m ≡ row_total z + 1 = omega (arith, n_is, m_is, size) in
      all_is ∙ (λ i. take_all n words (omega (arith, n_is, size)) i ++ replicate (behind i) 0)
      ∙ ap (λ (ws : List ℕ). ws ++ replicate (row_total z + 1) 0) (words_are ∙ ap (map plain_number) (sym opening_is))

  pub starts : GameStarts game
  starts = record {
    workers = as_many;
    opening = subst (IsLayout z.bits) (sym opening_is) layout;
    room = subst (λ (cs : List ℕ). LeavesRoom kind z.bits (keys_of cs) keys) (sym opening_is) room;
    keys = are_keys;
    words = all_words;
    answers = none_answered;
    hands = λ v d mine.
        let h = new v d (omega (arith, mine, as_many)) in
        record {
          worker = h.worker;
          kind_is = h.kind_is;
          idle = h.idle;
          view = h.view ∙ ap (λ (ws : List ℕ). new_view ws v) (plain_is ∙ words_are ∙ ap (map plain_number) (sym opening_is));
          done = h.done;
          changed = h.changed;
        };
    dealt = ⊎_elim
        (λ (parts : ArePieces 0 shares (length keys)). inl (subst (λ (ss : List Share). ArePieces 0 ss (length keys)) (sym shares_are) parts))
        (λ (all_claim : (z.keys ≡ length keys) × All ClaimsAll shares). inr (all_claim.0, will_claim shares hands shares_are all_claim.1)) dealt;
  }
