-- The shares of the keys of a new player.
use Rattle.std.proofs.Common.{◌≡◌, ℕ, zero, suc, ◌+◌, ◌-◌, ◌<◌, ◌≤◌, ⊎_elim, sym, refl, ap, ◌∙◌, subst, arith, List, [], ◌∷◌, ◌++◌, length, take, get_or}
use Rattle.std.specs.Prelude.{slice_index, Vec}
use Rattle.std.specs.Global.{Global}
use Rattle.std.proofs.lemmas.Bool.{cases_lt}
use Rattle.std.proofs.lemmas.List.{ext_get_or, flat_map_more, get_or_append_left, get_or-append-add, get_or-take, get_or_at, get_or_default, length-append, length-take, take_more}
use Rattle.std.proofs.lemmas.List.FromFn.{get_or-map-range_with_len, length-map-range_with_len}
use Rattle.rh_turns.specs.declared.hand.Share.{Share}
use Rattle.rh_turns.specs.declared.hand.Share.TheVariants.{Piece}
use Rattle.rh_turns.specs.Hands.{share_keys}
use Rattle.rh_turns.specs.Game.{ArePieces}
use Rattle.rh_interleaving.specs.SetUp.{AreDealt}
use Rattle.rh_interleaving.specs.Start.{keys_of_pieces}

-- ---- the keys of a part

-- are these, where they stand there
part_is : (keys : List ℕ) (first end : ℕ) (part : List ℕ) → length part ≡ end - first → ((i : ℕ) → i < length part → slice_index keys (first + i) ≡ get_or part i 0) → share_keys keys (Piece first end) ≡ part
part_is keys first end part size at =
    let long : length (share_keys keys (Piece first end)) ≡ end - first = length-map-range_with_len (slice_index keys) first (end - first) in
    ext_get_or 0 (share_keys keys (Piece first end)) part (long ∙ sym size)
    (λ i inside. let within : i < end - first = omega (arith, inside, long) in
    get_or-map-range_with_len (slice_index keys) first (end - first) i (first + i) 0 within refl ∙ at i (omega (arith, within, size)))

pub part_at : (keys : List ℕ) (first end i : ℕ) → i < end - first → get_or (share_keys keys (Piece first end)) i 0 ≡ slice_index keys (first + i)
part_at keys first end i inside = get_or-map-range_with_len (slice_index keys) first (end - first) i (first + i) 0 inside refl

-- keys behind it leave it as it is
part_stays : (keys more : List ℕ) (first end : ℕ) → first ≤ end → end ≤ length keys → share_keys (keys ++ more) (Piece first end) ≡ share_keys keys (Piece first end)
part_stays keys more first end low high =
    let size : length (share_keys keys (Piece first end)) ≡ end - first = length-map-range_with_len (slice_index keys) first (end - first) in
    part_is (keys ++ more) first end (share_keys keys (Piece first end)) size
    (λ i inside. get_or_append_left keys more 0 (first + i) (omega (arith, inside, size, low, high)) ∙ sym (part_at keys first end i (omega (arith, inside, size))))

last_part : (keys piece : List ℕ) (end : ℕ) → end ≡ length keys + length piece → share_keys (keys ++ piece) (Piece (length keys) end) ≡ piece
last_part keys piece end is = part_is (keys ++ piece) (length keys) end piece (omega (arith, is)) (λ i inside. get_or-append-add keys piece i 0)

-- ---- one piece more

pub parts_more : (from : ℕ) (shares : List Share) (mid end : ℕ) → ArePieces from shares mid → mid ≤ end → ArePieces from (shares ++ Piece mid end ∷ []) end
parts_more from [] mid end are high = (end, ap (λ (n : ℕ). Piece n end) (sym are), omega (arith, are, high), refl)
parts_more from (s ∷ ss) mid end are high = (are.0, are.1, are.2, parts_more are.0 ss mid end are.3 high)

parts_up : (from : ℕ) (shares : List Share) (count : ℕ) → ArePieces from shares count → from ≤ count
parts_up from [] count are = omega (arith, are)
parts_up from (s ∷ ss) count are = let rest = parts_up are.0 ss count are.3 in omega (arith, rest, are.2)

part_of : (from : ℕ) (shares : List Share) (count : ℕ) → ArePieces from shares count → (v : ℕ) (d : Share) → v < length shares
    → (first end : ℕ) × (get_or shares v d ≡ Piece first end) × (first ≤ end) × (end ≤ count)
part_of from [] count are v d inside = absurd (omega (arith, inside))
part_of from (s ∷ ss) count are zero d inside = (from, are.0, are.1, are.2, parts_up are.0 ss count are.3)
part_of from (s ∷ ss) count are (suc v) d inside = part_of are.0 ss count are.3 v d (omega (arith, inside))

pub joined_more : (pieces : List (Vec ℕ Global)) (i : ℕ) (d : Vec ℕ Global) → i < length pieces → keys_of_pieces (take i pieces) ++ (get_or pieces i d).items ≡ keys_of_pieces (take (i + 1) pieces)
joined_more pieces i d inside =
    flat_map_more (λ (piece : Vec ℕ Global). piece.items) [] (take i pieces) (get_or pieces i d) ∙ ap keys_of_pieces (sym (take_more pieces i d inside))

pub dealt_more : (pieces : List (Vec ℕ Global)) (keys : List ℕ) (shares : List Share) (i end : ℕ) (piece : Vec ℕ Global) → i < length pieces → get_or pieces i piece ≡ piece
    → ArePieces 0 shares (length keys) → AreDealt keys shares (take i pieces) → end ≡ length keys + length piece.items
    → AreDealt (keys ++ piece.items) (shares ++ Piece (length keys) end ∷ []) (take (i + 1) pieces)
dealt_more pieces keys shares i end piece inside is are dealt last =
    let long : length (take i pieces) ≡ i = length-take i pieces ∙ omega (arith, inside) in
    let longer : length (take (i + 1) pieces) ≡ i + 1 = length-take (i + 1) pieces ∙ omega (arith, inside) in
    let count : length shares ≡ i = dealt.size ∙ long in
    record {
      size = length-append shares (Piece (length keys) end ∷ []) ∙ omega (arith, count, longer);
      each = λ v s p within. ⊎_elim
          (λ (earlier : v < i).
          let r = part_of 0 shares (length keys) are v s (omega (arith, earlier, count)) in
          ap (share_keys (keys ++ piece.items)) (get_or_append_left shares (Piece (length keys) end ∷ []) s v (omega (arith, earlier, count)) ∙ r.2)
          ∙ part_stays keys piece.items r.0 r.1 r.3 r.4 ∙ ap (share_keys keys) (sym r.2) ∙ dealt.each v s p (omega (arith, earlier, long))
          ∙ ap (λ (x : Vec ℕ Global). x.items) (get_or-take i pieces v p earlier ∙ sym (get_or-take (i + 1) pieces v p (omega (arith, earlier)))))
          (λ (here : i ≤ v).
          let now : v ≡ i = omega (arith, here, within, longer) in
          ap (share_keys (keys ++ piece.items)) (ap (λ (n : ℕ). get_or (shares ++ Piece (length keys) end ∷ []) n s) now ∙ get_or_at shares (Piece (length keys) end) [] s i count)
          ∙ last_part keys piece.items end last
          ∙ ap (λ (x : Vec ℕ Global). x.items) (sym (ap (λ (n : ℕ). get_or (take (i + 1) pieces) n p) now ∙ get_or-take (i + 1) pieces i p (omega arith) ∙ same p ∙ is)))
          (cases_lt v i);
    }
  where
    same : (p : Vec ℕ Global) → get_or pieces i p ≡ get_or pieces i piece
    same p = get_or_default pieces i p piece inside

-- the keys of the next piece are put behind the others
pub dealt_next : (pieces : List (Vec ℕ Global)) (keys : List ℕ) (shares : List Share) (i : ℕ) (piece : Vec ℕ Global) → i < length pieces → piece ≡ get_or pieces i piece
    → keys ≡ keys_of_pieces (take i pieces) → ArePieces 0 shares (length keys) → AreDealt keys shares (take i pieces)
    → (first end : ℕ) (now : List ℕ) (more : List Share) → first ≡ length keys → now ≡ keys ++ piece.items → end ≡ length now → more ≡ shares ++ Piece first end ∷ []
    → (now ≡ keys_of_pieces (take (i + 1) pieces)) × ArePieces 0 more (length now) × AreDealt now more (take (i + 1) pieces)
dealt_next pieces keys shares i piece inside is keys_are parts dealt first end now more first_is now_is end_is more_is =
    let size : length (keys ++ piece.items) ≡ length keys + length piece.items = length-append keys piece.items in
    let last : end ≡ length keys + length piece.items = end_is ∙ ap length now_is ∙ size in
    let more_are : more ≡ shares ++ Piece (length keys) end ∷ [] = more_is ∙ ap (λ (n : ℕ). shares ++ Piece n end ∷ []) first_is in (
      now_is ∙ ap (λ (ks : List ℕ). ks ++ piece.items) keys_are ∙ ap (λ (x : Vec ℕ Global). keys_of_pieces (take i pieces) ++ x.items) is ∙ joined_more pieces i piece inside,
      subst (λ (ss : List Share). ArePieces 0 ss (length now)) (sym more_are) (subst (λ (n : ℕ). ArePieces 0 (shares ++ Piece (length keys) end ∷ []) n) end_is
          (parts_more 0 shares (length keys) end parts (omega (arith, last)))),
      subst (λ (ks : List ℕ). AreDealt ks more (take (i + 1) pieces)) (sym now_is) (subst (λ (ss : List Share). AreDealt (keys ++ piece.items) ss (take (i + 1) pieces)) (sym more_are)
          (dealt_more pieces keys shares i end piece inside (sym is) parts dealt last)),
    )
