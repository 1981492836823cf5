-- Why a play begins, and why not.
use Rattle.std.proofs.Common.{◌≡◌, ℕ, ◌^◌, ◌<◌, ◌≤◌, true, List, length, take, replicate, Option, Some, None, MatchOption, Result, Ok, Err, refl, sym, ap, ◌∙◌, subst, arith, IfOk, IfErr, Vec, Global}
use Rattle.std.proofs.lemmas.Bool.{le-ltb, lt-ltb}
use Rattle.std.proofs.lemmas.List.{take-replicate}
use Rattle.std.proofs.Math.Nat.{pow-le-pow_right}
use Rattle.std.specs.FinSet as set
use Rattle.rh_layout.specs.declared.limits.TheConstants.{MAX_BITS}
use Rattle.rh_layout.specs.Key.{IsBits}
use Rattle.rh_layout.specs.Layout.{IsLayout, Layout, keys_of}
use Rattle.rh_edit.proofs.SetLemmas.{keeps_empty, keys_of_empty}
use Rattle.rh_words.specs.declared.shape.Rooms.{Rooms}
use Rattle.rh_turns.specs.Game.{Game}
use Rattle.rh_interleaving.specs.declared.fault.PlayFault.{PlayFault}
use Rattle.rh_interleaving.specs.declared.fault.PlayFault.TheVariants.{NoRoom}
use Rattle.rh_interleaving.specs.Start.{HasSizes, MakesPlayer, Refuses, StartsPieces, StartsShared, StartsWith, are_keys, keys_of_pieces, start_fault}
use Rattle.rh_play_text.specs.declared.play.Play.{Play}
use Rattle.rh_play_text.specs.declared.play.Work.{Work}
use Rattle.rh_play_text.specs.declared.play.Work.TheVariants.{Pieces, Share}
use Rattle.rh_play_run.specs.Beginning.{BeginsPlay, CanBegin, IsPlayerFault, IsRefusedStart, IsBlank, StartsOn, bits_of, held_fault, held_of, work_keys, player_fault, rooms_in, workers_in}

pub many_held : (bits : ℕ) (keys : List ℕ) → are_keys keys ≡ true → 2 ^ bits ≤ length keys → held_fault bits keys ≡ Some NoRoom
many_held bits keys good many = rw (good, le-ltb (length keys) (2 ^ bits) many) refl

pub few_held : (bits : ℕ) (keys : List ℕ) → are_keys keys ≡ true → length keys < 2 ^ bits → held_fault bits keys ≡ None
few_held bits keys good few = rw (good, lt-ltb (length keys) (2 ^ bits) few) refl

-- the first fault of the start, where the keys held have this one, or none
then_player : (play : Play) (held first : Option PlayFault) → held ≡ None → IsPlayerFault play first → MatchOption held (IsPlayerFault play first) (λ fault. first ≡ Some fault)
then_player play held first none is = rw none is

before_player : (play : Play) (held : Option PlayFault) (fault : PlayFault) → held ≡ Some fault → MatchOption held (IsPlayerFault play (Some fault)) (λ f. Some fault ≡ Some f)
before_player play held fault is = rw is refl

pub can_begin : (play : Play) (g : Game) → BeginsPlay play g → CanBegin play
can_begin play g begins = then_player play _ None begins.held (begins.cells, begins.layout, begins.player)

no_player : (play : Play) (cells : List ℕ) (fault : PlayFault) → held_fault (bits_of play) play.held.items ≡ None → Layout cells (bits_of play) (held_of play)
    → Refuses (player_fault play cells) fault → IsRefusedStart play fault
no_player play cells fault held layout refuses = (player_fault play cells, then_player play _ (player_fault play cells) held (cells, layout, refl), refuses)

pub held_refused : (play : Play) (keys : List ℕ) (fault : PlayFault) → keys ≡ play.held.items → held_fault (bits_of play) keys ≡ Some fault → IsRefusedStart play fault
held_refused play keys fault same is = (Some fault, before_player play _ fault (subst (λ (l : List ℕ). held_fault (bits_of play) l ≡ Some fault) same is), refl)

held_layout : (play : Play) (given items keys : List ℕ) → given ≡ items → keys ≡ play.held.items → Layout items (bits_of play) (set.from_list keys) → Layout given (bits_of play) (held_of play)
held_layout play given items keys same_cells same_keys layout =
    subst (λ (l : List ℕ). Layout given (bits_of play) (set.from_list l)) same_keys
    (subst (λ (l : List ℕ). Layout l (bits_of play) (set.from_list keys)) (sym same_cells) layout)

pub begun : (play : Play) (given items keys : List ℕ) (r : Result Game PlayFault) → given ≡ items → keys ≡ play.held.items → held_fault (bits_of play) keys ≡ None
    → Layout items (bits_of play) (set.from_list keys) → MakesPlayer (player_fault play given) (StartsOn given play play.work) r → IfOk r (λ player. BeginsPlay play player)
begun play given items keys (Ok g) same_cells same_keys held layout made = record {
  cells = given;
  held = subst (λ (l : List ℕ). held_fault (bits_of play) l ≡ None) same_keys held;
  layout = held_layout play given items keys same_cells same_keys layout;
  player = made.0;
  starts = made.1;
}
begun play given items keys (Err fault) same_cells same_keys held layout made = tt

pub not_begun : (play : Play) (given items keys : List ℕ) (r : Result Game PlayFault) → given ≡ items → keys ≡ play.held.items → held_fault (bits_of play) keys ≡ None
    → Layout items (bits_of play) (set.from_list keys) → MakesPlayer (player_fault play given) (StartsOn given play play.work) r → IfErr r (IsRefusedStart play)
not_begun play given items keys (Ok g) same_cells same_keys held layout made = tt
not_begun play given items keys (Err fault) same_cells same_keys held layout made =
    no_player play given fault (subst (λ (l : List ℕ). held_fault (bits_of play) l ≡ None) same_keys held) (held_layout play given items keys same_cells same_keys layout) made

-- ---- the player of a play

pub pieces_made : (play : Play) (cells : List ℕ) (given : List (Vec ℕ Global)) (pieces : Vec (Vec ℕ Global) Global) (rooms : Rooms) (r : Result Game PlayFault)
    → play.work ≡ Pieces pieces → given ≡ pieces.items → rooms ≡ rooms_in play.rooms
    → MakesPlayer (start_fault play.kind (bits_of play) cells (length given) (keys_of_pieces given)) (StartsPieces play.kind (bits_of play) rooms cells given) r
    → MakesPlayer (player_fault play cells) (StartsOn cells play play.work) r
pieces_made play cells given pieces rooms r is same_pieces same_rooms made =
    subst (λ (w : Work). MakesPlayer (start_fault play.kind (bits_of play) cells (workers_in w) (work_keys w)) (StartsOn cells play w) r) (sym is)
    (subst (λ (l : List (Vec ℕ Global)). MakesPlayer (start_fault play.kind (bits_of play) cells (length l) (keys_of_pieces l)) (StartsPieces play.kind (bits_of play) (rooms_in play.rooms) cells l) r) same_pieces
    (subst (λ (o : Rooms). MakesPlayer (start_fault play.kind (bits_of play) cells (length given) (keys_of_pieces given)) (StartsPieces play.kind (bits_of play) o cells given) r) same_rooms made))

pub share_made : (play : Play) (cells : List ℕ) (given : List ℕ) (workers : ℕ) (keys : Vec ℕ Global) (rooms : Rooms) (r : Result Game PlayFault)
    → play.work ≡ Share workers keys → given ≡ keys.items → rooms ≡ rooms_in play.rooms
    → MakesPlayer (start_fault play.kind (bits_of play) cells workers given) (StartsShared play.kind (bits_of play) workers rooms cells given) r
    → MakesPlayer (player_fault play cells) (StartsOn cells play play.work) r
share_made play cells given workers keys rooms r is same_keys same_rooms made =
    subst (λ (w : Work). MakesPlayer (start_fault play.kind (bits_of play) cells (workers_in w) (work_keys w)) (StartsOn cells play w) r) (sym is)
    (subst (λ (l : List ℕ). MakesPlayer (start_fault play.kind (bits_of play) cells workers l) (StartsShared play.kind (bits_of play) workers (rooms_in play.rooms) cells l) r) same_keys
    (subst (λ (o : Rooms). MakesPlayer (start_fault play.kind (bits_of play) cells workers given) (StartsShared play.kind (bits_of play) workers o cells given) r) same_rooms made))

-- what a game has of its play
pub record Matches (play : Play) (work : Work) (cells : List ℕ) (g : Game) : Type 0 where
  pub kind : g.kind ≡ play.kind
  pub bits : g.shape.bits ≡ bits_of play
  pub opening : g.opening ≡ cells
  pub keys : g.keys ≡ work_keys work
  pub workers : length g.hands ≡ workers_in work
  pub some : 0 < workers_in work

matches_start : (play : Play) (work : Work) (cells : List ℕ) (g : Game) (rooms : Rooms) (shared : ℕ) → HasSizes (bits_of play) (workers_in work) rooms shared g.shape
    → StartsWith play.kind cells (work_keys work) g → Matches play work cells g
matches_start play work cells g rooms shared sizes start = record {
  kind = start.kind_is;
  bits = sizes.bits_are;
  opening = start.opening_is;
  keys = start.keys_are;
  workers = start.starts.workers ∙ sizes.workers_are;
  some = subst (λ (n : ℕ). 0 < n) sizes.workers_are g.shape.some_worker;
}

pub matches : (play : Play) (work : Work) (cells : List ℕ) (g : Game) → StartsOn cells play work g → Matches play work cells g
matches play (Pieces pieces) cells g starts = matches_start play (Pieces pieces) cells g _ _ starts.sizes starts.start
matches play (Share workers keys) cells g starts = matches_start play (Share workers keys) cells g _ _ starts.sizes starts.start

-- ---- the table of a play

-- the first of blank cells
first_cells : (blank cells : List ℕ) (n bits : ℕ) → IsBlank blank → IsBits bits → n ≡ 2 ^ bits → cells ≡ take n blank → cells ≡ replicate (2 ^ bits) 0
first_cells blank cells n bits empty fits size first =
    let few : 2 ^ bits ≤ 2 ^ MAX_BITS = pow-le-pow_right (omega arith) fits.1 in
    first ∙ ap (λ (m : ℕ). take m blank) size ∙ ap (λ (l : List ℕ). take (2 ^ bits) l) empty.0 ∙ take-replicate (2 ^ bits) (length blank) 0 (omega (arith, few, empty.1))

-- They are the table of no key.
module _ (blank cells : List ℕ) (n bits : ℕ) (empty : IsBlank blank) (fits : IsBits bits) (size : n ≡ 2 ^ bits) (first : cells ≡ take n blank) where
  pub no_key : keys_of cells ≡ set.empty
  no_key = keys_of_empty (2 ^ bits) cells (first_cells blank cells n bits empty fits size first)

  pub empty_layout : IsLayout bits cells
  empty_layout = (keeps_empty (2 ^ bits) cells (first_cells blank cells n bits empty fits size first) bits fits refl).0

  pub some_free : set.len (keys_of cells) < 2 ^ bits
  some_free =
      let kept = keeps_empty (2 ^ bits) cells (first_cells blank cells n bits empty fits size first) bits fits refl in
      omega (arith, kept.1, kept.2)
