-- What a play that was run has printed.
use Rattle.std.proofs.Common.{◌≡◌, ℕ, Bool, true, false, ◌↔◌, IsTrue, List, [], ◌++◌, Option, Ok, Err, refl, sym, ap, ◌∙◌, subst}
use Rattle.std.specs.Prelude.{IsErrOf}
use Rattle.rh_layout.specs.Layout.{IsLayout, Keys, Layout, keys_of}
use Rattle.rh_layout.proofs.LayoutLemmas.{layout_keys, layout_own}
use Rattle.rh_ledger.specs.declared.tally.Kind.{Kind}
use Rattle.rh_ledger.specs.Phase.{set_after, tally_of}
use Rattle.rh_words.specs.declared.shape.Shape.{Shape}
use Rattle.rh_turns.specs.Game.{AllFinished, Game}
use Rattle.rh_interleaving.specs.Made.{IsMadeSoFar, TallySpec, held_first}
use Rattle.std.specs.Io.KnownBytes.{Appends}
use Rattle.rh_ledger.specs.declared.tally.Tally.{Tally}
use Rattle.rh_bytes.specs.Counting.{AppendsFront}
use Rattle.rh_play_text.specs.Lines.{end_line, tally_line}
use Rattle.rh_dump.specs.Dump.{dump_text}
use Rattle.rh_play_text.specs.declared.play.Play.{Play}
use Rattle.rh_play_run.specs.Beginning.{BeginsPlay, bits_of, held_of, work_keys}
use Rattle.rh_play_run.specs.declared.fault.PlayRunFault.{PlayRunFault}
use Rattle.rh_play_run.specs.declared.fault.PlayRunFault.TheVariants.{Read, Text, Start, Memory, Write}
use Rattle.rh_play_run.specs.Run.{ClosesWith, IsAllFinished, tally_so_far, IsPlayRead, IsPlayed, IsUnplayed, IsUnrun, RunsPlay, SaysGoodPlay, closing}
use Rattle.rh_play_run.specs.declared.log.Telling.{Telling}
use Rattle.rh_play_run.specs.Pieces.{MayBeTold, LogEntry, steps_after, told}
use Rattle.rh_play_run.specs.Schedule.{CarriesOutAll}
use Rattle.rh_play_run.proofs.Begun.{matches}
use Rattle.rh_play_run.proofs.Keeping.{schedule_keeps}

-- what the game at the end has of its play
pub record IsLast (play : Play) (g : Game) : Type 0 where
  pub kind : g.kind ≡ play.kind
  pub bits : g.shape.bits ≡ bits_of play
  pub held : held_first g ≡ held_of play
  pub keys : g.keys ≡ work_keys play.work

pub last_game : (play : Play) (first last : Game) (pieces : List LogEntry) → BeginsPlay play first → CarriesOutAll play.schedule.items first pieces last → IsLast play last
last_game play first last pieces begins follows =
    let kept = schedule_keeps play.schedule.items first pieces last follows in
    let start = matches play play.work begins.cells first begins.starts in
    record {
      kind = kept.kind ∙ start.kind;
      bits = ap (λ (z : Shape). z.bits) kept.shape ∙ start.bits;
      held = ap keys_of (kept.opening ∙ start.opening) ∙ sym (layout_keys begins.cells (bits_of play) (held_of play) begins.layout);
      keys = kept.keys ∙ start.keys;
    }

pub is_layout : (play : Play) (g : Game) (cells : List ℕ) → IsLast play g → IsMadeSoFar g cells → IsLayout (bits_of play) cells
is_layout play g cells last made =
    subst (λ (b : ℕ). IsLayout b cells) last.bits (layout_own _ _ _ (made.1.stands.layout cells made.0))

same_layout : (cells : List ℕ) (b c : ℕ) (k l : Kind) (S T : Keys) (xs ys : List ℕ) → b ≡ c → k ≡ l → S ≡ T → xs ≡ ys → Layout cells b (set_after k S xs) → Layout cells c (set_after l T ys)
same_layout cells b c k l S T xs ys p q r s layout =
    subst (λ (x : ℕ). Layout cells x (set_after l T ys)) p
    (subst (λ (x : Kind). Layout cells b (set_after x T ys)) q
    (subst (λ (x : Keys). Layout cells b (set_after k x ys)) r
    (subst (λ (x : List ℕ). Layout cells b (set_after k S x)) s layout)))

same_closing : (close : List ℕ) (k l : Kind) (S T : Keys) (xs ys : List ℕ) → k ≡ l → S ≡ T → xs ≡ ys → close ≡ closing (tally_of k S xs) true → close ≡ closing (tally_of l T ys) true
same_closing close k l S T xs ys q r s is =
    subst (λ (x : Kind). close ≡ closing (tally_of x T ys) true) q
    (subst (λ (x : Keys). close ≡ closing (tally_of k x ys) true) r
    (subst (λ (x : List ℕ). close ≡ closing (tally_of k S x) true) s is))

pub played : (telling : Telling) (play : Play) (first last : Game) (pieces : List LogEntry) (body cells close : List ℕ) → BeginsPlay play first → CarriesOutAll play.schedule.items first pieces last
    → MayBeTold telling (steps_after 0 pieces) → body ≡ told telling 0 pieces → IsMadeSoFar last cells → (AllFinished last → Layout cells last.shape.bits (set_after last.kind (held_first last) last.keys)) → ClosesWith last close
    → (AllFinished last → close ≡ closing (tally_of last.kind (held_first last) last.keys) true) → IsPlayed telling play (body ++ (dump_text (bits_of play) cells ++ close))
played telling play first last pieces body cells close begins follows short is made layout closes closed =
    let end = last_game play first last pieces begins follows in
    record {
      run = record { first = first; last = last; begins = begins; pieces = pieces; follows = follows };
      short = short;
      ending = dump_text (bits_of play) cells ++ close;
      ends = record { cells = cells; so_far = made; close = close; closes = closes; text_is = refl };
      as_one = λ done. record {
        cells = cells;
        layout = same_layout cells _ _ _ _ _ _ _ _ end.bits end.kind end.held end.keys (layout done);
        text_is = ap (λ (t : List ℕ). dump_text (bits_of play) cells ++ t) (same_closing close _ _ _ _ _ _ end.kind end.held end.keys (closed done));
      };
      text_is = ap (λ (t : List ℕ). t ++ (dump_text (bits_of play) cells ++ close)) is;
    }

-- ---- the lines below the dump

closing_text : (empty first text : List ℕ) (tally : Tally) (finished : Bool) → empty ≡ [] → first ≡ empty ++ tally_line tally → text ≡ first ++ end_line finished → text ≡ closing tally finished
unfolding closing
closing_text empty first text tally finished none one two = two ∙ ap (λ (l : List ℕ). l ++ end_line finished) (one ∙ ap (λ (l : List ℕ). l ++ tally_line tally) none)

stand : (g : Game) (finished : Bool) → (IsTrue finished ↔ AllFinished g) → IsAllFinished g finished
stand g true tells = tells.0 refl
stand g false tells = λ all. let no : false ≡ true = tells.1 all in absurd cc

pub closed : (g : Game) (empty first text : List ℕ) (tally : Tally) (finished : Bool) → tally ≡ tally_so_far g → TallySpec g tally → (IsTrue finished ↔ AllFinished g)
    → empty ≡ [] → first ≡ empty ++ tally_line tally → text ≡ first ++ end_line finished → ClosesWith g text
closed g empty first text tally finished counts so tells none one two =
    (finished, stand g finished tells, closing_text empty first text tally finished none one two ∙ ap (λ (t : Tally). closing t finished) counts, subst (TallySpec g) counts so)

pub closed_finished : (g : Game) (empty first text : List ℕ) (tally whole : Tally) (finished : Bool) → (AllFinished g → tally ≡ whole) → (IsTrue finished ↔ AllFinished g)
    → empty ≡ [] → first ≡ empty ++ tally_line tally → text ≡ first ++ end_line finished → AllFinished g → text ≡ closing whole true
closed_finished g empty first text tally whole finished counts tells none one two all =
    closing_text empty first text tally finished none one two ∙ ap (λ (t : Tally). closing t finished) (counts all) ∙ ap (λ (b : Bool). closing whole b) (tells.1 all)

-- ---- what comes of a run

pub unrun : (bytes : Option (List ℕ)) (play : Play) (fault : PlayRunFault) → IsPlayRead bytes play → IsUnplayed play fault → IsUnrun bytes fault
unrun bytes play (Start fault) read why = (play, read, why)
unrun bytes play Memory read why = tt
unrun bytes play _ read why = absurd why

pub not_run : (X : Type 0) (telling : Telling) (bytes old new : Option (List ℕ)) (fault : PlayRunFault) → IsUnrun bytes fault → RunsPlay {X = X} telling bytes old new (Err fault)
not_run X telling bytes old new Read why = tt
not_run X telling bytes old new (Text fault) why = why
not_run X telling bytes old new (Start fault) why = why
not_run X telling bytes old new Memory why = tt
not_run X telling bytes old new Write why = absurd why

pub good_play : (X : Type 0) (bytes : Option (List ℕ)) (play : Play) (fault : PlayRunFault) → IsPlayRead bytes play → IsUnplayed play fault → IsErrOf {T = X} (Err fault) Memory → SaysGoodPlay bytes
good_play X bytes play fault read why memory =
    let same : fault ≡ Memory = cc in
    (play, read, subst (IsUnplayed play) same why)
