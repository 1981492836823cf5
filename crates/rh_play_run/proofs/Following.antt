-- How a schedule goes on: each turn, pass and order before what is still to come.
use Rattle.std.proofs.lemmas.List.{drop_all}
use Rattle.std.proofs.Common.{suc, ◌≡◌, ℕ, ◌+◌, ◌||◌, Bool, true, false, List, [], ◌∷◌, ◌++◌, length, inl, inr, refl, sym, ap, ◌∙◌, subst, add-one, append_assoc, append-nil, arith, Some, slice_index, get_or, drop, drop-cons, ◌<◌, ◌≤◌, ◌↔◌, IsTrue, IsFalse, Result, Ok, Err, OnOk, Vec, Global}
use Rattle.rh_words.specs.declared.steps.StepKind.{StepKind}
use Rattle.rh_tagword.specs.declared.word.Word.{Word}
use Rattle.rh_tagword.specs.Word.{word_in}
use Rattle.rh_turns.specs.declared.turning.Turn.{Turn}
use Rattle.rh_turns.specs.Game.{AllStopped, Game}
use Rattle.rh_interleaving.specs.Turned.{BeginsRound}
use Rattle.rh_play_text.specs.declared.limits.TheConstants.{MAX_TURNS}
use Rattle.rh_play_text.specs.declared.schedule.Order.{Order}
use Rattle.rh_play_text.specs.declared.schedule.Order.TheVariants as order
use Rattle.rh_play_text.specs.declared.endings.Last.{Last}
use Rattle.rh_play_text.specs.declared.endings.Last.TheVariants.{Limit}
use Rattle.rh_play_text.specs.declared.endings.Rest.{Rest}
use Rattle.rh_play_text.specs.Appending.{Prints}
use Rattle.rh_play_text.specs.Lines.{raw_line, rest_line, round_line, turn_line, until_line}
use Rattle.rh_play_run.specs.declared.limits.TheConstants.{MAX_TOLD}
use Rattle.rh_play_run.specs.declared.log.Log.{Log}
use Rattle.rh_play_run.specs.declared.log.Telling.{Telling}
use Rattle.rh_play_run.specs.declared.log.Telling.TheVariants.{Orders, Steps, Records}
use Rattle.rh_draw.specs.declared.records.Record.{Record}
use Rattle.rh_play_run.specs.Pieces.{MayBeTold, LogEntry, TellsPieces, one_step_more, piece_records, piece_text, recorded, round_pieces, steps_after, steps_with, told}
use Rattle.rh_play_run.specs.Schedule.{ATurn, CarriesOut, CarriesOutAll, Misses, Reaches, PassesToRest, RestsWithin, Rounds, StandsAs, TurnOfEach, TurnsOf, TurnsUntil, last_of, makes_step, shown, word_line, words_shown}

-- ---- what is told

pub nothing_told : (log : Log) → TellsPieces log [] log
nothing_told log = record { telling = refl; steps = refl; text = λ _. sym (append-nil log.text.items); records = λ _. sym (append-nil log.records.items) }

told_more : (telling : Telling) (n : ℕ) (ps qs : List LogEntry) → told telling n (ps ++ qs) ≡ told telling n ps ++ told telling (steps_after n ps) qs
told_more telling n [] qs = refl
told_more telling n (p ∷ ps) qs =
    ap (λ (l : List ℕ). piece_text telling n p ++ l) (told_more telling (steps_with n p) ps qs)
    ∙ sym (append_assoc (piece_text telling n p) (told telling (steps_with n p) ps) (told telling (steps_after (steps_with n p) ps) qs))

records_more : (telling : Telling) (n : ℕ) (ps qs : List LogEntry) → recorded telling n (ps ++ qs) ≡ recorded telling n ps ++ recorded telling (steps_after n ps) qs
records_more telling n [] qs = refl
records_more telling n (p ∷ ps) qs =
    ap (λ (l : List Record). piece_records telling n p ++ l) (records_more telling (steps_with n p) ps qs)
    ∙ sym (append_assoc (piece_records telling n p) (recorded telling (steps_with n p) ps) (recorded telling (steps_after (steps_with n p) ps) qs))

steps_more : (n : ℕ) (ps qs : List LogEntry) → steps_after n (ps ++ qs) ≡ steps_after (steps_after n ps) qs
steps_more n [] qs = refl
steps_more n (p ∷ ps) qs = steps_more (steps_with n p) ps qs

-- the steps are no fewer later
few : (n : ℕ) (pieces : List LogEntry) → steps_after n pieces ≤ MAX_TOLD → n ≤ MAX_TOLD
few n [] within = within
few n (LogEntry.step worker kind touched ∷ pieces) within = omega (arith, few (one_step_more n) pieces within)
few n (LogEntry.round ∷ pieces) within = few n pieces within
few n (LogEntry.lines text ∷ pieces) within = few n pieces within

told_before : (telling : Telling) (n : ℕ) (pieces : List LogEntry) → MayBeTold telling (steps_after n pieces) → MayBeTold telling n
told_before Orders n pieces within = tt
told_before Steps n pieces within = few n pieces within
told_before Records n pieces within = few n pieces within

pub then_tells : (a b c : Log) (ps qs : List LogEntry) → TellsPieces a ps b → TellsPieces b qs c → TellsPieces a (ps ++ qs) c
then_tells a b c ps qs one two = record {
  telling = two.telling ∙ one.telling;
  steps = two.steps ∙ ap (λ (n : ℕ). steps_after n qs) one.steps ∙ sym (steps_more a.steps ps qs);
  text = λ within.
      two.text (later within)
      ∙ ap (λ (l : List ℕ). l ++ told b.telling b.steps qs) (one.text (before within))
      ∙ ap (λ (t : Telling). (a.text.items ++ told a.telling a.steps ps) ++ told t b.steps qs) one.telling
      ∙ ap (λ (n : ℕ). (a.text.items ++ told a.telling a.steps ps) ++ told a.telling n qs) one.steps
      ∙ append_assoc a.text.items (told a.telling a.steps ps) (told a.telling (steps_after a.steps ps) qs)
      ∙ ap (λ (l : List ℕ). a.text.items ++ l) (sym (told_more a.telling a.steps ps qs));
  records = λ within.
      two.records (later within)
      ∙ ap (λ (l : List Record). l ++ recorded b.telling b.steps qs) (one.records (before within))
      ∙ ap (λ (t : Telling). (a.records.items ++ recorded a.telling a.steps ps) ++ recorded t b.steps qs) one.telling
      ∙ ap (λ (n : ℕ). (a.records.items ++ recorded a.telling a.steps ps) ++ recorded a.telling n qs) one.steps
      ∙ append_assoc a.records.items (recorded a.telling a.steps ps) (recorded a.telling (steps_after a.steps ps) qs)
      ∙ ap (λ (l : List Record). a.records.items ++ l) (sym (records_more a.telling a.steps ps qs));
}
  where
    later : MayBeTold a.telling c.steps → MayBeTold b.telling c.steps
    later = subst (λ (t : Telling). MayBeTold t c.steps) (sym one.telling)

    before : MayBeTold a.telling c.steps → MayBeTold a.telling b.steps
    before within = told_before a.telling b.steps qs (subst (MayBeTold a.telling) two.steps within)

-- the lines of an order were appended
lines_text : (telling : Telling) (n : ℕ) (text : List ℕ) → piece_text telling n (LogEntry.lines text) ≡ text
lines_text Orders n text = refl
lines_text Steps n text = refl
lines_text Records n text = refl

no_records : (telling : Telling) (n : ℕ) (text : List ℕ) → piece_records telling n (LogEntry.lines text) ≡ []
no_records Orders n text = refl
no_records Steps n text = refl
no_records Records n text = refl

lines_told : (a b : Log) (text : List ℕ) → b.telling ≡ a.telling → b.steps ≡ a.steps → b.records ≡ a.records → b.text.items ≡ a.text.items ++ text → TellsPieces a (LogEntry.lines text ∷ []) b
lines_told a b text telling steps records appended = record {
  telling = telling;
  steps = steps;
  text = λ _. appended ∙ ap (λ (l : List ℕ). a.text.items ++ l) (sym (append-nil text) ∙ ap (λ (l : List ℕ). l ++ []) (sym (lines_text a.telling a.steps text)));
  records = λ _.
      ap (λ (r : Vec Record Global). r.items) records
      ∙ sym (append-nil a.records.items)
      ∙ ap (λ (l : List Record). a.records.items ++ (l ++ [])) (sym (no_records a.telling a.steps text));
}

-- ---- turns of one worker

pub no_turns : (who : ℕ) (g : Game) (told : Last) → TurnsOf who 0 g told told [] g
unfolding TurnsOf
no_turns who g told = (refl, refl, refl)

pub one_turn_more : (who more : ℕ) (g mid next : Game) (made : Turn) (before after told : Last) (first others : List LogEntry) → ATurn g who made first mid → after ≡ last_of made
    → TurnsOf who more mid after told others next → TurnsOf who (suc more) g before told (first ++ others) next
unfolding TurnsOf
one_turn_more who more g mid next made before after told first others turned is rest =
    (made, first, others, mid, turned, subst (λ (l : Last). TurnsOf who more mid l told others next) is rest, refl)

pub until_limit : (who : ℕ) (kind : StepKind) (g : Game) → TurnsUntil 0 who kind g Limit [] g
unfolding TurnsUntil
until_limit who kind g = (refl, refl, refl)

pub until_reached : (more who : ℕ) (kind : StepKind) (g next : Game) (made : Turn) (told : Last) (first : List LogEntry) → ATurn g who made first next → Reaches kind made → told ≡ last_of made
    → TurnsUntil (suc more) who kind g told first next
unfolding TurnsUntil
until_reached more who kind g next made told first turned reaches is = (made, first, next, turned, inl (reaches, is, refl, refl))

pub until_more : (more who : ℕ) (kind : StepKind) (g mid next : Game) (made : Turn) (told : Last) (first others : List LogEntry) → ATurn g who made first mid → Misses kind made
    → TurnsUntil more who kind mid told others next → TurnsUntil (suc more) who kind g told (first ++ others) next
unfolding TurnsUntil
until_more more who kind g mid next made told first others turned misses rest = (made, first, mid, turned, inr (misses, others, rest, refl))

-- ---- turns of all workers

pub no_worker_left : (from : ℕ) (g : Game) (some : Bool) → TurnOfEach 0 from g some some [] g
unfolding TurnOfEach
no_worker_left from g some = (refl, refl, refl)

pub one_worker_more : (count from : ℕ) (g mid next : Game) (made : Turn) (before after some : Bool) (first others : List LogEntry) → ATurn g from made first mid
    → after ≡ before || makes_step made → TurnOfEach count (from + 1) mid after some others next → TurnOfEach (suc count) from g before some (first ++ others) next
unfolding TurnOfEach
one_worker_more count from g mid next made before after some first others turned is rest =
    (made, first, others, mid, turned, subst (λ (b : Bool). TurnOfEach count (from + 1) mid b some others next) is rest, refl)

pub last_pass : (more : ℕ) (g next : Game) (some : Bool) (pieces : List LogEntry) → TurnOfEach more 0 g false some pieces next → PassesToRest 0 more g pieces next
unfolding PassesToRest
last_pass more g next some pieces turns = (some, turns)

pub quiet_pass : (passes more count : ℕ) (g next : Game) (pieces : List LogEntry) → length g.hands ≡ count → TurnOfEach count 0 g false false pieces next → PassesToRest (suc passes) more g pieces next
unfolding PassesToRest
quiet_pass passes more count g next pieces is turns =
    (false, pieces, [], next, subst (λ (n : ℕ). TurnOfEach n 0 g false false pieces next) (sym is) turns, (refl, refl), sym (append-nil pieces))

pub one_pass_more : (passes more count : ℕ) (g mid next : Game) (first others : List LogEntry) → length g.hands ≡ count → TurnOfEach count 0 g false true first mid
    → PassesToRest passes more mid others next → PassesToRest (suc passes) more g (first ++ others) next
unfolding PassesToRest
one_pass_more passes more count g mid next first others is turns rest =
    (true, first, others, mid, subst (λ (n : ℕ). TurnOfEach n 0 g false true first mid) (sym is) turns, rest, refl)

-- ---- orders

pub no_order : (g : Game) → CarriesOutAll [] g [] g
unfolding CarriesOutAll
no_order g = (refl, refl)

pub one_order_more : (order : Order) (orders : List Order) (g mid next : Game) (first others : List LogEntry) → CarriesOut order g first mid
    → CarriesOutAll orders mid others next → CarriesOutAll (order ∷ orders) g (first ++ others) next
unfolding CarriesOutAll
one_order_more order orders g mid next first others does rest = (first, others, mid, does, rest, refl)

pub orders_from : (orders : List Order) (i : ℕ) (other : Order) (g mid next : Game) (first others : List LogEntry) → i < length orders → CarriesOut (get_or orders i other) g first mid
    → CarriesOutAll (drop (i + 1) orders) mid others next → CarriesOutAll (drop i orders) g (first ++ others) next
orders_from orders i other g mid next first others inside does rest =
    rw (drop-cons orders i other) (one_order_more (get_or orders i other) (drop (suc i) orders) g mid next first others does (rw add-one at rest))

pub all_followed : (orders : List Order) (i : ℕ) (g : Game) → length orders ≤ i → CarriesOutAll (drop i orders) g [] g
all_followed orders i g past = rw (drop_all i orders past) (no_order g)

pub a_round : (g next : Game) (began : Bool) → (IsTrue began ↔ AllStopped g) → (IsTrue began → BeginsRound g next) → (IsFalse began → next ≡ g) → Rounds g began next
a_round g next true decides begins stays = (decides.0 refl, begins refl)
a_round g next false decides begins stays =
    (λ stopped. let no : false ≡ true = decides.1 stopped in absurd cc, stays refl)

-- ---- what is told of an order

-- After its steps its lines were appended, and what is told is that of the order.
told_after : (todo done : Order) (g next : Game) (steps : List LogEntry) (text : List ℕ) (old mid new : Log) → todo ≡ done → TellsPieces old steps mid
    → new.telling ≡ mid.telling → new.steps ≡ mid.steps → new.records ≡ mid.records → new.text.items ≡ mid.text.items ++ text → CarriesOut done g (steps ++ LogEntry.lines text ∷ []) next
    → (pieces : List LogEntry) × CarriesOut todo g pieces next × TellsPieces old pieces new
told_after todo done g next steps text old mid new is before telling count records prints does = (
  steps ++ LogEntry.lines text ∷ [],
  subst (λ (o : Order). CarriesOut o g (steps ++ LogEntry.lines text ∷ []) next) (sym is) does,
  then_tells old mid new steps (LogEntry.lines text ∷ []) before (lines_told mid new text telling count records prints),
)

pub told_of : {X E : Type 0} (todo done : Order) (g next : Game) (steps : List LogEntry) (text : List ℕ) (old mid new : Log) (r : Result X E) → todo ≡ done → TellsPieces old steps mid
    → new.telling ≡ mid.telling → new.steps ≡ mid.steps → new.records ≡ mid.records → Prints mid.text.items new.text.items text r → CarriesOut done g (steps ++ LogEntry.lines text ∷ []) next
    → OnOk r ((pieces : List LogEntry) × CarriesOut todo g pieces next × TellsPieces old pieces new)
told_of todo done g next steps text old mid new (Ok x) is before telling count records prints does = told_after todo done g next steps text old mid new is before telling count records prints does
told_of todo done g next steps text old mid new (Err e) is before telling count records prints does = tt

pub told_so : {X E : Type 0} (todo done : Order) (g next : Game) (text : List ℕ) (old new : Log) (r : Result X E) → todo ≡ done
    → new.telling ≡ old.telling → new.steps ≡ old.steps → new.records ≡ old.records → OnOk r (new.text.items ≡ old.text.items ++ text) → CarriesOut done g (LogEntry.lines text ∷ []) next
    → OnOk r ((pieces : List LogEntry) × CarriesOut todo g pieces next × TellsPieces old pieces new)
told_so todo done g next text old new (Ok x) is telling count records prints does = told_after todo done g next [] text old old new is (nothing_told old) telling count records prints does
told_so todo done g next text old new (Err e) is telling count records prints does = tt

pub turn_order : (worker turns : ℕ) (g : Game) (told : Last) (steps : List LogEntry) (next : Game) → TurnsOf worker turns g Limit told steps next
    → CarriesOut (order.Turn worker turns) g (steps ++ LogEntry.lines (turn_line worker turns told) ∷ []) next
unfolding CarriesOut
turn_order worker turns g told steps next made = (told, steps, made, refl)

pub until_order : (worker : ℕ) (kind : StepKind) (g : Game) (told : Last) (steps : List LogEntry) (next : Game) → TurnsUntil MAX_TURNS worker kind g told steps next
    → CarriesOut (order.Until worker kind) g (steps ++ LogEntry.lines (until_line worker kind told) ∷ []) next
unfolding CarriesOut
until_order worker kind g told steps next made = (told, steps, made, refl)

pub rest_order : (g next : Game) (told : Rest) (steps : List LogEntry) → RestsWithin MAX_TURNS g steps next → StandsAs told next → CarriesOut order.Rest g (steps ++ LogEntry.lines (rest_line told) ∷ []) next
unfolding CarriesOut
rest_order g next told steps made stands = (told, steps, made, stands, refl)

pub round_order : (g next : Game) (began : Bool) → Rounds g began next → CarriesOut order.Round g (round_pieces began ++ LogEntry.lines (round_line began) ∷ []) next
unfolding CarriesOut
round_order g next began made = (began, made, refl)

pub show_order : (g : Game) → CarriesOut order.Show g (LogEntry.lines (shown g) ∷ []) g
unfolding CarriesOut
show_order g = (refl, refl)

-- ---- what is shown

pub one_cell_more : (words : List ℕ) (cell : ℕ) (word : Word) (before now then : List ℕ) → word_in (slice_index words cell) ≡ Some word → now ≡ before ++ words_shown words cell
    → then ≡ now ++ raw_line cell word → then ≡ before ++ words_shown words (cell + 1)
unfolding words_shown
one_cell_more words cell word before now then reads so_far line =
    let shown : word_line cell (word_in (slice_index words cell)) ≡ raw_line cell word = ap (word_line cell) reads in
    rw (add-one, shown) (line ∙ ap (λ (l : List ℕ). l ++ raw_line cell word) so_far ∙ append_assoc before (words_shown words cell) (raw_line cell word))

pub nothing_shown : (words before : List ℕ) → before ≡ before ++ words_shown words 0
unfolding words_shown
nothing_shown words before = sym (append-nil before)
