-- What is so of words that record is so of the words alone.
use Rattle.std.proofs.Common.{ℕ, Option, List, inl, inr, ⊎_elim}
use Rattle.rh_words.specs.declared.shape.Shape.{Shape}
use Rattle.rh_words.specs.declared.steps.StepKind.{StepKind}
use Rattle.rh_words.specs.View.{View}
use Rattle.rh_words.specs.Steps.{Step, StepsTo}
use Rattle.rh_recorder.specs.Records.{Records}
use Rattle.rh_recorder.specs.declared.recorder.Recorder.{Recorder}
use Rattle.rh_recorder.specs.declared.recorder.Touched.{Touched}
use Rattle.rh_carrier.specs.Relies.{Relies, Serves, Shows}
use Rattle.rh_turns.specs.declared.turning.Turn.{Turn}
use Rattle.rh_turns.specs.declared.turning.Turn.TheVariants.{Did, Finished, Spent, NoSuchWorker}
use Rattle.rh_turns.specs.Hands.{ClaimsBy, Moment, StepsBy, TurnsBy, TurnsOn}
use Rattle.rh_worker.specs.Makes.{MakesStep}

abbrev pub shows : Shape → Recorder → View → Type 0
shows z t v = Shows z t.words.items v

abbrev pub serves : Shape → Recorder → View → Type 0
serves z t v = Serves z t.words.items v

abbrev pub made : Shape → Step → Recorder → View → ℕ → Recorder → View → Type 0
made z s t v word then next = Records then.last z s t.words.items v word then.words.items next

pub relies_so : (z : Shape) (t : Recorder) (v : View) → Relies Shows Serves z t.words.items v → Relies shows serves z t v
relies_so z t v r = record { now = record { knows = r.now.knows; rows = r.now.rows }; may = r.may }

pub makes_so : (z : Shape) (k : StepKind) (t : Recorder) (v : View) (then : Recorder) (next : View) → MakesStep shows made z k t v then next
    → MakesStep Shows (Records then.last) z k t.words.items v then.words.items next
makes_so z k t v then next m = record {
  step = m.step;
  word = m.word;
  kind = m.kind;
  allowed = m.allowed;
  view_is = m.view_is;
  steps = m.steps;
  trusts = record { knows = m.trusts.knows; rows = m.trusts.rows };
  claims = m.claims;
  reads = m.reads;
}

-- a turn that is recorded is a turn
module _ (last : Option Touched) (z : Shape) (keys : List ℕ) (m next : Moment) where
  steps_on : (k : StepKind) → StepsBy (Records last) z keys k m next → StepsBy StepsTo z keys k m next
  steps_on k s = record {
    unspent = s.unspent;
    next_key = s.next_key;
    within = s.within;
    makes = record {
      step = s.makes.step;
      word = s.makes.word;
      kind = s.makes.kind;
      allowed = s.makes.allowed;
      view_is = s.makes.view_is;
      steps = s.makes.steps.steps;
      trusts = s.makes.trusts;
      claims = s.makes.claims;
      reads = s.makes.reads;
    };
    done = s.done;
    advances = s.advances;
    gives_up = s.gives_up;
    share = s.share;
    counts = s.counts;
    answers_are = s.answers_are;
  }

  claims_on : ClaimsBy (Records last) z m next → ClaimsBy StepsTo z m next
  claims_on c = record {
    idle = c.idle;
    word = c.word;
    allowed = c.allowed;
    steps = c.steps.steps;
    claiming = c.claiming;
    counts = c.counts;
    answers_are = c.answers_are;
  }

  pub recorded_turn : (turn : Turn) → TurnsBy (Records last) z keys m turn next → TurnsOn z keys m turn next
  recorded_turn (Did k) t = ⊎_elim (λ s. inl (steps_on k s)) (λ c. inr (c.0, claims_on c.1)) t
  recorded_turn Finished t = t
  recorded_turn Spent t = t
  recorded_turn NoSuchWorker t = t
