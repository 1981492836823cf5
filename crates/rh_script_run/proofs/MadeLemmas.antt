-- What steps make, and their accounts, up to the first that is refused.
use Rattle.std.proofs.Common.{◌≡◌, ◌∙◌, ap, sym, ℕ, List, [], ◌∷◌, ◌++◌, append-nil, Result, Ok, Err}
use Rattle.rh_script.specs.Instruction.{Numbered}
use Rattle.rh_report.specs.Account.{Account}
use Rattle.rh_operations.specs.declared.cause.Cause.{Cause}
use Rattle.rh_bytes.specs.Input.{◌>>=◌}
use Rattle.rh_script_run.specs.declared.fault.RunFault.{RunFault}
use Rattle.rh_script_run.specs.Meaning.{CommandOutcome, ScriptState, outcome_at, meaning, outcome_of}
use Rattle.rh_script_run.proofs.RunLemmas.{Course, reached_in, then_ok}

-- what the steps make up to the first that is refused, and their accounts
abbrev pub Made : Type 0
Made = ScriptState × List Account

unfoldable pub made_further : ScriptState → CommandOutcome → (ScriptState → Made) → Made
made_further w (Ok done) later = ((later done.0).0, done.1 ∷ (later done.0).1)
made_further w (Err cause) later = (w, [])

unfoldable pub made_by : ScriptState → List Numbered → Made
made_by w [] = (w, [])
made_by w (step ∷ steps) = made_further w (outcome_of w step.instruction) (λ v. made_by v steps)

pub line_ok : (line : ℕ) (outcome : CommandOutcome) (done : ScriptState × Account) → outcome_at line outcome ≡ Ok done → outcome ≡ Ok done
line_ok line (Ok done') done is = ap (λ (r : Result (ScriptState × Account) RunFault). unline r) is
  where
    unline : Result (ScriptState × Account) RunFault → CommandOutcome
    unline (Ok d) = Ok d
    unline (Err fault) = Err fault.cause
line_ok line (Err cause) done is = absurd cc

-- After steps that were carried out, what all make is what the others make from there.
pub made_on : (w : ScriptState) (before after : List Numbered) (x : Made) → meaning w before ≡ Ok x → made_by w (before ++ after) ≡ ((made_by x.0 after).0, x.1 ++ (made_by x.0 after).1)
unfolding meaning made_by made_further
made_on w [] after x means =
    let here : (w, []) ≡ x = ap (reached_in (w, [])) means in
    ap (λ (y : Made). ((made_by y.0 after).0, y.1 ++ (made_by y.0 after).1)) here
made_on w (s ∷ before) after x means =
    let first = then_ok (outcome_at s.line (outcome_of w s.instruction)) _ x means in
    let rest = then_ok (meaning first.0.0 before) _ x first.2 in
    let here : (rest.0.0, first.0.1 ∷ rest.0.1) ≡ x = ap (reached_in x) rest.2 in
    ap (λ o. made_further w o (λ v. made_by v (before ++ after))) (line_ok s.line _ first.0 first.1)
    ∙ ap (λ (y : Made). (y.0, first.0.1 ∷ y.1)) (made_on first.0.0 before after rest.0 rest.1)
    ∙ ap (λ (y : Made). ((made_by y.0 after).0, y.1 ++ (made_by y.0 after).1)) here

pub made_all : (w : ScriptState) (steps : List Numbered) (x : Made) → meaning w steps ≡ Ok x → made_by w steps ≡ x
unfolding made_by
made_all w steps x means =
    ap (made_by w) (sym (append-nil steps)) ∙ made_on w steps [] x means ∙ (λ i. (x.0, append-nil x.1 i))

module _ (step : Numbered) (after : List Numbered) where
  pub made_next : (w : ScriptState) (done : ScriptState × Account) → outcome_of w step.instruction ≡ Ok done → made_by w (step ∷ after) ≡ ((made_by done.0 after).0, done.1 ∷ (made_by done.0 after).1)
  unfolding made_by made_further
  made_next w done is = ap (λ o. made_further w o (λ v. made_by v after)) is

  module _ (cause : Cause) where
    abbrev Refused : Made → Type 0
    Refused x = outcome_of x.0 step.instruction ≡ Err cause

    pub made_to : (w : ScriptState) (before : List Numbered) (x : Made) → meaning w before ≡ Ok x → Refused x → made_by w (before ++ step ∷ after) ≡ x
    unfolding made_by made_further
    made_to w before x means refused =
        let none : made_by x.0 (step ∷ after) ≡ (x.0, []) = ap (λ o. made_further x.0 o (λ v. made_by v after)) refused in
        made_on w before (step ∷ after) x means ∙ ap (λ (y : Made). (y.0, x.1 ++ y.1)) none ∙ (λ i. (x.0, append-nil x.1 i))

    pub refused_at : (w : ScriptState) (before : List Numbered) (x : Made) → meaning w before ≡ Ok x → Refused x → meaning w (before ++ step ∷ after) ≡ Err (record { line = step.line; cause = cause })
    unfolding meaning
    refused_at w [] x means refused =
        let here : (w, []) ≡ x = ap (reached_in (w, [])) means in
        let there : outcome_of w step.instruction ≡ Err cause = ap (λ (y : Made). outcome_of y.0 step.instruction) here ∙ refused in
        ap (λ o. outcome_at step.line o >>= (λ d. meaning d.0 after >>= (λ others. Ok (others.0, d.1 ∷ others.1)))) there
    refused_at w (s ∷ before) x means refused =
        let first = then_ok (outcome_at s.line (outcome_of w s.instruction)) _ x means in
        let rest = then_ok (meaning first.0.0 before) _ x first.2 in
        let here : (rest.0.0, first.0.1 ∷ rest.0.1) ≡ x = ap (reached_in x) rest.2 in
        let there : Refused rest.0 = ap (λ (y : Made). outcome_of y.0 step.instruction) here ∙ refused in
        let later = refused_at first.0.0 before rest.0 rest.1 there in
        ap (λ r. r >>= (λ d. meaning d.0 (before ++ step ∷ after) >>= (λ others. Ok (others.0, d.1 ∷ others.1)))) first.1
        ∙ ap (λ (r : Course). r >>= (λ others. Ok (others.0, first.0.1 ∷ others.1))) later
