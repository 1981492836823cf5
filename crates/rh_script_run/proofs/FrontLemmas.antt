-- What a run told is a front of what its script has to report, whatever ended it.
use Rattle.std.proofs.Common.{◌≡◌, ◌∙◌, ap, sym, subst, refl, arith, ℕ, ◌+◌, min, ◌⊎◌, inl, inr, List, [], ◌∷◌, ◌++◌, length, take, append_assoc, append-nil, Option, Result, Ok, Err}
use Rattle.std.specs.Io.KnownBytes.{Appends}
use Rattle.std.proofs.lemmas.List.{take_all, take_min, take-append-le}
use Rattle.std.proofs.Math.Seq.{take-append-add}
use Rattle.std.proofs.KnownBytes.{Appends-trans}
use Rattle.rh_bytes.specs.Counting.{AppendsFront}
use Rattle.rh_script.specs.Instruction.{Numbered}
use Rattle.rh_shelf.specs.Shelf.{Files}
use Rattle.rh_report.specs.Account.{Account}
use Rattle.rh_script_run.specs.declared.fault.RunFault.{RunFault}
use Rattle.rh_script_run.specs.declared.report.Report.{Report}
use Rattle.rh_script_run.specs.Ends.{AllDone, Ends, EndsBy, NotBegun, SaysAll, Stopped, step_in}
use Rattle.rh_script_run.specs.Environment.{Environment}
use Rattle.rh_script_run.specs.Meaning.{start}
use Rattle.rh_script_run.proofs.RunLemmas.{says_more}
use Rattle.rh_script_run.proofs.UniqueLemmas.{one_text_of_all}
use Rattle.rh_script_run.proofs.MadeLemmas.{Made, made_all, made_by, made_next, made_on}
use Rattle.rh_script_run.proofs.MeantLemmas.{then_none}

module _ (old new : Option (List ℕ)) where
  whole_front : (text : List ℕ) → Appends old new text → AppendsFront old new text
  whole_front text whole = (length text, subst (Appends old new) (sym (take_all (length text) text (omega arith))) whole)

  front_of_more : (text more : List ℕ) → AppendsFront old new text → AppendsFront old new (text ++ more)
  front_of_more text more front =
      let n : ℕ = min front.0 (length text) in
      (n, subst (Appends old new) (sym (take-append-le n text more (omega arith) ∙ take_min front.0 text)) front.1)

then_front : (a b c : Option (List ℕ)) (text more : List ℕ) → Appends a b text → AppendsFront b c more → AppendsFront a c (text ++ more)
then_front a b c text more so_far front =
    (length text + front.0, subst (Appends a c) (sym (take-append-add text more front.0)) (Appends-trans a b c text (take front.0 more) so_far front.1))

-- A text of some accounts begins with a text of the first of them.
says_front : (said rest : List Account) (text : List ℕ) → SaysAll (said ++ rest) text → (front back : List ℕ) × SaysAll said front × (text ≡ front ++ back)
says_front [] rest text says = ([], text, refl, refl)
says_front (account ∷ said) rest text says =
    let later = says_front said rest says.1 says.3 in
    (says.0 ++ later.0, later.1, (says.0, later.0, says.2, later.2, refl), says.4 ∙ ap (λ l. says.0 ++ l) later.3 ∙ sym (append_assoc says.0 later.0 later.1))

pub front_in : (said rest : List Account) (text whole : List ℕ) (old new : Option (List ℕ)) → SaysAll said text → SaysAll (said ++ rest) whole → AppendsFront old new text → AppendsFront old new whole
front_in said rest text whole old new says all front =
    let its = says_front said rest whole all in
    let same : text ≡ its.0 = one_text_of_all said text its.0 says its.2 in
    subst (AppendsFront old new) (ap (λ l. l ++ its.1) same ∙ sym its.3) (front_of_more old new text its.1 front)

-- Of two fronts of a list one is a front of the other.
pub one_ahead : (said more said' more' : List Account) → said ++ more ≡ said' ++ more' → ((rest : List Account) × (said' ≡ said ++ rest)) ⊎ ((rest : List Account) × (said ≡ said' ++ rest))
one_ahead [] more said' more' same = inl (said', refl)
one_ahead (account ∷ said) more [] more' same = inr (account ∷ said, refl)
one_ahead (account ∷ said) more (account' ∷ said') more' same =
    let first : account ≡ account' = ap (first_of_all account) same in
    elim (one_ahead said more said' more' (ap others same)) [
      | inl ahead ↦ inl (ahead.0, λ i. sym first i ∷ ahead.1 i)
      | inr ahead ↦ inr (ahead.0, λ i. first i ∷ ahead.1 i)
    ]
  where
    first_of_all : Account → List Account → Account
    first_of_all a [] = a
    first_of_all a (b ∷ l) = b

    others : List Account → List Account
    others [] = []
    others (a ∷ l) = l

-- Of all these accounts some were told, the last of them maybe in part.
pub record Told (all : List Account) (old new : Option (List ℕ)) : Type 0 where
  pub said : List Account
  pub more : List Account
  pub parts : all ≡ said ++ more
  pub text : List ℕ
  pub says : SaysAll said text
  pub written : AppendsFront old new text

-- the accounts of a script, up to the first step that is refused
abbrev accounts_of : Files → List Numbered → List Account
accounts_of files steps = (made_by (start files) steps).1

module _ (files : Files) (steps : List Numbered) (old new : Environment) where
  done_told : (report : Report) → AllDone files steps old new report → Told (accounts_of files steps) old.text new.text
  done_told report done = record {
    said = done.accounts;
    more = [];
    parts = ap (λ (x : Made). x.1) (made_all (start files) steps (done.world, done.accounts) done.means) ∙ sym (append-nil done.accounts);
    text = done.text;
    says = done.says;
    written = whole_front old.text new.text done.text done.written;
  }

  module _ (fault : RunFault) where
    not_begun_told : NotBegun files old new fault → Told (accounts_of files steps) old.text new.text
    not_begun_told none = record {
      said = [];
      more = accounts_of files steps;
      parts = refl;
      text = [];
      says = refl;
      written = whole_front old.text new.text [] none.1;
    }

    module _ (s : Stopped files steps old new fault) where
      its_accounts : accounts_of files steps ≡ s.accounts ++ (made_by s.world (s.step ∷ s.after)).1
      its_accounts =
          ap (λ (l : List Numbered). (made_by (start files) l).1) s.parts
          ∙ ap (λ (x : Made). x.1) (made_on (start files) s.before (s.step ∷ s.after) (s.world, s.accounts) s.means)

      stopped_told : EndsBy (step_in s.world s.step.instruction s.middle new) fault.cause → Told (accounts_of files steps) old.text new.text
      stopped_told (inl (none, refused)) = record {
        said = s.accounts;
        more = (made_by s.world (s.step ∷ s.after)).1;
        parts = its_accounts;
        text = s.text;
        says = s.says;
        written = whole_front old.text new.text s.text (then_none old.text s.middle.text new.text s.text s.written none);
      }
      stopped_told (inr (write, done, is, its)) = record {
        said = s.accounts ++ done.1 ∷ [];
        more = (made_by done.0 s.after).1;
        parts = its_accounts ∙ ap (λ (x : Made). s.accounts ++ x.1) (made_next s.step s.after s.world done is) ∙ sym (append_assoc s.accounts (done.1 ∷ []) (made_by done.0 s.after).1);
        text = s.text ++ its.0;
        says = says_more s.accounts s.text done.1 its.0 s.says its.1;
        written = then_front old.text s.middle.text new.text s.text its.0 s.written its.2;
      }

  pub told_of : (r : Result Report RunFault) → Ends files steps old new r → Told (accounts_of files steps) old.text new.text
  told_of (Ok report) ends = done_told report ends
  told_of (Err fault) (inl none) = not_begun_told fault none
  told_of (Err fault) (inr stopped) = stopped_told fault stopped stopped.ends
