-- Only what a script reads of the files matters.
use Rattle.std.proofs.Common.{◌≡◌, ◌∙◌, ap, sym, subst, refl, ℕ, cond, List, [], ◌∷◌, length, Option, Some, None, option_map, Result, Ok, Err}
use Rattle.std.specs.FinSet as set
use Rattle.std.specs.Str.{bytes_eq}
use Rattle.std.specs.Io.KnownBytes.{Appends}
use Rattle.rh_script.specs.Instruction.{Instruction, Numbered, Use, Act, Save, Clear, Dump, Snapshot, Restore}
use Rattle.rh_shelf.specs.Shelf.{Files}
use Rattle.rh_report.specs.Account.{Account}
use Rattle.rh_report.specs.Account as accounts
use Rattle.rh_operations.specs.declared.cause.Cause.{Cause}
use Rattle.rh_bytes.specs.Input.{◌>>=◌}
use Rattle.rh_operations.specs.Actions.{means}
use Rattle.rh_script_run.specs.declared.fault.RunFault.{RunFault}
use Rattle.rh_script_run.specs.declared.report.Report.{Report}
use Rattle.rh_script_run.specs.Agree.{AllReadWhere, AppendSame, EndsByItself, IsSameAt, ReadsWhere, StaysSame, result_of}
use Rattle.rh_script_run.specs.Ends.{Ends, SaysAll}
use Rattle.rh_script_run.specs.Environment.{Environment}
use Rattle.rh_script_run.specs.Files.{Bytes, FileMap, HasFiles, IsFile, Sealed, given_files, with_snapshot}
use Rattle.rh_script_run.specs.Meaning.{CommandOutcome, ScriptState, outcome_at, keys_at_path, list_of, meaning, with_list, with_table, outcome_of, start, table_at, held_table}
use Rattle.rh_script_run.specs.Told.{account_of}
use Rattle.rh_script_run.proofs.RunLemmas.{Course}
use Rattle.rh_script_run.proofs.UniqueLemmas.{one_found, one_text_of_all}
use Rattle.rh_script_run.proofs.MadeLemmas.{Made, made_by, made_further}
use Rattle.rh_script_run.proofs.MeantLemmas.{meant}

-- the same with other files
abbrev with_files : ScriptState → FileMap → ScriptState
with_files w f = record { held = w.held; bits = w.bits; lists = w.lists; files = f }

module _ (P : List ℕ → Type 0) where
  -- these files are the same at the paths with the property
  abbrev Same : (f g : FileMap) → Type 0
  Same f g = (path : List ℕ) → P path → f path ≡ g path

  -- the other outcome has other files, and these at most elsewhere
  abbrev SameOutcome : (outcome other : CommandOutcome) → Type 0
  SameOutcome (Ok done) other = (g : FileMap) × (Ok (with_files done.0 g, done.1) ≡ other) × Same done.0.files g
  SameOutcome (Err cause) other = Err cause ≡ other

  then_same : {Y : Type 0} (r r' : Result Y Cause) (make make' : Y → CommandOutcome) → r ≡ r' → ((y : Y) → SameOutcome (make y) (make' y)) → SameOutcome (r >>= make) (r' >>= make')
  then_same (Ok y) r' make make' same each = subst (λ x. SameOutcome (make y) (x >>= make')) same (each y)
  then_same (Err cause) r' make make' same each = ap (λ x. x >>= make') same

  module _ (w : ScriptState) (g : FileMap) (same : Same w.files g) where
    outcome_same : (said : Instruction) → ReadsWhere P said → SameOutcome (outcome_of w said) (outcome_of (with_files w g) said)
    unfolding outcome_of
    outcome_same (Use name path) reads =
        then_same (keys_at_path (w.files path)) (keys_at_path (g path))
        (λ x. Ok (with_list w name x, accounts.Used name (length x)))
        (λ x. Ok (with_list (with_files w g) name x, accounts.Used name (length x)))
        (ap keys_at_path (same path reads)) (λ x. (g, refl, same))
    outcome_same (Act action name) reads =
        let keys = list_of name w.lists in
        let made = means action (held_table w) keys in
        then_same made made
        (λ x. Ok (with_table w x.0, account_of name (length keys) x.0 x.1))
        (λ x. Ok (with_table (with_files w g) x.0, account_of name (length keys) x.0 x.1))
        refl (λ x. (g, refl, same))
    outcome_same (Save name) reads = (g, refl, same)
    outcome_same Clear reads = (g, refl, same)
    outcome_same Dump reads = (g, refl, same)
    outcome_same (Snapshot path) reads =
        (with_snapshot g path (held_table w), refl, λ other has. ap (λ f. cond (bytes_eq path other) (Some (Sealed (held_table w))) f) (same other has))
    outcome_same (Restore path) reads =
        then_same (table_at (w.files path)) (table_at (g path))
        (λ x. Ok (with_table w x, accounts.Restored path (set.len x.keys) x.bits))
        (λ x. Ok (with_table (with_files w g) x, accounts.Restored path (set.len x.keys) x.bits))
        (ap table_at (same path reads)) (λ x. (g, refl, same))

  -- the other run has other files, and these at most elsewhere
  abbrev SameMade : (made other : Made) → Type 0
  SameMade made other = (g : FileMap) × ((with_files made.0 g, made.1) ≡ other) × Same made.0.files g

  made_on_same : (w : ScriptState) (g : FileMap) (o o' : CommandOutcome) (later : ScriptState → Made) → Same w.files g → SameOutcome o o' → ((v : ScriptState) (h : FileMap) → Same v.files h → SameMade (later v) (later (with_files v h))) → SameMade (made_further w o later) (made_further (with_files w g) o' later)
  unfolding made_further
  made_on_same w g (Ok done) o' later same its rest =
      let more = rest done.0 its.0 its.2 in
      let there : (with_files (later done.0).0 more.0, done.1 ∷ (later done.0).1) ≡ made_further (with_files w g) (Ok (with_files done.0 its.0, done.1)) later = ap (λ (x : Made). (x.0, done.1 ∷ x.1)) more.1 in
      (more.0, there ∙ ap (λ o. made_further (with_files w g) o later) its.1, more.2)
  made_on_same w g (Err cause) o' later same its rest = (g, ap (λ o. made_further (with_files w g) o later) its, same)

  made_same : (steps : List Numbered) (w : ScriptState) (g : FileMap) → Same w.files g → AllReadWhere P steps → SameMade (made_by w steps) (made_by (with_files w g) steps)
  unfolding made_by
  made_same [] w g same reads = (g, refl, same)
  made_same (step ∷ steps) w g same reads =
      made_on_same w g _ _ (λ v. made_by v steps) same (outcome_same w g same step.instruction reads.0) (λ v h its. made_same steps v h its reads.1)

  result_one : (all : List Numbered) (account : Account) (course : Course) → result_of all (course >>= (λ rest. Ok (rest.0, account ∷ rest.1))) ≡ result_of all course
  result_one all account (Ok made) = refl
  result_one all account (Err fault) = refl

  result_on_same : (all : List Numbered) (line : ℕ) (o o' : CommandOutcome) (later : ScriptState → Course) → SameOutcome o o' → ((v : ScriptState) (h : FileMap) → Same v.files h → result_of all (later v) ≡ result_of all (later (with_files v h)))
      → result_of all (outcome_at line o >>= (λ done. later done.0 >>= (λ rest. Ok (rest.0, done.1 ∷ rest.1)))) ≡ result_of all (outcome_at line o' >>= (λ done. later done.0 >>= (λ rest. Ok (rest.0, done.1 ∷ rest.1))))
  result_on_same all line (Ok done) o' later its rest =
      result_one all done.1 (later done.0)
      ∙ rest done.0 its.0 its.2
      ∙ sym (result_one all done.1 (later (with_files done.0 its.0)))
      ∙ ap (λ (o : CommandOutcome). result_of all (outcome_at line o >>= (λ d. later d.0 >>= (λ others. Ok (others.0, d.1 ∷ others.1))))) its.1
  result_on_same all line (Err cause) o' later its rest =
      ap (λ (o : CommandOutcome). result_of all (outcome_at line o >>= (λ d. later d.0 >>= (λ others. Ok (others.0, d.1 ∷ others.1))))) its

  result_same : (all steps : List Numbered) (w : ScriptState) (g : FileMap) → Same w.files g → AllReadWhere P steps → result_of all (meaning w steps) ≡ result_of all (meaning (with_files w g) steps)
  unfolding meaning
  result_same all [] w g same reads = refl
  result_same all (step ∷ steps) w g same reads =
      result_on_same all step.line _ _ (λ v. meaning v steps) (outcome_same w g same step.instruction reads.0) (λ v h its. result_same all steps v h its reads.1)

stays_same : (files files' : Files) (f g : FileMap) (now now' : Option Files) → ((path : List ℕ) → IsSameAt files files' path → f path ≡ g path) → HasFiles f now → HasFiles g now' → StaysSame files files' now now'
stays_same files files' f g None now' same has has' = absurd has
stays_same files files' f g (Some now) None same has has' = absurd has'
stays_same files files' f g (Some now) (Some now') same has has' =
    λ path at. one_found (g path) (now path) (now' path) (subst (λ file. IsFile file (now path)) (same path at) (has path)) (has' path)

pub only_what_is_read : (files files' : Files) (steps : List Numbered) (old new old' new' : Environment) (r r' : Result Report RunFault) → AllReadWhere (IsSameAt files files') steps → Ends files steps old new r → Ends files' steps old' new' r' → EndsByItself steps old new r → EndsByItself steps old' new' r' → (r ≡ r') × StaysSame files files' new.files new'.files × AppendSame old.text new.text old'.text new'.text
only_what_is_read files files' steps old new old' new' r r' reads ends ends' itself itself' =
    let m = meant files steps old new r ends itself in
    let n = meant files' steps old' new' r' ends' itself' in
    let begun : Same (IsSameAt files files') (given_files files) (given_files files') = λ path at. ap (option_map Bytes) at in
    let result = result_same (IsSameAt files files') steps steps (start files) (given_files files') begun reads in
    let its = made_same (IsSameAt files files') steps (start files) (given_files files') begun reads in
    let left = (made_by (start files) steps).0.files in
    let same : (with_files (made_by (start files) steps).0 its.0, (made_by (start files) steps).1) ≡ n.made = its.1 ∙ n.is in
    let has : HasFiles left new.files = subst (λ (x : Made). HasFiles x.0.files new.files) (sym m.is) m.has in
    let has' : HasFiles its.0 new'.files = subst (λ (x : Made). HasFiles x.0.files new'.files) (sym same) n.has in
    let said : SaysAll (made_by (start files) steps).1 m.text = subst (λ (x : Made). SaysAll x.1 m.text) (sym m.is) m.says in
    let said' : SaysAll (made_by (start files) steps).1 n.text = subst (λ (x : Made). SaysAll x.1 n.text) (sym same) n.says in
    let text : n.text ≡ m.text = one_text_of_all (made_by (start files) steps).1 n.text m.text said' said in (
      m.result ∙ result ∙ sym n.result,
      stays_same files files' left its.0 new.files new'.files its.2 has has',
      (m.text, m.written, subst (Appends old'.text new'.text) text n.written),
    )
