-- Two runs of one script agree.
use Rattle.std.proofs.Common.{◌≡◌, ◌∙◌, ap, sym, subst, inl, inr, List, ◌++◌, Result}
use Rattle.std.specs.Io.KnownBytes.{Appends}
use Rattle.rh_script.specs.Instruction.{Numbered}
use Rattle.rh_shelf.specs.Shelf.{Files}
use Rattle.rh_script_run.specs.declared.fault.RunFault.{RunFault}
use Rattle.rh_script_run.specs.declared.report.Report.{Report}
use Rattle.rh_script_run.specs.Agree.{AppendFrontOf, AppendFronts, AppendSame, EndsByItself}
use Rattle.rh_script_run.specs.Ends.{Ends, SaysAll}
use Rattle.rh_script_run.specs.Environment.{Environment}
use Rattle.rh_script_run.specs.Files.{HasFiles}
use Rattle.rh_script_run.proofs.UniqueLemmas.{one_text_of_all, same_files}
use Rattle.rh_script_run.proofs.MadeLemmas.{Made}
use Rattle.rh_script_run.proofs.MeantLemmas.{meant}
use Rattle.rh_script_run.proofs.FrontLemmas.{front_in, one_ahead, told_of}

pub runs_agree : (files : Files) (steps : List Numbered) (old new old' new' : Environment) (r r' : Result Report RunFault) → Ends files steps old new r → Ends files steps old' new' r' → EndsByItself steps old new r → EndsByItself steps old' new' r' → (r ≡ r') × (new.files ≡ new'.files) × AppendSame old.text new.text old'.text new'.text
runs_agree files steps old new old' new' r r' ends ends' itself itself' =
    let m = meant files steps old new r ends itself in
    let n = meant files steps old' new' r' ends' itself' in
    let same : m.made ≡ n.made = sym m.is ∙ n.is in
    let has : HasFiles n.made.0.files new.files = subst (λ (x : Made). HasFiles x.0.files new.files) same m.has in
    let says : SaysAll n.made.1 m.text = subst (λ (x : Made). SaysAll x.1 m.text) same m.says in
    let text : n.text ≡ m.text = one_text_of_all n.made.1 n.text m.text n.says says in
    (m.result ∙ sym n.result, same_files n.made.0.files new.files new'.files has n.has, (m.text, m.written, subst (Appends old'.text new'.text) text n.written))

module _ (files : Files) (steps : List Numbered) (old new old' new' : Environment) (r r' : Result Report RunFault) (ends : Ends files steps old new r) (ends' : Ends files steps old' new' r') where
  pub fronts_agree : AppendFronts old.text new.text old'.text new'.text
  fronts_agree =
      let t = told_of files steps old new r ends in
      let u = told_of files steps old' new' r' ends' in
      elim (one_ahead t.said t.more u.said u.more (sym t.parts ∙ u.parts)) [
        | inl ahead ↦ (u.text, front_in t.said ahead.0 t.text u.text old.text new.text t.says (subst (λ l. SaysAll l u.text) ahead.1 u.says) t.written, u.written)
        | inr ahead ↦ (t.text, t.written, front_in u.said ahead.0 u.text t.text old'.text new'.text u.says (subst (λ l. SaysAll l t.text) ahead.1 t.says) u.written)
      ]

  pub front_of_whole : EndsByItself steps old new r → AppendFrontOf old.text new.text old'.text new'.text
  front_of_whole itself =
      let m = meant files steps old new r ends itself in
      let u = told_of files steps old' new' r' ends' in
      let says : SaysAll (u.said ++ u.more) m.text = subst (λ l. SaysAll l m.text) (sym (ap (λ (x : Made). x.1) m.is) ∙ u.parts) m.says in
      (m.text, m.written, front_in u.said u.more u.text m.text old'.text new'.text u.says says u.written)
