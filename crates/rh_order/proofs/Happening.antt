-- What the rule of a table says of the list of its acts at any moment.
use Rattle.std.proofs.Common.{◌≡◌, ℕ, zero, suc, ◌<◌, ◌≤◌, inl, inr, ⊎_elim, refl, sym, ap, ◌∙◌, subst, arith, List, [], ◌∷◌, length, get_or, take}
use Rattle.std.specs.Prelude.{nat_lt}
use Rattle.std.specs.List.{Contains}
use Rattle.std.proofs.lemmas.Bool.Decides.{nat_tests}
use Rattle.std.proofs.lemmas.List.{length-map, get_or-map}
use Rattle.std.proofs.lemmas.List.FromFn.{fill_by_all}
use Rattle.rh_world.specs.World.{In, Ref, World}
use Rattle.rh_world.specs.Sides.{KeptRead, Side}
use Rattle.rh_world.specs.Acts.{cells_after}
use Rattle.rh_world.proofs.ActsKept.{succeeded_opened}
use Rattle.rh_world.proofs.Updated.{ref_path}
use Rattle.rh_layout.specs.declared.entry.Entry.{Entry}
use Rattle.rh_words.specs.declared.shape.Shape.{Shape}
use Rattle.rh_words.specs.Parts.{cell_count}
use Rattle.rh_words.specs.View.{OwnDesc, View}
use Rattle.rh_words.specs.Steps.{entry_of, no_entry}
use Rattle.rh_rule.specs.Represents.{IsOpenedSo, numbers_of}
use Rattle.rh_rule.specs.Core.{Core}
use Rattle.rh_rule.specs.Rest.{WorldTells}
use Rattle.rh_rule.proofs.Erasing.{of_erased}
use Rattle.rh_rule.proofs.Telling.{tells}
use Rattle.rh_acts.specs.Act.{Act, Meets, WasWord, entry, apply_acts}
use Rattle.rh_acts.specs.Done.{Kept, kept}
use Rattle.rh_acts.specs.Workers.{Made, acts_of}
use Rattle.rh_acts.proofs.ListLemmas.{meet_one_by_one}
use Rattle.rh_order.specs.History.{value_of, act_of, world_act, entry_in, made_by, history, opening_cells, cells_of, kept_of}
use Rattle.rh_order.specs.Histories.{ActsHappened, HistorySpec}
use Rattle.rh_order.proofs.Filtered.{from_filtered}
use Rattle.rh_order.proofs.Values.{contains_upto, cells_length, get_cells, acts_lead, acts_length, acts_before, act_at}

-- ---- entries that a worker opened

entry_is : (es : List Entry) (e : ℕ) → entry_of es e ≡ get_or es e no_entry
entry_is [] e = refl
entry_is (x ∷ xs) zero = refl
entry_is (x ∷ xs) (suc e) = entry_is xs e

abbrev valued : Entry → Entry
valued e = entry e.cell (value_of e.old) (value_of e.new)

pub opened_act : (w : World) (d : Ref) (o : OwnDesc) → IsOpenedSo w d o → act_of o.entries ≡ world_act w d
opened_act w d o so =
    fill_by_all (entry_in w d) (act_of o.entries) (w.size d) (valued no_entry)
    (length-map o.entries valued ∙ sym so.size)
    (λ e l.
    let inside : e < length o.entries = omega (arith, so.size) in
    get_or-map valued o.entries e no_entry (valued no_entry) inside
    ∙ ap valued (sym (entry_is o.entries e))
    ∙ (λ i. entry (sym (so.targets e inside) i) (value_of (sym (so.olds e inside) i)) (value_of (sym (so.news e inside) i))))

pub of_number : (os : List OwnDesc) (n : ℕ) → In n (numbers_of os) → (o : OwnDesc) × In o os × (n ≡ o.number)
of_number [] n i = absurd i
of_number (o ∷ os) n i = ⊎_elim (λ e. (o, inl refl, e)) (λ j. let got = of_number os n j in (got.0, inr got.1, got.2)) i

-- ---- the list of acts

module _ (w : World) (z : Shape) (words : List ℕ) (keep : ℕ → View) (core : Core w z words keep) where
  abbrev world_tells : WorldTells w z keep core.side
  world_tells = tells w z words keep core

  act_meets : (i : ℕ) → i < w.act_count → Meets (world_act w (w.act i)) (cells_of z (cells_after w i))
  act_meets i l e h =
      let d = w.act i in
      let row = core.represents.rows.entries d (succeeded_opened (w.control d) (world_tells.order.succeeded i l)) in
      let it = contains_upto (entry_in w d) (w.size d) e h in
      let inside : w.target d it.0 < cell_count z = row.within it.0 it.1 in
      subst (λ (x : Entry). (x.cell < length (cells_of z (cells_after w i))) × (get_or (cells_of z (cells_after w i)) x.cell 0 ≡ x.old)) (sym it.2) (
        omega (arith, cells_length z (cells_after w i)),
        get_cells z (cells_after w i) (w.target d it.0) inside ∙ ap (λ u. value_of u) (world_tells.order.meets i l it.0 it.1),
      )

  opened_by : (m : Made) → Contains (history w) m → (m.worker < z.workers) × ((o : OwnDesc) × In o (keep m.worker).opened × (m.act ≡ act_of o.entries))
  opened_by m h =
      let it = contains_upto (λ i. made_by w (w.act i)) w.act_count m h in
      let d = w.act it.0 in
      let mine = world_tells.workers it.0 it.1 in
      let its = core.represents.kept d.worker mine in
      let o = of_number (keep d.worker).opened d.number (its.all d.number (succeeded_opened (w.control d) (world_tells.order.succeeded it.0 it.1))) in
      let is : record { worker = d.worker; number = o.0.number } ≡ d = ref_path record { worker = d.worker; number = o.0.number } d refl (sym o.2) in
      subst (λ (x : Made). (x.worker < z.workers) × ((o : OwnDesc) × In o (keep x.worker).opened × (x.act ≡ act_of o.entries))) (sym it.2)
      (mine, (o.0, o.1, sym (opened_act w record { worker = d.worker; number = o.0.number } o.0 (its.opened o.0 o.1) ∙ ap (world_act w) is)))

  read_true : (v : ℕ) → v < z.workers → (r : Kept) → Contains (kept_of z (keep v)) r → WasWord (opening_cells w z) (acts_of (history w)) r.cell r.value
  read_true v mine r h =
      let it = from_filtered (λ (k : KeptRead). nat_lt k.cell (cell_count z)) (λ (k : KeptRead). kept k.cell (value_of k.word)) (keep v).side.reads r h in
      let k = it.0 in
      let inside : k.cell < cell_count z = grind (arith, nat_tests, it.2) in
      let was = of_erased (core.side v).reads k (subst (λ (s : Side). In k s.reads) (world_tells.kept v mine) it.1) in
      let j = was.0 in
      let tells_so = world_tells.foretold.reads v j was.1 in
      let before : j.acts ≤ w.act_count = tells_so.0.within in
      subst (λ (x : Kept). WasWord (opening_cells w z) (acts_of (history w)) x.cell x.value) it.3 (
        j.acts,
        omega (arith, acts_length w w.act_count),
        ap (λ (acts : List Act). get_or (apply_acts acts (opening_cells w z)) k.cell 0) (acts_before w w.act_count j.acts before)
            ∙ ap (λ (cells : List ℕ). get_or cells k.cell 0) (acts_lead z w j.acts)
            ∙ get_cells z (cells_after w j.acts) k.cell inside
            ∙ ap (λ (x : KeptRead). value_of (cells_after w j.acts x.cell)) was.2
            ∙ ap (λ u. value_of u) tells_so.1
            ∙ ap (λ (x : KeptRead). value_of x.word) (sym was.2),
      )

  pub happened_so : HistorySpec w z keep
  happened_so = record {
    meet = meet_one_by_one (acts_of (history w)) (opening_cells w z) (λ n l.
        let at : n < w.act_count = omega (arith, acts_length w w.act_count) in
        subst (λ (act : Act). Meets act (apply_acts (take n (acts_of (history w))) (opening_cells w z))) (sym (act_at w w.act_count n at))
        (subst (Meets (world_act w (w.act n)))
        (sym (ap (λ (acts : List Act). apply_acts acts (opening_cells w z)) (acts_before w w.act_count n (omega arith)) ∙ acts_lead z w n))
        (act_meets n at)));
    cells = sym (acts_lead z w w.act_count);
    size = cells_length z (w.logical 0);
    workers = λ m h. (opened_by m h).0;
    opened = λ m h. (opened_by m h).1;
    opening = λ v c mine inside. get_cells z (w.logical 0) c inside ∙ ap (λ u. value_of u) (sym ((core.represents.kept v mine).opening c inside));
    reads = read_true;
  }

pub order_of_acts : ActsHappened
order_of_acts w z words keep core = happened_so w z words keep core
