-- What a worker that looks at a cell has read there.
use Rattle.std.proofs.Common.{ℕ, Option, Some, None, ◌∷◌, ◌∙◌}
use Rattle.rh_world.specs.Sides.{KeptRead}
use Rattle.rh_words.specs.declared.shape.Shape.{Shape}
use Rattle.rh_words.specs.declared.steps.StepKind.{StepKind}
use Rattle.rh_words.specs.View.{View}
use Rattle.rh_words.specs.Steps.{Step}
use Rattle.rh_words.specs.Words.{IsPlain}
use Rattle.rh_helping.specs.Made.{HasStepped}
use Rattle.rh_helping.specs.Next.{Looking}
use Rattle.rh_helping.specs.Next.Looked.{Sees, Spent}
use Rattle.rh_helping.specs.Stepping.{HasLooked}
use Rattle.rh_shared.specs.Sits.{Sits, Stays, SeatSteps}
use Rattle.rh_shared.specs.declared.on_table.OnTable.{OnTable}
use Rattle.rh_shared.proofs.Lending.{stays_on}
use Rattle.rh_swaps.specs.Swaps.{HasNoted, HasReadCell, IsSeen, HasLookedAt}
use Rattle.rh_swaps.proofs.Noting.{made_notes, noted_on, step_number, step_opening, step_worker}

-- the word that the next step is to keep as read in cell c
abbrev pub read_next : (c word : ℕ) → View → KeptRead
read_next c word v = record { cell = c; word = word; acts = 0; next_number = v.next_number }

plain_seen : {T : Type 0} {shows : Shape → T → View → Type 0} {makes : Shape → Step → T → View → ℕ → T → View → Type 0} (z : Shape) (k : StepKind) (c word : ℕ) (t : T) (v : View) (then : T) (next : View)
    → HasStepped shows makes z k v.opened (read_next c word v ∷ v.side.reads) t v then next → IsPlain word → HasReadCell z c v next (Some word)
plain_seen z k c word t v then next m plain = record {
  seen_is = (plain, m.reads);
  worker = step_worker z v next m.step m.word m.view_is;
  opening = step_opening z v next m.step m.word m.view_is;
  facts = m.facts;
  opened = m.opened;
  next_number = step_number z v next m.step m.word m.view_is m.opened;
  claims = m.claims;
}

-- after it noted more
pub seen_later : (z : Shape) (c : ℕ) (v w next : View) (seen : Option ℕ) → HasNoted v w → HasReadCell z c w next seen → HasReadCell z c v next seen
seen_later z c v w next seen n h = record {
  seen_is = still seen h.seen_is;
  worker = h.worker ∙ n.worker;
  opening = h.opening ∙ n.opening;
  facts = λ x i. h.facts x (n.facts x i);
  opened = h.opened ∙ n.opened;
  next_number = h.next_number ∙ n.next_number;
  claims = h.claims ∙ n.claims;
}
  where
    still : (s : Option ℕ) → IsSeen z c w next s → IsSeen z c v next s
    still None q = (q.0 ∙ n.reads, q.1)
    still (Some word) q = (q.0, q.1 ∙ (λ i. record { cell = c; word = word; acts = 0; next_number = n.next_number i } ∷ n.reads i))

-- ---- the last step of a look, after others

pub sees_word : {z : Shape} {c word : ℕ} {t u then : OnTable} {v w next : View} {l : Looking} → Stays t u → HasNoted v w → HasLooked Sits SeatSteps z c l u w (Sees word) then next → HasLookedAt z c t v (Some word) then next
sees_word {z} {c} {word} {t} {u} {then} {v} {w} {next} stays noted e = record {
  stays = record { stays = stays_on _ _ _ stays e.made.steps.stays; trusts = e.made.trusts };
  clear = e.leads.0;
  rule_tells = e.made.steps.rule_tells;
  reads = seen_later z c v w next _ noted (plain_seen z _ c word u w then next e.made e.leads.1);
}

pub sees_none : {z : Shape} {c : ℕ} {t u then : OnTable} {v w next : View} {l : Looking} → Stays t u → HasNoted v w → HasLooked Sits SeatSteps z c l u w Spent then next → HasLookedAt z c t v None then next
sees_none {z} {c} {t} {u} {then} {v} {w} {next} stays noted e =
    let n = noted_on v w next noted (made_notes z _ u w then next e.made) in record {
      stays = record { stays = stays_on _ _ _ stays e.made.steps.stays; trusts = e.made.trusts };
      clear = e.leads.0;
      rule_tells = e.made.steps.rule_tells;
      reads = record { seen_is = (n.reads, e.leads.1); worker = n.worker; opening = n.opening; facts = n.facts; opened = n.opened; next_number = n.next_number; claims = n.claims };
    }
