use Rattle.std.proofs.Common.{◌≡◌, ℕ, ◌+◌, ◌-◌, List, ◌++◌, length, take, drop, sym, ap, ◌∙◌, subst, rules}
use Rattle.std.proofs.lemmas.List.{take_rest}
use Rattle.std.specs.Io.KnownBytes.{Appends}
use Rattle.std.proofs.KnownBytes.{Appends-trans}
use Rattle.std.specs.Io.KnownBytes.{Keeps}
use Rattle.std.specs.Prelude.{None, Some, Option}
use lib.Seq.{take-add}
use Rattle.rh_bytes.proofs.bytes.write_text.Goals as goal

-- what was written before, and the n bytes that a write took of the rest
joined : (text : List ℕ) (from n : ℕ) → take from text ++ take n (take (length text - from) (drop from text)) ≡ take (from + n) text
joined text from n = ap (λ r. take from text ++ take n r) (take_rest text from) ∙ sym (take-add from n text)

Appends-kept : (a b c : Option (List ℕ)) (bs : List ℕ) → Appends a b bs → Keeps b c → Appends a c bs
Appends-kept None b c bs p q = tt
Appends-kept (Some x) None c bs p q = absurd p
Appends-kept (Some x) (Some y) None bs p q = absurd q
Appends-kept (Some x) (Some y) (Some z) bs p q = q ∙ p

pub loop-at-preserved : goal.loop-at-preserved
loop-at-preserved g c = record {
  within = search rules;
  written = record {
    appended = subst (Appends _ _) (joined c.args.text.now c.loop-at.at c.in-Ok.n) (Appends-trans _ _ _ _ _ c.loop-at.invariant.written.appended c.in-Ok.ensures.bytes);
    fine = search rules;
  };
}

pub returns-in-Ok-eq0 : goal.returns-in-Ok-eq0
returns-in-Ok-eq0 g c = record {
  front = (c.loop-at.at + c.in-Ok-eq0.field-0, subst (Appends _ _) (joined c.args.text.now c.loop-at.at c.in-Ok-eq0.field-0) (Appends-trans _ _ _ _ _ c.loop-at.invariant.written.appended c.in-Ok-eq0.ensures.bytes));
  failed = search rules;
}

pub returns-in-Err : goal.returns-in-Err
returns-in-Err g c = record {
  front = (c.loop-at.at, Appends-kept _ _ _ _ c.loop-at.invariant.written.appended c.in-Err.ensures.bytes);
  failed = search rules;
}
