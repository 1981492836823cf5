use Rattle.std.proofs.Common.{◌≡◌, ◌++◌, [], ap, sym, subst, ◌∙◌, append-nil, rules}
use Rattle.rh_numbers.specs.Reading.{text_said}
use Rattle.rh_lists.specs.Parts.{IsReadTo, TellsText, end_of_part}
use Rattle.rh_lists.proofs.Texts.{no_fault}
use Rattle.rh_lists.proofs.text.last_block.Goals as goal

pub returns : goal.returns
returns g c = record {
  told = λ before rest read end.
      let bytes = c.args.bytes.now in
      let none : rest ≡ [] = end (search rules) in
      let whole : before ++ bytes ++ rest ≡ before ++ bytes = ap (λ l. before ++ bytes ++ l) none ∙ append-nil (before ++ bytes) in
      let second : IsReadTo (end_of_part c.args.text) bytes c.in-Ok.part = subst (λ s. IsReadTo s bytes c.in-Ok.part) c.so_far.ensures c.in-Ok.ensures.read in
      subst (λ l. TellsText (text_said l) c.end_text.result) (sym whole) (c.end_text.ensures.told (before ++ bytes) (c.in_ok-text.ensures.read before bytes read second));
  tested = search rules;
  read = search rules;
  not_long = search rules;
  fine = search rules;
}

pub returns-then-failed : goal.returns-then-failed
returns-then-failed g c = record {
  told = search rules;
  tested = λ _ before read.
      let bytes = c.args.bytes.now in
      let second : IsReadTo (end_of_part c.args.text) bytes c.in-Ok.part = subst (λ s. IsReadTo s bytes c.in-Ok.part) c.so_far.ensures c.in-Ok.ensures.read in
      no_fault (before ++ bytes) c.in_ok-text.text c.in_ok-text.ensures.good (c.in_ok-text.ensures.read before bytes read second);
  read = search rules;
  not_long = search rules;
  fine = search rules;
}
