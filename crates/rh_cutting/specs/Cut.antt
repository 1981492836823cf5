-- Lists that were cut, of which nothing else is left.
use Rattle.std.specs.Prelude.{ℕ, List, map}
use Rattle.rh_cutting.specs.Borders.{AreBorders, AreCut}
use Rattle.rh_cutting.specs.declared.whole.CutLists.{CutLists}

-- these are the lists
pub record AreLists (cut : CutLists) (lists : List (List ℕ)) : Type 0 where
  pub borders : AreBorders cut.borders.values.items
  pub parts : AreCut cut.borders.values.items lists (map (λ l. l.items) cut.lists.items)
