-- The text appended is read piece by piece: `search` does not compare as long a word.
use Rattle.rh_svg.proofs.tags.open_svg.Goals as goal

pub returns : goal.returns
returns c =
    simp (
      c.as_bytes-width.ensures.value,
      c.format.ensures.text,
      c.as_bytes-height.ensures.value,
      c.format-2.ensures.text,
      c.as_bytes-namespace.ensures.value,
    )
    at c.push_texts.ensures
