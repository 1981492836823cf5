-- The text appended is read piece by piece: `search` does not compare as long a word.
use Rattle.rh_svg.proofs.tags.open_dot.Goals as goal

pub returns : goal.returns
returns c =
    simp (
      c.as_bytes-x.ensures.value,
      c.format.ensures.text,
      c.as_bytes-y.ensures.value,
      c.format-2.ensures.text,
      c.as_bytes-word.ensures.value,
      c.word.ensures,
      c.as_bytes-tint.ensures.value,
      c.tint.ensures,
    )
    at c.push_texts.ensures
