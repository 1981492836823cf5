-- The text appended is read piece by piece: `search` does not compare as long a word.
use Rattle.rh_svg.proofs.tags.open_mark.Goals as goal

pub returns : goal.returns
returns c =
    simp (
      c.as_bytes-x.ensures.value,
      c.format.ensures.text,
      c.as_bytes-y.ensures.value,
      c.format-2.ensures.text,
      c.as_bytes-reference.ensures.value,
      c.reference.ensures,
      c.as_bytes-word.ensures.value,
      c.kind_word.ensures.word,
    )
    at c.push_texts.ensures
