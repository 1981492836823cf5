use Rattle.rh_tagword.proofs.PlainWords.{value_there}
use Rattle.rh_turns.proofs.logical.logical_value.Goals as goal

pub unwrap-requires : goal.unwrap-requires
unwrap-requires c = value_there c.plain_value.result c.logical_word.result c.plain_value.ensures (c.requires.readable.value c.logical_word.result c.logical_word.ensures)
