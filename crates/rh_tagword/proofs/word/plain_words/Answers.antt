use Rattle.rh_tagword.proofs.word.plain_words.Goals as goal

pub plain_word-requires : goal.plain_word-requires
plain_word-requires c = c.requires c.loop-value.value-index c.loop-value-test.true
