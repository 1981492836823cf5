-- TokenLemmas: the tokens of a text, one after the other, and names among names.

mod TokenLemmas
