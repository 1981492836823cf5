use Rattle.std.proofs.Common.{ap, ◌∙◌, ◌+◌, Ok}
use Rattle.rh_numbers.specs.Chunks.{ended}
use Rattle.rh_numbers.specs.Reading.{text_said}
use Rattle.rh_cutting.specs.Pieces.{keys_in}
use Rattle.rh_lists.proofs.Ending.{end_said, key_told, line_refused, refused_here}
use Rattle.rh_lists.proofs.part.ListPart.end_text.Goals as goal

pub returns-in-Bad-clause-told : goal.returns-in-Bad-clause-told
returns-in-Bad-clause-told c = λ bytes read.
    rw c.in_line.ensures (refused_here bytes _ c.args.self.lines c.args.self.end read c.in-Bad.bad c.in-Bad.is)

pub returns-in-Ok-None-clause-told : goal.returns-in-Ok-None-clause-told
returns-in-Ok-None-clause-told c = λ bytes read.
    end_said bytes _ c.args.self.lines c.args.self.end read c.in-Open.so_far c.end.result c.in-Open.is c.end.ensures.said
    ∙ ap (ended (keys_in c.args.self.keys) (1 + c.args.self.lines)) (c.in-Ok-None.is ∙ ap Ok c.in-Ok-None.field-0-is)

pub returns-in-Ok-Some-clause-told : goal.returns-in-Ok-Some-clause-told
returns-in-Ok-Some-clause-told c = λ bytes read.
    key_told _ (keys_in c.args.self.keys) c.in-Ok-Some.key c.with_key.result c.with_key.ensures.keys c.with_key.ensures.memory
    (end_said bytes _ c.args.self.lines c.args.self.end read c.in-Open.so_far c.end.result c.in-Open.is c.end.ensures.said
    ∙ ap (ended (keys_in c.args.self.keys) (1 + c.args.self.lines)) (c.in-Ok-Some.is ∙ ap Ok c.in-Ok-Some.field-0-is))

pub returns-in-Err-clause-told : goal.returns-in-Err-clause-told
returns-in-Err-clause-told c = λ bytes read.
    rw c.in_line-in-Err.ensures (line_refused (text_said bytes) (1 + c.args.self.lines) c.in-Err.bad
    (ap (λ s. s.1) (end_said bytes _ c.args.self.lines c.args.self.end read c.in-Open.so_far c.end.result c.in-Open.is c.end.ensures.said
    ∙ ap (ended (keys_in c.args.self.keys) (1 + c.args.self.lines)) c.in-Err.is)))
