use denote.Param.Send.{IsSend}
use Rattle.rh_rule.specs.contracts.rule.Sitter.{the_row}

pub send : IsSend the_row
send = record { owned = λ d vs. ((λ vss. (tt, tt)), tt); leaving = λ k f vs. tt }
