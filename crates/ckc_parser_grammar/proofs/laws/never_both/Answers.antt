use Rattle.ckc_parser_grammar.proofs.OneFault.{never_both}
use Rattle.ckc_parser_grammar.proofs.laws.never_both.Goals as goal

pub returns : goal.returns
returns c = never_both
