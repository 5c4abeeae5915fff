use Rattle.ckc_parser_grammar.proofs.PlacedItem.{spelled_placed}
use Rattle.ckc_parser_grammar.proofs.laws.well_placed.Goals as goal

pub returns : goal.returns
returns c = spelled_placed
