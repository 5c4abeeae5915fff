use Rattle.ckc_parser_grammar.specs.ItemGrammar as g
use Rattle.ckc_parser_grammar.specs.StuckItems as stuck
use Rattle.ckc_parser_grammar.proofs.Readings.{err}
use Rattle.ckc_parser.proofs.items.structure.Goals as goal

pub returns-in_err-members : goal.returns-in_err-members
returns-in_err-members c = rw (err _ _ c.from_residual.ensures.1) (stuck.members c.requires.taint c.in_err-members.ensures)

pub returns-in_err-end : goal.returns-in_err-end
returns-in_err-end c = rw (err _ _ c.from_residual-in_err-end.ensures.1, c.in_err-end.ensures.reason, c.in_err-end.ensures.left) (stuck.structure_end c.requires.taint c.in_ok-members.ensures.0 c.in_ok-members.ensures.1 c.in_err-end.ensures.other)

pub returns-in_err-tag : goal.returns-in_err-tag
returns-in_err-tag c = rw (err _ _ c.from_residual-in_err-tag.ensures.1) stuck.no_room

pub returns : goal.returns
returns c =
    let members = rw c.in_ok-end.ensures at c.in_ok-members.ensures.0 in
    rw (c.in_ok-tag.ensures, c.from_first-span.ensures) (g.structure c.requires.taint members, c.in_ok-members.ensures.1)
