use Rattle.ckc_parser_grammar.specs.StuckItems as stuck
use Rattle.ckc_parser_grammar.specs.StuckItems.{StuckMember}
use Rattle.ckc_parser_grammar.proofs.Readings.{err, name_fails}
use Rattle.ckc_parser.proofs.NamedForms.{member_named}
use Rattle.ckc_parser.proofs.items.member.Goals as goal

pub returns-in_err-read : goal.returns-in_err-read
returns-in_err-read c = rw (err _ _ c.from_residual.ensures.1) (stuck.typed (rw c.new-outermost.ensures at c.in_err-read.ensures.reads))

pub returns-in_err-name : goal.returns-in_err-name
returns-in_err-name c =
    rw (err _ _ c.from_residual-in_err-name.ensures.1)
    (name_fails (StuckMember c.args.tokens.now.now) c.in_err-name.ensures (stuck.name c.in_ok-read.ensures.reads.0 (rw c.new-outermost.ensures at c.in_ok-read.ensures.reads.1)) stuck.no_room)

pub returns-in_err-bounds : goal.returns-in_err-bounds
returns-in_err-bounds c =
    let typed = rw c.in_ok-name.ensures.1 at c.in_ok-read.ensures.reads.0 in
    rw (err _ _ c.from_residual-in_err-bounds.ensures.1) (stuck.bounds typed (rw c.new-outermost.ensures at c.in_ok-read.ensures.reads.1) (rw c.new-outermost.ensures at c.in_err-bounds.ensures))

pub returns : goal.returns
returns c =
    let typed = rw c.in_ok-name.ensures.1 at c.in_ok-read.ensures.reads.0 in
    (member_named c.in_ok-name.name c.in_ok-name.ensures.0 typed (rw c.from_first-so_far.ensures at c.in_ok-bounds.ensures.0), (rw c.new-outermost.ensures at c.in_ok-read.ensures.reads.1, rw c.new-outermost.ensures at c.in_ok-bounds.ensures.1))
