use Rattle.ckc_parser_grammar.proofs.Paths.{low_beside}
use Rattle.ckc_parser_grammar.specs.StuckStatements as stuck
use Rattle.ckc_parser_grammar.specs.StuckStatements.{StuckDeclarator}
use Rattle.ckc_parser_grammar.proofs.Readings.{err, name_fails}
use Rattle.ckc_parser.proofs.NamedForms.{declarator_named}
use Rattle.ckc_parser.proofs.declarations.declarator.Goals as goal

pub returns-in_err-name : goal.returns-in_err-name
returns-in_err-name c =
    rw (err _ _ c.from_residual.ensures.1)
    (name_fails (StuckDeclarator c.args.depth c.args.tokens.now.now) c.in_err-name.ensures (stuck.name c.stars-stars.ensures.spelled) stuck.no_room)

pub returns-in_err-array : goal.returns-in_err-array
returns-in_err-array c =
    let starred = rw c.in_ok-name.ensures.1 at c.stars-stars.ensures.spelled in
    rw (err _ _ c.from_residual-in_err-array.ensures.1) (stuck.array starred c.in_err-array.ensures)

pub returns-in_err-bounds : goal.returns-in_err-bounds
returns-in_err-bounds c =
    let starred = rw c.in_ok-name.ensures.1 at c.stars-stars.ensures.spelled in
    rw (err _ _ c.from_residual-in_err-bounds.ensures.1) (stuck.bounds starred (rw c.from_first-so_far.ensures at c.in_ok-array.ensures) c.in_err-bounds.ensures)

pub returns-in_err-initializer : goal.returns-in_err-initializer
returns-in_err-initializer c =
    let starred = rw c.in_ok-name.ensures.1 at c.stars-stars.ensures.spelled in
    rw (err _ _ c.from_residual-in_err-initializer.ensures.1)
    (stuck.initializer starred (rw c.from_first-so_far.ensures at c.in_ok-array.ensures) c.in_ok-bounds.ensures.0 c.in_ok-bounds.ensures.1 c.in_err-initializer.ensures)

pub returns : goal.returns
returns c =
    let starred = rw c.in_ok-name.ensures.1 at c.stars-stars.ensures.spelled in
    (declarator_named c.in_ok-name.name c.in_ok-name.ensures.0 starred (rw c.from_first-so_far.ensures at c.in_ok-array.ensures) c.in_ok-bounds.ensures.0 c.in_ok-initializer.ensures.0, low_beside _ _ _ c.in_ok-bounds.ensures.1 c.in_ok-initializer.ensures.1)
