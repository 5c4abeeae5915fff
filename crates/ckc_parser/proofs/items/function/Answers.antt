use Rattle.ckc_parser_grammar.proofs.Paths.{low_beside}
use Rattle.ckc_parser_grammar.specs.ItemGrammar as g
use Rattle.ckc_parser_grammar.specs.StuckItems as stuck
use Rattle.ckc_parser_grammar.proofs.Readings.{err}
use Rattle.ckc_parser.proofs.items.function.Goals as goal

pub returns-in_err-parameters : goal.returns-in_err-parameters
returns-in_err-parameters c =
    let head = c.requires in
    rw (err _ _ c.from_residual-in_err-parameters.ensures.1) (stuck.function_parameters head.led.spelled_kind head.led.spelled_mark head.returned head.low head.is_named.spelled c.in_err-parameters.ensures)

pub returns-in_err-bounds : goal.returns-in_err-bounds
returns-in_err-bounds c =
    let head = c.requires in
    rw (err _ _ c.from_residual-in_err-bounds.ensures.1)
    (stuck.function_bounds head.led.spelled_kind head.led.spelled_mark head.returned head.low head.is_named.spelled c.in_ok-parameters.ensures.0 c.in_ok-parameters.ensures.1 (rw c.new.ensures at c.in_err-bounds.ensures))

pub returns-in_err-body : goal.returns-in_err-body
returns-in_err-body c =
    let head = c.requires in
    rw (err _ _ c.from_residual-in_err-body.ensures.1)
    (stuck.function_body head.led.spelled_kind head.led.spelled_mark head.returned head.low head.is_named.spelled c.in_ok-parameters.ensures.0 c.in_ok-parameters.ensures.1 (rw c.from_first-so_far.ensures at c.in_ok-bounds.ensures.0) (rw c.new.ensures at c.in_ok-bounds.ensures.1) c.in_err-body.ensures)

pub returns-in_err-name : goal.returns-in_err-name
returns-in_err-name c = rw (err _ _ c.from_residual.ensures.1) stuck.no_room

pub returns : goal.returns
returns c =
    let head = c.requires in
    let low = low_beside _ _ _ (low_beside _ _ _ (low_beside _ _ _ head.low c.in_ok-parameters.ensures.1) (rw c.new.ensures at c.in_ok-bounds.ensures.1)) c.in_ok-body.ensures.1 in
    rw (c.in_ok-name.ensures, c.from_first.ensures)
    (g.function head.led.spelled_kind head.led.spelled_mark head.returned head.is_named.spelled c.in_ok-parameters.ensures.0 (rw c.from_first-so_far.ensures at c.in_ok-bounds.ensures.0) c.in_ok-body.ensures.0, low)
