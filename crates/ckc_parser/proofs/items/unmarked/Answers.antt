use Rattle.std.proofs.Common.{arith}
use Rattle.ckc_parser.specs.ItemReadings as readings
use Rattle.ckc_parser.proofs.FileLevel.{stuck_result, stuck_callee, no_function, void_result}
use Rattle.ckc_parser_grammar.specs.ItemGrammar as g
use Rattle.ckc_parser_grammar.specs.StuckItems as stuck
use Rattle.ckc_parser_grammar.proofs.Readings.{err}
use Rattle.ckc_parser.proofs.items.unmarked.Goals as goal

pub returns-in_err-named : goal.returns-in_err-named
returns-in_err-named c = rw (err _ _ c.from_residual.ensures.1) (stuck_callee c.requires.led (void_result c.in-Ok.ensures) (omega arith) stuck.void c.in_err-named.ensures)

pub function-requires : goal.function-requires
function-requires c = record { typed = _; named = _; led = c.requires.led; returned = void_result c.in-Ok.ensures; low = omega arith; is_named = c.in_ok-named.ensures }

pub structure-requires : goal.structure-requires
structure-requires c = record { word = _; brace = _; taint = rw (← c.in_default.ensures.left, c.in-Some.ensures.at) at c.requires.tainted }

pub returns-in_err-base : goal.returns-in_err-base
returns-in_err-base c = rw (err _ _ c.from_residual-in_err-base.ensures.1) (stuck_result c.requires.led (readings.value c.in_default.ensures.other (rw (c.new.ensures, c.in_default.ensures.left) at c.in_err-base.ensures.reads)))

pub function-requires-in-Ok-named : goal.function-requires-in-Ok-named
function-requires-in-Ok-named c = record { typed = _; named = _; led = c.requires.led; returned = g.value (rw c.in_default.ensures.left at c.in_ok-base.ensures.reads.0); low = rw c.new.ensures at c.in_ok-base.ensures.reads.1; is_named = c.in-Ok-named.ensures }

pub variables-requires : goal.variables-requires
variables-requires c = record { typed = _; taint = c.requires.tainted; no_structure = rw c.in_default.ensures.left at c.in_default-structure_head.ensures; type = rw c.in_default.ensures.left at c.in_ok-base.ensures.reads.0; low = rw c.new.ensures at c.in_ok-base.ensures.reads.1; no_function = no_function c.in-Err.ensures }
