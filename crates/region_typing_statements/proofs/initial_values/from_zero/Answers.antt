use Rattle.std.specs.Option.{option_map}
use Rattle.ckc_tree.specs.Statements.{initializer}
use Rattle.pointer_modes.specs.Types.{ctype}
use Rattle.ckc_core.specs.Core as core
use Rattle.region_typing_rules.specs.Statements.{both, zero_value}
use Rattle.region_typing_scope.specs.OnHeap.{statement}
use Rattle.region_typing_statements.proofs.Locals.{last_is}
use Rattle.region_typing_statements.proofs.Settling.{settled_walk, settling_broken}
use Rattle.region_typing_statements.proofs.Testing.{walk_fails, walks_behind}
use Rattle.region_typing_statements.proofs.Walking.{goes_on, refused}
use Rattle.region_typing_statements.proofs.initial_values.from_zero.Goals as goal

pub returns-in_err-initial : goal.returns-in_err-initial
returns-in_err-initial c = refused _ c.from_residual.result c.from_residual.ensures.1 c.in_err-initial.ensures

pub returns-in_err-needs : goal.returns-in_err-needs
returns-in_err-needs c = goes_on _ c.in_ok-initial.ensures (walk_fails _ _ _ _ _ c.from_residual-in_err-needs.result c.is_scalar.ensures c.from_residual-in_err-needs.ensures.1 c.in_err-needs.ensures)

pub returns-in_err-settle : goal.returns-in_err-settle
returns-in_err-settle c =
    let zero = c.in_ok-first.ensures in
    let given = rw (c.deref.ensures, c.deref-2.ensures) at c.last_given.ensures in
    let last = last_is (option_map initializer c.args.written.now) c.in_ok-initial.initial c.in_ok-first.first c.last_given.result.now c.args.local (ctype c.args.t.now) given zero in
    let broken = rw last at c.in_err-settle.ensures.known in
    goes_on _ c.in_ok-initial.ensures (walks_behind _ _ _ _ _ c.is_scalar.ensures c.in_ok-needs.ensures
    (settling_broken c.args.scope.now c.settle.new.self (both (core.SetLocal c.args.local (zero_value (ctype c.args.t.now))) (statement c.in_ok-initial.initial)) _ c.from_residual-in_err-settle.result c.from_residual-in_err-settle.ensures.1 broken))

pub returns : goal.returns
returns c =
    let zero = c.in_ok-first.ensures in
    let given = rw (c.deref.ensures, c.deref-2.ensures) at c.last_given.ensures in
    let last = last_is (option_map initializer c.args.written.now) c.in_ok-initial.initial c.in_ok-first.first c.last_given.result.now c.args.local (ctype c.args.t.now) given zero in
    let settled = rw last at c.in_ok-settle.ensures.known in
    let built = rw zero at c.in_ok-both.ensures in
    goes_on _ c.in_ok-initial.ensures (walks_behind _ _ _ _ _ c.is_scalar.ensures c.in_ok-needs.ensures
    (settled_walk c.args.scope.now c.settle.new.self (both (core.SetLocal c.args.local (zero_value (ctype c.args.t.now))) (statement c.in_ok-initial.initial)) _ c.in_ok-both.field-0 settled built c.in_ok-settle.ensures.seen c.in_ok-settle.ensures.size))
