use Rattle.pointer_modes.specs.Types.{ctype}
use Rattle.region_typing_statements.proofs.Locals.{made_row}
use Rattle.region_typing_statements.proofs.Walking.{goes_on, refused}
use Rattle.region_typing_statements.proofs.local_arrays.array.Goals as goal

pub returns-in_err-array_bounds : goal.returns-in_err-array_bounds
returns-in_err-array_bounds c = refused _ c.from_residual.result c.from_residual.ensures.1 c.in_err-array_bounds.ensures

pub returns-in_err-without_initial : goal.returns-in_err-without_initial
returns-in_err-without_initial c =
    goes_on _ c.in_ok-array_bounds.ensures (refused _ c.from_residual-in_err-without_initial.result c.from_residual-in_err-without_initial.ensures.1 c.in_err-without_initial.ensures)

pub returns-in_err-memory : goal.returns-in_err-memory
returns-in_err-memory c =
    goes_on _ c.in_ok-array_bounds.ensures (goes_on _ c.in_ok-without_initial.ensures (refused _ c.from_residual-in_err-memory.result c.from_residual-in_err-memory.ensures.1 c.in_err-memory.ensures))

pub returns : goal.returns
returns c =
    let made = made_row c.args.local c.in_ok-memory.memory (ctype c.in_ok-row.row) (ctype c.args.t) c.args.ended c.args.span c.args.scope.now c.made.new.scope c.made.result c.in_ok-row.ensures c.made.ensures in
    goes_on _ c.in_ok-array_bounds.ensures (goes_on _ c.in_ok-without_initial.ensures (goes_on _ c.in_ok-memory.ensures made))
