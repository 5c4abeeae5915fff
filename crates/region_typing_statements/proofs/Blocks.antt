-- Statements of the core that a `Vec` holds.
use Rattle.std.proofs.Common.{◌≡◌, Vec, Box, Global, Result, Ok, Err, ap, ◌∙◌}
use Rattle.std.specs.Result.{IfOk}
use Rattle.ckc_core.specs.declared.program.Stmt.{Stmt}
use Rattle.ckc_core.specs.declared.program.Stmt.TheVariants as stmts
use Rattle.ckc_core.specs.Core as core
use Rattle.ckc_core.specs.Core.{statement, statements_of}
use Rattle.ckc_core.proofs.Rows.{block_value}
use Rattle.ckc_text.specs.declared.fault.NoMemory.{NoMemory}
use Rattle.region_typing_scope.specs.OnHeap as on_heap

-- a block behind a `Box`
pub boxed_block : (v : Vec Stmt Global) (r : Result (Box Stmt Global) NoMemory) → IfOk r (λ b. b.value ≡ stmts.Block v) → IfOk r (λ b. on_heap.statement b ≡ core.Block (statements_of v.items))
boxed_block v (Ok b) is = ap statement is ∙ block_value v
boxed_block v (Err e) is = tt
