-- Inside: what is typed, behind a `Box`.
use Rattle.std.specs.Prelude.{Box}
use Rattle.std.proofs.Common.{Global}
use Rattle.ckc_core.specs.declared.program.Expr.{Expr}
use Rattle.ckc_core.specs.declared.program.Stmt.{Stmt}
use Rattle.ckc_core.specs.Core.{Expression, Statement}
use Rattle.ckc_core.specs.Core as core
use Rattle.region_typing_rules.specs.Operands.{Typed}
use Rattle.region_typing_scope.specs.declared.typed.Typed as code
use Rattle.region_typing_scope.specs.Typed as inline

abbrev pub typed : Box code.Typed Global → Typed
typed t = inline.typed t.value

abbrev pub expression : Box Expr Global → Expression
expression e = core.expression e.value

abbrev pub statement : Box Stmt Global → Statement
statement s = core.statement s.value
