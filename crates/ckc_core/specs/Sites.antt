-- The sites of a program: what its checks name, and the bounds at its nodes.
use Rattle.std.specs.Prelude.{Option, Some, None}
use Rattle.std.specs.List.{AllByRecursion}
use Rattle.ckc_core.specs.declared.program.Callee.{Callee}
use Rattle.ckc_core.specs.declared.program.Callee.TheVariants as callees
use Rattle.ckc_core.specs.declared.program.PointerBounds.{PointerBounds}
use Rattle.ckc_core.specs.declared.program.Site.{Site}
use Rattle.ckc_core.specs.Core as core
use Rattle.ckc_core.specs.Programs.{parted}

-- this holds of the site of bounds, where there are some
abbrev pub BoundsSites : (Site → Type 0) → Option PointerBounds → Type 0
BoundsSites P None = Unit {0}
BoundsSites P (Some b) = P b.site

abbrev pub CalleeSites : (Site → Type 0) → Callee → Type 0
CalleeSites P (callees.Trusted function) = Unit {0}
CalleeSites P (callees.Tainted import site) = P site

abbrev mutual
  -- it holds of each site of an expression
  pub ExpressionSites : (Site → Type 0) → core.Expression → Type 0
  ExpressionSites P (core.Number number) = Unit {0}
  ExpressionSites P core.Null = Unit {0}
  ExpressionSites P (core.Local local bounds) = BoundsSites P bounds
  ExpressionSites P (core.Load type place bounds) = PlaceSites P place × BoundsSites P bounds
  ExpressionSites P (core.AddressOf place bounds) = PlaceSites P place × BoundsSites P bounds
  ExpressionSites P (core.Negate operand site) = ExpressionSites P operand × P site
  ExpressionSites P (core.Complement operand) = ExpressionSites P operand
  ExpressionSites P (core.Not operand) = ExpressionSites P operand
  ExpressionSites P (core.Arithmetic operator left right site) = ExpressionSites P left × ExpressionSites P right × P site
  ExpressionSites P (core.Compare comparison left right) = ExpressionSites P left × ExpressionSites P right
  ExpressionSites P (core.Same left right) = ExpressionSites P left × ExpressionSites P right
  ExpressionSites P (core.AndAlso left right) = ExpressionSites P left × ExpressionSites P right
  ExpressionSites P (core.OrElse left right) = ExpressionSites P left × ExpressionSites P right
  ExpressionSites P (core.LowByte operand) = ExpressionSites P operand
  ExpressionSites P (core.Call callee arguments bounds) = CalleeSites P callee × ArgumentsSites P arguments × BoundsSites P bounds
  ExpressionSites P core.NextInput = Unit {0}
  ExpressionSites P (core.Sum pointer direction number site bounds) = ExpressionSites P pointer × ExpressionSites P number × P site × BoundsSites P bounds
  ExpressionSites P (core.Order comparison left right site) = ExpressionSites P left × ExpressionSites P right × P site
  ExpressionSites P (core.Allocate count element terminator bounds) = ExpressionSites P count × BoundsSites P bounds
  ExpressionSites P (core.Length pointer site) = ExpressionSites P pointer × P site
  ExpressionSites P (core.Cast pointer bounds) = ExpressionSites P pointer × BoundsSites P bounds

  pub ArgumentsSites : (Site → Type 0) → core.Arguments → Type 0
  ArgumentsSites P core.Done = Unit {0}
  ArgumentsSites P (core.More first rest) = ExpressionSites P first × ArgumentsSites P rest

  pub PlaceSites : (Site → Type 0) → core.Place → Type 0
  PlaceSites P (core.Direct object offset) = Unit {0}
  PlaceSites P (core.Through pointer index offset site) = ExpressionSites P pointer × IndexSites P index × P site

  pub IndexSites : (Site → Type 0) → core.Index → Type 0
  IndexSites P core.First = Unit {0}
  IndexSites P (core.Element number terminated) = ExpressionSites P number

abbrev mutual
  pub StatementSites : (Site → Type 0) → core.Statement → Type 0
  StatementSites P core.Nothing = Unit {0}
  StatementSites P (core.SetLocal local value) = ExpressionSites P value
  StatementSites P (core.Store type place value) = PlaceSites P place × ExpressionSites P value
  StatementSites P (core.UpdateLocal is_char local operator value site) = ExpressionSites P value × P site
  StatementSites P (core.Update type place operator value site) = PlaceSites P place × ExpressionSites P value × P site
  StatementSites P (core.Evaluate value) = ExpressionSites P value
  StatementSites P (core.CallAlone callee arguments) = CalleeSites P callee × ArgumentsSites P arguments
  StatementSites P (core.Print number) = ExpressionSites P number
  StatementSites P (core.PutByte number) = ExpressionSites P number
  StatementSites P (core.Block statements) = StatementsSites P statements
  StatementSites P (core.If condition consequent alternative) = ExpressionSites P condition × StatementSites P consequent × StatementSites P alternative
  StatementSites P (core.Loop condition body step) = ExpressionSites P condition × StatementSites P body × StatementSites P step
  StatementSites P (core.Return value) = ExpressionSites P value
  StatementSites P core.ReturnNothing = Unit {0}
  StatementSites P core.Break = Unit {0}
  StatementSites P core.Continue = Unit {0}

  pub StatementsSites : (Site → Type 0) → core.Statements → Type 0
  StatementsSites P core.NoMore = Unit {0}
  StatementsSites P (core.Then first others) = StatementSites P first × StatementsSites P others

abbrev pub FunctionSites : (Site → Type 0) → core.Function → Type 0
FunctionSites P f = StatementsSites P f.body

-- it holds of each site of a program
abbrev pub CoreSites : (Site → Type 0) → core.Core → Type 0
CoreSites P program = AllByRecursion (FunctionSites P) (parted program).functions
