-- How many nodes the parts of a program have. A node is an expression, a place or a statement; a pointer to a place is one node
-- with it, and a count of bytes is two.
use Rattle.std.specs.Prelude.{ℕ, ◌+◌}
use Rattle.ckc_core.specs.Core as core

abbrev mutual
  pub expression_weight : core.Expression → ℕ
  expression_weight (core.Number number) = 1
  expression_weight core.Null = 1
  expression_weight (core.Local local bounds) = 1
  expression_weight (core.Load type p bounds) = 1 + place_weight p
  expression_weight (core.AddressOf p bounds) = place_weight p
  expression_weight (core.Negate operand site) = 1 + expression_weight operand
  expression_weight (core.Complement operand) = 1 + expression_weight operand
  expression_weight (core.Not operand) = 1 + expression_weight operand
  expression_weight (core.Arithmetic operator left right site) = 1 + expression_weight left + expression_weight right
  expression_weight (core.Compare comparison left right) = 1 + expression_weight left + expression_weight right
  expression_weight (core.Same left right) = 1 + expression_weight left + expression_weight right
  expression_weight (core.AndAlso left right) = 1 + expression_weight left + expression_weight right
  expression_weight (core.OrElse left right) = 1 + expression_weight left + expression_weight right
  expression_weight (core.LowByte operand) = 1 + expression_weight operand
  expression_weight (core.Call callee arguments bounds) = 1 + arguments_weight arguments
  expression_weight core.NextInput = 1
  expression_weight (core.Sum pointer direction number site bounds) = 1 + expression_weight pointer + expression_weight number
  expression_weight (core.Order comparison left right site) = 1 + expression_weight left + expression_weight right
  expression_weight (core.Allocate count element terminator bounds) = 1 + expression_weight count
  expression_weight (core.Length pointer site) = 2 + expression_weight pointer
  expression_weight (core.Cast pointer bounds) = 1 + expression_weight pointer

  pub arguments_weight : core.Arguments → ℕ
  arguments_weight core.Done = 0
  arguments_weight (core.More first rest) = expression_weight first + arguments_weight rest

  pub place_weight : core.Place → ℕ
  place_weight (core.Direct object offset) = 1
  place_weight (core.Through pointer index offset site) = 1 + expression_weight pointer + index_weight index

  pub index_weight : core.Index → ℕ
  index_weight core.First = 0
  index_weight (core.Element number terminated) = expression_weight number

abbrev mutual
  pub statement_weight : core.Statement → ℕ
  statement_weight core.Nothing = 1
  statement_weight (core.SetLocal local value) = 1 + expression_weight value
  statement_weight (core.Store type p value) = 1 + place_weight p + expression_weight value
  statement_weight (core.UpdateLocal char local operator value site) = 1 + expression_weight value
  statement_weight (core.Update type p operator value site) = 1 + place_weight p + expression_weight value
  statement_weight (core.Evaluate value) = 1 + expression_weight value
  statement_weight (core.CallAlone callee arguments) = 1 + arguments_weight arguments
  statement_weight (core.Print number) = 1 + expression_weight number
  statement_weight (core.PutByte number) = 1 + expression_weight number
  statement_weight (core.Block inner) = 1 + statements_weight inner
  statement_weight (core.If condition consequent alternative) = 1 + expression_weight condition + statement_weight consequent + statement_weight alternative
  statement_weight (core.Loop condition body step) = 1 + expression_weight condition + statement_weight body + statement_weight step
  statement_weight (core.Return value) = 1 + expression_weight value
  statement_weight core.ReturnNothing = 1
  statement_weight core.Break = 1
  statement_weight core.Continue = 1

  pub statements_weight : core.Statements → ℕ
  statements_weight core.NoMore = 0
  statements_weight (core.Then first others) = statement_weight first + statements_weight others
