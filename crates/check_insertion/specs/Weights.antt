-- How many nodes the parts of a program have. A node is an expression, a place, a check or a statement; a pointer to a place is one
-- node with it.
use Rattle.std.specs.Prelude.{ℕ, ◌+◌, length, Option, Some, None}
use Rattle.check_insertion.specs.declared.erased.Reading.{Reading}
use Rattle.check_insertion.specs.Erased as erased

abbrev mutual
  pub expression_weight : erased.Expression → ℕ
  expression_weight (erased.Number number) = 1
  expression_weight erased.Null = 1
  expression_weight (erased.Local local) = 1
  expression_weight (erased.Load type p) = 1 + place_weight p
  expression_weight (erased.AddressOf p) = place_weight p
  expression_weight (erased.Negate operand site) = 1 + expression_weight operand
  expression_weight (erased.Complement operand) = 1 + expression_weight operand
  expression_weight (erased.Not operand) = 1 + expression_weight operand
  expression_weight (erased.Arithmetic operator left right site) = 1 + expression_weight left + expression_weight right
  expression_weight (erased.Compare comparison left right) = 1 + expression_weight left + expression_weight right
  expression_weight (erased.Same left right) = 1 + expression_weight left + expression_weight right
  expression_weight (erased.AndAlso left right) = 1 + expression_weight left + expression_weight right
  expression_weight (erased.OrElse left right) = 1 + expression_weight left + expression_weight right
  expression_weight (erased.LowByte operand) = 1 + expression_weight operand
  expression_weight (erased.Call callee arguments) = 1 + arguments_weight arguments
  expression_weight erased.NextInput = 1
  expression_weight (erased.Sum pointer direction number size checks) = 1 + length checks + expression_weight pointer + expression_weight number
  expression_weight (erased.Order comparison left left_checks right right_checks) =
      1 + length left_checks + length right_checks + expression_weight left + expression_weight right
  expression_weight (erased.Allocate count element terminator) = 1 + expression_weight count
  expression_weight (erased.Length pointer size checks) = 1 + length checks + expression_weight pointer
  expression_weight (erased.Cast pointer size checks) = 1 + length checks + expression_weight pointer

  pub arguments_weight : erased.Arguments → ℕ
  arguments_weight erased.Done = 0
  arguments_weight (erased.More first rest) = expression_weight first + arguments_weight rest

  pub place_weight : erased.Place → ℕ
  place_weight (erased.Direct object offset) = 1
  place_weight (erased.Through pointer index offset checks) = 1 + length checks + expression_weight pointer + index_weight index

  pub index_weight : erased.Index → ℕ
  index_weight erased.First = 0
  index_weight (erased.Element number size) = expression_weight number

-- the check of an end at which nothing but 0 is stored
abbrev pub end_weight : Option Reading → ℕ
end_weight None = 0
end_weight (Some r) = 1

abbrev mutual
  pub statement_weight : erased.Statement → ℕ
  statement_weight erased.Nothing = 1
  statement_weight (erased.SetLocal local value) = 1 + expression_weight value
  statement_weight (erased.Store type p value end) = 1 + end_weight end + place_weight p + expression_weight value
  statement_weight (erased.UpdateLocal char local operator value site) = 1 + expression_weight value
  statement_weight (erased.Update type p operator value site end) = 1 + end_weight end + place_weight p + expression_weight value
  statement_weight (erased.Evaluate value) = 1 + expression_weight value
  statement_weight (erased.CallAlone callee arguments) = 1 + arguments_weight arguments
  statement_weight (erased.Print number) = 1 + expression_weight number
  statement_weight (erased.PutByte number) = 1 + expression_weight number
  statement_weight (erased.Block inner) = 1 + statements_weight inner
  statement_weight (erased.If condition consequent alternative) = 1 + expression_weight condition + statement_weight consequent + statement_weight alternative
  statement_weight (erased.Loop condition body step) = 1 + expression_weight condition + statement_weight body + statement_weight step
  statement_weight (erased.Return value) = 1 + expression_weight value
  statement_weight erased.ReturnNothing = 1
  statement_weight erased.Break = 1
  statement_weight erased.Continue = 1

  pub statements_weight : erased.Statements → ℕ
  statements_weight erased.NoMore = 0
  statements_weight (erased.Then first others) = statement_weight first + statements_weight others
