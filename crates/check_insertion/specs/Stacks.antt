-- How many words the parts of a program have on the stack at most.
use Rattle.std.specs.Prelude.{ℕ, zero, suc, ◌+◌, max, Option, Some, None}
use Rattle.check_insertion.specs.declared.erased.Reading.{Reading}
use Rattle.check_insertion.specs.Erased as erased

-- an offset is added to an address on the stack
abbrev pub offset_stack : ℕ → ℕ
offset_stack zero = 1
offset_stack (suc n) = 2

abbrev mutual
  pub expression_stack : erased.Expression → ℕ
  expression_stack (erased.Number number) = 1
  expression_stack erased.Null = 1
  expression_stack (erased.Local local) = 1
  expression_stack (erased.Load type p) = place_stack p
  expression_stack (erased.AddressOf p) = place_stack p
  expression_stack (erased.Negate operand site) = expression_stack operand
  expression_stack (erased.Complement operand) = expression_stack operand
  expression_stack (erased.Not operand) = expression_stack operand
  expression_stack (erased.Arithmetic operator left right site) = max (expression_stack left) (1 + expression_stack right)
  expression_stack (erased.Compare comparison left right) = max (expression_stack left) (1 + expression_stack right)
  expression_stack (erased.Same left right) = max (expression_stack left) (1 + expression_stack right)
  expression_stack (erased.AndAlso left right) = max (expression_stack left) (expression_stack right)
  expression_stack (erased.OrElse left right) = max (expression_stack left) (expression_stack right)
  expression_stack (erased.LowByte operand) = expression_stack operand
  expression_stack (erased.Call callee arguments) = max 1 (arguments_stack arguments)
  expression_stack erased.NextInput = 1
  expression_stack (erased.Sum pointer direction number size checks) = max (expression_stack pointer) (max (1 + expression_stack number) 6)
  expression_stack (erased.Order comparison left left_checks right right_checks) = max (expression_stack left) (max (1 + expression_stack right) 2)
  expression_stack (erased.Allocate count element terminator) = expression_stack count
  expression_stack (erased.Length pointer size checks) = max (expression_stack pointer) 6
  expression_stack (erased.Cast pointer size checks) = max (expression_stack pointer) 7

  pub arguments_stack : erased.Arguments → ℕ
  arguments_stack erased.Done = 0
  arguments_stack (erased.More first rest) = max (expression_stack first) (1 + arguments_stack rest)

  pub place_stack : erased.Place → ℕ
  place_stack (erased.Direct object offset) = offset_stack offset
  place_stack (erased.Through pointer index offset checks) = max (expression_stack pointer) (max (index_stack index) (offset_stack offset))

  -- what stands above a pointer: its index, and the words of its checks, of which the pointer is one
  pub index_stack : erased.Index → ℕ
  index_stack erased.First = 0
  index_stack (erased.Element number size) = max (1 + expression_stack number) 6

-- what stands above the pointer of a store: its index and its value, and the words of its checks
abbrev pub value_stack : erased.Index → erased.Expression → ℕ
value_stack erased.First value = max (1 + expression_stack value) 2
value_stack (erased.Element number size) value = max (1 + expression_stack number) (max (2 + expression_stack value) 6)

-- a store has its address, or its pointer and its index, on the stack while its value is computed
abbrev pub store_stack : erased.Place → erased.Expression → ℕ
store_stack (erased.Direct object offset) value = max (offset_stack offset) (1 + expression_stack value)
store_stack (erased.Through pointer index offset checks) value = max (expression_stack pointer) (value_stack index value)

-- an update has its address under the old value, and where it has an end, its pointer and its index, with the words of checks above
abbrev pub update_stack : Option Reading → ℕ → ℕ
update_stack None value = 2 + value
update_stack (Some r) value = max 8 (3 + value)

abbrev mutual
  pub statement_stack : erased.Statement → ℕ
  statement_stack erased.Nothing = 0
  statement_stack (erased.SetLocal local value) = expression_stack value
  statement_stack (erased.Store type p value end) = store_stack p value
  statement_stack (erased.UpdateLocal char local operator value site) = 1 + expression_stack value
  statement_stack (erased.Update type p operator value site end) = max (place_stack p) (update_stack end (expression_stack value))
  statement_stack (erased.Evaluate value) = expression_stack value
  statement_stack (erased.CallAlone callee arguments) = arguments_stack arguments
  statement_stack (erased.Print number) = expression_stack number
  statement_stack (erased.PutByte number) = expression_stack number
  statement_stack (erased.Block inner) = statements_stack inner
  statement_stack (erased.If condition consequent alternative) =
      max (expression_stack condition) (max (statement_stack consequent) (statement_stack alternative))
  statement_stack (erased.Loop condition body step) = max (expression_stack condition) (max (statement_stack body) (statement_stack step))
  statement_stack (erased.Return value) = expression_stack value
  statement_stack erased.ReturnNothing = 0
  statement_stack erased.Break = 0
  statement_stack erased.Continue = 0

  pub statements_stack : erased.Statements → ℕ
  statements_stack erased.NoMore = 0
  statements_stack (erased.Then first others) = max (statement_stack first) (statements_stack others)

-- a body that runs to its end pushes one word
abbrev pub body_stack : erased.Function → ℕ
body_stack f = max 1 (statements_stack f.body)
