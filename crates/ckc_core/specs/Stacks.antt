-- How many words the parts of a program have on the stack at most.
use Rattle.std.specs.Prelude.{ℕ, zero, suc, ◌+◌, max, true, false, Option, Some, None}
use Rattle.ckc_core.specs.declared.program.PointerBounds.{PointerBounds}
use Rattle.ckc_core.specs.Core as core
use Rattle.ckc_core.specs.Meaning.{bounds_of}

-- an offset is added to an address on the stack
abbrev pub offset_stack : ℕ → ℕ
offset_stack zero = 1
offset_stack (suc n) = 2

abbrev mutual
  pub expression_stack : core.Expression → ℕ
  expression_stack (core.Number number) = 1
  expression_stack core.Null = 1
  expression_stack (core.Local local bounds) = 1
  expression_stack (core.Load type p bounds) = place_stack p
  expression_stack (core.AddressOf p bounds) = place_stack p
  expression_stack (core.Negate operand site) = expression_stack operand
  expression_stack (core.Complement operand) = expression_stack operand
  expression_stack (core.Not operand) = expression_stack operand
  expression_stack (core.Arithmetic operator left right site) = max (expression_stack left) (1 + expression_stack right)
  expression_stack (core.Compare comparison left right) = max (expression_stack left) (1 + expression_stack right)
  expression_stack (core.Same left right) = max (expression_stack left) (1 + expression_stack right)
  expression_stack (core.AndAlso left right) = max (expression_stack left) (expression_stack right)
  expression_stack (core.OrElse left right) = max (expression_stack left) (expression_stack right)
  expression_stack (core.LowByte operand) = expression_stack operand
  expression_stack (core.Call callee arguments bounds) = max 1 (arguments_stack arguments)
  expression_stack core.NextInput = 1
  expression_stack (core.Sum pointer direction number site bounds) = max (expression_stack pointer) (max (1 + expression_stack number) 6)
  expression_stack (core.Order comparison left right site) = max (expression_stack left) (max (1 + expression_stack right) 2)
  expression_stack (core.Allocate count element terminator bounds) = expression_stack count
  expression_stack (core.Length pointer site) = max (expression_stack pointer) 6
  expression_stack (core.Cast pointer bounds) = max (expression_stack pointer) 7

  pub arguments_stack : core.Arguments → ℕ
  arguments_stack core.Done = 0
  arguments_stack (core.More first rest) = max (expression_stack first) (1 + arguments_stack rest)

  pub place_stack : core.Place → ℕ
  place_stack (core.Direct object offset) = offset_stack offset
  place_stack (core.Through pointer index offset site) = max (expression_stack pointer) (max (index_stack index) (offset_stack offset))

  -- what stands above a pointer: its index, and the words of its checks, of which the pointer is one
  pub index_stack : core.Index → ℕ
  index_stack core.First = 0
  index_stack (core.Element number terminated) = max (1 + expression_stack number) 6

-- what stands above the pointer of a store: its index and its value, and the words of its checks
abbrev pub value_stack : core.Index → core.Expression → ℕ
value_stack core.First value = max (1 + expression_stack value) 2
value_stack (core.Element number terminated) value = max (1 + expression_stack number) (max (2 + expression_stack value) 6)

-- a store has its address, or its pointer and its index, on the stack while its value is computed
abbrev pub store_stack : core.Place → core.Expression → ℕ
store_stack (core.Direct object offset) value = max (offset_stack offset) (1 + expression_stack value)
store_stack (core.Through pointer index offset site) value = max (expression_stack pointer) (value_stack index value)

-- an update has its address under the old value; where nothing but 0 may be stored at an upper end, it has its pointer and its index there, with the
-- words of checks above
abbrev pub element_stack : Option PointerBounds → core.Index → ℕ → ℕ
element_stack bounds core.First value = 2 + value
element_stack bounds (core.Element number false) value = 2 + value
element_stack None (core.Element number true) value = 2 + value
element_stack (Some b) (core.Element number true) value = max 8 (3 + value)

abbrev pub update_stack : core.Place → ℕ → ℕ
update_stack (core.Direct object offset) value = 2 + value
update_stack (core.Through pointer which offset site) value = element_stack (bounds_of pointer) which value

abbrev mutual
  pub statement_stack : core.Statement → ℕ
  statement_stack core.Nothing = 0
  statement_stack (core.SetLocal local value) = expression_stack value
  statement_stack (core.Store type p value) = store_stack p value
  statement_stack (core.UpdateLocal char local operator value site) = 1 + expression_stack value
  statement_stack (core.Update type p operator value site) = max (place_stack p) (update_stack p (expression_stack value))
  statement_stack (core.Evaluate value) = expression_stack value
  statement_stack (core.CallAlone callee arguments) = arguments_stack arguments
  statement_stack (core.Print number) = expression_stack number
  statement_stack (core.PutByte number) = expression_stack number
  statement_stack (core.Block inner) = statements_stack inner
  statement_stack (core.If condition consequent alternative) = max (expression_stack condition) (max (statement_stack consequent) (statement_stack alternative))
  statement_stack (core.Loop condition body step) = max (expression_stack condition) (max (statement_stack body) (statement_stack step))
  statement_stack (core.Return value) = expression_stack value
  statement_stack core.ReturnNothing = 0
  statement_stack core.Break = 0
  statement_stack core.Continue = 0

  pub statements_stack : core.Statements → ℕ
  statements_stack core.NoMore = 0
  statements_stack (core.Then first others) = max (statement_stack first) (statements_stack others)

-- a body that runs to its end pushes one word
abbrev pub body_stack : core.Function → ℕ
body_stack f = max 1 (statements_stack f.body)
