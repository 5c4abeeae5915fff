-- The code of a program: which instructions each of its parts becomes. An instruction's place is its number in its function,
-- which jumps name; so the code of a part takes the place of its first instruction.
use Rattle.std.specs.Prelude.{ℕ, zero, suc, ◌+◌, Bool, true, false, List, [], ◌∷◌, ◌++◌, length, Option, Some, None, pos, negsuc}
use Rattle.std.proofs.Common.{ℤ, ◌+ℤ◌}
use Rattle.act_words.specs.Numbers.{signed}
use Rattle.pointer_modes.specs.Types.{CType, Int, Char, Struct, Pointer}
use Rattle.act_words.specs.declared.operator.Operator.{Operator}
use Rattle.act_words.specs.declared.operator.Operator.TheVariants as operators
use Rattle.act_words.specs.declared.operator.Comparison.{Comparison}
use Rattle.act_words.specs.declared.operator.Comparison.TheVariants as comparisons
use Rattle.bounds_exprs.specs.declared.term.Term.{Term}
use Rattle.bounds_exprs.specs.declared.term.Bounds.{Bounds}
use Rattle.ckc_core.specs.declared.program.Callee.{Callee}
use Rattle.ckc_core.specs.declared.program.Callee.TheVariants as callees
use Rattle.ckc_core.specs.declared.program.Direction.{Direction}
use Rattle.ckc_core.specs.declared.program.Terminator.{Terminator}
use Rattle.ckc_core.specs.declared.program.Terminator.TheVariants as terminators
use Rattle.ckc_core.specs.declared.program.Direction.TheVariants as directions
use Rattle.ckc_core.specs.declared.program.Site.{Site}
use Rattle.check_insertion.specs.declared.erased.Check.{Check}
use Rattle.check_insertion.specs.declared.erased.Check.TheVariants as checks
use Rattle.check_insertion.specs.declared.erased.Reading.{Reading}
use Rattle.check_insertion.specs.Erased as erased
use Rattle.ckc_core.specs.Steps.{is_char}
use Rattle.ckc_core.specs.Pointers.{element_size}
use Rattle.code_words.specs.declared.op.Op.{Op}
use Rattle.code_words.specs.declared.op.Op.TheVariants as ops
use Rattle.marshalling.specs.declared.kind.WordKind.{WordKind}
use Rattle.marshalling.specs.declared.kind.WordKind.TheVariants as kinds
pub use Rattle.lowering.specs.declared.reach.Reach.{Reach}
pub use Rattle.lowering.specs.declared.reach.Reach.TheVariants.{Still, Onward, Back}

-- ---- single instructions

abbrev pub operator_code : Operator → Site → Op
operator_code (operators.Arithmetic operator) site = ops.Arithmetic operator site.place
operator_code (operators.Bitwise operator) site = ops.Bitwise operator

-- a cell of type `char` has one byte, and all others have four
abbrev pub load_if : Bool → Op
load_if true = ops.Load1
load_if false = ops.Load4

abbrev pub store_if : Bool → Op
store_if true = ops.Store1
store_if false = ops.Store4

abbrev pub load_code : CType → Op
load_code type = load_if (is_char type)

abbrev pub store_code : CType → Op
store_code type = store_if (is_char type)

-- what enters a callee
abbrev pub callee_code : Callee → Op
callee_code (callees.Trusted function) = ops.Call function
callee_code (callees.Tainted import site) = ops.TaintedCall import site.place

-- so many bytes behind an address
abbrev pub offset_code : ℕ → List Op
offset_code zero = []
offset_code (suc n) = ops.Const (signed (suc n)) ∷ ops.WrapAdd ∷ []

-- the address of a cell of a file-level variable
abbrev pub address_code : ℕ → ℕ → List Op
address_code object offset = ops.BlockAddress object ∷ offset_code offset

-- ---- the slots behind the locals, of which the first has this number

-- a store keeps its value in the first one while its pointer is checked; the others hold a pointer and a number between the moment
-- when all parts of an access are computed and its end
abbrev pub pointer_slot : ℕ → ℕ
pointer_slot slot = slot + 1

abbrev pub number_slot : ℕ → ℕ
number_slot slot = slot + 2

-- ---- checks

-- how the checks of a sum count
abbrev pub reach_to : Direction → ℕ → Reach
reach_to directions.Forward size = Onward size
reach_to directions.Backward size = Back size

abbrev pub counted_size : Reach → ℕ
counted_size (Still size) = size
counted_size (Onward size) = size
counted_size (Back size) = size

-- the number of elements; back it is one too small, since the least number has no negative
abbrev pub number_code : ℕ → Reach → List Op
number_code slot (Still size) = ops.Const (pos 0) ∷ []
number_code slot (Onward size) = ops.Local (number_slot slot) ∷ []
number_code slot (Back size) = ops.Local (number_slot slot) ∷ ops.Not ∷ []

-- and so is the constant of an end
abbrev pub end_constant : Reach → Term → ℤ
end_constant (Still size) t = t.plus
end_constant (Onward size) t = t.plus
end_constant (Back size) t = t.plus +ℤ negsuc 0

-- the base of bounds: a pointer variable, or the pointer itself
abbrev pub base_code : ℕ → Option ℕ → Op
base_code slot None = ops.Local (pointer_slot slot)
base_code slot (Some base) = ops.Local base

-- the variable of an end
abbrev pub variable_code : Option ℕ → Op
variable_code None = ops.Const (pos 0)
variable_code (Some variable) = ops.Local variable

-- the base and the variables of both ends
abbrev pub bounds_code : ℕ → Bounds → List Op
bounds_code slot b = base_code slot b.base ∷ variable_code b.lo.var ∷ variable_code b.hi.var ∷ []

-- the place that is checked, and bounds
abbrev pub within_code : ℕ → Reach → Bounds → List Op
within_code slot r b = ops.Set (pointer_slot slot) ∷ ops.Local (pointer_slot slot) ∷ ops.Local (pointer_slot slot) ∷ (number_code slot r ++ bounds_code slot b)

-- a check of a pointer, whose word stays on the stack
abbrev pub check_code : ℕ → Reach → Check → List Op
check_code slot r (checks.NotNull site) = ops.NonNull site.place ∷ []
check_code slot r (checks.Below c) =
    within_code slot r c.bounds ++ ops.In (end_constant r c.bounds.lo) (end_constant r c.bounds.hi) (counted_size r) c.site.place ∷ []
check_code slot r (checks.UpTo c) =
    within_code slot r c.bounds ++ ops.UpTo (end_constant r c.bounds.lo) (end_constant r c.bounds.hi) (counted_size r) c.site.place ∷ []
check_code slot r (checks.Contains old new) =
    ops.Set (pointer_slot slot)
    ∷ ops.Local (pointer_slot slot)
    ∷ (bounds_code slot old.bounds
    ++ (bounds_code slot new.bounds
    ++ ops.Contain old.bounds.lo.plus old.bounds.hi.plus new.bounds.lo.plus new.bounds.hi.plus (counted_size r) new.site.place ∷ []))

-- one after another
abbrev pub checks_code : ℕ → Reach → List Check → List Op
checks_code slot r [] = []
checks_code slot r (c ∷ rest) = check_code slot r c ++ checks_code slot r rest

-- ---- elements, sums and order, behind the words of their parts

-- the address that is so many elements further on, or back; each address counts modulo 2^32
abbrev pub moved_code : ℕ → Direction → ℕ → List Op
moved_code slot directions.Forward size = ops.Local (number_slot slot) ∷ ops.Index size ∷ []
moved_code slot directions.Backward size = ops.Local (number_slot slot) ∷ ops.WrapNeg ∷ ops.Index size ∷ []

-- the address of a cell of an element that a pointer leads to, behind the checks
abbrev pub through_code : ℕ → erased.Index → ℕ → List Check → List Op
through_code slot erased.First offset checks = checks_code slot (Still 1) checks ++ offset_code offset
through_code slot (erased.Element number size) offset checks =
    ops.Set (number_slot slot) ∷ (checks_code slot (Onward size) checks ++ (moved_code slot directions.Forward size ++ offset_code offset))

-- nothing but 0 is stored at the upper end of the pointer on the stack, which stays there: the number of the element and the value are kept aside (C3)
abbrev pub term_code : ℕ → ℕ → Reading → List Op
term_code slot size r =
    ops.Set (pointer_slot slot)
    ∷ ops.Local (pointer_slot slot)
    ∷ ops.Local (pointer_slot slot)
    ∷ ops.Local (number_slot slot)
    ∷ base_code slot r.bounds.base
    ∷ variable_code r.bounds.hi.var
    ∷ ops.Local slot
    ∷ ops.Term r.bounds.hi.plus size r.site.place
    ∷ []

-- the value that is kept aside goes into a cell of an element of a null-terminated pointer, behind the checks
abbrev pub ended_code : ℕ → CType → ℕ → ℕ → List Check → Reading → List Op
ended_code slot type size offset checks r =
    ops.Set (number_slot slot)
    ∷ (checks_code slot (Onward size) checks
    ++ (term_code slot size r ++ (moved_code slot directions.Forward size ++ (offset_code offset ++ ops.Local slot ∷ store_code type ∷ []))))

-- a pointer and the number of an element are on the stack twice
abbrev pub twice_code : ℕ → List Op
twice_code slot =
    ops.Set (number_slot slot)
    ∷ ops.Set (pointer_slot slot)
    ∷ ops.Local (pointer_slot slot)
    ∷ ops.Local (number_slot slot)
    ∷ ops.Local (pointer_slot slot)
    ∷ ops.Local (number_slot slot)
    ∷ []

abbrev pub sum_code : ℕ → Direction → ℕ → List Check → List Op
sum_code slot direction size checks =
    ops.Set (number_slot slot) ∷ (checks_code slot (reach_to direction size) checks ++ moved_code slot direction size)

-- addresses have no sign
abbrev pub order_op : Comparison → Op
order_op comparisons.Equal = ops.Compare comparisons.Equal
order_op comparisons.NotEqual = ops.Compare comparisons.NotEqual
order_op comparisons.Less = ops.UnsignedLess
order_op comparisons.LessEqual = ops.UnsignedLessEqual
order_op comparisons.Greater = ops.UnsignedGreater
order_op comparisons.GreaterEqual = ops.UnsignedGreaterEqual

-- the right pointer is kept aside while the left one is checked
abbrev pub order_code : ℕ → Comparison → List Check → List Check → List Op
order_code slot comparison left_checks right_checks =
    ops.Set (number_slot slot)
    ∷ (checks_code slot (Still 1) left_checks ++ ops.Local (number_slot slot) ∷ (checks_code slot (Still 1) right_checks ++ order_op comparison ∷ []))

-- a new block of as many elements as are counted, and of one more where a zero stands behind them: all that is new is 0
abbrev pub allocation_code : Terminator → ℕ → Op
allocation_code terminators.Absent size = ops.Alloc size
allocation_code terminators.Last size = ops.Alloc size
allocation_code terminators.Behind size = ops.AllocTerminated size

-- keeps a number modulo 256, where it has to be
abbrev pub byte_code : Bool → List Op
byte_code true = ops.Byte ∷ []
byte_code false = []

-- ---- how many instructions there are

abbrev pub offset_size : ℕ → ℕ
offset_size zero = 0
offset_size (suc n) = 2

abbrev pub number_size : Reach → ℕ
number_size (Still size) = 1
number_size (Onward size) = 1
number_size (Back size) = 2

abbrev pub check_size : Reach → Check → ℕ
check_size r (checks.NotNull site) = 1
check_size r (checks.Below c) = 3 + (number_size r + 3) + 1
check_size r (checks.UpTo c) = 3 + (number_size r + 3) + 1
check_size r (checks.Contains old new) = 9

abbrev pub checks_size : Reach → List Check → ℕ
checks_size r [] = 0
checks_size r (c ∷ rest) = check_size r c + checks_size r rest

abbrev pub moved_size : Direction → ℕ
moved_size directions.Forward = 2
moved_size directions.Backward = 3

abbrev pub through_size : erased.Index → ℕ → List Check → ℕ
through_size erased.First offset checks = checks_size (Still 1) checks + offset_size offset
through_size (erased.Element number size) offset checks = 1 + (checks_size (Onward size) checks + (2 + offset_size offset))

abbrev pub ended_size : ℕ → ℕ → List Check → ℕ
ended_size size offset checks = 1 + (checks_size (Onward size) checks + (8 + (2 + (offset_size offset + 2))))

abbrev pub sum_size : Direction → ℕ → List Check → ℕ
sum_size direction size checks = 1 + (checks_size (reach_to direction size) checks + moved_size direction)

abbrev pub order_size : List Check → List Check → ℕ
order_size left_checks right_checks = 1 + (checks_size (Still 1) left_checks + (1 + (checks_size (Still 1) right_checks + 1)))

abbrev pub byte_size : Bool → ℕ
byte_size true = 1
byte_size false = 0

abbrev mutual
  pub expression_size : erased.Expression → ℕ
  expression_size (erased.Number number) = 1
  expression_size erased.Null = 1
  expression_size (erased.Local local) = 1
  expression_size (erased.Load type p) = place_size p + 1
  expression_size (erased.AddressOf p) = place_size p
  expression_size (erased.Negate operand site) = expression_size operand + 1
  expression_size (erased.Complement operand) = expression_size operand + 1
  expression_size (erased.Not operand) = expression_size operand + 1
  expression_size (erased.Arithmetic operator left right site) = expression_size left + (expression_size right + 1)
  expression_size (erased.Compare comparison left right) = expression_size left + (expression_size right + 1)
  expression_size (erased.Same left right) = expression_size left + (expression_size right + 1)
  expression_size (erased.AndAlso left right) = expression_size left + (expression_size right + 5)
  expression_size (erased.OrElse left right) = expression_size left + (expression_size right + 5)
  expression_size (erased.LowByte operand) = expression_size operand + 1
  expression_size (erased.Call callee arguments) = arguments_size arguments + 2
  expression_size erased.NextInput = 1
  expression_size (erased.Sum pointer direction number size checks) =
      expression_size pointer + (expression_size number + sum_size direction size checks)
  expression_size (erased.Order comparison left left_checks right right_checks) =
      expression_size left + (expression_size right + order_size left_checks right_checks)
  expression_size (erased.Allocate count element terminator) = expression_size count + 1
  expression_size (erased.Length pointer size checks) = expression_size pointer + (checks_size (Still size) checks + 1)
  expression_size (erased.Cast pointer size checks) = expression_size pointer + checks_size (Still size) checks

  pub arguments_size : erased.Arguments → ℕ
  arguments_size erased.Done = 0
  arguments_size (erased.More first rest) = expression_size first + arguments_size rest

  pub place_size : erased.Place → ℕ
  place_size (erased.Direct object offset) = 1 + offset_size offset
  place_size (erased.Through pointer index offset checks) = expression_size pointer + (index_size index + through_size index offset checks)

  pub index_size : erased.Index → ℕ
  index_size erased.First = 0
  index_size (erased.Element number size) = expression_size number

-- what a store has before its value, and behind it
abbrev pub before_value_size : erased.Place → ℕ
before_value_size (erased.Direct object offset) = 1 + offset_size offset
before_value_size (erased.Through pointer index offset checks) = expression_size pointer + index_size index

abbrev pub behind_through_size : erased.Index → ℕ → List Check → Option Reading → ℕ
behind_through_size index offset checks None = 3 + through_size index offset checks
behind_through_size erased.First offset checks (Some r) = 3 + through_size erased.First offset checks
behind_through_size (erased.Element number size) offset checks (Some r) = 1 + ended_size size offset checks

abbrev pub behind_value_size : erased.Place → Option Reading → ℕ
behind_value_size (erased.Direct object offset) end = 1
behind_value_size (erased.Through pointer index offset checks) end = behind_through_size index offset checks end

-- an update, whose value has a size, and whose result is kept modulo 256 by so many instructions
abbrev pub update_size : erased.Place → Option Reading → ℕ → ℕ → ℕ
update_size cell None value byte = place_size cell + (2 + (value + (1 + (byte + 1))))
update_size (erased.Direct object offset) (Some r) value byte = place_size (erased.Direct object offset) + (2 + (value + (1 + (byte + 1))))
update_size (erased.Through pointer erased.First offset checks) (Some r) value byte =
    place_size (erased.Through pointer erased.First offset checks) + (2 + (value + (1 + (byte + 1))))
update_size (erased.Through pointer (erased.Element number size) offset checks) (Some r) value byte =
    expression_size pointer + expression_size number
    + (6 + (through_size (erased.Element number size) offset checks + (1 + (value + (1 + (byte + (1 + ended_size size offset [])))))))

abbrev mutual
  pub statement_size : erased.Statement → ℕ
  statement_size erased.Nothing = 0
  statement_size (erased.SetLocal local value) = expression_size value + 1
  statement_size (erased.Store type p value end) = before_value_size p + (expression_size value + behind_value_size p end)
  statement_size (erased.UpdateLocal char local operator value site) = 1 + (expression_size value + (1 + (byte_size char + 1)))
  statement_size (erased.Update type p operator value site end) = update_size p end (expression_size value) (byte_size (is_char type))
  statement_size (erased.Evaluate value) = expression_size value + 1
  statement_size (erased.CallAlone callee arguments) = arguments_size arguments + 2
  statement_size (erased.Print number) = expression_size number + 1
  statement_size (erased.PutByte number) = expression_size number + 1
  statement_size (erased.Block inner) = statements_size inner
  statement_size (erased.If condition consequent alternative) = expression_size condition + (1 + (statement_size consequent + (1 + statement_size alternative)))
  statement_size (erased.Loop condition body step) = 2 + (statement_size body + (statement_size step + (expression_size condition + 2)))
  statement_size (erased.Return value) = expression_size value + 1
  statement_size erased.ReturnNothing = 1
  statement_size erased.Break = 1
  statement_size erased.Continue = 1

  pub statements_size : erased.Statements → ℕ
  statements_size erased.NoMore = 0
  statements_size (erased.Then first others) = statement_size first + statements_size others

-- ---- expressions

abbrev mutual
  -- leaves the word of the expression's value on the stack
  pub expression_code : ℕ → ℕ → erased.Expression → List Op
  expression_code slot at (erased.Number number) = ops.Const number ∷ []
  expression_code slot at erased.Null = ops.Const (pos 0) ∷ []
  expression_code slot at (erased.Local local) = ops.Local local ∷ []
  expression_code slot at (erased.Load type p) = place_code slot at p ++ load_code type ∷ []
  expression_code slot at (erased.AddressOf p) = place_code slot at p
  expression_code slot at (erased.Negate operand site) = expression_code slot at operand ++ ops.Neg site.place ∷ []
  expression_code slot at (erased.Complement operand) = expression_code slot at operand ++ ops.Not ∷ []
  expression_code slot at (erased.Not operand) = expression_code slot at operand ++ ops.Zero ∷ []
  expression_code slot at (erased.Arithmetic operator left right site) =
      expression_code slot at left ++ (expression_code slot (at + expression_size left) right ++ operator_code operator site ∷ [])
  expression_code slot at (erased.Compare comparison left right) =
      expression_code slot at left ++ (expression_code slot (at + expression_size left) right ++ ops.Compare comparison ∷ [])
  expression_code slot at (erased.Same left right) =
      expression_code slot at left ++ (expression_code slot (at + expression_size left) right ++ ops.Compare comparisons.Equal ∷ [])
  -- where the left one is 0 or null the right one is passed over, and the result is 0
  expression_code slot at (erased.AndAlso left right) =
      expression_code slot at left
      ++ ops.JumpIfZero (at + expression_size left + 1 + expression_size right + 3)
      ∷ (expression_code slot (at + expression_size left + 1) right
      ++ ops.Zero ∷ ops.Zero ∷ ops.Jump (at + expression_size left + 1 + expression_size right + 4) ∷ ops.Const (pos 0) ∷ [])
  -- where the left one is neither the right one is passed over, and the result is 1
  expression_code slot at (erased.OrElse left right) =
      expression_code slot at left
      ++ ops.JumpIfZero (at + expression_size left + 3)
      ∷ ops.Const (pos 1)
      ∷ ops.Jump (at + expression_size left + 3 + expression_size right + 2)
      ∷ (expression_code slot (at + expression_size left + 3) right ++ ops.Zero ∷ ops.Zero ∷ [])
  expression_code slot at (erased.LowByte operand) = expression_code slot at operand ++ ops.Byte ∷ []
  expression_code slot at (erased.Call callee arguments) = arguments_code slot at arguments ++ ops.Tick ∷ callee_code callee ∷ []
  expression_code slot at erased.NextInput = ops.NextInput ∷ []
  expression_code slot at (erased.Sum pointer direction number size checks) =
      expression_code slot at pointer ++ (expression_code slot (at + expression_size pointer) number ++ sum_code slot direction size checks)
  expression_code slot at (erased.Order comparison left left_checks right right_checks) =
      expression_code slot at left ++ (expression_code slot (at + expression_size left) right ++ order_code slot comparison left_checks right_checks)
  expression_code slot at (erased.Allocate count element terminator) = expression_code slot at count ++ allocation_code terminator (element_size element) ∷ []
  expression_code slot at (erased.Length pointer size checks) = expression_code slot at pointer ++ (checks_code slot (Still size) checks ++ ops.TextLength ∷ [])
  expression_code slot at (erased.Cast pointer size checks) = expression_code slot at pointer ++ checks_code slot (Still size) checks

  -- leaves the words of the arguments there, the last on top
  pub arguments_code : ℕ → ℕ → erased.Arguments → List Op
  arguments_code slot at erased.Done = []
  arguments_code slot at (erased.More first rest) = expression_code slot at first ++ arguments_code slot (at + expression_size first) rest

  -- leaves the address of the cell there
  pub place_code : ℕ → ℕ → erased.Place → List Op
  place_code slot at (erased.Direct object offset) = address_code object offset
  place_code slot at (erased.Through pointer index offset checks) =
      expression_code slot at pointer ++ (index_code slot (at + expression_size pointer) index ++ through_code slot index offset checks)

  -- leaves the number of an element there
  pub index_code : ℕ → ℕ → erased.Index → List Op
  index_code slot at erased.First = []
  index_code slot at (erased.Element number size) = expression_code slot at number

-- ---- statements

-- the first slot behind the locals, and where `break` and `continue` go
pub record Places : Type 0 where
  pub scratch : ℕ
  pub on_break : ℕ
  pub on_continue : ℕ

-- where they go in the body of a loop, by its place and the sizes of its body, its step and its condition
abbrev pub loop_places : ℕ → ℕ → ℕ → ℕ → ℕ → Places
loop_places scratch at body step condition = record { scratch = scratch; on_break = at + 2 + body + step + condition + 2; on_continue = at + 2 + body }

-- the address that a store needs before its value, or its pointer and its index
abbrev pub before_value : ℕ → ℕ → erased.Place → List Op
before_value slot at (erased.Direct object offset) = address_code object offset
before_value slot at (erased.Through pointer index offset checks) =
    expression_code slot at pointer ++ index_code slot (at + expression_size pointer) index

-- what follows the value
abbrev pub behind_through : ℕ → CType → erased.Index → ℕ → List Check → Option Reading → List Op
behind_through slot type index offset checks None =
    ops.Set slot ∷ (through_code slot index offset checks ++ ops.Local slot ∷ store_code type ∷ [])
behind_through slot type erased.First offset checks (Some r) =
    ops.Set slot ∷ (through_code slot erased.First offset checks ++ ops.Local slot ∷ store_code type ∷ [])
behind_through slot type (erased.Element number size) offset checks (Some r) = ops.Set slot ∷ ended_code slot type size offset checks r

abbrev pub behind_value : ℕ → CType → erased.Place → Option Reading → List Op
behind_value slot type (erased.Direct object offset) end = store_code type ∷ []
behind_value slot type (erased.Through pointer index offset checks) end = behind_through slot type index offset checks end

-- an update keeps its address under the old value, and where it has an end, its pointer and the number of its element
abbrev pub plain_update : ℕ → ℕ → CType → erased.Place → Operator → erased.Expression → Site → List Op
plain_update slot at type cell operator value site =
    place_code slot at cell
    ++ ops.Duplicate
    ∷ load_code type
    ∷ (expression_code slot (at + place_size cell + 2) value ++ operator_code operator site ∷ (byte_code (is_char type) ++ store_code type ∷ []))

abbrev pub update_code : ℕ → ℕ → CType → erased.Place → Operator → erased.Expression → Site → Option Reading → List Op
update_code slot at type cell operator value site None = plain_update slot at type cell operator value site
update_code slot at type (erased.Direct object offset) operator value site (Some r) =
    plain_update slot at type (erased.Direct object offset) operator value site
update_code slot at type (erased.Through pointer erased.First offset checks) operator value site (Some r) =
    plain_update slot at type (erased.Through pointer erased.First offset checks) operator value site
update_code slot at type (erased.Through pointer (erased.Element number size) offset checks) operator value site (Some r) =
    before_value slot at (erased.Through pointer (erased.Element number size) offset checks)
    ++ (twice_code slot
    ++ (through_code slot (erased.Element number size) offset checks
    ++ load_code type
    ∷ (expression_code slot (at + (expression_size pointer + expression_size number) + 6 + through_size (erased.Element number size) offset checks + 1) value
    ++ operator_code operator site ∷ (byte_code (is_char type) ++ ops.Set slot ∷ ended_code slot type size offset [] r))))

abbrev mutual
  pub statement_code : Places → ℕ → erased.Statement → List Op
  statement_code p at erased.Nothing = []
  statement_code p at (erased.SetLocal local value) = expression_code p.scratch at value ++ ops.Set local ∷ []
  statement_code p at (erased.Store type cell value end) =
      before_value p.scratch at cell ++ (expression_code p.scratch (at + before_value_size cell) value ++ behind_value p.scratch type cell end)
  statement_code p at (erased.UpdateLocal char local operator value site) =
      ops.Local local ∷ (expression_code p.scratch (at + 1) value ++ operator_code operator site ∷ (byte_code char ++ ops.Set local ∷ []))
  statement_code p at (erased.Update type cell operator value site end) = update_code p.scratch at type cell operator value site end
  statement_code p at (erased.Evaluate value) = expression_code p.scratch at value ++ ops.Discard ∷ []
  statement_code p at (erased.CallAlone callee arguments) = arguments_code p.scratch at arguments ++ ops.Tick ∷ callee_code callee ∷ []
  statement_code p at (erased.Print number) = expression_code p.scratch at number ++ ops.Print ∷ []
  statement_code p at (erased.PutByte number) = expression_code p.scratch at number ++ ops.PutByte ∷ []
  statement_code p at (erased.Block inner) = statements_code p at inner
  statement_code p at (erased.If condition consequent alternative) =
      let inside = at + expression_size condition + 1 in
      let other = inside + statement_size consequent + 1 in
      expression_code p.scratch at condition
      ++ ops.JumpIfZero other
      ∷ (statement_code p inside consequent ++ ops.Jump (other + statement_size alternative) ∷ statement_code p other alternative)
  -- The condition stands behind the body and the step, and is where the loop begins. Each turn begins with a tick. `break` and
  -- `continue` in the step are those of the loop around it.
  statement_code p at (erased.Loop condition body step) =
      let inside = at + 2 in
      let next = inside + statement_size body in
      let test = next + statement_size step in
      let end = test + expression_size condition + 2 in
      let q : Places = record { scratch = p.scratch; on_break = end; on_continue = next } in
      ops.Jump test
      ∷ ops.Tick
      ∷ (statement_code q inside body
      ++ (statement_code p next step ++ (expression_code p.scratch test condition ++ ops.JumpIfZero end ∷ ops.Jump (at + 1) ∷ [])))
  statement_code p at (erased.Return value) = expression_code p.scratch at value ++ ops.Return ∷ []
  statement_code p at erased.ReturnNothing = ops.ReturnNothing ∷ []
  statement_code p at erased.Break = ops.Jump p.on_break ∷ []
  statement_code p at erased.Continue = ops.Jump p.on_continue ∷ []

  pub statements_code : Places → ℕ → erased.Statements → List Op
  statements_code p at erased.NoMore = []
  statements_code p at (erased.Then first others) = statement_code p at first ++ statements_code p (at + statement_size first) others

-- ---- functions and the whole program

-- a body that runs to its end gives 0 or null back, or nothing
abbrev pub ending_code : Option CType → List Op
ending_code None = ops.ReturnNothing ∷ []
ending_code (Some type) = ops.Const (pos 0) ∷ ops.Return ∷ []

abbrev pub kind_of : CType → WordKind
kind_of Int = kinds.Int
kind_of Char = kinds.Char
kind_of (Struct number) = kinds.Pointer
kind_of (Pointer mode kind target) = kinds.Pointer

abbrev pub result_kind : Option CType → WordKind
result_kind None = kinds.Void
result_kind (Some type) = kind_of type

-- outside of loops, `break` and `continue` lead to the end of the body
abbrev pub body_places : erased.Function → Places
body_places f = record { scratch = length f.locals; on_break = statements_size f.body; on_continue = statements_size f.body }

abbrev pub function_ops : erased.Function → List Op
function_ops f = statements_code (body_places f) 0 f.body ++ ending_code f.result
