-- The code of a part has few instructions, by how many nodes the part has.
use Rattle.std.proofs.Common.{ℕ, zero, suc, ◌+◌, ◌*◌, ◌^◌, ◌<◌, ◌≤◌, Bool, true, false, List, [], ◌∷◌, length, Option, Some, None, length-append, arith}
use Rattle.pointer_modes.specs.Types.{CType}
use Rattle.ckc_core.specs.declared.program.Direction.{Direction}
use Rattle.ckc_core.specs.declared.program.Direction.TheVariants as directions
use Rattle.check_insertion.specs.declared.erased.Check.{Check}
use Rattle.check_insertion.specs.declared.erased.Check.TheVariants as checks
use Rattle.check_insertion.specs.declared.erased.Reading.{Reading}
use Rattle.check_insertion.specs.Erased as erased
use Rattle.ckc_core.specs.Steps.{is_char}
use Rattle.check_insertion.specs.Weights.{expression_weight, arguments_weight, place_weight, index_weight, end_weight, statement_weight, statements_weight}
use Rattle.lowering.specs.Code.{Reach, Still, Onward, Back, reach_to, offset_size, number_size, check_size, checks_size, moved_size, through_size, index_size, byte_size, expression_size, arguments_size, place_size, before_value_size, behind_value_size, ended_size, update_size, statement_size, statements_size, statements_code, ending_code, body_places, function_ops}
use Rattle.lowering.specs.Correct.{IsFunction}
use Rattle.lowering.proofs.Sizes.{length_statements}

offset_short : (n : ℕ) → offset_size n ≤ 2
offset_short zero = omega arith
offset_short (suc n) = omega arith

number_short : (r : Reach) → number_size r ≤ 2
number_short (Still size) = omega arith
number_short (Onward size) = omega arith
number_short (Back size) = omega arith

check_short : (r : Reach) (c : Check) → check_size r c ≤ 9
check_short r (checks.NotNull site) = omega arith
check_short r (checks.Below x) = omega (arith, number_short r)
check_short r (checks.UpTo x) = omega (arith, number_short r)
check_short r (checks.Contains old new) = omega arith

checks_short : (r : Reach) (cs : List Check) → checks_size r cs ≤ 9 * length cs
checks_short r [] = omega arith
checks_short r (c ∷ cs) = omega (arith, check_short r c, checks_short r cs)

moved_short : (direction : Direction) → moved_size direction ≤ 3
moved_short directions.Forward = omega arith
moved_short directions.Backward = omega arith

through_short : (index : erased.Index) (offset : ℕ) (cs : List Check) → through_size index offset cs ≤ 9 * length cs + 5
through_short erased.First offset cs = omega (arith, checks_short (Still 1) cs, offset_short offset)
through_short (erased.Element number size) offset cs = omega (arith, checks_short (Onward size) cs, offset_short offset)

byte_short : (char : Bool) → byte_size char ≤ 1
byte_short true = omega arith
byte_short false = omega arith

mutual
  expression_short : (e : erased.Expression) → expression_size e ≤ 9 * expression_weight e
  expression_short (erased.Number z) = omega arith
  expression_short erased.Null = omega arith
  expression_short (erased.Local k) = omega arith
  expression_short (erased.Load type p) = omega (arith, place_short p)
  expression_short (erased.AddressOf p) = place_short p
  expression_short (erased.Negate operand site) = omega (arith, expression_short operand)
  expression_short (erased.Complement operand) = omega (arith, expression_short operand)
  expression_short (erased.Not operand) = omega (arith, expression_short operand)
  expression_short (erased.Arithmetic operator left right site) = omega (arith, expression_short left, expression_short right)
  expression_short (erased.Compare comparison left right) = omega (arith, expression_short left, expression_short right)
  expression_short (erased.Same left right) = omega (arith, expression_short left, expression_short right)
  expression_short (erased.AndAlso left right) = omega (arith, expression_short left, expression_short right)
  expression_short (erased.OrElse left right) = omega (arith, expression_short left, expression_short right)
  expression_short (erased.LowByte operand) = omega (arith, expression_short operand)
  expression_short (erased.Call callee arguments) = omega (arith, arguments_short arguments)
  expression_short erased.NextInput = omega arith
  expression_short (erased.Sum pointer direction number size cs) = omega (arith, expression_short pointer, expression_short number, checks_short (reach_to direction size) cs, moved_short direction)
  expression_short (erased.Order comparison left left_checks right right_checks) = omega (arith, expression_short left, expression_short right, checks_short (Still 1) left_checks, checks_short (Still 1) right_checks)
  expression_short (erased.Allocate count element terminator) = omega (arith, expression_short count)
  expression_short (erased.Length pointer size cs) = omega (arith, expression_short pointer, checks_short (Still size) cs)
  expression_short (erased.Cast pointer size cs) = omega (arith, expression_short pointer, checks_short (Still size) cs)

  arguments_short : (arguments : erased.Arguments) → arguments_size arguments ≤ 9 * arguments_weight arguments
  arguments_short erased.Done = omega arith
  arguments_short (erased.More first rest) = omega (arith, expression_short first, arguments_short rest)

  place_short : (p : erased.Place) → place_size p ≤ 9 * place_weight p
  place_short (erased.Direct object offset) = omega (arith, offset_short offset)
  place_short (erased.Through pointer index offset cs) = omega (arith, expression_short pointer, index_short index, through_short index offset cs)

  index_short : (index : erased.Index) → index_size index ≤ 9 * index_weight index
  index_short erased.First = omega arith
  index_short (erased.Element number size) = expression_short number

ended_short : (size offset : ℕ) (cs : List Check) → ended_size size offset cs ≤ 9 * length cs + 15
ended_short size offset cs = omega (arith, checks_short (Onward size) cs, offset_short offset)

around_short : (p : erased.Place) (end : Option Reading) → before_value_size p + behind_value_size p end ≤ 10 * place_weight p + 10 * end_weight end
around_short (erased.Direct object offset) end = omega (arith, offset_short offset)
around_short (erased.Through pointer index offset cs) None = omega (arith, expression_short pointer, index_short index, through_short index offset cs)
around_short (erased.Through pointer erased.First offset cs) (Some r) = omega (arith, expression_short pointer, through_short erased.First offset cs)
around_short (erased.Through pointer (erased.Element number size) offset cs) (Some r) = omega (arith, expression_short pointer, expression_short number, ended_short size offset cs)

update_short : (cell : erased.Place) (end : Option Reading) (value byte : ℕ) → byte ≤ 1 → update_size cell end value byte ≤ 10 + 10 * place_weight cell + 10 * end_weight end + value
update_short cell None value byte few = omega (arith, place_short cell, few)
update_short (erased.Direct object offset) (Some r) value byte few = omega (arith, place_short (erased.Direct object offset), few)
update_short (erased.Through pointer erased.First offset cs) (Some r) value byte few = omega (arith, place_short (erased.Through pointer erased.First offset cs), few)
update_short (erased.Through pointer (erased.Element number size) offset cs) (Some r) value byte few =
    omega (arith, expression_short pointer, expression_short number, through_short (erased.Element number size) offset cs, ended_short size offset [], few)

mutual
  statement_short : (x : erased.Statement) → statement_size x ≤ 10 * statement_weight x
  statement_short erased.Nothing = omega arith
  statement_short (erased.SetLocal local value) = omega (arith, expression_short value)
  statement_short (erased.Store type p value end) = omega (arith, around_short p end, expression_short value)
  statement_short (erased.UpdateLocal char local operator value site) = omega (arith, expression_short value, byte_short char)
  statement_short (erased.Update type p operator value site end) = omega (arith, update_short p end (expression_size value) (byte_size (is_char type)) (byte_short (is_char type)), expression_short value)
  statement_short (erased.Evaluate value) = omega (arith, expression_short value)
  statement_short (erased.CallAlone callee arguments) = omega (arith, arguments_short arguments)
  statement_short (erased.Print number) = omega (arith, expression_short number)
  statement_short (erased.PutByte number) = omega (arith, expression_short number)
  statement_short (erased.Block inner) = omega (arith, statements_short inner)
  statement_short (erased.If condition consequent alternative) = omega (arith, expression_short condition, statement_short consequent, statement_short alternative)
  statement_short (erased.Loop condition body step) = omega (arith, expression_short condition, statement_short body, statement_short step)
  statement_short (erased.Return value) = omega (arith, expression_short value)
  statement_short erased.ReturnNothing = omega arith
  statement_short erased.Break = omega arith
  statement_short erased.Continue = omega arith

  statements_short : (xs : erased.Statements) → statements_size xs ≤ 10 * statements_weight xs
  statements_short erased.NoMore = omega arith
  statements_short (erased.Then first others) = omega (arith, statement_short first, statements_short others)

-- a body of few nodes
pub body_short : (xs : erased.Statements) → statements_weight xs ≤ 2 ^ 26 → statements_size xs ≤ 2 ^ 31
body_short xs few = omega (arith, statements_short xs)

ending_short : (result : Option CType) → length (ending_code result) ≤ 2
ending_short None = omega arith
ending_short (Some type) = omega arith

pub code_short : (f : erased.Function) → IsFunction f → length (function_ops f) < 2 ^ 32
code_short f is =
    let code = statements_code (body_places f) 0 f.body in
    omega (arith, length-append code (ending_code f.result), length_statements (body_places f) 0 f.body, body_short f.body is.few_nodes, ending_short f.result)
