-- With their checks, programs need as many words of the stack as before, and have at most twice as many nodes.
use Rattle.std.proofs.Common.{◌≡◌, ℕ, ◌+◌, ◌*◌, ◌≤◌, length, Bool, true, false, Option, Some, None, refl, arith}
use Rattle.ckc_core.specs.declared.program.PointerBounds.{PointerBounds}
use Rattle.ckc_core.specs.declared.program.Site.{Site}
use Rattle.check_insertion.specs.declared.erased.Reading.{Reading}
use Rattle.ckc_core.specs.Meaning.{bounds_of}
use Rattle.ckc_core.specs.Core as core
use Rattle.ckc_core.specs.Stacks as stacks
use Rattle.ckc_core.specs.Weights as weights
use Rattle.check_insertion.specs.Insert.{expression, arguments_of, place, index, size_of, within_of, store_end, end_of, up_to_of, cast_checks, statement, statements, function}
use Rattle.check_insertion.specs.Stacks.{expression_stack, arguments_stack, place_stack, index_stack, store_stack, update_stack, statement_stack, statements_stack, body_stack}
use Rattle.check_insertion.specs.Weights.{end_weight, expression_weight, arguments_weight, place_weight, statement_weight, statements_weight}

-- ---- words of the stack

mutual
  same_stack : (e : core.Expression) → expression_stack (expression e) ≡ stacks.expression_stack e
  same_stack (core.Number number) = refl
  same_stack core.Null = refl
  same_stack (core.Local local bounds) = refl
  same_stack (core.Load type p bounds) = same_place p
  same_stack (core.AddressOf p bounds) = same_place p
  same_stack (core.Negate operand site) = same_stack operand
  same_stack (core.Complement operand) = same_stack operand
  same_stack (core.Not operand) = same_stack operand
  same_stack (core.Arithmetic operator left right site) = rw (same_stack left, same_stack right) refl
  same_stack (core.Compare comparison left right) = rw (same_stack left, same_stack right) refl
  same_stack (core.Same left right) = rw (same_stack left, same_stack right) refl
  same_stack (core.AndAlso left right) = rw (same_stack left, same_stack right) refl
  same_stack (core.OrElse left right) = rw (same_stack left, same_stack right) refl
  same_stack (core.LowByte operand) = same_stack operand
  same_stack (core.Call callee arguments bounds) = rw (same_arguments arguments) refl
  same_stack core.NextInput = refl
  same_stack (core.Sum pointer direction number site bounds) = rw (same_stack pointer, same_stack number) refl
  same_stack (core.Order comparison left right site) = rw (same_stack left, same_stack right) refl
  same_stack (core.Allocate count element terminator bounds) = same_stack count
  same_stack (core.Length pointer site) = rw (same_stack pointer) refl
  same_stack (core.Cast pointer bounds) = rw (same_stack pointer) refl

  same_arguments : (es : core.Arguments) → arguments_stack (arguments_of es) ≡ stacks.arguments_stack es
  same_arguments core.Done = refl
  same_arguments (core.More first rest) = rw (same_stack first, same_arguments rest) refl

  same_place : (p : core.Place) → place_stack (place p) ≡ stacks.place_stack p
  same_place (core.Direct object offset) = refl
  same_place (core.Through pointer which offset site) = rw (same_stack pointer, same_index (size_of (bounds_of pointer)) which) refl

  same_index : (size : ℕ) (which : core.Index) → index_stack (index size which) ≡ stacks.index_stack which
  same_index size core.First = refl
  same_index size (core.Element number terminated) = rw (same_stack number) refl

same_store : (p : core.Place) (e : core.Expression) → store_stack (place p) (expression e) ≡ stacks.store_stack p e
same_store (core.Direct object offset) e = rw (same_stack e) refl
same_store (core.Through pointer core.First offset site) e = rw (same_stack pointer, same_stack e) refl
same_store (core.Through pointer (core.Element number terminated) offset site) e = rw (same_stack pointer, same_stack number, same_stack e) refl

same_element : (bounds : Option PointerBounds) (which : core.Index) (site : Site) (value : ℕ) → update_stack (store_end bounds which site) value ≡ stacks.element_stack bounds which value
same_element bounds core.First site value = refl
same_element bounds (core.Element number false) site value = refl
same_element None (core.Element number true) site value = refl
same_element (Some b) (core.Element number true) site value = refl

same_update : (p : core.Place) (value : ℕ) → update_stack (end_of p) value ≡ stacks.update_stack p value
same_update (core.Direct object offset) value = refl
same_update (core.Through pointer which offset site) value = same_element (bounds_of pointer) which site value

mutual
  same_statement : (x : core.Statement) → statement_stack (statement x) ≡ stacks.statement_stack x
  same_statement core.Nothing = refl
  same_statement (core.SetLocal local value) = same_stack value
  same_statement (core.Store type p value) = same_store p value
  same_statement (core.UpdateLocal char local operator value site) = rw (same_stack value) refl
  same_statement (core.Update type p operator value site) = rw (same_place p, same_stack value, same_update p (stacks.expression_stack value)) refl
  same_statement (core.Evaluate value) = same_stack value
  same_statement (core.CallAlone callee arguments) = same_arguments arguments
  same_statement (core.Print number) = same_stack number
  same_statement (core.PutByte number) = same_stack number
  same_statement (core.Block inner) = same_statements inner
  same_statement (core.If condition consequent alternative) = rw (same_stack condition, same_statement consequent, same_statement alternative) refl
  same_statement (core.Loop condition body step) = rw (same_stack condition, same_statement body, same_statement step) refl
  same_statement (core.Return value) = same_stack value
  same_statement core.ReturnNothing = refl
  same_statement core.Break = refl
  same_statement core.Continue = refl

  pub same_statements : (xs : core.Statements) → statements_stack (statements xs) ≡ stacks.statements_stack xs
  same_statements core.NoMore = refl
  same_statements (core.Then first others) = rw (same_statement first, same_statements others) refl

pub same_body : (f : core.Function) → body_stack (function f) ≡ stacks.body_stack f
same_body f = rw (same_statements f.body) refl

-- ---- nodes

one_within : (terminated : Bool) (bounds : Option PointerBounds) (site : Site) → length (within_of terminated bounds site) ≤ 1
one_within terminated None site = omega arith
one_within terminated (Some b) site = omega arith

one_end : (o : Option Reading) → end_weight o ≤ 1
one_end None = omega arith
one_end (Some r) = omega arith

one_up_to : (bounds : Option PointerBounds) (site : Site) → length (up_to_of bounds site) ≤ 1
one_up_to None site = omega arith
one_up_to (Some b) site = omega arith

one_cast : (old new : Option PointerBounds) → length (cast_checks old new) ≤ 1
one_cast old None = omega arith
one_cast None (Some new) = omega arith
one_cast (Some old) (Some new) = omega arith

mutual
  few_nodes : (e : core.Expression) → 1 + expression_weight (expression e) ≤ 2 * weights.expression_weight e
  few_nodes (core.Number number) = omega arith
  few_nodes core.Null = omega arith
  few_nodes (core.Local local bounds) = omega arith
  few_nodes (core.Load type p bounds) = omega (arith, few_in_place p)
  few_nodes (core.AddressOf p bounds) = few_in_place p
  few_nodes (core.Negate operand site) = omega (arith, few_nodes operand)
  few_nodes (core.Complement operand) = omega (arith, few_nodes operand)
  few_nodes (core.Not operand) = omega (arith, few_nodes operand)
  few_nodes (core.Arithmetic operator left right site) = omega (arith, few_nodes left, few_nodes right)
  few_nodes (core.Compare comparison left right) = omega (arith, few_nodes left, few_nodes right)
  few_nodes (core.Same left right) = omega (arith, few_nodes left, few_nodes right)
  few_nodes (core.AndAlso left right) = omega (arith, few_nodes left, few_nodes right)
  few_nodes (core.OrElse left right) = omega (arith, few_nodes left, few_nodes right)
  few_nodes (core.LowByte operand) = omega (arith, few_nodes operand)
  few_nodes (core.Call callee arguments bounds) = omega (arith, few_in_arguments arguments)
  few_nodes core.NextInput = omega arith
  few_nodes (core.Sum pointer direction number site bounds) = omega (arith, few_nodes pointer, few_nodes number, one_up_to (bounds_of pointer) site)
  few_nodes (core.Order comparison left right site) = omega (arith, few_nodes left, few_nodes right)
  few_nodes (core.Allocate count element terminator bounds) = omega (arith, few_nodes count)
  few_nodes (core.Length pointer site) = omega (arith, few_nodes pointer, one_up_to (bounds_of pointer) site)
  few_nodes (core.Cast pointer bounds) = omega (arith, few_nodes pointer, one_cast (bounds_of pointer) bounds)

  few_in_arguments : (es : core.Arguments) → arguments_weight (arguments_of es) ≤ 2 * weights.arguments_weight es
  few_in_arguments core.Done = omega arith
  few_in_arguments (core.More first rest) = omega (arith, few_nodes first, few_in_arguments rest)

  few_in_place : (p : core.Place) → 1 + place_weight (place p) ≤ 2 * weights.place_weight p
  few_in_place (core.Direct object offset) = omega arith
  few_in_place (core.Through pointer core.First offset site) = omega (arith, few_nodes pointer)
  few_in_place (core.Through pointer (core.Element number terminated) offset site) =
      omega (arith, few_nodes pointer, few_nodes number, one_within terminated (bounds_of pointer) site)

mutual
  few_in_statement : (x : core.Statement) → statement_weight (statement x) ≤ 2 * weights.statement_weight x
  few_in_statement core.Nothing = omega arith
  few_in_statement (core.SetLocal local value) = omega (arith, few_nodes value)
  few_in_statement (core.Store type p value) = omega (arith, few_in_place p, few_nodes value, one_end (end_of p))
  few_in_statement (core.UpdateLocal char local operator value site) = omega (arith, few_nodes value)
  few_in_statement (core.Update type p operator value site) = omega (arith, few_in_place p, few_nodes value, one_end (end_of p))
  few_in_statement (core.Evaluate value) = omega (arith, few_nodes value)
  few_in_statement (core.CallAlone callee arguments) = omega (arith, few_in_arguments arguments)
  few_in_statement (core.Print number) = omega (arith, few_nodes number)
  few_in_statement (core.PutByte number) = omega (arith, few_nodes number)
  few_in_statement (core.Block inner) = omega (arith, few_in_statements inner)
  few_in_statement (core.If condition consequent alternative) = omega (arith, few_nodes condition, few_in_statement consequent, few_in_statement alternative)
  few_in_statement (core.Loop condition body step) = omega (arith, few_nodes condition, few_in_statement body, few_in_statement step)
  few_in_statement (core.Return value) = omega (arith, few_nodes value)
  few_in_statement core.ReturnNothing = omega arith
  few_in_statement core.Break = omega arith
  few_in_statement core.Continue = omega arith

  pub few_in_statements : (xs : core.Statements) → statements_weight (statements xs) ≤ 2 * weights.statements_weight xs
  few_in_statements core.NoMore = omega arith
  few_in_statements (core.Then first others) = omega (arith, few_in_statement first, few_in_statements others)
