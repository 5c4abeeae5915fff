-- What is read off an expression of the core: the term that it is, its bounds, the local that it is, and what a condition tells.
use Rattle.std.specs.Prelude.{ℕ, ℤ, pos, neg_ℤ, ◌+ℤ◌, Bool, true, false, not, List, Option, Some, None, option_map, slice_get, is_none, is_some}
use Rattle.bounds_exprs.specs.declared.term.Term.{Term}
use Rattle.bounds_exprs.specs.declared.term.Bounds.{Bounds}
use Rattle.bounds_exprs.specs.Terms.{within_limit}
use Rattle.bounds_exprs.specs.Parts.{added, subtracted, multiplied}
use Rattle.bounds_exprs.specs.Changes.{moved_by}
use Rattle.bounds_flow.specs.declared.steps.How.{How}
use Rattle.bounds_flow.specs.declared.steps.How.TheVariants as hows
use Rattle.bounds_flow.specs.declared.steps.Test.TheVariants.{NotNull, Compare}
use Rattle.bounds_flow.specs.Flows.{Knowledge, variable, held_at, assumed, rejoined, widened}
use Rattle.pointer_modes.specs.declared.ctype.Mode.TheVariants as modes
use Rattle.pointer_modes.specs.declared.ctype.Kind.TheVariants as kinds
use Rattle.pointer_modes.specs.Types.{CType, Int, Pointer}
use Rattle.ckc_tree.specs.declared.expr.BinaryOperator.{BinaryOperator}
use Rattle.ckc_tree.specs.declared.expr.BinaryOperator.TheVariants as binary
use Rattle.act_words.specs.declared.operator.Operator.TheVariants as operators
use Rattle.act_words.specs.declared.operator.ArithmeticOperator.{ArithmeticOperator}
use Rattle.act_words.specs.declared.operator.ArithmeticOperator.TheVariants as arithmetics
use Rattle.act_words.specs.declared.operator.Comparison.{Comparison}
use Rattle.act_words.specs.declared.operator.Comparison.TheVariants as comparisons
use Rattle.ckc_core.specs.declared.program.Direction.{Direction}
use Rattle.ckc_core.specs.declared.program.Direction.TheVariants as directions
use Rattle.ckc_core.specs.declared.program.PointerBounds.{PointerBounds}
use Rattle.ckc_core.specs.Core as core
use Rattle.ckc_core.specs.Meaning.{bounds_of}
use Rattle.region_typing_rules.specs.Verdicts.{picked}

-- ---- terms

abbrev is_int : Option CType → Bool
is_int (Some Int) = true
is_int _ = false

abbrev pub is_pointer_type : Option CType → Bool
is_pointer_type (Some (Pointer mode kind target)) = true
is_pointer_type _ = false

-- a sum, a difference and a product of terms, where they are terms
abbrev combined : ArithmeticOperator → Option Term → Option Term → Option Term
combined arithmetics.Add a b = added a b
combined arithmetics.Subtract a b = subtracted a b
combined arithmetics.Multiply a b = multiplied a b
combined arithmetics.Divide a b = None
combined arithmetics.Remainder a b = None
combined arithmetics.ShiftLeft a b = None
combined arithmetics.ShiftRight a b = None

-- the term of a number, where the locals have these types: of an `int` local, of a constant, and of what is put together from these
abbrev pub term : List CType → core.Expression → Option Term
term types (core.Number number) = within_limit None number
term types (core.Local local bounds) = picked (is_int (slice_get types local)) (Some (variable local)) None
term types (core.Arithmetic (operators.Arithmetic operator) left right site) = combined operator (term types left) (term types right)
term types (core.Arithmetic (operators.Bitwise operator) left right site) = None
term types core.Null = None
term types (core.Load type place bounds) = None
term types (core.AddressOf place bounds) = None
term types (core.Negate operand site) = None
term types (core.Complement operand) = None
term types (core.Not operand) = None
term types (core.Compare comparison left right) = None
term types (core.Same left right) = None
term types (core.AndAlso left right) = None
term types (core.OrElse left right) = None
term types (core.LowByte operand) = None
term types (core.Call callee arguments bounds) = None
term types core.NextInput = None
term types (core.Sum pointer direction number site bounds) = None
term types (core.Order comparison left right site) = None
term types (core.Allocate count element terminator bounds) = None
term types (core.Length pointer site) = None
term types (core.Cast pointer bounds) = None

-- the number of a term without a variable
abbrev pub constant_of : Option Term → Option ℤ
constant_of None = None
constant_of (Some t) = picked (is_none t.var) (Some t.plus) None

-- the number of a constant expression
abbrev pub constant : List CType → core.Expression → Option ℤ
constant types e = constant_of (term types e)

-- ---- bounds

-- by how much ends move against a pointer that is moved by a constant
abbrev pub against : Direction → ℤ → ℤ
against directions.Forward c = neg_ℤ c
against directions.Backward c = c

abbrev moved_ends : Direction → Option ℤ → Bounds → Option Bounds
moved_ends direction None b = None
moved_ends direction (Some c) b = moved_by (against direction c) b

-- the bounds of a sum: those of its pointer where they have a base; else they are moved by a constant, or there are none
abbrev pub sum_bounds : Direction → Option ℤ → Option Bounds → Option Bounds
sum_bounds direction c None = None
sum_bounds direction c (Some b) = picked (is_some b.base) (Some b) (moved_ends direction c b)

abbrev pub from_base : ℕ → Bounds → Bounds
from_base p b = picked (is_some b.base) b (record b { base = Some p })

-- the bounds of a pointer without a base, as its node has them
abbrev pub own_bounds : core.Expression → Option Bounds
own_bounds e = option_map (λ (b : PointerBounds). b.bounds) (bounds_of e)

abbrev pub with_base : Option Bounds → Option Bounds
with_base None = None
with_base (Some b) = picked (is_some b.base) (Some b) None

-- the bounds from a base that a pointer has beside those: a local pointer counts as its own base, a sum has those of its pointer, and a cast has
-- its own, where they have a base
abbrev pub based_bounds : core.Expression → Option Bounds
based_bounds (core.Local local bounds) = option_map (λ (b : PointerBounds). from_base local b.bounds) bounds
based_bounds (core.Sum pointer direction number site bounds) = based_bounds pointer
based_bounds (core.Cast pointer bounds) = with_base (option_map (λ (b : PointerBounds). b.bounds) bounds)
based_bounds _ = None

-- ---- locals

-- a local, and how many elements behind it
pub record Behind : Type 0 where
  pub local : ℕ
  pub elements : ℤ

abbrev pub toward : Direction → ℤ → ℤ
toward directions.Forward c = c
toward directions.Backward c = neg_ℤ c

-- where that many elements are a constant of a term
abbrev pub behind_by : ℕ → Option Term → Option Behind
behind_by local None = None
behind_by local (Some t) = Some (record { local = local; elements = t.plus })

abbrev pub further : Direction → Option ℤ → Option Behind → Option Behind
further direction None there = None
further direction (Some c) None = None
further direction (Some c) (Some b) = behind_by b.local (within_limit None (b.elements +ℤ toward direction c))

-- the local pointer that an expression is, plus a constant
abbrev pub behind_local : List CType → core.Expression → Option Behind
behind_local types (core.Local local bounds) =
    picked (is_pointer_type (slice_get types local)) (Some (record { local = local; elements = pos 0 })) None
behind_local types (core.Sum pointer direction number site bounds) = further direction (constant types number) (behind_local types pointer)
behind_local types _ = None

-- the local pointer that an expression is
abbrev pub pointer_local : List CType → core.Expression → Option ℕ
pointer_local types (core.Local local bounds) = picked (is_pointer_type (slice_get types local)) (Some local) None
pointer_local types _ = None

abbrev pub known_at : Knowledge → Option ℕ → Bool
known_at f None = false
known_at f (Some local) = (held_at f.held local).known

-- a pointer that isn't null: a place, or a local of which that is known
abbrev pub is_not_null : List CType → Knowledge → core.Expression → Bool
is_not_null types f (core.AddressOf place bounds) = true
is_not_null types f e = known_at f (pointer_local types e)

-- ---- conditions

abbrev how : Comparison → How
how comparisons.Equal = hows.Eq
how comparisons.NotEqual = hows.Ne
how comparisons.Less = hows.Lt
how comparisons.LessEqual = hows.Le
how comparisons.Greater = hows.Gt
how comparisons.GreaterEqual = hows.Ge

abbrev pub compared : Comparison → Option Term → Option Term → Bool → Knowledge → Knowledge
compared comparison None b truth f = f
compared comparison (Some a) None truth f = f
compared comparison (Some a) (Some b) truth f = assumed (Compare (how comparison) a b) truth f

abbrev pub is_null : core.Expression → Bool
is_null core.Null = true
is_null _ = false

-- a pointer isn't null, or is
abbrev pub null_told : Option ℕ → Bool → Knowledge → Knowledge
null_told None truth f = f
null_told (Some local) truth f = assumed (NotNull local) truth f

-- two pointers are the same, or aren't
abbrev pub same_told : List CType → core.Expression → core.Expression → Bool → Knowledge → Knowledge
same_told types left right truth f =
    picked (is_null right) (null_told (pointer_local types left) (not truth) f)
    (picked (is_null left) (null_told (pointer_local types right) (not truth) f) f)

-- a local that is a checked null-terminated pointer
abbrev pub is_ended_local : Option CType → Bool
is_ended_local (Some (Pointer modes.Checked kinds.Nt target)) = true
is_ended_local _ = false

-- the element at an index of a local isn't zero
abbrev pub element_told : Bool → ℕ → Option Term → Knowledge → Knowledge
element_told false local index f = f
element_told true local None f = f
element_told true local (Some index) f = widened local index f

-- the same of what stands at a number of elements behind a pointer: `p[e]` and `*p`, and `*(p + e)`
abbrev pub elements_told : List CType → (pointer number : core.Expression) → Knowledge → Knowledge
elements_told types (core.Local local bounds) number f = element_told (is_ended_local (slice_get types local)) local (term types number) f
elements_told types (core.Sum (core.Local local bounds) directions.Forward elements site own) (core.Number (pos ℕ.zero)) f =
    element_told (is_ended_local (slice_get types local)) local (term types elements) f
elements_told types pointer number f = f

-- what stands at a place isn't zero
abbrev pub place_told : List CType → core.Place → Knowledge → Knowledge
place_told types (core.Through pointer (core.Element number true) offset site) f = elements_told types pointer number f
place_told types _ f = f

-- what is known behind a condition that came out so
abbrev pub told : List CType → core.Expression → Bool → Knowledge → Knowledge
told types (core.AndAlso left right) true f = told types right true (told types left true f)
told types (core.AndAlso left right) false f = rejoined f (told types left false f) (told types right false (told types left true f))
told types (core.OrElse left right) true f = rejoined f (told types left true f) (told types right true (told types left false f))
told types (core.OrElse left right) false f = told types right false (told types left false f)
told types (core.Not operand) truth f = told types operand (not truth) f
told types (core.Compare comparison left right) truth f = compared comparison (term types left) (term types right) truth f
told types (core.Same left right) truth f = same_told types left right truth f
told types (core.Load type place bounds) true f = place_told types place f
told types (core.Load type place bounds) false f = f
told types (core.Local local bounds) truth f = null_told (pointer_local types (core.Local local bounds)) truth f
told types _ truth f = f

-- what is known at the right operand of an operator, by its left one: that of `&&` and that of `||` are worked out where the left one told
abbrev pub left_told : BinaryOperator → List CType → core.Expression → Knowledge → Knowledge
left_told binary.Or types value f = told types value false f
left_told binary.And types value f = told types value true f
left_told binary.BitOr types value f = f
left_told binary.BitXor types value f = f
left_told binary.BitAnd types value f = f
left_told binary.Equal types value f = f
left_told binary.NotEqual types value f = f
left_told binary.Less types value f = f
left_told binary.LessEqual types value f = f
left_told binary.Greater types value f = f
left_told binary.GreaterEqual types value f = f
left_told binary.ShiftLeft types value f = f
left_told binary.ShiftRight types value f = f
left_told binary.Add types value f = f
left_told binary.Subtract types value f = f
left_told binary.Multiply types value f = f
left_told binary.Divide types value f = f
left_told binary.Remainder types value f = f
