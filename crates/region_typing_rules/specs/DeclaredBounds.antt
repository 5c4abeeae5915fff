-- The bounds that are declared for a local: what is written, and the normal bounds that it comes to.
use Rattle.std.specs.Prelude.{ℕ, ◌&&◌, ◌==◌, nat_lt, pos, Option, None, Some, slice_get}
use Rattle.ckc_text.specs.declared.place.Span.{Span}
use Rattle.ckc_text.specs.declared.code.Code.TheVariants.{E16}
use Rattle.ckc_tree.specs.declared.expr.BinaryOperator.{BinaryOperator}
use Rattle.ckc_tree.specs.declared.expr.BinaryOperator.TheVariants as binary
use Rattle.ckc_tree.specs.Expressions as e
use Rattle.ckc_tree.specs.Expressions.{Expression, Expressions, bounds_span}
use Rattle.bounds_exprs.specs.declared.term.Bounds.{Bounds}
use Rattle.bounds_exprs.specs.Normal as normal
use Rattle.bounds_exprs.specs.Normal.{How, bounds_of, constant}
use Rattle.bounds_exprs.specs.Sums as sums
use Rattle.bounds_exprs.specs.Sums.{Sum}
use Rattle.pointer_modes.specs.declared.ctype.Mode.{Mode}
use Rattle.pointer_modes.specs.declared.ctype.Mode.TheVariants as modes
use Rattle.pointer_modes.specs.declared.ctype.Kind.{Kind}
use Rattle.pointer_modes.specs.declared.ctype.Kind.TheVariants as kinds
use Rattle.pointer_modes.specs.Types.{CType, Int, Char, Struct, Pointer}
use Rattle.pointer_modes.specs.Layout.{size_of}
use Rattle.ckc_core.specs.States.{same_mode, same_type}
use Rattle.region_typing_rules.specs.Verdicts.{Verdict, Passes, passing, needs, breaks, picked}
use Rattle.region_typing_rules.specs.Scopes.{Scope}
use Rattle.region_typing_rules.specs.Types.{type_named, is_number, is_row}
use Rattle.region_typing_rules.specs.Knowing.{local_number}

-- the pointer that bounds are for: its number among the locals, its mode, and its element
pub record Bounded : Type 0 where
  pub own : ℕ
  pub mode : Mode
  pub element : CType

-- ---- names

-- a local in bounds: an `int`, the pointer that they are for, or another one of the same mode and element
abbrev pub local_sum : Bounded → ℕ → Option CType → Sum
local_sum p local None = sums.Other
local_sum p local (Some Int) = sums.Variable local
local_sum p local (Some Char) = sums.Other
local_sum p local (Some (Struct number)) = sums.Other
local_sum p local (Some (Pointer mode kind target)) =
    picked (local == p.own) (sums.Pointer None)
    (picked (same_mode p.mode mode && same_type p.element target) (sums.Pointer (Some local)) sums.Other)

-- a name in bounds: a local, or `NULL`, which nothing else is called and which is the number 0; what stands at file level has no place there
abbrev pub name_sum : Scope → Bounded → ℕ → Option ℕ → Sum
name_sum s p name (Some local) = local_sum p local (slice_get s.locals local)
name_sum s p name None = picked (name == s.given.null) (sums.Number (pos 0)) sums.Other

-- ---- expressions

-- of the operators, only sums, differences and products count
abbrev pub operation_sum : BinaryOperator → Sum → Sum → Sum
operation_sum binary.Add left right = sums.Plus left right
operation_sum binary.Subtract left right = sums.Minus left right
operation_sum binary.Multiply left right = sums.Times left right
operation_sum binary.Or left right = sums.Other
operation_sum binary.And left right = sums.Other
operation_sum binary.BitOr left right = sums.Other
operation_sum binary.BitXor left right = sums.Other
operation_sum binary.BitAnd left right = sums.Other
operation_sum binary.Equal left right = sums.Other
operation_sum binary.NotEqual left right = sums.Other
operation_sum binary.Less left right = sums.Other
operation_sum binary.LessEqual left right = sums.Other
operation_sum binary.Greater left right = sums.Other
operation_sum binary.GreaterEqual left right = sums.Other
operation_sum binary.ShiftLeft left right = sums.Other
operation_sum binary.ShiftRight left right = sums.Other
operation_sum binary.Divide left right = sums.Other
operation_sum binary.Remainder left right = sums.Other

-- something that has no place in bounds, whose parts keep the rules
abbrev other_sum : {A : Type 0} → Verdict A → Verdict Sum
other_sum part = passing part (λ _. Passes sums.Other)

abbrev mutual
  -- an expression in bounds. Of what stands in it, only the types under `sizeof` have rules
  pub sum_written : Scope → Bounded → Expression → Verdict Sum
  sum_written s p (e.Number value span) = Passes (sums.Number (pos value))
  sum_written s p (e.Character value span) = Passes (sums.Number (pos value))
  sum_written s p (e.Text bytes span) = Passes sums.Other
  sum_written s p (e.Name name) = Passes (name_sum s p name.number (local_number s.visible name.number))
  sum_written s p (e.Call callee arguments span) = all_written s p arguments
  sum_written s p (e.SizeOf type span) = passing (type_named s type) (λ t. Passes (sums.Size (size_of s.structs t) (same_type p.element t)))
  sum_written s p (e.Cast word type operand span) = other_sum (sum_written s p operand)
  sum_written s p (e.BoundedCast word type operand bounds span) = passing (sum_written s p operand) (λ _. parts_written s p bounds)
  sum_written s p (e.Malloc word type size span) = other_sum (sum_written s p size)
  sum_written s p (e.Calloc word type count size span) = passing (sum_written s p count) (λ _. other_sum (sum_written s p size))
  sum_written s p (e.Index base index span) = passing (sum_written s p base) (λ _. other_sum (sum_written s p index))
  sum_written s p (e.Dot base member span) = other_sum (sum_written s p base)
  sum_written s p (e.Arrow base member span) = other_sum (sum_written s p base)
  sum_written s p (e.Unary operator operand span) = other_sum (sum_written s p operand)
  sum_written s p (e.Binary operator left right span) =
      passing (sum_written s p left) (λ a. passing (sum_written s p right) (λ b. Passes (operation_sum operator a b)))

  -- arguments, whose call has no place in bounds
  pub all_written : Scope → Bounded → Expressions → Verdict Sum
  all_written s p e.NoMore = Passes sums.Other
  all_written s p (e.Then first others) = passing (sum_written s p first) (λ _. all_written s p others)

  -- the bounds of a cast, which has no place in bounds
  pub parts_written : Scope → Bounded → e.Bounds → Verdict Sum
  parts_written s p (e.Count count span) = other_sum (sum_written s p count)
  parts_written s p (e.ByteCount count span) = other_sum (sum_written s p count)
  parts_written s p (e.Unknown span) = Passes sums.Other
  parts_written s p (e.Range low high span) = passing (sum_written s p low) (λ _. other_sum (sum_written s p high))

-- ---- bounds

abbrev pub how_written : Scope → Bounded → e.Bounds → Verdict How
how_written s p (e.Count count span) = passing (sum_written s p count) (λ n. Passes (normal.Count n))
how_written s p (e.ByteCount count span) = passing (sum_written s p count) (λ n. Passes (normal.ByteCount n))
how_written s p (e.Unknown span) = Passes normal.Unknown
how_written s p (e.Range low high span) = passing (sum_written s p low) (λ a. passing (sum_written s p high) (λ b. Passes (normal.Pair a b)))

abbrev normal_or_break : Option Bounds → Span → Verdict (Option Bounds)
normal_or_break None span = breaks E16 span
normal_or_break (Some b) span = Passes (Some b)

-- bounds-are-normal: E16. Bounds that are written as unknown are none
abbrev pub normal_bounds : How → (size : ℕ) → Span → Verdict (Option Bounds)
normal_bounds normal.Unknown size span = Passes None
normal_bounds (normal.Count n) size span = normal_or_break (bounds_of (normal.Count n) size) span
normal_bounds (normal.ByteCount n) size span = normal_or_break (bounds_of (normal.ByteCount n) size) span
normal_bounds (normal.Pair low high) size span = normal_or_break (bounds_of (normal.Pair low high) size) span

-- as many elements as a number, from the pointer on
abbrev pub row_of : ℕ → Bounds
row_of n = record { base = None; lo = constant (pos 0); hi = constant (pos n) }

-- the bounds that a pointer has where none are written: the end of a null-terminated one may be where it stands
abbrev pub unwritten_bounds : CType → Option Bounds
unwritten_bounds (Pointer mode kind target) = unwritten_of kind target
  where
    unwritten_of : Kind → CType → Option Bounds
    unwritten_of kinds.One t = None
    unwritten_of kinds.Array t = None
    unwritten_of kinds.Nt t = picked (is_number t) (Some (row_of 0)) None
unwritten_bounds Int = None
unwritten_bounds Char = None
unwritten_bounds (Struct number) = None

-- what bounds of a local of a type are for; those of one that is no pointer are refused
abbrev pub bounded_of : (own : ℕ) → CType → Bounded
bounded_of own (Pointer mode kind target) = record { own = own; mode = mode; element = target }
bounded_of own Int = record { own = own; mode = modes.Checked; element = Int }
bounded_of own Char = record { own = own; mode = modes.Checked; element = Char }
bounded_of own (Struct number) = record { own = own; mode = modes.Checked; element = Struct number }

-- bounds-on-pointer: only a pointer to an array has bounds, and to elements that have bytes, as all of a source have (E16, at the bounds)
abbrev pub declared_bounds : Scope → CType → (own : ℕ) → Option e.Bounds → Verdict (Option Bounds)
declared_bounds s t own None = Passes (unwritten_bounds t)
declared_bounds s t own (Some b) =
    passing (how_written s (bounded_of own t) b) (λ how.
    needs (is_row t && nat_lt 0 (size_of s.structs (bounded_of own t).element)) E16 (bounds_span b)
    (normal_bounds how (size_of s.structs (bounded_of own t).element) (bounds_span b)))
