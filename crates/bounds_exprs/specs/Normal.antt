-- Normal bounds: a base, and two ends that are terms counted in elements.
use Rattle.std.specs.Prelude.{ℕ, ◌^◌, ℤ, pos, neg_ℤ, ◌≡◌, ◌≢◌, Bool, true, false, cond, ◌&&◌, ◌==◌, Option, None, Some, is_none, Result, Ok, Err}
use Rattle.std.specs.Int.{int_div_euclid}
use Rattle.ckc_text.specs.declared.code.Code.TheVariants.{E16}
use Rattle.ckc_text.specs.declared.fault.SourceFault.{SourceFault}
use Rattle.ckc_text.specs.declared.place.Span.{Span}
use Rattle.bounds_exprs.specs.declared.term.Term.{Term}
use Rattle.bounds_exprs.specs.declared.term.Bounds.{Bounds}
use Rattle.bounds_exprs.specs.declared.form as code
use Rattle.bounds_exprs.specs.declared.form.BoundsHow.TheVariants as hows
use Rattle.bounds_exprs.specs.Terms.{is_within, within_limit}
use Rattle.bounds_exprs.specs.Sums.{Sum, Number, Variable, Pointer, Size, Plus, Minus, Times, Other, sum, term_of}

-- what is written for bounds
pub data How : Type 0 where
  Count : (elements : Sum) → How
  ByteCount : (bytes : Sum) → How
  Pair : (lo hi : Sum) → How
  Unknown : How

-- what a value of the code's type stands for
abbrev pub how : code.BoundsHow.BoundsHow → How
how (hows.Count elements) = Count (sum elements)
how (hows.ByteCount bytes) = ByteCount (sum bytes)
how (hows.Pair lo hi) = Pair (sum lo) (sum hi)
how hows.Unknown = Unknown

-- a term without a variable
abbrev pub constant : ℤ → Term
constant z = record { var = None; plus = z }

-- the sum is the size of the element
abbrev pub is_element_size : Sum → Bool
is_element_size (Number value) = false
is_element_size (Variable var) = false
is_element_size (Pointer var) = false
is_element_size (Size bytes element) = element
is_element_size (Plus left right) = false
is_element_size (Minus left right) = false
is_element_size (Times left right) = false
is_element_size Other = false

-- the elements in so many bytes: bytes are divided, rounding down, where they are a constant, and are elements where those have one byte
abbrev pub elements_in : ℕ → Option Term → Option Term
elements_in size None = None
elements_in size (Some bytes) = cond (is_none bytes.var) (Some (constant (int_div_euclid bytes.plus (pos size)))) (cond (size == 1) (Some bytes) None)

-- the elements in a sum of bytes: a factor beside the element's size counts elements
abbrev pub elements_of : ℕ → Sum → Option Term
elements_of size (Number value) = elements_in size (term_of (Number value))
elements_of size (Variable var) = elements_in size (term_of (Variable var))
elements_of size (Pointer var) = None
elements_of size (Size bytes element) = elements_in size (term_of (Size bytes element))
elements_of size (Plus left right) = elements_in size (term_of (Plus left right))
elements_of size (Minus left right) = elements_in size (term_of (Minus left right))
elements_of size (Times left right) =
    cond (is_element_size right) (term_of left) (cond (is_element_size left) (term_of right) (elements_in size (term_of (Times left right))))
elements_of size Other = None

-- an end of a pair: a pointer variable, or the pointer that the bounds are for, and how far from it
pub record End : Type 0 where
  pub pointer : Option ℕ
  pub offset : Term

-- the pointer that a sum is
abbrev pub pointer_of : Sum → Option (Option ℕ)
pointer_of (Number value) = None
pointer_of (Variable var) = None
pointer_of (Pointer var) = Some var
pointer_of (Size bytes element) = None
pointer_of (Plus left right) = None
pointer_of (Minus left right) = None
pointer_of (Times left right) = None
pointer_of Other = None

-- the negative of a constant
abbrev pub negated : Option Term → Option Term
negated None = None
negated (Some t) = cond (is_none t.var) (within_limit None (neg_ℤ t.plus)) None

-- the end, where there are a pointer and a term
abbrev pub end_at : Option (Option ℕ) → Option Term → Option End
end_at None offset = None
end_at (Some pointer) None = None
end_at (Some pointer) (Some offset) = Some (record { pointer = pointer; offset = offset })

-- an end is written `b`, `b + e` or `b - e`, with a constant e in the last
abbrev pub end_of : Sum → Option End
end_of (Number value) = None
end_of (Variable var) = None
end_of (Pointer var) = Some (record { pointer = var; offset = constant (pos 0) })
end_of (Size bytes element) = None
end_of (Plus left right) = end_at (pointer_of left) (term_of right)
end_of (Minus left right) = end_at (pointer_of left) (negated (term_of right))
end_of (Times left right) = None
end_of Other = None

-- the two are the same variable, or none
abbrev pub is_same : Option ℕ → Option ℕ → Bool
is_same None None = true
is_same None (Some y) = false
is_same (Some x) None = false
is_same (Some x) (Some y) = x == y

-- the bounds, where both constants lie within -2^31 to 2^31
abbrev pub bounds_within : Option ℕ → Term → Term → Option Bounds
bounds_within base lo hi = cond (is_within (2 ^ 31) lo.plus && is_within (2 ^ 31) hi.plus) (Some (record { base = base; lo = lo; hi = hi })) None

-- bounds from the pointer on
abbrev pub counted : Option Term → Option Bounds
counted None = None
counted (Some elements) = bounds_within None (constant (pos 0)) elements

-- bounds between two ends from one pointer
abbrev pub paired : Option End → Option End → Option Bounds
paired None hi = None
paired (Some lo) None = None
paired (Some lo) (Some hi) = cond (is_same lo.pointer hi.pointer) (bounds_within lo.pointer lo.offset hi.offset) None

-- The normal bounds, where there are any. An element whose size is 0 is the struct that is being declared: its bytes
-- can't be counted.
abbrev pub bounds_of : How → ℕ → Option Bounds
bounds_of (Count elements) size = counted (term_of elements)
bounds_of (ByteCount bytes) size = cond (size == 0) None (counted (elements_of size bytes))
bounds_of (Pair lo hi) size = paired (end_of lo) (end_of hi)
bounds_of Unknown size = None

-- what `normal` answers: bounds, none where they are written as unknown, or E16 where what is written has none
abbrev pub NormalAnswers : How → ℕ → Span → Result (Option Bounds) SourceFault → Type 0
NormalAnswers how size span (Ok None) = how ≡ Unknown
NormalAnswers how size span (Ok (Some bounds)) = bounds_of how size ≡ Some bounds
NormalAnswers how size span (Err fault) = (how ≢ Unknown) × (bounds_of how size ≡ None) × (fault ≡ record { code = E16; span = span })
