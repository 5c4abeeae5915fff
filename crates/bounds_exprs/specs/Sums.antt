-- Sums in bounds as plain data, and what they come to over the whole numbers.
use Rattle.std.specs.Prelude.{ℕ, ℤ, pos, ◌+ℤ◌, ◌-ℤ◌, ◌*ℤ◌, Bool, true, false, cond, ◌&&◌, nat_lt, nat_le, List, [], ◌∷◌, ◌++◌, length, slice_get}
use Rattle.std.specs.Prelude.{Option, None, Some}
use Rattle.bounds_exprs.specs.declared.term.Term.{Term}
use Rattle.bounds_exprs.specs.declared.form as code
use Rattle.bounds_exprs.specs.declared.form.SumForm.TheVariants as forms
use Rattle.bounds_exprs.specs.Terms.{is_within, term_limit}

-- an expression in bounds
pub data Sum : Type 0 where
  Number : (value : ℤ) → Sum
  Variable : (var : ℕ) → Sum
  Pointer : (var : Option ℕ) → Sum
  Size : (bytes : ℕ) (element : Bool) → Sum
  Plus : (left right : Sum) → Sum
  Minus : (left right : Sum) → Sum
  Times : (left right : Sum) → Sum
  Other : Sum

-- the expression that a value of the code's type stands for
abbrev pub sum : code.SumForm.SumForm → Sum
sum (forms.Number value) = Number value
sum (forms.Variable var) = Variable var
sum (forms.Pointer var) = Pointer var
sum (forms.Size bytes element) = Size bytes element
sum (forms.Plus' p left q right) = Plus (sum left) (sum right)
sum (forms.Minus' p left q right) = Minus (sum left) (sum right)
sum (forms.Times' p left q right) = Times (sum left) (sum right)
sum forms.Other = Other

-- the number that it comes to where each variable is 0
abbrev pub constant_of : Sum → ℤ
constant_of (Number value) = value
constant_of (Variable var) = pos 0
constant_of (Pointer var) = pos 0
constant_of (Size bytes element) = pos bytes
constant_of (Plus left right) = constant_of left +ℤ constant_of right
constant_of (Minus left right) = constant_of left -ℤ constant_of right
constant_of (Times left right) = constant_of left *ℤ constant_of right
constant_of Other = pos 0

-- the `int` variables in it, in their order
abbrev pub variables_of : Sum → List ℕ
variables_of (Number value) = []
variables_of (Variable var) = var ∷ []
variables_of (Pointer var) = []
variables_of (Size bytes element) = []
variables_of (Plus left right) = variables_of left ++ variables_of right
variables_of (Minus left right) = variables_of left ++ variables_of right
variables_of (Times left right) = variables_of left ++ variables_of right
variables_of Other = []

-- no variable
abbrev pub is_none_of : List ℕ → Bool
is_none_of [] = true
is_none_of (x ∷ xs) = false

-- it has no variable
abbrev pub is_closed : Sum → Bool
is_closed s = is_none_of (variables_of s)

-- A sum is a term where it is made of numbers, sizes and at most one variable, which is only added to, and where each
-- sum in it comes to a number within the limit. The size of a struct that is being declared, 0, isn't known.
abbrev pub is_term : Sum → Bool
is_term (Number value) = is_within term_limit value
is_term (Variable var) = true
is_term (Pointer var) = false
is_term (Size bytes element) = nat_lt 0 bytes
is_term (Plus left right) =
    is_term left && is_term right && nat_le (length (variables_of left ++ variables_of right)) 1 && is_within term_limit (constant_of left +ℤ constant_of right)
is_term (Minus left right) = is_term left && is_term right && is_closed right && is_within term_limit (constant_of left -ℤ constant_of right)
is_term (Times left right) = is_term left && is_term right && is_closed left && is_closed right && is_within term_limit (constant_of left *ℤ constant_of right)
is_term Other = false

-- the term that a sum comes to
abbrev pub term_of : Sum → Option Term
term_of s = cond (is_term s) (Some (record { var = slice_get (variables_of s) 0; plus = constant_of s })) None
