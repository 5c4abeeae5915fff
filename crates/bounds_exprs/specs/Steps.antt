-- The term of an expression goes by the terms of its parts.
use Rattle.std.specs.Prelude.{pos, cond, nat_lt, ◌≡◌, Option, None, Some}
use Rattle.bounds_exprs.specs.declared.term.Term.{Term}
use Rattle.bounds_exprs.specs.declared.expression.TermForm.{TermForm}
use Rattle.bounds_exprs.specs.declared.expression.TermForm.TheVariants as forms
use Rattle.bounds_exprs.specs.Terms.{within_limit}
use Rattle.bounds_exprs.specs.Parts.{added, subtracted, multiplied}
use Rattle.bounds_exprs.specs.Sums.{Sum, Number, Variable, Pointer, Size, Plus, Minus, Times, Other, term_of}

-- The term, where there is one. The size of a struct that is being declared, 0, isn't known.
abbrev pub term_at : TermForm → Option Term
term_at (forms.Number value) = within_limit None value
term_at (forms.Size bytes) = cond (nat_lt 0 bytes) (Some (record { var = None; plus = pos bytes })) None
term_at (forms.Variable var) = Some (record { var = Some var; plus = pos 0 })
term_at (forms.Plus left right) = added left right
term_at (forms.Minus left right) = subtracted left right
term_at (forms.Times left right) = multiplied left right
term_at forms.Other = None

-- the term of a whole sum, from its parts up
abbrev pub term_by_parts : Sum → Option Term
term_by_parts (Number value) = term_at (forms.Number value)
term_by_parts (Variable var) = term_at (forms.Variable var)
term_by_parts (Pointer var) = term_at forms.Other
term_by_parts (Size bytes element) = term_at (forms.Size bytes)
term_by_parts (Plus left right) = term_at (forms.Plus (term_by_parts left) (term_by_parts right))
term_by_parts (Minus left right) = term_at (forms.Minus (term_by_parts left) (term_by_parts right))
term_by_parts (Times left right) = term_at (forms.Times (term_by_parts left) (term_by_parts right))
term_by_parts Other = term_at forms.Other

-- sums in bounds have the terms that they have as expressions
abbrev pub TermsAgree : Type 0
TermsAgree = (s : Sum) → term_by_parts s ≡ term_of s
