-- Worked examples of terms of expressions, changes of bounds and names.
use Rattle.std.specs.Prelude.{◌≡◌, ◌^◌, ◌+◌, pos, negsuc, true, false, None, Some, [], ◌∷◌}
use Rattle.bounds_exprs.specs.declared.term.Term.{Term}
use Rattle.bounds_exprs.specs.declared.term.Bounds.{Bounds}
use Rattle.bounds_exprs.specs.declared.expression.TermForm.TheVariants as forms
use Rattle.bounds_exprs.specs.declared.names.NameForm.TheVariants as names
use Rattle.bounds_exprs.specs.Normal.{constant}
use Rattle.bounds_exprs.specs.Steps.{term_at}
use Rattle.bounds_exprs.specs.Changes.{moved_by, is_named, moved_back, filled_in, ends_filled_in}
use Rattle.bounds_exprs.specs.Names.{sum_of}
use Rattle.bounds_exprs.specs.Sums.{Variable, Pointer, Other}

-- the variable 0 or 1 plus a constant; and the bounds `count` of the variable 0
abbrev n_plus : Term
n_plus = record { var = Some 0; plus = pos 2 }

abbrev m : Term
m = record { var = Some 1; plus = pos 0 }

abbrev count_n : Bounds
count_n = record { base = None; lo = constant (pos 0); hi = record { var = Some 0; plus = pos 0 } }

-- 2 * 3 * 4 is the constant 24
abbrev pub ProductsAreConstants : Type 0
ProductsAreConstants = term_at
    (forms.Times (term_at (forms.Times (Some (constant (pos 2))) (Some (constant (pos 3))))) (Some (constant (pos 4)))) ≡ Some (constant (pos 24))

-- (n + 2) - 1, 1 + (n + 2); not 1 - (n + 2), (n + 2) + m, 2 * m
abbrev pub ConstantsAreAdded : Type 0
ConstantsAreAdded = (term_at (forms.Minus (Some n_plus) (Some (constant (pos 1)))) ≡ Some (record { var = Some 0; plus = pos 1 }))
    × (term_at (forms.Plus (Some (constant (pos 1))) (Some n_plus)) ≡ Some (record { var = Some 0; plus = pos 3 }))
    × (term_at (forms.Minus (Some (constant (pos 1))) (Some n_plus)) ≡ None)
    × (term_at (forms.Plus (Some n_plus) (Some m)) ≡ None)
    × (term_at (forms.Times (Some (constant (pos 2))) (Some m)) ≡ None)

-- n + 2^40 and 1 more is past the limit
abbrev pub SumsAreLimited : Type 0
SumsAreLimited = term_at (forms.Plus (Some (record { var = Some 0; plus = pos (2 ^ 40) })) (Some (constant (pos 1)))) ≡ None

-- the bounds of p + 1 where those of p are from 0 to n
abbrev pub EndsMove : Type 0
EndsMove = (moved_by (negsuc 0) count_n ≡ Some (record { base = None; lo = constant (negsuc 0); hi = record { var = Some 0; plus = negsuc 0 } }))
    × (moved_by (pos (2 ^ 40 + 1)) count_n ≡ None)

-- from 0 to n, and then n = n + 1: from 0 to n - 1
abbrev pub ShiftsMoveBack : Type 0
ShiftsMoveBack = (moved_back 0 (pos 1) count_n ≡ Some (record { base = None; lo = constant (pos 0); hi = record { var = Some 0; plus = negsuc 0 } }))
    × (moved_back 1 (pos 1) count_n ≡ Some count_n)
    × (is_named 0 count_n ≡ true) × (is_named 1 count_n ≡ false)

-- m for the first and n + 2 for the second, at once; a third one isn't there
abbrev pub TermsAreFilledIn : Type 0
TermsAreFilledIn = let terms = Some m ∷ Some n_plus ∷ None ∷ [] in
    (ends_filled_in terms (record { base = None; lo = n_plus; hi = m })
    ≡ Some (record { base = None; lo = record { var = Some 1; plus = pos 2 }; hi = n_plus }))
    × (filled_in terms (record { var = Some 2; plus = pos 0 }) ≡ None)
    × (filled_in terms (record { var = Some 3; plus = pos 0 }) ≡ None)
    × (filled_in terms (constant (pos 5)) ≡ Some (constant (pos 5)))

-- what names are
abbrev pub NamesStandForSums : Type 0
NamesStandForSums = (sum_of (names.Int 7 true) ≡ Variable 7) × (sum_of (names.Int 7 false) ≡ Other)
    × (sum_of (names.Pointer 3 true true) ≡ Pointer (Some 3))
    × (sum_of (names.Pointer 3 true false) ≡ Other) × (sum_of names.Itself ≡ Pointer None) × (sum_of names.Other ≡ Other)
