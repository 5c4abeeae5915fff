-- What stands for the bounds of parameters at a call, and which declarations agree.
use Rattle.std.specs.Prelude.{◌≡◌, ℕ, true, false, [], ◌∷◌, Some, None, pos, negsuc}
use Rattle.std.proofs.Common.{ℤ}
use Rattle.bounds_exprs.specs.declared.term.Term.{Term}
use Rattle.bounds_exprs.specs.declared.term.Bounds.{Bounds}
use Rattle.region_typing_rules.specs.Scopes.{WrittenBounds}
use Rattle.region_typing_rules.specs.Calls.{at_call, result_at}
use Rattle.region_typing_rules.specs.Items.{all_same_written}

abbrev variable : ℕ → ℤ → Term
variable x plus = record { var = Some x; plus = plus }

abbrev constant : ℤ → Term
constant plus = record { var = None; plus = plus }

abbrev up_to : Term → Bounds
up_to hi = record { base = None; lo = constant (pos 0); hi = hi }

-- ---- calls

-- 0 to n - 1, where x + 3 stands for n, is 0 to x + 2
abbrev pub one_term : Type 0
one_term = at_call (Some (variable 5 (pos 3)) ∷ []) (None ∷ []) (up_to (variable 0 (negsuc 0))) ≡ Some (up_to (variable 5 (pos 2)))

-- from n to m, where m stands for n and n for m, is from m to n
abbrev pub exchanged : Type 0
exchanged =
    at_call (Some (variable 1 (pos 0)) ∷ Some (variable 0 (pos 0)) ∷ []) (None ∷ None ∷ [])
    (record { base = None; lo = variable 0 (pos 0); hi = variable 1 (pos 0) })
    ≡ Some (record { base = None; lo = variable 1 (pos 0); hi = variable 0 (pos 0) })

-- bounds from a parameter are those from the local pointer that stands for it
abbrev pub from_pointer : Type 0
from_pointer = at_call (None ∷ []) (Some 7 ∷ []) (record { base = Some 0; lo = constant (pos 1); hi = constant (pos 4) })
    ≡ Some (record { base = Some 7; lo = constant (pos 1); hi = constant (pos 4) })

-- there are none where what they name has no term, or counts from something that isn't a local pointer
abbrev pub without_term : Type 0
without_term = at_call (None ∷ []) (None ∷ []) (up_to (variable 0 (pos 0))) ≡ None

abbrev pub without_pointer : Type 0
without_pointer = at_call (None ∷ []) (None ∷ []) (record { base = Some 0; lo = constant (pos 0); hi = constant (pos 1) }) ≡ None

-- 0 to n of a result, where x + 3 stands for n, and none where nothing does
abbrev pub result : Type 0
result =
    (result_at (Some (variable 5 (pos 3)) ∷ []) (Some (up_to (variable 0 (pos 0)))) ≡ Some (up_to (variable 5 (pos 3))))
    × (result_at (None ∷ []) (Some (up_to (variable 0 (pos 0)))) ≡ None)
    × (result_at (None ∷ []) (Some (up_to (constant (pos 2)))) ≡ Some (up_to (constant (pos 2))))

-- ---- declarations

abbrev three : WrittenBounds
three = Some (Some (up_to (constant (pos 3))))

-- the same bounds agree, and unknown ones with unknown ones
abbrev pub same : Type 0
same = all_same_written (three ∷ Some None ∷ None ∷ []) (three ∷ Some None ∷ None ∷ []) ≡ true

-- others don't, nor do bounds with none, unknown ones with none, and more with fewer
abbrev pub other : Type 0
other = all_same_written (three ∷ []) (Some (Some (up_to (constant (pos 4)))) ∷ []) ≡ false

abbrev pub none : Type 0
none = all_same_written (three ∷ []) (None ∷ []) ≡ false

abbrev pub unknown : Type 0
unknown = all_same_written (Some None ∷ []) (None ∷ []) ≡ false
