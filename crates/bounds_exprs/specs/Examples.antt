-- Worked examples of normal bounds and of terms.
use Rattle.std.specs.Prelude.{◌+◌, ◌^◌, ◌≡◌, pos, negsuc, true, None, Some}
use Rattle.bounds_exprs.specs.Terms.{substituted}
use Rattle.bounds_exprs.specs.Sums.{Number, Variable, Pointer, Size, Plus, Minus, Times}
use Rattle.bounds_exprs.specs.Normal.{Count, ByteCount, Pair, bounds_of, constant}

-- `byte_count(10)` of elements of 4 bytes is `count(2)`
abbrev pub TenBytesAreTwo : Type 0
TenBytesAreTwo = bounds_of (ByteCount (Number (pos 10))) 4 ≡ bounds_of (Count (Number (pos 2))) 4

-- `count(2)` is from 0 to 2
abbrev pub TwoAreCounted : Type 0
TwoAreCounted = bounds_of (Count (Number (pos 2))) 4 ≡ Some (record { base = None; lo = constant (pos 0); hi = constant (pos 2) })

-- `byte_count(n * sizeof(T))` is `count(n)`
abbrev pub SizesCountElements : Type 0
SizesCountElements = bounds_of (ByteCount (Times (Variable 7) (Size 4 true))) 4 ≡ bounds_of (Count (Variable 7)) 4

-- `count(2 * n)` has no normal bounds
abbrev pub TwiceAVariableIsNone : Type 0
TwiceAVariableIsNone = bounds_of (Count (Times (Number (pos 2)) (Variable 7))) 4 ≡ None

-- `bounds(b, b + n - 1)` has none, and `bounds(b, b + (n - 1))` has some
abbrev pub EndsGoByTheTree : Type 0
EndsGoByTheTree = (bounds_of (Pair (Pointer (Some 3)) (Minus (Plus (Pointer (Some 3)) (Variable 7)) (Number (pos 1)))) 4 ≡ None)
    × (bounds_of (Pair (Pointer (Some 3)) (Plus (Pointer (Some 3)) (Minus (Variable 7) (Number (pos 1))))) 4
    ≡ bounds_of (Pair (Pointer (Some 3)) (Plus (Pointer (Some 3)) (Plus (Variable 7) (Minus (Number (pos 0)) (Number (pos 1)))))) 4)

-- a sum in a sum that is past 2^40 has no term, though the whole would be 0
abbrev pub PartsAreLimited : Type 0
PartsAreLimited = let large = Times (Number (pos (2 ^ 21))) (Number (pos (2 ^ 20))) in bounds_of (Count (Minus large large)) 4 ≡ None

-- a constant of 2^40 and one more is past the limit
abbrev pub PastTheLimitIsNone : Type 0
PastTheLimitIsNone = (substituted (record { var = Some 7; plus = pos (2 ^ 40) }) 7 (record { var = None; plus = pos 1 }) ≡ None)
    × (substituted (record { var = Some 7; plus = pos (2 ^ 40) }) 8 (record { var = None; plus = pos 1 }) ≡ Some (record { var = Some 7; plus = pos (2 ^ 40) }))

-- a constant may come to 2^40, and to -2^40, where it stood one short of it; one less than -2^40 is past the limit
abbrev pub LimitsAreReached : Type 0
LimitsAreReached = (substituted (record { var = Some 7; plus = pos 1099511627775 }) 7 (record { var = None; plus = pos 1 }) ≡ Some
    (record { var = None; plus = pos (2 ^ 40) }))
    × (substituted (record { var = Some 7; plus = negsuc 1099511627774 }) 7 (record { var = None; plus = negsuc 0 }) ≡ Some
    (record { var = None; plus = negsuc 1099511627775 }))
    × (substituted (record { var = Some 7; plus = negsuc 1099511627775 }) 7 (record { var = None; plus = negsuc 0 }) ≡ None)

-- an end may stand 2^31 behind the pointer or before it, and no further
abbrev pub EndsAreLimited : Type 0
EndsAreLimited = (bounds_of (Count (Number (pos (2 ^ 31)))) 4 ≡ Some (record { base = None; lo = constant (pos 0); hi = constant (pos (2 ^ 31)) }))
    × (bounds_of (Count (Number (pos (2 ^ 31 + 1)))) 4 ≡ None)
    × (bounds_of (Pair (Minus (Pointer (Some 3)) (Number (pos (2 ^ 31)))) (Pointer (Some 3))) 4 ≡ Some
    (record { base = Some 3; lo = constant (negsuc 2147483647); hi = constant (pos 0) }))
    × (bounds_of (Pair (Minus (Pointer (Some 3)) (Number (pos (2 ^ 31 + 1)))) (Pointer (Some 3))) 4 ≡ None)
