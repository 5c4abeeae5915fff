-- Least constants, where there are any.
use Rattle.std.specs.Prelude.{◌^◌, ℤ, unsigned_abs, Bool, true, cond, nat_le, Option, None, Some}
use Rattle.std.specs.Int.Signed.{le_z}

-- the larger of two constants, where there are both
abbrev pub longer_of : Option ℤ → Option ℤ → Option ℤ
longer_of None e = None
longer_of (Some d) None = None
longer_of (Some d) (Some e) = Some (cond (le_z d e) e d)

-- the constant isn't outside -2^100 to 2^100
abbrev pub is_near : Option ℤ → Bool
is_near None = true
is_near (Some d) = nat_le (unsigned_abs d) (2 ^ 100)
