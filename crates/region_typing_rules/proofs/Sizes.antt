-- The bytes of a type are few.
use Rattle.std.proofs.Common.{◌≡◌, ℕ, ◌+◌, ◌-◌, ◌*◌, ◌≤◌, true, List, [], ◌∷◌, length, arith}
use Rattle.std.specs.Prelude.{pos}
use Rattle.std.proofs.Math.Nat.{div-mul-le_self}
use Rattle.std.proofs.lemmas.Bool.Decides.{nat_tests}
use Rattle.act_words.specs.Checks.{is_word_number}
use Rattle.pointer_modes.specs.Types.{CType, Int, Char, Struct, Pointer, Member, Structure, members_of}
use Rattle.pointer_modes.specs.Layout.{aligned_up, scalar_size, member_sizes, end_from, largest_of, size_of}

scalar_small : (t : CType) → scalar_size t ≤ 4
scalar_small Int = omega arith
scalar_small Char = omega arith
scalar_small (Struct n) = omega arith
scalar_small (Pointer m k t) = omega arith

aligned_small : (a n : ℕ) → aligned_up a n ≤ n + a
aligned_small a n = omega (arith, div-mul-le_self (n + (a - 1)) a)

largest_small : (members : List Member) → largest_of (member_sizes members) ≤ 4
largest_small [] = omega arith
largest_small (m ∷ members) = omega (arith, scalar_small m.ctype, largest_small members)

end_small : (members : List Member) (place : ℕ) → end_from place (member_sizes members) ≤ place + 8 * length members
end_small [] place = omega arith
end_small (m ∷ members) place =
    omega (arith, aligned_small (scalar_size m.ctype) place, scalar_small m.ctype, end_small members (aligned_up (scalar_size m.ctype) place + scalar_size m.ctype))

size_small : (structs : List Structure) (t : CType) → ((n : ℕ) → length (members_of structs n) ≤ 64) → size_of structs t ≤ 516
size_small structs Int few = omega arith
size_small structs Char few = omega arith
size_small structs (Pointer m k t) few = omega arith
size_small structs (Struct n) few =
    let members = members_of structs n in
    omega (arith, few n, end_small members 0, largest_small members, aligned_small (largest_of (member_sizes members)) (end_from 0 (member_sizes members)))

pub size_fits : (structs : List Structure) (t : CType) → ((n : ℕ) → length (members_of structs n) ≤ 64) → is_word_number (pos (size_of structs t)) ≡ true
size_fits structs t few = let small = size_small structs t few in grind (arith, nat_tests)
