-- The names that have a meaning in every program, and their numbers.
use Rattle.std.specs.Prelude.{ℕ, bytes_eq, codes, List}
use Rattle.std.specs.List.{position_or_len}
use Rattle.ckc_names_rules.specs.declared.given.Given.{Given}

abbrev pub null : List ℕ
null = codes "NULL"

abbrev pub next_input : List ℕ
next_input = codes "next_input"

abbrev pub print_int : List ℕ
print_int = codes "print_int"

abbrev pub putchar : List ℕ
putchar = codes "putchar"

abbrev pub strlen : List ℕ
strlen = codes "strlen"

abbrev pub main : List ℕ
main = codes "main"

-- ---- numbers

-- the number of a name is its place in the list of names; a name that isn't there has that behind the last, as no other one has
abbrev pub number_in : List (List ℕ) → List ℕ → ℕ
number_in names name = position_or_len (bytes_eq name) names

-- the numbers of these names, whether a program says them or not
abbrev pub given_by : (List ℕ → ℕ) → Given
given_by of = record { null = of null; next_input = of next_input; print_int = of print_int; putchar = of putchar; strlen = of strlen; main = of main }

abbrev pub given_in : List (List ℕ) → Given
given_in names = given_by (number_in names)
