-- Worked examples of closed tables.
use Rattle.std.specs.Prelude.{◌+◌, ◌^◌, ◌≡◌, ℤ, pos, negsuc, true, false, None, Some}
use Rattle.subsumption.specs.ClosedTables.{ClosedTable, Contradiction, no_facts, with_fact, without, shifted, joined, entails_fact, entails_terms}
use Rattle.subsumption.specs.Graphs.{fact_at}

-- x0 + 1 <= x1 and x1 + 2 <= x2
abbrev pub chain : ClosedTable
chain = with_fact 3 (fact_at (Some 1) (Some 2) (negsuc 1)) (with_fact 3 (fact_at (Some 0) (Some 1) (negsuc 0)) (no_facts 3))

-- then x0 + 3 <= x2, and not x0 + 4 <= x2; the same is known once x1 isn't
abbrev pub ChainsEntail : Type 0
ChainsEntail = (entails_terms (record { var = Some 0; plus = pos 3 }) (record { var = Some 2; plus = pos 0 }) chain ≡ true)
    × (entails_terms (record { var = Some 0; plus = pos 4 }) (record { var = Some 2; plus = pos 0 }) chain ≡ false)
    × (entails_terms (record { var = Some 0; plus = pos 3 }) (record { var = Some 2; plus = pos 0 }) (without 3 1 chain) ≡ true)
    × (entails_terms (record { var = Some 0; plus = pos 4 }) (record { var = Some 2; plus = pos 0 }) (without 3 1 chain) ≡ false)
    × (entails_terms (record { var = Some 0; plus = pos 1 }) (record { var = Some 1; plus = pos 0 }) (without 3 1 chain) ≡ false)

-- x0 + 1 <= x0 is a contradiction, which entails all; it stays one, and a join with it leaves the other
abbrev pub ContradictionsEntailAll : Type 0
ContradictionsEntailAll = (with_fact 1 (fact_at (Some 0) (Some 0) (negsuc 0)) (no_facts 1) ≡ Contradiction)
    × (entails_terms (record { var = None; plus = pos 1 }) (record { var = None; plus = pos 0 }) Contradiction ≡ true)
    × (without 1 0 Contradiction ≡ Contradiction) × (shifted 1 0 (pos 1) Contradiction ≡ Contradiction)
    × (joined 3 chain Contradiction ≡ chain) × (joined 3 Contradiction chain ≡ chain)

-- x0 <= x1, and then x0 = x0 + 1: x0 - 1 <= x1, and not x0 <= x1
abbrev pub ShiftsMoveFacts : Type 0
ShiftsMoveFacts = let after = shifted 2 0 (pos 1) (with_fact 2 (fact_at (Some 0) (Some 1) (pos 0)) (no_facts 2)) in
    (entails_terms (record { var = Some 0; plus = negsuc 0 }) (record { var = Some 1; plus = pos 0 }) after ≡ true)
    × (entails_terms (record { var = Some 0; plus = pos 0 }) (record { var = Some 1; plus = pos 0 }) after ≡ false)

-- x0 <= c, of the variable 0 alone
abbrev at_most_constant : ℤ → ClosedTable
at_most_constant c = with_fact 1 (fact_at (Some 0) None c) (no_facts 1)

-- x0 <= 2^100 is kept, and -2^100 too; with one more or one less there are no facts
abbrev pub ConstantsAreLimited : Type 0
ConstantsAreLimited = (entails_fact (fact_at (Some 0) None (pos (2 ^ 100))) (at_most_constant (pos (2 ^ 100))) ≡ true)
    × (entails_fact (fact_at (Some 0) None (negsuc 1267650600228229401496703205375)) (at_most_constant (negsuc 1267650600228229401496703205375)) ≡ true)
    × (at_most_constant (pos (2 ^ 100 + 1)) ≡ no_facts 1)
    × (at_most_constant (negsuc (2 ^ 100)) ≡ no_facts 1)

-- x0 <= x1 on one way and x0 + 2 <= x1 on the other: x0 <= x1 is left
abbrev pub JoinsKeepTheWeaker : Type 0
JoinsKeepTheWeaker = let one = with_fact 2 (fact_at (Some 0) (Some 1) (pos 0)) (no_facts 2) in
    let other = with_fact 2 (fact_at (Some 0) (Some 1) (negsuc 1)) (no_facts 2) in
    (joined 2 one other ≡ one) × (joined 2 other one ≡ one) × (joined 2 one (no_facts 2) ≡ no_facts 2)
