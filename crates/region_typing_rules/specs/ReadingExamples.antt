-- What is read off small expressions, where n and m are `int` locals, c is a `char` and p is a pointer to elements of 4 bytes.
use Rattle.std.specs.Prelude.{◌≡◌, pos, negsuc, Bool, true, false, List, [], ◌∷◌, Some, None, ℕ}
use Rattle.pointer_modes.specs.declared.ctype.Mode.TheVariants as modes
use Rattle.pointer_modes.specs.declared.ctype.Kind.TheVariants as kinds
use Rattle.pointer_modes.specs.Types.{CType, Int, Char, Pointer}
use Rattle.ckc_tree.specs.declared.expr.BinaryOperator.{BinaryOperator}
use Rattle.ckc_tree.specs.declared.expr.BinaryOperator.TheVariants as binary
use Rattle.act_words.specs.declared.operator.Operator.TheVariants as operators
use Rattle.act_words.specs.declared.operator.ArithmeticOperator.{ArithmeticOperator}
use Rattle.act_words.specs.declared.operator.ArithmeticOperator.TheVariants as arithmetics
use Rattle.act_words.specs.declared.operator.Comparison.TheVariants as comparisons
use Rattle.bounds_exprs.specs.declared.term.Bounds.{Bounds}
use Rattle.bounds_flow.specs.Flows.{Knowledge, at_entry, held_at}
use Rattle.subsumption.specs.ClosedTables.{entails_terms}
use Rattle.ckc_core.specs.declared.program.Direction.TheVariants as directions
use Rattle.ckc_core.specs.declared.program.Site.{Site}
use Rattle.ckc_core.specs.Core as core
use Rattle.region_typing_rules.specs.Readings.{term, own_bounds, based_bounds, behind_local, told, left_told}

abbrev types : List CType
types = Int ∷ Int ∷ Char ∷ Pointer modes.Checked kinds.Array Int ∷ []

abbrev site : Site
site = record { place = record { line = 1; col = 1 } }

abbrev n : core.Expression
n = core.Local 0 None

abbrev m : core.Expression
m = core.Local 1 None

abbrev c : core.Expression
c = core.Local 2 None

abbrev upto_n : Bounds
upto_n = record { base = None; lo = record { var = None; plus = pos 0 }; hi = record { var = Some 0; plus = pos 0 } }

abbrev p : core.Expression
p = core.Local 3 (Some (record { bounds = upto_n; size = 4; terminated = false; site = site }))

abbrev number : ℕ → core.Expression
number k = core.Number (pos k)

abbrev of : ArithmeticOperator → core.Expression → core.Expression → core.Expression
of operator a b = core.Arithmetic (operators.Arithmetic operator) a b site

-- n + 1 and 2 * 3 + n are terms; n + m, n * 2 and c are none
abbrev pub terms : Type 0
terms =
    (term types (of arithmetics.Add n (number 1)) ≡ Some (record { var = Some 0; plus = pos 1 }))
    × (term types (of arithmetics.Add (of arithmetics.Multiply (number 2) (number 3)) n) ≡ Some (record { var = Some 0; plus = pos 6 }))
    × (term types (of arithmetics.Subtract n (number 1)) ≡ Some (record { var = Some 0; plus = negsuc 0 }))
    × (term types (of arithmetics.Subtract (number 1) n) ≡ None) × (term types (of arithmetics.Add n m) ≡ None)
    × (term types (of arithmetics.Multiply n (number 2)) ≡ None) × (term types c ≡ None)

-- (p + 3) - 1 is p plus 2, and counts from p
abbrev pub sums : Type 0
sums =
    (behind_local types (core.Sum (core.Sum p directions.Forward (number 3) site None) directions.Backward (number 1) site None)
    ≡ Some (record { local = 3; elements = pos 2 }))
    × (behind_local types (core.Sum p directions.Forward n site None) ≡ None)
    × (based_bounds (core.Sum p directions.Forward n site None) ≡ Some (record upto_n { base = Some 3 }))
    × (own_bounds p ≡ Some upto_n)

abbrev start : Knowledge
start = at_entry 4

abbrev at_most : core.Expression → Bool → ℕ → ℕ → Bool
at_most condition truth low high =
    entails_terms (record { var = Some low; plus = pos 0 }) (record { var = Some high; plus = pos 0 }) (told types condition truth start).facts

abbrev less : core.Expression
less = core.Compare comparisons.Less n m

-- n < m tells one thing where it holds and another where it doesn't; `!` exchanges both, and behind `||` one of two is known
abbrev pub conditions : Type 0
conditions =
    (at_most less true 0 1 ≡ true) × (at_most less true 1 0 ≡ false) × (at_most less false 1 0 ≡ true) × (at_most (core.Not less) true 1 0 ≡ true)
    × (at_most (core.OrElse less p) true 0 1 ≡ false) × (at_most (core.OrElse less p) false 1 0 ≡ true) × (at_most (core.AndAlso p less) true 0 1 ≡ true)

abbrev right_at_most : BinaryOperator → ℕ → ℕ → Bool
right_at_most operator low high =
    entails_terms (record { var = Some low; plus = pos 0 }) (record { var = Some high; plus = pos 0 }) (left_told operator types less start).facts

-- the right operand of `n < m && ..` knows that n is at most m, that of `n < m || ..` that m is at most n, and that of another operator neither
abbrev pub right_operands : Type 0
right_operands =
    (right_at_most binary.And 0 1 ≡ true) × (right_at_most binary.And 1 0 ≡ false) × (right_at_most binary.Or 0 1 ≡ false)
    × (right_at_most binary.Or 1 0 ≡ true) × (right_at_most binary.BitAnd 0 1 ≡ false) × (right_at_most binary.BitOr 1 0 ≡ false)

-- p, and p != 0, tell that p isn't null
abbrev pub null_tests : Type 0
null_tests =
    ((held_at (told types p true start).held 3).known ≡ true) × ((held_at (told types p false start).held 3).known ≡ false)
    × ((held_at (told types (core.Not (core.Same p core.Null)) true start).held 3).known ≡ true)
    × ((held_at (told types (core.Same p core.Null) false start).held 3).known ≡ true)
