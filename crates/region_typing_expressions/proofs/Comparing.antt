-- The rules of operators by tests of their operands.
use Rattle.std.proofs.Common.{◌≡◌, Bool, true, false, not, ◌&&◌, ◌||◌, refl, ap, ◌∙◌}
use Rattle.ckc_text.specs.declared.place.Span.{Span}
use Rattle.ckc_text.specs.declared.code.Code.TheVariants.{E13, E18, E19}
use Rattle.act_words.specs.declared.operator.Comparison.{Comparison}
use Rattle.ckc_core.specs.declared.program.Direction.{Direction}
use Rattle.ckc_core.specs.declared.program.Site.{Site}
use Rattle.ckc_core.specs.Core as core
use Rattle.pointer_modes.specs.Types.{CType, Int, Char, Struct, Pointer}
use Rattle.region_typing_rules.specs.Types.{is_number, is_pointer, are_comparable}
use Rattle.region_typing_rules.specs.Scopes.{Scope}
use Rattle.region_typing_rules.specs.Verdicts.{Verdict, Passes, Stops, passing, needs, breaks, picked}
use Rattle.region_typing_rules.specs.Operands.{Typed, Value, AStruct, equated, equated_values, scalar_of, two_numbers, number, ordered, indexed, element_at, summed, arithmetic, operator_along, is_ended_element, zero_test}
use Rattle.region_typing_rules.specs.Operands.{is_single_value, lacks_bounds, without_ptr}
use Rattle.region_typing_expressions.specs.declared.equality.Equality.{Equality}
use Rattle.region_typing_expressions.specs.declared.equality.Equality.TheVariants.{Numbers, Pointers, RightNull, LeftNull}
use Rattle.region_typing_expressions.specs.Comparing.{is_number_value, is_pointer_value, is_zero_test, are_comparable_values, compared, related}
use Rattle.region_typing_expressions.specs.Moves.{moved}
use Rattle.region_typing_scope.specs.Operands.{operand_of}
use Rattle.region_typing_scope.proofs.Entailing.{needs_then}
use Rattle.region_typing_expressions.specs.Equality.{equality, equated_by, tested_by, tested_equality}

and_false : (b : Bool) → (b && false) ≡ false
and_false true = refl
and_false false = refl

-- by each test, in their order
abbrev how_compared : (numbers pointers right left : Bool) → Span → Verdict Equality
how_compared numbers pointers right left span =
    picked numbers (Passes Numbers) (picked pointers (Passes Pointers) (picked right (Passes RightNull) (needs left E13 span (Passes LeftNull))))

values_by_tests : (t : CType) (z : Bool) (v : core.Expression) (u : CType) (y : Bool) (w : core.Expression) (span : Span) (numbers pointers right left : Bool)
    → (is_number t && is_number u) ≡ numbers → are_comparable t u ≡ pointers → (is_pointer t && y) ≡ right → (is_pointer u && z) ≡ left
    → equated_values t z v u y w span ≡ passing (how_compared numbers pointers right left span) (λ how. Passes (equated_by how v w))
values_by_tests t z v u y w span true pointers right left a b c d = rw a refl
values_by_tests t z v u y w span false true right left a b c d = rw (a, b) refl
values_by_tests t z v u y w span false false true left a b c d = rw (a, b, c) refl
values_by_tests t z v u y w span false false false true a b c d = rw (a, b, c, d) refl
values_by_tests t z v u y w span false false false false a b c d = rw (a, b, c, d) refl

-- equality by how its operands are compared
pub equated_parts : (a b : Typed) (span : Span) → equated a b span ≡ passing (equality a b span) (λ how. passing (scalar_of a span Passes) (λ v. passing (scalar_of b span Passes) (λ w. Passes (equated_by how v w))))
equated_parts (Value t z v p) (Value u y w q) span = values_by_tests t z v u y w span _ _ _ _ refl refl refl refl
equated_parts (Value t z v p) (AStruct n q) span = rw (and_false (is_number t), and_false (is_pointer t)) refl
equated_parts (AStruct n p) (Value u y w q) span = rw (and_false (is_pointer u)) refl
equated_parts (AStruct n p) (AStruct m q) span = refl

-- a test of zero by how its operands are compared
tested : (number : Bool) (how : Equality) (v w : core.Expression) → picked number (core.Not v) (equated_by how v w) ≡ tested_by number how v w
tested true how v w = refl
tested false how v w = refl

zero_tested : (t : CType) (z : Bool) (v : core.Expression) (u : CType) (y : Bool) (w : core.Expression) (p q : _) (how : Equality)
    → zero_test (Value t z v p) (Value u y w q) (equated_by how v w) ≡ tested_by (is_zero_test (Value t z v p) (Value u y w q)) how v w
zero_tested t z v u true w p q how = tested (is_number t && is_ended_element v) how v w
zero_tested t z v u false w p q how = refl

tests_then : (e : Verdict Equality) (equal : Equality → core.Expression) (test : core.Expression → core.Expression) (tests : Equality → core.Expression) → ((how : Equality) → test (equal how) ≡ tests how)
    → passing (passing e (λ how. Passes (equal how))) (λ v. number (core.Not (test v))) ≡ passing (passing e (λ how. Passes (tests how))) (λ v. number (core.Not v))
tests_then (Passes how) equal test tests same = ap (λ v. number (core.Not v)) (same how)
tests_then (Stops stop) equal test tests same = refl

breaks_then : (e : Verdict Equality) (span : Span) (test : core.Expression → core.Expression)
    → passing (passing e (λ how. breaks E13 span)) (λ v. number (core.Not (test v))) ≡ passing (passing e (λ how. breaks E13 span)) (λ v. number (core.Not v))
breaks_then (Passes how) span test = refl
breaks_then (Stops stop) span test = refl

abbrev differs : Typed → Typed → core.Expression → Verdict Typed
differs a b v = number (core.Not (zero_test a b v))

-- a difference by how its operands are compared
pub different_parts : (a b : Typed) (span : Span) → passing (equated a b span) (λ v. number (core.Not (zero_test a b v))) ≡ passing (tested_equality (is_zero_test a b) a b span) (λ v. number (core.Not v))
different_parts (Value t z v p) (Value u y w q) span =
    ap (λ e. passing e (differs (Value t z v p) (Value u y w q))) (equated_parts (Value t z v p) (Value u y w q) span)
    ∙ tests_then (equality (Value t z v p) (Value u y w q) span) (λ how. equated_by how v w) (zero_test (Value t z v p) (Value u y w q)) _ (zero_tested t z v u y w p q)
different_parts (Value t z v p) (AStruct n q) span =
    ap (λ e. passing e (differs (Value t z v p) (AStruct n q))) (equated_parts (Value t z v p) (AStruct n q) span)
    ∙ breaks_then (equality (Value t z v p) (AStruct n q) span) span (zero_test (Value t z v p) (AStruct n q))
different_parts (AStruct n p) b span =
    ap (λ e. passing e (differs (AStruct n p) b)) (equated_parts (AStruct n p) b span) ∙ breaks_then (equality (AStruct n p) b span) span (zero_test (AStruct n p) b)

numbers_ordered : (comparison : Comparison) (v w : core.Expression) (z y : Bool) (u : CType) (p q : _) (site : Site) (span : Span) (number : Bool) → is_number u ≡ number
    → ordered comparison (Value Int z v p) (Value u y w q) site span ≡ two_numbers (Value Int z v p) (Value u y w q) span (compared comparison)
numbers_ordered comparison v w z y u p q site span true is = rw is refl
numbers_ordered comparison v w z y u p q site span false is = rw is refl

-- an order by whether its operands are pointers of one mode and element
pub ordered_parts : (comparison : Comparison) (a b : Typed) (site : Site) (span : Span)
    → ordered comparison a b site span ≡ picked (are_comparable_values a b) (related comparison a b site span) (two_numbers a b span (compared comparison))
ordered_parts comparison (Value Int z v p) (Value u y w q) site span = numbers_ordered comparison v w z y u p q site span _ refl
ordered_parts comparison (Value Char z v p) (Value u y w q) site span = numbers_ordered comparison v w z y u p q site span _ refl
ordered_parts comparison (Value (Struct n) z v p) (Value u y w q) site span = refl
ordered_parts comparison (Value (Pointer mode kind target) z v p) (Value u y w q) site span = pointers_ordered (are_comparable (Pointer mode kind target) u) refl
  where
    pointers_ordered : (like : Bool) → are_comparable (Pointer mode kind target) u ≡ like → ordered comparison (Value (Pointer mode kind target) z v p) (Value u y w q) site span
        ≡ picked (are_comparable (Pointer mode kind target) u) (related comparison (Value (Pointer mode kind target) z v p) (Value u y w q) site span) (breaks E13 span)
    pointers_ordered true is = rw is refl
    pointers_ordered false is = rw is refl
ordered_parts comparison (Value t z v p) (AStruct n q) site span = numbers_or_not (is_number t)
  where
    numbers_or_not : (number : Bool) → breaks {A = Typed} E13 span ≡ needs number E13 span (breaks E13 span)
    numbers_or_not true = refl
    numbers_or_not false = refl
ordered_parts comparison (AStruct n p) b site span = refl

-- an element by tests of what is indexed
pub indexed_parts : (a b : Typed) (site : Site) (span : Span) → indexed a b site span
    ≡ passing (needs (is_pointer_value a && is_number_value b) E13 span (Passes tt))
    (λ (u : Unit {0}). passing (operand_of a span) (λ o. passing (operand_of b span) (λ n. element_at o.type o.value n.value site span)))
indexed_parts (Value t z v p) (Value u y w q) site span = needs_then (is_pointer t && is_number u) E13 span tt (λ (_ : Unit {0}). element_at t v w site span)
indexed_parts (Value t z v p) (AStruct n q) site span = rw (and_false (is_pointer t)) refl
indexed_parts (AStruct n p) b site span = refl

-- the operands of a sum, and what comes behind
pub without_then : {A : Type 0} (a b : Typed) (span : Span) (next : Verdict A) → without_ptr a b span next ≡ passing (without_ptr a b span (Passes tt)) (λ (u : Unit {0}). next)
without_then a b span next = by (not (is_single_value a || is_single_value b)) (not (lacks_bounds a || lacks_bounds b))
  where
    by : (m n : Bool) → needs m E19 span (needs n E18 span next) ≡ passing (needs m E19 span (needs n E18 span (Passes tt))) (λ (u : Unit {0}). next)
    by true true = refl
    by true false = refl
    by false n = refl

-- a sum by its first operand
pub summed_parts : (s : Scope) (direction : Direction) (a b : Typed) (site : Site) (span : Span) → summed s direction a b site span
    ≡ picked (is_pointer_value a) (passing (operand_of a span) (λ o. moved s direction o b site span)) (two_numbers a b span (arithmetic (operator_along direction) site))
summed_parts s direction (Value Int z v p) b site span = refl
summed_parts s direction (Value Char z v p) b site span = refl
summed_parts s direction (Value (Struct n) z v p) b site span = refl
summed_parts s direction (Value (Pointer mode kind target) z v p) b site span = refl
summed_parts s direction (AStruct n p) b site span = refl
