-- What pointers lead to, by what they are as values.
use Rattle.std.proofs.Common.{◌≡◌, Some, refl}
use Rattle.std.specs.Prelude.{is_some}
use Rattle.ckc_text.specs.declared.place.Span.{Span}
use Rattle.pointer_modes.specs.declared.ctype.Mode.{Mode}
use Rattle.pointer_modes.specs.declared.ctype.Kind.{Kind}
use Rattle.pointer_modes.specs.declared.ctype.Kind.TheVariants as kinds
use Rattle.pointer_modes.specs.Types.{CType, Int, Char, Struct, Pointer}
use Rattle.ckc_core.specs.declared.program.Site.{Site}
use Rattle.ckc_core.specs.Core as core
use Rattle.ckc_core.specs.Meaning.{bounds_of}
use Rattle.region_typing_rules.specs.Verdicts.{Verdict, Passes, Stops, passing}
use Rattle.region_typing_rules.specs.Operands.{Places, Typed, Value, AStruct, at_place, dereferenced, pointed_at, first_element, first_or_end, site_at}
use Rattle.region_typing_rules.specs.Expressions.{typed}
use Rattle.region_typing_rules.specs.Scopes.{Scope}
use Rattle.ckc_tree.specs.Expressions.{Expression, Index}
use Rattle.region_typing_expressions.specs.Unbounded.{element_verdict}
use Rattle.region_typing_scope.specs.Typed.{struct_of}
use Rattle.region_typing_scope.specs.Operands.{operand_of}
use Rattle.region_typing_scope.proofs.Entailing.{needs_then}
use Rattle.region_typing_expressions.specs.Moves.{base_of_kind}

pub dereferenced_parts : (t : Typed) (site : Site) (span : Span) → dereferenced t site span ≡ passing (operand_of t span) (λ o. pointed_at o.type o.value site span)
dereferenced_parts (Value type null value place) site span = refl
dereferenced_parts (AStruct number place) site span = refl

-- what a pointer points to, by what stands there
pub pointed_parts : (mode : Mode) (kind : Kind) (target : CType) (value : core.Expression) (site : Site) (span : Span)
    → pointed_at (Pointer mode kind target) value site span ≡ passing (base_of_kind kind value site span) (λ p. Passes (at_place target p))
pointed_parts mode kinds.One target value site span = refl
pointed_parts mode kinds.Array target value site span = needs_then (is_some (bounds_of value)) _ span (first_element value site) (λ p. Passes (at_place target p))
pointed_parts mode kinds.Nt target value site span = needs_then (is_some (bounds_of value)) _ span (first_or_end value site) (λ p. Passes (at_place target p))

-- the struct that a type is
pub struct_is : (t : CType) (number : _) → struct_of t ≡ Some number → t ≡ Struct number
struct_is Int number is = absurd (cc)
struct_is Char number is = absurd (cc)
struct_is (Struct other) number is = cc
struct_is (Pointer mode kind target) number is = absurd (cc)

-- two operands, and what comes behind
both_then : {A B C D : Type 0} (v : Verdict A) (w : Verdict B) (f : A → B → Verdict C) (g : C → Verdict D)
    → passing (passing v (λ a. passing w (λ b. f a b))) g ≡ passing v (λ a. passing w (λ b. passing (f a b) g))
both_then (Passes a) (Passes b) f g = refl
both_then (Passes a) (Stops stop) f g = refl
both_then (Stops stop) w f g = refl

-- an element by its operands
pub element_parts : (at : Places) (s : Scope) (base index : Expression) (span : Span)
    → typed at s (Index base index span) ≡ passing (typed at s base) (λ a. passing (typed at s index) (λ b. element_verdict s a b (site_at at span) span))
element_parts at s base index span = both_then (typed at s base) (typed at s index) _ _
