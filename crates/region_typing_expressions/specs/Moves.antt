-- Inside: pointers that are moved, and what they lead to.
use Rattle.std.specs.Prelude.{Bool}
use Rattle.ckc_text.specs.declared.place.Span.{Span}
use Rattle.pointer_modes.specs.declared.ctype.Kind.{Kind}
use Rattle.pointer_modes.specs.declared.ctype.Kind.TheVariants as kinds
use Rattle.pointer_modes.specs.Types.{CType}
use Rattle.ckc_core.specs.declared.program.Site.{Site}
use Rattle.ckc_core.specs.declared.program.Direction.{Direction}
use Rattle.ckc_core.specs.Core as core
use Rattle.region_typing_rules.specs.Verdicts.{Verdict, Passes}
use Rattle.region_typing_rules.specs.Scopes.{Scope}
use Rattle.region_typing_rules.specs.Operands.{Typed, at_place, number_of, plain, sum_node, with_elements, first_element, first_or_end}
use Rattle.region_typing_scope.specs.Operands.{Operand}

-- a pointer that is moved by a number (E13)
abbrev pub moved : Scope → Direction → Operand → Typed → Site → Span → Verdict Typed
moved s direction o b site span =
    number_of b span (λ w. plain o.type (core.Sum o.value direction w site (sum_node s.locals direction o.value w site)))

-- what stands where a pointer of a kind leads to (E18)
abbrev pub base_of_kind : Kind → core.Expression → Site → Span → Verdict core.Place
base_of_kind kinds.One value site span = Passes (core.Through value core.First 0 site)
base_of_kind kinds.Array value site span = with_elements value span (Passes (first_element value site))
base_of_kind kinds.Nt value site span = with_elements value span (Passes (first_or_end value site))

-- an element behind the one at which a pointer with bounds stands, which may be the zero at their upper end (E18)
abbrev pub element_behind : CType → (pointer number : core.Expression) → (ended : Bool) → Site → Span → Verdict Typed
element_behind target pointer number ended site span =
    with_elements pointer span (Passes (at_place target (core.Through pointer (core.Element number ended) 0 site)))
