-- Casts as rules behind one another.
use Rattle.std.proofs.Common.{◌≡◌, Bool, true, false, ◌&&◌, refl}
use Rattle.std.specs.Prelude.{is_some}
use Rattle.ckc_text.specs.declared.place.Span.{Span}
use Rattle.ckc_text.specs.declared.code.Code.TheVariants.{E13, E18}
use Rattle.pointer_modes.specs.Types.{CType}
use Rattle.ckc_core.specs.declared.program.Site.{Site}
use Rattle.ckc_core.specs.Core as core
use Rattle.ckc_core.specs.Meaning.{bounds_of}
use Rattle.region_typing_rules.specs.Verdicts.{Verdict, Passes, passing, needs}
use Rattle.region_typing_rules.specs.Scopes.{Scope, WrittenBounds, bounds_in}
use Rattle.region_typing_rules.specs.Operands.{Typed, Value, AStruct, plain}
use Rattle.region_typing_rules.specs.Calls.{call_bounds}
use Rattle.region_typing_rules.specs.NewMemory.{casts_to, takes, has_base, base_in, cast_checked}
use Rattle.region_typing_scope.specs.Operands.{Operand, operand_of}

-- a cast of an operand
abbrev cast_of : Scope → CType → WrittenBounds → Site → Span → Operand → Verdict Typed
cast_of s to written site span o =
    passing (needs (casts_to s.structs o.type to && takes to written) E13 span (Passes tt)) (λ (u : Unit {0}).
    passing (needs (is_some (bounds_of o.value) && has_base (base_in (bounds_in written)) o.value) E18 span (Passes tt)) (λ (u : Unit {0}).
    plain to (core.Cast o.value (call_bounds s.structs to (bounds_in written) site))))

both_tests : {A : Type 0} (like bounded : Bool) (span : Span) (next : Verdict A)
    → needs like E13 span (needs bounded E18 span next) ≡ passing (needs like E13 span (Passes tt)) (λ (u : Unit {0}). passing (needs bounded E18 span (Passes tt)) (λ (u : Unit {0}). next))
both_tests true true span next = refl
both_tests true false span next = refl
both_tests false bounded span next = refl

pub cast_parts : (s : Scope) (to : CType) (a : Typed) (written : WrittenBounds) (site : Site) (span : Span) → cast_checked s to a written site span ≡ passing (operand_of a span) (cast_of s to written site span)
cast_parts s to (Value type zero value place) written site span =
    both_tests (casts_to s.structs type to && takes to written) (is_some (bounds_of value) && has_base (base_in (bounds_in written)) value) span _
cast_parts s to (AStruct number place) written site span = refl
