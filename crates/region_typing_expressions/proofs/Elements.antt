-- How many elements a size is.
use Rattle.std.proofs.Common.{◌≡◌, Bool, true, false, Option, Some, None, refl, sym}
use Rattle.ckc_tree.specs.Expressions.{Expression}
use Rattle.pointer_modes.specs.Types.{CType}
use Rattle.ckc_core.specs.Core as core
use Rattle.ckc_text.specs.declared.place.Span.{Span}
use Rattle.ckc_text.specs.declared.code.Code.TheVariants.{E13}
use Rattle.region_typing_rules.specs.Types.{is_number}
use Rattle.region_typing_rules.specs.Verdicts.{Verdict, Passes, passing, needs}
use Rattle.region_typing_rules.specs.Scopes.{Scope}
use Rattle.region_typing_rules.specs.Operands.{Typed, Value, AStruct, number_of}
use Rattle.region_typing_rules.specs.NewMemory.{is_size, factor_beside, elements_in}
use Rattle.region_typing_expressions.specs.Allocations.{alone_in, counted}

abbrev or_alone : Option core.Expression → Option core.Expression → Option core.Expression
or_alone None alone = alone
or_alone (Some count) alone = Some count

elements_by : (s : Scope) (t : CType) (size : Expression) (value : core.Expression) (o : Option core.Expression) → factor_beside s t size value ≡ o → elements_in s t size value ≡ or_alone o (alone_in s t size value)
elements_by s t size value None is = rw is refl
elements_by s t size value (Some count) is = rw is refl

-- the size where nothing stands beside the size of one
pub elements_alone : (s : Scope) (t : CType) (size : Expression) (value : core.Expression) → factor_beside s t size value ≡ None → alone_in s t size value ≡ elements_in s t size value
elements_alone s t size value is = sym (elements_by s t size value None is)

-- ---- a number of elements, and the size of one

number_counted : {A : Type 0} (number sized : Bool) (span : Span) (v : core.Expression) (next : core.Expression → Verdict A)
    → needs number E13 span (needs sized E13 span (next v)) ≡ passing (needs number E13 span (needs sized E13 span (Passes v))) next
number_counted true true span v next = refl
number_counted true false span v next = refl
number_counted false sized span v next = refl

pub counted_then : {A : Type 0} (s : Scope) (t : CType) (a : Typed) (size : Expression) (span : Span) (next : core.Expression → Verdict A)
    → number_of a span (λ count. needs (is_size s t size) E13 span (next count)) ≡ passing (counted s t a size span) next
counted_then s t (Value type zero value place) size span next = number_counted (is_number type) (is_size s t size) span value next
counted_then s t (AStruct struct place) size span next = refl

number_sized : (number sized : Bool) (span : Span) (v : core.Expression)
    → needs number E13 span (needs sized E13 span (Passes v)) ≡ passing (needs number E13 span (Passes v)) (λ w. passing (needs sized E13 span (Passes tt)) (λ (u : Unit {0}). Passes w))
number_sized true true span v = refl
number_sized true false span v = refl
number_sized false sized span v = refl

pub counted_parts : (s : Scope) (t : CType) (a : Typed) (size : Expression) (span : Span)
    → counted s t a size span ≡ passing (number_of a span Passes) (λ v. passing (needs (is_size s t size) E13 span (Passes tt)) (λ (u : Unit {0}). Passes v))
counted_parts s t (Value type zero value place) size span = number_sized (is_number type) (is_size s t size) span value
counted_parts s t (AStruct struct place) size span = refl
