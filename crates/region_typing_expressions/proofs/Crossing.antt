-- What may not cross the boundary, argument by argument.
use Rattle.std.proofs.Common.{◌≡◌, ◌==◌, Bool, true, false, not, List, [], ◌∷◌, length, refl, arith}
use Rattle.ckc_text.specs.declared.place.Span.{Span}
use Rattle.ckc_text.specs.declared.code.Code.TheVariants.{E24}
use Rattle.ckc_core.specs.declared.program.Site.{Site}
use Rattle.region_typing_rules.specs.Scopes.{Scope, Signature}
use Rattle.region_typing_rules.specs.Verdicts.{Verdict, Passes, passing, needs}
use Rattle.region_typing_rules.specs.Operands.{Typed}
use Rattle.region_typing_rules.specs.Calls.{is_checked_argument, without_checked, crossing, is_import, declared_call}
use Rattle.region_typing_expressions.specs.Calls.{converted_call}

abbrev pub one_crosses : Typed × Span → Unit {0} → Verdict (Unit {0})
one_crosses a x = needs (not (is_checked_argument a.0)) E24 a.1 (Passes tt)

abbrev pub all_cross : List (Typed × Span) → Unit {0} → Verdict (Unit {0})
all_cross arguments x = without_checked arguments (Passes tt)

pub cross_by_step : (a : Typed × Span) (arguments : List (Typed × Span)) (x : Unit {0}) → all_cross (a ∷ arguments) x ≡ passing (one_crosses a x) (λ y. all_cross arguments y)
cross_by_step a arguments x = by (not (is_checked_argument a.0))
  where
    by : (b : Bool) → needs b E24 a.1 (without_checked arguments (Passes tt)) ≡ passing (needs b E24 a.1 (Passes tt)) (λ y. all_cross arguments y)
    by true = refl
    by false = refl

-- a rule that is asked of all arguments, and then others
without_then : {A : Type 0} (arguments : List (Typed × Span)) (next : Verdict A) → without_checked arguments next ≡ passing (without_checked arguments (Passes tt)) (λ (u : Unit {0}). next)
without_then [] next = refl
without_then (a ∷ arguments) next = by (not (is_checked_argument a.0)) (without_then arguments next)
  where
    by : (b : Bool) → without_checked arguments next ≡ passing (without_checked arguments (Passes tt)) (λ (u : Unit {0}). next) → needs b E24 a.1 (without_checked arguments next) ≡ passing (needs b E24 a.1 (without_checked arguments (Passes tt))) (λ (u : Unit {0}). next)
    by true others = others
    by false others = refl

crossing_then : {A : Type 0} (tainted : Bool) (arguments : List (Typed × Span)) (next : Verdict A) → crossing tainted arguments next ≡ passing (crossing tainted arguments (Passes tt)) (λ (u : Unit {0}). next)
crossing_then true arguments next = without_then arguments next
crossing_then false arguments next = refl

-- a call with as many arguments as parameters
pub declared_parts : (s : Scope) (f : Signature) (arguments : List (Typed × Span)) (site : Site) (span : Span) → length arguments ≡ length f.parameters → declared_call s f arguments site span ≡ passing (crossing (is_import f) arguments (Passes tt)) (λ (u : Unit {0}). converted_call s f arguments site)
declared_parts s f arguments site span many =
    let same : (length f.parameters == length arguments) ≡ true = grind (arith, many) in
    rw same (crossing_then (is_import f) arguments (converted_call s f arguments site))
