-- Inside: calls and their arguments, as the code holds them.
use Rattle.std.specs.Prelude.{ℕ, ◌==◌, List, [], ◌∷◌, length}
use Rattle.ckc_text.specs.declared.place.Span.{Span}
use Rattle.ckc_text.specs.declared.code.Code.TheVariants.{E14}
use Rattle.ckc_core.specs.declared.program.Site.{Site}
use Rattle.ckc_core.specs.Core as core
use Rattle.region_typing_rules.specs.Verdicts.{Verdict, Passes, passing, needs, breaks}
use Rattle.region_typing_rules.specs.Scopes.{Scope, Signature, function_named}
use Rattle.ckc_tree.specs.Expressions.{Expressions}
use Rattle.pointer_modes.specs.Types.{Int, ctype}
use Rattle.ckc_core.specs.Core.{expression, statement}
use Rattle.region_typing_rules.specs.Operands.{Places, Typed, Called, Gives, GivesNothing, converted}
use Rattle.region_typing_rules.specs.Calls.{arguments_as, arguments_met, pointers_for, terms_for}
use Rattle.region_typing_rules.specs.Operands.{site_at}
use Rattle.region_typing_rules.specs.Calls.{declared_callee, call_of, called as called_in}
use Rattle.region_typing_rules.specs.Expressions.{all_typed}
use Rattle.region_typing_expressions.specs.ArgumentBounds.{result_bounds_of}
use Rattle.region_typing_expressions.specs.declared.calls.Called as code
use Rattle.region_typing_expressions.specs.declared.calls.Called.TheVariants as calls
use Rattle.region_typing_expressions.specs.declared.calls.Argument as code_argument
use Rattle.region_typing_scope.specs.OnHeap.{typed}

abbrev pub called : code.Called → Called
called (calls.Gives type value) = Gives (ctype type) (expression value.value)
called (calls.GivesNothing call) = GivesNothing (statement call.value)

-- an argument with its span
abbrev pub argument : code_argument.Argument → Typed × Span
argument a = (typed a.typed, a.span)

-- the only argument of a call: E14
abbrev pub only_argument : List (Typed × Span) → Span → Verdict (Typed × Span)
only_argument [] span = breaks E14 span
only_argument (a ∷ []) span = Passes a
only_argument (a ∷ b ∷ others) span = breaks E14 span

-- the same as a number: E13
abbrev pub only_number : List (Typed × Span) → Span → Verdict core.Expression
only_number arguments span = passing (only_argument arguments span) (λ a. converted a.0 Int a.1 Passes)

-- a call of `next_input`: E14
abbrev pub reads : List (Typed × Span) → Span → Verdict Called
reads arguments span = needs (length arguments == 0) E14 span (Passes (Gives Int core.NextInput))

-- a call of a declared function, where the arguments convert (E13) and their bounds are met (E17)
abbrev pub converted_call : Scope → Signature → List (Typed × Span) → Site → Verdict Called
converted_call s f arguments site =
    passing (arguments_as arguments f.parameters) (λ values.
    arguments_met s.flow (terms_for s.locals arguments f.parameters) (pointers_for s.locals arguments) arguments f.parameters f.bounds
    (Passes (call_of s.structs f.result (result_bounds_of s f arguments) (declared_callee s f site) values site)))

-- a call of a function by its name, with what its arguments are
abbrev pub called_with : Places → Scope → ℕ → Expressions → Span → Verdict Called
called_with at s name arguments span = passing (all_typed at s arguments) (λ ts. called_in s (function_named s.functions name) name ts (site_at at span) span)
