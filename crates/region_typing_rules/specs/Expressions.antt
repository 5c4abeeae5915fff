-- The walk of expressions: of a node the children are walked from left to right, and then its rules are asked.
use Rattle.std.specs.Prelude.{ℕ, ◌^◌, nat_lt, Bool, false, ◌==◌, List, [], ◌∷◌, pos}
use Rattle.std.specs.Prelude.{None}
use Rattle.ckc_text.specs.declared.place.Span.{Span}
use Rattle.ckc_text.specs.declared.code.Code.TheVariants.{E04, E13}
use Rattle.ckc_tree.specs.Expressions as e
use Rattle.ckc_tree.specs.Expressions.{Expression, Expressions, expression_span}
use Rattle.pointer_modes.specs.Types.{Int}
use Rattle.pointer_modes.specs.Layout.{size_of}
use Rattle.ckc_core.specs.Core as core
use Rattle.region_typing_rules.specs.Verdicts.{Verdict, Passes, passing, needs, breaks}
use Rattle.region_typing_rules.specs.Scopes.{Scope}
use Rattle.region_typing_rules.specs.Scopes.{named, function_named}
use Rattle.region_typing_rules.specs.Types.{type_named}
use Rattle.region_typing_rules.specs.Strings.{text_at}
use Rattle.region_typing_rules.specs.Operands.{Called, ForNothing, Places, Typed, Value, arrowed, beside}
use Rattle.region_typing_rules.specs.Operands.{binary_typed, bounded, dotted, in_cell, indexed, name_typed}
use Rattle.region_typing_rules.specs.Operands.{number, site_at, text_typed, unary_typed}
use Rattle.region_typing_rules.specs.Calls.{called, with_result}
use Rattle.region_typing_rules.specs.NewMemory.{calloc_typed, cast_bounds, cast_typed, malloc_typed}

-- constant-has-31-bits: E04; the tokens of a source have no other
abbrev pub constant_typed : ℕ → Bool → Span → Verdict Typed
constant_typed value zero span = needs (nat_lt value (2 ^ 31)) E04 span (Passes (Value Int zero (core.Number (pos value)) ForNothing))

abbrev mutual
  -- an expression: its children from left to right, and then its own rules
  pub typed : Places → Scope → Expression → Verdict Typed
  typed at s (e.Number value span) = constant_typed value (value == 0) span
  typed at s (e.Character value span) = constant_typed value false span
  typed at s (e.Text bytes span) = text_typed s.structs (text_at s.strings span.from) (site_at at span) span
  typed at s (e.Name name) = bounded s (site_at at name.span) (passing (named s name.number) (λ n. Passes (name_typed s n (site_at at name.span))))
  typed at s (e.Call callee arguments span) = passing (all_typed at s arguments)
      (λ ts. passing (called s (function_named s.functions callee.number) callee.number ts (site_at at span) span) (λ c. with_result c span))
  typed at s (e.SizeOf type span) = passing (type_named s type) (λ t. number (core.Number (pos (size_of s.structs t))))
  typed at s (e.Cast word type operand span) =
      passing (type_named s type) (λ t. passing (typed at s operand) (λ a. cast_typed word s t a None (site_at at span) span))
  typed at s (e.BoundedCast word type operand bounds span) =
      passing (type_named s type) (λ t. passing (typed at s operand) (λ a. passing (cast_bounds s t bounds)
      (λ written. cast_typed word s t a written (site_at at span) span)))
  typed at s (e.Malloc word type size span) =
      passing (type_named s type) (λ t. passing (typed at s size) (λ a. malloc_typed word s t size a (site_at at span) span))
  typed at s (e.Calloc word type count size span) =
      passing (type_named s type) (λ t. passing (typed at s count) (λ a. passing (typed at s size)
      (λ b. calloc_typed word s t a size (site_at at span) span)))
  typed at s (e.Index base index span) =
      in_cell s (site_at at span) (passing (typed at s base) (λ a. passing (typed at s index) (λ b. indexed a b (site_at at span) span)))
  typed at s (e.Dot base member span) = in_cell s (site_at at span) (passing (typed at s base) (λ a. dotted s a member.number (site_at at span) span))
  typed at s (e.Arrow base member span) = in_cell s (site_at at span) (passing (typed at s base) (λ a. arrowed s a member.number (site_at at span) span))
  typed at s (e.Unary operator operand span) = in_cell s (site_at at span) (passing (typed at s operand) (λ a. unary_typed operator a (site_at at span) span))
  typed at s (e.Binary operator left right span) =
      passing (typed at s left) (λ a. passing (typed at (beside operator a s) right) (λ b. binary_typed s operator a b (site_at at span) span))

  -- arguments, each with its span
  pub all_typed : Places → Scope → Expressions → Verdict (List (Typed × Span))
  all_typed at s e.NoMore = Passes []
  all_typed at s (e.Then first others) = passing (typed at s first) (λ t. passing (all_typed at s others) (λ ts. Passes ((t, expression_span first) ∷ ts)))

-- a call that stands alone, as the grammar has nothing else there
abbrev pub call_typed : Places → Scope → Expression → Verdict Called
call_typed at s (e.Call callee arguments span) =
    passing (all_typed at s arguments) (λ ts. called s (function_named s.functions callee.number) callee.number ts (site_at at span) span)
call_typed at s _ = breaks E13 (record { from = 0; to = 0 })
