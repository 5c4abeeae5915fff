-- Inside: forms whose values may be pointers, before the bounds at their nodes are noted.
use Rattle.std.specs.Prelude.{ℕ, List}
use Rattle.ckc_text.specs.declared.place.Span.{Span}
use Rattle.ckc_tree.specs.declared.expr.UnaryOperator.{UnaryOperator}
use Rattle.pointer_modes.specs.Types.{Structure}
use Rattle.ckc_core.specs.declared.program.Site.{Site}
use Rattle.ckc_tree.specs.Expressions.{Expression}
use Rattle.region_typing_rules.specs.Verdicts.{Verdict, Passes, passing}
use Rattle.region_typing_rules.specs.Scopes.{Scope, named}
use Rattle.region_typing_rules.specs.Operands.{Places, Typed, site_at, text_value, name_typed, in_cell, indexed, dotted, arrowed, unary_typed}
use Rattle.region_typing_rules.specs.Expressions.{typed}

-- a string whose block has this number and so many characters
abbrev pub block_value : List Structure → Site → ℕ × ℕ → Typed
block_value structs site b = text_value structs (record { object = b.0; length = b.1; taken = 0 }) site

-- what a name stands for
abbrev pub name_verdict : Scope → ℕ → Site → Verdict Typed
name_verdict s name site = passing (named s name) (λ n. Passes (name_typed s n site))

-- an element, with the bounds at its node
abbrev pub element_verdict : Scope → Typed → Typed → Site → Span → Verdict Typed
element_verdict s a b site span = in_cell s site (indexed a b site span)

-- members, of a struct and through a pointer
abbrev pub dotted_verdict : Places → Scope → Expression → ℕ → Span → Verdict Typed
dotted_verdict at s base name span = passing (typed at s base) (λ a. dotted s a name (site_at at span) span)

abbrev pub arrowed_verdict : Places → Scope → Expression → ℕ → Span → Verdict Typed
arrowed_verdict at s base name span = passing (typed at s base) (λ a. arrowed s a name (site_at at span) span)

-- an operator before its operand
abbrev pub unary_verdict : Places → Scope → UnaryOperator → Expression → Span → Verdict Typed
unary_verdict at s operator operand span = passing (typed at s operand) (λ a. unary_typed operator a (site_at at span) span)
