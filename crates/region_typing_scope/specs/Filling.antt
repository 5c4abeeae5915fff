-- Inside: what becomes known at file level.
use Rattle.std.specs.Prelude.{ℕ, Bool, List, [], nat_lt, length}
use Rattle.ckc_text.specs.declared.place.Span.{Span}
use Rattle.ckc_text.specs.declared.code.Code.TheVariants.{E08}
use Rattle.region_typing_rules.specs.Verdicts.{Verdict, Passes, needs}
use Rattle.region_typing_rules.specs.Scopes.{Scope}
use Rattle.region_typing_rules.specs.Items.{with_struct}

-- a struct more, which has no members yet, and its number (E08)
abbrev pub struct_added : ℕ → List ℕ → Bool → Span → Scope → Verdict (ℕ × Scope)
struct_added tag names tainted span g = needs (nat_lt (length g.structs) 4096) E08 span (Passes (length g.structs, with_struct tag names tainted [] g))
