-- Inside: what a settling answers, and a scope behind one, and behind an assignment and its settling.
use Rattle.ckc_text.specs.declared.code.Code.TheVariants.{E17, E20}
use Rattle.ckc_text.specs.declared.place.Span.{Span}
use Rattle.bounds_flow.specs.declared.steps.Settled.{Settled}
use Rattle.bounds_flow.specs.declared.steps.Settled.TheVariants.{Kept, Lost, Unproved}
use Rattle.ckc_core.specs.Core as core
use Rattle.region_typing_rules.specs.Verdicts.{Verdict, Passes, passing, breaks}
use Rattle.region_typing_rules.specs.Scopes.{Scope}
use Rattle.region_typing_rules.specs.Knowing.{assigned_by, settling, knowing}

abbrev pub answered : Settled → Span → Verdict (Unit {0})
answered Kept span = Passes tt
answered (Lost p) span = breaks E20 span
answered (Unproved p v) span = breaks E17 span

abbrev pub settled_at : Span → Scope → Verdict Scope
settled_at span g = passing (settling g.flow span) (λ f. Passes (knowing f g))

abbrev pub settled_scope : core.Statement → Span → Scope → Verdict Scope
settled_scope x span g = settled_at span (knowing (assigned_by g.locals x g.flow) g)
