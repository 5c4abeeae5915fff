-- What a settling answers is what is found of the first pointer that doesn't meet its declared bounds.
use Rattle.std.proofs.Common.{◌≡◌, ℕ, zero, suc, ◌<◌, List, [], ◌∷◌, length, Option, Result, Ok, Err, refl, ap, sym, ◌∙◌, arith}
use Rattle.ckc_text.specs.declared.code.Code.TheVariants.{E17, E20}
use Rattle.ckc_text.specs.declared.place.Span.{Span}
use Rattle.subsumption.specs.ClosedTables.{ClosedTable}
use Rattle.bounds_flow.specs.declared.held.Held.{Held}
use Rattle.bounds_flow.specs.declared.steps.Settled.{Settled}
use Rattle.bounds_flow.specs.declared.steps.Settled.TheVariants.{Kept, Lost, Unproved}
use Rattle.bounds_flow.specs.Flows.{Knowledge, held_at, settled}
use Rattle.bounds_flow.specs.Settling.{Finding, Meets, WasLost, Falls, Asked, finding, MeetBelow, settled_by}
use Rattle.bounds_flow.specs.Settling as settling_of
use Rattle.region_typing_rules.specs.Verdicts.{Verdict, Passes, passing, breaks}
use Rattle.region_typing_rules.specs.Scopes.{Scope}
use Rattle.region_typing_rules.specs.Knowing.{or_later, first_found, settling, knowing}
use Rattle.region_typing_scope.specs.declared.refusals.CheckError.{CheckError}
use Rattle.region_typing_scope.specs.declared.refusals.CheckError.TheVariants.{Source, Unnamed, NoMemory}
use Rattle.region_typing_scope.specs.Answering.{Answers}
use Rattle.region_typing_scope.specs.Settlings.{answered}

-- all meet them
all_meet : (t : ClosedTable) (held : List Held) → MeetBelow t held (length held) → first_found t held ≡ Meets
all_meet t [] h = refl
all_meet t (k ∷ held) h =
    let first = h 0 (omega arith) in
    let rest = all_meet t held (λ p less. h (suc p) (omega (arith, less))) in
    rw (first, rest) refl

-- the first one that doesn't
first_is : (t : ClosedTable) (held : List Held) (p : ℕ) (found : Finding) → MeetBelow t held p → p < length held → finding t (held_at held p) ≡ found → ((later : Finding) → or_later found later ≡ found) → first_found t held ≡ found
first_is t [] p found h less is any = absurd (omega (arith, less))
first_is t (k ∷ held) zero found h less is any = rw is (any (first_found t held))
first_is t (k ∷ held) (suc p) found h less is any =
    let first = h 0 (omega arith) in
    rw first (first_is t held p found (λ q below. h (suc q) (omega (arith, below))) (omega (arith, less)) is any)

module _ (f k : Knowledge) (span : Span) (g new : Scope) (is_new : new ≡ knowing k g) where
  abbrev behind : Verdict Scope
  behind = passing (settling f span) (λ (f : Knowledge). Passes (knowing f g))

  passed : (r : Result (Unit {0}) CheckError) → first_found f.facts f.held ≡ Meets → k ≡ settled f → Answers (λ (x : Unit {0}). x) (Passes tt) r → Answers (λ (x : Unit {0}). new) behind r
  passed (Ok x) found is answer = record { so = rw found (ap Passes (sym (is_new ∙ ap (λ f. knowing f g) is))) }
  passed (Err (Source fault)) found is answer = absurd (cc (answer.so))
  passed (Err Unnamed) found is answer = absurd (cc (answer.so))
  passed (Err NoMemory) found is answer = record { so = tt }

  lost : (r : Result (Unit {0}) CheckError) → first_found f.facts f.held ≡ WasLost → Answers (λ (x : Unit {0}). x) (breaks E20 span) r → Answers (λ (x : Unit {0}). new) behind r
  lost (Ok x) found answer = absurd (cc (answer.so))
  lost (Err (Source fault)) found answer = record { so = rw found (let same = answer.so in cc) }
  lost (Err Unnamed) found answer = absurd (cc (answer.so))
  lost (Err NoMemory) found answer = record { so = tt }

  falls : (r : Result (Unit {0}) CheckError) (asked : Option Asked) → first_found f.facts f.held ≡ Falls asked → Answers (λ (x : Unit {0}). x) (breaks E17 span) r → Answers (λ (x : Unit {0}). new) behind r
  falls (Ok x) asked found answer = absurd (cc (answer.so))
  falls (Err (Source fault)) asked found answer = record { so = rw found (let same = answer.so in cc) }
  falls (Err Unnamed) asked found answer = absurd (cc (answer.so))
  falls (Err NoMemory) asked found answer = record { so = tt }

  pub settles : (answer : Settled) (r : Result (Unit {0}) CheckError) → settling_of.Answers f.vars f.facts f.held answer → k ≡ settled_by answer f → Answers (λ (x : Unit {0}). x) (answered answer span) r → Answers (λ (x : Unit {0}). new) behind r
  settles Kept r told is given = passed r (all_meet f.facts f.held told) is given
  settles (Lost p) r told is given = lost r (first_is f.facts f.held p WasLost told.0 told.1 told.2.1 (λ later. refl)) given
  settles (Unproved p v) r told is given =
      let asked = told.2.1 in
      falls r asked.0 (first_is f.facts f.held p (Falls asked.0) told.0 told.1 asked.1 (λ later. refl)) given
