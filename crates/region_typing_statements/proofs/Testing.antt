-- Tests before other rules.
use Rattle.std.proofs.Common.{◌≡◌, Bool, true, false, Result, Ok, Err, refl, ap}
use Rattle.std.specs.Result.{IsErrAnd}
use Rattle.ckc_text.specs.declared.place.Span.{Span}
use Rattle.ckc_text.specs.declared.code.Code.{Code}
use Rattle.region_typing_scope.specs.declared.refusals.CheckError.{CheckError}
use Rattle.region_typing_scope.specs.declared.refusals.CheckError.TheVariants.{Source, Unnamed, NoMemory}
use Rattle.region_typing_rules.specs.Verdicts.{Stop, Broken, Nameless, Verdict, Passes, Stops, passing, needs}
use Rattle.region_typing_scope.specs.declared.scope as code
use Rattle.region_typing_rules.specs.Scopes.{Scope}
use Rattle.region_typing_scope.specs.Answering.{Answers, answers_so}
use Rattle.region_typing_scope.proofs.Going as going
use Rattle.region_typing_statements.specs.Walks.{Walks}
use Rattle.region_typing_statements.proofs.Walking as walking

abbrev Tested : Bool → Code → Span → Result (Unit {0}) CheckError → Type 0
Tested test code span r = Answers {C = Unit {0}} {A = Unit {0}} (λ x. x) (needs test code span (Passes tt)) r

needs_all : {A : Type 0} (b : Bool) (code : Code) (span : Span) (v : Verdict A) → needs b code span v ≡ passing (needs {A = Unit {0}} b code span (Passes tt)) (λ x. v)
needs_all true code span v = refl
needs_all false code span v = refl

-- behind a test that holds
pub holds : {B D : Type 0} {view : D → B} {r : Result D CheckError} (b test : Bool) (code : Code) (span : Span) (v : Verdict B) → test ≡ b → Tested test code span (Ok tt) → Answers view v r → Answers view (needs b code span v) r
holds b test code span v same first rest = rw (← same, needs_all test code span v) (going.goes_on (λ x. v) first rest)

-- a test that fails
pub fails : {B D : Type 0} {view : D → B} {e : CheckError} (b test : Bool) (code : Code) (span : Span) (v : Verdict B) (r : Result D CheckError) → test ≡ b → IsErrAnd r (λ y. y ≡ e) → Tested test code span (Err e) → Answers view (needs b code span v) r
fails b test code span v r same is first = rw (← same, needs_all test code span v) (going.refused (λ x. v) r is first)

-- the same of walks
pub walks_behind : {B D : Type 0} {view : D → B} {old new : code.Scope.Scope} {r : Result D CheckError} (b test : Bool) (code : Code) (span : Span) (v : Verdict (B × Scope)) → test ≡ b → Tested test code span (Ok tt) → Walks view v old r new → Walks view (needs b code span v) old r new
walks_behind b test code span v same first rest = rw (← same, needs_all test code span v) (walking.goes_on (λ x. v) first rest)

pub walk_fails : {B D : Type 0} {view : D → B} {old new : code.Scope.Scope} {e : CheckError} (b test : Bool) (code : Code) (span : Span) (v : Verdict (B × Scope)) (r : Result D CheckError) → test ≡ b → IsErrAnd r (λ y. y ≡ e) → Tested test code span (Err e) → Walks view (needs b code span v) old r new
walk_fails b test code span v r same is first = rw (← same, needs_all test code span v) (walking.refused (λ x. v) r is first)

-- what was tested
pub tested : (b : Bool) (code : Code) (span : Span) → Tested b code span (Ok tt) → b ≡ true
tested true code span first = refl
tested false code span first = absurd (cc (first.so))

refused_same : {B : Type 0} (code : Code) (span : Span) (v : Verdict B) (stop : Stop) → needs {A = Unit {0}} false code span (Passes tt) ≡ Stops stop → needs false code span v ≡ Stops stop
refused_same code span v stop is =
    let there : Stop = Broken (record { code = code; span = span }) in
    let same : there ≡ stop = cc in
    ap Stops same

last_so : {B : Type 0} (new : B) (b : Bool) (code : Code) (span : Span) (v : Verdict B) (r : Result (Unit {0}) CheckError) → Tested b code span r → v ≡ Passes new → answers_so {C = Unit {0}} (λ u. new) (needs b code span v) r
last_so new true code span v (Ok u) first is = is
last_so new true code span v (Err (Source fault)) first is = absurd (cc (first.so))
last_so new true code span v (Err Unnamed) first is = absurd (cc (first.so))
last_so new true code span v (Err NoMemory) first is = tt
last_so new false code span v (Ok u) first is = absurd (cc (first.so))
last_so new false code span v (Err (Source fault)) first is = refused_same code span v (Broken fault) first.so
last_so new false code span v (Err Unnamed) first is = refused_same code span v Nameless first.so
last_so new false code span v (Err NoMemory) first is = tt

-- a test that comes last
pub last : {B : Type 0} (new : B) (b test : Bool) (code : Code) (span : Span) (v : Verdict B) (r : Result (Unit {0}) CheckError) → test ≡ b → Tested test code span r → v ≡ Passes new → Answers {C = Unit {0}} (λ u. new) (needs b code span v) r
last new b test code span v r same first is = rw (← same) (record { so = last_so new test code span v r first is })
