-- A settling behind an assignment.
use Rattle.std.proofs.Common.{◌≡◌, Result, Ok, Err, ap, sym}
use Rattle.std.specs.Result.{IsErrAnd}
use Rattle.bounds_flow.specs.Flows.{Knowledge}
use Rattle.region_typing_scope.specs.declared.refusals.CheckError.{CheckError}
use Rattle.region_typing_scope.specs.declared.refusals.CheckError.TheVariants.{Source, Unnamed, NoMemory}
use Rattle.region_typing_rules.specs.Verdicts.{Stop, Broken, Nameless, Verdict, Passes, Stops, passing}
use Rattle.region_typing_rules.specs.Scopes.{Scope}
use Rattle.region_typing_rules.specs.Knowing.{knowing}
use Rattle.region_typing_scope.specs.declared.scope as code
use Rattle.region_typing_scope.specs.Views.{scope}
use Rattle.region_typing_scope.specs.Answering.{Answers}
use Rattle.region_typing_statements.specs.Walks.{Walks}
use Rattle.region_typing_statements.proofs.Walking.{refused, done_in, other_flow}

module _ (a b : code.Scope.Scope) where
  same_stop : (stop : Stop) (e : CheckError) → Answers {C = Unit {0}} {A = Scope} (λ u. scope b) (Stops stop) (Err e) → Answers {C = Knowledge} {A = Knowledge} (λ f. f) (Stops stop) (Err e)
  same_stop stop (Source fault) answer = let so = answer.so in let there : stop ≡ Broken fault = cc in record { so = ap Stops there }
  same_stop stop Unnamed answer = let so = answer.so in let there : stop ≡ Nameless = cc in record { so = ap Stops there }
  same_stop stop NoMemory answer = record { so = tt }

  no_stop : (f : Knowledge) (e : CheckError) → Answers {C = Unit {0}} {A = Scope} (λ u. scope b) (Passes (knowing f (scope a))) (Err e) → Answers {C = Knowledge} {A = Knowledge} (λ f. f) (Passes f) (Err e)
  no_stop f (Source fault) answer = absurd (cc (answer.so))
  no_stop f Unnamed answer = absurd (cc (answer.so))
  no_stop f NoMemory answer = record { so = tt }

  broken_by : (v : Verdict Knowledge) (e : CheckError) → Answers {C = Unit {0}} {A = Scope} (λ u. scope b) (passing v (λ f. Passes (knowing f (scope a)))) (Err e) → Answers {C = Knowledge} {A = Knowledge} (λ f. f) v (Err e)
  broken_by (Passes f) e answer = no_stop f e answer
  broken_by (Stops stop) e answer = same_stop stop e answer

-- all pointers meet their declared bounds
pub settled_walk : {B D : Type 0} {view : D → B} (a b : code.Scope.Scope) (z : B) (v : Verdict Knowledge) (y : D) → Answers {C = Unit {0}} {A = Scope} (λ u. scope b) (passing v (λ f. Passes (knowing f (scope a)))) (Ok tt) → view y ≡ z → b.visible.items ≡ a.visible.items → b.flow.vars ≡ a.flow.vars
    → Walks view (passing {B = B × Scope} v (λ f. Passes (z, knowing f (scope a)))) a (Ok y) b
settled_walk {view = view} a b z (Passes f) y answer is seen size =
    let so = answer.so in
    let there : knowing f (scope a) ≡ scope b = cc in
    done_in view y z a b (knowing f (scope a)) is (sym there) (other_flow f a.breaks a.continues a b (sym there) seen size)
settled_walk a b z (Stops stop) y answer is seen size = absurd (cc (answer.so))

-- one doesn't
pub settling_broken : {B D : Type 0} {view : D → B} {e : CheckError} (a b : code.Scope.Scope) (z : B) (v : Verdict Knowledge) (r : Result D CheckError) → IsErrAnd r (λ y. y ≡ e) → Answers {C = Unit {0}} {A = Scope} (λ u. scope b) (passing v (λ f. Passes (knowing f (scope a)))) (Err e)
    → Walks view (passing {B = B × Scope} v (λ f. Passes (z, knowing f (scope a)))) a r b
settling_broken {e = e} a b z v r is answer = refused (λ f. Passes (z, knowing f (scope a))) r is (broken_by a b v e answer)
