-- Ways that part and meet between other steps of a walk.
use Rattle.std.proofs.Common.{◌≡◌, ℕ, Bool, true, false, Option, None, length, Result, Box, Global, ap, sym, ◌∙◌}
use Rattle.ckc_tree.specs.Statements.{Statement, Assignment}
use Rattle.bounds_flow.specs.Flows.{Knowledge, at_head}
use Rattle.ckc_core.specs.declared.program.Expr.{Expr}
use Rattle.ckc_core.specs.Core as core
use Rattle.region_typing_scope.specs.declared.refusals.CheckError.{CheckError}
use Rattle.region_typing_rules.specs.Verdicts.{Verdict, passing}
use Rattle.region_typing_rules.specs.Scopes.{Scope}
use Rattle.region_typing_rules.specs.Operands.{Places}
use Rattle.region_typing_rules.specs.Readings.{told}
use Rattle.region_typing_rules.specs.Knowing.{knowing, when, assigned_in, at_loop}
use Rattle.region_typing_scope.specs.declared.scope as code
use Rattle.region_typing_scope.specs.Views.{scope}
use Rattle.region_typing_scope.specs.OnHeap.{expression}
use Rattle.region_typing_scope.specs.Locals.{Grows}
use Rattle.region_typing_statements.specs.Walks.{Walks}
use Rattle.region_typing_statements.specs.Parts.{nested}
use Rattle.region_typing_statements.proofs.Walking.{from_more, other_turns, other_flow}

-- from the head of a loop
headed : {B D : Type 0} (view : D → B) (of : Scope → Verdict (B × Scope)) (outside : ℕ) (f : Knowledge) (bs cs : Option Knowledge) (a b new : code.Scope.Scope) (r : Result D CheckError)
    → scope b ≡ record (scope a) { outside = outside; flow = f; breaks = bs; continues = cs } → b.visible.items ≡ a.visible.items → b.flow.vars ≡ a.flow.vars
    → Walks view (of (scope b)) b r new → Walks view (of (record (scope a) { outside = outside; flow = f; breaks = bs; continues = cs })) a r new
headed view of outside f bs cs a b new r known seen size walk =
    from_more view (of (record (scope a) { outside = outside; flow = f; breaks = bs; continues = cs })) (of (scope b)) a b new r (ap of (sym known)) (other_turns outside f bs cs a b known seen size) walk

pub from_head : {B D : Type 0} (view : D → B) (of : Scope → Verdict (B × Scope)) (body : Statement) (step : Option Assignment) (a b new : code.Scope.Scope) (r : Result D CheckError)
    → scope b ≡ at_loop body step (scope a) → b.visible.items ≡ a.visible.items → b.flow.vars ≡ a.flow.vars
    → Walks view (of (scope b)) b r new → Walks view (of (at_loop body step (scope a))) a r new
from_head view of body step a b new r known seen size walk =
    headed view of (length (scope a).locals) (at_head (assigned_in (scope a) body step) (scope a).flow) None None a b new r known seen size walk

-- the head of a loop is in a scope with as many locals
pub head_grows : (body : Statement) (step : Option Assignment) (a b : code.Scope.Scope) → scope b ≡ at_loop body step (scope a) → b.visible.items ≡ a.visible.items → b.flow.vars ≡ a.flow.vars → Grows a b
head_grows body step a b known seen size = other_turns (length (scope a).locals) (at_head (assigned_in (scope a) body step) (scope a).flow) None None a b known seen size

-- behind a step that speaks of numbers and pointers alone
pub stepped : {B D : Type 0} (view : D → B) (of : Scope → Verdict (B × Scope)) (f : Knowledge) (bs cs : Option Knowledge) (a b new : code.Scope.Scope) (r : Result D CheckError)
    → scope b ≡ record (scope a) { flow = f; breaks = bs; continues = cs } → b.visible.items ≡ a.visible.items → b.flow.vars ≡ a.flow.vars
    → Walks view (of (scope b)) b r new → Walks view (of (record (scope a) { flow = f; breaks = bs; continues = cs })) a r new
stepped view of f bs cs a b new r known seen size walk = headed view of a.outside f bs cs a b new r known seen size walk

-- a nested statement on the way on which a condition came out true
pub parted : {B D : Type 0} (at : Places) (s : Statement) (loop : Bool) (view : D → B) (next : core.Statement × Scope → Knowledge → Verdict (B × Scope)) (c : Box Expr Global) (o : Knowledge) (a b new : code.Scope.Scope) (r : Result D CheckError)
    → scope b ≡ when (expression c) true (scope a) → o ≡ told (scope a).locals (expression c) false (scope a).flow → b.visible.items ≡ a.visible.items → b.flow.vars ≡ a.flow.vars
    → Walks view (passing (nested at (scope b) loop s) (λ x. next x o)) b r new
    → Walks view (passing (nested at (when (expression c) true (scope a)) loop s) (λ x. next x (told (scope a).locals (expression c) false (scope a).flow))) a r new
parted at s loop view next c o a b new r known other seen size walk =
    let by_scope = λ (g : Scope). passing (nested at g loop s) (λ x. next x (told (scope a).locals (expression c) false (scope a).flow)) in
    let by_other = λ (k : Knowledge). passing (nested at (scope b) loop s) (λ x. next x k) in
    from_more view (by_scope (when (expression c) true (scope a))) (by_other o) a b new r (ap by_scope (sym known) ∙ ap by_other (sym other)) (other_flow _ _ _ a b known seen size) walk

-- one on another way
pub turned : {B D : Type 0} (at : Places) (s : Statement) (view : D → B) (f : Knowledge) (next : core.Statement × Scope → Verdict (B × Scope)) (a b new : code.Scope.Scope) (r : Result D CheckError)
    → scope b ≡ knowing f (scope a) → b.visible.items ≡ a.visible.items → b.flow.vars ≡ a.flow.vars
    → Walks view (passing (nested at (scope b) (scope a).in_loop s) next) b r new
    → Walks view (passing (nested at (knowing f (scope a)) (scope a).in_loop s) next) a r new
turned at s view f next a b new r known seen size walk =
    stepped view (λ g. passing (nested at g (scope a).in_loop s) next) f (scope a).breaks (scope a).continues a b new r known seen size walk
