-- Statements that have statements, by their parts.
use Rattle.std.proofs.Common.{◌≡◌, Bool, true, false, Option, None, length, map, reverse, take, Result, Ok, Err, Box, Global, refl, sym, ◌∙◌}
use Rattle.region_typing_scope.specs.declared.refusals.CheckError.{CheckError}
use Rattle.std.specs.Result.{IsErrAnd}
use Rattle.ckc_text.specs.declared.place.Span.{Span}
use Rattle.ckc_tree.specs.Expressions.{Expression}
use Rattle.ckc_tree.specs.Statements as s
use Rattle.ckc_tree.specs.Statements.{Statement, Assignment, ForInitial}
use Rattle.ckc_core.specs.declared.program.Stmt.{Stmt}
use Rattle.ckc_core.specs.Core as core
use Rattle.region_typing_rules.specs.Verdicts.{Verdict, Passes, passing}
use Rattle.region_typing_rules.specs.Scopes.{Scope}
use Rattle.region_typing_rules.specs.Operands.{Places}
use Rattle.region_typing_rules.specs.Expressions.{call_typed}
use Rattle.region_typing_rules.specs.Readings.{told}
use Rattle.region_typing_rules.specs.Knowing.{outside_of, when, at_loop}
use Rattle.region_typing_rules.specs.Statements.{both, alone, behind_block, meeting, at_alternative, behind_loop, before_step, in_loop, condition, optional_condition, optional_step, first_part, statement}
use Rattle.region_typing_scope.specs.declared.scope as code
use Rattle.region_typing_scope.specs.Views.{scope, visible}
use Rattle.region_typing_scope.specs.OnHeap as on_heap
use Rattle.region_typing_statements.specs.Walks.{Walks}
use Rattle.region_typing_statements.proofs.Walking.{left, left_walk, grown, other_loop, refused_walk}
use Rattle.region_typing_statements.proofs.Verdicts.{same_behind, in_parts}
use Rattle.region_typing_statements.specs.Parts.{Branch, nested, guarded, then_branch, branch_ended, if_alone, otherwise, step_behind, loop_ended, turns, while_loop, for_loop, call_statement}

-- behind a statement whose locals are gone
nested_on : {B : Type 0} (at : Places) (g h : Scope) (s : Statement) (next : core.Statement × Scope → Verdict B) → passing (passing (statement at h s) (λ x. Passes (x.0, behind_block g x.1))) next ≡ passing (statement at h s) (λ x. next (x.0, behind_block g x.1))
nested_on at g h s next = in_parts (statement at h s) (λ x. Passes (x.0, behind_block g x.1)) next

guarded_on : {B : Type 0} (at : Places) (g : Scope) (looped : Bool) (c : core.Expression) (body : Statement) (next : Branch × Scope → Verdict B)
    → passing (guarded at g looped c body) next ≡ passing (statement at (record (when c true g) { in_loop = looped }) body) (λ x. next ((c, x.0, told g.locals c false g.flow), behind_block g x.1))
guarded_on at g looped c body next =
    in_parts (nested at (when c true g) looped body) _ next
    ∙ nested_on at (when c true g) (record (when c true g) { in_loop = looped }) body (λ x. next ((c, x.0, told g.locals c false g.flow), x.1))

branch_on : {B : Type 0} (at : Places) (g : Scope) (looped : Bool) (test : Expression) (consequent : Statement) (next : Branch × Scope → Verdict B)
    → passing (then_branch at g looped test consequent) next ≡ passing (condition at g test) (λ c. passing (statement at (record (when c true g) { in_loop = looped }) consequent) (λ x. next ((c, x.0, told g.locals c false g.flow), behind_block g x.1)))
branch_on at g looped test consequent next =
    in_parts (condition at g test) _ next
    ∙ same_behind (condition at g test) _ _ (λ c. guarded_on at g looped c consequent next)

pub if_parts : (at : Places) (g : Scope) (test : Expression) (consequent : Statement) (span : Span) → statement at g (s.If test consequent span) ≡ if_alone at g test consequent
if_parts at g test consequent span = sym (branch_on at g g.in_loop test consequent (λ b. branch_ended b.0 (core.Nothing, b.1)))

pub if_else_parts : (at : Places) (g : Scope) (test : Expression) (consequent alternative : Statement) (span : Span)
    → statement at g (s.IfElse test consequent alternative span) ≡ passing {B = core.Statement × Scope} (then_branch at g g.in_loop test consequent) (λ b. otherwise at b alternative)
if_else_parts at g test consequent alternative span =
    sym (branch_on at g g.in_loop test consequent (λ b. otherwise at b alternative)
    ∙ same_behind (condition at g test) _ _ (λ c. same_behind (statement at (when c true g) consequent) _ _ (λ x. nested_on at (at_alternative g c x.1) (at_alternative g c x.1) alternative (λ y. Passes (core.If c x.0 y.0, meeting (behind_block g x.1).flow y.1)))))

pub while_parts : (at : Places) (g : Scope) (test : Expression) (body : Statement) (span : Span) → statement at g (s.While test body span) ≡ while_loop at g test body
while_parts at g test body span = sym (branch_on at (at_loop body None g) true test body (λ b. loop_ended g b.0 (core.Nothing, b.1)))

turned : (at : Places) (g outside : Scope) (first : core.Statement) (test : Option Expression) (step : Option Assignment) (body : Statement)
    → passing {B = core.Statement × Scope} (turns at g body test step) (λ t. Passes (both first t.0, behind_block outside t.1))
    ≡ passing {B = core.Statement × Scope} (optional_condition at (at_loop body step g) test) (λ c. passing {B = core.Statement × Scope} (statement at (in_loop (when c true (at_loop body step g))) body) (λ x. passing {B = core.Statement × Scope} (optional_step at (before_step g x.1) step) (λ y. Passes (both first (core.Loop c x.0 y.0), behind_block outside (behind_loop g (at_loop body step g) c y.1)))))
turned at g outside first test step body =
    let head = at_loop body step g in
    let last : core.Statement × Scope → Verdict (core.Statement × Scope) = λ t. Passes (both first t.0, behind_block outside t.1) in
    let rest : Branch × Scope → Verdict (core.Statement × Scope) = λ b. passing (step_behind at b.1 step) (loop_ended g b.0) in
    in_parts (optional_condition at head test) _ last
    ∙ same_behind (optional_condition at head test) _ _ (λ c. in_parts (guarded at head true c body) rest last
    ∙ guarded_on at head true c body (λ b. passing (rest b) last)
    ∙ same_behind (statement at (in_loop (when c true head)) body) _ _ (λ x. in_parts (optional_step at (before_step g x.1) step) (loop_ended g (c, x.0, told head.locals c false head.flow)) last
    ∙ same_behind (optional_step at (before_step g x.1) step) _ _ (λ y. ended first outside g body step c x.0 y)))
  where
    ended : (first : core.Statement) (outside g : Scope) (body : Statement) (step : Option Assignment) (c : core.Expression) (x : core.Statement) (y : core.Statement × Scope) → passing {A = core.Statement × Scope} {B = core.Statement × Scope} (loop_ended g (c, x, told (at_loop body step g).locals c false (at_loop body step g).flow) y) (λ t. Passes (both first t.0, behind_block outside t.1)) ≡ Passes (both first (core.Loop c x y.0), behind_block outside (behind_loop g (at_loop body step g) c y.1))
    ended first outside g body step c x y = refl

pub for_parts : (at : Places) (g : Scope) (initial : ForInitial) (test : Option Expression) (step : Option Assignment) (body : Statement) (span : Span) → statement at g (s.For initial test step body span) ≡ for_loop at g initial test step body
for_parts at g initial test step body span = same_behind (first_part at g initial) _ _ (λ first. sym (turned at first.1 g first.0 test step body))

-- ---- walks by these parts

pub if_walk : {old new : code.Scope.Scope} {r : Result (Box Stmt Global) CheckError} (at : Places) (x : Statement) (test : Expression) (consequent : Statement) (span : Span) → x ≡ s.If test consequent span
    → Walks on_heap.statement (if_alone at (scope old) test consequent) old r new → Walks on_heap.statement (statement at (scope old) x) old r new
if_walk {old = old} at x test consequent span is walk = rw (is, if_parts at (scope old) test consequent span) walk

pub if_else_walk : {old new : code.Scope.Scope} {r : Result (Box Stmt Global) CheckError} (at : Places) (x : Statement) (test : Expression) (consequent alternative : Statement) (span : Span) → x ≡ s.IfElse test consequent alternative span
    → Walks on_heap.statement (passing {B = core.Statement × Scope} (then_branch at (scope old) old.in_loop test consequent) (λ b. otherwise at b alternative)) old r new → Walks on_heap.statement (statement at (scope old) x) old r new
if_else_walk {old = old} at x test consequent alternative span is walk = rw (is, if_else_parts at (scope old) test consequent alternative span) walk

pub while_walk : {old new : code.Scope.Scope} {r : Result (Box Stmt Global) CheckError} (at : Places) (x : Statement) (test : Expression) (body : Statement) (span : Span) → x ≡ s.While test body span → Walks on_heap.statement (while_loop at (scope old) test body) old r new → Walks on_heap.statement (statement at (scope old) x) old r new
while_walk {old = old} at x test body span is walk = rw (is, while_parts at (scope old) test body span) walk

pub for_walk : {old new : code.Scope.Scope} {r : Result (Box Stmt Global) CheckError} (at : Places) (x : Statement) (initial : ForInitial) (test : Option Expression) (step : Option Assignment) (body : Statement) (span : Span) → x ≡ s.For initial test step body span → Walks on_heap.statement (for_loop at (scope old) initial test step body) old r new → Walks on_heap.statement (statement at (scope old) x) old r new
for_walk {old = old} at x initial test step body span is walk = rw (is, for_parts at (scope old) initial test step body span) walk

-- behind a nested statement its locals are gone
pub nested_walk : {before : code.Scope.Scope} (at : Places) (loop : Bool) (start : code.BlockStart.BlockStart) (s : Statement) (x : Box Stmt Global) (old mid new : code.Scope.Scope) → Walks on_heap.statement (statement at (scope before) s) before (Ok x) mid → scope before ≡ record (scope old) { in_loop = loop } → before.visible.items ≡ old.visible.items
    → start ≡ record { visible = length old.visible.items; locals = length old.locals.items; in_loop = old.in_loop } → scope new ≡ record (scope mid) { visible = reverse (map visible (take start.visible mid.visible.items)); in_loop = start.in_loop; flow = outside_of start.locals (scope mid) (scope mid).flow } → new.visible.items ≡ take start.visible mid.visible.items
    → new.flow.vars ≡ mid.flow.vars → Walks on_heap.statement (nested at (scope old) loop s) old (Ok x) new
nested_walk {before = before} at loop start s x old mid new walk inside_is same begins known seen size =
    let passes : statement at (record (scope old) { in_loop = loop }) s ≡ Passes (on_heap.statement x, scope mid) = rw (sym inside_is) walk.so.0 in
    left_walk on_heap.statement (λ y. y) (statement at (record (scope old) { in_loop = loop }) s) (on_heap.statement x) x old mid new passes
    (left start old mid new begins (grown (other_loop loop old before inside_is same) walk.so.1) known seen size) refl

-- and where it is broken, it is
pub nested_broken : {before : code.Scope.Scope} {e : CheckError} (at : Places) (loop : Bool) (s : Statement) (r : Result (Box Stmt Global) CheckError) (old mid new : code.Scope.Scope) → IsErrAnd r (λ y. y ≡ e) → Walks on_heap.statement (statement at (scope before) s) before (Err e) mid → scope before ≡ record (scope old) { in_loop = loop }
    → Walks on_heap.statement (nested at (scope old) loop s) old r new
nested_broken {before = before} at loop s r old mid new is walk inside_is =
    let inside : Walks on_heap.statement (statement at (record (scope old) { in_loop = loop }) s) before (Err _) mid = rw (sym inside_is) walk in
    refused_walk (λ x. Passes (x.0, behind_block (scope old) x.1)) r is inside

-- ---- statements that leave known what was known

pub call_parts : (at : Places) (g : Scope) (call : Expression) (span : Span) → statement at g (s.CallAlone call span) ≡ passing {B = core.Statement × Scope} (call_statement at g call) (λ x. Passes (x, g))
call_parts at g call span = sym (in_parts (call_typed at g call) (λ c. Passes (alone c)) (λ x. Passes (x, g)))
