-- Inside: the rules of statements by their parts.
use Rattle.std.specs.Prelude.{ℕ, Bool, true, false, List, [], ◌∷◌, Option, None}
use Rattle.bounds_flow.specs.Flows.{Knowledge}
use Rattle.ckc_text.specs.declared.place.Span.{Span}
use Rattle.ckc_text.specs.declared.code.Code.TheVariants.{E13, E17, E21}
use Rattle.pointer_modes.specs.Types.{CType}
use Rattle.ckc_core.specs.Core as core
use Rattle.ckc_core.specs.declared.program.Stmt.{Stmt}
use Rattle.ckc_tree.specs.declared.stmt.Stmt as trees
use Rattle.ckc_tree.specs.declared.stmt.Stmt.TheVariants as stmts
use Rattle.ckc_tree.specs.Expressions.{Expression}
use Rattle.ckc_tree.specs.Statements.{Statement, Assignment, ForInitial}
use Rattle.region_typing_rules.specs.Verdicts.{Verdict, Passes, passing, needs, breaks}
use Rattle.region_typing_rules.specs.Operands.{Places, converted}
use Rattle.region_typing_rules.specs.Expressions.{typed, call_typed}
use Rattle.region_typing_rules.specs.Readings.{told}
use Rattle.region_typing_rules.specs.Knowing.{assigned_by, knowing, settling, when, with_others, at_loop}
use Rattle.region_typing_rules.specs.Statements.{both, alone, assignment, assignments, are_locals, statement, behind_block, meeting}
use Rattle.region_typing_rules.specs.Statements.{condition, optional_condition, optional_step, first_part, meets_declared, returned}
use Rattle.region_typing_rules.specs.Scopes.{Scope}
use Rattle.region_typing_statements.specs.declared.statements.Branch as code
use Rattle.region_typing_scope.specs.OnHeap as on_heap

-- a statement that has statements
abbrev pub IsStructured : trees.Stmt → Type 0
IsStructured (stmts.Block' mark shape inner span) = Unit {0}
IsStructured (stmts.If' condition p consequent alternative span) = Unit {0}
IsStructured (stmts.While' condition p body span) = Unit {0}
IsStructured (stmts.For' initial condition step p body span) = Unit {0}
IsStructured _ = ⊥

-- a statement whose locals are gone behind it, where a loop is around or not
abbrev pub nested : Places → Scope → Bool → Statement → Verdict (core.Statement × Scope)
nested at g looped s = passing (statement at (record g { in_loop = looped }) s) (λ x. Passes (x.0, behind_block g x.1))

-- a condition with the statement that runs where it holds, and what is known where it doesn't
abbrev pub Branch : Type 0
Branch = core.Expression × core.Statement × Knowledge

abbrev pub branched : code.Branch → Branch
branched b = (on_heap.expression b.condition, on_heap.statement b.consequent, b.otherwise)

-- a statement on the way on which a condition came out true, in a loop or not
abbrev pub guarded : Places → Scope → Bool → core.Expression → Statement → Verdict (Branch × Scope)
guarded at g looped c s = passing (nested at (when c true g) looped s) (λ x. Passes ((c, x.0, told g.locals c false g.flow), x.1))

abbrev pub then_branch : Places → Scope → Bool → Expression → Statement → Verdict (Branch × Scope)
then_branch at g looped test consequent = passing (condition at g test) (λ c. guarded at g looped c consequent)

-- the ways of a branch meet behind its alternative
abbrev pub branch_ended : Branch → core.Statement × Scope → Verdict (core.Statement × Scope)
branch_ended b y = Passes (core.If b.0 b.1 y.0, meeting b.2 y.1)

-- a branch alone, and one with an alternative
abbrev pub if_alone : Places → Scope → Expression → Statement → Verdict (core.Statement × Scope)
if_alone at g test consequent = passing (then_branch at g g.in_loop test consequent) (λ x. branch_ended x.0 (core.Nothing, x.1))

abbrev pub otherwise : Places → Branch × Scope → Statement → Verdict (core.Statement × Scope)
otherwise at b alternative = passing (nested at (knowing b.0.2 b.1) b.1.in_loop alternative) (branch_ended (b.0.0, b.0.1, b.1.flow))

-- the end of a loop's body, where its `continue`s meet it
abbrev pub after_turn : Scope → Scope
after_turn g = knowing (with_others g.continues g.flow) g

-- behind a loop in which this is known where its condition came out false, with what is known of the loop around
abbrev pub over : (outside : ℕ) → Knowledge → Option Knowledge → Option Knowledge → Scope → Scope
over outside otherwise breaks continues g =
    record g { outside = outside; flow = with_others g.breaks otherwise; breaks = breaks; continues = continues }

-- a loop of its turns and the step behind each, in a scope
abbrev pub loop_ended : Scope → Branch → core.Statement × Scope → Verdict (core.Statement × Scope)
loop_ended g turn step = Passes (core.Loop turn.0 turn.1 step.0, over g.outside turn.2 g.breaks g.continues step.1)

-- the step of a loop, behind its body
abbrev pub step_behind : Places → Scope → Option Assignment → Verdict (core.Statement × Scope)
step_behind at g step = optional_step at (after_turn g) step

-- the turns of a loop, from its head
abbrev pub turns_from : Places → Scope → Scope → Statement → Option Expression → Option Assignment → Verdict (core.Statement × Scope)
turns_from at g head body test step =
    passing (optional_condition at head test) (λ c. passing (guarded at head true c body) (λ b. passing (step_behind at b.1 step) (loop_ended g b.0)))

abbrev pub turns : Places → Scope → Statement → Option Expression → Option Assignment → Verdict (core.Statement × Scope)
turns at g body test step = turns_from at g (at_loop body step g) body test step

-- a loop with a condition alone, and one with a head
abbrev pub while_from : Places → Scope → Scope → Expression → Statement → Verdict (core.Statement × Scope)
while_from at g head test body = passing (then_branch at head true test body) (λ b. loop_ended g b.0 (core.Nothing, b.1))

abbrev pub while_loop : Places → Scope → Expression → Statement → Verdict (core.Statement × Scope)
while_loop at g test body = while_from at g (at_loop body None g) test body

abbrev pub for_loop : Places → Scope → ForInitial → Option Expression → Option Assignment → Statement → Verdict (core.Statement × Scope)
for_loop at g initial test step body =
    passing (first_part at g initial) (λ first. passing (turns at first.1 body test step) (λ t. Passes (both first.0 t.0, behind_block g t.1)))

-- statements before others
abbrev pub joined : List Stmt → core.Statements → core.Statements
joined [] others = others
joined (x ∷ xs) others = core.Then (core.statement x) (joined xs others)

-- an assignment in a bundle, and what is known behind it
abbrev pub after : Scope → core.Statement → Scope
after g x = knowing (assigned_by g.locals x g.flow) g

abbrev pub unsettled_assignment : Places → Scope → Assignment → Verdict (core.Statement × Scope)
unsettled_assignment at g a = passing (assignment at g a) (λ x. Passes (x, after g x))

-- assignments in a bundle, and what is known behind them
abbrev pub unsettled : Places → Scope → List Assignment → Verdict (core.Statements × Scope)
unsettled at g written = passing (assignments at g written) (λ w. Passes (w.0, knowing w.1 g))

-- the end of a bundle of assignments, behind them
abbrev pub bundle_ended : List Assignment → Span → core.Statements × Scope → Verdict (core.Statement × Scope)
bundle_ended written span x =
    needs (are_locals x.1.visible written) E21 span (passing (settling x.1.flow span) (λ f. Passes (core.Block x.0, knowing f x.1)))

-- a call that stands alone
abbrev pub call_statement : Places → Scope → Expression → Verdict core.Statement
call_statement at g call = passing (call_typed at g call) (λ c. Passes (alone c))

-- a return of a value: where there is no result, where there is one, and where either may be
abbrev pub refused_value : Places → Scope → Expression → Span → Verdict core.Statement
refused_value at g e span = passing (typed at g e) (λ t. breaks E13 span)

abbrev pub converted_return : Places → Scope → CType → Expression → Span → Verdict core.Statement
converted_return at g type e span =
    passing (typed at g e) (λ t. converted t type span (λ v. needs (meets_declared g.flow g.result_bounds t type) E17 span (Passes (core.Return v))))

abbrev pub value_returned : Places → Scope → Option CType → Expression → Span → Verdict core.Statement
value_returned at g result e span = passing (typed at g e) (λ t. returned g.flow result g.result_bounds t span)
