-- Assignments in a bundle, and its end.
use Rattle.std.proofs.Common.{◌≡◌, ℕ, ◌+◌, ◌<◌, ◌≤◌, Bool, true, false, ◌&&◌, List, [], ◌∷◌, ◌++◌, length, map, drop, get_or, refl, ap, sym, ◌∙◌}
use Rattle.std.specs.List.{list_all}
use Rattle.std.proofs.lemmas.List.{drop_more, drop_all}
use Rattle.ckc_text.specs.declared.place.Span.{Span}
use Rattle.ckc_tree.specs.declared.stmt.Assignment as trees
use Rattle.ckc_tree.specs.Statements.{Assignment, assignment}
use Rattle.ckc_core.specs.declared.program.Stmt.{Stmt}
use Rattle.ckc_core.specs.Core as core
use Rattle.ckc_core.specs.Core.{statement, statements_of}
use Rattle.bounds_flow.specs.Flows.{Knowledge, in_bundle}
use Rattle.region_typing_rules.specs.Verdicts.{Stop, Verdict, Passes, Stops, passing}
use Rattle.region_typing_rules.specs.Scopes.{Scope, Visible}
use Rattle.region_typing_rules.specs.Operands.{Places}
use Rattle.region_typing_rules.specs.Knowing.{assigned_by, knowing}
use Rattle.region_typing_rules.specs.Statements as rules
use Rattle.region_typing_statements.specs.Parts.{after, unsettled_assignment, unsettled, bundle_ended}
use Rattle.region_typing_statements.proofs.Sequences.{behind, joined_none, joined_one}

-- ---- targets

and_true : (b : Bool) → (b && true) ≡ b
and_true true = refl
and_true false = refl

one_local : (visible : List Visible) (a : Assignment) (others : List Assignment) → (rules.are_locals visible (a ∷ []) && rules.are_locals visible others) ≡ rules.are_locals visible (a ∷ others)
one_local visible a others = ap (λ b. b && rules.are_locals visible others) (and_true _)

-- all are locals where each one is
pub all_locals : (visible : List Visible) (xs : List trees.Assignment) → list_all (λ x. rules.are_locals visible (assignment x ∷ [])) xs ≡ rules.are_locals visible (map assignment xs)
all_locals visible [] = refl
all_locals visible (x ∷ xs) = ap (λ b. rules.are_locals visible (assignment x ∷ []) && b) (all_locals visible xs) ∙ one_local visible (assignment x) (map assignment xs)

-- ---- assignments

-- assignments behind a first one
abbrev then_others : Places → Scope → core.Statement → Verdict (core.Statements × Knowledge) → Verdict (core.Statements × Scope)
then_others at g x rest = passing {A = core.Statements × Knowledge} (passing rest (λ w. Passes (core.Then x w.0, w.1))) (λ w. Passes (w.0, knowing w.1 g))

abbrev behind_first : Places → Scope → List Stmt → List Assignment → core.Statement → Verdict (core.Statements × Scope)
behind_first at g built others x = behind built (then_others at g x (rules.assignments at (after g x) others))

first_then : (at : Places) (g : Scope) (built : List Stmt) (others : List Assignment) (v : Verdict core.Statement)
    → behind built (passing {A = core.Statements × Knowledge} (passing v (λ x. passing (rules.assignments at (after g x) others) (λ rest. Passes (core.Then x rest.0, rest.1)))) (λ w. Passes (w.0, knowing w.1 g)))
    ≡ passing v (behind_first at g built others)
first_then at g built others (Passes x) = refl
first_then at g built others (Stops stop) = refl

left_at : (xs : List trees.Assignment) (i : ℕ) (x : trees.Assignment) → i < length xs → x ≡ get_or xs i x → map assignment (drop i xs) ≡ assignment x ∷ map assignment (drop (i + 1) xs)
left_at xs i x less is = ap (map assignment) (drop_more xs i x less ∙ ap (λ y. y ∷ drop (i + 1) xs) (sym is))

-- the next one is typed before the others
first_left : (at : Places) (all : Verdict (core.Statements × Scope)) (xs : List trees.Assignment) (i : ℕ) (x : trees.Assignment) (g : Scope) (built : List Stmt) → i < length xs → x ≡ get_or xs i x
    → all ≡ behind built (unsettled at g (map assignment (drop i xs)))
    → all ≡ passing (rules.assignment at g (assignment x)) (behind_first at g built (map assignment (drop (i + 1) xs)))
first_left at all xs i x g built less is so_far =
    so_far ∙ ap (λ ys. behind built (unsettled at g ys)) (left_at xs i x less is)
    ∙ first_then at g built (map assignment (drop (i + 1) xs)) (rules.assignment at g (assignment x))

others_left : (g h : Scope) (built : List Stmt) (at : Places) (x : Stmt) (f : Knowledge) (rest : Verdict (core.Statements × Knowledge)) → h ≡ knowing f g
    → behind built (then_others at g (statement x) rest) ≡ behind (built ++ x ∷ []) (passing rest (λ w. Passes (w.0, knowing w.1 h)))
others_left g h built at x f (Passes w) known = rw known (ap (λ xs. Passes (xs, knowing w.1 g)) (sym (joined_one built x w.0)))
others_left g h built at x f (Stops stop) known = refl

same_passed : {A : Type 0} (x y : A) → Passes x ≡ Passes y → x ≡ y
same_passed x y is = cc

passed : {A B : Type 0} (f : A → B) (h : B) (v : Verdict A) (z : A) → passing {B = A × B} v (λ x. Passes (x, f x)) ≡ Passes (z, h) → (v ≡ Passes z) × (h ≡ f z)
passed {A = A} {B = B} f h (Passes x) z is =
    let both = same_passed {A = A × B} (x, f x) (z, h) is in
    (ap (λ (w : A × B). Passes w.0) both, sym (ap (λ (w : A × B). w.1) both) ∙ ap (λ (w : A × B). f w.0) both)
passed f h (Stops stop) z is = absurd (cc is)

broken : {A B : Type 0} (f : A → B) (v : Verdict A) (stop : Stop) → passing {B = A × B} v (λ x. Passes (x, f x)) ≡ Stops stop → v ≡ Stops stop
broken f (Passes x) stop is = absurd (cc is)
broken f (Stops other) stop is = let same : other ≡ stop = cc in ap Stops same

-- an assignment more
pub assignment_more : (at : Places) (all : Verdict (core.Statements × Scope)) (xs : List trees.Assignment) (i : ℕ) (x : trees.Assignment) (g h : Scope) (built new : List Stmt) (y : Stmt) → new ≡ built ++ y ∷ [] → i < length xs → x ≡ get_or xs i x
    → all ≡ behind built (unsettled at g (map assignment (drop i xs))) → unsettled_assignment at g (assignment x) ≡ Passes (statement y, h)
    → all ≡ behind new (unsettled at h (map assignment (drop (i + 1) xs)))
assignment_more at all xs i x g h built new y are less is so_far walk =
    let others = map assignment (drop (i + 1) xs) in
    let one = passed (after g) h (rules.assignment at g (assignment x)) (statement y) walk in
    first_left at all xs i x g built less is so_far
    ∙ ap (λ v. passing v (behind_first at g built others)) one.0
    ∙ ap (λ k. behind built (then_others at g (statement y) (rules.assignments at k others))) (sym one.1)
    ∙ others_left g h built at y (assigned_by g.locals (statement y) g.flow) (rules.assignments at h others) one.1
    ∙ ap (λ ys. behind ys (unsettled at h others)) (sym are)

-- an assignment in which a rule is broken
pub assignment_breaks : (at : Places) (all : Verdict (core.Statements × Scope)) (xs : List trees.Assignment) (i : ℕ) (x : trees.Assignment) (g : Scope) (built : List Stmt) (stop : Stop) → i < length xs → x ≡ get_or xs i x
    → all ≡ behind built (unsettled at g (map assignment (drop i xs))) → unsettled_assignment at g (assignment x) ≡ Stops stop → all ≡ Stops stop
assignment_breaks at all xs i x g built stop less is so_far breaks =
    first_left at all xs i x g built less is so_far
    ∙ ap (λ v. passing v (behind_first at g built (map assignment (drop (i + 1) xs)))) (broken (after g) (rules.assignment at g (assignment x)) stop breaks)

-- all assignments
pub assignments_done : (at : Places) (all : Verdict (core.Statements × Scope)) (xs : List trees.Assignment) (i : ℕ) (g : Scope) (built : List Stmt) → length xs ≤ i
    → all ≡ behind built (unsettled at g (map assignment (drop i xs))) → all ≡ Passes (statements_of built, g)
assignments_done at all xs i g built end so_far =
    so_far ∙ ap (λ ys. behind built (unsettled at g (map assignment ys))) (drop_all i xs end) ∙ ap (λ ys. Passes (ys, g)) (joined_none built)

-- ---- the end of a bundle

ends : (g : Scope) (written : List Assignment) (span : Span) (v : Verdict (core.Statements × Knowledge)) (f : Knowledge) (h : Scope) → h ≡ knowing f g
    → passing v (λ w. bundle_ended written span (w.0, knowing w.1 g)) ≡ passing (passing v (λ w. Passes (w.0, knowing w.1 h))) (bundle_ended written span)
ends g written span (Passes w) f h known = rw known refl
ends g written span (Stops stop) f h known = refl

-- a bundle is its assignments, and its end
pub bundle_parts : (at : Places) (g h : Scope) (written : List Assignment) (span : Span) → h ≡ knowing (in_bundle g.flow) g
    → rules.bundle at g written span ≡ passing (unsettled at h written) (bundle_ended written span)
bundle_parts at g h written span known =
    ap (λ k. passing (rules.assignments at k written) (λ w. bundle_ended written span (w.0, knowing w.1 g))) (sym known)
    ∙ ends g written span (rules.assignments at h written) (in_bundle g.flow) h known
