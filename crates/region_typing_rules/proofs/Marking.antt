-- A statement assigns only the locals that it marks.
use Rattle.std.proofs.Common.{◌≡◌, ℕ, zero, suc, ◌≤◌, Bool, true, false, ◌==◌, cond, List, [], ◌∷◌, length, Option, Some, None, refl, sym, ◌∙◌, ap, subst, arith, ◌⊎◌, inl, inr}
use Rattle.std.specs.Prelude.{◌||◌, not, nat_lt, slice_set, slice_index_or}
use Rattle.std.proofs.lemmas.List.{length-append}
use Rattle.ckc_text.specs.declared.place.Span.{Span}
use Rattle.ckc_text.specs.declared.code.Code.TheVariants.{E08, E13, E15, E17, E30}
use Rattle.ckc_tree.specs.Types.{TypeTree}
use Rattle.ckc_tree.specs.Expressions as e
use Rattle.ckc_tree.specs.Expressions.{Expression}
use Rattle.ckc_tree.specs.Statements as s
use Rattle.ckc_tree.specs.Statements.{Declarator, Declaration, Assignment, ForInitial, Statement, Statements}
use Rattle.bounds_flow.specs.Flows.{Knowledge, in_bundle}
use Rattle.pointer_modes.specs.Types.{CType}
use Rattle.ckc_core.specs.Core as core
use Rattle.region_typing_rules.specs.Scopes.{Scope, Visible}
use Rattle.region_typing_rules.specs.Types.{is_scalar, without_stars, base_type}
use Rattle.region_typing_rules.specs.Operands.{Places, Typed, Called, Gives, GivesNothing, site_at}
use Rattle.region_typing_rules.specs.Expressions.{call_typed, typed}
use Rattle.region_typing_rules.specs.Knowing.{when, local_number, target_marked, marked_at, assignment_marked, bundle_marked, step_marked, hiding, hidden_by, hidden_first, first_marked, marked, all_marked, at_loop, assigned_by, knowing}
use Rattle.bounds_exprs.specs.declared.term.Bounds.{Bounds}
use Rattle.region_typing_rules.specs.DeclaredBounds.{declared_bounds, row_of}
use Rattle.region_typing_rules.specs.Cells.{is_length}
use Rattle.region_typing_rules.specs.Statements.{Walked, both, assigning, zero_value, with_local, initialised, bounded_local, declarator, declarators, declaration, at_alternative, before_step, in_loop, is_unchecked, condition, optional_condition, optional_step, first_part, alone, return, meets_declared, returned, returned_nothing, statement, statements, with_array, before_end, row_type, first_length, target_of, assignments, bundle}
use Rattle.region_typing_rules.proofs.Verdicts.{Promises, passing_promises, needs_promises, extends_last, anything_promised}
use Rattle.region_typing_rules.proofs.Kept.{passing_any}
use Rattle.region_typing_rules.proofs.Assigning.{assigning_promises, declared_promises, settled_promises, assignments_promise, bundle_promises}
use Rattle.region_typing_rules.proofs.Moving.{AssignsOnly, AllAssignOnly}
use Rattle.region_typing_rules.proofs.Assigns.{IsPlain}
use Rattle.region_typing_rules.proofs.Sources.{IsNameOf, IsFreshCall, call_typed_fresh}
use Rattle.region_typing_rules.proofs.Marks.{IsAssignment, IsFirst, converted_any, assignment_plain, initialised_plain}
use Rattle.region_typing_rules.proofs.LocalArrays.{memory_of, declarator_promises}

-- ---- marks are only added

-- as many marks, and those that were there
pub record IsWithin (before after : List Bool) : Type 0 where
  pub many : length after ≡ length before
  pub each : (y : ℕ) → slice_index_or before y true ≡ true → slice_index_or after y true ≡ true

within_here : (marks : List Bool) → IsWithin marks marks
within_here marks = record { many = refl; each = λ y h. h }

within_on : (a b c : List Bool) → IsWithin a b → IsWithin b c → IsWithin a c
within_on a b c h k = record { many = k.many ∙ h.many; each = λ y x. k.each y (h.each y x) }

set_many : (marks : List Bool) (k : ℕ) → length (slice_set marks k true) ≡ length marks
set_many [] k = refl
set_many (m ∷ marks) zero = refl
set_many (m ∷ marks) (suc k) = ap suc (set_many marks k)

set_each : (marks : List Bool) (k y : ℕ) → slice_index_or marks y true ≡ true → slice_index_or (slice_set marks k true) y true ≡ true
set_each [] k y h = h
set_each (m ∷ marks) zero zero h = refl
set_each (m ∷ marks) zero (suc y) h = h
set_each (m ∷ marks) (suc k) zero h = h
set_each (m ∷ marks) (suc k) (suc y) h = set_each marks k y h

set_true : (marks : List Bool) (k : ℕ) → slice_index_or (slice_set marks k true) k true ≡ true
set_true [] k = refl
set_true (m ∷ marks) zero = refl
set_true (m ∷ marks) (suc k) = set_true marks k

beyond_true : (marks : List Bool) (k : ℕ) → length marks ≤ k → slice_index_or marks k true ≡ true
beyond_true [] k h = refl
beyond_true (m ∷ marks) zero h = absurd (omega (arith, h))
beyond_true (m ∷ marks) (suc k) h = beyond_true marks k (omega (arith, h))

marked_at_within : (o : Option ℕ) (marks : List Bool) → IsWithin marks (marked_at o marks)
marked_at_within None marks = within_here marks
marked_at_within (Some k) marks = record { many = set_many marks k; each = set_each marks k }

target_within : (visible : List Visible) (x : Expression) (marks : List Bool) → IsWithin marks (target_marked visible x marks)
target_within visible (e.Number value span) marks = within_here marks
target_within visible (e.Character value span) marks = within_here marks
target_within visible (e.Text bytes span) marks = within_here marks
target_within visible (e.Name name) marks = marked_at_within (local_number visible name.number) marks
target_within visible (e.Call callee arguments span) marks = within_here marks
target_within visible (e.SizeOf type span) marks = within_here marks
target_within visible (e.Cast word type operand span) marks = within_here marks
target_within visible (e.BoundedCast word type operand bounds span) marks = within_here marks
target_within visible (e.Malloc word type size span) marks = within_here marks
target_within visible (e.Calloc word type count size span) marks = within_here marks
target_within visible (e.Index base index span) marks = within_here marks
target_within visible (e.Dot base member span) marks = within_here marks
target_within visible (e.Arrow base member span) marks = within_here marks
target_within visible (e.Unary operator operand span) marks = within_here marks
target_within visible (e.Binary operator left right span) marks = within_here marks

assignment_within : (visible : List Visible) (a : Assignment) (marks : List Bool) → IsWithin marks (assignment_marked visible a marks)
assignment_within visible (s.Store operator target value span) marks = target_within visible target marks
assignment_within visible (s.Step operator side target span) marks = target_within visible target marks

bundle_within : (visible : List Visible) (xs : List Assignment) (marks : List Bool) → IsWithin marks (bundle_marked visible xs marks)
bundle_within visible [] marks = within_here marks
bundle_within visible (a ∷ xs) marks = within_on marks (assignment_marked visible a marks) (bundle_marked visible xs (assignment_marked visible a marks)) (assignment_within visible a marks) (bundle_within visible xs (assignment_marked visible a marks))

pub step_within : (visible : List Visible) (o : Option Assignment) (marks : List Bool) → IsWithin marks (step_marked visible o marks)
step_within visible None marks = within_here marks
step_within visible (Some a) marks = assignment_within visible a marks

first_within : (visible : List Visible) (initial : ForInitial) (marks : List Bool) → IsWithin marks (first_marked visible initial marks)
first_within visible s.Nothing marks = within_here marks
first_within visible (s.Declares d) marks = within_here marks
first_within visible (s.Assigns a) marks = assignment_within visible a marks

mutual
  pub marked_within : (beyond : ℕ) (visible : List Visible) (x : Statement) (marks : List Bool) → IsWithin marks (marked beyond visible x marks)
  marked_within beyond visible (s.Block mark inner span) marks = all_within beyond visible inner marks
  marked_within beyond visible (s.Bundle assignments span) marks = bundle_within visible assignments marks
  marked_within beyond visible (s.Declare d span) marks = within_here marks
  marked_within beyond visible (s.Assign a span) marks = assignment_within visible a marks
  marked_within beyond visible (s.CallAlone call span) marks = within_here marks
  marked_within beyond visible (s.Empty span) marks = within_here marks
  marked_within beyond visible (s.If test consequent span) marks = marked_within beyond visible consequent marks
  marked_within beyond visible (s.IfElse test consequent alternative span) marks =
      within_on marks (marked beyond visible consequent marks) _ (marked_within beyond visible consequent marks) (marked_within beyond visible alternative (marked beyond visible consequent marks))
  marked_within beyond visible (s.While test body span) marks = marked_within beyond visible body marks
  marked_within beyond visible (s.For initial test step body span) marks =
      let inside = hidden_first beyond initial visible in
      let first = first_marked visible initial marks in
      within_on marks first _ (first_within visible initial marks)
      (within_on first (marked beyond inside body first) _ (marked_within beyond inside body first) (step_within inside step (marked beyond inside body first)))
  marked_within beyond visible (s.Return value span) marks = within_here marks
  marked_within beyond visible (s.Break span) marks = within_here marks
  marked_within beyond visible (s.Continue span) marks = within_here marks

  pub all_within : (beyond : ℕ) (visible : List Visible) (xs : Statements) (marks : List Bool) → IsWithin marks (all_marked beyond visible xs marks)
  all_within beyond visible s.NoMore marks = within_here marks
  all_within beyond visible (s.Then first others) marks =
      within_on marks (marked beyond visible first marks) _ (marked_within beyond visible first marks) (all_within beyond (hidden_by beyond first visible) others (marked beyond visible first marks))

-- ---- names of the walk, and of the marks

-- names stand for the same local, or for one that has no mark
abbrev pub AreHidden : ℕ → List Visible → List Visible → Type 0
AreHidden beyond [] [] = Unit {0}
AreHidden beyond [] (w ∷ ws) = ⊥
AreHidden beyond (v ∷ vs) [] = ⊥
AreHidden beyond (v ∷ vs) (w ∷ ws) = (v.name ≡ w.name) × ((v.local ≡ w.local) ⊎ (beyond ≤ v.local)) × AreHidden beyond vs ws

pub hidden_here : (beyond : ℕ) (vs : List Visible) → AreHidden beyond vs vs
hidden_here beyond [] = tt
hidden_here beyond (v ∷ vs) = (refl, inl refl, hidden_here beyond vs)

-- what may be assigned, by these marks
abbrev pub Covers : (ℕ → Bool) → List Bool → Type 0
Covers may marks = (y : ℕ) → slice_index_or marks y true ≡ true → may y ≡ true

pub covers_before : (may : ℕ → Bool) (before after : List Bool) → IsWithin before after → Covers may after → Covers may before
covers_before may before after h covers y x = covers y (h.each y x)

number_marked : (beyond : ℕ) (vs ws : List Visible) (name k : ℕ) (marks : List Bool) (may : ℕ → Bool) → AreHidden beyond vs ws → length marks ≡ beyond → local_number vs name ≡ Some k → Covers may (marked_at (local_number ws name) marks) → may k ≡ true
number_marked beyond [] ws name k marks may hidden many found covers = absurd (cc)
number_marked beyond (v ∷ vs) [] name k marks may hidden many found covers = absurd hidden
number_marked beyond (v ∷ vs) (w ∷ ws) name k marks may hidden many found covers = by (name == v.name) refl found (subst (λ n. Covers may (marked_at (cond (name == n) (Some w.local) (local_number ws name)) marks)) (sym hidden.0) covers) (number_marked beyond vs ws name k marks may hidden.2 many)
  where
    far : beyond ≤ k → (after : List Bool) → IsWithin marks after → Covers may after → may k ≡ true
    far low after within covers' = covers' k (beyond_true after k (let a = within.many in omega (arith, low, many, a)))

    this : v.local ≡ k → Covers may (slice_set marks w.local true) → may k ≡ true
    this same covers' = elim hidden.1 [
      | inl q ↦ covers' k (subst (λ j. slice_index_or (slice_set marks j true) k true ≡ true) (sym same ∙ q) (set_true marks k))
      | inr low ↦ far (subst (λ j. beyond ≤ j) same low) (slice_set marks w.local true) (marked_at_within (Some w.local) marks) covers'
    ]

    by : (test : Bool) → (name == v.name) ≡ test → cond test (Some v.local) (local_number vs name) ≡ Some k → Covers may (marked_at (cond test (Some w.local) (local_number ws name)) marks)
        → (local_number vs name ≡ Some k → Covers may (marked_at (local_number ws name) marks) → may k ≡ true) → may k ≡ true
    by true q found' covers' again = this (let same : v.local ≡ k = cc in same) covers'
    by false q found' covers' again = again found' covers'

target_may : (beyond : ℕ) (vs ws : List Visible) (x : Expression) (k : ℕ) (marks : List Bool) (may : ℕ → Bool) → AreHidden beyond vs ws → length marks ≡ beyond → IsNameOf vs x k → Covers may (target_marked ws x marks) → may k ≡ true
target_may beyond vs ws (e.Number value span) k marks may hidden many is covers = absurd is
target_may beyond vs ws (e.Character value span) k marks may hidden many is covers = absurd is
target_may beyond vs ws (e.Text bytes span) k marks may hidden many is covers = absurd is
target_may beyond vs ws (e.Name name) k marks may hidden many is covers = number_marked beyond vs ws name.number k marks may hidden many is covers
target_may beyond vs ws (e.Call callee arguments span) k marks may hidden many is covers = absurd is
target_may beyond vs ws (e.SizeOf type span) k marks may hidden many is covers = absurd is
target_may beyond vs ws (e.Cast word type operand span) k marks may hidden many is covers = absurd is
target_may beyond vs ws (e.BoundedCast word type operand bounds span) k marks may hidden many is covers = absurd is
target_may beyond vs ws (e.Malloc word type size span) k marks may hidden many is covers = absurd is
target_may beyond vs ws (e.Calloc word type count size span) k marks may hidden many is covers = absurd is
target_may beyond vs ws (e.Index base index span) k marks may hidden many is covers = absurd is
target_may beyond vs ws (e.Dot base member span) k marks may hidden many is covers = absurd is
target_may beyond vs ws (e.Arrow base member span) k marks may hidden many is covers = absurd is
target_may beyond vs ws (e.Unary operator operand span) k marks may hidden many is covers = absurd is
target_may beyond vs ws (e.Binary operator left right span) k marks may hidden many is covers = absurd is

assignment_may : (beyond : ℕ) (vs ws : List Visible) (a : Assignment) (k : ℕ) (marks : List Bool) (may : ℕ → Bool) → AreHidden beyond vs ws → length marks ≡ beyond → IsNameOf vs (target_of a) k → Covers may (assignment_marked ws a marks) → may k ≡ true
assignment_may beyond vs ws (s.Store operator target value span) k marks may hidden many is covers = target_may beyond vs ws target k marks may hidden many is covers
assignment_may beyond vs ws (s.Step operator side target span) k marks may hidden many is covers = target_may beyond vs ws target k marks may hidden many is covers

-- ---- statements that assign nothing

abbrev pub IsReturn : core.Statement → Type 0
IsReturn core.Nothing = ⊥
IsReturn (core.SetLocal local value) = ⊥
IsReturn (core.Store type place value) = ⊥
IsReturn (core.UpdateLocal char local operator value site) = ⊥
IsReturn (core.Update type place operator value site) = ⊥
IsReturn (core.Evaluate value) = ⊥
IsReturn (core.CallAlone callee arguments) = ⊥
IsReturn (core.Print value) = ⊥
IsReturn (core.PutByte value) = ⊥
IsReturn (core.Block statements) = ⊥
IsReturn (core.If condition consequent alternative) = ⊥
IsReturn (core.Loop condition body step) = ⊥
IsReturn (core.Return value) = Unit {0}
IsReturn core.ReturnNothing = Unit {0}
IsReturn core.Break = ⊥
IsReturn core.Continue = ⊥

return_only : (may : ℕ → Bool) (x : core.Statement) → IsReturn x → AssignsOnly may x
return_only may core.Nothing h = absurd h
return_only may (core.SetLocal local value) h = absurd h
return_only may (core.Store type place value) h = absurd h
return_only may (core.UpdateLocal char local operator value site) h = absurd h
return_only may (core.Update type place operator value site) h = absurd h
return_only may (core.Evaluate value) h = absurd h
return_only may (core.CallAlone callee arguments) h = absurd h
return_only may (core.Print value) h = absurd h
return_only may (core.PutByte value) h = absurd h
return_only may (core.Block statements) h = absurd h
return_only may (core.If condition consequent alternative) h = absurd h
return_only may (core.Loop condition body step) h = absurd h
return_only may (core.Return value) h = tt
return_only may core.ReturnNothing h = tt
return_only may core.Break h = absurd h
return_only may core.Continue h = absurd h

returned_is : (f : Knowledge) (o : Option CType) (b : Option Bounds) (t : Typed) (span : Span) → Promises IsReturn (returned f o b t span)
returned_is f None b t span = tt
returned_is f (Some type) b t span = converted_any IsReturn t type span _ (λ v. needs_promises IsReturn (meets_declared f b t type) E17 span _ (λ met. tt))

nothing_is : (o : Option CType) (span : Span) → Promises IsReturn (returned_nothing o span)
nothing_is None span = tt
nothing_is (Some type) span = tt

pub return_is : (at : Places) (g : Scope) (o : Option Expression) (span : Span) → Promises IsReturn (return at g o span)
return_is at g None span = nothing_is g.result span
return_is at g (Some x) span = passing_any IsReturn (typed at g x) _ (λ t. returned_is g.flow g.result g.result_bounds t span)

pub call_only : (may : ℕ → Bool) (x : core.Statement) → IsPlain [] x → AssignsOnly may x
call_only may core.Nothing h = tt
call_only may (core.SetLocal local value) h = absurd (let q = h.1 in cc)
call_only may (core.Store type place value) h = tt
call_only may (core.UpdateLocal char local operator value site) h = absurd (let q = h.1 in cc)
call_only may (core.Update type place operator value site) h = tt
call_only may (core.Evaluate value) h = tt
call_only may (core.CallAlone callee arguments) h = tt
call_only may (core.Print value) h = tt
call_only may (core.PutByte value) h = tt
call_only may (core.Block statements) h = absurd h
call_only may (core.If condition consequent alternative) h = absurd h
call_only may (core.Loop condition body step) h = absurd h
call_only may (core.Return value) h = absurd h
call_only may core.ReturnNothing h = absurd h
call_only may core.Break h = absurd h
call_only may core.Continue h = absurd h

alone_only : (may : ℕ → Bool) (c : Called) → IsFreshCall c → AssignsOnly may (alone c)
alone_only may (Gives type value) h = tt
alone_only may (GivesNothing call) h = call_only may call h

-- ---- the walk

-- it assigns only what is marked, and behind it names stand for these locals
pub record IsMarked (beyond : ℕ) (after : List Visible) (marks : List Bool → List Bool) (w : Walked) : Type 0 where
  pub only : (may : ℕ → Bool) (before : List Bool) → length before ≡ beyond → Covers may (marks before) → AssignsOnly may w.0
  pub hidden : AreHidden beyond w.1.visible after
  pub low : beyond ≤ length w.1.locals

pub record AreMarked (beyond : ℕ) (marks : List Bool → List Bool) (w : core.Statements × Scope) : Type 0 where
  pub only : (may : ℕ → Bool) (before : List Bool) → length before ≡ beyond → Covers may (marks before) → AllAssignOnly may w.0
  pub low : beyond ≤ length w.1.locals

both_only : (may : ℕ → Bool) (x y : core.Statement) → AssignsOnly may x → AssignsOnly may y → AssignsOnly may (both x y)
both_only may x y h k = (h, (k, tt))

assigning_marked : (at : Places) (g : Scope) (a : Assignment) (beyond : ℕ) (ws : List Visible) → AreHidden beyond g.visible ws → beyond ≤ length g.locals → Promises (IsMarked beyond ws (assignment_marked ws a)) (assigning at g a)
assigning_marked at g a beyond ws hidden low =
    assigning_promises (IsAssignment g (target_of a)) (IsMarked beyond ws (assignment_marked ws a)) at g a (assignment_plain at g a)
    (λ x f h. record { only = λ may before many covers. h.only may (λ k is. assignment_may beyond g.visible ws a k before may hidden many is covers); hidden = hidden; low = low })

bundle_marked_so : (at : Places) (g : Scope) (written : List Assignment) (span : Span) (beyond : ℕ) (ws : List Visible) → AreHidden beyond g.visible ws → beyond ≤ length g.locals → Promises (IsMarked beyond ws (bundle_marked ws written)) (bundle at g written span)
bundle_marked_so at g written span beyond ws hidden low =
    bundle_promises (Only written) (IsMarked beyond ws (bundle_marked ws written)) at g written span
    (assignments_promise (λ f a x. IsAssignment (knowing f g) (target_of a) x) (λ f written w. Only written w) at g (λ f a. assignment_plain at (knowing f g) a) (λ f may before many covers. tt) more (in_bundle g.flow) written)
    (λ w k only. record { only = only; hidden = hidden; low = low })
  where
    Only : List Assignment → core.Statements × Knowledge → Type 0
    Only written w = (may : ℕ → Bool) (before : List Bool) → length before ≡ beyond → Covers may (bundle_marked ws written before) → AllAssignOnly may w.0

    more : (f : Knowledge) (a : Assignment) (written : List Assignment) (x : core.Statement) (rest : core.Statements × Knowledge) → IsAssignment (knowing f g) (target_of a) x → Only written rest → Only (a ∷ written) (core.Then x rest.0, rest.1)
    more f a written x rest h only may before many covers =
        let between = assignment_marked ws a before in (
          h.only may (λ k is. assignment_may beyond g.visible ws a k before may hidden many is (covers_before may between (bundle_marked ws written between) (bundle_within ws written between) covers)),
          only may between ((assignment_within ws a before).many ∙ many) covers,
        )

pub step_marked_so : (at : Places) (g : Scope) (o : Option Assignment) (beyond : ℕ) (ws : List Visible) → AreHidden beyond g.visible ws → beyond ≤ length g.locals → Promises (IsMarked beyond ws (step_marked ws o)) (optional_step at g o)
step_marked_so at g None beyond ws hidden low = record { only = λ may before many covers. tt; hidden = hidden; low = low }
step_marked_so at g (Some a) beyond ws hidden low = assigning_marked at g a beyond ws hidden low

longer : (g : Scope) (name : ℕ) (t : CType) (b : Option Bounds) → length (with_local name t b g).locals ≡ suc (length g.locals)
longer g name t b = let e = length-append g.locals (t ∷ []) in omega (arith, e)

abbrev IsDeclaring : (beyond : ℕ) → List Visible → Declarator → Walked → Type 0
IsDeclaring beyond ws d w = IsMarked beyond (record { name = d.name.number; local = beyond } ∷ ws) (λ marks. marks) w

-- a local more, which is zero or null and is assigned then
local_marked : (name : ℕ) (t : CType) (b : Option Bounds) (g : Scope) (f : Knowledge) (arrays : List ℕ) (initial : core.Statement) (beyond : ℕ) (ws : List Visible) → AreHidden beyond g.visible ws → beyond ≤ length g.locals
    → ((may : ℕ → Bool) → may (length g.locals) ≡ true → AssignsOnly may initial)
    → IsMarked beyond (record { name = name; local = beyond } ∷ ws) (λ marks. marks) (both (core.SetLocal (length g.locals) (zero_value t)) initial, knowing f (record (with_local name t b g) { arrays = arrays }))
local_marked name t b g f arrays initial beyond ws hidden low only = record {
  only = λ may before many covers.
      let here : may (length g.locals) ≡ true = covers (length g.locals) (beyond_true before (length g.locals) (omega (arith, low, many))) in
      both_only may (core.SetLocal (length g.locals) (zero_value t)) initial here (only may here);
  hidden = (refl, inr low, hidden);
  low = (let e = longer g name t b in omega (arith, low, e));
}

bounded_local_marked : (at : Places) (g : Scope) (d : Declarator) (t : CType) (span : Span) (b : Option Bounds) (beyond : ℕ) (ws : List Visible) → AreHidden beyond g.visible ws → beyond ≤ length g.locals
    → Promises (IsDeclaring beyond ws d) (bounded_local at g d t span b)
bounded_local_marked at g d t span b beyond ws hidden low =
    let inner = with_local d.name.number t b g in
    passing_promises (IsFirst inner.locals (length g.locals) d.initializer) (IsDeclaring beyond ws d) (initialised at inner d.initializer t (length g.locals) span) _
    (initialised_plain at inner d.initializer t (length g.locals) span (extends_last g.locals t))
    (λ initial h. needs_promises (IsDeclaring beyond ws d) (is_scalar t) E13 span _
    (λ scalar. declared_promises (IsDeclaring beyond ws d) inner d.initializer t (length g.locals) span initial
    (λ f. local_marked d.name.number t b g f g.arrays initial beyond ws hidden low h.only)))

declarator_marked : (at : Places) (g : Scope) (base : TypeTree) (type : CType) (span : Span) (d : Declarator) (beyond : ℕ) (ws : List Visible) → AreHidden beyond g.visible ws → beyond ≤ length g.locals
    → Promises (IsDeclaring beyond ws d) (declarator at g base type span d)
declarator_marked at g base type span d beyond ws hidden low =
    declarator_promises (IsDeclaring beyond ws d) (λ (t : CType). Unit {0}) at g base type span d (λ few. anything_promised (without_stars base d.stars type))
    (λ few t _. passing_any (IsDeclaring beyond ws d) (declared_bounds (with_local d.name.number t None g) t (length g.locals) d.bounds) _ (λ b. bounded_local_marked at g d t span b beyond ws hidden low))
    (λ few t _ count here counted ended may.
    let inner = with_array d.name.number t count ended g in
    let set = core.SetLocal (length g.locals) (memory_of inner ended t count (site_at at span)) in
    settled_promises (IsDeclaring beyond ws d) (both (core.SetLocal (length g.locals) core.Null) set) inner (assigned_by inner.locals set inner.flow) span
    (λ f. local_marked d.name.number (row_type ended t) (Some (row_of (before_end ended count))) g f inner.arrays set beyond ws hidden low (λ may here. here)))

declarators_marked : (at : Places) (g : Scope) (base : TypeTree) (type : CType) (span : Span) (ds : List Declarator) (beyond : ℕ) (ws : List Visible) → AreHidden beyond g.visible ws → beyond ≤ length g.locals
    → Promises (IsMarked beyond (hiding beyond ds ws) (λ marks. marks)) (declarators at g base type span ds)
declarators_marked at g base type span [] beyond ws hidden low = record { only = λ may before many covers. tt; hidden = hidden; low = low }
declarators_marked at g base type span (d ∷ ds) beyond ws hidden low =
    passing_promises (IsDeclaring beyond ws d) (IsMarked beyond (hiding beyond (d ∷ ds) ws) (λ marks. marks)) (declarator at g base type span d) _ (declarator_marked at g base type span d beyond ws hidden low)
    (λ first h. passing_promises (IsMarked beyond (hiding beyond (d ∷ ds) ws) (λ marks. marks)) (IsMarked beyond (hiding beyond (d ∷ ds) ws) (λ marks. marks)) (declarators at first.1 base type span ds) _
    (declarators_marked at first.1 base type span ds beyond (record { name = d.name.number; local = beyond } ∷ ws) h.hidden h.low)
    (λ rest k. record { only = λ may before many covers. both_only may first.0 rest.0 (h.only may before many covers) (k.only may before many covers); hidden = k.hidden; low = k.low }))

declaration_marked : (at : Places) (g : Scope) (d : Declaration) (beyond : ℕ) (ws : List Visible) → AreHidden beyond g.visible ws → beyond ≤ length g.locals
    → Promises (IsMarked beyond (hiding beyond d.declarators ws) (λ marks. marks)) (declaration at g d)
declaration_marked at g d beyond ws hidden low =
    needs_promises (IsMarked beyond (hiding beyond d.declarators ws) (λ marks. marks)) (nat_lt (length g.locals) g.flow.vars) E08 d.span _
    (λ few. needs_promises (IsMarked beyond (hiding beyond d.declarators ws) (λ marks. marks)) (is_length (first_length d.declarators)) E08 d.span _
    (λ fits. passing_any (IsMarked beyond (hiding beyond d.declarators ws) (λ marks. marks)) (base_type g d.base) _ (λ type. declarators_marked at g d.base type d.span d.declarators beyond ws hidden low)))

pub first_marked_so : (at : Places) (g : Scope) (initial : ForInitial) (beyond : ℕ) (ws : List Visible) → AreHidden beyond g.visible ws → beyond ≤ length g.locals
    → Promises (IsMarked beyond (hidden_first beyond initial ws) (first_marked ws initial)) (first_part at g initial)
first_marked_so at g s.Nothing beyond ws hidden low = record { only = λ may before many covers. tt; hidden = hidden; low = low }
first_marked_so at g (s.Declares d) beyond ws hidden low = declaration_marked at g d beyond ws hidden low
first_marked_so at g (s.Assigns a) beyond ws hidden low = assigning_marked at g a beyond ws hidden low

mutual
  pub statement_marked : (at : Places) (g : Scope) (x : Statement) (beyond : ℕ) (ws : List Visible) → AreHidden beyond g.visible ws → beyond ≤ length g.locals → Promises (IsMarked beyond (hidden_by beyond x ws) (marked beyond ws x)) (statement at g x)
  statement_marked at g (s.Block mark inner span) beyond ws hidden low =
      passing_promises (AreMarked beyond (all_marked beyond ws inner)) (IsMarked beyond ws (all_marked beyond ws inner)) (statements at g inner) _ (statements_marked at g inner beyond ws hidden low)
      (λ w h. needs_promises (IsMarked beyond ws (all_marked beyond ws inner)) (not (is_unchecked mark || g.is_off)) E15 span _ (λ on. record { only = h.only; hidden = hidden; low = h.low }))
  statement_marked at g (s.Bundle assignments span) beyond ws hidden low = bundle_marked_so at g assignments span beyond ws hidden low
  statement_marked at g (s.Declare d span) beyond ws hidden low = declaration_marked at g d beyond ws hidden low
  statement_marked at g (s.Assign a span) beyond ws hidden low = assigning_marked at g a beyond ws hidden low
  statement_marked at g (s.CallAlone call span) beyond ws hidden low =
      passing_promises IsFreshCall (IsMarked beyond ws (λ marks. marks)) (call_typed at g call) _ (call_typed_fresh at g call) (λ c h. record { only = λ may before many covers. alone_only may c h; hidden = hidden; low = low })
  statement_marked at g (s.Empty span) beyond ws hidden low = record { only = λ may before many covers. tt; hidden = hidden; low = low }
  statement_marked at g (s.If test consequent span) beyond ws hidden low =
      passing_any (IsMarked beyond ws (marked beyond ws consequent)) (condition at g test) _
      (λ c. passing_promises (IsMarked beyond (hidden_by beyond consequent ws) (marked beyond ws consequent)) (IsMarked beyond ws (marked beyond ws consequent)) (statement at (when c true g) consequent) _ (statement_marked at (when c true g) consequent beyond ws hidden low)
      (λ x h. record { only = λ may before many covers. (h.only may before many covers, tt); hidden = hidden; low = h.low }))
  statement_marked at g (s.IfElse test consequent alternative span) beyond ws hidden low =
      let all = marked beyond ws (s.IfElse test consequent alternative span) in
      passing_any (IsMarked beyond ws all) (condition at g test) _
      (λ c. passing_promises (IsMarked beyond (hidden_by beyond consequent ws) (marked beyond ws consequent)) (IsMarked beyond ws all) (statement at (when c true g) consequent) _ (statement_marked at (when c true g) consequent beyond ws hidden low)
      (λ x h. passing_promises (IsMarked beyond (hidden_by beyond alternative ws) (marked beyond ws alternative)) (IsMarked beyond ws all) (statement at (at_alternative g c x.1) alternative) _ (statement_marked at (at_alternative g c x.1) alternative beyond ws hidden h.low)
      (λ y k. record {
        only = λ may before many covers.
            let between = marked beyond ws consequent before in
            (h.only may before many (covers_before may between (marked beyond ws alternative between) (marked_within beyond ws alternative between) covers), k.only may between ((marked_within beyond ws consequent before).many ∙ many) covers);
        hidden = hidden;
        low = k.low;
      })))
  statement_marked at g (s.While test body span) beyond ws hidden low =
      passing_any (IsMarked beyond ws (marked beyond ws body)) (condition at (at_loop body None g) test) _
      (λ c. passing_promises (IsMarked beyond (hidden_by beyond body ws) (marked beyond ws body)) (IsMarked beyond ws (marked beyond ws body)) (statement at (in_loop (when c true (at_loop body None g))) body) _
      (statement_marked at (in_loop (when c true (at_loop body None g))) body beyond ws hidden low)
      (λ x h. record { only = λ may before many covers. (h.only may before many covers, tt); hidden = hidden; low = h.low }))
  statement_marked at g (s.For initial test step body span) beyond ws hidden low =
      let inside = hidden_first beyond initial ws in
      let all = marked beyond ws (s.For initial test step body span) in
      passing_promises (IsMarked beyond inside (first_marked ws initial)) (IsMarked beyond ws all) (first_part at g initial) _ (first_marked_so at g initial beyond ws hidden low)
      (λ first h. passing_any (IsMarked beyond ws all) (optional_condition at (at_loop body step first.1) test) _
      (λ c. passing_promises (IsMarked beyond (hidden_by beyond body inside) (marked beyond inside body)) (IsMarked beyond ws all) (statement at (in_loop (when c true (at_loop body step first.1))) body) _
      (statement_marked at (in_loop (when c true (at_loop body step first.1))) body beyond inside h.hidden h.low)
      (λ x k. passing_promises (IsMarked beyond inside (step_marked inside step)) (IsMarked beyond ws all) (optional_step at (before_step first.1 x.1) step) _ (step_marked_so at (before_step first.1 x.1) step beyond inside h.hidden k.low)
      (λ y j. record {
        only = λ may before many covers.
            let a = first_marked ws initial before in
            let b = marked beyond inside body a in
            let at_a = (first_within ws initial before).many ∙ many in
            let at_b = (marked_within beyond inside body a).many ∙ at_a in
            let covers_b = covers_before may b (step_marked inside step b) (step_within inside step b) covers in
            let covers_a = covers_before may a b (marked_within beyond inside body a) covers_b in
            both_only may first.0 (core.Loop c x.0 y.0) (h.only may before many covers_a) (k.only may a at_a covers_b, j.only may b at_b covers);
        hidden = hidden;
        low = j.low;
      }))))
  statement_marked at g (s.Return value span) beyond ws hidden low =
      passing_promises IsReturn (IsMarked beyond ws (λ marks. marks)) (return at g value span) _ (return_is at g value span) (λ x h. record { only = λ may before many covers. return_only may x h; hidden = hidden; low = low })
  statement_marked at g (s.Break span) beyond ws hidden low = needs_promises (IsMarked beyond ws (λ marks. marks)) g.in_loop E30 span _ (λ ok. record { only = λ may before many covers. tt; hidden = hidden; low = low })
  statement_marked at g (s.Continue span) beyond ws hidden low = needs_promises (IsMarked beyond ws (λ marks. marks)) g.in_loop E30 span _ (λ ok. record { only = λ may before many covers. tt; hidden = hidden; low = low })

  pub statements_marked : (at : Places) (g : Scope) (xs : Statements) (beyond : ℕ) (ws : List Visible) → AreHidden beyond g.visible ws → beyond ≤ length g.locals → Promises (AreMarked beyond (all_marked beyond ws xs)) (statements at g xs)
  statements_marked at g s.NoMore beyond ws hidden low = record { only = λ may before many covers. tt; low = low }
  statements_marked at g (s.Then first others) beyond ws hidden low =
      let all = all_marked beyond ws (s.Then first others) in
      passing_promises (IsMarked beyond (hidden_by beyond first ws) (marked beyond ws first)) (AreMarked beyond all) (statement at g first) _ (statement_marked at g first beyond ws hidden low)
      (λ x h. passing_promises (AreMarked beyond (all_marked beyond (hidden_by beyond first ws) others)) (AreMarked beyond all) (statements at x.1 others) _ (statements_marked at x.1 others beyond (hidden_by beyond first ws) h.hidden h.low)
      (λ y k. record {
        only = λ may before many covers.
            let between = marked beyond ws first before in (
              h.only may before many (covers_before may between (all_marked beyond (hidden_by beyond first ws) others between) (all_within beyond (hidden_by beyond first ws) others between) covers),
              k.only may between ((marked_within beyond ws first before).many ∙ many) covers,
            );
        low = k.low;
      }))
