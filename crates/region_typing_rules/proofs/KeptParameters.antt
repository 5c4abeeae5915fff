-- Where no assignment to such a local was found, the body of a function leaves it as it was.
use Rattle.std.proofs.Common.{◌≡◌, ℕ, zero, suc, ◌<◌, Bool, true, false, List, [], ◌∷◌, length, Option, Some, None, refl, ap, ◌∙◌, subst, arith}
use Rattle.std.specs.Prelude.{◌||◌, replicate, slice_get, slice_set, slice_index_or}
use Rattle.std.proofs.lemmas.List.{length-replicate}
use Rattle.std.proofs.lemmas.Option.{slice_get_within}
use Rattle.ckc_text.specs.declared.place.Span.{Span}
use Rattle.ckc_tree.specs.Expressions as e
use Rattle.ckc_tree.specs.Expressions.{Expression}
use Rattle.ckc_tree.specs.Statements as s
use Rattle.ckc_tree.specs.Statements.{Assignment, ForInitial, Statement, Statements}
use Rattle.bounds_exprs.specs.declared.term.Bounds.{Bounds}
use Rattle.bounds_exprs.specs.Terms.{is_var}
use Rattle.bounds_flow_meaning.specs.Holding.{IsInt, AreInts}
use Rattle.pointer_modes.specs.Types.{CType, Int}
use Rattle.ckc_core.specs.Core as core
use Rattle.ckc_core.specs.States.{State}
use Rattle.ckc_core.specs.Steps.{Flow}
use Rattle.ckc_core.specs.Meaning.{Setting, effects, knot}
use Rattle.region_typing_rules.specs.Verdicts.{Passes}
use Rattle.region_typing_rules.specs.Scopes.{Scope, Visible}
use Rattle.region_typing_rules.specs.Operands.{Places}
use Rattle.region_typing_rules.specs.Statements.{statements}
use Rattle.region_typing_rules.specs.Knowing.{local_number, marked_at, target_marked, assignment_marked, bundle_marked, step_marked, hidden_by, hidden_first, first_marked, marked, all_marked}
use Rattle.region_typing_rules.specs.KeptParameters.{first_of, changed_at, target_changed, assignment_changed, bundle_changed, step_changed, first_changed, changed, all_changed}
use Rattle.region_typing_rules.specs.Items.{names}
use Rattle.region_typing_rules.specs.KnownIsSo.{WhereGiven}
use Rattle.region_typing_rules.proofs.Verdicts.{Promises}
use Rattle.region_typing_rules.proofs.Signatures.{number_same}
use Rattle.region_typing_rules.proofs.Terms.{so_further}
use Rattle.region_typing_rules.proofs.Moving.{IsMovedTo, effects_move, knots_move}
use Rattle.region_typing_rules.proofs.Marking.{AreMarked, hidden_here, statements_marked}

-- ---- marks

first_none : (a b : Option Span) → first_of a b ≡ None → a ≡ None
first_none None b h = refl
first_none (Some span) b h = absurd (cc)

later_none : (a b : Option Span) → first_of a b ≡ None → b ≡ None
later_none None b h = h
later_none (Some span) b h = absurd (cc)

set_elsewhere : (marks : List Bool) (k y : ℕ) → (k ≡ y → ⊥) → slice_index_or (slice_set marks k true) y true ≡ slice_index_or marks y true
set_elsewhere [] k y other = refl
set_elsewhere (m ∷ marks) zero zero other = absurd (other refl)
set_elsewhere (m ∷ marks) zero (suc y) other = refl
set_elsewhere (m ∷ marks) (suc k) zero other = refl
set_elsewhere (m ∷ marks) (suc k) (suc y) other = set_elsewhere marks k y (λ same. other (ap suc same))

unmarked : (n p : ℕ) → p < n → slice_index_or (replicate n false) p true ≡ false
unmarked zero p low = absurd (omega (arith, low))
unmarked (suc n) zero low = refl
unmarked (suc n) (suc p) low = unmarked n p (omega (arith, low))

-- a local that may not be assigned keeps its mark where no assignment to it was found
module _ (kept : ℕ → Bool) (p : ℕ) (is : kept p ≡ true) where
  -- the mark is what it was
  abbrev SameMark : List Bool → List Bool → Type 0
  SameMark before after = slice_index_or after p true ≡ slice_index_or before p true

  at_same : (o : Option ℕ) (span : Span) (marks : List Bool) → changed_at kept o span ≡ None → SameMark marks (marked_at o marks)
  at_same None span marks h = refl
  at_same (Some k) span marks h = by (kept k) refl
    where
      by : (test : Bool) → kept k ≡ test → SameMark marks (slice_set marks k true)
      by true e = let now = rw e at h in absurd (cc)
      by false e = set_elsewhere marks k p (λ same. let no : kept p ≡ false = subst (λ x. kept x ≡ false) same e in absurd (cc))

  target_same : (visible : List Visible) (x : Expression) (span : Span) (marks : List Bool) → target_changed kept visible x span ≡ None → SameMark marks (target_marked visible x marks)
  target_same visible (e.Number value span') span marks h = refl
  target_same visible (e.Character value span') span marks h = refl
  target_same visible (e.Text bytes span') span marks h = refl
  target_same visible (e.Name name) span marks h = at_same (local_number visible name.number) span marks h
  target_same visible (e.Call callee arguments span') span marks h = refl
  target_same visible (e.SizeOf type span') span marks h = refl
  target_same visible (e.Cast word type operand span') span marks h = refl
  target_same visible (e.BoundedCast word type operand bounds span') span marks h = refl
  target_same visible (e.Malloc word type size span') span marks h = refl
  target_same visible (e.Calloc word type count size span') span marks h = refl
  target_same visible (e.Index base index span') span marks h = refl
  target_same visible (e.Dot base member span') span marks h = refl
  target_same visible (e.Arrow base member span') span marks h = refl
  target_same visible (e.Unary operator operand span') span marks h = refl
  target_same visible (e.Binary operator left right span') span marks h = refl

  assignment_same : (visible : List Visible) (a : Assignment) (marks : List Bool) → assignment_changed kept visible a ≡ None → SameMark marks (assignment_marked visible a marks)
  assignment_same visible (s.Store operator target value span) marks h = target_same visible target span marks h
  assignment_same visible (s.Step operator side target span) marks h = target_same visible target span marks h

  bundle_same : (visible : List Visible) (xs : List Assignment) (marks : List Bool) → bundle_changed kept visible xs ≡ None → SameMark marks (bundle_marked visible xs marks)
  bundle_same visible [] marks h = refl
  bundle_same visible (a ∷ xs) marks h =
      let first = assignment_changed kept visible a in
      let others = bundle_changed kept visible xs in
      bundle_same visible xs (assignment_marked visible a marks) (later_none first others h) ∙ assignment_same visible a marks (first_none first others h)

  step_same : (visible : List Visible) (o : Option Assignment) (marks : List Bool) → step_changed kept visible o ≡ None → SameMark marks (step_marked visible o marks)
  step_same visible None marks h = refl
  step_same visible (Some a) marks h = assignment_same visible a marks h

  first_same : (visible : List Visible) (initial : ForInitial) (marks : List Bool) → first_changed kept visible initial ≡ None → SameMark marks (first_marked visible initial marks)
  first_same visible s.Nothing marks h = refl
  first_same visible (s.Declares d) marks h = refl
  first_same visible (s.Assigns a) marks h = assignment_same visible a marks h

  mutual
    pub marked_same : (beyond : ℕ) (visible : List Visible) (x : Statement) (marks : List Bool) → changed kept beyond visible x ≡ None → SameMark marks (marked beyond visible x marks)
    marked_same beyond visible (s.Block mark inner span) marks h = all_same beyond visible inner marks h
    marked_same beyond visible (s.Bundle assignments span) marks h = bundle_same visible assignments marks h
    marked_same beyond visible (s.Declare d span) marks h = refl
    marked_same beyond visible (s.Assign a span) marks h = assignment_same visible a marks h
    marked_same beyond visible (s.CallAlone call span) marks h = refl
    marked_same beyond visible (s.Empty span) marks h = refl
    marked_same beyond visible (s.If test consequent span) marks h = marked_same beyond visible consequent marks h
    marked_same beyond visible (s.IfElse test consequent alternative span) marks h =
        let first = changed kept beyond visible consequent in
        let second = changed kept beyond visible alternative in
        marked_same beyond visible alternative (marked beyond visible consequent marks) (later_none first second h) ∙ marked_same beyond visible consequent marks (first_none first second h)
    marked_same beyond visible (s.While test body span) marks h = marked_same beyond visible body marks h
    marked_same beyond visible (s.For initial test step body span) marks h =
        let inside = hidden_first beyond initial visible in
        let first = first_changed kept visible initial in
        let stepped = step_changed kept inside step in
        let turned = changed kept beyond inside body in
        let others = later_none first (first_of stepped turned) h in
        let a = first_marked visible initial marks in
        step_same inside step (marked beyond inside body a) (first_none stepped turned others)
        ∙ (marked_same beyond inside body a (later_none stepped turned others) ∙ first_same visible initial marks (first_none first (first_of stepped turned) h))
    marked_same beyond visible (s.Return value span) marks h = refl
    marked_same beyond visible (s.Break span) marks h = refl
    marked_same beyond visible (s.Continue span) marks h = refl

    pub all_same : (beyond : ℕ) (visible : List Visible) (xs : Statements) (marks : List Bool) → all_changed kept beyond visible xs ≡ None → SameMark marks (all_marked beyond visible xs marks)
    all_same beyond visible s.NoMore marks h = refl
    all_same beyond visible (s.Then first others) marks h =
        let here = changed kept beyond visible first in
        let later = all_changed kept beyond (hidden_by beyond first visible) others in
        all_same beyond (hidden_by beyond first visible) others (marked beyond visible first marks) (later_none here later h) ∙ marked_same beyond visible first marks (first_none here later h)

-- ---- runs

-- what a body assigns is what it marks, in each run
body_moves : (at : Places) (g : Scope) (xs : Statements) (w : core.Statements × Scope) → statements at g xs ≡ Passes w → (audited : Bool) (setting : Setting) (ticks : ℕ) (r : State)
    → WhereGiven (λ (flow : Flow) (t : State). IsMovedTo (λ y. slice_index_or (all_marked (length g.locals) g.visible xs (replicate (length g.locals) false)) y true) r t) (effects audited setting (knot audited setting ticks) w.0 r)
body_moves at g xs w passes audited setting ticks r =
    let many = length g.locals in
    let may : ℕ → Bool = λ y. slice_index_or (all_marked many g.visible xs (replicate many false)) y true in
    let are = subst (Promises (AreMarked many (all_marked many g.visible xs))) passes (statements_marked at g xs many g.visible (hidden_here many g.visible) (omega arith)) in
    effects_move audited setting (knot audited setting ticks) (knots_move audited setting ticks) may w.0 r (are.only may (replicate many false) (length-replicate many false) (λ y h. h))

-- a body leaves a local as it was that may not be assigned, where no assignment to it was found
pub body_keeps : (at : Places) (g : Scope) (xs : Statements) (w : core.Statements × Scope) → statements at g xs ≡ Passes w → (kept : ℕ → Bool) → all_changed kept (length g.locals) g.visible xs ≡ None
    → (p : ℕ) → kept p ≡ true → p < length g.locals → (audited : Bool) (setting : Setting) (ticks : ℕ) (r : State)
    → WhereGiven (λ (flow : Flow) (t : State). slice_get t.locals p ≡ slice_get r.locals p) (effects audited setting (knot audited setting ticks) w.0 r)
body_keeps at g xs w passes kept none p is low audited setting ticks r =
    let many = length g.locals in
    let marks = all_marked many g.visible xs (replicate many false) in
    let free : slice_index_or marks p true ≡ false = all_same kept p is many g.visible xs (replicate many false) none ∙ unmarked many p low in
    so_further (λ (flow : Flow) (t : State). IsMovedTo (λ y. slice_index_or marks y true) r t) (λ (flow : Flow) (t : State). slice_get t.locals p ≡ slice_get r.locals p) (effects audited setting (knot audited setting ticks) w.0 r)
    (body_moves at g xs w passes audited setting ticks r) (λ flow t moved. moved.others p free)

-- ---- the bounds of a result

-- the locals that the ends name are as they were
pub record AreAsBefore (b : Bounds) (r t : State) : Type 0 where
  pub lo : (x : ℕ) → b.lo.var ≡ Some x → slice_get t.locals x ≡ slice_get r.locals x
  pub hi : (x : ℕ) → b.hi.var ≡ Some x → slice_get t.locals x ≡ slice_get r.locals x

is_own : (x : ℕ) (o : Option ℕ) → o ≡ Some x → is_var x o ≡ true
is_own x o e = ap (is_var x) e ∙ number_same x

lo_named : (x : ℕ) (b : Bounds) → b.lo.var ≡ Some x → names (Some b) x ≡ true
lo_named x b e = rw (is_own x b.lo.var e) refl

hi_named : (x : ℕ) (b : Bounds) → b.hi.var ≡ Some x → names (Some b) x ≡ true
hi_named x b e = either (is_var x b.lo.var) (is_var x b.hi.var) (is_own x b.hi.var e)
  where
    either : (p q : Bool) → q ≡ true → (p || q) ≡ true
    either true q h = refl
    either false q h = h

int_low : (types : List CType) (o : Option ℕ) (x : ℕ) → IsInt types o → o ≡ Some x → x < length types
int_low types o x h e = slice_get_within types x Int (subst (IsInt types) e h)

-- a body leaves the ends of its result's bounds as they were
pub ends_kept : (at : Places) (g : Scope) (xs : Statements) (w : core.Statements × Scope) → statements at g xs ≡ Passes w → (b : Bounds) → all_changed (names (Some b)) (length g.locals) g.visible xs ≡ None
    → AreInts g.locals b → (audited : Bool) (setting : Setting) (ticks : ℕ) (r : State)
    → WhereGiven (λ (flow : Flow) (t : State). AreAsBefore b r t) (effects audited setting (knot audited setting ticks) w.0 r)
ends_kept at g xs w passes b none ints audited setting ticks r =
    let many = length g.locals in
    let marks = all_marked many g.visible xs (replicate many false) in
    let free : (p : ℕ) → names (Some b) p ≡ true → p < many → slice_index_or marks p true ≡ false = λ p is low. all_same (names (Some b)) p is many g.visible xs (replicate many false) none ∙ unmarked many p low in
    so_further (λ (flow : Flow) (t : State). IsMovedTo (λ y. slice_index_or marks y true) r t) (λ (flow : Flow) (t : State). AreAsBefore b r t) (effects audited setting (knot audited setting ticks) w.0 r)
    (body_moves at g xs w passes audited setting ticks r)
    (λ flow t moved. record {
      lo = λ x e. moved.others x (free x (lo_named x b e) (int_low g.locals b.lo.var x ints.lo e));
      hi = λ x e. moved.others x (free x (hi_named x b e) (int_low g.locals b.hi.var x ints.hi e));
    })
