-- What is known behind an assignment or a declaration is so, once it is settled.
use Rattle.std.proofs.Common.{◌≡◌, ℕ, ◌+◌, ◌<◌, ◌≤◌, pos, Bool, true, false, ◌==◌, List, [], ◌∷◌, ◌++◌, length, Option, Some, None, refl, sym, ap, ◌∙◌, subst, arith, suc}
use Rattle.std.specs.Prelude.{◌-◌, nat_lt, slice_get, slice_set, nat_le, ◌^◌}
use Rattle.std.proofs.lemmas.Bool.{ltb-true, leb-true, and_parts, le-leb}
use Rattle.std.proofs.lemmas.Bool.Decides.{nat_tests}
use Rattle.std.proofs.lemmas.List.{length-append}
use Rattle.ckc_text.specs.declared.place.Span.{Span}
use Rattle.ckc_text.specs.declared.code.Code.TheVariants.{E08, E13, E21}
use Rattle.ckc_tree.specs.Types.{TypeTree}
use Rattle.ckc_tree.specs.Statements as s
use Rattle.ckc_tree.specs.Statements.{Initializer, Declarator, Declaration, Assignment, assignment_span, ForInitial}
use Rattle.bounds_exprs.specs.declared.term.Bounds.{Bounds}
use Rattle.pointer_modes.specs.declared.ctype.Mode.{Mode}
use Rattle.pointer_modes.specs.declared.ctype.Kind.{Kind}
use Rattle.pointer_modes.specs.declared.ctype.Mode.TheVariants as modes
use Rattle.pointer_modes.specs.Types.{CType, Int, Char, Struct, Pointer, Structure}
use Rattle.bounds_flow.specs.Flows.{Knowledge, in_bundle}
use Rattle.bounds_flow.specs.Conditions.{IsFlow}
use Rattle.bounds_flow_meaning.specs.Holding.{Fits, IsValid, target_size, types_of}
use Rattle.bounds_flow_meaning.specs.Laws.{MayDeclare}
use Rattle.bounds_flow_meaning.proofs.AllSteps.{flows_hold}
use Rattle.bounds_flow_meaning.proofs.Numbers.{found_same}
use Rattle.bounds_flow_meaning.proofs.Validity.{null_valid}
use Rattle.ckc_core.specs.Core as core
use Rattle.ckc_core.specs.Outcome.{Gives, and_then}
use Rattle.ckc_core.specs.States.{Value, Number, Null, Local, State, has_type}
use Rattle.ckc_core.specs.Steps.{Result, Flow, Next, Broke, Continued, Returned, on_next, set_if, set_local, set_over}
use Rattle.ckc_core.specs.Meaning.{Knot, Setting, effect, effects, knot, value}
use Rattle.region_typing_rules.specs.Scopes.{Scope}
use Rattle.region_typing_rules.specs.Types.{is_scalar, base_type, Counts, may_lead_to}
use Rattle.region_typing_rules.specs.Operands.{Places, site_at}
use Rattle.region_typing_rules.specs.Knowing.{assigned_by, settling, knowing}
use Rattle.region_typing_rules.specs.Statements.{Walked, both, assignment, assigning, assignments, are_locals, bundle, zero_value, with_local, initialised, first_value, declared, bounded_local, declarator, declarators, declaration, optional_step, first_part, row_type, with_array, first_length, array_kind, before_end, target_of}
use Rattle.region_typing_rules.specs.DeclaredBounds.{declared_bounds, row_of}
use Rattle.region_typing_rules.specs.DeclaredFormed.{IsFormedIf}
use Rattle.region_typing_rules.specs.KnownIsSo.{WhereGiven, HoldsAlike, FitsAlike, IsKnown, IsDeclared, HasLocals}
use Rattle.region_typing_rules.proofs.DeclaredBounds.{declared_formed, formed_below}
use Rattle.region_typing_rules.proofs.Sure.{sure_further}
use Rattle.region_typing_rules.proofs.Terms.{formed_later, so_both}
use Rattle.region_typing_rules.proofs.Verdicts.{Promises, passing_promises, needs_promises, both_promise, later_promises, Extends, extends_append, extends_last, extends_length}
use Rattle.region_typing_rules.proofs.Moving.{IsMovedTo, KnotMoves, effect_moves, knots_move}
use Rattle.region_typing_rules.proofs.Alike.{fits_moved, has_alike}
use Rattle.region_typing_rules.proofs.Between.{MayStand, IsAmid, IsSettling, amid_bundle, amid_here, assigned_amid, assigned_bundled, stands_pointing, settling_promises, settled_beside, between_settled}
use Rattle.region_typing_rules.proofs.Assigns.{OnNext, IsBehind, IsGivenTo, IsPlain, IsRight, AreMoving, itself_equal, plain_so, set_again}
use Rattle.region_typing_rules.proofs.CountedTexts.{IsRightLength}
use Rattle.region_typing_rules.proofs.RightNodes.{counted_text}
use Rattle.region_typing_rules.proofs.NotedTexts.{IsNotedLength, IsNotedStatement, assignment_noted, initialised_noted}
use Rattle.region_typing_rules.specs.Typed as typed
use Rattle.ckc_core.specs.declared.program.Terminator.TheVariants as terminators
use Rattle.bounds_exprs.specs.Normal.{constant}
use Rattle.std.proofs.lemmas.Option.{same_Some}
use Rattle.region_typing_rules.specs.Typed.{Frame, HasType, IsScalar, IsSimple, AreStatements}
use Rattle.region_typing_rules.proofs.Known.{IsKnown as IsKnownType, base_known, without_known}
use Rattle.region_typing_rules.proofs.Knowledge.{KnowsFile, Knows}
use Rattle.region_typing_rules.proofs.Pointings.{simple_pointing}
use Rattle.region_typing_rules.proofs.Growth.{Grows, GrowsTo, declarator_grows, file_known, local_closed, closed_arrays}
use Rattle.region_typing_rules.proofs.Statements.{IsAny, simple_any, zero_typed, assignment_promises, initialised_promises, both_typed, knows_from}
use Rattle.region_typing_rules.proofs.Goes.{IsNext, IsKept, Runs, IsKnot, has_locals, runs_further, runs_both, runs_then}
use Rattle.region_typing_rules.proofs.Soundness.{simple_runs, behind_so, given_to_so}
use Rattle.std.specs.List.{AllByRecursion}
use Rattle.ckc_core.specs.States.{shapes}
use Rattle.region_typing_rules.proofs.Marks.{IsAssignment, IsFirst, assignment_plain, initialised_plain}
use Rattle.region_typing_rules.proofs.Ways.{IsWalk, Declares, MayCome, declares_here, declares_knowing, declares_local, declares_on, fits_further, walk_knowing, walk_local, walk_arrays, declares_arrays}
use Rattle.region_typing_rules.proofs.LocalArrays.{memory_of, settled_array, declarator_promises}
use Rattle.region_typing_rules.proofs.Nodes.{number_sized}
use Rattle.region_typing_rules.proofs.Expressions.{memory_typed, ended_memory_typed}
use Rattle.region_typing_rules.proofs.Memory.{MayConsist}
use Rattle.region_typing_rules.proofs.InForce.{AreSo, IsPointing}
use Rattle.ckc_core.specs.declared.program.Site.{Site}
use Rattle.region_typing_rules.specs.Cells.{is_length}
use Rattle.region_typing_rules.specs.Verdicts.{Passes, passing}
use Rattle.pointer_modes.specs.Layout.{size_of}
use Rattle.bounds_exprs.specs.Terms.{is_within, term_limit}

-- ---- what goes on

pub on_next_further : (P Q : State → Type 0) (flow : Flow) (s : State) → OnNext P flow s → (P s → Q s) → OnNext Q flow s
on_next_further P Q Next s h more = more h
on_next_further P Q Broke s h more = h
on_next_further P Q Continued s h more = h
on_next_further P Q (Returned v) s h more = h

module _ (frame : Frame) (types : List CType) (all_scalar : AllByRecursion IsScalar types) (vars budget sandbox trusted : ℕ) where
  abbrev pub running : Setting
  running = record { program = frame.program; budget = budget; sandbox = sandbox; trusted = trusted }

  abbrev pub ticking : ℕ → Knot
  ticking n = knot true running n

  -- calls that come in so many ticks at most
  abbrev pub Knots : ℕ → Type 0
  Knots n = (m : ℕ) → m ≤ n → IsKnot frame budget m (ticking m)

  abbrev moving : (n : ℕ) → KnotMoves true running (ticking n)
  moving n = knots_move true running n

  -- a state at which the walk stands in a scope
  pub record IsAt (n low : ℕ) (g : Scope) (s : State) : Type 0 where
    pub kept : IsKept frame budget n low types s
    pub known : IsKnown frame.structs g s

  abbrev pub Reaching : Scope → Type 0
  Reaching g = Extends g.locals types

  pub has_of : (n low : ℕ) (g : Scope) (s : State) → Reaching g → IsKept frame budget n low types s → HasLocals g.locals s
  has_of n low g s reaches kept = has_locals frame.structs (shapes s.blocks) g.locals types s.locals reaches kept.locals

  pub few_vars : (g : Scope) → IsWalk vars g → length g.locals ≤ g.flow.vars
  few_vars g w = let few = w.few in let size = w.between.size in omega (arith, few, size)

  -- it goes on to the next statement, of whose state this is so
  abbrev pub Onward : (State → Type 0) → Flow → State → Type 0
  Onward P flow t = IsNext flow t × P t

  onward_of : (P : State → Type 0) (flow : Flow) (t : State) → IsNext flow t × OnNext P flow t → Onward P flow t
  onward_of P flow t h = (h.0, subst (λ flow. OnNext P flow t) h.0 h.1)

  -- a statement that goes on from where the walk stands
  pub record GoesOn (g : Scope) (w : Walked) : Type 0 where
    pub walk : IsWalk vars w.1
    pub breaks : w.1.breaks ≡ g.breaks
    pub continues : w.1.continues ≡ g.continues
    pub more : Extends g.locals w.1.locals
    pub keeps : Declares g w.1
    pub typed : Reaching w.1 → IsAny frame types all_scalar w.0
    pub runs : Reaching w.1 → (n : ℕ) → Knots n → (low : ℕ) (s : State) → IsAt n low g s → Runs frame budget n low types (Onward (IsKnown frame.structs w.1)) (effect true running (ticking n) w.0 s)

  pub nothing_goes : (g : Scope) → IsWalk vars g → GoesOn g (core.Nothing, g)
  nothing_goes g w = record { walk = w; breaks = refl; continues = refl; more = λ k x e. e; keeps = declares_here g; typed = λ reaches. simple_any frame types all_scalar g core.Nothing typed.nothing; runs = λ reaches n knots low s at. ((refl, at.known), at.kept) }

  -- behind a settling
  settled_fits : {known : List Structure} {ts : List CType} (n : ℕ) (f mid k : Knowledge) (s : State) → IsAmid known ts f mid → IsSettling mid k → HoldsAlike frame.structs n mid s → FitsAlike frame.structs n k s
  settled_fits n f mid k s amid is h t alike = subst (λ k. Fits frame.structs k t) (sym is.is) ((flows_hold frame.structs mid amid.flow).settle t is.met (h t alike))

  -- ---- simple statements

  -- the flow in which a statement stands, between statements or in a bundle: it speaks of each local, and bounds in force are such as may stand at nodes
  record HasFlow (g : Scope) : Type 0 where
    flow : IsFlow g.flow
    few : length g.locals ≤ g.flow.vars
    pointers : AreSo (IsPointing g.locals) g.flow

  walk_flow : (g : Scope) → IsWalk vars g → HasFlow g
  walk_flow g w = record {
    flow = w.between.flow;
    few = few_vars g w;
    pointers = λ k. record { bounds = λ b e. stands_pointing g.structs g.locals k b ((w.between.bounds k).bounds b e); declared = λ b e. stands_pointing g.structs g.locals k b ((w.between.bounds k).declared b e) };
  }

  -- what is assigned to a pointer is so many elements behind a local, where the walk says so
  are_moving : (n low : ℕ) (knots : Knots n) (g : Scope) (f : HasFlow g) (reaches : Reaching g) {x : core.Statement} → IsSimple frame types g x → (s : State) → IsAt n low g s → AreMoving true running (ticking n) (moving n) frame.structs g.structs g.locals g.flow f.flow f.few x s
  are_moving n low knots g f reaches typed.nothing s at = tt
  are_moving n low knots g f reaches (typed.set_local {k = x} {t = t} {e = e} found h) s at = λ c is.
      so_both (IsBehind frame.structs g.locals e) (IsGivenTo frame.structs (length g.locals) c e) (value true running (ticking n) e s)
      (behind_so frame budget n sandbox trusted (ticking n) (knots n (omega arith)) low types g f.flow f.few reaches h s (at.known, at.kept))
      (given_to_so frame budget n sandbox trusted (ticking n) (knots n (omega arith)) low types g f.flow f.few reaches c (subst (HasType frame types g e) (same_type t c (sym found ∙ reaches x c is)) h) s (at.known, at.kept))
    where
      same_type : (a b : CType) → Some a ≡ Some b → a ≡ b
      same_type a b q = cc
  are_moving n low knots g f reaches (typed.store scalar place h) s at = tt
  are_moving n low knots g f reaches (typed.store_bounded counts is h asked) s at = tt
  are_moving n low knots g f reaches (typed.update_local found number char h) s at = tt
  are_moving n low knots g f reaches (typed.update number place h) s at = tt
  are_moving n low knots g f reaches (typed.evaluate h) s at = tt
  are_moving n low knots g f reaches (typed.call_alone known h asked) s at = tt
  are_moving n low knots g f reaches (typed.print h) s at = tt
  are_moving n low knots g f reaches (typed.put_byte h) s at = tt

  -- a count is of a local with right bounds at its node, where the walk says so
  length_right : (g : Scope) → HasFlow g → (e : core.Expression) {t : CType} → HasType frame types g e t → IsNotedLength g e → IsRightLength g.structs g.locals g.flow e
  length_right g f (core.Length (core.Local k b) site) h noted = λ p e.
      let text = counted_text frame types h k b site refl in
      record { mode = text.mode; pointer = text.pointer; size = text.size p e; same = noted p e; named = λ d is. ((f.pointers k).bounds d is).named }
  length_right g f e h noted = tt

  right_of : (g : Scope) → HasFlow g → {x : core.Statement} → IsSimple frame types g x → IsNotedStatement g x → IsRight g.structs g.locals g.flow x
  right_of g f (typed.set_local {e = e} found h) noted = length_right g f e h noted
  right_of g f simple noted = tt

  zero_right : (known : List Structure) (ts : List CType) (f : Knowledge) (t : CType) → IsRightLength known ts f (zero_value t)
  zero_right known ts f Int = tt
  zero_right known ts f Char = tt
  zero_right known ts f (Struct number) = tt
  zero_right known ts f (Pointer mode kind target) = tt

  -- a simple statement, and what is known in the midst of it
  simple_goes : (g : Scope) → HasFlow g → (x : core.Statement) → IsPlain g.locals x → IsNotedStatement g x → Reaching g → IsSimple frame types g x → (n : ℕ) → Knots n → (low : ℕ) (s : State) → IsAt n low g s
      → Runs frame budget n low types (Onward (HoldsAlike frame.structs (length g.locals) (assigned_by g.locals x g.flow))) (effect true running (ticking n) x s)
  simple_goes g f x plain noted reaches simple n knots low s at =
      runs_further frame budget n low types (λ flow t. IsNext flow t × OnNext (HoldsAlike frame.structs (length g.locals) (assigned_by g.locals x g.flow)) flow t) (Onward (HoldsAlike frame.structs (length g.locals) (assigned_by g.locals x g.flow))) (effect true running (ticking n) x s)
      (runs_both frame budget n low types IsNext (OnNext (HoldsAlike frame.structs (length g.locals) (assigned_by g.locals x g.flow))) (effect true running (ticking n) x s)
      (simple_runs frame budget n sandbox trusted (ticking n) (knots n (omega arith)) low types g f.flow f.few reaches simple s (at.known, at.kept))
      (plain_so true running (ticking n) (moving n) frame.structs g.structs g.locals g.flow f.flow f.few x plain (right_of g f simple noted) s (are_moving n low knots g f reaches simple s at) (has_of n low g s reaches at.kept) (λ t alike. (at.known t alike).holds)))
      (onward_of (HoldsAlike frame.structs (length g.locals) (assigned_by g.locals x g.flow)))

  -- and once it is settled
  assigned_goes : (g : Scope) → IsWalk vars g → (x : core.Statement) → IsPlain g.locals x → IsNotedStatement g x → (Reaching g → IsSimple frame types g x) → (k : Knowledge) → IsSettling (assigned_by g.locals x g.flow) k → GoesOn g (x, knowing k g)
  assigned_goes g w x plain noted simple k is =
      let amid = assigned_amid g.locals g.flow g.flow x (amid_here vars g.flow w.between) (few_vars g w) in
      let beside = settled_beside g.flow (assigned_by g.locals x g.flow) k amid is in
      record {
        walk = walk_knowing vars k g (between_settled vars g.flow (assigned_by g.locals x g.flow) k w.between amid is) beside w;
        breaks = refl;
        continues = refl;
        more = λ k x e. e;
        keeps = declares_knowing k g beside;
        typed = λ reaches. simple_any frame types all_scalar g x (simple reaches);
        runs = λ reaches n knots low s at.
            runs_further frame budget n low types (Onward (HoldsAlike frame.structs (length g.locals) (assigned_by g.locals x g.flow))) (Onward (IsKnown frame.structs (knowing k g))) (effect true running (ticking n) x s)
            (simple_goes g (walk_flow g w) x plain noted reaches (simple reaches) n knots low s at)
            (λ flow t q. (q.0, settled_fits (length g.locals) g.flow (assigned_by g.locals x g.flow) k t amid is q.1));
      }

  -- what is known of the file where a walk stands
  pub knows_here : (g : Scope) → IsWalk vars g → KnowsFile frame g → Reaching g → Knows frame types g
  knows_here g w file reaches = (let f = walk_flow g w in knows_from frame types all_scalar g file f.flow f.pointers f.few w.result reaches)

  IsAssigned : Scope → Assignment → core.Statement → Type 0
  IsAssigned g a x = IsAssignment g (target_of a) x × (Reaching g → IsSimple frame types g x)

  pub assigning_goes : (at : Places) (g : Scope) → IsWalk vars g → KnowsFile frame g → (a : Assignment) → Promises (GoesOn g) (assigning at g a)
  assigning_goes at g w file a =
      passing_promises (λ (x : core.Statement). (IsAssignment g (target_of a) x × IsNotedStatement g x) × (Reaching g → IsSimple frame types g x)) (GoesOn g) (assignment at g a) _
      (both_promise (λ (x : core.Statement). IsAssignment g (target_of a) x × IsNotedStatement g x) (λ (x : core.Statement). Reaching g → IsSimple frame types g x) (assignment at g a)
      (both_promise (IsAssignment g (target_of a)) (IsNotedStatement g) (assignment at g a) (assignment_plain at g a) (assignment_noted at g a))
      (later_promises (Reaching g) (IsSimple frame types g) (assignment at g a) (λ reaches. assignment_promises frame types all_scalar at g (knows_here g w file reaches) a)))
      (λ x h. passing_promises (IsSettling (assigned_by g.locals x g.flow)) (GoesOn g) (settling (assigned_by g.locals x g.flow) (assignment_span a)) _ (settling_promises (assigned_by g.locals x g.flow) (assignment_span a))
      (λ k is. assigned_goes g w x h.0.0.plain h.0.1 h.1 k is))

  pub step_goes : (at : Places) (g : Scope) → IsWalk vars g → KnowsFile frame g → (o : Option Assignment) → Promises (GoesOn g) (optional_step at g o)
  step_goes at g w file None = nothing_goes g w
  step_goes at g w file (Some a) = assigning_goes at g w file a

  -- ---- two statements in a row

  next_runs : (n low : ℕ) (P Q : State → Type 0) (rest : State → Result Flow) (flow : Flow) (s : State) → Onward P flow s → (P s → Runs frame budget n low types (Onward Q) (rest s)) → Runs frame budget n low types (Onward Q) (on_next rest flow s)
  next_runs n low P Q rest flow s h more = subst (λ flow. Runs frame budget n low types (Onward Q) (on_next rest flow s)) (sym h.0) (more h.1)

  both_runs : (n low : ℕ) (P Q : State → Type 0) (x y : core.Statement) (s : State) → Runs frame budget n low types (Onward P) (effect true running (ticking n) x s)
      → ((t : State) → IsKept frame budget n low types t → P t → Runs frame budget n low types (Onward Q) (effect true running (ticking n) y t)) → Runs frame budget n low types (Onward Q) (effect true running (ticking n) (both x y) s)
  both_runs n low P Q x y s h more =
      runs_then frame budget n low types (Onward P) (Onward Q) (effect true running (ticking n) x s) (on_next (effects true running (ticking n) (core.Then y core.NoMore))) h
      (λ flow t k kept. next_runs n low P Q (effects true running (ticking n) (core.Then y core.NoMore)) flow t k
      (λ p. runs_then frame budget n low types (Onward Q) (Onward Q) (effect true running (ticking n) y t) (on_next (effects true running (ticking n) core.NoMore)) (more t kept p)
      (λ flow' u q u_kept. next_runs n low Q Q (effects true running (ticking n) core.NoMore) flow' u q (λ k. ((refl, k), u_kept)))))

  -- ---- bundles

  -- a flow in a bundle, of the scope before it: declared bounds are the same, and those in force are such as may stand at nodes
  record IsInside (g : Scope) (f : Knowledge) : Type 0 where
    amid : IsAmid g.structs g.locals g.flow f
    bundled : f.bundled ≡ true
    pointers : Reaching g → AreSo (IsPointing g.locals) f

  -- assignments that a walk goes through in a bundle
  record Assigns (g : Scope) (f : Knowledge) (w : core.Statements × Knowledge) : Type 0 where
    inside : IsInside g w.1
    typed : Reaching g → (result : Option CType) (bounds : Option Bounds) (loop : Bool) → AreStatements frame types result bounds loop w.0
    runs : Reaching g → (n : ℕ) → Knots n → (low : ℕ) (s : State) → IsKept frame budget n low types s → HoldsAlike frame.structs (length g.locals) f s
        → Runs frame budget n low types (Onward (HoldsAlike frame.structs (length g.locals) w.1)) (effects true running (ticking n) w.0 s)

  begins_inside : (g : Scope) → IsWalk vars g → IsInside g (in_bundle g.flow)
  begins_inside g w = record { amid = amid_bundle g.flow g.flow (amid_here vars g.flow w.between); bundled = refl; pointers = λ reaches. (walk_flow g w).pointers }

  file_inside : (f : Knowledge) (g : Scope) → KnowsFile frame g → KnowsFile frame (knowing f g)
  file_inside f g file =
      record { structs = file.structs; closed = file.closed; few_members = file.few_members; scalar_members = file.scalar_members; variables = file.variables; texts = file.texts; trusted = file.trusted; tainted = file.tainted }

  inside_flow : (g : Scope) → IsWalk vars g → (f : Knowledge) → IsInside g f → Reaching g → HasFlow (knowing f g)
  inside_flow g w f inside reaches = record { flow = inside.amid.flow; few = subst (λ n. length g.locals ≤ n) (sym inside.amid.beside.vars) (few_vars g w); pointers = inside.pointers reaches }

  -- in a bundle nothing more is known than what holds
  known_inside_bundle : (g : Scope) (f : Knowledge) (s : State) → IsInside g f → HoldsAlike frame.structs (length g.locals) f s → IsKnown frame.structs (knowing f g) s
  known_inside_bundle g f s inside h t alike = record { holds = h t alike; settled = λ apart. absurd (never apart); declared = λ apart. absurd (never apart) }
    where
      never : f.bundled ≡ false → ⊥
      never apart = let both : true ≡ false = sym inside.bundled ∙ apart in cc

  assignments_go : (at : Places) (g : Scope) → IsWalk vars g → KnowsFile frame g → (f : Knowledge) → IsInside g f → (written : List Assignment) → Promises (Assigns g f) (assignments at (knowing f g) written)
  assignments_go at g w file f inside [] = record { inside = inside; typed = λ reaches result bounds loop. typed.no_more; runs = λ reaches n knots low s kept h. ((refl, h), kept) }
  assignments_go at g w file f inside (a ∷ written) =
      let here = knowing f g in
      let few : length g.locals ≤ f.vars = subst (λ n. length g.locals ≤ n) (sym inside.amid.beside.vars) (few_vars g w) in
      passing_promises (λ (x : core.Statement). (IsAssignment here (target_of a) x × IsNotedStatement here x) × (Reaching g → IsSimple frame types here x)) (Assigns g f) (assignment at here a) _
      (both_promise (λ (x : core.Statement). IsAssignment here (target_of a) x × IsNotedStatement here x) (λ (x : core.Statement). Reaching g → IsSimple frame types here x) (assignment at here a)
      (both_promise (IsAssignment here (target_of a)) (IsNotedStatement here) (assignment at here a) (assignment_plain at here a) (assignment_noted at here a))
      (later_promises (Reaching g) (IsSimple frame types here) (assignment at here a)
      (λ reaches. assignment_promises frame types all_scalar at here (let h = inside_flow g w f inside reaches in knows_from frame types all_scalar here (file_inside f g file) h.flow h.pointers h.few w.result reaches) a)))
      (λ x h.
      let next = assigned_by g.locals x f in
      let further : IsInside g next = record {
        amid = assigned_amid g.locals g.flow f x inside.amid few;
        bundled = assigned_bundled g.locals x f ∙ inside.bundled;
        pointers = λ reaches. simple_pointing frame types here (h.1 reaches) (inside.pointers reaches);
      } in
      passing_promises (Assigns g next) (Assigns g f) (assignments at (knowing next g) written) _ (assignments_go at g w file next further written)
      (λ rest r. record {
        inside = r.inside;
        typed = λ reaches result bounds loop. typed.then_more (simple_any frame types all_scalar here x (h.1 reaches) result bounds loop) (r.typed reaches result bounds loop);
        runs = λ reaches n knots low s kept k.
            runs_then frame budget n low types (Onward (HoldsAlike frame.structs (length g.locals) next)) (Onward (HoldsAlike frame.structs (length g.locals) rest.1)) (effect true running (ticking n) x s) (on_next (effects true running (ticking n) rest.0))
            (simple_goes here (inside_flow g w f inside reaches) x h.0.0.plain h.0.1 reaches (h.1 reaches) n knots low s (record { kept = kept; known = known_inside_bundle g f s inside k }))
            (λ flow t q t_kept. next_runs n low (HoldsAlike frame.structs (length g.locals) next) (HoldsAlike frame.structs (length g.locals) rest.1) (effects true running (ticking n) rest.0) flow t q (λ p. r.runs reaches n knots low t t_kept p));
      }))

  pub bundle_goes : (at : Places) (g : Scope) → IsWalk vars g → KnowsFile frame g → (written : List Assignment) (span : Span) → Promises (GoesOn g) (bundle at g written span)
  bundle_goes at g w file written span =
      passing_promises (Assigns g (in_bundle g.flow)) (GoesOn g) (assignments at (knowing (in_bundle g.flow) g) written) _ (assignments_go at g w file (in_bundle g.flow) (begins_inside g w) written)
      (λ x h. needs_promises (GoesOn g) (are_locals g.visible written) E21 span _
      (λ locals. passing_promises (IsSettling x.1) (GoesOn g) (settling x.1 span) _ (settling_promises x.1 span)
      (λ k is.
      let beside = settled_beside g.flow x.1 k h.inside.amid is in
      record {
        walk = walk_knowing vars k g (between_settled vars g.flow x.1 k w.between h.inside.amid is) beside w;
        breaks = refl;
        continues = refl;
        more = λ k x e. e;
        keeps = declares_knowing k g beside;
        typed = λ reaches result bounds loop. typed.block (h.typed reaches result bounds loop);
        runs = λ reaches n knots low s at.
            runs_further frame budget n low types (Onward (HoldsAlike frame.structs (length g.locals) x.1)) (Onward (IsKnown frame.structs (knowing k g))) (effects true running (ticking n) x.0 s)
            (h.runs reaches n knots low s at.kept (λ t alike. ((flows_hold frame.structs g.flow w.between.flow).bundle t (at.known t alike)).holds))
            (λ flow t q. (q.0, settled_fits (length g.locals) g.flow x.1 k t h.inside.amid is q.1));
      })))

  -- ---- locals

  -- ---- bounds of a local

  set_spared : (n y : ℕ) → y < n → (y == n) ≡ false
  set_spared n y low = grind (arith, nat_tests)

  -- zero, or null
  abbrev zero_of : CType → Value
  zero_of Int = Number (pos 0)
  zero_of Char = Number (pos 0)
  zero_of (Struct number) = Null
  zero_of (Pointer mode kind target) = Null

  zero_given : (t : CType) (n : ℕ) (s : State) → IsScalar t → value true running (ticking n) (zero_value t) s ≡ Gives (zero_of t) s
  zero_given Int n s scalar = refl
  zero_given Char n s scalar = refl
  zero_given (Struct number) n s scalar = absurd (cc)
  zero_given (Pointer mode kind target) n s scalar = refl

  -- a local that is set to it holds it, and setting it again changes nothing
  abbrev IsZero : ℕ → CType → State → Type 0
  IsZero k t u = (l : Local) × (slice_get u.locals k ≡ Some l) × (l.value ≡ zero_of t) × (has_type l.type (zero_of t) ≡ true)

  set_zero : (k : ℕ) (t : CType) (s : State) → WhereGiven (λ (flow : Flow) (u : State). IsZero k t u) (set_local k (zero_of t) s)
  set_zero k t s = over (slice_get s.locals k) refl
    where
      on : (old : Local) → slice_get s.locals k ≡ Some old → (test : Bool) → has_type old.type (zero_of t) ≡ test → WhereGiven (λ (flow : Flow) (u : State). IsZero k t u) (set_if test old k (zero_of t) s)
      on old there true e = (record old { value = zero_of t }, found_same s.locals k old (zero_of t) there, refl, e)
      on old there false e = tt

      over : (o : Option Local) → slice_get s.locals k ≡ o → WhereGiven (λ (flow : Flow) (u : State). IsZero k t u) (set_over o k (zero_of t) s)
      over None there = tt
      over (Some old) there = on old there (has_type old.type (zero_of t)) refl

  zero_set : (k : ℕ) (t : CType) (n : ℕ) (s : State) → IsScalar t → WhereGiven (λ (flow : Flow) (u : State). IsZero k t u) (effect true running (ticking n) (core.SetLocal k (zero_value t)) s)
  zero_set k t n s scalar = subst (λ o. WhereGiven (λ (flow : Flow) (u : State). IsZero k t u) (and_then o (set_local k))) (sym (zero_given t n s scalar)) (set_zero k t s)

  again : (k : ℕ) (t : CType) (u : State) → IsZero k t u → set_local k (zero_of t) u ≡ Gives Next u
  again k t u z =
      let same : record z.0 { value = zero_of t } ≡ z.0 = ap (λ v. record z.0 { value = v }) (sym z.2) in
      rw (z.1, z.3) (ap (λ ls. Gives Next (record u { locals = ls })) (ap (slice_set u.locals k) same ∙ set_again u.locals k z.0 z.1))

  zero_again : (k : ℕ) (t : CType) (n : ℕ) (u : State) → IsScalar t → IsZero k t u → effect true running (ticking n) (core.SetLocal k (zero_value t)) u ≡ Gives Next u
  zero_again k t n u scalar z = ap (λ o. and_then o (set_local k)) (zero_given t n u scalar) ∙ again k t u z

  -- bounds may be declared of a local in each state whose locals have their types
  may_declare : (structs : List Structure) (g : Scope) (t : CType) (declared : Option Bounds) → MayCome vars g.structs g.locals t declared → (z : State) → HasLocals (g.locals ++ t ∷ []) z → MayDeclare frame.structs (types_of z.locals) (length g.locals) declared
  may_declare structs g t None may z has = record { ints = tt; size = λ c e. tt }
  may_declare structs g t (Some b) may z has =
      let it = (may.formed b refl).0 in
      record {
        ints = record { lo = formed_later (g.locals ++ t ∷ []) z b.lo.var has it.ints.lo; hi = formed_later (g.locals ++ t ∷ []) z b.hi.var has it.ints.hi };
        size = λ c e q d from there.
            let base = it.base q from in
            let d_is : d ≡ Pointer it.mode base.0 it.element = same_some d _ (sym there ∙ has q (Pointer it.mode base.0 it.element) base.1) in
            let c_is : c ≡ Pointer it.mode it.kind it.element = same_some c _ (sym e ∙ has (length g.locals) (Pointer it.mode it.kind it.element) it.own) in
            ap (target_size frame.structs) d_is ∙ sym (ap (target_size frame.structs) c_is);
      }
    where
      same_some : (a b : CType) → Some a ≡ Some b → a ≡ b
      same_some a b q = cc

  -- a local more, which is zero or null
  entered_fits : (g : Scope) (name : ℕ) (t : CType) (declared : Option Bounds) (u : State) → IsWalk vars g → MayCome vars g.structs g.locals t declared → HasLocals (g.locals ++ t ∷ []) u → IsZero (length g.locals) t u → IsKnown frame.structs g u
      → IsKnown frame.structs (with_local name t declared g) u
  entered_fits g name t declared u w may has zero h z alike =
      (flows_hold frame.structs g.flow w.between.flow).enter_between (length g.locals) declared z (may_declare frame.structs g t declared may z (has_alike (g.locals ++ t ∷ []) u z alike has)) (valid declared may)
      (fits_further frame.structs (length g.locals) (length (with_local name t declared g).locals) g.flow u (let e = longer in omega (arith, e)) h z alike)
    where
      longer : length (g.locals ++ t ∷ []) ≡ length g.locals + 1
      longer = length-append g.locals (t ∷ [])

      other : (o : Option CType) (c : CType) → o ≡ Some c → (c ≡ Char → ⊥) → o ≡ Some Char → ⊥
      other o c e apart q = apart (same_some c Char (sym e ∙ q))
        where
          same_some : (a b : CType) → Some a ≡ Some b → a ≡ b
          same_some a b q = cc

      null_of : (m : Mode) (k : Kind) (c : CType) → t ≡ Pointer m k c → zero_of t ≡ Null
      null_of m k c e = ap zero_of e

      valid : (o : Option Bounds) → MayCome vars g.structs g.locals t o → (l : Local) → slice_get z.locals (length g.locals) ≡ Some l → IsValid frame.structs o l z
      valid None may l there = tt
      valid (Some b) may l there =
          let it = (may.formed b refl).0 in
          let type : t ≡ Pointer it.mode it.kind it.element = same_some t _ (sym (extends_last g.locals t) ∙ it.own) in
          let low : length g.locals < length (with_local name t declared g).locals = (let e = longer in omega (arith, e)) in
          let same = alike.tracked (length g.locals) low (other (slice_get (types_of u.locals) (length g.locals)) (Pointer it.mode it.kind it.element) (has (length g.locals) (Pointer it.mode it.kind it.element) it.own) (λ q. absurd (cc))) in
          let l_is : zero.0 ≡ l = same_local zero.0 l (sym zero.1 ∙ (sym same ∙ there)) in
          null_valid frame.structs (Some b) l z (ap (λ (l : Local). l.value) (sym l_is) ∙ (zero.2 ∙ null_of it.mode it.kind it.element type))
        where
          same_some : (a b : CType) → Some a ≡ Some b → a ≡ b
          same_some a b q = cc

          same_local : (a b : Local) → Some a ≡ Some b → a ≡ b
          same_local a b q = cc

  -- ---- locals

  module _ (g : Scope) (w : IsWalk vars g) (name : ℕ) (t : CType) (bounds : Option Bounds) (may : MayCome vars g.structs g.locals t bounds) (scalar : IsScalar t) (few : length (with_local name t bounds g).locals ≤ vars)
      (arrays : List ℕ) where
    abbrev within : Scope
    within = record (with_local name t bounds g) { arrays = arrays }

    inside : IsWalk vars within
    inside = walk_arrays vars arrays (with_local name t bounds g) (walk_local vars name t bounds g may w few)

    abbrev zero : core.Statement
    zero = core.SetLocal (length g.locals) (zero_value t)

    before : Reaching within → Reaching g
    before reaches k x e = reaches k x (extends_append g.locals (t ∷ []) k x e)

    zero_in : (here : Scope) → Reaching within → IsSimple frame types here zero
    zero_in here reaches = typed.set_local (reaches (length g.locals) t (extends_last g.locals t)) (zero_typed frame types all_scalar here t scalar)

    zero_plain : IsPlain within.locals zero
    zero_plain = (t, extends_last g.locals t)

    -- what is known once the local is zero or null, and once that counts as assigned
    abbrev IsEntered : State → Type 0
    IsEntered u = IsKnown frame.structs within u × HoldsAlike frame.structs (length within.locals) (assigned_by within.locals zero within.flow) u

    set_again_so : (n : ℕ) → Knots n → (low : ℕ) (u : State) → Reaching within → IsZero (length g.locals) t u → IsAt n low within u → HoldsAlike frame.structs (length within.locals) (assigned_by within.locals zero within.flow) u
    set_again_so n knots low u reaches z at =
        subst (WhereGiven (OnNext (HoldsAlike frame.structs (length within.locals) (assigned_by within.locals zero within.flow)))) (zero_again (length g.locals) t n u scalar z)
        (plain_so true running (ticking n) (moving n) frame.structs within.structs within.locals within.flow inside.between.flow (few_vars within inside) zero zero_plain (zero_right within.structs within.locals within.flow t) u
        (are_moving n low knots within (walk_flow within inside) reaches (zero_in within reaches) u at) (has_of n low within u reaches at.kept) (λ z alike. (at.known z alike).holds))

    -- the local is set to zero or null
    zero_goes : Reaching within → (n : ℕ) → Knots n → (low : ℕ) (s : State) → IsAt n low g s → Runs frame budget n low types (Onward IsEntered) (effect true running (ticking n) zero s)
    zero_goes reaches n knots low s at =
        sure_further (λ flow u. (IsNext flow u × (IsMovedTo (λ y. y == length g.locals) s u × IsZero (length g.locals) t u)) × IsKept frame budget n low types u) (λ flow u. Onward IsEntered flow u × IsKept frame budget n low types u) (effect true running (ticking n) zero s)
        (runs_both frame budget n low types IsNext (λ (flow : Flow) (u : State). IsMovedTo (λ y. y == length g.locals) s u × IsZero (length g.locals) t u) (effect true running (ticking n) zero s)
        (simple_runs frame budget n sandbox trusted (ticking n) (knots n (omega arith)) low types g w.between.flow (few_vars g w) (before reaches) (zero_in g reaches) s (at.known, at.kept))
        (so_both (λ (flow : Flow) (u : State). IsMovedTo (λ y. y == length g.locals) s u) (λ (flow : Flow) (u : State). IsZero (length g.locals) t u) (effect true running (ticking n) zero s)
        (effect_moves true running (ticking n) (moving n) (λ y. y == length g.locals) zero s (itself_equal (length g.locals))) (zero_set (length g.locals) t n s scalar)))
        (λ flow u k.
        let known = fits_moved frame.structs (length g.locals) g.flow w.between.flow (λ y. y == length g.locals) s u k.0.1.0 (λ y tracked. set_spared (length g.locals) y tracked.0) at.known in
        let entered = entered_fits g name t bounds u w may (has_of n low within u reaches k.1) k.0.1.1 known in
        ((k.0.0, (entered, set_again_so n knots low u reaches k.0.1.1 (record { kept = k.1; known = entered }))), k.1))

    -- behind the zero it is assigned
    assigned_runs : (initial : core.Statement) → IsPlain within.locals initial → IsNotedStatement within initial → (reaches : Reaching within) → IsSimple frame types within initial → (n : ℕ) → Knots n → (low : ℕ) (s : State) → IsAt n low g s
        → Runs frame budget n low types (Onward (HoldsAlike frame.structs (length within.locals) (assigned_by within.locals initial within.flow))) (effect true running (ticking n) (both zero initial) s)
    assigned_runs initial plain noted reaches simple n knots low s at =
        both_runs n low IsEntered (λ u. HoldsAlike frame.structs (length within.locals) (assigned_by within.locals initial within.flow) u) zero initial s (zero_goes reaches n knots low s at)
        (λ u kept entered. simple_goes within (walk_flow within inside) initial plain noted reaches simple n knots low u (record { kept = kept; known = entered.0 }))

    -- the assignment that a declaration is, and what is left to do behind the zero
    declared_runs : (o : Option Initializer) (initial : core.Statement) → IsFirst within.locals (length g.locals) o initial → IsNotedStatement within initial → (reaches : Reaching within) → IsSimple frame types within initial → (n : ℕ) → Knots n → (low : ℕ) (s : State) → IsAt n low g s
        → Runs frame budget n low types (Onward (HoldsAlike frame.structs (length within.locals) (assigned_by within.locals (first_value o initial (length g.locals) t) within.flow))) (effect true running (ticking n) (both zero initial) s)
    declared_runs None initial first noted reaches simple n knots low s at =
        both_runs n low IsEntered Q zero initial s (zero_goes reaches n knots low s at)
        (λ u kept q. subst (λ x. Runs frame budget n low types (Onward Q) (effect true running (ticking n) x u)) (sym (first.none refl)) ((refl, q.1), kept))
      where
        Q : State → Type 0
        Q u = HoldsAlike frame.structs (length within.locals) (assigned_by within.locals zero within.flow) u
    declared_runs (Some i) initial first noted reaches simple n knots low s at = assigned_runs initial first.plain noted reaches simple n knots low s at

    -- once it is settled, where the declaration counts as the assignment of a value
    value_goes : (value initial : core.Statement) (span : Span) → (Reaching within → IsSimple frame types within initial)
        → ((reaches : Reaching within) (n : ℕ) → Knots n → (low : ℕ) (s : State) → IsAt n low g s → Runs frame budget n low types (Onward (HoldsAlike frame.structs (length within.locals) (assigned_by within.locals value within.flow))) (effect true running (ticking n) (both zero initial) s))
        → Promises (GoesOn g) (passing (settling (assigned_by within.locals value within.flow) span) (λ k. Passes (both zero initial, knowing k within)))
    value_goes value initial span simple run =
        let mid = assigned_by within.locals value within.flow in
        let amid = assigned_amid within.locals within.flow within.flow value (amid_here vars within.flow inside.between) (few_vars within inside) in
        passing_promises (IsSettling mid) (GoesOn g) (settling mid span) _ (settling_promises mid span)
        (λ k is.
        let beside = settled_beside within.flow mid k amid is in
        record {
          walk = walk_knowing vars k within (between_settled vars within.flow mid k inside.between amid is) beside inside;
          breaks = refl;
          continues = refl;
          more = extends_append g.locals (t ∷ []);
          keeps = declares_on g within (knowing k within) (let e = length-append g.locals (t ∷ []) in omega (arith, e)) (declares_arrays arrays g (with_local name t bounds g) (declares_local name t bounds g)) (declares_knowing k within beside);
          typed = λ reaches. both_typed frame types all_scalar zero initial (simple_any frame types all_scalar within zero (zero_in within reaches)) (simple_any frame types all_scalar within initial (simple reaches));
          runs = λ reaches n knots low s at.
              runs_further frame budget n low types (Onward (HoldsAlike frame.structs (length within.locals) mid)) (Onward (IsKnown frame.structs (knowing k within))) (effect true running (ticking n) (both zero initial) s)
              (run reaches n knots low s at)
              (λ flow u q. (q.0, settled_fits (length within.locals) within.flow mid k u amid is q.1));
        })

    declared_goes : (o : Option Initializer) (span : Span) (initial : core.Statement) → IsFirst within.locals (length g.locals) o initial → IsNotedStatement within initial → (Reaching within → IsSimple frame types within initial) → Promises (GoesOn g) (declared within o t (length g.locals) span initial)
    declared_goes o span initial first noted simple =
        value_goes (first_value o initial (length g.locals) t) initial span simple (λ reaches. declared_runs o initial first noted reaches (simple reaches))

  known_inside : (g : Scope) (name : ℕ) (t : CType) (bounds : Option Bounds) (arrays : List ℕ) → IsKnownType g.structs t → KnowsFile frame g → KnowsFile frame (record (with_local name t bounds g) { arrays = arrays })
  known_inside g name t bounds arrays known_t file =
      record { structs = file.structs; closed = closed_arrays arrays (with_local name t bounds g) (local_closed name t bounds g known_t file.closed); few_members = file.few_members; scalar_members = file.scalar_members; variables = file.variables; texts = file.texts; trusted = file.trusted; tainted = file.tainted }

  -- bounds that are declared may be those of the local that comes next
  declared_may : (g : Scope) (t : CType) (bounds : Option Bounds) → length (g.locals ++ t ∷ []) ≤ vars → IsFormedIf g.structs (g.locals ++ t ∷ []) t bounds → MayCome vars g.structs g.locals t bounds
  declared_may g t bounds few formed = record { below = formed_below g.structs (g.locals ++ t ∷ []) t vars bounds few formed; formed = λ b e. by bounds b e formed }
    where
      by : (o : Option Bounds) (b : Bounds) → o ≡ Some b → IsFormedIf g.structs (g.locals ++ t ∷ []) t o → MayStand g.structs (g.locals ++ t ∷ []) (length g.locals) b
      by None b e h = absurd (cc)
      by (Some c) b e h = subst (MayStand g.structs (g.locals ++ t ∷ []) (length g.locals)) (same_bounds c b e) (record { mode = h.mode; kind = h.kind; counts = h.counts; element = h.element; own = extends_last g.locals t ∙ ap Some h.own; some = h.some; ints = h.ints; base = h.base }, h.limited)
        where
          same_bounds : (a b : Bounds) → Some a ≡ Some b → a ≡ b
          same_bounds a b q = cc

  bounded_goes : (at : Places) (g : Scope) → IsWalk vars g → KnowsFile frame g → (d : Declarator) (t : CType) (span : Span) (bounds : Option Bounds) → MayCome vars g.structs g.locals t bounds → IsKnownType g.structs t → length (g.locals ++ t ∷ []) ≤ vars
      → Promises (GoesOn g) (bounded_local at g d t span bounds)
  bounded_goes at g w file d t span bounds may known_t room =
      let within = with_local d.name.number t bounds g in
      passing_promises (λ (x : core.Statement). (IsFirst within.locals (length g.locals) d.initializer x × IsNotedStatement within x) × (Reaching within → IsSimple frame types within x)) (GoesOn g) (initialised at within d.initializer t (length g.locals) span) _
      (both_promise (λ (x : core.Statement). IsFirst within.locals (length g.locals) d.initializer x × IsNotedStatement within x) (λ (x : core.Statement). Reaching within → IsSimple frame types within x) (initialised at within d.initializer t (length g.locals) span)
      (both_promise (IsFirst within.locals (length g.locals) d.initializer) (IsNotedStatement within) (initialised at within d.initializer t (length g.locals) span)
      (initialised_plain at within d.initializer t (length g.locals) span (extends_last g.locals t)) (initialised_noted at within d.initializer t (length g.locals) span))
      (later_promises (Reaching within) (IsSimple frame types within) (initialised at within d.initializer t (length g.locals) span)
      (λ reaches. initialised_promises frame types all_scalar at within (knows_here within (walk_local vars d.name.number t bounds g may w room) (known_inside g d.name.number t bounds g.arrays known_t file) reaches) d.initializer t (length g.locals) span (reaches (length g.locals) t (extends_last g.locals t)))))
      (λ initial first. needs_promises (GoesOn g) (is_scalar t) E13 span _
      (λ scalar. declared_goes g w d.name.number t bounds may scalar room g.arrays d.initializer span initial first.0.0 first.0.1 first.1))

  -- a length is a constant that a term may have, and an `int`
  length_limited : (n : ℕ) → is_length (Some n) ≡ true → is_within term_limit (pos n) ≡ true
  length_limited n h =
      let few = leb-true n 8192 (and_parts (nat_lt 0 n) (nat_le n 8192) h).1 in
      le-leb n term_limit (omega (arith, few))

  length_word : (n : ℕ) → is_length (Some n) ≡ true → nat_lt n (2 ^ 31) ≡ true
  length_word n h =
      let few = leb-true n 8192 (and_parts (nat_lt 0 n) (nat_le n 8192) h).1 in
      le-leb (suc n) (2 ^ 31) (omega (arith, few))

  -- of so many elements, without the zero that ends them
  before_limited : (ended : Bool) (count : ℕ) → is_length (Some count) ≡ true → is_within term_limit (pos (before_end ended count)) ≡ true
  before_limited false count counted = length_limited count counted
  before_limited true count counted = (let few = leb-true count 8192 (and_parts (nat_lt 0 count) (nat_le count 8192) counted).1 in le-leb (count - 1) term_limit (omega (arith, few)))

  array_counts : (ended : Bool) → Counts (array_kind ended)
  array_counts true = tt
  array_counts false = tt

  array_may : (g : Scope) (t : CType) (count : ℕ) (ended : Bool) → is_length (Some count) ≡ true → 0 < size_of g.structs t → MayCome vars g.structs g.locals (row_type ended t) (Some (row_of (before_end ended count)))
  array_may g t count ended counted some = record { below = record { lo = tt; hi = tt }; formed = λ b e. subst (MayStand g.structs (g.locals ++ row_type ended t ∷ []) (length g.locals)) (same_bounds _ b e) (formed, record { low = refl; high = before_limited ended count counted }) }
    where
      same_bounds : (a b : Bounds) → Some a ≡ Some b → a ≡ b
      same_bounds a b q = cc

      formed : IsDeclared g.structs (g.locals ++ row_type ended t ∷ []) (length g.locals) (row_of (before_end ended count))
      formed = record { mode = modes.Checked; kind = array_kind ended; counts = array_counts ended; element = t; own = extends_last g.locals (row_type ended t); some = some; ints = record { lo = tt; hi = tt }; base = λ q e. absurd (cc) }

  -- all but the last one stand before the zero that ends it
  last_before : (locals : List CType) (count : ℕ) → is_length (Some count) ≡ true → typed.IsCountBeforeZero locals terminators.Last (core.Number (pos count)) (constant (pos (before_end true count)))
  last_before locals count counted =
      let both = and_parts (nat_lt 0 count) (nat_le count 8192) counted in
      let some = ltb-true 0 count both.0 in
      let few = leb-true count 8192 both.1 in
      let one : suc (count - 1) ≡ count = omega (arith, some) in
      subst (λ k. typed.IsCountBeforeZero locals terminators.Last (core.Number (pos k)) (constant (pos (count - 1)))) one (typed.all_but_last (omega (arith, few, some)))

  consists : (structs : List Structure) (ended : Bool) (t : CType) → MayConsist structs ended t → 0 < size_of structs t
  consists structs false t may = ltb-true 0 (size_of structs t) may
  consists structs true t may = number_sized structs t may

  leads : (structs : List Structure) (ended : Bool) (t : CType) → MayConsist structs ended t → may_lead_to (array_kind ended) t ≡ true
  leads structs false t may = refl
  leads structs true t may = may

  memory_noted : (within : Scope) (ended : Bool) (t : CType) (count : ℕ) (site : Site) → IsNotedLength within (memory_of within ended t count site)
  memory_noted within false t count site = tt
  memory_noted within true t count site = tt

  -- its memory has its type
  array_made : (within : Scope) → Knows frame types within → (ended : Bool) (t : CType) (count : ℕ) (site : Site) → is_length (Some count) ≡ true → MayConsist within.structs ended t → HasType frame types within (memory_of within ended t count site) (row_type ended t)
  array_made within knows false t count site counted may = memory_typed frame types within knows t (core.Number (pos count)) site (typed.word (length_word count counted)) may
  array_made within knows true t count site counted may =
      ended_memory_typed frame types within knows t (core.Number (pos count)) terminators.Last refl (Some (constant (pos (before_end true count))))
      (λ n e. subst (typed.IsCountBeforeZero within.locals terminators.Last (core.Number (pos count))) (same_Some (constant (pos (before_end true count))) n e) (last_before within.locals count counted))
      site (typed.word (length_word count counted)) may

  array_goes : (at : Places) (g : Scope) → IsWalk vars g → KnowsFile frame g → (d : Declarator) (t : CType) (count : ℕ) (ended : Bool) (span : Span) → is_length (Some count) ≡ true → MayConsist g.structs ended t → IsKnownType g.structs t → length (g.locals ++ row_type ended t ∷ []) ≤ vars
      → Promises (GoesOn g) (settled_array (with_array d.name.number t count ended g) (length g.locals) (memory_of (with_array d.name.number t count ended g) ended t count (site_at at span)) span)
  array_goes at g w file d t count ended span counted consist known_t room =
      let type = row_type ended t in
      let declared = Some (row_of (before_end ended count)) in
      let within = with_array d.name.number t count ended g in
      let may = array_may g t count ended counted (consists g.structs ended t consist) in
      let set = core.SetLocal (length g.locals) (memory_of within ended t count (site_at at span)) in
      let inside = walk_arrays vars within.arrays (with_local d.name.number type declared g) (walk_local vars d.name.number type declared g may w room) in
      let knows = known_inside g d.name.number type declared within.arrays (leads g.structs ended t consist, known_t) file in
      let simple : Reaching within → IsSimple frame types within set =
      λ reaches. typed.set_local (reaches (length g.locals) type (extends_last g.locals type)) (array_made within (knows_here within inside knows reaches) ended t count (site_at at span) counted consist) in
      value_goes g w d.name.number type declared may refl room within.arrays set set span simple
      (λ reaches. assigned_runs g w d.name.number type declared may refl room within.arrays set (type, extends_last g.locals type) (memory_noted within ended t count (site_at at span)) reaches (simple reaches))

  declarator_goes : (at : Places) (g : Scope) → IsWalk vars g → KnowsFile frame g → (base : TypeTree) (type : CType) (span : Span) (d : Declarator) → IsKnownType g.structs type → Promises (GoesOn g) (declarator at g base type span d)
  declarator_goes at g w file base type span d known_type =
      declarator_promises (GoesOn g) (IsKnownType g.structs) at g base type span d (λ few. without_known g file.closed.tagged base d.stars type known_type)
      (λ few t known_t. passing_promises (IsFormedIf g.structs (g.locals ++ t ∷ []) t) (GoesOn g) (declared_bounds (with_local d.name.number t None g) t (length g.locals) d.bounds) (bounded_local at g d t span)
      (declared_formed (with_local d.name.number t None g) t (length g.locals) d.bounds)
      (λ bounds formed. bounded_goes at g w file d t span bounds (declared_may g t bounds (room t few) formed) known_t (room t few)))
      (λ few t known_t count here counted ended consist. array_goes at g w file d t count ended span counted consist known_t (room (row_type ended t) few))
    where
      room : (t : CType) → nat_lt (length g.locals) g.flow.vars ≡ true → length (g.locals ++ t ∷ []) ≤ vars
      room t few = let low = ltb-true (length g.locals) g.flow.vars few in let e = length-append g.locals (t ∷ []) in let size = w.between.size in omega (arith, low, e, size)

  then_goes : (g : Scope) (first rest : Walked) → GoesOn g first → GoesOn first.1 rest → GoesOn g (both first.0 rest.0, rest.1)
  then_goes g first rest a b = record {
    walk = b.walk;
    breaks = b.breaks ∙ a.breaks;
    continues = b.continues ∙ a.continues;
    more = λ k x e. b.more k x (a.more k x e);
    keeps = declares_on g first.1 rest.1 (extends_length g.locals first.1.locals a.more) a.keeps b.keeps;
    typed = λ reaches. both_typed frame types all_scalar first.0 rest.0 (a.typed (λ k x e. reaches k x (b.more k x e))) (b.typed reaches);
    runs = λ reaches n knots low s at.
        both_runs n low (IsKnown frame.structs first.1) (IsKnown frame.structs rest.1) first.0 rest.0 s (a.runs (λ k x e. reaches k x (b.more k x e)) n knots low s at)
        (λ t kept k. b.runs reaches n knots low t (record { kept = kept; known = k }));
  }

  known_later : (a b : Scope) (t : CType) → Grows a b → IsKnownType a.structs t → IsKnownType b.structs t
  known_later a b t h known = subst (λ x. IsKnownType x t) h.structs known

  declarators_go : (at : Places) (g : Scope) → IsWalk vars g → KnowsFile frame g → (base : TypeTree) (type : CType) (span : Span) (ds : List Declarator) → IsKnownType g.structs type → Promises (GoesOn g) (declarators at g base type span ds)
  declarators_go at g w file base type span [] known_type = nothing_goes g w
  declarators_go at g w file base type span (d ∷ ds) known_type =
      passing_promises (λ (x : Walked). GrowsTo g x × GoesOn g x) (GoesOn g) (declarator at g base type span d) _
      (both_promise (GrowsTo g) (GoesOn g) (declarator at g base type span d) (declarator_grows at g base type span d (λ few. known_type)) (declarator_goes at g w file base type span d known_type))
      (λ first a. passing_promises (GoesOn first.1) (GoesOn g) (declarators at first.1 base type span ds) _
      (declarators_go at first.1 a.1.walk (file_known frame g first.1 a.0 file) base type span ds (known_later g first.1 type a.0 known_type)) (λ rest b. then_goes g first rest a.1 b))

  pub declaration_goes : (at : Places) (g : Scope) → IsWalk vars g → KnowsFile frame g → (d : Declaration) → Promises (GoesOn g) (declaration at g d)
  declaration_goes at g w file d =
      needs_promises (GoesOn g) (nat_lt (length g.locals) g.flow.vars) E08 d.span _
      (λ few. needs_promises (GoesOn g) (is_length (first_length d.declarators)) E08 d.span _
      (λ fits. passing_promises (IsKnownType g.structs) (GoesOn g) (base_type g d.base) _ (base_known g file.closed.tagged d.base) (λ type known. declarators_go at g w file d.base type d.span d.declarators known)))

  pub first_goes : (at : Places) (g : Scope) → IsWalk vars g → KnowsFile frame g → (initial : ForInitial) → Promises (GoesOn g) (first_part at g initial)
  first_goes at g w file s.Nothing = nothing_goes g w
  first_goes at g w file (s.Declares d) = declaration_goes at g w file d
  first_goes at g w file (s.Assigns a) = assigning_goes at g w file a
