-- The scope in which the body of a function stands: what is known there is so, whatever its locals hold.
use Rattle.std.proofs.Common.{◌≡◌, ℕ, zero, suc, ◌+◌, ◌≤◌, Bool, true, false, List, [], ◌∷◌, ◌++◌, map, length, replicate, Option, Some, None, refl, sym, ap, ◌∙◌, subst, append_assoc, arith}
use Rattle.std.specs.Prelude.{nat_lt, slice_get, slice_index_or}
use Rattle.std.proofs.lemmas.Bool.Decides.{nat_tests}
use Rattle.std.proofs.lemmas.Option.{slice_get_within}
use Rattle.std.proofs.lemmas.List.{append-nil, length-append, length-map}
use Rattle.ckc_tree.specs.Statements.{Statements}
use Rattle.bounds_exprs.specs.declared.term.Bounds.{Bounds}
use Rattle.pointer_modes.specs.Types.{CType, Char, Pointer, Structure}
use Rattle.bounds_flow.specs.Pointers.{no_pointer}
use Rattle.bounds_flow.specs.Flows.{Knowledge, at_entry, entered, held_at}
use Rattle.bounds_flow.specs.Conditions.{AreBoundsBelow}
use Rattle.bounds_flow.proofs.FlowSteps.{are_kept}
use Rattle.bounds_flow_meaning.specs.Holding.{AreInts, Fits, HaveTypes, IsValid, target_size, types_of}
use Rattle.bounds_flow_meaning.specs.Laws.{MayDeclare}
use Rattle.bounds_flow_meaning.proofs.AllSteps.{flows_hold}
use Rattle.bounds_flow_meaning.proofs.Steps.{entries_fit}
use Rattle.ckc_core.specs.States.{Local, State}
use Rattle.region_typing_rules.specs.Verdicts.{picked}
use Rattle.region_typing_rules.specs.Scopes.{Scope, Signature, bounds_in}
use Rattle.region_typing_rules.specs.Knowing.{all_declared, knowing}
use Rattle.region_typing_rules.specs.Statements.{with_local}
use Rattle.region_typing_rules.specs.Items.{Parameter, variables_in, with_parameters, with_bounds, before_bounds, inside}
use Rattle.region_typing_rules.specs.KnownIsSo.{HasLocals, IsAlike, IsDeclared, IsKnown, declared_at}
use Rattle.region_typing_rules.proofs.Alike.{has_alike}
use Rattle.region_typing_rules.proofs.Between.{AreBetween, IsBetween, MayStand, between_entered, entered_other}
use Rattle.region_typing_rules.proofs.Calls.{AreEntered}
use Rattle.region_typing_rules.proofs.DeclaredBounds.{int_below}
use Rattle.region_typing_rules.proofs.Given.{valid_alike}
use Rattle.region_typing_rules.proofs.InForce.{IsSoOf}
use Rattle.region_typing_rules.proofs.Parameters.{AreFormed, all_bounds, all_declared_so}
use Rattle.region_typing_rules.proofs.Terms.{formed_later}
use Rattle.region_typing_rules.proofs.Ways.{IsWalk, fits_further, none_comes, walk_local}

none_held : (n p : ℕ) → held_at (replicate n no_pointer) p ≡ no_pointer
none_held zero p = refl
none_held (suc n) zero = refl
none_held (suc n) (suc p) = none_held n p

none_assigned : (n x : ℕ) → slice_index_or (replicate n false) x false ≡ false
none_assigned zero x = refl
none_assigned (suc n) zero = refl
none_assigned (suc n) (suc x) = none_assigned n x

entry_between : (structs : List Structure) (types : List CType) (vars : ℕ) → vars ≤ 4096 → IsBetween structs types vars (at_entry vars)
entry_between structs types vars few = record {
  flow = are_kept.entry vars few;
  size = refl;
  settled = record { marks = λ p. ap (λ h. h.mark) (none_held vars p); assigned = none_assigned vars; apart = refl };
  bounds = λ p. subst (IsSoOf (MayStand structs types p)) (sym (none_held vars p)) (record { bounds = λ b e. absurd (cc); declared = λ b e. absurd (cc) });
}

limited_few : (limit n : ℕ) (test : Bool) → nat_lt limit n ≡ test → picked test limit n ≤ limit
limited_few limit n true e = omega arith
limited_few limit n false e = grind (arith, nat_tests)

limited_more : (limit n k : ℕ) (test : Bool) → k ≤ limit → k ≤ n → k ≤ picked test limit n
limited_more limit n k true a b = a
limited_more limit n k false a b = b

-- whatever the locals hold, what is known is so
abbrev pub IsOpen : Scope → Type 0
IsOpen g = (structs : List Structure) (s : State) → HaveTypes s.locals → IsKnown structs g s

local_open : (vars name : ℕ) (t : CType) (g : Scope) → IsWalk vars g → IsOpen g → IsOpen (with_local name t None g)
local_open vars name t g w h structs s good u alike =
    (flows_hold structs g.flow w.between.flow).enter_between (length g.locals) None u (record { ints = tt; size = λ c e. tt }) (λ l e. tt)
    (fits_further structs (length g.locals) (length (with_local name t None g).locals) g.flow s (let e = length-append g.locals (t ∷ []) in omega (arith, e)) (h structs s good) u alike)

-- a scope in which what is known is so at the entry
pub record IsEntry (vars : ℕ) (g : Scope) : Type 0 where
  pub walk : IsWalk vars g
  pub free : IsOpen g

with_entry : (vars : ℕ) (ps : List Parameter) (g : Scope) → length g.locals + length ps ≤ vars → IsEntry vars g → IsEntry vars (with_parameters ps g)
with_entry vars [] g few e = e
with_entry vars (p ∷ ps) g few e =
    let longer = length-append g.locals (p.type ∷ []) in
    let more : length (with_local p.name p.type None g).locals ≤ vars = omega (arith, few, longer) in
    with_entry vars ps (with_local p.name p.type None g) (omega (arith, few, longer)) (record { walk = walk_local vars p.name p.type None g (none_comes vars g.structs g.locals p.type) e.walk more; free = local_open vars p.name p.type g e.walk e.free })

entry : (vars : ℕ) (g : Scope) → vars ≤ 4096 → g.locals ≡ [] → g.flow ≡ at_entry vars → g.result_bounds ≡ None → g.outside ≡ 0 → g.breaks ≡ None → g.continues ≡ None → IsEntry vars g
entry vars g few locals flow bounds outside breaks continues = record {
  walk = record {
    between = subst (IsBetween g.structs g.locals vars) (sym flow) (entry_between g.structs g.locals vars few);
    few = (let e = ap length locals in omega (arith, e));
    beyond = λ p far. none p;
    result = λ b e. absurd (let q : None ≡ Some b = sym bounds ∙ e in cc);
    outside = omega (arith, outside);
    breaks = subst (λ o. AreBetween g.structs g.locals vars g.outside g.flow o) (sym breaks) tt;
    continues = subst (λ o. AreBetween g.structs g.locals vars g.outside g.flow o) (sym continues) tt;
  };
  free = λ structs s good u alike. subst (λ f. Fits structs f u) (sym flow) (entries_fit structs vars u (alike.types good));
}
  where
    none : (p : ℕ) → declared_at g.flow p ≡ None
    none p = subst (λ f. declared_at f p ≡ None) (sym flow) (ap (λ h. h.declared) (none_held vars p))

before_entry : (f : Signature) (ps : List Parameter) (body : Statements) (g : Scope) → length ps ≤ 16 → IsEntry (variables_in (length ps) body) (before_bounds f ps body g)
before_entry f ps body g few =
    let n = length ps + all_declared body in
    let vars = variables_in (length ps) body in
    let low : vars ≤ 256 = limited_few 256 n (nat_lt 256 n) refl in
    let room : length ps ≤ vars = limited_more 256 n (length ps) (nat_lt 256 n) (omega (arith, few)) (omega arith) in
    with_entry vars ps _ (omega (arith, room)) (entry vars _ (omega (arith, low)) refl refl refl refl refl refl)

-- ---- bounds of parameters

-- with no local beside the parameters
parameters_alone : (ps : List Parameter) (g : Scope) → (with_parameters ps g).locals ≡ g.locals ++ map (λ (p : Parameter). p.type) ps
parameters_alone [] g = sym (append-nil g.locals)
parameters_alone (p ∷ ps) g = parameters_alone ps (with_local p.name p.type None g) ∙ append_assoc g.locals (p.type ∷ []) (map (λ (p : Parameter). p.type) ps)

-- and nothing else changed
structs_alone : (ps : List Parameter) (g : Scope) → (with_parameters ps g).structs ≡ g.structs
structs_alone [] g = refl
structs_alone (p ∷ ps) g = structs_alone ps (with_local p.name p.type None g)

breaks_alone : (ps : List Parameter) (g : Scope) → (with_parameters ps g).breaks ≡ g.breaks
breaks_alone [] g = refl
breaks_alone (p ∷ ps) g = breaks_alone ps (with_local p.name p.type None g)

continues_alone : (ps : List Parameter) (g : Scope) → (with_parameters ps g).continues ≡ g.continues
continues_alone [] g = refl
continues_alone (p ∷ ps) g = continues_alone ps (with_local p.name p.type None g)

-- a scope whose flow is another one
walk_between : (vars : ℕ) (g : Scope) (f : Knowledge) (r : Option Bounds) → IsBetween g.structs g.locals vars f → ((p : ℕ) → length g.locals ≤ p → declared_at f p ≡ None)
    → ((b : Bounds) → r ≡ Some b → AreInts g.locals b) → g.breaks ≡ None → g.continues ≡ None → IsWalk vars g → IsWalk vars (record (knowing f g) { result_bounds = r })
walk_between vars g f r between beyond result breaks continues w = record {
  between = between;
  few = w.few;
  beyond = beyond;
  result = result;
  outside = w.outside;
  breaks = subst (λ o. AreBetween g.structs g.locals vars g.outside f o) (sym breaks) tt;
  continues = subst (λ o. AreBetween g.structs g.locals vars g.outside f o) (sym continues) tt;
}

-- which bounds are declared for each number, from one on
abbrev AreOf : Scope → (local : ℕ) → List Parameter → Type 0
AreOf g local ps = (x : ℕ) (b : Bounds) → slice_get (all_bounds ps) x ≡ Some (Some b) → MayStand g.structs g.locals (local + x) b

-- a flow in which bounds of parameters are declared
record IsEntered (vars : ℕ) (g : Scope) (f : Knowledge) : Type 0 where
  between : IsBetween g.structs g.locals vars f
  beyond : (p : ℕ) → length g.locals ≤ p → declared_at f p ≡ None

first_of : (g : Scope) (local : ℕ) (p : Parameter) (ps : List Parameter) → AreOf g local (p ∷ ps) → (b : Bounds) → bounds_in p.bounds ≡ Some b → MayStand g.structs g.locals local b
first_of g local p ps are b is = let same : local + 0 ≡ local = omega arith in subst (λ n. MayStand g.structs g.locals n b) same (are 0 b (ap Some is))

rest_of : (g : Scope) (local : ℕ) (p : Parameter) (ps : List Parameter) → AreOf g local (p ∷ ps) → AreOf g (suc local) ps
rest_of g local p ps are x b is = let same : local + suc x ≡ suc local + x = omega arith in subst (λ n. MayStand g.structs g.locals n b) same (are (suc x) b is)

declared_below : (vars : ℕ) (g : Scope) (local : ℕ) (o : Option Bounds) → length g.locals ≤ vars → ((b : Bounds) → o ≡ Some b → MayStand g.structs g.locals local b) → AreBoundsBelow vars o
declared_below vars g local None few is = tt
declared_below vars g local (Some b) few is = let it = (is b refl).0 in record { lo = int_below g.locals vars b.lo.var few it.ints.lo; hi = int_below g.locals vars b.hi.var few it.ints.hi }

module _ (vars : ℕ) (g : Scope) (few : length g.locals ≤ vars) where
  all_entered : (local : ℕ) (ps : List Parameter) (f : Knowledge) → local + length ps ≤ length g.locals → AreOf g local ps → IsEntered vars g f → IsEntered vars g (with_bounds local ps f)
  all_entered local [] f low are e = e
  all_entered local (p ∷ ps) f low are e =
      let first = first_of g local p ps are in
      all_entered (suc local) ps (entered local (bounds_in p.bounds) f) (omega (arith, low)) (rest_of g local p ps are) (record {
        between = between_entered vars local (bounds_in p.bounds) f (declared_below vars g local (bounds_in p.bounds) few first) first e.between;
        beyond = λ q far. entered_other local q (bounds_in p.bounds) f (λ same. absurd (omega (arith, far, low, same))) ∙ e.beyond q far;
      })

  -- where the locals are valid with them
  abbrev AreValid : List Structure → (local : ℕ) → List Parameter → State → Type 0
  AreValid structs local ps s = (x : ℕ) (b : Bounds) (l : Local) → slice_get (all_bounds ps) x ≡ Some (Some b) → slice_get s.locals (local + x) ≡ Some l → IsValid structs (Some b) l s

  -- bounds may be declared
  may_declare : (structs : List Structure) (local : ℕ) (o : Option Bounds) (z : State) → ((b : Bounds) → o ≡ Some b → MayStand g.structs g.locals local b) → HasLocals g.locals z → MayDeclare structs (types_of z.locals) local o
  may_declare structs local None z is has = record { ints = tt; size = λ c e. tt }
  may_declare structs local (Some b) z is has =
      let it = (is b refl).0 in
      record {
        ints = record { lo = formed_later g.locals z b.lo.var has it.ints.lo; hi = formed_later g.locals z b.hi.var has it.ints.hi };
        size = λ c e q d from there.
            let base = it.base q from in
            let d_is : d ≡ Pointer it.mode base.0 it.element = same_type d _ (sym there ∙ has q (Pointer it.mode base.0 it.element) base.1) in
            let c_is : c ≡ Pointer it.mode it.kind it.element = same_type c _ (sym e ∙ has local (Pointer it.mode it.kind it.element) it.own) in
            ap (target_size structs) d_is ∙ sym (ap (target_size structs) c_is);
      }
    where
      same_type : (a b : CType) → Some a ≡ Some b → a ≡ b
      same_type a b q = cc

  all_fit : (structs : List Structure) (local : ℕ) (ps : List Parameter) (f : Knowledge) (z : State) → local + length ps ≤ length g.locals → AreOf g local ps → IsEntered vars g f → HasLocals g.locals z → AreValid structs local ps z → Fits structs f z
      → Fits structs (with_bounds local ps f) z
  all_fit structs local [] f z low are e has valid h = h
  all_fit structs local (p ∷ ps) f z low are e has valid h =
      all_fit structs (suc local) ps (entered local (bounds_in p.bounds) f) z (omega (arith, low)) (rest_of g local p ps are) (one_entered local p ps f low are e) has
      (λ x b l is there. let same : suc local + x ≡ local + suc x = omega arith in valid (suc x) b l is (subst (λ n. slice_get z.locals n ≡ Some l) same there))
      ((flows_hold structs f e.between.flow).enter_between local (bounds_in p.bounds) z (may_declare structs local (bounds_in p.bounds) z (first_of g local p ps are) has) (λ l there. first_valid (bounds_in p.bounds) refl l there) h)
    where
      one_entered : (local : ℕ) (p : Parameter) (ps : List Parameter) (f : Knowledge) → local + length (p ∷ ps) ≤ length g.locals → AreOf g local (p ∷ ps) → IsEntered vars g f → IsEntered vars g (entered local (bounds_in p.bounds) f)
      one_entered local p ps f low are e = all_entered local (p ∷ []) f (omega (arith, low)) (λ x b is. one_of x b is) e
        where
          one_of : (x : ℕ) (b : Bounds) → slice_get (all_bounds (p ∷ [])) x ≡ Some (Some b) → MayStand g.structs g.locals (local + x) b
          one_of zero b is = are 0 b is
          one_of (suc x) b is = absurd (cc)

      first_valid : (o : Option Bounds) → bounds_in p.bounds ≡ o → (l : Local) → slice_get z.locals local ≡ Some l → IsValid structs o l z
      first_valid None is l there = tt
      first_valid (Some b) is l there = let same : local ≡ local + 0 = omega arith in valid 0 b l (ap Some is) (subst (λ n. slice_get z.locals n ≡ Some l) same there)

-- of a local with declared bounds, where they hold of the same local before
valid_there : (structs declared : List Structure) (types : List CType) (s z : State) → HasLocals types s → IsAlike (length types) s z → (x : ℕ) (b : Bounds) (l : Local) → IsDeclared declared types x b
    → ((l : Local) → slice_get s.locals x ≡ Some l → IsValid structs (Some b) l s) → slice_get z.locals x ≡ Some l → IsValid structs (Some b) l z
valid_there structs declared types s z has alike x b l d valid there =
    let type : slice_get (types_of s.locals) x ≡ Some (Pointer d.mode d.kind d.element) = has x (Pointer d.mode d.kind d.element) d.own in
    let same = alike.tracked x (slice_get_within types x (Pointer d.mode d.kind d.element) d.own) (λ c. absurd (let q : Some (Pointer d.mode d.kind d.element) ≡ Some Char = sym type ∙ c in cc)) in
    valid_alike structs declared types s z has alike x b l d (valid l (sym same ∙ there))

-- where a state enters the function whose parameters are valid with their bounds, what is known is so
pub record IsInside (vars : ℕ) (structs : List Structure) (bs : List (Option Bounds)) (g : Scope) : Type 0 where
  pub walk : IsWalk vars g
  pub free : (s : State) → HaveTypes s.locals → HasLocals g.locals s → AreEntered structs bs s → IsKnown structs g s

pub inside_entry : (structs : List Structure) (f : Signature) (ps : List Parameter) (body : Statements) (g : Scope) → length ps ≤ 16 → AreFormed g.structs (map (λ (p : Parameter). p.type) ps) ps → ((b : Bounds) → bounds_in f.result_bounds ≡ Some b → AreInts (map (λ (p : Parameter). p.type) ps) b) → IsInside (variables_in (length ps) body) structs (all_bounds ps) (inside f ps body g)
inside_entry structs f ps body g few formed result =
    let n = length ps + all_declared body in
    let vars = variables_in (length ps) body in
    let base = before_bounds f ps body g in
    let e = before_entry f ps body g few in
    let locals : base.locals ≡ map (λ (p : Parameter). p.type) ps = parameters_alone ps _ in
    let at : (x : ℕ) → x ≡ 0 + x = λ x. omega arith in
    let are : AreOf base 0 ps = λ x b is. subst (λ n. MayStand base.structs base.locals n b) (at x) (subst (λ ts. MayStand base.structs ts x b) (sym locals) (subst (λ structs. MayStand structs (map (λ (p : Parameter). p.type) ps) x b) (sym (structs_alone ps _)) (all_declared_so g.structs ps formed x b is))) in
    let many : 0 + length ps ≤ length base.locals = (let q = ap length locals in let m = length-map ps (λ (p : Parameter). p.type) in omega (arith, q, m)) in
    let first : IsEntered vars base base.flow = record { between = e.walk.between; beyond = e.walk.beyond } in
    let it = all_entered vars base e.walk.few 0 ps base.flow many are first in
    record {
      walk = walk_between vars base (with_bounds 0 ps base.flow) (bounds_in f.result_bounds) it.between it.beyond (λ b e. subst (λ ts. AreInts ts b) (sym locals) (result b e)) (breaks_alone ps _) (continues_alone ps _) e.walk;
      free = λ s good has entered z alike.
          let has_z = has_alike base.locals s z alike has in
          all_fit vars base e.walk.few structs 0 ps base.flow z many are first has_z
          (λ x b l is there. valid_there structs base.structs base.locals s z has alike (0 + x) b l (are x b is).0 (λ l here. entered x b l is (subst (λ n. slice_get s.locals n ≡ Some l) (sym (at x)) here)) there) (e.free structs s good z alike);
    }
