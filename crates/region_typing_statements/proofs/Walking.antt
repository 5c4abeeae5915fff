-- Walks behind one another.
use Rattle.std.proofs.Common.{◌≡◌, ◌≤◌, ℕ, Option, Bool, [], ◌∷◌, ◌++◌, length, map, reverse, take, Result, Ok, Err, refl, ap, sym, ◌∙◌, append_assoc, arith}
use Rattle.std.specs.Result.{IsErrAnd}
use Rattle.std.proofs.lemmas.List.{append-nil, take_at, length-map, length-append}
use Rattle.std.proofs.lemmas.Result.{err_from_is_err_and}
use Rattle.region_typing_scope.specs.declared.refusals.CheckError.{CheckError}
use Rattle.region_typing_scope.specs.declared.refusals.CheckError.TheVariants.{Source, Unnamed, NoMemory}
use Rattle.bounds_exprs.specs.declared.term.Bounds.{Bounds}
use Rattle.pointer_modes.specs.Types.{CType, ctype}
use Rattle.region_typing_rules.specs.Verdicts.{Stop, Broken, Nameless, Verdict, Passes, Stops, passing}
use Rattle.region_typing_rules.specs.Scopes.{Scope}
use Rattle.bounds_flow.specs.Flows.{Knowledge}
use Rattle.region_typing_rules.specs.Knowing.{outside_of}
use Rattle.region_typing_rules.specs.Statements.{behind_block, with_local, row_type, with_array}
use Rattle.region_typing_scope.specs.declared.scope as code
use Rattle.region_typing_scope.specs.declared.visible as visible_code
use Rattle.region_typing_scope.specs.Views.{scope, visible}
use Rattle.region_typing_scope.specs.Answering.{Answers}
use Rattle.region_typing_scope.specs.Locals.{Grows}
use Rattle.region_typing_statements.specs.Walks.{Walks, walks_so}

-- ---- locals that become visible

pub none_more : (a : code.Scope.Scope) → Grows a a
none_more a = record { more = []; seen = sym (append-nil a.visible.items); types = (scope a).locals; arrays = (scope a).arrays; names = (scope a).visible; loop = a.in_loop; outside = a.outside; flow = a.flow; breaks = a.breaks; continues = a.continues; file = refl; count = omega arith; size = refl }

pub grown : {a b c : code.Scope.Scope} → Grows a b → Grows b c → Grows a c
grown {a} {b} {c} first rest = record {
  more = first.more ++ rest.more;
  seen = rest.seen ∙ ap (λ xs. xs ++ rest.more) first.seen ∙ append_assoc a.visible.items first.more rest.more;
  types = rest.types;
  arrays = rest.arrays;
  names = rest.names;
  loop = rest.loop;
  outside = rest.outside;
  flow = rest.flow;
  breaks = rest.breaks;
  continues = rest.continues;
  file = rest.file ∙ ap (λ (g : Scope). record g { locals = rest.types; arrays = rest.arrays; visible = rest.names; in_loop = rest.loop; outside = rest.outside; flow = rest.flow; breaks = rest.breaks; continues = rest.continues }) first.file;
  count = (let middle = rest.count in let held = ap (λ (g : Scope). length g.locals) first.file in omega (arith, first.count, middle, held));
  size = rest.size ∙ ap (λ (g : Scope). g.flow.vars) first.file ∙ first.size;
}

-- how many variables the flow of a scope has that grew
pub size_kept : {a b : code.Scope.Scope} → Grows a b → b.flow.vars ≡ a.flow.vars
size_kept more = ap (λ (g : Scope). g.flow.vars) more.file ∙ more.size

-- a scope around which another loop is innermost
pub other_turns : (outside : ℕ) (f : Knowledge) (bs cs : Option Knowledge) (a b : code.Scope.Scope) → scope b ≡ record (scope a) { outside = outside; flow = f; breaks = bs; continues = cs } → b.visible.items ≡ a.visible.items → b.flow.vars ≡ a.flow.vars → Grows a b
other_turns outside f bs cs a b known seen size = record {
  more = [];
  seen = seen ∙ sym (append-nil a.visible.items);
  types = (scope a).locals;
  arrays = (scope a).arrays;
  names = (scope a).visible;
  loop = a.in_loop;
  outside = outside;
  flow = f;
  breaks = bs;
  continues = cs;
  file = known;
  count = omega arith;
  size = sym (ap (λ (g : Scope). g.flow.vars) known) ∙ size;
}

-- a scope in which something else is known of numbers and pointers
pub other_flow : (f : Knowledge) (bs cs : Option Knowledge) (a b : code.Scope.Scope) → scope b ≡ record (scope a) { flow = f; breaks = bs; continues = cs } → b.visible.items ≡ a.visible.items → b.flow.vars ≡ a.flow.vars → Grows a b
other_flow f bs cs a b known seen size = other_turns a.outside f bs cs a b known seen size

-- no local goes away
pub none_gone : {a b : code.Scope.Scope} → Grows a b → length a.locals.items ≤ length b.locals.items
none_gone {a} {b} more =
    let before = length-map a.locals.items ctype in
    let held = ap (λ (g : Scope). length g.locals) more.file in
    let behind = length-map b.locals.items ctype in
    omega (arith, before, held, behind, more.count)

pub still_outside : {a b : code.Scope.Scope} {outside : ℕ} → Grows a b → outside ≤ length a.locals.items → outside ≤ length b.locals.items
still_outside more few = let kept = none_gone more in omega (arith, few, kept)

-- the locals that a block began with are still there
pub still_there : (a b : code.Scope.Scope) (start : code.BlockStart.BlockStart) → start ≡ record { visible = length a.visible.items; locals = length a.locals.items; in_loop = a.in_loop } → Grows a b → start.locals ≤ length b.locals.items
still_there a b start begins more =
    let first = ap (λ (x : code.BlockStart.BlockStart). x.locals) begins in
    let kept = none_gone more in
    omega (arith, first, kept)

-- a scope in which a local became visible
pub one_more : (name : ℕ) (t : CType) (bounds : Option Bounds) (a b : code.Scope.Scope) → scope b ≡ with_local name t bounds (scope a) → ((v : visible_code.Visible.Visible) × (b.visible.items ≡ a.visible.items ++ v ∷ [])) → Grows a b
one_more name t bounds a b known seen = record { more = seen.0 ∷ []; seen = seen.1; types = (scope a).locals ++ t ∷ []; arrays = _; names = _; loop = _; outside = _; flow = _; breaks = _; continues = _; file = known; count = omega (arith, length-append (scope a).locals (t ∷ [])); size = refl }

-- a scope in which a local array became visible
pub array_more : (name : ℕ) (t : CType) (count : ℕ) (ended : Bool) (a b : code.Scope.Scope) → scope b ≡ with_array name t count ended (scope a) → ((v : visible_code.Visible.Visible) × (b.visible.items ≡ a.visible.items ++ v ∷ [])) → Grows a b
array_more name t count ended a b known seen = record { more = seen.0 ∷ []; seen = seen.1; types = (scope a).locals ++ row_type ended t ∷ []; arrays = _; names = _; loop = _; outside = _; flow = _; breaks = _; continues = _; file = known; count = omega (arith, length-append (scope a).locals (row_type ended t ∷ [])); size = refl }

-- a scope whose loop is another
pub other_loop : (loop : Bool) (a b : code.Scope.Scope) → scope b ≡ record (scope a) { in_loop = loop } → b.visible.items ≡ a.visible.items → Grows a b
other_loop loop a b known seen = record { more = []; seen = seen ∙ sym (append-nil a.visible.items); types = (scope a).locals; arrays = (scope a).arrays; names = (scope a).visible; loop = loop; outside = a.outside; flow = a.flow; breaks = a.breaks; continues = a.continues; file = known; count = omega arith; size = refl }

-- those that were visible before
seen_before : {a b : code.Scope.Scope} → Grows a b → take (length a.visible.items) b.visible.items ≡ a.visible.items
seen_before {a} {b} more = ap (take (length a.visible.items)) more.seen ∙ take_at a.visible.items more.more (length a.visible.items) refl

-- what is known behind a block
pub record Left (outside inside new : code.Scope.Scope) : Type 0 where
  pub known : scope new ≡ behind_block (scope outside) (scope inside)
  pub grows : Grows outside new

pub left : (start : code.BlockStart.BlockStart) (outside inside new : code.Scope.Scope) → start ≡ record { visible = length outside.visible.items; locals = length outside.locals.items; in_loop = outside.in_loop } → Grows outside inside
    → scope new ≡ record (scope inside) { visible = reverse (map visible (take start.visible inside.visible.items)); in_loop = start.in_loop; flow = outside_of start.locals (scope inside) (scope inside).flow } → new.visible.items ≡ take start.visible inside.visible.items
    → new.flow.vars ≡ inside.flow.vars → Left outside inside new
left start outside inside new begins more known seen size =
    let here : take start.visible inside.visible.items ≡ outside.visible.items = ap (λ (b : code.BlockStart.BlockStart). take b.visible inside.visible.items) begins ∙ seen_before more in
    let around : start.in_loop ≡ outside.in_loop = ap (λ (b : code.BlockStart.BlockStart). b.in_loop) begins in
    let count : start.locals ≡ length (scope outside).locals = ap (λ (b : code.BlockStart.BlockStart). b.locals) begins ∙ sym (length-map outside.locals.items ctype) in
    let is : scope new ≡ behind_block (scope outside) (scope inside) = known ∙ rw (here, around, count) refl in
    record {
      known = is;
      grows = record {
        more = [];
        seen = seen ∙ here ∙ sym (append-nil outside.visible.items);
        types = more.types;
        arrays = more.arrays;
        names = (scope outside).visible;
        loop = outside.in_loop;
        outside = more.outside;
        flow = (behind_block (scope outside) (scope inside)).flow;
        breaks = more.breaks;
        continues = more.continues;
        file = is ∙ ap (λ (g : Scope). record g { visible = (scope outside).visible; in_loop = outside.in_loop; flow = (behind_block (scope outside) (scope inside)).flow }) more.file;
        count = more.count;
        size = sym (ap (λ (g : Scope). g.flow.vars) is) ∙ size ∙ size_kept more;
      };
    }

-- ---- what comes behind

-- behind a rule that is kept
pub goes_on : {A B C D : Type 0} {view : C → A} {verdict : Verdict A} {x : C} {view' : D → B} {old new : code.Scope.Scope} {r : Result D CheckError} (next : A → Verdict (B × Scope)) → Answers view verdict (Ok x) → Walks view' (next (view x)) old r new → Walks view' (passing verdict next) old r new
goes_on next first rest = record { so = rw first.so rest.so }

walked_so : {B D : Type 0} (view : D → B) (v w : Verdict (B × Scope)) (a b new : code.Scope.Scope) (r : Result D CheckError) → v ≡ w → Grows a b → walks_so view w b r new → walks_so view v a r new
walked_so view v w a b new (Ok c) is more rest = (is ∙ rest.0, grown more rest.1)
walked_so view v w a b new (Err (Source fault)) is more rest = is ∙ rest
walked_so view v w a b new (Err Unnamed) is more rest = is ∙ rest
walked_so view v w a b new (Err NoMemory) is more rest = tt

-- from a place with more locals
pub from_more : {B D : Type 0} (view : D → B) (v w : Verdict (B × Scope)) (a b new : code.Scope.Scope) (r : Result D CheckError) → v ≡ w → Grows a b → Walks view w b r new → Walks view v a r new
from_more view v w a b new r is more rest = record { so = walked_so view v w a b new r is more rest.so }

-- behind a walk
pub walks_on : {A B C D : Type 0} {view : C → A} {verdict : Verdict (A × Scope)} {x : C} {view' : D → B} {old mid new : code.Scope.Scope} {r : Result D CheckError} (next : A × Scope → Verdict (B × Scope)) → Walks view verdict old (Ok x) mid → Walks view' (next (view x, scope mid)) mid r new → Walks view' (passing verdict next) old r new
walks_on {view = view} {verdict = verdict} {x = x} {view' = view'} {old = old} {mid = mid} {new = new} {r = r} next first rest =
    from_more view' (passing verdict next) (next (view x, scope mid)) old mid new r (rw first.so.0 refl) first.so.1 rest

-- what an answer is that leaves known what was known
kept_so : {C A : Type 0} (view : C → A) (v : Verdict A) (g : code.Scope.Scope) (r : Result C CheckError) → Answers view v r → walks_so view (passing v (λ x. Passes (x, scope g))) g r g
kept_so view v g (Ok c) answer = (rw answer.so refl, none_more g)
kept_so view v g (Err (Source fault)) answer = rw answer.so refl
kept_so view v g (Err Unnamed) answer = rw answer.so refl
kept_so view v g (Err NoMemory) answer = tt

pub kept : {C A : Type 0} {view : C → A} {v : Verdict A} (g : code.Scope.Scope) {r : Result C CheckError} → Answers view v r → Walks view (passing v (λ x. Passes (x, scope g))) g r g
kept {view = view} {v = v} g {r = r} answer = record { so = kept_so view v g r answer }

pub kept_as : {C A : Type 0} {view : C → A} {v : Verdict A} (w : Verdict (A × Scope)) (g : code.Scope.Scope) {r : Result C CheckError} → w ≡ passing v (λ x. Passes (x, scope g)) → Answers view v r → Walks view w g r g
kept_as w g is answer = rw is (kept g answer)

-- what was built last
pub done : {B D : Type 0} (view : D → B) (y : D) (z : B) (g : code.Scope.Scope) → view y ≡ z → Walks view (Passes (z, scope g)) g (Ok y) g
done view y z g is = record { so = (ap (λ x. Passes (x, scope g)) (sym is), none_more g) }

-- what was built last, in a scope that another step gave
pub done_in : {B D : Type 0} (view : D → B) (y : D) (z : B) (a b : code.Scope.Scope) (next : Scope) → view y ≡ z → scope b ≡ next → Grows a b → Walks view (Passes (z, next)) a (Ok y) b
done_in view y z a b next is known more = record { so = (ap (λ x. Passes (x, next)) (sym is) ∙ ap (λ g. Passes (view y, g)) (sym known), more) }

-- behind a block
pub left_walk : {A B D : Type 0} (view : D → B) (f : A → B) (v : Verdict (A × Scope)) (x : A) (y : D) (old mid new : code.Scope.Scope) → v ≡ Passes (x, scope mid) → Left old mid new → view y ≡ f x → Walks view (passing v (λ w. Passes (f w.0, behind_block (scope old) w.1))) old (Ok y) new
left_walk view f v x y old mid new first gone is = record { so = (ap (λ w. passing w (λ w. Passes (f w.0, behind_block (scope old) w.1))) first ∙ ap (λ z. Passes (z, behind_block (scope old) (scope mid))) (sym is) ∙ ap (λ g. Passes (view y, g)) (sym gone.known), gone.grows) }

-- ---- rules that are broken

stops : {A B C D : Type 0} (view : C → A) (verdict : Verdict A) (view' : D → B) (next : A → Verdict (B × Scope)) (old new : code.Scope.Scope) (e : CheckError) → Answers view verdict (Err e) → Walks view' (passing verdict next) old (Err e) new
stops view verdict view' next old new (Source fault) first = record { so = rw first.so refl }
stops view verdict view' next old new Unnamed first = record { so = rw first.so refl }
stops view verdict view' next old new NoMemory first = record { so = tt }

pub refused : {A B C D : Type 0} {view : C → A} {verdict : Verdict A} {view' : D → B} {old new : code.Scope.Scope} {e : CheckError} (next : A → Verdict (B × Scope)) (r : Result D CheckError) → IsErrAnd r (λ y. y ≡ e) → Answers view verdict (Err e) → Walks view' (passing verdict next) old r new
refused {view = view} {verdict = verdict} {view' = view'} {old = old} {new = new} {e = e} next r is first =
    let p = err_from_is_err_and r is in
    rw (p.1, p.2) (stops view verdict view' next old new e first)

as_answer : {A C : Type 0} (view : C → A) (verdict : Verdict (A × Scope)) (old mid : code.Scope.Scope) (e : CheckError) → Walks view verdict old (Err e) mid → Answers {C = A × Scope} (λ x. x) verdict (Err e)
as_answer view verdict old mid (Source fault) walk = record { so = walk.so }
as_answer view verdict old mid Unnamed walk = record { so = walk.so }
as_answer view verdict old mid NoMemory walk = record { so = tt }

-- a walk in which a rule is broken
pub refused_walk : {A B C D : Type 0} {view : C → A} {verdict : Verdict (A × Scope)} {view' : D → B} {before old mid new : code.Scope.Scope} {e : CheckError} (next : A × Scope → Verdict (B × Scope)) (r : Result D CheckError) → IsErrAnd r (λ y. y ≡ e) → Walks view verdict before (Err e) mid → Walks view' (passing verdict next) old r new
refused_walk {view = view} {verdict = verdict} {before = before} {mid = mid} {e = e} next r is first = refused next r is (as_answer view verdict before mid e first)

by_part : {A B C D : Type 0} (view : C → A) (v : Verdict (A × Scope)) (view' : D → B) (w : Verdict (B × Scope)) (before mid old new : code.Scope.Scope) (e : CheckError) → ((stop : Stop) → v ≡ Stops stop → w ≡ Stops stop) → Walks view v before (Err e) mid → Walks view' w old (Err e) new
by_part view v view' w before mid old new (Source fault) breaks part = record { so = breaks (Broken fault) part.so }
by_part view v view' w before mid old new Unnamed breaks part = record { so = breaks Nameless part.so }
by_part view v view' w before mid old new NoMemory breaks part = record { so = tt }

-- what a part is refused for the whole is refused for
pub refused_by : {A B C D : Type 0} {view : C → A} {v : Verdict (A × Scope)} {view' : D → B} {w : Verdict (B × Scope)} {before mid old new : code.Scope.Scope} {e : CheckError} (r : Result D CheckError) → IsErrAnd r (λ y. y ≡ e) → ((stop : Stop) → v ≡ Stops stop → w ≡ Stops stop) → Walks view v before (Err e) mid → Walks view' w old r new
refused_by {view = view} {v = v} {view' = view'} {w = w} {before = before} {mid = mid} {old = old} {new = new} {e = e} r is breaks part =
    let p = err_from_is_err_and r is in
    rw (p.1, p.2) (by_part view v view' w before mid old new e breaks part)
