-- What is so of both kinds of locals is so of a declarator: of a local that is no array, and of an array, which becomes new memory.
use Rattle.std.proofs.Common.{◌≡◌, ℕ, pos, Bool, true, false, length, Option, Some, None, refl}
use Rattle.std.specs.Prelude.{nat_lt}
use Rattle.ckc_text.specs.declared.code.Code.{Code}
use Rattle.ckc_text.specs.declared.code.Code.TheVariants.{E08, E13}
use Rattle.ckc_text.specs.declared.place.Span.{Span}
use Rattle.ckc_tree.specs.Types.{TypeTree, type_span}
use Rattle.ckc_tree.specs.Statements.{Declarator}
use Rattle.bounds_exprs.specs.declared.term.Bounds.{Bounds}
use Rattle.bounds_exprs.specs.declared.term.Term.{Term}
use Rattle.bounds_exprs.specs.Normal.{constant}
use Rattle.pointer_modes.specs.Types.{CType}
use Rattle.pointer_modes.specs.Layout.{size_of}
use Rattle.ckc_core.specs.declared.program.Site.{Site}
use Rattle.ckc_core.specs.declared.program.Terminator.{Terminator}
use Rattle.ckc_core.specs.declared.program.Terminator.TheVariants as terminators
use Rattle.ckc_core.specs.Core as core
use Rattle.region_typing_rules.specs.Verdicts.{Verdict, Passes, passing, needs}
use Rattle.region_typing_rules.specs.Scopes.{Scope}
use Rattle.region_typing_rules.specs.Types.{is_number, may_lead_to, without_stars, converts}
use Rattle.region_typing_rules.specs.Cells.{is_length, cells_with}
use Rattle.region_typing_rules.specs.Readings.{term}
use Rattle.region_typing_rules.specs.Operands.{Places, Typed, Value, ForNothing, site_at}
use Rattle.region_typing_rules.specs.NewMemory.{row_counted}
use Rattle.region_typing_rules.specs.DeclaredBounds.{declared_bounds}
use Rattle.region_typing_rules.specs.Knowing.{assigned_by, settling, knowing}
use Rattle.region_typing_rules.specs.Statements.{Walked, both, with_local, bounded_local, length_of, row_type, with_array, array_bounds, without_initial, made_array, array_in, local_of, declarator, is_ended_array, array_kind, before_end, array_memory}
use Rattle.region_typing_rules.proofs.Verdicts.{Promises, passing_promises, needs_promises, anything_promised}
use Rattle.region_typing_rules.proofs.Memory.{MayConsist}

-- the last one of an array's elements may be the zero that ends it
abbrev last_if : (ended : Bool) → Terminator
last_if false = terminators.Absent
last_if true = terminators.Last

-- the term of how many stand before it
abbrev before_in : Scope → (ended : Bool) → ℕ → Option Term
before_in g false count = term g.locals (core.Number (pos count))
before_in g true count = Some (constant (pos (before_end true count)))

-- new memory for an array of so many elements in the scope
abbrev pub memory_of : Scope → (ended : Bool) → CType → ℕ → Site → core.Expression
memory_of g ended t count site =
    core.Allocate (core.Number (pos count)) (cells_with g.structs t (pos 0)) (last_if ended) (row_counted g.structs t ended (before_in g ended count) site)

-- what is left of its declaration once it has a value
abbrev pub settled_array : Scope → ℕ → core.Expression → Span → Verdict Walked
settled_array g local v span =
    passing (settling (assigned_by g.locals (core.SetLocal local v) g.flow) span) (λ f. Passes (both (core.SetLocal local core.Null) (core.SetLocal local v), knowing f g))

needed_first : {A B : Type 0} (Q : B → Type 0) (test : Bool) (code : Code) (span : Span) (value : A) (next : A → Verdict B) → (test ≡ true → Promises Q (next value)) → Promises Q (passing (needs test code span (Passes value)) next)
needed_first Q true code span value next h = h refl
needed_first Q false code span value next h = tt

made_promises : (Q : Walked → Type 0) (g : Scope) (local : ℕ) (ended : Bool) (t : CType) (count : ℕ) (site : Site) (span : Span)
    → (MayConsist g.structs ended t → Promises Q (settled_array g local (memory_of g ended t count site) span))
    → Promises Q (passing (array_memory g ended t count site span) (λ memory. made_array g local memory (row_type ended t) span))
made_promises Q g local false t count site span h =
    needed_first Q (nat_lt 0 (size_of g.structs t)) E13 span (Value (row_type false t) false (memory_of g false t count site) ForNothing) (λ (memory : Typed). made_array g local memory (row_type false t) span)
    (λ bytes. needs_promises Q (converts (row_type false t) false (row_type false t)) E13 span _ (λ ok. h bytes))
made_promises Q g local true t count site span h =
    needed_first Q (is_number t) E13 span (Value (row_type true t) false (memory_of g true t count site) ForNothing) (λ (memory : Typed). made_array g local memory (row_type true t) span)
    (λ number. needs_promises Q (converts (row_type true t) false (row_type true t)) E13 span _ (λ ok. h number))

array_promises : (Q : Walked → Type 0) (at : Places) (g : Scope) (local : ℕ) (d : Declarator) (ended : Bool) (t : CType) (count : ℕ) (span : Span)
    → (MayConsist g.structs ended t → Promises Q (settled_array g local (memory_of g ended t count (site_at at span)) span)) → Promises Q (array_in at g local d t count ended span)
array_promises Q at g local d ended t count span h =
    passing_promises (λ (b : Option Bounds). Unit {0}) Q (array_bounds g d.bounds) _ (anything_promised (array_bounds g d.bounds))
    (λ bounds _. passing_promises (λ (u : Unit {0}). Unit {0}) Q (without_initial at g d.initializer span) _ (anything_promised (without_initial at g d.initializer span))
    (λ initial _. made_promises Q g local ended t count (site_at at span) span h))

-- where there is room for the local, and something is promised of its type
pub declarator_promises : (Q : Walked → Type 0) (K : CType → Type 0) (at : Places) (g : Scope) (base : TypeTree) (type : CType) (span : Span) (d : Declarator) → (nat_lt (length g.locals) g.flow.vars ≡ true → Promises K (without_stars base d.stars type))
    → (nat_lt (length g.locals) g.flow.vars ≡ true → (t : CType) → K t → Promises Q (passing (declared_bounds (with_local d.name.number t None g) t (length g.locals) d.bounds) (bounded_local at g d t span)))
    → (nat_lt (length g.locals) g.flow.vars ≡ true → (t : CType) → K t → (count : ℕ) → length_of d ≡ Some count → is_length (Some count) ≡ true → (ended : Bool) → MayConsist g.structs ended t
    → Promises Q (settled_array (with_array d.name.number t count ended g) (length g.locals) (memory_of (with_array d.name.number t count ended g) ended t count (site_at at span)) span))
    → Promises Q (declarator at g base type span d)
declarator_promises Q K at g base type span d typed plain array = needs_promises Q (nat_lt (length g.locals) g.flow.vars) E08 span _ (λ few. by few (length_of d) refl)
  where
    by : nat_lt (length g.locals) g.flow.vars ≡ true → (o : Option ℕ) → length_of d ≡ o → Promises Q (local_of at g base type span d o)
    by few None e = passing_promises K Q (without_stars base d.stars type) _ (typed few) (plain few)
    by few (Some count) e =
        needs_promises Q (is_length (Some count)) E08 span _
        (λ ok. passing_promises K Q (without_stars base d.stars type) _ (typed few)
        (λ t k. needs_promises Q (may_lead_to (array_kind (is_ended_array d)) t) E13 (type_span base) _
        (λ numbers. array_promises Q at (with_array d.name.number t count (is_ended_array d) g) (length g.locals) d (is_ended_array d) t count span (array few t k count e ok (is_ended_array d)))))
