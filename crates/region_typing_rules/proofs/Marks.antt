-- A statement assigns only the locals that it marks.
use Rattle.std.proofs.Common.{◌≡◌, ℕ, Bool, true, List, Option, Some, None, refl}
use Rattle.std.specs.Prelude.{◌&&◌, slice_get}
use Rattle.ckc_text.specs.declared.place.Span.{Span}
use Rattle.ckc_text.specs.declared.code.Code.TheVariants.{E13, E17, E18}
use Rattle.ckc_tree.specs.declared.stmt.StoreOperator.{StoreOperator}
use Rattle.ckc_tree.specs.declared.stmt.StoreOperator.TheVariants as stores
use Rattle.ckc_tree.specs.Expressions.{Expression}
use Rattle.ckc_tree.specs.Statements as s
use Rattle.ckc_tree.specs.Statements.{Initializer, Assignment}
use Rattle.bounds_flow.specs.Flows.{Knowledge}
use Rattle.pointer_modes.specs.Types.{CType, Int, Char, Struct, Pointer}
use Rattle.act_words.specs.declared.operator.Operator.{Operator}
use Rattle.ckc_core.specs.declared.program.Direction.{Direction}
use Rattle.ckc_core.specs.declared.program.Direction.TheVariants as directions
use Rattle.ckc_core.specs.declared.program.Site.{Site}
use Rattle.ckc_core.specs.Core as core
use Rattle.region_typing_rules.specs.Verdicts.{Verdict, Passes, breaks}
use Rattle.region_typing_rules.specs.Scopes.{Scope}
use Rattle.region_typing_rules.specs.Types.{is_number, converts}
use Rattle.region_typing_rules.specs.Operands.{Places, Lvalue, OfLocal, OfCell, OfBounded, OfUnknown, ForNothing, ForArray, For, Typed, Value, AStruct, site_at, operator_along, sum_node, in_type, converted, bounds_met, meets}
use Rattle.region_typing_rules.specs.Expressions.{typed}
use Rattle.region_typing_rules.specs.DeclaredBounds.{unwritten_bounds}
use Rattle.region_typing_rules.specs.Statements.{store, update, assigned, set_to, declared_for, meets_declared, moved, updated_as, updated, stored, step_of, one, assignment, target_of, initialised}
use Rattle.region_typing_rules.proofs.Verdicts.{Promises, passing_promises, needs_promises, apart_promises, met_promises}
use Rattle.region_typing_rules.proofs.Kept.{passing_any}
use Rattle.region_typing_rules.proofs.Moving.{AssignsOnly}
use Rattle.region_typing_rules.proofs.Assigns.{IsPlain}
use Rattle.region_typing_rules.proofs.Sources.{IsNameOf, IsTarget, IsSource, number_any, numbers_any, typed_source}

-- ---- assignments are plain, and to the local of their target

-- a value is assigned, and to no local but the one of this name
pub record IsAssignment (g : Scope) (target : Expression) (x : core.Statement) : Type 0 where
  pub plain : IsPlain g.locals x
  pub only : (may : ℕ → Bool) → ((k : ℕ) → IsNameOf g.visible target k → may k ≡ true) → AssignsOnly may x

-- a conversion goes on with some value
pub converted_any : {A : Type 0} (Q : A → Type 0) (t : Typed) (to : CType) (span : Span) (next : core.Expression → Verdict A) → ((v : core.Expression) → Promises Q (next v)) → Promises Q (converted t to span next)
converted_any Q (Value type null value place) to span next more = needs_promises Q (converts type null to) E13 span _ (λ ok. more (in_type to (null && is_number type) value))
converted_any Q (AStruct number place) to span next more = tt

-- and bounds are asked for behind it
pub converted_met : {A : Type 0} (Q : A → Type 0) (f : Knowledge) (t : Typed) (to : CType) (span : Span) (next : core.Expression → Verdict A) → ((v : core.Expression) → Promises Q (next v)) → Promises Q (converted t to span (λ v. bounds_met f t to span (next v)))
converted_met Q f t to span next more = converted_any Q t to span _ (λ v. met_promises Q f t to span (next v) (more v))

module _ (g : Scope) (target : Expression) where
  store_plain : (place : Lvalue) (type : CType) (value : core.Expression) → IsTarget g target type (For place) → IsAssignment g target (store place type value)
  store_plain (OfLocal k) type value h = record { plain = (type, h.0); only = λ may is. is k h.1 }
  store_plain (OfCell p) type value h = record { plain = tt; only = λ may is. tt }
  store_plain (OfBounded k b) type value h = record { plain = tt; only = λ may is. tt }
  store_plain (OfUnknown k) type value h = record { plain = tt; only = λ may is. tt }

  update_plain : (place : Lvalue) (type : CType) (operator : Operator) (value : core.Expression) (site : Site) → IsTarget g target type (For place) → IsAssignment g target (update place type operator value site)
  update_plain (OfLocal k) type operator value site h = record { plain = (type, h.0, refl); only = λ may is. is k h.1 }
  update_plain (OfCell p) type operator value site h = record { plain = tt; only = λ may is. tt }
  update_plain (OfBounded k b) type operator value site h = record { plain = tt; only = λ may is. tt }
  update_plain (OfUnknown k) type operator value site h = record { plain = tt; only = λ may is. tt }

  assigned_plain : (t : Typed) (span : Span) (next : CType → Lvalue → Verdict core.Statement) → IsSource g target t → ((type : CType) (place : Lvalue) → IsTarget g target type (For place) → Promises (IsAssignment g target) (next type place)) → Promises (IsAssignment g target) (assigned t span next)
  assigned_plain (Value type null value ForNothing) span next h more = tt
  assigned_plain (Value type null value ForArray) span next h more = tt
  assigned_plain (Value type null value (For place)) span next h more = more type place h
  assigned_plain (AStruct number place) span next h more = tt

  set_plain : (f : Knowledge) (t right : Typed) (span : Span) → IsSource g target t → Promises (IsAssignment g target) (set_to f t right span)
  set_plain f t right span h =
      assigned_plain t span _ h (λ type place is. converted_any (IsAssignment g target) right type span _ (λ v. needs_promises (IsAssignment g target) (meets_declared f (declared_for place type) right type) E17 span _ (λ met. store_plain place type v is)))

  moved_plain : (f : Knowledge) (place : Lvalue) (type : CType) (sum : core.Expression) (span : Span) → IsTarget g target type (For place) → Promises (IsAssignment g target) (moved f place type sum span)
  moved_plain f (OfLocal k) type sum span h = record { plain = (type, h.0); only = λ may is. is k h.1 }
  moved_plain f (OfCell p) type sum span h = needs_promises (IsAssignment g target) (meets f sum (unwritten_bounds type)) E17 span (breaks E18 span) (λ met. tt)
  moved_plain f (OfBounded k b) type sum span h = needs_promises (IsAssignment g target) (meets f sum (Some b)) E17 span _ (λ met. record { plain = tt; only = λ may is. tt })
  moved_plain f (OfUnknown k) type sum span h = tt

  updated_as_plain : (direction : Direction) (type : CType) (place : Lvalue) (t right : Typed) (site : Site) (span : Span) → IsTarget g target type (For place)
      → Promises (IsAssignment g target) (updated_as g direction type place t right site span)
  updated_as_plain direction (Pointer m k to) place (Value u null pointer old) right site span is =
      number_any (IsAssignment g target) right span (λ v. moved g.flow place (Pointer m k to) (core.Sum pointer direction v site (sum_node g.locals direction pointer v site)) span)
      (λ v. moved_plain g.flow place (Pointer m k to) (core.Sum pointer direction v site (sum_node g.locals direction pointer v site)) span is)
  updated_as_plain direction (Pointer m k to) place (AStruct n old) right site span is = tt
  updated_as_plain direction Int place t right site span is =
      numbers_any (IsAssignment g target) t right span (λ old v. Passes (update place Int (operator_along direction) v site)) (λ old v. update_plain place Int (operator_along direction) v site is)
  updated_as_plain direction Char place t right site span is =
      numbers_any (IsAssignment g target) t right span (λ old v. Passes (update place Char (operator_along direction) v site)) (λ old v. update_plain place Char (operator_along direction) v site is)
  updated_as_plain direction (Struct n) place t right site span is =
      numbers_any (IsAssignment g target) t right span (λ old v. Passes (update place (Struct n) (operator_along direction) v site)) (λ old v. update_plain place (Struct n) (operator_along direction) v site is)

  updated_plain : (at : Places) (direction : Direction) (t right : Typed) (span : Span) → IsSource g target t → Promises (IsAssignment g target) (updated at g direction t right span)
  updated_plain at direction t right span h =
      assigned_plain t span _ h (λ type place is. apart_promises (IsAssignment g target) t right span _ (updated_as_plain direction type place t right (site_at at span) span is))

  stored_plain : (at : Places) (operator : StoreOperator) (t right : Typed) (span : Span) → IsSource g target t → Promises (IsAssignment g target) (stored at g operator t right span)
  stored_plain at stores.Set t right span h = set_plain g.flow t right span h
  stored_plain at stores.Add t right span h = updated_plain at directions.Forward t right span h
  stored_plain at stores.Subtract t right span h = updated_plain at directions.Backward t right span h

pub assignment_plain : (at : Places) (g : Scope) (a : Assignment) → Promises (IsAssignment g (target_of a)) (assignment at g a)
assignment_plain at g (s.Store operator target value span) =
    passing_promises (IsSource g target) (IsAssignment g target) (typed at g target) _ (typed_source at g target)
    (λ a h. passing_any (IsAssignment g target) (typed at g value) _ (λ b. stored_plain g target at operator a b span h))
assignment_plain at g (s.Step operator side target span) =
    passing_promises (IsSource g target) (IsAssignment g target) (typed at g target) _ (typed_source at g target) (λ a h. updated_plain g target at (step_of operator) a one span h)

-- the first value of a local
pub record IsFirst (types : List CType) (local : ℕ) (o : Option Initializer) (x : core.Statement) : Type 0 where
  pub plain : IsPlain types x
  pub only : (may : ℕ → Bool) → may local ≡ true → AssignsOnly may x
  pub none : o ≡ None → x ≡ core.Nothing

pub initialised_plain : (at : Places) (g : Scope) (o : Option Initializer) (type : CType) (local : ℕ) (span : Span) → slice_get g.locals local ≡ Some type → Promises (IsFirst g.locals local o) (initialised at g o type local span)
initialised_plain at g None type local span there = record { plain = tt; only = λ may is. tt; none = λ e. refl }
initialised_plain at g (Some (s.Value value)) type local span there =
    passing_any (IsFirst g.locals local (Some (s.Value value))) (typed at g value) _
    (λ t. converted_met (IsFirst g.locals local (Some (s.Value value))) g.flow t type span (λ v. Passes (core.SetLocal local v)) (λ v. record { plain = (type, there); only = λ may is. is; none = λ e. absurd (cc) }))
initialised_plain at g (Some (s.Constants constants list)) type local span there = tt
