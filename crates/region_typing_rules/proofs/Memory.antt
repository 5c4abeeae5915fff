-- What allocation and casts give where they break no rule.
use Rattle.std.proofs.Common.{◌≡◌, Bool, true, false, List, Option, Some, None, refl}
use Rattle.std.specs.Prelude.{pos, nat_lt, ◌&&◌, is_some}
use Rattle.std.proofs.lemmas.Bool.{and_parts}
use Rattle.ckc_text.specs.declared.place.Span.{Span}
use Rattle.ckc_text.specs.declared.code.Code.TheVariants.{E13, E18}
use Rattle.ckc_tree.specs.declared.expr.BinaryOperator.TheVariants as binary
use Rattle.ckc_tree.specs.declared.expr.CastWord.{CastWord}
use Rattle.ckc_tree.specs.declared.expr.CastWord.TheVariants as cast_words
use Rattle.ckc_tree.specs.declared.expr.MallocWord.{MallocWord}
use Rattle.ckc_tree.specs.declared.expr.MallocWord.TheVariants as malloc_words
use Rattle.ckc_tree.specs.declared.expr.CallocWord.{CallocWord}
use Rattle.ckc_tree.specs.declared.expr.CallocWord.TheVariants as calloc_words
use Rattle.ckc_tree.specs.Expressions as e
use Rattle.ckc_tree.specs.Expressions.{Expression}
use Rattle.pointer_modes.specs.Types.{CType, Structure}
use Rattle.pointer_modes.specs.Layout.{size_of}
use Rattle.act_words.specs.declared.operator.Operator.TheVariants as operators
use Rattle.act_words.specs.declared.operator.ArithmeticOperator.TheVariants as arithmetics
use Rattle.ckc_core.specs.declared.program.Site.{Site}
use Rattle.ckc_core.specs.declared.program.Terminator.{Terminator}
use Rattle.ckc_core.specs.declared.program.Terminator.TheVariants as terminators
use Rattle.ckc_core.specs.Core as core
use Rattle.ckc_core.specs.Meaning.{bounds_of}
use Rattle.ckc_core.specs.Steps.{is_char}
use Rattle.region_typing_rules.specs.Verdicts.{picked}
use Rattle.region_typing_rules.specs.Scopes.{Scope, WrittenBounds, bounds_in}
use Rattle.region_typing_rules.specs.Readings.{term}
use Rattle.region_typing_rules.specs.Types.{is_number, may_lead_to}
use Rattle.region_typing_rules.specs.Cells.{cells_with}
use Rattle.region_typing_rules.specs.Statements.{array_kind, row_type}
use Rattle.region_typing_rules.specs.Operands.{Typed, Value, AStruct, ForNothing}
use Rattle.region_typing_rules.specs.Calls.{call_bounds}
use Rattle.region_typing_rules.specs.NewMemory.{is_size, first_factor, second_factor, factor_beside, elements_in, row_counted, allocation_if, malloc_typed, calloc_typed, casts_to, takes, has_base, base_in, cast_typed}
use Rattle.region_typing_rules.proofs.Verdicts.{Promises, needs_promises}

-- ---- values

-- what is so of the type and of the expression, where it is a value
abbrev pub OfValue : (CType → core.Expression → Type 0) → Typed → Type 0
OfValue P (Value type zero value place) = P type value
OfValue P (AStruct number place) = Unit {0}

pub of_any : (P : CType → core.Expression → Type 0) (a : Typed) → ((type : CType) (value : core.Expression) → P type value) → OfValue P a
of_any P (Value type zero value place) h = h type value
of_any P (AStruct number place) h = tt

-- ---- numbers of elements

-- what may be the number of elements, where this is the size
pub data IsCount (size : core.Expression) : core.Expression → Type 0 where
  OfBytes : IsCount size size
  OfOne : IsCount size (core.Number (pos 1))
  OfLeft : {left right : core.Expression} {site : Site} → size ≡ core.Arithmetic (operators.Arithmetic arithmetics.Multiply) left right site → IsCount size left
  OfRight : {left right : core.Expression} {site : Site} → size ≡ core.Arithmetic (operators.Arithmetic arithmetics.Multiply) left right site → IsCount size right

abbrev IfCount : core.Expression → Option core.Expression → Type 0
IfCount size None = Unit {0}
IfCount size (Some count) = IsCount size count

picked_count : (size : core.Expression) (test : Bool) (a b : Option core.Expression) → IfCount size a → IfCount size b → IfCount size (picked test a b)
picked_count size true a b h k = h
picked_count size false a b h k = k

first_count : (size : core.Expression) → IfCount size (first_factor size)
first_count (core.Arithmetic (operators.Arithmetic arithmetics.Multiply) left right site) = OfLeft refl
first_count _ = tt

second_count : (size : core.Expression) → IfCount size (second_factor size)
second_count (core.Arithmetic (operators.Arithmetic arithmetics.Multiply) left right site) = OfRight refl
second_count _ = tt

beside_count : (s : Scope) (t : CType) (written : Expression) (size : core.Expression) → IfCount size (factor_beside s t written size)
beside_count s t (e.Binary binary.Multiply left right span) size =
    picked_count size (is_size s t right) (first_factor size) (picked (is_size s t left) (second_factor size) None) (first_count size)
    (picked_count size (is_size s t left) (second_factor size) None (second_count size) tt)
beside_count s t _ size = tt

counts : (s : Scope) (t : CType) (written : Expression) (size : core.Expression) → IfCount size (elements_in s t written size)
counts s t written size = by (factor_beside s t written size) refl (beside_count s t written size)
  where
    by : (o : Option core.Expression) → factor_beside s t written size ≡ o → IfCount size (factor_beside s t written size) → IfCount size (elements_in s t written size)
    by None found h = rw found
        (picked_count size (is_size s t written) (Some (core.Number (pos 1))) (picked (is_char t) (Some size) None) OfOne (picked_count size (is_char t) (Some size) None OfBytes tt))
    by (Some count) found h = let there : IsCount size count = rw found at h in rw found there

-- ---- allocation

-- what new memory may consist of: elements that have bytes, or numbers with a zero behind them
abbrev pub MayConsist : List Structure → (ended : Bool) → CType → Type 0
MayConsist structs false t = nat_lt 0 (size_of structs t) ≡ true
MayConsist structs true t = is_number t ≡ true

-- to which pointers may lead
pub may_lead : (structs : List Structure) (t : CType) (ended : Bool) → MayConsist structs ended t → may_lead_to (array_kind ended) t ≡ true
may_lead structs t false h = refl
may_lead structs t true h = h

-- a zero stands behind them, or none
abbrev behind_if : (ended : Bool) → Terminator
behind_if false = terminators.Absent
behind_if true = terminators.Behind

-- new memory of so many of them
abbrev pub new_memory : Scope → (ended : Bool) → CType → core.Expression → Site → Typed
new_memory s ended t count site =
    Value (row_type ended t) false (core.Allocate count (cells_with s.structs t (pos 0)) (behind_if ended) (row_counted s.structs t ended (term s.locals count) site)) ForNothing

module _ (Q : Typed → Type 0) (s : Scope) (t : CType) (site : Site) (span : Span) where
  if_promises : (o : Option core.Expression) (size : core.Expression) → IfCount size o → ((count : core.Expression) → IsCount size count → MayConsist s.structs false t → Q (new_memory s false t count site)) → Promises Q (allocation_if s t o site span)
  if_promises None size h more = tt
  if_promises (Some count) size h more = needs_promises Q (nat_lt 0 (size_of s.structs t)) E13 span _ (λ bytes. more count h bytes)

  pub malloc_promises : (word : MallocWord) (written : Expression) (a : Typed)
      → OfValue (λ (type : CType) (size : core.Expression). is_number type ≡ true → (count : core.Expression) → IsCount size count → MayConsist s.structs false t → Q (new_memory s false t count site)) a
      → Promises Q (malloc_typed word s t written a site span)
  malloc_promises malloc_words.TMalloc written a h = tt
  malloc_promises malloc_words.Malloc written (AStruct number place) h = tt
  malloc_promises malloc_words.Malloc written (Value type zero size place) h =
      needs_promises Q (is_number type) E13 span _ (λ number. if_promises (elements_in s t written size) size (counts s t written size) (h number))

  pub calloc_promises : (word : CallocWord) (a : Typed) (written : Expression)
      → OfValue (λ (type : CType) (count : core.Expression). is_number type ≡ true → (ended : Bool) → MayConsist s.structs ended t → Q (new_memory s ended t count site)) a
      → Promises Q (calloc_typed word s t a written site span)
  calloc_promises calloc_words.NtCalloc (AStruct number place) written h = tt
  calloc_promises calloc_words.NtCalloc (Value type zero count place) written h =
      needs_promises Q (is_number type) E13 span _ (λ number. needs_promises Q (is_size s t written) E13 span _ (λ size. needs_promises Q (is_number t) E13 span _ (λ numbers. h number true numbers)))
  calloc_promises calloc_words.Calloc (AStruct number place) written h = tt
  calloc_promises calloc_words.Calloc (Value type zero count place) written h =
      needs_promises Q (is_number type) E13 span _ (λ number. needs_promises Q (is_size s t written) E13 span _ (λ size. needs_promises Q (nat_lt 0 (size_of s.structs t)) E13 span _ (λ bytes. h number false bytes)))

-- ---- casts

-- a pointer of a type becomes one of another, with bounds as they are written
pub record Casts (structs : List Structure) (type to : CType) (value : core.Expression) (written : WrittenBounds) : Type 0 where
  pub types : casts_to structs type to ≡ true
  pub taken : takes to written ≡ true
  pub bounds : is_some (bounds_of value) ≡ true
  pub base : has_base (base_in (bounds_in written)) value ≡ true

abbrev pub new_pointer : Scope → CType → core.Expression → WrittenBounds → Site → Typed
new_pointer s to value written site = Value to false (core.Cast value (call_bounds s.structs to (bounds_in written) site)) ForNothing

pub cast_promises : (Q : Typed → Type 0) (word : CastWord) (s : Scope) (to : CType) (a : Typed) (written : WrittenBounds) (site : Site) (span : Span)
    → OfValue (λ (type : CType) (value : core.Expression). Casts s.structs type to value written → Q (new_pointer s to value written site)) a → Promises Q (cast_typed word s to a written site span)
cast_promises Q cast_words.Assume s to a written site span h = tt
cast_promises Q cast_words.Dynamic s to (AStruct number place) written site span h = tt
cast_promises Q cast_words.Dynamic s to (Value type zero value place) written site span h =
    needs_promises Q (casts_to s.structs type to && takes to written) E13 span _ (λ like. needs_promises Q (is_some (bounds_of value) && has_base (base_in (bounds_in written)) value) E18 span _ (λ has.
    let types = and_parts (casts_to s.structs type to) (takes to written) like in
    let there = and_parts (is_some (bounds_of value)) (has_base (base_in (bounds_in written)) value) has in
    h (record { types = types.0; taken = types.1; bounds = there.0; base = there.1 })))
