-- What a walk knows of the program that it leads to, and what names stand for there.
use Rattle.std.proofs.Common.{◌≡◌, ℕ, zero, suc, ◌+◌, ◌-◌, ◌<◌, ◌≤◌, Bool, true, false, List, [], ◌∷◌, take, map, length, Option, Some, None, refl, ap, subst, arith}
use Rattle.std.specs.Prelude.{◌==◌, slice_get, not}
use Rattle.std.specs.List.{AllByRecursion}
use Rattle.ckc_text.specs.declared.place.Span.{Span}
use Rattle.ckc_text.specs.declared.code.Code.TheVariants.{E24}
use Rattle.pointer_modes.specs.declared.ctype.Mode.{Mode}
use Rattle.pointer_modes.specs.declared.ctype.Kind.{Kind}
use Rattle.pointer_modes.specs.Types.{CType, Int, Char, Struct, Pointer, Member, Structure, members_of}
use Rattle.bounds_exprs.specs.declared.term.Bounds.{Bounds}
use Rattle.bounds_flow.specs.Conditions.{IsFlow}
use Rattle.pointer_modes.specs.Layout.{placed_from, member_sizes, sizes_of, end_from, size_of, cells_of, aligned_up, scalar_size}
use Rattle.pointer_modes.proofs.Layouts.{widths, size_behind}
use Rattle.ckc_core.specs.Programs.{Import, Variable}
use Rattle.ckc_core.specs.Core as core
use Rattle.ckc_core.specs.States.{shape, object_block}
use Rattle.region_typing_rules.specs.Verdicts.{Verdict, meant, picked}
use Rattle.region_typing_rules.specs.Scopes.{Scope, Signature, WrittenBounds, FileVariable, Visible, Named, Local, Object, Array, Nothing, local_if, found_if, local_named, object_of, object_named, or_else, null_named, named, function_named, bounds_in}
use Rattle.region_typing_rules.specs.Types.{Counts, is_number}
use Rattle.ckc_tree.specs.Texts.{Text}
use Rattle.region_typing_rules.specs.Strings.{Strings, text_object}
use Rattle.region_typing_rules.specs.Operands.{Typed, member_from, offset_among}
use Rattle.region_typing_rules.specs.Calls.{is_checked_argument, without_checked, crossing, is_import, side_number}
use Rattle.bounds_flow_meaning.specs.Holding.{AreInts}
use Rattle.bounds_flow_meaning.specs.Rows.{slots_from, slots, HasRow}
use Rattle.region_typing_rules.specs.Typed.{Frame, IsBoundedObject, HasResultBounds, HaveRows, AreRows, IsEndedRow, IsNumberResult, IsScalar, IsScalarResult}
use Rattle.region_typing_rules.proofs.Verdicts.{Promises, needs_promises, Extends}
use Rattle.region_typing_rules.proofs.InForce.{AreSo, IsPointing}
use Rattle.region_typing_rules.proofs.Known.{IsKnown, IsKnownVariable, IsClosed}

abbrev pub IsNumberType : CType → Type 0
IsNumberType t = is_number t ≡ true

-- a trusted function of the program, as it was declared
pub record IsTrusted (g : Frame) (number : ℕ) (f : Signature) : Type 0 where
  pub function : core.Function
  pub found : slice_get g.program.functions number ≡ Some function
  pub parameters : take function.parameters function.locals ≡ f.parameters
  pub result : function.result ≡ f.result
  pub scalar : IsScalarResult f.result
  pub bounds : slice_get g.bounds number ≡ Some (map bounds_in f.bounds)
  pub told : slice_get g.result_bounds number ≡ Some (bounds_in f.result_bounds)
  pub sound : HasResultBounds f.parameters f.result (bounds_in f.result_bounds)
  pub rows : HaveRows f.parameters (map bounds_in f.bounds)

-- a tainted one, which takes and gives numbers
pub record IsTainted (g : Frame) (number : ℕ) (f : Signature) : Type 0 where
  pub import : Import
  pub found : slice_get g.program.imports number ≡ Some import
  pub parameters : import.parameters ≡ length f.parameters
  pub result : import.result ≡ f.result
  pub numbers : AllByRecursion IsNumberType f.parameters
  pub number_result : IsNumberResult f.result
  pub rows : HaveRows f.parameters (map bounds_in f.bounds)

-- a variable of the program, and what stands at its first byte
pub record IsObject (g : Frame) (type : CType) (number : ℕ) : Type 0 where
  pub variable : Variable
  pub found : slice_get g.program.objects number ≡ Some variable
  pub row : HasRow g.structs (shape (object_block variable)) 0 type

-- a pointer of the program with the bounds that are declared for it
pub record IsBoundedPointer (g : Frame) (type : CType) (b : Bounds) (number : ℕ) : Type 0 where
  pub mode : Mode
  pub kind : Kind
  pub counts : Counts kind
  pub element : CType
  pub own : type ≡ Pointer mode kind element
  pub object : IsBoundedObject g number mode kind element b

-- an array of the program, and as many values of its type in a row
pub record IsArray (g : Frame) (type : CType) (length number : ℕ) : Type 0 where
  pub variable : Variable
  pub found : slice_get g.program.objects number ≡ Some variable
  pub some : 0 < length
  pub few : length ≤ 8192
  pub rows : AreRows g.structs (shape (object_block variable)) type length

-- the same of one whose last value is the zero that ends it
pub record IsEndedArray (g : Frame) (type : CType) (length number : ℕ) : Type 0 where
  pub variable : Variable
  pub found : slice_get g.program.objects number ≡ Some variable
  pub few : length - 1 ≤ 32768
  pub row : IsEndedRow g.structs (shape (object_block variable)) type (length - 1)

abbrev pub IsArrayIf : Frame → CType → (length : ℕ) → (ended : Bool) → (number : ℕ) → Type 0
IsArrayIf g type length false number = IsArray g type length number
IsArrayIf g type length true number = IsEndedArray g type length number

-- a file-level variable of a type: it has so many elements where it is an array, and else these bounds, where there are any
abbrev pub IsSingle : Frame → CType → WrittenBounds → (number : ℕ) → Type 0
IsSingle g type None number = IsObject g type number
IsSingle g type (Some None) number = IsObject g type number
IsSingle g type (Some (Some b)) number = IsBoundedPointer g type b number

abbrev pub IsVariable : Frame → FileVariable → Option ℕ → (number : ℕ) → Type 0
IsVariable g v None number = IsSingle g v.type v.bounds number
IsVariable g v (Some length) number = IsArrayIf g v.type length v.ended number

-- the strings have blocks of the program, behind those of its variables
abbrev pub HoldsTexts : Frame → Strings → Type 0
HoldsTexts g s = (k : ℕ) (t : Text) → slice_get s.texts k ≡ Some t → slice_get g.program.objects (s.variables + k) ≡ Some (text_object t)

-- the structs, the variables, the strings and the functions that are known are those of the program
pub record KnowsFile (g : Frame) (s : Scope) : Type 0 where
  pub structs : Extends s.structs g.structs
  pub closed : IsClosed s
  pub few_members : (n : ℕ) → length (members_of s.structs n) ≤ 64
  pub scalar_members : (n : ℕ) → AllByRecursion (λ m. IsScalar m.ctype) (members_of s.structs n)
  pub variables : (k : ℕ) (v : FileVariable) → slice_get s.variables k ≡ Some v → IsVariable g v v.length k
  pub texts : HoldsTexts g s.strings
  pub trusted : (name : ℕ) (f : Signature) → function_named s.functions name ≡ Some f → is_import f ≡ false → IsTrusted g (side_number false s.functions f.name 0) f
  pub tainted : (name : ℕ) (f : Signature) → function_named s.functions name ≡ Some f → is_import f ≡ true → IsTainted g (side_number true s.functions f.name 0) f

-- the locals of the function that is walked, of each of which its flow speaks, are those of the program too
pub record Knows (g : Frame) (types : List CType) (s : Scope) : Type 0 where
  pub file : KnowsFile g s
  pub flow : IsFlow s.flow
  pub pointers : AreSo (IsPointing s.locals) s.flow
  pub few : length s.locals ≤ s.flow.vars
  pub result : (b : Bounds) → s.result_bounds ≡ Some b → AreInts s.locals b
  pub locals : Extends s.locals types
  pub scalar : AllByRecursion IsScalar types

-- ---- sizes

aligned_least : (t : CType) (n : ℕ) → n ≤ aligned_up (scalar_size t) n
aligned_least Int n = omega arith
aligned_least Char n = omega arith
aligned_least (Struct number) n = omega arith
aligned_least (Pointer m k t) n = omega arith

end_least : (members : List Member) (place : ℕ) → place ≤ end_from place (member_sizes members)
end_least [] place = omega arith
end_least (m ∷ members) place = omega (arith, aligned_least m.ctype place, end_least members (aligned_up (scalar_size m.ctype) place + scalar_size m.ctype))

scalar_some : (t : CType) → 0 < scalar_size t
scalar_some Int = omega arith
scalar_some Char = omega arith
scalar_some (Struct number) = omega arith
scalar_some (Pointer m k t) = omega arith

members_some : (members : List Member) → 0 < length (slots_from members (placed_from 0 (member_sizes members))) → 0 < end_from 0 (member_sizes members)
members_some [] h = absurd (omega arith)
members_some (m ∷ members) h = omega (arith, scalar_some m.ctype, end_least members (aligned_up (scalar_size m.ctype) 0 + scalar_size m.ctype))

-- a type that consists of scalars has bytes
size_some : (structs : List Structure) (t : CType) → 0 < length (slots structs t) → 0 < size_of structs t
size_some structs Int h = omega arith
size_some structs Char h = omega arith
size_some structs (Pointer m k t) h = omega arith
size_some structs (Struct n) h = omega (arith, members_some (members_of structs n) h, size_behind (sizes_of structs (Struct n)) (widths structs (Struct n)))

-- and so has the type of an array's elements
pub array_sized : (g : Frame) (type : CType) (length number : ℕ) → IsArray g type length number → 0 < size_of g.structs type
array_sized g type length number is = size_some g.structs type (is.rows 0 is.some).stands.there

-- ---- types

-- ---- what crosses the boundary

without_checked_promises : {A : Type 0} (Q : A → Type 0) (arguments : List (Typed × Span)) (next : Verdict A) → Promises Q next → Promises Q (without_checked arguments next)
without_checked_promises Q [] next h = h
without_checked_promises Q (argument ∷ arguments) next h =
    needs_promises Q (not (is_checked_argument argument.0)) E24 argument.1 (without_checked arguments next) (λ yes. without_checked_promises Q arguments next h)

pub crossing_promises : {A : Type 0} (Q : A → Type 0) (tainted : Bool) (arguments : List (Typed × Span)) (next : Verdict A) → Promises Q next → Promises Q (crossing tainted arguments next)
crossing_promises Q true arguments next h = without_checked_promises Q arguments next h
crossing_promises Q false arguments next h = h

-- ---- names

-- what a name stands for is there among these locals, and of an array the size of its elements is known
abbrev pub StandsFor : Frame → List Structure → List CType → Named → Type 0
StandsFor g structs types (Local k t) = slice_get types k ≡ Some t
StandsFor g structs types (Object k t b) = IsSingle g t b k × IsKnown structs t
StandsFor g structs types (Array k t n ended) = IsArrayIf g t n ended k × IsKnown structs t
StandsFor g structs types Nothing = Unit {0}

abbrev IfNamed : Frame → List Structure → List CType → Option Named → Type 0
IfNamed g structs types None = Unit {0}
IfNamed g structs types (Some n) = StandsFor g structs types n

module _ (g : Frame) (structs : List Structure) (types : List CType) where
  abbrev Stands : Option Named → Type 0
  Stands o = IfNamed g structs types o

  found_stands : (test : Bool) (this other : Option Named) → Stands this → Stands other → Stands (found_if test this other)
  found_stands true this other h h' = h
  found_stands false this other h h' = h'

  local_stands : (o : Option CType) (k : ℕ) → ((t : CType) → o ≡ Some t → slice_get types k ≡ Some t) → Stands (local_if o k)
  local_stands None k h = tt
  local_stands (Some t) k h = h t refl

  locals_stand : (known : List CType) → Extends known types → (visible : List Visible) (name : ℕ) → Stands (local_named known visible name)
  locals_stand known ext [] name = tt
  locals_stand known ext (v ∷ visible) name =
      found_stands (name == v.name) (local_if (slice_get known v.local) v.local) (local_named known visible name) (local_stands (slice_get known v.local) v.local (λ t h. ext v.local t h)) (locals_stand known ext visible name)

  object_stands : (number : ℕ) (v : FileVariable) (length : Option ℕ) → IsVariable g v length number → IsKnownVariable structs v → Stands (Some (object_of number v length))
  object_stands number v None h known = (h, known.1)
  object_stands number v (Some length) h known = (h, known.1)

  objects_stand : (number : ℕ) (variables : List FileVariable) (name : ℕ) → ((k : ℕ) (v : FileVariable) → slice_get variables k ≡ Some v → IsVariable g v v.length (number + k))
      → AllByRecursion (IsKnownVariable structs) variables → Stands (object_named number variables name)
  objects_stand number [] name h known = tt
  objects_stand number (v ∷ variables) name h known =
      let first : number + 0 ≡ number = omega arith in
      found_stands (name == v.name) (Some (object_of number v v.length)) (object_named (suc number) variables name)
      (object_stands number v v.length (subst (λ k. IsVariable g v v.length k) first (h 0 v refl)) known.0)
      (objects_stand (suc number) variables name (λ k w e. let same : number + suc k ≡ suc number + k = omega arith in subst (λ j. IsVariable g w w.length j) same (h (suc k) w e)) known.1)

  either_stands : (this other : Option Named) → Stands this → Stands other → Stands (or_else this other)
  either_stands (Some n) other h h' = h
  either_stands None other h h' = h'

  meant_stands : (o : Option Named) → Stands o → Promises (StandsFor g structs types) (meant o)
  meant_stands None h = tt
  meant_stands (Some n) h = h

pub name_stands : (g : Frame) (types : List CType) (s : Scope) → Knows g types s → (name : ℕ) → Promises (StandsFor g s.structs s.locals) (named s name)
name_stands g types s knows name =
    let locals = local_named s.locals s.visible name in
    let objects = object_named 0 s.variables name in
    let null = null_named s.given name in
    meant_stands g s.structs s.locals (or_else locals (or_else objects null))
    (either_stands g s.structs s.locals locals (or_else objects null) (locals_stand g s.structs s.locals s.locals (λ k t e. e) s.visible name)
    (either_stands g s.structs s.locals objects null
    (objects_stand g s.structs s.locals 0 s.variables name (λ k v e. let same : k ≡ 0 + k = omega arith in subst (λ j. IsVariable g v v.length j) same (knows.file.variables k v e)) knows.file.closed.of_variables)
    (found_stands g s.structs s.locals (name == s.given.null) (Some Nothing) None tt tt)))

-- ---- members

-- a member of a name: its number among these members
pub record HasMember (members : List Member) (number : ℕ) (found : ℕ × CType) : Type 0 where
  pub index : ℕ
  pub member : Member
  pub counted : found.0 ≡ number + index
  pub listed : slice_get members index ≡ Some member
  pub typed : member.ctype ≡ found.1

abbrev pub IfMember : List Member → ℕ → Option (ℕ × CType) → Type 0
IfMember members number None = Unit {0}
IfMember members number (Some found) = HasMember members number found

member_further : (m : Member) (members : List Member) (number : ℕ) (o : Option (ℕ × CType)) → IfMember members (suc number) o → IfMember (m ∷ members) number o
member_further m members number None h = tt
member_further m members number (Some found) h = record { index = suc h.index; member = h.member; counted = let e = h.counted in omega arith; listed = h.listed; typed = h.typed }

member_picked : (m : Member) (members : List Member) (number : ℕ) (test : Bool) (o : Option (ℕ × CType)) → IfMember (m ∷ members) number o → IfMember (m ∷ members) number (picked test (Some (number, m.ctype)) o)
member_picked m members number true o h = record { index = 0; member = m; counted = omega arith; listed = refl; typed = refl }
member_picked m members number false o h = h

pub member_there : (number : ℕ) (names : List ℕ) (members : List Member) (name : ℕ) → IfMember members number (member_from number names members name)
member_there number [] members name = tt
member_there number (other ∷ names) [] name = tt
member_there number (other ∷ names) (m ∷ members) name =
    member_picked m members number (name == other) (member_from (suc number) names members name) (member_further m members number (member_from (suc number) names members name) (member_there (suc number) names members name))

slot_there : (members : List Member) (place k : ℕ) (m : Member) → slice_get members k ≡ Some m → slice_get (slots_from members (placed_from place (member_sizes members))) k ≡ Some (record { type = m.ctype; offset = offset_among (placed_from place (member_sizes members)) k })
slot_there [] place k m h = absurd (cc)
slot_there (x ∷ members) place zero m h = let e : x ≡ m = cc in ap (λ (y : Member). Some (record { type = y.ctype; offset = aligned_up (scalar_size x.ctype) place })) e
slot_there (x ∷ members) place (suc k) m h = slot_there members (aligned_up (scalar_size x.ctype) place + scalar_size x.ctype) k m h

-- the members of a struct that is known are those of the program's
pub members_same : (g : Frame) (s : Scope) → KnowsFile g s → (n k : ℕ) (m : Member) → slice_get (members_of s.structs n) k ≡ Some m → members_of s.structs n ≡ members_of g.structs n
members_same g s knows n k m h = by (slice_get s.structs n) refl
  where
    by : (o : Option Structure) → slice_get s.structs n ≡ o → members_of s.structs n ≡ members_of g.structs n
    by None e = let none = rw e at h in absurd (cc)
    by (Some x) e = let e' = knows.structs n x e in rw (e, e') refl

pub member_slot : (g : Frame) (s : Scope) → KnowsFile g s → (n k : ℕ) (m : Member) → slice_get (members_of s.structs n) k ≡ Some m → slice_get (slots g.structs (Struct n)) k ≡ Some (record { type = m.ctype; offset = offset_among (cells_of s.structs (Struct n)) k })
member_slot g s knows n k m h =
    let same = members_same g s knows n k m h in
    subst (λ members. slice_get (slots_from members (placed_from 0 (member_sizes members))) k ≡ Some (record { type = m.ctype; offset = offset_among (cells_of s.structs (Struct n)) k })) same (slot_there (members_of s.structs n) 0 k m h)
