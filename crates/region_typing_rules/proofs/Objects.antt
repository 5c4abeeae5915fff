-- Structs and file-level variables that break no rule lead from a walk as it should be to another one.
use Rattle.std.proofs.Common.{◌≡◌, ℕ, ◌+◌, ◌*◌, ◌<◌, ◌≤◌, Bool, true, false, List, [], ◌∷◌, ◌++◌, length, Option, Some, None, refl, sym, ap, ◌∙◌, subst, append_assoc, arith}
use Rattle.std.specs.Prelude.{◌==◌, ◌^◌, nat_lt, nat_le, not, is_some}
use Rattle.std.specs.List.{AllByRecursion}
use Rattle.std.specs.Option.{option_map}
use Rattle.std.proofs.lemmas.Bool.{and_parts, eqb-true, ltb-true, leb-true}
use Rattle.std.proofs.lemmas.List.{length-append, append-nil}
use Rattle.ckc_text.specs.declared.place.Span.{Span}
use Rattle.ckc_text.specs.declared.code.Code.TheVariants.{E08, E10, E13, E15, E27, E04}
use Rattle.ckc_tree.specs.Types.{TypeTree, IntType, CharType, StructType, PointerType, type_span}
use Rattle.ckc_tree.specs.declared.stmt.ArrayForm.{ArrayForm}
use Rattle.ckc_tree.specs.Expressions as e
use Rattle.ckc_tree.specs.Statements as trees
use Rattle.ckc_tree.specs.Statements.{Initializer, Declarator}
use Rattle.ckc_tree.specs.Items as i
use Rattle.ckc_names_rules.specs.declared.given.Given.{Given}
use Rattle.ckc_tree.specs.Texts.{Text, initializer_texts}
use Rattle.flat_bytes.specs.Blocks.{rounded_up}
use Rattle.bounds_exprs.specs.declared.term.Bounds.{Bounds}
use Rattle.pointer_modes.specs.Layout.{size_of}
use Rattle.pointer_modes.specs.Types.{CType, Int, Char, Struct, Pointer, Member, Structure, members_of}
use Rattle.ckc_core.specs.Programs.{Initial, Variable}
use Rattle.region_typing_rules.specs.Verdicts.{Verdict, Passes, Stops, passing, meant, needs}
use Rattle.region_typing_rules.specs.Scopes.{Scope, WrittenBounds, bounds_in, struct_named, FileVariable}
use Rattle.region_typing_rules.specs.Types.{is_number, kind_of, may_lead_to, base_type, without_stars, type_named}
use Rattle.region_typing_rules.specs.Operands.{Places, Typed}
use Rattle.region_typing_rules.specs.Expressions.{typed}
use Rattle.ckc_tree.specs.declared.stmt.SignedConstant.{SignedConstant}
use Rattle.region_typing_rules.specs.Items.{Walk, in_checked_region, is_struct, member_types, scalar_members, with_struct, member_names, signed_constant, structure, Walked, initializer, object_cells, with_variable, with_texts, variable_scope, with_own, written_as, object_bounds, variable_of, WalkedVariable, written_size, few_bytes, room_for, room_for_first, variables, with_objects, global, count_of, small_constants, unsigned_number}
use Rattle.region_typing_rules.specs.Strings.{texts_size}
use Rattle.region_typing_rules.specs.Typed.{IsScalar}
use Rattle.region_typing_rules.specs.Lowerable.{cells_size, objects_size, IsRoomy}
use Rattle.region_typing_rules.proofs.Verdicts.{Promises, passing_promises, needs_promises, anything_promised, both_promise, all_promised, later_promises, promised_so, extends_append}
use Rattle.region_typing_rules.proofs.Known.{IsKnown, IsKnownVariable, known_later, all_so, of_members, with_struct_closed, base_known, type_known}
use Rattle.region_typing_rules.proofs.Layouts.{AreSmall, ConstantFits, IsStart, IsWalked, constant_promises}
use Rattle.region_typing_rules.proofs.Walks.{FileGrows, file_stays, file_further, AreSettled, HaveFileBounds, HasEnd, IsWell, settled_later, bodies_later, all_append, IsSettled}
use Rattle.region_typing_rules.specs.DeclaredBounds.{declared_bounds}
use Rattle.region_typing_rules.proofs.DeclaredBounds.{IsConstantIf, none_formed, own_formed}
use Rattle.region_typing_rules.proofs.Copies.{Copies, copies_start, copies_roomy, copies_size, copies_rows, object_promises, AreEnded, ended_promises}
use Rattle.region_typing_rules.specs.Statements.{length_of, array_kind, is_ended_array}
use Rattle.region_typing_rules.specs.Cells.{is_length}

-- the region of an item is checked
pub region_promises : (P : Walk → Type 0) (s : Scope) (span : Span) (w : Walk) → P w → Promises P (in_checked_region s span w)
region_promises P s span w h = needs_promises P (not s.is_off) E15 span (Passes w) (λ on. h)

module _ (height : ℕ) where
  -- a walk as it should be behind another one
  pub record Follows (a b : Walk) : Type 0 where
    pub well : IsWell height b
    pub settled : AreSettled b.scope.structs b.scope.variables b.objects
    pub grows : FileGrows a.scope b.scope

  -- ---- structs

  few_promised : (g : Scope) (members : List i.Member) (before : List Member) → length before ≤ 64 → Promises (λ (ms : List Member). length ms ≤ 64) (member_types g members before)
  few_promised g [] before few = few
  few_promised g (m ∷ members) before few =
      needs_promises (λ (ms : List Member). length ms ≤ 64) (nat_lt (length before) 64) E08 (type_span m.type.base) _
      (λ low. passing_promises (λ (t : CType). Unit {0}) (λ (ms : List Member). length ms ≤ 64) (type_named g m.type) _ (anything_promised (type_named g m.type))
      (λ t _. few_promised g members (before ++ record { name = m.name.name; ctype = t; span = m.span } ∷ []) (let below = ltb-true (length before) 64 low in let new : Member = record { name = m.name.name; ctype = t; span = m.span } in omega (arith, length-append before (new ∷ [])))))

  members_known : (g : Scope) → length g.tags ≤ length g.structs → (members : List i.Member) (before : List Member) → AllByRecursion (λ (m : Member). IsKnown g.structs m.ctype) before → Promises (AllByRecursion (λ (m : Member). IsKnown g.structs m.ctype)) (member_types g members before)
  members_known g tagged [] before all = all
  members_known g tagged (m ∷ members) before all =
      let known = λ (x : Member). IsKnown g.structs x.ctype in
      needs_promises (AllByRecursion known) (nat_lt (length before) 64) E08 (type_span m.type.base) _
      (λ low. passing_promises (IsKnown g.structs) (AllByRecursion known) (type_named g m.type) _ (type_known g tagged m.type)
      (λ t h. members_known g tagged members (before ++ record { name = m.name.name; ctype = t; span = m.span } ∷ []) (all_append known before (record { name = m.name.name; ctype = t; span = m.span }) all h)))

  no_struct : (t : CType) → not (is_struct t) ≡ true → IsScalar t
  no_struct Int h = refl
  no_struct Char h = refl
  no_struct (Struct n) h = absurd (cc)
  no_struct (Pointer m k t) h = refl

  scalars_promised : {A : Type 0} (Q : A → Type 0) (members : List Member) (next : Verdict A) → (AllByRecursion (λ (m : Member). IsScalar m.ctype) members → Promises Q next) → Promises Q (scalar_members members next)
  scalars_promised Q [] next h = h tt
  scalars_promised Q (m ∷ members) next h = needs_promises Q (not (is_struct m.ctype)) E27 m.span (scalar_members members next) (λ one. scalars_promised Q members next (λ all. h (no_struct m.ctype one, all)))

  -- one struct more
  with_struct_follows : (w : Walk) (tag : ℕ) (names : List ℕ) (tainted : Bool) (members : List Member) → IsWell height w → AreSettled w.scope.structs w.scope.variables w.objects → length members ≤ 64 → AllByRecursion (λ (m : Member). IsScalar m.ctype) members → AllByRecursion (λ (m : Member). IsKnown (with_struct tag names tainted members w.scope).structs m.ctype) members → Follows w (record w { scope = with_struct tag names tainted members w.scope })
  with_struct_follows w tag names tainted members well settled few scalars known =
      let new : Structure = record { tainted = tainted; members = members } in
      let ext = extends_append w.scope.structs (new ∷ []) in
      let after = with_struct tag names tainted members w.scope in
      let grows : FileGrows w.scope after = record { structs = ext; variables = λ k x h. h; texts = λ k x h. h; counted = refl; functions = λ name f h. h; numbers = λ side name f h. refl } in
      record {
        well = record {
          closed = with_struct_closed w.scope tag names tainted members known well.closed;
          few = of_members (λ ms. length ms ≤ 64) (omega arith) w.scope.structs new well.few few;
          scalars = of_members (AllByRecursion (λ (m : Member). IsScalar m.ctype)) tt w.scope.structs new well.scalars scalars;
          start = well.start;
          declared = well.declared;
          named = well.named;
          bodies = bodies_later height w.scope after w.bodies well.closed grows well.bodies;
          roomy = well.roomy;
          bytes = well.bytes;
          room = well.room;
        };
        settled = settled_later w.scope.structs (w.scope.structs ++ new ∷ []) w.scope.variables w.objects ext settled;
        grows = grows;
      }

  -- a struct with its members, or with none while these are walked
  abbrev with_members : i.Structure → List Member → Structure
  with_members d members = record { tainted = d.tainted; members = members }

  pub structure_promises : (w : Walk) (d : i.Structure) → IsWell height w → AreSettled w.scope.structs w.scope.variables w.objects → Promises (Follows w) (structure w d)
  structure_promises w d well settled =
      let inside = with_struct d.tag.number (member_names d.members) d.tainted [] w.scope in
      needs_promises (Follows w) (nat_lt (length w.scope.structs) 4096) E08 d.span _
      (λ low. passing_promises (λ (ms : List Member). (length ms ≤ 64) × AllByRecursion (λ (m : Member). IsKnown inside.structs m.ctype) ms) (Follows w) (member_types inside d.members []) _
      (both_promise (λ (ms : List Member). length ms ≤ 64) (AllByRecursion (λ (m : Member). IsKnown inside.structs m.ctype)) (member_types inside d.members []) (few_promised inside d.members [] (omega arith)) (members_known inside tagged d.members [] tt))
      (λ members h. scalars_promised (Follows w) members _
      (λ scalars. region_promises (Follows w) w.scope d.span _ (with_struct_follows w d.tag.number (member_names d.members) d.tainted members well settled h.0 scalars (later members h.1)))))
    where
      tagged : length (w.scope.tags ++ d.tag.number ∷ []) ≤ length (w.scope.structs ++ with_members d [] ∷ [])
      tagged = omega (arith, well.closed.tagged, length-append w.scope.tags (d.tag.number ∷ []), length-append w.scope.structs (with_members d [] ∷ []))

      -- a struct is known as well by its members as without them
      later : (members : List Member) → AllByRecursion (λ (m : Member). IsKnown (w.scope.structs ++ with_members d [] ∷ []) m.ctype) members → AllByRecursion (λ (m : Member). IsKnown (w.scope.structs ++ with_members d members ∷ []) m.ctype) members
      later members all =
          let longer : length (w.scope.structs ++ with_members d [] ∷ []) ≤ length (w.scope.structs ++ with_members d members ∷ []) = omega (arith, length-append w.scope.structs (with_members d [] ∷ []), length-append w.scope.structs (with_members d members ∷ [])) in
          all_so (λ (m : Member). IsKnown (w.scope.structs ++ with_members d [] ∷ []) m.ctype) (λ (m : Member). IsKnown (w.scope.structs ++ with_members d members ∷ []) m.ctype) (λ m. known_later (w.scope.structs ++ with_members d [] ∷ []) (w.scope.structs ++ with_members d members ∷ []) m.ctype longer) members all

  -- ---- file-level variables

  small_promises : (Q : Walked → Type 0) (cs : List SignedConstant) (next : Verdict Walked) → (AreSmall cs → Promises Q next) → Promises Q (small_constants cs next)
  small_promises Q [] next h = h tt
  small_promises Q (c ∷ cs) next h =
      needs_promises Q (nat_lt (unsigned_number c.constant) (2 ^ 31)) E04 c.span (small_constants cs next) (λ low. small_promises Q cs next (λ lows. h (low, lows)))

  initializer_promises : (at : Places) (s : Scope) (o : Option Initializer) → Promises IsWalked (initializer at s o)
  initializer_promises at s None = tt
  initializer_promises at s (Some (trees.Value value)) = passing_promises (λ (t : Typed). (given : Given) → ConstantFits (signed_constant given value)) IsWalked (typed at s value) _
      (all_promised (λ (given : Given) (t : Typed). ConstantFits (signed_constant given value)) (typed at s value) (λ given. constant_promises given at s value)) (λ t h. h)
  initializer_promises at s (Some (trees.Constants constants span)) = small_promises IsWalked constants _ (λ low. low)

  -- a type and a length are those of an array of numbers
  record AreNumbers (type : CType) (o : Option ℕ) : Type 0 where
    count : ℕ
    array : o ≡ Some count
    number : is_number type ≡ true

  -- where a zero may end an array, it has numbers
  array_numbers : (d : Declarator) (t : CType) → may_lead_to (array_kind (is_ended_array d)) t ≡ true → is_ended_array d ≡ true → AreNumbers t (length_of d)
  array_numbers d t may ended = by d.array refl
    where
      by : (o : Option ArrayForm) → d.array ≡ o → AreNumbers t (length_of d)
      by None e = absurd (let no = rw e at ended in cc)
      by (Some a) e = record { count = a.length; array = ap (option_map (λ (a : ArrayForm). a.length)) e; number = subst (λ end. may_lead_to (array_kind end) t ≡ true) ended may }

  -- the cells of one end in a zero
  end_promises : (structs : List Structure) → ((n : ℕ) → AllByRecursion (λ (m : Member). IsScalar m.ctype) (members_of structs n)) → (given : Given) (t : CType) (o : Option ℕ) (ended : Bool) (x : Walked) (span : Span)
      → 0 < count_of o → IsWalked x → (ended ≡ true → AreNumbers t o) → Promises (λ (cells : List Initial). ended ≡ true → HasEnd structs t o cells) (object_cells given structs t o ended x span)
  end_promises structs scalars given t o false x span some is numbers =
      later_promises (false ≡ true) (HasEnd structs t o) (object_cells given structs t o false x span) (λ e. absurd (cc))
  end_promises structs scalars given t o true x span some is numbers =
      later_promises (true ≡ true) (HasEnd structs t o) (object_cells given structs t o true x span) (λ e. let h = numbers refl in by o h.count h.array h.number some)
    where
      by : (o : Option ℕ) (n : ℕ) → o ≡ Some n → is_number t ≡ true → 0 < count_of o → Promises (HasEnd structs t o) (object_cells given structs t o true x span)
      by None n array number some = absurd (cc)
      by (Some m) n array number some =
          promised_so (AreEnded structs t m) (HasEnd structs t (Some m)) (object_cells given structs t (Some m) true x span) (ended_promises structs scalars given t m x span number some is)
          (λ cells ended. record { count = m; array = refl; numbers = ended })

  -- a variable that waits for its cells
  record IsWaiting (structs : List Structure) (v : FileVariable) (x : WalkedVariable) : Type 0 where
    type : v.type ≡ x.type
    length : v.length ≡ x.length
    ended : v.ended ≡ x.ended
    some : 0 < count_of v.length
    few : count_of v.length ≤ 8192
    numbers : v.ended ≡ true → AreNumbers v.type v.length
    same_bounds : v.bounds ≡ x.bounds
    bounds : HaveFileBounds structs v (bounds_in v.bounds)
    initial : IsWalked x.initial

  abbrev AreWaiting : List Structure → List FileVariable → List WalkedVariable → Type 0
  AreWaiting structs [] [] = Unit {0}
  AreWaiting structs [] (x ∷ walked) = ⊥
  AreWaiting structs (v ∷ vs) [] = ⊥
  AreWaiting structs (v ∷ vs) (x ∷ walked) = IsWaiting structs v x × AreWaiting structs vs walked

  waiting_append : (structs : List Structure) (vs : List FileVariable) (walked : List WalkedVariable) (v : FileVariable) (x : WalkedVariable) → AreWaiting structs vs walked → IsWaiting structs v x → AreWaiting structs (vs ++ v ∷ []) (walked ++ x ∷ [])
  waiting_append structs [] [] v x h is = (is, tt)
  waiting_append structs [] (y ∷ walked) v x h is = absurd h
  waiting_append structs (u ∷ vs) [] v x h is = absurd h
  waiting_append structs (u ∷ vs) (y ∷ walked) v x h is = (h.0, waiting_append structs vs walked v x h.1 is)

  -- the bytes that a variable takes with its gap
  abbrev gapped : List Structure → CType → Option ℕ → ℕ
  gapped structs type length = rounded_up (count_of length * size_of structs type) + 16

  -- those of the ones that wait
  abbrev waiting_size : List Structure → List FileVariable → ℕ
  waiting_size structs [] = 0
  waiting_size structs (v ∷ vs) = gapped structs v.type v.length + waiting_size structs vs

  waiting_more : (structs : List Structure) (vs : List FileVariable) (v : FileVariable) → waiting_size structs (vs ++ v ∷ []) ≡ waiting_size structs vs + gapped structs v.type v.length
  waiting_more structs [] v = omega arith
  waiting_more structs (u ∷ vs) v = omega (arith, waiting_more structs vs v)

  objects_more : (objects : List Variable) (new : Variable) → objects_size (objects ++ new ∷ []) ≡ objects_size objects + (rounded_up (cells_size new.cells) + 16)
  objects_more [] new = omega arith
  objects_more (o ∷ objects) new = omega (arith, objects_more objects new)

  -- a walk in which some variables wait
  record Waits (a : Walk) (x : Walk × List WalkedVariable) : Type 0 where
    settled_ones : List FileVariable
    waiting_ones : List FileVariable
    all : x.0.scope.variables ≡ settled_ones ++ waiting_ones
    well : IsWell height x.0
    settled : AreSettled x.0.scope.structs settled_ones x.0.objects
    waiting : AreWaiting x.0.scope.structs waiting_ones x.1
    grows : FileGrows a.scope x.0.scope
    bytes : objects_size x.0.objects + waiting_size x.0.scope.structs waiting_ones ≤ x.0.taken

  -- the bytes of a type as it is written are those that it has
  abbrev IsSized : Scope → TypeTree → CType → Type 0
  IsSized g base type = (size : ℕ) → written_size g base 0 ≡ Passes size → size ≡ size_of g.structs type

  base_sized : (g : Scope) (base : TypeTree) → Promises (IsSized g base) (base_type g base)
  base_sized g (IntType span) = λ size h. let same : size_of g.structs Int ≡ size = cc in sym same
  base_sized g (CharType span) = λ size h. let same : size_of g.structs Char ≡ size = cc in sym same
  base_sized g (PointerType word element stars span) =
      let target = passing (base_type g element) (without_stars element stars) in
      passing_promises (λ (t : CType). Unit {0}) (IsSized g (PointerType word element stars span)) target _ (anything_promised target)
      (λ t _. needs_promises (IsSized g (PointerType word element stars span)) (may_lead_to (kind_of word.kind) t) E13 span _ (λ ends size h. let same : 4 ≡ size = cc in sym same))
  base_sized g (StructType tag span) = by (struct_named g tag.number) refl
    where
      by : (o : Option ℕ) → struct_named g tag.number ≡ o → Promises (IsSized g (StructType tag span)) (passing (meant o) (λ n. Passes (Struct n)))
      by None e = tt
      by (Some n) e = λ size h. let h' = rw e at h in let same : size_of g.structs (Struct n) ≡ size = cc in sym same

  sized_later : (taken : ℕ) (d : Declarator) (t : CType) (bounds : WrittenBounds) (g : Scope) (base : TypeTree) (type : CType) → IsSized g base type
      → IsSized (variable_scope taken d t bounds g) base type
  sized_later taken d t bounds g (IntType span) type h = h
  sized_later taken d t bounds g (CharType span) type h = h
  sized_later taken d t bounds g (StructType tag span) type h = h
  sized_later taken d t bounds g (PointerType word element stars span) type h = h

  -- a variable more has room, by its type as it is written, and by its length
  record HasRoom (w : Walk) (base : TypeTree) (d : Declarator) (taken : ℕ) : Type 0 where
    size : ℕ
    written : written_size w.scope base d.stars ≡ Passes size
    some : 0 < count_of (length_of d)
    few : count_of (length_of d) ≤ 8192
    bytes : taken ≡ w.taken + (rounded_up (count_of (length_of d) * size) + 16)
    within : taken ≤ 32768

  -- no array is empty
  length_some : (o : Option ℕ) → is_length o ≡ true → 0 < count_of o
  length_some None h = omega arith
  length_some (Some n) h = ltb-true 0 n (and_parts (nat_lt 0 n) (nat_le n 8192) h).0

  -- and none is too long
  length_few : (o : Option ℕ) → is_length o ≡ true → count_of o ≤ 8192
  length_few None h = omega arith
  length_few (Some n) h = leb-true n 8192 (and_parts (nat_lt 0 n) (nat_le n 8192) h).1

  room_promises : (w : Walk) (base : TypeTree) (span : Span) (d : Declarator) → Promises (HasRoom w base d) (room_for w base span d)
  room_promises w base span d = needs_promises (HasRoom w base d) (nat_lt (length w.scope.variables) 4096) E08 span _ (λ few. by (written_size w.scope base d.stars) refl)
    where
      by : (v : Verdict ℕ) → written_size w.scope base d.stars ≡ v
          → Promises (HasRoom w base d) (passing v (λ size. needs (is_length (length_of d)) E08 span (few_bytes w.scope (w.taken + (rounded_up (count_of (length_of d) * size) + 16)) span)))
      by (Passes size) e =
          let taken = w.taken + (rounded_up (count_of (length_of d) * size) + 16) in
          needs_promises (HasRoom w base d) (is_length (length_of d)) E08 span _
          (λ some. needs_promises (HasRoom w base d) (nat_le (taken + texts_size w.scope.strings.texts) 32768) E08 span (Passes taken)
          (λ room. record {
            size = size;
            written = e;
            some = length_some (length_of d) some;
            few = length_few (length_of d) some;
            bytes = refl;
            within = (let all = leb-true (taken + texts_size w.scope.strings.texts) 32768 room in omega (arith, all));
          }))
      by (Stops stop) e = tt

  -- the bounds of a variable are those of a pointer, between constants
  abbrev AreFileBounds : Scope → Declarator → CType → WrittenBounds → Type 0
  AreFileBounds g d t b = HaveFileBounds g.structs (record { name = d.name.number; type = t; length = length_of d; ended = is_ended_array d; bounds = b }) (bounds_in b)

  bounds_formed_for : (g : Scope) (d : Declarator) (t : CType) → IsKnown g.structs t → Promises (AreFileBounds g d t) (object_bounds g d t)
  bounds_formed_for g d t known = by (length_of d) refl
    where
      Formed : Option ℕ → WrittenBounds → Type 0
      Formed n b = HaveFileBounds g.structs (record { name = d.name.number; type = t; length = n; ended = is_ended_array d; bounds = b }) (bounds_in b)

      of_single : (text : Option e.Bounds) (b : Option Bounds) → IsConstantIf g.structs t b → Formed None (written_as text b)
      of_single None b h = tt
      of_single (Some text) None h = tt
      of_single (Some text) (Some b) h = record { single = refl; known = known; formed = h }

      of_array : (n : ℕ) (text : Option e.Bounds) (b : Option Bounds) → b ≡ None → Formed (Some n) (written_as text b)
      of_array n None b h = tt
      of_array n (Some text) None h = tt
      of_array n (Some text) (Some b) h = absurd (cc)

      by : (n : Option ℕ) → length_of d ≡ n → Promises (Formed (length_of d)) (object_bounds g d t)
      by None e = rw e
          (passing_promises (IsConstantIf g.structs t) (Formed None) (declared_bounds (with_own d.name.number t g) t 0 d.bounds) (λ b. Passes (written_as d.bounds b))
          (own_formed (with_own d.name.number t g) t d.bounds refl) (of_single d.bounds))
      by (Some n) e = rw e
          (passing_promises (λ (b : Option Bounds). b ≡ None) (Formed (Some n)) (declared_bounds (with_own d.name.number t g) Int 0 d.bounds) (λ b. Passes (written_as d.bounds b))
          (none_formed (with_own d.name.number t g) d.bounds) (of_array n d.bounds))

  -- a type behind which no stars stand
  starless : (base : TypeTree) (stars : ℕ) (type : CType) → Promises (λ (t : CType). (stars ≡ 0) × (t ≡ type)) (without_stars base stars type)
  starless base stars type = needs_promises (λ (t : CType). (stars ≡ 0) × (t ≡ type)) (stars == 0) E15 (type_span base) (Passes type) (λ none. (eqb-true stars 0 none, refl))

  taken_by : (w : Walk) (base : TypeTree) (type t : CType) (d : Declarator) (taken : ℕ) → IsSized w.scope base type → HasRoom w base d taken → d.stars ≡ 0 → t ≡ type → taken ≡ w.taken + gapped w.scope.structs t (length_of d)
  taken_by w base type t d taken sized room none same =
      let size = sized room.size (subst (λ n. written_size w.scope base n ≡ Passes room.size) none room.written) ∙ ap (size_of w.scope.structs) (sym same) in
      room.bytes ∙ ap (λ n. w.taken + (rounded_up (count_of (length_of d) * n) + 16)) size

  with_variable_waits : (a w : Walk) (walked : List WalkedVariable) (texts : List Text) (name : ℕ) (t : CType) (length : Option ℕ) (ended : Bool) (bounds : WrittenBounds) (initial : Walked) (taken : ℕ)
      → HaveFileBounds w.scope.structs (record { name = name; type = t; length = length; ended = ended; bounds = bounds }) (bounds_in bounds)
      → IsKnownVariable w.scope.structs (record { name = name; type = t; length = length; ended = ended; bounds = bounds }) → (ended ≡ true → AreNumbers t length) → 0 < count_of length → count_of length ≤ 8192 → taken ≡ w.taken + gapped w.scope.structs t length → taken ≤ 32768 → Waits a (w, walked) → IsWalked initial
      → Waits a (record w { scope = with_texts taken texts (with_variable name t length ended bounds w.scope); taken = taken }, walked ++ record { type = t; length = length; ended = ended; bounds = bounds; initial = initial } ∷ [])
  with_variable_waits a w walked texts name t length ended bounds initial taken formed known numbers some few bytes within h is =
      let v : FileVariable = record { name = name; type = t; length = length; ended = ended; bounds = bounds } in
      let c = h.well.closed in
      let after = with_texts taken texts (with_variable name t length ended bounds w.scope) in
      let more : FileGrows w.scope after = record { structs = λ k x e. e; variables = extends_append w.scope.variables (v ∷ []); texts = extends_append w.scope.strings.texts texts; counted = refl; functions = λ n f e. e; numbers = λ side n f e. refl } in
      record {
        settled_ones = h.settled_ones;
        waiting_ones = h.waiting_ones ++ v ∷ [];
        all = ap (λ vs. vs ++ v ∷ []) h.all ∙ append_assoc h.settled_ones h.waiting_ones (v ∷ []);
        well = record {
          closed = record { tagged = c.tagged; of_members = c.of_members; of_functions = c.of_functions; of_results = c.of_results; of_variables = all_append (IsKnownVariable w.scope.structs) w.scope.variables v c.of_variables known; of_locals = c.of_locals };
          few = h.well.few;
          scalars = h.well.scalars;
          start = h.well.start;
          declared = h.well.declared;
          named = h.well.named;
          bodies = bodies_later height w.scope after w.bodies h.well.closed more h.well.bodies;
          roomy = h.well.roomy;
          bytes = omega (arith, h.well.bytes, bytes);
          room = within;
        };
        settled = h.settled;
        waiting = waiting_append w.scope.structs h.waiting_ones walked v (record { type = t; length = length; ended = ended; bounds = bounds; initial = initial }) h.waiting (record { type = refl; length = refl; ended = refl; some = some; few = few; numbers = numbers; same_bounds = refl; bounds = formed; initial = is });
        grows = file_further a.scope w.scope after h.grows more;
        bytes = omega (arith, h.bytes, bytes, waiting_more w.scope.structs h.waiting_ones v);
      }

  variables_promise : (at : Places) (a w : Walk) (base : TypeTree) (type : CType) (span : Span) (ds : List Declarator) (walked : List WalkedVariable) → IsKnown w.scope.structs type → IsSized w.scope base type → Waits a (w, walked) → Promises (Waits a) (variables at w base type span ds walked)
  variables_promise at a w base type span [] walked known sized h = h
  variables_promise at a w base type span (d ∷ ds) walked known sized h =
      passing_promises (HasRoom w base d) (Waits a) (room_for w base span d) _ (room_promises w base span d)
      (λ taken room. passing_promises (λ (t : CType). (d.stars ≡ 0) × (t ≡ type)) (Waits a) (without_stars base d.stars type) _ (starless base d.stars type)
      (λ t plain. let known_t : IsKnown w.scope.structs t = subst (IsKnown w.scope.structs) (sym plain.1) known in
      needs_promises (Waits a) (may_lead_to (array_kind (is_ended_array d)) t) E13 (type_span base) _
      (λ may. passing_promises (AreFileBounds w.scope d t) (Waits a) (object_bounds w.scope d t) _ (bounds_formed_for w.scope d t known_t)
      (λ bounds formed. let inside = variable_scope taken d t bounds w.scope in
      passing_promises IsWalked (Waits a) (initializer at inside d.initializer) _ (initializer_promises at inside d.initializer)
      (λ initial is. variables_promise at a (record w { scope = inside; taken = taken }) base type span ds (walked ++ record { type = t; length = length_of d; ended = is_ended_array d; bounds = bounds; initial = initial } ∷ []) known
      (sized_later taken d t bounds w.scope base type sized)
      (with_variable_waits a w walked (initializer_texts d.initializer) d.name.number t (length_of d) (is_ended_array d) bounds initial taken formed (may, known_t) (array_numbers d t may) room.some room.few (taken_by w base type t d taken sized room plain.0 plain.1) room.within h is))))))

  settled_append : (structs : List Structure) (vs : List FileVariable) (objects : List Variable) (v : FileVariable) (new : Variable) → AreSettled structs vs objects → IsSettled structs v new → AreSettled structs (vs ++ v ∷ []) (objects ++ new ∷ [])
  settled_append structs [] [] v new h is = (is, tt)
  settled_append structs [] (o ∷ objects) v new h is = absurd h
  settled_append structs (u ∷ vs) [] v new h is = absurd h
  settled_append structs (u ∷ vs) (o ∷ objects) v new h is = (h.0, settled_append structs vs objects v new h.1 is)

  -- the cells of the first one that waits
  with_cells : (a w : Walk) (x : WalkedVariable) (walked : List WalkedVariable) (cells : List Initial) → Waits a (w, x ∷ walked) → Copies w.scope.structs x.type (count_of x.length) cells → (x.ended ≡ true → HasEnd w.scope.structs x.type x.length cells) → 0 < length cells → Waits a (record w { objects = w.objects ++ variable_of x.ended x.bounds cells ∷ [] }, walked)
  with_cells a w x walked cells h copies end some = by h.waiting_ones h.all h.waiting h.bytes
    where
      -- as many values as the variable has
      copies_of : (v : FileVariable) → IsWaiting w.scope.structs v x → Copies w.scope.structs v.type (count_of v.length) cells
      copies_of v is = subst (λ t. Copies w.scope.structs t (count_of v.length) cells) (sym is.type) (subst (λ o. Copies w.scope.structs x.type (count_of o) cells) (sym is.length) copies)

      -- which end in a zero where it does
      end_of : (v : FileVariable) → IsWaiting w.scope.structs v x → v.ended ≡ true → HasEnd w.scope.structs v.type v.length cells
      end_of v is ended = subst (λ t. HasEnd w.scope.structs t v.length cells) (sym is.type) (subst (λ o. HasEnd w.scope.structs x.type o cells) (sym is.length) (end (sym is.ended ∙ ended)))

      taken : (v : FileVariable) → IsWaiting w.scope.structs v x → objects_size (w.objects ++ variable_of x.ended x.bounds cells ∷ []) ≡ objects_size w.objects + gapped w.scope.structs v.type v.length
      taken v is = objects_more w.objects (variable_of x.ended x.bounds cells) ∙ ap (λ n. objects_size w.objects + (rounded_up n + 16)) (copies_size w.scope.structs v.type (count_of v.length) cells (copies_of v is) some)

      by : (vs : List FileVariable) → w.scope.variables ≡ h.settled_ones ++ vs → AreWaiting w.scope.structs vs (x ∷ walked) → objects_size w.objects + waiting_size w.scope.structs vs ≤ w.taken → Waits a (record w { objects = w.objects ++ variable_of x.ended x.bounds cells ∷ [] }, walked)
      by [] all waiting bytes = absurd waiting
      by (v ∷ vs) all waiting bytes =
          let here = copies_of v waiting.0 in
          record {
            settled_ones = h.settled_ones ++ v ∷ [];
            waiting_ones = vs;
            all = all ∙ sym (append_assoc h.settled_ones (v ∷ []) vs);
            well = record {
              closed = h.well.closed;
              few = h.well.few;
              scalars = h.well.scalars;
              start = all_append (λ (o : Variable). AllByRecursion IsStart o.cells) w.objects (variable_of x.ended x.bounds cells) h.well.start (copies_start w.scope.structs v.type (count_of v.length) cells here);
              declared = h.well.declared;
              named = h.well.named;
              bodies = h.well.bodies;
              roomy = all_append (λ (o : Variable). AllByRecursion IsRoomy o.cells × (0 < length o.cells)) w.objects (variable_of x.ended x.bounds cells) h.well.roomy (copies_roomy w.scope.structs v.type (count_of v.length) cells here, some);
              bytes = omega (arith, bytes, taken v waiting.0);
              room = h.well.room;
            };
            settled = settled_append w.scope.structs h.settled_ones w.objects v (variable_of x.ended x.bounds cells) h.settled (record { some = waiting.0.some; few = waiting.0.few; rows = copies_rows w.scope.structs v.type (count_of v.length) cells here some; sealed = ap (λ (o : WrittenBounds). is_some (bounds_in o)) (sym waiting.0.same_bounds); ends = sym waiting.0.ended; ended = end_of v waiting.0; bounds = waiting.0.bounds });
            waiting = waiting.1;
            grows = h.grows;
            bytes = omega (arith, bytes, taken v waiting.0);
          }

  -- none waits any more
  none_waits : (a w : Walk) → Waits a (w, []) → Follows a w
  none_waits a w h = by h.waiting_ones h.all h.waiting
    where
      by : (vs : List FileVariable) → w.scope.variables ≡ h.settled_ones ++ vs → AreWaiting w.scope.structs vs [] → Follows a w
      by (v ∷ vs) all waiting = absurd waiting
      by [] all waiting =
          let same : h.settled_ones ≡ w.scope.variables = sym (all ∙ append-nil h.settled_ones) in
          record { well = h.well; settled = subst (λ vs. AreSettled w.scope.structs vs w.objects) same h.settled; grows = h.grows }

  -- as many values as the variable has, which end in a zero where it does
  abbrev AreItsCells : Walk → WalkedVariable → List Initial → Type 0
  AreItsCells w x cells = Copies w.scope.structs x.type (count_of x.length) cells × (x.ended ≡ true → HasEnd w.scope.structs x.type x.length cells)

  cells_promise : (a w : Walk) (span : Span) (x : WalkedVariable) (walked : List WalkedVariable) → Waits a (w, x ∷ walked)
      → Promises (AreItsCells w x) (object_cells w.scope.given w.scope.structs x.type x.length x.ended x.initial span)
  cells_promise a w span x walked h = by h.waiting_ones h.waiting
    where
      structs : List Structure
      structs = w.scope.structs

      cells : Verdict (List Initial)
      cells = object_cells w.scope.given structs x.type x.length x.ended x.initial span

      by : (vs : List FileVariable) → AreWaiting structs vs (x ∷ walked) → Promises (AreItsCells w x) cells
      by [] waiting = absurd waiting
      by (v ∷ vs) waiting =
          let is = waiting.0 in
          let some : 0 < count_of x.length = subst (λ o. 0 < count_of o) is.length is.some in
          both_promise (Copies structs x.type (count_of x.length)) (λ (cells : List Initial). x.ended ≡ true → HasEnd structs x.type x.length cells) cells
          (object_promises structs h.well.scalars w.scope.given x.type x.length x.ended x.initial span some is.initial)
          (end_promises structs h.well.scalars w.scope.given x.type x.length x.ended x.initial span some is.initial
          (λ ended. subst (λ t. AreNumbers t x.length) is.type (subst (AreNumbers v.type) is.length (is.numbers (is.ended ∙ ended)))))

  with_objects_promises : (a w : Walk) (span : Span) (walked : List WalkedVariable) → Waits a (w, walked) → Promises (Follows a) (with_objects w span walked)
  with_objects_promises a w span [] h = none_waits a w h
  with_objects_promises a w span (x ∷ walked) h =
      passing_promises (AreItsCells w x) (Follows a) (object_cells w.scope.given w.scope.structs x.type x.length x.ended x.initial span) _ (cells_promise a w span x walked h)
      (λ cells are. needs_promises (Follows a) (nat_lt 0 (length cells)) E10 span _
      (λ some. with_objects_promises a (record w { objects = w.objects ++ variable_of x.ended x.bounds cells ∷ [] }) span walked (with_cells a w x walked cells h are.0 are.1 (ltb-true 0 (length cells) some))))

  nothing_waits : (w : Walk) → IsWell height w → AreSettled w.scope.structs w.scope.variables w.objects → Waits w (w, [])
  nothing_waits w well settled = record { settled_ones = w.scope.variables; waiting_ones = []; all = sym (append-nil w.scope.variables); well = well; settled = settled; waiting = tt; grows = file_stays w.scope; bytes = omega (arith, well.bytes) }

  pub global_promises : (at : Places) (w : Walk) (d : i.Global) → IsWell height w → AreSettled w.scope.structs w.scope.variables w.objects → Promises (Follows w) (global at w d)
  global_promises at w d well settled =
      passing_promises (λ (n : ℕ). Unit {0}) (Follows w) (room_for_first w d d.declarators) _ (anything_promised (room_for_first w d d.declarators))
      (λ taken _. passing_promises (λ (t : CType). IsSized w.scope d.base t × IsKnown w.scope.structs t) (Follows w) (base_type w.scope d.base) _
      (both_promise (IsSized w.scope d.base) (IsKnown w.scope.structs) (base_type w.scope d.base) (base_sized w.scope d.base) (base_known w.scope well.closed.tagged d.base))
      (λ type is. passing_promises (Waits w) (Follows w) (variables at w d.base type d.span d.declarators []) _ (variables_promise at w w d.base type d.span d.declarators [] is.1 is.0 (nothing_waits w well settled))
      (λ x h. passing_promises (Follows w) (Follows w) (with_objects x.0 d.span x.1) _ (with_objects_promises w x.0 d.span x.1 h)
      (λ v follows. region_promises (Follows w) v.scope d.span v follows))))
