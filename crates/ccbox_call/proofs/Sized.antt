-- The elements of what is accepted have sizes: each check asks for a pointer that isn't null, or for an element within bounds.
use Rattle.std.proofs.Common.{◌<◌, ◌^◌, length, ◌≡◌, ℕ, zero, ◌≤◌, pos, Bool, true, false, List, [], ◌∷◌, Option, Some, None, refl, sym, ap, subst, arith}
use Rattle.std.specs.Prelude.{All, slice_get}
use Rattle.std.specs.List.{AllByRecursion}
use Rattle.std.proofs.lemmas.Bool.{ltb-true}
use Rattle.std.proofs.lemmas.Option.{slice_get_within}
use Rattle.std.proofs.lemmas.List.Elements.{All-nil, All-cons, All-from_recursion}
use Rattle.bounds_exprs.specs.declared.term.Bounds.{Bounds}
use Rattle.pointer_modes.specs.declared.ctype.Mode.{Mode}
use Rattle.pointer_modes.specs.declared.ctype.Mode.TheVariants as modes
use Rattle.pointer_modes.specs.declared.ctype.Kind.{Kind}
use Rattle.pointer_modes.specs.declared.ctype.Kind.TheVariants as kinds
use Rattle.pointer_modes.specs.Layout as layout
use Rattle.act_words.specs.Checks.{is_word_number}
use Rattle.bounds_flow_meaning.specs.Holding.{IsInt}
use Rattle.pointer_modes.specs.Layout.{scalar_size}
use Rattle.ckc_core.specs.Pointers.{element_size}
use Rattle.ckc_core.specs.Programs.{Initial}
use Rattle.ckc_core.specs.States.{has_type, initial_value, zero_of}
use Rattle.ckc_core.specs.Steps.{is_char}
use Rattle.lowering.specs.Images.{width_if}
use Rattle.region_typing_rules.specs.KnownIsSo.{AreLimited}
use Rattle.region_typing_rules.specs.Types.{is_number}
use Rattle.region_typing_rules.specs.Lowerable.{IsRoomy}
use Rattle.region_typing_rules.proofs.NodeBounds.{AreRead, AreReadable, bounds_read, cast_readable, noted_read}
use Rattle.pointer_modes.specs.Types.{CType, Int, Char, Struct, Pointer, Structure}
use Rattle.ckc_core.specs.declared.program.PointerBounds.{PointerBounds}
use Rattle.ckc_core.specs.declared.program.Site.{Site}
use Rattle.ckc_core.specs.Core as core
use Rattle.ckc_core.specs.Meaning.{bounds_of}
use Rattle.check_insertion.specs.declared.erased.Check.{Check}
use Rattle.check_insertion.specs.declared.erased.Check.TheVariants.{NotNull, Below, UpTo, Contains}
use Rattle.check_insertion.specs.Insert.{access_checks, sum_checks, cast_checks, end_of, store_end, size_of, expression, arguments_of, place, statement, statements}
use Rattle.lowering.specs.Sized.{AreWithin, AreLocal, HasEnd, IsElement, IsFresh, IsLocal, IsSmall, SizedExpression, SizedArguments, SizedPlace, SizedStatement, SizedStatements}
use Rattle.region_typing_rules.specs.Scopes.{Scope}
use Rattle.region_typing_rules.specs.Typed as typed
use Rattle.region_typing_rules.specs.Typed.{Frame, AreConstant, AreNamed, AreNewBounds, IsBaseOf, IsCountBeforeZero, IsNewElement, IsNewNumber, HasAccess, HasBounds, HasCallBounds, HasCellBounds, HasElements, AreSumBounds, HasType, HaveTypes, HasPlace, terms_of, IsSimple, IsStatement, AreStatements}

-- ---- checks

within_of : (b : Bounds) → AreLimited b → AreWithin b
within_of b h = record { low = h.low; high = h.high }

-- a check that a pointer isn't null is small
small_null : (locals most : ℕ) (site : Site) → 1 ≤ most → IsSmall locals most (NotNull site)
small_null locals most site le = record { words = le; reads = tt }

small_first : (locals : ℕ) (site : Site) → All (IsSmall locals 1) (NotNull site ∷ [])
small_first locals site = All-cons (IsSmall locals 1) (NotNull site) [] (small_null locals 1 site (omega arith)) (All-nil (IsSmall locals 1))

-- and so is one that an element lies within bounds
small_access : (locals : ℕ) (p : PointerBounds) (i : core.Expression) (site : Site) → AreWithin p.bounds → All (IsSmall locals 6) (access_checks (Some p) (core.Element i false) site)
small_access locals p i site h =
    let within : Check = Below (record { bounds = p.bounds; site = site }) in
    All-cons (IsSmall locals 6) (NotNull site) (within ∷ []) (small_null locals 6 site (omega arith))
    (All-cons (IsSmall locals 6) within [] (record { words = omega arith; reads = h }) (All-nil (IsSmall locals 6)))

small_upper : (locals : ℕ) (p : PointerBounds) (i : core.Expression) (site : Site) → AreWithin p.bounds → All (IsSmall locals 6) (access_checks (Some p) (core.Element i true) site)
small_upper locals p i site h =
    let within : Check = UpTo (record { bounds = p.bounds; site = site }) in
    All-cons (IsSmall locals 6) (NotNull site) (within ∷ []) (small_null locals 6 site (omega arith))
    (All-cons (IsSmall locals 6) within [] (record { words = omega arith; reads = h }) (All-nil (IsSmall locals 6)))

small_sum : (locals : ℕ) (p : PointerBounds) (site : Site) → AreWithin p.bounds → All (IsSmall locals 6) (sum_checks (Some p) site)
small_sum locals p site h =
    let within : Check = UpTo (record { bounds = p.bounds; site = site }) in
    All-cons (IsSmall locals 6) (NotNull site) (within ∷ []) (small_null locals 6 site (omega arith))
    (All-cons (IsSmall locals 6) within [] (record { words = omega arith; reads = h }) (All-nil (IsSmall locals 6)))

-- the locals that bounds name are among those of the function
module _ (types locals : List CType) (n : ℕ) (few : length locals ≤ n) (within : (k : ℕ) (t : CType) → slice_get types k ≡ Some t → slice_get locals k ≡ Some t) where
  int_local : (o : Option ℕ) → IsInt types o → IsLocal n o
  int_local None h = tt
  int_local (Some x) h = let low = slice_get_within locals x Int (within x Int h) in omega (arith, low, few)

  base_local : (o : Option ℕ) → ((q : ℕ) → o ≡ Some q → (m : Mode) × (k : Kind) × (t : CType) × (slice_get types q ≡ Some (Pointer m k t))) → IsLocal n o
  base_local None h = tt
  base_local (Some q) h = let there = h q refl in let low = slice_get_within locals q (Pointer there.0 there.1 there.2) (within q (Pointer there.0 there.1 there.2) there.3) in omega (arith, low, few)

  bounds_local : (b : Bounds) → AreNamed types b → AreLocal n b
  bounds_local b named = record { base = base_local b.base named.base; low = int_local b.lo.var named.ints.lo; high = int_local b.hi.var named.ints.hi }

  small_cast : (old : PointerBounds) (b : Option PointerBounds) → AreReadable types old.bounds → AreRead types b → All (IsSmall n 7) (cast_checks (Some old) b)
  small_cast old None h k = All-nil (IsSmall n 7)
  small_cast old (Some new) h k =
      let contains : Check = Contains (record { bounds = old.bounds; site = new.site }) (record { bounds = new.bounds; site = new.site }) in
      All-cons (IsSmall n 7) contains [] (record { words = omega arith; reads = (bounds_local old.bounds h.named, bounds_local new.bounds k.named) }) (All-nil (IsSmall n 7))

-- the elements of a pointer with bounds
module _ {structs : List Structure} (types : List CType) (locals : ℕ) (e : core.Expression) (c : CType) (p : PointerBounds) (elements : HasElements structs e c p) (read : AreRead types (bounds_of e)) where
  here : AreReadable types p.bounds
  here = subst (AreRead types) elements.bounds read

  some_bytes : 1 ≤ size_of (bounds_of e)
  some_bytes = let size = ap size_of elements.bounds in omega (arith, size, elements.node.size, elements.some)

  accesses : (i : core.Expression) (site : Site) → All (IsSmall locals 6) (access_checks (bounds_of e) (core.Element i false) site)
  accesses i site = subst (λ b. All (IsSmall locals 6) (access_checks b (core.Element i false) site)) (sym elements.bounds) (small_access locals p i site (within_of p.bounds here.limited))

  -- up to the upper end
  upper : (i : core.Expression) (site : Site) → All (IsSmall locals 6) (access_checks (bounds_of e) (core.Element i true) site)
  upper i site = subst (λ b. All (IsSmall locals 6) (access_checks b (core.Element i true) site)) (sym elements.bounds) (small_upper locals p i site (within_of p.bounds here.limited))

  counts : (site : Site) → All (IsSmall locals 6) (sum_checks (bounds_of e) site)
  counts site = subst (λ b. All (IsSmall locals 6) (sum_checks b site)) (sym elements.bounds) (small_sum locals p site (within_of p.bounds here.limited))

  sums : (site : Site) → All (IsSmall locals 6) (sum_checks (bounds_of e) site)
  sums site = subst (λ b. All (IsSmall locals 6) (sum_checks b site)) (sym elements.bounds) (small_sum locals p site (within_of p.bounds here.limited))

  casts : (types' : List CType) → length types' ≤ locals → ((k : ℕ) (t : CType) → slice_get types k ≡ Some t → slice_get types' k ≡ Some t) → (b : Option PointerBounds) → AreRead types b → All (IsSmall locals 7) (cast_checks (bounds_of e) b)
  casts types' few within b new = subst (λ old. All (IsSmall locals 7) (cast_checks old b)) (sym elements.bounds) (small_cast types types' locals few within p b here new)

-- ---- elements of new memory

pub width_is : (t : CType) → width_if (is_char t) ≤ scalar_size t
width_is Int = omega arith
width_is Char = omega arith
width_is (Struct number) = omega arith
width_is (Pointer mode kind target) = omega arith

zero_typed : (i : Initial) → has_type i.type (initial_value i.type i.number) ≡ true → has_type i.type (zero_of i.type) ≡ true
zero_typed i h = by i.type h
  where
    by : (t : CType) → has_type t (initial_value t i.number) ≡ true → has_type t (zero_of t) ≡ true
    by Int h = refl
    by Char h = refl
    by (Struct n) h = absurd (cc)
    by (Pointer m k t) h = refl

fresh_cell : (i : Initial) → IsRoomy i → IsFresh i
fresh_cell i roomy = record { room = omega (arith, width_is i.type, roomy.room); typed = zero_typed i roomy.typed }

fresh_cells : (cells : List Initial) → AllByRecursion IsRoomy cells → AllByRecursion IsFresh cells
fresh_cells [] all = tt
fresh_cells (i ∷ cells) all = (fresh_cell i all.0, fresh_cells cells all.1)

-- a word is smaller than the number of words
word_few : (n : ℕ) → is_word_number (pos n) ≡ true → n < 2 ^ 32
word_few n h = let low = ltb-true n (2 ^ 31) h in omega (arith, low)

new_element : (structs : List Structure) (t : CType) (element : List Initial) → IsNewElement structs t element → IsElement element
new_element structs t element is =
    record { cells = All-from_recursion IsFresh element (fresh_cells element is.roomy); some = omega (arith, is.size, is.bytes); few = let few = word_few (layout.size_of structs t) is.word in omega (arith, is.size, few) }

new_number : (structs : List Structure) (t : CType) (element : List Initial) → IsNewNumber structs t element → IsElement element
new_number structs t element is = record { cells = All-from_recursion IsFresh element (fresh_cells element is.roomy); some = some; few = few }
  where
    sized : (element_size element ≡ layout.size_of structs t) × (layout.size_of structs t ≤ 4)
    sized = (subst (λ e. element_size e ≡ layout.size_of structs t) (sym is.cell.is) (omega arith), small t is.number)
      where
        small : (t : CType) → is_number t ≡ true → layout.size_of structs t ≤ 4
        small Int h = omega arith
        small Char h = omega arith
        small (Struct k) h = absurd (cc)
        small (Pointer m k target) h = absurd (cc)

    some : 1 ≤ element_size element
    some = let cell = is.cell.some in omega (arith, sized.0, cell)

    few : element_size element < 2 ^ 32
    few = omega (arith, sized.0, sized.1)

-- ---- expressions

mutual
  sized_expression : (n : ℕ) {g : Frame} {locals : List CType} (held : length locals ≤ n) {here : Scope} {t : CType} (e : core.Expression) → HasType g locals here e t → SizedExpression n (expression e)
  sized_expression n held _ (typed.word ok) = tt
  sized_expression n held _ (typed.byte ok) = tt
  sized_expression n held _ typed.null = tt
  sized_expression n held _ (typed.local found told) = tt
  sized_expression n held _ (typed.bounded found size limited named force) = tt
  sized_expression n held _ (typed.widened e) = sized_expression n held _ e
  sized_expression n held _ (typed.single e elements leads) = sized_expression n held _ e
  sized_expression n held _ (typed.row e bounds) = sized_expression n held _ e
  sized_expression n held _ (typed.ended_row e) = sized_expression n held _ e
  sized_expression n held _ (typed.load scalar p told) = sized_access n held _ p
  sized_expression n held _ (typed.bounded_object is size) = tt
  sized_expression n held _ (typed.address_of p told) = sized_place n held _ p
  sized_expression n held _ (typed.array found some few rows bounds size) = tt
  sized_expression n held _ (typed.ended_array found few row bounds size) = tt
  sized_expression n held {here = here} (core.Sum e direction i site b) (typed.sum {t = t} {p = p} counts pointer elements number bounds) =
      (sized_expression n held e pointer, sized_expression n held i number, some_bytes here.locals n e _ p elements (bounds_read e pointer), sums here.locals n e _ p elements (bounds_read e pointer) site)
  sized_expression n held _ (typed.negate e) = sized_expression n held _ e
  sized_expression n held _ (typed.complement e) = sized_expression n held _ e
  sized_expression n held _ (typed.inverse e) = sized_expression n held _ e
  sized_expression n held _ (typed.arithmetic a b) = (sized_expression n held _ a, sized_expression n held _ b)
  sized_expression n held _ (typed.compare a b) = (sized_expression n held _ a, sized_expression n held _ b)
  sized_expression n held _ (typed.same a b) = (sized_expression n held _ a, sized_expression n held _ b)
  sized_expression n held _ (typed.order {site = site} a from_a b from_b) = (sized_expression n held _ a, sized_expression n held _ b, small_first n site, small_first n site)
  sized_expression n held _ (typed.both a b) = (sized_expression n held _ a, sized_expression n held _ b)
  sized_expression n held _ (typed.either a b) = (sized_expression n held _ a, sized_expression n held _ b)
  sized_expression n held _ (typed.low_byte e) = sized_expression n held _ e
  sized_expression n held _ (typed.call callee arguments asked told) = sized_arguments n held _ arguments
  sized_expression n held _ typed.next_input = tt
  sized_expression n {g = g} held (core.Allocate count element terminator b) (typed.allocate {t = t} number fresh bounds) = (sized_expression n held count number, new_element g.structs t element fresh)
  sized_expression n {g = g} held (core.Allocate count element terminator b) (typed.allocate_ended {t = t} number ends fresh bounds) = (sized_expression n held count number, new_number g.structs t element fresh)
  sized_expression n held {here = here} (core.Length e site) (typed.byte_count {p = p} pointer elements) =
      (sized_expression n held e pointer, some_bytes here.locals n e _ p elements (bounds_read e pointer), counts here.locals n e _ p elements (bounds_read e pointer) site)
  sized_expression n {locals = locals} held {here = here} (core.Cast e (Some q)) (typed.cast {t = t} {p = p} pointer elements counts within size limited ints bases) =
      (sized_expression n held e pointer, some_bytes here.locals n e _ p elements (bounds_read e pointer), casts here.locals n e _ p elements (bounds_read e pointer) locals held within (Some q) (cast_readable here.locals q limited ints bases))
  sized_expression n {g = g} {locals = locals} held {here = here} (core.Cast e b) (typed.cast_single {t = t} {p = p} pointer elements within told) =
      (sized_expression n held e pointer, some_bytes here.locals n e _ p elements (bounds_read e pointer), casts here.locals n e _ p elements (bounds_read e pointer) locals held within b (noted_read here.locals g.structs (Pointer modes.Checked kinds.One t) b told))
  sized_expression n held {here = here} (core.Cast e None) (typed.cast_unbounded {t = t} {p = p} pointer elements counts) =
      (sized_expression n held e pointer, some_bytes here.locals n e _ p elements (bounds_read e pointer), All-nil (IsSmall n 7))

  sized_arguments : (n : ℕ) {g : Frame} {locals : List CType} (held : length locals ≤ n) {here : Scope} {ts : List CType} (es : core.Arguments) → HaveTypes g locals here es ts → SizedArguments n (arguments_of es)
  sized_arguments n held _ typed.done = tt
  sized_arguments n held _ (typed.more first rest) = (sized_expression n held _ first, sized_arguments n held _ rest)

  sized_place : (n : ℕ) {g : Frame} {locals : List CType} (held : length locals ≤ n) {here : Scope} {t : CType} (p : core.Place) → HasPlace g locals here p t → SizedPlace n (place p)
  sized_place n held _ (typed.direct found row) = tt
  sized_place n held (core.Through e core.First zero site) (typed.pointed pointer) = (sized_expression n held _ pointer, small_first n site)
  sized_place n held (core.Through e core.First offset site) (typed.member k pointer found scalar) = (sized_expression n held _ pointer, small_first n site)
  sized_place n held {here = here} (core.Through e (core.Element i false) zero site) (typed.element {t = t} {p = p} pointer elements number) =
      (sized_expression n held e pointer, (sized_expression n held i number, some_bytes here.locals n e _ p elements (bounds_read e pointer), accesses here.locals n e _ p elements (bounds_read e pointer) i site))
  sized_place n held {here = here} (core.Through e (core.Element i false) offset site) (typed.element_member {n = m} {p = p} k pointer elements number found scalar) =
      (sized_expression n held e pointer, (sized_expression n held i number, some_bytes here.locals n e _ p elements (bounds_read e pointer), accesses here.locals n e _ p elements (bounds_read e pointer) i site))

  sized_access : (n : ℕ) {g : Frame} {locals : List CType} (held : length locals ≤ n) {here : Scope} {t : CType} (p : core.Place) → HasAccess g locals here p t → SizedPlace n (place p)
  sized_access n held p (typed.at_place h) = sized_place n held p h
  sized_access n held {here = here} (core.Through e (core.Element i true) zero site) (typed.ended {p = p} pointer elements number) =
      (sized_expression n held e pointer, (sized_expression n held i number, some_bytes here.locals n e _ p elements (bounds_read e pointer), upper here.locals n e _ p elements (bounds_read e pointer) i site))

-- ---- statements

-- the end at which nothing but 0 is stored, where a place has one
endless : {g : Frame} {locals : List CType} {here : Scope} {t : CType} (p : core.Place) → HasPlace g locals here p t → HasEnd (place p) (end_of p)
endless (core.Direct object offset) _ = tt
endless (core.Through e core.First zero site) (typed.pointed pointer) = tt
endless (core.Through e core.First offset site) (typed.member k pointer found scalar) = tt
endless (core.Through e (core.Element i true) offset site) h = elim h [ ]
endless (core.Through e (core.Element i false) zero site) (typed.element pointer elements number) = tt
endless (core.Through e (core.Element i false) offset site) (typed.element_member k pointer elements number found scalar) = tt

ends_within : {g : Frame} {locals : List CType} {here : Scope} {t : CType} (p : core.Place) → HasAccess g locals here p t → HasEnd (place p) (end_of p)
ends_within p (typed.at_place h) = endless p h
ends_within {here = here} (core.Through e (core.Element i true) zero site) (typed.ended {p = p} pointer elements number) = by (bounds_of e) refl
  where
    by : (o : Option PointerBounds) → bounds_of e ≡ o → HasEnd (place (core.Through e (core.Element i true) 0 site)) (store_end o (core.Element i true) site)
    by None is = tt
    by (Some b) is = let h : AreReadable here.locals b.bounds = subst (AreRead here.locals) is (bounds_read e pointer) in within_of b.bounds h.limited

sized_simple : (n : ℕ) {g : Frame} {locals : List CType} (held : length locals ≤ n) {here : Scope} (x : core.Statement) → IsSimple g locals here x → SizedStatement n (statement x)
sized_simple n held _ typed.nothing = tt
sized_simple n held _ (typed.set_local found e) = sized_expression n held _ e
sized_simple n held _ (typed.store scalar p e) = (sized_access n held _ p, sized_expression n held _ e, ends_within _ p)
sized_simple n held _ (typed.store_bounded counts is e asked) = (tt, sized_expression n held _ e, tt)
sized_simple n held _ (typed.update_local found number char e) = sized_expression n held _ e
sized_simple n held _ (typed.update number p e) = (sized_access n held _ p, sized_expression n held _ e, ends_within _ p)
sized_simple n held _ (typed.evaluate e) = sized_expression n held _ e
sized_simple n held _ (typed.call_alone callee arguments asked) = sized_arguments n held _ arguments
sized_simple n held _ (typed.print e) = sized_expression n held _ e
sized_simple n held _ (typed.put_byte e) = sized_expression n held _ e

mutual
  sized_statement : (n : ℕ) {g : Frame} {locals : List CType} (held : length locals ≤ n) {result : Option CType} {bounds : Option Bounds} {loop : Bool} (x : core.Statement) → IsStatement g locals result bounds loop x → SizedStatement n (statement x)
  sized_statement n held _ (typed.simple x) = sized_simple n held _ x
  sized_statement n held _ (typed.block xs) = sized_statements n held _ xs
  sized_statement n held _ (typed.choice e x y) = (sized_expression n held _ e, sized_statement n held _ x, sized_statement n held _ y)
  sized_statement n held _ (typed.repeat e x y) = (sized_expression n held _ e, sized_statement n held _ x, sized_statement n held _ y)
  sized_statement n held _ (typed.returned same e asked) = sized_expression n held _ e
  sized_statement n held _ (typed.returned_nothing same) = tt
  sized_statement n held _ typed.broken = tt
  sized_statement n held _ typed.continued = tt

  pub sized_statements : (n : ℕ) {g : Frame} {locals : List CType} (held : length locals ≤ n) {result : Option CType} {bounds : Option Bounds} {loop : Bool} (xs : core.Statements) → AreStatements g locals result bounds loop xs → SizedStatements n (statements xs)
  sized_statements n held _ typed.no_more = tt
  sized_statements n held _ (typed.then_more first others) = (sized_statement n held _ first, sized_statements n held _ others)
