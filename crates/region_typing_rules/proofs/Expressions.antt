-- Expressions that break no rule have types.
use Rattle.std.proofs.Common.{◌≤◌, ◌≡◌, ℕ, ◌^◌, Bool, true, false, List, length, Option, Some, None, pos, ◌+ℤ◌, ◌<◌, refl, sym, ◌∙◌, subst, arith, ⊎_elim}
use Rattle.std.specs.Prelude.{◌==◌, nat_lt, ◌&&◌, cond, is_some}
use Rattle.std.proofs.lemmas.Bool.{and_parts, ltb-true}
use Rattle.ckc_text.specs.declared.place.Span.{Span}
use Rattle.ckc_text.specs.declared.code.Code.TheVariants.{E04, E13, E18}
use Rattle.ckc_tree.specs.declared.expr.BinaryOperator.{BinaryOperator}
use Rattle.ckc_tree.specs.declared.expr.BinaryOperator.TheVariants as binary
use Rattle.ckc_tree.specs.declared.expr.CastWord.{CastWord}
use Rattle.ckc_tree.specs.declared.expr.CastWord.TheVariants as cast_words
use Rattle.ckc_tree.specs.declared.expr.MallocWord.{MallocWord}
use Rattle.ckc_tree.specs.declared.expr.MallocWord.TheVariants as malloc_words
use Rattle.ckc_tree.specs.declared.expr.CallocWord.{CallocWord}
use Rattle.ckc_tree.specs.declared.expr.CallocWord.TheVariants as calloc_words
use Rattle.ckc_tree.specs.Expressions as e
use Rattle.ckc_tree.specs.Expressions.{Expression, Expressions}
use Rattle.pointer_modes.specs.declared.ctype.Mode.TheVariants as modes
use Rattle.pointer_modes.specs.declared.ctype.Kind.{Kind}
use Rattle.pointer_modes.specs.declared.ctype.Kind.TheVariants as kinds
use Rattle.pointer_modes.specs.Types.{CType, Int, Char, Struct, Pointer}
use Rattle.pointer_modes.specs.Layout.{size_of}
use Rattle.ckc_core.specs.declared.program.Site.{Site}
use Rattle.act_words.specs.declared.operator.Operator.{Operator}
use Rattle.ckc_core.specs.declared.program.PointerBounds.{PointerBounds}
use Rattle.ckc_core.specs.declared.program.Terminator.{Terminator}
use Rattle.ckc_core.specs.declared.program.Terminator.TheVariants as terminators
use Rattle.ckc_core.specs.Pointers.{is_terminated}
use Rattle.ckc_core.specs.Core as core
use Rattle.ckc_core.specs.Meaning.{bounds_of}
use Rattle.ckc_core.specs.States.{same_mode, same_type}
use Rattle.bounds_exprs.specs.declared.term.Bounds.{Bounds}
use Rattle.bounds_exprs.specs.declared.term.Term.{Term}
use Rattle.bounds_exprs.specs.Terms.{is_within, term_limit}
use Rattle.bounds_flow.specs.Conditions.{IsFlow, AreEndsBelow}
use Rattle.bounds_flow.specs.Flows.{Knowledge}
use Rattle.bounds_flow_meaning.specs.Holding.{at_node, is_ended}
use Rattle.region_typing_rules.specs.Verdicts.{Verdict, Passes, Stops, passing, needs, picked}
use Rattle.region_typing_rules.specs.Scopes.{Scope, WrittenBounds, bounds_in, named, function_named}
use Rattle.region_typing_rules.specs.Types.{type_named, is_number, kind_converts, pointer_converts, converts, Counts}
use Rattle.region_typing_rules.specs.Readings.{left_told, term}
use Rattle.region_typing_rules.specs.Operands.{Places, ForNothing, Typed, Value, AStruct, site_at, bounds_at, noted_if, with_bounds, one_element, bounded, number, name_typed, dotted, arrowed, unary_typed, beside, indexed, with_cell_bounds, in_cell}
use Rattle.region_typing_rules.specs.Calls.{called, call_bounds}
use Rattle.region_typing_rules.specs.NewMemory.{ended_allocation}
use Rattle.region_typing_rules.specs.Expressions.{constant_typed, typed, all_typed, call_typed}
use Rattle.region_typing_rules.specs.NewMemory.{factor_beside, is_size, elements_in, row_counted, allocation, allocation_if, malloc_typed, calloc_typed, casts_to, takes, has_base, base_in, cast_checked, cast_typed, cast_bounds}
use Rattle.ckc_core.specs.Steps.{is_char}
use Rattle.bounds_flow_meaning.specs.Sums.{counted}
use Rattle.region_typing_rules.specs.Cells.{cells_with}
use Rattle.region_typing_rules.specs.DeclaredBounds.{declared_bounds}
use Rattle.region_typing_rules.specs.DeclaredFormed.{IsFormedFor, IsFormedIf}
use Rattle.region_typing_rules.proofs.DeclaredBounds.{declared_formed, int_below}
use Rattle.region_typing_rules.proofs.NewCells.{AreNewCells, new_cells}
use Rattle.region_typing_rules.proofs.Terms.{before_formed}
use Rattle.region_typing_rules.specs.Typed as rules
use Rattle.region_typing_rules.specs.Typed.{Frame, AreNewBounds, IsBaseOf, IsCountBeforeZero, HasBounds, HasElements, HasType, CountsAs, IsNewNumber}
use Rattle.region_typing_rules.proofs.Verdicts.{Promises, passing_promises, needs_promises, anything_promised}
use Rattle.region_typing_rules.proofs.Known.{IsKnown, size_kept, bounds_kept, type_known, cell_kept}
use Rattle.region_typing_rules.proofs.KnownTypes.{IsKnownTyped, typed_known}
use Rattle.region_typing_rules.proofs.InForce.{AreSo, StaysSo, bounds_told, IsPointing}
use Rattle.bounds_flow.specs.Pointers.{up_to}
use Rattle.region_typing_rules.proofs.Knowledge.{Knows, StandsFor, name_stands}
use Rattle.region_typing_rules.proofs.SameTypes.{mode_equal, same_equal}
use Rattle.region_typing_rules.proofs.Sizes.{size_fits}
use Rattle.act_words.specs.Checks.{is_word_number}
use Rattle.region_typing_rules.specs.Knowing.{knowing}
use Rattle.bounds_exprs.specs.declared.term.Term.{Term}
use Rattle.region_typing_rules.proofs.Told.{IsTold, told_here, told_is}
use Rattle.region_typing_rules.proofs.Nodes.{AreCounted, HasNode, IsFactor, IsOne, base_is, beside_is, both_promised, counted_node, number_sized}
use Rattle.region_typing_rules.proofs.Operands.{text_fits, Fits, FitsCall, FitsCell, FitsNoted, FitsRight, FitsValue, binary_promises, indexed_promises, name_fits, number_fits, number_of_promises, plain_fits, unary_promises}
use Rattle.region_typing_rules.proofs.Conversions.{AllFit, arrowed_promises, called_promises, dotted_promises, with_result_promises}
use Rattle.region_typing_rules.proofs.TextBlocks.{text_promises}
use Rattle.region_typing_rules.specs.Strings.{text_at}

module _ (g : Frame) (types : List CType) (s : Scope) where
  module _ (knows : Knows g types s) where
    -- ---- new memory

    arithmetic_parts : {operator : Operator} {a b : core.Expression} {site : Site} {t : CType} → HasType g types s (core.Arithmetic operator a b site) t → HasType g types s a Int × HasType g types s b Int
    arithmetic_parts (rules.arithmetic ha hb) = (ha, hb)
    arithmetic_parts (rules.widened h) = arithmetic_parts h
    arithmetic_parts (rules.single h elements leads) = arithmetic_parts h
    arithmetic_parts (rules.row h bounds) = arithmetic_parts h
    arithmetic_parts (rules.ended_row h) = arithmetic_parts h

    factor_typed : (value n : core.Expression) → IsFactor value n → HasType g types s value Int → HasType g types s n Int
    factor_typed value n f h = ⊎_elim (λ is. (arithmetic_parts (subst (λ e. HasType g types s e Int) is h)).0) (λ is. (arithmetic_parts (subst (λ e. HasType g types s e Int) is h)).1) f.is

    -- the number of elements that a size is, is a number
    elements_typed : (t : CType) (size : Expression) (value n : core.Expression) → elements_in s t size value ≡ Some n → HasType g types s value Int → HasType g types s n Int
    elements_typed t size value n h typed = by (factor_beside s t size value) refl
      where
        alone : (a b : Bool) → picked a (Some (core.Number (pos 1))) (picked b (Some value) None) ≡ Some n → HasType g types s n Int
        alone true b k = let same : core.Number (pos 1) ≡ n = cc in subst (λ e. HasType g types s e Int) same (rules.word refl)
        alone false true k = let same : value ≡ n = cc in subst (λ e. HasType g types s e Int) same typed
        alone false false k = absurd (cc)

        by : (o : Option core.Expression) → factor_beside s t size value ≡ o → HasType g types s n Int
        by None e = alone (is_size s t size) (is_char t) (let k = rw e at h in k)
        by (Some m) e = let k : Some m ≡ Some n = rw e at h in let same : m ≡ n = cc in subst (λ e. HasType g types s e Int) same (factor_typed value m (beside_is s t size value m e) typed)

    -- where there is a term, as many elements stand before the zero
    abbrev pub AreBefore : Terminator → core.Expression → Option Term → Type 0
    AreBefore terminator count o = (n : Term) → o ≡ Some n → IsCountBeforeZero s.locals terminator count n

    module _ (t : CType) (count : core.Expression) (site : Site) (some : 0 < size_of s.structs t) where
      abbrev made : AreNewCells s.structs g.structs t (cells_with s.structs t (pos 0))
      made = new_cells s.structs g.structs t knows.file.structs knows.file.scalar_members some

      same_bytes : size_of s.structs t ≡ size_of g.structs t
      same_bytes = sym made.size ∙ made.later_size

      new_bounds : (terminator : Terminator) (o : Option Term) → AreBefore terminator count o → AreNewBounds g.structs s.locals terminator count t (row_counted s.structs t (is_terminated terminator) o site)
      new_bounds terminator None is = rules.uncounted
      new_bounds terminator (Some n) is = subst (λ k. AreNewBounds g.structs s.locals terminator count t (Some (record { bounds = counted n; size = k; terminated = is_terminated terminator; site = site }))) (sym same_bytes) (rules.by_term {site = site} (is n refl))

      new_counted : (kind : Kind) (terminator : Terminator) (o : Option Term) → AreBefore terminator count o → AreCounted g.structs s.flow.vars kind t (row_counted s.structs t (is_ended (Pointer modes.Checked kind t)) o site)
      new_counted kind terminator None is = tt
      new_counted kind terminator (Some n) is =
          let int = (before_formed s.locals terminator count n (is n refl)).int in
          record { node = record { size = same_bytes; terminated = refl }; some = made.bytes; below = record { lo = tt; hi = int_below s.locals s.flow.vars n.var knows.few int } }

    -- new memory of elements that have bytes
    pub memory_typed : (t : CType) (count : core.Expression) (site : Site) → HasType g types s count Int → nat_lt 0 (size_of s.structs t) ≡ true
        → HasType g types s (core.Allocate count (cells_with s.structs t (pos 0)) terminators.Absent (row_counted s.structs t false (term s.locals count) site)) (Pointer modes.Checked kinds.Array t)
    memory_typed t count site h bytes =
        let some = ltb-true 0 (size_of s.structs t) bytes in
        let cells = made t count site some in
        let word = subst (λ n. is_word_number (pos n) ≡ true) (same_bytes t count site some) (size_fits s.structs t knows.file.few_members) in
        rules.allocate h (record { bytes = cells.bytes; word = word; size = cells.later_size; cells = cells.cells; initial = cells.initial g.structs; roomy = cells.roomy }) (new_bounds t count site some terminators.Absent (term s.locals count) (λ n e. rules.all_of e))

    allocation_promises : (t : CType) (count : core.Expression) (site : Site) (span : Span) → HasType g types s count Int → Promises (Fits g types s) (allocation s t count site span)
    allocation_promises t count site span h =
        needs_promises (Fits g types s) (nat_lt 0 (size_of s.structs t)) E13 span _
        (λ bytes.
        (plain_fits g types s) (Pointer modes.Checked kinds.Array t) (core.Allocate count (cells_with s.structs t (pos 0)) terminators.Absent (row_counted s.structs t false (term s.locals count) site)) refl (memory_typed t count site h bytes)
        (record { own = new_counted t count site (ltb-true 0 (size_of s.structs t) bytes) kinds.Array terminators.Absent (term s.locals count) (λ n e. rules.all_of e); based = λ b e. absurd (cc) }))

    -- and of numbers that a zero ends
    new_number : (t : CType) → is_number t ≡ true → IsNewNumber g.structs t (cells_with s.structs t (pos 0))
    new_number Int number = record { number = refl; cell = record { number = pos 0; is = refl; some = omega arith }; initial = (refl, tt); roomy = (record { room = omega arith; typed = refl; word = refl; null = λ e. absurd (cc) }, tt) }
    new_number Char number = record { number = refl; cell = record { number = pos 0; is = refl; some = omega arith }; initial = (refl, tt); roomy = (record { room = omega arith; typed = refl; word = refl; null = λ e. absurd (cc) }, tt) }
    new_number (Struct n) number = absurd (cc)
    new_number (Pointer m k t) number = absurd (cc)

    pub ended_memory_typed : (t : CType) (count : core.Expression) (terminator : Terminator) → is_terminated terminator ≡ true → (before : Option Term) → AreBefore terminator count before → (site : Site) → HasType g types s count Int → is_number t ≡ true
        → HasType g types s (core.Allocate count (cells_with s.structs t (pos 0)) terminator (row_counted s.structs t true before site)) (Pointer modes.Checked kinds.Nt t)
    ended_memory_typed t count terminator ended before are site h number =
        rules.allocate_ended h ended (new_number t number)
        (subst (λ x. AreNewBounds g.structs s.locals terminator count t (row_counted s.structs t x before site)) ended (new_bounds t count site (number_sized s.structs t number) terminator before are))

    ended_allocation_promises : (t : CType) (count : core.Expression) (terminator : Terminator) → is_terminated terminator ≡ true → (before : Option Term) → AreBefore terminator count before → (site : Site) (span : Span) → HasType g types s count Int
        → Promises (Fits g types s) (ended_allocation s t count terminator before site span)
    ended_allocation_promises t count terminator ended before are site span h =
        needs_promises (Fits g types s) (is_number t) E13 span _
        (λ number.
        (plain_fits g types s) (Pointer modes.Checked kinds.Nt t) (core.Allocate count (cells_with s.structs t (pos 0)) terminator (row_counted s.structs t true before site)) refl (ended_memory_typed t count terminator ended before are site h number)
        (record { own = new_counted t count site (number_sized s.structs t number) kinds.Nt terminator before are; based = λ b e. absurd (cc) }))

    malloc_promises : (word : MallocWord) (t : CType) (size : Expression) (a : Typed) (site : Site) (span : Span) → Fits g types s a → Promises (Fits g types s) (malloc_typed word s t size a site span)
    malloc_promises malloc_words.Malloc t size a site span h =
        (number_of_promises g types s) (Fits g types s) a span (λ value. allocation_if s t (elements_in s t size value) site span) h (λ value typed. by value typed (elements_in s t size value) refl)
      where
        by : (value : core.Expression) → HasType g types s value Int → (o : Option core.Expression) → elements_in s t size value ≡ o → Promises (Fits g types s) (allocation_if s t o site span)
        by value typed None e = tt
        by value typed (Some n) e = allocation_promises t n site span (elements_typed t size value n e typed)
    malloc_promises malloc_words.TMalloc t size a site span h = tt

    calloc_promises : (word : CallocWord) (t : CType) (a : Typed) (size : Expression) (site : Site) (span : Span) → Fits g types s a → Promises (Fits g types s) (calloc_typed word s t a size site span)
    calloc_promises calloc_words.Calloc t a size site span h =
        (number_of_promises g types s) (Fits g types s) a span (λ count. needs (is_size s t size) E13 span (allocation s t count site span)) h
        (λ count typed. needs_promises (Fits g types s) (is_size s t size) E13 span (allocation s t count site span) (λ _. allocation_promises t count site span typed))
    calloc_promises calloc_words.NtCalloc t a size site span h =
        (number_of_promises g types s) (Fits g types s) a span (λ count. needs (is_size s t size) E13 span (ended_allocation s t count terminators.Behind (term s.locals count) site span)) h
        (λ count typed. needs_promises (Fits g types s) (is_size s t size) E13 span (ended_allocation s t count terminators.Behind (term s.locals count) site span)
        (λ _. ended_allocation_promises t count terminators.Behind refl (term s.locals count) (λ n e. rules.all_before e) site span typed))

    -- ---- casts

    module _ (target : CType) (site : Site) (value : core.Expression) (known : IsKnown s.structs (Pointer modes.Checked kinds.One target)) where
      one_told : HasBounds g.structs (Pointer modes.Checked kinds.One target) (bounds_at s.structs (Pointer modes.Checked kinds.One target) site)
      one_told = (site, bounds_kept s.structs g.structs (Pointer modes.Checked kinds.One target) site knows.file.structs known)

      one_node : IsOne g.structs s.flow.vars modes.Checked target (core.Cast value (bounds_at s.structs (Pointer modes.Checked kinds.One target) site))
      one_node = record { own = one_told; based = λ b e. absurd (cc) }

    -- the bounds of the pointer that is cast
    row_elements : (kind : Kind) (target : CType) (value : core.Expression) → AreCounted g.structs s.flow.vars kind target (bounds_of value) → is_some (bounds_of value) ≡ true → (p : PointerBounds) × HasElements g.structs value (Pointer modes.Checked kind target) p
    row_elements kind target value counted there = by (bounds_of value) refl counted there
      where
        by : (o : Option PointerBounds) → bounds_of value ≡ o → AreCounted g.structs s.flow.vars kind target o → is_some o ≡ true → (p : PointerBounds) × HasElements g.structs value (Pointer modes.Checked kind target) p
        by None e c t = absurd (cc)
        by (Some p) e c t = (p, record { bounds = e; node = c.node; some = c.some })

    -- a pointer with bounds as one with others
    bounded_cast : (kind to : Kind) (target : CType) (value : core.Expression) (p : PointerBounds) (b : Bounds) (site : Site) → CountsAs kind to → Counts to → HasType g types s value (Pointer modes.Checked kind target) → HasElements g.structs value (Pointer modes.Checked kind target) p → size_of s.structs target ≡ size_of g.structs target → IsFormedFor s.structs s.locals (Pointer modes.Checked to target) b
        → has_base b.base value ≡ true → FitsValue g types s (Pointer modes.Checked to target) false (core.Cast value (Some (at_node b (size_of s.structs target) (is_ended (Pointer modes.Checked to target)) site))) ForNothing
    bounded_cast kind to target value p b site as_kind counts h elements same formed based =
        (plain_fits g types s) (Pointer modes.Checked to target) (core.Cast value (Some (at_node b (size_of s.structs target) (is_ended (Pointer modes.Checked to target)) site))) refl
        (rules.cast h elements as_kind knows.locals (record { size = same; terminated = refl }) formed.limited formed.ints bases)
        (counted_node modes.Checked to counts (record { own = record { node = record { size = same; terminated = refl }; some = elements.some; below = below }; based = λ d e. on_base b.base d e }))
      where
        below : AreEndsBelow s.flow.vars b
        below = record { lo = int_below s.locals s.flow.vars b.lo.var knows.few formed.ints.lo; hi = int_below s.locals s.flow.vars b.hi.var knows.few formed.ints.hi }

        on_base : (o : Option ℕ) (d : Bounds) → picked (is_some o) (Some b) None ≡ Some d → AreEndsBelow s.flow.vars d
        on_base None d e = absurd (cc)
        on_base (Some k) d e = let q : b ≡ d = cc in subst (AreEndsBelow s.flow.vars) q below

        bases : (k : ℕ) → b.base ≡ Some k → IsBaseOf s.locals value k
        bases k e =
            let has = base_is value k (subst (λ o. has_base o value ≡ true) e based) in
            let pointer = formed.base k e in
            record { counts = record { bounds = has.bounds; based = has.based; base = has.base }; mode = formed.mode; kind = pointer.0; target = formed.element; pointer = pointer.1 }

    -- a pointer to one element as one with bounds
    row_cast : (target : CType) (value : core.Expression) (same : size_of s.structs target ≡ size_of g.structs target) → 0 < size_of s.structs target → (node : HasBounds g.structs (Pointer modes.Checked kinds.One target) (bounds_of value))
        → HasElements g.structs value (Pointer modes.Checked kinds.Array target) (at_node one_element (size_of g.structs target) false node.0)
    row_cast target value same some node = record { bounds = node.1; node = record { size = refl; terminated = refl }; some = subst (λ n. 0 < n) same some }

    -- by the kinds of both
    kind_cast : (from to : Kind) (target : CType) (value : core.Expression) (written : WrittenBounds) (site : Site) → kind_converts from to ≡ true → 0 < size_of s.structs target → takes (Pointer modes.Checked to target) written ≡ true → is_some (bounds_of value) ≡ true → has_base (base_in (bounds_in written)) value ≡ true
        → IsKnown s.structs (Pointer modes.Checked to target) → IsFormedIf s.structs s.locals (Pointer modes.Checked to target) (bounds_in written) → HasType g types s value (Pointer modes.Checked from target) → HasNode g.structs s.flow.vars (Pointer modes.Checked from target) value
        → FitsValue g types s (Pointer modes.Checked to target) false (core.Cast value (call_bounds s.structs (Pointer modes.Checked to target) (bounds_in written) site)) ForNothing
    kind_cast kinds.One kinds.Nt target value written site converts some taken there based known formed h node = absurd (cc)
    kind_cast kinds.Array kinds.Nt target value written site converts some taken there based known formed h node = absurd (cc)
    kind_cast kinds.One kinds.One target value written site converts some taken there based known formed h node =
        let row = row_cast target value (size_kept s.structs g.structs target knows.file.structs known.1) some node.own in
        (plain_fits g types s) (Pointer modes.Checked kinds.One target) (core.Cast value (bounds_at s.structs (Pointer modes.Checked kinds.One target) site)) refl (rules.cast_single (rules.row h node.own) row knows.locals (one_told target site value known)) (one_node target site value known)
    kind_cast kinds.Array kinds.One target value written site converts some taken there based known formed h node =
        let p = row_elements kinds.Array target value node.own there in
        (plain_fits g types s) (Pointer modes.Checked kinds.One target) (core.Cast value (bounds_at s.structs (Pointer modes.Checked kinds.One target) site)) refl (rules.cast_single h p.1 knows.locals (one_told target site value known)) (one_node target site value known)
    kind_cast kinds.Nt kinds.One target value written site converts some taken there based known formed h node =
        let p = row_elements kinds.Nt target value node.own there in
        (plain_fits g types s) (Pointer modes.Checked kinds.One target) (core.Cast value (bounds_at s.structs (Pointer modes.Checked kinds.One target) site)) refl (rules.cast_single h p.1 knows.locals (one_told target site value known)) (one_node target site value known)
    kind_cast kinds.Nt kinds.Nt target value None site converts some taken there based known formed h node = absurd (cc)
    kind_cast kinds.Nt kinds.Nt target value (Some None) site converts some taken there based known formed h node =
        let p = row_elements kinds.Nt target value node.own there in
        (plain_fits g types s) (Pointer modes.Checked kinds.Nt target) (core.Cast value None) refl (rules.cast_unbounded h p.1 tt) (record { own = tt; based = λ b e. absurd (cc) })
    kind_cast kinds.Nt kinds.Nt target value (Some (Some b)) site converts some taken there based known formed h node =
        let p = row_elements kinds.Nt target value node.own there in
        bounded_cast kinds.Nt kinds.Nt target value p.0 b site tt tt h p.1 (size_kept s.structs g.structs target knows.file.structs known.1) formed based
    kind_cast kinds.Nt kinds.Array target value (Some None) site converts some taken there based known formed h node =
        let p = row_elements kinds.Nt target value node.own there in
        (plain_fits g types s) (Pointer modes.Checked kinds.Array target) (core.Cast value None) refl (rules.cast_unbounded h p.1 tt) (record { own = tt; based = λ b e. absurd (cc) })
    kind_cast kinds.Nt kinds.Array target value (Some (Some b)) site converts some taken there based known formed h node =
        let p = row_elements kinds.Nt target value node.own there in
        bounded_cast kinds.Nt kinds.Array target value p.0 b site tt tt h p.1 (size_kept s.structs g.structs target knows.file.structs known.1) formed based
    kind_cast from kinds.Array target value None site converts some taken there based known formed h node = absurd (cc)
    kind_cast kinds.One kinds.Array target value (Some None) site converts some taken there based known formed h node =
        let row = row_cast target value (size_kept s.structs g.structs target knows.file.structs known.1) some node.own in
        (plain_fits g types s) (Pointer modes.Checked kinds.Array target) (core.Cast value None) refl (rules.cast_unbounded (rules.row h node.own) row tt) (record { own = tt; based = λ b e. absurd (cc) })
    kind_cast kinds.Array kinds.Array target value (Some None) site converts some taken there based known formed h node =
        let p = row_elements kinds.Array target value node.own there in
        (plain_fits g types s) (Pointer modes.Checked kinds.Array target) (core.Cast value None) refl (rules.cast_unbounded h p.1 tt) (record { own = tt; based = λ b e. absurd (cc) })
    kind_cast kinds.One kinds.Array target value (Some (Some b)) site converts some taken there based known formed h node =
        let same = size_kept s.structs g.structs target knows.file.structs known.1 in
        bounded_cast kinds.Array kinds.Array target value (at_node one_element (size_of g.structs target) false node.own.0) b site tt tt (rules.row h node.own) (row_cast target value same some node.own) same formed based
    kind_cast kinds.Array kinds.Array target value (Some (Some b)) site converts some taken there based known formed h node =
        let same = size_kept s.structs g.structs target knows.file.structs known.1 in
        let p = row_elements kinds.Array target value node.own there in
        bounded_cast kinds.Array kinds.Array target value p.0 b site tt tt h p.1 same formed based

    cast_of_type : (type : CType) (kind : Kind) (target : CType) (value : core.Expression) (written : WrittenBounds) (site : Site) → pointer_converts type kind (Pointer modes.Checked kind target) ≡ true → 0 < size_of s.structs target → takes (Pointer modes.Checked kind target) written ≡ true → is_some (bounds_of value) ≡ true → has_base (base_in (bounds_in written)) value ≡ true
        → IsKnown s.structs (Pointer modes.Checked kind target) → IsFormedIf s.structs s.locals (Pointer modes.Checked kind target) (bounds_in written) → HasType g types s value type → HasNode g.structs s.flow.vars type value
        → FitsValue g types s (Pointer modes.Checked kind target) false (core.Cast value (call_bounds s.structs (Pointer modes.Checked kind target) (bounds_in written) site)) ForNothing
    cast_of_type Int kind target value written site converts some taken there based known formed h node = absurd (cc)
    cast_of_type Char kind target value written site converts some taken there based known formed h node = absurd (cc)
    cast_of_type (Struct n) kind target value written site converts some taken there based known formed h node = absurd (cc)
    cast_of_type (Pointer m from u) kind target value written site converts some taken there based known formed h node =
        let both = and_parts (same_mode m modes.Checked && same_type u target) (kind_converts from kind) converts in
        let same = and_parts (same_mode m modes.Checked) (same_type u target) both.0 in
        let is_mode = mode_equal m modes.Checked same.0 in
        let is_target = same_equal u target same.1 in
        kind_cast from kind target value written site both.1 some taken there based known formed
        (subst (λ m. HasType g types s value (Pointer m from target)) is_mode (subst (λ u. HasType g types s value (Pointer m from u)) is_target h))
        (subst (λ m. HasNode g.structs s.flow.vars (Pointer m from target) value) is_mode (subst (λ u. HasNode g.structs s.flow.vars (Pointer m from u) value) is_target node))

    checked_promises : (to : CType) (a : Typed) (written : WrittenBounds) (site : Site) (span : Span) → IsKnown s.structs to → IsFormedIf s.structs s.locals to (bounds_in written) → Fits g types s a → Promises (Fits g types s) (cast_checked s to a written site span)
    checked_promises to (AStruct n place) written site span known formed h = tt
    checked_promises to (Value type zero value place) written site span known formed h =
        needs_promises (Fits g types s) (casts_to s.structs type to && takes to written) E13 span _
        (λ both. needs_promises (Fits g types s) (is_some (bounds_of value) && has_base (base_in (bounds_in written)) value) E18 span _
        (λ has. by to known formed (and_parts (casts_to s.structs type to) (takes to written) both) (and_parts (is_some (bounds_of value)) (has_base (base_in (bounds_in written)) value) has)))
      where
        by : (to : CType) → IsKnown s.structs to → IsFormedIf s.structs s.locals to (bounds_in written) → (casts_to s.structs type to ≡ true) × (takes to written ≡ true) → (is_some (bounds_of value) ≡ true) × (has_base (base_in (bounds_in written)) value ≡ true)
            → Fits g types s (Value to false (core.Cast value (call_bounds s.structs to (bounds_in written) site)) ForNothing)
        by Int known formed both has = absurd (let h = both.0 in cc)
        by Char known formed both has = absurd (let h = both.0 in cc)
        by (Struct n) known formed both has = absurd (let h = both.0 in cc)
        by (Pointer modes.Tainted kind target) known formed both has = absurd (let h = both.0 in cc)
        by (Pointer modes.Raw kind target) known formed both has = absurd (let h = both.0 in cc)
        by (Pointer modes.Checked kind target) known formed both has =
            let like = and_parts (pointer_converts type kind (Pointer modes.Checked kind target)) (nat_lt 0 (size_of s.structs target)) both.0 in
            cast_of_type type kind target value written site like.0 (ltb-true 0 (size_of s.structs target) like.1) both.1 has.0 has.1 known formed h.has_type h.node

    cast_promises : (word : CastWord) (to : CType) (a : Typed) (written : WrittenBounds) (site : Site) (span : Span) → IsKnown s.structs to → IsFormedIf s.structs s.locals to (bounds_in written) → Fits g types s a → Promises (Fits g types s) (cast_typed word s to a written site span)
    cast_promises cast_words.Dynamic to a written site span known formed h = checked_promises to a written site span known formed h
    cast_promises cast_words.Assume to a written site span known formed h = tt

    cast_formed : (to : CType) (bounds : e.Bounds) → Promises (λ (w : WrittenBounds). IsFormedIf s.structs s.locals to (bounds_in w)) (cast_bounds s to bounds)
    cast_formed to bounds =
        passing_promises (IsFormedIf s.structs s.locals to) (λ (w : WrittenBounds). IsFormedIf s.structs s.locals to (bounds_in w)) (declared_bounds s to (length s.locals) (Some bounds)) _ (declared_formed s to (length s.locals) (Some bounds)) (λ b h. h)

    -- ---- the walk

    noted_fits : (site : Site) (t : Typed) → FitsNoted g types s t → IsKnownTyped s.structs t → Fits g types s (with_bounds s.structs site t)
    noted_fits site (Value type zero value place) h known =
        subst (λ b. Fits g types s (Value type zero (noted_if b value) place)) (sym (bounds_kept s.structs g.structs type site knows.file.structs known)) (h site)
    noted_fits site (AStruct number place) h known = h site

    -- the same where it stands in a cell
    cell_fits : (site : Site) (t : Typed) → FitsCell g types s t → IsKnownTyped s.structs t → Fits g types s (with_cell_bounds s.structs site t)
    cell_fits site (Value type zero value place) h known =
        subst (λ b. Fits g types s (Value type zero (noted_if b value) place)) (sym (cell_kept s.structs g.structs type site knows.file.structs known)) (h site known)
    cell_fits site (AStruct number place) h known = h site known

    in_cell_promises : (site : Site) (v : Verdict Typed) → Promises (IsKnownTyped s.structs) (in_cell s site v) → Promises (FitsCell g types s) v → Promises (Fits g types s) (in_cell s site v)
    in_cell_promises site (Passes (Value type zero value place)) known h = cell_fits site (Value type zero value place) h known
    in_cell_promises site (Passes (AStruct number place)) known h = h site known
    in_cell_promises site (Stops stop) known h = tt

    -- with the bounds at its node
    bounded_promises : (site : Site) (v : Verdict Typed) → Promises (IsKnownTyped s.structs) (bounded s site v) → Promises (FitsNoted g types s) v → Promises (Fits g types s) (bounded s site v)
    bounded_promises site (Passes (Value type zero value place)) known h = noted_fits site (Value type zero value place) h known
    bounded_promises site (Passes (AStruct number place)) known h = h site
    bounded_promises site (Stops stop) known h = tt

    constant_promises : (value : ℕ) (zero : Bool) (span : Span) → Promises (Fits g types s) (constant_typed value zero span)
    constant_promises value zero span =
        needs_promises (Fits g types s) (nat_lt value (2 ^ 31)) E04 span (Passes (Value Int zero (core.Number (pos value)) ForNothing)) (λ low. record { has_type = rules.word low; is_number = λ x. refl; stands = tt; scalar = refl; node = tt })

-- ---- the scope of the right operand

left_is_told : (types : List CType) (f : Knowledge) → length types ≤ f.vars → IsFlow f → (operator : BinaryOperator) (v : core.Expression) → IsTold f (left_told operator types v f)
left_is_told types f few flow binary.Or v = told_is types f few v false f (told_here f flow)
left_is_told types f few flow binary.And v = told_is types f few v true f (told_here f flow)
left_is_told types f few flow operator v = told_here f flow

-- behind the left operand the bounds in force are still those of such pointers
further_pointing : (types : List CType) (k : ℕ) → StaysSo (IsPointing types k)
further_pointing types k b d is h = by (is_within term_limit (b.hi.plus +ℤ pos 1)) refl is
  where
    by : (test : Bool) → is_within term_limit (b.hi.plus +ℤ pos 1) ≡ test → up_to b (cond test (Some (record { var = b.hi.var; plus = b.hi.plus +ℤ pos 1 })) None) ≡ Some d → IsPointing types k d
    by true e q =
        let same : record b { hi = record { var = b.hi.var; plus = b.hi.plus +ℤ pos 1 } } ≡ d = cc in
        subst (IsPointing types k) same (record { mode = h.mode; kind = h.kind; counts = h.counts; element = h.element; own = h.own; limited = record { low = h.limited.low; high = e }; named = record { ints = record { lo = h.named.ints.lo; hi = h.named.ints.hi }; base = h.named.base } })
    by false e q = absurd (cc)

left_pointing : (s : Scope) → AreSo (IsPointing s.locals) s.flow → (operator : BinaryOperator) (v : core.Expression) → AreSo (IsPointing s.locals) (left_told operator s.locals v s.flow)
left_pointing s so binary.Or v = bounds_told (IsPointing s.locals) (further_pointing s.locals) s.locals v false s.flow so
left_pointing s so binary.And v = bounds_told (IsPointing s.locals) (further_pointing s.locals) s.locals v true s.flow so
left_pointing s so operator v = so

module _ (g : Frame) (types : List CType) where
  -- what is known with another flow
  knows_told : (s : Scope) (h : Knowledge) → Knows g types s → AreSo (IsPointing s.locals) h → IsTold s.flow h → Knows g types (knowing h s)
  knows_told s h knows so told =
      let file = knows.file in
      record {
        file = record { structs = file.structs; closed = file.closed; few_members = file.few_members; scalar_members = file.scalar_members; variables = file.variables; texts = file.texts; trusted = file.trusted; tainted = file.tainted };
        flow = told.flow;
        pointers = so;
        few = subst (λ n. length s.locals ≤ n) (sym told.tested.vars) knows.few;
        result = knows.result;
        locals = knows.locals;
        scalar = knows.scalar;
      }

  knows_beside : (s : Scope) (operator : BinaryOperator) (a : Typed) → Knows g types s → Knows g types (beside operator a s)
  knows_beside s operator (Value t z v p) knows = knows_told s (left_told operator s.locals v s.flow) knows (left_pointing s knows.pointers operator v) (left_is_told s.locals s.flow knows.few knows.flow operator v)
  knows_beside s operator (AStruct n p) knows = knows

  fits_right : (s : Scope) (operator : BinaryOperator) (a b : Typed) → Fits g types (beside operator a s) b → FitsRight g types s operator a b
  fits_right s binary.Or (Value t z v p) (Value u y w q) h = h.has_type
  fits_right s binary.Or (Value t z v p) (AStruct n q) h = tt
  fits_right s binary.Or (AStruct n p) b h = tt
  fits_right s binary.And (Value t z v p) (Value u y w q) h = h.has_type
  fits_right s binary.And (Value t z v p) (AStruct n q) h = tt
  fits_right s binary.And (AStruct n p) b h = tt
  fits_right s operator (Value t z v p) b h = h
  fits_right s operator (AStruct n p) b h = h

  -- what an expression is fits, and its type is one of the source
  abbrev FitsAs : Scope → Typed → Type 0
  FitsAs s t = Fits g types s t × IsKnownTyped s.structs t

  mutual
    pub typed_promises : (s : Scope) (knows : Knows g types s) (at : Places) (x : Expression) → Promises (Fits g types s) (typed at s x)
    typed_promises s knows at (e.Number value span) = constant_promises g types s knows value (value == 0) span
    typed_promises s knows at (e.Character value span) = constant_promises g types s knows value false span
    typed_promises s knows at (e.Text bytes span) = text_promises (Fits g types s) s.structs (text_at s.strings span.from) (site_at at span) span (λ t found few. text_fits g types s knows span.from t (site_at at span) found few)
    typed_promises s knows at (e.Name name) =
        bounded_promises g types s knows (site_at at name.span) (passing (named s name.number) (λ n. Passes (name_typed s n (site_at at name.span)))) (typed_known s knows.file.closed at (e.Name name))
        (passing_promises (StandsFor g s.structs s.locals) (FitsNoted g types s) (named s name.number) _ (name_stands g types s knows name.number) (name_fits g types s knows (site_at at name.span)))
    typed_promises s knows at (e.Call callee arguments span) =
        passing_promises (AllFit g types s) (Fits g types s) (all_typed at s arguments) _ (all_promise s knows at arguments)
        (λ ts all. passing_promises (FitsCall g types s) (Fits g types s) (called s (function_named s.functions callee.number) callee.number ts (site_at at span) span) _ (called_promises g types s knows (function_named s.functions callee.number) callee.number ts (site_at at span) span refl all)
        (λ c h. with_result_promises g types s c span h))
    typed_promises s knows at (e.SizeOf type span) =
        passing_promises (λ (t : CType). Unit {0}) (Fits g types s) (type_named s type) _ (anything_promised (type_named s type)) (λ t _. number_fits g types s (core.Number (pos (size_of s.structs t))) (rules.word (size_fits s.structs t knows.file.few_members)))
    typed_promises s knows at (e.Cast word type operand span) =
        passing_promises (IsKnown s.structs) (Fits g types s) (type_named s type) _ (type_known s knows.file.closed.tagged type)
        (λ t known. passing_promises (Fits g types s) (Fits g types s) (typed at s operand) _ (typed_promises s knows at operand) (λ a h. cast_promises g types s knows word t a None (site_at at span) span known tt h))
    typed_promises s knows at (e.BoundedCast word type operand bounds span) =
        passing_promises (IsKnown s.structs) (Fits g types s) (type_named s type) _ (type_known s knows.file.closed.tagged type)
        (λ t known. passing_promises (Fits g types s) (Fits g types s) (typed at s operand) _ (typed_promises s knows at operand)
        (λ a h. passing_promises (λ (w : WrittenBounds). IsFormedIf s.structs s.locals t (bounds_in w)) (Fits g types s) (cast_bounds s t bounds) _ (cast_formed g types s knows t bounds)
        (λ written formed. cast_promises g types s knows word t a written (site_at at span) span known formed h)))
    typed_promises s knows at (e.Malloc word type size span) =
        passing_promises (λ (t : CType). Unit {0}) (Fits g types s) (type_named s type) _ (anything_promised (type_named s type))
        (λ t _. passing_promises (Fits g types s) (Fits g types s) (typed at s size) _ (typed_promises s knows at size) (λ a h. malloc_promises g types s knows word t size a (site_at at span) span h))
    typed_promises s knows at (e.Calloc word type count size span) =
        passing_promises (λ (t : CType). Unit {0}) (Fits g types s) (type_named s type) _ (anything_promised (type_named s type))
        (λ t _. passing_promises (Fits g types s) (Fits g types s) (typed at s count) _ (typed_promises s knows at count)
        (λ a h. passing_promises (λ (b : Typed). Unit {0}) (Fits g types s) (typed at s size) _ (anything_promised (typed at s size)) (λ b _. calloc_promises g types s knows word t a size (site_at at span) span h)))
    typed_promises s knows at (e.Index base index span) =
        in_cell_promises g types s knows (site_at at span) (passing (typed at s base) (λ a. passing (typed at s index) (λ b. indexed a b (site_at at span) span))) (typed_known s knows.file.closed at (e.Index base index span))
        (passing_promises (FitsAs s) (FitsCell g types s) (typed at s base) _ (both_promised (Fits g types s) (IsKnownTyped s.structs) (typed at s base) (typed_promises s knows at base) (typed_known s knows.file.closed at base))
        (λ a ha. passing_promises (Fits g types s) (FitsCell g types s) (typed at s index) _ (typed_promises s knows at index) (λ b hb. indexed_promises g types s a b (site_at at span) span ha.1 ha.0 hb)))
    typed_promises s knows at (e.Dot base member span) =
        in_cell_promises g types s knows (site_at at span) (passing (typed at s base) (λ a. dotted s a member.number (site_at at span) span)) (typed_known s knows.file.closed at (e.Dot base member span))
        (passing_promises (Fits g types s) (FitsCell g types s) (typed at s base) _ (typed_promises s knows at base) (λ a h. dotted_promises g types s knows a member.number (site_at at span) span h))
    typed_promises s knows at (e.Arrow base member span) =
        in_cell_promises g types s knows (site_at at span) (passing (typed at s base) (λ a. arrowed s a member.number (site_at at span) span)) (typed_known s knows.file.closed at (e.Arrow base member span))
        (passing_promises (Fits g types s) (FitsCell g types s) (typed at s base) _ (typed_promises s knows at base) (λ a h. arrowed_promises g types s knows a member.number (site_at at span) span h))
    typed_promises s knows at (e.Unary operator operand span) =
        in_cell_promises g types s knows (site_at at span) (passing (typed at s operand) (λ a. unary_typed operator a (site_at at span) span)) (typed_known s knows.file.closed at (e.Unary operator operand span))
        (passing_promises (FitsAs s) (FitsCell g types s) (typed at s operand) _ (both_promised (Fits g types s) (IsKnownTyped s.structs) (typed at s operand) (typed_promises s knows at operand) (typed_known s knows.file.closed at operand))
        (λ a h. unary_promises g types s operator a (site_at at span) span h.1 h.0))
    typed_promises s knows at (e.Binary operator left right span) =
        passing_promises (Fits g types s) (Fits g types s) (typed at s left) _ (typed_promises s knows at left) (λ a ha. passing_promises (Fits g types (beside operator a s)) (Fits g types s) (typed at (beside operator a s) right) _ (typed_promises (beside operator a s) (knows_beside s operator a knows) at right)
        (λ b hb. binary_promises g types s operator a b (site_at at span) span ha (fits_right s operator a b hb)))

    pub all_promise : (s : Scope) (knows : Knows g types s) (at : Places) (xs : Expressions) → Promises (AllFit g types s) (all_typed at s xs)
    all_promise s knows at e.NoMore = tt
    all_promise s knows at (e.Then first others) =
        passing_promises (Fits g types s) (AllFit g types s) (typed at s first) _ (typed_promises s knows at first) (λ t h. passing_promises (AllFit g types s) (AllFit g types s) (all_typed at s others) _ (all_promise s knows at others) (λ ts hs. (h, hs)))

  pub call_promises : (s : Scope) (knows : Knows g types s) (at : Places) (x : Expression) → Promises (FitsCall g types s) (call_typed at s x)
  call_promises s knows at (e.Call callee arguments span) =
      passing_promises (AllFit g types s) (FitsCall g types s) (all_typed at s arguments) _ (all_promise s knows at arguments)
      (λ ts all. called_promises g types s knows (function_named s.functions callee.number) callee.number ts (site_at at span) span refl all)
  call_promises s knows at (e.Number value span) = tt
  call_promises s knows at (e.Character value span) = tt
  call_promises s knows at (e.Text bytes span) = tt
  call_promises s knows at (e.Name name) = tt
  call_promises s knows at (e.SizeOf type span) = tt
  call_promises s knows at (e.Cast word type operand span) = tt
  call_promises s knows at (e.BoundedCast word type operand bounds span) = tt
  call_promises s knows at (e.Malloc word type size span) = tt
  call_promises s knows at (e.Calloc word type count size span) = tt
  call_promises s knows at (e.Index base index span) = tt
  call_promises s knows at (e.Dot base member span) = tt
  call_promises s knows at (e.Arrow base member span) = tt
  call_promises s knows at (e.Unary operator operand span) = tt
  call_promises s knows at (e.Binary operator left right span) = tt
