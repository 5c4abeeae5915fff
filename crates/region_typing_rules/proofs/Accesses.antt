-- What has types is never stuck and never unsound: values, places, elements, and new memory.
use Rattle.std.proofs.Common.{◌≡◌, neg_ℤ, ◌+ℤ◌, ◌*ℤ◌, ℕ, zero, suc, ◌+◌, ◌*◌, ◌%◌, ◌<◌, ◌≤◌, ◌^◌, Bool, true, false, ℤ, List, [], ◌∷◌, map, replicate, length, Option, Some, None, refl, sym, ap, ◌∙◌, subst, arith, inl, inr}
use Rattle.std.specs.Prelude.{◌==◌, ◌&&◌, ◌++◌, nat_lt, negsuc, slice_get, option_map, pos, sum}
use Rattle.std.specs.Int.{w32}
use Rattle.std.proofs.lemmas.Int.{to_z_pos}
use Rattle.std.proofs.lemmas.Bool.Decides.{nat_tests}
use Rattle.std.proofs.lemmas.Option.{slice_get_within}
use Rattle.std.proofs.lemmas.Bool.{ltb-true}
use Rattle.std.proofs.lemmas.List.{length-replicate, map-append}
use Rattle.ckc_core.specs.Outcome.{Gives, Ends, Stuck, Unsound, Short, and_then}
use Rattle.act_words.specs.Checks.{Checked, Holds, Fails, is_word_number}
use Rattle.act_words.specs.Numbers.{word}
use Rattle.act_words.specs.Arithmetic as arithmetic
use Rattle.act_words.specs.Operators.{holds}
use Rattle.ckc_text.specs.declared.code.Code.TheVariants.{C2}
use Rattle.pointer_modes.specs.Layout.{size_of}
use Rattle.act_words.specs.Touches.{spend_tick}
use Rattle.ckc_core.specs.declared.program.Site.{Site}
use Rattle.act_words.specs.declared.operator.Operator.{Operator}
use Rattle.act_words.specs.declared.operator.Comparison.{Comparison}
use Rattle.pointer_modes.specs.declared.ctype.Mode.{Mode}
use Rattle.pointer_modes.specs.declared.ctype.Mode.TheVariants as modes
use Rattle.pointer_modes.specs.declared.ctype.Kind.{Kind}
use Rattle.pointer_modes.specs.declared.ctype.Kind.TheVariants as kinds
use Rattle.pointer_modes.specs.Types.{CType, Int, Char, Struct, Pointer}
use Rattle.ckc_core.specs.States.{Value, Number, Null, At, Cell, cell_at, Shape, Grows, State, shape, shapes, same_type, has_type, object_block, Block}
use Rattle.ckc_core.specs.declared.program.PointerBounds.{PointerBounds}
use Rattle.ckc_core.specs.declared.program.Terminator.{Terminator}
use Rattle.ckc_core.specs.declared.program.Terminator.TheVariants as terminators
use Rattle.ckc_core.specs.Programs.{Initial, Variable}
use Rattle.ckc_core.specs.declared.program.Direction.{Direction}
use Rattle.ckc_core.specs.declared.program.Direction.TheVariants as directions
use Rattle.bounds_exprs.specs.declared.term.Bounds.{Bounds}
use Rattle.ckc_core.specs.Bounds.{Ends as EndsOf, Pointed, ends_at, with_ends}
use Rattle.flat_bytes.specs.Blocks.{first_offset, is_refused}
use Rattle.ckc_core.specs.Pointers.{allocated, before_zero, elements_made, is_terminated, new_block, counter_behind, element_size, made_if, checked_if, distance, lies_below, lies_up_to, cell_behind, pointer_at, pointer_if, byte_read, counted as bytes_counted, counted_from, counted_if, read_as, bytes_of_block, made_elements}
use Rattle.ckc_core.specs.Steps.{Result, given, checked, value_if, value_in, place_if, place_at, variable_if, load_at, number_of_test, same_place, test_given, result_of, arithmetic_of, compared, negated, complemented, low_byte_of, words_of, reply_as, result_given, no_result, is_zero}
use Rattle.ckc_core.specs.Meaning.{audit, element, element_within, summed, place, sound_if, length_of}
use Rattle.region_typing_rules.specs.Types.{is_number, Counts}
use Rattle.bounds_flow_meaning.specs.Holding.{is_ended}
use Rattle.region_typing_rules.specs.Readings.{toward}
use Rattle.region_typing_rules.specs.KnownIsSo.{WhereGiven}
use Rattle.bounds_exprs.specs.declared.term.Term.{Term}
use Rattle.bounds_flow_meaning.specs.Holding.{IsValid}
use Rattle.bounds_flow_meaning.specs.Rows.{HasRow, IsPlace, slots, IsEndedPlace}
use Rattle.bounds_flow_meaning.specs.Sums.{counted, IsBeforeZero}
use Rattle.bounds_flow_meaning.proofs.Sums.{new_blocks_count}
use Rattle.bounds_flow_meaning.proofs.Rows.{place_grown, still_there}
use Rattle.bounds_flow_meaning.proofs.Validity.{grown_valid}
use Rattle.region_typing_rules.specs.Typed.{IsBoundedObject, Frame, HasBounds, HasValue, IsNumberResult, AreRows, IsScalar, IsNodeOf, IsEndedRow}
use Rattle.ckc_core.proofs.Numbers.{IsNumber, IfHolds, result_fits, overflow_fits, signed_fits, complement_fits, low_byte_small}
use Rattle.region_typing_rules.proofs.Worlds.{Anything, IsWord, tick_answers}
use Rattle.region_typing_rules.proofs.BoundedObjects.{bounded_cell, held_made}
use Rattle.region_typing_rules.proofs.Values.{HasCell, same_refl, mapped_there, grows_on, at_cell, member_place, scalar_cell, some_cell, value_grown, value_widened, HaveValues, local_there, cell_typed, locals_grown, mapped_from}
use Rattle.region_typing_rules.proofs.Validity.{sound}
use Rattle.region_typing_rules.proofs.Sure.{sure_further, sure_both}
use Rattle.region_typing_rules.proofs.Keeping.{IsAfter, after_here}
use Rattle.region_typing_rules.proofs.Allocations.{elements_held, grows_by, held_behind}
use Rattle.region_typing_rules.proofs.Elements.{AreOf, pointing, passes_at, ends_there, size_there, up_to, as_many, IsSum, number_there, leads_there, below_up_to}
use Rattle.region_typing_rules.proofs.EndedRows.{counts_on, finds_below, ended_cell, row_start}
use Rattle.region_typing_rules.proofs.LastZeros.{zeros_made, AreShort, short_made, IsNewRow}
use Rattle.bounds_flow_meaning.proofs.Widening.{not_last, row_size}
use Rattle.region_typing_rules.proofs.Goes.{Goes, HasResult, IsAccessed, IsAnswer, IsBounded, IsKept, IsNext, IsPlaced, OfType, asked_goes, goes_further, goes_on, lowered, shaped}

-- no more stand before the zero than are counted
before_most : (terminator : Terminator) (n : ℕ) → before_zero terminator n ≤ n
before_most terminators.Absent n = omega arith
before_most terminators.Last n = omega arith
before_most terminators.Behind n = omega arith

module _ (g : Frame) (budget ticks : ℕ) where
  -- ---- values

  module _ (low : ℕ) (types : List CType) where
    pub given_goes : (s : State) (k : ℕ) (t : CType) → IsKept g budget ticks low types s → slice_get types k ≡ Some t → Goes g budget ticks low types s (OfType g t) (given (slice_get s.locals k) s)
    given_goes s k t kept e =
        let l = local_there g.structs (shaped s) types s.locals k t kept.locals e in
        subst (λ o. Goes g budget ticks low types s (OfType g t) (given o s)) (sym l.1) (l.3, after_here s, kept)

    pub number_goes : (s : State) (z : ℤ) (fits : Bool) → is_word_number z ≡ fits → fits ≡ true → IsKept g budget ticks low types s → Goes g budget ticks low types s (OfType g Int) (value_if fits None (Number z) s)
    number_goes s z true e h kept = (e, after_here s, kept)
    number_goes s z false e h kept = absurd (cc)

    pub byte_number_goes : (s : State) (z : ℤ) (fits : Bool) → fits ≡ true → has_type Char (Number z) ≡ true → IsKept g budget ticks low types s → Goes g budget ticks low types s (OfType g Char) (value_if fits None (Number z) s)
    byte_number_goes s z true e h kept = (h, after_here s, kept)
    byte_number_goes s z false e h kept = absurd (cc)

    checked_goes : (s : State) (o : Checked ℤ) → IfHolds IsNumber o → IsKept g budget ticks low types s → Goes g budget ticks low types s (OfType g Int) (checked o s)
    checked_goes s (Holds z) h kept = (h, after_here s, kept)
    checked_goes s (Fails ending) h kept = tt

    pub widened_goes : (r : State) (o : Result Value) → Goes g budget ticks low types r (OfType g Char) o → Goes g budget ticks low types r (OfType g Int) o
    widened_goes r o h = goes_further g budget ticks low types r (OfType g Char) (OfType g Int) o h (λ v s typed. value_widened g.structs (shaped s) v typed)

    pub test_goes : (s : State) (test : Bool) → IsKept g budget ticks low types s → Goes g budget ticks low types s (OfType g Int) (Gives (number_of_test test) s)
    test_goes s true kept = (refl, after_here s, kept)
    test_goes s false kept = (refl, after_here s, kept)

    pub arithmetic_goes : (s : State) (operator : Operator) (site : Site) (v w : Value) → OfType g Int v s → OfType g Int w s → IsKept g budget ticks low types s → Goes g budget ticks low types s (OfType g Int) (arithmetic_of operator site v w s)
    arithmetic_goes s operator site (Number a) (Number b) hv hw kept = checked_goes s (result_of operator site a b) (result_fits operator site a b hv hw) kept
    arithmetic_goes s operator site (Number a) Null hv hw kept = absurd hw
    arithmetic_goes s operator site (Number a) (At block byte) hv hw kept = absurd hw
    arithmetic_goes s operator site Null w hv hw kept = absurd hv
    arithmetic_goes s operator site (At block byte) w hv hw kept = absurd hv

    pub compared_goes : (s : State) (comparison : Comparison) (v w : Value) → OfType g Int v s → OfType g Int w s → IsKept g budget ticks low types s → Goes g budget ticks low types s (OfType g Int) (compared comparison v w s)
    compared_goes s comparison (Number a) (Number b) hv hw kept = test_goes s (holds comparison a b) kept
    compared_goes s comparison (Number a) Null hv hw kept = absurd hw
    compared_goes s comparison (Number a) (At block byte) hv hw kept = absurd hw
    compared_goes s comparison Null w hv hw kept = absurd hv
    compared_goes s comparison (At block byte) w hv hw kept = absurd hv

    pub negated_goes : (s : State) (site : Site) (v : Value) → OfType g Int v s → IsKept g budget ticks low types s → Goes g budget ticks low types s (OfType g Int) (negated site v s)
    negated_goes s site (Number a) h kept = checked_goes s (arithmetic.negation site.place a) (overflow_fits site.place (neg_ℤ a)) kept
    negated_goes s site Null h kept = absurd h
    negated_goes s site (At block byte) h kept = absurd h

    pub complemented_goes : (s : State) (v : Value) → OfType g Int v s → IsKept g budget ticks low types s → Goes g budget ticks low types s (OfType g Int) (complemented v s)
    complemented_goes s (Number a) h kept = (signed_fits (arithmetic.complement (word a)) (complement_fits (word a)), after_here s, kept)
    complemented_goes s Null h kept = absurd h
    complemented_goes s (At block byte) h kept = absurd h

    pub byte_goes : (s : State) (v : Value) → OfType g Int v s → IsKept g budget ticks low types s → Goes g budget ticks low types s (OfType g Char) (low_byte_of v s)
    byte_goes s (Number a) h kept = let small = low_byte_small a in let test : nat_lt (word a % 256) 256 ≡ true = grind (arith, nat_tests) in (test, after_here s, kept)
    byte_goes s Null h kept = absurd h
    byte_goes s (At block byte) h kept = absurd h

    pub same_goes : (s : State) (m m' : Mode) (k k' : Kind) (t t' : CType) (v w : Value) → OfType g (Pointer m k t) v s → OfType g (Pointer m' k' t') w s → IsKept g budget ticks low types s → Goes g budget ticks low types s (OfType g Int) (test_given (same_place v w) s)
    same_goes s m m' k k' t t' (Number a) w hv hw kept = absurd hv
    same_goes s m m' k k' t t' Null (Number b) hv hw kept = absurd hw
    same_goes s m m' k k' t t' Null Null hv hw kept = (refl, after_here s, kept)
    same_goes s m m' k k' t t' Null (At block byte) hv hw kept = (refl, after_here s, kept)
    same_goes s m m' k k' t t' (At block byte) (Number b) hv hw kept = absurd hw
    same_goes s m m' k k' t t' (At block byte) Null hv hw kept = (refl, after_here s, kept)
    same_goes s m m' k k' t t' (At block byte) (At block' byte') hv hw kept = test_goes s (block == block' && byte == byte') kept

    -- ---- places

    -- at a place a cell begins
    placed_goes : (s : State) (site : Option Site) (t : CType) (block byte : ℕ) → IsPlace g.structs (shaped s) t block byte → IsKept g budget ticks low types s → Goes g budget ticks low types s (IsPlaced g t) (place_at site block byte s)
    placed_goes s site t block byte place kept =
        let c = some_cell g.structs s.blocks t block byte place in
        subst (λ o. Goes g budget ticks low types s (IsPlaced g t) (place_if o site block byte s)) (sym c.1) (place, after_here s, kept)

    pub direct_goes : (s : State) (t : CType) (object offset : ℕ) (variable : Variable) → slice_get g.program.objects object ≡ Some variable → HasRow g.structs (shape (object_block variable)) offset t → IsKept g budget ticks low types s
        → Goes g budget ticks low types s (IsPlaced g t) (place_at None object offset s)
    direct_goes s t object offset variable found row kept =
        let blocks = map object_block g.program.objects in
        let start : IsPlace g.structs (shapes blocks) t object offset = record {
          shape = shape (object_block variable);
          found = mapped_there shape blocks object (object_block variable) (mapped_there object_block g.program.objects object variable found);
          row = row;
        } in
        placed_goes s None t object offset (place_grown g.structs (shapes blocks) (shaped s) kept.grown t object offset start) kept

    variable_goes_if : (test : Bool) → test ≡ true → (s : State) (t : CType) (object offset : ℕ) → Goes g budget ticks low types s (IsPlaced g t) (place_at None object offset s) → Goes g budget ticks low types s (IsPlaced g t) (variable_if test object offset s)
    variable_goes_if true e s t object offset h = h
    variable_goes_if false e s t object offset h = absurd (cc)

    -- a place in a variable of the program
    pub variable_goes : (s : State) (t : CType) (object offset : ℕ) (variable : Variable) → slice_get g.program.objects object ≡ Some variable → HasRow g.structs (shape (object_block variable)) offset t → IsKept g budget ticks low types s
        → Goes g budget ticks low types s (IsPlaced g t) (variable_if (nat_lt object (length g.program.objects)) object offset s)
    variable_goes s t object offset variable found row kept =
        let within = slice_get_within g.program.objects object variable found in
        let test : nat_lt object (length g.program.objects) ≡ true = grind (arith, nat_tests) in
        variable_goes_if (nat_lt object (length g.program.objects)) test s t object offset (direct_goes s t object offset variable found row kept)

    -- and it is that place
    variable_same : (test : Bool) (object offset : ℕ) (s : State) → WhereGiven (λ (at : ℕ × ℕ) (u : State). at ≡ (object, offset)) (variable_if test object offset s)
    variable_same false object offset s = tt
    variable_same true object offset s = by (cell_at s.blocks object offset)
      where
        by : (o : Option Cell) → WhereGiven (λ (at : ℕ × ℕ) (u : State). at ≡ (object, offset)) (place_if o None object offset s)
        by None = tt
        by (Some c) = refl

    -- the first element of an array
    pub first_goes : (s : State) (t : CType) (object n : ℕ) (variable : Variable) → slice_get g.program.objects object ≡ Some variable → 0 < n → AreRows g.structs (shape (object_block variable)) t n → IsKept g budget ticks low types s
        → Goes g budget ticks low types s (λ (at : ℕ × ℕ) (u : State). at ≡ (object, 0)) (variable_if (nat_lt object (length g.program.objects)) object 0 s)
    first_goes s t object n variable found some rows kept =
        let at_start : 0 * size_of g.structs t ≡ 0 = omega arith in
        let row = subst (λ byte. HasRow g.structs (shape (object_block variable)) byte t) at_start (rows 0 some) in
        let o = variable_if (nat_lt object (length g.program.objects)) object 0 s in
        sure_further (λ at u. (IsPlaced g t at u × IsAfter s u × IsKept g budget ticks low types u) × (at ≡ (object, 0))) (λ (at : ℕ × ℕ) (u : State). (at ≡ (object, 0)) × IsAfter s u × IsKept g budget ticks low types u) o
        (sure_both (λ at u. IsPlaced g t at u × IsAfter s u × IsKept g budget ticks low types u) (λ (at : ℕ × ℕ) (u : State). at ≡ (object, 0)) o (variable_goes s t object 0 variable found row kept) (variable_same (nat_lt object (length g.program.objects)) object 0 s))
        (λ at u x. (x.1, x.0.1, x.0.2))

    -- the block of a variable
    pub object_there : (s : State) (object : ℕ) (variable : Variable) → slice_get g.program.objects object ≡ Some variable → IsKept g budget ticks low types s → slice_get (shaped s) object ≡ Some (shape (object_block variable))
    object_there s object variable found kept =
        let blocks = map object_block g.program.objects in
        ap (λ x. slice_get x object) kept.grown.1 ∙ still_there (shapes blocks) kept.grown.0 object (shape (object_block variable)) (mapped_there shape blocks object (object_block variable) (mapped_there object_block g.program.objects object variable found))

    -- the first cell of a row that a zero ends
    pub start_goes : (s : State) (t : CType) (object n : ℕ) (variable : Variable) → slice_get g.program.objects object ≡ Some variable → IsEndedRow g.structs (shape (object_block variable)) t n → IsKept g budget ticks low types s
        → Goes g budget ticks low types s (λ (at : ℕ × ℕ) (u : State). at ≡ (object, 0)) (variable_if (nat_lt object (length g.program.objects)) object 0 s)
    start_goes s t object n variable found row kept =
        let test : nat_lt object (length g.program.objects) ≡ true = le-leb-within object (length g.program.objects) (slice_get_within g.program.objects object variable found) in
        let there = object_there s object variable found kept in
        let c = ended_cell g.structs s.blocks t object 0 false (row_start g.structs modes.Checked t n object (shape (object_block variable)) s there row false (λ inner. absurd (cc))) in
        subst (λ yes. Goes g budget ticks low types s (λ (at : ℕ × ℕ) (u : State). at ≡ (object, 0)) (variable_if yes object 0 s)) (sym test)
        (subst (λ o. Goes g budget ticks low types s (λ (at : ℕ × ℕ) (u : State). at ≡ (object, 0)) (place_if o None object 0 s)) (sym (at_cell s.blocks object 0 t c)) (refl, after_here s, kept))
      where
        le-leb-within : (a b : ℕ) → a < b → nat_lt a b ≡ true
        le-leb-within a b h = grind (arith, nat_tests)

    pub pointed_goes : (s : State) (m : Mode) (t : CType) (site : Site) (v : Value) → OfType g (Pointer m kinds.One t) v s → IsKept g budget ticks low types s → Goes g budget ticks low types s (IsPlaced g t) (element 0 site v s)
    pointed_goes s m t site (Number z) h kept = absurd h
    pointed_goes s m t site Null h kept = tt
    pointed_goes s m t site (At block byte) h kept =
        let same : byte ≡ byte + 0 = omega arith in
        placed_goes s (Some site) t block (byte + 0) (subst (λ x. IsPlace g.structs (shaped s) t block x) same h) kept

    pub member_goes : (s : State) (m : Mode) (number slot offset : ℕ) (t : CType) (site : Site) (v : Value) → slice_get (slots g.structs (Struct number)) slot ≡ Some (record { type = t; offset = offset }) → IsScalar t → OfType g (Pointer m kinds.One (Struct number)) v s → IsKept g budget ticks low types s
        → Goes g budget ticks low types s (IsPlaced g t) (element offset site v s)
    member_goes s m number slot offset t site (Number z) found scalar h kept = absurd h
    member_goes s m number slot offset t site Null found scalar h kept = tt
    member_goes s m number slot offset t site (At block byte) found scalar h kept =
        placed_goes s (Some site) t block (byte + offset) (member_place g.structs (shaped s) number block byte slot offset t scalar h found) kept

    -- a value of a type passes the audit by the bounds of its type
    -- a file-level pointer, and what it holds
    pub bounded_place : (s : State) (object : ℕ) (m : Mode) (kind : Kind) (t : CType) (b : Bounds) → IsBoundedObject g object m kind t b → IsKept g budget ticks low types s → variable_if (nat_lt object (length g.program.objects)) object 0 s ≡ Gives (object, 0) s
    bounded_place s object m kind t b is kept =
        let within = slice_get_within g.program.objects object is.variable is.found in
        let test : nat_lt object (length g.program.objects) ≡ true = grind (arith, nat_tests) in
        ap (λ yes. variable_if yes object 0 s) test ∙ ap (λ o. place_if o None object 0 s) (at_cell s.blocks object 0 (Pointer m kind t) (bounded_cell g object m kind t b is s kept.grown))

    pub bounded_load : (s : State) (object : ℕ) (m : Mode) (kind : Kind) (t : CType) (b : Bounds) (is : IsBoundedObject g object m kind t b) (kept : IsKept g budget ticks low types s)
        → and_then (variable_if (nat_lt object (length g.program.objects)) object 0 s) (load_at (Pointer m kind t) None) ≡ Gives (bounded_cell g object m kind t b is s kept.grown).cell.value s
    bounded_load s object m kind t b is kept =
        let c = bounded_cell g object m kind t b is s kept.grown in
        let test : same_type (Pointer m kind t) c.cell.type ≡ true = ap (same_type (Pointer m kind t)) c.typed ∙ same_refl (Pointer m kind t) in
        ap (λ o. and_then o (load_at (Pointer m kind t) None)) (bounded_place s object m kind t b is kept)
        ∙ (ap (λ o. value_in (Pointer m kind t) None o s) (at_cell s.blocks object 0 (Pointer m kind t) c) ∙ ap (λ yes. value_if yes None c.cell.value s) test)

    audit_goes : (s : State) (t : CType) (b : Option PointerBounds) (v : Value) → HasBounds g.structs t b → OfType g t v s → IsKept g budget ticks low types s → Goes g budget ticks low types s (OfType g t) (audit true b v s)
    audit_goes s t b v bounds h kept =
        let gives = ap (λ b. audit true b v s) bounds.1 ∙ sound g.structs bounds.0 s t v h in
        subst (λ o. Goes g budget ticks low types s (OfType g t) o) (sym gives) (h, after_here s, kept)

    pub audited_goes : (s : State) (t : CType) (b : Option PointerBounds) (o : Result Value) → HasBounds g.structs t b → Goes g budget ticks low types s (OfType g t) o → Goes g budget ticks low types s (OfType g t) (and_then o (audit true b))
    audited_goes s t b o bounds h = goes_on g budget ticks low types s (OfType g t) (OfType g t) o (audit true b) h (λ v u _ typed kept. audit_goes u t b v bounds typed kept)

    -- where its bounds are elements, it passes by being valid with them
    pub bounded_goes : (s : State) (m : Mode) (kind : Kind) (t : CType) (b : Option PointerBounds) (v : Value) → AreOf g.structs (Pointer m kind t) b → OfType g (Pointer m kind t) v s → IsBounded g (Pointer m kind t) b v s → IsKept g budget ticks low types s
        → Goes g budget ticks low types s (λ w u. OfType g (Pointer m kind t) w u × IsBounded g (Pointer m kind t) b w u) (audit true b v s)
    bounded_goes s m kind t None v size typed valid kept = ((typed, valid), after_here s, kept)
    bounded_goes s m kind t (Some p) v size typed valid kept =
        let gives : audit true (Some p) v s ≡ Gives v s = ap (λ test. sound_if test p.site v s) (passes_at g.structs (Pointer m kind t) p s size v valid) in
        subst (λ o. Goes g budget ticks low types s (λ w u. OfType g (Pointer m kind t) w u × IsBounded g (Pointer m kind t) (Some p) w u) o) (sym gives) ((typed, valid), after_here s, kept)

    -- a cell is read
    cell_goes : (s : State) (t : CType) (site : Option Site) (at : ℕ × ℕ) → HasCell s.blocks at.0 at.1 t → IsKept g budget ticks low types s → Goes g budget ticks low types s (OfType g t) (load_at t site at s)
    cell_goes s t site at c kept =
        let test : same_type t c.cell.type ≡ true = ap (same_type t) c.typed ∙ same_refl t in
        subst (λ o. Goes g budget ticks low types s (OfType g t) (value_in t site o s)) (sym (at_cell s.blocks at.0 at.1 t c))
        (subst (λ yes. Goes g budget ticks low types s (OfType g t) (value_if yes site c.cell.value s)) (sym test) (cell_typed g.structs (shaped s) s.blocks at.0 at.1 t c kept.cells, after_here s, kept))

    pub accessed_goes : (s : State) (t : CType) (site : Option Site) (at : ℕ × ℕ) → IsScalar t → IsAccessed g t at s → IsKept g budget ticks low types s → Goes g budget ticks low types s (OfType g t) (load_at t site at s)
    accessed_goes s t site at scalar (inl placed) kept = cell_goes s t site at (scalar_cell g.structs s.blocks t at.0 at.1 scalar placed) kept
    accessed_goes s t site at scalar (inr ended) kept = cell_goes s t site at (ended_cell g.structs s.blocks t at.0 at.1 ended.0 ended.1) kept

    pub load_goes : (s : State) (t : CType) (site : Option Site) (at : ℕ × ℕ) → IsScalar t → IsPlaced g t at s → IsKept g budget ticks low types s → Goes g budget ticks low types s (OfType g t) (load_at t site at s)
    load_goes s t site at scalar placed kept =
        let c = scalar_cell g.structs s.blocks t at.0 at.1 scalar placed in
        let test : same_type t c.cell.type ≡ true = ap (same_type t) c.typed ∙ same_refl t in
        subst (λ o. Goes g budget ticks low types s (OfType g t) (value_in t site o s)) (sym (at_cell s.blocks at.0 at.1 t c))
        (subst (λ yes. Goes g budget ticks low types s (OfType g t) (value_if yes site c.cell.value s)) (sym test) (cell_typed g.structs (shaped s) s.blocks at.0 at.1 t c kept.cells, after_here s, kept))

  -- ---- elements

  module _ (low : ℕ) (types : List CType) (m : Mode) (d : Kind) (t : CType) (p : PointerBounds) (size : IsNodeOf g.structs (Pointer m d t) p) where
    abbrev row : CType
    row = Pointer m d t

    -- a pointer with its bounds, whose ends are those of this state
    pub record IsAimed (q : Pointed) (s : State) : Type 0 where
      pub typed : OfType g row q.value s
      pub valid : IsBounded g row (Some p) q.value s
      pub ends : q.ends ≡ (with_ends (Some p) q.value s.locals).ends

    pub aimed_here : (v : Value) (s : State) → OfType g row v s → IsBounded g row (Some p) v s → IsAimed (with_ends (Some p) v s.locals) s
    aimed_here (Number z) s typed valid = absurd typed
    aimed_here Null s typed valid = record { typed = typed; valid = valid; ends = refl }
    aimed_here (At block byte) s typed valid = record { typed = typed; valid = valid; ends = refl }

    pub aimed_later : (q : Pointed) (s u : State) → IsAfter s u → IsAimed q s → IsAimed q u
    aimed_later q s u after h = record {
      typed = value_grown g.structs (shaped s) (shaped u) after.0 row q.value h.typed;
      valid = grown_valid g.structs (Some p.bounds) (pointing row q.value) s u after.0 after.1 h.valid;
      ends = h.ends ∙ ap (λ locals. (with_ends (Some p) q.value locals).ends) (sym after.1);
    }

    -- an element of a null-terminated pointer, up to its upper end
    pub record IsUpTo (q : Pointed) (z : ℤ) (at : ℕ × ℕ) (s : State) : Type 0 where
      pub byte : ℕ
      pub ends : EndsOf
      pub pointer : q.value ≡ At at.0 byte
      pub own : q.ends ≡ Some ends
      pub is : pos byte +ℤ distance directions.Forward ends.size z ≡ pos at.1
      pub lies : lies_up_to ends (pos at.1) ≡ true
      pub number : is_number t ≡ true
      pub place : IsEndedPlace g.structs (shaped s) t at.0 at.1 (lies_below ends (pos at.1))

    -- a sum: where its checks hold, it is a pointer in the same block
    up_to_goes : Counts d → (s : State) (direction : Direction) (site : Site) (z : ℤ) (block byte : ℕ) (e : EndsOf) (test : Bool) → lies_up_to e (pos byte +ℤ distance direction e.size z) ≡ test → ends_at p s.locals block byte ≡ Some e
        → OfType g row (At block byte) s → IsValid g.structs (Some p.bounds) (pointing row (At block byte)) s → IsKept g budget ticks low types s
        → Goes g budget ticks low types s (λ w u. IsSum g.structs row direction z (At block byte) w u) (checked_if test C2 site (pointer_at (Some site) block (pos byte +ℤ distance direction e.size z) s) s)
    up_to_goes counts s direction site z block byte e false below are typed valid kept = tt
    up_to_goes counts s direction site z block byte e true below are typed valid kept =
        let w = up_to g.structs row p s size block byte valid e are (pos byte +ℤ distance direction e.size z) below in
        let bytes = size_there g.structs row p s size block byte valid e are in
        let step : pos w.0 ≡ pos byte +ℤ (toward direction z *ℤ pos (size_of g.structs t)) = sym w.1 ∙ ap (λ d. pos byte +ℤ d) (ap (λ n. distance direction n z) bytes ∙ sym (as_many direction z (size_of g.structs t))) in
        let along : pos w.0 ≡ pos byte +ℤ (toward direction z *ℤ pos e.size) = sym w.1 ∙ ap (λ d. pos byte +ℤ d) (sym (as_many direction z e.size)) in
        let there = counts_on g.structs (shaped s) m d t counts block byte e typed (leads_there g.structs row p s size block byte valid e are) (toward direction z) w.0 along (subst (λ x. lies_up_to e x ≡ true) w.1 below) in
        subst (λ x. Goes g budget ticks low types s (λ w u. IsSum g.structs row direction z (At block byte) w u) (pointer_at (Some site) block x s)) (sym w.1)
        (subst (λ yes. Goes g budget ticks low types s (λ w u. IsSum g.structs row direction z (At block byte) w u) (pointer_if yes (Some site) block w.0 s)) (sym w.2)
        (record { block = block; byte = byte; place = w.0; before = refl; behind = refl; step = step; reach = w.2; typed = there }, after_here s, kept))

    pub summed_goes : Counts d → (s : State) (direction : Direction) (site : Site) (z : ℤ) (q : Pointed) → IsAimed q s → IsKept g budget ticks low types s → Goes g budget ticks low types s (λ w u. IsSum g.structs row direction z q.value w u) (summed direction site z q.value q.ends s)
    summed_goes counts s direction site z q aimed kept = by q.value q.ends aimed.typed aimed.valid aimed.ends
      where
        by : (v : Value) (ends : Option EndsOf) → OfType g row v s → IsBounded g row (Some p) v s → ends ≡ (with_ends (Some p) v s.locals).ends → Goes g budget ticks low types s (λ w u. IsSum g.structs row direction z v w u) (summed direction site z v ends s)
        by (Number n) ends typed valid same = absurd typed
        by Null ends typed valid same = tt
        by (At block byte) ends typed valid same =
            let there = ends_there g.structs row p s size block byte valid in
            subst (λ o. Goes g budget ticks low types s (λ w u. IsSum g.structs row direction z (At block byte) w u) (summed direction site z (At block byte) o s)) (sym (same ∙ there.1))
            (up_to_goes counts s direction site z block byte there.0 (lies_up_to there.0 (pos byte +ℤ distance direction there.0.size z)) refl there.1 typed valid kept)

    -- an access to an element: where its checks hold, a value stands there
    below_goes : (s : State) (offset : ℕ) (site : Site) (z : ℤ) (block byte : ℕ) (e : EndsOf) (test : Bool) → lies_below e (pos byte +ℤ distance directions.Forward e.size z) ≡ test → ends_at p s.locals block byte ≡ Some e
        → OfType g row (At block byte) s → IsValid g.structs (Some p.bounds) (pointing row (At block byte)) s → (Q : ℕ × ℕ → State → Type 0)
        → ((block place : ℕ) → IsPlace g.structs (shaped s) t block place → Goes g budget ticks low types s Q (place_at (Some site) block (place + offset) s))
        → Goes g budget ticks low types s Q (checked_if test C2 site (cell_behind (Some site) block (pos byte +ℤ distance directions.Forward e.size z) offset s) s)
    below_goes s offset site z block byte e false below are typed valid Q more = tt
    below_goes s offset site z block byte e true below are typed valid Q more =
        let x = pos byte +ℤ distance directions.Forward e.size z in
        let place = number_there g.structs row p s size block byte valid e are x (below_up_to e x below) in
        let here = finds_below g.structs (shaped s) m d t block byte e typed (leads_there g.structs row p s size block byte valid e are) z place.0 (sym place.1) (subst (λ x. lies_below e x ≡ true) place.1 below) in
        subst (λ x. Goes g budget ticks low types s Q (cell_behind (Some site) block x offset s)) (sym place.1) (more block place.0 here)

    pub within_goes : (s : State) (offset : ℕ) (site : Site) (z : ℤ) (q : Pointed) → IsAimed q s → (Q : ℕ × ℕ → State → Type 0)
        → ((block place : ℕ) → IsPlace g.structs (shaped s) t block place → Goes g budget ticks low types s Q (place_at (Some site) block (place + offset) s)) → Goes g budget ticks low types s Q (element_within false offset site z q.value q.ends s)
    within_goes s offset site z q aimed Q more = by q.value q.ends aimed.typed aimed.valid aimed.ends
      where
        by : (v : Value) (ends : Option EndsOf) → OfType g row v s → IsBounded g row (Some p) v s → ends ≡ (with_ends (Some p) v s.locals).ends → Goes g budget ticks low types s Q (element_within false offset site z v ends s)
        by (Number n) ends typed valid same = absurd typed
        by Null ends typed valid same = tt
        by (At block byte) ends typed valid same =
            let there = ends_there g.structs row p s size block byte valid in
            subst (λ o. Goes g budget ticks low types s Q (element_within false offset site z (At block byte) o s)) (sym (same ∙ there.1))
            (below_goes s offset site z block byte there.0 (lies_below there.0 (pos byte +ℤ distance directions.Forward there.0.size z)) refl there.1 typed valid Q more)

    pub element_goes : (s : State) (site : Site) (z : ℤ) (q : Pointed) → IsAimed q s → IsKept g budget ticks low types s → Goes g budget ticks low types s (IsPlaced g t) (element_within false 0 site z q.value q.ends s)
    element_goes s site z q aimed kept =
        within_goes s 0 site z q aimed (IsPlaced g t)
        (λ block place h. let same : place ≡ place + 0 = omega arith in placed_goes low types s (Some site) t block (place + 0) (subst (λ x. IsPlace g.structs (shaped s) t block x) same h) kept)

  -- an access to an element of a null-terminated pointer, up to its upper end
  module _ (low : ℕ) (types : List CType) (m : Mode) (t : CType) (p : PointerBounds) (size : IsNodeOf g.structs (Pointer m kinds.Nt t) p) where
    abbrev ended : CType
    ended = Pointer m kinds.Nt t

    upper_by : (s : State) (site : Site) (z : ℤ) (block byte : ℕ) (e : EndsOf) (test : Bool) → lies_up_to e (pos byte +ℤ distance directions.Forward e.size z) ≡ test → (own : ends_at p s.locals block byte ≡ Some e)
        → OfType g ended (At block byte) s → IsValid g.structs (Some p.bounds) (pointing ended (At block byte)) s → IsKept g budget ticks low types s
        → Goes g budget ticks low types s (IsUpTo low types m kinds.Nt t p size (record { value = At block byte; ends = Some e }) z) (checked_if test C2 site (cell_behind (Some site) block (pos byte +ℤ distance directions.Forward e.size z) 0 s) s)
    upper_by s site z block byte e false upto own typed valid kept = tt
    upper_by s site z block byte e true upto own typed valid kept =
        let x = pos byte +ℤ distance directions.Forward e.size z in
        let place = number_there g.structs ended p s size block byte valid e own x upto in
        let lies : lies_up_to e (pos place.0) ≡ true = subst (λ x. lies_up_to e x ≡ true) place.1 upto in
        let there : IsEndedPlace g.structs (shaped s) t block place.0 (lies_below e (pos place.0)) = leads_there g.structs ended p s size block byte valid e own z place.0 (sym place.1) lies in
        let same : place.0 ≡ place.0 + 0 = omega arith in
        let found : IsUpTo low types m kinds.Nt t p size (record { value = At block byte; ends = Some e }) z (block, place.0) s = record { byte = byte; ends = e; pointer = refl; own = refl; is = place.1; lies = lies; number = typed.0; place = there } in
        let c = ended_cell g.structs s.blocks t block place.0 (lies_below e (pos place.0)) there in
        subst (λ x. Goes g budget ticks low types s (IsUpTo low types m kinds.Nt t p size (record { value = At block byte; ends = Some e }) z) (cell_behind (Some site) block x 0 s)) (sym place.1)
        (subst (λ n. Goes g budget ticks low types s (IsUpTo low types m kinds.Nt t p size (record { value = At block byte; ends = Some e }) z) (place_at (Some site) block n s)) same
        (subst (λ o. Goes g budget ticks low types s (IsUpTo low types m kinds.Nt t p size (record { value = At block byte; ends = Some e }) z) (place_if o (Some site) block place.0 s)) (sym (at_cell s.blocks block place.0 t c)) (found, after_here s, kept)))

    pub upper_goes : (s : State) (site : Site) (z : ℤ) (q : Pointed) → IsAimed low types m kinds.Nt t p size q s → IsKept g budget ticks low types s → Goes g budget ticks low types s (IsUpTo low types m kinds.Nt t p size q z) (element_within true 0 site z q.value q.ends s)
    upper_goes s site z q aimed kept = by q.value q.ends aimed.typed aimed.valid aimed.ends
      where
        by : (v : Value) (ends : Option EndsOf) → OfType g ended v s → IsBounded g ended (Some p) v s → ends ≡ (with_ends (Some p) v s.locals).ends → Goes g budget ticks low types s (IsUpTo low types m kinds.Nt t p size (record { value = v; ends = ends }) z) (element_within true 0 site z v ends s)
        by (Number n) ends typed valid same = absurd typed
        by Null ends typed valid same = tt
        by (At block byte) ends typed valid same =
            let there = ends_there g.structs ended p s size block byte valid in
            subst (λ o. Goes g budget ticks low types s (IsUpTo low types m kinds.Nt t p size (record { value = At block byte; ends = o }) z) (element_within true 0 site z (At block byte) o s)) (sym (same ∙ there.1))
            (upper_by s site z block byte there.0 (lies_up_to there.0 (pos byte +ℤ distance directions.Forward there.0.size z)) refl there.1 typed valid kept)

  -- bytes are counted up to the zero, which ends a row
  module _ (types : List CType) (site : Option Site) (block : ℕ) where
    -- what the byte that was read leads to
    read_goes : (low : ℕ) (n : ℕ) (t : State) (type : CType) (v : Value) → type ≡ Char → HasValue g.structs (shaped t) type v → n < 2 ^ 31 → IsKept g budget ticks low types t → (more : Result Value) → (is_zero v ≡ false → Goes g budget ticks low types t (OfType g Int) more)
        → Goes g budget ticks low types t (OfType g Int) (read_as type v site n more t)
    read_goes low n t Int v same typed few kept more rest = absurd (cc)
    read_goes low n t (Struct number) v same typed few kept more rest = absurd (cc)
    read_goes low n t (Pointer m d target) v same typed few kept more rest = absurd (cc)
    read_goes low n t Char Null same typed few kept more rest = absurd typed
    read_goes low n t Char (At other byte) same typed few kept more rest = absurd typed
    read_goes low n t Char (Number z) same typed few kept more rest = by (is_zero (Number z)) refl
      where
        fits : (n : ℕ) → n < 2 ^ 31 → has_type Int (Number (pos n)) ≡ true
        fits n few = grind (arith, nat_tests, few)

        by : (test : Bool) → is_zero (Number z) ≡ test → Goes g budget ticks low types t (OfType g Int) (counted_if test site n more t)
        by true is = (fits n few, after_here t, kept)
        by false is = rest is

    bytes_counted_goes : (low more n byte : ℕ) (s : State) (inside : Bool) (h : IsEndedPlace g.structs (shaped s) Char block byte inside) → h.cells ≤ more + h.number → n ≤ h.number → IsKept g budget ticks low types s
        → Goes g budget ticks low types s (OfType g Int) (counted_from more budget site block byte n s)
    bytes_counted_goes low zero n byte s inside h enough less kept = absurd (let below = h.below in omega (arith, enough, below))
    bytes_counted_goes low (suc more) n byte s inside h enough less kept =
        lowered g budget ticks low types s (OfType g Int) (counted_from (suc more) budget site block byte n s) kept.enough
        (asked_goes g budget ticks low (suc low) types Anything (OfType g Int) (spend_tick budget s.world) s _ (tick_answers budget low s.world kept.world) (let few = kept.enough in omega arith) kept
        (λ _ t after _ t_kept.
        let found : slice_get (shaped t) block ≡ Some h.shape = ap (λ l. slice_get l block) after.0.1 ∙ still_there (shaped s) after.0.0 block h.shape h.found in
        let here : IsEndedPlace g.structs (shaped t) Char block byte inside =
        record { shape = h.shape; found = found; ended = h.ended; unsealed = h.unsealed; cells = h.cells; types = h.types; strides = h.strides; some = h.some; number = h.number; is = h.is; below = h.below; before_zero = h.before_zero } in
        let c = ended_cell g.structs t.blocks Char block byte inside here in
        subst (λ o. Goes g budget ticks (suc low) types t (OfType g Int) (byte_read o site n (counted_from more budget site block (byte + 1) (n + 1) t) t)) (sym (at_cell t.blocks block byte Char c))
        (read_goes (suc low) n t c.cell.type c.cell.value c.typed (subst (λ x. HasValue g.structs (shaped t) x c.cell.value) (sym c.typed) (cell_typed g.structs (shaped t) t.blocks block byte Char c t_kept.cells)) (few_there t found t_kept) t_kept
        (counted_from more budget site block (byte + 1) (n + 1) t)
        (λ other.
        let last = not_last g.structs t Char block byte inside c.cell t_kept.zeros (at_cell t.blocks block byte Char c) other here in
        bytes_counted_goes (suc low) more (n + 1) (byte + 1) t false (next t found last) (omega (arith, enough)) (omega (arith, less)) t_kept))))
      where
        few_there : (t : State) → slice_get (shaped t) block ≡ Some h.shape → IsKept g budget ticks (suc low) types t → n < 2 ^ 31
        few_there t found kept =
            let few = kept.short block h.shape found h.ended in
            let many : length h.shape.types ≡ h.cells = ap length h.types ∙ length-replicate h.cells Char in
            let below = h.below in
            omega (arith, few, many, below, less)

        next : (t : State) → slice_get (shaped t) block ≡ Some h.shape → suc h.number < h.cells → IsEndedPlace g.structs (shaped t) Char block (byte + 1) false
        next t found more_cells =
            let size : size_of g.structs Char ≡ 1 = refl in
            let at = h.is in
            let next_is : byte + 1 ≡ suc h.number * size_of g.structs Char = omega (arith, size, at) in
            record { shape = h.shape; found = found; ended = h.ended; unsealed = h.unsealed; cells = h.cells; types = h.types; strides = h.strides; some = h.some; number = suc h.number; is = next_is; below = more_cells; before_zero = λ inner. absurd (cc) }

  -- how many bytes stand before the zero
  module _ (low : ℕ) (types : List CType) (m : Mode) (p : PointerBounds) (size : IsNodeOf g.structs (Pointer m kinds.Nt Char) p) where
    abbrev text : CType
    text = Pointer m kinds.Nt Char

    length_by : (site : Site) (block byte : ℕ) (e : EndsOf) (s : State) (test : Bool) → lies_up_to e (pos byte) ≡ test → ends_at p s.locals block byte ≡ Some e → OfType g text (At block byte) s → IsValid g.structs (Some p.bounds) (pointing text (At block byte)) s → IsKept g budget ticks low types s
        → Goes g budget ticks low types s (OfType g Int) (checked_if test C2 site (bytes_counted budget (Some site) block byte s) s)
    length_by site block byte e s false upto own typed valid kept = tt
    length_by site block byte e s true upto own typed valid kept =
        let place = typed.1 in
        bytes_counted_goes types (Some site) block low (suc (bytes_of_block (slice_get s.blocks block))) 0 byte s false place (enough s place) (omega arith) kept
      where
        enough : (s : State) (h : IsEndedPlace g.structs (shaped s) Char block byte false) → h.cells ≤ suc (bytes_of_block (slice_get s.blocks block)) + h.number
        enough s h =
            let b = mapped_from shape s.blocks block h.shape h.found in
            let all : sum h.shape.strides ≡ h.cells * 1 = ap sum h.strides ∙ row_size 1 h.cells in
            let bytes : bytes_of_block (slice_get s.blocks block) ≡ sum h.shape.strides = ap bytes_of_block b.1 ∙ ap (λ (x : Shape). sum x.strides) b.2 in
            omega (arith, all, bytes)

    pub length_goes : (site : Site) (q : Pointed) (s : State) → IsAimed low types m kinds.Nt Char p size q s → IsKept g budget ticks low types s → Goes g budget ticks low types s (OfType g Int) (length_of budget site q.value q.ends s)
    length_goes site q s aimed kept = by q.value q.ends aimed.typed aimed.valid aimed.ends
      where
        by : (v : Value) (ends : Option EndsOf) → OfType g text v s → IsBounded g text (Some p) v s → ends ≡ (with_ends (Some p) v s.locals).ends → Goes g budget ticks low types s (OfType g Int) (length_of budget site v ends s)
        by (Number n) ends typed valid same = absurd typed
        by Null ends typed valid same = tt
        by (At block byte) ends typed valid same =
            let there = ends_there g.structs text p s size block byte valid in
            subst (λ o. Goes g budget ticks low types s (OfType g Int) (length_of budget site (At block byte) o s)) (sym (same ∙ there.1))
            (length_by site block byte there.0 s (lies_up_to there.0 (pos byte)) refl there.1 typed valid kept)

  -- a member of an element
  pub element_member_goes : (low : ℕ) (types : List CType) (m : Mode) (kind : Kind) (number slot offset : ℕ) (t : CType) (p : PointerBounds) (size : IsNodeOf g.structs (Pointer m kind (Struct number)) p)
      → slice_get (slots g.structs (Struct number)) slot ≡ Some (record { type = t; offset = offset }) → IsScalar t → (s : State) (site : Site) (z : ℤ) (q : Pointed) → IsAimed low types m kind (Struct number) p size q s → IsKept g budget ticks low types s
      → Goes g budget ticks low types s (IsPlaced g t) (element_within false offset site z q.value q.ends s)
  element_member_goes low types m kind number slot offset t p size found scalar s site z q aimed kept =
      within_goes low types m kind (Struct number) p size s offset site z q aimed (IsPlaced g t)
      (λ block place h. placed_goes low types s (Some site) t block (place + offset) (member_place g.structs (shaped s) number block place slot offset t scalar h found) kept)

  -- ---- new memory

  module _ (low : ℕ) (types : List CType) (kind : Kind) (t : CType) (element : List Initial) (new : IsNewRow g.structs kind t element) where
    abbrev ends : Bool
    ends = is_ended (Pointer modes.Checked kind t)

    abbrev made : ℕ → Block
    made count = new_block ends count element

    -- a state with a block more
    made_kept : (s : State) (count : ℕ) → count < 2 ^ 31 → IsKept g budget ticks low types s → IsKept g budget ticks low types (record s { blocks = s.blocks ++ made count ∷ [] })
    made_kept s count few kept =
        let after = shapes (s.blocks ++ made count ∷ []) in
        let more : Grows (shaped s) after = grows_by s.blocks (made count) in
        record {
          grown = grows_on (shapes (map object_block g.program.objects)) (shaped s) after kept.grown more;
          cells = held_behind g.structs (shaped s) after more s.blocks (made count) kept.cells (elements_held g.structs after (made_elements ends count) element new.initials);
          locals = locals_grown g.structs (shaped s) after more types s.locals kept.locals;
          world = kept.world;
          enough = kept.enough;
          held = held_made g s (made count) kept.grown more kept.held;
          zeros = zeros_made s.blocks (made count) kept.zeros (new.last count);
          short = subst AreShort (sym (map-append shape s.blocks (made count ∷ []))) (short_made (shaped s) (shape (made count)) kept.short (new.short count few));
        }

    made_goes : (s : State) (count : ℕ) (test : Bool) → count < 2 ^ 31 → IsKept g budget ticks low types s → Goes g budget ticks low types s (OfType g (Pointer modes.Checked kind t)) (made_if test ends count element s)
    made_goes s count true few kept = (tt, after_here s, kept)
    made_goes s count false few kept = (new.typed s.blocks count, (grows_by s.blocks (made count), refl), made_kept s count few kept)

    -- an allocation gives null, or a pointer to a block more
    pub allocated_goes : (s : State) (room : ℕ) (terminator : Terminator) → is_terminated terminator ≡ ends → (z : ℤ) → has_type Int (Number z) ≡ true → IsKept g budget ticks low types s → Goes g budget ticks low types s (OfType g (Pointer modes.Checked kind t)) (allocated room terminator element z s)
    allocated_goes s room terminator alike (negsuc count) fits kept = (tt, after_here s, kept)
    allocated_goes s room terminator alike (pos zero) fits kept = (tt, after_here s, kept)
    allocated_goes s room terminator alike (pos (suc count)) fits kept =
        let few = ltb-true (suc count) (2 ^ 31) fits in
        let less = before_most terminator (suc count) in
        let before = before_zero terminator (suc count) in
        subst (λ ended. Goes g budget ticks low types s (OfType g (Pointer modes.Checked kind t)) (elements_made room ended element before s)) (sym alike)
        (made_goes s before (is_refused room (counter_behind first_offset s.blocks) (made_elements ends before * element_size element)) (omega (arith, few, less)) kept)

    -- valid with the bounds of as many elements as stand before the zero, where one ends them
    pub new_valid : (s : State) (room : ℕ) (terminator : Terminator) → is_terminated terminator ≡ ends → (z : ℤ) (n : Term) → IsBeforeZero terminator n z s
        → WhereGiven (λ v u. IsValid g.structs (Some (counted n)) (pointing (Pointer modes.Checked kind t) v) u) (allocated room terminator element z s)
    new_valid s room terminator alike z n is = by (allocated room terminator element z s) refl
      where
        by : (o : Result Value) → allocated room terminator element z s ≡ o → WhereGiven (λ v u. IsValid g.structs (Some (counted n)) (pointing (Pointer modes.Checked kind t) v) u) o
        by (Gives v u) e = (new_blocks_count g.structs room terminator element n z (pointing (Pointer modes.Checked kind t) Null) v s u is new.sized new.cells alike e).valid
        by (Ends ending u) e = tt
        by (Stuck site u) e = tt
        by (Unsound site u) e = tt
        by Short e = tt

  -- ---- calls

  -- numbers have words
  pub words_there : (b : List Shape) (count : ℕ) (vs : List Value) → HaveValues g.structs b (replicate count Int) vs → (words : List ℕ) × (words_of vs ≡ Some words)
  words_there b zero [] h = ([], refl)
  words_there b zero (v ∷ vs) h = absurd h
  words_there b (suc count) [] h = absurd h
  words_there b (suc count) (Number z ∷ vs) h = let rest = words_there b count vs h.1 in (word z ∷ rest.0, ap (option_map (λ more. word z ∷ more)) rest.1)
  words_there b (suc count) (Null ∷ vs) h = absurd h.0
  words_there b (suc count) (At block byte ∷ vs) h = absurd h.0

  module _ (low : ℕ) (types : List CType) (s : State) where
    pub reply_goes : (result : Option CType) (site : Site) (reply : ℕ) → IsNumberResult result → IsWord reply → IsKept g budget ticks low types s → Goes g budget ticks low types s (IsAnswer g result) (reply_as result site reply s)
    reply_goes None site reply crosses small kept = (tt, after_here s, kept)
    reply_goes (Some Int) site reply crosses small kept = (signed_fits reply small, after_here s, kept)
    reply_goes (Some Char) site reply crosses small kept = by_size (nat_lt reply 256) refl
      where
        by_size : (test : Bool) → nat_lt reply 256 ≡ test → Goes g budget ticks low types s (IsAnswer g (Some Char)) (reply_as (Some Char) site reply s)
        by_size true test =
            let below : reply < 2 ^ 31 = grind (arith, nat_tests) in
            rw test (ap (λ z. has_type Char (Number z)) (to_z_pos w32 reply below) ∙ test, after_here s, kept)
        by_size false test = rw test tt
    reply_goes (Some (Struct number)) site reply crosses small kept = absurd (cc)
    reply_goes (Some (Pointer mode kind target)) site reply crosses small kept = absurd (cc)

    pub given_back : (t : CType) (v : Option Value) → IsAnswer g (Some t) v s → IsKept g budget ticks low types s → Goes g budget ticks low types s (OfType g t) (result_given v s)
    given_back t None h kept = absurd h
    given_back t (Some v) h kept = (h, after_here s, kept)

    -- with the bounds that it is valid with
    pub valid_back : (m : Mode) (kind : Kind) (t : CType) (p : PointerBounds) (v : Option Value) → Counts kind → IsAnswer g (Some (Pointer m kind t)) v s → HasResult g.structs (Some (Pointer m kind t)) (Some p.bounds) v s → IsKept g budget ticks low types s
        → Goes g budget ticks low types s (λ v w. OfType g (Pointer m kind t) v w × IsBounded g (Pointer m kind t) (Some p) v w) (result_given v s)
    valid_back m kind t p None counts h valid kept = absurd h
    valid_back m kinds.One t p (Some v) counts h valid kept = absurd counts
    valid_back m kinds.Array t p (Some v) counts h valid kept = ((h, valid), after_here s, kept)
    valid_back m kinds.Nt t p (Some v) counts h valid kept = ((h, valid), after_here s, kept)

    pub nothing_back : (v : Option Value) → IsAnswer g None v s → IsKept g budget ticks low types s → Goes g budget ticks low types s IsNext (no_result v s)
    nothing_back None h kept = (refl, after_here s, kept)
    nothing_back (Some v) h kept = absurd h
