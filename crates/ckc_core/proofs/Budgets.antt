-- A meaning with as many ticks as its budget is never short of them: an induction over the meaning, with the ticks spent.
use Rattle.std.proofs.Common.{◌≡◌, ℕ, zero, suc, ◌+◌, ◌*◌, ◌≤◌, Bool, true, false, ℤ, ◌+ℤ◌, List, [], length, replicate, Option, Some, None, refl, arith}
use Rattle.std.specs.Prelude.{◌==◌, ◌&&◌, ◌||◌, not, nat_lt, slice_get, pos, negsuc}
use Rattle.std.specs.Ordering.{int_eq}
use Rattle.flat_bytes.specs.Blocks.{first_offset, is_refused}
use Rattle.act_words.specs.declared.settings.Settings.{Settings}
use Rattle.act_words.specs.Acts.{Act, Passed}
use Rattle.ckc_core.specs.Outcome.{Gives, Ends, Stuck, Unsound, Short, and_then}
use Rattle.act_words.specs.Checks.{Checked, Holds, Fails, is_word_number}
use Rattle.act_words.specs.Arithmetic as arithmetic
use Rattle.act_words.specs.World.{new_world}
use Rattle.act_words.specs.Touches.{Asked, Got, Ended, Crossed, spend_tick, enter_call, next_input, touch, until_return}
use Rattle.pointer_modes.specs.Types.{CType, Int, Char, Struct, Pointer}
use Rattle.ckc_core.specs.declared.program.Site.{Site}
use Rattle.act_words.specs.declared.operator.Operator.{Operator}
use Rattle.act_words.specs.declared.operator.Comparison.{Comparison}
use Rattle.ckc_core.specs.declared.program.Callee.{Callee}
use Rattle.ckc_core.specs.declared.program.Callee.TheVariants as callees
use Rattle.ckc_core.specs.Programs.{Import, Initial, ProgramOf, parted}
use Rattle.ckc_core.specs.declared.program.Direction.{Direction}
use Rattle.ckc_core.specs.declared.program.Terminator.{Terminator}
use Rattle.ckc_core.specs.declared.program.Direction.TheVariants as directions
use Rattle.ckc_core.specs.declared.program.PointerBounds.{PointerBounds}
use Rattle.ckc_core.specs.Bounds.{Ends as EndsOf, ends_at, Pointed, with_ends, is_valid}
use Rattle.ckc_core.specs.Core as core
use Rattle.ckc_core.specs.States.{Value, Number, Null, At, Cell, Local, State, in_world, cell_at, same_type, has_type}
use Rattle.ckc_core.specs.Steps.{variable_if, is_zero, variable_at, Result, Flow, Next, Broke, Continued, Returned, given, checked, value_if, value_in, load_at, place_if, pointer_to, truth, same_place, test_given, result_of, arithmetic_of, compared, negated, complemented, low_byte_of, asked, words_of, reply_as, passed, cross, cross_if, call_tainted, crossed, takes, enter_if, call_trusted, called, result_given, choose, store_if, store_over, store_at, set_local, kept_if, is_char, printed, put, on_next, behind_turn, no_result, answer, locals_for, back, exit, initial, place_at, set_if, set_over, leaves_zero, fit, parameters_of, fits_result, answer_if}
use Rattle.ckc_core.specs.Meaning.{Knot, bounds_of, Setting, audit, body_if, body_of, cast_to, cast_if, cast_within, effect, effects, element, element_within, length_of, end_kept, storable, number_of, knot, run_of, place, place_from, pointed, Target, target_of, reached, site_of, sound_if, summed, value, values}
use Rattle.ckc_core.specs.Pointers.{number_given, checked_if, distance, lies_in, lies_up_to, are_within, cell_behind, reaches, pointer_if, pointer_at, ordered_if, ordered, not_null, counter_behind, element_size, made_if, elements_made, allocated, is_terminated, before_zero, made_elements, counted_if, read_as, byte_read, counted_from, counted, bytes_of_block}
use Rattle.ckc_text.specs.declared.code.Code.{Code}
use Rattle.ckc_text.specs.declared.code.Code.TheVariants.{C2, C3, C5}
use Rattle.ckc_core.proofs.Ticks.{HasSpent, Answers, Crosses, tick_answers, enter_answers, touch_answers, until_crosses, next_answers}

-- from a state in which so many ticks were spent at least: no fewer were in the state behind a value, and it isn't short
abbrev pub Goes : ℕ → {A : Type 0} → ℕ → Result A → Type 0
Goes budget low (Gives v s) = HasSpent budget low s.world
Goes budget low (Ends ending s) = Unit {0}
Goes budget low (Stuck site s) = Unit {0}
Goes budget low (Unsound site s) = Unit {0}
Goes budget low Short = ⊥

module _ (budget : ℕ) where
  goes_on : {A B : Type 0} (low : ℕ) (o : Result A) (next : A → State → Result B) → Goes budget low o → ((v : A) (s : State) → HasSpent budget low s.world → Goes budget low (next v s)) → Goes budget low (and_then o next)
  goes_on low (Gives v s) next h more = more v s h
  goes_on low (Ends ending s) next h more = tt
  goes_on low (Stuck site s) next h more = tt
  goes_on low (Unsound site s) next h more = tt
  goes_on low Short next h more = h

  asked_goes : {A B : Type 0} (low : ℕ) (o : Asked A) (s : State) (next : A → State → Result B) → Answers budget low o → ((v : A) (t : State) → HasSpent budget low t.world → Goes budget low (next v t)) → Goes budget low (asked o s next)
  asked_goes low (Got v w) s next h more = more v (in_world w s) h
  asked_goes low (Ended ending w) s next h more = tt

  -- behind a tick more ticks were spent at least
  lowered : {A : Type 0} (low : ℕ) (o : Result A) → Goes budget (suc low) o → Goes budget low o
  lowered low (Gives v s) h = record { least = omega (arith, h.least); most = h.most }
  lowered low (Ends ending s) h = tt
  lowered low (Stuck site s) h = tt
  lowered low (Unsound site s) h = tt
  lowered low Short h = h

  chosen_goes : {A : Type 0} (low : ℕ) (test : Bool) (first second : Result A) → Goes budget low first → Goes budget low second → Goes budget low (choose test first second)
  chosen_goes low true first second h other = h
  chosen_goes low false first second h other = other

  -- ---- what is no recursion on the tree

  module _ (low : ℕ) (s : State) (spent : HasSpent budget low s.world) where
    given_goes : (o : Option Local) → Goes budget low (given o s)
    given_goes None = tt
    given_goes (Some v) = spent

    checked_goes : (o : Checked ℤ) → Goes budget low (checked o s)
    checked_goes (Holds z) = spent
    checked_goes (Fails ending) = tt

    value_goes_if : (test : Bool) (site : Option Site) (v : Value) → Goes budget low (value_if test site v s)
    value_goes_if true site v = spent
    value_goes_if false site v = tt

    cell_goes : (type : CType) (site : Option Site) (o : Option Cell) → Goes budget low (value_in type site o s)
    cell_goes type site None = tt
    cell_goes type site (Some cell) = value_goes_if (same_type type cell.type) site cell.value

    placed_goes : (o : Option Cell) (site : Option Site) (block byte : ℕ) → Goes budget low (place_if o site block byte s)
    placed_goes None site block byte = tt
    placed_goes (Some cell) site block byte = spent

    direct_goes : (site : Option Site) (block byte : ℕ) → Goes budget low (place_at site block byte s)
    direct_goes site block byte = placed_goes (cell_at s.blocks block byte) site block byte

    variable_goes : (test : Bool) (object offset : ℕ) → Goes budget low (variable_if test object offset s)
    variable_goes true object offset = direct_goes None object offset
    variable_goes false object offset = tt

    element_goes : (offset : ℕ) (site : Site) (v : Value) → Goes budget low (element offset site v s)
    element_goes offset site (Number z) = tt
    element_goes offset site Null = tt
    element_goes offset site (At block byte) = direct_goes (Some site) block (byte + offset)

    number_goes : (site : Option Site) (v : Value) → Goes budget low (number_given site v s)
    number_goes site (Number z) = spent
    number_goes site Null = tt
    number_goes site (At block byte) = tt

    checked_goes_if : {A : Type 0} (test : Bool) (code : Code) (site : Site) (next : Result A) → Goes budget low next → Goes budget low (checked_if test code site next s)
    checked_goes_if true code site next h = h
    checked_goes_if false code site next h = tt

    cell_behind_goes : (site : Option Site) (block : ℕ) (byte : ℤ) (offset : ℕ) → Goes budget low (cell_behind site block byte offset s)
    cell_behind_goes site block (pos byte) offset = direct_goes site block (byte + offset)
    cell_behind_goes site block (negsuc byte) offset = tt

    pointer_goes_if : (test : Bool) (site : Option Site) (block byte : ℕ) → Goes budget low (pointer_if test site block byte s)
    pointer_goes_if true site block byte = spent
    pointer_goes_if false site block byte = tt

    pointer_at_goes : (site : Option Site) (block : ℕ) (byte : ℤ) → Goes budget low (pointer_at site block byte s)
    pointer_at_goes site block (pos byte) = pointer_goes_if (reaches (slice_get s.blocks block) byte) site block byte
    pointer_at_goes site block (negsuc byte) = tt

    within_goes : (terminated : Bool) (offset : ℕ) (site : Site) (n : ℤ) (v : Value) (ends : Option EndsOf) → Goes budget low (element_within terminated offset site n v ends s)
    within_goes terminated offset site n (Number z) ends = tt
    within_goes terminated offset site n Null ends = tt
    within_goes terminated offset site n (At block byte) None = tt
    within_goes terminated offset site n (At block byte) (Some e) =
        let x = pos byte +ℤ distance directions.Forward e.size n in checked_goes_if (lies_in terminated e x) C2 site (cell_behind (Some site) block x offset s) (cell_behind_goes (Some site) block x offset)

    reached_goes : (index : core.Index) (offset : ℕ) (site : Site) (t : Target) → Goes budget low (reached index offset site t s)
    reached_goes core.First offset site t = element_goes offset site t.pointer.value
    reached_goes (core.Element number terminated) offset site t = within_goes terminated offset site t.number t.pointer.value t.pointer.ends

    summed_goes : (direction : Direction) (site : Site) (n : ℤ) (v : Value) (ends : Option EndsOf) → Goes budget low (summed direction site n v ends s)
    summed_goes direction site n (Number z) ends = tt
    summed_goes direction site n Null ends = tt
    summed_goes direction site n (At block byte) None = tt
    summed_goes direction site n (At block byte) (Some e) =
        let x = pos byte +ℤ distance direction e.size n in checked_goes_if (lies_up_to e x) C2 site (pointer_at (Some site) block x s) (pointer_at_goes (Some site) block x)

    not_null_goes : (site : Site) (v : Value) → Goes budget low (not_null site v s)
    not_null_goes site (Number z) = tt
    not_null_goes site Null = tt
    not_null_goes site (At block byte) = spent

    ordered_goes_if : (test : Bool) (comparison : Comparison) (site : Option Site) (byte other : ℕ) → Goes budget low (ordered_if test comparison site byte other s)
    ordered_goes_if true comparison site byte other = spent
    ordered_goes_if false comparison site byte other = tt

    ordered_goes : (comparison : Comparison) (site : Option Site) (v w : Value) → Goes budget low (ordered comparison site v w s)
    ordered_goes comparison site (Number z) w = tt
    ordered_goes comparison site Null w = tt
    ordered_goes comparison site (At block byte) (Number z) = tt
    ordered_goes comparison site (At block byte) Null = tt
    ordered_goes comparison site (At block byte) (At other byte') = ordered_goes_if (block == other) comparison site byte byte'

    made_goes_if : (test terminated : Bool) (n : ℕ) (element : List Initial) → Goes budget low (made_if test terminated n element s)
    made_goes_if true terminated n element = spent
    made_goes_if false terminated n element = record { least = spent.least; most = spent.most }

    elements_made_goes : (size : ℕ) (terminated : Bool) (element : List Initial) (n : ℕ) → Goes budget low (elements_made size terminated element n s)
    elements_made_goes size terminated element n =
        made_goes_if (is_refused size (counter_behind first_offset s.blocks) (made_elements terminated n * element_size element)) terminated n element

    allocated_goes : (size : ℕ) (terminator : Terminator) (element : List Initial) (z : ℤ) → Goes budget low (allocated size terminator element z s)
    allocated_goes size terminator element (negsuc n) = spent
    allocated_goes size terminator element (pos zero) = spent
    allocated_goes size terminator element (pos (suc n)) =
        elements_made_goes size (is_terminated terminator) element (before_zero terminator (suc n))

    read_goes : (type : CType) (v : Value) (site : Option Site) (n : ℕ) (more : Result Value) → Goes budget low more → Goes budget low (read_as type v site n more s)
    read_goes Int v site n more h = tt
    read_goes Char (Number z) site n more h = counted_goes_if (is_zero (Number z)) site n more h
      where
        counted_goes_if : (test : Bool) (site : Option Site) (n : ℕ) (more : Result Value) → Goes budget low more → Goes budget low (counted_if test site n more s)
        counted_goes_if true site n more h = spent
        counted_goes_if false site n more h = h
    read_goes Char Null site n more h = tt
    read_goes Char (At block byte) site n more h = tt
    read_goes (Struct number) v site n more h = tt
    read_goes (Pointer mode kind target) v site n more h = tt

    byte_read_goes : (o : Option Cell) (site : Option Site) (n : ℕ) (more : Result Value) → Goes budget low more → Goes budget low (byte_read o site n more s)
    byte_read_goes None site n more h = tt
    byte_read_goes (Some cell) site n more h = read_goes cell.type cell.value site n more h

    cast_goes_if : (test : Bool) (site : Site) (v : Value) (old new : EndsOf) → Goes budget low (cast_if test site v old new s)
    cast_goes_if true site v old new = checked_goes_if (are_within old new) C5 site (Gives v s) spent
    cast_goes_if false site v old new = tt

    cast_within_goes : (site : Site) (v : Value) (old new : Option EndsOf) → Goes budget low (cast_within site v old new s)
    cast_within_goes site v None new = tt
    cast_within_goes site v (Some old) None = tt
    cast_within_goes site v (Some old) (Some new) = cast_goes_if (old.size == new.size) site v old new

    cast_goes_of : (bounds : PointerBounds) (v : Value) (ends : Option EndsOf) → Goes budget low (cast_to (Some bounds) (record { value = v; ends = ends }) s)
    cast_goes_of bounds (Number z) ends = tt
    cast_goes_of bounds Null ends = spent
    cast_goes_of bounds (At block byte) ends = cast_within_goes bounds.site (At block byte) ends (ends_at bounds s.locals block byte)

    cast_goes : (bounds : Option PointerBounds) (p : Pointed) → Goes budget low (cast_to bounds p s)
    cast_goes None p = spent
    cast_goes (Some bounds) p = cast_goes_of bounds p.value p.ends

    sound_goes_if : (test : Bool) (site : Site) (v : Value) → Goes budget low (sound_if test site v s)
    sound_goes_if true site v = spent
    sound_goes_if false site v = tt

    audit_goes : (audited : Bool) (bounds : Option PointerBounds) (v : Value) → Goes budget low (audit audited bounds v s)
    audit_goes audited None v = spent
    audit_goes audited (Some p) v = sound_goes_if (not audited || is_valid p v s) p.site v

    test_goes : (o : Option Bool) → Goes budget low (test_given o s)
    test_goes None = tt
    test_goes (Some test) = spent

    arithmetic_goes : (operator : Operator) (site : Site) (v w : Value) → Goes budget low (arithmetic_of operator site v w s)
    arithmetic_goes operator site (Number a) (Number b) = checked_goes (result_of operator site a b)
    arithmetic_goes operator site (Number a) Null = tt
    arithmetic_goes operator site (Number a) (At block byte) = tt
    arithmetic_goes operator site Null w = tt
    arithmetic_goes operator site (At block byte) w = tt

    compared_goes : (comparison : Comparison) (v w : Value) → Goes budget low (compared comparison v w s)
    compared_goes comparison (Number a) (Number b) = spent
    compared_goes comparison (Number a) Null = tt
    compared_goes comparison (Number a) (At block byte) = tt
    compared_goes comparison Null w = tt
    compared_goes comparison (At block byte) w = tt

    negated_goes : (site : Site) (v : Value) → Goes budget low (negated site v s)
    negated_goes site (Number a) = checked_goes (arithmetic.negation site.place a)
    negated_goes site Null = tt
    negated_goes site (At block byte) = tt

    complemented_goes : (v : Value) → Goes budget low (complemented v s)
    complemented_goes (Number a) = spent
    complemented_goes Null = tt
    complemented_goes (At block byte) = tt

    byte_goes : (v : Value) → Goes budget low (low_byte_of v s)
    byte_goes (Number a) = spent
    byte_goes Null = tt
    byte_goes (At block byte) = tt

    result_goes : (o : Option Value) → Goes budget low (result_given o s)
    result_goes None = tt
    result_goes (Some v) = spent

    reply_goes : (type : Option CType) (site : Site) (reply : ℕ) → Goes budget low (reply_as type site reply s)
    reply_goes None site reply = spent
    reply_goes (Some Int) site reply = spent
    reply_goes (Some Char) site reply = by_size (nat_lt reply 256) refl
      where
        by_size : (test : Bool) → nat_lt reply 256 ≡ test → Goes budget low (reply_as (Some Char) site reply s)
        by_size true test = rw test spent
        by_size false test = rw test tt
    reply_goes (Some (Struct number)) site reply = tt
    reply_goes (Some (Pointer mode kind target)) site reply = tt

    stored_goes : (test : Bool) (site : Option Site) (block byte : ℕ) (v : Value) → Goes budget low (store_if test site block byte v s)
    stored_goes true site block byte v = spent
    stored_goes false site block byte v = tt

    over_goes : (o : Option Cell) (type : CType) (site : Option Site) (v : Value) (block byte : ℕ) → Goes budget low (store_over o type site v block byte s)
    over_goes None type site v block byte = tt
    over_goes (Some old) type site v block byte =
        stored_goes (same_type type old.type && (has_type type v && leaves_zero (slice_get s.blocks block) byte v)) site block byte v

    set_goes_if : (test : Bool) (old : Local) (local : ℕ) (v : Value) → Goes budget low (set_if test old local v s)
    set_goes_if true old local v = spent
    set_goes_if false old local v = tt

    set_goes_over : (o : Option Local) (local : ℕ) (v : Value) → Goes budget low (set_over o local v s)
    set_goes_over None local v = tt
    set_goes_over (Some old) local v = set_goes_if (has_type old.type v) old local v

    kept_goes : (char : Bool) (v : Value) → Goes budget low (kept_if char v s)
    kept_goes true v = byte_goes v
    kept_goes false v = spent

    printed_goes : (v : Value) → Goes budget low (printed v s)
    printed_goes (Number z) = record { least = spent.least; most = spent.most }
    printed_goes Null = tt
    printed_goes (At block byte) = tt

    put_goes : (v : Value) → Goes budget low (put v s)
    put_goes (Number z) = record { least = spent.least; most = spent.most }
    put_goes Null = tt
    put_goes (At block byte) = tt

    nothing_goes : (o : Option Value) → Goes budget low (no_result o s)
    nothing_goes None = spent
    nothing_goes (Some v) = tt

    next_goes : (rest : State → Result Flow) (flow : Flow) → Goes budget low (rest s) → Goes budget low (on_next rest flow s)
    next_goes rest Next h = h
    next_goes rest Broke h = spent
    next_goes rest Continued h = spent
    next_goes rest (Returned v) h = spent

    turned_goes : (further : State → Result Flow) (flow : Flow) → Goes budget low (further s) → Goes budget low (behind_turn further flow s)
    turned_goes further Next h = h
    turned_goes further Continued h = h
    turned_goes further Broke h = spent
    turned_goes further (Returned v) h = spent

    answer_goes_if : (test : Bool) (v : Option Value) → Goes budget low (answer_if test v s)
    answer_goes_if true v = spent
    answer_goes_if false v = tt

    answer_goes : (result : Option CType) (flow : Flow) → Goes budget low (answer result flow s)
    answer_goes result Next = spent
    answer_goes result (Returned v) = answer_goes_if (fits_result result v) v
    answer_goes result Broke = tt
    answer_goes result Continued = tt

    place_from_goes : (p : core.Place) (t : Target) → Goes budget low (place_from p t s)
    place_from_goes (core.Direct object offset) t = direct_goes None object offset
    place_from_goes (core.Through pointer index offset site) t = reached_goes index offset site t

    end_goes : (site : Site) (n : ℤ) (v w : Value) (ends : Option EndsOf) → Goes budget low (end_kept site n v w ends s)
    end_goes site n v (Number z) ends = tt
    end_goes site n v Null ends = tt
    end_goes site n v (At block byte) None = tt
    end_goes site n v (At block byte) (Some e) =
        checked_goes_if (is_zero v || not (int_eq (pos byte +ℤ distance directions.Forward e.size n) e.high)) C3 site (Gives tt s) spent

    storable_goes : (p : core.Place) (t : Target) (v : Value) → Goes budget low (storable p t v s)
    storable_goes (core.Direct object offset) t v = spent
    storable_goes (core.Through pointer core.First offset site) t v = spent
    storable_goes (core.Through pointer (core.Element number false) offset site) t v = spent
    storable_goes (core.Through pointer (core.Element number true) offset site) t v = end_goes site t.number v t.pointer.value t.pointer.ends

  -- each byte that is read costs a tick
  counted_goes_from : (more low : ℕ) (site : Option Site) (block byte n : ℕ) (s : State) → HasSpent budget low s.world → Goes budget low (counted_from more budget site block byte n s)
  counted_goes_from zero low site block byte n s spent = tt
  counted_goes_from (suc more) low site block byte n s spent =
      lowered low _
      (asked_goes (suc low) (spend_tick budget s.world) s _ (tick_answers budget low s.world spent)
      (λ _ t t_spent. byte_read_goes (suc low) t t_spent (cell_at t.blocks block byte) site n (counted_from more budget site block (byte + 1) (n + 1) t)
      (counted_goes_from more (suc low) site block (byte + 1) (n + 1) t t_spent)))

  length_goes : (low : ℕ) (site : Site) (v : Value) (ends : Option EndsOf) (s : State) → HasSpent budget low s.world → Goes budget low (length_of budget site v ends s)
  length_goes low site (Number z) ends s spent = tt
  length_goes low site Null ends s spent = tt
  length_goes low site (At block byte) None s spent = tt
  length_goes low site (At block byte) (Some e) s spent =
      checked_goes_if low s spent (lies_up_to e (pos byte)) C2 site (counted budget (Some site) block byte s)
      (counted_goes_from (suc (bytes_of_block (slice_get s.blocks block))) low (Some site) block byte 0 s spent)

  module _ (audited : Bool) (program : ProgramOf core.Statements) (sandbox_size trusted_size n : ℕ) where
    abbrev g : Setting
    g = record { program = program; budget = budget; sandbox = sandbox_size; trusted = trusted_size }

    -- calls and turns that aren't short behind a tick, where so many are left at most
    pub record IsKnot (k : Knot) : Type 0 where
      pub call : (low function : ℕ) (vs : List Value) (s : State) → suc budget ≤ low + n → HasSpent budget low s.world → Goes budget low (k.call function vs s)
      pub turn : (low : ℕ) (e : core.Expression) (x y : core.Statement) (s : State) → suc budget ≤ low + n → HasSpent budget low s.world → Goes budget low (k.turn e x y s)
      pub sandbox : (low : ℕ) (s : State) → suc budget ≤ low + n → HasSpent budget low s.world → Goes budget low (k.sandbox s)

    module _ (k : Knot) (is : IsKnot k) where
      enter_goes : (low : ℕ) (enough : budget ≤ low + n) (test : Bool) (function : ℕ) (vs : List Value) (s : State) → HasSpent budget low s.world → Goes budget low (enter_if test g k function vs s)
      enter_goes low enough false function vs s spent = tt
      enter_goes low enough true function vs s spent =
          lowered low _ (asked_goes (suc low) (spend_tick budget s.world) s _ (tick_answers budget low s.world spent)
          (λ _ t t_spent. asked_goes (suc low) (enter_call t.depth t.world) t _ (enter_answers budget (suc low) t.depth t.world t_spent)
          (λ _ u u_spent. is.call (suc low) function vs u (omega (arith, enough)) u_spent)))

      trusted_goes : (low : ℕ) (enough : budget ≤ low + n) (function : ℕ) (vs : List Value) (s : State) → HasSpent budget low s.world → Goes budget low (call_trusted g k function vs s)
      trusted_goes low enough function vs s spent = enter_goes low enough (takes (slice_get program.functions function) vs) function vs s spent

      passed_goes : (low : ℕ) (enough : suc budget ≤ low + n) (i : Import) (site : Site) (s : State) → HasSpent budget low s.world → Goes budget low (passed k i site s)
      passed_goes low enough i site s spent =
          let inside : State = record s { depth = s.depth + 1 } in
          goes_on low (and_then (k.sandbox inside) (back s)) (reply_as i.result site)
          (goes_on low (k.sandbox inside) (back s) (is.sandbox low inside enough spent) (λ reply t t_spent. t_spent))
          (λ reply t t_spent. reply_goes low t t_spent i.result site reply)

      cross_goes : (low : ℕ) (enough : budget ≤ low + n) (import : ℕ) (i : Import) (site : Site) (o : Option (List ℕ)) (s : State) → HasSpent budget low s.world → Goes budget low (cross g k import i site o s)
      cross_goes low enough import i site None s spent = tt
      cross_goes low enough import i site (Some words) s spent =
          lowered low _ (asked_goes (suc low) (spend_tick budget s.world) s _ (tick_answers budget low s.world spent)
          (λ _ t t_spent. asked_goes (suc low) (enter_call t.depth t.world) t _ (enter_answers budget (suc low) t.depth t.world t_spent)
          (λ _ u u_spent. asked_goes (suc low) (touch (Passed import words) u.world) u _ (touch_answers budget (suc low) (Passed import words) u.world u_spent)
          (λ _ v v_spent. passed_goes (suc low) (omega (arith, enough)) i site v v_spent))))

      crossed_goes : (low : ℕ) (enough : budget ≤ low + n) (test : Bool) (import : ℕ) (i : Import) (site : Site) (vs : List Value) (s : State) → HasSpent budget low s.world → Goes budget low (cross_if test g k import i site vs s)
      crossed_goes low enough true import i site vs s spent = cross_goes low enough import i site (words_of vs) s spent
      crossed_goes low enough false import i site vs s spent = tt

      tainted_goes : (low : ℕ) (enough : budget ≤ low + n) (import : ℕ) (o : Option Import) (site : Site) (vs : List Value) (s : State) → HasSpent budget low s.world → Goes budget low (call_tainted g k import o site vs s)
      tainted_goes low enough import None site vs s spent = tt
      tainted_goes low enough import (Some i) site vs s spent = crossed_goes low enough (i.parameters == length vs) import i site vs s spent

      called_goes : (low : ℕ) (enough : budget ≤ low + n) (callee : Callee) (vs : List Value) (s : State) → HasSpent budget low s.world → Goes budget low (called g k callee vs s)
      called_goes low enough (callees.Trusted function) vs s spent = trusted_goes low enough function vs s spent
      called_goes low enough (callees.Tainted import site) vs s spent = tainted_goes low enough import (slice_get program.imports import) site vs s spent

      -- ---- expressions

      mutual
        value_goes : (e : core.Expression) (low : ℕ) (enough : budget ≤ low + n) (s : State) → HasSpent budget low s.world → Goes budget low (value audited g k e s)
        value_goes (core.Number z) low enough s spent = value_goes_if low s spent (is_word_number z) None (Number z)
        value_goes core.Null low enough s spent = spent
        value_goes (core.Local i bounds) low enough s spent =
            goes_on low (given (slice_get s.locals i) s) (audit audited bounds) (given_goes low s spent (slice_get s.locals i)) (λ v t t_spent. audit_goes low t t_spent audited bounds v)
        value_goes (core.Load type p bounds) low enough s spent =
            goes_on low (and_then (place audited g k p s) (load_at type (site_of p))) (audit audited bounds)
            (goes_on low (place audited g k p s) (load_at type (site_of p)) (place_goes p low enough s spent) (λ at t t_spent. cell_goes low t t_spent type (site_of p) (cell_at t.blocks at.0 at.1)))
            (λ v t t_spent. audit_goes low t t_spent audited bounds v)
        value_goes (core.AddressOf p bounds) low enough s spent =
            goes_on low (and_then (place audited g k p s) pointer_to) (audit audited bounds)
            (goes_on low (place audited g k p s) pointer_to (place_goes p low enough s spent) (λ at t t_spent. t_spent))
            (λ v t t_spent. audit_goes low t t_spent audited bounds v)
        value_goes (core.Negate operand site) low enough s spent =
            goes_on low (value audited g k operand s) (negated site) (value_goes operand low enough s spent) (λ v t t_spent. negated_goes low t t_spent site v)
        value_goes (core.Complement operand) low enough s spent =
            goes_on low (value audited g k operand s) complemented (value_goes operand low enough s spent) (λ v t t_spent. complemented_goes low t t_spent v)
        value_goes (core.Not operand) low enough s spent = goes_on low (value audited g k operand s) _ (value_goes operand low enough s spent) (λ v t t_spent. t_spent)
        value_goes (core.Arithmetic operator left right site) low enough s spent =
            goes_on low (value audited g k left s) _ (value_goes left low enough s spent)
            (λ a t t_spent. goes_on low (value audited g k right t) _ (value_goes right low enough t t_spent) (λ b u u_spent. arithmetic_goes low u u_spent operator site a b))
        value_goes (core.Compare comparison left right) low enough s spent =
            goes_on low (value audited g k left s) _ (value_goes left low enough s spent)
            (λ a t t_spent. goes_on low (value audited g k right t) _ (value_goes right low enough t t_spent) (λ b u u_spent. compared_goes low u u_spent comparison a b))
        value_goes (core.Same left right) low enough s spent =
            goes_on low (value audited g k left s) _ (value_goes left low enough s spent)
            (λ a t t_spent. goes_on low (value audited g k right t) _ (value_goes right low enough t t_spent) (λ b u u_spent. test_goes low u u_spent (same_place a b)))
        value_goes (core.AndAlso left right) low enough s spent =
            goes_on low (value audited g k left s) _ (value_goes left low enough s spent)
            (λ a t t_spent. chosen_goes low (truth a) _ _ (goes_on low (value audited g k right t) _ (value_goes right low enough t t_spent) (λ b u u_spent. u_spent)) t_spent)
        value_goes (core.OrElse left right) low enough s spent =
            goes_on low (value audited g k left s) _ (value_goes left low enough s spent)
            (λ a t t_spent. chosen_goes low (truth a) _ _ t_spent (goes_on low (value audited g k right t) _ (value_goes right low enough t t_spent) (λ b u u_spent. u_spent)))
        value_goes (core.LowByte operand) low enough s spent =
            goes_on low (value audited g k operand s) low_byte_of (value_goes operand low enough s spent) (λ v t t_spent. byte_goes low t t_spent v)
        value_goes (core.Call callee arguments bounds) low enough s spent =
            goes_on low (values audited g k arguments s) _ (values_go arguments low enough s spent)
            (λ vs t t_spent. goes_on low (and_then (called g k callee vs t) result_given) (audit audited bounds)
            (goes_on low (called g k callee vs t) result_given (called_goes low enough callee vs t t_spent) (λ v u u_spent. result_goes low u u_spent v))
            (λ v u u_spent. audit_goes low u u_spent audited bounds v))
        value_goes core.NextInput low enough s spent = asked_goes low (next_input s.world) s _ (next_answers budget low s.world spent) (λ z t t_spent. t_spent)
        value_goes (core.Sum pointer direction number site bounds) low enough s spent =
            goes_on low _ (audit audited bounds)
            (goes_on low (value audited g k pointer s) _ (value_goes pointer low enough s spent)
            (λ v t t_spent. goes_on low (and_then (value audited g k number t) (number_given (Some site))) _
            (goes_on low (value audited g k number t) (number_given (Some site)) (value_goes number low enough t t_spent) (λ w u u_spent. number_goes low u u_spent (Some site) w))
            (λ n u u_spent. summed_goes low u u_spent direction site n v (with_ends (bounds_of pointer) v t.locals).ends)))
            (λ v t t_spent. audit_goes low t t_spent audited bounds v)
        value_goes (core.Order comparison left right site) low enough s spent =
            goes_on low (value audited g k left s) _ (value_goes left low enough s spent)
            (λ a t t_spent. goes_on low (value audited g k right t) _ (value_goes right low enough t t_spent)
            (λ b u u_spent. goes_on low (not_null site a u) _ (not_null_goes low u u_spent site a)
            (λ _ w w_spent. goes_on low (not_null site b w) _ (not_null_goes low w w_spent site b)
            (λ _ x x_spent. ordered_goes low x x_spent comparison (Some site) a b))))
        value_goes (core.Allocate count element terminator bounds) low enough s spent =
            goes_on low _ (audit audited bounds)
            (goes_on low (and_then (value audited g k count s) (number_given None)) (allocated trusted_size terminator element)
            (goes_on low (value audited g k count s) (number_given None) (value_goes count low enough s spent) (λ v t t_spent. number_goes low t t_spent None v))
            (λ z t t_spent. allocated_goes low t t_spent trusted_size terminator element z))
            (λ v t t_spent. audit_goes low t t_spent audited bounds v)
        value_goes (core.Length pointer site) low enough s spent =
            goes_on low (value audited g k pointer s) _ (value_goes pointer low enough s spent)
            (λ v t t_spent. length_goes low site v (with_ends (bounds_of pointer) v t.locals).ends t t_spent)
        value_goes (core.Cast pointer bounds) low enough s spent =
            goes_on low _ (audit audited bounds)
            (goes_on low (value audited g k pointer s) _ (value_goes pointer low enough s spent)
            (λ v t t_spent. cast_goes low t t_spent bounds (with_ends (bounds_of pointer) v t.locals)))
            (λ v t t_spent. audit_goes low t t_spent audited bounds v)

        values_go : (es : core.Arguments) (low : ℕ) (enough : budget ≤ low + n) (s : State) → HasSpent budget low s.world → Goes budget low (values audited g k es s)
        values_go core.Done low enough s spent = spent
        values_go (core.More first rest) low enough s spent =
            goes_on low (value audited g k first s) _ (value_goes first low enough s spent)
            (λ v t t_spent. goes_on low (values audited g k rest t) _ (values_go rest low enough t t_spent) (λ vs u u_spent. u_spent))

        place_goes : (p : core.Place) (low : ℕ) (enough : budget ≤ low + n) (s : State) → HasSpent budget low s.world → Goes budget low (place audited g k p s)
        place_goes (core.Direct object offset) low enough s spent = variable_goes low s spent (nat_lt object (length program.objects)) object offset
        place_goes (core.Through pointer index offset site) low enough s spent =
            goes_on low (value audited g k pointer s) _ (value_goes pointer low enough s spent)
            (λ v t t_spent. goes_on low (number_of audited g k index t) _ (index_goes index low enough t t_spent)
            (λ n u u_spent. reached_goes low u u_spent index offset site (record { pointer = with_ends (bounds_of pointer) v t.locals; number = n })))

        index_goes : (index : core.Index) (low : ℕ) (enough : budget ≤ low + n) (s : State) → HasSpent budget low s.world → Goes budget low (number_of audited g k index s)
        index_goes core.First low enough s spent = spent
        index_goes (core.Element number terminated) low enough s spent =
            goes_on low (value audited g k number s) (number_given None) (value_goes number low enough s spent) (λ v t t_spent. number_goes low t t_spent None v)

      pointed_goes : (e : core.Expression) (low : ℕ) (enough : budget ≤ low + n) (s : State) → HasSpent budget low s.world → Goes budget low (pointed audited g k e s)
      pointed_goes e low enough s spent = goes_on low (value audited g k e s) _ (value_goes e low enough s spent) (λ v t t_spent. t_spent)

      target_goes : (p : core.Place) (low : ℕ) (enough : budget ≤ low + n) (s : State) → HasSpent budget low s.world → Goes budget low (target_of audited g k p s)
      target_goes (core.Direct object offset) low enough s spent = goes_on low (variable_at g object offset s) _ (variable_goes low s spent (nat_lt object (length program.objects)) object offset) (λ at t t_spent. t_spent)
      target_goes (core.Through pointer index offset site) low enough s spent =
          goes_on low (pointed audited g k pointer s) _ (pointed_goes pointer low enough s spent)
          (λ p t t_spent. goes_on low (number_of audited g k index t) _ (index_goes index low enough t t_spent) (λ n u u_spent. u_spent))

      -- ---- statements

      set_goes : (low local : ℕ) (v : Value) (s : State) → HasSpent budget low s.world → Goes budget low (set_local local v s)
      set_goes low local v s spent = set_goes_over low s spent (slice_get s.locals local) local v

      store_goes : (low : ℕ) (type : CType) (site : Option Site) (at : ℕ × ℕ) (v : Value) (s : State) → HasSpent budget low s.world → Goes budget low (store_at type site at v s)
      store_goes low type site at v s spent = over_goes low s spent (cell_at s.blocks at.0 at.1) type site v at.0 at.1

      mutual
        effect_goes : (x : core.Statement) (low : ℕ) (enough : budget ≤ low + n) (s : State) → HasSpent budget low s.world → Goes budget low (effect audited g k x s)
        effect_goes core.Nothing low enough s spent = spent
        effect_goes (core.SetLocal local e) low enough s spent =
            goes_on low (value audited g k e s) (set_local local) (value_goes e low enough s spent) (λ v t t_spent. set_goes low local v t t_spent)
        effect_goes (core.Store type p e) low enough s spent =
            goes_on low (target_of audited g k p s) _ (target_goes p low enough s spent)
            (λ q t t_spent. goes_on low (value audited g k e t) _ (value_goes e low enough t t_spent)
            (λ v u u_spent. goes_on low (place_from p q u) _ (place_from_goes low u u_spent p q)
            (λ at w w_spent. goes_on low (storable p q v w) _ (storable_goes low w w_spent p q v) (λ _ x x_spent. store_goes low type (site_of p) at v x x_spent))))
        effect_goes (core.UpdateLocal char local operator e site) low enough s spent =
            goes_on low (given (slice_get s.locals local) s) _ (given_goes low s spent (slice_get s.locals local))
            (λ old t t_spent. goes_on low (value audited g k e t) _ (value_goes e low enough t t_spent)
            (λ v u u_spent. goes_on low (arithmetic_of operator site old v u) _ (arithmetic_goes low u u_spent operator site old v)
            (λ new w w_spent. goes_on low (kept_if char new w) (set_local local) (kept_goes low w w_spent char new) (λ last x x_spent. set_goes low local last x x_spent))))
        effect_goes (core.Update type p operator e site) low enough s spent =
            goes_on low (target_of audited g k p s) _ (target_goes p low enough s spent)
            (λ q t t_spent. goes_on low (place_from p q t) _ (place_from_goes low t t_spent p q)
            (λ at u u_spent. goes_on low (load_at type (Some site) at u) _ (cell_goes low u u_spent type (Some site) (cell_at u.blocks at.0 at.1))
            (λ old w w_spent. goes_on low (value audited g k e w) _ (value_goes e low enough w w_spent)
            (λ v x x_spent. goes_on low (arithmetic_of operator site old v x) _ (arithmetic_goes low x x_spent operator site old v)
            (λ new y y_spent. goes_on low (kept_if (is_char type) new y) _ (kept_goes low y y_spent (is_char type) new)
            (λ kept z z_spent. goes_on low (storable p q kept z) _ (storable_goes low z z_spent p q kept)
            (λ _ last last_spent. store_goes low type (Some site) at kept last last_spent)))))))
        effect_goes (core.Evaluate e) low enough s spent = goes_on low (value audited g k e s) _ (value_goes e low enough s spent) (λ v t t_spent. t_spent)
        effect_goes (core.CallAlone callee arguments) low enough s spent =
            goes_on low (values audited g k arguments s) _ (values_go arguments low enough s spent)
            (λ vs t t_spent. goes_on low (called g k callee vs t) no_result (called_goes low enough callee vs t t_spent) (λ v u u_spent. nothing_goes low u u_spent v))
        effect_goes (core.Print e) low enough s spent = goes_on low (value audited g k e s) printed (value_goes e low enough s spent) (λ v t t_spent. printed_goes low t t_spent v)
        effect_goes (core.PutByte e) low enough s spent = goes_on low (value audited g k e s) put (value_goes e low enough s spent) (λ v t t_spent. put_goes low t t_spent v)
        effect_goes (core.Block xs) low enough s spent = effects_go xs low enough s spent
        effect_goes (core.If condition consequent alternative) low enough s spent =
            goes_on low (value audited g k condition s) _ (value_goes condition low enough s spent)
            (λ v t t_spent. chosen_goes low (truth v) _ _ (effect_goes consequent low enough t t_spent) (effect_goes alternative low enough t t_spent))
        effect_goes (core.Loop condition body step) low enough s spent =
            goes_on low (value audited g k condition s) _ (value_goes condition low enough s spent)
            (λ v t t_spent. chosen_goes low (truth v) _ _
            (lowered low _ (asked_goes (suc low) (spend_tick budget t.world) t _ (tick_answers budget low t.world t_spent)
            (λ _ u u_spent. goes_on (suc low) (effect audited g k body u) _ (effect_goes body (suc low) (omega (arith, enough)) u u_spent)
            (λ flow w w_spent. turned_goes (suc low) w w_spent _ flow
            (goes_on (suc low) (effect audited g k step w) _ (effect_goes step (suc low) (omega (arith, enough)) w w_spent)
            (λ flow' x x_spent. next_goes (suc low) x x_spent (k.turn condition body step) flow' (is.turn (suc low) condition body step x (omega (arith, enough)) x_spent)))))))
            t_spent)
        effect_goes (core.Return e) low enough s spent = goes_on low (value audited g k e s) _ (value_goes e low enough s spent) (λ v t t_spent. t_spent)
        effect_goes core.ReturnNothing low enough s spent = spent
        effect_goes core.Break low enough s spent = spent
        effect_goes core.Continue low enough s spent = spent

        effects_go : (xs : core.Statements) (low : ℕ) (enough : budget ≤ low + n) (s : State) → HasSpent budget low s.world → Goes budget low (effects audited g k xs s)
        effects_go core.NoMore low enough s spent = spent
        effects_go (core.Then first others) low enough s spent =
            goes_on low (effect audited g k first s) _ (effect_goes first low enough s spent)
            (λ flow t t_spent. next_goes low t t_spent (effects audited g k others) flow (effects_go others low enough t t_spent))

      -- ---- functions

      body_goes_if : (low : ℕ) (enough : budget ≤ low + n) (test : Bool) (f : core.Function) (vs : List Value) (s : State) → HasSpent budget low s.world → Goes budget low (body_if audited test g k f vs s)
      body_goes_if low enough false f vs s spent = tt
      body_goes_if low enough true f vs s spent =
          let inside : State = record s { locals = locals_for f.locals vs; depth = s.depth + 1 } in
          goes_on low (and_then (effects audited g k f.body inside) (answer f.result)) (back s)
          (goes_on low (effects audited g k f.body inside) (answer f.result) (effects_go f.body low enough inside spent) (λ flow t t_spent. answer_goes low t t_spent f.result flow))
          (λ v t t_spent. t_spent)

      body_goes : (low : ℕ) (enough : budget ≤ low + n) (o : Option core.Function) (vs : List Value) (s : State) → HasSpent budget low s.world → Goes budget low (body_of audited g k o vs s)
      body_goes low enough None vs s spent = tt
      body_goes low enough (Some f) vs s spent = body_goes_if low enough (fit (parameters_of f) vs) f vs s spent

  -- the sandbox's turn
  sandbox_goes : (low : ℕ) (c : Crossed) (s : State) → Crosses budget low c → Goes budget low (crossed c s)
  sandbox_goes low (Crossed.Returned word w) s h = h
  sandbox_goes low (Crossed.Called fun words w) s h = tt
  sandbox_goes low (Crossed.Over ending w) s h = tt

  knots : (audited : Bool) (program : ProgramOf core.Statements) (sandbox trusted n : ℕ) → IsKnot audited program sandbox trusted n (knot audited (record { program = program; budget = budget; sandbox = sandbox; trusted = trusted }) n)
  knots audited program sandbox trusted zero = record {
    call = λ low function vs s enough spent. absurd (omega (arith, spent.least, spent.most));
    turn = λ low e x y s enough spent. absurd (omega (arith, spent.least, spent.most));
    sandbox = λ low s enough spent. absurd (omega (arith, spent.least, spent.most));
  }
  knots audited program sandbox trusted (suc n) = record {
    call = λ low function vs s enough spent. body_goes audited program sandbox trusted n _ (knots audited program sandbox trusted n) low (omega (arith, enough)) (slice_get program.functions function) vs s spent;
    turn = λ low e x y s enough spent. effect_goes audited program sandbox trusted n _ (knots audited program sandbox trusted n) (core.Loop e x y) low (omega (arith, enough)) s spent;
    sandbox = λ low s enough spent. sandbox_goes low (until_return s.world.acts s.world) s (until_crosses budget low s.world.acts s.world spent);
  }

  exit_goes : (low : ℕ) (v : Option Value) (s : State) → Goes budget low (exit v s)
  exit_goes low (Some (Number z)) s = tt
  exit_goes low (Some Null) s = tt
  exit_goes low (Some (At block byte)) s = tt
  exit_goes low None s = tt

not_short : (budget low : ℕ) {A : Type 0} (o : Result A) → Goes budget low o → o ≡ Short → ⊥
not_short budget low (Gives v s) h e = absurd (cc)
not_short budget low (Ends ending s) h e = absurd (cc)
not_short budget low (Stuck site s) h e = absurd (cc)
not_short budget low (Unsound site s) h e = absurd (cc)
not_short budget low Short h e = h

pub never_short : (audited : Bool) (source : core.Core) (settings : Settings) (inputs : List ℤ) (acts : List Act) → run_of audited source settings inputs acts ≡ Short → ⊥
never_short audited source settings inputs acts =
    let program = parted source in
    let n = settings.budget in
    let start : State = initial program (new_world (replicate settings.sandbox 0) first_offset inputs acts) in
    let spent : HasSpent n 0 start.world = record { least = omega arith; most = omega arith } in
    not_short n 0 _ (goes_on n 0 (body_of audited _ _ (slice_get program.functions program.main) [] start) exit
    (body_goes n audited program settings.sandbox settings.trusted n _ (knots n audited program settings.sandbox settings.trusted n) 0 (omega arith) (slice_get program.functions program.main) [] start spent) (λ v s s_spent. exit_goes n 0 v s))
