-- Where a run ends with a check, it has come to one whose condition is false: an induction over the ticks, and over the tree.
use Rattle.std.proofs.Common.{◌≡◌, ℕ, zero, suc, ◌+◌, ◌*◌, Bool, true, false, ℤ, ◌+ℤ◌, neg_ℤ, List, [], ◌∷◌, length, replicate, Option, Some, None, refl, sym, ap, subst, ◌∙◌}
use Rattle.std.specs.Prelude.{◌==◌, ◌&&◌, ◌||◌, not, nat_lt, slice_get, pos, negsuc, int_div}
use Rattle.std.specs.Ordering.{int_eq}
use Rattle.ckc_text.specs.declared.code.Code.{Code}
use Rattle.ckc_text.specs.declared.code.Code.TheVariants.{C1, C2, C3, C5, C6, C7, C8, C9}
use Rattle.ckc_text.specs.declared.place.Place.{Place}
use Rattle.flat_bytes.specs.Blocks.{first_offset, is_refused}
use Rattle.pointer_modes.specs.Types.{CType, Int, Char, Struct, Pointer}
use Rattle.act_words.specs.declared.ending.Ending.{Ending}
use Rattle.act_words.specs.declared.ending.Ending.TheVariants.{Check, Exit, Stop as Stopped}
use Rattle.act_words.specs.declared.operator.Operator.{Operator}
use Rattle.act_words.specs.declared.operator.Operator.TheVariants as operators
use Rattle.act_words.specs.declared.operator.ArithmeticOperator.TheVariants as arithmetics
use Rattle.act_words.specs.declared.operator.Comparison.{Comparison}
use Rattle.act_words.specs.Acts.{Act, Go, Read, Write, Call, Return, Stop, Release, Passed}
use Rattle.act_words.specs.Acting.{BeforeTouch, InSandbox, act_before_touch, act_in_sandbox, waits_or_ends, keeps_or_ends, shown, written}
use Rattle.act_words.specs.Arithmetic as arithmetic
use Rattle.act_words.specs.Checks.{held_if, is_word_number}
use Rattle.act_words.specs.Numbers.{signed}
use Rattle.act_words.specs.Touches.{Asked, Got, Ended, Crossed, asking, on_from, before_touch, touch, on_keeps, until_return, spent_if, spend_tick, entered_if, enter_call, input_from, next_input}
use Rattle.act_words.specs.World.{World, new_world, taken_one}
use Rattle.ckc_core.specs.declared.program.Callee.{Callee}
use Rattle.ckc_core.specs.declared.program.Callee.TheVariants as callees
use Rattle.ckc_core.specs.declared.program.Direction.{Direction}
use Rattle.ckc_core.specs.declared.program.Direction.TheVariants as directions
use Rattle.ckc_core.specs.declared.program.PointerBounds.{PointerBounds}
use Rattle.ckc_core.specs.declared.program.Site.{Site}
use Rattle.ckc_core.specs.declared.program.Terminator.{Terminator}
use Rattle.ckc_core.specs.Bounds.{Ends as EndsOf, Pointed, ends_at, with_ends}
use Rattle.ckc_core.specs.Core as core
use Rattle.ckc_core.specs.FailedChecks as failed
use Rattle.ckc_core.specs.FailedChecks.{HasNoResult, IsOutside, OverTerminator, Part, OfExpression, OfArguments, OfPlace, OfTarget, OfStatement, OfStatements, OfCall, CallsWith, BeginsTurn, EndsBody, Loads, Comes, ComesDeeper, Breaks, Fails, FailsAt, FailedChecks}
use Rattle.ckc_core.specs.Meaning.{Knot, Setting, Target, audit, body_if, body_of, bounds_of, cast_if, cast_to, cast_within, effect, effects, element, element_within, end_kept, knot, length_of, number_of, place, place_from, pointed, reached, site_of, storable, summed, target_of, value, values}
use Rattle.ckc_core.specs.Outcome.{Gives, Ends, Stuck, Unsound, Short, and_then}
use Rattle.ckc_core.specs.Pointers.{allocated, are_within, before_zero, bytes_of_block, byte_read, cell_behind, checked_if, counted, counted_from, counted_if, counter_behind, distance, element_size, is_terminated, lies_in, lies_up_to, made_elements, made_if, not_null, number_given, ordered, ordered_if, pointer_at, pointer_if, reaches, read_as}
use Rattle.ckc_core.specs.Programs.{Import, Initial, parted}
use Rattle.ckc_core.specs.States.{Value, Number, Null, At, Cell, Local, State, cell_at, has_type, in_world, same_type}
use Rattle.ckc_core.specs.Steps.{Result, Flow, Next, Broke, Continued, Returned, answer, answer_if, arithmetic_of, asked, back, behind_turn, call_tainted, called, checked, choose, compared, complemented, cross, cross_if, crossed, enter_if, exit, fit, fits_result, given, initial, is_char, is_zero, kept_if, leaves_zero, load_at, locals_for, low_byte_of, negated, no_result, on_next, parameters_of, passed, place_at, place_if, pointer_to, printed, put, reply_as, result_given, result_of, same_place, set_if, set_local, set_over, setting_of, store_at, store_if, store_over, takes, test_given, truth, value_if, value_in, variable_if, words_of}

-- ---- what a check says of an outcome that it ends

abbrev OfEnding : (Code → Place → Type 0) → Ending → Type 0
OfEnding P (Check code place) = P code place
OfEnding P (Exit number) = Unit {0}
OfEnding P (Stopped code act) = Unit {0}

-- where the outcome is a check, this holds of its code and its place
abbrev pub Told : (Code → Place → Type 0) → {A : Type 0} → Result A → Type 0
Told P (Gives v s) = Unit {0}
Told P (Ends ending s) = OfEnding P ending
Told P (Stuck site s) = Unit {0}
Told P (Unsound site s) = Unit {0}
Told P Short = Unit {0}

wider_ending : (P Q : Code → Place → Type 0) → ((code : Code) (place : Place) → P code place → Q code place) → (ending : Ending) → OfEnding P ending → OfEnding Q ending
wider_ending P Q wide (Check code place) h = wide code place h
wider_ending P Q wide (Exit number) h = tt
wider_ending P Q wide (Stopped code act) h = tt

wider : {A : Type 0} (P Q : Code → Place → Type 0) → ((code : Code) (place : Place) → P code place → Q code place) → (o : Result A) → Told P o → Told Q o
wider P Q wide (Gives v s) h = tt
wider P Q wide (Ends ending s) h = wider_ending P Q wide ending h
wider P Q wide (Stuck site s) h = tt
wider P Q wide (Unsound site s) h = tt
wider P Q wide Short h = tt

-- no check
abbrev IsNone : Code → Place → Type 0
IsNone code place = ⊥

-- the world ends a run with no check
abbrev IsQuiet : {A : Type 0} → Asked A → Type 0
IsQuiet (Got v w) = Unit {0}
IsQuiet (Ended ending w) = OfEnding IsNone ending

asking_quiet : {A B : Type 0} (o : Asked A) (next : A → World → Asked B) → IsQuiet o → ((v : A) (w : World) → IsQuiet (next v w)) → IsQuiet (asking o next)
asking_quiet (Got v w) next h more = more v w
asking_quiet (Ended ending w) next h more = h

abbrev QuietBefore : BeforeTouch → Type 0
QuietBefore (BeforeTouch.Waits w) = Unit {0}
QuietBefore (BeforeTouch.Touches w) = Unit {0}
QuietBefore (BeforeTouch.Ends ending w) = OfEnding IsNone ending

waits_quiet : (o : Option World) (w : World) → QuietBefore (waits_or_ends o w)
waits_quiet None w = tt
waits_quiet (Some after) w = tt

act_quiet : (act : Act) (w : World) → QuietBefore (act_before_touch act w)
act_quiet Go w = tt
act_quiet (Read at len) w = waits_quiet (shown at len w) w
act_quiet (Write at bytes) w = waits_quiet (written at bytes w) w
act_quiet (Call fun args) w = tt
act_quiet (Return value) w = tt
act_quiet Stop w = tt

from_quiet : (b : BeforeTouch) (next : World → Asked (Unit {0})) → QuietBefore b → ((w : World) → IsQuiet (next w)) → IsQuiet (on_from b next)
from_quiet (BeforeTouch.Waits w) next h more = more w
from_quiet (BeforeTouch.Touches w) next h more = tt
from_quiet (BeforeTouch.Ends ending w) next h more = h

before_quiet : (acts : List Act) (w : World) → IsQuiet (before_touch acts w)
before_quiet [] w = tt
before_quiet (act ∷ acts) w = from_quiet (act_before_touch act (taken_one act acts w)) (before_touch acts) (act_quiet act (taken_one act acts w)) (before_quiet acts)

touch_quiet : (release : Release) (w : World) → IsQuiet (touch release w)
touch_quiet release w = asking_quiet (before_touch w.acts w) _ (before_quiet w.acts w) (λ _ v. tt)

spent_quiet : (within : Bool) (w : World) → IsQuiet (spent_if within w)
spent_quiet true w = tt
spent_quiet false w = tt

tick_quiet : (budget : ℕ) (w : World) → IsQuiet (spend_tick budget w)
tick_quiet budget w = spent_quiet (nat_lt w.ticks budget) w

entered_quiet : (within : Bool) (w : World) → IsQuiet (entered_if within w)
entered_quiet true w = tt
entered_quiet false w = tt

enter_quiet : (depth : ℕ) (w : World) → IsQuiet (enter_call depth w)
enter_quiet depth w = entered_quiet (nat_lt depth 1000) w

input_quiet : (inputs : List ℤ) (w : World) → IsQuiet (input_from inputs w)
input_quiet [] w = tt
input_quiet (number ∷ inputs) w = tt

-- the sandbox's turn
abbrev QuietInside : InSandbox → Type 0
QuietInside (InSandbox.Keeps w) = Unit {0}
QuietInside (InSandbox.Answers word w) = Unit {0}
QuietInside (InSandbox.Calls fun words w) = Unit {0}
QuietInside (InSandbox.Ends ending w) = OfEnding IsNone ending

keeps_quiet : (o : Option World) (w : World) → QuietInside (keeps_or_ends o w)
keeps_quiet None w = tt
keeps_quiet (Some after) w = tt

inside_quiet : (act : Act) (w : World) → QuietInside (act_in_sandbox act w)
inside_quiet Go w = tt
inside_quiet (Read at len) w = keeps_quiet (shown at len w) w
inside_quiet (Write at bytes) w = keeps_quiet (written at bytes w) w
inside_quiet (Call fun args) w = tt
inside_quiet (Return value) w = tt
inside_quiet Stop w = tt

abbrev QuietCrossed : Crossed → Type 0
QuietCrossed (Crossed.Returned word w) = Unit {0}
QuietCrossed (Crossed.Called fun words w) = Unit {0}
QuietCrossed (Crossed.Over ending w) = OfEnding IsNone ending

keeps_on : (b : InSandbox) (next : World → Crossed) → QuietInside b → ((w : World) → QuietCrossed (next w)) → QuietCrossed (on_keeps b next)
keeps_on (InSandbox.Keeps w) next h more = more w
keeps_on (InSandbox.Answers word w) next h more = tt
keeps_on (InSandbox.Calls fun words w) next h more = tt
keeps_on (InSandbox.Ends ending w) next h more = h

until_quiet : (acts : List Act) (w : World) → QuietCrossed (until_return acts w)
until_quiet [] w = tt
until_quiet (act ∷ acts) w = keeps_on (act_in_sandbox act (taken_one act acts w)) (until_return acts) (inside_quiet act (taken_one act acts w)) (until_quiet acts)

both_of : (a b : Bool) → (a || not b) ≡ false → (a ≡ false) × (b ≡ true)
both_of true true e = absurd (cc)
both_of true false e = absurd (cc)
both_of false true e = (refl, refl)
both_of false false e = absurd (cc)

module _ (P : Code → Place → Type 0) where
  none_ending : (ending : Ending) → OfEnding IsNone ending → OfEnding P ending
  none_ending ending h = wider_ending IsNone P (λ code place none. absurd none) ending h

  on : {A B : Type 0} (o : Result A) (next : A → State → Result B) → Told P o → ((v : A) (s : State) → o ≡ Gives v s → Told P (next v s)) → Told P (and_then o next)
  on (Gives v s) next h more = more v s refl
  on (Ends ending s) next h more = h
  on (Stuck site s) next h more = tt
  on (Unsound site s) next h more = tt
  on Short next h more = tt

  asked_on : {A B : Type 0} (o : Asked A) (s : State) (next : A → State → Result B) → IsQuiet o → ((v : A) (w : World) → o ≡ Got v w → Told P (next v (in_world w s))) → Told P (asked o s next)
  asked_on (Got v w) s next h more = more v w refl
  asked_on (Ended ending w) s next h more = none_ending ending h

  chosen : {A : Type 0} (test : Bool) (first second : Result A) → (test ≡ true → Told P first) → (test ≡ false → Told P second) → Told P (choose test first second)
  chosen true first second h other = h refl
  chosen false first second h other = other refl

  sandbox_told : (c : Crossed) (s : State) → QuietCrossed c → Told P (crossed c s)
  sandbox_told (Crossed.Returned word w) s h = tt
  sandbox_told (Crossed.Called fun words w) s h = tt
  sandbox_told (Crossed.Over ending w) s h = none_ending ending h

  -- ---- steps in a state

  module _ (s : State) where
    given_told : (o : Option Local) → Told P (given o s)
    given_told None = tt
    given_told (Some v) = tt

    held_told : (test : Bool) (z : ℤ) (code : Code) (place : Place) → (test ≡ false → P code place) → Told P (checked (held_if test z (Check code place)) s)
    held_told true z code place h = tt
    held_told false z code place h = h refl

    divided_told : (is_null fits : Bool) (z : ℤ) (place : Place) → (is_null ≡ true → P C7 place) → (is_null ≡ false → fits ≡ false → P C6 place)
        → Told P (checked (arithmetic.checked_then (not is_null) (Check C7 place) (held_if fits z (Check C6 place))) s)
    divided_told true fits z place null over = null refl
    divided_told false fits z place null over = held_told fits z C6 place (over refl)

    value_told_if : (test : Bool) (site : Option Site) (v : Value) → Told P (value_if test site v s)
    value_told_if true site v = tt
    value_told_if false site v = tt

    cell_told : (type : CType) (site : Option Site) (o : Option Cell) → Told P (value_in type site o s)
    cell_told type site None = tt
    cell_told type site (Some cell) = value_told_if (same_type type cell.type) site cell.value

    placed_told : (o : Option Cell) (site : Option Site) (block byte : ℕ) → Told P (place_if o site block byte s)
    placed_told None site block byte = tt
    placed_told (Some cell) site block byte = tt

    direct_told : (site : Option Site) (block byte : ℕ) → Told P (place_at site block byte s)
    direct_told site block byte = placed_told (cell_at s.blocks block byte) site block byte

    variable_told : (test : Bool) (object offset : ℕ) → Told P (variable_if test object offset s)
    variable_told true object offset = direct_told None object offset
    variable_told false object offset = tt

    number_told : (site : Option Site) (v : Value) → Told P (number_given site v s)
    number_told site (Number z) = tt
    number_told site Null = tt
    number_told site (At block byte) = tt

    number_is : (site : Option Site) (v : Value) (n : ℤ) (t : State) → number_given site v s ≡ Gives n t → (v ≡ Number n) × (s ≡ t)
    number_is site (Number z) n t e = (cc, cc)
    number_is site Null n t e = absurd (cc)
    number_is site (At block byte) n t e = absurd (cc)

    checked_told : {A : Type 0} (test : Bool) (code : Code) (site : Site) (next : Result A) → (test ≡ false → P code site.place) → Told P next → Told P (checked_if test code site next s)
    checked_told true code site next h more = more
    checked_told false code site next h more = h refl

    cell_behind_told : (site : Option Site) (block : ℕ) (byte : ℤ) (offset : ℕ) → Told P (cell_behind site block byte offset s)
    cell_behind_told site block (pos byte) offset = direct_told site block (byte + offset)
    cell_behind_told site block (negsuc byte) offset = tt

    pointer_told_if : (test : Bool) (site : Option Site) (block byte : ℕ) → Told P (pointer_if test site block byte s)
    pointer_told_if true site block byte = tt
    pointer_told_if false site block byte = tt

    pointer_at_told : (site : Option Site) (block : ℕ) (byte : ℤ) → Told P (pointer_at site block byte s)
    pointer_at_told site block (pos byte) = pointer_told_if (reaches (slice_get s.blocks block) byte) site block byte
    pointer_at_told site block (negsuc byte) = tt

    -- an access whose checks fail
    first_told : (offset : ℕ) (site : Site) (v : Value) → (v ≡ Null → P C1 site.place) → Told P (element offset site v s)
    first_told offset site (Number z) null = tt
    first_told offset site Null null = null refl
    first_told offset site (At block byte) null = direct_told (Some site) block (byte + offset)

    within_told : (terminated : Bool) (offset : ℕ) (site : Site) (n : ℤ) (v : Value) (ends : Option EndsOf) → (v ≡ Null → P C1 site.place)
        → ((block byte : ℕ) (e : EndsOf) → v ≡ At block byte → ends ≡ Some e → lies_in terminated e (pos byte +ℤ distance directions.Forward e.size n) ≡ false → P C2 site.place)
        → Told P (element_within terminated offset site n v ends s)
    within_told terminated offset site n (Number z) ends null out = tt
    within_told terminated offset site n Null ends null out = null refl
    within_told terminated offset site n (At block byte) None null out = tt
    within_told terminated offset site n (At block byte) (Some e) null out =
        let x = pos byte +ℤ distance directions.Forward e.size n in
        checked_told (lies_in terminated e x) C2 site (cell_behind (Some site) block x offset s) (out block byte e refl refl) (cell_behind_told (Some site) block x offset)

    reached_told : (index : core.Index) (offset : ℕ) (site : Site) (q : Target) → ((code : Code) → IsOutside index q code → P code site.place) → Told P (reached index offset site q s)
    reached_told core.First offset site q out = first_told offset site q.pointer.value (λ e. out C1 (failed.null e))
    reached_told (core.Element number terminated) offset site q out =
        within_told terminated offset site q.number q.pointer.value q.pointer.ends (λ e. out C1 (failed.null e)) (λ block byte e here ends low. out C2 (failed.outside here ends low))

    summed_told : (direction : Direction) (site : Site) (n : ℤ) (v : Value) (ends : Option EndsOf) → (v ≡ Null → P C1 site.place)
        → ((block byte : ℕ) (e : EndsOf) → v ≡ At block byte → ends ≡ Some e → lies_up_to e (pos byte +ℤ distance direction e.size n) ≡ false → P C2 site.place)
        → Told P (summed direction site n v ends s)
    summed_told direction site n (Number z) ends null out = tt
    summed_told direction site n Null ends null out = null refl
    summed_told direction site n (At block byte) None null out = tt
    summed_told direction site n (At block byte) (Some e) null out =
        let x = pos byte +ℤ distance direction e.size n in
        checked_told (lies_up_to e x) C2 site (pointer_at (Some site) block x s) (out block byte e refl refl) (pointer_at_told (Some site) block x)

    not_null_told : (site : Site) (v : Value) → (v ≡ Null → P C1 site.place) → Told P (not_null site v s)
    not_null_told site (Number z) null = tt
    not_null_told site Null null = null refl
    not_null_told site (At block byte) null = tt

    ordered_told_if : (test : Bool) (comparison : Comparison) (site : Option Site) (byte other : ℕ) → Told P (ordered_if test comparison site byte other s)
    ordered_told_if true comparison site byte other = tt
    ordered_told_if false comparison site byte other = tt

    ordered_told : (comparison : Comparison) (site : Option Site) (v w : Value) → Told P (ordered comparison site v w s)
    ordered_told comparison site (Number z) w = tt
    ordered_told comparison site Null w = tt
    ordered_told comparison site (At block byte) (Number z) = tt
    ordered_told comparison site (At block byte) Null = tt
    ordered_told comparison site (At block byte) (At other byte') = ordered_told_if (block == other) comparison site byte byte'

    made_told_if : (test terminated : Bool) (n : ℕ) (element : List Initial) → Told P (made_if test terminated n element s)
    made_told_if true terminated n element = tt
    made_told_if false terminated n element = tt

    allocated_told : (size : ℕ) (terminator : Terminator) (element : List Initial) (z : ℤ) → Told P (allocated size terminator element z s)
    allocated_told size terminator element (negsuc n) = tt
    allocated_told size terminator element (pos zero) = tt
    allocated_told size terminator element (pos (suc n)) =
        let terminated = is_terminated terminator in
        let m = before_zero terminator (suc n) in
        made_told_if (is_refused size (counter_behind first_offset s.blocks) (made_elements terminated m * element_size element)) terminated m element

    cast_told_if : (test : Bool) (site : Site) (v : Value) (old new : EndsOf) → (are_within old new ≡ false → P C5 site.place) → Told P (cast_if test site v old new s)
    cast_told_if true site v old new out = checked_told (are_within old new) C5 site (Gives v s) out tt
    cast_told_if false site v old new out = tt

    cast_told_within : (site : Site) (v : Value) (old new : Option EndsOf)
        → ((o n : EndsOf) → old ≡ Some o → new ≡ Some n → are_within o n ≡ false → P C5 site.place) → Told P (cast_within site v old new s)
    cast_told_within site v None new out = tt
    cast_told_within site v (Some old) None out = tt
    cast_told_within site v (Some old) (Some new) out = cast_told_if (old.size == new.size) site v old new (out old new refl refl)

    cast_told_of : (bounds : PointerBounds) (v : Value) (ends : Option EndsOf)
        → ((block byte : ℕ) (o n : EndsOf) → v ≡ At block byte → ends ≡ Some o → ends_at bounds s.locals block byte ≡ Some n → are_within o n ≡ false → P C5 bounds.site.place)
        → Told P (cast_to (Some bounds) (record { value = v; ends = ends }) s)
    cast_told_of bounds (Number z) ends out = tt
    cast_told_of bounds Null ends out = tt
    cast_told_of bounds (At block byte) ends out = cast_told_within bounds.site (At block byte) ends (ends_at bounds s.locals block byte) (λ o n. out block byte o n refl)

    audit_told : (bounds : Option PointerBounds) (v : Value) → Told P (audit false bounds v s)
    audit_told None v = tt
    audit_told (Some p) v = tt

    test_told : (o : Option Bool) → Told P (test_given o s)
    test_told None = tt
    test_told (Some test) = tt

    operation_told : (operator : Operator) (site : Site) (a b : ℤ) → ((code : Code) → HasNoResult operator a b code → P code site.place) → Told P (checked (result_of operator site a b) s)
    operation_told (operators.Bitwise operator) site a b out = tt
    operation_told (operators.Arithmetic arithmetics.Add) site a b out = held_told _ _ C6 site.place (λ e. out C6 (failed.sum e))
    operation_told (operators.Arithmetic arithmetics.Subtract) site a b out = held_told _ _ C6 site.place (λ e. out C6 (failed.difference e))
    operation_told (operators.Arithmetic arithmetics.Multiply) site a b out = held_told _ _ C6 site.place (λ e. out C6 (failed.product e))
    operation_told (operators.Arithmetic arithmetics.Divide) site a b out =
        divided_told (arithmetic.is_zero b) (is_word_number (int_div a b)) _ site.place (λ e. out C7 (failed.divided_by_zero e)) (λ e f. out C6 (failed.quotient e f))
    operation_told (operators.Arithmetic arithmetics.Remainder) site a b out =
        divided_told (arithmetic.is_zero b) (is_word_number (int_div a b)) _ site.place (λ e. out C7 (failed.remainder_by_zero e)) (λ e f. out C6 (failed.remainder e f))
    operation_told (operators.Arithmetic arithmetics.ShiftLeft) site a b out = held_told _ _ C8 site.place (λ e. out C8 (failed.shift_left e))
    operation_told (operators.Arithmetic arithmetics.ShiftRight) site a b out = held_told _ _ C8 site.place (λ e. out C8 (failed.shift_right e))

    arithmetic_told : (operator : Operator) (site : Site) (v w : Value) → ((a b : ℤ) (code : Code) → v ≡ Number a → w ≡ Number b → HasNoResult operator a b code → P code site.place)
        → Told P (arithmetic_of operator site v w s)
    arithmetic_told operator site (Number a) (Number b) out = operation_told operator site a b (λ code. out a b code refl refl)
    arithmetic_told operator site (Number a) Null out = tt
    arithmetic_told operator site (Number a) (At block byte) out = tt
    arithmetic_told operator site Null w out = tt
    arithmetic_told operator site (At block byte) w out = tt

    compared_told : (comparison : Comparison) (v w : Value) → Told P (compared comparison v w s)
    compared_told comparison (Number a) (Number b) = tt
    compared_told comparison (Number a) Null = tt
    compared_told comparison (Number a) (At block byte) = tt
    compared_told comparison Null w = tt
    compared_told comparison (At block byte) w = tt

    negated_told : (site : Site) (v : Value) → ((a : ℤ) → v ≡ Number a → is_word_number (neg_ℤ a) ≡ false → P C6 site.place) → Told P (negated site v s)
    negated_told site (Number a) out = held_told _ _ C6 site.place (out a refl)
    negated_told site Null out = tt
    negated_told site (At block byte) out = tt

    complemented_told : (v : Value) → Told P (complemented v s)
    complemented_told (Number a) = tt
    complemented_told Null = tt
    complemented_told (At block byte) = tt

    byte_told : (v : Value) → Told P (low_byte_of v s)
    byte_told (Number a) = tt
    byte_told Null = tt
    byte_told (At block byte) = tt

    result_told : (o : Option Value) → Told P (result_given o s)
    result_told None = tt
    result_told (Some v) = tt

    store_told_if : (test : Bool) (site : Option Site) (block byte : ℕ) (v : Value) → Told P (store_if test site block byte v s)
    store_told_if true site block byte v = tt
    store_told_if false site block byte v = tt

    over_told : (o : Option Cell) (type : CType) (site : Option Site) (v : Value) (block byte : ℕ) → Told P (store_over o type site v block byte s)
    over_told None type site v block byte = tt
    over_told (Some old) type site v block byte =
        store_told_if (same_type type old.type && (has_type type v && leaves_zero (slice_get s.blocks block) byte v)) site block byte v

    set_told_if : (test : Bool) (old : Local) (local : ℕ) (v : Value) → Told P (set_if test old local v s)
    set_told_if true old local v = tt
    set_told_if false old local v = tt

    set_told_over : (o : Option Local) (local : ℕ) (v : Value) → Told P (set_over o local v s)
    set_told_over None local v = tt
    set_told_over (Some old) local v = set_told_if (has_type old.type v) old local v

    kept_told : (char : Bool) (v : Value) → Told P (kept_if char v s)
    kept_told true v = byte_told v
    kept_told false v = tt

    printed_told : (v : Value) → Told P (printed v s)
    printed_told (Number z) = tt
    printed_told Null = tt
    printed_told (At block byte) = tt

    put_told : (v : Value) → Told P (put v s)
    put_told (Number z) = tt
    put_told Null = tt
    put_told (At block byte) = tt

    nothing_told : (o : Option Value) → Told P (no_result o s)
    nothing_told None = tt
    nothing_told (Some v) = tt

    answer_told_if : (test : Bool) (v : Option Value) → Told P (answer_if test v s)
    answer_told_if true v = tt
    answer_told_if false v = tt

    answer_told : (result : Option CType) (flow : Flow) → Told P (answer result flow s)
    answer_told result Next = tt
    answer_told result (Returned v) = answer_told_if (fits_result result v) v
    answer_told result Broke = tt
    answer_told result Continued = tt

    next_told : (rest : State → Result Flow) (flow : Flow) → (flow ≡ Next → Told P (rest s)) → Told P (on_next rest flow s)
    next_told rest Next h = h refl
    next_told rest Broke h = tt
    next_told rest Continued h = tt
    next_told rest (Returned v) h = tt

    turned_told : (further : State → Result Flow) (flow : Flow) → (failed.GoesOn flow → Told P (further s)) → Told P (behind_turn further flow s)
    turned_told further Next h = h failed.next
    turned_told further Continued h = h failed.continued
    turned_told further Broke h = tt
    turned_told further (Returned v) h = tt

    end_told : (site : Site) (n : ℤ) (v w : Value) (ends : Option EndsOf)
        → ((block byte : ℕ) (e : EndsOf) → w ≡ At block byte → ends ≡ Some e → is_zero v ≡ false → int_eq (pos byte +ℤ distance directions.Forward e.size n) e.high ≡ true → P C3 site.place)
        → Told P (end_kept site n v w ends s)
    end_told site n v (Number z) ends over = tt
    end_told site n v Null ends over = tt
    end_told site n v (At block byte) None over = tt
    end_told site n v (At block byte) (Some e) over =
        let at_end = int_eq (pos byte +ℤ distance directions.Forward e.size n) e.high in
        checked_told (is_zero v || not at_end) C3 site (Gives tt s) (λ h. let both = both_of (is_zero v) at_end h in over block byte e refl refl both.0 both.1) tt

    exit_told : (v : Option Value) → Told P (exit v s)
    exit_told (Some (Number z)) = tt
    exit_told (Some Null) = tt
    exit_told (Some (At block byte)) = tt
    exit_told None = tt

  -- each byte that is read costs a tick
  counted_told_if : (test : Bool) (site : Option Site) (n : ℕ) (more : Result Value) (s : State) → Told P more → Told P (counted_if test site n more s)
  counted_told_if true site n more s h = tt
  counted_told_if false site n more s h = h

  read_told : (type : CType) (v : Value) (site : Option Site) (n : ℕ) (more : Result Value) (s : State) → Told P more → Told P (read_as type v site n more s)
  read_told Int v site n more s h = tt
  read_told Char (Number z) site n more s h = counted_told_if (is_zero (Number z)) site n more s h
  read_told Char Null site n more s h = tt
  read_told Char (At block byte) site n more s h = tt
  read_told (Struct number) v site n more s h = tt
  read_told (Pointer mode kind target) v site n more s h = tt

  byte_read_told : (o : Option Cell) (site : Option Site) (n : ℕ) (more : Result Value) (s : State) → Told P more → Told P (byte_read o site n more s)
  byte_read_told None site n more s h = tt
  byte_read_told (Some cell) site n more s h = read_told cell.type cell.value site n more s h

  counted_told : (more budget : ℕ) (site : Option Site) (block byte n : ℕ) (s : State) → Told P (counted_from more budget site block byte n s)
  counted_told zero budget site block byte n s = tt
  counted_told (suc more) budget site block byte n s =
      asked_on (spend_tick budget s.world) s _ (tick_quiet budget s.world)
      (λ _ w _. byte_read_told (cell_at (in_world w s).blocks block byte) site n _ (in_world w s) (counted_told more budget site block (byte + 1) (n + 1) (in_world w s)))

  length_told : (budget : ℕ) (site : Site) (v : Value) (ends : Option EndsOf) (s : State) → (v ≡ Null → P C1 site.place)
      → ((block byte : ℕ) (e : EndsOf) → v ≡ At block byte → ends ≡ Some e → lies_up_to e (pos byte) ≡ false → P C2 site.place) → Told P (length_of budget site v ends s)
  length_told budget site (Number z) ends s null out = tt
  length_told budget site Null ends s null out = null refl
  length_told budget site (At block byte) None s null out = tt
  length_told budget site (At block byte) (Some e) s null out =
      checked_told s (lies_up_to e (pos byte)) C2 site (counted budget (Some site) block byte s) (out block byte e refl refl) (counted_told (suc (bytes_of_block (slice_get s.blocks block))) budget (Some site) block byte 0 s)

  -- ---- places

  -- an access through a place whose checks fail
  abbrev Outside : core.Place → Target → Type 0
  Outside (core.Direct object offset) q = Unit {0}
  Outside (core.Through e index offset site) q = (code : Code) → IsOutside index q code → P code site.place

  abbrev Over : core.Place → Target → Value → Type 0
  Over (core.Direct object offset) q v = Unit {0}
  Over (core.Through e index offset site) q v = OverTerminator index q v → P C3 site.place

  place_from_told : (p : core.Place) (q : Target) (s : State) → Outside p q → Told P (place_from p q s)
  place_from_told (core.Direct object offset) q s out = direct_told s None object offset
  place_from_told (core.Through e index offset site) q s out = reached_told s index offset site q out

  storable_told : (p : core.Place) (q : Target) (v : Value) (s : State) → Over p q v → Told P (storable p q v s)
  storable_told (core.Direct object offset) q v s over = tt
  storable_told (core.Through e core.First offset site) q v s over = tt
  storable_told (core.Through e (core.Element number false) offset site) q v s over = tt
  storable_told (core.Through e (core.Element number true) offset site) q v s over =
      end_told s site q.number v q.pointer.value q.pointer.ends (λ block byte e here ends zero at. over (failed.at_end here ends zero at))

  -- ---- replies

  -- what a reply that is no `char` says, where the same call of a function that gives an `int` comes to this outcome
  abbrev Replies : Option CType → Site → Result (Option Value) → Type 0
  Replies result site o = (reply : ℕ) (u : State) → result ≡ Some Char → o ≡ Gives (Some (Number (signed reply))) u → nat_lt reply 256 ≡ false → P C9 site.place

  reply_told : (result : Option CType) (site : Site) (reply : ℕ) (s : State) → Replies result site (reply_as (Some Int) site reply s) → Told P (reply_as result site reply s)
  reply_told None site reply s out = tt
  reply_told (Some Int) site reply s out = tt
  reply_told (Some Char) site reply s out = by_size (nat_lt reply 256) refl
    where
      by_size : (test : Bool) → nat_lt reply 256 ≡ test → Told P (reply_as (Some Char) site reply s)
      by_size true test = rw test tt
      by_size false test = rw test (out reply s refl refl test)
  reply_told (Some (Struct number)) site reply s out = tt
  reply_told (Some (Pointer mode kind target)) site reply s out = tt

  asked_replies : {A : Type 0} (result : Option CType) (site : Site) (o : Asked A) (s : State) (next next' : A → State → Result (Option Value)) → IsQuiet o
      → ((v : A) (t : State) → Replies result site (next' v t) → Told P (next v t)) → Replies result site (asked o s next') → Told P (asked o s next)
  asked_replies result site (Got v w) s next next' h more out = more v (in_world w s) out
  asked_replies result site (Ended ending w) s next next' h more out = none_ending ending h

-- ---- the induction

-- the evaluation of a part from a state comes to a check that fails, with this code and at this place
abbrev pub FailsFrom : Setting → ℕ → Part → State → Code → Place → Type 0
FailsFrom g n x s code place = (site : Site) × (site.place ≡ place) × Fails g n x s code site

breaks : (g : Setting) (n : ℕ) (x : Part) (s : State) (code : Code) (site : Site) → Breaks g (knot false g n) x s code site → FailsFrom g n x s code site.place
breaks g n x s code site h = (site, refl, failed.itself h)

within : {A : Type 0} (g : Setting) (n : ℕ) (x y : Part) (s t : State) (o : Result A) → Comes g (knot false g n) x s y t → Told (FailsFrom g n y t) o → Told (FailsFrom g n x s) o
within g n x y s t o comes h = wider (FailsFrom g n y t) (FailsFrom g n x s) (λ code place f. (f.0, f.1, failed.inside comes f.2)) o h

-- what calls, further turns and the sandbox's turns say behind a tick
pub record IsKnot (g : Setting) (n : ℕ) : Type 0 where
  pub call : (x : Part) (s : State) (f : ℕ) (vs : List Value) (u : State) → ComesDeeper g (knot false g n) x s (OfCall f vs) u → Told (FailsFrom g n x s) ((knot false g n).call f vs u)
  pub turn : (x : Part) (s : State) (e : core.Expression) (y z : core.Statement) (u : State) → ComesDeeper g (knot false g n) x s (OfStatement (core.Loop e y z)) u
      → Told (FailsFrom g n x s) ((knot false g n).turn e y z u)
  pub sandbox : (s : State) → Told IsNone ((knot false g n).sandbox s)

module _ (g : Setting) (n : ℕ) (is : IsKnot g n) where
  abbrev k : Knot
  k = knot false g n

  -- ---- calls

  passed_told : (P : Code → Place → Type 0) (i : Import) (site : Site) (s : State) → Replies P i.result site (passed k (record i { result = Some Int }) site s) → Told P (passed k i site s)
  passed_told P i site s out = by_sandbox (k.sandbox (record s { depth = s.depth + 1 })) (wider IsNone P (λ code place none. absurd none) (k.sandbox (record s { depth = s.depth + 1 })) (is.sandbox (record s { depth = s.depth + 1 }))) out
    where
      by_sandbox : (o : Result ℕ) → Told P o → Replies P i.result site (and_then (and_then o (back s)) (reply_as (Some Int) site)) → Told P (and_then (and_then o (back s)) (reply_as i.result site))
      by_sandbox (Gives reply u) h out = reply_told P i.result site reply (record u { locals = s.locals; depth = s.depth }) out
      by_sandbox (Ends ending u) h out = h
      by_sandbox (Stuck at u) h out = tt
      by_sandbox (Unsound at u) h out = tt
      by_sandbox Short h out = tt

  cross_told : (P : Code → Place → Type 0) (import : ℕ) (i : Import) (site : Site) (words : Option (List ℕ)) (s : State)
      → Replies P i.result site (cross g k import (record i { result = Some Int }) site words s) → Told P (cross g k import i site words s)
  cross_told P import i site None s out = tt
  cross_told P import i site (Some words) s out =
      asked_replies P i.result site (spend_tick g.budget s.world) s _ _ (tick_quiet g.budget s.world)
      (λ _ t. asked_replies P i.result site (enter_call t.depth t.world) t _ _ (enter_quiet t.depth t.world)
      (λ _ u. asked_replies P i.result site (touch (Passed import words) u.world) u _ _ (touch_quiet (Passed import words) u.world) (λ _ v. passed_told P i site v))) out

  crossed_told : (P : Code → Place → Type 0) (test : Bool) (import : ℕ) (i : Import) (site : Site) (vs : List Value) (s : State)
      → Replies P i.result site (cross g k import (record i { result = Some Int }) site (words_of vs) s) → Told P (cross_if test g k import i site vs s)
  crossed_told P true import i site vs s out = cross_told P import i site (words_of vs) s out
  crossed_told P false import i site vs s out = tt

  tainted_told : (P : Code → Place → Type 0) (import : ℕ) (o : Option Import) (site : Site) (vs : List Value) (s : State)
      → ((i : Import) → o ≡ Some i → Replies P i.result site (cross g k import (record i { result = Some Int }) site (words_of vs) s))
      → Told P (call_tainted g k import o site vs s)
  tainted_told P import None site vs s out = tt
  tainted_told P import (Some i) site vs s out = crossed_told P (i.parameters == length vs) import i site vs s (out i refl)

  trusted_told : (x : Part) (f : ℕ) (es : core.Arguments) (vs : List Value) (s t : State) (test : Bool) → CallsWith x (callees.Trusted f) es → values false g k es s ≡ Gives vs t
      → Told (FailsFrom g n x s) (enter_if test g k f vs t)
  trusted_told x f es vs s t false calls given = tt
  trusted_told x f es vs s t true calls given =
      asked_on (FailsFrom g n x s) (spend_tick g.budget t.world) t _ (tick_quiet g.budget t.world)
      (λ _ w ticked. asked_on (FailsFrom g n x s) (enter_call t.depth w) (in_world w t) _ (enter_quiet t.depth w)
      (λ _ w' entered. is.call x s f vs (in_world w' (in_world w t)) (failed.call calls given ticked entered)))

  called_told : (x : Part) (callee : Callee) (es : core.Arguments) (vs : List Value) (s t : State) → CallsWith x callee es → values false g k es s ≡ Gives vs t
      → Told (FailsFrom g n x s) (called g k callee vs t)
  called_told x (callees.Trusted f) es vs s t calls given = trusted_told x f es vs s t (takes (slice_get g.program.functions f) vs) calls given
  called_told x (callees.Tainted import site) es vs s t calls given =
      tainted_told (FailsFrom g n x s) import (slice_get g.program.imports import) site vs t
      (λ i there reply u char answered large. breaks g n x s C9 site (failed.reply reply calls given there char answered large))

  -- ---- expressions

  -- a place that is reached, by the pointer and the number that were evaluated for it
  target_gives : (e : core.Expression) (index : core.Index) (offset : ℕ) (site : Site) (v : Value) (z : ℤ) (s t u : State) → value false g k e s ≡ Gives v t → number_of false g k index t ≡ Gives z u
      → target_of false g k (core.Through e index offset site) s ≡ Gives (record { pointer = with_ends (bounds_of e) v t.locals; number = z }) u
  target_gives e index offset site v z s t u pointer number = rw (pointer, number) refl

  -- the number that is given to a step
  number_gives : (site : Option Site) (o : Result Value) (z : ℤ) (u : State) → and_then o (number_given site) ≡ Gives z u → o ≡ Gives (Number z) u
  number_gives site (Gives v t) z u e = let is_z = number_is (λ code place. ⊥) t site v z u e in ap (λ v. Gives v t) is_z.0 ∙ ap (λ t. Gives (Number z) t) is_z.1
  number_gives site (Ends ending t) z u e = absurd (cc)
  number_gives site (Stuck at t) z u e = absurd (cc)
  number_gives site (Unsound at t) z u e = absurd (cc)
  number_gives site Short z u e = absurd (cc)

  value_with : (bounds : Option PointerBounds) (v : Value) (locals : List Local) → (with_ends bounds v locals).value ≡ v
  value_with None v locals = refl
  value_with (Some p) (Number z) locals = refl
  value_with (Some p) Null locals = refl
  value_with (Some p) (At block byte) locals = refl

  operand_told : (x e : core.Expression) → failed.HasOperand x e → (s : State) → Told (FailsFrom g n (OfExpression e) s) (value false g k e s) → Told (FailsFrom g n (OfExpression x) s) (value false g k e s)
  operand_told x e has s h = within g n (OfExpression x) (OfExpression e) s s (value false g k e s) (failed.operand has) h

  left_told : (x a b : core.Expression) → failed.HasOperands x a b → (s : State) → Told (FailsFrom g n (OfExpression a) s) (value false g k a s) → Told (FailsFrom g n (OfExpression x) s) (value false g k a s)
  left_told x a b has s h = within g n (OfExpression x) (OfExpression a) s s (value false g k a s) (failed.left has) h

  right_told : (x a b : core.Expression) → failed.HasOperands x a b → (s : State) (v : Value) (t : State) → value false g k a s ≡ Gives v t → Told (FailsFrom g n (OfExpression b) t) (value false g k b t) → Told (FailsFrom g n (OfExpression x) s) (value false g k b t)
  right_told x a b has s v t given h = within g n (OfExpression x) (OfExpression b) s t (value false g k b t) (failed.right has given) h

  -- the pointer of a place
  pointer_told : (e : core.Expression) (index : core.Index) (offset : ℕ) (site : Site) (s : State) → Told (FailsFrom g n (OfExpression e) s) (value false g k e s) → Told (FailsFrom g n (OfTarget (core.Through e index offset site)) s) (value false g k e s)
  pointer_told e index offset site s h = within g n _ (OfExpression e) s s (value false g k e s) failed.pointer h

  mutual
    value_told : (e : core.Expression) (s : State) → Told (FailsFrom g n (OfExpression e) s) (value false g k e s)
    value_told (core.Number z) s =
        let P = FailsFrom g n (OfExpression (core.Number z)) s in
        value_told_if P s (is_word_number z) None (Number z)
    value_told core.Null s = tt
    value_told (core.Local i b) s =
        let P = FailsFrom g n (OfExpression (core.Local i b)) s in
        on P (given (slice_get s.locals i) s) (audit false b) (given_told P s (slice_get s.locals i)) (λ v t _. audit_told P t b v)
    value_told (core.Load type p b) s =
        let P = FailsFrom g n (OfExpression (core.Load type p b)) s in
        on P (and_then (place false g k p s) (load_at type (site_of p))) (audit false b)
        (on P (place false g k p s) (load_at type (site_of p)) (within g n (OfExpression (core.Load type p b)) (OfPlace p) s s (place false g k p s) failed.load (place_told p s)) (λ at t _. cell_told P t type (site_of p) (cell_at t.blocks at.0 at.1)))
        (λ v t _. audit_told P t b v)
    value_told (core.AddressOf p b) s =
        let P = FailsFrom g n (OfExpression (core.AddressOf p b)) s in
        on P (and_then (place false g k p s) pointer_to) (audit false b)
        (on P (place false g k p s) pointer_to (within g n (OfExpression (core.AddressOf p b)) (OfPlace p) s s (place false g k p s) failed.address (place_told p s)) (λ at t _. tt))
        (λ v t _. audit_told P t b v)
    value_told (core.Negate e site) s =
        let P = FailsFrom g n (OfExpression (core.Negate e site)) s in
        on P (value false g k e s) (negated site) (operand_told (core.Negate e site) e failed.negate s (value_told e s))
        (λ v t given. negated_told P t site v (λ a same out. breaks g n (OfExpression (core.Negate e site)) s C6 site (failed.negation (given ∙ ap (λ v. Gives v t) same) out)))
    value_told (core.Complement e) s =
        let P = FailsFrom g n (OfExpression (core.Complement e)) s in
        on P (value false g k e s) complemented (operand_told (core.Complement e) e failed.complement s (value_told e s)) (λ v t _. complemented_told P t v)
    value_told (core.Not e) s =
        let P = FailsFrom g n (OfExpression (core.Not e)) s in
        on P (value false g k e s) _ (operand_told (core.Not e) e failed.inverse s (value_told e s)) (λ v t _. tt)
    value_told (core.Arithmetic operator a b site) s =
        let P = FailsFrom g n (OfExpression (core.Arithmetic operator a b site)) s in
        on P (value false g k a s) _ (left_told (core.Arithmetic operator a b site) a b failed.arithmetic s (value_told a s))
        (λ v t left. on P (value false g k b t) _ (right_told (core.Arithmetic operator a b site) a b failed.arithmetic s v t left (value_told b t))
        (λ w u right. arithmetic_told P u operator site v w
        (λ x y code is_x is_y out. breaks g n (OfExpression (core.Arithmetic operator a b site)) s code site (failed.operation (left ∙ ap (λ v. Gives v t) is_x) (right ∙ ap (λ w. Gives w u) is_y) out))))
    value_told (core.Compare comparison a b) s =
        let P = FailsFrom g n (OfExpression (core.Compare comparison a b)) s in
        on P (value false g k a s) _ (left_told (core.Compare comparison a b) a b failed.compare s (value_told a s)) (λ v t left. on P (value false g k b t) _ (right_told (core.Compare comparison a b) a b failed.compare s v t left (value_told b t)) (λ w u _. compared_told P u comparison v w))
    value_told (core.Same a b) s =
        let P = FailsFrom g n (OfExpression (core.Same a b)) s in
        on P (value false g k a s) _ (left_told (core.Same a b) a b failed.same s (value_told a s)) (λ v t left. on P (value false g k b t) _ (right_told (core.Same a b) a b failed.same s v t left (value_told b t)) (λ w u _. test_told P u (same_place v w)))
    value_told (core.AndAlso a b) s =
        let P = FailsFrom g n (OfExpression (core.AndAlso a b)) s in
        on P (value false g k a s) _ (within g n (OfExpression (core.AndAlso a b)) (OfExpression a) s s (value false g k a s) failed.and_left (value_told a s))
        (λ v t left. chosen P (truth v) _ _
        (λ holds. on P (value false g k b t) _ (within g n (OfExpression (core.AndAlso a b)) (OfExpression b) s t (value false g k b t) (failed.and_right left holds) (value_told b t)) (λ w u _. tt)) (λ fails. tt))
    value_told (core.OrElse a b) s =
        let P = FailsFrom g n (OfExpression (core.OrElse a b)) s in
        on P (value false g k a s) _ (within g n (OfExpression (core.OrElse a b)) (OfExpression a) s s (value false g k a s) failed.or_left (value_told a s))
        (λ v t left. chosen P (truth v) _ _ (λ holds. tt)
        (λ fails. on P (value false g k b t) _ (within g n (OfExpression (core.OrElse a b)) (OfExpression b) s t (value false g k b t) (failed.or_right left fails) (value_told b t)) (λ w u _. tt)))
    value_told (core.LowByte e) s =
        let P = FailsFrom g n (OfExpression (core.LowByte e)) s in
        on P (value false g k e s) low_byte_of (operand_told (core.LowByte e) e failed.low_byte s (value_told e s)) (λ v t _. byte_told P t v)
    value_told (core.Call callee es b) s =
        let P = FailsFrom g n (OfExpression (core.Call callee es b)) s in
        on P (values false g k es s) _ (within g n (OfExpression (core.Call callee es b)) (OfArguments es) s s (values false g k es s) (failed.arguments failed.call_in) (values_told es s))
        (λ vs t given. on P (and_then (called g k callee vs t) result_given) (audit false b)
        (on P (called g k callee vs t) result_given (called_told (OfExpression (core.Call callee es b)) callee es vs s t failed.call_in given) (λ v u _. result_told P u v)) (λ v u _. audit_told P u b v))
    value_told core.NextInput s =
        let P = FailsFrom g n (OfExpression core.NextInput) s in
        asked_on P (next_input s.world) s _ (input_quiet s.world.inputs s.world) (λ z w _. tt)
    value_told (core.Sum a direction b site bounds) s =
        let P = FailsFrom g n (OfExpression (core.Sum a direction b site bounds)) s in
        on P _ (audit false bounds)
        (on P (value false g k a s) _ (left_told (core.Sum a direction b site bounds) a b failed.sum_of s (value_told a s))
        (λ v t left. on P (and_then (value false g k b t) (number_given (Some site))) _
        (on P (value false g k b t) (number_given (Some site)) (right_told (core.Sum a direction b site bounds) a b failed.sum_of s v t left (value_told b t)) (λ w u _. number_told P u (Some site) w))
        (λ z u right. let number = number_gives (Some site) (value false g k b t) z u right in
        summed_told P u direction site z v (with_ends (bounds_of a) v t.locals).ends
        (λ null. breaks g n (OfExpression (core.Sum a direction b site bounds)) s C1 site (failed.sum_of_null (left ∙ ap (λ v. Gives v t) null) number))
        (λ block byte e here ends out. breaks g n (OfExpression (core.Sum a direction b site bounds)) s C2 site
        (failed.sum_outside (left ∙ ap (λ v. Gives v t) here) number (ap (λ (v : Value). (with_ends (bounds_of a) v t.locals).ends) (sym here) ∙ ends) out)))))
        (λ v t _. audit_told P t bounds v)
    value_told (core.Order comparison a b site) s =
        let P = FailsFrom g n (OfExpression (core.Order comparison a b site)) s in
        on P (value false g k a s) _ (left_told (core.Order comparison a b site) a b failed.order s (value_told a s))
        (λ v t left. on P (value false g k b t) _ (right_told (core.Order comparison a b site) a b failed.order s v t left (value_told b t))
        (λ w u right. on P (not_null site v u) _ (not_null_told P u site v (λ null. breaks g n (OfExpression (core.Order comparison a b site)) s C1 site (failed.left_null (left ∙ ap (λ v. Gives v t) null) right)))
        (λ _ x _. on P (not_null site w x) _ (not_null_told P x site w (λ null. breaks g n (OfExpression (core.Order comparison a b site)) s C1 site (failed.right_null left (right ∙ ap (λ w. Gives w u) null))))
        (λ _ y _. ordered_told P y comparison (Some site) v w))))
    value_told (core.Allocate e element terminator b) s =
        let P = FailsFrom g n (OfExpression (core.Allocate e element terminator b)) s in
        on P _ (audit false b)
        (on P (and_then (value false g k e s) (number_given None)) (allocated g.trusted terminator element)
        (on P (value false g k e s) (number_given None) (operand_told (core.Allocate e element terminator b) e failed.allocate s (value_told e s)) (λ v t _. number_told P t None v)) (λ z t _. allocated_told P t g.trusted terminator element z))
        (λ v t _. audit_told P t b v)
    value_told (core.Length e site) s =
        let P = FailsFrom g n (OfExpression (core.Length e site)) s in
        on P (value false g k e s) _ (operand_told (core.Length e site) e failed.length s (value_told e s))
        (λ v t given. length_told P g.budget site v (with_ends (bounds_of e) v t.locals).ends t
        (λ null. breaks g n (OfExpression (core.Length e site)) s C1 site (failed.length_of_null (given ∙ ap (λ v. Gives v t) null)))
        (λ block byte ends here some out. breaks g n (OfExpression (core.Length e site)) s C2 site
        (failed.length_outside (given ∙ ap (λ v. Gives v t) here) (ap (λ (v : Value). (with_ends (bounds_of e) v t.locals).ends) (sym here) ∙ some) out)))
    value_told (core.Cast e None) s =
        let P = FailsFrom g n (OfExpression (core.Cast e None)) s in
        on P _ (audit false None) (on P (value false g k e s) _ (operand_told (core.Cast e None) e failed.cast_of s (value_told e s)) (λ v t _. tt)) (λ v t _. tt)
    value_told (core.Cast e (Some p)) s =
        let P = FailsFrom g n (OfExpression (core.Cast e (Some p))) s in
        on P _ (audit false (Some p))
        (on P (value false g k e s) _ (operand_told (core.Cast e (Some p)) e failed.cast_of s (value_told e s))
        (λ v t given. cast_told_of P t p (with_ends (bounds_of e) v t.locals).value (with_ends (bounds_of e) v t.locals).ends
        (λ block byte old new here some ends out.
        let is_v = value_with (bounds_of e) v t.locals in
        let there = sym is_v ∙ here in
        breaks g n (OfExpression (core.Cast e (Some p))) s C5 p.site (failed.cast (given ∙ ap (λ v. Gives v t) there) (ap (λ (v : Value). (with_ends (bounds_of e) v t.locals).ends) (sym there) ∙ some) ends out))))
        (λ v t _. tt)

    values_told : (es : core.Arguments) (s : State) → Told (FailsFrom g n (OfArguments es) s) (values false g k es s)
    values_told core.Done s = tt
    values_told (core.More e es) s =
        let P = FailsFrom g n (OfArguments (core.More e es)) s in
        on P (value false g k e s) _ (within g n (OfArguments (core.More e es)) (OfExpression e) s s (value false g k e s) failed.first (value_told e s))
        (λ v t given. on P (values false g k es t) _ (within g n (OfArguments (core.More e es)) (OfArguments es) s t (values false g k es t) (failed.rest given) (values_told es t)) (λ vs u _. tt))

    place_told : (p : core.Place) (s : State) → Told (FailsFrom g n (OfPlace p) s) (place false g k p s)
    place_told (core.Direct object offset) s =
        let P = FailsFrom g n (OfPlace (core.Direct object offset)) s in
        variable_told P s (nat_lt object (length g.program.objects)) object offset
    place_told (core.Through e index offset site) s =
        let P = FailsFrom g n (OfPlace (core.Through e index offset site)) s in
        let inside = λ (A : Type 0) (o : Result A). within g n (OfPlace (core.Through e index offset site)) (OfTarget (core.Through e index offset site)) s s o failed.target in
        on P (value false g k e s) _ (inside Value (value false g k e s) (pointer_told e index offset site s (value_told e s)))
        (λ v t pointer. on P (number_of false g k index t) _ (inside ℤ (number_of false g k index t) (index_told e index offset site s v t pointer))
        (λ z u number. reached_told P u index offset site _ (λ code out. breaks g n (OfPlace (core.Through e index offset site)) s code site (failed.access (target_gives e index offset site v z s t u pointer number) out))))

    -- and its number
    index_told : (e : core.Expression) (index : core.Index) (offset : ℕ) (site : Site) (s : State) (v : Value) (t : State) → value false g k e s ≡ Gives v t
        → Told (FailsFrom g n (OfTarget (core.Through e index offset site)) s) (number_of false g k index t)
    index_told e core.First offset site s v t given = tt
    index_told e (core.Element i terminated) offset site s v t given =
        on _ (value false g k i t) (number_given None) (within g n _ (OfExpression i) s t (value false g k i t) (failed.number given) (value_told i t)) (λ w u _. number_told _ u None w)

  target_told : (p : core.Place) (s : State) → Told (FailsFrom g n (OfTarget p) s) (target_of false g k p s)
  target_told (core.Direct object offset) s =
      let P = FailsFrom g n (OfTarget (core.Direct object offset)) s in
      on P _ _ (variable_told P s (nat_lt object (length g.program.objects)) object offset) (λ at t _. tt)
  target_told (core.Through e index offset site) s =
      let P = FailsFrom g n (OfTarget (core.Through e index offset site)) s in
      on P (pointed false g k e s) _ (on P (value false g k e s) _ (pointer_told e index offset site s (value_told e s)) (λ v t _. tt))
      (λ p t given. let found = pointed_from e s t p given in on P (number_of false g k index t) _ (index_told e index offset site s found.0 t found.1) (λ z u _. tt))
    where
      pointed_by : (o : Result Value) (bounds : Option PointerBounds) (t : State) (p : Pointed) → and_then o (λ v t. Gives (with_ends bounds v t.locals) t) ≡ Gives p t → (v : Value) × (o ≡ Gives v t)
      pointed_by (Gives v u) bounds t p e = (v, cc)
      pointed_by (Ends ending u) bounds t p e = absurd (cc)
      pointed_by (Stuck at u) bounds t p e = absurd (cc)
      pointed_by (Unsound at u) bounds t p e = absurd (cc)
      pointed_by Short bounds t p e = absurd (cc)

      pointed_from : (e : core.Expression) (s t : State) (p : Pointed) → pointed false g k e s ≡ Gives p t → (v : Value) × (value false g k e s ≡ Gives v t)
      pointed_from e s t p h = pointed_by (value false g k e s) (bounds_of e) t p h

  -- ---- statements

  set_told : (P : Code → Place → Type 0) (local : ℕ) (v : Value) (s : State) → Told P (set_local local v s)
  set_told P local v s = set_told_over P s (slice_get s.locals local) local v

  stored_told : (P : Code → Place → Type 0) (type : CType) (site : Option Site) (at : ℕ × ℕ) (v : Value) (s : State) → Told P (store_at type site at v s)
  stored_told P type site at v s = over_told P s (cell_at s.blocks at.0 at.1) type site v at.0 at.1

  store_outside : (type : CType) (p : core.Place) (e : core.Expression) (q : Target) (v : Value) (s t u : State) → target_of false g k p s ≡ Gives q t → value false g k e t ≡ Gives v u
      → Outside (FailsFrom g n (OfStatement (core.Store type p e)) s) p q
  store_outside type (core.Direct object offset) e q v s t u target given = tt
  store_outside type (core.Through f index offset site) e q v s t u target given = λ code out. breaks g n _ s code site (failed.store target given out)

  store_over_end : (type : CType) (p : core.Place) (e : core.Expression) (q : Target) (v : Value) (s t u : State) → target_of false g k p s ≡ Gives q t → value false g k e t ≡ Gives v u
      → Over (FailsFrom g n (OfStatement (core.Store type p e)) s) p q v
  store_over_end type (core.Direct object offset) e q v s t u target given = tt
  store_over_end type (core.Through f index offset site) e q v s t u target given = λ over. breaks g n _ s C3 site (failed.store_over_terminator target given over)

  update_outside : (type : CType) (p : core.Place) (operator : Operator) (e : core.Expression) (site' : Site) (q : Target) (s t : State) → target_of false g k p s ≡ Gives q t
      → Outside (FailsFrom g n (OfStatement (core.Update type p operator e site')) s) p q
  update_outside type (core.Direct object offset) operator e site' q s t target = tt
  update_outside type (core.Through f index offset site) operator e site' q s t target = λ code out. breaks g n _ s code site (failed.update target out)

  update_over_end : (type : CType) (p : core.Place) (operator : Operator) (e : core.Expression) (site' : Site) (q : Target) (old v new kept : Value) (s t u x y : State) → Loads g k type p site' s q old t
      → value false g k e t ≡ Gives v u → arithmetic_of operator site' old v u ≡ Gives new x → kept_if (is_char type) new x ≡ Gives kept y
      → Over (FailsFrom g n (OfStatement (core.Update type p operator e site')) s) p q kept
  update_over_end type (core.Direct object offset) operator e site' q old v new kept s t u x y loads given result keeps = tt
  update_over_end type (core.Through f index offset site) operator e site' q old v new kept s t u x y loads given result keeps =
      λ over. breaks g n _ s C3 site (failed.update_over_terminator loads given result keeps over)

  begins_told : (x : core.Statement) (e : core.Expression) → failed.BeginsWith x e → (s : State) → Told (FailsFrom g n (OfStatement x) s) (value false g k e s)
  begins_told x e begins s = within g n (OfStatement x) (OfExpression e) s s (value false g k e s) (failed.begins begins) (value_told e s)

  -- what a local holds, whose state stays
  given_is : (o : Option Local) (s : State) (v : Value) (t : State) → given o s ≡ Gives v t → (s ≡ t) × ((l : Local) × (o ≡ Some l) × (l.value ≡ v))
  given_is None s v t e = absurd (cc)
  given_is (Some l) s v t e = (cc, (l, refl, cc))

  mutual
    effect_told : (x : core.Statement) (s : State) → Told (FailsFrom g n (OfStatement x) s) (effect false g k x s)
    effect_told core.Nothing s = tt
    effect_told (core.SetLocal local e) s =
        let P = FailsFrom g n (OfStatement (core.SetLocal local e)) s in
        on P (value false g k e s) (set_local local) (begins_told (core.SetLocal local e) e failed.set_local s) (λ v t _. set_told P local v t)
    effect_told (core.Store type p e) s =
        let P = FailsFrom g n (OfStatement (core.Store type p e)) s in
        on P (target_of false g k p s) _ (within g n (OfStatement (core.Store type p e)) (OfTarget p) s s (target_of false g k p s) failed.store_target (target_told p s))
        (λ q t target. on P (value false g k e t) _ (within g n (OfStatement (core.Store type p e)) (OfExpression e) s t (value false g k e t) (failed.stored target) (value_told e t))
        (λ v u given. on P (place_from p q u) _ (place_from_told P p q u (store_outside type p e q v s t u target given))
        (λ at w _. on P (storable p q v w) _ (storable_told P p q v w (store_over_end type p e q v s t u target given)) (λ _ x _. stored_told P type (site_of p) at v x))))
    effect_told (core.UpdateLocal char local operator e site) s =
        let P = FailsFrom g n (OfStatement (core.UpdateLocal char local operator e site)) s in
        on P (given (slice_get s.locals local) s) _ (given_told P s (slice_get s.locals local))
        (λ old t there. let is_old = given_is (slice_get s.locals local) s old t there in
        subst (λ t. Told (FailsFrom g n (OfStatement (core.UpdateLocal char local operator e site)) s) (and_then (value false g k e t) (λ v u. and_then (arithmetic_of operator site old v u) (λ new w. and_then (kept_if char new w) (set_local local))))) is_old.0
        (on P (value false g k e s) _ (begins_told (core.UpdateLocal char local operator e site) e failed.update_local s)
        (λ v u given. on P (arithmetic_of operator site old v u) _
        (arithmetic_told P u operator site old v (λ a b code is_a is_b out. breaks g n (OfStatement (core.UpdateLocal char local operator e site)) s code site (failed.local_updated is_old.1.1 (is_old.1.2 ∙ is_a) (given ∙ ap (λ v. Gives v u) is_b) out)))
        (λ new w _. on P (kept_if char new w) (set_local local) (kept_told P w char new) (λ last x _. set_told P local last x)))))
    effect_told (core.Update type p operator e site) s =
        let P = FailsFrom g n (OfStatement (core.Update type p operator e site)) s in
        on P (target_of false g k p s) _ (within g n (OfStatement (core.Update type p operator e site)) (OfTarget p) s s (target_of false g k p s) failed.update_target (target_told p s))
        (λ q t target. on P (place_from p q t) _ (place_from_told P p q t (update_outside type p operator e site q s t target))
        (λ at u placed. on P (load_at type (Some site) at u) _ (cell_told P u type (Some site) (cell_at u.blocks at.0 at.1))
        (λ old w loaded.
        let loads : Loads g k type p site s q old w = record { t = t; u = u; at = at; target_gives = target; place_gives = placed; load_gives = loaded } in
        on P (value false g k e w) _ (within g n (OfStatement (core.Update type p operator e site)) (OfExpression e) s w (value false g k e w) (failed.updated_by loads) (value_told e w))
        (λ v x given. on P (arithmetic_of operator site old v x) _
        (arithmetic_told P x operator site old v
        (λ a b code is_a is_b out. breaks g n (OfStatement (core.Update type p operator e site)) s code site (failed.updated (subst (λ old. Loads g k type p site s q old w) is_a loads) (given ∙ ap (λ v. Gives v x) is_b) out)))
        (λ new y result. on P (kept_if (is_char type) new y) _ (kept_told P y (is_char type) new)
        (λ kept z keeps. on P (storable p q kept z) _ (storable_told P p q kept z (update_over_end type p operator e site q old v new kept s w x y z loads given result keeps))
        (λ _ last _. stored_told P type (Some site) at kept last)))))))
    effect_told (core.Evaluate e) s =
        let P = FailsFrom g n (OfStatement (core.Evaluate e)) s in
        on P (value false g k e s) _ (begins_told (core.Evaluate e) e failed.evaluate s) (λ v t _. tt)
    effect_told (core.CallAlone callee es) s =
        let P = FailsFrom g n (OfStatement (core.CallAlone callee es)) s in
        on P (values false g k es s) _ (within g n (OfStatement (core.CallAlone callee es)) (OfArguments es) s s (values false g k es s) (failed.arguments failed.alone) (values_told es s))
        (λ vs t given. on P (called g k callee vs t) no_result (called_told (OfStatement (core.CallAlone callee es)) callee es vs s t failed.alone given) (λ v u _. nothing_told P u v))
    effect_told (core.Print e) s =
        let P = FailsFrom g n (OfStatement (core.Print e)) s in
        on P (value false g k e s) printed (begins_told (core.Print e) e failed.print s) (λ v t _. printed_told P t v)
    effect_told (core.PutByte e) s =
        let P = FailsFrom g n (OfStatement (core.PutByte e)) s in
        on P (value false g k e s) put (begins_told (core.PutByte e) e failed.put_byte s) (λ v t _. put_told P t v)
    effect_told (core.Block xs) s =
        let P = FailsFrom g n (OfStatement (core.Block xs)) s in
        within g n (OfStatement (core.Block xs)) (OfStatements xs) s s (effects false g k xs s) failed.block (effects_told xs s)
    effect_told (core.If e x y) s =
        let P = FailsFrom g n (OfStatement (core.If e x y)) s in
        on P (value false g k e s) _ (begins_told (core.If e x y) e failed.choice s)
        (λ v t given. chosen P (truth v) _ _
        (λ holds. within g n (OfStatement (core.If e x y)) (OfStatement x) s t (effect false g k x t) (failed.consequent given holds) (effect_told x t))
        (λ fails. within g n (OfStatement (core.If e x y)) (OfStatement y) s t (effect false g k y t) (failed.alternative given fails) (effect_told y t)))
    effect_told (core.Loop e x y) s =
        let P = FailsFrom g n (OfStatement (core.Loop e x y)) s in
        on P (value false g k e s) _ (begins_told (core.Loop e x y) e failed.loop s)
        (λ v t given. chosen P (truth v) _ _
        (λ holds. asked_on P (spend_tick g.budget t.world) t _ (tick_quiet g.budget t.world)
        (λ _ w ticked.
        let u = in_world w t in
        let begins : BeginsTurn g k e s u = record { v = v; t = t; w = w; condition_gives = given; holds = holds; tick = ticked; after_is = refl } in
        on P (effect false g k x u) _ (within g n (OfStatement (core.Loop e x y)) (OfStatement x) s u (effect false g k x u) (failed.body begins) (effect_told x u))
        (λ flow a ended. turned_told P a _ flow
        (λ goes_on.
        let ends : EndsBody g k e x s a = record { u = u; begins = begins; flow = flow; body_gives = ended; goes_on = goes_on } in
        on P (effect false g k y a) _ (within g n (OfStatement (core.Loop e x y)) (OfStatement y) s a (effect false g k y a) (failed.step ends) (effect_told y a))
        (λ flow' b stepped. next_told P b (k.turn e x y) flow' (λ is_next. is.turn _ s e x y b (failed.turn ends (stepped ∙ ap (λ flow. Gives flow b) is_next))))))))
        (λ fails. tt))
    effect_told (core.Return e) s =
        let P = FailsFrom g n (OfStatement (core.Return e)) s in
        on P (value false g k e s) _ (begins_told (core.Return e) e failed.return s) (λ v t _. tt)
    effect_told core.ReturnNothing s = tt
    effect_told core.Break s = tt
    effect_told core.Continue s = tt

    effects_told : (xs : core.Statements) (s : State) → Told (FailsFrom g n (OfStatements xs) s) (effects false g k xs s)
    effects_told core.NoMore s = tt
    effects_told (core.Then x xs) s =
        let P = FailsFrom g n (OfStatements (core.Then x xs)) s in
        on P (effect false g k x s) _ (within g n (OfStatements (core.Then x xs)) (OfStatement x) s s (effect false g k x s) failed.statement (effect_told x s))
        (λ flow t given. next_told P t (effects false g k xs) flow
        (λ is_next. within g n (OfStatements (core.Then x xs)) (OfStatements xs) s t (effects false g k xs t) (failed.statements (given ∙ ap (λ flow. Gives flow t) is_next)) (effects_told xs t)))

  -- ---- functions

  body_told_if : (f : ℕ) (found : core.Function) (vs : List Value) (s : State) (test : Bool) → slice_get g.program.functions f ≡ Some found
      → Told (FailsFrom g n (OfCall f vs) s) (body_if false test g k found vs s)
  body_told_if f found vs s false there = tt
  body_told_if f found vs s true there =
      let inside : State = record s { locals = locals_for found.locals vs; depth = s.depth + 1 } in
      on _ (and_then (effects false g k found.body inside) (answer found.result)) (back s)
      (on _ (effects false g k found.body inside) (answer found.result) (within g n _ (OfStatements found.body) s inside (effects false g k found.body inside) (failed.function there) (effects_told found.body inside))
      (λ flow t _. answer_told _ t found.result flow)) (λ v t _. tt)

  body_told : (f : ℕ) (o : Option core.Function) (vs : List Value) (s : State) → slice_get g.program.functions f ≡ o → Told (FailsFrom g n (OfCall f vs) s) (body_of false g k o vs s)
  body_told f None vs s there = tt
  body_told f (Some found) vs s there = body_told_if f found vs s (fit (parameters_of found) vs) there

deeper : {A : Type 0} (g : Setting) (n : ℕ) (x y : Part) (s t : State) (o : Result A) → ComesDeeper g (knot false g (suc n)) x s y t → Told (FailsFrom g n y t) o → Told (FailsFrom g (suc n) x s) o
deeper g n x y s t o comes h = wider (FailsFrom g n y t) (FailsFrom g (suc n) x s) (λ code place f. (f.0, f.1, failed.deeper comes f.2)) o h

knots : (g : Setting) (n : ℕ) → IsKnot g n
knots g zero = record { call = λ x s f vs u comes. tt; turn = λ x s e y z u comes. tt; sandbox = λ s. tt }
knots g (suc n) = record {
  call = λ x s f vs u comes. deeper g n x (OfCall f vs) s u _ comes (body_told g n (knots g n) f (slice_get g.program.functions f) vs u refl);
  turn = λ x s e y z u comes. deeper g n x (OfStatement (core.Loop e y z)) s u _ comes (effect_told g n (knots g n) (core.Loop e y z) u);
  sandbox = λ s. sandbox_told IsNone (until_return s.world.acts s.world) s (until_quiet s.world.acts s.world);
}

pub failed_checks : (program : core.Core) → FailedChecks program
failed_checks program settings inputs acts code place s e =
    let g = setting_of (parted program) settings in
    let start : State = initial (parted program) (new_world (replicate settings.sandbox 0) first_offset inputs acts) in
    let told = on (FailsFrom g g.budget (OfCall g.program.main []) start) (body_of false g (knot false g g.budget) (slice_get g.program.functions g.program.main) [] start) exit
    (body_told g g.budget (knots g g.budget) g.program.main (slice_get g.program.functions g.program.main) [] start refl) (λ v t _. exit_told _ t v) in
    let fails = subst (λ o. Told (FailsFrom g g.budget (OfCall g.program.main []) start) o) e told in
    record { site = fails.0; place_is = fails.1; fails = fails.2 }
