-- What a program means: pointers with their ends, each check at its site, and stuck where nothing is meant. Where the meaning is
-- audited, a pointer that isn't valid with its bounds ends the run as unsound.
use Rattle.std.specs.Prelude.{ℕ, zero, suc, ◌+◌, ◌==◌, pos, Bool, true, false, not, ◌||◌, List, [], ◌∷◌, Option, Some, None, slice_get, replicate}
use Rattle.std.specs.Ordering.{int_eq}
use Rattle.std.proofs.Common.{ℤ, ◌+ℤ◌}
use Rattle.ckc_text.specs.declared.code.Code.TheVariants.{C1, C2, C3, C5}
use Rattle.act_words.specs.declared.ending.Ending.TheVariants.{Check}
use Rattle.act_words.specs.declared.settings.Settings.{Settings}
use Rattle.act_words.specs.Acts.{Act}
use Rattle.act_words.specs.Checks.{is_word_number}
use Rattle.act_words.specs.World.{new_world}
use Rattle.act_words.specs.Touches.{spend_tick, next_input, until_return}
use Rattle.flat_bytes.specs.Blocks.{first_offset}
use Rattle.ckc_core.specs.declared.program.Site.{Site}
use Rattle.ckc_core.specs.declared.program.Direction.{Direction}
use Rattle.ckc_core.specs.declared.program.Direction.TheVariants as directions
use Rattle.ckc_core.specs.declared.program.PointerBounds.{PointerBounds}
use Rattle.ckc_core.specs.Outcome.{Gives, Ends, Stuck, Unsound, Short, and_then}
use Rattle.ckc_core.specs.Programs.{parted}
use Rattle.ckc_core.specs.Core as core
use Rattle.ckc_core.specs.States.{Value, Number, Null, At, State}
use Rattle.ckc_core.specs.Bounds.{Pointed, Ends as EndsOf, with_ends, ends_at, is_valid}
use Rattle.ckc_core.specs.Steps.{Result, Flow, Next, Broke, Continued, Returned, KnotOf, SettingOf, setting_of}
use Rattle.ckc_core.specs.Steps.{given, value_if, place_at, variable_at, load_at, pointer_to}
use Rattle.ckc_core.specs.Steps.{truth, number_of_test, same_place, test_given, arithmetic_of, compared, negated, complemented, low_byte_of, asked, crossed}
use Rattle.ckc_core.specs.Steps.{back, called, result_given, choose, store_at, set_local, kept_if}
use Rattle.ckc_core.specs.Steps.{is_char, is_zero, printed, put, on_next, behind_turn, no_result}
use Rattle.ckc_core.specs.Steps.{fit, parameters_of, answer, locals_for, exit, initial}
use Rattle.ckc_core.specs.Pointers.{number_given, checked_if, distance, lies_in, lies_up_to, are_within, cell_behind}
use Rattle.ckc_core.specs.Pointers.{pointer_at, ordered, not_null, allocated, counted}

abbrev pub Knot : Type 0
Knot = KnotOf core.Expression core.Statement

abbrev pub Setting : Type 0
Setting = SettingOf core.Statements

-- ---- pointers

-- the bounds at the node of a pointer
abbrev pub bounds_of : core.Expression → Option PointerBounds
bounds_of (core.Number number) = None
bounds_of core.Null = None
bounds_of (core.Local local bounds) = bounds
bounds_of (core.Load type place bounds) = bounds
bounds_of (core.AddressOf place bounds) = bounds
bounds_of (core.Negate operand site) = None
bounds_of (core.Complement operand) = None
bounds_of (core.Not operand) = None
bounds_of (core.Arithmetic operator left right site) = None
bounds_of (core.Compare comparison left right) = None
bounds_of (core.Same left right) = None
bounds_of (core.AndAlso left right) = None
bounds_of (core.OrElse left right) = None
bounds_of (core.LowByte operand) = None
bounds_of (core.Call callee arguments bounds) = bounds
bounds_of core.NextInput = None
bounds_of (core.Sum pointer direction number site bounds) = bounds
bounds_of (core.Order comparison left right site) = None
bounds_of (core.Allocate count element terminator bounds) = bounds
bounds_of (core.Length pointer site) = None
bounds_of (core.Cast pointer bounds) = bounds

abbrev pub sound_if : Bool → Site → Value → State → Result Value
sound_if true site value s = Gives value s
sound_if false site value s = Unsound site s

-- audited, a pointer is valid with its bounds, or ends the run at its site
abbrev pub audit : Bool → Option PointerBounds → Value → State → Result Value
audit audited None value s = Gives value s
audit audited (Some p) value s = sound_if (not audited || is_valid p value s) p.site value s

-- where an access through a pointer stands
abbrev pub site_of : core.Place → Option Site
site_of (core.Direct object offset) = None
site_of (core.Through pointer index offset site) = Some site

-- the place of an element, behind the check of the pointer (C1): so many bytes behind the one that the pointer leads to
abbrev pub element : ℕ → Site → Value → State → Result (ℕ × ℕ)
element offset site (Number number) s = Stuck (Some site) s
element offset site Null s = Ends (Check C1 site.place) s
element offset site (At block byte) s = place_at (Some site) block (byte + offset) s

-- the same of the element of a number: the pointer isn't null (C1), and the element lies within its ends (C2), of a null-terminated
-- pointer up to the upper one
abbrev pub element_within : Bool → ℕ → Site → ℤ → Value → Option EndsOf → State → Result (ℕ × ℕ)
element_within terminated offset site n (Number number) ends s = Stuck (Some site) s
element_within terminated offset site n Null ends s = Ends (Check C1 site.place) s
element_within terminated offset site n (At block byte) None s = Stuck (Some site) s
element_within terminated offset site n (At block byte) (Some e) s =
    let x = pos byte +ℤ distance directions.Forward e.size n in
    checked_if (lies_in terminated e x) C2 site (cell_behind (Some site) block x offset s) s

-- a pointer, and the number of the element that an access takes
pub record Target : Type 0 where
  pub pointer : Pointed
  pub number : ℤ

abbrev pub reached : core.Index → ℕ → Site → Target → State → Result (ℕ × ℕ)
reached core.First offset site t s = element offset site t.pointer.value s
reached (core.Element number terminated) offset site t s = element_within terminated offset site t.number t.pointer.value t.pointer.ends s

-- at the upper end nothing but 0 is stored (C3)
abbrev pub end_kept : Site → ℤ → Value → Value → Option EndsOf → State → Result (Unit {0})
end_kept site n v (Number number) ends s = Stuck (Some site) s
end_kept site n v Null ends s = Stuck (Some site) s
end_kept site n v (At block byte) None s = Stuck (Some site) s
end_kept site n v (At block byte) (Some e) s =
    checked_if (is_zero v || not (int_eq (pos byte +ℤ distance directions.Forward e.size n) e.high)) C3 site (Gives tt s) s

abbrev pub storable_at : core.Index → Site → Target → Value → State → Result (Unit {0})
storable_at core.First site t v s = Gives tt s
storable_at (core.Element number false) site t v s = Gives tt s
storable_at (core.Element number true) site t v s = end_kept site t.number v t.pointer.value t.pointer.ends s

-- a value that may be stored at a place, which has been reached: at the upper end of a null-terminated pointer it is 0
abbrev pub storable : core.Place → Target → Value → State → Result (Unit {0})
storable (core.Direct object offset) t v s = Gives tt s
storable (core.Through pointer index offset site) t v s = storable_at index site t v s

abbrev pub without_ends : ℕ × ℕ → Target
without_ends place = record { pointer = record { value = At place.0 place.1; ends = None }; number = pos 0 }

-- a pointer so many elements on, or back: it isn't null (C1), and the place lies up to the ends (C2)
abbrev pub summed : Direction → Site → ℤ → Value → Option EndsOf → State → Result Value
summed direction site n (Number number) ends s = Stuck (Some site) s
summed direction site n Null ends s = Ends (Check C1 site.place) s
summed direction site n (At block byte) None s = Stuck (Some site) s
summed direction site n (At block byte) (Some e) s =
    let x = pos byte +ℤ distance direction e.size n in
    checked_if (lies_up_to e x) C2 site (pointer_at (Some site) block x s) s

-- how many bytes stand before the first zero: the pointer isn't null (C1), and it lies up to the ends (C2); each byte that is read
-- costs a tick
abbrev pub length_of : ℕ → Site → Value → Option EndsOf → State → Result Value
length_of budget site (Number number) ends s = Stuck (Some site) s
length_of budget site Null ends s = Ends (Check C1 site.place) s
length_of budget site (At block byte) None s = Stuck (Some site) s
length_of budget site (At block byte) (Some e) s = checked_if (lies_up_to e (pos byte)) C2 site (counted budget (Some site) block byte s) s

-- of elements with as many bytes
abbrev pub cast_if : Bool → Site → Value → EndsOf → EndsOf → State → Result Value
cast_if true site v old new s = checked_if (are_within old new) C5 site (Gives v s) s
cast_if false site v old new s = Stuck (Some site) s

abbrev pub cast_within : Site → Value → Option EndsOf → Option EndsOf → State → Result Value
cast_within site v None new s = Stuck (Some site) s
cast_within site v (Some old) None s = Stuck (Some site) s
cast_within site v (Some old) (Some new) s = cast_if (old.size == new.size) site v old new s

-- a pointer with new bounds, whose ends lie within its own (C5) unless it is null
abbrev pub cast_to : Option PointerBounds → Pointed → State → Result Value
cast_to None p s = Gives p.value s
cast_to (Some bounds) p s = by p.value
  where
    by : Value → Result Value
    by (Number number) = Stuck (Some bounds.site) s
    by Null = Gives Null s
    by (At block byte) = cast_within bounds.site (At block byte) p.ends (ends_at bounds s.locals block byte) s

-- ---- expressions

abbrev mutual
  -- the value of an expression, from left to right
  pub value : Bool → Setting → Knot → core.Expression → State → Result Value
  value audited g k (core.Number number) s = value_if (is_word_number number) None (Number number) s
  value audited g k core.Null s = Gives Null s
  value audited g k (core.Local local bounds) s = and_then (given (slice_get s.locals local) s) (audit audited bounds)
  value audited g k (core.Load type p bounds) s = and_then (and_then (place audited g k p s) (load_at type (site_of p))) (audit audited bounds)
  value audited g k (core.AddressOf p bounds) s = and_then (and_then (place audited g k p s) pointer_to) (audit audited bounds)
  value audited g k (core.Negate operand site) s = and_then (value audited g k operand s) (negated site)
  value audited g k (core.Complement operand) s = and_then (value audited g k operand s) complemented
  value audited g k (core.Not operand) s = and_then (value audited g k operand s) (λ v t. Gives (number_of_test (not (truth v))) t)
  value audited g k (core.Arithmetic operator left right site) s =
      and_then (value audited g k left s) (λ a t. and_then (value audited g k right t) (arithmetic_of operator site a))
  value audited g k (core.Compare comparison left right) s =
      and_then (value audited g k left s) (λ a t. and_then (value audited g k right t) (compared comparison a))
  value audited g k (core.Same left right) s =
      and_then (value audited g k left s) (λ a t. and_then (value audited g k right t) (λ b u. test_given (same_place a b) u))
  value audited g k (core.AndAlso left right) s =
      and_then (value audited g k left s) (λ a t. choose (truth a) (and_then (value audited g k right t) (λ b u. Gives (number_of_test (truth b)) u))
      (Gives (number_of_test false) t))
  value audited g k (core.OrElse left right) s =
      and_then (value audited g k left s) (λ a t. choose (truth a) (Gives (number_of_test true) t)
      (and_then (value audited g k right t) (λ b u. Gives (number_of_test (truth b)) u)))
  value audited g k (core.LowByte operand) s = and_then (value audited g k operand s) low_byte_of
  value audited g k (core.Call callee arguments bounds) s =
      and_then (values audited g k arguments s) (λ vs t. and_then (and_then (called g k callee vs t) result_given) (audit audited bounds))
  value audited g k core.NextInput s = asked (next_input s.world) s (λ number t. Gives (Number number) t)
  value audited g k (core.Sum pointer direction number site bounds) s =
      and_then (and_then (value audited g k pointer s) (λ v t. and_then (and_then (value audited g k number t) (number_given (Some site)))
      (λ n u. summed direction site n v (with_ends (bounds_of pointer) v t.locals).ends u))) (audit audited bounds)
  value audited g k (core.Order comparison left right site) s =
      and_then (value audited g k left s) (λ a t. and_then (value audited g k right t) (λ b u. and_then (not_null site a u)
      (λ _ w. and_then (not_null site b w) (λ _ x. ordered comparison (Some site) a b x))))
  value audited g k (core.Allocate count element terminator bounds) s =
      and_then (and_then (and_then (value audited g k count s) (number_given None)) (allocated g.trusted terminator element)) (audit audited bounds)
  value audited g k (core.Length pointer site) s =
      and_then (value audited g k pointer s) (λ v t. length_of g.budget site v (with_ends (bounds_of pointer) v t.locals).ends t)
  value audited g k (core.Cast pointer bounds) s =
      and_then (and_then (value audited g k pointer s) (λ v t. cast_to bounds (with_ends (bounds_of pointer) v t.locals) t)) (audit audited bounds)

  -- the values of arguments, from left to right
  pub values : Bool → Setting → Knot → core.Arguments → State → Result (List Value)
  values audited g k core.Done s = Gives [] s
  values audited g k (core.More first rest) s = and_then (value audited g k first s) (λ v t. and_then (values audited g k rest t) (λ vs u. Gives (v ∷ vs) u))

  -- where a cell stands
  pub place : Bool → Setting → Knot → core.Place → State → Result (ℕ × ℕ)
  place audited g k (core.Direct object offset) s = variable_at g object offset s
  place audited g k (core.Through pointer index offset site) s =
      and_then (value audited g k pointer s) (λ v t. and_then (number_of audited g k index t)
      (λ n u. reached index offset site (record { pointer = with_ends (bounds_of pointer) v t.locals; number = n }) u))

  -- the number of an element
  pub number_of : Bool → Setting → Knot → core.Index → State → Result ℤ
  number_of audited g k core.First s = Gives (pos 0) s
  number_of audited g k (core.Element number terminated) s = and_then (value audited g k number s) (number_given None)

-- a pointer with its ends at that moment
abbrev pub pointed : Bool → Setting → Knot → core.Expression → State → Result Pointed
pointed audited g k e s = and_then (value audited g k e s) (λ v t. Gives (with_ends (bounds_of e) v t.locals) t)

-- A store evaluates its pointer and its index, then its value, and makes its checks behind all. A file-level variable is there before.
abbrev pub target_of : Bool → Setting → Knot → core.Place → State → Result Target
target_of audited g k (core.Direct object offset) s = and_then (variable_at g object offset s) (λ place t. Gives (without_ends place) t)
target_of audited g k (core.Through pointer index offset site) s =
    and_then (pointed audited g k pointer s) (λ p t. and_then (number_of audited g k index t) (λ n u. Gives (record { pointer = p; number = n }) u))

abbrev pub place_from : core.Place → Target → State → Result (ℕ × ℕ)
place_from (core.Direct object offset) t s = place_at None object offset s
place_from (core.Through pointer index offset site) t s = reached index offset site t s

abbrev mutual
  -- the effect of a statement
  pub effect : Bool → Setting → Knot → core.Statement → State → Result Flow
  effect audited g k core.Nothing s = Gives Next s
  effect audited g k (core.SetLocal local e) s = and_then (value audited g k e s) (set_local local)
  effect audited g k (core.Store type p e) s =
      and_then (target_of audited g k p s) (λ q t. and_then (value audited g k e t)
      (λ v u. and_then (place_from p q u) (λ at w. and_then (storable p q v w) (λ _ x. store_at type (site_of p) at v x))))
  effect audited g k (core.UpdateLocal char local operator e site) s =
      and_then (given (slice_get s.locals local) s) (λ old t. and_then (value audited g k e t)
      (λ v u. and_then (arithmetic_of operator site old v u) (λ new w. and_then (kept_if char new w) (set_local local))))
  effect audited g k (core.Update type p operator e site) s =
      and_then (target_of audited g k p s) (λ q t. and_then (place_from p q t) (λ at u. and_then (load_at type (Some site) at u)
      (λ old w. and_then (value audited g k e w) (λ v x. and_then (arithmetic_of operator site old v x) (λ new y. and_then (kept_if (is_char type) new y)
      (λ kept z. and_then (storable p q kept z) (λ _ last. store_at type (Some site) at kept last)))))))
  effect audited g k (core.Evaluate e) s = and_then (value audited g k e s) (λ _ t. Gives Next t)
  effect audited g k (core.CallAlone callee arguments) s = and_then (values audited g k arguments s) (λ vs t. and_then (called g k callee vs t) no_result)
  effect audited g k (core.Print e) s = and_then (value audited g k e s) printed
  effect audited g k (core.PutByte e) s = and_then (value audited g k e s) put
  effect audited g k (core.Block statements) s = effects audited g k statements s
  effect audited g k (core.If condition consequent alternative) s =
      and_then (value audited g k condition s) (λ v t. choose (truth v) (effect audited g k consequent t) (effect audited g k alternative t))
  effect audited g k (core.Loop condition body step) s =
      and_then (value audited g k condition s) (λ v t. choose (truth v)
      (asked (spend_tick g.budget t.world) t (λ _ u. and_then (effect audited g k body u)
      (behind_turn (λ w. and_then (effect audited g k step w) (on_next (k.turn condition body step))))))
      (Gives Next t))
  effect audited g k (core.Return e) s = and_then (value audited g k e s) (λ v t. Gives (Returned (Some v)) t)
  effect audited g k core.ReturnNothing s = Gives (Returned None) s
  effect audited g k core.Break s = Gives Broke s
  effect audited g k core.Continue s = Gives Continued s

  -- the effect of statements in their order
  pub effects : Bool → Setting → Knot → core.Statements → State → Result Flow
  effects audited g k core.NoMore s = Gives Next s
  effects audited g k (core.Then first others) s = and_then (effect audited g k first s) (on_next (effects audited g k others))

abbrev pub body_if : Bool → Bool → Setting → Knot → core.Function → List Value → State → Result (Option Value)
body_if audited true g k f values s =
    and_then (and_then (effects audited g k f.body (record s { locals = locals_for f.locals values; depth = s.depth + 1 })) (answer f.result)) (back s)
body_if audited false g k f values s = Stuck None s

-- a function that is there, with arguments that it takes
abbrev pub body_of : Bool → Setting → Knot → Option core.Function → List Value → State → Result (Option Value)
body_of audited g k None values s = Stuck None s
body_of audited g k (Some f) values s = body_if audited (fit (parameters_of f) values) g k f values s

-- calls and turns that may go on for a number of ticks
abbrev pub knot : Bool → Setting → ℕ → Knot
knot audited g zero = record { call = λ function values s. Short; turn = λ condition body step s. Short; sandbox = λ s. Short }
knot audited g (suc ticks) =
    record {
      call = λ function values s. body_of audited g (knot audited g ticks) (slice_get g.program.functions function) values s;
      turn = λ condition body step s. effect audited g (knot audited g ticks) (core.Loop condition body step) s;
      sandbox = λ s. crossed (until_return s.world.acts s.world) s;
    }

-- `main` is the first open call, and costs no tick
abbrev pub run_from : Bool → Setting → State → Result (Unit {0})
run_from audited g s = and_then (body_of audited g (knot audited g g.budget) (slice_get g.program.functions g.program.main) [] s) exit

abbrev pub run_of : Bool → core.Core → Settings → List ℤ → List Act → Result (Unit {0})
run_of audited program settings inputs acts =
    run_from audited (setting_of (parted program) settings) (initial (parted program) (new_world (replicate settings.sandbox 0) first_offset inputs acts))

-- what a program means under settings, with these input numbers and acts: how it ends, and the last state
abbrev pub meaning : core.Core → Settings → List ℤ → List Act → Result (Unit {0})
meaning program settings inputs acts = run_of false program settings inputs acts

-- the same with an audit of each pointer
abbrev pub audited_meaning : core.Core → Settings → List ℤ → List Act → Result (Unit {0})
audited_meaning program settings inputs acts = run_of true program settings inputs acts
