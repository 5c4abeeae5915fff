-- What a program with checks means: a check that fails ends the run at its site, and what no check keeps away is stuck.
use Rattle.std.specs.Prelude.{ℕ, zero, suc, ◌+◌, pos, Bool, true, false, not, ◌||◌, List, [], ◌∷◌, Option, Some, None, slice_get, replicate}
use Rattle.std.specs.Ordering.{int_eq}
use Rattle.std.proofs.Common.{ℤ, ◌+ℤ◌}
use Rattle.ckc_text.specs.declared.code.Code.TheVariants.{C1, C2, C3, C5}
use Rattle.act_words.specs.declared.ending.Ending.TheVariants.{Check as Failed}
use Rattle.act_words.specs.declared.settings.Settings.{Settings}
use Rattle.act_words.specs.Acts.{Act}
use Rattle.act_words.specs.Checks.{is_word_number}
use Rattle.act_words.specs.World.{new_world}
use Rattle.act_words.specs.Touches.{spend_tick, next_input, until_return}
use Rattle.flat_bytes.specs.Blocks.{first_offset}
use Rattle.ckc_core.specs.declared.program.Direction.{Direction}
use Rattle.ckc_core.specs.declared.program.Direction.TheVariants as directions
use Rattle.ckc_core.specs.declared.program.PointerBounds.{PointerBounds}
use Rattle.ckc_core.specs.declared.program.Site.{Site}
use Rattle.ckc_core.specs.Outcome.{Gives, Ends, Stuck, Short, and_then}
use Rattle.ckc_core.specs.States.{Value, Number, Null, At, State}
use Rattle.ckc_core.specs.Bounds.{Ends as EndsOf, ends_at}
use Rattle.ckc_core.specs.Steps.{Result, Flow, Next, Broke, Continued, Returned, KnotOf, SettingOf, setting_of}
use Rattle.ckc_core.specs.Steps.{given, value_if, place_at, variable_at, load_at, pointer_to}
use Rattle.ckc_core.specs.Steps.{truth, number_of_test, same_place, test_given, arithmetic_of, compared, negated, complemented, low_byte_of, asked, crossed}
use Rattle.ckc_core.specs.Steps.{back, called, result_given, choose, store_at, set_local, kept_if}
use Rattle.ckc_core.specs.Steps.{is_char, is_zero, printed, put, on_next, behind_turn, no_result}
use Rattle.ckc_core.specs.Steps.{fit, parameters_of, answer, locals_for, exit, initial}
use Rattle.ckc_core.specs.Pointers.{number_given, checked_if, distance, lies_below, lies_up_to, are_within}
use Rattle.ckc_core.specs.Pointers.{cell_behind, pointer_at, ordered, allocated, counted as bytes_counted}
use Rattle.check_insertion.specs.declared.erased.Check.{Check}
use Rattle.check_insertion.specs.declared.erased.Reading.{Reading}
use Rattle.check_insertion.specs.declared.erased.Check.TheVariants as checks
use Rattle.check_insertion.specs.Erased as erased

abbrev pub Knot : Type 0
Knot = KnotOf erased.Expression erased.Statement

abbrev pub Setting : Type 0
Setting = SettingOf erased.Statements

-- ---- checks of a pointer

-- which way, and by how many elements of how many bytes, the place stands from a pointer that is checked with it
pub record Step : Type 0 where
  pub direction : Direction
  pub size : ℕ
  pub number : ℤ

-- how many bytes that are
abbrev pub far : Step → ℤ
far step = distance step.direction step.size step.number

-- the place of the pointer itself
abbrev pub no_step : ℕ → Step
no_step size = record { direction = directions.Forward; size = size; number = pos 0 }

-- the bounds of a check, counted in elements of so many bytes
abbrev pub counted : Reading → ℕ → PointerBounds
counted r size = record { bounds = r.bounds; size = size; terminated = false; site = r.site }

-- a byte lies as a test of the ends says (C2)
abbrev pub within : (EndsOf → ℤ → Bool) → Site → Option EndsOf → ℤ → State → Result (Unit {0})
within test site None byte s = Stuck (Some site) s
within test site (Some e) byte s = checked_if (test e byte) C2 site (Gives tt s) s

-- ends lie within others (C5)
abbrev pub contained : Site → Option EndsOf → Option EndsOf → State → Result (Unit {0})
contained site None new s = Stuck (Some site) s
contained site (Some old) None s = Stuck (Some site) s
contained site (Some old) (Some new) s = checked_if (are_within old new) C5 site (Gives tt s) s

-- a check of a pointer and of the place that stands a step from it, by the locals at this moment
abbrev pub check : Step → Check → Value → State → Result (Unit {0})
check step (checks.NotNull site) (Number number) s = Stuck (Some site) s
check step (checks.NotNull site) Null s = Ends (Failed C1 site.place) s
check step (checks.NotNull site) (At block byte) s = Gives tt s
check step (checks.Below r) (Number number) s = Stuck (Some r.site) s
check step (checks.Below r) Null s = Stuck (Some r.site) s
check step (checks.Below r) (At block byte) s = within lies_below r.site (ends_at (counted r step.size) s.locals block byte) (pos byte +ℤ far step) s
check step (checks.UpTo r) (Number number) s = Stuck (Some r.site) s
check step (checks.UpTo r) Null s = Stuck (Some r.site) s
check step (checks.UpTo r) (At block byte) s = within lies_up_to r.site (ends_at (counted r step.size) s.locals block byte) (pos byte +ℤ far step) s
check step (checks.Contains old new) (Number number) s = Stuck (Some new.site) s
check step (checks.Contains old new) Null s = Gives tt s
check step (checks.Contains old new) (At block byte) s =
    contained new.site (ends_at (counted old step.size) s.locals block byte) (ends_at (counted new step.size) s.locals block byte) s

-- in their order
abbrev pub pass : Step → List Check → Value → State → Result (Unit {0})
pass step [] v s = Gives tt s
pass step (c ∷ rest) v s = and_then (check step c v s) (λ _ t. pass step rest v t)

-- the place of an element: so many bytes behind the one that the pointer leads to
abbrev pub element : ℕ → Value → State → Result (ℕ × ℕ)
element offset (Number number) s = Stuck None s
element offset Null s = Stuck None s
element offset (At block byte) s = place_at None block (byte + offset) s

-- the same of an element that begins a step from there
abbrev pub far_element : ℕ → Step → Value → State → Result (ℕ × ℕ)
far_element offset step (Number number) s = Stuck None s
far_element offset step Null s = Stuck None s
far_element offset step (At block byte) s = cell_behind None block (pos byte +ℤ far step) offset s

abbrev pub reached : erased.Index → ℕ → Step → Value → State → Result (ℕ × ℕ)
reached erased.First offset step v s = element offset v s
reached (erased.Element number size) offset step v s = far_element offset step v s

-- how many bytes stand before the first zero, from the one on that a pointer leads to; each byte that is read costs a tick
abbrev pub length_from : ℕ → Value → State → Result Value
length_from budget (Number number) s = Stuck None s
length_from budget Null s = Stuck None s
length_from budget (At block byte) s = bytes_counted budget None block byte s

-- a value that may be stored at a byte, where nothing but 0 is stored at the upper end (C3)
abbrev pub kept_at : Site → Option EndsOf → ℤ → Value → State → Result (Unit {0})
kept_at site None byte v s = Stuck (Some site) s
kept_at site (Some e) byte v s = checked_if (is_zero v || not (int_eq byte e.high)) C3 site (Gives tt s) s

-- the same a step from a pointer, by the locals at this moment
abbrev pub storable : Step → Option Reading → Value → Value → State → Result (Unit {0})
storable step None p v s = Gives tt s
storable step (Some r) (Number number) v s = Stuck (Some r.site) s
storable step (Some r) Null v s = Stuck (Some r.site) s
storable step (Some r) (At block byte) v s = kept_at r.site (ends_at (counted r step.size) s.locals block byte) (pos byte +ℤ far step) v s

-- a pointer a step on
abbrev pub moved : Step → Value → State → Result Value
moved step (Number number) s = Stuck None s
moved step Null s = Stuck None s
moved step (At block byte) s = pointer_at None block (pos byte +ℤ far step) s

-- the step to the element of a number; to the first one there is none
abbrev pub step_to : erased.Index → ℤ → Step
step_to erased.First n = no_step 1
step_to (erased.Element number size) n = record { direction = directions.Forward; size = size; number = n }

-- ---- expressions

abbrev mutual
  -- the value of an expression, from left to right
  pub value : Setting → Knot → erased.Expression → State → Result Value
  value g k (erased.Number number) s = value_if (is_word_number number) None (Number number) s
  value g k erased.Null s = Gives Null s
  value g k (erased.Local local) s = given (slice_get s.locals local) s
  value g k (erased.Load type p) s = and_then (place g k p s) (load_at type None)
  value g k (erased.AddressOf p) s = and_then (place g k p s) pointer_to
  value g k (erased.Negate operand site) s = and_then (value g k operand s) (negated site)
  value g k (erased.Complement operand) s = and_then (value g k operand s) complemented
  value g k (erased.Not operand) s = and_then (value g k operand s) (λ v t. Gives (number_of_test (not (truth v))) t)
  value g k (erased.Arithmetic operator left right site) s = and_then (value g k left s) (λ a t. and_then (value g k right t) (arithmetic_of operator site a))
  value g k (erased.Compare comparison left right) s = and_then (value g k left s) (λ a t. and_then (value g k right t) (compared comparison a))
  value g k (erased.Same left right) s = and_then (value g k left s) (λ a t. and_then (value g k right t) (λ b u. test_given (same_place a b) u))
  value g k (erased.AndAlso left right) s =
      and_then (value g k left s) (λ a t. choose (truth a) (and_then (value g k right t) (λ b u. Gives (number_of_test (truth b)) u))
      (Gives (number_of_test false) t))
  value g k (erased.OrElse left right) s =
      and_then (value g k left s) (λ a t. choose (truth a) (Gives (number_of_test true) t)
      (and_then (value g k right t) (λ b u. Gives (number_of_test (truth b)) u)))
  value g k (erased.LowByte operand) s = and_then (value g k operand s) low_byte_of
  value g k (erased.Call callee arguments) s = and_then (values g k arguments s) (λ vs t. and_then (called g k callee vs t) result_given)
  value g k erased.NextInput s = asked (next_input s.world) s (λ number t. Gives (Number number) t)
  value g k (erased.Sum pointer direction number size checks) s =
      and_then (value g k pointer s) (λ v t. and_then (and_then (value g k number t) (number_given None))
      (λ n u. and_then (pass (record { direction = direction; size = size; number = n }) checks v u)
      (λ _ w. moved (record { direction = direction; size = size; number = n }) v w)))
  value g k (erased.Order comparison left left_checks right right_checks) s =
      and_then (value g k left s) (λ a t. and_then (value g k right t) (λ b u. and_then (pass (no_step 1) left_checks a u)
      (λ _ w. and_then (pass (no_step 1) right_checks b w) (λ _ x. ordered comparison None a b x))))
  value g k (erased.Allocate count element terminator) s = and_then (and_then (value g k count s) (number_given None)) (allocated g.trusted terminator element)
  value g k (erased.Length pointer size checks) s =
      and_then (value g k pointer s) (λ v t. and_then (pass (no_step size) checks v t) (λ _ u. length_from g.budget v u))
  value g k (erased.Cast pointer size checks) s = and_then (value g k pointer s) (λ v t. and_then (pass (no_step size) checks v t) (λ _ u. Gives v u))

  -- the values of arguments, from left to right
  pub values : Setting → Knot → erased.Arguments → State → Result (List Value)
  values g k erased.Done s = Gives [] s
  values g k (erased.More first rest) s = and_then (value g k first s) (λ v t. and_then (values g k rest t) (λ vs u. Gives (v ∷ vs) u))

  -- where a cell stands
  pub place : Setting → Knot → erased.Place → State → Result (ℕ × ℕ)
  place g k (erased.Direct object offset) s = variable_at g object offset s
  place g k (erased.Through pointer index offset checks) s =
      and_then (value g k pointer s) (λ v t. and_then (number_of g k index t)
      (λ n u. and_then (pass (step_to index n) checks v u) (λ _ w. reached index offset (step_to index n) v w)))

  -- the number of an element
  pub number_of : Setting → Knot → erased.Index → State → Result ℤ
  number_of g k erased.First s = Gives (pos 0) s
  number_of g k (erased.Element number size) s = and_then (value g k number s) (number_given None)

-- a pointer, and the number of the element that an access takes
pub record Target : Type 0 where
  pub pointer : Value
  pub number : ℤ

-- A store evaluates its pointer and its index, then its value, and makes its checks behind all. A file-level variable is there before.
abbrev pub target_of : Setting → Knot → erased.Place → State → Result Target
target_of g k (erased.Direct object offset) s =
    and_then (variable_at g object offset s) (λ place t. Gives (record { pointer = At place.0 place.1; number = pos 0 }) t)
target_of g k (erased.Through pointer index offset checks) s =
    and_then (value g k pointer s) (λ v t. and_then (number_of g k index t) (λ n u. Gives (record { pointer = v; number = n }) u))

abbrev pub place_from : erased.Place → Target → State → Result (ℕ × ℕ)
place_from (erased.Direct object offset) t s = place_at None object offset s
place_from (erased.Through pointer index offset checks) t s =
    and_then (pass (step_to index t.number) checks t.pointer s) (λ _ u. reached index offset (step_to index t.number) t.pointer u)

-- the step from its pointer to a place
abbrev pub step_from : erased.Place → Target → Step
step_from (erased.Direct object offset) t = no_step 1
step_from (erased.Through pointer index offset checks) t = step_to index t.number

abbrev mutual
  -- the effect of a statement
  pub effect : Setting → Knot → erased.Statement → State → Result Flow
  effect g k erased.Nothing s = Gives Next s
  effect g k (erased.SetLocal local e) s = and_then (value g k e s) (set_local local)
  effect g k (erased.Store type p e end) s =
      and_then (target_of g k p s) (λ q t. and_then (value g k e t) (λ v u. and_then (place_from p q u)
      (λ at w. and_then (storable (step_from p q) end q.pointer v w) (λ _ x. store_at type None at v x))))
  effect g k (erased.UpdateLocal char local operator e site) s =
      and_then (given (slice_get s.locals local) s) (λ old t. and_then (value g k e t)
      (λ v u. and_then (arithmetic_of operator site old v u) (λ new w. and_then (kept_if char new w) (set_local local))))
  effect g k (erased.Update type p operator e site end) s =
      and_then (target_of g k p s) (λ q t. and_then (place_from p q t) (λ at u. and_then (load_at type None at u) (λ old w. and_then (value g k e w)
      (λ v x. and_then (arithmetic_of operator site old v x) (λ new y. and_then (kept_if (is_char type) new y)
      (λ kept z. and_then (storable (step_from p q) end q.pointer kept z) (λ _ last. store_at type None at kept last)))))))
  effect g k (erased.Evaluate e) s = and_then (value g k e s) (λ _ t. Gives Next t)
  effect g k (erased.CallAlone callee arguments) s = and_then (values g k arguments s) (λ vs t. and_then (called g k callee vs t) no_result)
  effect g k (erased.Print e) s = and_then (value g k e s) printed
  effect g k (erased.PutByte e) s = and_then (value g k e s) put
  effect g k (erased.Block statements) s = effects g k statements s
  effect g k (erased.If condition consequent alternative) s =
      and_then (value g k condition s) (λ v t. choose (truth v) (effect g k consequent t) (effect g k alternative t))
  effect g k (erased.Loop condition body step) s =
      and_then (value g k condition s) (λ v t. choose (truth v)
      (asked (spend_tick g.budget t.world) t (λ _ u. and_then (effect g k body u)
      (behind_turn (λ w. and_then (effect g k step w) (on_next (k.turn condition body step))))))
      (Gives Next t))
  effect g k (erased.Return e) s = and_then (value g k e s) (λ v t. Gives (Returned (Some v)) t)
  effect g k erased.ReturnNothing s = Gives (Returned None) s
  effect g k erased.Break s = Gives Broke s
  effect g k erased.Continue s = Gives Continued s

  -- the effect of statements in their order
  pub effects : Setting → Knot → erased.Statements → State → Result Flow
  effects g k erased.NoMore s = Gives Next s
  effects g k (erased.Then first others) s = and_then (effect g k first s) (on_next (effects g k others))

abbrev pub body_if : Bool → Setting → Knot → erased.Function → List Value → State → Result (Option Value)
body_if true g k f values s =
    and_then (and_then (effects g k f.body (record s { locals = locals_for f.locals values; depth = s.depth + 1 })) (answer f.result)) (back s)
body_if false g k f values s = Stuck None s

-- a function that is there, with arguments that it takes
abbrev pub body_of : Setting → Knot → Option erased.Function → List Value → State → Result (Option Value)
body_of g k None values s = Stuck None s
body_of g k (Some f) values s = body_if (fit (parameters_of f) values) g k f values s

-- calls and turns that may go on for a number of ticks
abbrev pub knot : Setting → ℕ → Knot
knot g zero = record { call = λ function values s. Short; turn = λ condition body step s. Short; sandbox = λ s. Short }
knot g (suc ticks) =
    record {
      call = λ function values s. body_of g (knot g ticks) (slice_get g.program.functions function) values s;
      turn = λ condition body step s. effect g (knot g ticks) (erased.Loop condition body step) s;
      sandbox = λ s. crossed (until_return s.world.acts s.world) s;
    }

-- `main` is the first open call, and costs no tick
abbrev pub run_from : Setting → State → Result (Unit {0})
run_from g s = and_then (body_of g (knot g g.budget) (slice_get g.program.functions g.program.main) [] s) exit

-- what a program means under settings, with these input numbers and acts: how it ends, and the last state
abbrev pub meaning : erased.Erased → Settings → List ℤ → List Act → Result (Unit {0})
meaning program settings inputs acts =
    run_from (setting_of program settings) (initial program (new_world (replicate settings.sandbox 0) first_offset inputs acts))
