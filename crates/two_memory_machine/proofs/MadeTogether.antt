-- Steps that are made together are moves of the table, one behind the other.
use Rattle.std.proofs.Common.{◌≡◌, ℕ, zero, suc, ◌+◌, ◌<◌, ◌≤◌, Bool, true, false, nat_lt, List, [], ◌∷◌, Option, Some, None, length, drop, refl, sym, subst, ap, ◌∙◌, arith}
use Rattle.std.specs.Prelude.{IsTrue, slice_get}
use Rattle.std.proofs.lemmas.Bool.Decides.{nat_tests}
use Rattle.std.proofs.lemmas.Option.{none-some}
use Rattle.std.proofs.Common.{ℤ}
use Rattle.ckc_text.specs.declared.place.Place.{Place}
use Rattle.act_words.specs.Arithmetic.{bit}
use Rattle.act_words.specs.Checks.{Checked, Holds, Fails}
use Rattle.act_words.specs.declared.operator.ArithmeticOperator.{ArithmeticOperator}
use Rattle.act_words.specs.Operators.{arithmetic_result, holds_of_words}
use Rattle.act_words.specs.Numbers.{signed, word}
use Rattle.code_words.specs.Paced.{is_paced}
use Rattle.code_words.specs.Functions.{Func}
use Rattle.code_words.specs.Table.{Frame, Runs, State, Step, Goes, Over, act, element}
use Rattle.code_words.specs.declared.op.Op.{Op}
use Rattle.code_words.specs.declared.op.Op.TheVariants as ops
use Rattle.two_memory_machine_states.specs.declared.event.Event.{Event}
use Rattle.two_memory_machine_states.specs.declared.event.Event.TheVariants.{Ran}
use Rattle.two_memory_machine_states.specs.declared.outcome.Outcome.{Outcome}
use Rattle.two_memory_machine_states.specs.declared.event.Waiting.TheVariants as waiting
use Rattle.two_memory_machine_states.specs.declared.outcome.Outcome.TheVariants as outcomes
use Rattle.two_memory_machine_states.specs.Ahead.{ahead_of, moved_on}
use Rattle.two_memory_machine_states.specs.Machines.{Machine, Running, is_input, next_op_of, state_of, waiting_of}
use Rattle.two_memory_machine_states.specs.Steps.{Acts, Brings, IsGivenTo, IsIn, IsReady, event_of}
use Rattle.two_memory_machine.specs.Running.{StepsOn, IsEndedIf}
use Rattle.two_memory_machine.specs.Together.{RunsTo, RunsIf, EndsIn, SomeSteps, TriesSteps, operand_of, HoldsAt, moved_of, combined_of, word_if, IsElement}
use Rattle.two_memory_machine.specs.Families.{ActsIf, RunsUnlessTold, leads}
use Rattle.two_memory_machine.specs.Told.{IsStep}
use Rattle.two_memory_machine_states.proofs.Moving.{stands_in}
use Rattle.two_memory_machine.proofs.Tries.{runs_again, tried}

pub run_step : (old new : Machine) → IsStep old Ran new → RunsTo old new
run_step old new now =
    let again = runs_again old new now.steps in
    record { waits = again; leads = λ event last rest. StepsOn.more now.steps again rest; sooner = now.sooner }

pub run_then : (old mid new : Machine) → RunsTo old mid → RunsTo mid new → RunsTo old new
run_then old mid new first next =
    record { waits = next.waits; leads = λ event last rest. first.leads event last (next.leads event last rest); sooner = omega (arith, first.sooner, next.sooner) }

-- ---- some steps

pub one_some : (old new : Machine) (outcome : Outcome) → IsStep old (event_of outcome new.over) new × IsEndedIf outcome new.over → SomeSteps old outcome new
one_some old new outcomes.Ran now = run_step old new now.0
one_some old new outcomes.Asks now = record { steps = StepsOn.last now.0.steps; over = now.0.over; sooner = now.0.sooner }
one_some old new outcomes.Ended now = (record { steps = StepsOn.last now.0.steps; over = now.0.over; sooner = now.0.sooner }, now.1)

pub acted : (old new : Machine) (outcome : Outcome) (op : Op) → IsTrue (is_paced old.image) → waiting_of old ≡ waiting.Runs → next_op_of old ≡ Some op → IsGivenTo old.doing (next_op_of old) → is_input (Some op) ≡ false → Acts op old outcome new → SomeSteps old outcome new
acted old new outcome op paced waits next given other acts = one_some old new outcome (tried old new outcome op paced waits next given other acts)

ends_in : (old mid new : Machine) (event : Event) → RunsTo old mid → EndsIn mid event new → EndsIn old event new
ends_in old mid new event first next =
    record { steps = first.leads event new next.steps; over = next.over; sooner = omega (arith, first.sooner, next.sooner) }

pub run_some : (old mid new : Machine) (outcome : Outcome) → RunsTo old mid → SomeSteps mid outcome new → SomeSteps old outcome new
run_some old mid new outcomes.Ran first next = run_then old mid new first next
run_some old mid new outcomes.Asks first next = ends_in old mid new _ first next
run_some old mid new outcomes.Ended first next = (ends_in old mid new _ first next.0, next.1)

pub run_if : (old mid new : Machine) (b : Bool) → RunsTo old mid → RunsIf b mid new → RunsTo old new
run_if old mid new true first next = run_then old mid new first next
run_if old mid new false first same = rw same first

-- an instruction that goes on leaves a machine that runs
pub acts_on : (old new : Machine) (op : Op) → next_op_of old ≡ Some op → Acts op old outcomes.Ran new → (new.over ≡ None) × (new.doing ≡ Running)
acts_on old new op next acts = let s = stands_in old op next in by _ (acts s.f s.here [] [] [])
  where
    by : (step : Step) → Brings [] [] [] step old outcomes.Ran new → (new.over ≡ None) × (new.doing ≡ Running)
    by (Goes t) brings = (brings.2, brings.1)
    by (Over ending t) brings = absurd (let no : outcomes.Ran ≡ outcomes.Ended = brings.0 in cc)

-- ---- instructions ahead

slice_get-drop : {A : Type 0} (n k : ℕ) (xs : List A) → slice_get (drop n xs) k ≡ slice_get xs (n + k)
slice_get-drop zero k xs = let none : k ≡ 0 + k = omega arith in ap (slice_get xs) none
slice_get-drop (suc n) k [] = refl
slice_get-drop (suc n) k (x ∷ xs) = let one : suc (n + k) ≡ suc n + k = omega arith in slice_get-drop n k xs ∙ ap (slice_get (x ∷ xs)) one

-- ---- one step

-- the machine is in a function, and its steps are moves of the table
pub record CanRun (m : Machine) (f : Func) : Type 0 where
  pub paced : IsTrue (is_paced m.image)
  pub going : m.over ≡ None
  pub runs : m.doing ≡ Running
  pub here : IsIn m f

one_function : (m : Machine) (f g : Func) → IsIn m f → IsIn m g → f ≡ g
one_function m f g e h = let both : Some f ≡ Some g = sym e ∙ h in cc

-- an instruction goes on with other slots and another stack
abbrev LeadsTo : Machine → Func → Op → Frame → Frame → Type 0
LeadsTo m f op old new = (s : State) → act m.image m.settings f op old s ≡ Goes (record s { control = Runs new })

abbrev frame_at : Machine → ℕ → List ℕ → List ℕ → Frame
frame_at m next slots stack = record m.frame { next = next; slots = slots; stack = stack }

next_is : (m : Machine) (f : Func) (op : Op) → IsIn m f → slice_get f.ops m.frame.next ≡ Some op → next_op_of m ≡ Some op
next_is m f op here stands = rw here stands

ahead_is : (m : Machine) (f : Func) (k at : ℕ) (found : Option Op) → IsIn m f → at ≡ m.frame.next + k → slice_get (ahead_of m) k ≡ found → slice_get f.ops at ≡ found
ahead_is m f k at found here same stands =
    let ahead : slice_get (drop m.frame.next f.ops) k ≡ found = rw here at stands in
    rw same (sym (slice_get-drop m.frame.next k f.ops) ∙ ahead)

module _ (m : Machine) (f : Func) (can : CanRun m f) (slots : List ℕ) where
  one_step : (op : Op) (next : ℕ) (stack : List ℕ) (next' : ℕ) (slots' stack' : List ℕ) → slice_get f.ops next ≡ Some op → is_input (Some op) ≡ false → LeadsTo m f op (frame_at m next slots stack) (frame_at m next' slots' stack') → RunsTo (moved_on next slots stack m) (moved_on next' slots' stack' m)
  one_step op next stack next' slots' stack' stands other line =
      let old = moved_on next slots stack m in
      let new = moved_on next' slots' stack' m in
      let found : next_op_of old ≡ Some op = next_is old f op can.here stands in
      let waits : waiting_of old ≡ waiting.Runs = rw (can.going, can.runs) refl in
      let given : IsGivenTo old.doing (next_op_of old) = rw can.runs _ in
      let acts : Acts op old outcomes.Ran new = λ g here inputs numbers events.
      let same = one_function old f g can.here here in
      rw (← same, line (state_of old inputs numbers events), can.runs) (refl, refl, can.going, (refl, refl)) in
      run_step old new (tried old new outcomes.Ran op can.paced waits found given other acts).0

  -- an operand is pushed
  pub pushed : (k at next : ℕ) (stack : List ℕ) (w : ℕ) → at ≡ m.frame.next + k → next ≡ at + 1 → operand_of (slice_get (ahead_of m) k) slots ≡ Some w → length stack < f.stack → RunsTo (moved_on at slots stack m) (moved_on next slots (w ∷ stack) m)
  pushed k at next stack w same on reads room = by (slice_get (ahead_of m) k) refl reads
    where
      there : nat_lt (length stack) f.stack ≡ true
      there = grind (arith, nat_tests, room)

      by : (found : Option Op) → slice_get (ahead_of m) k ≡ found → operand_of found slots ≡ Some w → RunsTo (moved_on at slots stack m) (moved_on next slots (w ∷ stack) m)
      by None stands is = absurd (none-some _ is)
      by (Some (ops.Const number)) stands is =
          let word_is : word number ≡ w = cc in
          one_step (ops.Const number) at stack next slots (w ∷ stack) (ahead_is m f k at (Some (ops.Const number)) can.here same stands) refl (λ s. rw (there, on, word_is) refl)
      by (Some (ops.Local slot)) stands is =
          one_step (ops.Local slot) at stack next slots (w ∷ stack) (ahead_is m f k at (Some (ops.Local slot)) can.here same stands) refl (λ s. rw (is, there, on) refl)
      by (Some _) stands is = absurd (none-some _ is)

  -- a check of an element holds
  pub checked : (k at next : ℕ) (below : List ℕ) (p i b l h : ℕ) → at ≡ m.frame.next + k → next ≡ at + 1 → HoldsAt (slice_get (ahead_of m) k) p i b l h → RunsTo (moved_on at slots (h ∷ l ∷ b ∷ i ∷ p ∷ below) m) (moved_on next slots below m)
  checked k at next below p i b l h same on holds = by (slice_get (ahead_of m) k) refl holds
    where
      by : (found : Option Op) → slice_get (ahead_of m) k ≡ found → HoldsAt found p i b l h → RunsTo (moved_on at slots (h ∷ l ∷ b ∷ i ∷ p ∷ below) m) (moved_on next slots below m)
      by None stands is = absurd is
      by (Some (ops.In low high size place)) stands is =
          one_step (ops.In low high size place) at (h ∷ l ∷ b ∷ i ∷ p ∷ below) next slots below (ahead_is m f k at (Some (ops.In low high size place)) can.here same stands) refl (λ s. rw (is, on) refl)
      by (Some _) stands is = absurd is

  -- an address is moved to an element
  pub moved : (k at next : ℕ) (below : List ℕ) (a n w : ℕ) → at ≡ m.frame.next + k → next ≡ at + 1 → moved_of (slice_get (ahead_of m) k) a n ≡ Some w → length below < f.stack → RunsTo (moved_on at slots (n ∷ a ∷ below) m) (moved_on next slots (w ∷ below) m)
  moved k at next below a n w same on moves room = by (slice_get (ahead_of m) k) refl moves
    where
      there : nat_lt (length below) f.stack ≡ true
      there = grind (arith, nat_tests, room)

      by : (found : Option Op) → slice_get (ahead_of m) k ≡ found → moved_of found a n ≡ Some w → RunsTo (moved_on at slots (n ∷ a ∷ below) m) (moved_on next slots (w ∷ below) m)
      by None stands is = absurd (none-some _ is)
      by (Some (ops.Index size)) stands is =
          let to : element a n size ≡ w = cc in
          one_step (ops.Index size) at (n ∷ a ∷ below) next slots (w ∷ below) (ahead_is m f k at (Some (ops.Index size)) can.here same stands) refl (λ s. rw (there, on, to) refl)
      by (Some _) stands is = absurd (none-some _ is)

  -- two words are combined
  pub combined : (k at next : ℕ) (below : List ℕ) (a b w : ℕ) → at ≡ m.frame.next + k → next ≡ at + 1 → combined_of (slice_get (ahead_of m) k) a b ≡ Some w → length below < f.stack → RunsTo (moved_on at slots (b ∷ a ∷ below) m) (moved_on next slots (w ∷ below) m)
  combined k at next below a b w same on combines room = by (slice_get (ahead_of m) k) refl combines
    where
      there : nat_lt (length below) f.stack ≡ true
      there = grind (arith, nat_tests, room)

      checks : (operator : ArithmeticOperator) (place : Place) (result : Checked ℤ) → arithmetic_result operator place (signed a) (signed b) ≡ result → word_if result ≡ Some w → LeadsTo m f (ops.Arithmetic operator place) (frame_at m at slots (b ∷ a ∷ below)) (frame_at m next slots (w ∷ below))
      checks operator place (Holds number) is has = let to : word number ≡ w = cc in λ s. rw (is, there, on, to) refl
      checks operator place (Fails ending) is has = absurd (cc)

      by : (found : Option Op) → slice_get (ahead_of m) k ≡ found → combined_of found a b ≡ Some w → RunsTo (moved_on at slots (b ∷ a ∷ below) m) (moved_on next slots (w ∷ below) m)
      by None stands is = absurd (none-some _ is)
      by (Some (ops.Arithmetic operator place)) stands is =
          one_step (ops.Arithmetic operator place) at (b ∷ a ∷ below) next slots (w ∷ below) (ahead_is m f k at (Some (ops.Arithmetic operator place)) can.here same stands) refl (checks operator place (arithmetic_result operator place (signed a) (signed b)) refl is)
      by (Some (ops.Compare comparison)) stands is =
          let to : bit (holds_of_words comparison a b) ≡ w = cc in
          one_step (ops.Compare comparison) at (b ∷ a ∷ below) next slots (w ∷ below) (ahead_is m f k at (Some (ops.Compare comparison)) can.here same stands) refl (λ s. rw (there, on, to) refl)
      by (Some _) stands is = absurd (none-some _ is)

-- the element is checked, and its address found
pub element_runs : (m : Machine) (f : Func) → CanRun m f → (address : ℕ) → IsElement (ahead_of m) m.frame.slots address → length m.frame.stack + 6 ≤ f.stack → RunsTo m (moved_on (m.frame.next + 9) m.frame.slots (address ∷ m.frame.stack) m)
element_runs m f can address e room =
    let n = m.frame.next in
    let slots = m.frame.slots in
    let s = m.frame.stack in
    let s1 = e.first ∷ s in
    let s2 = e.pointer ∷ s1 in
    let s3 = e.index ∷ s2 in
    let s4 = e.base ∷ s3 in
    let s5 = e.lower ∷ s4 in
    let s6 = e.upper ∷ s5 in
    let r1 = pushed m f can slots 0 n (n + 1) s e.first (omega arith) refl e.first_is (omega arith) in
    let r2 = pushed m f can slots 1 (n + 1) (n + 2) s1 e.pointer refl (omega arith) e.pointer_is (omega arith) in
    let r3 = pushed m f can slots 2 (n + 2) (n + 3) s2 e.index refl (omega arith) e.index_is (omega arith) in
    let r4 = pushed m f can slots 3 (n + 3) (n + 4) s3 e.base refl (omega arith) e.base_is (omega arith) in
    let r5 = pushed m f can slots 4 (n + 4) (n + 5) s4 e.lower refl (omega arith) e.lower_is (omega arith) in
    let r6 = pushed m f can slots 5 (n + 5) (n + 6) s5 e.upper refl (omega arith) e.upper_is (omega arith) in
    let r7 = checked m f can slots 6 (n + 6) (n + 7) s1 e.pointer e.index e.base e.lower e.upper refl (omega arith) e.holds in
    let r8 = pushed m f can slots 7 (n + 7) (n + 8) s1 e.number refl (omega arith) e.number_is (omega arith) in
    let r9 = moved m f can slots 8 (n + 8) (n + 9) s e.first e.number address refl (omega arith) e.moved (omega arith) in
    run_then _ _ _ r1 (run_then _ _ _ r2 (run_then _ _ _ r3 (run_then _ _ _ r4 (run_then _ _ _ r5 (run_then _ _ _ r6 (run_then _ _ _ r7 (run_then _ _ _ r8 r9)))))))

pub element_goes : (m : Machine) → IsTrue (is_paced m.image) → m.over ≡ None → m.doing ≡ Running → (address : ℕ) → IsElement (ahead_of m) m.frame.slots address → ((f : Func) → IsIn m f → length m.frame.stack + 6 ≤ f.stack) → RunsTo m (moved_on (m.frame.next + 9) m.frame.slots (address ∷ m.frame.stack) m)
element_goes m paced going runs address e room = by (slice_get m.image.trusted.funs m.frame.function) refl
  where
    by : (found : Option Func) → slice_get m.image.trusted.funs m.frame.function ≡ found → RunsTo m (moved_on (m.frame.next + 9) m.frame.slots (address ∷ m.frame.stack) m)
    by None missing =
        let nothing : operand_of (slice_get (ahead_of m) 0) m.frame.slots ≡ None = rw missing refl in
        absurd (let no : None ≡ Some e.first = sym nothing ∙ e.first_is in cc)
    by (Some f) here = element_runs m f (record { paced = paced; going = going; runs = runs; here = here }) address e (room f here)

-- an operand is there only in a function
module _ (m : Machine) (paced : IsTrue (is_paced m.image)) (going : m.over ≡ None) (runs : m.doing ≡ Running) (w : ℕ) (first : operand_of (slice_get (ahead_of m) 0) m.frame.slots ≡ Some w) where
  in_function : (new : Machine) → ((f : Func) → CanRun m f → RunsTo m new) → RunsTo m new
  in_function new goes = by (slice_get m.image.trusted.funs m.frame.function) refl
    where
      by : (found : Option Func) → slice_get m.image.trusted.funs m.frame.function ≡ found → RunsTo m new
      by None missing =
          let nothing : operand_of (slice_get (ahead_of m) 0) m.frame.slots ≡ None = rw missing refl in
          absurd (let no : None ≡ Some w = sym nothing ∙ first in cc)
      by (Some f) here = goes f (record { paced = paced; going = going; runs = runs; here = here })

  pub top_goes : (stack : List ℕ) (a to : ℕ) → m.frame.stack ≡ stack → Some a ≡ slice_get stack 0 → combined_of (slice_get (ahead_of m) 1) a w ≡ Some to → ((f : Func) → IsIn m f → length m.frame.stack + 1 ≤ f.stack) → RunsTo m (moved_on (m.frame.next + 2) m.frame.slots (to ∷ drop 1 stack) m)
  top_goes [] a to is top combines room = absurd (cc)
  top_goes (b ∷ below) a to is top combines room =
      let same : b ≡ a = cc in
      let n = m.frame.next in
      let slots = m.frame.slots in
      in_function _ (λ f can.
      let enough : length (b ∷ below) + 1 ≤ f.stack = rw is at (room f can.here) in
      let r1 : RunsTo (moved_on n slots (b ∷ below) m) (moved_on (n + 1) slots (w ∷ b ∷ below) m) = pushed m f can slots 0 n (n + 1) (b ∷ below) w (omega arith) refl first (omega arith) in
      let r2 = combined m f can slots 1 (n + 1) (n + 2) below b w to refl (omega arith) (rw same combines) (omega arith) in
      let last = moved_on (n + 2) slots (to ∷ below) m in
      let start : moved_on n slots (b ∷ below) m ≡ m = ap (λ stack. moved_on n slots stack m) (sym is) in
      subst (λ (from : Machine). RunsTo from last) start (run_then _ _ _ r1 r2))

  pub both_goes : (right to : ℕ) → operand_of (slice_get (ahead_of m) 1) m.frame.slots ≡ Some right → combined_of (slice_get (ahead_of m) 2) w right ≡ Some to → ((f : Func) → IsIn m f → length m.frame.stack + 2 ≤ f.stack) → RunsTo m (moved_on (m.frame.next + 3) m.frame.slots (to ∷ m.frame.stack) m)
  both_goes right to second combines room =
      let n = m.frame.next in
      let slots = m.frame.slots in
      let s = m.frame.stack in
      in_function _ (λ f can.
      let enough = room f can.here in
      let r1 = pushed m f can slots 0 n (n + 1) s w (omega arith) refl first (omega arith) in
      let r2 = pushed m f can slots 1 (n + 1) (n + 2) (w ∷ s) right refl (omega arith) second (omega arith) in
      let r3 = combined m f can slots 2 (n + 2) (n + 3) s w right to refl (omega arith) combines (omega arith) in
      run_then _ _ _ r1 (run_then _ _ _ r2 r3))

-- steps that were made, or an instruction's own
pub made_alone : (old mid new : Machine) (outcome : Outcome) (op : Op) → mid ≡ old → IsReady old → IsTrue (is_paced old.image) → next_op_of old ≡ Some op → is_input (Some op) ≡ false → Acts op mid outcome new → SomeSteps old outcome new
made_alone old mid new outcome op same ready paced next other acts =
    acted old new outcome op paced (rw (ready.going, ready.runs) refl) next (rw ready.runs _) other (rw same at acts)

-- an instruction that was performed
pub performed : (old new : Machine) (result : Option Outcome) (op : Op) → IsTrue (is_paced old.image) → waiting_of old ≡ waiting.Runs → next_op_of old ≡ Some op → IsGivenTo old.doing (next_op_of old) → RunsUnlessTold op old result new → TriesSteps old result new
performed old new None op paced waits next given runs = (runs.0, rw next runs.1)
performed old new (Some outcome) op paced waits next given runs = by (leads op) runs
  where
    by : (b : Bool) → ActsIf b op old outcome new → SomeSteps old outcome new
    by true some = some
    by false acts = acted old new outcome op paced waits next given acts.0 acts.1
