-- Steps that are made together.
use Rattle.std.specs.Prelude.{◌≡◌, ℕ, ◌<◌, Bool, true, false, List, Option, Some, None, slice_get}
use Rattle.std.proofs.Common.{ℤ}
use Rattle.act_words.specs.Arithmetic.{bit}
use Rattle.act_words.specs.Checks.{Checked, Holds, Fails}
use Rattle.act_words.specs.Numbers.{signed, word}
use Rattle.act_words.specs.Operators.{arithmetic_result, holds_of_words}
use Rattle.code_words.specs.declared.op.Op.{Op}
use Rattle.code_words.specs.declared.op.Op.TheVariants as ops
use Rattle.code_words.specs.Table.{element, end_of, is_in, place_at}
use Rattle.two_memory_machine_states.specs.declared.event.Event.{Event}
use Rattle.two_memory_machine_states.specs.declared.event.Waiting.TheVariants as waiting
use Rattle.two_memory_machine_states.specs.declared.outcome.Outcome.{Outcome}
use Rattle.two_memory_machine_states.specs.declared.outcome.Outcome.TheVariants as outcomes
use Rattle.two_memory_machine_states.specs.Machines.{Machine, waiting_of, next_op_of, ending_given, moves_left}
use Rattle.two_memory_machine_states.specs.Steps.{event_of}
use Rattle.two_memory_machine.specs.Running.{StepsOn, IsEndedIf}
use Rattle.two_memory_machine.specs.Told.{IsTold}

-- steps that tell nothing, one at least, lead to a machine that runs on
pub record RunsTo (old new : Machine) : Type 0 where
  pub waits : waiting_of new ≡ waiting.Runs
  pub leads : (event : Event) (last : Machine) → StepsOn new event last → StepsOn old event last
  pub sooner : moves_left new < moves_left old

-- the steps were made, or nothing was done
abbrev pub RunsIf : Bool → Machine → Machine → Type 0
RunsIf true old new = RunsTo old new
RunsIf false old new = new ≡ old

-- steps that tell nothing, and one more
pub record EndsIn (old : Machine) (event : Event) (new : Machine) : Type 0 where
  pub steps : StepsOn old event new
  pub over : new.over ≡ ending_given event
  pub sooner : moves_left new < moves_left old

-- some steps were made, the last of which did this
abbrev pub SomeSteps : Machine → Outcome → Machine → Type 0
SomeSteps old outcomes.Ran new = RunsTo old new
SomeSteps old outcomes.Asks new = EndsIn old (event_of outcomes.Asks new.over) new
SomeSteps old outcomes.Ended new = EndsIn old (event_of outcomes.Ended new.over) new × IsEndedIf outcomes.Ended new.over

-- some steps were made, or nothing was done
abbrev pub MadeSteps : Machine → Option Outcome → Machine → Type 0
MadeSteps old None new = new ≡ old
MadeSteps old (Some outcome) new = SomeSteps old outcome new

-- some steps were made, or the next one writes or takes an input number, and nothing was done
abbrev pub TriesSteps : Machine → Option Outcome → Machine → Type 0
TriesSteps old None new = (new ≡ old) × IsTold (next_op_of old)
TriesSteps old (Some outcome) new = SomeSteps old outcome new

-- what an instruction pushes that only reads the slots, if it is there
abbrev pub operand_of : Option Op → List ℕ → Option ℕ
operand_of None slots = None
operand_of (Some (ops.Const number)) slots = Some (word number)
operand_of (Some (ops.Local slot)) slots = slice_get slots slot
operand_of (Some _) slots = None

-- a check of an element is there, and holds
abbrev pub HoldsAt : Option Op → (pointer index base lower upper : ℕ) → Type 0
HoldsAt None p i b l h = ⊥
HoldsAt (Some (ops.In low high size place)) p i b l h = is_in (end_of b l low size) (place_at p i size) (end_of b h high size) ≡ true
HoldsAt (Some _) p i b l h = ⊥

-- where an address is moved to by so many elements, if that comes next
abbrev pub moved_of : Option Op → ℕ → ℕ → Option ℕ
moved_of None address number = None
moved_of (Some (ops.Index size)) address number = Some (element address number size)
moved_of (Some _) address number = None

-- of six operands a check of an element takes five and holds, and the first is moved by one more
pub record IsElement (all : List Op) (slots : List ℕ) (address : ℕ) : Type 0 where
  pub first : ℕ
  pub pointer : ℕ
  pub index : ℕ
  pub base : ℕ
  pub lower : ℕ
  pub upper : ℕ
  pub number : ℕ
  pub first_is : operand_of (slice_get all 0) slots ≡ Some first
  pub pointer_is : operand_of (slice_get all 1) slots ≡ Some pointer
  pub index_is : operand_of (slice_get all 2) slots ≡ Some index
  pub base_is : operand_of (slice_get all 3) slots ≡ Some base
  pub lower_is : operand_of (slice_get all 4) slots ≡ Some lower
  pub upper_is : operand_of (slice_get all 5) slots ≡ Some upper
  pub holds : HoldsAt (slice_get all 6) pointer index base lower upper
  pub number_is : operand_of (slice_get all 7) slots ≡ Some number
  pub moved : moved_of (slice_get all 8) first number ≡ Some address

-- the word of a check that holds
abbrev pub word_if : Checked ℤ → Option ℕ
word_if (Holds number) = Some (word number)
word_if (Fails ending) = None

-- what an instruction makes of two words, if it takes two, and its check holds
abbrev pub combined_of : Option Op → (left right : ℕ) → Option ℕ
combined_of None left right = None
combined_of (Some (ops.Arithmetic operator place)) left right = word_if (arithmetic_result operator place (signed left) (signed right))
combined_of (Some (ops.Compare comparison)) left right = Some (bit (holds_of_words comparison left right))
combined_of (Some _) left right = None
