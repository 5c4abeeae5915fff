-- The steps that the meanings of both languages share: values and places, calls, stores, and what follows a statement.
use Rattle.std.specs.Prelude.{ℕ, ◌+◌, ◌%◌, Bool, true, false, not, ◌&&◌, ◌==◌, List, [], ◌∷◌, Option, Some, None, option_map}
use Rattle.std.specs.Prelude.{suc, ◌||◌, slice_get, slice_set, nat_lt, length, map, take, pos}
use Rattle.std.proofs.Common.{ℤ}
use Rattle.ckc_text.specs.declared.code.Code.TheVariants.{C1, C9, S5}
use Rattle.act_words.specs.declared.ending.Ending.TheVariants.{Check, Exit}
use Rattle.act_words.specs.declared.settings.Settings.{Settings}
use Rattle.act_words.specs.Acts.{Passed}
use Rattle.act_words.specs.Acting.{stopped_by_act}
use Rattle.ckc_core.specs.Outcome.{Outcome, Gives, Ends, Stuck, and_then}
use Rattle.act_words.specs.Numbers.{signed, word, number_line}
use Rattle.act_words.specs.Checks.{Checked, Holds, Fails}
use Rattle.pointer_modes.specs.Types.{CType, Int, Char, Struct, Pointer}
use Rattle.act_words.specs.Arithmetic as arithmetic
use Rattle.act_words.specs.World.{World}
use Rattle.act_words.specs.Touches.{Asked, Got, Ended, Crossed, spend_tick, enter_call, write, touch}
use Rattle.ckc_core.specs.declared.program.Site.{Site}
use Rattle.act_words.specs.declared.operator.Operator.{Operator}
use Rattle.act_words.specs.declared.operator.Operator.TheVariants as operators
use Rattle.act_words.specs.declared.operator.Comparison.{Comparison}
use Rattle.act_words.specs.Operators.{arithmetic_result, bitwise_result, holds}
use Rattle.ckc_core.specs.declared.program.Callee.{Callee}
use Rattle.ckc_core.specs.declared.program.Callee.TheVariants as callees
use Rattle.ckc_core.specs.Programs.{FunctionOf, Import, ProgramOf}
use Rattle.ckc_core.specs.States.{Value, Number, Null, At, Cell, Block, Local, State, in_world, cell_at, stored, strides, number_at, same_type, has_type}
use Rattle.ckc_core.specs.States.{zero_of, object_block}

-- the outcome of a step of the meaning
abbrev pub Result : Type 0 → Type 0
Result A = Outcome State A

-- how a statement ends
pub data Flow : Type 0 where
  Next : Flow
  Broke : Flow
  Continued : Flow
  Returned : (value : Option Value) → Flow

-- What is no recursion on the tree, each behind a tick: a call of a function, whose result may be nothing, and a further turn
-- of a loop. Behind the tick of a tainted call the sandbox has the turn.
pub record KnotOf (Expression Statement : Type 0) : Type 0 where
  pub call : ℕ → List Value → State → Result (Option Value)
  pub turn : Expression → Statement → Statement → State → Result Flow
  -- the sandbox goes on from here until the innermost tainted call ends
  pub sandbox : State → Result ℕ

-- what all of a run knows: the program, its budget, and the sizes of both memories
pub record SettingOf (Body : Type 0) : Type 0 where
  pub program : ProgramOf Body
  pub budget : ℕ
  pub sandbox : ℕ
  pub trusted : ℕ

abbrev pub setting_of : {Body : Type 0} → ProgramOf Body → Settings → SettingOf Body
setting_of program settings = record { program = program; budget = settings.budget; sandbox = settings.sandbox; trusted = settings.trusted }

-- ---- values

abbrev pub given : Option Local → State → Result Value
given None s = Stuck None s
given (Some local) s = Gives local.value s

-- a check's number, or its ending
abbrev pub checked : Checked ℤ → State → Result Value
checked (Holds number) s = Gives (Number number) s
checked (Fails ending) s = Ends ending s

abbrev pub value_if : Bool → Option Site → Value → State → Result Value
value_if true site value s = Gives value s
value_if false site value s = Stuck site s

-- the value of a cell of the type that is asked for
abbrev pub value_in : CType → Option Site → Option Cell → State → Result Value
value_in type site None s = Stuck site s
value_in type site (Some cell) s = value_if (same_type type cell.type) site cell.value s

-- a place where a cell begins
abbrev pub place_if : Option Cell → Option Site → ℕ → ℕ → State → Result (ℕ × ℕ)
place_if None site block byte s = Stuck site s
place_if (Some cell) site block byte s = Gives (block, byte) s

abbrev pub place_at : Option Site → ℕ → ℕ → State → Result (ℕ × ℕ)
place_at site block byte s = place_if (cell_at s.blocks block byte) site block byte s

-- what a place is, behind the check of its pointer (C1): so many bytes behind the one that the pointer leads to
abbrev pub place_through : ℕ → Site → Value → State → Result (ℕ × ℕ)
place_through offset site (Number number) s = Stuck (Some site) s
place_through offset site Null s = Ends (Check C1 site.place) s
place_through offset site (At block byte) s = place_at (Some site) block (byte + offset) s

abbrev pub load_at : CType → Option Site → ℕ × ℕ → State → Result Value
load_at type site place s = value_in type site (cell_at s.blocks place.0 place.1) s

abbrev pub pointer_to : ℕ × ℕ → State → Result Value
pointer_to place s = Gives (At place.0 place.1) s

abbrev pub variable_if : Bool → ℕ → ℕ → State → Result (ℕ × ℕ)
variable_if true object offset s = place_at None object offset s
variable_if false object offset s = Stuck None s

-- a place in a file-level variable, which is one of the program's: blocks that are added behind these are no variables
abbrev pub variable_at : {Body : Type 0} → SettingOf Body → (object offset : ℕ) → State → Result (ℕ × ℕ)
variable_at g object offset s = variable_if (nat_lt object (length g.program.objects)) object offset s

-- a scalar as a condition: a number that isn't 0, or a pointer that isn't null
abbrev pub truth : Value → Bool
truth (Number number) = not (arithmetic.is_zero number)
truth Null = false
truth (At block byte) = true

abbrev pub number_of_test : Bool → Value
number_of_test true = Number (pos 1)
number_of_test false = Number (pos 0)

abbrev pub same_place : Value → Value → Option Bool
same_place (Number a) b = None
same_place a (Number b) = None
same_place Null Null = Some true
same_place Null (At block byte) = Some false
same_place (At block byte) Null = Some false
same_place (At block byte) (At block' byte') = Some (block == block' && byte == byte')

abbrev pub test_given : Option Bool → State → Result Value
test_given None s = Stuck None s
test_given (Some test) s = Gives (number_of_test test) s

-- an operator on two numbers, with its checks
abbrev pub result_of : Operator → Site → ℤ → ℤ → Checked ℤ
result_of (operators.Arithmetic operator) site a b = arithmetic_result operator site.place a b
result_of (operators.Bitwise operator) site a b = Holds (signed (bitwise_result operator (word a) (word b)))

abbrev pub arithmetic_of : Operator → Site → Value → Value → State → Result Value
arithmetic_of operator site (Number a) (Number b) s = checked (result_of operator site a b) s
arithmetic_of operator site _ _ s = Stuck (Some site) s

abbrev pub compared : Comparison → Value → Value → State → Result Value
compared comparison (Number a) (Number b) s = Gives (number_of_test (holds comparison a b)) s
compared comparison _ _ s = Stuck None s

abbrev pub negated : Site → Value → State → Result Value
negated site (Number b) s = checked (arithmetic.negation site.place b) s
negated site _ s = Stuck (Some site) s

abbrev pub complemented : Value → State → Result Value
complemented (Number b) s = Gives (Number (signed (arithmetic.complement (word b)))) s
complemented _ s = Stuck None s

-- a number modulo 256
abbrev pub low_byte : ℤ → ℤ
low_byte number = pos (word number % 256)

abbrev pub low_byte_of : Value → State → Result Value
low_byte_of (Number b) s = Gives (Number (low_byte b)) s
low_byte_of _ s = Stuck None s

-- goes on from what the world gave, or ends with it
abbrev pub asked : {A B : Type 0} → Asked A → State → (A → State → Result B) → Result B
asked (Got answer w) s next = next answer (in_world w s)
asked (Ended ending w) s next = Ends ending (in_world w s)

-- ---- calls

-- the words of numbers
abbrev pub words_of : List Value → Option (List ℕ)
words_of [] = Some []
words_of (Number number ∷ values) = option_map (λ more. word number ∷ more) (words_of values)
words_of (Null ∷ values) = None
words_of (At block byte ∷ values) = None

-- a word that came back stands for a number, and nothing is there where no result is (C9)
abbrev pub reply_as : Option CType → Site → ℕ → State → Result (Option Value)
reply_as None site reply s = Gives None s
reply_as (Some Int) site reply s = Gives (Some (Number (signed reply))) s
reply_as (Some Char) site reply s = char_if (nat_lt reply 256)
  where
    char_if : Bool → Result (Option Value)
    char_if true = Gives (Some (Number (signed reply))) s
    char_if false = Ends (Check C9 site.place) s
reply_as (Some (Struct number)) site reply s = Stuck (Some site) s
reply_as (Some (Pointer mode kind target)) site reply s = Stuck (Some site) s

-- back in the function that called, with its own locals
abbrev pub back : {A : Type 0} → State → A → State → Result A
back before v after = Gives v (record after { locals = before.locals; depth = before.depth })

-- the sandbox has the turn until the call ends: it counts among the open ones
abbrev pub passed : {E S : Type 0} → KnotOf E S → Import → Site → State → Result (Option Value)
passed k i site s = and_then (and_then (k.sandbox (record s { depth = s.depth + 1 })) (back s)) (reply_as i.result site)

-- behind the tick and the test of the depth, the words are passed by a touch
abbrev pub cross : {B E S : Type 0} → SettingOf B → KnotOf E S → ℕ → Import → Site → Option (List ℕ) → State → Result (Option Value)
cross g k import i site None s = Stuck (Some site) s
cross g k import i site (Some words) s =
    asked (spend_tick g.budget s.world) s (λ _ t. asked (enter_call t.depth t.world) t
    (λ _ u. asked (touch (Passed import words) u.world) u (λ _ v. passed k i site v)))

abbrev pub cross_if : {B E S : Type 0} → Bool → SettingOf B → KnotOf E S → ℕ → Import → Site → List Value → State → Result (Option Value)
cross_if true g k import i site values s = cross g k import i site (words_of values) s
cross_if false g k import i site values s = Stuck (Some site) s

-- a call of a tainted function that is there and takes as many arguments
abbrev pub call_tainted : {B E S : Type 0} → SettingOf B → KnotOf E S → ℕ → Option Import → Site → List Value → State → Result (Option Value)
call_tainted g k import None site values s = Stuck (Some site) s
call_tainted g k import (Some i) site values s = cross_if (i.parameters == length values) g k import i site values s

-- what acts in the sandbox's turn came to; there are no callbacks
abbrev pub crossed : Crossed → State → Result ℕ
crossed (Crossed.Returned word w) s = Gives word (in_world w s)
crossed (Crossed.Called fun words w) s = Ends (stopped_by_act S5 w) (in_world w s)
crossed (Crossed.Over ending w) s = Ends ending (in_world w s)

-- there are as many values as types, each of its type
abbrev pub fit : List CType → List Value → Bool
fit [] [] = true
fit [] (value ∷ values) = false
fit (type ∷ types) [] = false
fit (type ∷ types) (value ∷ values) = has_type type value && fit types values

-- the types of a function's parameters
abbrev pub parameters_of : {B : Type 0} → FunctionOf B → List CType
parameters_of f = take f.parameters f.locals

-- a function that is there takes these arguments
abbrev pub takes : {B : Type 0} → Option (FunctionOf B) → List Value → Bool
takes None values = false
takes (Some f) values = fit (parameters_of f) values

abbrev pub enter_if : {B E S : Type 0} → Bool → SettingOf B → KnotOf E S → ℕ → List Value → State → Result (Option Value)
enter_if true g k function values s = asked (spend_tick g.budget s.world) s (λ _ t. asked (enter_call t.depth t.world) t (λ _ u. k.call function values u))
enter_if false g k function values s = Stuck None s

-- a call of a trusted function that is there and takes the arguments: its tick, its depth, and then the function
abbrev pub call_trusted : {B E S : Type 0} → SettingOf B → KnotOf E S → ℕ → List Value → State → Result (Option Value)
call_trusted g k function values s = enter_if (takes (slice_get g.program.functions function) values) g k function values s

-- what a call comes to
abbrev pub called : {B E S : Type 0} → SettingOf B → KnotOf E S → Callee → List Value → State → Result (Option Value)
called g k (callees.Trusted function) values s = call_trusted g k function values s
called g k (callees.Tainted import site) values s = call_tainted g k import (slice_get g.program.imports import) site values s

-- the result of a call that has one
abbrev pub result_given : Option Value → State → Result Value
result_given None s = Stuck None s
result_given (Some value) s = Gives value s

abbrev pub choose : {A : Type 0} → Bool → Result A → Result A → Result A
choose true first second = first
choose false first second = second

-- ---- stores

-- the value is 0
abbrev pub is_zero : Value → Bool
is_zero (Number number) = arithmetic.is_zero number
is_zero Null = true
is_zero (At block byte) = false

abbrev is_number : Option ℕ → ℕ → Bool
is_number None number = false
is_number (Some n) number = n == number

-- the cell that begins at a byte is the block's last one
abbrev pub is_last : Block → ℕ → Bool
is_last b byte = is_number (option_map (λ number. suc number) (number_at (strides b.cells) byte)) (length b.cells)

-- a zero that ends a block stays there
abbrev pub leaves_zero : Option Block → ℕ → Value → Bool
leaves_zero None byte value = false
leaves_zero (Some b) byte value = not b.zero_ended || (is_zero value || not (is_last b byte))

-- puts a value into a cell, where both are of the type that is asked for
abbrev pub store_if : Bool → Option Site → ℕ → ℕ → Value → State → Result Flow
store_if true site block byte value s = Gives Next (record s { blocks = stored s.blocks block byte value })
store_if false site block byte value s = Stuck site s

abbrev pub store_over : Option Cell → CType → Option Site → Value → ℕ → ℕ → State → Result Flow
store_over None type site value block byte s = Stuck site s
store_over (Some old) type site value block byte s =
    store_if (same_type type old.type && (has_type type value && leaves_zero (slice_get s.blocks block) byte value)) site block byte value s

abbrev pub store_at : CType → Option Site → ℕ × ℕ → Value → State → Result Flow
store_at type site place value s = store_over (cell_at s.blocks place.0 place.1) type site value place.0 place.1 s

abbrev pub set_if : Bool → Local → ℕ → Value → State → Result Flow
set_if true old local value s = Gives Next (record s { locals = slice_set s.locals local (record old { value = value }) })
set_if false old local value s = Stuck None s

abbrev pub set_over : Option Local → ℕ → Value → State → Result Flow
set_over None local value s = Stuck None s
set_over (Some old) local value s = set_if (has_type old.type value) old local value s

-- puts a value into a local variable that is there, and whose type it has
abbrev pub set_local : ℕ → Value → State → Result Flow
set_local local value s = set_over (slice_get s.locals local) local value s

-- the value that a cell or a local of type `char` keeps
abbrev pub kept_if : Bool → Value → State → Result Value
kept_if true v s = low_byte_of v s
kept_if false v s = Gives v s

abbrev pub is_char : CType → Bool
is_char Int = false
is_char Char = true
is_char (Struct number) = false
is_char (Pointer mode kind target) = false

-- ---- output

abbrev pub printed : Value → State → Result Flow
printed (Number number) s = Gives Next (in_world (write (number_line number) s.world) s)
printed _ s = Stuck None s

abbrev pub put : Value → State → Result Flow
put (Number number) s = Gives Next (in_world (write (word number % 256 ∷ []) s.world) s)
put _ s = Stuck None s

-- ---- flow

-- goes on where a statement leads to the next one
abbrev pub on_next : (State → Result Flow) → Flow → State → Result Flow
on_next rest Next s = rest s
on_next rest Broke s = Gives Broke s
on_next rest Continued s = Gives Continued s
on_next rest (Returned v) s = Gives (Returned v) s

-- behind the body of a turn: the step and a further turn, or the end of the loop
abbrev pub behind_turn : (State → Result Flow) → Flow → State → Result Flow
behind_turn further Next s = further s
behind_turn further Continued s = further s
behind_turn further Broke s = Gives Next s
behind_turn further (Returned v) s = Gives (Returned v) s

-- a call without a result
abbrev pub no_result : Option Value → State → Result Flow
no_result None s = Gives Next s
no_result (Some value) s = Stuck None s

-- ---- functions

-- what a body gives back: 0 or null where it ends without a return
abbrev pub default_result : Option CType → Option Value
default_result None = None
default_result (Some type) = Some (zero_of type)

-- what comes back is as the function was declared
abbrev pub fits_result : Option CType → Option Value → Bool
fits_result None None = true
fits_result None (Some value) = false
fits_result (Some type) None = false
fits_result (Some type) (Some value) = has_type type value

abbrev pub answer_if : Bool → Option Value → State → Result (Option Value)
answer_if true value s = Gives value s
answer_if false value s = Stuck None s

abbrev pub answer : Option CType → Flow → State → Result (Option Value)
answer result Next s = Gives (default_result result) s
answer result (Returned v) s = answer_if (fits_result result v) v s
answer result Broke s = Stuck None s
answer result Continued s = Stuck None s

-- the locals of a function that is called: the arguments, and zeros
abbrev pub locals_for : List CType → List Value → List Local
locals_for [] values = []
locals_for (type ∷ types) [] = record { type = type; value = zero_of type } ∷ locals_for types []
locals_for (type ∷ types) (value ∷ values) = record { type = type; value = value } ∷ locals_for types values

-- the run ends with the number that `main` returned
abbrev pub exit : Option Value → State → Result (Unit {0})
exit (Some (Number number)) s = Ends (Exit number) s
exit (Some Null) s = Stuck None s
exit (Some (At block byte)) s = Stuck None s
exit None s = Stuck None s

-- before `main` runs
abbrev pub initial : {B : Type 0} → ProgramOf B → World → State
initial program w = record { blocks = map object_block program.objects; locals = []; depth = 0; world = w }
