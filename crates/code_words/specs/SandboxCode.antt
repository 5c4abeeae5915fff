-- The sandbox's own code as an actor: its instructions, of which loads, stores, calls of callbacks and the return to the
-- trusted side are acts. Where a line has no result, the act is `stop`.
use Rattle.std.specs.Prelude.{◌≡◌, ℕ, zero, suc, ◌+◌, ◌%◌, Bool, true, false, ◌==◌, nat_lt, nat_le}
use Rattle.std.specs.Prelude.{List, [], ◌∷◌, length, reverse, take, drop, Option, Some, None, slice_get}
use Rattle.std.specs.Prelude.{slice_set, find}
use Rattle.std.specs.Int.{to_le_bytes, w8, w32}
use Rattle.act_words.specs.declared.act.Turn.{Turn}
use Rattle.act_words.specs.declared.act.Turn.TheVariants as turns
use Rattle.act_words.specs.Acts.{Act, Go, Read, Write, Call, Return, Stop, Seen, SeenBytes, SeenCall, SeenReply}
use Rattle.act_words.specs.Numbers.{word}
use Rattle.flat_bytes.specs.Words.{word_at}
use Rattle.act_words.specs.Arithmetic as arithmetic
use Rattle.act_words.specs.Arithmetic.{bit}
use Rattle.act_words.specs.Operators.{bitwise_result, holds_of_words}
use Rattle.code_words.specs.Table.{element, offset_of, slots_for}
use Rattle.code_words.specs.declared.op.Op.{Op}
use Rattle.code_words.specs.declared.op.Op.TheVariants as ops
use Rattle.marshalling.specs.declared.kind.WordKind.{WordKind}
use Rattle.marshalling.specs.declared.kind.WordKind.TheVariants as kinds
use Rattle.code_words.specs.Functions.{Func}
use Rattle.code_words.specs.declared.image.Callback.{Callback}
use Rattle.code_words.specs.Images.{Image}

-- an open call of a sandbox function
pub record Frame : Type 0 where
  pub function : ℕ
  pub next : ℕ
  pub slots : List ℕ
  pub stack : List ℕ

-- what stands behind the innermost open call
pub data Held : Type 0 where
  -- a function that called one of the sandbox
  Calls : (frame : Frame) → Held
  -- the trusted side, which entered here
  Entered : Held
  -- a function that called this callback, and waits for its reply
  CallsBack : (frame : Frame) (callback : ℕ) → Held

-- what the sandbox does when it has the turn
pub data Doing : Type 0 where
  -- the next instruction
  Runs : (frame : Frame) → Doing
  -- it waits for bytes that it looks at
  Looks : (frame : Frame) → Doing
  -- it waits to be called, or for a reply
  Rests : Doing

pub record State : Type 0 where
  pub doing : Doing
  pub held : List Held
  -- the ticks that the sandbox spent
  pub ticks : ℕ

-- before it is called
abbrev pub resting : State
resting = record { doing = Rests; held = []; ticks = 0 }

-- what an instruction leads to: more instructions, or an act
pub data Step : Type 0 where
  Goes : (state : State) → Step
  Acts : (act : Act) (state : State) → Step

-- the sandbox ends
abbrev pub stop : State → Step
stop s = Acts Stop s

abbrev is_open : Held → Bool
is_open (Calls frame) = true
is_open Entered = false
is_open (CallsBack frame callback) = true

abbrev counted_if : Bool → ℕ → ℕ
counted_if true n = suc n
counted_if false n = n

abbrev open_calls : List Held → ℕ
open_calls [] = 0
open_calls (held ∷ others) = counted_if (is_open held) (open_calls others)

-- how many sandbox calls are open behind the innermost one
abbrev pub depth : State → ℕ
depth s = open_calls s.held

-- the function of a number
abbrev pub function_of : Image → ℕ → Option Func
function_of image number = find (λ (f : Func). f.number == number) image.sandbox.funs

-- at the next instruction, with this stack
abbrev pub on_with : Frame → List ℕ → State → Step
on_with f stack s = Goes (record s { doing = Runs (record f { next = f.next + 1; stack = stack }) })

abbrev push_if : Bool → ℕ → List ℕ → Frame → State → Step
push_if true w stack f s = on_with f (w ∷ stack) s
push_if false w stack f s = stop s

abbrev pub push : Func → ℕ → List ℕ → Frame → State → Step
push fun w stack f s = push_if (nat_lt (length stack) fun.stack) w stack f s

abbrev push_some : Func → Option ℕ → List ℕ → Frame → State → Step
push_some fun None stack f s = stop s
push_some fun (Some w) stack f s = push fun w stack f s

abbrev pop : List ℕ → (ℕ → List ℕ → Step) → State → Step
pop [] next s = stop s
pop (w ∷ stack) next s = next w stack

abbrev pop_2 : List ℕ → (ℕ → ℕ → List ℕ → Step) → State → Step
pop_2 stack next s = pop stack (λ b below. pop below (λ a rest. next a b rest) s) s

abbrev pop_if : Bool → ℕ → List ℕ → (List ℕ → List ℕ → Step) → State → Step
pop_if true n stack next s = next (reverse (take n stack)) (drop n stack)
pop_if false n stack next s = stop s

abbrev pop_words : ℕ → List ℕ → (List ℕ → List ℕ → Step) → State → Step
pop_words n stack next s = pop_if (nat_le n (length stack)) n stack next s

abbrev peek : List ℕ → (ℕ → Step) → State → Step
peek [] next s = stop s
peek (w ∷ stack) next s = next w

abbrev set_if : Bool → ℕ → ℕ → List ℕ → Frame → State → Step
set_if true k w stack f s = on_with (record f { slots = slice_set f.slots k w }) stack s
set_if false k w stack f s = stop s

-- behind an instruction that acts, with this stack
abbrev behind : Frame → List ℕ → Frame
behind f stack = record f { next = f.next + 1; stack = stack }

-- ---- calls

abbrev enter_if : Bool → Func → List ℕ → List Held → State → Step
enter_if true fun words held s =
    Goes (record s { doing = Runs (record { function = fun.number; next = 0; slots = slots_for fun words; stack = [] }); held = held })
enter_if false fun words held s = stop s

-- a function runs with these words, unless 1,000 sandbox calls are open
abbrev pub enter : Func → List ℕ → List Held → State → Step
enter fun words held s = enter_if (nat_lt (open_calls held) 1000) fun words held s

abbrev call_function : Option Func → Frame → State → Step
call_function None f s = stop s
call_function (Some fun) f s = pop_words fun.args f.stack (λ words stack. enter fun words (Calls (behind f stack) ∷ s.held) s) s

abbrev call_back : ℕ → Option Callback → Frame → State → Step
call_back k None f s = stop s
call_back k (Some callback) f s =
    pop_words (length callback.signature) f.stack (λ words stack. Acts (Call k words) (record s {
      doing = Rests;
      held = CallsBack (behind f stack) k
          ∷ s.held;
    })) s

-- pushes what came back, if something did
abbrev push_result : Option Func → Option ℕ → Frame → State → Step
push_result None result f s = stop s
push_result (Some fun) None f s = Goes (record s { doing = Runs f })
push_result (Some fun) (Some w) f s = pushed (nat_lt (length f.stack) fun.stack)
  where
    pushed : Bool → Step
    pushed true = Goes (record s { doing = Runs (record f { stack = w ∷ f.stack }) })
    pushed false = stop s

abbrev returned_word : Option ℕ → ℕ
returned_word None = 0
returned_word (Some w) = w

-- the innermost call returns a word, or nothing: to a function of the sandbox, or to the trusted side, which is an act
abbrev return_to : Image → List Held → Option ℕ → State → Step
return_to image [] result s = stop s
return_to image (Calls frame ∷ held) result s = push_result (function_of image frame.function) result frame (record s { held = held })
return_to image (Entered ∷ held) result s = Acts (Return (returned_word result)) (record s { doing = Rests; held = held })
return_to image (CallsBack frame k ∷ held) result s = stop s

-- ---- ticks and jumps

abbrev tick_if : Bool → Frame → State → Step
tick_if true f s = on_with f f.stack (record s { ticks = s.ticks + 1 })
tick_if false f s = stop s

abbrev jump_if : Bool → ℕ → List ℕ → Frame → State → Step
jump_if true target stack f s = Goes (record s { doing = Runs (record f { next = target; stack = stack }) })
jump_if false target stack f s = stop s

abbrev jump : Func → ℕ → List ℕ → Frame → State → Step
jump fun target stack f s = jump_if (nat_lt target (length fun.ops)) target stack f s

abbrev jump_if_zero : Bool → Func → ℕ → List ℕ → Frame → State → Step
jump_if_zero true fun target stack f s = jump fun target stack f s
jump_if_zero false fun target stack f s = on_with f stack s

-- ---- the table

abbrev of_two : Func → (ℕ → ℕ → ℕ) → Frame → State → Step
of_two fun operation f s = pop_2 f.stack (λ a b stack. push fun (operation a b) stack f s) s

abbrev of_one : Func → (ℕ → ℕ) → Frame → State → Step
of_one fun operation f s = pop f.stack (λ b stack. push fun (operation b) stack f s) s

abbrev divided_if : Bool → Func → (ℕ → ℕ → ℕ) → ℕ → ℕ → List ℕ → Frame → State → Step
divided_if true fun operation a b stack f s = stop s
divided_if false fun operation a b stack f s = push fun (operation a b) stack f s

-- the same, where the second word isn't 0
abbrev of_divisor : Func → (ℕ → ℕ → ℕ) → Frame → State → Step
of_divisor fun operation f s = pop_2 f.stack (λ a b stack. divided_if (b == 0) fun operation a b stack f s) s

-- one instruction of a sandbox function
abbrev pub act : Image → ℕ → Func → Op → Frame → State → Step
act image budget fun (ops.Const n) f s = push fun (word n) f.stack f s
act image budget fun (ops.Local k) f s = push_some fun (slice_get f.slots k) f.stack f s
act image budget fun (ops.Set k) f s = pop f.stack (λ w stack. set_if (nat_lt k (length f.slots)) k w stack f s) s
act image budget fun ops.Discard f s = pop f.stack (λ w stack. on_with f stack s) s
act image budget fun ops.Duplicate f s = peek f.stack (λ w. push fun w f.stack f s) s
act image budget fun (ops.BlockAddress k) f s = stop s
act image budget fun (ops.BlockOffset k) f s = push_some fun (offset_of image k) f.stack f s
act image budget fun (ops.Arithmetic operator place) f s = stop s
act image budget fun (ops.Neg place) f s = stop s
act image budget fun ops.WrapAdd f s = of_two fun arithmetic.wrapping_sum f s
act image budget fun ops.WrapSub f s = of_two fun arithmetic.wrapping_difference f s
act image budget fun ops.WrapMul f s = of_two fun arithmetic.wrapping_product f s
act image budget fun ops.WrapNeg f s = of_one fun arithmetic.wrapping_negation f s
act image budget fun ops.WrapShl f s = of_two fun arithmetic.wrapping_shift_left f s
act image budget fun ops.WrapShr f s = of_two fun arithmetic.wrapping_shift_right f s
act image budget fun ops.WrapDiv f s = of_divisor fun arithmetic.wrapping_quotient f s
act image budget fun ops.WrapRem f s = of_divisor fun arithmetic.wrapping_remainder f s
act image budget fun (ops.Bitwise operator) f s = of_two fun (bitwise_result operator) f s
act image budget fun ops.Not f s = of_one fun arithmetic.complement f s
act image budget fun (ops.Compare comparison) f s = of_two fun (λ a b. bit (holds_of_words comparison a b)) f s
act image budget fun ops.UnsignedLess f s = of_two fun (λ a b. bit (nat_lt a b)) f s
act image budget fun ops.UnsignedLessEqual f s = of_two fun (λ a b. bit (nat_le a b)) f s
act image budget fun ops.UnsignedGreater f s = of_two fun (λ a b. bit (nat_lt b a)) f s
act image budget fun ops.UnsignedGreaterEqual f s = of_two fun (λ a b. bit (nat_le b a)) f s
act image budget fun ops.Zero f s = of_one fun (λ b. bit (b == 0)) f s
act image budget fun ops.Byte f s = of_one fun (λ b. b % 256) f s
act image budget fun (ops.Index size) f s = of_two fun (λ p i. element p i size) f s
act image budget fun (ops.NonNull place) f s = stop s
act image budget fun (ops.In low high size place) f s = stop s
act image budget fun (ops.UpTo low high size place) f s = stop s
act image budget fun (ops.Term high size place) f s = stop s
act image budget fun (ops.Contain low1 high1 low2 high2 size place) f s = stop s
act image budget fun (ops.Lies low high size more place) f s = stop s
act image budget fun (ops.Range offset len place) f s = stop s
act image budget fun ops.Load1 f s = pop f.stack (λ at stack. Acts (Read at 1) (record s { doing = Looks (behind f stack) })) s
act image budget fun ops.Load4 f s = pop f.stack (λ at stack. Acts (Read at 4) (record s { doing = Looks (behind f stack) })) s
act image budget fun ops.Store1 f s = pop_2 f.stack (λ at w stack. Acts (Write at (to_le_bytes w8 (w % 256))) (record s { doing = Runs (behind f stack) })) s
act image budget fun ops.Store4 f s = pop_2 f.stack (λ at w stack. Acts (Write at (to_le_bytes w32 w)) (record s { doing = Runs (behind f stack) })) s
act image budget fun ops.TouchLoad1 f s = stop s
act image budget fun ops.TouchLoad4 f s = stop s
act image budget fun ops.TouchStore1 f s = stop s
act image budget fun ops.TouchStore4 f s = stop s
act image budget fun (ops.Jump target) f s = jump fun target f.stack f s
act image budget fun (ops.JumpIfZero target) f s = pop f.stack (λ w stack. jump_if_zero (w == 0) fun target stack f s) s
act image budget fun (ops.Call k) f s = call_function (function_of image k) f s
act image budget fun (ops.TaintedCall k place) f s = stop s
act image budget fun (ops.CallBack k) f s = call_back k (slice_get image.layout.callbacks k) f s
act image budget fun ops.Return f s = pop f.stack (λ w stack. return_to image s.held (Some w) s) s
act image budget fun ops.ReturnNothing f s = return_to image s.held None s
act image budget fun ops.Tick f s = tick_if (nat_lt s.ticks budget) f s
act image budget fun ops.NextInput f s = stop s
act image budget fun ops.Print f s = stop s
act image budget fun ops.PutByte f s = stop s
act image budget fun (ops.Alloc size) f s = stop s
act image budget fun (ops.AllocTerminated size) f s = stop s
act image budget fun (ops.SandboxAlloc size) f s = stop s
act image budget fun ops.TextLength f s = stop s

abbrev act_next : Image → ℕ → Func → Option Op → Frame → State → Step
act_next image budget fun None f s = stop s
act_next image budget fun (Some op) f s = act image budget fun op f s

abbrev step_in : Image → ℕ → Option Func → Frame → State → Step
step_in image budget None f s = stop s
step_in image budget (Some fun) f s = act_next image budget fun (slice_get fun.ops f.next) f s

-- the next instruction
abbrev pub step : Image → ℕ → Frame → State → Step
step image budget f s = step_in image budget (function_of image f.function) f s

-- ---- the actor

-- a tainted function is entered, where it has a body that takes as many words
abbrev entered_if : Bool → Func → List ℕ → State → Step
entered_if true fun words s = enter fun words (Entered ∷ s.held) s
entered_if false fun words s = stop s

abbrev entered : Option Func → List ℕ → State → Step
entered None words s = stop s
entered (Some fun) words s = entered_if (fun.args == length words) fun words s

abbrev returns_nothing : Option Callback → Bool
returns_nothing None = false
returns_nothing (Some callback) = is_void callback.result
  where
    is_void : WordKind → Bool
    is_void kinds.Int = false
    is_void kinds.Char = false
    is_void kinds.Pointer = false
    is_void kinds.Void = true

abbrev result_if : Bool → ℕ → Option ℕ
result_if true value = None
result_if false value = Some value

-- the reply of a callback comes back to the function that called it
abbrev replied : Image → List Held → ℕ → State → Step
replied image [] value s = stop s
replied image (Calls frame ∷ held) value s = stop s
replied image (Entered ∷ held) value s = stop s
replied image (CallsBack frame k ∷ held) value s =
    push_result (function_of image frame.function) (result_if (returns_nothing (slice_get image.layout.callbacks k)) value) frame (record s { held = held })

-- what was shown last goes on with the function that waits for it
abbrev shown : Image → Doing → Option Seen → State → Step
shown image Rests (Some (SeenCall number words)) s = entered (function_of image number) words s
shown image Rests (Some (SeenReply value)) s = replied image s.held value s
shown image Rests (Some (SeenBytes at bytes)) s = stop s
shown image Rests None s = stop s
shown image (Looks f) (Some (SeenBytes at bytes)) s = push_result (function_of image f.function) (Some (word_at (length bytes) bytes 0)) f s
shown image (Looks f) (Some (SeenCall number words)) s = stop s
shown image (Looks f) (Some (SeenReply value)) s = stop s
shown image (Looks f) None s = stop s
shown image (Runs f) seen s = Goes s

-- goes on from a step, unless it acts
abbrev until_act : Step → (State → Option (Act × State)) → Option (Act × State)
until_act (Goes s) rest = rest s
until_act (Acts act s) rest = Some (act, s)

abbrev stepped : Image → ℕ → Doing → State → Step
stepped image budget (Runs f) s = step image budget f s
stepped image budget (Looks f) s = stop s
stepped image budget Rests s = stop s

-- at most n instructions, up to the next act
abbrev pub runs_for : Image → ℕ → ℕ → State → Option (Act × State)
runs_for image budget zero s = None
runs_for image budget (suc n) s = until_act (stepped image budget s.doing s) (runs_for image budget n)

-- what the code answers to what was shown last, after at most n instructions
abbrev pub answered : Image → ℕ → ℕ → State → Option Seen → Option (Act × State)
answered image budget n s seen = until_act (shown image s.doing seen s) (runs_for image budget n)

-- the sandbox's code answers this act, and goes on as this: it lets touches through, and acts in its own turn
abbrev pub Answers : Image → ℕ → State → Turn → Option Seen → Act → State → Type 0
Answers image budget s turns.Trusted seen act after = (act ≡ Go) × (after ≡ s)
Answers image budget s turns.Sandbox seen act after = (n : ℕ) × (answered image budget n s seen ≡ Some (act, after))
