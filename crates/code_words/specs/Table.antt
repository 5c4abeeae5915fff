-- The instruction table: what each instruction does, over one memory at a base address, words of 32 bits, and the world
-- that the sandbox shares. A run goes in moves: an instruction, or an act of the sandbox.
use Rattle.std.specs.Prelude.{ℕ, zero, suc, ◌+◌, ◌-◌, ◌*◌, ◌%◌, Bool, true, false, not, ◌&&◌, ◌||◌, ◌==◌, nat_lt, nat_le, int_lt, int_le}
use Rattle.std.specs.Prelude.{List, [], ◌∷◌, ◌++◌, length, replicate, reverse, take, drop, Option, Some, None, slice_get}
use Rattle.std.specs.Prelude.{slice_index, slice_set, pos}
use Rattle.std.proofs.Common.{ℤ, ◌+ℤ◌, ◌*ℤ◌}
use Rattle.std.specs.Int.{to_le_bytes, w8, w32}
use Rattle.ckc_text.specs.declared.place.Place.{Place}
use Rattle.ckc_text.specs.declared.code.Code.{Code}
use Rattle.ckc_text.specs.declared.code.Code.TheVariants.{C1, C2, C3, C4, C5, S6}
use Rattle.act_words.specs.declared.ending.Ending.{Ending}
use Rattle.act_words.specs.declared.ending.Ending.TheVariants.{Exit, Check, Stop}
use Rattle.act_words.specs.declared.settings.Settings.{Settings}
use Rattle.act_words.specs.Checks.{Checked, Holds, Fails}
use Rattle.act_words.specs.Numbers.{signed, word, number_line}
use Rattle.flat_bytes.specs.Words.{word_at, with_word}
use Rattle.flat_bytes.specs.Blocks.{Block, first_offset, grown, is_refused}
use Rattle.trusted_memory.specs.Memories.{Memory, made, address_made}
use Rattle.act_words.specs.World.{World}
use Rattle.act_words.specs.Touches.{Asked, Got, Ended, spend_tick, enter_call, next_input, write, make_block}
use Rattle.marshalling.specs.Crossing.{end_at, lie_in}
use Rattle.act_words.specs.Arithmetic as arithmetic
use Rattle.act_words.specs.Arithmetic.{bit}
use Rattle.act_words.specs.Operators.{arithmetic_result, bitwise_result, holds_of_words}
use Rattle.code_words.specs.declared.op.Op.{Op}
use Rattle.code_words.specs.declared.op.Op.TheVariants as ops
use Rattle.marshalling.specs.declared.kind.WordKind.{WordKind}
use Rattle.marshalling.specs.declared.kind.WordKind.TheVariants as kinds
use Rattle.code_words.specs.Functions.{Func, Import}
use Rattle.code_words.specs.declared.image.Callback.{Callback}
use Rattle.code_words.specs.Images.{Image}

-- an open call of a trusted function: its function, its next instruction, its slots, and its stack with the topmost word
-- first
pub record Frame : Type 0 where
  pub function : ℕ
  pub next : ℕ
  pub slots : List ℕ
  pub stack : List ℕ

-- what an open call goes back to
pub data Caller : Type 0 where
  -- a function that called one of its own side
  Calls : (frame : Frame) → Caller
  -- a function that called a tainted one, and waits for its reply
  Waits : (frame : Frame) (import : ℕ) (place : Place) → Caller
  -- the sandbox, which called this callback
  CalledBack : (callback : ℕ) → Caller

-- a touch whose acts are still to be taken
pub data Touch : Type 0 where
  -- a load or a store of so many bytes of the sandbox's memory
  Loads : (at len : ℕ) → Touch
  Stores : (at : ℕ) (bytes : List ℕ) → Touch
  -- a call of a tainted function, and the reply of a callback
  Passes : (import : ℕ) (words : List ℕ) (place : Place) → Touch
  Replies : (value : ℕ) → Touch

-- what the trusted side does
pub data Control : Type 0 where
  -- an instruction is next
  Runs : (frame : Frame) → Control
  -- a touch waits for the next `go`
  Touches : (frame : Frame) (touch : Touch) → Control
  -- the sandbox has the turn
  Away : Control

-- the trusted memory with its blocks in the order in which they were made, what the trusted side does, the open calls
-- behind the innermost one, and the world
pub record State : Type 0 where
  pub memory : Memory
  pub blocks : List Block
  pub control : Control
  pub callers : List Caller
  pub world : World

-- how many calls are open: a tainted call is one until its reply
abbrev pub depth : State → ℕ
depth s = suc (length s.callers)

-- what a move leads to
pub data Step : Type 0 where
  Goes : (state : State) → Step
  Over : (ending : Ending) (state : State) → Step

-- no line of the table has a result
abbrev pub wild : State → Step
wild s = Over (Stop S6 None) s

-- goes on from what the world gave, or ends with it
abbrev pub asked : {A : Type 0} → Asked A → State → (A → State → Step) → Step
asked (Got value w) s next = next value (record s { world = w })
asked (Ended ending w) s next = Over ending (record s { world = w })

-- at the next instruction, with this stack
abbrev pub on_with : Frame → List ℕ → State → Step
on_with f stack s = Goes (record s { control = Runs (record f { next = f.next + 1; stack = stack }) })

-- pushes a word onto a stack that has room for it
abbrev pub push_if : Bool → ℕ → List ℕ → Frame → State → Step
push_if true w stack f s = on_with f (w ∷ stack) s
push_if false w stack f s = wild s

abbrev pub push : Func → ℕ → List ℕ → Frame → State → Step
push fun w stack f s = push_if (nat_lt (length stack) fun.stack) w stack f s

-- pushes what is there
abbrev pub push_some : Func → Option ℕ → List ℕ → Frame → State → Step
push_some fun None stack f s = wild s
push_some fun (Some w) stack f s = push fun w stack f s

-- pushes the number of a check that holds
abbrev pub push_checked : Func → Checked ℤ → List ℕ → Frame → State → Step
push_checked fun (Holds number) stack f s = push fun (word number) stack f s
push_checked fun (Fails ending) stack f s = Over ending s

-- ---- pops: those of the topmost word, and of more, the lowest first

abbrev pub pop : List ℕ → (ℕ → List ℕ → Step) → State → Step
pop [] next s = wild s
pop (w ∷ stack) next s = next w stack

abbrev pub pop_2 : List ℕ → (ℕ → ℕ → List ℕ → Step) → State → Step
pop_2 stack next s = pop stack (λ b below. pop below (λ a rest. next a b rest) s) s

abbrev pub pop_3 : List ℕ → (ℕ → ℕ → ℕ → List ℕ → Step) → State → Step
pop_3 stack next s = pop stack (λ c below. pop_2 below (λ a b rest. next a b c rest) s) s

abbrev pub pop_5 : List ℕ → (ℕ → ℕ → ℕ → ℕ → ℕ → List ℕ → Step) → State → Step
pop_5 stack next s = pop_3 stack (λ c d e below. pop_2 below (λ a b rest. next a b c d e rest) s) s

abbrev pub pop_6 : List ℕ → (ℕ → ℕ → ℕ → ℕ → ℕ → ℕ → List ℕ → Step) → State → Step
pop_6 stack next s = pop_3 stack (λ d e f below. pop_3 below (λ a b c rest. next a b c d e f rest) s) s

abbrev pub pop_if : Bool → ℕ → List ℕ → (List ℕ → List ℕ → Step) → State → Step
pop_if true n stack next s = next (reverse (take n stack)) (drop n stack)
pop_if false n stack next s = wild s

-- so many words, of which the last is on top
abbrev pub pop_words : ℕ → List ℕ → (List ℕ → List ℕ → Step) → State → Step
pop_words n stack next s = pop_if (nat_le n (length stack)) n stack next s

-- the topmost word, which stays
abbrev pub peek : List ℕ → (ℕ → Step) → State → Step
peek [] next s = wild s
peek (w ∷ stack) next s = next w

-- ---- slots, blocks and memory

abbrev pub set_if : Bool → ℕ → ℕ → List ℕ → Frame → State → Step
set_if true k w stack f s = on_with (record f { slots = slice_set f.slots k w }) stack s
set_if false k w stack f s = wild s

-- where the blocks of these lists of bytes stand, of which the first stands at an offset
abbrev pub offset_from : ℕ → List (List ℕ) → ℕ → Option ℕ
offset_from offset [] number = None
offset_from offset (block ∷ blocks) zero = Some offset
offset_from offset (block ∷ blocks) (suc number) = offset_from (grown offset (length block)) blocks number

abbrev pub at_base : ℕ → Option ℕ → Option ℕ
at_base base None = None
at_base base (Some offset) = Some (base + offset)

-- the address of a static block of trusted memory, and the offset of one of the sandbox's
abbrev pub address_of : Image → ℕ → ℕ → Option ℕ
address_of image base k = at_base base (offset_from first_offset image.trusted.blocks k)

abbrev pub offset_of : Image → ℕ → Option ℕ
offset_of image k = offset_from first_offset image.sandbox.blocks k

-- so many bytes from an address on are bytes of the memory
abbrev pub holds : Memory → ℕ → ℕ → Bool
holds m address len = nat_le m.base address && nat_le (address + len) (m.base + length m.bytes)

abbrev pub load_if : Bool → Func → ℕ → ℕ → List ℕ → Frame → State → Step
load_if true fun len address stack f s = push fun (word_at len s.memory.bytes (address - s.memory.base)) stack f s
load_if false fun len address stack f s = wild s

abbrev pub load : Func → ℕ → ℕ → List ℕ → Frame → State → Step
load fun len address stack f s = load_if (holds s.memory address len) fun len address stack f s

-- the memory with a word stored
abbrev pub stored : Memory → ℕ → ℕ → ℕ → Memory
stored m len address w = record m { bytes = with_word len m.bytes (address - m.base) w }

abbrev pub store_if : Bool → ℕ → ℕ → ℕ → List ℕ → Frame → State → Step
store_if true len address w stack f s = on_with f stack (record s { memory = stored s.memory len address w })
store_if false len address w stack f s = wild s

abbrev pub store : ℕ → ℕ → ℕ → List ℕ → Frame → State → Step
store len address w stack f s = store_if (holds s.memory address len) len address w stack f s

-- ---- checks

-- goes on with this stack where a check holds
abbrev pub check : Bool → Code → Place → List ℕ → Frame → State → Step
check true code place stack f s = on_with f stack s
check false code place stack f s = Over (Check code place) s

-- the place of an element, over whole numbers
abbrev pub place_at : ℕ → ℕ → ℕ → ℤ
place_at p i size = pos p +ℤ (signed i *ℤ pos size)

-- the address of an element, modulo 2 ^ 32, where an index stands for the same number with and without its sign
abbrev pub element : ℕ → ℕ → ℕ → ℕ
element p i size = arithmetic.wrapped (p + i * size)

-- an end: a base and so many elements, over whole numbers
abbrev pub end_of : ℕ → ℕ → ℤ → ℕ → ℤ
end_of b count plus size = end_at b size (signed count) plus

abbrev pub is_in : ℤ → ℤ → ℤ → Bool
is_in low x high = int_le low x && int_lt x high

abbrev pub is_up_to : ℤ → ℤ → ℤ → Bool
is_up_to low x high = int_le low x && int_le x high

abbrev pub same_number : ℤ → ℤ → Bool
same_number a b = int_le a b && int_le b a

-- the new ends lie within the old ones, or they are turned, or the pointer is null
abbrev pub contains : ℕ → ℤ → ℤ → ℤ → ℤ → Bool
contains p low high new_low new_high = p == 0 || (int_lt new_high new_low || (int_le low new_low && int_le new_high high))

-- ---- touches

-- so many bytes from a place on are bytes of the sandbox's memory
abbrev pub is_touchable : ℕ → ℕ → State → Bool
is_touchable at len s = nat_le (at + len) (length s.world.sandbox)

-- a touch that may be made waits for the next `go`, its operands popped
abbrev pub touch_if : Bool → Touch → List ℕ → Frame → State → Step
touch_if true touch stack f s = Goes (record s { control = Touches (record f { stack = stack }) touch })
touch_if false touch stack f s = wild s

-- ---- calls

-- the slots of a function that is called with these words: the words, and zeros
abbrev pub slots_for : Func → List ℕ → List ℕ
slots_for fun words = words ++ replicate (fun.slots - length words) 0

-- the frame of a function that is called
abbrev pub frame_for : ℕ → Func → List ℕ → Frame
frame_for number fun words = record { function = number; next = 0; slots = slots_for fun words; stack = [] }

-- behind a call, at the instruction that follows it
abbrev pub behind : Frame → List ℕ → Frame
behind f stack = record f { next = f.next + 1; stack = stack }

abbrev pub enter : ℕ → Func → List ℕ → Caller → State → Step
enter number fun words caller s = Goes (record s { control = Runs (frame_for number fun words); callers = caller ∷ s.callers })

-- S2 where a call would make 1,001 open calls
abbrev pub call_function : ℕ → Option Func → Frame → State → Step
call_function k None f s = wild s
call_function k (Some fun) f s =
    pop_words fun.args f.stack (λ words stack. asked (enter_call (depth s) s.world) s (λ _ t. enter k fun words (Calls (behind f stack)) t)) s

abbrev pub call_tainted : ℕ → Place → Option Import → Frame → State → Step
call_tainted k place None f s = wild s
call_tainted k place (Some import) f s =
    pop_words import.args f.stack (λ words stack. asked (enter_call (depth s) s.world) s (λ _ t. touch_if true (Passes k words place) stack f t)) s

-- pushes what a function returned, if it returned something
abbrev pub push_result : Option Func → Option ℕ → Frame → State → Step
push_result None result f s = wild s
push_result (Some fun) None f s = Goes (record s { control = Runs f })
push_result (Some fun) (Some w) f s = pushed (nat_lt (length f.stack) fun.stack)
  where
    pushed : Bool → Step
    pushed true = Goes (record s { control = Runs (record f { stack = w ∷ f.stack }) })
    pushed false = wild s

-- the word that a callback replies: what it returned, and 0 where its result is nothing
abbrev pub reply_word : WordKind → Option ℕ → Option ℕ
reply_word kinds.Void result = Some 0
reply_word kinds.Int result = result
reply_word kinds.Char result = result
reply_word kinds.Pointer result = result

abbrev pub reply_of : Option Callback → Option ℕ → Option ℕ
reply_of None result = None
reply_of (Some callback) result = reply_word callback.result result

-- the reply of a callback is a touch, and a callback that has none is wild
abbrev pub reply_with : Option ℕ → Frame → State → Step
reply_with None f s = wild s
reply_with (Some value) f s = touch_if true (Replies value) f.stack f s

abbrev pub exit_with : Option ℕ → State → Step
exit_with None s = wild s
exit_with (Some w) s = Over (Exit (signed w)) s

-- the innermost call returns a word, or nothing
abbrev pub return_to : Image → List Caller → Option ℕ → Frame → State → Step
return_to image [] result f s = exit_with result s
return_to image (Calls caller ∷ callers) result f s = push_result (slice_get image.trusted.funs caller.function) result caller (record s { callers = callers })
return_to image (Waits caller import place ∷ callers) result f s = wild s
return_to image (CalledBack k ∷ callers) result f s = reply_with (reply_of (slice_get image.layout.callbacks k) result) f s

-- ---- allocations

-- the blocks behind one more of so many bytes that was asked for
abbrev pub blocks_made : Memory → List Block → ℕ → List Block
blocks_made m blocks bytes = behind (is_refused (length m.bytes) m.counter bytes)
  where
    behind : Bool → List Block
    behind true = blocks
    behind false = blocks ++ (record { offset = m.counter; bytes = bytes }) ∷ []

-- a block of so many elements of a size, where the count is above 0: its address, and 0 where it is refused
abbrev pub allocate_if : Bool → Func → ℕ → List ℕ → Frame → State → Step
allocate_if true fun bytes stack f s =
    push fun (address_made s.memory bytes) stack f (record s { memory = made s.memory bytes; blocks = blocks_made s.memory s.blocks bytes })
allocate_if false fun bytes stack f s = push fun 0 stack f s

abbrev pub is_positive : ℤ → Bool
is_positive number = int_lt (pos 0) number

abbrev pub allocate : Func → ℕ → ℕ → ℕ → List ℕ → Frame → State → Step
allocate fun size more n stack f s = allocate_if (is_positive (signed n)) fun ((n + more) * size) stack f s

abbrev pub allocate_sandbox_if : Bool → Func → ℕ → List ℕ → Frame → State → Step
allocate_sandbox_if true fun bytes stack f s = asked (make_block bytes s.world) s (λ offset t. push fun offset stack f t)
allocate_sandbox_if false fun bytes stack f s = push fun 0 stack f s

-- ---- the length of a text

abbrev pub byte_if : Bool → State → ℕ → Option ℕ
byte_if true s address = Some (slice_index s.memory.bytes (address - s.memory.base))
byte_if false s address = None

-- the byte at an address of trusted memory
abbrev pub byte_at : State → ℕ → Option ℕ
byte_at s address = byte_if (holds s.memory address 1) s address

-- what a byte of a text comes to, where it is there: the end of the text, or more of it
abbrev pub by_byte : Option ℕ → Step → Step → Step → Step
by_byte None outside end more = outside
by_byte (Some zero) outside end more = end
by_byte (Some (suc byte)) outside end more = more

-- counts from an address on, where so many bytes of the memory are left at most: each byte spends a tick, and is then read
abbrev pub count_from : ℕ → Func → ℕ → ℕ → ℕ → List ℕ → Frame → State → Step
count_from zero fun budget address count stack f s = asked (spend_tick budget s.world) s (λ _ t. wild t)
count_from (suc left) fun budget address count stack f s =
    asked (spend_tick budget s.world) s (λ _ t. by_byte (byte_at t address) (wild t) (push fun count stack f t)
    (count_from left fun budget (address + 1) (count + 1) stack f t))

-- ---- jumps

abbrev pub jump_if : Bool → ℕ → List ℕ → Frame → State → Step
jump_if true target stack f s = Goes (record s { control = Runs (record f { next = target; stack = stack }) })
jump_if false target stack f s = wild s

-- to an instruction that is there
abbrev pub jump : Func → ℕ → List ℕ → Frame → State → Step
jump fun target stack f s = jump_if (nat_lt target (length fun.ops)) target stack f s

abbrev pub jump_if_zero : Bool → Func → ℕ → List ℕ → Frame → State → Step
jump_if_zero true fun target stack f s = jump fun target stack f s
jump_if_zero false fun target stack f s = on_with f stack s

-- ---- the table

-- pushes what an operation makes of two words, or of one
abbrev pub of_two : Func → (ℕ → ℕ → ℕ) → Frame → State → Step
of_two fun operation f s = pop_2 f.stack (λ a b stack. push fun (operation a b) stack f s) s

abbrev pub of_one : Func → (ℕ → ℕ) → Frame → State → Step
of_one fun operation f s = pop f.stack (λ b stack. push fun (operation b) stack f s) s

-- pushes what a checked operation makes of two numbers
abbrev pub checked_of_two : Func → (ℤ → ℤ → Checked ℤ) → Frame → State → Step
checked_of_two fun operation f s = pop_2 f.stack (λ a b stack. push_checked fun (operation (signed a) (signed b)) stack f s) s

-- one instruction of a function of the trusted side
abbrev pub act : Image → Settings → Func → Op → Frame → State → Step
act image settings fun (ops.Const n) f s = push fun (word n) f.stack f s
act image settings fun (ops.Local k) f s = push_some fun (slice_get f.slots k) f.stack f s
act image settings fun (ops.Set k) f s = pop f.stack (λ w stack. set_if (nat_lt k (length f.slots)) k w stack f s) s
act image settings fun ops.Discard f s = pop f.stack (λ w stack. on_with f stack s) s
act image settings fun ops.Duplicate f s = peek f.stack (λ w. push fun w f.stack f s) s
act image settings fun (ops.BlockAddress k) f s = push_some fun (address_of image settings.base k) f.stack f s
act image settings fun (ops.BlockOffset k) f s = push_some fun (offset_of image k) f.stack f s
act image settings fun (ops.Arithmetic operator place) f s = checked_of_two fun (arithmetic_result operator place) f s
act image settings fun (ops.Neg place) f s = pop f.stack (λ b stack. push_checked fun (arithmetic.negation place (signed b)) stack f s) s
act image settings fun ops.WrapAdd f s = of_two fun arithmetic.wrapping_sum f s
act image settings fun ops.WrapSub f s = of_two fun arithmetic.wrapping_difference f s
act image settings fun ops.WrapMul f s = of_two fun arithmetic.wrapping_product f s
act image settings fun ops.WrapNeg f s = of_one fun arithmetic.wrapping_negation f s
act image settings fun ops.WrapShl f s = of_two fun arithmetic.wrapping_shift_left f s
act image settings fun ops.WrapShr f s = of_two fun arithmetic.wrapping_shift_right f s
act image settings fun ops.WrapDiv f s = wild s
act image settings fun ops.WrapRem f s = wild s
act image settings fun (ops.Bitwise operator) f s = of_two fun (bitwise_result operator) f s
act image settings fun ops.Not f s = of_one fun arithmetic.complement f s
act image settings fun (ops.Compare comparison) f s = of_two fun (λ a b. bit (holds_of_words comparison a b)) f s
act image settings fun ops.UnsignedLess f s = of_two fun (λ a b. bit (nat_lt a b)) f s
act image settings fun ops.UnsignedLessEqual f s = of_two fun (λ a b. bit (nat_le a b)) f s
act image settings fun ops.UnsignedGreater f s = of_two fun (λ a b. bit (nat_lt b a)) f s
act image settings fun ops.UnsignedGreaterEqual f s = of_two fun (λ a b. bit (nat_le b a)) f s
act image settings fun ops.Zero f s = of_one fun (λ b. bit (b == 0)) f s
act image settings fun ops.Byte f s = of_one fun (λ b. b % 256) f s
act image settings fun (ops.Index size) f s = of_two fun (λ p i. element p i size) f s
act image settings fun (ops.NonNull place) f s = peek f.stack (λ w. check (not (w == 0)) C1 place f.stack f s) s
act image settings fun (ops.In low high size place) f s =
    pop_5 f.stack (λ p i b l h stack. check (is_in (end_of b l low size) (place_at p i size) (end_of b h high size)) C2 place stack f s) s
act image settings fun (ops.UpTo low high size place) f s =
    pop_5 f.stack (λ p i b l h stack. check (is_up_to (end_of b l low size) (place_at p i size) (end_of b h high size)) C2 place stack f s) s
act image settings fun (ops.Term high size place) f s =
    pop_5 f.stack (λ p i b h v stack. check (v == 0 || not (same_number (place_at p i size) (end_of b h high size))) C3 place stack f s) s
act image settings fun (ops.Contain low1 high1 low2 high2 size place) f s =
    pop_6 f.stack (λ b1 l1 h1 b2 l2 h2 stack. peek stack (λ p. check (contains p (end_of b1 l1 low1 size) (end_of b1 h1 high1 size) (end_of b2 l2 low2 size)
    (end_of b2 h2 high2 size)) C5 place stack f s) s) s
act image settings fun (ops.Lies low high size more place) f s =
    pop_3 f.stack (λ b l h stack. peek stack (λ p. check (lie_in (length s.world.sandbox) p (end_of b l low size)
    (end_of b h high size) more) C5 place stack f s) s) s
act image settings fun (ops.Range offset len place) f s = peek f.stack (λ w. check (nat_le (w + offset + len) (length s.world.sandbox)) C4 place f.stack f s) s
act image settings fun ops.Load1 f s = pop f.stack (λ address stack. load fun 1 address stack f s) s
act image settings fun ops.Load4 f s = pop f.stack (λ address stack. load fun 4 address stack f s) s
act image settings fun ops.Store1 f s = pop_2 f.stack (λ address w stack. store 1 address w stack f s) s
act image settings fun ops.Store4 f s = pop_2 f.stack (λ address w stack. store 4 address w stack f s) s
act image settings fun ops.TouchLoad1 f s = pop f.stack (λ at stack. touch_if (is_touchable at 1 s) (Loads at 1) stack f s) s
act image settings fun ops.TouchLoad4 f s = pop f.stack (λ at stack. touch_if (is_touchable at 4 s) (Loads at 4) stack f s) s
act image settings fun ops.TouchStore1 f s = pop_2 f.stack (λ at w stack. touch_if (is_touchable at 1 s) (Stores at (to_le_bytes w8 (w % 256))) stack f s) s
act image settings fun ops.TouchStore4 f s = pop_2 f.stack (λ at w stack. touch_if (is_touchable at 4 s) (Stores at (to_le_bytes w32 w)) stack f s) s
act image settings fun (ops.Jump target) f s = jump fun target f.stack f s
act image settings fun (ops.JumpIfZero target) f s = pop f.stack (λ w stack. jump_if_zero (w == 0) fun target stack f s) s
act image settings fun (ops.Call k) f s = call_function k (slice_get image.trusted.funs k) f s
act image settings fun (ops.TaintedCall k place) f s = call_tainted k place (slice_get image.layout.imports k) f s
act image settings fun (ops.CallBack k) f s = wild s
act image settings fun ops.Return f s = pop f.stack (λ w stack. return_to image s.callers (Some w) (record f { stack = stack }) s) s
act image settings fun ops.ReturnNothing f s = return_to image s.callers None f s
act image settings fun ops.Tick f s = asked (spend_tick settings.budget s.world) s (λ _ t. on_with f f.stack t)
act image settings fun ops.NextInput f s = asked (next_input s.world) s (λ number t. push fun (word number) f.stack f t)
act image settings fun ops.Print f s = pop f.stack (λ w stack. on_with f stack (record s { world = write (number_line (signed w)) s.world })) s
act image settings fun ops.PutByte f s = pop f.stack (λ w stack. on_with f stack (record s { world = write (w % 256 ∷ []) s.world })) s
act image settings fun (ops.Alloc size) f s = pop f.stack (λ n stack. allocate fun size 0 n stack f s) s
act image settings fun (ops.AllocTerminated size) f s = pop f.stack (λ n stack. allocate fun size 1 n stack f s) s
act image settings fun (ops.SandboxAlloc size) f s = pop f.stack (λ n stack. allocate_sandbox_if (is_positive (signed n)) fun (n * size) stack f s) s
act image settings fun ops.TextLength f s = pop f.stack (λ p stack. count_from (length s.memory.bytes) fun settings.budget p 0 stack f s) s

-- the instruction that stands next in the function, or a wild step where none does
abbrev pub act_next : Image → Settings → Func → Option Op → Frame → State → Step
act_next image settings fun None f s = wild s
act_next image settings fun (Some op) f s = act image settings fun op f s

abbrev pub step_in : Image → Settings → Option Func → Frame → State → Step
step_in image settings None f s = wild s
step_in image settings (Some fun) f s = act_next image settings fun (slice_get fun.ops f.next) f s

-- the next instruction
abbrev pub step : Image → Settings → Frame → State → Step
step image settings f s = step_in image settings (slice_get image.trusted.funs f.function) f s
