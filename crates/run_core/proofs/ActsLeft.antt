-- Which acts are left changes nothing in a move but the act that it takes, and a move tells no act but that one.
use Rattle.std.proofs.Common.{◌≡◌, ℕ, zero, suc, ◌+◌, ◌*◌, Bool, true, false, Option, None, Some, List, [], ◌∷◌, ◌++◌, ℤ, refl, sym, ap, ◌∙◌, subst}
use Rattle.std.proofs.lemmas.List.{append_assoc, append-nil}
use Rattle.std.specs.Prelude.{slice_get, nat_lt, nat_le, length, ◌==◌}
use Rattle.ckc_text.specs.declared.place.Place.{Place}
use Rattle.ckc_text.specs.declared.code.Code.{Code}
use Rattle.act_words.specs.declared.settings.Settings.{Settings}
use Rattle.act_words.specs.Acts.{Act, Go, Read, Write, Call, Return, Stop, Looked, Wrote, Passed, Replied, SeenBytes, SeenCall, SeenReply}
use Rattle.act_words.specs.declared.act.Turn.{Turn}
use Rattle.act_words.specs.declared.act.Turn.TheVariants as turns
use Rattle.act_words.specs.World.{World, Event, Took, Output, Released, Showed, NoAct, telling, taken_one, spent_one}
use Rattle.act_words.specs.Acting.{lies_in, bytes_at, shown_if, written_if, waits_or_ends, keeps_or_ends, act_before_touch, act_in_sandbox}
use Rattle.act_words.specs.Checks.{Checked, Holds, Fails}
use Rattle.act_words.specs.Numbers.{signed, word}
use Rattle.act_words.specs.Operators.{arithmetic_result}
use Rattle.act_words.specs.Touches.{spend_tick, spent_if, enter_call, entered_if, input_from}
use Rattle.code_words.specs.declared.op.Op.{Op}
use Rattle.code_words.specs.declared.op.Op.TheVariants as ops
use Rattle.marshalling.specs.declared.kind.WordKind.{WordKind}
use Rattle.code_words.specs.Functions.{Func, Import}
use Rattle.code_words.specs.declared.image.Callback.{Callback}
use Rattle.marshalling.specs.declared.signature.Param.{Param}
use Rattle.code_words.specs.Images.{Image}
use Rattle.marshalling.specs.declared.fault.MarshalFault.{MarshalFault}
use Rattle.marshalling.specs.declared.fault.MarshalFault.TheVariants as faults
use Rattle.marshalling.specs.Crossing.{arguments_fault, fits_kind}
use Rattle.code_words.specs.Table.{Frame, Caller, Calls, Waits, CalledBack, Touch, Loads, Stores, Passes, Replies, Control, Runs, Touches, Away, State, Step, Goes, Over}
use Rattle.code_words.specs.Table.{wild, holds, depth, is_positive, asked, push, push_if, push_some, push_checked, pop, pop_2, pop_3, pop_5, pop_6, pop_if, pop_words, peek}
use Rattle.code_words.specs.Table.{set_if, load_if, load, store_if, store, check, touch_if, call_function, call_tainted, push_result, reply_of, reply_with, exit_with, return_to}
use Rattle.code_words.specs.Table.{allocate_if, allocate, allocate_sandbox_if, by_byte, byte_if, byte_at, count_from, jump_if, jump, jump_if_zero, of_two, of_one, checked_of_two, act, act_next, step_in, step}
use Rattle.code_words.specs.Moves.{in_world, make_touch, before_touch_by, run_if, run_callback, at_place_of, tested, call_back_if, call_back, reply_if, reply_to, answer}
use Rattle.code_words.specs.Moves.{in_sandbox_by, take_before_touch, take_in_sandbox, move, move_by}

-- the same world, and the same state, with these acts left
abbrev pub world_leaving : List Act → World → World
world_leaving acts w = record w { acts = acts }

abbrev pub leaving : List Act → State → State
leaving acts s = record s { world = world_leaving acts s.world }

abbrev pub step_leaving : List Act → Step → Step
step_leaving acts (Goes s) = Goes (leaving acts s)
step_leaving acts (Over ending s) = Over ending (leaving acts s)

-- events that tell neither that an act was taken, nor that one was lacking
abbrev pub AreQuiet : List Event → Type 0
AreQuiet [] = Unit {0}
AreQuiet (Took turn act ∷ events) = ⊥
AreQuiet (Output bytes ∷ events) = AreQuiet events
AreQuiet (Released release ∷ events) = AreQuiet events
AreQuiet (Showed seen ∷ events) = AreQuiet events
AreQuiet (NoAct turn ∷ events) = ⊥

quiet-append : (xs ys : List Event) → AreQuiet xs → AreQuiet ys → AreQuiet (xs ++ ys)
quiet-append [] ys h k = k
quiet-append (Took turn act ∷ xs) ys h k = absurd h
quiet-append (Output bytes ∷ xs) ys h k = quiet-append xs ys h k
quiet-append (Released release ∷ xs) ys h k = quiet-append xs ys h k
quiet-append (Showed seen ∷ xs) ys h k = quiet-append xs ys h k
quiet-append (NoAct turn ∷ xs) ys h k = absurd h

-- whose turn it is, by what the trusted side does
abbrev pub turn_by : Control → Turn
turn_by (Runs f) = turns.Trusted
turn_by (Touches f touch) = turns.Trusted
turn_by Away = turns.Sandbox

abbrev pub InTurn : State → Type 0
InTurn s = s.world.turn ≡ turn_by s.control

-- nothing but quiet events happened behind these
abbrev pub Quietly : List Event → World → Type 0
Quietly base w = (q : List Event) × (w.events ≡ base ++ q) × AreQuiet q

-- so it is where a step led
abbrev pub LedQuietly : List Event → Step → Type 0
LedQuietly base (Goes s) = InTurn s × Quietly base s.world
LedQuietly base (Over ending s) = Quietly base s.world

module _ (acts : List Act) (base : List Event) where
  abbrev left : State → State
  left s = leaving acts s

  -- the one step is the other, with these acts left, and leads quietly
  abbrev Same : Step → Step → Type 0
  Same there here = (there ≡ step_leaving acts here) × LedQuietly base here

  abbrev Told : World → Type 0
  Told w = Quietly base w

  abbrev Calm : World → Type 0
  Calm w = (w.turn ≡ turns.Trusted) × Told w

  telling-told : (more : List Event) (w : World) → AreQuiet more → Told w → Told (telling more w)
  telling-told more w quiet h = (h.0 ++ more, ap (λ events. events ++ more) h.1 ∙ append_assoc base h.0 more, quiet-append h.0 more h.2 quiet)

  -- ---- pushes and pops

  push-same : (fun : Func) (w : ℕ) (stack : List ℕ) (f : Frame) (s : State) → Calm s.world → Same (push fun w stack f (left s)) (push fun w stack f s)
  push-same fun w stack f s c = by (nat_lt (length stack) fun.stack)
    where
      by : (room : Bool) → Same (push_if room w stack f (left s)) (push_if room w stack f s)
      by true = (refl, c)
      by false = (refl, c.1)

  push_some-same : (fun : Func) (w : Option ℕ) (stack : List ℕ) (f : Frame) (s : State) → Calm s.world → Same (push_some fun w stack f (left s)) (push_some fun w stack f s)
  push_some-same fun None stack f s c = (refl, c.1)
  push_some-same fun (Some w) stack f s c = push-same fun w stack f s c

  push_checked-same : (fun : Func) (number : Checked ℤ) (stack : List ℕ) (f : Frame) (s : State) → Calm s.world → Same (push_checked fun number stack f (left s)) (push_checked fun number stack f s)
  push_checked-same fun (Holds number) stack f s c = push-same fun _ stack f s c
  push_checked-same fun (Fails ending) stack f s c = (refl, c.1)

  pop-same : (stack : List ℕ) (there here : ℕ → List ℕ → Step) (s : State) → Calm s.world → ((w : ℕ) (below : List ℕ) → Same (there w below) (here w below)) → Same (pop stack there (left s)) (pop stack here s)
  pop-same [] there here s c same = (refl, c.1)
  pop-same (w ∷ below) there here s c same = same w below

  pop_2-same : (stack : List ℕ) (there here : ℕ → ℕ → List ℕ → Step) (s : State) → Calm s.world → ((a b : ℕ) (rest : List ℕ) → Same (there a b rest) (here a b rest)) → Same (pop_2 stack there (left s)) (pop_2 stack here s)
  pop_2-same stack there here s c same = pop-same stack _ _ s c (λ b below. pop-same below _ _ s c (λ a rest. same a b rest))

  pop_3-same : (stack : List ℕ) (there here : ℕ → ℕ → ℕ → List ℕ → Step) (s : State) → Calm s.world → ((a b d : ℕ) (rest : List ℕ) → Same (there a b d rest) (here a b d rest)) → Same (pop_3 stack there (left s)) (pop_3 stack here s)
  pop_3-same stack there here s c same = pop-same stack _ _ s c (λ d below. pop_2-same below _ _ s c (λ a b rest. same a b d rest))

  pop_5-same : (stack : List ℕ) (there here : ℕ → ℕ → ℕ → ℕ → ℕ → List ℕ → Step) (s : State) → Calm s.world → ((a b d e f : ℕ) (rest : List ℕ) → Same (there a b d e f rest) (here a b d e f rest)) → Same (pop_5 stack there (left s)) (pop_5 stack here s)
  pop_5-same stack there here s c same = pop_3-same stack _ _ s c (λ d e f below. pop_2-same below _ _ s c (λ a b rest. same a b d e f rest))

  pop_6-same : (stack : List ℕ) (there here : ℕ → ℕ → ℕ → ℕ → ℕ → ℕ → List ℕ → Step) (s : State) → Calm s.world → ((a b d e f g : ℕ) (rest : List ℕ) → Same (there a b d e f g rest) (here a b d e f g rest)) → Same (pop_6 stack there (left s)) (pop_6 stack here s)
  pop_6-same stack there here s c same = pop_3-same stack _ _ s c (λ e f g below. pop_3-same below _ _ s c (λ a b d rest. same a b d e f g rest))

  pop_words-same : (n : ℕ) (stack : List ℕ) (there here : List ℕ → List ℕ → Step) (s : State) → Calm s.world → ((words rest : List ℕ) → Same (there words rest) (here words rest)) → Same (pop_words n stack there (left s)) (pop_words n stack here s)
  pop_words-same n stack there here s c same = by (nat_le n (length stack))
    where
      by : (enough : Bool) → Same (pop_if enough n stack there (left s)) (pop_if enough n stack here s)
      by true = same _ _
      by false = (refl, c.1)

  peek-same : (stack : List ℕ) (there here : ℕ → Step) (s : State) → Calm s.world → ((w : ℕ) → Same (there w) (here w)) → Same (peek stack there (left s)) (peek stack here s)
  peek-same [] there here s c same = (refl, c.1)
  peek-same (w ∷ stack) there here s c same = same w

  -- ---- slots, memory, checks and touches

  set_if-same : (room : Bool) (k w : ℕ) (stack : List ℕ) (f : Frame) (s : State) → Calm s.world → Same (set_if room k w stack f (left s)) (set_if room k w stack f s)
  set_if-same true k w stack f s c = (refl, c)
  set_if-same false k w stack f s c = (refl, c.1)

  load-same : (fun : Func) (len address : ℕ) (stack : List ℕ) (f : Frame) (s : State) → Calm s.world → Same (load fun len address stack f (left s)) (load fun len address stack f s)
  load-same fun len address stack f s c = by (holds s.memory address len)
    where
      by : (there : Bool) → Same (load_if there fun len address stack f (left s)) (load_if there fun len address stack f s)
      by true = push-same fun _ stack f s c
      by false = (refl, c.1)

  store-same : (len address w : ℕ) (stack : List ℕ) (f : Frame) (s : State) → Calm s.world → Same (store len address w stack f (left s)) (store len address w stack f s)
  store-same len address w stack f s c = by (holds s.memory address len)
    where
      by : (there : Bool) → Same (store_if there len address w stack f (left s)) (store_if there len address w stack f s)
      by true = (refl, c)
      by false = (refl, c.1)

  check-same : (passes : Bool) (code : Code) (place : Place) (stack : List ℕ) (f : Frame) (s : State) → Calm s.world → Same (check passes code place stack f (left s)) (check passes code place stack f s)
  check-same true code place stack f s c = (refl, c)
  check-same false code place stack f s c = (refl, c.1)

  touch_if-same : (there : Bool) (touch : Touch) (stack : List ℕ) (f : Frame) (s : State) → Calm s.world → Same (touch_if there touch stack f (left s)) (touch_if there touch stack f s)
  touch_if-same true touch stack f s c = (refl, c)
  touch_if-same false touch stack f s c = (refl, c.1)

  -- ---- what is asked of the world

  abbrev spent : State → State
  spent s = record s { world = spent_one s.world }

  tick-same : (budget : ℕ) (s : State) (there here : State → Step) → Told s.world → Same (there (left (spent s))) (here (spent s)) → Same (asked (spend_tick budget (left s).world) (left s) (λ _ t. there t)) (asked (spend_tick budget s.world) s (λ _ t. here t))
  tick-same budget s there here told same = by (nat_lt s.world.ticks budget)
    where
      by : (some : Bool) → Same (asked (spent_if some (left s).world) (left s) (λ _ t. there t)) (asked (spent_if some s.world) s (λ _ t. here t))
      by true = same
      by false = (refl, told)

  entered-same : (open_calls : ℕ) (s : State) (there here : State → Step) → Told s.world → Same (there (left s)) (here s) → Same (asked (enter_call open_calls (left s).world) (left s) (λ _ t. there t)) (asked (enter_call open_calls s.world) s (λ _ t. here t))
  entered-same open_calls s there here told same = by (nat_lt open_calls 1000)
    where
      by : (shallow : Bool) → Same (asked (entered_if shallow (left s).world) (left s) (λ _ t. there t)) (asked (entered_if shallow s.world) s (λ _ t. here t))
      by true = same
      by false = (refl, told)

  input-same : (fun : Func) (f : Frame) (inputs : List ℤ) (s : State) → Calm s.world → Same (asked (input_from inputs (left s).world) (left s) (λ number t. push fun (word number) f.stack f t)) (asked (input_from inputs s.world) s (λ number t. push fun (word number) f.stack f t))
  input-same fun f [] s c = push-same fun _ f.stack f s c
  input-same fun f (number ∷ inputs) s c = push-same fun _ f.stack f _ c

  -- ---- calls and returns

  call-same : (k : ℕ) (fun : Option Func) (f : Frame) (s : State) → Calm s.world → Same (call_function k fun f (left s)) (call_function k fun f s)
  call-same k None f s c = (refl, c.1)
  call-same k (Some fun) f s c = pop_words-same fun.args f.stack _ _ s c (λ words stack. entered-same (depth s) s _ _ c.1 (refl, c))

  tainted-same : (k : ℕ) (place : Place) (import : Option Import) (f : Frame) (s : State) → Calm s.world → Same (call_tainted k place import f (left s)) (call_tainted k place import f s)
  tainted-same k place None f s c = (refl, c.1)
  tainted-same k place (Some import) f s c = pop_words-same import.args f.stack _ _ s c (λ words stack. entered-same (depth s) s _ _ c.1 (refl, c))

  push_result-same : (fun : Option Func) (result : Option ℕ) (f : Frame) (s : State) → Calm s.world → Same (push_result fun result f (left s)) (push_result fun result f s)
  push_result-same None result f s c = (refl, c.1)
  push_result-same (Some fun) None f s c = (refl, c)
  push_result-same (Some fun) (Some w) f s c = by (nat_lt (length f.stack) fun.stack) refl
    where
      by : (room : Bool) → nat_lt (length f.stack) fun.stack ≡ room → Same (push_result (Some fun) (Some w) f (left s)) (push_result (Some fun) (Some w) f s)
      by true e = rw e (refl, c)
      by false e = rw e (refl, c.1)

  reply-same : (value : Option ℕ) (f : Frame) (s : State) → Calm s.world → Same (reply_with value f (left s)) (reply_with value f s)
  reply-same None f s c = (refl, c.1)
  reply-same (Some value) f s c = (refl, c)

  exit-same : (result : Option ℕ) (s : State) → Calm s.world → Same (exit_with result (left s)) (exit_with result s)
  exit-same None s c = (refl, c.1)
  exit-same (Some w) s c = (refl, c.1)

  return-same : (image : Image) (callers : List Caller) (result : Option ℕ) (f : Frame) (s : State) → Calm s.world → Same (return_to image callers result f (left s)) (return_to image callers result f s)
  return-same image [] result f s c = exit-same result s c
  return-same image (Calls caller ∷ callers) result f s c = push_result-same (slice_get image.trusted.funs caller.function) result caller (record s { callers = callers }) c
  return-same image (Waits caller import place ∷ callers) result f s c = (refl, c.1)
  return-same image (CalledBack k ∷ callers) result f s c = reply-same (reply_of (slice_get image.layout.callbacks k) result) f s c

  -- ---- blocks, texts and jumps

  allocate-same : (fun : Func) (size more n : ℕ) (stack : List ℕ) (f : Frame) (s : State) → Calm s.world → Same (allocate fun size more n stack f (left s)) (allocate fun size more n stack f s)
  allocate-same fun size more n stack f s c = by (is_positive (signed n))
    where
      by : (some : Bool) → Same (allocate_if some fun ((n + more) * size) stack f (left s)) (allocate_if some fun ((n + more) * size) stack f s)
      by true = push-same fun _ stack f _ c
      by false = push-same fun 0 stack f s c

  allocate_sandbox-same : (some : Bool) (fun : Func) (bytes : ℕ) (stack : List ℕ) (f : Frame) (s : State) → Calm s.world → Same (allocate_sandbox_if some fun bytes stack f (left s)) (allocate_sandbox_if some fun bytes stack f s)
  allocate_sandbox-same true fun bytes stack f s c = push-same fun _ stack f _ c
  allocate_sandbox-same false fun bytes stack f s c = push-same fun 0 stack f s c

  byte-same : (s : State) (address : ℕ) → byte_at (left s) address ≡ byte_at s address
  byte-same s address = by (holds s.memory address 1)
    where
      by : (there : Bool) → byte_if there (left s) address ≡ byte_if there s address
      by true = refl
      by false = refl

  by_byte-same : (byte byte' : Option ℕ) (outside end more outside' end' more' : Step) → byte ≡ byte' → Same outside outside' → Same end end' → Same more more' → Same (by_byte byte outside end more) (by_byte byte' outside' end' more')
  by_byte-same byte byte' outside end more outside' end' more' e a b d = subst (λ x. Same (by_byte x outside end more) (by_byte byte' outside' end' more')) (sym e) (by byte')
    where
      by : (x : Option ℕ) → Same (by_byte x outside end more) (by_byte x outside' end' more')
      by None = a
      by (Some zero) = b
      by (Some (suc n)) = d

  count-same : (bytes : ℕ) (fun : Func) (budget address count : ℕ) (stack : List ℕ) (f : Frame) (s : State) → Calm s.world → Same (count_from bytes fun budget address count stack f (left s)) (count_from bytes fun budget address count stack f s)
  count-same zero fun budget address count stack f s c = tick-same budget s _ _ c.1 (refl, c.1)
  count-same (suc bytes) fun budget address count stack f s c =
      let t = spent s in
      let more = count_from bytes fun budget (address + 1) (count + 1) stack f in
      tick-same budget s _ _ c.1
      (by_byte-same (byte_at (left t) address) (byte_at t address) (wild (left t)) (push fun count stack f (left t)) (more (left t)) (wild t) (push fun count stack f t) (more t)
      (byte-same t address) (refl, c.1) (push-same fun count stack f t c) (count-same bytes fun budget (address + 1) (count + 1) stack f t c))

  jump-same : (fun : Func) (target : ℕ) (stack : List ℕ) (f : Frame) (s : State) → Calm s.world → Same (jump fun target stack f (left s)) (jump fun target stack f s)
  jump-same fun target stack f s c = by (nat_lt target (length fun.ops))
    where
      by : (there : Bool) → Same (jump_if there target stack f (left s)) (jump_if there target stack f s)
      by true = (refl, c)
      by false = (refl, c.1)

  jump_if_zero-same : (zero : Bool) (fun : Func) (target : ℕ) (stack : List ℕ) (f : Frame) (s : State) → Calm s.world → Same (jump_if_zero zero fun target stack f (left s)) (jump_if_zero zero fun target stack f s)
  jump_if_zero-same true fun target stack f s c = jump-same fun target stack f s c
  jump_if_zero-same false fun target stack f s c = (refl, c)

  -- ---- instructions

  two-same : (fun : Func) (operation : ℕ → ℕ → ℕ) (f : Frame) (s : State) → Calm s.world → Same (of_two fun operation f (left s)) (of_two fun operation f s)
  two-same fun operation f s c = pop_2-same f.stack _ _ s c (λ a b stack. push-same fun (operation a b) stack f s c)

  one-same : (fun : Func) (operation : ℕ → ℕ) (f : Frame) (s : State) → Calm s.world → Same (of_one fun operation f (left s)) (of_one fun operation f s)
  one-same fun operation f s c = pop-same f.stack _ _ s c (λ b stack. push-same fun (operation b) stack f s c)

  checked-same : (fun : Func) (operation : ℤ → ℤ → Checked ℤ) (f : Frame) (s : State) → Calm s.world → Same (checked_of_two fun operation f (left s)) (checked_of_two fun operation f s)
  checked-same fun operation f s c = pop_2-same f.stack _ _ s c (λ a b stack. push_checked-same fun _ stack f s c)

  act-same : (image : Image) (settings : Settings) (fun : Func) (op : Op) (f : Frame) (s : State) → Calm s.world → Same (act image settings fun op f (left s)) (act image settings fun op f s)
  act-same image settings fun (ops.Const n) f s c = push-same fun _ f.stack f s c
  act-same image settings fun (ops.Local k) f s c = push_some-same fun _ f.stack f s c
  act-same image settings fun (ops.Set k) f s c = pop-same f.stack _ _ s c (λ w stack. set_if-same (nat_lt k (length f.slots)) k w stack f s c)
  act-same image settings fun ops.Discard f s c = pop-same f.stack _ _ s c (λ w stack. (refl, c))
  act-same image settings fun ops.Duplicate f s c = peek-same f.stack _ _ s c (λ w. push-same fun w f.stack f s c)
  act-same image settings fun (ops.BlockAddress k) f s c = push_some-same fun _ f.stack f s c
  act-same image settings fun (ops.BlockOffset k) f s c = push_some-same fun _ f.stack f s c
  act-same image settings fun (ops.Arithmetic operator place) f s c = checked-same fun (arithmetic_result operator place) f s c
  act-same image settings fun (ops.Neg place) f s c = pop-same f.stack _ _ s c (λ b stack. push_checked-same fun _ stack f s c)
  act-same image settings fun ops.WrapAdd f s c = two-same fun _ f s c
  act-same image settings fun ops.WrapSub f s c = two-same fun _ f s c
  act-same image settings fun ops.WrapMul f s c = two-same fun _ f s c
  act-same image settings fun ops.WrapNeg f s c = one-same fun _ f s c
  act-same image settings fun ops.WrapShl f s c = two-same fun _ f s c
  act-same image settings fun ops.WrapShr f s c = two-same fun _ f s c
  act-same image settings fun ops.WrapDiv f s c = (refl, c.1)
  act-same image settings fun ops.WrapRem f s c = (refl, c.1)
  act-same image settings fun (ops.Bitwise operator) f s c = two-same fun _ f s c
  act-same image settings fun ops.Not f s c = one-same fun _ f s c
  act-same image settings fun (ops.Compare comparison) f s c = two-same fun _ f s c
  act-same image settings fun ops.UnsignedLess f s c = two-same fun _ f s c
  act-same image settings fun ops.UnsignedLessEqual f s c = two-same fun _ f s c
  act-same image settings fun ops.UnsignedGreater f s c = two-same fun _ f s c
  act-same image settings fun ops.UnsignedGreaterEqual f s c = two-same fun _ f s c
  act-same image settings fun ops.Zero f s c = one-same fun _ f s c
  act-same image settings fun ops.Byte f s c = one-same fun _ f s c
  act-same image settings fun (ops.Index size) f s c = two-same fun _ f s c
  act-same image settings fun (ops.NonNull place) f s c = peek-same f.stack _ _ s c (λ w. check-same _ _ place f.stack f s c)
  act-same image settings fun (ops.In low high size place) f s c = pop_5-same f.stack _ _ s c (λ _ _ _ _ _ stack. check-same _ _ place stack f s c)
  act-same image settings fun (ops.UpTo low high size place) f s c = pop_5-same f.stack _ _ s c (λ _ _ _ _ _ stack. check-same _ _ place stack f s c)
  act-same image settings fun (ops.Term high size place) f s c = pop_5-same f.stack _ _ s c (λ _ _ _ _ _ stack. check-same _ _ place stack f s c)
  act-same image settings fun (ops.Contain low1 high1 low2 high2 size place) f s c = pop_6-same f.stack _ _ s c (λ _ _ _ _ _ _ stack. peek-same stack _ _ s c (λ p. check-same _ _ place stack f s c))
  act-same image settings fun (ops.Lies low high size more place) f s c = pop_3-same f.stack _ _ s c (λ _ _ _ stack. peek-same stack _ _ s c (λ p. check-same _ _ place stack f s c))
  act-same image settings fun (ops.Range offset len place) f s c = peek-same f.stack _ _ s c (λ w. check-same _ _ place f.stack f s c)
  act-same image settings fun ops.Load1 f s c = pop-same f.stack _ _ s c (λ address stack. load-same fun 1 address stack f s c)
  act-same image settings fun ops.Load4 f s c = pop-same f.stack _ _ s c (λ address stack. load-same fun 4 address stack f s c)
  act-same image settings fun ops.Store1 f s c = pop_2-same f.stack _ _ s c (λ address w stack. store-same 1 address w stack f s c)
  act-same image settings fun ops.Store4 f s c = pop_2-same f.stack _ _ s c (λ address w stack. store-same 4 address w stack f s c)
  act-same image settings fun ops.TouchLoad1 f s c = pop-same f.stack _ _ s c (λ at stack. touch_if-same _ _ stack f s c)
  act-same image settings fun ops.TouchLoad4 f s c = pop-same f.stack _ _ s c (λ at stack. touch_if-same _ _ stack f s c)
  act-same image settings fun ops.TouchStore1 f s c = pop_2-same f.stack _ _ s c (λ at w stack. touch_if-same _ _ stack f s c)
  act-same image settings fun ops.TouchStore4 f s c = pop_2-same f.stack _ _ s c (λ at w stack. touch_if-same _ _ stack f s c)
  act-same image settings fun (ops.Jump target) f s c = jump-same fun target f.stack f s c
  act-same image settings fun (ops.JumpIfZero target) f s c = pop-same f.stack _ _ s c (λ w stack. jump_if_zero-same (w == 0) fun target stack f s c)
  act-same image settings fun (ops.Call k) f s c = call-same k (slice_get image.trusted.funs k) f s c
  act-same image settings fun (ops.TaintedCall k place) f s c = tainted-same k place (slice_get image.layout.imports k) f s c
  act-same image settings fun (ops.CallBack k) f s c = (refl, c.1)
  act-same image settings fun ops.Return f s c = pop-same f.stack _ _ s c (λ w stack. return-same image s.callers (Some w) _ s c)
  act-same image settings fun ops.ReturnNothing f s c = return-same image s.callers None f s c
  act-same image settings fun ops.Tick f s c = tick-same settings.budget s _ _ c.1 (refl, c)
  act-same image settings fun ops.NextInput f s c = input-same fun f s.world.inputs s c
  act-same image settings fun ops.Print f s c = pop-same f.stack _ _ s c (λ w stack. (refl, (c.0, telling-told (Output _ ∷ []) s.world tt c.1)))
  act-same image settings fun ops.PutByte f s c = pop-same f.stack _ _ s c (λ w stack. (refl, (c.0, telling-told (Output _ ∷ []) s.world tt c.1)))
  act-same image settings fun (ops.Alloc size) f s c = pop-same f.stack _ _ s c (λ n stack. allocate-same fun size 0 n stack f s c)
  act-same image settings fun (ops.AllocTerminated size) f s c = pop-same f.stack _ _ s c (λ n stack. allocate-same fun size 1 n stack f s c)
  act-same image settings fun (ops.SandboxAlloc size) f s c = pop-same f.stack _ _ s c (λ n stack. allocate_sandbox-same (is_positive (signed n)) fun _ stack f s c)
  act-same image settings fun ops.TextLength f s c = pop-same f.stack _ _ s c (λ p stack. count-same (length s.memory.bytes) fun settings.budget p 0 stack f s c)

  step-same : (image : Image) (settings : Settings) (f : Frame) (s : State) → Calm s.world → Same (step image settings f (left s)) (step image settings f s)
  step-same image settings f s c = by_function (slice_get image.trusted.funs f.function)
    where
      by_op : (fun : Func) (op : Option Op) → Same (act_next image settings fun op f (left s)) (act_next image settings fun op f s)
      by_op fun None = (refl, c.1)
      by_op fun (Some op) = act-same image settings fun op f s c

      by_function : (fun : Option Func) → Same (step_in image settings fun f (left s)) (step_in image settings fun f s)
      by_function None = (refl, c.1)
      by_function (Some fun) = by_op fun (slice_get fun.ops f.next)

  -- ---- touches

  make_touch-same : (image : Image) (f : Frame) (touch : Touch) (s : State) → Calm s.world → Same (make_touch image f touch (left s)) (make_touch image f touch s)
  make_touch-same image f (Loads at len) s c = push_result-same (slice_get image.trusted.funs f.function) _ _ _ (c.0, telling-told (Released Looked ∷ []) s.world tt c.1)
  make_touch-same image f (Stores at bytes) s c = (refl, (c.0, telling-told (Released (Wrote at bytes) ∷ []) s.world tt c.1))
  make_touch-same image f (Passes import words place) s c = (refl, (refl, telling-told (Released (Passed import words) ∷ Showed (SeenCall import words) ∷ []) s.world tt c.1))
  make_touch-same image f (Replies value) s c = (refl, (refl, telling-told (Released (Replied value) ∷ Showed (SeenReply value) ∷ []) s.world tt c.1))

  before-same : (image : Image) (f : Frame) (touch : Touch) (act : Act) (w : World) (more : List Act) (s : State) → s.control ≡ Touches f touch → Calm w
      → Same (before_touch_by image f touch (act_before_touch act (world_leaving acts w)) (leaving more s)) (before_touch_by image f touch (act_before_touch act w) s)
  before-same image f touch Go w more s e c = make_touch-same image f touch (in_world w s) c
  before-same image f touch (Read at len) w more s e c = by (lies_in at len w.sandbox)
    where
      by : (inside : Bool) → Same (before_touch_by image f touch (waits_or_ends (shown_if inside at len (world_leaving acts w)) (world_leaving acts w)) (leaving more s)) (before_touch_by image f touch (waits_or_ends (shown_if inside at len w) w) s)
      by true = (refl, rw e (c.0, telling-told (Showed (SeenBytes at (bytes_at at len w.sandbox)) ∷ []) w tt c.1))
      by false = (refl, c.1)
  before-same image f touch (Write at bytes) w more s e c = by (lies_in at (length bytes) w.sandbox)
    where
      by : (inside : Bool) → Same (before_touch_by image f touch (waits_or_ends (written_if inside at bytes (world_leaving acts w)) (world_leaving acts w)) (leaving more s)) (before_touch_by image f touch (waits_or_ends (written_if inside at bytes w) w) s)
      by true = (refl, rw e c)
      by false = (refl, c.1)
  before-same image f touch (Call fun args) w more s e c = (refl, c.1)
  before-same image f touch (Return value) w more s e c = (refl, c.1)
  before-same image f touch Stop w more s e c = (refl, c.1)

  -- ---- the sandbox's turn

  run-same : (same : Bool) (k : ℕ) (callback : Callback) (fun : Func) (words : List ℕ) (s : State) → Told s.world → Same (run_if same k callback fun words (left s)) (run_if same k callback fun words s)
  run-same true k callback fun words s told = (refl, (refl, told))
  run-same false k callback fun words s told = (refl, told)

  run_callback-same : (k : ℕ) (callback : Callback) (fun : Option Func) (words : List ℕ) (s : State) → Told s.world → Same (run_callback k callback fun words (left s)) (run_callback k callback fun words s)
  run_callback-same k callback None words s told = (refl, told)
  run_callback-same k callback (Some fun) words s told = run-same (fun.args == length words) k callback fun words s told

  at_place-same : (p : Option Param) (there here : Place → Step) (none none' : Step) → ((place : Place) → Same (there place) (here place)) → Same none none' → Same (at_place_of p there none) (at_place_of p here none')
  at_place-same None there here none none' a b = b
  at_place-same (Some p) there here none none' a b = a p.place

  tested-same : (image : Image) (k : ℕ) (callback : Callback) (fault : Option MarshalFault) (words : List ℕ) (s : State) → Told s.world → Same (tested image k callback fault words (left s)) (tested image k callback fault words s)
  tested-same image k callback None words s told = run_callback-same k callback (slice_get image.trusted.funs callback.fun) words s told
  tested-same image k callback (Some faults.Count) words s told = (refl, told)
  tested-same image k callback (Some (faults.Char param)) words s told = at_place-same (slice_get callback.signature param) _ _ _ _ (λ place. (refl, told)) (refl, told)
  tested-same image k callback (Some (faults.Range param)) words s told = at_place-same (slice_get callback.signature param) _ _ _ _ (λ place. (refl, told)) (refl, told)

  call_back_if-same : (same : Bool) (image : Image) (settings : Settings) (k : ℕ) (callback : Callback) (words : List ℕ) (s : State) → Told s.world → Same (call_back_if same image settings k callback words (left s)) (call_back_if same image settings k callback words s)
  call_back_if-same false image settings k callback words s told = (refl, told)
  call_back_if-same true image settings k callback words s told =
      tick-same settings.budget s _ _ told
      (entered-same (depth (spent s)) (spent s) _ _ told (tested-same image k callback (arguments_fault callback.signature words (length s.world.sandbox)) words (spent s) told))

  call_back-same : (image : Image) (settings : Settings) (k : ℕ) (callback : Option Callback) (words : List ℕ) (s : State) → Told s.world → Same (call_back image settings k callback words (left s)) (call_back image settings k callback words s)
  call_back-same image settings k None words s told = (refl, told)
  call_back-same image settings k (Some callback) words s told = call_back_if-same (length callback.signature == length words) image settings k callback words s told

  reply_if-same : (fits : Bool) (image : Image) (f : Frame) (place : Place) (kind : WordKind) (value : ℕ) (s : State) → Calm s.world → Same (reply_if fits image f place kind value (left s)) (reply_if fits image f place kind value s)
  reply_if-same true image f place kind value s c = push_result-same (slice_get image.trusted.funs f.function) _ f s c
  reply_if-same false image f place kind value s c = (refl, c.1)

  reply_to-same : (image : Image) (f : Frame) (place : Place) (import : Option Import) (value : ℕ) (s : State) → Calm s.world → Same (reply_to image f place import value (left s)) (reply_to image f place import value s)
  reply_to-same image f place None value s c = (refl, c.1)
  reply_to-same image f place (Some import) value s c = reply_if-same (fits_kind import.result value) image f place import.result value s c

  answer-same : (image : Image) (callers : List Caller) (value : ℕ) (s : State) → Calm s.world → Same (answer image callers value (left s)) (answer image callers value s)
  answer-same image [] value s c = (refl, c.1)
  answer-same image (Calls frame ∷ callers) value s c = (refl, c.1)
  answer-same image (Waits frame import place ∷ callers) value s c = reply_to-same image frame place (slice_get image.layout.imports import) value (record s { callers = callers }) c
  answer-same image (CalledBack k ∷ callers) value s c = (refl, c.1)

  in_sandbox-same : (image : Image) (settings : Settings) (act : Act) (w : World) (more : List Act) (s : State) → s.control ≡ Away → w.turn ≡ turns.Sandbox → Told w
      → Same (in_sandbox_by image settings (act_in_sandbox act (world_leaving acts w)) (leaving more s)) (in_sandbox_by image settings (act_in_sandbox act w) s)
  in_sandbox-same image settings Go w more s e turn told = (refl, rw e (turn, told))
  in_sandbox-same image settings (Read at len) w more s e turn told = by (lies_in at len w.sandbox)
    where
      by : (inside : Bool) → Same (in_sandbox_by image settings (keeps_or_ends (shown_if inside at len (world_leaving acts w)) (world_leaving acts w)) (leaving more s)) (in_sandbox_by image settings (keeps_or_ends (shown_if inside at len w) w) s)
      by true = (refl, rw e (turn, telling-told (Showed (SeenBytes at (bytes_at at len w.sandbox)) ∷ []) w tt told))
      by false = (refl, told)
  in_sandbox-same image settings (Write at bytes) w more s e turn told = by (lies_in at (length bytes) w.sandbox)
    where
      by : (inside : Bool) → Same (in_sandbox_by image settings (keeps_or_ends (written_if inside at bytes (world_leaving acts w)) (world_leaving acts w)) (leaving more s)) (in_sandbox_by image settings (keeps_or_ends (written_if inside at bytes w) w) s)
      by true = (refl, rw e (turn, told))
      by false = (refl, told)
  in_sandbox-same image settings (Call fun args) w more s e turn told = call_back-same image settings fun (slice_get image.layout.callbacks fun) args (in_world w s) told
  in_sandbox-same image settings (Return value) w more s e turn told = answer-same image s.callers value _ (refl, told)
  in_sandbox-same image settings Stop w more s e turn told = (refl, told)

-- ---- moves

-- a move over these acts is a step that leaves these, and leads quietly behind these events
pub record MovesBy (image : Image) (settings : Settings) (s : State) (acts left : List Act) (base : List Event) (st : Step) : Type 0 where
  pub same : move image settings (leaving acts s) ≡ step_leaving left st
  pub quiet : LedQuietly base st

nothing : (events : List Event) → Quietly events (record { sandbox = []; room = 0; turn = turns.Trusted; acts = []; taken = 0; inputs = []; ticks = 0; events = events })
nothing events = ([], sym (append-nil events), tt)

-- an instruction makes the same step
pub instruction_moves : (image : Image) (settings : Settings) (f : Frame) (acts : List Act) (s : State) → s.control ≡ Runs f → InTurn s → MovesBy image settings s acts acts s.world.events (step image settings f s)
instruction_moves image settings f acts s e turn =
    let both = step-same acts s.world.events image settings f s (rw e at turn, nothing s.world.events) in
    record { same = ap (λ control. move_by image settings control (leaving acts s)) e ∙ both.0; quiet = both.1 }

-- an act leads to the same, whichever acts follow it
pub touch_moves : (image : Image) (settings : Settings) (f : Frame) (touch : Touch) (a : Act) (acts : List Act) (s : State) → s.control ≡ Touches f touch → InTurn s
    → MovesBy image settings s (a ∷ acts) acts (s.world.events ++ Took s.world.turn a ∷ []) (take_before_touch image f touch a [] s)
touch_moves image settings f touch a acts s e turn =
    let both = before-same acts (s.world.events ++ Took s.world.turn a ∷ []) image f touch a (taken_one a [] s.world) (a ∷ acts) s e (rw e at turn, nothing (s.world.events ++ Took s.world.turn a ∷ [])) in
    record { same = ap (λ control. move_by image settings control (leaving (a ∷ acts) s)) e ∙ both.0; quiet = both.1 }

pub away_moves : (image : Image) (settings : Settings) (a : Act) (acts : List Act) (s : State) → s.control ≡ Away → InTurn s
    → MovesBy image settings s (a ∷ acts) acts (s.world.events ++ Took s.world.turn a ∷ []) (take_in_sandbox image settings a [] s)
away_moves image settings a acts s e turn =
    let both = in_sandbox-same acts (s.world.events ++ Took s.world.turn a ∷ []) image settings a (taken_one a [] s.world) (a ∷ acts) s e (rw e at turn) (nothing (s.world.events ++ Took s.world.turn a ∷ [])) in
    record { same = ap (λ control. move_by image settings control (leaving (a ∷ acts) s)) e ∙ both.0; quiet = both.1 }

-- where no act is left, the move tells that one was due, and leads quietly from there
pub touch_lacks : (image : Image) (settings : Settings) (f : Frame) (touch : Touch) (s : State) → s.control ≡ Touches f touch → InTurn s → LedQuietly (s.world.events ++ NoAct turns.Trusted ∷ []) (move image settings (leaving [] s))
touch_lacks image settings f touch s e turn =
    let due = s.world.events ++ NoAct turns.Trusted ∷ [] in
    let left = leaving [] s in
    let both = make_touch-same [] due image f touch (in_world (telling (NoAct turns.Trusted ∷ []) left.world) left) (rw e at turn, nothing due) in
    subst (λ control. LedQuietly due (move_by image settings control left)) (sym e) both.1

pub away_lacks : (image : Image) (settings : Settings) (s : State) → s.control ≡ Away → LedQuietly (s.world.events ++ NoAct turns.Sandbox ∷ []) (move image settings (leaving [] s))
away_lacks image settings s e =
    let due = s.world.events ++ NoAct turns.Sandbox ∷ [] in
    subst (λ control. LedQuietly due (move_by image settings control (leaving [] s))) (sym e) (nothing due)
