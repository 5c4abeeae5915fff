-- Fewer moves are left behind each move of a paced image.
use Rattle.std.proofs.Common.{◌≡◌, ℕ, zero, suc, ◌+◌, ◌-◌, ◌*◌, ◌%◌, ◌<◌, ◌≤◌, ◌⊎◌, ℤ, Bool, true, false, List, [], ◌∷◌, length, Option, Some, None, refl, sym, ap, subst, ⊎_elim, inl, inr, arith}
use Rattle.std.specs.Prelude.{slice_get, nat_lt, nat_le, ◌==◌, IsTrue}
use Rattle.std.proofs.Math.Nat.{mul-le-mul_right}
use Rattle.std.proofs.lemmas.Bool.Decides.{nat_tests}
use Rattle.ckc_text.specs.declared.place.Place.{Place}
use Rattle.ckc_text.specs.declared.code.Code.{Code}
use Rattle.ckc_text.specs.declared.code.Code.TheVariants.{C4, C9}
use Rattle.act_words.specs.declared.act.Turn.TheVariants as turns
use Rattle.act_words.specs.declared.ending.Ending.TheVariants as endings
use Rattle.act_words.specs.declared.settings.Settings.{Settings}
use Rattle.act_words.specs.Acts.{Act, Go, Read, Write, Call, Return, Stop}
use Rattle.act_words.specs.World.{World, NoAct, telling, taken_one, in_turn, spent_one}
use Rattle.act_words.specs.Acting.{lies_in, shown_if, written_if, waits_or_ends, keeps_or_ends}
use Rattle.act_words.specs.Checks.{Checked, Holds, Fails}
use Rattle.act_words.specs.Numbers.{signed, word, number_line}
use Rattle.act_words.specs.Operators.{arithmetic_result}
use Rattle.act_words.specs.Touches.{spend_tick, spent_if, enter_call, entered_if, input_from, write}
use Rattle.code_words.specs.declared.op.Op.{Op}
use Rattle.code_words.specs.declared.op.Op.TheVariants as ops
use Rattle.marshalling.specs.declared.kind.WordKind.{WordKind}
use Rattle.code_words.specs.Functions.{Func, Import}
use Rattle.code_words.specs.declared.image.Callback.{Callback}
use Rattle.marshalling.specs.declared.signature.Param.{Param}
use Rattle.code_words.specs.Images.{Image}
use Rattle.marshalling.specs.declared.fault.MarshalFault.{MarshalFault}
use Rattle.marshalling.specs.declared.fault.MarshalFault.TheVariants as faults
use Rattle.marshalling.specs.Crossing.{arguments_fault, fits_kind}
use Rattle.code_words.specs.Table.{Frame, Caller, Calls, Waits, CalledBack, Touch, Loads, Stores, Passes, Replies, Control, Runs, Touches, Away, State, Step, Goes, Over, wild, holds, depth, is_positive, asked, push, push_if, push_some, push_checked, pop, on_with, pop_2, pop_3, pop_5, pop_6, pop_if, peek, set_if, load_if, load, store_if, store, check, touch_if, behind, enter, call_function, call_tainted, push_result, reply_of, reply_with, return_to, allocate_if, allocate, allocate_sandbox_if, byte_at, by_byte, count_from, jump_if, jump, jump_if_zero, of_two, of_one, checked_of_two, act, act_next, step_in, step, frame_for}
use Rattle.code_words.specs.Moves.{in_world, without_first, make_touch, before_touch_by, run_if, run_callback, at_place_of, tested, call_back_if, call_back, reply_if, reply_to, answer, in_sandbox_by, take_before_touch, take_in_sandbox, before_touch, in_sandbox, move, move_by}
use Rattle.code_words.specs.Paced.{is_tick, is_call, target_of, is_paced}
use Rattle.code_words.specs.Left.{longest, rest_of, rest_of_control, rest_of_callers, moves_left, LeavesTurn}
use Rattle.code_words.proofs.Paces.{paced_function, not_longer, some_left, few_left, first_left, calm_falls, call_falls, jump_falls}

-- ---- instructions that go on to the next one, or to a touch

-- instructions that jump, call, return or tick
data IsOther : Op → Type 0 where
  IsJump : (target : ℕ) → IsOther (ops.Jump target)
  IsJumpIfZero : (target : ℕ) → IsOther (ops.JumpIfZero target)
  IsCall : (k : ℕ) → IsOther (ops.Call k)
  IsReturn : IsOther ops.Return
  IsReturnNothing : IsOther ops.ReturnNothing
  IsTick : IsOther ops.Tick

module _ (fun : Func) (f : Frame) (first : State) where
  abbrev IsOnward : Control → Type 0
  IsOnward (Runs g) = (g.function ≡ f.function) × (g.next ≡ f.next + 1)
  IsOnward (Touches g touch) = (g.function ≡ f.function) × (g.next ≡ f.next)
  IsOnward Away = ⊥

  -- the same calls are open behind the innermost one, and no ticks came back
  record Same (s : State) : Type 0 where
    behind : s.callers ≡ first.callers
    spent : first.world.ticks ≤ s.world.ticks

  abbrev Onward : Step → Type 0
  Onward (Goes t) = IsOnward t.control × Same t
  Onward (Over ending t) = Unit {0}

  here : Same first
  here = record { behind = refl; spent = omega arith }

  next-on : (stack : List ℕ) (s : State) → Same s → Onward (on_with f stack s)
  next-on stack s same = ((refl, refl), record { behind = same.behind; spent = same.spent })

  push-on : (w : ℕ) (stack : List ℕ) (s : State) → Same s → Onward (push fun w stack f s)
  push-on w stack s same = by (nat_lt (length stack) fun.stack)
    where
      by : (room : Bool) → Onward (push_if room w stack f s)
      by true = next-on (w ∷ stack) s same
      by false = tt

  push_some-on : (w : Option ℕ) (stack : List ℕ) (s : State) → Same s → Onward (push_some fun w stack f s)
  push_some-on None stack s same = tt
  push_some-on (Some w) stack s same = push-on w stack s same

  push_checked-on : (number : Checked ℤ) (stack : List ℕ) (s : State) → Same s → Onward (push_checked fun number stack f s)
  push_checked-on (Holds number) stack s same = push-on _ stack s same
  push_checked-on (Fails ending) stack s same = tt

  pop-on : (stack : List ℕ) (next : ℕ → List ℕ → Step) (s : State) → ((w : ℕ) (below : List ℕ) → Onward (next w below)) → Onward (pop stack next s)
  pop-on [] next s on = tt
  pop-on (w ∷ below) next s on = on w below

  pop_2-on : (stack : List ℕ) (next : ℕ → ℕ → List ℕ → Step) (s : State) → ((a b : ℕ) (rest : List ℕ) → Onward (next a b rest)) → Onward (pop_2 stack next s)
  pop_2-on stack next s on = pop-on stack _ s (λ b below. pop-on below _ s (λ a rest. on a b rest))

  pop_3-on : (stack : List ℕ) (next : ℕ → ℕ → ℕ → List ℕ → Step) (s : State) → ((a b c : ℕ) (rest : List ℕ) → Onward (next a b c rest)) → Onward (pop_3 stack next s)
  pop_3-on stack next s on = pop-on stack _ s (λ c below. pop_2-on below _ s (λ a b rest. on a b c rest))

  pop_5-on : (stack : List ℕ) (next : ℕ → ℕ → ℕ → ℕ → ℕ → List ℕ → Step) (s : State) → ((a b c d e : ℕ) (rest : List ℕ) → Onward (next a b c d e rest)) → Onward (pop_5 stack next s)
  pop_5-on stack next s on = pop_3-on stack _ s (λ c d e below. pop_2-on below _ s (λ a b rest. on a b c d e rest))

  pop_6-on : (stack : List ℕ) (next : ℕ → ℕ → ℕ → ℕ → ℕ → ℕ → List ℕ → Step) (s : State) → ((a b c d e g : ℕ) (rest : List ℕ) → Onward (next a b c d e g rest)) → Onward (pop_6 stack next s)
  pop_6-on stack next s on = pop_3-on stack _ s (λ d e g below. pop_3-on below _ s (λ a b c rest. on a b c d e g rest))

  peek-on : (stack : List ℕ) (next : ℕ → Step) (s : State) → ((w : ℕ) → Onward (next w)) → Onward (peek stack next s)
  peek-on [] next s on = tt
  peek-on (w ∷ stack) next s on = on w

  set-on : (there : Bool) (k w : ℕ) (stack : List ℕ) (s : State) → Same s → Onward (set_if there k w stack f s)
  set-on true k w stack s same = ((refl, refl), record { behind = same.behind; spent = same.spent })
  set-on false k w stack s same = tt

  load-on : (len address : ℕ) (stack : List ℕ) (s : State) → Same s → Onward (load fun len address stack f s)
  load-on len address stack s same = by (holds s.memory address len)
    where
      by : (there : Bool) → Onward (load_if there fun len address stack f s)
      by true = push-on _ stack s same
      by false = tt

  store-on : (len address w : ℕ) (stack : List ℕ) (s : State) → Same s → Onward (store len address w stack f s)
  store-on len address w stack s same = by (holds s.memory address len)
    where
      by : (there : Bool) → Onward (store_if there len address w stack f s)
      by true = ((refl, refl), record { behind = same.behind; spent = same.spent })
      by false = tt

  check-on : (holds : Bool) (code : Code) (place : Place) (stack : List ℕ) (s : State) → Same s → Onward (check holds code place stack f s)
  check-on true code place stack s same = next-on stack s same
  check-on false code place stack s same = tt

  touch-on : (may : Bool) (touch : Touch) (stack : List ℕ) (s : State) → Same s → Onward (touch_if may touch stack f s)
  touch-on true touch stack s same = ((refl, refl), record { behind = same.behind; spent = same.spent })
  touch-on false touch stack s same = tt

  tainted-on : (k : ℕ) (place : Place) (import : Option Import) (s : State) → Same s → Onward (call_tainted k place import f s)
  tainted-on k place None s same = tt
  tainted-on k place (Some import) s same = by (nat_le import.args (length f.stack))
    where
      entered : (words stack : List ℕ) (shallow : Bool) → Onward (asked (entered_if shallow s.world) s (λ _ t. touch_if true (Passes k words place) stack f t))
      entered words stack true = ((refl, refl), record { behind = same.behind; spent = same.spent })
      entered words stack false = tt

      by : (there : Bool) → Onward (pop_if there import.args f.stack (λ words stack. asked (enter_call (depth s) s.world) s (λ _ t. touch_if true (Passes k words place) stack f t)) s)
      by true = entered _ _ (nat_lt (depth s) 1000)
      by false = tt

  allocate-on : (size more n : ℕ) (stack : List ℕ) (s : State) → Same s → Onward (allocate fun size more n stack f s)
  allocate-on size more n stack s same = by (is_positive (signed n))
    where
      by : (some : Bool) → Onward (allocate_if some fun ((n + more) * size) stack f s)
      by true = push-on _ stack _ (record { behind = same.behind; spent = same.spent })
      by false = push-on 0 stack s same

  allocate_sandbox-on : (some : Bool) (bytes : ℕ) (stack : List ℕ) (s : State) → Same s → Onward (allocate_sandbox_if some fun bytes stack f s)
  allocate_sandbox-on true bytes stack s same = push-on _ stack _ (record { behind = same.behind; spent = same.spent })
  allocate_sandbox-on false bytes stack s same = push-on 0 stack s same

  input-on : (inputs : List ℤ) (number : ℤ → ℕ) (s : State) → Same s → Onward (asked (input_from inputs s.world) s (λ n t. push fun (number n) f.stack f t))
  input-on [] number s same = push-on _ f.stack _ (record { behind = same.behind; spent = same.spent })
  input-on (n ∷ inputs) number s same = push-on _ f.stack _ (record { behind = same.behind; spent = same.spent })

  by_byte-on : (byte : Option ℕ) (outside end more : Step) → Onward outside → Onward end → Onward more → Onward (by_byte byte outside end more)
  by_byte-on None outside end more a b c = a
  by_byte-on (Some zero) outside end more a b c = b
  by_byte-on (Some (suc byte)) outside end more a b c = c

  -- a tick is spent
  spent : (budget : ℕ) (next : State → Step) (s : State) → Same s → ((t : State) → Same t → Onward (next t)) → Onward (asked (spend_tick budget s.world) s (λ _ t. next t))
  spent budget next s same on = by (nat_lt s.world.ticks budget)
    where
      by : (left : Bool) → Onward (asked (spent_if left s.world) s (λ _ t. next t))
      by true = on (in_world (spent_one s.world) s) (record { behind = same.behind; spent = omega (arith, same.spent) })
      by false = tt

  count-on : (left : ℕ) (budget address count : ℕ) (stack : List ℕ) (s : State) → Same s → Onward (count_from left fun budget address count stack f s)
  count-on zero budget address count stack s same = spent budget _ s same (λ t h. tt)
  count-on (suc left) budget address count stack s same =
      spent budget _ s same (λ t h. by_byte-on (byte_at t address) _ _ _ tt (push-on count stack t h) (count-on left budget (address + 1) (count + 1) stack t h))

  two-on : (operation : ℕ → ℕ → ℕ) (s : State) → Same s → Onward (of_two fun operation f s)
  two-on operation s same = pop_2-on f.stack _ s (λ a b stack. push-on (operation a b) stack s same)

  one-on : (operation : ℕ → ℕ) (s : State) → Same s → Onward (of_one fun operation f s)
  one-on operation s same = pop-on f.stack _ s (λ b stack. push-on (operation b) stack s same)

  checked-on : (operation : ℤ → ℤ → Checked ℤ) (s : State) → Same s → Onward (checked_of_two fun operation f s)
  checked-on operation s same = pop_2-on f.stack _ s (λ a b stack. push_checked-on _ stack s same)

  -- an instruction is calm, and goes on so; or it is one of these
  module _ (image : Image) (settings : Settings) where
    act-goes : (op : Op) → ((is_tick op ≡ false) × Onward (act image settings fun op f first)) ⊎ IsOther op
    act-goes (ops.Const n) = inl (refl, push-on _ f.stack first here)
    act-goes (ops.Local k) = inl (refl, push_some-on _ f.stack first here)
    act-goes (ops.Set k) = inl (refl, pop-on f.stack _ first (λ w stack. set-on (nat_lt k (length f.slots)) k w stack first here))
    act-goes ops.Discard = inl (refl, pop-on f.stack _ first (λ w stack. next-on stack first here))
    act-goes ops.Duplicate = inl (refl, peek-on f.stack _ first (λ w. push-on w f.stack first here))
    act-goes (ops.BlockAddress k) = inl (refl, push_some-on _ f.stack first here)
    act-goes (ops.BlockOffset k) = inl (refl, push_some-on _ f.stack first here)
    act-goes (ops.Arithmetic operator place) = inl (refl, checked-on (arithmetic_result operator place) first here)
    act-goes (ops.Neg place) = inl (refl, pop-on f.stack _ first (λ b stack. push_checked-on _ stack first here))
    act-goes ops.WrapAdd = inl (refl, two-on _ first here)
    act-goes ops.WrapSub = inl (refl, two-on _ first here)
    act-goes ops.WrapMul = inl (refl, two-on _ first here)
    act-goes ops.WrapNeg = inl (refl, one-on _ first here)
    act-goes ops.WrapShl = inl (refl, two-on _ first here)
    act-goes ops.WrapShr = inl (refl, two-on _ first here)
    act-goes ops.WrapDiv = inl (refl, tt)
    act-goes ops.WrapRem = inl (refl, tt)
    act-goes (ops.Bitwise operator) = inl (refl, two-on _ first here)
    act-goes ops.Not = inl (refl, one-on _ first here)
    act-goes (ops.Compare comparison) = inl (refl, two-on _ first here)
    act-goes ops.UnsignedLess = inl (refl, two-on _ first here)
    act-goes ops.UnsignedLessEqual = inl (refl, two-on _ first here)
    act-goes ops.UnsignedGreater = inl (refl, two-on _ first here)
    act-goes ops.UnsignedGreaterEqual = inl (refl, two-on _ first here)
    act-goes ops.Zero = inl (refl, one-on _ first here)
    act-goes ops.Byte = inl (refl, one-on _ first here)
    act-goes (ops.Index size) = inl (refl, two-on _ first here)
    act-goes (ops.NonNull place) = inl (refl, peek-on f.stack _ first (λ w. check-on _ _ place f.stack first here))
    act-goes (ops.In low high size place) = inl (refl, pop_5-on f.stack _ first (λ _ _ _ _ _ stack. check-on _ _ place stack first here))
    act-goes (ops.UpTo low high size place) = inl (refl, pop_5-on f.stack _ first (λ _ _ _ _ _ stack. check-on _ _ place stack first here))
    act-goes (ops.Term high size place) = inl (refl, pop_5-on f.stack _ first (λ _ _ _ _ _ stack. check-on _ _ place stack first here))
    act-goes (ops.Contain low1 high1 low2 high2 size place) = inl (refl, pop_6-on f.stack _ first (λ _ _ _ _ _ _ stack. peek-on stack _ first (λ p. check-on _ _ place stack first here)))
    act-goes (ops.Lies low high size more place) = inl (refl, pop_3-on f.stack _ first (λ _ _ _ stack. peek-on stack _ first (λ p. check-on _ _ place stack first here)))
    act-goes (ops.Range offset len place) = inl (refl, peek-on f.stack _ first (λ w. check-on _ _ place f.stack first here))
    act-goes ops.Load1 = inl (refl, pop-on f.stack _ first (λ address stack. load-on 1 address stack first here))
    act-goes ops.Load4 = inl (refl, pop-on f.stack _ first (λ address stack. load-on 4 address stack first here))
    act-goes ops.Store1 = inl (refl, pop_2-on f.stack _ first (λ address w stack. store-on 1 address w stack first here))
    act-goes ops.Store4 = inl (refl, pop_2-on f.stack _ first (λ address w stack. store-on 4 address w stack first here))
    act-goes ops.TouchLoad1 = inl (refl, pop-on f.stack _ first (λ at stack. touch-on _ _ stack first here))
    act-goes ops.TouchLoad4 = inl (refl, pop-on f.stack _ first (λ at stack. touch-on _ _ stack first here))
    act-goes ops.TouchStore1 = inl (refl, pop_2-on f.stack _ first (λ at w stack. touch-on _ _ stack first here))
    act-goes ops.TouchStore4 = inl (refl, pop_2-on f.stack _ first (λ at w stack. touch-on _ _ stack first here))
    act-goes (ops.Jump target) = inr (IsJump target)
    act-goes (ops.JumpIfZero target) = inr (IsJumpIfZero target)
    act-goes (ops.Call k) = inr (IsCall k)
    act-goes (ops.TaintedCall k place) = inl (refl, tainted-on k place (slice_get image.layout.imports k) first here)
    act-goes (ops.CallBack k) = inl (refl, tt)
    act-goes ops.Return = inr IsReturn
    act-goes ops.ReturnNothing = inr IsReturnNothing
    act-goes ops.Tick = inr IsTick
    act-goes ops.NextInput = inl (refl, input-on first.world.inputs word first here)
    act-goes ops.Print = inl (refl, pop-on f.stack _ first (λ w stack. next-on stack (record first { world = write (number_line (signed w)) first.world }) (record { behind = refl; spent = omega arith })))
    act-goes ops.PutByte = inl (refl, pop-on f.stack _ first (λ w stack. next-on stack (record first { world = write (w % 256 ∷ []) first.world }) (record { behind = refl; spent = omega arith })))
    act-goes (ops.Alloc size) = inl (refl, pop-on f.stack _ first (λ n stack. allocate-on size 0 n stack first here))
    act-goes (ops.AllocTerminated size) = inl (refl, pop-on f.stack _ first (λ n stack. allocate-on size 1 n stack first here))
    act-goes (ops.SandboxAlloc size) = inl (refl, pop-on f.stack _ first (λ n stack. allocate_sandbox-on (is_positive (signed n)) (n * size) stack first here))
    act-goes ops.TextLength = inl (refl, pop-on f.stack _ first (λ p stack. count-on (length first.memory.bytes) settings.budget p 0 stack first here))

-- ---- moves of a paced image

module _ (image : Image) (settings : Settings) (paced : IsTrue (is_paced image)) where
  abbrev most : ℕ
  most = longest image.trusted.funs

  abbrev pub left : State → ℕ
  left s = moves_left image settings s

  -- what is left beside the ticks
  abbrev rest : State → ℕ
  rest s = rest_of_control image s.control + rest_of_callers image s.callers

  abbrev pub Falls : State → Step → Type 0
  Falls s (Goes t) = left t < left s
  Falls s (Over ending t) = Unit {0}

  less : (s t : State) → s.world.ticks ≤ t.world.ticks → rest t < rest s → left t < left s
  unfolding moves_left
  less s t ticks fewer =
      let paid : settings.budget - t.world.ticks ≤ settings.budget - s.world.ticks = omega arith in
      omega (arith, mul-le-mul_right (6 * most + 8) paid)

  -- a tick pays
  tick_pays : (s t : State) → s.world.ticks < settings.budget → t.world.ticks ≡ s.world.ticks + 1 → rest t < rest s + (6 * most + 8) → left t < left s
  unfolding moves_left
  tick_pays s t room one fewer =
      let paid : settings.budget - t.world.ticks + 1 ≤ settings.budget - s.world.ticks = omega arith in
      omega (arith, mul-le-mul_right (6 * most + 8) paid)

  as_many : (s t : State) → t.world.ticks ≡ s.world.ticks → t.control ≡ s.control → t.callers ≡ s.callers → left t ≡ left s
  unfolding moves_left
  as_many s t ticks control callers = rw (ticks, control, callers) refl

  -- ---- open calls

  same_rest : (g h : Frame) → g.function ≡ h.function → g.next ≡ h.next → rest_of image g ≡ rest_of image h
  same_rest g h e n = rw (e, n) refl

  least : (f : Frame) → 3 ≤ rest_of image f
  least f = by (slice_get image.trusted.funs f.function) refl
    where
      by : (fun : Option Func) → slice_get image.trusted.funs f.function ≡ fun → 3 ≤ rest_of image f
      by None e = rw e (some_left most [] refl f.next)
      by (Some fun) e = rw e (some_left most fun.ops (paced_function image f.function fun paced e) f.next)

  most_left : (f : Frame) → rest_of image f ≤ 6 * most + 7
  most_left f = by (slice_get image.trusted.funs f.function) refl
    where
      by : (fun : Option Func) → slice_get image.trusted.funs f.function ≡ fun → rest_of image f ≤ 6 * most + 7
      by None e = rw e (few_left most [] refl f.next (omega arith))
      by (Some fun) e = rw e (few_left most fun.ops (paced_function image f.function fun paced e) f.next (not_longer image.trusted.funs f.function fun e))

  called_left : (k : ℕ) (fun : Func) (words : List ℕ) → slice_get image.trusted.funs k ≡ Some fun → rest_of image (frame_for k fun words) ≤ 3 * most + 3
  called_left k fun words e = rw e (first_left most fun.ops (paced_function image k fun paced e) (not_longer image.trusted.funs k fun e))

  -- ---- instructions

  -- an instruction is next
  record Stands (fun : Func) (op : Op) (f : Frame) (s : State) : Type 0 where
    here : slice_get image.trusted.funs f.function ≡ Some fun
    stands : slice_get fun.ops f.next ≡ Some op
    runs : s.control ≡ Runs f

  module _ (fun : Func) (op : Op) (f : Frame) (s : State) (stands : Stands fun op f s) (calm : is_tick op ≡ false) where
    behind_less : (stack : List ℕ) → rest_of image (behind f stack) + 3 ≤ rest_of image f
    behind_less stack = rw stands.here (calm_falls most fun.ops (paced_function image f.function fun paced stands.here) f.next op stands.stands calm)

    onward_less : (control : Control) → IsOnward fun f s control → rest_of_control image control < rest_of_control image s.control
    onward_less (Runs g) on =
        let same = same_rest g (behind f []) on.0 on.1 in
        rw stands.runs (omega (arith, same, behind_less []))
    onward_less (Touches g touch) on =
        let next : g.next + 1 ≡ f.next + 1 = ap (λ n. n + 1) on.1 in
        let same = same_rest (behind g g.stack) (behind f []) on.0 next in
        rw stands.runs (omega (arith, same, behind_less []))
    onward_less Away on = absurd on

    on : (next : Step) → Onward fun f s next → Falls s next
    on (Goes t) o =
        let callers : rest_of_callers image t.callers ≡ rest_of_callers image s.callers = ap (rest_of_callers image) o.1.behind in
        less s t o.1.spent (omega (arith, callers, onward_less t.control o.0))
    on (Over ending t) o = tt

    -- ---- jumps

    jumps : (target : ℕ) (stack : List ℕ) → target_of op ≡ Some target → Falls s (jump fun target stack f s)
    jumps target stack e = by (nat_lt target (length fun.ops)) refl
      where
        by : (there : Bool) → nat_lt target (length fun.ops) ≡ there → Falls s (jump_if there target stack f s)
        by true h =
            let within : target < length fun.ops = grind (arith, nat_tests) in
            let t = record s { control = Runs (record f { next = target; stack = stack }) } in
            let fewer : rest_of image (record f { next = target; stack = stack }) < rest_of image f = rw stands.here (jump_falls most fun.ops (paced_function image f.function fun paced stands.here) f.next target op stands.stands calm e within) in
            less s t (omega arith) (rw stands.runs (omega (arith, fewer)))
        by false h = tt

    -- ---- calls and returns

    calls : (k : ℕ) → is_call op ≡ true → (called : Option Func) → slice_get image.trusted.funs k ≡ called → Falls s (call_function k called f s)
    calls k e None there = tt
    calls k e (Some other) there = by (nat_le other.args (length f.stack))
      where
        entered : (words stack : List ℕ) (shallow : Bool) → Falls s (asked (entered_if shallow s.world) s (λ _ t. enter k other words (Calls (behind f stack)) t))
        entered words stack true =
            let u = record s { control = Runs (frame_for k other words); callers = Calls (behind f stack) ∷ s.callers } in
            let room : rest_of image (behind f stack) + 3 * most + 7 ≤ rest_of image f = rw stands.here (call_falls most fun.ops (paced_function image f.function fun paced stands.here) f.next op stands.stands calm e) in
            less s u (omega arith) (rw stands.runs (omega (arith, room, called_left k other words there)))
        entered words stack false = tt

        by : (there : Bool) → Falls s (pop_if there other.args f.stack (λ words stack. asked (enter_call (depth s) s.world) s (λ _ t. enter k other words (Calls (behind f stack)) t)) s)
        by true = entered _ _ (nat_lt (depth s) 1000)
        by false = tt

  -- what a call returns is pushed, where fewer moves are left in the frame that it returns to
  pushes : (fun : Option Func) (result : Option ℕ) (f : Frame) (s u : State) → left (record u { control = Runs f }) < left s → Falls s (push_result fun result f u)
  unfolding moves_left
  pushes None result f s u fewer = tt
  pushes (Some fun) None f s u fewer = fewer
  pushes (Some fun) (Some w) f s u fewer = by (nat_lt (length f.stack) fun.stack) refl
    where
      by : (room : Bool) → nat_lt (length f.stack) fun.stack ≡ room → Falls s (push_result (Some fun) (Some w) f u)
      by true e = rw e fewer
      by false e = rw e tt

  module _ (fun : Func) (op : Op) (f : Frame) (s : State) (stands : Stands fun op f s) (calm : is_tick op ≡ false) where
    replies : (value : Option ℕ) (stack : List ℕ) → Falls s (reply_with value (record f { stack = stack }) s)
    replies None stack = tt
    replies (Some value) stack = on fun op f s stands calm (touch_if true (Replies value) stack f s) (touch-on fun f s true (Replies value) stack s (here fun f s))

    returns : (callers : List Caller) (result : Option ℕ) (stack : List ℕ) → s.callers ≡ callers → Falls s (return_to image callers result (record f { stack = stack }) s)
    returns [] None stack e = tt
    returns [] (Some w) stack e = tt
    returns (Calls caller ∷ callers) result stack e =
        pushes (slice_get image.trusted.funs caller.function) result caller s (record s { callers = callers })
        (less s (record s { control = Runs caller; callers = callers }) (omega arith) (rw (stands.runs, e) (omega (arith, least f))))
    returns (Waits caller import place ∷ callers) result stack e = tt
    returns (CalledBack k ∷ callers) result stack e = replies (reply_of (slice_get image.layout.callbacks k) result) stack

  popped : (stack : List ℕ) (next : ℕ → List ℕ → Step) (s : State) → ((w : ℕ) (below : List ℕ) → Falls s (next w below)) → Falls s (pop stack next s)
  popped [] next s falls = tt
  popped (w ∷ below) next s falls = falls w below

  jumps_if_zero : (zero : Bool) (fun : Func) (target : ℕ) (stack : List ℕ) (f : Frame) (s : State) → Stands fun (ops.JumpIfZero target) f s → Falls s (jump_if_zero zero fun target stack f s)
  jumps_if_zero true fun target stack f s h = jumps fun (ops.JumpIfZero target) f s h refl target stack refl
  jumps_if_zero false fun target stack f s h = on fun (ops.JumpIfZero target) f s h refl (on_with f stack s) (next-on fun f s stack s (here fun f s))

  ticks : (fun : Func) (f : Frame) (s : State) → Stands fun ops.Tick f s → Falls s (asked (spend_tick settings.budget s.world) s (λ _ t. on_with f f.stack t))
  ticks fun f s h = by (nat_lt s.world.ticks settings.budget) refl
    where
      by : (there : Bool) → nat_lt s.world.ticks settings.budget ≡ there → Falls s (asked (spent_if there s.world) s (λ _ t. on_with f f.stack t))
      by true e =
          let room : s.world.ticks < settings.budget = grind (arith, nat_tests) in
          let t = record s { control = Runs (behind f f.stack); world = spent_one s.world } in
          tick_pays s t room refl (rw h.runs (omega (arith, most_left (behind f f.stack))))
      by false e = tt

  act-falls : (fun : Func) (op : Op) (f : Frame) (s : State) → Stands fun op f s → Falls s (act image settings fun op f s)
  act-falls fun op f s h = ⊎_elim (λ calm. on fun op f s h calm.0 _ calm.1) (λ other. by op other h) (act-goes fun f s image settings op)
    where
      by : (op : Op) → IsOther op → Stands fun op f s → Falls s (act image settings fun op f s)
      by op (IsJump target) h = jumps fun (ops.Jump target) f s h refl target f.stack refl
      by op (IsJumpIfZero target) h = popped f.stack _ s (λ w stack. jumps_if_zero (w == 0) fun target stack f s h)
      by op (IsCall k) h = calls fun (ops.Call k) f s h refl k refl (slice_get image.trusted.funs k) refl
      by op IsReturn h = popped f.stack _ s (λ w stack. returns fun ops.Return f s h refl s.callers (Some w) stack refl)
      by op IsReturnNothing h = returns fun ops.ReturnNothing f s h refl s.callers None f.stack refl
      by op IsTick h = ticks fun f s h

  step-falls : (f : Frame) (s : State) → s.control ≡ Runs f → Falls s (step image settings f s)
  step-falls f s runs = by_function (slice_get image.trusted.funs f.function) refl
    where
      by_op : (fun : Func) (op : Option Op) → slice_get image.trusted.funs f.function ≡ Some fun → slice_get fun.ops f.next ≡ op → Falls s (act_next image settings fun op f s)
      by_op fun None e h = tt
      by_op fun (Some op) e h = act-falls fun op f s (record { here = e; stands = h; runs = runs })

      by_function : (fun : Option Func) → slice_get image.trusted.funs f.function ≡ fun → Falls s (step_in image settings fun f s)
      by_function None e = tt
      by_function (Some fun) e = by_op fun (slice_get fun.ops f.next) e refl

  -- ---- touches

  fewer_callers : (callers : List Caller) → rest_of_callers image (without_first callers) ≤ rest_of_callers image callers
  fewer_callers [] = omega arith
  fewer_callers (Calls f ∷ callers) = omega arith
  fewer_callers (Waits f import place ∷ callers) = omega arith
  fewer_callers (CalledBack k ∷ callers) = omega arith

  -- a touch is made, in a state that has another world
  touch-falls : (f : Frame) (touch : Touch) (s : State) (w : World) → s.control ≡ Touches f touch → w.ticks ≡ s.world.ticks → Falls s (make_touch image f touch (in_world w s))
  touch-falls f (Loads at len) s w waits same =
      pushes (slice_get image.trusted.funs f.function) _ (behind f f.stack) s _ (less s _ (omega (arith, same)) (rw waits (omega arith)))
  touch-falls f (Stores at bytes) s w waits same = less s _ (omega (arith, same)) (rw waits (omega arith))
  touch-falls f (Passes import words place) s w waits same = less s _ (omega (arith, same)) (rw waits (omega arith))
  touch-falls f (Replies value) s w waits same = less s _ (omega (arith, same)) (rw waits (omega (arith, fewer_callers s.callers)))

  -- fewer moves are left, or as many, where this is so and the trusted side does the same as before
  abbrev pub Sooner : Type 0 → State → Step → Type 0
  Sooner Leaves s (Goes t) = (left t < left s) ⊎ ((left t ≡ left s) × (t.control ≡ s.control) × Leaves)
  Sooner Leaves s (Over ending t) = Unit {0}

  sooner : (Leaves : Type 0) (s : State) (next : Step) → Falls s next → Sooner Leaves s next
  sooner Leaves s (Goes t) falls = inl falls
  sooner Leaves s (Over ending t) falls = tt

  before-sooner : (f : Frame) (touch : Touch) (act : Act) (acts : List Act) (s : State) → s.control ≡ Touches f touch → Sooner (LeavesTurn act turns.Trusted) s (take_before_touch image f touch act acts s)
  before-sooner f touch Go acts s waits = sooner _ s _ (touch-falls f touch s (taken_one Go acts s.world) waits refl)
  before-sooner f touch (Read at len) acts s waits = by (lies_in at len s.world.sandbox)
    where
      by : (inside : Bool) → Sooner (Unit {0}) s (before_touch_by image f touch (waits_or_ends (shown_if inside at len (taken_one (Read at len) acts s.world)) (taken_one (Read at len) acts s.world)) s)
      by true = inr (as_many s _ refl refl refl, refl, tt)
      by false = tt
  before-sooner f touch (Write at bytes) acts s waits = by (lies_in at (length bytes) s.world.sandbox)
    where
      by : (inside : Bool) → Sooner (Unit {0}) s (before_touch_by image f touch (waits_or_ends (written_if inside at bytes (taken_one (Write at bytes) acts s.world)) (taken_one (Write at bytes) acts s.world)) s)
      by true = inr (as_many s _ refl refl refl, refl, tt)
      by false = tt
  before-sooner f touch (Call fun args) acts s waits = tt
  before-sooner f touch (Return value) acts s waits = tt
  before-sooner f touch Stop acts s waits = tt

  -- ---- the sandbox's turn

  answer-falls : (callers : List Caller) (value : ℕ) (s : State) (w : World) → s.callers ≡ callers → s.control ≡ Away → w.ticks ≡ s.world.ticks → Falls s (answer image callers value (in_world w s))
  answer-falls [] value s w e away same = tt
  answer-falls (Calls f ∷ callers) value s w e away same = tt
  answer-falls (CalledBack k ∷ callers) value s w e away same = tt
  answer-falls (Waits f import place ∷ callers) value s w e away same = by (slice_get image.layout.imports import)
    where
      fits : (fit : Bool) (kind : WordKind) → Falls s (reply_if fit image f place kind value (record s { callers = callers; world = w }))
      fits true kind = pushes (slice_get image.trusted.funs f.function) _ f s _ (less s (record s { control = Runs f; callers = callers; world = w }) (omega (arith, same)) (rw (away, e) (omega arith)))
      fits false kind = tt

      by : (import : Option Import) → Falls s (reply_to image f place import value (record s { callers = callers; world = w }))
      by None = tt
      by (Some import) = fits (fits_kind import.result value) import.result

  called : (k : ℕ) (callback : Callback) (fun : Option Func) (words : List ℕ) (s : State) (w : World) → slice_get image.trusted.funs callback.fun ≡ fun → s.control ≡ Away → s.world.ticks < settings.budget → w.ticks ≡ s.world.ticks + 1 → Falls s (run_callback k callback fun words (in_world w s))
  called k callback None words s w there away room one = tt
  called k callback (Some fun) words s w there away room one = by (fun.args == length words)
    where
      by : (same : Bool) → Falls s (run_if same k callback fun words (in_world w s))
      by true = tick_pays s _ room one (rw away (omega (arith, called_left callback.fun fun words there)))
      by false = tt

  placed : (p : Option Param) (code : Code) (s u : State) → Falls s (at_place_of p (λ place. Over (endings.Check code place) u) (wild u))
  placed None code s u = tt
  placed (Some p) code s u = tt

  tested-falls : (k : ℕ) (callback : Callback) (fault : Option MarshalFault) (words : List ℕ) (s : State) (w : World) → s.control ≡ Away → s.world.ticks < settings.budget → w.ticks ≡ s.world.ticks + 1 → Falls s (tested image k callback fault words (in_world w s))
  tested-falls k callback None words s w away room one = called k callback (slice_get image.trusted.funs callback.fun) words s w refl away room one
  tested-falls k callback (Some faults.Count) words s w away room one = tt
  tested-falls k callback (Some (faults.Char param)) words s w away room one = placed (slice_get callback.signature param) C9 s _
  tested-falls k callback (Some (faults.Range param)) words s w away room one = placed (slice_get callback.signature param) C4 s _

  call_back-falls : (k : ℕ) (callback : Option Callback) (words : List ℕ) (s : State) (w : World) → s.control ≡ Away → w.ticks ≡ s.world.ticks → Falls s (call_back image settings k callback words (in_world w s))
  call_back-falls k None words s w away same = tt
  call_back-falls k (Some callback) words s w away same = by_count (length callback.signature == length words)
    where
      u : State
      u = in_world w s

      by_depth : (shallow : Bool) → s.world.ticks < settings.budget → Falls s (asked (entered_if shallow (spent_one w)) (in_world (spent_one w) u) (λ _ v. tested image k callback (arguments_fault callback.signature words (length v.world.sandbox)) words v))
      by_depth true room = tested-falls k callback _ words s (spent_one w) away room (ap (λ n. n + 1) same)
      by_depth false room = tt

      by_tick : (left : Bool) → nat_lt w.ticks settings.budget ≡ left → Falls s (asked (spent_if left w) u (λ _ t. asked (enter_call (depth t) t.world) t (λ _ v. tested image k callback (arguments_fault callback.signature words (length v.world.sandbox)) words v)))
      by_tick true e = let there : w.ticks < settings.budget = grind (arith, nat_tests) in by_depth (nat_lt (depth u) 1000) (omega (arith, same))
      by_tick false e = tt

      by_count : (enough : Bool) → Falls s (call_back_if enough image settings k callback words u)
      by_count true = by_tick (nat_lt w.ticks settings.budget) refl
      by_count false = tt

  in_sandbox-sooner : (act : Act) (acts : List Act) (s : State) → s.control ≡ Away → Sooner (LeavesTurn act turns.Sandbox) s (take_in_sandbox image settings act acts s)
  in_sandbox-sooner Go acts s away = inr (as_many s _ refl refl refl, refl, tt)
  in_sandbox-sooner (Read at len) acts s away = by (lies_in at len s.world.sandbox)
    where
      by : (inside : Bool) → Sooner (Unit {0}) s (in_sandbox_by image settings (keeps_or_ends (shown_if inside at len (taken_one (Read at len) acts s.world)) (taken_one (Read at len) acts s.world)) s)
      by true = inr (as_many s _ refl refl refl, refl, tt)
      by false = tt
  in_sandbox-sooner (Write at bytes) acts s away = by (lies_in at (length bytes) s.world.sandbox)
    where
      by : (inside : Bool) → Sooner (Unit {0}) s (in_sandbox_by image settings (keeps_or_ends (written_if inside at bytes (taken_one (Write at bytes) acts s.world)) (taken_one (Write at bytes) acts s.world)) s)
      by true = inr (as_many s _ refl refl refl, refl, tt)
      by false = tt
  in_sandbox-sooner (Call fun args) acts s away = sooner _ s _ (call_back-falls fun (slice_get image.layout.callbacks fun) args s (taken_one (Call fun args) acts s.world) away refl)
  in_sandbox-sooner (Return value) acts s away = sooner _ s _ (answer-falls s.callers value s (in_turn turns.Trusted (taken_one (Return value) acts s.world)) refl away refl)
  in_sandbox-sooner Stop acts s away = tt

  -- ---- moves

  -- an instruction
  pub runs-falls : (f : Frame) (s : State) → s.control ≡ Runs f → Falls s (move image settings s)
  runs-falls f s runs = subst (λ control. Falls s (move_by image settings control s)) (sym runs) (step-falls f s runs)

  -- an act before a touch, and one in the sandbox's turn
  pub touches-sooner : (f : Frame) (touch : Touch) (act : Act) (acts : List Act) (s : State) → s.control ≡ Touches f touch → s.world.acts ≡ act ∷ acts → Sooner (LeavesTurn act turns.Trusted) s (move image settings s)
  touches-sooner f touch act acts s waits some =
      subst (λ control. Sooner (LeavesTurn act turns.Trusted) s (move_by image settings control s)) (sym waits)
      (subst (λ taken. Sooner (LeavesTurn act turns.Trusted) s (before_touch image f touch taken s)) (sym some) (before-sooner f touch act acts s waits))

  pub away-sooner : (act : Act) (acts : List Act) (s : State) → s.control ≡ Away → s.world.acts ≡ act ∷ acts → Sooner (LeavesTurn act turns.Sandbox) s (move image settings s)
  away-sooner act acts s away some =
      subst (λ control. Sooner (LeavesTurn act turns.Sandbox) s (move_by image settings control s)) (sym away)
      (subst (λ taken. Sooner (LeavesTurn act turns.Sandbox) s (in_sandbox image settings taken s)) (sym some) (in_sandbox-sooner act acts s away))

  -- the end of the acts
  pub touches-falls : (f : Frame) (touch : Touch) (s : State) → s.control ≡ Touches f touch → s.world.acts ≡ [] → Falls s (move image settings s)
  touches-falls f touch s waits none =
      subst (λ control. Falls s (move_by image settings control s)) (sym waits)
      (subst (λ taken. Falls s (before_touch image f touch taken s)) (sym none) (touch-falls f touch s (telling (NoAct turns.Trusted ∷ []) s.world) waits refl))

  pub away-falls : (s : State) → s.control ≡ Away → s.world.acts ≡ [] → Falls s (move image settings s)
  away-falls s away none =
      subst (λ control. Falls s (move_by image settings control s)) (sym away)
      (subst (λ taken. Falls s (in_sandbox image settings taken s)) (sym none) tt)

  -- ---- a run that isn't over has moves left

  pub some_run : (f : Frame) (s : State) → s.control ≡ Runs f → 0 < left s
  unfolding moves_left
  some_run f s runs = rw runs (omega (arith, least f))

  pub some_touch : (f : Frame) (touch : Touch) (s : State) → s.control ≡ Touches f touch → 0 < left s
  unfolding moves_left
  some_touch f touch s waits = rw waits (omega arith)

  pub some_wait : (f : Frame) (import : ℕ) (place : Place) (callers : List Caller) (s : State) → s.callers ≡ Waits f import place ∷ callers → 0 < left s
  unfolding moves_left
  some_wait f import place callers s waits = rw waits (omega arith)
