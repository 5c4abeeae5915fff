-- Fewer steps are left behind each instruction of paced code that doesn't call, return or stop.
use Rattle.std.proofs.Common.{◌≡◌, ℕ, suc, ◌+◌, ◌-◌, ◌*◌, ◌<◌, ◌≤◌, ◌⊎◌, Bool, true, false, List, [], ◌∷◌, length, Option, Some, None, refl, ap, ⊎_elim, inl, inr, arith}
use Rattle.std.specs.Prelude.{slice_get, nat_lt, nat_le, ◌==◌, IsTrue}
use Rattle.std.proofs.Math.Nat.{mul-le-mul_right}
use Rattle.std.proofs.lemmas.Bool.Decides.{nat_tests}
use Rattle.act_words.specs.Acts.{Go, Read, Write, Call, Return, Stop}
use Rattle.act_words.specs.declared.act.Turn.TheVariants as turns
use Rattle.sandbox_actor.specs.Answers.{Lowers}
use Rattle.code_words.specs.declared.op.Op.{Op}
use Rattle.code_words.specs.declared.op.Op.TheVariants as ops
use Rattle.code_words.specs.Functions.{Func}
use Rattle.code_words.specs.declared.image.Callback.{Callback}
use Rattle.code_words.specs.Images.{Image}
use Rattle.code_words.specs.Table.{offset_of}
use Rattle.code_words.specs.Paced.{is_tick, is_call, target_of, is_paced_function, is_paced}
use Rattle.code_words.specs.Left.{longest}
use Rattle.code_words.specs.SandboxCode.{Frame, Held, Calls, Entered, CallsBack, Doing, Runs, Looks, Rests, State, Step, Goes, Acts, function_of, push, act, step, depth}
use Rattle.sandbox_actor_code.specs.StepsLeft.{rest_of, rest_of_doing, rest_of_held, steps_left}
use Rattle.sandbox_actor_code.specs.Codes.{return_step}
use Rattle.sandbox_actor_code.proofs.Paces.{paced_function, not_longer, some_left, few_left, first_left, calm_falls, call_falls, jump_falls}

-- instructions that jump, call, return or tick
data IsOther : Op → Type 0 where
  IsJump : (target : ℕ) → IsOther (ops.Jump target)
  IsJumpIfZero : (target : ℕ) → IsOther (ops.JumpIfZero target)
  IsCall : (k : ℕ) → IsOther (ops.Call k)
  IsReturn : IsOther ops.Return
  IsReturnNothing : IsOther ops.ReturnNothing
  IsTick : IsOther ops.Tick

-- what holds of a line holds by the words on the stack
by_one : (P : Step → Type 0) (line : List ℕ → Step) → P (line []) → ((b : ℕ) (stack : List ℕ) → P (line (b ∷ stack))) → (stack : List ℕ) → P (line stack)
by_one P line none some [] = none
by_one P line none some (b ∷ stack) = some b stack

by_two : (P : Step → Type 0) (line : List ℕ → Step) → P (line []) → ((b : ℕ) → P (line (b ∷ []))) → ((b a : ℕ) (stack : List ℕ) → P (line (b ∷ a ∷ stack))) → (stack : List ℕ) → P (line stack)
by_two P line none one two [] = none
by_two P line none one two (b ∷ []) = one b
by_two P line none one two (b ∷ a ∷ stack) = two b a stack

-- ---- instructions that go on to the next one, or look at bytes

module _ (fun : Func) (f : Frame) (first : State) where
  abbrev IsOnward : Doing → Type 0
  IsOnward (Runs g) = (g.function ≡ f.function) × (g.next ≡ f.next + 1)
  IsOnward (Looks g) = (g.function ≡ f.function) × (g.next ≡ f.next + 1)
  IsOnward Rests = ⊥

  -- the same calls are open behind the innermost one
  record Same (t : State) : Type 0 where
    doing : IsOnward t.doing
    held : t.held ≡ first.held
    ticks : t.ticks ≡ first.ticks

  abbrev Onward : Step → Type 0
  Onward (Goes t) = Same t
  Onward (Acts Go t) = Same t
  Onward (Acts (Read at len) t) = Same t
  Onward (Acts (Write at bytes) t) = Same t
  Onward (Acts (Call k words) t) = Unit {0}
  Onward (Acts (Return value) t) = Unit {0}
  Onward (Acts Stop t) = Unit {0}

  -- the frame with this stack
  abbrev at : List ℕ → Frame
  at stack = record f { stack = stack }

  push-on : (all : List ℕ) (w : ℕ) (stack : List ℕ) → Onward (push fun w stack (at all) first)
  push-on all w stack = by (nat_lt (length stack) fun.stack) refl
    where
      by : (room : Bool) → nat_lt (length stack) fun.stack ≡ room → Onward (push fun w stack (at all) first)
      by true e = rw e (record { doing = (refl, refl); held = refl; ticks = refl })
      by false e = rw e tt

  module _ (image : Image) (budget : ℕ) where
    abbrev line : Op → List ℕ → Step
    line op stack = act image budget fun op (at stack) first

    local-on : (k : ℕ) (stack : List ℕ) → Onward (line (ops.Local k) stack)
    local-on k stack = by (slice_get f.slots k) refl
      where
        by : (word : Option ℕ) → slice_get f.slots k ≡ word → Onward (line (ops.Local k) stack)
        by None e = rw e tt
        by (Some w) e = rw e (push-on stack w stack)

    offset-on : (k : ℕ) (stack : List ℕ) → Onward (line (ops.BlockOffset k) stack)
    offset-on k stack = by (offset_of image k) refl
      where
        by : (word : Option ℕ) → offset_of image k ≡ word → Onward (line (ops.BlockOffset k) stack)
        by None e = rw e tt
        by (Some w) e = rw e (push-on stack w stack)

    set-on : (k w : ℕ) (stack : List ℕ) → Onward (line (ops.Set k) (w ∷ stack))
    set-on k w stack = by (nat_lt k (length f.slots)) refl
      where
        by : (there : Bool) → nat_lt k (length f.slots) ≡ there → Onward (line (ops.Set k) (w ∷ stack))
        by true e = rw e (record { doing = (refl, refl); held = refl; ticks = refl })
        by false e = rw e tt

    quotient-on : (b a : ℕ) (stack : List ℕ) → Onward (line ops.WrapDiv (b ∷ a ∷ stack))
    quotient-on b a stack = by (b == 0) refl
      where
        by : (none : Bool) → (b == 0) ≡ none → Onward (line ops.WrapDiv (b ∷ a ∷ stack))
        by true e = rw e tt
        by false e = rw e (push-on (b ∷ a ∷ stack) _ stack)

    remainder-on : (b a : ℕ) (stack : List ℕ) → Onward (line ops.WrapRem (b ∷ a ∷ stack))
    remainder-on b a stack = by (b == 0) refl
      where
        by : (none : Bool) → (b == 0) ≡ none → Onward (line ops.WrapRem (b ∷ a ∷ stack))
        by true e = rw e tt
        by false e = rw e (push-on (b ∷ a ∷ stack) _ stack)

    callback-on : (k : ℕ) (stack : List ℕ) → Onward (line (ops.CallBack k) stack)
    callback-on k stack = by (slice_get image.layout.callbacks k) refl
      where
        by_words : (callback : Callback) → slice_get image.layout.callbacks k ≡ Some callback → (enough : Bool) → nat_le (length callback.signature) (length stack) ≡ enough → Onward (line (ops.CallBack k) stack)
        by_words callback e true h = rw (e, h) tt
        by_words callback e false h = rw (e, h) tt

        by : (callback : Option Callback) → slice_get image.layout.callbacks k ≡ callback → Onward (line (ops.CallBack k) stack)
        by None e = rw e tt
        by (Some callback) e = by_words callback e (nat_le (length callback.signature) (length stack)) refl

    two-on : (op : Op) → Onward (line op []) → ((b : ℕ) → Onward (line op (b ∷ []))) → ((b a : ℕ) (stack : List ℕ) → Onward (line op (b ∷ a ∷ stack))) → Onward (line op f.stack)
    two-on op none one two = by_two Onward (line op) none one two f.stack

    -- an instruction goes on so; or it is one of these
    act-goes : (op : Op) → ((is_tick op ≡ false) × Onward (act image budget fun op f first)) ⊎ IsOther op
    act-goes (ops.Const n) = inl (refl, push-on f.stack _ f.stack)
    act-goes (ops.Local k) = inl (refl, local-on k f.stack)
    act-goes (ops.Set k) = inl (refl, by_one Onward (line (ops.Set k)) tt (set-on k) f.stack)
    act-goes ops.Discard = inl (refl, by_one Onward (line ops.Discard) tt (λ w stack. record { doing = (refl, refl); held = refl; ticks = refl }) f.stack)
    act-goes ops.Duplicate = inl (refl, by_one Onward (line ops.Duplicate) tt (λ w stack. push-on (w ∷ stack) w (w ∷ stack)) f.stack)
    act-goes (ops.BlockAddress k) = inl (refl, tt)
    act-goes (ops.BlockOffset k) = inl (refl, offset-on k f.stack)
    act-goes (ops.Arithmetic operator place) = inl (refl, tt)
    act-goes (ops.Neg place) = inl (refl, tt)
    act-goes ops.WrapAdd = inl (refl, two-on ops.WrapAdd tt (λ b. tt) (λ b a stack. push-on (b ∷ a ∷ stack) _ stack))
    act-goes ops.WrapSub = inl (refl, two-on ops.WrapSub tt (λ b. tt) (λ b a stack. push-on (b ∷ a ∷ stack) _ stack))
    act-goes ops.WrapMul = inl (refl, two-on ops.WrapMul tt (λ b. tt) (λ b a stack. push-on (b ∷ a ∷ stack) _ stack))
    act-goes ops.WrapShl = inl (refl, two-on ops.WrapShl tt (λ b. tt) (λ b a stack. push-on (b ∷ a ∷ stack) _ stack))
    act-goes ops.WrapShr = inl (refl, two-on ops.WrapShr tt (λ b. tt) (λ b a stack. push-on (b ∷ a ∷ stack) _ stack))
    act-goes ops.WrapNeg = inl (refl, by_one Onward (line ops.WrapNeg) tt (λ b stack. push-on (b ∷ stack) _ stack) f.stack)
    act-goes ops.WrapDiv = inl (refl, two-on ops.WrapDiv tt (λ b. tt) quotient-on)
    act-goes ops.WrapRem = inl (refl, two-on ops.WrapRem tt (λ b. tt) remainder-on)
    act-goes (ops.Bitwise operator) = inl (refl, two-on (ops.Bitwise operator) tt (λ b. tt) (λ b a stack. push-on (b ∷ a ∷ stack) _ stack))
    act-goes ops.Not = inl (refl, by_one Onward (line ops.Not) tt (λ b stack. push-on (b ∷ stack) _ stack) f.stack)
    act-goes (ops.Compare comparison) = inl (refl, two-on (ops.Compare comparison) tt (λ b. tt) (λ b a stack. push-on (b ∷ a ∷ stack) _ stack))
    act-goes ops.UnsignedLess = inl (refl, two-on ops.UnsignedLess tt (λ b. tt) (λ b a stack. push-on (b ∷ a ∷ stack) _ stack))
    act-goes ops.UnsignedLessEqual = inl (refl, two-on ops.UnsignedLessEqual tt (λ b. tt) (λ b a stack. push-on (b ∷ a ∷ stack) _ stack))
    act-goes ops.UnsignedGreater = inl (refl, two-on ops.UnsignedGreater tt (λ b. tt) (λ b a stack. push-on (b ∷ a ∷ stack) _ stack))
    act-goes ops.UnsignedGreaterEqual = inl (refl, two-on ops.UnsignedGreaterEqual tt (λ b. tt) (λ b a stack. push-on (b ∷ a ∷ stack) _ stack))
    act-goes ops.Zero = inl (refl, by_one Onward (line ops.Zero) tt (λ b stack. push-on (b ∷ stack) _ stack) f.stack)
    act-goes ops.Byte = inl (refl, by_one Onward (line ops.Byte) tt (λ b stack. push-on (b ∷ stack) _ stack) f.stack)
    act-goes (ops.Index size) = inl (refl, two-on (ops.Index size) tt (λ b. tt) (λ b a stack. push-on (b ∷ a ∷ stack) _ stack))
    act-goes (ops.NonNull place) = inl (refl, tt)
    act-goes (ops.In low high size place) = inl (refl, tt)
    act-goes (ops.UpTo low high size place) = inl (refl, tt)
    act-goes (ops.Term high size place) = inl (refl, tt)
    act-goes (ops.Contain low1 high1 low2 high2 size place) = inl (refl, tt)
    act-goes (ops.Lies low high size more place) = inl (refl, tt)
    act-goes (ops.Range offset len place) = inl (refl, tt)
    act-goes ops.Load1 = inl (refl, by_one Onward (line ops.Load1) tt (λ at stack. record { doing = (refl, refl); held = refl; ticks = refl }) f.stack)
    act-goes ops.Load4 = inl (refl, by_one Onward (line ops.Load4) tt (λ at stack. record { doing = (refl, refl); held = refl; ticks = refl }) f.stack)
    act-goes ops.Store1 = inl (refl, two-on ops.Store1 tt (λ b. tt) (λ w at stack. record { doing = (refl, refl); held = refl; ticks = refl }))
    act-goes ops.Store4 = inl (refl, two-on ops.Store4 tt (λ b. tt) (λ w at stack. record { doing = (refl, refl); held = refl; ticks = refl }))
    act-goes ops.TouchLoad1 = inl (refl, tt)
    act-goes ops.TouchLoad4 = inl (refl, tt)
    act-goes ops.TouchStore1 = inl (refl, tt)
    act-goes ops.TouchStore4 = inl (refl, tt)
    act-goes (ops.Jump target) = inr (IsJump target)
    act-goes (ops.JumpIfZero target) = inr (IsJumpIfZero target)
    act-goes (ops.Call k) = inr (IsCall k)
    act-goes (ops.TaintedCall k place) = inl (refl, tt)
    act-goes (ops.CallBack k) = inl (refl, callback-on k f.stack)
    act-goes ops.Return = inr IsReturn
    act-goes ops.ReturnNothing = inr IsReturnNothing
    act-goes ops.Tick = inr IsTick
    act-goes ops.NextInput = inl (refl, tt)
    act-goes ops.Print = inl (refl, tt)
    act-goes ops.PutByte = inl (refl, tt)
    act-goes (ops.Alloc size) = inl (refl, tt)
    act-goes (ops.AllocTerminated size) = inl (refl, tt)
    act-goes (ops.SandboxAlloc size) = inl (refl, tt)
    act-goes ops.TextLength = inl (refl, tt)

-- no more steps are left, where no more are up to the next ticks
pub no_more : (image : Image) (budget : ℕ) (s t : State) → t.ticks ≡ s.ticks → rest_of_doing image t.doing + rest_of_held image t.held ≤ rest_of_doing image s.doing + rest_of_held image s.held
    → steps_left image budget t ≤ steps_left image budget s
unfolding steps_left
no_more image budget s t ticks fewer = rw ticks (omega (arith, fewer))

-- ---- steps of a paced image

module _ (image : Image) (budget : ℕ) (paced : IsTrue (is_paced image)) where
  abbrev most : ℕ
  most = longest image.sandbox.funs

  abbrev left : State → ℕ
  left s = steps_left image budget s

  -- what is left beside the ticks
  abbrev rest : State → ℕ
  rest s = rest_of_doing image s.doing + rest_of_held image s.held

  -- fewer steps are left, also behind an act that leaves the code waiting for no call and no reply
  abbrev pub Falls : State → Step → Type 0
  Falls s (Goes t) = left t < left s
  Falls s (Acts a t) = Lowers turns.Sandbox a (left s) (left t)

  less : (s t : State) → t.ticks ≡ s.ticks → rest t < rest s → left t < left s
  unfolding steps_left
  less s t ticks fewer = rw ticks (omega (arith, fewer))

  -- a tick pays
  tick_pays : (s t : State) → s.ticks < budget → t.ticks ≡ s.ticks + 1 → rest t < rest s + (6 * most + 8) → left t < left s
  unfolding steps_left
  tick_pays s t room one fewer =
      let paid : budget - t.ticks + 1 ≤ budget - s.ticks = omega (arith, room, one) in
      omega (arith, fewer, mul-le-mul_right (6 * most + 8) paid)

  -- ---- open calls

  least : (f : Frame) → 3 ≤ rest_of image f
  least f = by (function_of image f.function) refl
    where
      by : (fun : Option Func) → function_of image f.function ≡ fun → 3 ≤ rest_of image f
      by None e = rw e (some_left most [] refl f.next)
      by (Some fun) e = rw e (some_left most fun.ops (paced_function image f.function fun paced e) f.next)

  most_left : (f : Frame) → rest_of image f ≤ 6 * most + 7
  most_left f = by (function_of image f.function) refl
    where
      by : (fun : Option Func) → function_of image f.function ≡ fun → rest_of image f ≤ 6 * most + 7
      by None e = rw e (few_left most [] refl f.next (omega arith))
      by (Some fun) e = rw e (few_left most fun.ops (paced_function image f.function fun paced e) f.next (not_longer image f.function fun e))

  pub called_left : (number : ℕ) (slots : List ℕ) → rest_of image (record { function = number; next = 0; slots = slots; stack = [] }) ≤ 3 * most + 3
  called_left number slots = by (function_of image number) refl
    where
      by : (fun : Option Func) → function_of image number ≡ fun → rest_of image (record { function = number; next = 0; slots = slots; stack = [] }) ≤ 3 * most + 3
      by None e = rw e (first_left most [] refl (omega arith))
      by (Some fun) e = rw e (first_left most fun.ops (paced_function image number fun paced e) (not_longer image number fun e))

  -- ---- instructions

  -- an instruction is next
  record Stands (fun : Func) (op : Op) (f : Frame) (s : State) : Type 0 where
    here : function_of image f.function ≡ Some fun
    stands : slice_get fun.ops f.next ≡ Some op
    runs : s.doing ≡ Runs f

  module _ (fun : Func) (op : Op) (f : Frame) (s : State) (stands : Stands fun op f s) (calm : is_tick op ≡ false) where
    keeps : is_paced_function fun ≡ true
    keeps = paced_function image f.function fun paced stands.here

    onward_less : (g : Frame) → g.function ≡ f.function → g.next ≡ f.next + 1 → rest_of image g + 3 ≤ rest_of image f
    onward_less g same next = rw (same, next, stands.here) (calm_falls most fun.ops keeps f.next op stands.stands calm)

    doing_less : (doing : Doing) → IsOnward fun f s doing → rest_of_doing image doing + 3 ≤ rest_of image f
    doing_less (Runs g) on = onward_less g on.0 on.1
    doing_less (Looks g) on = onward_less g on.0 on.1
    doing_less Rests on = absurd on

    same_less : (t : State) → Same fun f s t → left t < left s
    same_less t same =
        let held : rest_of_held image t.held ≡ rest_of_held image s.held = ap (rest_of_held image) same.held in
        let doing : rest_of_doing image s.doing ≡ rest_of image f = ap (rest_of_doing image) stands.runs in
        less s t same.ticks (omega (arith, held, doing, doing_less t.doing same.doing))

    on : (next : Step) → Onward fun f s next → Falls s next
    on (Goes t) same = same_less t same
    on (Acts Go t) same = same_less t same
    on (Acts (Read at len) t) same = same_less t same
    on (Acts (Write at bytes) t) same = same_less t same
    on (Acts (Call k words) t) same = tt
    on (Acts (Return value) t) same = tt
    on (Acts Stop t) same = tt

    -- at another instruction of the same call
    lands : (target : ℕ) (stack : List ℕ) → target_of op ≡ Some target → nat_lt target (length fun.ops) ≡ true
        → left (record s { doing = Runs (record f { next = target; stack = stack }) }) < left s
    lands target stack e there =
        let within : target < length fun.ops = grind (arith, nat_tests) in
        let fewer : rest_of image (record f { next = target; stack = stack }) < rest_of image f = rw stands.here (jump_falls most fun.ops keeps f.next target op stands.stands calm e within) in
        let doing : rest_of_doing image s.doing ≡ rest_of image f = ap (rest_of_doing image) stands.runs in
        less s (record s { doing = Runs (record f { next = target; stack = stack }) }) refl (omega (arith, fewer, doing))

    -- a call waits for one that begins
    begins : (number : ℕ) (slots stack : List ℕ) → is_call op ≡ true
        → left (record s { doing = Runs (record { function = number; next = 0; slots = slots; stack = [] }); held = Calls (record f { next = f.next + 1; stack = stack }) ∷ s.held }) < left s
    begins number slots stack e =
        let room : rest_of image (record f { next = f.next + 1; stack = stack }) + 3 * most + 7 ≤ rest_of image f = rw stands.here (call_falls most fun.ops keeps f.next op stands.stands calm e) in
        let doing : rest_of_doing image s.doing ≡ rest_of image f = ap (rest_of_doing image) stands.runs in
        less s (record s { doing = Runs (record { function = number; next = 0; slots = slots; stack = [] }); held = Calls (record f { next = f.next + 1; stack = stack }) ∷ s.held }) refl
        (omega (arith, room, doing, called_left number slots))

    -- the call that waited goes on
    goes_back : (caller g : Frame) (held : List Held) → g.function ≡ caller.function → g.next ≡ caller.next
        → left (record { doing = Runs g; held = held; ticks = s.ticks }) < left (record { doing = s.doing; held = Calls caller ∷ held; ticks = s.ticks })
    goes_back caller g held function next =
        let doing : rest_of_doing image s.doing ≡ rest_of image f = ap (rest_of_doing image) stands.runs in
        let same : rest_of image g ≡ rest_of image caller = rw (function, next) refl in
        less (record { doing = s.doing; held = Calls caller ∷ held; ticks = s.ticks }) (record { doing = Runs g; held = held; ticks = s.ticks }) refl (omega (arith, doing, same, least f))

  jumps : (fun : Func) (f : Frame) (s : State) (target : ℕ) → Stands fun (ops.Jump target) f s → Falls s (act image budget fun (ops.Jump target) f s)
  jumps fun f s target h = by (nat_lt target (length fun.ops)) refl
    where
      by : (there : Bool) → nat_lt target (length fun.ops) ≡ there → Falls s (act image budget fun (ops.Jump target) f s)
      by true e = rw e (lands fun (ops.Jump target) f s h refl target f.stack refl e)
      by false e = rw e tt

  jumps_if_zero : (fun : Func) (f : Frame) (s : State) (target : ℕ) → Stands fun (ops.JumpIfZero target) f s → (w : ℕ) (stack : List ℕ)
      → Falls s (act image budget fun (ops.JumpIfZero target) (record f { stack = w ∷ stack }) s)
  jumps_if_zero fun f s target h w stack = by_zero (w == 0) refl
    where
      by : (there : Bool) → (w == 0) ≡ true → nat_lt target (length fun.ops) ≡ there → Falls s (act image budget fun (ops.JumpIfZero target) (record f { stack = w ∷ stack }) s)
      by true z e = rw (z, e) (lands fun (ops.JumpIfZero target) f s h refl target stack refl e)
      by false z e = rw (z, e) tt

      by_zero : (zero : Bool) → (w == 0) ≡ zero → Falls s (act image budget fun (ops.JumpIfZero target) (record f { stack = w ∷ stack }) s)
      by_zero true z = by (nat_lt target (length fun.ops)) z refl
      by_zero false z = rw z (same_less fun (ops.JumpIfZero target) f s h refl _ (record { doing = (refl, refl); held = refl; ticks = refl }))

  calls : (fun : Func) (f : Frame) (s : State) (k : ℕ) → Stands fun (ops.Call k) f s → Falls s (act image budget fun (ops.Call k) f s)
  calls fun f s k h = by (function_of image k) refl
    where
      by_room : (other : Func) → function_of image k ≡ Some other → nat_le other.args (length f.stack) ≡ true → (room : Bool) → nat_lt (suc (depth s)) 1000 ≡ room → Falls s (act image budget fun (ops.Call k) f s)
      by_room other e m true r = rw (e, m, r) (begins fun (ops.Call k) f s h refl other.number _ _ refl)
      by_room other e m false r = rw (e, m, r) tt

      by_words : (other : Func) → function_of image k ≡ Some other → (enough : Bool) → nat_le other.args (length f.stack) ≡ enough → Falls s (act image budget fun (ops.Call k) f s)
      by_words other e true m = by_room other e m (nat_lt (suc (depth s)) 1000) refl
      by_words other e false m = rw (e, m) tt

      by : (other : Option Func) → function_of image k ≡ other → Falls s (act image budget fun (ops.Call k) f s)
      by None e = rw e tt
      by (Some other) e = by_words other e (nat_le other.args (length f.stack)) refl

  module _ (fun : Func) (op : Op) (f : Frame) (s : State) (h : Stands fun op f s) (calm : is_tick op ≡ false) where
    back_to : (result : Option ℕ) (caller : Frame) (held : List Held) → s.held ≡ Calls caller ∷ held → (other : Option Func) → function_of image caller.function ≡ other → Falls s (return_step image budget fun f result s)
    back_to None caller held e None there = rw (e, there) tt
    back_to None caller held e (Some other) there = rw (e, there) (goes_back fun op f s h calm caller caller held refl refl)
    back_to (Some w) caller held e None there = rw (e, there) tt
    back_to (Some w) caller held e (Some other) there = by (nat_lt (length caller.stack) other.stack) refl
      where
        by : (room : Bool) → nat_lt (length caller.stack) other.stack ≡ room → Falls s (return_step image budget fun f (Some w) s)
        by true r = rw (e, there, r) (goes_back fun op f s h calm caller (record caller { stack = w ∷ caller.stack }) held refl refl)
        by false r = rw (e, there, r) tt

    returns : (result : Option ℕ) (held : List Held) → s.held ≡ held → Falls s (return_step image budget fun f result s)
    returns None [] e = rw e tt
    returns None (Calls caller ∷ held) e = back_to None caller held e (function_of image caller.function) refl
    returns None (Entered ∷ held) e = rw e tt
    returns None (CallsBack frame k ∷ held) e = rw e tt
    returns (Some w) [] e = rw e tt
    returns (Some w) (Calls caller ∷ held) e = back_to (Some w) caller held e (function_of image caller.function) refl
    returns (Some w) (Entered ∷ held) e = rw e tt
    returns (Some w) (CallsBack frame k ∷ held) e = rw e tt

  ticks : (fun : Func) (f : Frame) (s : State) → Stands fun ops.Tick f s → Falls s (act image budget fun ops.Tick f s)
  ticks fun f s h = by (nat_lt s.ticks budget) refl
    where
      by : (there : Bool) → nat_lt s.ticks budget ≡ there → Falls s (act image budget fun ops.Tick f s)
      by true e =
          let room : s.ticks < budget = grind (arith, nat_tests) in
          let doing : rest_of_doing image s.doing ≡ rest_of image f = ap (rest_of_doing image) h.runs in
          rw e (tick_pays s (record s { doing = Runs (record f { next = f.next + 1 }); ticks = s.ticks + 1 }) room refl (omega (arith, doing, most_left (record f { next = f.next + 1 }))))
      by false e = rw e tt

  act-falls : (fun : Func) (op : Op) (f : Frame) (s : State) → Stands fun op f s → Falls s (act image budget fun op f s)
  act-falls fun op f s h = ⊎_elim (λ calm. on fun op f s h calm.0 _ calm.1) (λ other. by op other h) (act-goes fun f s image budget op)
    where
      by : (op : Op) → IsOther op → Stands fun op f s → Falls s (act image budget fun op f s)
      by op (IsJump target) h = jumps fun f s target h
      by op (IsJumpIfZero target) h = by_one (Falls s) (λ stack. act image budget fun (ops.JumpIfZero target) (record f { stack = stack }) s) tt (jumps_if_zero fun f s target h) f.stack
      by op (IsCall k) h = calls fun f s k h
      by op IsReturn h = by_one (Falls s) (λ stack. act image budget fun ops.Return (record f { stack = stack }) s) tt (λ w stack. returns fun ops.Return f s h refl (Some w) s.held refl) f.stack
      by op IsReturnNothing h = returns fun ops.ReturnNothing f s h refl None s.held refl
      by op IsTick h = ticks fun f s h

  pub step-falls : (f : Frame) (s : State) → s.doing ≡ Runs f → Falls s (step image budget f s)
  step-falls f s runs = by (function_of image f.function) refl
    where
      by_op : (fun : Func) (op : Option Op) → function_of image f.function ≡ Some fun → slice_get fun.ops f.next ≡ op → Falls s (step image budget f s)
      by_op fun None e h = rw (e, h) tt
      by_op fun (Some op) e h = rw (e, h) (act-falls fun op f s (record { here = e; stands = h; runs = runs }))

      by : (fun : Option Func) → function_of image f.function ≡ fun → Falls s (step image budget f s)
      by None e = rw e tt
      by (Some fun) e = by_op fun (slice_get fun.ops f.next) e refl
