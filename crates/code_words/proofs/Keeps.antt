-- What ticks, touches, acts and output keep of the world, a run keeps.
use Rattle.std.proofs.Common.{◌≡◌, ℕ, zero, suc, ◌+◌, ◌*◌, Bool, true, false, Option, None, Some, List, [], ◌∷◌, ℤ, refl}
use Rattle.std.specs.Prelude.{slice_get, nat_lt, nat_le, length, ◌==◌}
use Rattle.ckc_text.specs.declared.place.Place.{Place}
use Rattle.ckc_text.specs.declared.code.Code.{Code}
use Rattle.act_words.specs.declared.act.Turn.TheVariants as turns
use Rattle.act_words.specs.declared.settings.Settings.{Settings}
use Rattle.act_words.specs.Acts.{Act, Release, Looked, Wrote, Passed, Replied}
use Rattle.act_words.specs.World.{World, NoAct, telling, taken_one, in_turn, with_inputs}
use Rattle.act_words.specs.Acting.{BeforeTouch, InSandbox, act_before_touch, act_in_sandbox}
use Rattle.act_words.specs.Checks.{Checked, Holds, Fails}
use Rattle.act_words.specs.Numbers.{signed}
use Rattle.act_words.specs.Operators.{arithmetic_result}
use Rattle.act_words.specs.Touches.{Asked, Got, Ended, released, spend_tick, spent_if, enter_call, entered_if, input_from, next_input, write}
use Rattle.code_words.specs.declared.op.Op.{Op}
use Rattle.code_words.specs.declared.op.Op.TheVariants as ops
use Rattle.marshalling.specs.declared.kind.WordKind.{WordKind}
use Rattle.code_words.specs.Functions.{Func, Import}
use Rattle.code_words.specs.declared.image.Callback.{Callback}
use Rattle.marshalling.specs.declared.signature.Param.{Param}
use Rattle.code_words.specs.Images.{Image}
use Rattle.marshalling.specs.declared.fault.MarshalFault.{MarshalFault}
use Rattle.marshalling.specs.declared.fault.MarshalFault.TheVariants as faults
use Rattle.marshalling.specs.Crossing.{arguments_fault, fits_kind}
use Rattle.code_words.specs.Table.{Frame, Caller, Calls, Waits, CalledBack, Touch, Loads, Stores, Passes, Replies, Control, Runs, Touches, Away, State, Step, Goes, Over, wild, holds, depth, is_positive, asked, push, push_if, push_some, push_checked, pop, pop_2, pop_3, pop_5, pop_6, pop_if, pop_words, peek, set_if, load_if, load, store_if, store, check, touch_if, call_function, call_tainted, push_result, reply_of, reply_with, exit_with, return_to, allocate_if, allocate, allocate_sandbox_if, byte_at, by_byte, count_from, jump_if, jump, jump_if_zero, of_two, of_one, checked_of_two, act, act_next, step_in, step}
use Rattle.code_words.specs.Moves.{in_world, make_touch, before_touch_by, run_if, run_callback, at_place_of, tested, call_back_if, call_back, reply_if, reply_to, answer, in_sandbox_by, before_touch, in_sandbox, move, move_by}
use Rattle.code_words.specs.Runs.{Run, Unfinished, Finished, exec, go_on}

-- properties of the worlds of a run: while the trusted side has the turn, where its touch may be made, while the sandbox has
-- the turn, behind a call of a callback, and where the run ends
module _ (Trusted Ready Sandbox Called Ending : World → Type 0) where
  abbrev pub HoldsIn : Control → World → Type 0
  HoldsIn (Runs f) w = Trusted w
  HoldsIn (Touches f touch) w = Trusted w
  HoldsIn Away w = Sandbox w

  abbrev pub StepKeeps : Step → Type 0
  StepKeeps (Goes s) = HoldsIn s.control s.world
  StepKeeps (Over ending s) = Ending s.world

  abbrev pub RunKeeps : Run → Type 0
  RunKeeps (Unfinished s) = HoldsIn s.control s.world
  RunKeeps (Finished ending s) = Ending s.world

  abbrev pub BeforeKeeps : BeforeTouch → Type 0
  BeforeKeeps (BeforeTouch.Waits w) = Trusted w
  BeforeKeeps (BeforeTouch.Touches w) = Ready w
  BeforeKeeps (BeforeTouch.Ends ending w) = Ending w

  abbrev pub InKeeps : InSandbox → Type 0
  InKeeps (InSandbox.Keeps w) = Sandbox w
  InKeeps (InSandbox.Answers word w) = Trusted w
  InKeeps (InSandbox.Calls fun words w) = Called w
  InKeeps (InSandbox.Ends ending w) = Ending w

  abbrev pub ReleaseKeeps : Release → World → Type 0
  ReleaseKeeps Looked w = Trusted w
  ReleaseKeeps (Wrote at bytes) w = Trusted w
  ReleaseKeeps (Passed fun args) w = Sandbox w
  ReleaseKeeps (Replied value) w = Sandbox w

  -- each part of a run keeps them, and it may end anywhere
  pub record AreKept : Type 0 where
    pub ticks : (w : World) (n : ℕ) → Trusted w → Trusted (record w { ticks = n })
    pub inputs : (w : World) (left : List ℤ) → Trusted w → Trusted (with_inputs left w)
    pub writes : (w : World) (bytes : List ℕ) → Trusted w → Trusted (write bytes w)
    pub rooms : (w : World) (room : ℕ) → Trusted w → Trusted (record w { room = room })
    pub acts : (w : World) (act : Act) (acts : List Act) → w.acts ≡ act ∷ acts → Trusted w → BeforeKeeps (act_before_touch act (taken_one act acts w))
    pub no_act : (w : World) → w.acts ≡ [] → Trusted w → Ready (telling (NoAct turns.Trusted ∷ []) w)
    pub touches : (w : World) (release : Release) → Ready w → ReleaseKeeps release (released release w)
    pub sandbox_acts : (w : World) (act : Act) (acts : List Act) → w.acts ≡ act ∷ acts → Sandbox w → InKeeps (act_in_sandbox act (taken_one act acts w))
    pub no_sandbox_act : (w : World) → w.acts ≡ [] → Sandbox w → Ending (telling (NoAct turns.Sandbox ∷ []) w)
    pub called_ticks : (w : World) (n : ℕ) → Called w → Called (record w { ticks = n })
    pub called_back : (w : World) → Called w → Trusted (in_turn turns.Trusted w)
    pub called_ends : (w : World) → Called w → Ending w
    pub ends : (w : World) → Trusted w → Ending w

  module _ (kept : AreKept) where
    abbrev Kept : State → Step → Type 0
    Kept s step = Trusted s.world → StepKeeps step

    wild-keeps : (s : State) → Kept s (wild s)
    wild-keeps s d = kept.ends s.world d

    push_if-keeps : (room : Bool) (w : ℕ) (stack : List ℕ) (f : Frame) (s : State) → Kept s (push_if room w stack f s)
    push_if-keeps true w stack f s d = d
    push_if-keeps false w stack f s d = wild-keeps s d

    push-keeps : (fun : Func) (w : ℕ) (stack : List ℕ) (f : Frame) (s : State) → Kept s (push fun w stack f s)
    push-keeps fun w stack f s = push_if-keeps (nat_lt (length stack) fun.stack) w stack f s

    push_some-keeps : (fun : Func) (w : Option ℕ) (stack : List ℕ) (f : Frame) (s : State) → Kept s (push_some fun w stack f s)
    push_some-keeps fun None stack f s d = wild-keeps s d
    push_some-keeps fun (Some w) stack f s d = push-keeps fun w stack f s d

    push_checked-keeps : (fun : Func) (number : Checked ℤ) (stack : List ℕ) (f : Frame) (s : State) → Kept s (push_checked fun number stack f s)
    push_checked-keeps fun (Holds number) stack f s d = push-keeps fun _ stack f s d
    push_checked-keeps fun (Fails ending) stack f s d = kept.ends s.world d

    pop-keeps : (stack : List ℕ) (next : ℕ → List ℕ → Step) (s : State) → ((w : ℕ) (below : List ℕ) → Kept s (next w below)) → Kept s (pop stack next s)
    pop-keeps [] next s keeps d = wild-keeps s d
    pop-keeps (w ∷ below) next s keeps d = keeps w below d

    pop_2-keeps : (stack : List ℕ) (next : ℕ → ℕ → List ℕ → Step) (s : State) → ((a b : ℕ) (rest : List ℕ) → Kept s (next a b rest)) → Kept s (pop_2 stack next s)
    pop_2-keeps stack next s keeps = pop-keeps stack _ s (λ b below. pop-keeps below _ s (λ a rest. keeps a b rest))

    pop_3-keeps : (stack : List ℕ) (next : ℕ → ℕ → ℕ → List ℕ → Step) (s : State) → ((a b c : ℕ) (rest : List ℕ) → Kept s (next a b c rest)) → Kept s (pop_3 stack next s)
    pop_3-keeps stack next s keeps = pop-keeps stack _ s (λ c below. pop_2-keeps below _ s (λ a b rest. keeps a b c rest))

    pop_5-keeps : (stack : List ℕ) (next : ℕ → ℕ → ℕ → ℕ → ℕ → List ℕ → Step) (s : State) → ((a b c d e : ℕ) (rest : List ℕ) → Kept s (next a b c d e rest)) → Kept s (pop_5 stack next s)
    pop_5-keeps stack next s keeps = pop_3-keeps stack _ s (λ c d e below. pop_2-keeps below _ s (λ a b rest. keeps a b c d e rest))

    pop_6-keeps : (stack : List ℕ) (next : ℕ → ℕ → ℕ → ℕ → ℕ → ℕ → List ℕ → Step) (s : State) → ((a b c d e f : ℕ) (rest : List ℕ) → Kept s (next a b c d e f rest)) → Kept s (pop_6 stack next s)
    pop_6-keeps stack next s keeps = pop_3-keeps stack _ s (λ d e f below. pop_3-keeps below _ s (λ a b c rest. keeps a b c d e f rest))

    pop_words-keeps : (n : ℕ) (stack : List ℕ) (next : List ℕ → List ℕ → Step) (s : State) → ((words rest : List ℕ) → Kept s (next words rest)) → Kept s (pop_words n stack next s)
    pop_words-keeps n stack next s keeps = by (nat_le n (length stack))
      where
        by : (there : Bool) → Kept s (pop_if there n stack next s)
        by true d = keeps _ _ d
        by false d = wild-keeps s d

    peek-keeps : (stack : List ℕ) (next : ℕ → Step) (s : State) → ((w : ℕ) → Kept s (next w)) → Kept s (peek stack next s)
    peek-keeps [] next s keeps d = wild-keeps s d
    peek-keeps (w ∷ stack) next s keeps d = keeps w d

    set_if-keeps : (there : Bool) (k w : ℕ) (stack : List ℕ) (f : Frame) (s : State) → Kept s (set_if there k w stack f s)
    set_if-keeps true k w stack f s d = d
    set_if-keeps false k w stack f s d = wild-keeps s d

    load-keeps : (fun : Func) (len address : ℕ) (stack : List ℕ) (f : Frame) (s : State) → Kept s (load fun len address stack f s)
    load-keeps fun len address stack f s = by (holds s.memory address len)
      where
        by : (there : Bool) → Kept s (load_if there fun len address stack f s)
        by true d = push-keeps fun _ stack f s d
        by false d = wild-keeps s d

    store-keeps : (len address w : ℕ) (stack : List ℕ) (f : Frame) (s : State) → Kept s (store len address w stack f s)
    store-keeps len address w stack f s = by (holds s.memory address len)
      where
        by : (there : Bool) → Kept s (store_if there len address w stack f s)
        by true d = d
        by false d = wild-keeps s d

    check-keeps : (passes : Bool) (code : Code) (place : Place) (stack : List ℕ) (f : Frame) (s : State) → Kept s (check passes code place stack f s)
    check-keeps true code place stack f s d = d
    check-keeps false code place stack f s d = kept.ends s.world d

    touch_if-keeps : (there : Bool) (touch : Touch) (stack : List ℕ) (f : Frame) (s : State) → Kept s (touch_if there touch stack f s)
    touch_if-keeps true touch stack f s d = d
    touch_if-keeps false touch stack f s d = wild-keeps s d

    -- ---- what is asked of the world

    abbrev AskedKeeps : {A : Type 0} → (World → Type 0) → Asked A → Type 0
    AskedKeeps P (Got value w) = P w
    AskedKeeps P (Ended ending w) = Ending w

    asked-keeps : {A : Type 0} (r : Asked A) (s : State) (next : A → State → Step) → AskedKeeps Trusted r → ((value : A) (w : World) → Kept (in_world w s) (next value (in_world w s))) → StepKeeps (asked r s next)
    asked-keeps (Got value w) s next got keeps = keeps value w got
    asked-keeps (Ended ending w) s next got keeps = got

    tick-keeps : (budget : ℕ) (w : World) → Trusted w → AskedKeeps Trusted (spend_tick budget w)
    tick-keeps budget w d = by (nat_lt w.ticks budget)
      where
        by : (left : Bool) → AskedKeeps Trusted (spent_if left w)
        by true = kept.ticks w _ d
        by false = kept.ends w d

    entered-keeps : (open_calls : ℕ) (w : World) → Trusted w → AskedKeeps Trusted (enter_call open_calls w)
    entered-keeps open_calls w d = by (nat_lt open_calls 1000)
      where
        by : (shallow : Bool) → AskedKeeps Trusted (entered_if shallow w)
        by true = d
        by false = kept.ends w d

    input-keeps : (left : List ℤ) (w : World) → Trusted w → AskedKeeps Trusted (input_from left w)
    input-keeps [] w d = d
    input-keeps (number ∷ left) w d = kept.inputs w left d

    -- ---- calls and returns

    call-keeps : (k : ℕ) (fun : Option Func) (f : Frame) (s : State) → Kept s (call_function k fun f s)
    call-keeps k None f s d = wild-keeps s d
    call-keeps k (Some fun) f s d =
        pop_words-keeps fun.args f.stack _ s (λ words stack e. asked-keeps (enter_call (depth s) s.world) s _ (entered-keeps (depth s) s.world e) (λ _ w g. g)) d

    tainted-keeps : (k : ℕ) (place : Place) (import : Option Import) (f : Frame) (s : State) → Kept s (call_tainted k place import f s)
    tainted-keeps k place None f s d = wild-keeps s d
    tainted-keeps k place (Some import) f s d =
        pop_words-keeps import.args f.stack _ s (λ words stack e. asked-keeps (enter_call (depth s) s.world) s _ (entered-keeps (depth s) s.world e) (λ _ w g. g)) d

    push_result-keeps : (fun : Option Func) (result : Option ℕ) (f : Frame) (s : State) → Kept s (push_result fun result f s)
    push_result-keeps None result f s d = wild-keeps s d
    push_result-keeps (Some fun) None f s d = d
    push_result-keeps (Some fun) (Some w) f s d = by (nat_lt (length f.stack) fun.stack) refl
      where
        by : (room : Bool) → nat_lt (length f.stack) fun.stack ≡ room → StepKeeps (push_result (Some fun) (Some w) f s)
        by true e = rw e d
        by false e = rw e (wild-keeps s d)

    reply-keeps : (value : Option ℕ) (f : Frame) (s : State) → Kept s (reply_with value f s)
    reply-keeps None f s d = wild-keeps s d
    reply-keeps (Some value) f s d = d

    exit-keeps : (result : Option ℕ) (s : State) → Kept s (exit_with result s)
    exit-keeps None s d = wild-keeps s d
    exit-keeps (Some w) s d = kept.ends s.world d

    return-keeps : (image : Image) (callers : List Caller) (result : Option ℕ) (f : Frame) (s : State) → Kept s (return_to image callers result f s)
    return-keeps image [] result f s d = exit-keeps result s d
    return-keeps image (Calls caller ∷ callers) result f s d = push_result-keeps (slice_get image.trusted.funs caller.function) result caller _ d
    return-keeps image (Waits caller import place ∷ callers) result f s d = wild-keeps s d
    return-keeps image (CalledBack k ∷ callers) result f s d = reply-keeps (reply_of (slice_get image.layout.callbacks k) result) f s d

    -- ---- blocks, texts and jumps

    allocate-keeps : (fun : Func) (size more n : ℕ) (stack : List ℕ) (f : Frame) (s : State) → Kept s (allocate fun size more n stack f s)
    allocate-keeps fun size more n stack f s = by (is_positive (signed n))
      where
        by : (some : Bool) → Kept s (allocate_if some fun ((n + more) * size) stack f s)
        by true d = push-keeps fun _ stack f _ d
        by false d = push-keeps fun 0 stack f s d

    allocate_sandbox-keeps : (some : Bool) (fun : Func) (bytes : ℕ) (stack : List ℕ) (f : Frame) (s : State) → Kept s (allocate_sandbox_if some fun bytes stack f s)
    allocate_sandbox-keeps true fun bytes stack f s d = push-keeps fun _ stack f _ (kept.rooms s.world _ d)
    allocate_sandbox-keeps false fun bytes stack f s d = push-keeps fun 0 stack f s d

    by_byte-keeps : (byte : Option ℕ) (outside end more : Step) → StepKeeps outside → StepKeeps end → StepKeeps more → StepKeeps (by_byte byte outside end more)
    by_byte-keeps None outside end more a b c = a
    by_byte-keeps (Some zero) outside end more a b c = b
    by_byte-keeps (Some (suc byte)) outside end more a b c = c

    count-keeps : (left : ℕ) (fun : Func) (budget address count : ℕ) (stack : List ℕ) (f : Frame) (s : State) → Kept s (count_from left fun budget address count stack f s)
    count-keeps zero fun budget address count stack f s d = asked-keeps (spend_tick budget s.world) s _ (tick-keeps budget s.world d) (λ _ w g. kept.ends w g)
    count-keeps (suc left) fun budget address count stack f s d =
        asked-keeps (spend_tick budget s.world) s _ (tick-keeps budget s.world d)
        (λ _ w g. by_byte-keeps (byte_at (in_world w s) address) _ _ _ (kept.ends w g) (push-keeps fun count stack f (in_world w s) g) (count-keeps left fun budget (address + 1) (count + 1) stack f (in_world w s) g))

    jump-keeps : (fun : Func) (target : ℕ) (stack : List ℕ) (f : Frame) (s : State) → Kept s (jump fun target stack f s)
    jump-keeps fun target stack f s = by (nat_lt target (length fun.ops))
      where
        by : (there : Bool) → Kept s (jump_if there target stack f s)
        by true d = d
        by false d = wild-keeps s d

    jump_if_zero-keeps : (zero : Bool) (fun : Func) (target : ℕ) (stack : List ℕ) (f : Frame) (s : State) → Kept s (jump_if_zero zero fun target stack f s)
    jump_if_zero-keeps true fun target stack f s d = jump-keeps fun target stack f s d
    jump_if_zero-keeps false fun target stack f s d = d

    -- ---- instructions

    of_two-keeps : (fun : Func) (operation : ℕ → ℕ → ℕ) (f : Frame) (s : State) → Kept s (of_two fun operation f s)
    of_two-keeps fun operation f s = pop_2-keeps f.stack _ s (λ a b stack. push-keeps fun (operation a b) stack f s)

    of_one-keeps : (fun : Func) (operation : ℕ → ℕ) (f : Frame) (s : State) → Kept s (of_one fun operation f s)
    of_one-keeps fun operation f s = pop-keeps f.stack _ s (λ b stack. push-keeps fun (operation b) stack f s)

    checked-keeps : (fun : Func) (operation : ℤ → ℤ → Checked ℤ) (f : Frame) (s : State) → Kept s (checked_of_two fun operation f s)
    checked-keeps fun operation f s = pop_2-keeps f.stack _ s (λ a b stack. push_checked-keeps fun _ stack f s)

    act-keeps : (image : Image) (settings : Settings) (fun : Func) (op : Op) (f : Frame) (s : State) → Kept s (act image settings fun op f s)
    act-keeps image settings fun (ops.Const n) f s = push-keeps fun _ f.stack f s
    act-keeps image settings fun (ops.Local k) f s = push_some-keeps fun _ f.stack f s
    act-keeps image settings fun (ops.Set k) f s = pop-keeps f.stack _ s (λ w stack. set_if-keeps (nat_lt k (length f.slots)) k w stack f s)
    act-keeps image settings fun ops.Discard f s = pop-keeps f.stack _ s (λ w stack d. d)
    act-keeps image settings fun ops.Duplicate f s = peek-keeps f.stack _ s (λ w. push-keeps fun w f.stack f s)
    act-keeps image settings fun (ops.BlockAddress k) f s = push_some-keeps fun _ f.stack f s
    act-keeps image settings fun (ops.BlockOffset k) f s = push_some-keeps fun _ f.stack f s
    act-keeps image settings fun (ops.Arithmetic operator place) f s = checked-keeps fun (arithmetic_result operator place) f s
    act-keeps image settings fun (ops.Neg place) f s = pop-keeps f.stack _ s (λ b stack. push_checked-keeps fun _ stack f s)
    act-keeps image settings fun ops.WrapAdd f s = of_two-keeps fun _ f s
    act-keeps image settings fun ops.WrapSub f s = of_two-keeps fun _ f s
    act-keeps image settings fun ops.WrapMul f s = of_two-keeps fun _ f s
    act-keeps image settings fun ops.WrapNeg f s = of_one-keeps fun _ f s
    act-keeps image settings fun ops.WrapShl f s = of_two-keeps fun _ f s
    act-keeps image settings fun ops.WrapShr f s = of_two-keeps fun _ f s
    act-keeps image settings fun ops.WrapDiv f s = wild-keeps s
    act-keeps image settings fun ops.WrapRem f s = wild-keeps s
    act-keeps image settings fun (ops.Bitwise operator) f s = of_two-keeps fun _ f s
    act-keeps image settings fun ops.Not f s = of_one-keeps fun _ f s
    act-keeps image settings fun (ops.Compare comparison) f s = of_two-keeps fun _ f s
    act-keeps image settings fun ops.UnsignedLess f s = of_two-keeps fun _ f s
    act-keeps image settings fun ops.UnsignedLessEqual f s = of_two-keeps fun _ f s
    act-keeps image settings fun ops.UnsignedGreater f s = of_two-keeps fun _ f s
    act-keeps image settings fun ops.UnsignedGreaterEqual f s = of_two-keeps fun _ f s
    act-keeps image settings fun ops.Zero f s = of_one-keeps fun _ f s
    act-keeps image settings fun ops.Byte f s = of_one-keeps fun _ f s
    act-keeps image settings fun (ops.Index size) f s = of_two-keeps fun _ f s
    act-keeps image settings fun (ops.NonNull place) f s = peek-keeps f.stack _ s (λ w. check-keeps _ _ place f.stack f s)
    act-keeps image settings fun (ops.In low high size place) f s = pop_5-keeps f.stack _ s (λ _ _ _ _ _ stack. check-keeps _ _ place stack f s)
    act-keeps image settings fun (ops.UpTo low high size place) f s = pop_5-keeps f.stack _ s (λ _ _ _ _ _ stack. check-keeps _ _ place stack f s)
    act-keeps image settings fun (ops.Term high size place) f s = pop_5-keeps f.stack _ s (λ _ _ _ _ _ stack. check-keeps _ _ place stack f s)
    act-keeps image settings fun (ops.Contain low1 high1 low2 high2 size place) f s = pop_6-keeps f.stack _ s (λ _ _ _ _ _ _ stack. peek-keeps stack _ s (λ p. check-keeps _ _ place stack f s))
    act-keeps image settings fun (ops.Lies low high size more place) f s = pop_3-keeps f.stack _ s (λ _ _ _ stack. peek-keeps stack _ s (λ p. check-keeps _ _ place stack f s))
    act-keeps image settings fun (ops.Range offset len place) f s = peek-keeps f.stack _ s (λ w. check-keeps _ _ place f.stack f s)
    act-keeps image settings fun ops.Load1 f s = pop-keeps f.stack _ s (λ address stack. load-keeps fun 1 address stack f s)
    act-keeps image settings fun ops.Load4 f s = pop-keeps f.stack _ s (λ address stack. load-keeps fun 4 address stack f s)
    act-keeps image settings fun ops.Store1 f s = pop_2-keeps f.stack _ s (λ address w stack. store-keeps 1 address w stack f s)
    act-keeps image settings fun ops.Store4 f s = pop_2-keeps f.stack _ s (λ address w stack. store-keeps 4 address w stack f s)
    act-keeps image settings fun ops.TouchLoad1 f s = pop-keeps f.stack _ s (λ at stack. touch_if-keeps _ _ stack f s)
    act-keeps image settings fun ops.TouchLoad4 f s = pop-keeps f.stack _ s (λ at stack. touch_if-keeps _ _ stack f s)
    act-keeps image settings fun ops.TouchStore1 f s = pop_2-keeps f.stack _ s (λ at w stack. touch_if-keeps _ _ stack f s)
    act-keeps image settings fun ops.TouchStore4 f s = pop_2-keeps f.stack _ s (λ at w stack. touch_if-keeps _ _ stack f s)
    act-keeps image settings fun (ops.Jump target) f s = jump-keeps fun target f.stack f s
    act-keeps image settings fun (ops.JumpIfZero target) f s = pop-keeps f.stack _ s (λ w stack. jump_if_zero-keeps (w == 0) fun target stack f s)
    act-keeps image settings fun (ops.Call k) f s = call-keeps k (slice_get image.trusted.funs k) f s
    act-keeps image settings fun (ops.TaintedCall k place) f s = tainted-keeps k place (slice_get image.layout.imports k) f s
    act-keeps image settings fun (ops.CallBack k) f s = wild-keeps s
    act-keeps image settings fun ops.Return f s = pop-keeps f.stack _ s (λ w stack. return-keeps image s.callers (Some w) _ s)
    act-keeps image settings fun ops.ReturnNothing f s = return-keeps image s.callers None f s
    act-keeps image settings fun ops.Tick f s = λ d. asked-keeps (spend_tick settings.budget s.world) s _ (tick-keeps settings.budget s.world d) (λ _ w g. g)
    act-keeps image settings fun ops.NextInput f s = λ d. asked-keeps (next_input s.world) s _ (input-keeps s.world.inputs s.world d) (λ number w g. push-keeps fun _ f.stack f (in_world w s) g)
    act-keeps image settings fun ops.Print f s = pop-keeps f.stack _ s (λ w stack d. kept.writes s.world _ d)
    act-keeps image settings fun ops.PutByte f s = pop-keeps f.stack _ s (λ w stack d. kept.writes s.world _ d)
    act-keeps image settings fun (ops.Alloc size) f s = pop-keeps f.stack _ s (λ n stack. allocate-keeps fun size 0 n stack f s)
    act-keeps image settings fun (ops.AllocTerminated size) f s = pop-keeps f.stack _ s (λ n stack. allocate-keeps fun size 1 n stack f s)
    act-keeps image settings fun (ops.SandboxAlloc size) f s = pop-keeps f.stack _ s (λ n stack. allocate_sandbox-keeps (is_positive (signed n)) fun (n * size) stack f s)
    act-keeps image settings fun ops.TextLength f s = pop-keeps f.stack _ s (λ p stack. count-keeps (length s.memory.bytes) fun settings.budget p 0 stack f s)

    step-keeps : (image : Image) (settings : Settings) (f : Frame) (s : State) → Kept s (step image settings f s)
    step-keeps image settings f s = by_function (slice_get image.trusted.funs f.function)
      where
        by_op : (fun : Func) (op : Option Op) → Kept s (act_next image settings fun op f s)
        by_op fun None d = wild-keeps s d
        by_op fun (Some op) d = act-keeps image settings fun op f s d

        by_function : (fun : Option Func) → Kept s (step_in image settings fun f s)
        by_function None d = wild-keeps s d
        by_function (Some fun) d = by_op fun (slice_get fun.ops f.next) d

    -- ---- touches

    make_touch-keeps : (image : Image) (f : Frame) (touch : Touch) (s : State) → Ready s.world → StepKeeps (make_touch image f touch s)
    make_touch-keeps image f (Loads at len) s ready = push_result-keeps (slice_get image.trusted.funs f.function) _ _ _ (kept.touches s.world Looked ready)
    make_touch-keeps image f (Stores at bytes) s ready = kept.touches s.world (Wrote at bytes) ready
    make_touch-keeps image f (Passes import words place) s ready = kept.touches s.world (Passed import words) ready
    make_touch-keeps image f (Replies value) s ready = kept.touches s.world (Replied value) ready

    before_by-keeps : (image : Image) (f : Frame) (touch : Touch) (r : BeforeTouch) (s : State) → s.control ≡ Touches f touch → BeforeKeeps r → StepKeeps (before_touch_by image f touch r s)
    before_by-keeps image f touch (BeforeTouch.Waits w) s e d = rw e d
    before_by-keeps image f touch (BeforeTouch.Touches w) s e d = make_touch-keeps image f touch (in_world w s) d
    before_by-keeps image f touch (BeforeTouch.Ends ending w) s e d = d

    before-keeps : (image : Image) (f : Frame) (touch : Touch) (acts : List Act) (s : State) → s.control ≡ Touches f touch → s.world.acts ≡ acts → Trusted s.world → StepKeeps (before_touch image f touch acts s)
    before-keeps image f touch [] s e none d = make_touch-keeps image f touch _ (kept.no_act s.world none d)
    before-keeps image f touch (act ∷ acts) s e some d = before_by-keeps image f touch _ s e (kept.acts s.world act acts some d)

    -- ---- the sandbox's turn

    run-keeps_if : (same : Bool) (k : ℕ) (callback : Callback) (fun : Func) (words : List ℕ) (s : State) → Called s.world → StepKeeps (run_if same k callback fun words s)
    run-keeps_if true k callback fun words s d = kept.called_back s.world d
    run-keeps_if false k callback fun words s d = kept.called_ends s.world d

    run_callback-keeps : (k : ℕ) (callback : Callback) (fun : Option Func) (words : List ℕ) (s : State) → Called s.world → StepKeeps (run_callback k callback fun words s)
    run_callback-keeps k callback None words s d = kept.called_ends s.world d
    run_callback-keeps k callback (Some fun) words s d = run-keeps_if (fun.args == length words) k callback fun words s d

    at_place-keeps : (p : Option Param) (next : Place → Step) (none : Step) → ((place : Place) → StepKeeps (next place)) → StepKeeps none → StepKeeps (at_place_of p next none)
    at_place-keeps None next none a b = b
    at_place-keeps (Some p) next none a b = a p.place

    tested-keeps : (image : Image) (k : ℕ) (callback : Callback) (fault : Option MarshalFault) (words : List ℕ) (s : State) → Called s.world → StepKeeps (tested image k callback fault words s)
    tested-keeps image k callback None words s d = run_callback-keeps k callback (slice_get image.trusted.funs callback.fun) words s d
    tested-keeps image k callback (Some faults.Count) words s d = kept.called_ends s.world d
    tested-keeps image k callback (Some (faults.Char param)) words s d = at_place-keeps (slice_get callback.signature param) _ _ (λ place. kept.called_ends s.world d) (kept.called_ends s.world d)
    tested-keeps image k callback (Some (faults.Range param)) words s d = at_place-keeps (slice_get callback.signature param) _ _ (λ place. kept.called_ends s.world d) (kept.called_ends s.world d)

    called-keeps : {A : Type 0} (r : Asked A) (s : State) (next : A → State → Step) → AskedKeeps Called r → ((value : A) (w : World) → Called w → StepKeeps (next value (in_world w s))) → StepKeeps (asked r s next)
    called-keeps (Got value w) s next got keeps = keeps value w got
    called-keeps (Ended ending w) s next got keeps = got

    called_tick-keeps : (budget : ℕ) (w : World) → Called w → AskedKeeps Called (spend_tick budget w)
    called_tick-keeps budget w d = by (nat_lt w.ticks budget)
      where
        by : (left : Bool) → AskedKeeps Called (spent_if left w)
        by true = kept.called_ticks w _ d
        by false = kept.called_ends w d

    called_entered-keeps : (open_calls : ℕ) (w : World) → Called w → AskedKeeps Called (enter_call open_calls w)
    called_entered-keeps open_calls w d = by (nat_lt open_calls 1000)
      where
        by : (shallow : Bool) → AskedKeeps Called (entered_if shallow w)
        by true = d
        by false = kept.called_ends w d

    call_back-keeps_if : (same : Bool) (image : Image) (settings : Settings) (k : ℕ) (callback : Callback) (words : List ℕ) (s : State) → Called s.world → StepKeeps (call_back_if same image settings k callback words s)
    call_back-keeps_if false image settings k callback words s d = kept.called_ends s.world d
    call_back-keeps_if true image settings k callback words s d =
        called-keeps (spend_tick settings.budget s.world) s _ (called_tick-keeps settings.budget s.world d)
        (λ _ w g. called-keeps (enter_call (depth (in_world w s)) w) (in_world w s) _ (called_entered-keeps (depth (in_world w s)) w g)
        (λ _ v h. tested-keeps image k callback (arguments_fault callback.signature words (length v.sandbox)) words (in_world v (in_world w s)) h))

    call_back-keeps : (image : Image) (settings : Settings) (k : ℕ) (callback : Option Callback) (words : List ℕ) (s : State) → Called s.world → StepKeeps (call_back image settings k callback words s)
    call_back-keeps image settings k None words s d = kept.called_ends s.world d
    call_back-keeps image settings k (Some callback) words s d = call_back-keeps_if (length callback.signature == length words) image settings k callback words s d

    reply_if-keeps : (fits : Bool) (image : Image) (f : Frame) (place : Place) (kind : WordKind) (value : ℕ) (s : State) → Kept s (reply_if fits image f place kind value s)
    reply_if-keeps true image f place kind value s d = push_result-keeps (slice_get image.trusted.funs f.function) _ f s d
    reply_if-keeps false image f place kind value s d = kept.ends s.world d

    reply_to-keeps : (image : Image) (f : Frame) (place : Place) (import : Option Import) (value : ℕ) (s : State) → Kept s (reply_to image f place import value s)
    reply_to-keeps image f place None value s d = wild-keeps s d
    reply_to-keeps image f place (Some import) value s d = reply_if-keeps (fits_kind import.result value) image f place import.result value s d

    answer-keeps : (image : Image) (callers : List Caller) (value : ℕ) (s : State) → Kept s (answer image callers value s)
    answer-keeps image [] value s d = wild-keeps s d
    answer-keeps image (Calls frame ∷ callers) value s d = wild-keeps s d
    answer-keeps image (Waits frame import place ∷ callers) value s d = reply_to-keeps image frame place (slice_get image.layout.imports import) value _ d
    answer-keeps image (CalledBack k ∷ callers) value s d = wild-keeps s d

    in_by-keeps : (image : Image) (settings : Settings) (r : InSandbox) (s : State) → s.control ≡ Away → InKeeps r → StepKeeps (in_sandbox_by image settings r s)
    in_by-keeps image settings (InSandbox.Keeps w) s e d = rw e d
    in_by-keeps image settings (InSandbox.Answers word w) s e d = answer-keeps image s.callers word (in_world w s) d
    in_by-keeps image settings (InSandbox.Calls k words w) s e d = call_back-keeps image settings k (slice_get image.layout.callbacks k) words (in_world w s) d
    in_by-keeps image settings (InSandbox.Ends ending w) s e d = d

    in_sandbox-keeps : (image : Image) (settings : Settings) (acts : List Act) (s : State) → s.control ≡ Away → s.world.acts ≡ acts → Sandbox s.world → StepKeeps (in_sandbox image settings acts s)
    in_sandbox-keeps image settings [] s e none d = kept.no_sandbox_act s.world none d
    in_sandbox-keeps image settings (act ∷ acts) s e some d = in_by-keeps image settings _ s e (kept.sandbox_acts s.world act acts some d)

    -- ---- moves and runs

    move-keeps : (image : Image) (settings : Settings) (s : State) → HoldsIn s.control s.world → StepKeeps (move image settings s)
    move-keeps image settings s = by s.control refl
      where
        by : (control : Control) → s.control ≡ control → HoldsIn control s.world → StepKeeps (move_by image settings control s)
        by (Runs f) e d = step-keeps image settings f s d
        by (Touches f touch) e d = before-keeps image f touch s.world.acts s e refl d
        by Away e d = in_sandbox-keeps image settings s.world.acts s e refl d

    pub run-keeps : (image : Image) (settings : Settings) (n : ℕ) (s : State) → HoldsIn s.control s.world → RunKeeps (exec image settings n s)
    run-keeps image settings zero s d = d
    run-keeps image settings (suc n) s d = by (move image settings s) (move-keeps image settings s d) (λ t. run-keeps image settings n t)
      where
        by : (next : Step) → StepKeeps next → ((t : State) → HoldsIn t.control t.world → RunKeeps (exec image settings n t)) → RunKeeps (go_on next (exec image settings n))
        by (Goes t) keeps rest = rest t keeps
        by (Over ending t) keeps rest = keeps
