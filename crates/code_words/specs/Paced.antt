-- Paced images: between two ticks control moves forward only, or returns.
use Rattle.std.specs.Prelude.{ℕ, zero, suc, Bool, true, false, ◌&&◌, ◌||◌, not, nat_lt, List, [], ◌∷◌, Option, Some, None, slice_get}
use Rattle.std.specs.List.{list_all}
use Rattle.code_words.specs.declared.op.Op.{Op}
use Rattle.code_words.specs.declared.op.Op.TheVariants as ops
use Rattle.code_words.specs.Functions.{Func}
use Rattle.code_words.specs.Images.{Image}

abbrev pub is_tick : Op → Bool
is_tick ops.Tick = true
is_tick _ = false

-- a call of a function of the same side, or of a tainted one
abbrev pub is_call : Op → Bool
is_call (ops.Call k) = true
is_call (ops.TaintedCall k place) = true
is_call _ = false

-- where a jump goes
abbrev pub target_of : Op → Option ℕ
target_of (ops.Jump target) = Some target
target_of (ops.JumpIfZero target) = Some target
target_of _ = None

-- an instruction is there, and passes a test
abbrev pub tested : (Op → Bool) → Option Op → Bool
tested test None = false
tested test (Some op) = test op

-- the instruction before this place is a tick
abbrev pub follows_tick : List Op → ℕ → Bool
follows_tick all zero = false
follows_tick all (suc before) = tested is_tick (slice_get all before)

-- a jump goes to a later instruction or to a tick, and to no call; a target that isn't there breaks nothing
abbrev pub goes_well : List Op → ℕ → Option ℕ → Bool
goes_well all place None = true
goes_well all place (Some target) = lands (slice_get all target)
  where
    lands : Option Op → Bool
    lands None = true
    lands (Some op) = (nat_lt place target || is_tick op) && not (is_call op)

-- the instruction at a place keeps the pace
abbrev pub keeps_pace : List Op → ℕ → Op → Bool
keeps_pace all place op = goes_well all place (target_of op) && (not (is_call op) || follows_tick all place)

abbrev pub all_keep_pace : List Op → ℕ → List Op → Bool
all_keep_pace all place [] = true
all_keep_pace all place (op ∷ ops) = keeps_pace all place op && all_keep_pace all (suc place) ops

abbrev pub is_paced_function : Func → Bool
is_paced_function f = all_keep_pace f.ops 0 f.ops

-- each function of both sides keeps the pace
abbrev pub is_paced : Image → Bool
is_paced image = list_all is_paced_function image.trusted.funs && list_all is_paced_function image.sandbox.funs
