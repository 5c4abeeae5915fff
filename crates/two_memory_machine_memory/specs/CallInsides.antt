-- The fields of the open calls: what callers see of them, and what is always true of them.
use Rattle.std.specs.Prelude.{◌≡◌, ℕ, zero, suc, ◌+◌, ◌*◌, ◌^◌, ◌<◌, ◌≤◌, List, [], ◌∷◌, All, length, take, drop, Option, Some, None, slice_get}
use Rattle.code_words.specs.Table.{Frame}
use Rattle.code_words.specs.Functions.{Func}
use Rattle.two_memory_machine_memory.specs.declared.calls.Extent.{Extent}
use Rattle.two_memory_machine_memory.specs.declared.calls.Row.{Row}
use Rattle.two_memory_machine_memory.specs.declared.calls.CallWords.TheInside.{Inside}
use Rattle.two_memory_machine_memory.specs.CallStacks.{Behind, CallStack}

-- the elements from a place on, up to another
abbrev pub window : {A : Type 0} → ℕ → ℕ → List A → List A
window low high xs = drop low (take high xs)

-- the slots stand first, and the stack ends the room behind them
abbrev pub frame_in : List ℕ → ℕ → ℕ → Extent → Frame
frame_in words function next e = record { function = function; next = next; slots = window e.base e.room words; stack = window e.top e.end words }

abbrev pub behind_row : List ℕ → Row → Behind
behind_row words row = record { link = row.link; frame = frame_in words row.function row.next row.extent }

-- the first rows, the last of them first
abbrev pub behind_rows : List ℕ → List Row → ℕ → List Behind
behind_rows words rows zero = []
behind_rows words rows (suc n) = with_row (slice_get rows n) (behind_rows words rows n)
  where
    with_row : Option Row → List Behind → List Behind
    with_row None behind = behind
    with_row (Some row) behind = behind_row words row ∷ behind

-- what callers see
abbrev pub call_stack : Inside → CallStack
call_stack c =
    record {
      funs = c.funs.now;
      fun = c.fun.now;
      frame = frame_in c.words.items c.function c.next c.extent;
      behind = behind_rows c.words.items c.rows.items c.count;
    }

-- the parts of a frame's words stand in order, and end below a limit
pub record InOrder (e : Extent) (limit : ℕ) : Type 0 where
  pub slots : e.base ≤ e.room
  pub room : e.room ≤ e.top
  pub stack : e.top ≤ e.end
  pub within : e.end ≤ limit

-- a row is a call of a function that is there, and has the room that this asks for
pub record IsCall (funs : List Func) (row : Row) : Type 0 where
  pub f : Func
  pub there : slice_get funs row.function ≡ Some f
  pub room : row.extent.end ≡ row.extent.room + f.stack

-- the first rows stand one above the other below a limit, each with at most so many words
abbrev pub AreStacked : List Func → ℕ → List Row → ℕ → ℕ → Type 0
AreStacked funs stride rows zero limit = Unit {0}
AreStacked funs stride rows (suc n) limit = stacked (slice_get rows n) (AreStacked funs stride rows n)
  where
    stacked : Option Row → (ℕ → Type 0) → Type 0
    stacked None rest = ⊥
    stacked (Some row) rest = InOrder row.extent limit × (row.extent.end ≤ stride * (n + 1)) × IsCall funs row × rest row.extent.base

pub record IsConsistent (c : Inside) : Type 0 where
  -- the innermost function is there
  pub there : slice_get c.funs.now c.function ≡ Some c.fun.now
  pub ops : c.ops.now ≡ c.fun.now.ops
  pub room : c.extent.end ≡ c.extent.room + c.fun.now.stack
  pub order : InOrder c.extent (c.stride * (c.count + 1))
  -- the calls behind it stand below it
  pub behind : AreStacked c.funs.now c.stride c.rows.items c.count c.extent.base
  -- there is room for 1,000 frames
  pub few : c.count < 1000
  pub rows : length c.rows.items ≡ 1000
  pub words : length c.words.items ≡ c.stride * 1000
  pub frames : All (λ f. f.slots + f.stack ≤ c.stride) c.funs.now
  pub stride : c.stride < 2 ^ 32
