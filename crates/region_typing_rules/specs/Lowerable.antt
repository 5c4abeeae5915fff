-- What makes a core small enough to be lowered.
use Rattle.std.specs.Prelude.{◌≡◌, ℕ, ◌+◌, ◌<◌, ◌≤◌, true, List, [], ◌∷◌, length, pos, All, Some, slice_get}
use Rattle.flat_bytes.specs.Blocks.{rounded_up}
use Rattle.act_words.specs.Checks.{is_word_number}
use Rattle.pointer_modes.specs.Layout.{scalar_size}
use Rattle.ckc_core.specs.Programs.{Initial, Variable, Import}
use Rattle.ckc_core.specs.Core.{Function, Parted}
use Rattle.ckc_core.specs.States.{Null, has_type, initial_value}
use Rattle.ckc_core.specs.Stacks.{statements_stack}

-- the bytes of a variable with these cells
abbrev pub cells_size : List Initial → ℕ
cells_size [] = 0
cells_size (i ∷ is) = i.stride + cells_size is

-- the bytes that file-level variables take with the gaps behind them
abbrev pub objects_size : List Variable → ℕ
objects_size [] = 0
objects_size (v ∷ objects) = rounded_up (cells_size v.cells) + 16 + objects_size objects

-- a cell has room for a scalar of its type, and its number has 32 bits and is one of its type
pub record IsRoomy (i : Initial) : Type 0 where
  pub room : scalar_size i.type ≤ i.stride
  pub typed : has_type i.type (initial_value i.type i.number) ≡ true
  pub word : is_word_number i.number ≡ true
  pub null : initial_value i.type i.number ≡ Null → i.number ≡ pos 0

-- a function has few parameters and few locals, and its body takes so many words of the stack at most
pub record IsSmall (words : ℕ) (f : Function) : Type 0 where
  pub few_parameters : f.parameters ≤ 16
  pub held : f.parameters ≤ length f.locals
  pub few_locals : length f.locals ≤ 256
  pub low : statements_stack f.body ≤ words

-- the whole program: each variable has cells, and all of them take few bytes; tainted functions take few parameters; the body of
-- each trusted one leaves room in its frame; and `main` is there and takes nothing
pub record IsSmallCore (c : Parted) : Type 0 where
  pub cells : All (λ (v : Variable). All IsRoomy v.cells × (0 < length v.cells)) c.objects
  pub objects : objects_size c.objects ≤ 32768
  pub imports : All (λ (i : Import). i.parameters ≤ 16) c.imports
  pub functions : All (IsSmall 3400) c.functions
  pub main : (f : Function) × (slice_get c.functions c.main ≡ Some f) × (f.parameters ≡ 0)

-- functions are numbered, and there are few of each side
pub record HasFewFunctions (c : Parted) : Type 0 where
  pub functions : length c.functions ≤ 4096
  pub imports : length c.imports ≤ 4096
