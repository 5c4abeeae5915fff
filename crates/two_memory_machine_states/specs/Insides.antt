-- What callers see of a machine's fields, and what is always true of them.
use Rattle.std.specs.Prelude.{◌≡◌, ℕ, ◌+◌, ◌*◌, ◌^◌, ◌<◌, ◌≤◌, ◌⊎◌, length, take, map, Option, Some, None, slice_get, All}
use Rattle.code_words.specs.Fitting.{Fits}
use Rattle.code_words.specs.Formats.{KeepsFormat}
use Rattle.code_words.specs.Table.{Touch, Loads, Stores, Passes, Replies, address_of, offset_of}
use Rattle.code_words.specs.declared.op.Op.TheVariants.{NextInput}
use Rattle.two_memory_machine_memory.specs.declared.calls.Link.{Link}
use Rattle.two_memory_machine_memory.specs.declared.calls.Link.TheVariants.{Called, CallsBack}
use Rattle.two_memory_machine_states.specs.declared.running_image.Pending.{Pending}
use Rattle.two_memory_machine_states.specs.declared.running_image.Pending.TheVariants as pending
use Rattle.two_memory_machine_states.specs.declared.running_image.Phase.{Phase}
use Rattle.two_memory_machine_states.specs.declared.running_image.Phase.TheVariants as phases
use Rattle.two_memory_machine_states.specs.declared.running_image.RunningImage.TheInside.{Inside}
use Rattle.two_memory_machine_memory.specs.Places.{block_row}
use Rattle.two_memory_machine_memory.specs.CallStacks.{CallStack, callers_of, link_of}
use Rattle.two_memory_machine_states.specs.Machines.{Doing, Running, NeedsNumber, HasNumber, Touching, Suspended, Machine}

abbrev pub touch_of : Pending → Touch
touch_of (pending.Loads at len) = Loads at len
touch_of (pending.Stores at bytes) = Stores at bytes
touch_of (pending.Passes import words place) = Passes import words place
touch_of (pending.Replies value) = Replies value

abbrev pub doing_of : Phase → Doing
doing_of phases.Running = Running
doing_of phases.NeedsNumber = NeedsNumber
doing_of (phases.HasNumber number) = HasNumber number
doing_of (phases.Touching touch) = Touching (touch_of touch)
doing_of (phases.Suspended import place) = Suspended import place

-- what callers see
abbrev pub machine : Inside → Machine
machine m =
    record {
      image = m.image.now;
      settings = m.settings;
      memory = m.memory;
      blocks = map block_row (take m.made m.blocks.items);
      frame = m.calls.frame;
      doing = doing_of m.phase;
      callers = callers_of m.calls.behind;
      sandbox = m.sandbox.items;
      room = m.room;
      taken = m.taken;
      ticks = m.ticks;
      over = m.over;
    }

-- how many open calls stand behind a call that does this, beside those that it counts
abbrev pub waiting_calls : Phase → ℕ
waiting_calls phases.Running = 0
waiting_calls phases.NeedsNumber = 0
waiting_calls (phases.HasNumber number) = 0
waiting_calls (phases.Touching touch) = 0
waiting_calls (phases.Suspended import place) = 1

-- the innermost call is one of a callback
abbrev pub IsCallback : Option Link → Type 0
IsCallback None = ⊥
IsCallback (Some Called) = ⊥
IsCallback (Some (CallsBack callback import place)) = Unit {0}

-- a touch lies in the sandbox's memory; what a load gives has room on the stack, and a call of a tainted function has an
-- open call left; what replies is a callback
abbrev pub IsTouchOf : Pending → CallStack → ℕ → ℕ → Type 0
IsTouchOf (pending.Loads at len) c size depth = (at + len ≤ size) × ((len ≡ 1) ⊎ (len ≡ 4)) × (length c.frame.stack < c.fun.stack) × (c.frame.next + 1 < 2 ^ 64)
IsTouchOf (pending.Stores at bytes) c size depth = (at + length bytes ≤ size) × (c.frame.next + 1 < 2 ^ 64)
IsTouchOf (pending.Passes import words place) c size depth = (depth < 1000) × (c.frame.next + 1 < 2 ^ 64)
IsTouchOf (pending.Replies value) c size depth = IsCallback (link_of c.behind)

-- the next instruction takes an input number
abbrev pub TakesInput : CallStack → Type 0
TakesInput c = (slice_get c.fun.ops c.frame.next ≡ Some NextInput) × (c.frame.next + 1 < 2 ^ 64)

abbrev pub IsPhaseOf : Phase → CallStack → ℕ → ℕ → Type 0
IsPhaseOf phases.Running c size depth = Unit {0}
IsPhaseOf phases.NeedsNumber c size depth = TakesInput c
IsPhaseOf (phases.HasNumber number) c size depth = TakesInput c
IsPhaseOf (phases.Touching touch) c size depth = IsTouchOf touch c size depth
IsPhaseOf (phases.Suspended import place) c size depth = depth < 1000

-- the fields agree with the image and with one another
pub record IsConsistent (m : Inside) : Type 0 where
  pub format : KeepsFormat m.image.now
  pub fits : Fits m.image.now m.settings
  -- where the static blocks of both memories stand
  pub addresses : (k : ℕ) → slice_get m.addresses.items k ≡ address_of m.image.now m.settings.base k
  pub offsets : (k : ℕ) → slice_get m.offsets.items k ≡ offset_of m.image.now k
  -- the trusted memory, and room for all blocks that it can have
  pub base : m.memory.base ≡ m.settings.base
  pub bytes : length m.memory.bytes ≡ m.settings.trusted
  pub counter : m.memory.counter ≤ m.settings.trusted
  pub made : 16 + 32 * m.made ≤ m.memory.counter
  pub blocks : m.settings.trusted ≤ 32 * length m.blocks.items + 32
  pub rows : All (λ r. r.offset ≤ m.settings.trusted) m.blocks.items
  -- the open calls
  pub funs : m.calls.funs ≡ m.image.now.trusted.funs
  pub there : slice_get m.calls.funs m.calls.frame.function ≡ Some m.calls.fun
  pub depth : m.depth ≡ length (callers_of m.calls.behind) + 1
  pub few : m.depth + waiting_calls m.phase ≤ 1000
  pub phase : IsPhaseOf m.phase m.calls (length m.sandbox.items) m.depth
  -- the sandbox's memory
  pub sandbox : length m.sandbox.items ≡ m.settings.sandbox
  pub room : m.room ≤ m.settings.sandbox
  pub ticks : m.ticks ≤ m.settings.budget
