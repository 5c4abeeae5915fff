-- The open calls of the trusted side, as the rest of the machine sees them.
use Rattle.std.specs.Prelude.{ℕ, Bool, true, false, List, [], ◌∷◌, Option, Some, None, slice_get, slice_set, ◌≡◌}
use Rattle.code_words.specs.Table.{Frame, Caller, Calls, Waits, CalledBack, frame_for}
use Rattle.code_words.specs.Functions.{Func}
use Rattle.two_memory_machine_memory.specs.declared.calls.Link.{Link}
use Rattle.two_memory_machine_memory.specs.declared.calls.Link.TheVariants.{Called, CallsBack}

-- a call that waits for a function, and why that function was called
pub record Behind : Type 0 where
  pub link : Link
  pub frame : Frame

-- the functions of the side, that of the innermost call, its frame, and the calls behind it, the innermost first
pub record CallStack : Type 0 where
  pub funs : List Func
  pub fun : Func
  pub frame : Frame
  pub behind : List Behind

-- a callback has two calls behind it: the sandbox's, and that of the tainted function
abbrev pub callers_with : Link → Frame → List Caller → List Caller
callers_with Called frame callers = Calls frame ∷ callers
callers_with (CallsBack callback import place) frame callers = CalledBack callback ∷ Waits frame import place ∷ callers

abbrev pub callers_of : List Behind → List Caller
callers_of [] = []
callers_of (b ∷ behind) = callers_with b.link b.frame (callers_of behind)

-- the innermost frame is another one
abbrev pub framed : Frame → CallStack → CallStack
framed frame c = record c { frame = frame }

abbrev pub with_stack : List ℕ → CallStack → CallStack
with_stack stack c = framed (record c.frame { stack = stack }) c

-- a word on a stack that has room for it
abbrev pub pushed_if : Bool → ℕ → List ℕ → CallStack → CallStack
pushed_if true word below c = with_stack (word ∷ below) c
pushed_if false word below c = c

-- a word in a slot that is there
abbrev pub slot_set_if : Bool → ℕ → ℕ → CallStack → CallStack
slot_set_if true k word c = framed (record c.frame { slots = slice_set c.frame.slots k word }) c
slot_set_if false k word c = c

-- the next instruction is another one
abbrev pub at_next : ℕ → CallStack → CallStack
at_next next c = framed (record c.frame { next = next }) c

abbrev pub link_of : List Behind → Option Link
link_of [] = None
link_of (b ∷ behind) = Some b.link

-- a function of the side is called with these words
abbrev pub entered : Link → ℕ → Func → List ℕ → CallStack → CallStack
entered link number fun words c =
    record { funs = c.funs; fun = fun; frame = frame_for number fun words; behind = (record { link = link; frame = c.frame }) ∷ c.behind }

-- a function of the side is called that takes no argument, and no call waits
abbrev pub IsFirstCall : List Func → ℕ → CallStack → Type 0
IsFirstCall funs number c = (f : Func) → slice_get funs number ≡ Some f → c ≡ record { funs = funs; fun = f; frame = frame_for number f []; behind = [] }
