use Rattle.std.proofs.lemmas.Grind.{elements, common_steps}
use Rattle.std.proofs.Common.{◌≡◌, ◌+◌, ◌-◌, ◌<◌, ◌≤◌, ◌∷◌, length, drop, nat_lt, true, false, refl, sym, ap, ◌∙◌, arith, rules}
use Rattle.std.proofs.lemmas.Bool.Decides.{nat_tests}
use Rattle.std.specs.Prelude.{slice_set}
use Rattle.two_memory_machine_memory.specs.CallInsides.{window, call_stack, behind_rows}
use Rattle.two_memory_machine_memory.proofs.Windows.{window-set_behind, window-set_first, drop-window}
use Rattle.two_memory_machine_memory.proofs.Stacked.{end_within, length-stack, length-below, same_set, rows_same}
use Rattle.two_memory_machine_memory.proofs.calls.CallWords.push.Goals as goal
use Rattle.two_memory_machine_memory.proofs.calls.CallWords.push.Goals.{else-popped-eq0-via-then-popped-eq0+else-top-self, else-popped-eq0-via-else-popped-eq0}

pub returns-then-top-self-clause-room : goal.returns-then-top-self-clause-room
returns-then-top-self-clause-room c =
    let i = c.self.inside in
    let left = length-below i c.self.invariant c.args.popped in
    let full : nat_lt (length (drop c.args.popped (call_stack i).frame.stack)) i.fun.now.stack ≡ false = grind (arith, nat_tests, left, c.self.invariant.room, c.if-top-self.true) in
    rw (← c.self.view_is) (sym full)

pub index_mut-requires : goal.index_mut-requires
index_mut-requires c =
    let i = c.self.inside in
    let above : i.extent.room < i.extent.top + c.args.popped =
    elim c.else-popped-eq0.branch [ else-popped-eq0-via-then-popped-eq0+else-top-self w ↦ omega (arith, w.if-top-self.false) | else-popped-eq0-via-else-popped-eq0 w ↦ omega (arith, w.if-popped-eq0.false, c.self.invariant.order.room) ] in
    let h = c.self.invariant in
    let within : c.args.popped ≤ length (call_stack i).frame.stack = rw (← c.self.view_is) at c.requires in
    omega (arith, above, within, length-stack i h, h.order.stack, end_within i h)

pub returns-clause-room : goal.returns-clause-room
returns-clause-room c =
    let i = c.self.inside in
    let above : i.extent.room < i.extent.top + c.args.popped =
    elim c.else-popped-eq0.branch [ else-popped-eq0-via-then-popped-eq0+else-top-self w ↦ omega (arith, w.if-top-self.false) | else-popped-eq0-via-else-popped-eq0 w ↦ omega (arith, w.if-popped-eq0.false, c.self.invariant.order.room) ] in
    let left = length-below i c.self.invariant c.args.popped in
    let within : c.args.popped ≤ length (call_stack i).frame.stack = rw (← c.self.view_is) at c.requires in
    let stack = length-stack i c.self.invariant in
    let room : nat_lt (length (drop c.args.popped (call_stack i).frame.stack)) i.fun.now.stack ≡ true = grind (arith, nat_tests, left, stack, within, c.self.invariant.order.stack, c.self.invariant.room, above) in
    rw (← c.self.view_is) (sym room)

pub returns-clause-after : goal.returns-clause-after
returns-clause-after c =
    let i = c.self.inside in
    let above : i.extent.room < i.extent.top + c.args.popped =
    elim c.else-popped-eq0.branch [ else-popped-eq0-via-then-popped-eq0+else-top-self w ↦ omega (arith, w.if-top-self.false) | else-popped-eq0-via-else-popped-eq0 w ↦ omega (arith, w.if-popped-eq0.false, c.self.invariant.order.room) ] in
    let words = i.words.items in
    let top = i.extent.top + c.args.popped in
    let w = c.args.word in
    let h = c.self.invariant in
    let within : c.args.popped ≤ length (call_stack i).frame.stack = rw (← c.self.view_is) at c.requires in
    let low : top ≤ i.extent.end = omega (arith, length-stack i h, within, h.order.stack) in
    let slots : window i.extent.base i.extent.room (slice_set words (top - 1) w) ≡ window i.extent.base i.extent.room words =
    window-set_behind i.extent.base i.extent.room (top - 1) words w (omega (arith, above)) in
    let stack : window (top - 1) i.extent.end (slice_set words (top - 1) w) ≡ w ∷ drop c.args.popped (window i.extent.top i.extent.end words) =
    window-set_first (top - 1) top i.extent.end words w (omega (arith, above)) low (end_within i h) ∙ ap (λ below. w ∷ below) (sym (drop-window c.args.popped i.extent.top i.extent.end words)) in
    let behind : behind_rows (slice_set words (top - 1) w) i.rows.items i.count ≡ behind_rows words i.rows.items i.count =
    rows_same i.funs.now i.stride i.rows.items i.count i.extent.base _ words h.behind (same_set i.extent.base (top - 1) w words (omega (arith, h.order.slots, above))) in
    rw (← c.self.view_is, slots, stack, behind) refl

pub overflow_add-top : goal.overflow_add-top
overflow_add-top c = grind (arith, elements)

pub overflow_sub-top : goal.overflow_sub-top
overflow_sub-top c = search rules

pub invariant_of-self : goal.invariant_of-self
invariant_of-self c = grind (arith, common_steps)
