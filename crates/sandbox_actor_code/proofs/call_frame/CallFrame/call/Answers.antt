use Rattle.std.proofs.Common.{◌≡◌, ◌≤◌, [], length, drop, refl, ap, ◌∙◌, arith}
use Rattle.std.proofs.lemmas.List.{with_items_is, drop_all}
use Rattle.sandbox_actor_code.proofs.call_frame.CallFrame.call.Goals as goal

pub invariant_of-self : goal.invariant_of-self
invariant_of-self c =
    let i = c.self.inside in
    let len : length c.fill_slots.new.slots ≡ length i.slots.items = c.fill_slots.ensures.len ∙ ap length c.as_mut_slice.ensures.value in
    let items = ap length (with_items_is i.slots c.fill_slots.new.slots (omega (arith, len, i.slots.ok.0))) in
    let slots : c.args.fun.now.slots ≤ length i.slots.items = rw (← c.self.view_is) at c.requires.room.slots in
    let stack : c.args.fun.now.stack ≤ length i.stack.items = rw (← c.self.view_is) at c.requires.room.stack in
    let top = i.stack.ok.0 in
    record {
      slots = omega (arith, slots, len, items, c.slots.ensures.slots);
      top = omega (arith, top);
      limit = omega (arith, stack, c.stack.ensures.stack);
      few = omega (arith, top);
    }

pub returns : goal.returns
returns c =
    let i = c.self.inside in
    let len : length c.fill_slots.new.slots ≡ length i.slots.items = c.fill_slots.ensures.len ∙ ap length c.as_mut_slice.ensures.value in
    let items = with_items_is i.slots c.fill_slots.new.slots (omega (arith, len, i.slots.ok.0)) in
    let slots = rw c.slots.ensures.slots at c.fill_slots.ensures.slots in
    let none : drop c.len-self-inside.result i.stack.items ≡ [] = drop_all c.len-self-inside.result i.stack.items (omega (arith, i.stack.ok.0, c.len-self-inside.ensures)) in
    rw (← c.self.view_is, items, c.slots.ensures.slots, slots, len, none, c.number-self-inside.ensures, c.ops-self-inside.ensures.ops, c.stack.ensures.stack) refl
