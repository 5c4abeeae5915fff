use Rattle.std.proofs.Common.{◌≡◌, ◌+◌, ◌-◌, ◌<◌, ◌++◌, ◌∷◌, Some, [], length, take, get_or, replicate, refl, sym, ap, ◌∙◌, arith}
use Rattle.std.specs.Prelude.{slice_get, slice_set}
use Rattle.std.proofs.Math.ListN.{length-set}
use Rattle.std.proofs.lemmas.List.{with_items_is, drop_all, length-take-le}
use Rattle.std.proofs.lemmas.Option.{slice_get-get_or}
use Rattle.two_memory_machine_memory.specs.CallInsides.{window, behind_rows, behind_row, call_stack}
use Rattle.two_memory_machine_memory.proofs.Stacked.{next_reaches, next_within, count-behind, stacked_more, behind_more, same_front, rows_same, row_same, row_of}
use Rattle.two_memory_machine_memory.proofs.calls.CallWords.enter.Goals as goal

pub fill_slots-requires-clause-within : goal.fill_slots-requires-clause-within
fill_slots-requires-clause-within c =
    let i = c.self.inside in
    let h = c.self.invariant in
    let f = get_or i.funs.now c.args.function c.index-self-function.result in
    let there : slice_get i.funs.now c.args.function ≡ Some f = slice_get-get_or i.funs.now c.args.function c.index-self-function.result (rw (← c.self.view_is) at c.requires.there) in
    let few : length (call_stack i).behind < 999 = rw (← c.self.view_is) at c.requires.few in
    omega (arith, next_within i h c.args.function f there (omega (arith, few, count-behind i h)), ap length c.as_mut_slice.ensures.value)

pub invariant_of-self : goal.invariant_of-self
invariant_of-self c =
    let i = c.self.inside in
    let h = c.self.invariant in
    let f = get_or i.funs.now c.args.function c.index-self-function.result in
    let there : slice_get i.funs.now c.args.function ≡ Some f = slice_get-get_or i.funs.now c.args.function c.index-self-function.result (rw (← c.self.view_is) at c.requires.there) in
    let few : length (call_stack i).behind < 999 = rw (← c.self.view_is) at c.requires.few in
    let row = row_of i c.args.link in
    let len : length c.fill_slots.new.words ≡ length i.words.items = c.fill_slots.ensures.len ∙ ap length c.as_mut_slice.ensures.value in
    rw (c.slots.ensures.slots, c.stack.ensures.stack)
    (record {
      there = there;
      ops = c.ops-self-inside.ensures.ops;
      room = refl;
      order = record { slots = omega arith; room = omega arith; stack = omega arith; within = omega (arith, next_reaches i h c.args.function f there) };
      behind = stacked_more i c.args.link h;
      few = omega (arith, few, count-behind i h);
      rows = length-set i.rows.items i.count row ∙ h.rows;
      words = ap length (with_items_is i.words c.fill_slots.new.words (omega (arith, len, i.words.ok.0))) ∙ len ∙ h.words;
      frames = h.frames;
      stride = h.stride;
    })

pub returns : goal.returns
returns c = λ f found.
    let i = c.self.inside in
    let h = c.self.invariant in
    let words = i.words.items in
    let all = c.fill_slots.new.words in
    let base = i.extent.end in
    let g = get_or i.funs.now c.args.function c.index-self-function.result in
    let there : slice_get i.funs.now c.args.function ≡ Some g = slice_get-get_or i.funs.now c.args.function c.index-self-function.result (rw (← c.self.view_is) at c.requires.there) in
    let f_is : g ≡ f = let back : Some g ≡ Some f = sym there ∙ rw (← c.self.view_is) at found in cc in
    let few : length (call_stack i).behind < 999 = rw (← c.self.view_is) at c.requires.few in
    let within = next_within i h c.args.function g there (omega (arith, few, count-behind i h)) in
    let row = row_of i c.args.link in
    let len : length all ≡ length words = c.fill_slots.ensures.len ∙ ap length c.as_mut_slice.ensures.value in
    let items = with_items_is i.words all (omega (arith, len, i.words.ok.0)) in
    let size : base + g.slots - base ≡ g.slots = omega arith in
    let slots : window base (base + g.slots) all ≡ c.args.words.now ++ replicate (g.slots - length c.args.words.now) 0 = (rw c.slots.ensures.slots at c.fill_slots.ensures.slots) ∙ ap (λ n. c.args.words.now ++ replicate (n - length c.args.words.now) 0) size in
    let end = base + g.slots + g.stack in
    let stack : window end end all ≡ [] = drop_all end (take end all) (omega (arith, length-take-le end all (omega (arith, within, len)))) in
    let front = same_front base all words (c.fill_slots.ensures.front ∙ ap (take base) c.as_mut_slice.ensures.value) in
    let first : behind_row all row ≡ behind_row words row = row_same row base all words (record { slots = h.order.slots; room = h.order.room; stack = h.order.stack; within = omega arith }) front in
    let later : behind_rows all i.rows.items i.count ≡ behind_rows words i.rows.items i.count =
    rows_same i.funs.now i.stride i.rows.items i.count i.extent.base all words h.behind (record { front = λ high k. front.front high (omega (arith, k, h.order.slots, h.order.room, h.order.stack)) }) in
    let behind : behind_rows all (slice_set i.rows.items i.count row) (i.count + 1) ≡ behind_row words row ∷ behind_rows words i.rows.items i.count =
    behind_more all i.rows.items i.count row (omega (arith, h.few, h.rows)) ∙ rw (first, later) refl in
    rw (← c.self.view_is, c.slots.ensures.slots, c.stack.ensures.stack, items, slots, stack, behind, f_is) refl
