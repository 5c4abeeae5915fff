use Rattle.std.proofs.lemmas.Grind.{elements}
use Rattle.std.proofs.Common.{◌≡◌, ◌+◌, ◌-◌, ◌*◌, ◌≤◌, [], length, take, replicate, refl, sym, ap, ◌∙◌, arith, rules}
use Rattle.std.proofs.Math.Nat.{sub-zero}
use Rattle.std.proofs.lemmas.List.{drop_all, length-take-le, length-replicate, take-replicate}
use Rattle.std.proofs.lemmas.Option.{get_or_from_slice_get}
use Rattle.two_memory_machine_memory.specs.CallInsides.{window}
use Rattle.two_memory_machine_memory.proofs.calls.CallWords.start.Goals as goal

pub returns : goal.returns
returns c = λ f found.
    let g = c.index-funs-function.result in
    let k = c.args.function in
    let f_is : g ≡ f = c.index-funs-function.is ∙ get_or_from_slice_get c.args.funs.now k f g found in
    let words = c.in_ok-vec.field-0.items in
    let widest = c.widest-stride.result in
    let fits : g.slots + g.stack ≤ widest = rw (← c.index-funs-function.is) at (c.widest-stride.ensures.each k g c.requires) in
    let zeros : words ≡ replicate (widest * 1000) 0 = search rules in
    let slots : window 0 g.slots words ≡ replicate (g.slots - 0) 0 =
    ap (take g.slots) zeros ∙ take-replicate g.slots (widest * 1000) 0 (omega (arith, fits)) ∙ ap (λ n. replicate n 0) (sym (sub-zero g.slots)) in
    let len : length words ≡ widest * 1000 = ap length zeros ∙ length-replicate (widest * 1000) 0 in
    let stack : window (g.slots + g.stack) (g.slots + g.stack) words ≡ [] = drop_all (g.slots + g.stack) (take (g.slots + g.stack) words) (omega (arith, length-take-le (g.slots + g.stack) words (omega (arith, fits, len)))) in
    rw (c.slots-room.ensures.slots, c.stack.ensures.stack, slots, stack, f_is) refl

pub overflow_mul-stride : goal.overflow_mul-stride
overflow_mul-stride c = search rules

pub returns-in_err-vec : goal.returns-in_err-vec
returns-in_err-vec c = search rules

pub from_residual-requires-in_err-vec-2 : goal.from_residual-requires-in_err-vec-2
from_residual-requires-in_err-vec-2 c κs = search rules

pub returns-in_err-vec-2 : goal.returns-in_err-vec-2
returns-in_err-vec-2 c = search rules

pub invariant_of-result : goal.invariant_of-result
invariant_of-result c = grind (arith, elements)
