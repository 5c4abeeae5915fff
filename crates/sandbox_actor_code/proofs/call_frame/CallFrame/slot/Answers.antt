use Rattle.std.proofs.lemmas.Grind.{elements}
use Rattle.std.proofs.Common.{rules, arith}
use Rattle.sandbox_actor_code.proofs.call_frame.CallFrame.slot.Goals as goal

pub slice_bounds-get-end : goal.slice_bounds-get-end
slice_bounds-get-end c = search rules

pub returns : goal.returns
returns c = grind (arith, elements)
