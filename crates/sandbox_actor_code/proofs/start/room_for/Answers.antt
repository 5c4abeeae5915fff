use Rattle.std.proofs.Common.{get_or, below_more, arith}
use Rattle.std.proofs.lemmas.List.{get_or_default}
use Rattle.sandbox_actor_code.specs.CallFrames.{IsRoomFor}
use Rattle.sandbox_actor_code.proofs.start.room_for.Goals as goal

pub loop-fun-preserved : goal.loop-fun-preserved
loop-fun-preserved c =
    let funs = c.args.funs.now in
    let i = c.loop-fun.fun-index in
    let f = c.fun-item.result in
    λ k d. below_more (λ j. IsRoomFor (get_or funs j d) c.with-room.result) i
    (λ j h.
    let before = c.loop-fun.invariant j d h in
    record { slots = omega (arith, before.slots, c.with-room.ensures.slots); stack = omega (arith, before.stack, c.with-room.ensures.stack) })
    (rw (get_or_default funs i d f c.loop-fun-test.true, ← c.fun-item.is) c.with-room.ensures.there) k

pub returns : goal.returns
returns c = λ k d h. c.loop-fun.invariant k d (omega (arith, c.loop-fun-test.false))
