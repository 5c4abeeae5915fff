use Rattle.std.proofs.Common.{◌≡◌, take, refl, arith}
use Rattle.std.specs.Prelude.{slice_set}
use Rattle.std.proofs.Math.ListN.{length-set}
use Rattle.std.proofs.Math.Seq.{take-set-lt}
use Rattle.sandbox_actor_code.proofs.call_frame.CallFrame.set.Goals as goal

pub returns-clause-after : goal.returns-clause-after
returns-clause-after c =
    let i = c.self.inside in
    let slots : take i.used (slice_set i.slots.items c.args.k c.args.word) ≡ slice_set (take i.used i.slots.items) c.args.k c.args.word =
    take-set-lt i.used i.slots.items c.args.k c.args.word (omega (arith, c.if-at-self.false)) in
    rw (← c.self.view_is, slots, length-set i.slots.items c.args.k c.args.word) refl
