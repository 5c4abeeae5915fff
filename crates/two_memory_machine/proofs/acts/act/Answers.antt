use Rattle.std.proofs.Common.{[]}
use Rattle.act_words.specs.Acts.{act_view}
use Rattle.two_memory_machine_states.specs.Machines.{TakesAct}
use Rattle.two_memory_machine_states.proofs.Moving.{act_over}
use Rattle.two_memory_machine_states.proofs.Ends.{act_sooner}
use Rattle.two_memory_machine.proofs.Turns.{IsTouching, touches, IsWaiting, waits, before_touch, in_sandbox}
use Rattle.two_memory_machine.proofs.acts.act.Goals as goal
use Rattle.two_memory_machine.proofs.acts.act.Goals.{In-Trusted, In-Sandbox, After-act_before_touch, After-act_in_sandbox}

trusted : (c : In-Trusted) → IsTouching c.count_act.new.self.over c.count_act.new.self.doing
trusted c = touches c.args.machine.now c.count_act.new.self c.turn.result c.count_act.ensures.counts c.requires c.turn.ensures c.in-Trusted.is

sandbox : (c : In-Sandbox) → IsWaiting c.count_act.new.self.over c.count_act.new.self.doing
sandbox c = waits c.args.machine.now c.count_act.new.self c.turn.result c.count_act.ensures.counts c.requires c.turn.ensures c.in-Sandbox.is

pub act_before_touch-requires-clause-going : goal.act_before_touch-requires-clause-going
act_before_touch-requires-clause-going c = (trusted (goal.at.act_before_touch-requires-clause-going c).In-Trusted).going

pub act_before_touch-requires-clause-touches : goal.act_before_touch-requires-clause-touches
act_before_touch-requires-clause-touches c = ((trusted (goal.at.act_before_touch-requires-clause-touches c).In-Trusted).touch, (trusted (goal.at.act_before_touch-requires-clause-touches c).In-Trusted).is)

pub act_in_sandbox-requires-clause-going : goal.act_in_sandbox-requires-clause-going
act_in_sandbox-requires-clause-going c = (sandbox (goal.at.act_in_sandbox-requires-clause-going c).In-Sandbox).going

pub act_in_sandbox-requires-clause-suspended : goal.act_in_sandbox-requires-clause-suspended
act_in_sandbox-requires-clause-suspended c = rw (sandbox (goal.at.act_in_sandbox-requires-clause-suspended c).In-Sandbox).is _

touched : (c : After-act_before_touch) → TakesAct c.args.machine.now (act_view c.args.act.now) c.act_before_touch.result c.act_before_touch.new.machine
touched c =
    let t = touches c.args.machine.now c.count_act.new.self c.turn.result c.count_act.ensures.counts c.requires c.turn.ensures c.in-Trusted.is in
    before_touch c.args.machine.now c.count_act.new.self c.act_before_touch.new.machine c.act_before_touch.result t.touch (act_view c.args.act.now) c.count_act.ensures.counts t.is (c.act_before_touch.ensures t.touch t.is)

passed : (c : After-act_in_sandbox) → TakesAct c.args.machine.now (act_view c.args.act.now) c.act_in_sandbox.result c.act_in_sandbox.new.machine
passed c =
    let w = waits c.args.machine.now c.count_act.new.self c.turn.result c.count_act.ensures.counts c.requires c.turn.ensures c.in-Sandbox.is in
    in_sandbox c.args.machine.now c.count_act.new.self c.act_in_sandbox.new.machine c.act_in_sandbox.result w.import w.place (act_view c.args.act.now) c.count_act.ensures.counts w.is c.act_in_sandbox.ensures

pub returns-in-Trusted : goal.returns-in-Trusted
returns-in-Trusted c =
    record {
      takes = touched c;
      over = act_over [] [] _ _ c.args.machine.now c.act_before_touch.new.machine c.act_before_touch.result (touched c [] [] []);
      sooner = act_sooner c.args.machine.now c.act_before_touch.new.machine (act_view c.args.act.now) c.act_before_touch.result c.count_act.ensures.paced c.requires (touched c);
    }

pub returns-in-Sandbox : goal.returns-in-Sandbox
returns-in-Sandbox c =
    record {
      takes = passed c;
      over = act_over [] [] _ _ c.args.machine.now c.act_in_sandbox.new.machine c.act_in_sandbox.result (passed c [] [] []);
      sooner = act_sooner c.args.machine.now c.act_in_sandbox.new.machine (act_view c.args.act.now) c.act_in_sandbox.result c.count_act.ensures.paced c.requires (passed c);
    }
