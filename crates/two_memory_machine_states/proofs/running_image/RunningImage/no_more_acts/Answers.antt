use Rattle.std.proofs.Common.{◌≡◌, [], sym, ap, ◌∙◌}
use Rattle.std.specs.Prelude.{IsTrue}
use Rattle.code_words.specs.Paced.{is_paced}
use Rattle.two_memory_machine_states.specs.Machines.{Machine, TakesEnd, Touching, Suspended}
use Rattle.two_memory_machine_states.specs.Insides.{doing_of, touch_of}
use Rattle.two_memory_machine_states.proofs.Moving.{takes_end, takes_sandbox_end, act_over}
use Rattle.two_memory_machine_states.proofs.Ends.{end_sooner}
use Rattle.two_memory_machine_states.proofs.running_image.RunningImage.no_more_acts.Goals as goal
use Rattle.two_memory_machine_states.proofs.running_image.RunningImage.no_more_acts.Goals.{After-make_touch, After-end_move}

touched : (c : After-make_touch) → TakesEnd c.args.self.now c.make_touch.result c.make_touch.new.self
touched c =
    let touch = touch_of c.in-Touching.touch in
    let waits : c.args.self.now.doing ≡ Touching touch = ap (λ (m : Machine). m.doing) (sym c.self.view_is) ∙ ap doing_of c.in-Touching.is in
    takes_end c.args.self.now c.make_touch.new.self c.make_touch.result touch waits (c.make_touch.ensures touch waits)

ended : (c : After-end_move) → TakesEnd c.args.self.now c.end_move.result c.end_move.new.self
ended c =
    let waits : c.args.self.now.doing ≡ Suspended c.in-Suspended.import c.in-Suspended.place = ap (λ (m : Machine). m.doing) (sym c.self.view_is) ∙ ap doing_of c.in-Suspended.is in
    takes_sandbox_end c.args.self.now c.end_move.new.self c.end_move.result c.in-Suspended.import c.in-Suspended.place waits c.end_move.ensures.line

pub returns-in-Touching-clause-takes : goal.returns-in-Touching-clause-takes
returns-in-Touching-clause-takes c = touched c

pub returns-in-Touching-clause-over : goal.returns-in-Touching-clause-over
returns-in-Touching-clause-over c = act_over [] _ _ _ c.args.self.now c.make_touch.new.self c.make_touch.result (touched c [] [])

pub returns-in-Suspended-clause-takes : goal.returns-in-Suspended-clause-takes
returns-in-Suspended-clause-takes c = ended c

pub returns-in-Suspended-clause-over : goal.returns-in-Suspended-clause-over
returns-in-Suspended-clause-over c = act_over [] _ _ _ c.args.self.now c.end_move.new.self c.end_move.result (ended c [] [])

pub returns-in-Touching-clause-sooner : goal.returns-in-Touching-clause-sooner
returns-in-Touching-clause-sooner c =
    let paced : IsTrue (is_paced c.args.self.now.image) = rw (← c.self.view_is) c.self.invariant.format.paced in
    end_sooner c.args.self.now c.make_touch.new.self c.make_touch.result paced c.requires (touched c)

pub returns-in-Suspended-clause-sooner : goal.returns-in-Suspended-clause-sooner
returns-in-Suspended-clause-sooner c =
    let paced : IsTrue (is_paced c.args.self.now.image) = rw (← c.self.view_is) c.self.invariant.format.paced in
    end_sooner c.args.self.now c.end_move.new.self c.end_move.result paced c.requires (ended c)
