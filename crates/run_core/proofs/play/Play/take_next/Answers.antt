use Rattle.std.proofs.Common.{Ok, subst}
use Rattle.std.proofs.lemmas.Result.{err_from_is_err_and}
use Rattle.act_words.specs.Acts.{act_view}
use Rattle.two_memory_machine.specs.Machines.{turn_of}
use Rattle.run_core.specs.Asked.{AskAnswers, AskLowers}
use Rattle.run_core.specs.Progress.{moment_in}
use Rattle.run_core.proofs.Playing.{played_take, played_none, played_stops, act_short, none_short}
use Rattle.run_core.proofs.Nearing.{act_nears, none_nears}
use Rattle.run_core.proofs.play.Play.take_next.Goals as goal

pub returns-in_err-act-clause-goes : goal.returns-in_err-act-clause-goes
returns-in_err-act-clause-goes g c = λ image settings inputs first played.
    let p = err_from_is_err_and c.from_residual.result c.from_residual.ensures.1 in
    rw (p.1, p.2)
    (played_stops g.A.Actor.answers _ image settings inputs first _ _ c.args.self.now c.in_err-act.field-0.0 c.requires c.in_err-act.ensures.answer played)

pub returns-in_ok-take-in-Some-clause-goes : goal.returns-in_ok-take-in-Some-clause-goes
returns-in_ok-take-in-Some-clause-goes g c = λ image settings inputs first played.
    let answered = subst (λ o. AskAnswers g.A.Actor.answers (g.F.Shelf.files c.args.shelf.now) (moment_in c.args.self.now) c.args.self.now.ended (g.A.Actor.state_of c.args.actor.now) (g.A.Actor.state_of c.ask.new.actor) (Ok o)) c.in-Some.is c.in_ok-act.ensures.answer in
    played_take g.A.Actor.answers _ image settings inputs first _ _ c.args.self.now c.take.new.self c.requires (act_view c.in-Some.act) c.in_ok-take-in-Some.ensures.takes answered.0 answered.1 played

pub returns-in_ok-take-in-Some-clause-nears : goal.returns-in_ok-take-in-Some-clause-nears
returns-in_ok-take-in-Some-clause-nears g c =
    act_nears _ (act_view c.in-Some.act) c.args.self.now.machine c.take.new.self.machine _ _ c.in_ok-take-in-Some.ensures.nears
    (subst (λ o. AskLowers (turn_of c.args.self.now.machine.doing) (Ok o) (g.A.Actor.measure c.args.actor.now) (g.A.Actor.measure c.ask.new.actor)) c.in-Some.is c.in_ok-act.ensures.lowers)

pub returns-in_ok-take_none-in-None-clause-goes : goal.returns-in_ok-take_none-in-None-clause-goes
returns-in_ok-take_none-in-None-clause-goes g c = λ image settings inputs first played.
    let answered = subst (λ o. AskAnswers g.A.Actor.answers (g.F.Shelf.files c.args.shelf.now) (moment_in c.args.self.now) c.args.self.now.ended (g.A.Actor.state_of c.args.actor.now) (g.A.Actor.state_of c.ask.new.actor) (Ok o)) c.in-None.is c.in_ok-act.ensures.answer in
    played_none g.A.Actor.answers _ image settings inputs first _ _ c.args.self.now c.take_none.new.self c.requires c.in_ok-take_none-in-None.ensures.takes answered played

pub returns-in_ok-take_none-in-None-clause-nears : goal.returns-in_ok-take_none-in-None-clause-nears
returns-in_ok-take_none-in-None-clause-nears g c =
    none_nears _ c.args.self.now.machine c.take_none.new.self.machine _ _ c.in_ok-take_none-in-None.ensures.moves c.in_ok-take_none-in-None.ensures.nears

pub returns-in_err-take-in-Some-clause-goes : goal.returns-in_err-take-in-Some-clause-goes
returns-in_err-take-in-Some-clause-goes g c = λ image settings inputs first played.
    let p = err_from_is_err_and c.from_residual-in_err-take-in-Some.result c.from_residual-in_err-take-in-Some.ensures.1 in
    let answered = subst (λ o. AskAnswers g.A.Actor.answers (g.F.Shelf.files c.args.shelf.now) (moment_in c.args.self.now) c.args.self.now.ended (g.A.Actor.state_of c.args.actor.now) (g.A.Actor.state_of c.ask.new.actor) (Ok o)) c.in-Some.is c.in_ok-act.ensures.answer in
    rw (p.1, p.2) (act_short g.A.Actor.answers _ image settings inputs first _ _ c.args.self.now (act_view c.in-Some.act) c.requires answered.0 answered.1 played)

pub returns-in_err-take_none-in-None-clause-goes : goal.returns-in_err-take_none-in-None-clause-goes
returns-in_err-take_none-in-None-clause-goes g c = λ image settings inputs first played.
    let p = err_from_is_err_and c.from_residual-in_err-take_none-in-None.result c.from_residual-in_err-take_none-in-None.ensures.1 in
    let answered = subst (λ o. AskAnswers g.A.Actor.answers (g.F.Shelf.files c.args.shelf.now) (moment_in c.args.self.now) c.args.self.now.ended (g.A.Actor.state_of c.args.actor.now) (g.A.Actor.state_of c.ask.new.actor) (Ok o)) c.in-None.is c.in_ok-act.ensures.answer in
    rw (p.1, p.2) (none_short g.A.Actor.answers _ image settings inputs first _ _ c.args.self.now c.requires answered played)
