use Rattle.std.proofs.Common.{refl}
use Rattle.std.specs.Prelude.{option_map}
use Rattle.act_words.specs.Acts.{seen_view}
use Rattle.sandbox_actor_code.specs.Codes.{Code, state_in}
use Rattle.sandbox_actor_code.proofs.Led.{answers_at_once, answers_then}
use Rattle.sandbox_actor_code.proofs.code_actor.CodeActor.answer.Goals as goal

pub returns-in-Some-clause-answers : goal.returns-in-Some-clause-answers
returns-in-Some-clause-answers c =
    let m : Code = c.args.self.now in
    (answers_at_once m (option_map seen_view c.args.last.now) c.show.new.self c.in-Some.act (state_in m.phase m) c.in-Some.ensures).0

pub returns-in-Some-clause-same : goal.returns-in-Some-clause-same
returns-in-Some-clause-same c =
    let m : Code = c.args.self.now in
    (answers_at_once m (option_map seen_view c.args.last.now) c.show.new.self c.in-Some.act (state_in m.phase m) c.in-Some.ensures).2

pub returns-in-Some-clause-lowers : goal.returns-in-Some-clause-lowers
returns-in-Some-clause-lowers c =
    let m : Code = c.args.self.now in
    rw (answers_at_once m (option_map seen_view c.args.last.now) c.show.new.self c.in-Some.act (state_in m.phase m) c.in-Some.ensures).1 tt

pub returns-in-None-clause-answers : goal.returns-in-None-clause-answers
returns-in-None-clause-answers c =
    let m : Code = c.args.self.now in
    (answers_then m (option_map seen_view c.args.last.now) c.show.new.self c.run.new.self c.run.result (state_in m.phase m) refl c.in-None.ensures c.run.ensures).0

pub returns-in-None-clause-same : goal.returns-in-None-clause-same
returns-in-None-clause-same c =
    let m : Code = c.args.self.now in
    (answers_then m (option_map seen_view c.args.last.now) c.show.new.self c.run.new.self c.run.result (state_in m.phase m) refl c.in-None.ensures c.run.ensures).1

pub returns-in-None-clause-lowers : goal.returns-in-None-clause-lowers
returns-in-None-clause-lowers c =
    let m : Code = c.args.self.now in
    (answers_then m (option_map seen_view c.args.last.now) c.show.new.self c.run.new.self c.run.result (state_in m.phase m) refl c.in-None.ensures c.run.ensures).2
