use Rattle.std.proofs.Common.{◌≡◌, Option, None, refl, subst, sym, ap}
use Rattle.std.specs.Prelude.{option_map}
use Rattle.act_words.specs.Acts.{Seen, seen_view}
use Rattle.sandbox_actor_code.specs.Answering.{taken_of}
use Rattle.sandbox_actor_code.specs.Codes.{Code, Shows, at_rest}
use Rattle.sandbox_actor_code.proofs.Shown.{stops_by}
use Rattle.sandbox_actor_code.proofs.code_actor.CodeActor.wake.Goals as goal

pub returns-in-None : goal.returns-in-None
returns-in-None c =
    let m : Code = c.args.self.now in
    let seen : option_map seen_view c.args.last.now ≡ None = ap (option_map seen_view) c.in-None.is in
    subst (λ (o : Option Seen). Shows (taken_of o) (at_rest m) m c.stop.result c.stop.new.self) (sym seen)
    (stops_by m c.stop.new.self (at_rest m) None c.stop.result (at_rest m) (λ n. refl) c.stop.ensures)
