use Rattle.std.proofs.Common.{◌∙◌, subst}
use Rattle.run_core.specs.Progress.{Played}
use Rattle.run_core.proofs.Playing.{played_ends}
use Rattle.run_core.proofs.play.Play.to_end.Goals as goal

pub returns-in-Some-clause-ends : goal.returns-in-Some-clause-ends
returns-in-Some-clause-ends g c = λ image settings inputs first played.
    let at = c.loop-ending.invariant in
    let goes = subst (λ files. Played g.A.Actor.answers files image settings inputs first (g.A.Actor.state_of c.loop-ending.actor) c.loop-ending.self → Played g.A.Actor.answers files image settings inputs first (g.A.Actor.state_of c.go_on.new.actor) c.go_on.new.self) at.files (c.in_ok-ending.ensures.goes image settings inputs first) in
    played_ends g.A.Actor.answers _ image settings inputs first _ c.go_on.new.self c.in-Some.ending (c.in_ok-ending.ensures.over ∙ c.in-Some.is) (goes (at.goes image settings inputs first played))
