use Rattle.std.proofs.Common.{◌∙◌, subst, arith}
use Rattle.run_core.specs.Progress.{Played, Nears}
use Rattle.run_core.proofs.play.Play.take_turn.Goals as goal

pub turn-preserved : goal.turn-preserved
turn-preserved g c =
    let at = c.turn.invariant in
    let now = c.in_ok-progressed.ensures in
    let near = subst (λ p. Nears p c.turn.self.machine c.take_next.new.self.machine (g.A.Actor.measure c.turn.actor) (g.A.Actor.measure c.take_next.new.actor)) c.in-Stays.is now.nears in
    record {
      asked = near.0;
      goes = λ image settings inputs first played.
          subst (λ files. Played g.A.Actor.answers files image settings inputs first (g.A.Actor.state_of c.turn.actor) c.turn.self → Played g.A.Actor.answers files image settings inputs first (g.A.Actor.state_of c.take_next.new.actor) c.take_next.new.self) at.files (now.goes image settings inputs first) (at.goes image settings inputs first played);
      moves = omega (arith, at.moves, near.1);
      settings = now.settings ∙ at.settings;
      files = now.files ∙ at.files;
      misses = now.counts.0 ∙ at.misses;
      faults = now.counts.1 ∙ at.faults;
    }

pub turn-smaller : goal.turn-smaller
turn-smaller g c =
    (subst (λ p. Nears p c.turn.self.machine c.take_next.new.self.machine (g.A.Actor.measure c.turn.actor) (g.A.Actor.measure c.take_next.new.actor)) c.in-Stays.is c.in_ok-progressed.ensures.nears).2
