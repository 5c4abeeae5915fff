use Rattle.std.proofs.Common.{subst, inl, inr, ⊎_elim}
use Rattle.act_words.specs.declared.act.Turn.TheVariants as turns
use Rattle.code_words.specs.Left.{LeavesTurn}
use Rattle.code_words.proofs.Left.{Falls, Sooner, runs-falls, touches-sooner, away-sooner}
use Rattle.code_words.proofs.laws.moves_fall.Goals as goal

pub returns : goal.returns
returns c =
    record {
      instructions = λ image settings f s t paced runs e. subst (Falls image settings paced s) e (runs-falls image settings paced f s runs);
      touches = λ image settings f touch act acts s t paced waits some e.
          ⊎_elim (λ less. inl less) (λ same. inr (same.0, same.2)) (subst (Sooner image settings paced (LeavesTurn act turns.Trusted) s) e (touches-sooner image settings paced f touch act acts s waits some));
      sandbox = λ image settings act acts s t paced away some e.
          ⊎_elim (λ less. inl less) (λ same. inr (same.0, same.2)) (subst (Sooner image settings paced (LeavesTurn act turns.Sandbox) s) e (away-sooner image settings paced act acts s away some));
    }
