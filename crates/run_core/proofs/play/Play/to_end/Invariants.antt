use Rattle.std.proofs.Common.{◌≡◌, None, List, ℤ}
use Rattle.act_words.specs.declared.settings.Settings.{Settings}
use Rattle.code_words.specs.declared.image.Image.{Image}
use Rattle.two_memory_machine.specs.Machines.{moves_left}
use Rattle.run_core.specs.Progress.{Played}
use Rattle.run_core.proofs.play.Play.to_end.Given as goal

-- the run goes on, and what was reached at its start leads here
abbrev pub invariant-loop-ending : goal.invariant-loop-ending
invariant-loop-ending g l =
    record {
      running : l.self.machine.over ≡ None;
      goes :
          (image : Image) (settings : Settings) (inputs : List ℤ) (first : g.A.Actor.State)
          → Played g.A.Actor.answers (g.F.Shelf.files l.fn.shelf) image settings inputs first (g.A.Actor.state_of l.fn.actor) l.fn.self
          → Played g.A.Actor.answers (g.F.Shelf.files l.fn.shelf) image settings inputs first (g.A.Actor.state_of l.actor) l.self;
      settings : l.self.settings ≡ l.fn.self.settings;
      files : g.F.Shelf.files l.shelf ≡ g.F.Shelf.files l.fn.shelf;
      misses : g.F.Shelf.misses l.shelf ≡ g.F.Shelf.misses l.fn.shelf;
      faults : g.F.Shelf.faults l.shelf ≡ g.F.Shelf.faults l.fn.shelf;
    }

abbrev pub decreases-loop-ending : goal.decreases-loop-ending
decreases-loop-ending g l = moves_left l.self.machine
