-- Where the acts of a run come from: from a file of act lines, or from the sandbox's own code.
use Rattle.std.specs.Prelude.{◌≡◌, ℕ, List, Option, Some, None, option_map}
use Rattle.ckc_io.specs.Files.{Files, file_at}
use Rattle.act_words.specs.declared.settings.Settings.{Settings}
use Rattle.act_words.specs.Acts.{Act}
use Rattle.act_words.specs.View.{acts_of}
use Rattle.act_words.specs.World.{Event}
use Rattle.sandbox_actor.specs.Answers.{Moment, Answer, Gives, Ended, Refused, Missing}
use Rattle.sandbox_actor.specs.ActLists.{ActList, RefusedLine, acts_of_file}
use Rattle.sandbox_actor_code.specs.Answering.{CodeState, CodeAnswers, code_at_start, stopped_act}
use Rattle.run_core.specs.Gave.{Gave}
use Rattle.run_core.specs.Moments.{due_in}
use Rattle.ccbox_call.specs.Programs.{Program, Meant, Coded}

pub data Supply : Type 0 where
  -- the acts of a file, and the line of it that is refused behind them, if there is one
  Listed : (list : ActList) → Supply
  -- those of the sandbox's own code
  Own : Supply

-- what an option asks for, where its file is there
abbrev pub supply_at : Files → Option (List ℕ) → Option Supply
supply_at files None = Some Own
supply_at files (Some name) = option_map (λ file. Listed (acts_of_file file)) (file_at files name)

-- ---- own code

-- the sandbox's code of an image, as an actor
abbrev pub FromCode : CodeState → Option Files → Moment → Answer → CodeState → Type 0
FromCode before files now answer after = CodeAnswers before now answer after

-- the tainted functions of a source have no bodies: each touch is let through, and the sandbox ends once it has the turn
abbrev pub WithoutBodies : Unit {0} → Option Files → Moment → Answer → Unit {0} → Type 0
WithoutBodies before files now (Gives act) after = act ≡ stopped_act now.turn
WithoutBodies before files now Ended after = ⊥
WithoutBodies before files now (Refused line code) after = ⊥
WithoutBodies before files now Missing after = ⊥

-- the acts of these events are those of a program's own sandbox code, from the run's start on
abbrev pub IsOwn : Program → Settings → List Event → Type 0
IsOwn (Meant c) settings events = Gave WithoutBodies None tt None events tt
IsOwn (Coded image) settings events = (after : CodeState) × Gave FromCode None (code_at_start image settings.budget) None events after

-- ---- supplies

-- a run of a program over these acts, with these events, has its acts from here. Own code makes one act after another, and no more
abbrev pub Supplied : Program → Settings → Supply → List Act → List Event → Type 0
Supplied program settings (Listed list) acts events = acts ≡ list.acts
Supplied program settings Own acts events = (acts ≡ acts_of events) × IsOwn program settings events

-- the line that a run needs and that is refused: an act was due behind the last, and there a line is refused
abbrev pub needed_from : Option Moment → ActList → Option RefusedLine
needed_from None list = None
needed_from (Some moment) list = list.refused

abbrev pub needed_line : Supply → List Event → Option RefusedLine
needed_line (Listed list) events = needed_from (due_in events) list
needed_line Own events = None
