-- What was shown last, and the first act that was due, in more events.
use Rattle.std.proofs.Common.{◌≡◌, List, [], ◌∷◌, ◌++◌, Option, Some, None, refl, ap}
use Rattle.act_words.specs.Acts.{Seen}
use Rattle.act_words.specs.World.{Event, Took, Output, Released, Showed, NoAct}
use Rattle.run_core.specs.Moments.{due_from, before_due}
use Rattle.run_core.specs.Touched.{last_of}

pub last_of-append : (last : Option Seen) (events more : List Event) → last_of last (events ++ more) ≡ last_of (last_of last events) more
last_of-append last [] more = refl
last_of-append last (Took turn act ∷ events) more = last_of-append last events more
last_of-append last (Output bytes ∷ events) more = last_of-append last events more
last_of-append last (Released release ∷ events) more = last_of-append last events more
last_of-append last (Showed seen ∷ events) more = last_of-append (Some seen) events more
last_of-append last (NoAct turn ∷ events) more = last_of-append last events more

-- where no act was due, one is due later on
pub due_from-append : (last : Option Seen) (events more : List Event) → due_from last events ≡ None → due_from last (events ++ more) ≡ due_from (last_of last events) more
due_from-append last [] more h = refl
due_from-append last (Took turn act ∷ events) more h = due_from-append last events more h
due_from-append last (Output bytes ∷ events) more h = due_from-append last events more h
due_from-append last (Released release ∷ events) more h = due_from-append last events more h
due_from-append last (Showed seen ∷ events) more h = due_from-append (Some seen) events more h
due_from-append last (NoAct turn ∷ events) more h = cc

pub before_due-append : (last : Option Seen) (events more : List Event) → due_from last events ≡ None → before_due (events ++ more) ≡ events ++ before_due more
before_due-append last [] more h = refl
before_due-append last (Took turn act ∷ events) more h = ap (λ es. Took turn act ∷ es) (before_due-append last events more h)
before_due-append last (Output bytes ∷ events) more h = ap (λ es. Output bytes ∷ es) (before_due-append last events more h)
before_due-append last (Released release ∷ events) more h = ap (λ es. Released release ∷ es) (before_due-append last events more h)
before_due-append last (Showed seen ∷ events) more h = ap (λ es. Showed seen ∷ es) (before_due-append (Some seen) events more h)
before_due-append last (NoAct turn ∷ events) more h = cc
