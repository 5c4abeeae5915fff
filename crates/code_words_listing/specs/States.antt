-- For private clauses: the state of a listing that a state of reading stands for.
use Rattle.code_words.specs.Functions.{Func}
use Rattle.code_words_listing.specs.declared.states.State as reading
use Rattle.code_words_listing.specs.declared.states.State.TheVariants as at
use Rattle.code_words_listing.specs.declared.states.Continued.{Continued}
use Rattle.code_words_listing.specs.declared.states.Continued.TheVariants as goes
use Rattle.code_words_listing.specs.Steps.{State, Start, Headed, InTrusted, InCallback, InFunction, InSandbox, InBody, Closed, no_side}
use Rattle.code_words_listing.specs.Drafts.{side, image, callback, function}

abbrev pub seen : reading.State → State
seen at.Start = Start
seen at.Headed = Headed
seen (at.Trusted d) = InTrusted (image d no_side)
seen (at.Callback d c left) = InCallback (image d no_side) (callback c) left
seen (at.Function d f) = InFunction (image d no_side) (function f)
seen (at.Sandbox d s) = InSandbox (image d (side s))
seen (at.Body d s f) = InBody (image d (side s)) (function f)
seen (at.Closed d s) = Closed (image d (side s))

-- the state where a function goes on, or is whole
abbrev pub behind : (Func → State) → (Func → State) → Continued → State
behind more whole (goes.More f) = more (function f)
behind more whole (goes.Whole f) = whole f
