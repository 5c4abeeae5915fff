-- What a rule answers.
use Rattle.std.specs.Prelude.{Bool, true, false, Option, Some, None}
use Rattle.ckc_text.specs.declared.code.Code.{Code}
use Rattle.ckc_text.specs.declared.fault.SourceFault.{SourceFault}
use Rattle.ckc_text.specs.declared.place.Span.{Span}

-- why a walk ends before the whole program is walked
pub data Stop : Type 0 where
  -- a rule is broken
  Broken : (fault : SourceFault) → Stop
  -- a name stands for nothing, of which no rule speaks: naming refuses such a program before
  Nameless : Stop

-- a value where no rule is broken so far, or why the walk ends
pub data Verdict (A : Type 0) : Type 0 where
  Passes : (value : A) → Verdict A
  Stops : (stop : Stop) → Verdict A

-- the fault of the first rule that is broken
abbrev pub Breaks : {A : Type 0} → SourceFault → Verdict A
Breaks fault = Stops (Broken fault)

abbrev pub Unnamed : {A : Type 0} → Verdict A
Unnamed = Stops Nameless

-- goes on where no rule is broken
abbrev pub passing : {A B : Type 0} → Verdict A → (A → Verdict B) → Verdict B
passing (Passes value) next = next value
passing (Stops stop) next = Stops stop

-- breaks at a span where a test fails
abbrev pub needs : {A : Type 0} → Bool → Code → Span → Verdict A → Verdict A
needs true code span next = next
needs false code span next = Breaks (record { code = code; span = span })

-- breaks a rule
abbrev pub breaks : {A : Type 0} → Code → Span → Verdict A
breaks code span = Breaks (record { code = code; span = span })

-- what a name stands for
abbrev pub meant : {A : Type 0} → Option A → Verdict A
meant None = Unnamed
meant (Some value) = Passes value

-- the first where a test holds, and else the second
abbrev pub picked : {A : Type 0} → Bool → A → A → A
picked true first second = first
picked false first second = second
