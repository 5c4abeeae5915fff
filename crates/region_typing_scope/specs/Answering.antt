-- Inside: what the code of a rule answers, and what it leaves known.
use Rattle.std.specs.Prelude.{◌≡◌, Result, Ok, Err}
use Rattle.region_typing_rules.specs.Verdicts.{Verdict, Passes, Breaks, Unnamed}
use Rattle.region_typing_scope.specs.declared.refusals.CheckError.{CheckError}
use Rattle.region_typing_scope.specs.declared.refusals.CheckError.TheVariants as errors

abbrev pub answers_so : {C A : Type 0} → (C → A) → Verdict A → Result C CheckError → Type 0
answers_so view verdict (Ok c) = verdict ≡ Passes (view c)
answers_so view verdict (Err (errors.Source fault)) = verdict ≡ Breaks fault
answers_so view verdict (Err errors.Unnamed) = verdict ≡ Unnamed
answers_so view verdict (Err errors.NoMemory) = Unit {0}

-- the answer is the verdict's value, as it is viewed, or the fault of the rule that is broken, or that a name stands for nothing;
-- memory may run out
pub record Answers {C A : Type 0} (view : C → A) (verdict : Verdict A) (result : Result C CheckError) : Type 0 where
  pub so : answers_so view verdict result
