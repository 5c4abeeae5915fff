-- Steps that go on or end the run: they aren't stuck and not unsound, and their ticks are enough.
use Rattle.ckc_core.specs.Outcome.{Gives, Ends, Stuck, Unsound, Short, and_then}
use Rattle.ckc_core.specs.States.{State}
use Rattle.ckc_core.specs.Steps.{Result}
use Rattle.region_typing_rules.specs.KnownIsSo.{WhereGiven}

-- what is given is this, or the run ends
abbrev pub Sure : {A : Type 0} → (A → State → Type 0) → Result A → Type 0
Sure P (Gives v s) = P v s
Sure P (Ends ending s) = Unit {0}
Sure P (Stuck site s) = ⊥
Sure P (Unsound site s) = ⊥
Sure P Short = ⊥

pub sure_on : {A B : Type 0} (P : A → State → Type 0) (Q : B → State → Type 0) (o : Result A) (next : A → State → Result B) → Sure P o → ((v : A) (s : State) → P v s → Sure Q (next v s)) → Sure Q (and_then o next)
sure_on P Q (Gives v s) next h more = more v s h
sure_on P Q (Ends ending s) next h more = tt
sure_on P Q (Stuck site s) next h more = h
sure_on P Q (Unsound site s) next h more = h
sure_on P Q Short next h more = h

pub sure_further : {A : Type 0} (P Q : A → State → Type 0) (o : Result A) → Sure P o → ((v : A) (s : State) → P v s → Q v s) → Sure Q o
sure_further P Q (Gives v s) h more = more v s h
sure_further P Q (Ends ending s) h more = tt
sure_further P Q (Stuck site s) h more = h
sure_further P Q (Unsound site s) h more = h
sure_further P Q Short h more = h

-- and it is what was found of it elsewhere
pub sure_both : {A : Type 0} (P Q : A → State → Type 0) (o : Result A) → Sure P o → WhereGiven Q o → Sure (λ v s. P v s × Q v s) o
sure_both P Q (Gives v s) h k = (h, k)
sure_both P Q (Ends ending s) h k = tt
sure_both P Q (Stuck site s) h k = h
sure_both P Q (Unsound site s) h k = h
sure_both P Q Short h k = h

pub sure_given : {A : Type 0} (P : A → State → Type 0) (o : Result A) → Sure P o → WhereGiven P o
sure_given P (Gives v s) h = h
sure_given P (Ends ending s) h = tt
sure_given P (Stuck site s) h = tt
sure_given P (Unsound site s) h = tt
sure_given P Short h = tt
