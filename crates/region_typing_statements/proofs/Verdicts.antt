-- Rules behind one another.
use Rattle.std.proofs.Common.{◌≡◌, refl}
use Rattle.region_typing_rules.specs.Verdicts.{Verdict, Passes, Stops, passing}

pub same_behind : {A B : Type 0} (v : Verdict A) (f g : A → Verdict B) → ((x : A) → f x ≡ g x) → passing v f ≡ passing v g
same_behind (Passes x) f g same = same x
same_behind (Stops stop) f g same = refl

pub in_parts : {A B C : Type 0} (v : Verdict A) (f : A → Verdict B) (g : B → Verdict C) → passing (passing v f) g ≡ passing v (λ x. passing (f x) g)
in_parts (Passes x) f g = refl
in_parts (Stops stop) f g = refl
