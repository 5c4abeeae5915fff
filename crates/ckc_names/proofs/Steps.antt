-- What a mention does to a walk over names.
use Rattle.std.proofs.Common.{◌≡◌, ℕ, true, false, List, [], ◌∷◌, Result, Ok, Err, is_ok, refl, true≢false, sym}
use Rattle.ckc_text.specs.declared.fault.Refused.{Refused}
use Rattle.ckc_text.specs.declared.fault.Refused.TheVariants.{Source, NoMemory}
use Rattle.ckc_text.specs.declared.fault.SourceFault.{SourceFault}
use Rattle.ckc_names_rules.specs.Mentions.{Mention}
use Rattle.ckc_names_rules.specs.Scopes.{Scopes, mentioned, then_mentioned, all_mentioned}
use Rattle.ckc_names_rules.specs.Naming.{name_in, with_all}
use Rattle.ckc_names.specs.State.{State, Goes}
use Rattle.ckc_names.specs.Progress.{Passes, progress, known_behind}

known_then : (q : Result Scopes SourceFault) (names : List (List ℕ)) (t : State) → then_mentioned q (all_mentioned []) ≡ Ok t.scopes → names ≡ t.names → Ok t ≡ known_behind names q
known_then (Ok s) names t is same = let scopes : s ≡ t.scopes = cc in rw (scopes, same) refl
known_then (Err f) names t is same = absurd (cc)

fault_then : (q : Result Scopes SourceFault) (names : List (List ℕ)) (f : SourceFault) → then_mentioned q (all_mentioned []) ≡ Err f → Err f ≡ known_behind names q
fault_then (Ok s) names f is = absurd (cc)
fault_then (Err g) names f is = let same : g ≡ f = cc in rw same refl

from_ok : (m : Mention) (r : Result (Unit {0}) Refused) (s t : State) → Goes (m ∷ []) s r t → Passes (m ∷ []) (progress s (Ok tt)) (progress t r)
from_ok m (Ok done) s t goes = record { passed = λ whole. (refl, known_then (mentioned m s.scopes) (with_all (name_in m) s.names) t goes.so.0 goes.so.1) }
from_ok m (Err (Source f)) s t goes = record { passed = λ whole. (refl, fault_then (mentioned m s.scopes) (with_all (name_in m) s.names) f goes.so) }
from_ok m (Err NoMemory) s t goes = record { passed = λ whole. absurd (true≢false (sym whole)) }

-- a mention is gone over where the walk goes on
pub steps : (m : Mention) (o r : Result (Unit {0}) Refused) (s t : State) → is_ok o ≡ true → Goes (m ∷ []) s r t → Passes (m ∷ []) (progress s o) (progress t r)
steps m (Ok done) r s t goes_on goes = from_ok m r s t goes
steps m (Err e) r s t goes_on goes = absurd (true≢false (sym goes_on))
