-- How far a walk over the names of a program has come: what it knows, or the first fault, unless memory ran out.
use Rattle.std.specs.Prelude.{◌≡◌, ℕ, Bool, true, false, List, [], ◌∷◌, Result, Ok, Err}
use Rattle.ckc_text.specs.declared.fault.Refused.{Refused}
use Rattle.ckc_text.specs.declared.fault.Refused.TheVariants.{Source, NoMemory}
use Rattle.ckc_text.specs.declared.fault.SourceFault.{SourceFault}
use Rattle.ckc_names_rules.specs.Mentions.{Mention}
use Rattle.ckc_names_rules.specs.Scopes.{Scopes, mentioned}
use Rattle.ckc_names_rules.specs.Naming.{name_in, with_all}
use Rattle.ckc_names.specs.State.{State, nothing_known}

-- what is known behind a mention, where the names before it are known
abbrev pub known_behind : List (List ℕ) → Result Scopes SourceFault → Result State SourceFault
known_behind names (Ok scopes) = Ok (record { scopes = scopes; names = names })
known_behind names (Err fault) = Err fault

abbrev pub step : Mention → Result State SourceFault → Result State SourceFault
step m (Ok s) = known_behind (with_all (name_in m) s.names) (mentioned m s.scopes)
step m (Err fault) = Err fault

-- what is known behind mentions in their order
abbrev pub after : List Mention → Result State SourceFault → Result State SourceFault
after [] known = known
after (m ∷ mentions) known = after mentions (step m known)

pub record Progress : Type 0 where
  -- whether memory sufficed so far
  pub is_whole : Bool
  pub known : Result State SourceFault

-- before the first mention
abbrev pub beginning : Progress
beginning = record { is_whole = true; known = Ok nothing_known }

-- unless memory ran out, mentions lead from the one to the other
pub record Passes (mentions : List Mention) (old new : Progress) : Type 0 where
  pub passed : new.is_whole ≡ true → (old.is_whole ≡ true) × (new.known ≡ after mentions old.known)

-- unless memory ran out, what is left leads on to where the whole leads
pub record Leaves (left whole : List Mention) (old new : Progress) : Type 0 where
  pub all : new.is_whole ≡ true → (old.is_whole ≡ true) × (after left new.known ≡ after whole old.known)

-- ---- the parts of a walk

abbrev is_whole : Result (Unit {0}) Refused → Bool
is_whole (Ok done) = true
is_whole (Err (Source fault)) = true
is_whole (Err NoMemory) = false

abbrev known : Result (Unit {0}) Refused → State → Result State SourceFault
known (Ok done) s = Ok s
known (Err (Source fault)) s = Err fault
known (Err NoMemory) s = Ok s

-- what a table and an outcome say
abbrev pub progress : State → Result (Unit {0}) Refused → Progress
progress s outcome = record { is_whole = is_whole outcome; known = known outcome s }

-- ---- the end of a walk

-- the names, or the fault
abbrev pub Finishes : Progress → Result (List (List ℕ)) Refused → Type 0
Finishes p (Ok names) = (p.is_whole ≡ true) × ((scopes : Scopes) × (p.known ≡ Ok (record { scopes = scopes; names = names })))
Finishes p (Err (Source fault)) = (p.is_whole ≡ true) × (p.known ≡ Err fault)
Finishes p (Err NoMemory) = Unit {0}
