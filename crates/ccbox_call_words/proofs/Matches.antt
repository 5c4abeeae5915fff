-- What `clap` finds in words.
use Rattle.std.proofs.Common.{◌≡◌, ◌∙◌, ℕ, true, List, [], ◌∷◌, Option, Some, None, Bor, inl, inr, refl, sym, ap, subst}
use Rattle.clap.specs.Words.{App, Text, fault_of, first_of, first_value, is_simple, is_simple_and_free, kind_of, matches_of, rows_of, HasKind, Kinds}
use Rattle.clap.specs.declared.error.Error.{Error}
use Rattle.clap.specs.declared.error.kind.ErrorKind.TheVariants.{OutOfMemory}
use Rattle.clap.specs.declared.parser.matches.Found.{Found}
use Rattle.clap.proofs.OnLiterals.{clap_on_literals}
use Rattle.clap.proofs.WalkLemmas.{first_value-rows}
use Rattle.ccbox_call_words.specs.CommandLine.{command_line, found_by, found_in, unless_fault}
use Rattle.ccbox_call_words.specs.CommandLine as words
use Rattle.ccbox_call_words.specs.Requested.{text_of}

-- the first value of an argument is that of its row
pub read : (f : Found) (name : List ℕ) (value : Option (Bor (List ℕ))) → text_of value ≡ first_value f name → text_of value ≡ first_of name (rows_of f)
read f name value is = is ∙ first_value-rows f name

simple : is_simple command_line ≡ true
unfolding clap_on_literals
simple = refl

simple_and_free : is_simple_and_free command_line ≡ true
unfolding clap_on_literals
simple_and_free = refl

no_fault : (kinds : Kinds) (found : words.Found) → kinds ≡ [] → unless_fault kinds found ≡ Some found
no_fault [] found none = refl
no_fault (k ∷ ks) found none = absurd (cc)

some_fault : (kinds : Kinds) (found : words.Found) → (kinds ≡ [] → ⊥) → unless_fault kinds found ≡ None
some_fault [] found some = absurd (some refl)
some_fault (k ∷ ks) found some = refl

-- an error that isn't want of memory has a kind of fault
fault_there : (e : Error) (kinds : Kinds) → HasKind kinds e → (kind_of e ≡ OutOfMemory → ⊥) → kinds ≡ [] → ⊥
fault_there e [] (inl memory) other none = other memory
fault_there e [] (inr among) other none = among
fault_there e (k ∷ ks) has other none = absurd (cc)

module _ (app : App) (is : app ≡ command_line) (texts : List Text) where
  -- what is found where the parse succeeds
  pub taken : (f : Found) → (is_simple_and_free app ≡ true → fault_of app texts ≡ []) → (is_simple app ≡ true → rows_of f ≡ matches_of app texts) → Some (found_in (rows_of f)) ≡ found_by texts
  unfolding found_by
  taken f kinds rows =
      let none : fault_of command_line texts ≡ [] = subst (λ a. is_simple_and_free a ≡ true → fault_of a texts ≡ []) is kinds simple_and_free in
      let same : rows_of f ≡ matches_of command_line texts = subst (λ a. is_simple a ≡ true → rows_of f ≡ matches_of a texts) is rows simple in
      ap (λ rows. Some (found_in rows)) same ∙ sym (no_fault (fault_of command_line texts) (found_in (matches_of command_line texts)) none)

  -- nothing is found where it fails by another cause than memory
  pub untaken : (e : Error) → (is_simple_and_free app ≡ true → HasKind (fault_of app texts) e) → (kind_of e ≡ OutOfMemory → ⊥) → None ≡ found_by texts
  unfolding found_by
  untaken e kinds other =
      let has : HasKind (fault_of command_line texts) e = subst (λ a. is_simple_and_free a ≡ true → HasKind (fault_of a texts) e) is kinds simple_and_free in
      sym (some_fault (fault_of command_line texts) (found_in (matches_of command_line texts)) (fault_there e (fault_of command_line texts) has other))
