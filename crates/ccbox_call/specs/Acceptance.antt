-- Which sources are accepted, with which core, and which are refused, with which fault.
use Rattle.std.specs.Prelude.{◌≡◌, ◌⊎◌, ℕ, true, false, List, length, None, Some, Result, Ok, Err}
use Rattle.ckc_text.specs.declared.fault.Refused.{Refused}
use Rattle.ckc_text.specs.declared.fault.Refused.TheVariants.{Source, NoMemory}
use Rattle.ckc_text.specs.declared.fault.SourceFault.{SourceFault}
use Rattle.ckc_text.specs.Places.{place_at}
use Rattle.ckc_text.specs.Refusals as refusals
use Rattle.ckc_lexer.specs.Tokens.{AreTokens, HasFault}
use Rattle.ckc_lexer.specs.declared.token.Token.{Token}
use Rattle.ckc_tree.specs.Items.{Tree}
use Rattle.ckc_parser_grammar.specs.Parsing.{IsTree, IsFault}
use Rattle.built_forms.specs.Built.{is_built}
use Rattle.ckc_names_rules.specs.Naming.{naming_fault, named_of}
use Rattle.region_typing_rules.specs.Verdicts.{Breaks}
use Rattle.region_typing_rules.specs.Cores.{checked}
use Rattle.region_typing_rules.specs.NeverStuck.{HasCore}
use Rattle.ckc_core.specs.declared.program as code
use Rattle.ckc_core.specs.Core.{Core, core}

-- the source has tokens, and these have a tree
pub record HasTree (src : List ℕ) (tree : Tree) : Type 0 where
  pub tokens : List Token
  pub are_tokens : AreTokens src tokens
  pub is_tree : IsTree (length src) tokens tree

-- the tree has only forms that are built, each name has one meaning, no rule is broken, and this is its core
pub record Accepts (src : List ℕ) (c : Core) : Type 0 where
  pub tree : Tree
  pub has_tree : HasTree src tree
  pub forms : is_built tree ≡ true
  pub has_core : HasCore (place_at src) tree c

-- the source has this fault: the first in the order of tokens, tree, forms, names, rules
pub data IsRefused (src : List ℕ) : SourceFault → Type 0 where
  no_tokens : {fault : SourceFault} → HasFault src fault → IsRefused src fault
  no_tree : {fault : SourceFault} (tokens : List Token) → AreTokens src tokens → IsFault (length src) tokens fault → IsRefused src fault
  not_built : (tree : Tree) → HasTree src tree → is_built tree ≡ false → IsRefused src refusals.not_built
  misnamed : {fault : SourceFault} (tree : Tree) → HasTree src tree → is_built tree ≡ true → naming_fault tree ≡ Some fault → IsRefused src fault
  breaks : {fault : SourceFault} (tree : Tree) → HasTree src tree → is_built tree ≡ true → naming_fault tree ≡ None
      → checked (place_at src) (named_of tree) ≡ Breaks fault → IsRefused src fault

-- the source has a core, or a fault
abbrev pub CoreOrFault : List ℕ → Type 0
CoreOrFault src = ((c : Core) × Accepts src c) ⊎ ((fault : SourceFault) × IsRefused src fault)

-- what the front end answers
abbrev pub FrontAnswers : List ℕ → Result code.Core.Core Refused → Type 0
FrontAnswers src (Ok c) = Accepts src (core c)
FrontAnswers src (Err (Source fault)) = IsRefused src fault
FrontAnswers src (Err NoMemory) = Unit {0}

-- some source has this core
abbrev pub IsAcceptedCore : Core → Type 0
IsAcceptedCore c = (src : List ℕ) × Accepts src c
