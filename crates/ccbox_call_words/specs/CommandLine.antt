-- The words of the command line, as `clap` takes them.
use Rattle.std.specs.Prelude.{ℕ, Bool, true, false, List, [], ◌∷◌, codes, Option, Some, None}
use Rattle.std.specs.Borrow.{Bor}
use Rattle.std.specs.Option.{option_map_or}
use Rattle.std.specs.Str.{bytes_eq}
use Rattle.clap.specs.Words.{App, Kinds, Row, Rule, fault_of, first_of, matches_of, new_rule, with_rule}
use Rattle.clap.specs.Simple.{new_shape}
use Rattle.clap.specs.declared.builder.action.ArgAction.TheVariants.{SetTrue}
use Rattle.ccbox_call_words.specs.declared.command_line.Role.{Role}
use Rattle.ccbox_call_words.specs.declared.command_line.Role.TheVariants as roles

-- a word that stands by itself
abbrev pub positional : List ℕ → Rule
positional name = new_rule name

-- an option that takes one text, as `--name text` or `--name=text`
abbrev pub text_option : List ℕ → Rule
text_option name = record (new_rule name) { long = Some name }

-- an option that takes none
abbrev pub flag : List ℕ → Rule
flag name = record (new_rule name) { long = Some name; action = Some SetTrue }

-- a word in its role
abbrev pub rule_for : Role → List ℕ → Rule
rule_for roles.Command name = record (positional name) { required = true }
rule_for roles.Word name = positional name
rule_for roles.Text name = text_option name
rule_for roles.Flag name = flag name

-- a word of a table
abbrev pub told : Bor (List ℕ) × Role → Rule
told word = rule_for word.1 word.0.now

-- a command with more words, one behind the other
abbrev pub with_rules : App → List Rule → App
with_rules app [] = app
with_rules app (rule ∷ more) = with_rules (with_rule app rule) more

abbrev pub rules : List Rule
rules =
    record (positional (codes "command")) { required = true } ∷ positional (codes "first") ∷ positional (codes "second")
    ∷ text_option (codes "acts") ∷ text_option (codes "input") ∷ text_option (codes "budget")
    ∷ text_option (codes "sandbox") ∷ text_option (codes "trusted") ∷ text_option (codes "base")
    ∷ flag (codes "view") ∷ flag (codes "releases") ∷ flag (codes "dump") ∷ flag (codes "code") ∷ []

-- the program's command: its words begin behind the program's name, and none of them asks for help
abbrev pub command_line : App
command_line =
    record {
      top = record (new_shape (codes "ccbox")) { rules = rules; no_binary_name = true; disable_help_flag = true };
      subs = [];
    }

-- what is found in words: those that stand by themselves, in their order, the texts of options, and which flags were set
pub record Found : Type 0 where
  pub command : Option (List ℕ)
  pub first : Option (List ℕ)
  pub second : Option (List ℕ)
  pub acts : Option (List ℕ)
  pub input : Option (List ℕ)
  pub budget : Option (List ℕ)
  pub sandbox : Option (List ℕ)
  pub trusted : Option (List ℕ)
  pub base : Option (List ℕ)
  pub view : Bool
  pub releases : Bool
  pub dump : Bool
  pub code : Bool

-- the value is that of a flag which was set
abbrev pub is_true : Option (List ℕ) → Bool
is_true value = option_map_or (λ text. bytes_eq text (codes "true")) value false

abbrev pub found_in : List Row → Found
found_in rows =
    record {
      command = first_of (codes "command") rows;
      first = first_of (codes "first") rows;
      second = first_of (codes "second") rows;
      acts = first_of (codes "acts") rows;
      input = first_of (codes "input") rows;
      budget = first_of (codes "budget") rows;
      sandbox = first_of (codes "sandbox") rows;
      trusted = first_of (codes "trusted") rows;
      base = first_of (codes "base") rows;
      view = is_true (first_of (codes "view") rows);
      releases = is_true (first_of (codes "releases") rows);
      dump = is_true (first_of (codes "dump") rows);
      code = is_true (first_of (codes "code") rows);
    }

-- what is found, where the words have no kind of fault
abbrev pub unless_fault : Kinds → Found → Option Found
unless_fault [] found = Some found
unless_fault (kind ∷ kinds) found = None

-- what is found in words that the command takes, so that no error but want of memory comes of them
unfoldable pub found_by : List (List ℕ) → Option Found
found_by words = unless_fault (fault_of command_line words) (found_in (matches_of command_line words))
