-- What the words of the command line ask for.
use Rattle.std.specs.Prelude.{ℕ, zero, suc, ◌%◌, Bool, true, false, ◌&&◌, ◌||◌, ◌==◌, nat_le, if◌then◌else◌, List, [], ◌∷◌, codes, drop, length}
use Rattle.std.specs.Prelude.{Option, Some, None, is_some, option_map, unwrap_or, pos, negsuc}
use Rattle.std.proofs.Common.{ℤ}
use Rattle.std.specs.Option.{option_and_then}
use Rattle.std.specs.List.{list_all, starts_with}
use Rattle.std.specs.Str.{bytes_eq}
use Rattle.std.specs.Str.Parse.{digits_value}
use Rattle.act_words.specs.declared.settings.Settings.{Settings}
use Rattle.ccbox_call_words.specs.CommandLine.{Found, found_by}

-- what is asked for beside the file: the file of acts, the input numbers, the limits of the run, where its memory stands, and
-- what is printed beside the output
pub record Options : Type 0 where
  pub acts : Option (List ℕ)
  pub input : Option (List ℤ)
  pub budget : Option ℕ
  pub sandbox : Option ℕ
  pub trusted : Option ℕ
  pub base : Option ℕ
  pub view : Bool
  pub releases : Bool
  pub dump : Bool

abbrev pub no_options : Options
no_options = record { acts = None; input = None; budget = None; sandbox = None; trusted = None; base = None; view = false; releases = false; dump = false }

-- what is asked for
pub data Request : Type 0 where
  -- to check the program of a file
  Check : (file : List ℕ) → Request
  -- to print its code
  Split : (file : List ℕ) → Request
  -- to run it
  Run : (file : List ℕ) (options : Options) → Request
  -- to run the listing of a file
  Exec : (file : List ℕ) (options : Options) → Request

-- the file that is asked about
abbrev pub file_of : Request → List ℕ
file_of (Check file) = file
file_of (Split file) = file
file_of (Run file options) = file
file_of (Exec file options) = file

-- the file is a source, and not a listing
abbrev pub is_of_source : Request → Bool
is_of_source (Check file) = true
is_of_source (Split file) = true
is_of_source (Run file options) = true
is_of_source (Exec file options) = false

-- the settings of a run. No option asks for its code
abbrev pub settings_of : Options → Settings
settings_of o =
    record {
      budget = unwrap_or o.budget 10000000;
      sandbox = unwrap_or o.sandbox 1048576;
      trusted = unwrap_or o.trusted 1048576;
      base = unwrap_or o.base 65536;
      view = o.view;
      releases = o.releases;
      dump = o.dump;
      code = false;
    }

-- the input numbers of a run
abbrev pub inputs_of : Options → List ℤ
inputs_of o = unwrap_or o.input []

-- ---- values

abbrev pub is_digit : ℕ → Bool
is_digit b = nat_le 48 b && nat_le b 57

-- the number that digits spell
abbrev pub digits_number : List ℕ → Option ℕ
digits_number [] = None
digits_number (b ∷ bs) = if list_all is_digit (b ∷ bs) then Some (digits_value 10 (b ∷ bs)) else None

-- a number from one to another
abbrev pub in_range : ℕ → ℕ → ℕ → Option ℕ
in_range least most n = if nat_le least n && nat_le n most then Some n else None

abbrev pub number_from : ℕ → ℕ → List ℕ → Option ℕ
number_from least most text = option_and_then (in_range least most) (digits_number text)

-- an address that a memory may begin at
abbrev pub base_from : List ℕ → Option ℕ
base_from text = option_and_then (λ n. if (n % 16) == 0 then Some n else None) (number_from 16 4026531840 text)

abbrev pub negative : ℕ → ℤ
negative zero = pos 0
negative (suc n) = negsuc n

-- a number of 32 bits, with a minus before it or without
abbrev pub input_number : List ℕ → Option ℤ
input_number text =
    if starts_with ◌==◌ text (codes "-") then option_map negative (number_from 0 2147483648 (drop 1 text)) else option_map pos (number_from 0 2147483647 text)

-- the pieces of a text between commas: what stands before the first, and the others
abbrev pub with_byte : ℕ → List (List ℕ) → List (List ℕ)
with_byte b [] = (b ∷ []) ∷ []
with_byte b (piece ∷ pieces) = (b ∷ piece) ∷ pieces

abbrev pub pieces_of : List ℕ → List (List ℕ)
pieces_of [] = [] ∷ []
pieces_of (b ∷ bs) = if b == 44 then [] ∷ pieces_of bs else with_byte b (pieces_of bs)

abbrev pub numbers_in : List (List ℕ) → Option (List ℤ)
numbers_in [] = Some []
numbers_in (piece ∷ pieces) = option_and_then (λ number. option_map (λ numbers. number ∷ numbers) (numbers_in pieces)) (input_number piece)

abbrev pub few : List ℤ → Option (List ℤ)
few numbers = if nat_le (length numbers) 65536 then Some numbers else None

-- 1 to 65,536 numbers with commas between them
abbrev pub input_list : List ℕ → Option (List ℤ)
input_list text = option_and_then few (numbers_in (pieces_of text))

-- ---- options

-- what an option's text is read as, if it was given: none where it is no such text
abbrev pub read_if_given : {A : Type 0} → (List ℕ → Option A) → Option (List ℕ) → Option (Option A)
read_if_given read None = Some None
read_if_given read (Some text) = option_map Some (read text)

-- the options of a run with these values
abbrev pub options_with : Found → Option (List ℤ) → Option ℕ → Option ℕ → Option ℕ → Option ℕ → Options
options_with found input budget sandbox trusted base =
    record {
      acts = found.acts;
      input = input;
      budget = budget;
      sandbox = sandbox;
      trusted = trusted;
      base = base;
      view = found.view;
      releases = found.releases;
      dump = found.dump;
    }

-- the options of a run, if each text is what its option takes
abbrev pub options_read : Found → Option Options
options_read found =
    option_and_then (λ input.
    option_and_then (λ budget.
    option_and_then (λ sandbox.
    option_and_then (λ trusted.
    option_map (options_with found input budget sandbox trusted) (read_if_given base_from found.base))
    (read_if_given (number_from 65536 4194304) found.trusted))
    (read_if_given (number_from 65536 16777216) found.sandbox))
    (read_if_given (number_from 1 1000000000) found.budget))
    (read_if_given input_list found.input)

-- the same, and `--code` isn't taken
abbrev pub options_in : Found → Option Options
options_in found = if found.code then None else options_read found

-- an option that takes a text was given
abbrev pub has_texts : Found → Bool
has_texts found = is_some found.acts || is_some found.input || is_some found.budget || is_some found.sandbox || is_some found.trusted || is_some found.base

-- an option was given
abbrev pub has_options : Found → Bool
has_options found = has_texts found || found.view || found.releases || found.dump || found.code

-- ---- requests

-- a request that takes no option
abbrev pub without_options : Found → Request → Option Request
without_options found request = if has_options found then None else Some request

-- what a command asks about a file: `check FILE`, `split FILE`, or `run FILE` or `exec FILE` and options
abbrev pub command_request : List ℕ → List ℕ → Found → Option Request
command_request command file found =
    if bytes_eq command (codes "check") then without_options found (Check file)
    else if bytes_eq command (codes "split") then without_options found (Split file)
    else if bytes_eq command (codes "run") then option_map (Run file) (options_in found)
    else if bytes_eq command (codes "exec") then option_map (Exec file) (options_in found)
    else None

-- what a command, one word behind it and none more ask for
abbrev pub request_by : Option (List ℕ) → Option (List ℕ) → Option (List ℕ) → Found → Option Request
request_by (Some command) (Some file) None found = command_request command file found
request_by _ _ _ found = None

abbrev pub request_in : Found → Option Request
request_in found = request_by found.command found.first found.second found

-- the request that the words spell, if they spell one
abbrev pub request_of : List (List ℕ) → Option Request
request_of words = option_and_then request_in (found_by words)
