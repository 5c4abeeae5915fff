-- Requests of the code as plain data.
use Rattle.std.specs.Prelude.{ℕ, List, [], Option, Some, None, option_map, unwrap_or}
use Rattle.std.proofs.Common.{ℤ}
use Rattle.std.specs.Borrow.{Bor}
use Rattle.ccbox_call_words.specs.CommandLine.{Found}
use Rattle.ccbox_call_words.specs.Requests.{Request, Check, Split, Run, Exec, Options, input_list}
use Rattle.ccbox_call_words.specs.declared.command_line.Found as code_found
use Rattle.ccbox_call_words.specs.declared.inputs.InputList.{InputList}
use Rattle.ccbox_call_words.specs.declared.request.Request as code
use Rattle.ccbox_call_words.specs.declared.request.Request.TheVariants as requests
use Rattle.ccbox_call_words.specs.declared.request.Options as code_options

-- the numbers of a list
abbrev pub numbers_of : InputList → List ℤ
numbers_of list = unwrap_or (input_list list.text.now) []

abbrev pub options : code_options.Options → Options
options o =
    record {
      acts = option_map (λ (name : Bor (List ℕ)). name.now) o.acts;
      input = option_map numbers_of o.input;
      budget = o.budget;
      sandbox = o.sandbox;
      trusted = o.trusted;
      base = o.base;
      view = o.view;
      releases = o.releases;
      dump = o.dump;
    }

abbrev pub request : code.Request → Request
request (requests.Check file) = Check file.now
request (requests.Split file) = Split file.now
request (requests.Run file o) = Run file.now (options o)
request (requests.Exec file o) = Exec file.now (options o)

abbrev pub requested : Option code.Request → Option Request
requested None = None
requested (Some r) = Some (request r)

-- a text, if there is one
abbrev pub text_of : Option (Bor (List ℕ)) → Option (List ℕ)
text_of = option_map (λ text. text.now)

-- what is found in words
abbrev pub found : code_found.Found → Found
found f =
    record {
      command = text_of f.command;
      first = text_of f.first;
      second = text_of f.second;
      acts = text_of f.acts;
      input = text_of f.input;
      budget = text_of f.budget;
      sandbox = text_of f.sandbox;
      trusted = text_of f.trusted;
      base = text_of f.base;
      view = f.view;
      releases = f.releases;
      dump = f.dump;
      code = f.code;
    }
