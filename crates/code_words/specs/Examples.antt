-- Small images, and what their runs come to.
use Rattle.std.specs.Prelude.{ℕ, List, [], ◌∷◌, ◌++◌, length, map, take, Option, Some, None, pos, false}
use Rattle.std.proofs.Common.{ℤ}
use Rattle.ckc_text.specs.declared.place.Place.{Place}
use Rattle.act_words.specs.declared.ending.Ending.{Ending}
use Rattle.act_words.specs.declared.settings.Settings.{Settings}
use Rattle.act_words.specs.Acts.{Act, Seen, Release}
use Rattle.act_words.specs.View.{releases_of}
use Rattle.code_words.specs.declared.op.Op.{Op}
use Rattle.code_words.specs.declared.op.Op.TheVariants.{Const, TaintedCall, Return}
use Rattle.marshalling.specs.declared.kind.WordKind.{WordKind}
use Rattle.marshalling.specs.declared.kind.WordKind.TheVariants as kinds
use Rattle.marshalling.specs.declared.signature.Region.{Region}
use Rattle.marshalling.specs.declared.signature.Param.{Param}
use Rattle.code_words.specs.Functions.{Func}
use Rattle.code_words.specs.Images.{Image}
use Rattle.code_words.specs.Runs.{Run, Unfinished, Finished, exec, started, events_of}
use Rattle.code_words.specs.SandboxCode.{State, answered}

-- 64 bytes in each memory, the trusted one at address 65,536
abbrev pub settings_of : ℕ → Settings
settings_of budget = record { budget = budget; sandbox = 64; trusted = 64; base = 65536; view = false; releases = false; dump = false; code = false }

abbrev pub function_of : (number args slots stack : ℕ) → List Op → Func
function_of number args slots stack ops = record { number = number; name = []; args = args; slots = slots; stack = stack; result = kinds.Int; ops = ops }

-- ---- the trusted side

-- an image of `main` alone, with one slot and room for so many words
abbrev pub image_of : ℕ → List Op → Image
image_of stack ops =
    record {
      trusted = record { blocks = []; funs = function_of 0 0 1 stack ops ∷ [] };
      sandbox = record { blocks = []; funs = [] };
      layout = record { imports = []; callbacks = []; main = Some 0 };
    }

-- its run over acts, of at most 30 moves
abbrev pub run_of : ℕ → List Op → List Act → Run
run_of budget ops acts = exec (image_of 7 ops) (settings_of budget) 30 (started (image_of 7 ops) (settings_of budget) [] acts)

abbrev pub ending_of : Run → Option Ending
ending_of (Unfinished s) = None
ending_of (Finished ending s) = Some ending

-- how the run of these instructions ends
abbrev pub ending_by : List Op → Option Ending
ending_by ops = ending_of (run_of 10 ops [])

-- the same with these words on the stack, the last on top, and behind one instruction what it leaves on top
abbrev pub result_of : List ℤ → Op → Option Ending
result_of words op = ending_by (map (λ n. Const n) words ++ op ∷ Return ∷ [])

-- the same behind an instruction that leaves nothing: 7, unless a check failed
abbrev pub checked_by : List ℤ → Op → Option Ending
checked_by words op = ending_by (map (λ n. Const n) words ++ op ∷ Const (pos 7) ∷ Return ∷ [])

-- the releases of a run
abbrev pub releases_in : Run → List Release
releases_in run = releases_of (events_of run)

-- the first bytes of the sandbox's memory behind a run
abbrev pub bytes_in : ℕ → Run → List ℕ
bytes_in count (Unfinished s) = take count s.world.sandbox
bytes_in count (Finished ending s) = take count s.world.sandbox

-- the ticks that a run spent
abbrev pub ticks_in : Run → ℕ
ticks_in (Unfinished s) = s.world.ticks
ticks_in (Finished ending s) = s.world.ticks

-- ---- callbacks

-- the call in `main` stands here
abbrev pub call_place : Place
call_place = record { line = 9; col = 1 }

-- a parameter that is declared here
abbrev pub param : WordKind → ℕ → Option Region → Param
param kind line region = record { kind = kind; place = record { line = line; col = 1 }; region = region }

-- a pointer's bounds: so many bytes from it on, and some more behind them
abbrev pub bytes_from : (param : ℕ) (high : ℤ) (high_var : Option ℕ) (more : ℕ) → Region
bytes_from param high high_var more = record { base = param; lo_var = None; lo_plus = pos 0; hi_var = high_var; hi_plus = high; size = 1; more = more }

-- an image whose `main` returns what a tainted function gives it, and whose one callback has these parameters and these
-- instructions
abbrev pub calling : (given replied : WordKind) → List Param → List Op → Image
calling given replied params ops =
    record {
      trusted =
          record {
            blocks = [];
            funs = function_of 0 0 0 1 (TaintedCall 0 call_place ∷ Return ∷ []) ∷ function_of 1 (length params) (length params) 2 ops ∷ [];
          };
      sandbox = record { blocks = []; funs = [] };
      layout =
          record {
            imports = (record { number = 0; name = []; args = 0; result = given }) ∷ [];
            callbacks = (record { number = 0; fun = 1; signature = params; result = replied }) ∷ [];
            main = Some 0;
          };
    }

-- its run over acts
abbrev pub calling_run : ℕ → Image → List Act → Run
calling_run budget image acts = exec image (settings_of budget) 30 (started image (settings_of budget) [] acts)

-- ---- the sandbox

-- an image with these functions of the sandbox and two callbacks: one takes a number and gives one, the other does neither
abbrev pub sandboxed : List Func → Image
sandboxed funs =
    record {
      trusted = record { blocks = []; funs = [] };
      sandbox = record { blocks = []; funs = funs };
      layout =
          record {
            imports = [];
            callbacks = (record { number = 0; fun = 0; signature = param kinds.Int 1 None ∷ []; result = kinds.Int })
                ∷ (record { number = 1; fun = 1; signature = []; result = kinds.Void }) ∷ [];
            main = None;
          };
    }

-- what the sandbox answers to what it is shown, one after another, with at most 20 instructions for each
abbrev pub acts_of : Image → ℕ → State → List Seen → List Act
acts_of image budget s [] = []
acts_of image budget s (seen ∷ later) = by (answered image budget 20 s (Some seen)) (λ t. acts_of image budget t later)
  where
    by : Option (Act × State) → (State → List Act) → List Act
    by None rest = []
    by (Some both) rest = both.0 ∷ rest both.1
