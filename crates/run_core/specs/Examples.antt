-- Settings, events and images of small runs.
use Rattle.std.specs.Prelude.{ℕ, List, [], ◌∷◌, Some, codes, true, false, pos}
use Rattle.std.proofs.Common.{ℤ}
use Rattle.act_words.specs.declared.settings.Settings.{Settings}
use Rattle.act_words.specs.World.{Event, Output}
use Rattle.code_words.specs.declared.op.Op.TheVariants.{Const, NextInput, Print, Return}
use Rattle.marshalling.specs.declared.kind.WordKind.TheVariants.{Int}
use Rattle.code_words.specs.declared.image.Image.{Image}
use Rattle.code_words.specs.Dumps.{blocks_held}
use Rattle.code_words.specs.Runs.{Run, Unfinished, Finished, exec, started}
use Rattle.run_core.specs.Texts.{run_text}

-- no lines are asked for
abbrev pub plain : Settings
plain = record { budget = 10; sandbox = 64; trusted = 64; base = 65536; view = false; releases = false; dump = false; code = false }

-- lines of what is shown are asked for
abbrev pub viewed : Settings
viewed = record { budget = 10; sandbox = 64; trusted = 64; base = 65536; view = true; releases = false; dump = false; code = false }

-- the last blocks are asked for
abbrev pub dumped : Settings
dumped = record { budget = 10; sandbox = 64; trusted = 64; base = 65536; view = false; releases = false; dump = true; code = false }

-- two letters, without a line feed
abbrev pub written : List Event
written = Output (codes "ab") ∷ []

-- an image of `main` alone, which prints an input number, and of a static block
abbrev pub echo : Image
echo =
    record {
      trusted =
          record {
            blocks = (42 ∷ 0 ∷ 0 ∷ 0 ∷ []) ∷ [];
            funs = (record { number = 0; name = []; args = 0; slots = 0; stack = 1; result = Int; ops = NextInput ∷ Print ∷ Const (pos 0) ∷ Return ∷ [] }) ∷ [];
          };
      sandbox = record { blocks = []; funs = [] };
      layout = record { imports = []; callbacks = []; main = Some 0 };
    }

-- the text of an image's run over these inputs, which makes at most ten moves
abbrev pub text_by : Image → Settings → List ℤ → List ℕ
text_by image settings inputs = text_of (exec image settings 10 (started image settings inputs []))
  where
    text_of : Run → List ℕ
    text_of (Unfinished s) = []
    text_of (Finished ending t) = run_text settings t.world.events ending (blocks_held t)
