-- Which images may run under which settings.
use Rattle.std.specs.Prelude.{◌≡◌, ℕ, ◌<◌, ◌≤◌, List, length, Some, All, slice_get}
use Rattle.flat_bytes.specs.Blocks.{first_offset}
use Rattle.act_words.specs.declared.settings.Settings.{Settings}
use Rattle.act_words.specs.Limits.{AreAllowed}
use Rattle.code_words.specs.Runs.{counter_behind}
use Rattle.code_words.specs.Functions.{Func}
use Rattle.code_words.specs.Images.{Image}

-- no static block is empty, and they lie in a memory of a size, where the first stands at an offset
pub record BlocksFit (size : ℕ) (offset : ℕ) (blocks : List (List ℕ)) : Type 0 where
  pub not_empty : All (λ block. 0 < length block) blocks
  pub low : counter_behind offset blocks ≤ size

-- `main` is there, and takes no argument
pub record IsMain (image : Image) (number : ℕ) (f : Func) : Type 0 where
  pub named : image.layout.main ≡ Some number
  pub there : slice_get image.trusted.funs number ≡ Some f
  pub no_argument : f.args ≡ 0

abbrev pub HasMain : Image → Type 0
HasMain image = (number : ℕ) × (f : Func) × IsMain image number f

-- the image may run under the settings
pub record Fits (image : Image) (settings : Settings) : Type 0 where
  pub allowed : AreAllowed settings
  pub trusted : BlocksFit settings.trusted first_offset image.trusted.blocks
  pub sandbox : BlocksFit settings.sandbox first_offset image.sandbox.blocks
  pub main : HasMain image
