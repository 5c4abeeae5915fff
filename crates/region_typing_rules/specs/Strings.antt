-- The blocks of strings: each string of a source has one, behind those of the file-level variables, in the order of the source.
use Rattle.std.specs.Prelude.{ℕ, suc, ◌+◌, ◌==◌, true, false, List, [], ◌∷◌, length, Option, Some, None, pos}
use Rattle.ckc_tree.specs.Texts.{Text}
use Rattle.flat_bytes.specs.Blocks.{rounded_up}
use Rattle.pointer_modes.specs.Types.{Char}
use Rattle.ckc_core.specs.Programs.{Initial, Variable}
use Rattle.ckc_core.specs.Steps.{low_byte}
use Rattle.region_typing_rules.specs.Verdicts.{picked}

-- the bytes of a block with the gap behind it: the characters and the zero that ends them
abbrev pub text_size : Text → ℕ
text_size t = rounded_up (suc (length t.bytes)) + 16

abbrev pub texts_size : List Text → ℕ
texts_size [] = 0
texts_size (t ∷ texts) = text_size t + texts_size texts

-- the strings so far, with those of what is walked; how many file-level variables the program has, behind whose blocks theirs stand; and the bytes that
-- the blocks of variables take so far
pub record Strings : Type 0 where
  pub texts : List Text
  pub variables : ℕ
  pub taken : ℕ

-- a string that was found: the number of its block, how many characters it has, and the bytes that are taken up to its end
pub record FoundText : Type 0 where
  pub object : ℕ
  pub length : ℕ
  pub taken : ℕ

-- the string at a place, where the first one has this number, and so many bytes are taken before it
abbrev pub text_from : (object taken : ℕ) → List Text → (from : ℕ) → Option FoundText
text_from object taken [] from = None
text_from object taken (t ∷ texts) from =
    picked (t.span.from == from) (Some (record { object = object; length = length t.bytes; taken = taken + text_size t }))
    (text_from (suc object) (taken + text_size t) texts from)

abbrev pub text_at : Strings → (from : ℕ) → Option FoundText
text_at s from = text_from s.variables s.taken s.texts from

abbrev pub char_cell : ℕ → Initial
char_cell byte = record { type = Char; stride = 1; number = low_byte (pos byte) }

-- the characters, and the zero behind them
abbrev pub text_cells : List ℕ → List Initial
text_cells [] = char_cell 0 ∷ []
text_cells (byte ∷ bytes) = char_cell byte ∷ text_cells bytes

abbrev pub text_object : Text → Variable
text_object t = record { cells = text_cells t.bytes; zero_ended = true; is_sealed = false }
