-- The listing of an image, and the images that the format has listings of.
use Rattle.std.specs.Prelude.{ℕ, suc, ◌<◌, List, [], ◌∷◌, ◌++◌, length, map, flat_map, Option, Some, None, All}
use Rattle.marshalling.specs.Signatures.{IsSignature}
use Rattle.code_words.specs.declared.image.Callback.{Callback}
use Rattle.code_words.specs.Functions.{Func, Import}
use Rattle.code_words.specs.Images.{Image}
use Rattle.code_words.specs.Formats.{Follow, Rise}
use Rattle.code_words_listing.specs.Lines.{Line, Heading, TrustedSide, StaticBlock, TaintedFunction, Entry, Parameter, Begin, Instruction, End, Main}
use Rattle.code_words_listing.specs.Lines.{SandboxSide, Close, line_text, IsAllowed}

-- static blocks, which are numbered from a first number on
abbrev pub block_lines : ℕ → List (List ℕ) → List Line
block_lines number [] = []
block_lines number (block ∷ blocks) = StaticBlock number block ∷ block_lines (suc number) blocks

abbrev pub callback_lines : Callback → List Line
callback_lines c = Entry c.number c.fun (length c.signature) c.result ∷ map Parameter c.signature

abbrev pub function_lines : Func → List Line
function_lines f = Begin f.number f.name f.args f.slots f.stack f.result ∷ (map Instruction f.ops ++ End ∷ [])

abbrev pub main_lines : Option ℕ → List Line
main_lines None = []
main_lines (Some number) = Main number ∷ []

-- what the trusted side is: static blocks, tainted functions, callbacks, functions, and the number of `main`
abbrev pub trusted_lines : Image → List Line
trusted_lines image =
    block_lines 0 image.trusted.blocks ++ (map TaintedFunction image.layout.imports ++ (flat_map callback_lines image.layout.callbacks
    ++ (flat_map function_lines image.trusted.funs ++ main_lines image.layout.main)))

abbrev pub sandbox_lines : Image → List Line
sandbox_lines image = block_lines 0 image.sandbox.blocks ++ flat_map function_lines image.sandbox.funs

-- the lines of an image
abbrev pub lines_of : Image → List Line
lines_of image = Heading ∷ TrustedSide ∷ (trusted_lines image ++ SandboxSide ∷ (sandbox_lines image ++ Close ∷ []))

-- lines as a text: a line feed stands behind each
abbrev pub text_of : List (List ℕ) → List ℕ
text_of lines = flat_map (λ line. line ++ 10 ∷ []) lines

abbrev pub lines_text : List Line → List ℕ
lines_text lines = text_of (map line_text lines)

-- the listing of an image
abbrev pub listing : Image → List ℕ
listing image = lines_text (lines_of image)

-- what the format asks of an image: functions, tainted functions and callbacks are numbered from 0; the functions of the sandbox
-- have the numbers of tainted functions, in their order; bounds are those of a signature; each line may stand there
pub record InFormat (image : Image) : Type 0 where
  pub functions : Follow 0 (map (λ (f : Func). f.number) image.trusted.funs)
  pub imports : Follow 0 (map (λ (i : Import). i.number) image.layout.imports)
  pub callbacks : Follow 0 (map (λ (c : Callback). c.number) image.layout.callbacks)
  pub bodies : Rise 0 (map (λ (f : Func). f.number) image.sandbox.funs)
  pub imported : All (λ (f : Func). f.number < length image.layout.imports) image.sandbox.funs
  pub callable : All (λ (c : Callback). IsSignature c.signature) image.layout.callbacks
  pub lines : All IsAllowed (lines_of image)
