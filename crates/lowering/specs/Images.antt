-- The image of a whole program.
use Rattle.std.specs.Prelude.{ℕ, suc, ◌+◌, ◌-◌, Bool, true, false, List, [], ◌∷◌, ◌++◌, length, flat_map, map, replicate, Some}
use Rattle.std.specs.Int.{to_le_bytes, w8, w32}
use Rattle.act_words.specs.Numbers.{word}
use Rattle.ckc_core.specs.Programs.{Initial, Variable}
use Rattle.ckc_core.specs.Programs as programs
use Rattle.check_insertion.specs.Erased.{Erased, Function}
use Rattle.ckc_core.specs.Steps.{is_char}
use Rattle.code_words.specs.Functions.{Func, Import}
use Rattle.code_words.specs.declared.image.Image.{Image}
use Rattle.lowering.specs.Code.{function_ops, result_kind}
use Rattle.check_insertion.specs.Stacks.{body_stack}

-- how many bytes the word of a cell has
abbrev pub width_if : Bool → ℕ
width_if true = 1
width_if false = 4

-- the bytes of a word in a cell: one for a `char`, and else four
abbrev pub word_bytes_if : Bool → ℕ → List ℕ
word_bytes_if true w = to_le_bytes w8 w
word_bytes_if false w = to_le_bytes w32 w

abbrev pub padded : ℕ → List ℕ → List ℕ
padded size bytes = bytes ++ replicate (size - length bytes) 0

-- the bytes of a cell up to the next one: its word, and zeros
abbrev pub cell_bytes : Initial → List ℕ
cell_bytes i = padded i.stride (word_bytes_if (is_char i.type) (word i.number))

-- the bytes of a file-level variable
abbrev pub object_bytes : Variable → List ℕ
object_bytes v = flat_map cell_bytes v.cells

-- a function, with three slots behind its locals
abbrev pub function_code : ℕ → Function → Func
function_code number f =
    record {
      number = number;
      name = f.name;
      args = f.parameters;
      slots = length f.locals + 3;
      stack = body_stack f;
      result = result_kind f.result;
      ops = function_ops f;
    }

abbrev pub import_code : ℕ → programs.Import → Import
import_code number i = record { number = number; name = i.name; args = i.parameters; result = result_kind i.result }

-- functions, of which the first has this number
abbrev pub functions_from : ℕ → List Function → List Func
functions_from number [] = []
functions_from number (f ∷ functions) = function_code number f ∷ functions_from (suc number) functions

abbrev pub imports_from : ℕ → List programs.Import → List Import
imports_from number [] = []
imports_from number (i ∷ imports) = import_code number i ∷ imports_from (suc number) imports

-- the whole program
abbrev pub image_of : Erased → Image
image_of program =
    record {
      trusted = record { blocks = map object_bytes program.objects; funs = functions_from 0 program.functions };
      sandbox = record { blocks = []; funs = [] };
      layout = record { imports = imports_from 0 program.imports; callbacks = []; main = Some program.main };
    }
