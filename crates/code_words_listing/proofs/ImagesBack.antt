-- The lines of an image tell the image.
use Rattle.std.proofs.Common.{◌≡◌, ℕ, zero, suc, List, [], ◌∷◌, ◌++◌, length, map, flat_map, Option, Some, None, refl, sym, ap, ◌∙◌, append_assoc, append-nil}
use Rattle.marshalling.specs.declared.signature.Param.{Param}
use Rattle.code_words.specs.declared.op.Op.{Op}
use Rattle.code_words.specs.declared.image.Callback.{Callback}
use Rattle.code_words.specs.declared.image.SideCode.{SideCode}
use Rattle.code_words.specs.Functions.{Func, Import}
use Rattle.code_words.specs.Images.{Image}
use Rattle.code_words_listing.specs.Lines.{Line, StaticBlock, TaintedFunction, Entry, Parameter, Begin, Instruction, End, Main, SandboxSide, Close}
use Rattle.code_words_listing.specs.Listings.{lines_of, listing, block_lines, callback_lines, function_lines, main_lines, sandbox_lines, InFormat}
use Rattle.code_words_listing.proofs.Texts.{lines-injective}

-- so many parameters, and the instructions up to another line
abbrev params_in : ℕ → List Line → List Param
params_in zero lines = []
params_in (suc count) [] = []
params_in (suc count) (Parameter p ∷ lines) = p ∷ params_in count lines
params_in (suc count) (_ ∷ lines) = []

abbrev ops_in : List Line → List Op
ops_in [] = []
ops_in (Instruction op ∷ lines) = op ∷ ops_in lines
ops_in (_ ∷ lines) = []

abbrev with_blocks : List (List ℕ) → SideCode → SideCode
with_blocks blocks side = record { blocks = blocks ++ side.blocks; funs = side.funs }

abbrev with_funs : List Func → SideCode → SideCode
with_funs funs side = record { blocks = side.blocks; funs = funs ++ side.funs }

abbrev in_trusted : (SideCode → SideCode) → Image → Image
in_trusted change image = record { trusted = change image.trusted; sandbox = image.sandbox; layout = image.layout }

abbrev with_imports : List Import → Image → Image
with_imports imports image =
    record { trusted = image.trusted; sandbox = image.sandbox; layout = record { imports = imports ++ image.layout.imports; callbacks = image.layout.callbacks; main = image.layout.main } }

abbrev with_callbacks : List Callback → Image → Image
with_callbacks callbacks image =
    record { trusted = image.trusted; sandbox = image.sandbox; layout = record { imports = image.layout.imports; callbacks = callbacks ++ image.layout.callbacks; main = image.layout.main } }

abbrev with_main : Option ℕ → Image → Image
with_main number image = record { trusted = image.trusted; sandbox = image.sandbox; layout = record { imports = image.layout.imports; callbacks = image.layout.callbacks; main = number } }

-- what lines of the sandbox's side tell
abbrev side_of : List Line → SideCode
side_of [] = record { blocks = []; funs = [] }
side_of (StaticBlock number block ∷ lines) = with_blocks (block ∷ []) (side_of lines)
side_of (Begin number name args slots stack result ∷ lines) =
    with_funs ((record { number = number; name = name; args = args; slots = slots; stack = stack; result = result; ops = ops_in lines }) ∷ []) (side_of lines)
side_of (_ ∷ lines) = side_of lines

-- what lines of the trusted side tell, and those of the sandbox's behind them
abbrev image_of : List Line → Image
image_of [] = record { trusted = record { blocks = []; funs = [] }; sandbox = record { blocks = []; funs = [] }; layout = record { imports = []; callbacks = []; main = None } }
image_of (StaticBlock number block ∷ lines) = in_trusted (with_blocks (block ∷ [])) (image_of lines)
image_of (TaintedFunction i ∷ lines) = with_imports (i ∷ []) (image_of lines)
image_of (Entry number fun args result ∷ lines) = with_callbacks ((record { number = number; fun = fun; signature = params_in args lines; result = result }) ∷ []) (image_of lines)
image_of (Begin number name args slots stack result ∷ lines) =
    in_trusted (with_funs ((record { number = number; name = name; args = args; slots = slots; stack = stack; result = result; ops = ops_in lines }) ∷ [])) (image_of lines)
image_of (Main number ∷ lines) = with_main (Some number) (image_of lines)
image_of (SandboxSide ∷ lines) = record { trusted = record { blocks = []; funs = [] }; sandbox = side_of lines; layout = record { imports = []; callbacks = []; main = None } }
image_of (_ ∷ lines) = image_of lines

-- ---- section by section

params-back : (params : List Param) (lines : List Line) → params_in (length params) (map Parameter params ++ lines) ≡ params
params-back [] lines = refl
params-back (p ∷ params) lines = ap (λ rest. p ∷ rest) (params-back params lines)

ops-back : (ops : List Op) (lines : List Line) → ops_in (map Instruction ops ++ End ∷ lines) ≡ ops
ops-back [] lines = refl
ops-back (op ∷ ops) lines = ap (λ rest. op ∷ rest) (ops-back ops lines)

past-params : (params : List Param) (lines : List Line) → image_of (map Parameter params ++ lines) ≡ image_of lines
past-params [] lines = refl
past-params (p ∷ params) lines = past-params params lines

past-ops : (ops : List Op) (lines : List Line) → image_of (map Instruction ops ++ lines) ≡ image_of lines
past-ops [] lines = refl
past-ops (op ∷ ops) lines = past-ops ops lines

past-ops-of-side : (ops : List Op) (lines : List Line) → side_of (map Instruction ops ++ lines) ≡ side_of lines
past-ops-of-side [] lines = refl
past-ops-of-side (op ∷ ops) lines = past-ops-of-side ops lines

blocks-back : (number : ℕ) (blocks : List (List ℕ)) (lines : List Line) → image_of (block_lines number blocks ++ lines) ≡ in_trusted (with_blocks blocks) (image_of lines)
blocks-back number [] lines = refl
blocks-back number (block ∷ blocks) lines = ap (in_trusted (with_blocks (block ∷ []))) (blocks-back (suc number) blocks lines)

blocks-of-side : (number : ℕ) (blocks : List (List ℕ)) (lines : List Line) → side_of (block_lines number blocks ++ lines) ≡ with_blocks blocks (side_of lines)
blocks-of-side number [] lines = refl
blocks-of-side number (block ∷ blocks) lines = ap (with_blocks (block ∷ [])) (blocks-of-side (suc number) blocks lines)

imports-back : (imports : List Import) (lines : List Line) → image_of (map TaintedFunction imports ++ lines) ≡ with_imports imports (image_of lines)
imports-back [] lines = refl
imports-back (i ∷ imports) lines = ap (with_imports (i ∷ [])) (imports-back imports lines)

callbacks-back : (callbacks : List Callback) (lines : List Line) → image_of (flat_map callback_lines callbacks ++ lines) ≡ with_callbacks callbacks (image_of lines)
callbacks-back [] lines = refl
callbacks-back (c ∷ callbacks) lines =
    rw (
      append_assoc (map Parameter c.signature) (flat_map callback_lines callbacks) lines,
      params-back c.signature (flat_map callback_lines callbacks ++ lines),
      past-params c.signature (flat_map callback_lines callbacks ++ lines),
    )
    (ap (with_callbacks (c ∷ [])) (callbacks-back callbacks lines))

functions-back : (funs : List Func) (lines : List Line) → image_of (flat_map function_lines funs ++ lines) ≡ in_trusted (with_funs funs) (image_of lines)
functions-back [] lines = refl
functions-back (f ∷ funs) lines =
    rw (
      append_assoc (map Instruction f.ops ++ End ∷ []) (flat_map function_lines funs) lines,
      append_assoc (map Instruction f.ops) (End ∷ []) (flat_map function_lines funs ++ lines),
      ops-back f.ops (flat_map function_lines funs ++ lines),
      past-ops f.ops (End ∷ (flat_map function_lines funs ++ lines)),
    )
    (ap (in_trusted (with_funs (f ∷ []))) (functions-back funs lines))

functions-of-side : (funs : List Func) (lines : List Line) → side_of (flat_map function_lines funs ++ lines) ≡ with_funs funs (side_of lines)
functions-of-side [] lines = refl
functions-of-side (f ∷ funs) lines =
    rw (
      append_assoc (map Instruction f.ops ++ End ∷ []) (flat_map function_lines funs) lines,
      append_assoc (map Instruction f.ops) (End ∷ []) (flat_map function_lines funs ++ lines),
      ops-back f.ops (flat_map function_lines funs ++ lines),
      past-ops-of-side f.ops (End ∷ (flat_map function_lines funs ++ lines)),
    )
    (ap (with_funs (f ∷ [])) (functions-of-side funs lines))

main-back : (number : Option ℕ) (lines : List Line) → image_of (main_lines number ++ SandboxSide ∷ lines) ≡ with_main number (image_of (SandboxSide ∷ lines))
main-back None lines = refl
main-back (Some number) lines = refl

side-back : (side : SideCode) → side_of ((block_lines 0 side.blocks ++ flat_map function_lines side.funs) ++ Close ∷ []) ≡ side
side-back side =
    rw (
      append_assoc (block_lines 0 side.blocks) (flat_map function_lines side.funs) (Close ∷ []),
      blocks-of-side 0 side.blocks (flat_map function_lines side.funs ++ Close ∷ []),
      functions-of-side side.funs (Close ∷ []),
      append-nil side.blocks,
      append-nil side.funs,
    ) refl

pub image-back : (image : Image) → image_of (lines_of image) ≡ image
image-back image =
    let later : List Line = SandboxSide ∷ (sandbox_lines image ++ Close ∷ []) in
    let layout = image.layout in
    let a = block_lines 0 image.trusted.blocks in
    let b = map TaintedFunction layout.imports in
    let c = flat_map callback_lines layout.callbacks in
    let d = flat_map function_lines image.trusted.funs in
    let e = main_lines layout.main in
    rw (
      append_assoc a (b ++ (c ++ (d ++ e))) later,
      append_assoc b (c ++ (d ++ e)) later,
      append_assoc c (d ++ e) later,
      append_assoc d e later,
      blocks-back 0 image.trusted.blocks (b ++ (c ++ (d ++ (e ++ later)))),
      imports-back layout.imports (c ++ (d ++ (e ++ later))),
      callbacks-back layout.callbacks (d ++ (e ++ later)),
      functions-back image.trusted.funs (e ++ later),
      main-back layout.main (sandbox_lines image ++ Close ∷ []),
      side-back image.sandbox,
      append-nil image.trusted.blocks,
      append-nil image.trusted.funs,
      append-nil layout.imports,
      append-nil layout.callbacks,
    ) refl

-- images in format that have the same listing are the same
pub listing-injective : (one other : Image) → InFormat one → InFormat other → listing one ≡ listing other → one ≡ other
listing-injective one other f g e = sym (image-back one) ∙ ap image_of (lines-injective (lines_of one) (lines_of other) f.lines g.lines e) ∙ image-back other
