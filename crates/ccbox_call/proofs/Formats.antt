-- The image of an accepted program is in the format of a listing, where its numbers fit their words.
use Rattle.std.proofs.Common.{◌≡◌, ℕ, suc, ◌+◌, ◌<◌, ◌≤◌, ◌^◌, Bool, true, false, List, [], ◌∷◌, ◌++◌, length, map, flat_map, refl, ap, nat_le, arith}
use Rattle.std.specs.Prelude.{◌&&◌, All}
use Rattle.std.specs.List.{list_all, AllByRecursion}
use Rattle.std.proofs.lemmas.Bool.Decides.{nat_tests}
use Rattle.std.proofs.lemmas.List.Elements.{All-nil, All-cons, All-append, All-head, All-tail, All-from_recursion}
use Rattle.ckc_text.specs.Names.{IsName}
use Rattle.act_words.specs.declared.settings.Settings.{Settings}
use Rattle.act_words.specs.Limits.{AreAllowed}
use Rattle.flat_bytes.specs.Blocks.{grown}
use Rattle.code_words.specs.Formats.{Follow, HasSmallFrame, is_sized, is_sized_function, KeepsFormat}
use Rattle.code_words.specs.Functions.{Func, Import}
use Rattle.code_words.specs.Images.{Image}
use Rattle.code_words.specs.Runs.{counter_behind}
use Rattle.code_words.specs.declared.op.Op.{Op}
use Rattle.code_words.specs.declared.op.Op.TheVariants as ops
use Rattle.code_words_listing.specs.Fields as fields
use Rattle.code_words_listing.specs.Instructions.{operands}
use Rattle.code_words_listing.specs.Lines.{Line, Heading, TrustedSide, StaticBlock, TaintedFunction, Begin, Instruction, End, Main, SandboxSide, Close, IsAllowed}
use Rattle.code_words_listing.specs.Lines as lines
use Rattle.code_words_listing.specs.Listings.{block_lines, function_lines, trusted_lines, lines_of, InFormat}
use Rattle.ckc_core.specs.Programs as programs
use Rattle.check_insertion.specs.Erased.{Erased, Function}
use Rattle.lowering.specs.Correct.{IsLowerable}
use Rattle.lowering.specs.Images.{functions_from, imports_from, image_of}
use Rattle.lowering.proofs.Expressions.{index_below}
use Rattle.lowering.proofs.Fits.{keeps_format, image_fits}
use Rattle.ccbox_call.specs.Words.{HasWords, IsBytes, AreWords, FitsWords}

-- a line whose words fit and that keeps the limits may stand in a listing
allowed : (line : Line) → AllByRecursion fields.Fits (lines.fields line) → lines.KeepsLimits line → IsAllowed line
allowed line words limits = record { words = All-from_recursion fields.Fits (lines.fields line) words; limits = limits }

-- ---- instructions

at_least : (n : ℕ) → nat_le 1 n ≡ true → 1 ≤ n
at_least n h = grind (arith, nat_tests)

-- a size is 1 or more
sized_words : (op : Op) → is_sized op ≡ true → HasWords op → AllByRecursion fields.Fits (operands op)
sized_words (ops.Index size) s h = ((at_least size s, h.0), tt)
sized_words (ops.In low high size place) s h = (h.0, (h.1.0, ((at_least size s, h.1.1.0), h.1.1.1)))
sized_words (ops.UpTo low high size place) s h = (h.0, (h.1.0, ((at_least size s, h.1.1.0), h.1.1.1)))
sized_words (ops.Term high size place) s h = (h.0, ((at_least size s, h.1.0), h.1.1))
sized_words (ops.Contain low1 high1 low2 high2 size place) s h = (h.0, (h.1.0, (h.1.1.0, (h.1.1.1.0, ((at_least size s, h.1.1.1.1.0), h.1.1.1.1.1)))))
sized_words (ops.Lies low high size more place) s h = (h.0, (h.1.0, ((at_least size s, h.1.1.0), h.1.1.1)))
sized_words (ops.Alloc size) s h = ((at_least size s, h.0), tt)
sized_words (ops.AllocTerminated size) s h = ((at_least size s, h.0), tt)
sized_words (ops.SandboxAlloc size) s h = ((at_least size s, h.0), tt)
sized_words op s h = h

first_true : (a b : Bool) → (a && b) ≡ true → a ≡ true
first_true true b h = refl
first_true false b h = cc

second_true : (a b : Bool) → (a && b) ≡ true → b ≡ true
second_true true b h = h
second_true false b h = cc

instructions_allowed : (code : List Op) → list_all is_sized code ≡ true → All HasWords code → All IsAllowed (map Instruction code)
instructions_allowed [] s h = All-nil IsAllowed
instructions_allowed (op ∷ code) s h =
    All-cons IsAllowed (Instruction op) (map Instruction code)
    (allowed (Instruction op) (tt, sized_words op (first_true (is_sized op) (list_all is_sized code) s) (All-head HasWords op code h)) tt)
    (instructions_allowed code (second_true (is_sized op) (list_all is_sized code) s) (All-tail HasWords op code h))

-- ---- functions

abbrev HasName : Func → Type 0
HasName f = IsName f.name

function_allowed : (f : Func) → f.number < 2 ^ 32 → IsName f.name → HasSmallFrame f → is_sized_function f ≡ true → AreWords f → All IsAllowed (function_lines f)
function_allowed f low named frame s h =
    let begin = Begin f.number f.name f.args f.slots f.stack f.result in
    All-cons IsAllowed begin (map Instruction f.ops ++ End ∷ [])
    (allowed begin (tt, (low, (named, (tt, (omega (arith, frame.arguments), (tt, (omega (arith, frame.words), (tt, (omega (arith, frame.words), (tt, (tt, tt))))))))))) (frame.words, frame.arguments, frame.held))
    (All-append IsAllowed (map Instruction f.ops) (End ∷ []) (instructions_allowed f.ops s h) (All-cons IsAllowed End [] (allowed End (tt, tt) tt) (All-nil IsAllowed)))

functions_allowed : (first : ℕ) (funs : List Func) → Follow first (map (λ (f : Func). f.number) funs) → first + length funs ≤ 4096 → All HasName funs → All HasSmallFrame funs → list_all is_sized_function funs ≡ true → All AreWords funs
    → All IsAllowed (flat_map function_lines funs)
functions_allowed first [] follow few named frames s h = All-nil IsAllowed
functions_allowed first (f ∷ funs) follow few named frames s h =
    All-append IsAllowed (function_lines f) (flat_map function_lines funs)
    (function_allowed f (omega (arith, follow.0, few)) (All-head HasName f funs named) (All-head HasSmallFrame f funs frames) (first_true (is_sized_function f) (list_all is_sized_function funs) s) (All-head AreWords f funs h))
    (functions_allowed (suc first) funs follow.1 (omega (arith, few)) (All-tail HasName f funs named) (All-tail HasSmallFrame f funs frames) (second_true (is_sized_function f) (list_all is_sized_function funs) s) (All-tail AreWords f funs h))

-- ---- static blocks

-- blocks stand one behind another
behind_more : (counter : ℕ) (blocks : List (List ℕ)) → counter ≤ counter_behind counter blocks
behind_more counter [] = omega arith
behind_more counter (block ∷ blocks) = omega (arith, behind_more (grown counter (length block)) blocks)

blocks_allowed : (number counter : ℕ) (blocks : List (List ℕ)) → number ≤ counter → counter_behind counter blocks ≤ 65536 → All IsBytes blocks → All IsAllowed (block_lines number blocks)
blocks_allowed number counter [] le low h = All-nil IsAllowed
blocks_allowed number counter (block ∷ blocks) le low h =
    let more = behind_more (grown counter (length block)) blocks in
    All-cons IsAllowed (StaticBlock number block) (block_lines (suc number) blocks)
    (allowed (StaticBlock number block) (tt, (omega (arith, more, low, le), (omega (arith, more, low), (All-head IsBytes block blocks h, tt)))) tt)
    (blocks_allowed (suc number) (grown counter (length block)) blocks (omega (arith, le)) low (All-tail IsBytes block blocks h))

-- ---- tainted functions

abbrev HasFewArguments : Import → Type 0
HasFewArguments i = i.args ≤ 16

abbrev IsNamed : Import → Type 0
IsNamed i = IsName i.name

imports_allowed : (first : ℕ) (imports : List Import) → Follow first (map (λ (i : Import). i.number) imports) → first + length imports ≤ 4096 → All IsNamed imports → All HasFewArguments imports → All IsAllowed (map TaintedFunction imports)
imports_allowed first [] follow few named args = All-nil IsAllowed
imports_allowed first (i ∷ imports) follow few named args =
    let most : i.args ≤ 16 = All-head HasFewArguments i imports args in
    All-cons IsAllowed (TaintedFunction i) (map TaintedFunction imports)
    (allowed (TaintedFunction i) (tt, (omega (arith, follow.0, few), (All-head IsNamed i imports named, (tt, (omega (arith, most), (tt, (tt, tt))))))) most)
    (imports_allowed (suc first) imports follow.1 (omega (arith, few)) (All-tail IsNamed i imports named) (All-tail HasFewArguments i imports args))

-- ---- the whole image

-- the settings with the smallest memories
abbrev least_settings : Settings
least_settings = record { budget = 1; sandbox = 65536; trusted = 65536; base = 16; view = false; releases = false; dump = false; code = false }

least_allowed : AreAllowed least_settings
least_allowed = record {
  least_budget = omega arith;
  most_budget = omega arith;
  least_sandbox = omega arith;
  most_sandbox = omega arith;
  least_trusted = omega arith;
  most_trusted = omega arith;
  least_base = omega arith;
  most_base = omega arith;
  base_aligned = refl;
}

functions_length : (number : ℕ) (functions : List Function) → length (functions_from number functions) ≡ length functions
functions_length number [] = refl
functions_length number (f ∷ functions) = ap suc (functions_length (suc number) functions)

imports_length : (number : ℕ) (imports : List programs.Import) → length (imports_from number imports) ≡ length imports
imports_length number [] = refl
imports_length number (i ∷ imports) = ap suc (imports_length (suc number) imports)

module _ (program : Erased) (lowerable : IsLowerable program) (fits : FitsWords (image_of program)) where
  abbrev image : Image
  image = image_of program

  keeps : KeepsFormat image
  keeps = keeps_format program lowerable

  trusted_allowed : All IsAllowed (trusted_lines image)
  trusted_allowed =
      let blocks = (image_fits program lowerable least_settings least_allowed).trusted in
      let main : program.main < length program.functions = index_below program.functions program.main (lowerable.main).0 (lowerable.main).1 in
      let few : program.main < 2 ^ 32 = omega (arith, main, lowerable.few_functions) in
      All-append IsAllowed (block_lines 0 image.trusted.blocks) _ (blocks_allowed 0 16 image.trusted.blocks (omega arith) blocks.low fits.bytes)
      (All-append IsAllowed (map TaintedFunction image.layout.imports) _
      (imports_allowed 0 image.layout.imports keeps.imports (omega (arith, imports_length 0 program.imports, lowerable.few_imports)) (fits.names).imports keeps.few_arguments)
      (All-append IsAllowed (flat_map function_lines image.trusted.funs) (Main program.main ∷ [])
      (functions_allowed 0 image.trusted.funs keeps.functions (omega (arith, functions_length 0 program.functions, lowerable.few_functions)) (fits.names).functions keeps.frames keeps.sized fits.numbers)
      (All-cons IsAllowed (Main program.main) [] (allowed (Main program.main) (tt, (few, tt)) tt) (All-nil IsAllowed))))

  lines_allowed : All IsAllowed (lines_of image)
  lines_allowed =
      let end : All IsAllowed (SandboxSide ∷ Close ∷ []) = All-cons IsAllowed SandboxSide (Close ∷ []) (allowed SandboxSide (tt, tt) tt) (All-cons IsAllowed Close [] (allowed Close (tt, tt) tt) (All-nil IsAllowed)) in
      let behind = trusted_lines image ++ SandboxSide ∷ Close ∷ [] in
      All-cons IsAllowed Heading (TrustedSide ∷ behind) (allowed Heading (tt, (tt, (tt, tt))) tt)
      (All-cons IsAllowed TrustedSide behind (allowed TrustedSide (tt, tt) tt)
      (All-append IsAllowed (trusted_lines image) (SandboxSide ∷ Close ∷ []) trusted_allowed end))

  -- the image is in the format
  pub in_format : InFormat image
  in_format = record { functions = keeps.functions; imports = keeps.imports; callbacks = keeps.callbacks; bodies = keeps.bodies; imported = keeps.imported; callable = keeps.callable; lines = lines_allowed }
