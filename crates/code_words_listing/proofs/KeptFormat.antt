-- An image in the format keeps what every image keeps.
use Rattle.std.proofs.Common.{◌≡◌, ℕ, suc, ◌≤◌, true, List, [], ◌∷◌, ◌++◌, map, flat_map, refl, lit<, arith}
use Rattle.std.specs.Prelude.{All, IsTrue, nat_le}
use Rattle.std.specs.List.{list_all}
use Rattle.std.proofs.lemmas.List.Elements.{All-nil, All-cons, All-weaker, All-head, All-tail}
use Rattle.std.proofs.lemmas.Bool.Decides.{nat_tests}
use Rattle.ckc_text.specs.Names.{IsName}
use Rattle.code_words.specs.declared.op.Op.{Op}
use Rattle.code_words.specs.declared.op.Op.TheVariants as ops
use Rattle.code_words.specs.Formats.{HasSmallFrame, is_sized, is_sized_function, KeepsFormat, HasNames}
use Rattle.code_words.specs.Functions.{Func, Import}
use Rattle.code_words.specs.Images.{Image}
use Rattle.code_words.specs.Paced.{is_paced}
use Rattle.code_words_listing.specs.Fields.{Fixed}
use Rattle.code_words_listing.specs.Lines.{Line, TaintedFunction, Begin, Instruction, End, SandboxSide, Close, IsAllowed}
use Rattle.code_words_listing.specs.Listings.{trusted_lines, sandbox_lines, block_lines, callback_lines, function_lines, main_lines, InFormat}
use Rattle.code_words_listing.proofs.OneVerdict.{all-front}
use Rattle.code_words_listing.proofs.SomeVerdict.{all-back}

at-least : (n : ℕ) → 1 ≤ n → nat_le 1 n ≡ true
at-least n h = grind (arith, nat_tests)

sized : (op : Op) → IsAllowed (Instruction op) → is_sized op ≡ true
sized (ops.Index size) a = at-least size (a.words 1 (Fixed []) (lit< tt)).0
sized (ops.In low high size place) a = at-least size (a.words 3 (Fixed []) (lit< tt)).0
sized (ops.UpTo low high size place) a = at-least size (a.words 3 (Fixed []) (lit< tt)).0
sized (ops.Term high size place) a = at-least size (a.words 2 (Fixed []) (lit< tt)).0
sized (ops.Contain low1 high1 low2 high2 size place) a = at-least size (a.words 5 (Fixed []) (lit< tt)).0
sized (ops.Lies low high size more place) a = at-least size (a.words 3 (Fixed []) (lit< tt)).0
sized (ops.Alloc size) a = at-least size (a.words 1 (Fixed []) (lit< tt)).0
sized (ops.AllocTerminated size) a = at-least size (a.words 1 (Fixed []) (lit< tt)).0
sized (ops.SandboxAlloc size) a = at-least size (a.words 1 (Fixed []) (lit< tt)).0
sized op a = refl

all-sized : (code : List Op) → All IsAllowed (map Instruction code) → list_all is_sized code ≡ true
all-sized [] h = refl
all-sized (op ∷ code) h =
    rw (sized op (All-head IsAllowed (Instruction op) (map Instruction code) h)) (all-sized code (All-tail IsAllowed (Instruction op) (map Instruction code) h))

-- what the lines of a function tell
pub record IsAsAllowed (f : Func) : Type 0 where
  pub named : IsName f.name
  pub frame : HasSmallFrame f
  pub sized : is_sized_function f ≡ true

pub function-allowed : (f : Func) → All IsAllowed (function_lines f) → IsAsAllowed f
function-allowed f h =
    let begin = Begin f.number f.name f.args f.slots f.stack f.result in
    let a = All-head IsAllowed begin (map Instruction f.ops ++ End ∷ []) h in
    let code = all-front IsAllowed (map Instruction f.ops) (End ∷ []) (All-tail IsAllowed begin (map Instruction f.ops ++ End ∷ []) h) in
    record {
      named = a.words 2 (Fixed []) (lit< tt);
      frame = record { words = a.limits.0; arguments = a.limits.1; held = a.limits.2 };
      sized = all-sized f.ops code;
    }

functions-allowed : (funs : List Func) → All IsAllowed (flat_map function_lines funs) → All IsAsAllowed funs
functions-allowed [] h = All-nil IsAsAllowed
functions-allowed (f ∷ funs) h =
    All-cons IsAsAllowed f funs (function-allowed f (all-front IsAllowed (function_lines f) (flat_map function_lines funs) h))
    (functions-allowed funs (all-back IsAllowed (function_lines f) (flat_map function_lines funs) h))

functions-sized : (funs : List Func) → All IsAsAllowed funs → list_all is_sized_function funs ≡ true
functions-sized [] h = refl
functions-sized (f ∷ funs) h = rw ((All-head IsAsAllowed f funs h).sized) (functions-sized funs (All-tail IsAsAllowed f funs h))

imports-allowed : (imports : List Import) → All IsAllowed (map TaintedFunction imports) → All (λ (i : Import). IsAllowed (TaintedFunction i)) imports
imports-allowed [] h = All-nil (λ (i : Import). IsAllowed (TaintedFunction i))
imports-allowed (i ∷ imports) h =
    All-cons (λ (i : Import). IsAllowed (TaintedFunction i)) i imports (All-head IsAllowed (TaintedFunction i) (map TaintedFunction imports) h)
    (imports-allowed imports (All-tail IsAllowed (TaintedFunction i) (map TaintedFunction imports) h))

-- what the lines of an image tell
record Told (image : Image) : Type 0 where
  pub funs : All IsAsAllowed image.trusted.funs
  pub bodies : All IsAsAllowed image.sandbox.funs
  pub imports : All (λ (i : Import). IsAllowed (TaintedFunction i)) image.layout.imports

told : (image : Image) → InFormat image → Told image
told image f =
    let a = block_lines 0 image.trusted.blocks in
    let b = map TaintedFunction image.layout.imports in
    let c = flat_map callback_lines image.layout.callbacks in
    let d = flat_map function_lines image.trusted.funs in
    let e = main_lines image.layout.main in
    let later : List Line = SandboxSide ∷ (sandbox_lines image ++ Close ∷ []) in
    let lines : All IsAllowed (trusted_lines image ++ later) = λ k x low. f.lines (suc (suc k)) x (omega (arith, low)) in
    let trusted = all-front IsAllowed (trusted_lines image) later lines in
    let behind = all-back IsAllowed (trusted_lines image) later lines in
    let sandbox = all-front IsAllowed (sandbox_lines image) (Close ∷ []) (All-tail IsAllowed SandboxSide (sandbox_lines image ++ Close ∷ []) behind) in
    let from-imports = all-back IsAllowed a (b ++ (c ++ (d ++ e))) trusted in
    let from-functions = all-back IsAllowed c (d ++ e) (all-back IsAllowed b (c ++ (d ++ e)) from-imports) in
    record {
      funs = functions-allowed image.trusted.funs (all-front IsAllowed d e from-functions);
      bodies = functions-allowed image.sandbox.funs (all-back IsAllowed (block_lines 0 image.sandbox.blocks) (flat_map function_lines image.sandbox.funs) sandbox);
      imports = imports-allowed image.layout.imports (all-front IsAllowed b (c ++ (d ++ e)) from-imports);
    }

-- an image in the format that keeps the pace keeps what every image keeps
pub keeps-format : (image : Image) → InFormat image → IsTrue (is_paced image) → KeepsFormat image
keeps-format image f paced =
    let t = told image f in
    record {
      functions = f.functions;
      imports = f.imports;
      callbacks = f.callbacks;
      bodies = f.bodies;
      imported = f.imported;
      frames = All-weaker IsAsAllowed HasSmallFrame (λ f a. a.frame) image.trusted.funs t.funs;
      sandbox_frames = All-weaker IsAsAllowed HasSmallFrame (λ f a. a.frame) image.sandbox.funs t.bodies;
      sized = functions-sized image.trusted.funs t.funs;
      sandbox_sized = functions-sized image.sandbox.funs t.bodies;
      few_arguments = All-weaker (λ (i : Import). IsAllowed (TaintedFunction i)) (λ (i : Import). i.args ≤ 16) (λ i a. a.limits) image.layout.imports t.imports;
      callable = f.callable;
      paced = paced;
    }

pub has-names : (image : Image) → InFormat image → HasNames image
has-names image f =
    let t = told image f in
    record {
      functions = All-weaker IsAsAllowed (λ (f : Func). IsName f.name) (λ f a. a.named) image.trusted.funs t.funs;
      bodies = All-weaker IsAsAllowed (λ (f : Func). IsName f.name) (λ f a. a.named) image.sandbox.funs t.bodies;
      imports = All-weaker (λ (i : Import). IsAllowed (TaintedFunction i)) (λ (i : Import). IsName i.name) (λ i a. a.words 2 (Fixed []) (lit< tt)) image.layout.imports t.imports;
    }
