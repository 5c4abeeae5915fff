-- The images of programs that can be lowered keep the format, and may run under all settings that are allowed.
use Rattle.std.proofs.Common.{◌≡◌, ℕ, suc, ◌+◌, ◌<◌, ◌≤◌, List, [], ◌∷◌, length, map, Some, refl, ap, ◌∙◌, arith}
use Rattle.std.specs.List.{AllByRecursion}
use Rattle.std.proofs.lemmas.List.Elements.{recursion_from_All, All-from_recursion, All-nil}
use Rattle.act_words.specs.declared.settings.Settings.{Settings}
use Rattle.act_words.specs.Limits.{AreAllowed}
use Rattle.flat_bytes.specs.Blocks.{first_offset}
use Rattle.ckc_text.specs.Names.{IsName}
use Rattle.ckc_core.specs.Programs.{Variable, Import}
use Rattle.check_insertion.specs.Erased.{Erased, Function}
use Rattle.code_words.specs.Fitting.{Fits}
use Rattle.code_words.specs.Formats.{HasSmallFrame, IsFunc, Follow, KeepsFormat}
use Rattle.code_words.specs.Functions.{Func}
use Rattle.code_words.specs.Functions as code
use Rattle.lowering.specs.Images.{object_bytes, function_code, functions_from, imports_from, image_of}
use Rattle.lowering.specs.Correct.{IsFunction, IsLowerable, KeepsMeaning}
use Rattle.lowering.proofs.Executions.{IsObject, object_size, object_above, counter_of, end_of}
use Rattle.lowering.proofs.Steps.{function_there}
use Rattle.lowering.proofs.Programs.{keeps_meaning}
use Rattle.lowering.proofs.Paces.{function_paced, function_sized, paced_functions, sized_functions}

not_empty : (objects : List Variable) → AllByRecursion IsObject objects → AllByRecursion (λ (block : List ℕ). 0 < length block) (map object_bytes objects)
not_empty [] all = tt
not_empty (v ∷ objects) all = (omega (arith, object_size v all.0, object_above v all.0), not_empty objects all.1)

frame : (number : ℕ) (f : Function) → IsFunction f → HasSmallFrame (function_code number f)
frame number f is = record { words = is.frame; arguments = is.parameters; held = omega (arith, is.held) }

-- the code of a function keeps what each function of an image does
pub is_func : (number : ℕ) (f : Function) → IsName f.name → IsFunction f → IsFunc (function_code number f)
is_func number f named is = record { named = named; frame = frame number f is; sized = rw (function_sized f is) refl; paced = rw (function_paced f is) refl }

frames : (number : ℕ) (functions : List Function) → AllByRecursion IsFunction functions → AllByRecursion HasSmallFrame (functions_from number functions)
frames number [] all = tt
frames number (f ∷ functions) all = (frame number f all.0, frames (suc number) functions all.1)

imported : (number : ℕ) (imports : List Import) → AllByRecursion (λ (i : Import). i.parameters ≤ 16) imports → AllByRecursion (λ (i : code.Import). i.args ≤ 16) (imports_from number imports)
imported number [] all = tt
imported number (i ∷ imports) all = (all.0, imported (suc number) imports all.1)

functions_follow : (number : ℕ) (functions : List Function) → Follow number (map (λ (f : Func). f.number) (functions_from number functions))
functions_follow number [] = tt
functions_follow number (f ∷ functions) = (refl, functions_follow (suc number) functions)

imports_follow : (number : ℕ) (imports : List Import) → Follow number (map (λ (i : code.Import). i.number) (imports_from number imports))
imports_follow number [] = tt
imports_follow number (i ∷ imports) = (refl, imports_follow (suc number) imports)

pub keeps_format : (program : Erased) → IsLowerable program → KeepsFormat (image_of program)
keeps_format program lowerable =
    let functions = recursion_from_All IsFunction program.functions lowerable.functions in
    record {
      functions = functions_follow 0 program.functions;
      imports = imports_follow 0 program.imports;
      callbacks = tt;
      bodies = tt;
      imported = All-nil _;
      frames = All-from_recursion HasSmallFrame (functions_from 0 program.functions) (frames 0 program.functions functions);
      sandbox_frames = All-nil HasSmallFrame;
      sized = rw (sized_functions 0 program.functions functions) refl;
      sandbox_sized = refl;
      few_arguments = All-from_recursion (λ (i : code.Import). i.args ≤ 16) (imports_from 0 program.imports) (imported 0 program.imports (recursion_from_All (λ (i : Import). i.parameters ≤ 16) program.imports lowerable.imports));
      callable = All-nil _;
      paced = rw (paced_functions 0 program.functions functions) refl;
    }

pub image_fits : (program : Erased) → IsLowerable program → (settings : Settings) → AreAllowed settings → Fits (image_of program) settings
image_fits program lowerable settings allowed =
    let objects = recursion_from_All IsObject program.objects lowerable.cells in
    let blocks = map object_bytes program.objects in
    let main = lowerable.main in
    record {
      allowed = allowed;
      trusted = record {
        not_empty = All-from_recursion (λ (block : List ℕ). 0 < length block) blocks (not_empty program.objects objects);
        low = omega (arith, counter_of first_offset program.objects objects, end_of first_offset program.objects, lowerable.objects, allowed.least_trusted);
      };
      sandbox = record { not_empty = All-nil (λ (block : List ℕ). 0 < length block); low = omega (arith, allowed.least_sandbox) };
      main = (program.main, function_code program.main main.0, record { named = refl; there = (let e : 0 + program.main ≡ program.main = omega arith in function_there 0 program.main program.functions main.0 main.1 ∙ ap (λ m. Some (function_code m main.0)) e); no_argument = main.2 });
    }

-- the image of a program that can be lowered keeps the format, fits, and ends wherever the program does
pub image_keeps : (program : Erased) → IsLowerable program → KeepsMeaning program (image_of program)
image_keeps program lowerable = record { format = keeps_format program lowerable; fits = image_fits program lowerable; ends = keeps_meaning program lowerable }
