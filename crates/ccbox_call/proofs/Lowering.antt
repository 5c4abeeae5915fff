-- What is accepted can be lowered.
use Rattle.std.proofs.Common.{◌≡◌, ℕ, ◌+◌, ◌^◌, ◌≤◌, List, [], ◌∷◌, length, map, Some, refl, ap, ◌∙◌, arith}
use Rattle.std.specs.Prelude.{sum, All, slice_get, option_map}
use Rattle.std.proofs.lemmas.List.{length-map}
use Rattle.std.proofs.lemmas.List.Elements.{All-map, All-from_recursion}
use Rattle.std.proofs.lemmas.List.Sums.{sum_by-cons}
use Rattle.flat_bytes.specs.Blocks.{first_offset, grown, rounded_up}
use Rattle.ckc_core.specs.Programs.{Initial, Variable}
use Rattle.ckc_core.specs.Core.{Parted, Function}
use Rattle.check_insertion.specs.Erased as erased
use Rattle.check_insertion.specs.Insert.{function, with_checks}
use Rattle.check_insertion.proofs.Insertions.{function_there}
use Rattle.check_insertion.proofs.Sizes.{same_body, few_in_statements}
use Rattle.ckc_core.specs.Weights.{statements_weight}
use Rattle.lowering.specs.Correct.{counted_from, IsCell, IsFunction, IsLowerable}
use Rattle.region_typing_rules.specs.Lowerable.{cells_size, objects_size, IsRoomy, IsSmall, HasFewFunctions, IsSmallCore}
use Rattle.region_typing_rules.specs.Typed as typed
use Rattle.region_typing_rules.specs.Typed.{Frame, IsTyped}
use Rattle.ccbox_call.proofs.Sized.{sized_statements, width_is}

cell_is : (i : Initial) → IsRoomy i → IsCell i
cell_is i roomy = record { room = omega (arith, width_is i.type, roomy.room); typed = roomy.typed; word = roomy.word; null = roomy.null }

sizes_are : (cells : List Initial) → sum (map (λ (i : Initial). i.stride) cells) ≡ cells_size cells
sizes_are [] = refl
sizes_are (i ∷ is) = sum_by-cons (λ n. n) i.stride (map (λ (i : Initial). i.stride) is) ∙ ap (λ n. i.stride + n) (sizes_are is)

counted_is : (objects : List Variable) (offset : ℕ) → counted_from offset objects ≡ offset + objects_size objects
counted_is [] offset = omega arith
counted_is (v ∷ objects) offset =
    let behind = counted_is objects (grown offset (sum (map (λ (i : Initial). i.stride) v.cells))) in
    let size = ap rounded_up (sizes_are v.cells) in
    behind ∙ omega (arith, size)

-- the body has few nodes
abbrev pub IsLight : Function → Type 0
IsLight f = statements_weight f.body ≤ 2 ^ 25

function_is : (g : Frame) (f : Function) → typed.IsFunction g f → IsSmall 3400 f → IsLight f → IsFunction (function f)
function_is g f rules small light = record {
  parameters = small.few_parameters;
  held = small.held;
  frame = omega (arith, small.few_locals, small.low, same_body f);
  few_nodes = omega (arith, light, few_in_statements f.body);
  sized = sized_statements (length f.locals) (omega arith) f.body rules.body;
}

-- `main` with its checks
main_is : (c : Parted) → (f : Function) × (slice_get c.functions c.main ≡ Some f) × (f.parameters ≡ 0)
    → (f : erased.Function) × (slice_get (map function c.functions) c.main ≡ Some f) × (f.parameters ≡ 0)
main_is c main = (function main.0, function_there c.functions c.main ∙ ap (option_map function) main.1, main.2)

pub small_is_lowerable : (c : Parted) → IsTyped c → IsSmallCore c → HasFewFunctions c → All IsLight c.functions → IsLowerable (with_checks c)
small_is_lowerable c rules small few light = record {
  cells = λ k d lt. let here = small.cells k d lt in ((λ j e less. cell_is _ (here.0 j e less)), here.1);
  objects = omega (arith, counted_is c.objects first_offset, small.objects);
  imports = small.imports;
  functions = All-map IsFunction function c.functions (λ k d lt. function_is (record { program = c; structs = rules.structs; bounds = rules.bounds; result_bounds = rules.result_bounds; object_bounds = rules.object_bounds }) _ (All-from_recursion (typed.IsFunction (record { program = c; structs = rules.structs; bounds = rules.bounds; result_bounds = rules.result_bounds; object_bounds = rules.object_bounds })) c.functions rules.functions k d lt) (small.functions k d lt) (light k d lt));
  few_functions = omega (arith, few.functions, length-map c.functions function);
  few_imports = few.imports;
  main = main_is c small.main;
}
