-- What a core consists of, and its functions one by one.
use Rattle.std.proofs.Common.{◌≡◌, ℕ, false, ◌+◌, ◌<◌, ◌≤◌, List, [], ◌∷◌, ◌++◌, length, map, drop, get_or, refl}
use Rattle.ckc_core.specs.Programs.{Definition, Variable}
use Rattle.ckc_core.specs.Core as core
use Rattle.region_typing_rules.specs.Verdicts.{Passes}
use Rattle.region_typing_rules.specs.Calls.{side_number}
use Rattle.region_typing_rules.specs.Strings.{text_object}
use Rattle.region_typing_rules.specs.Items.{Walk}
use Rattle.region_typing_rules.specs.Cores.{definition_of, definitions_of, core_of}
use Rattle.region_typing_scope.specs.declared.signature.Signature as code
use Rattle.region_typing_scope.specs.Views.{signature}
use Rattle.region_typing.proofs.Lists.{made_more, made_all}

pub definitions_more : (fs : List code.Signature) (k : ℕ) (f : code.Signature) (all built new : List (Definition core.Statements)) → k < length fs → f ≡ get_or fs k f → new ≡ built ++ definition_of [] (signature f) ∷ [] → all ≡ built ++ definitions_of [] (map signature (drop k fs)) → all ≡ new ++ definitions_of [] (map signature (drop (k + 1) fs))
definitions_more fs k f all built new less is are so_far = made_more signature (definitions_of []) (λ g gs. refl) fs k f all built new less is are so_far

pub definitions_done : (fs : List code.Signature) (k : ℕ) (all built : List (Definition core.Statements)) → length fs ≤ k → all ≡ built ++ definitions_of [] (map signature (drop k fs)) → built ≡ all
definitions_done fs k all built end so_far = made_all signature (definitions_of []) refl fs k all built end so_far

-- the core of a walk, part by part
pub core_made : (entry : ℕ) (w : Walk) (objects : List Variable) (definitions : List (Definition core.Statements)) (main : ℕ)
    → objects ≡ w.objects ++ map text_object w.scope.strings.texts → definitions ≡ definitions_of w.bodies w.scope.functions → main ≡ side_number false w.scope.functions entry 0
    → Passes (core_of entry w) ≡ Passes (record { objects = objects; definitions = definitions; main = main })
core_made entry w objects definitions main objects_are definitions_are main_is = rw (objects_are, definitions_are, main_is) refl
