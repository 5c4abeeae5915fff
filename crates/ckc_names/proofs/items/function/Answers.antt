use Rattle.std.proofs.Common.{◌≡◌, Bool, List, [], ◌∷◌, ◌++◌, is_some, refl, ap, sym, ◌∙◌}
use Rattle.std.specs.Option.{option_map}
use Rattle.ckc_tree.specs.declared.item.Function.{Function}
use Rattle.ckc_tree.specs.Expressions.{bounds}
use Rattle.ckc_tree.specs.Items.{parameters, result_form, body, function}
use Rattle.ckc_names_rules.specs.Mentions.{Mention, DeclareFunction, function_mentions, optional_mentions, bounds_mentions, in_block, parameters_mentions, result_mentions}
use Rattle.ckc_names.specs.Slices.{body_mentions}
use Rattle.ckc_names.proofs.Going.{on, some_shown}
use Rattle.ckc_names.proofs.items.function.Goals as goal

-- what the block of a function says
abbrev inner : Function → List Mention
inner f = in_block (parameters_mentions (parameters f.parameters) ++ (optional_mentions bounds_mentions (option_map bounds f.bounds) ++ optional_mentions body_mentions (option_map body f.body)))

-- what a function says, where a test says whether it has a body
says : (f : Function) (defined : Bool) → defined ≡ is_some f.body → function_mentions (function f) ≡ result_mentions (result_form f.result) ++ (DeclareFunction f.name defined ∷ [] ++ inner f)
says f defined is = ap (λ b. result_mentions (result_form f.result) ++ DeclareFunction f.name b ∷ inner f) (some_shown body f.body ∙ sym is)

pub returns : goal.returns
returns c =
    on (says c.args.written.now c.is_some.result c.is_some.ensures) c.result_form.ensures
    (on refl c.declare_function.ensures (on refl c.open.ensures (on refl c.function_block.ensures c.close.ensures)))
