-- The bodies of a program that breaks no rule have few nodes.
use Rattle.std.proofs.Common.{◌≡◌, ℕ, ◌*◌, ◌≤◌, Bool, true, false, List, [], ◌∷◌, ◌++◌, Option, Some, None, ap, ◌∙◌, subst, arith}
use Rattle.ckc_text.specs.declared.place.Span.{Span}
use Rattle.std.specs.Prelude.{◌==◌, not, ◌||◌, All}
use Rattle.std.specs.List.{AllByRecursion}
use Rattle.std.proofs.lemmas.List.Elements.{All-from_recursion}
use Rattle.ckc_text.specs.declared.code.Code.TheVariants.{E15}
use Rattle.ckc_tree.specs.Items as i
use Rattle.ckc_tree.specs.Items.{Item, Tree}
use Rattle.ckc_tree.specs.Weights as tree
use Rattle.ckc_core.specs.Core as core
use Rattle.ckc_core.specs.Core.{Core, Parted}
use Rattle.ckc_core.specs.Programs.{parted}
use Rattle.ckc_core.specs.Weights.{statements_weight}
use Rattle.ckc_tree.proofs.NumberedWeights.{same_weight}
use Rattle.ckc_names_rules.specs.Given.{main, number_in, given_in}
use Rattle.ckc_names_rules.specs.Naming.{named_of}
use Rattle.region_typing_rules.specs.Verdicts.{Verdict, Passes, Stops, passing, picked}
use Rattle.region_typing_rules.specs.Scopes.{Scope, Signature}
use Rattle.region_typing_rules.specs.Operands.{Places}
use Rattle.region_typing_rules.specs.Calls.{is_import}
use Rattle.region_typing_rules.specs.Statements.{statements, is_unchecked, is_checked}
use Rattle.region_typing_rules.specs.Items.{body_scope, variables_declared, Defined, Parameter, Walk, inside, core_function, function_body, item, items, start, walked}
use Rattle.region_typing_rules.specs.Cores.{body_of, small_core}
use Rattle.region_typing_rules.proofs.Sides.{core_is, trusted_functions, sides_of, sides_parted}
use Rattle.region_typing_rules.specs.NeverStuck.{HasCore}
use Rattle.region_typing_rules.proofs.Verdicts.{Promises, passing_promises, needs_promises}
use Rattle.region_typing_rules.proofs.Walks.{all_append}
use Rattle.region_typing_rules.proofs.Kept.{structure_kept, global_kept, function_kept}
use Rattle.region_typing_rules.proofs.StatementWeights.{statements_light}

abbrev pub IsLight : ℕ → core.Function → Type 0
IsLight n f = statements_weight f.body ≤ n

abbrev pub HasLightBody : ℕ → Defined → Type 0
HasLightBody n b = IsLight n b.function

module _ (n : ℕ) where
  abbrev AreLight : List Signature → List Defined → Type 0
  AreLight functions bodies = AllByRecursion (HasLightBody n) bodies

  abbrev HasLight : Walk → Type 0
  HasLight w = AllByRecursion (HasLightBody n) w.bodies

  abbrev behind_body : Walk → Signature → List Parameter → i.Body → core.Statements × Scope → Verdict Walk
  behind_body w f parameters body x = is_checked w.scope body.mark body.span (Passes (record w { scope = body_scope w body; bodies = w.bodies ++ record { name = f.name; function = core_function f parameters x.0 x.1 } ∷ [] }))

  body_light : (at : Places) (w : Walk) (f : Signature) (parameters : List Parameter) (body : Option i.Body) → 5 * tree.optional_body_weight body ≤ n → HasLight w → Promises HasLight (function_body at w f parameters body)
  body_light at w f parameters None le h = h
  body_light at w f parameters (Some body) le h =
      passing_promises (λ (x : core.Statements × Scope). statements_weight x.0 ≤ 5 * tree.statements_weight body.statements) HasLight (statements at (inside f parameters body.statements (body_scope w body)) body.statements) (behind_body w f parameters body)
      (statements_light at (inside f parameters body.statements (body_scope w body)) body.statements)
      (λ x light. needs_promises HasLight (not (is_unchecked body.mark || w.scope.is_off)) E15 body.span (Passes (record w { scope = body_scope w body; bodies = w.bodies ++ record { name = f.name; function = core_function f parameters x.0 x.1 } ∷ [] }))
      (λ e. all_append (HasLightBody n) w.bodies (record { name = f.name; function = core_function f parameters x.0 x.1 }) h (omega arith)))

  item_light : (at : Places) (all : List Item) (w : Walk) (x : Item) → 5 * tree.item_weight x ≤ n → HasLight w → Promises HasLight (item at all w x)
  item_light at all w (i.RegionItem region span) le h = h
  item_light at all w (i.StructureItem d) le h = structure_kept AreLight w d h
  item_light at all w (i.GlobalItem g) le h = global_kept AreLight at w g h
  item_light at all w (i.FunctionItem d) le h = function_kept AreLight at all w d (λ f room. h) (λ v f parameters light. body_light at v f parameters d.body (omega arith) light)

  items_light : (at : Places) (all : List Item) (w : Walk) (xs : List Item) → 5 * tree.items_weight xs ≤ n → HasLight w → Promises HasLight (items at all w xs)
  items_light at all w [] le h = h
  items_light at all w (x ∷ xs) le h =
      passing_promises HasLight HasLight (item at all w x) (λ v. items at all v xs) (item_light at all w x (omega arith) h) (λ v light. items_light at all v xs (omega arith) light)

  -- the body of each function of the core is one that was walked, or none
  body_of_light : (bodies : List Defined) (f : Signature) → AllByRecursion (HasLightBody n) bodies → IsLight n (body_of bodies f)
  body_of_light [] f all = omega arith
  body_of_light (b ∷ bodies) f all = chosen (f.name == b.name) all.0 (body_of_light bodies f all.1)
    where
      chosen : (test : Bool) → IsLight n b.function → IsLight n (body_of bodies f) → IsLight n (picked test b.function (body_of bodies f))
      chosen true h again = h
      chosen false h again = again

  functions_light : (bodies : List Defined) (functions : List Signature) → AllByRecursion (HasLightBody n) bodies → AllByRecursion (IsLight n) (trusted_functions bodies functions)
  functions_light bodies [] all = tt
  functions_light bodies (f ∷ functions) all = chosen (is_import f) (body_of_light bodies f all) (functions_light bodies functions all)
    where
      chosen : (test : Bool) → IsLight n (body_of bodies f) → AllByRecursion (IsLight n) (trusted_functions bodies functions) → AllByRecursion (IsLight n) (picked test (trusted_functions bodies functions) (body_of bodies f ∷ trusted_functions bodies functions))
      chosen true h rest = rest
      chosen false h rest = (h, rest)

  light_walked : (entry : ℕ) (span : Span) (v : Verdict Walk) (c : Core) → Promises HasLight v → passing v (small_core entry span) ≡ Passes c → All (IsLight n) (parted c).functions
  light_walked entry span (Passes w) c h e =
      let same = (core_is entry span w c e).same in
      subst (λ (x : Parted). All (IsLight n) x.functions) (sides_parted entry w ∙ ap parted same) (All-from_recursion (IsLight n) (sides_of entry w).functions (functions_light w.bodies w.scope.functions h))
  light_walked entry span (Stops stop) c h e = absurd (cc)

pub light : (at : Places) (t : Tree) (c : Core) → HasCore at t c → All (λ (f : core.Function). statements_weight f.body ≤ 5 * tree.tree_weight t) (parted c).functions
light at t c h =
    let n = named_of t in
    subst (λ weight. All (λ (f : core.Function). statements_weight f.body ≤ 5 * weight) (parted c).functions) (same_weight (number_in n.names) t)
    (light_walked (5 * tree.tree_weight n.tree) (number_in n.names main) n.tree.span (walked at n) c (items_light (5 * tree.tree_weight n.tree) at n.tree.items (start (given_in n.names) (variables_declared n.tree.items)) n.tree.items (omega arith) tt) h.rules)
