-- A program that breaks no rule has few functions.
use Rattle.std.proofs.Common.{◌≡◌, ℕ, ◌≤◌, Bool, true, false, List, [], ◌∷◌, ◌++◌, length, Option, Some, None, subst, length-append, arith, ap, ◌∙◌}
use Rattle.ckc_text.specs.declared.place.Span.{Span}
use Rattle.std.specs.Prelude.{nat_lt, not, is_some, ◌||◌}
use Rattle.std.proofs.lemmas.Bool.Decides.{nat_tests}
use Rattle.ckc_text.specs.declared.code.Code.TheVariants.{E15}
use Rattle.ckc_tree.specs.Items as i
use Rattle.ckc_tree.specs.Items.{Item, Tree}
use Rattle.ckc_core.specs.Core as core
use Rattle.ckc_core.specs.Core.{Core}
use Rattle.ckc_core.specs.Programs.{parted}
use Rattle.ckc_names_rules.specs.Given.{main, number_in, given_in}
use Rattle.ckc_names_rules.specs.Naming.{named_of}
use Rattle.region_typing_rules.specs.Verdicts.{Verdict, Passes, Stops, passing, picked}
use Rattle.region_typing_rules.specs.Scopes.{Scope, Signature, function_named}
use Rattle.region_typing_rules.specs.Operands.{Places}
use Rattle.region_typing_rules.specs.Calls.{is_import}
use Rattle.region_typing_rules.specs.Statements.{statements, is_unchecked, is_checked}
use Rattle.region_typing_rules.specs.Items.{body_scope, variables_declared, Defined, Parameter, Walk, with_function, inside, core_function, function_body, function, item, items, start, walked}
use Rattle.region_typing_rules.specs.Cores.{body_of, small_core}
use Rattle.region_typing_rules.proofs.Sides.{core_is, trusted_functions, tainted_functions, sides_parted}
use Rattle.region_typing_rules.specs.Lowerable.{HasFewFunctions}
use Rattle.region_typing_rules.specs.NeverStuck.{HasCore}
use Rattle.region_typing_rules.proofs.Verdicts.{Promises, passing_promises, needs_promises}
use Rattle.region_typing_rules.proofs.Kept.{passing_any, structure_kept, global_kept, function_kept}

abbrev AreFew : List Signature → List Defined → Type 0
AreFew functions bodies = length functions ≤ 4096

abbrev HasFew : Walk → Type 0
HasFew w = length w.scope.functions ≤ 4096

-- a function that is known takes no further place, and another one only where there is room
with_few : (w : Walk) (known : Option Signature) (f : Signature) → HasFew w → (is_some known || nat_lt (length w.scope.functions) 4096) ≡ true → length (with_function known f w.scope).functions ≤ 4096
with_few w None f h room = let low : length w.scope.functions ≤ 4095 = grind (arith, nat_tests) in omega (arith, length-append w.scope.functions (f ∷ []))
with_few w (Some before) f h room = h

abbrev behind_body : Walk → Signature → List Parameter → i.Body → core.Statements × Scope → Verdict Walk
behind_body w f parameters body x = is_checked w.scope body.mark body.span (Passes (record w { scope = body_scope w body; bodies = w.bodies ++ record { name = f.name; function = core_function f parameters x.0 x.1 } ∷ [] }))

body_few : (at : Places) (w : Walk) (f : Signature) (parameters : List Parameter) (body : Option i.Body) → HasFew w → Promises HasFew (function_body at w f parameters body)
body_few at w f parameters None h = h
body_few at w f parameters (Some body) h =
    passing_any HasFew (statements at (inside f parameters body.statements (body_scope w body)) body.statements) (behind_body w f parameters body) (λ x.
    needs_promises HasFew (not (is_unchecked body.mark || w.scope.is_off)) E15 body.span (Passes (record w { scope = body_scope w body; bodies = w.bodies ++ record { name = f.name; function = core_function f parameters x.0 x.1 } ∷ [] })) (λ e. h))

function_few : (at : Places) (all : List Item) (w : Walk) (d : i.Function) → HasFew w → Promises HasFew (function at all w d)
function_few at all w d h =
    function_kept AreFew at all w d (λ f room. with_few w (function_named w.scope.functions d.name.number) f h room) (λ v f parameters few. body_few at v f parameters d.body few)

-- ---- the whole program

item_few : (at : Places) (all : List Item) (w : Walk) (x : Item) → HasFew w → Promises HasFew (item at all w x)
item_few at all w (i.RegionItem region span) h = h
item_few at all w (i.StructureItem d) h = structure_kept AreFew w d h
item_few at all w (i.GlobalItem g) h = global_kept AreFew at w g h
item_few at all w (i.FunctionItem f) h = function_few at all w f h

items_few : (at : Places) (all : List Item) (w : Walk) (xs : List Item) → HasFew w → Promises HasFew (items at all w xs)
items_few at all w [] h = h
items_few at all w (x ∷ xs) h = passing_promises HasFew HasFew (item at all w x) (λ v. items at all v xs) (item_few at all w x h) (λ v few. items_few at all v xs few)

picked_length : {X : Type 0} (b : Bool) (xs ys : List X) (n : ℕ) → length xs ≤ n → length ys ≤ n → length (picked b xs ys) ≤ n
picked_length true xs ys n h k = h
picked_length false xs ys n h k = k

trusted_fewer : (bodies : List Defined) (functions : List Signature) → length (trusted_functions bodies functions) ≤ length functions
trusted_fewer bodies [] = omega arith
trusted_fewer bodies (f ∷ functions) =
    let rest = trusted_fewer bodies functions in
    picked_length (is_import f) (trusted_functions bodies functions) (body_of bodies f ∷ trusted_functions bodies functions) (length (f ∷ functions)) (omega (arith, rest)) (omega (arith, rest))

tainted_fewer : (functions : List Signature) → length (tainted_functions functions) ≤ length functions
tainted_fewer [] = omega arith
tainted_fewer (f ∷ functions) =
    let rest = tainted_fewer functions in
    picked_length (is_import f) (record { name = f.text; parameters = length f.parameters; result = f.result } ∷ tainted_functions functions) (tainted_functions functions) (length (f ∷ functions)) (omega (arith, rest)) (omega (arith, rest))

few_walked : (entry : ℕ) (span : Span) (v : Verdict Walk) (c : Core) → Promises HasFew v → passing v (small_core entry span) ≡ Passes c → HasFewFunctions (parted c)
few_walked entry span (Passes w) c h e =
    let same = (core_is entry span w c e).same in
    subst HasFewFunctions (sides_parted entry w ∙ ap parted same) (record { functions = omega (arith, h, trusted_fewer w.bodies w.scope.functions); imports = omega (arith, h, tainted_fewer w.scope.functions) })
few_walked entry span (Stops stop) c h e = absurd (cc)

pub few : (at : Places) (t : Tree) (c : Core) → HasCore at t c → HasFewFunctions (parted c)
few at t c h =
    let n = named_of t in
    few_walked (number_in n.names main) n.tree.span (walked at n) c (items_few at n.tree.items (start (given_in n.names) (variables_declared n.tree.items)) n.tree.items (omega arith)) h.rules
