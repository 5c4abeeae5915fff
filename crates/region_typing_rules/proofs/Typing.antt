-- The core of a program that breaks no rule has types.
use Rattle.std.proofs.Common.{◌≡◌, ℕ, suc, ◌+◌, ◌*◌, ◌<◌, ◌≤◌, Bool, true, false, List, [], map, take, length, ◌∷◌, ◌++◌, Option, Some, None, refl, ap, ◌∙◌, subst, arith, sym}
use Rattle.std.specs.Prelude.{is_some, slice_get, Result, Ok, Err, All}
use Rattle.std.proofs.lemmas.List.Elements.{All-from_recursion}
use Rattle.std.specs.List.{AllByRecursion, list_any}
use Rattle.std.specs.Option.{option_map}
use Rattle.std.proofs.lemmas.List.{length-take-le}
use Rattle.ckc_text.specs.declared.place.Span.{Span}
use Rattle.ckc_text.specs.declared.fault.SourceFault.{SourceFault}
use Rattle.ckc_tree.specs.Types.{IntType, CharType, StructType, PointerType}
use Rattle.ckc_tree.specs.Items as i
use Rattle.ckc_tree.specs.Items.{Item, Tree}
use Rattle.ckc_tree.specs.Heights.{height}
use Rattle.ckc_tree.specs.Numbers.{Numbers, number_item, number_result, number_parameters, number_function, number_body}
use Rattle.ckc_tree.proofs.NumberedHeights.{numbered_height}
use Rattle.built_forms.specs.Built.{is_built}
use Rattle.built_forms.proofs.Numbered.{same_forms}
use Rattle.ckc_names_rules.specs.declared.given.Given.{Given}
use Rattle.ckc_names_rules.specs.Given.{main, number_in, given_in}
use Rattle.ckc_names_rules.specs.Mentions.{tree_mentions}
use Rattle.ckc_names_rules.specs.Scopes.{Scopes, all_mentioned, at_file_level}
use Rattle.ckc_names_rules.specs.Naming.{is_int, takes_nothing, is_main, has_main, naming_fault, names_of, named_of}
use Rattle.ckc_core.specs.Programs.{Variable, Import, parted}
use Rattle.ckc_core.specs.Core as core
use Rattle.ckc_core.specs.Core.{Core}
use Rattle.region_typing_rules.specs.Verdicts.{Verdict, Passes, Stops, passing}
use Rattle.region_typing_rules.specs.Scopes.{function_named, FileVariable}
use Rattle.region_typing_rules.specs.Operands.{Places}
use Rattle.region_typing_rules.specs.Calls.{side_number}
use Rattle.region_typing_rules.specs.Strings.{texts_size, text_object}
use Rattle.region_typing_rules.specs.Items.{Walk, walked, start, count_of, limited, variables_declared}
use Rattle.region_typing_rules.specs.Cores.{body_of, small_core}
use Rattle.region_typing_rules.proofs.Sides.{core_is, trusted_functions, trusted_bounds, trusted_results, sides_of, sides_parted}
use Rattle.region_typing_rules.specs.Typed.{IsTyped, EndsInZero}
use Rattle.region_typing_rules.proofs.Safe.{IsSafeProgram, functions_typed, safe_there}
use Rattle.region_typing_rules.specs.Lowerable.{IsRoomy, IsSmall, IsSmallCore}
use Rattle.region_typing_rules.specs.NeverStuck.{HasCore}
use Rattle.region_typing_rules.proofs.Verdicts.{Promises, both_promise, promised_so}
use Rattle.region_typing_rules.proofs.Layouts.{IsStart}
use Rattle.region_typing_rules.proofs.TextBlocks.{texts_ended, texts_roomy, texts_start, texts_taken}
use Rattle.region_typing_rules.proofs.Counted.{IsCounted, items_counted, limited_is}
use Rattle.region_typing_rules.proofs.Signatures.{bytes_equal, trusted_there, named_self}
use Rattle.region_typing_rules.proofs.Walks.{IsWell, bounds_declared, body_suits, functions_safe, objects_typed, functions_small, imports_small, frame, IsSettled, AreSettled}
use Rattle.region_typing_rules.proofs.Copies.{ended_long}
use Rattle.region_typing_rules.proofs.Items.{IsNamedMain, main_name, Passed, items_promise}
use Rattle.pointer_modes.specs.Types.{Structure}

-- a program whose names have a meaning has a `main`
main_there : (t : Tree) → naming_fault t ≡ None → has_main t ≡ true
main_there t h = by (has_main t) (all_mentioned (tree_mentions t) at_file_level) refl refl
  where
    by : (main : Bool) (r : Result Scopes SourceFault) → has_main t ≡ main → all_mentioned (tree_mentions t) at_file_level ≡ r → has_main t ≡ true
    by true r e e' = e
    by false (Ok s) e e' = let now = rw (e, e') at h in absurd (cc)
    by false (Err fault) e e' = let now = rw e' at h in absurd (cc)

-- a variable that a zero ends has few cells, and the last one begins as 0
object_ended : (structs : List Structure) (v : FileVariable) (o : Variable) → IsSettled structs v o → EndsInZero o
object_ended structs v o settled ended =
    let has = settled.ended (sym settled.ends ∙ ended) in
    let few = subst (λ n. count_of n ≤ 8192) has.array settled.few in
    record { few = omega (arith, few, ended_long structs v.type has.count o.cells has.numbers); zero = has.numbers.last }

objects_ended : (structs : List Structure) (variables : List FileVariable) (objects : List Variable) → AreSettled structs variables objects → AllByRecursion EndsInZero objects
objects_ended structs [] [] settled = tt
objects_ended structs [] (o ∷ objects) settled = absurd settled
objects_ended structs (v ∷ variables) [] settled = tt
objects_ended structs (v ∷ variables) (o ∷ objects) settled = (object_ended structs v o settled.0, objects_ended structs variables objects settled.1)

all_of_both : {X : Type 0} (P : X → Type 0) (xs ys : List X) → AllByRecursion P xs → AllByRecursion P ys → AllByRecursion P (xs ++ ys)
all_of_both P [] ys first second = second
all_of_both P (x ∷ xs) ys first second = (first.0, all_of_both P xs ys first.1 second)

-- a function that takes none of its locals has no parameters
no_parameters : (f : core.Function) → f.parameters ≤ length f.locals → take f.parameters f.locals ≡ [] → f.parameters ≡ 0
no_parameters f few none = omega (arith, length-take-le f.parameters f.locals few, ap length none)

-- what is so of the whole walk
pub record IsWhole (height entry : ℕ) (a w : Walk) : Type 0 where
  pub passed : Passed height entry a true w
  pub counted : w.scope.strings.variables ≡ length w.objects

settled_long : (structs : List Structure) (variables : List FileVariable) (objects : List Variable) → AreSettled structs variables objects → length variables ≡ length objects
settled_long structs [] [] settled = refl
settled_long structs [] (o ∷ objects) settled = absurd settled
settled_long structs (v ∷ variables) [] settled = absurd settled
settled_long structs (v ∷ variables) (o ∷ objects) settled = ap suc (settled_long structs variables objects settled.1)

-- the strings stand behind as many variables as are declared
whole : (height entry declared : ℕ) (a w : Walk) → a.scope.strings.variables ≡ limited 4096 declared → Passed height entry a true w → IsCounted declared w → IsWhole height entry a w
whole height entry declared a w starts h counted = record {
  passed = h;
  counted = sym h.follows.grows.counted ∙ (starts ∙ (limited_is declared counted.1 ∙ (sym counted.0 ∙ settled_long w.scope.structs w.scope.variables w.objects h.follows.settled)));
}

safe_walk : (height entry : ℕ) (a w : Walk) → IsWhole height entry a w → texts_size w.scope.strings.texts ≤ 32768 → IsSafeProgram (sides_of entry w)
safe_walk height entry a w is room =
    let h = is.passed in
    let texts = w.scope.strings.texts in
    let well = h.follows.well in
    let main = h.main refl in
    let m = main.signature in
    let there = trusted_there w.bodies w.scope.functions entry m 0 main.named main.trusted in
    let number : there.index ≡ side_number false w.scope.functions entry 0 = let e = there.counted in omega arith in
    let found = subst (λ n. slice_get (trusted_functions w.bodies w.scope.functions) n ≡ Some (body_of w.bodies m)) number there.found in
    let functions = functions_safe height entry w well h.follows.settled is.counted w.scope.functions well.declared well.named in
    let suits = body_suits height w.scope w.bodies m well.bodies (subst (λ x. function_named w.scope.functions x ≡ Some m) (named_self w.scope.functions entry m main.named) main.named) in
    let it = safe_there (frame height entry w well h.follows.settled is.counted) (trusted_functions w.bodies w.scope.functions) (trusted_bounds w.scope.functions) (trusted_results w.scope.functions) _ (body_of w.bodies m) functions found in
    record {
      typed = record {
        structs = w.scope.structs;
        bounds = trusted_bounds w.scope.functions;
        result_bounds = trusted_results w.scope.functions;
        object_bounds = bounds_declared w.scope.variables;
        objects = objects_typed height entry w well h.follows.settled is.counted (w.objects ++ map text_object texts)
            (all_of_both (λ (o : Variable). AllByRecursion IsStart o.cells) w.objects (map text_object texts) well.start (texts_start texts));
        zeros = all_of_both EndsInZero w.objects (map text_object texts) (objects_ended w.scope.structs w.scope.variables w.objects h.follows.settled) (texts_ended texts room);
        functions = functions_typed (frame height entry w well h.follows.settled is.counted) (trusted_functions w.bodies w.scope.functions) (trusted_bounds w.scope.functions) (trusted_results w.scope.functions) functions;
        main = (body_of w.bodies m, found, no_parameters (body_of w.bodies m) it.safe.typed.parameters (suits.parameters ∙ main.none), suits.result ∙ main.int);
      };
      functions = functions;
    }

-- at the start nothing is known
start_well : (height : ℕ) (given : Given) (variables : ℕ) → IsWell height (start given variables)
start_well height given variables = record { closed = record { tagged = omega arith; of_members = λ n. tt; of_functions = tt; of_results = tt; of_variables = tt; of_locals = tt }; few = λ n. omega arith; scalars = λ n. tt; start = tt; declared = tt; named = tt; bodies = tt; roomy = tt; bytes = omega arith; room = omega arith }

walked_safe : (height entry : ℕ) (span : Span) (a : Walk) (v : Verdict Walk) (c : Core) → Promises (IsWhole height entry a) v → passing v (small_core entry span) ≡ Passes c → IsSafeProgram (parted c)
walked_safe height entry span a (Passes w) c h e =
    let is = core_is entry span w c e in
    let room = is.room in
    subst IsSafeProgram (sides_parted entry w ∙ ap parted is.same) (safe_walk height entry a w h (omega (arith, room)))
walked_safe height entry span a (Stops stop) c h e = absurd (cc)

-- numbers change nothing of `main`, and give its name
module _ (of : Numbers) where
  main_same : (x : Item) → is_main (number_item of x) ≡ is_main x
  main_same (i.RegionItem region span) = refl
  main_same (i.StructureItem d) = refl
  main_same (i.GlobalItem d) = refl
  main_same (i.FunctionItem d) = rw (int_same d.result, nothing_same d.parameters, some_same (number_body of) d.body) refl
    where
      int_same : (r : i.ResultForm) → is_int (number_result of r) ≡ is_int r
      int_same (i.Void span) = refl
      int_same (i.Value (IntType span)) = refl
      int_same (i.Value (CharType span)) = refl
      int_same (i.Value (StructType tag span)) = refl
      int_same (i.Value (PointerType word element stars span)) = refl

      nothing_same : (p : i.Parameters) → takes_nothing (number_parameters of p) ≡ takes_nothing p
      nothing_same i.Nothing = refl
      nothing_same i.VoidAlone = refl
      nothing_same (i.Listed parameters) = refl

      some_same : {A B : Type 0} (f : A → B) (o : Option A) → is_some (option_map f o) ≡ is_some o
      some_same f None = refl
      some_same f (Some x) = refl

  mains_same : (xs : List Item) → list_any is_main (map (number_item of) xs) ≡ list_any is_main xs
  mains_same [] = refl
  mains_same (x ∷ xs) = rw (main_same x, mains_same xs) refl

  named_main : (x : Item) → IsNamedMain (of main) (number_item of x)
  named_main (i.RegionItem region span) = tt
  named_main (i.StructureItem d) = tt
  named_main (i.GlobalItem d) = tt
  named_main (i.FunctionItem d) = λ h. ap of (bytes_equal d.name.name main (main_name (number_function of d) h))

  named_mains : (xs : List Item) → AllByRecursion (IsNamedMain (of main)) (map (number_item of) xs)
  named_mains [] = tt
  named_mains (x ∷ xs) = (named_main x, named_mains xs)

-- the number of the name of `main`
abbrev pub entry_of : Tree → ℕ
entry_of t = number_in (named_of t).names main

abbrev pub start_of : Tree → Walk
start_of t = start (given_in (named_of t).names) (variables_declared (named_of t).tree.items)

-- what the walk over a whole program leads to
pub whole_walk : (at : Places) (t : Tree) (c : Core) → HasCore at t c → Promises (IsWhole (height t) (entry_of t) (start_of t)) (walked at (named_of t))
whole_walk at t c h =
    let of = number_in (names_of t) in
    let n = named_of t in
    let found : list_any is_main n.tree.items ≡ true = mains_same of t.items ∙ main_there t h.names in
    let forms : is_built n.tree ≡ true = same_forms of t ∙ h.forms in
    let high : height n.tree ≡ height t = numbered_height of t in
    let declared = variables_declared n.tree.items in
    let passed : Promises (Passed (height t) (entry_of t) (start_of t) true) (walked at n) =
    subst (λ b. Promises (Passed (height t) (entry_of t) (start_of t) b) (walked at n)) found
    (items_promise (height t) (entry_of t) at n.tree.items (start_of t) n.tree.items (named_mains of t.items) forms (omega (arith, high)) (start_well (height t) (given_in n.names) declared) tt) in
    let counted : Promises (IsCounted declared) (walked at n) =
    (let none : 0 + declared ≡ declared = omega arith in
    subst (λ k. Promises (IsCounted k) (walked at n)) none (items_counted at n.tree.items 0 (start_of t) n.tree.items (refl, omega arith))) in
    promised_so (λ (w : Walk). Passed (height t) (entry_of t) (start_of t) true w × IsCounted declared w) (IsWhole (height t) (entry_of t) (start_of t)) (walked at n)
    (both_promise (Passed (height t) (entry_of t) (start_of t) true) (IsCounted declared) (walked at n) passed counted)
    (λ w h. whole (height t) (entry_of t) declared (start_of t) w refl h.0 h.1)

pub safe : (at : Places) (t : Tree) (c : Core) → HasCore at t c → IsSafeProgram (parted c)
safe at t c h = walked_safe (height t) (entry_of t) (named_of t).tree.span (start_of t) (walked at (named_of t)) c (whole_walk at t c h) h.rules

pub typed : (at : Places) (t : Tree) (c : Core) → HasCore at t c → IsTyped (parted c)
typed at t c h = (safe at t c h).typed

-- ---- what can be lowered

abbrev pub AreRoomy : Variable → Type 0
AreRoomy v = AllByRecursion IsRoomy v.cells × (0 < length v.cells)

-- the same of elements one by one, and of more words
roomy_each : (objects : List Variable) → AllByRecursion AreRoomy objects → AllByRecursion (λ (v : Variable). All IsRoomy v.cells × (0 < length v.cells)) objects
roomy_each [] all = tt
roomy_each (o ∷ objects) all = ((All-from_recursion IsRoomy o.cells all.0.0, all.0.1), roomy_each objects all.1)

small_more : (n m : ℕ) → n ≤ m → (functions : List core.Function) → AllByRecursion (IsSmall n) functions → AllByRecursion (IsSmall m) functions
small_more n m le [] all = tt
small_more n m le (f ∷ functions) all = (record { few_parameters = all.0.few_parameters; held = all.0.held; few_locals = all.0.few_locals; low = let low = all.0.low in omega arith }, small_more n m le functions all.1)

small_walk : (h : ℕ) → h ≤ 200 → (entry : ℕ) (a w : Walk) → IsWhole h entry a w → w.taken + texts_size w.scope.strings.texts ≤ 32768 → IsSmallCore (sides_of entry w)
small_walk h le entry a w is room =
    let passed = is.passed in
    let well = passed.follows.well in
    let texts = w.scope.strings.texts in
    let objects = w.objects ++ map text_object texts in
    let main = (safe_walk h entry a w is (omega (arith, room))).typed.main in
    let functions = functions_small h entry w well passed.follows.settled is.counted w.scope.functions well.declared in
    record {
      cells = All-from_recursion (λ (v : Variable). All IsRoomy v.cells × (0 < length v.cells)) objects
          (roomy_each objects (all_of_both AreRoomy w.objects (map text_object texts) well.roomy (texts_roomy texts)));
      objects = omega (arith, well.bytes, room, texts_taken w.objects texts);
      imports = All-from_recursion (λ (x : Import). x.parameters ≤ 16) (sides_of entry w).imports (imports_small h entry w well passed.follows.settled is.counted w.scope.functions well.declared);
      functions = All-from_recursion (IsSmall 3400) (sides_of entry w).functions (small_more (17 * h) 3400 (omega arith) (sides_of entry w).functions functions);
      main = (main.0, main.1, main.2);
    }

small_walked : (h : ℕ) → h ≤ 200 → (entry : ℕ) (span : Span) (a : Walk) (v : Verdict Walk) (c : Core) → Promises (IsWhole h entry a) v → passing v (small_core entry span) ≡ Passes c → IsSmallCore (parted c)
small_walked h le entry span a (Passes w) c is e =
    let core_so = core_is entry span w c e in
    subst IsSmallCore (sides_parted entry w ∙ ap parted core_so.same) (small_walk h le entry a w is core_so.room)
small_walked h le entry span a (Stops stop) c is e = absurd (cc)

pub small : (at : Places) (t : Tree) (c : Core) → HasCore at t c → height t ≤ 200 → IsSmallCore (parted c)
small at t c h le = small_walked (height t) le (entry_of t) (named_of t).tree.span (start_of t) (walked at (named_of t)) c (whole_walk at t c h) h.rules
