-- Functions, and items that break no rule, lead from a walk as it should be to another one.
use Rattle.std.proofs.Common.{◌≡◌, ℕ, ◌<◌, suc, ◌+◌, ◌*◌, ◌≤◌, Bool, true, false, List, [], ◌∷◌, ◌++◌, map, take, length, Option, Some, None, refl, sym, ap, ◌∙◌, subst, append_assoc, ⊎_elim, arith}
use Rattle.std.specs.Prelude.{◌==◌, bytes_eq, nat_lt, not, ◌&&◌, ◌||◌, is_some, is_none}
use Rattle.std.specs.List.{AllByRecursion, list_all, list_any}
use Rattle.std.proofs.lemmas.Bool.Decides.{nat_tests}
use Rattle.std.proofs.lemmas.Bool.{and_parts, or_cases}
use Rattle.std.proofs.lemmas.List.{length-append, length-map, append-nil}
use Rattle.ckc_text.specs.declared.code.Code.TheVariants.{E08, E10, E13, E15}
use Rattle.ckc_tree.specs.declared.item.FunctionKind.{FunctionKind}
use Rattle.ckc_tree.specs.declared.item.FunctionKind.TheVariants as function_kinds
use Rattle.ckc_tree.specs.declared.item.Region.{Region}
use Rattle.ckc_tree.specs.Types.{TypeTree, IntType, CharType, StructType, PointerType, type_span}
use Rattle.ckc_tree.specs.Statements as trees
use Rattle.ckc_tree.specs.Items as i
use Rattle.ckc_names_rules.specs.Given as names
use Rattle.ckc_names_rules.specs.Naming as naming
use Rattle.ckc_names_rules.specs.Naming.{is_int_type, is_int, takes_nothing, is_main_function, is_main}
use Rattle.built_forms.specs.Built.{is_number_result, is_number_parameter, built_parameters, built_result_bounds, built_of_kind, built_function, built_item}
use Rattle.ckc_tree.specs.Items.{Item}
use Rattle.ckc_tree.specs.Heights.{◌beside◌, statements_reach, optional_bounds_reach, result_reach, parameters_reach, optional_body_reach, item_reach, items_reach}
use Rattle.bounds_exprs.specs.declared.term.Bounds.{Bounds}
use Rattle.pointer_modes.specs.declared.ctype.Mode.{Mode}
use Rattle.pointer_modes.specs.declared.ctype.Kind.{Kind}
use Rattle.pointer_modes.specs.declared.ctype.Kind.TheVariants as kinds
use Rattle.pointer_modes.specs.Types.{CType, Int, Char, Struct, Pointer, Structure}
use Rattle.pointer_modes.specs.Layout.{size_of}
use Rattle.ckc_text.specs.declared.place.Span.{Span}
use Rattle.ckc_core.specs.Core as core
use Rattle.ckc_core.specs.Stacks.{statements_stack}
use Rattle.region_typing_rules.specs.Verdicts.{Verdict, Passes, Stops, passing, picked}
use Rattle.region_typing_rules.specs.Scopes.{Scope, Signature, WrittenBounds, bounds_in, function_named}
use Rattle.region_typing_rules.specs.Types.{base_type, without_stars}
use Rattle.region_typing_rules.specs.Operands.{Places}
use Rattle.region_typing_rules.specs.Calls.{is_import, is_tainted}
use Rattle.region_typing_rules.specs.Statements.{statements, with_local, is_unchecked}
use Rattle.bounds_flow.specs.Flows.{at_entry}
use Rattle.region_typing_rules.specs.Knowing.{all_declared, knowing}
use Rattle.region_typing_rules.specs.Items as items
use Rattle.region_typing_rules.specs.Items.{Walk, body_scope, bounds_of_result, first_changed_in, names as names_of, without_change, scalar_members, structure, variables, global, listed, parameter_types, result_type, with_function, with_parameters, variables_in, inside, core_function, function_body, is_defined, agrees, all_scalar, scalar_result, function_rules, signature_of, function, item, Parameter, with_bounds}
use Rattle.region_typing_rules.specs.Typed.{Frame, HasResultBounds, HaveRows, IsScalar, IsScalarResult, AreStatements, IsNumberResult}
use Rattle.region_typing_rules.proofs.Verdicts.{Promises, passing_promises, needs_promises, promised_so, both_promise, later_promises, all_promised, Extends, passed_is, extends_append}
use Rattle.region_typing_rules.proofs.Known.{IsKnown, IsKnownResult, IsSizedResult, without_known, base_known}
use Rattle.region_typing_rules.proofs.Knowledge.{IsNumberType, KnowsFile}
use Rattle.region_typing_rules.proofs.Growth.{Grows, stays, grows_further, file_known, knowing_grows, local_grows, statements_grow, GrowsTo}
use Rattle.region_typing_rules.proofs.Stacks.{beside_first, beside_second, around_higher, HasFew}
use Rattle.region_typing_rules.proofs.StatementStacks.{HaveFew, statements_low}
use Rattle.region_typing_rules.proofs.Signatures.{named_further, named_last, side_further, Agrees, agrees_equal, scalars_all, result_scalar, IsDeclared}
use Rattle.region_typing_rules.specs.KnownIsSo.{IsSo}
use Rattle.region_typing_rules.proofs.Ways.{IsWalk}
use Rattle.region_typing_rules.proofs.Sound.{AreSound, statements_sound}
use Rattle.region_typing_rules.proofs.Goes.{EndsAs, has_locals, runs_further, types_held}
use Rattle.region_typing_rules.proofs.Calls.{AreEntered}
use Rattle.region_typing_rules.proofs.Parameters.{IsForResult, AreForResult, AreFormed, AreParameters, all_bounds, all_formed, bounds_size, few_parameters, have_rows, none_listed, number_base, number_parameters, parameters_are, parameters_known, result_formed, starred_number}
use Rattle.region_typing_rules.proofs.KeptParameters.{body_keeps}
use Rattle.region_typing_rules.proofs.Entries.{inside_entry}
use Rattle.region_typing_rules.proofs.Safe.{IsSafe, setting_of}
use Rattle.ckc_core.specs.Meaning.{effects, knot}
use Rattle.ckc_core.specs.States.{shapes}
use Rattle.region_typing_rules.proofs.Walks.{FileGrows, file_stays, file_further, AreSettled, IsBody, IsNamed, IsWell, bodies_later, all_append}
use Rattle.ckc_tree.specs.Texts.{body_texts}
use Rattle.region_typing_rules.proofs.TextBlocks.{changed_beside}
use Rattle.region_typing_rules.proofs.Objects.{Follows, region_promises, structure_promises, global_promises}

-- what is so of `main`
record MainParts (d : i.Function) : Type 0 where
  trusted : naming.is_trusted d.kind ≡ true
  int : is_int d.result ≡ true
  pub name : bytes_eq d.name.name names.main ≡ true
  nothing : takes_nothing d.parameters ≡ true

main_parts : (d : i.Function) → is_main_function d ≡ true → MainParts d
main_parts d h =
    let a = and_parts (naming.is_trusted d.kind) (is_int d.result && (d.stars == 0 && (bytes_eq d.name.name names.main && (takes_nothing d.parameters && is_some d.body)))) h in
    let b = and_parts (is_int d.result) (d.stars == 0 && (bytes_eq d.name.name names.main && (takes_nothing d.parameters && is_some d.body))) a.1 in
    let c = and_parts (d.stars == 0) (bytes_eq d.name.name names.main && (takes_nothing d.parameters && is_some d.body)) b.1 in
    let e = and_parts (bytes_eq d.name.name names.main) (takes_nothing d.parameters && is_some d.body) c.1 in
    record { trusted = a.0; int = b.0; name = e.0; nothing = (and_parts (takes_nothing d.parameters) (is_some d.body) e.1).0 }

pub main_name : (d : i.Function) → is_main_function d ≡ true → bytes_eq d.name.name names.main ≡ true
main_name d h = (main_parts d h).name

-- where an item is `main`, it has this name
abbrev pub IsNamedMain : (entry : ℕ) → Item → Type 0
IsNamedMain entry (i.RegionItem region span) = Unit {0}
IsNamedMain entry (i.StructureItem d) = Unit {0}
IsNamedMain entry (i.GlobalItem d) = Unit {0}
IsNamedMain entry (i.FunctionItem d) = is_main_function d ≡ true → d.name.number ≡ entry

module _ (height entry : ℕ) where
  -- ---- functions

  int_base : (g : Scope) (t : TypeTree) → is_int_type t ≡ true → Promises (λ (u : CType). u ≡ Int) (base_type g t)
  int_base g (IntType span) h = refl
  int_base g (CharType span) h = absurd (cc)
  int_base g (StructType tag span) h = absurd (cc)
  int_base g (PointerType word element stars span) h = absurd (cc)

  -- the result of a tainted function is a number, and that of `main` an int
  number_result : (g : Scope) (form : i.ResultForm) (stars : ℕ) → is_number_result form ≡ true → Promises IsNumberResult (result_type g form stars)
  number_result g (i.Void span) stars h = needs_promises IsNumberResult (stars == 0) E15 span (Passes None) (λ none. tt)
  number_result g (i.Value base) stars h =
      passing_promises IsNumberType IsNumberResult (passing (base_type g base) (without_stars base stars)) _
      (passing_promises IsNumberType IsNumberType (base_type g base) (without_stars base stars) (number_base g base h) (starred_number base stars)) (λ t n. n)

  int_result : (g : Scope) (form : i.ResultForm) (stars : ℕ) → is_int form ≡ true → Promises (λ (o : Option CType). o ≡ Some Int) (result_type g form stars)
  int_result g (i.Void span) stars h = absurd (cc)
  int_result g (i.Value base) stars h =
      passing_promises (λ (u : CType). u ≡ Int) (λ (o : Option CType). o ≡ Some Int) (passing (base_type g base) (without_stars base stars)) _
      (passing_promises (λ (u : CType). u ≡ Int) (λ (u : CType). u ≡ Int) (base_type g base) (without_stars base stars) (int_base g base h) (λ t int. needs_promises (λ (u : CType). u ≡ Int) (stars == 0) E15 (type_span base) (Passes t) (λ none. int)))
      (λ t int. ap Some int)

  -- the types of a signature name declared structs alone
  result_known : (g : Scope) → length g.tags ≤ length g.structs → (form : i.ResultForm) (stars : ℕ) → Promises (IsKnownResult g.structs) (result_type g form stars)
  result_known g tagged (i.Void span) stars = needs_promises (IsKnownResult g.structs) (stars == 0) E15 span (Passes None) (λ none. tt)
  result_known g tagged (i.Value base) stars =
      passing_promises (IsKnown g.structs) (IsKnownResult g.structs) (passing (base_type g base) (without_stars base stars)) _
      (passing_promises (IsKnown g.structs) (IsKnown g.structs) (base_type g base) (without_stars base stars) (base_known g tagged base) (without_known g tagged base stars)) (λ t h. h)

  -- what its form says of a function, for its signature
  record FitsForm (structs : List Structure) (d : i.Function) (result : Option CType) (parameters : List Parameter) (bounds : WrittenBounds) : Type 0 where
    known_result : IsKnownResult structs result
    known : AllByRecursion (λ (v : Parameter). IsKnown structs v.type) parameters
    numbers : is_tainted d.kind ≡ true → AllByRecursion IsNumberType (map (λ (p : Parameter). p.type) parameters)
    number_result : is_tainted d.kind ≡ true → IsNumberResult result
    int_result : is_main_function d ≡ true → result ≡ Some Int
    few : length parameters ≤ 16
    none : is_main_function d ≡ true → parameters ≡ []
    formed : AreFormed structs (map (λ (p : Parameter). p.type) parameters) parameters
    for_result : AreForResult structs (map (λ (p : Parameter). p.type) parameters) result bounds

  -- a tainted function of a built tree
  record IsCrossing (d : i.Function) : Type 0 where
    result : is_number_result d.result ≡ true
    parameters : built_parameters is_number_parameter d.parameters ≡ true

  crossing : (d : i.Function) → built_function d ≡ true → is_tainted d.kind ≡ true → IsCrossing d
  crossing d h side = by d.kind side (and_parts (built_result_bounds d.kind d.bounds) (built_of_kind d.kind d) h).1
    where
      by : (kind : FunctionKind) → is_tainted kind ≡ true → built_of_kind kind d ≡ true → IsCrossing d
      by function_kinds.Trusted side h = absurd (cc)
      by function_kinds.Callback side h = absurd (cc)
      by function_kinds.Tainted side h =
          let first = and_parts (is_number_result d.result) (d.stars == 0 && (built_parameters is_number_parameter d.parameters && is_none d.body)) h in
          let second = and_parts (d.stars == 0) (built_parameters is_number_parameter d.parameters && is_none d.body) first.1 in
          record { result = first.0; parameters = (and_parts (built_parameters is_number_parameter d.parameters) (is_none d.body) second.1).0 }

  listed_numbers : (ps : i.Parameters) → built_parameters is_number_parameter ps ≡ true → list_all is_number_parameter (listed ps) ≡ true
  listed_numbers i.Nothing h = refl
  listed_numbers i.VoidAlone h = refl
  listed_numbers (i.Listed parameters) h = h

  -- `main` gives an int and takes nothing
  record IsMain (d : i.Function) : Type 0 where
    trusted : is_tainted d.kind ≡ false
    int : is_int d.result ≡ true
    nothing : takes_nothing d.parameters ≡ true

  kind_trusted : (kind : FunctionKind) → naming.is_trusted kind ≡ true → is_tainted kind ≡ false
  kind_trusted function_kinds.Trusted h = refl
  kind_trusted function_kinds.Tainted h = absurd (cc)
  kind_trusted function_kinds.Callback h = refl

  main_form : (d : i.Function) → is_main_function d ≡ true → IsMain d
  main_form d h = let parts = main_parts d h in record { trusted = kind_trusted d.kind parts.trusted; int = parts.int; nothing = parts.nothing }

  -- ---- the body of a function

  parameters_grow : (ps : List Parameter) (g : Scope) → length g.locals + length ps ≤ g.flow.vars → AllByRecursion IsScalar (map (λ (p : Parameter). p.type) ps) → AllByRecursion (λ (v : Parameter). IsKnown g.structs v.type) ps → Grows g (with_parameters ps g)
  parameters_grow [] g few all known = stays g
  parameters_grow (p ∷ ps) g few all known =
      grows_further g (with_local p.name p.type None g) (with_parameters ps (with_local p.name p.type None g)) (local_grows p.name p.type None g all.0 (omega arith) (λ tagged. known.0))
      (parameters_grow ps (with_local p.name p.type None g) (omega (arith, length-append g.locals (p.type ∷ []))) all.1 known.1)

  sizes_kept : (ps : List Parameter) (g : Scope) → (with_parameters ps g).flow.vars ≡ g.flow.vars
  sizes_kept [] g = refl
  sizes_kept (p ∷ ps) g = sizes_kept ps (with_local p.name p.type None g)

  parameter_locals : (ps : List Parameter) (g : Scope) → (with_parameters ps g).locals ≡ g.locals ++ map (λ (p : Parameter). p.type) ps
  parameter_locals [] g = sym (append-nil g.locals)
  parameter_locals (p ∷ ps) g = parameter_locals ps (with_local p.name p.type None g) ∙ append_assoc g.locals (p.type ∷ []) (map (λ (q : Parameter). q.type) ps)

  extends_take : (xs ys : List CType) → Extends xs ys → (take (length xs) ys ≡ xs) × (length xs ≤ length ys)
  extends_take [] ys ext = (refl, omega arith)
  extends_take (x ∷ xs) [] ext = let h = ext 0 x refl in absurd (cc)
  extends_take (x ∷ xs) (y ∷ ys) ext =
      let h = ext 0 x refl in
      let first : y ≡ x = cc in
      let rest = extends_take xs ys (λ k z e. ext (suc k) z e) in
      let same = rest.0 in
      (cc, omega (arith, rest.1))

  -- the flow of a function has a variable for each of its parameters, and 256 at most
  within : (limit n : ℕ) (test : Bool) → nat_lt limit n ≡ test → (picked test limit n ≤ limit) × ((k : ℕ) → k ≤ limit → k ≤ n → k ≤ picked test limit n)
  within limit n true e = (omega arith, λ k h h'. h)
  within limit n false e = (grind (arith, nat_tests), λ k h h'. h')

  few_variables : (parameters : ℕ) (body : trees.Statements) → variables_in parameters body ≤ 256
  few_variables parameters body = (within 256 (parameters + all_declared body) (nat_lt 256 (parameters + all_declared body)) refl).0

  for_parameters : (parameters : ℕ) (body : trees.Statements) → parameters ≤ 16 → parameters ≤ variables_in parameters body
  for_parameters parameters body few = (within 256 (parameters + all_declared body) (nat_lt 256 (parameters + all_declared body)) refl).1 parameters (omega arith) (omega arith)

  abbrev at_start : Signature → List Parameter → trees.Statements → Scope → Scope
  at_start f ps body s = record s {
    locals = [];
    arrays = [];
    visible = [];
    result = f.result;
    result_bounds = None;
    in_loop = false;
    outside = 0;
    flow = at_entry (variables_in (length ps) body);
    breaks = None;
    continues = None;
  }

  -- the scope in which a body stands, but for the bounds of the result
  abbrev before_result : Signature → List Parameter → trees.Statements → Scope → Scope
  before_result f ps body s = let behind = with_parameters ps (at_start f ps body s) in knowing (with_bounds 0 ps behind.flow) behind

  inside_grows : (f : Signature) (ps : List Parameter) (body : trees.Statements) (s : Scope) → length ps ≤ 16 → AllByRecursion IsScalar (map (λ (p : Parameter). p.type) ps) → AllByRecursion (λ (v : Parameter). IsKnown s.structs v.type) ps → Grows (at_start f ps body s) (before_result f ps body s)
  inside_grows f ps body s few all types =
      let start : Scope = at_start f ps body s in
      let behind : Scope = with_parameters ps start in
      grows_further start behind (before_result f ps body s) (parameters_grow ps start (omega (arith, for_parameters (length ps) body few)) all types)
      (knowing_grows (with_bounds 0 ps behind.flow) behind (bounds_size 0 ps behind.flow))

  file_inside : (g : Frame) (f : Signature) (ps : List Parameter) (body : trees.Statements) (s : Scope) → length ps ≤ 16 → AllByRecursion IsScalar (map (λ (p : Parameter). p.type) ps) → AllByRecursion (λ (v : Parameter). IsKnown s.structs v.type) ps → KnowsFile g s → KnowsFile g (inside f ps body s)
  file_inside g f ps body s few all types known =
      let start : Scope = at_start f ps body s in
      let k = file_known g start (before_result f ps body s) (inside_grows f ps body s few all types) (record { structs = known.structs; closed = record { tagged = known.closed.tagged; of_members = known.closed.of_members; of_functions = known.closed.of_functions; of_results = known.closed.of_results; of_variables = known.closed.of_variables; of_locals = tt }; few_members = known.few_members; scalar_members = known.scalar_members; variables = known.variables; texts = known.texts; trusted = known.trusted; tainted = known.tainted }) in
      record { structs = k.structs; closed = k.closed; few_members = k.few_members; scalar_members = k.scalar_members; variables = k.variables; texts = k.texts; trusted = k.trusted; tainted = k.tainted }

  -- a body that was walked, in a program in which the file is known, where its locals are these
  record Premises (s : Scope) : Type 0 where
    frame : Frame
    types : List CType
    scalar : AllByRecursion IsScalar types
    vars : ℕ
    budget : ℕ
    sandbox : ℕ
    trusted : ℕ
    known : KnowsFile frame s
    walk : IsWalk vars s

  abbrev IsSoundBody : (s : Scope) → Premises s → core.Statements × Scope → Type 0
  IsSoundBody s p x = AreSound p.frame p.types p.scalar p.vars p.budget p.sandbox p.trusted s x

  abbrev IsWalkedBody : Scope → core.Statements × Scope → Type 0
  IsWalkedBody s x = (statements_stack x.0 ≤ 17 * height) × GrowsTo s x × ((p : Premises s) → IsSoundBody s p x)

  body_walked : (at : Places) (s : Scope) (body : trees.Statements) → HaveFew s → (statements_reach body).height ≤ height → Promises (IsWalkedBody s) (statements at s body)
  body_walked at s body few low =
      promised_so (λ (x : core.Statements × Scope). (statements_stack x.0 ≤ 17 * height) × (GrowsTo s x × ((p : Premises s) → IsSoundBody s p x))) (IsWalkedBody s) (statements at s body)
      (both_promise (λ (x : core.Statements × Scope). statements_stack x.0 ≤ 17 * height) (λ (x : core.Statements × Scope). GrowsTo s x × ((p : Premises s) → IsSoundBody s p x)) (statements at s body)
      (statements_low at s few body (17 * height) (omega arith)) (
      both_promise (GrowsTo s) (λ (x : core.Statements × Scope). (p : Premises s) → IsSoundBody s p x) (statements at s body) (statements_grow at s body)
      (all_promised (λ (p : Premises s) (x : core.Statements × Scope). IsSoundBody s p x) (statements at s body) (λ p. statements_sound p.frame p.types p.scalar p.vars p.budget p.sandbox p.trusted at s body p.walk p.known))))
      (λ x h. (h.0, h.1.0, h.1.1))

  -- a function of a scope that is declared as another one
  record IsKnownAs (s : Scope) (f : Signature) : Type 0 where
    signature : Signature
    named : function_named s.functions f.name ≡ Some signature
    agrees : Agrees signature f

  function_body_typed : (at : Places) (s : Scope) (f : Signature) (ps : List Parameter) (body : i.Body) (x : core.Statements × Scope) → f.parameters ≡ map (λ (p : Parameter). p.type) ps → f.bounds ≡ map (λ (p : Parameter). p.bounds) ps → HasResultBounds (map (λ (p : Parameter). p.type) ps) f.result (bounds_in f.result_bounds) → first_changed_in s f ps (Some body) ≡ None → IsKnownAs s f → AllByRecursion IsScalar f.parameters → IsScalarResult f.result → length ps ≤ 16
      → AllByRecursion (λ (v : Parameter). IsKnown s.structs v.type) ps → AreFormed s.structs (map (λ (p : Parameter). p.type) ps) ps → IsWalkedBody (inside f ps body.statements s) x → statements at (inside f ps body.statements s) body.statements ≡ Passes x → IsBody height s (record { name = f.name; function = core_function f ps x.0 x.1 })
  function_body_typed at s f ps text x same same_bounds sound unchanged known scalars result few known_types formed walked passes =
      let body = text.statements in
      let start : Scope = at_start f ps body s in
      let types = map (λ (p : Parameter). p.type) ps in
      let all : AllByRecursion IsScalar types = subst (AllByRecursion IsScalar) same scalars in
      let grown = inside_grows f ps body s few all known_types in
      let held : (inside f ps body s).locals ≡ types = parameter_locals ps start in
      let ext : Extends types x.1.locals = subst (λ ts. Extends ts x.1.locals) held walked.1.locals in
      let taken = extends_take types x.1.locals ext in
      let count : length types ≡ length ps = length-map ps (λ (p : Parameter). p.type) in
      let locals : AllByRecursion IsScalar x.1.locals = walked.1.scalars (subst (AllByRecursion IsScalar) (sym held) all) in
      let first : take (length ps) x.1.locals ≡ types = subst (λ n. take n x.1.locals ≡ types) count taken.0 in
      let declared : all_bounds ps ≡ map bounds_in known.signature.bounds = ap (map bounds_in) (sym same_bounds ∙ sym known.agrees.bounds) in
      let r = bounds_in f.result_bounds in
      let same_result : r ≡ bounds_in known.signature.result_bounds = ap bounds_in (sym known.agrees.result_bounds) in
      record {
        signature = known.signature;
        named = known.named;
        parameters = first ∙ sym same ∙ sym known.agrees.parameters;
        result = sym known.agrees.result;
        safe = λ g file. subst (λ r. IsSafe g (map bounds_in known.signature.bounds) r (core_function f ps x.0 x.1)) same_result (record {
          typed = record {
            bounds = r;
            parameters = subst (λ n. n ≤ length x.1.locals) count taken.1;
            locals = locals;
            result = result;
            body = subst (λ k. AreStatements g x.1.locals k r false x.0) (sym grown.result) (subst (λ l. AreStatements g x.1.locals (inside f ps body s).result r l x.0) (sym grown.loop) ((walked.2 (premises g file locals 0 0 0)).typed (λ k t e. e)));
          };
          rows = subst (λ ts. HaveRows ts (map bounds_in known.signature.bounds)) (sym first) (subst (HaveRows types) declared (have_rows s.structs types ps formed));
          sound = subst (λ ts. HasResultBounds ts f.result r) (sym first) sound;
          keeps = λ budget sandbox trusted n y named low u. body_keeps at (inside f ps body s) body x passes (names_of r) unchanged y named (let few = ap length held in omega (arith, low, few, count)) true (setting_of g budget sandbox trusted) n u;
          runs = λ budget sandbox trusted n knots low u kept begun.
              runs_further g budget n low x.1.locals (λ flow t. EndsAs g (inside f ps body s).result r (inside f ps body s).in_loop flow t × IsSo g.structs x.1 flow t) (EndsAs g f.result r false) (effects true (setting_of g budget sandbox trusted) (knot true (setting_of g budget sandbox trusted) n) x.0 u)
              ((walked.2 (premises g file locals budget sandbox trusted)).runs (λ k t e. e) n knots low u
              (record { kept = kept; known = (inside_entry g.structs f ps body s few formed (λ b e. (sound b e).ints)).free u (types_held g.structs (shapes u.blocks) x.1.locals u.locals kept.locals) (has_locals g.structs (shapes u.blocks) (inside f ps body s).locals x.1.locals u.locals walked.1.locals kept.locals) (subst (λ bs. AreEntered g.structs bs u) (sym declared) begun) }))
              (λ flow t h. subst (λ k. EndsAs g k r false flow t) (sym grown.result) (subst (λ l. EndsAs g (inside f ps body s).result r l flow t) (sym grown.loop) h.0));
        });
        few_parameters = few;
        few_locals = few_of (walked.1.few (grown.few (omega arith)));
        low = walked.0;
      }
    where
      premises : (g : Frame) → KnowsFile g s → AllByRecursion IsScalar x.1.locals → (budget sandbox trusted : ℕ) → Premises (inside f ps text.statements s)
      premises g file locals budget sandbox trusted =
          let all : AllByRecursion IsScalar (map (λ (p : Parameter). p.type) ps) = subst (AllByRecursion IsScalar) same scalars in
          record {
            frame = g;
            types = x.1.locals;
            scalar = locals;
            vars = variables_in (length ps) text.statements;
            budget = budget;
            sandbox = sandbox;
            trusted = trusted;
            known = file_inside g f ps text.statements s few all known_types file;
            walk = (inside_entry g.structs f ps text.statements s few formed (λ b e. (sound b e).ints)).walk;
          }

      few_of : length x.1.locals ≤ x.1.flow.vars → length x.1.locals ≤ 256
      few_of h = omega (arith, h, few_variables (length ps) text.statements, walked.1.size, bounds_size 0 ps (with_parameters ps (at_start f ps text.statements s)).flow, sizes_kept ps (at_start f ps text.statements s))

  -- ---- functions

  -- `main` is known
  pub record HasMain (s : Scope) : Type 0 where
    pub signature : Signature
    pub named : function_named s.functions entry ≡ Some signature
    pub trusted : is_import signature ≡ false
    pub none : signature.parameters ≡ []
    pub int : signature.result ≡ Some Int

  main_later : (a b : Scope) → FileGrows a b → HasMain a → HasMain b
  main_later a b h it = record { signature = it.signature; named = h.functions entry it.signature it.named; trusted = it.trusted; none = it.none; int = it.int }

  -- behind an item a walk is as it should be, and `main` is known if it was one
  pub record Passed (w : Walk) (is_main : Bool) (v : Walk) : Type 0 where
    pub follows : Follows height w v
    pub main : is_main ≡ true → HasMain v.scope

  -- what the rules of a declaration ask
  record IsRuled (known : Option Signature) (f : Signature) : Type 0 where
    agreed : agrees known f ≡ true
    scalars : all_scalar f.parameters ≡ true
    scalar : scalar_result f.result ≡ true

  without_promises : {A : Type 0} (P : A → Type 0) (changed : Option Span) (next : Verdict A) → (changed ≡ None → Promises P next) → Promises P (without_change changed next)
  without_promises P None next h = h refl
  without_promises P (Some span) next h = tt

  ruled_promises : (P : Walk → Type 0) (all : List Item) (d : i.Function) (f : Signature) (known : Option Signature) (changed : Option Span) (x : Walk) → (IsRuled known f → changed ≡ None → P x) → Promises P (function_rules all d f known changed x)
  ruled_promises P all d f known changed x h =
      needs_promises P (agrees known f && (all_scalar f.parameters && scalar_result f.result)) E13 d.span _
      (λ ruled.
      let first = and_parts (agrees known f) (all_scalar f.parameters && scalar_result f.result) ruled in
      let second = and_parts (all_scalar f.parameters) (scalar_result f.result) first.1 in
      needs_promises P (picked (is_tainted d.kind) true (is_defined all d.name.number)) E10 d.span _
      (λ defined. without_promises P changed _ (λ none. needs_promises P (not (is_unchecked d.mark)) E15 d.span _
      (λ on. region_promises P x.scope d.span x (h (record { agreed = first.0; scalars = second.0; scalar = second.1 }) none)))))

  module _ (w : Walk) (well : IsWell height w) (settled : AreSettled w.scope.structs w.scope.variables w.objects) where
    -- with a function that is declared, for the first time or again
    record Declares (known : Option Signature) (f : Signature) : Type 0 where
      follows : Follows height w (record w { scope = with_function known f w.scope })
      is_known : IsKnownAs (with_function known f w.scope) f

    -- a result with bounds is sized
    row_sized : (structs : List Structure) (types : List CType) (m : Mode) (kind : Kind) (t : CType) (b : Bounds) → IsForResult structs types (Some (Pointer m kind t)) b → 0 < size_of structs t
    row_sized structs types m kind t b it = let same : it.are.element ≡ t = (let q = it.are.is in cc) in subst (λ c. 0 < size_of structs c) same it.some

    sized_result : (structs : List Structure) (types : List CType) (result : Option CType) (written : WrittenBounds) → AreForResult structs types result written → IsSizedResult structs result (bounds_in written)
    sized_result structs types None written h = tt
    sized_result structs types (Some Int) written h = tt
    sized_result structs types (Some Char) written h = tt
    sized_result structs types (Some (Struct n)) written h = tt
    sized_result structs types (Some (Pointer m kinds.One t)) written h = tt
    sized_result structs types (Some (Pointer m kinds.Nt t)) None h = tt
    sized_result structs types (Some (Pointer m kinds.Nt t)) (Some None) h = tt
    sized_result structs types (Some (Pointer m kinds.Nt t)) (Some (Some b)) h = row_sized structs types m kinds.Nt t b (h b refl)
    sized_result structs types (Some (Pointer m kinds.Array t)) None h = tt
    sized_result structs types (Some (Pointer m kinds.Array t)) (Some None) h = tt
    sized_result structs types (Some (Pointer m kinds.Array t)) (Some (Some b)) h = row_sized structs types m kinds.Array t b (h b refl)

    -- those that are found are found among one more
    named_so_far : (f : Signature) (functions : List Signature) → AllByRecursion (IsNamed w.scope.functions) functions → AllByRecursion (IsNamed (w.scope.functions ++ f ∷ [])) functions
    named_so_far f [] all = tt
    named_so_far f (x ∷ functions) all = (named_further w.scope.functions f x.name x all.0, named_so_far f functions all.1)

    declares : (known : Option Signature) (f : Signature) → function_named w.scope.functions f.name ≡ known → IsRuled known f → IsDeclared f → IsKnownResult w.scope.structs f.result → IsSizedResult w.scope.structs f.result (bounds_in f.result_bounds) → Declares known f
    declares None f e ruled declared known_result sized =
        let after = with_function None f w.scope in
        let c = well.closed in
        let grows : FileGrows w.scope after = record {
          structs = λ k x h. h;
          variables = λ k x h. h;
          texts = λ k x h. h;
          counted = refl;
          functions = λ name h found. named_further w.scope.functions f name h found;
          numbers = λ side name h found. side_further side w.scope.functions f name h 0 found;
        } in
        record {
          follows = record {
            well = record {
              closed = record { tagged = c.tagged; of_members = c.of_members; of_functions = all_append (λ (x : Signature). IsKnownResult w.scope.structs x.result) w.scope.functions f c.of_functions known_result; of_results = all_append (λ (x : Signature). IsSizedResult w.scope.structs x.result (bounds_in x.result_bounds)) w.scope.functions f c.of_results sized; of_variables = c.of_variables; of_locals = c.of_locals };
              few = well.few;
              scalars = well.scalars;
              start = well.start;
              declared = all_append IsDeclared w.scope.functions f well.declared declared;
              named = all_append (IsNamed (w.scope.functions ++ f ∷ [])) w.scope.functions f (named_so_far f w.scope.functions well.named) (named_last w.scope.functions f e);
              bodies = bodies_later height w.scope after w.bodies well.closed grows well.bodies;
              roomy = well.roomy;
              bytes = well.bytes;
              room = well.room;
            };
            settled = settled;
            grows = grows;
          };
          is_known = record { signature = f; named = named_last w.scope.functions f e; agrees = record { kind = refl; parameters = refl; result = refl; bounds = refl; result_bounds = refl } };
        }
    declares (Some before) f e ruled declared known_result sized = record {
      follows = record {
        well = record { closed = well.closed; few = well.few; scalars = well.scalars; start = well.start; declared = well.declared; named = well.named; bodies = well.bodies; roomy = well.roomy; bytes = well.bytes; room = well.room };
        settled = settled;
        grows = file_stays w.scope;
      };
      is_known = record { signature = before; named = e; agrees = agrees_equal before f ruled.agreed };
    }

    module _ (d : i.Function) (result : Option CType) (parameters : List Parameter) (bounds : WrittenBounds) (form : FitsForm w.scope.structs d result parameters bounds) (of_main : IsNamedMain entry (i.FunctionItem d)) (known : Option Signature) (found : function_named w.scope.functions d.name.number ≡ known) where
      abbrev signature : Signature
      signature = signature_of d result parameters bounds

      abbrev with_it : Walk
      with_it = record w { scope = with_function known signature w.scope }

      -- where its body stands
      abbrev scope_with : i.Body → Scope
      scope_with body = body_scope with_it body

      abbrev IsPassed : Walk → Type 0
      IsPassed v = Passed w (is_main_function d) v

      declared_so : IsRuled known signature → IsDeclared signature
      declared_so ruled = record { few = omega (arith, form.few, length-map parameters (λ (p : Parameter). p.type)); scalars = scalars_all signature.parameters ruled.scalars; result = result_scalar result ruled.scalar; numbers = form.numbers; number_result = form.number_result; rows = have_rows w.scope.structs signature.parameters parameters form.formed; sound = λ b e. (form.for_result b e).are }

      is_declared : IsRuled known signature → Declares known signature
      is_declared ruled = declares known signature found ruled (declared_so ruled) form.known_result (sized_result w.scope.structs signature.parameters result bounds form.for_result)

      main_known : IsKnownAs with_it.scope signature → is_main_function d ≡ true → HasMain with_it.scope
      main_known it_is main =
          let it = main_form d main in
          let name = of_main main in
          record {
            signature = it_is.signature;
            named = subst (λ x. function_named with_it.scope.functions x ≡ Some it_is.signature) name it_is.named;
            trusted = ap is_tainted it_is.agrees.kind ∙ it.trusted;
            none = it_is.agrees.parameters ∙ ap (λ (ps : List Parameter). map (λ (p : Parameter). p.type) ps) (form.none main);
            int = it_is.agrees.result ∙ form.int_result main;
          }

      known_parameters : (o : Option Signature) → AllByRecursion (λ (v : Parameter). IsKnown (with_function o signature w.scope).structs v.type) parameters
      known_parameters None = form.known
      known_parameters (Some before) = form.known

      formed_parameters : (o : Option Signature) → AreFormed (with_function o signature w.scope).structs (map (λ (p : Parameter). p.type) parameters) parameters
      formed_parameters None = form.formed
      formed_parameters (Some before) = form.formed

      -- with a body more
      with_body : (at : Places) → IsRuled known signature → (body : i.Body) → first_changed_in with_it.scope signature parameters (Some body) ≡ None → (x : core.Statements × Scope) → IsWalkedBody (inside signature parameters body.statements (scope_with body)) x
          → statements at (inside signature parameters body.statements (scope_with body)) body.statements ≡ Passes x → IsPassed (record with_it { scope = scope_with body; bodies = with_it.bodies ++ record { name = signature.name; function = core_function signature parameters x.0 x.1 } ∷ [] })
      with_body at ruled body none x walked passes =
          let it = is_declared ruled in
          let known_as : IsKnownAs (scope_with body) signature = record { signature = it.is_known.signature; named = it.is_known.named; agrees = it.is_known.agrees } in
          let unchanged = changed_beside signature parameters (Some body) with_it.taken (body_texts body) with_it.scope ∙ none in
          let grows : FileGrows with_it.scope (scope_with body) = record {
            structs = λ k x h. h;
            variables = λ k x h. h;
            texts = extends_append with_it.scope.strings.texts (body_texts body);
            counted = refl;
            functions = λ name f h. h;
            numbers = λ side name f h. refl;
          } in
          let typed_body = function_body_typed at (scope_with body) signature parameters body x refl refl (λ b e. (form.for_result b e).are) unchanged known_as (scalars_all signature.parameters ruled.scalars) (result_scalar result ruled.scalar) form.few (known_parameters known) (formed_parameters known) walked passes in
          let well' = it.follows.well in
          record {
            follows = record {
              well = record {
                closed = well'.closed;
                few = well'.few;
                scalars = well'.scalars;
                start = well'.start;
                declared = well'.declared;
                named = well'.named;
                bodies = all_append (IsBody height (scope_with body)) with_it.bodies (record { name = signature.name; function = core_function signature parameters x.0 x.1 })
                    (bodies_later height with_it.scope (scope_with body) with_it.bodies well'.closed grows well'.bodies) typed_body;
                roomy = well'.roomy;
                bytes = well'.bytes;
                room = well'.room;
              };
              settled = it.follows.settled;
              grows = file_further w.scope with_it.scope (scope_with body) it.follows.grows grows;
            };
            main = λ main. main_later with_it.scope (scope_with body) grows (main_known it.is_known main);
          }

      -- all functions that are known have few parameters
      have_few : HaveFew with_it.scope
      have_few = by known
        where
          few_of : (functions : List Signature) → AllByRecursion IsDeclared functions → AllByRecursion HasFew functions
          few_of [] all = tt
          few_of (f ∷ functions) all = (all.0.few, few_of functions all.1)

          by : (o : Option Signature) → HaveFew (with_function o signature w.scope)
          by None = all_append HasFew w.scope.functions signature (few_of w.scope.functions well.declared) (omega (arith, form.few, length-map parameters (λ (p : Parameter). p.type)))
          by (Some before) = few_of w.scope.functions well.declared

      parameters_keep : (ps : List Parameter) (g : Scope) → g.functions ≡ (with_parameters ps g).functions
      parameters_keep [] g = refl
      parameters_keep (p ∷ ps) g = parameters_keep ps (with_local p.name p.type None g)

      few_inside : (body : i.Body) → HaveFew (inside signature parameters body.statements (scope_with body))
      few_inside body = subst (AllByRecursion HasFew) (parameters_keep parameters (at_start signature parameters body.statements (scope_with body))) have_few

      abbrev IsPassedIf : Option i.Body → Walk → Type 0
      IsPassedIf body x = IsRuled known signature → first_changed_in with_it.scope signature parameters body ≡ None → IsPassed x

      body_promises : (at : Places) (body : Option i.Body) → (optional_body_reach body).height ≤ height → Promises (IsPassedIf body) (function_body at with_it signature parameters body)
      body_promises at None low = λ ruled none. let it = is_declared ruled in record { follows = it.follows; main = main_known it.is_known }
      body_promises at (Some body) low =
          let higher = around_higher body.span.from (statements_reach body.statements) in
          let start = inside signature parameters body.statements (scope_with body) in
          passing_promises (λ (x : core.Statements × Scope). IsWalkedBody start x × (statements at start body.statements ≡ Passes x)) (IsPassedIf (Some body)) (statements at start body.statements) _
          (both_promise (IsWalkedBody start) (λ (x : core.Statements × Scope). statements at start body.statements ≡ Passes x) (statements at start body.statements) (body_walked at start body.statements (few_inside body) (omega arith)) (passed_is (statements at start body.statements)))
          (λ x h. needs_promises (IsPassedIf (Some body)) (not (is_unchecked body.mark || with_it.scope.is_off)) E15 body.span _ (λ on ruled none. with_body at ruled body none x h.0 h.1))

      declaration_promises : (at : Places) (all : List Item) → (optional_body_reach d.body).height ≤ height
          → Promises IsPassed (passing (function_body at with_it signature parameters d.body) (λ x. function_rules all d signature known (first_changed_in with_it.scope signature parameters d.body) x))
      declaration_promises at all low =
          passing_promises (IsPassedIf d.body) IsPassed (function_body at with_it signature parameters d.body) _ (body_promises at d.body low)
          (λ x h. ruled_promises IsPassed all d signature known (first_changed_in with_it.scope signature parameters d.body) x h)

    -- what the form says of the result and of the parameters
    abbrev ResultFits : i.Function → Option CType → Type 0
    ResultFits d result = (is_tainted d.kind ≡ true → IsNumberResult result) × ((is_main_function d ≡ true → result ≡ Some Int) × IsKnownResult w.scope.structs result)

    result_fits : (d : i.Function) → built_function d ≡ true → Promises (ResultFits d) (result_type w.scope d.result d.stars)
    result_fits d built =
        let v = result_type w.scope d.result d.stars in
        both_promise (λ (o : Option CType). is_tainted d.kind ≡ true → IsNumberResult o) (λ (o : Option CType). (is_main_function d ≡ true → o ≡ Some Int) × IsKnownResult w.scope.structs o) v
        (later_promises (is_tainted d.kind ≡ true) IsNumberResult v (λ tainted. number_result w.scope d.result d.stars (crossing d built tainted).result))
        (both_promise (λ (o : Option CType). is_main_function d ≡ true → o ≡ Some Int) (IsKnownResult w.scope.structs) v
        (later_promises (is_main_function d ≡ true) (λ (o : Option CType). o ≡ Some Int) v (λ main. int_result w.scope d.result d.stars (main_form d main).int))
        (result_known w.scope well.closed.tagged d.result d.stars))

    -- a function that takes nothing has no parameters
    none_taken : (ps : i.Parameters) → takes_nothing ps ≡ true → listed ps ≡ []
    none_taken i.Nothing h = refl
    none_taken i.VoidAlone h = refl
    none_taken (i.Listed parameters) h = absurd (cc)

    fits_form : (d : i.Function) (result : Option CType) (ps : List Parameter) (bounds : WrittenBounds) → built_function d ≡ true → ResultFits d result → AreParameters w.scope (listed d.parameters) 0 (listed d.parameters) ps → AreForResult w.scope.structs (map (λ (p : Parameter). p.type) ps) result bounds → FitsForm w.scope.structs d result ps bounds
    fits_form d result ps bounds built hr are for_result =
        let all = listed d.parameters in
        record {
          known_result = hr.1.1;
          known = parameters_known w.scope all well.closed.tagged 0 all ps are;
          numbers = λ tainted. number_parameters w.scope all 0 all ps (listed_numbers d.parameters (crossing d built tainted).parameters) are;
          number_result = hr.0;
          int_result = hr.1.0;
          few = let low = few_parameters w.scope all 0 all ps are (omega arith) in omega (arith, low);
          none = λ main. none_listed w.scope ps (subst (λ ms. AreParameters w.scope ms 0 ms ps) (none_taken d.parameters (main_form d main).nothing) are);
          formed = all_formed w.scope all ps are;
          for_result = for_result;
        }

    function_promises : (at : Places) (all : List Item) (d : i.Function) → IsNamedMain entry (i.FunctionItem d) → built_function d ≡ true → (optional_body_reach d.body).height ≤ height → Promises (Passed w (is_main_function d)) (function at all w d)
    function_promises at all d of_main built low =
        needs_promises (Passed w (is_main_function d)) (is_some (function_named w.scope.functions d.name.number) || nat_lt (length w.scope.functions) 4096) E08 d.span _
        (λ few. passing_promises (ResultFits d) (Passed w (is_main_function d)) (result_type w.scope d.result d.stars) _ (result_fits d built)
        (λ result hr. passing_promises (AreParameters w.scope (listed d.parameters) 0 (listed d.parameters)) (Passed w (is_main_function d)) (parameter_types w.scope (listed d.parameters) (listed d.parameters) []) _ (parameters_are w.scope (listed d.parameters))
        (λ parameters are. passing_promises (AreForResult w.scope.structs (map (λ (p : Parameter). p.type) parameters) result) (Passed w (is_main_function d)) (bounds_of_result w.scope (listed d.parameters) result d.bounds) _ (result_formed w.scope (listed d.parameters) parameters are result d.bounds)
        (λ bounds for_result. declaration_promises d result parameters bounds (fits_form d result parameters bounds built hr are for_result) of_main (function_named w.scope.functions d.name.number) refl at all low))))

    -- ---- items

    no_main : (v : Verdict Walk) → Promises (Follows height w) v → Promises (Passed w false) v
    no_main (Passes v) h = record { follows = h; main = λ e. absurd (cc) }
    no_main (Stops stop) h = tt

    item_promises : (at : Places) (all : List Item) (x : Item) → IsNamedMain entry x → built_item x ≡ true → (item_reach x).height ≤ height → Promises (Passed w (is_main x)) (item at all w x)
    item_promises at all (i.RegionItem region span) of_main built low = record {
      follows = record {
        well = record {
          closed = well.closed;
          few = well.few;
          scalars = well.scalars;
          start = well.start;
          declared = well.declared;
          named = well.named;
          bodies = bodies_later height w.scope (record w.scope { is_off = items.is_off region }) w.bodies well.closed (region_grows region) well.bodies;
          roomy = well.roomy;
          bytes = well.bytes;
          room = well.room;
        };
        settled = settled;
        grows = region_grows region;
      };
      main = λ e. absurd (cc);
    }
      where
        region_grows : (region : Region) → FileGrows w.scope (record w.scope { is_off = items.is_off region })
        region_grows region = record { structs = λ k x h. h; variables = λ k x h. h; texts = λ k x h. h; counted = refl; functions = λ name f h. h; numbers = λ side name f h. refl }
    item_promises at all (i.StructureItem d) of_main built low = no_main (structure w d) (structure_promises height w d well settled)
    item_promises at all (i.GlobalItem d) of_main built low = no_main (global at w d) (global_promises height at w d well settled)
    item_promises at all (i.FunctionItem d) of_main built low = function_promises at all d of_main built (let last = beside_second (result_reach d.result beside parameters_reach d.parameters beside optional_bounds_reach d.bounds) (optional_body_reach d.body) in omega arith)

  -- behind one item and others
  further_passed : (w v u : Walk) (first rest : Bool) → Passed w first v → Passed v rest u → Passed w (first || rest) u
  further_passed w v u first rest h h' = record {
    follows = record { well = h'.follows.well; settled = h'.follows.settled; grows = file_further w.scope v.scope u.scope h.follows.grows h'.follows.grows };
    main = λ e. ⊎_elim (λ one. main_later v.scope u.scope h'.follows.grows (h.main one)) h'.main (or_cases first rest e);
  }

  pub items_promise : (at : Places) (all : List Item) (w : Walk) (xs : List Item) → AllByRecursion (IsNamedMain entry) xs → list_all built_item xs ≡ true → (items_reach xs).height ≤ height → IsWell height w → AreSettled w.scope.structs w.scope.variables w.objects → Promises (Passed w (list_any is_main xs)) (items.items at all w xs)
  items_promise at all w [] of_main built low well settled = record { follows = record { well = well; settled = settled; grows = file_stays w.scope }; main = λ e. absurd (cc) }
  items_promise at all w (x ∷ xs) of_main built low well settled =
      let one = beside_first (item_reach x) (items_reach xs) in
      let two = beside_second (item_reach x) (items_reach xs) in
      let parts = and_parts (built_item x) (list_all built_item xs) built in
      passing_promises (Passed w (is_main x)) (Passed w (list_any is_main (x ∷ xs))) (item at all w x) _ (item_promises w well settled at all x of_main.0 parts.0 (omega arith))
      (λ v h. promised_so (Passed v (list_any is_main xs)) (Passed w (list_any is_main (x ∷ xs))) (items.items at all v xs) (items_promise at all v xs of_main.1 parts.1 (omega arith) h.follows.well h.follows.settled)
      (λ u h'. further_passed w v u (is_main x) (list_any is_main xs) h h'))
