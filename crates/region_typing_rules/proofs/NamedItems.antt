-- In a whole program each name stands for something, where naming finds no fault.
use Rattle.std.proofs.Common.{◌≡◌, ℕ, zero, suc, ◌+◌, ◌*◌, Bool, true, false, ℤ, List, [], ◌∷◌, ◌++◌, map, length, Option, Some, None, refl, sym, ◌∙◌, subst, inl, inr}
use Rattle.std.specs.Prelude.{◌==◌, ◌^◌, ◌&&◌, ◌||◌, not, bytes_eq, nat_lt, nat_le, is_some, is_none, position, Result, Ok, Err, flat_map}
use Rattle.std.specs.List.{list_any, list_all}
use Rattle.std.specs.Option.{option_map}
use Rattle.std.proofs.lemmas.Bool.{and_parts}
use Rattle.ckc_text.specs.declared.fault.SourceFault.{SourceFault}
use Rattle.ckc_text.specs.declared.place.Span.{Span}
use Rattle.ckc_text.specs.declared.code.Code.TheVariants.{E04, E08, E10, E13, E15, E16, E27}
use Rattle.ckc_tree.specs.declared.identifier.Identifier.{Identifier}
use Rattle.ckc_tree.specs.declared.item.FunctionKind.{FunctionKind}
use Rattle.ckc_tree.specs.declared.item.FunctionKind.TheVariants as function_kinds
use Rattle.ckc_tree.specs.Types.{TypeTree, IntType, CharType, StructType, PointerType, type_span}
use Rattle.ckc_tree.specs.Statements as s
use Rattle.ckc_tree.specs.Statements.{Initializer, Declarator, Statements}
use Rattle.ckc_tree.specs.Items as i
use Rattle.ckc_tree.specs.Expressions.{Bounds, bounds_span}
use Rattle.ckc_tree.specs.Items.{Member, ResultForm, Parameters, Body, Item, Tree}
use Rattle.bounds_exprs.specs.declared.term.Bounds.{Bounds as Formed}
use Rattle.ckc_tree.specs.Numbers.{Numbers, number_type, number_expression, number_bounds, number_initializer, number_declarator, number_statements, number_member, number_structure, number_global, number_result, number_parameters, number_body, number_function, number_item}
use Rattle.built_forms.specs.Built.{optional, built_bounds, built_type, built_initializer, built_declarator, built_result, built_parameters, built_parameter, is_number_result, is_number_parameter, built_body, built_of_kind, built_function, built_item, is_built}
use Rattle.ckc_names_rules.specs.declared.given.Given.{Given}
use Rattle.ckc_names_rules.specs.Given.{number_in, given_by}
use Rattle.ckc_names_rules.specs.Mentions.{Mention, DeclareTag, DeclareFunction, type_mentions, bounds_mentions, optional_mentions, initializer_mentions, declarator_mentions, in_block, listed_mentions, parameters_mentions, statements_mentions, result_mentions, function_mentions, item_mentions, tree_mentions}
use Rattle.ckc_names_rules.specs.Scopes.{Variable, Function, Scopes, at_file_level, visible, is_value, is_function, is_among, with_entry, standing_for, was_defined, innermost, mentioned, then_mentioned, all_mentioned}
use Rattle.ckc_names_rules.specs.Naming.{has_main, naming_fault_in, naming_fault, names_of, named_of}
use Rattle.flat_bytes.specs.Blocks.{rounded_up}
use Rattle.pointer_modes.specs.Types as types
use Rattle.pointer_modes.specs.Types.{CType, Int, Char, Struct, Pointer, Structure}
use Rattle.ckc_core.specs.Programs.{Initial}
use Rattle.ckc_core.specs.Core as core
use Rattle.region_typing_rules.specs.Verdicts.{Verdict, Passes, Stops, Broken, Nameless, Unnamed, passing, needs, meant, picked}
use Rattle.region_typing_rules.specs.Scopes.{Scope, Signature, WrittenBounds, FileVariable, found_if, object_of, object_named, function_named, struct_named}
use Rattle.region_typing_rules.specs.Types.{may_lead_to, without_stars, base_type}
use Rattle.region_typing_rules.specs.Operands.{Places}
use Rattle.region_typing_rules.specs.Calls.{is_tainted}
use Rattle.region_typing_rules.specs.Expressions.{typed}
use Rattle.bounds_flow.specs.Flows.{at_entry}
use Rattle.region_typing_rules.specs.Statements.{is_unchecked, statements, length_of, array_kind, is_ended_array, before_end}
use Rattle.ckc_tree.specs.declared.stmt.SignedConstant.{SignedConstant}
use Rattle.region_typing_rules.specs.Knowing.{knowing}
use Rattle.ckc_tree.specs.Texts.{Text, body_texts}
use Rattle.region_typing_rules.proofs.TextBlocks.{inside_beside}
use Rattle.region_typing_rules.specs.Strings.{texts_size}
use Rattle.region_typing_rules.specs.Items.{with_texts, variable_scope, variables_declared, Walk, Parameter, is_struct, member_types, scalar_members, with_struct, member_names, structure, signed_constant, Walked, Missing, Written, Constants, unsigned_number, small_constants, initializer, are_zeros, is_zero, number_or_break, cells_or_break, listed_cells, object_cells, with_own, bounded_type, object_bounds, variable_of, with_variable, count_of, written_size, few_bytes, room_for, WalkedVariable, variables, room_for_first, with_objects, global, listed, parameter_types, among_parameters, type_of_result, bounds_of_result, first_changed_in, result_type, agrees, all_scalar, scalar_result, with_function, variables_in, with_bounds, before_bounds, inside, function_body, is_defined, function_rules, signature_of, function, is_off, item, items, start, walked}
use Rattle.region_typing_rules.specs.Cores.{checked}
use Rattle.region_typing_rules.specs.DeclaredBounds.{declared_bounds}
use Rattle.region_typing_rules.proofs.NamedBounds.{bounds_named}
use Rattle.region_typing_rules.proofs.Signatures.{bytes_equal}
use Rattle.region_typing_rules.proofs.NamedVerdicts.{IsNamed, AllNamed, Any, passing_named, then_named, needs_named, named_so}
use Rattle.region_typing_rules.proofs.NamedMentions.{AreFound, mentioned_append, not_refused, quiet_front, quiet_all, type_quiet, bounds_quiet, optional_quiet, initializer_quiet, declared_front, AreQuiet, opened, block_mentioned, KeepsOutside, append_keeps, quiet_keeps, nothing_keeps, statements_keep}
use Rattle.region_typing_rules.proofs.NamedScopes.{number_equal, KnowsTags, meant_some, among_any, AgreesFile, file_agrees, Agrees, flow_agrees, entry_value, entry_without, HasTags, found_tags, base_named, stars_named}
use Rattle.region_typing_rules.proofs.NamedExpressions.{typed_named}
use Rattle.region_typing_rules.proofs.NamedStatements.{Behind, statements_named}
use Rattle.region_typing_rules.proofs.NamedLists.{or_cases, any_more, any_last, Adds, adds_same, lists_all, listed_adds, listed_keeps, HaveTags, is_listed, is_parameter, members_named, Named as AreParameters, parameters_named, inside_agrees}
use Rattle.region_typing_rules.specs.Cells.{is_length}

-- ---- what is known at file level

object_more : (k : ℕ) (vs more : List FileVariable) (x : ℕ) → is_some (object_named k vs x) ≡ true → is_some (object_named k (vs ++ more) x) ≡ true
object_more k [] more x h = absurd (cc)
object_more k (v ∷ vs) more x h = by (x == v.name) h (λ h'. object_more (suc k) vs more x h')
  where
    by : (b : Bool) → is_some (found_if b (Some (object_of k v v.length)) (object_named (suc k) vs x)) ≡ true → (is_some (object_named (suc k) vs x) ≡ true → is_some (object_named (suc k) (vs ++ more) x) ≡ true)
        → is_some (found_if b (Some (object_of k v v.length)) (object_named (suc k) (vs ++ more) x)) ≡ true
    by true h' again = refl
    by false h' again = again h'

object_last : (k : ℕ) (vs : List FileVariable) (v : FileVariable) (x : ℕ) → (x == v.name) ≡ true → is_some (object_named k (vs ++ v ∷ []) x) ≡ true
object_last k [] v x h = rw h refl
object_last k (w ∷ vs) v x h = by (x == w.name) (object_last (suc k) vs v x h)
  where
    by : (b : Bool) → is_some (object_named (suc k) (vs ++ v ∷ []) x) ≡ true → is_some (found_if b (Some (object_of k w w.length)) (object_named (suc k) (vs ++ v ∷ []) x)) ≡ true
    by true again = refl
    by false again = again

function_more : (fs more : List Signature) (x : ℕ) → is_some (function_named fs x) ≡ true → is_some (function_named (fs ++ more) x) ≡ true
function_more [] more x h = absurd (cc)
function_more (f ∷ fs) more x h = by (x == f.name) refl h (λ h'. function_more fs more x h')
  where
    by : (b : Bool) → (x == f.name) ≡ b → is_some (function_named (f ∷ fs) x) ≡ true → (is_some (function_named fs x) ≡ true → is_some (function_named (fs ++ more) x) ≡ true) → is_some (function_named (f ∷ (fs ++ more)) x) ≡ true
    by true e h' again = rw e refl
    by false e h' again = let now : is_some (function_named fs x) ≡ true = rw e at h' in rw e (again now)

function_last : (fs : List Signature) (f : Signature) (x : ℕ) → (x == f.name) ≡ true → is_some (function_named (fs ++ f ∷ []) x) ≡ true
function_last [] f x h = rw h refl
function_last (g ∷ fs) f x h = by (x == g.name) refl (function_last fs f x h)
  where
    by : (b : Bool) → (x == g.name) ≡ b → is_some (function_named (fs ++ f ∷ []) x) ≡ true → is_some (function_named (g ∷ (fs ++ f ∷ [])) x) ≡ true
    by true e again = rw e refl
    by false e again = rw e again

-- strings have no names
texts_agree : (of : Numbers) (n : Scopes) (taken : ℕ) (texts : List Text) (g : Scope) → AgreesFile of n g → AgreesFile of n (with_texts taken texts g)
texts_agree of n taken texts g h = record { value = h.value; function = h.function; tag = h.tag; given = h.given }

texts_agree_inside : (of : Numbers) (n : Scopes) (taken : ℕ) (texts : List Text) (g : Scope) → Agrees of n g → Agrees of n (with_texts taken texts g)
texts_agree_inside of n taken texts g h = record { value = h.value; function = h.function; tag = h.tag; given = h.given }

variable_agrees : (of : Numbers) (name : Identifier) (t : CType) (length : Option ℕ) (ended : Bool) (bounds : WrittenBounds) (n : Scopes) (g : Scope) → AgreesFile of n g → AgreesFile of (standing_for name Variable n) (with_variable (of name.name) t length ended bounds g)
variable_agrees of name t length ended bounds n g h = record {
  value = λ x v. by x (bytes_eq x name.name) refl v;
  function = λ x f. h.function x (entry_without is_function name.name Variable refl n.blocks x f);
  tag = h.tag;
  given = h.given;
}
  where
    new : FileVariable
    new = record { name = of name.name; type = t; length = length; ended = ended; bounds = bounds }

    by : (x : List ℕ) (b : Bool) → bytes_eq x name.name ≡ b → is_value (visible (with_entry name.name Variable n.blocks) x) ≡ true → is_some (object_named 0 (with_variable (of name.name) t length ended bounds g).variables (of x)) ≡ true
    by x true e v = object_last 0 g.variables new (of x) (number_equal of x name.name e)
    by x false e v = object_more 0 g.variables (new ∷ []) (of x) (h.value x (subst (λ o. is_value o ≡ true) (entry_value name.name Variable n.blocks x e) v))

function_agrees : (of : Numbers) (name : Identifier) (defined : Bool) (f : Signature) → f.name ≡ of name.name → (n : Scopes) (g : Scope) → AgreesFile of n g
    → AgreesFile of (standing_for name (Function defined) n) (with_function (function_named g.functions (of name.name)) f g)
function_agrees of name defined f called n g h = by (function_named g.functions (of name.name)) refl
  where
    there : (x : List ℕ) (b : Bool) → bytes_eq x name.name ≡ b → (P : Type 0) → (bytes_eq x name.name ≡ true → P) → (is_function (visible n.blocks x) ≡ true → P) → is_function (visible (with_entry name.name (Function defined) n.blocks) x) ≡ true → P
    there x true e P here before h' = here e
    there x false e P here before h' = before (subst (λ o. is_function o ≡ true) (entry_value name.name (Function defined) n.blocks x e) h')

    by : (known : Option Signature) → function_named g.functions (of name.name) ≡ known → AgreesFile of (standing_for name (Function defined) n) (with_function known f g)
    by None e = record {
      value = λ x v. h.value x (entry_without is_value name.name (Function defined) refl n.blocks x v);
      function = λ x f'. there x (bytes_eq x name.name) refl (is_some (function_named (g.functions ++ f ∷ []) (of x)) ≡ true)
          (λ same. function_last g.functions f (of x) (subst (λ k. (of x == k) ≡ true) (sym called) (number_equal of x name.name same))) (λ before. function_more g.functions (f ∷ []) (of x) (h.function x before)) f';
      tag = h.tag;
      given = h.given;
    }
    by (Some before) e = record {
      value = λ x v. h.value x (entry_without is_value name.name (Function defined) refl n.blocks x v);
      function = λ x f'. there x (bytes_eq x name.name) refl (is_some (function_named g.functions (of x)) ≡ true)
          (λ same. subst (λ y. is_some (function_named g.functions (of y)) ≡ true) (sym (bytes_equal x name.name same)) (rw e refl)) (λ old. h.function x old) f';
      tag = h.tag;
      given = h.given;
    }

abbrev with_tag : List ℕ → Scopes → Scopes
with_tag tag n = record { blocks = n.blocks; tags = tag ∷ n.tags }

struct_agrees : (of : Numbers) (tag : List ℕ) (names : List ℕ) (tainted : Bool) (members : List types.Member) (n : Scopes) (g : Scope) → AgreesFile of n g → AgreesFile of (with_tag tag n) (with_struct (of tag) names tainted members g)
struct_agrees of tag names tainted members n g h = record { value = h.value; function = h.function; tag = λ x t. knows x t; given = h.given }
  where
    knows : (x : List ℕ) → is_among (tag ∷ n.tags) x ≡ true → is_some (position (λ other. of x == other) (g.tags ++ of tag ∷ [])) ≡ true
    knows x t = among_any (λ other. of x == other) (g.tags ++ of tag ∷ []) ∙ (elim (or_cases (bytes_eq x tag) (list_any (bytes_eq x) n.tags) (sym (among_any (bytes_eq x) (tag ∷ n.tags)) ∙ t)) [
      | inl here ↦ any_last (λ other. of x == other) g.tags (of tag) (number_equal of x tag here)
      | inr old ↦ any_more (λ other. of x == other) g.tags (of tag ∷ []) (sym (among_any (λ other. of x == other) g.tags) ∙ h.tag x (among_any (bytes_eq x) n.tags ∙ old))
    ])

-- ---- structs

abbrev pub File : Numbers → Scopes → Walk → Type 0
File of m w = AgreesFile of m w.scope

scalar_members_named : {A : Type 0} (Q : A → Type 0) (members : List types.Member) (next : Verdict A) → IsNamed Q next → IsNamed Q (scalar_members members next)
scalar_members_named Q [] next h = h
scalar_members_named Q (m ∷ members) next h = needs_named Q (not (is_struct m.ctype)) E27 m.span _ (scalar_members_named Q members next h)

tag_front : (name : Identifier) (rest : List Mention) (n m : Scopes) → all_mentioned (DeclareTag name ∷ rest) n ≡ Ok m → all_mentioned rest (with_tag name.name n) ≡ Ok m
tag_front name rest n m h = by (mentioned (DeclareTag name) n) refl h
  where
    by : (r : Result Scopes SourceFault) → mentioned (DeclareTag name) n ≡ r → then_mentioned r (all_mentioned rest) ≡ Ok m → all_mentioned rest (with_tag name.name n) ≡ Ok m
    by (Ok j) e h' = subst (λ k. all_mentioned rest k ≡ Ok m) (not_refused _ _ name (with_tag name.name n) j e).1 h'
    by (Err fault) e h' = absurd (cc)

structure_named : (of : Numbers) (n m : Scopes) (w : Walk) (d : i.Structure) → File of n w → all_mentioned (item_mentions (i.StructureItem d)) n ≡ Ok m → IsNamed (File of m) (structure w (number_structure of d))
structure_named of n m w d agrees h =
    let tagged = with_tag d.tag.name n in
    let block = block_mentioned (listed_mentions d.members) (listed_keeps d.members) tagged m (tag_front d.tag (in_block (listed_mentions d.members)) n m h) in
    let tags = (listed_adds (λ x. Unit {0}) d.members (lists_all (λ x. Unit {0}) d.members (λ x e. tt)) (opened tagged) block.0 block.1).1 in
    let names = member_names (map (number_member of) d.members) in
    let inside = with_struct (of d.tag.name) names d.tainted [] w.scope in
    let before = struct_agrees of d.tag.name names d.tainted [] n w.scope agrees in
    needs_named (File of m) (nat_lt (length w.scope.structs) 4096) E08 d.span _
    (then_named (File of m) (member_types inside (map (number_member of) d.members) []) _ (members_named of tagged.tags inside before.tag d.members [] tags)
    (λ members. scalar_members_named (File of m) members _ (needs_named (File of m) (not w.scope.is_off) E15 d.span _
    (subst (λ k. AgreesFile of k (with_struct (of d.tag.name) names d.tainted members w.scope)) (sym block.2) (struct_agrees of d.tag.name names d.tainted members n w.scope agrees)))))

-- ---- file-level variables

size_named : (of : Numbers) (tags : List (List ℕ)) (g : Scope) → KnowsTags of tags g → (base : TypeTree) (stars : ℕ) → HasTags tags base → AllNamed (written_size g (number_type of base) stars)
size_named of tags g knows (IntType span) zero h = tt
size_named of tags g knows (CharType span) zero h = tt
size_named of tags g knows (StructType tag span) zero h = then_named Any (meant (struct_named g (of tag.name))) _ (meant_some (struct_named g (of tag.name)) (knows tag.name h)) (λ number. tt)
size_named of tags g knows (PointerType word element starred span) zero h = tt
size_named of tags g knows base (suc stars) h = tt

bytes_named : (g : Scope) (taken : ℕ) (span : Span) → AllNamed (few_bytes g taken span)
bytes_named g taken span = needs_named Any (nat_le (taken + texts_size g.strings.texts) 32768) E08 span (Passes taken) tt

room_named : (of : Numbers) (n : Scopes) (w : Walk) (base : TypeTree) (span : Span) (d : Declarator) → File of n w → HasTags n.tags base → AllNamed (room_for w (number_type of base) span (number_declarator of d))
room_named of n w base span d agrees h =
    needs_named Any (nat_lt (length w.scope.variables) 4096) E08 span _
    (then_named Any (written_size w.scope (number_type of base) d.stars) _ (size_named of n.tags w.scope agrees.tag base d.stars h) (λ size. needs_named Any (is_length (length_of (number_declarator of d))) E08 span _
    (bytes_named w.scope (w.taken + (rounded_up (count_of (length_of (number_declarator of d)) * size) + 16)) span)))

first_room_named : (of : Numbers) (n : Scopes) (w : Walk) (g : i.Global) (ds : List Declarator) → File of n w → HasTags n.tags g.base → AllNamed (room_for_first w (number_global of g) (map (number_declarator of) ds))
first_room_named of n w g [] agrees h = tt
first_room_named of n w g (d ∷ ds) agrees h = room_named of n w g.base g.span d agrees h

small_named : (cs : List SignedConstant) (next : Verdict Walked) → AllNamed next → AllNamed (small_constants cs next)
small_named [] next h = h
small_named (c ∷ cs) next h = needs_named Any (nat_lt (unsigned_number c.constant) (2 ^ 31)) E04 c.span _ (small_named cs next h)

initializer_named : (of : Numbers) (at : Places) (n : Scopes) (g : Scope) → Agrees of n g → (o : Option Initializer) → optional built_initializer o ≡ true → AreFound n (optional_mentions initializer_mentions o) → AllNamed (initializer at g (option_map (number_initializer of) o))
initializer_named of at n g agrees None built found = tt
initializer_named of at n g agrees (Some (s.Value value)) built found = then_named Any (typed at g (number_expression of value)) _ (typed_named of at n g agrees value built found) (λ t. tt)
initializer_named of at n g agrees (Some (s.Constants constants span)) built found = small_named constants _ tt

number_named : (o : Option ℤ) (span : Span) (cells : ℤ → List Initial) → AllNamed (number_or_break o span cells)
number_named None span cells = tt
number_named (Some z) span cells = tt

all_cells_named : (o : Option (List Initial)) (span : Span) → AllNamed (cells_or_break o span)
all_cells_named None span = tt
all_cells_named (Some cells) span = tt

listed_named : (structs : List Structure) (t : CType) (length : ℕ) (cs : List SignedConstant) (span : Span) → AllNamed (listed_cells structs t length cs span)
listed_named structs Int length cs span = all_cells_named _ span
listed_named structs Char length cs span = all_cells_named _ span
listed_named structs (Struct number) length cs span = tt
listed_named structs (Pointer mode kind target) length cs span = needs_named Any (are_zeros cs) E13 span _ (all_cells_named _ span)

cells_named : (given : Given) (structs : List Structure) (t : CType) (length : Option ℕ) (ended : Bool) (initial : Walked) (span : Span) → AllNamed (object_cells given structs t length ended initial span)
cells_named given structs t None ended Missing span = tt
cells_named given structs t None ended (Constants cs) span = tt
cells_named given structs Int None ended (Written value x) span = number_named (signed_constant given value) span _
cells_named given structs Char None ended (Written value x) span = number_named (signed_constant given value) span _
cells_named given structs (Struct number) None ended (Written value x) span = tt
cells_named given structs (Pointer mode kind target) None ended (Written value x) span = needs_named Any (is_zero x) E13 span _ tt
cells_named given structs t (Some length) ended Missing span = tt
cells_named given structs t (Some length) ended (Written value x) span = tt
cells_named given structs t (Some length) ended (Constants cs) span = then_named Any (listed_cells structs t (before_end ended length) cs span) _ (listed_named structs t (before_end ended length) cs span) (λ cells. tt)

objects_named : (w : Walk) (span : Span) (vs : List WalkedVariable) → IsNamed (λ (v : Walk). v.scope ≡ w.scope) (with_objects w span vs)
objects_named w span [] = refl
objects_named w span (v ∷ vs) =
    then_named (λ (x : Walk). x.scope ≡ w.scope) (object_cells w.scope.given w.scope.structs v.type v.length v.ended v.initial span) _ (cells_named w.scope.given w.scope.structs v.type v.length v.ended v.initial span)
    (λ cells. needs_named (λ (x : Walk). x.scope ≡ w.scope) (nat_lt 0 (length cells)) E10 span _ (objects_named (record w { objects = w.objects ++ variable_of v.ended v.bounds cells ∷ [] }) span vs))

variables_named : (of : Numbers) (at : Places) (ds : List Declarator) (n m : Scopes) (w : Walk) (base : TypeTree) (type : CType) (span : Span) (done : List WalkedVariable) → File of n w → HasTags n.tags base → list_all built_declarator ds ≡ true
    → all_mentioned (flat_map declarator_mentions ds) n ≡ Ok m → IsNamed (λ (r : Walk × List WalkedVariable). File of m r.0) (variables at w (number_type of base) type span (map (number_declarator of) ds) done)
variables_named of at [] n m w base type span done agrees tags built h = subst (λ k. File of k w) (sym (quiet_all [] tt n m h).1) agrees
variables_named of at (d ∷ ds) n m w base type span done agrees tags built h =
    let Q : Walk × List WalkedVariable → Type 0 = λ r. File of m r.0 in
    let parts = and_parts (built_declarator d) (list_all built_declarator ds) built in
    let form = (and_parts (optional built_bounds d.bounds) (optional built_initializer d.initializer) parts.0).1 in
    let split = mentioned_append (declarator_mentions d) (flat_map declarator_mentions ds) n m h in
    let inner = standing_for d.name Variable n in
    let bounds = optional_mentions bounds_mentions d.bounds in
    let initial = optional_mentions initializer_mentions d.initializer in
    let behind = quiet_front bounds initial (optional_quiet bounds_mentions bounds_quiet d.bounds) inner split.0 (declared_front d.name (bounds ++ initial) n split.0 split.1) in
    let last = quiet_all initial (optional_quiet initializer_mentions initializer_quiet d.initializer) inner split.0 behind.1 in
    let ended = is_ended_array d in
    then_named Q (room_for w (number_type of base) span (number_declarator of d)) _ (room_named of n w base span d agrees tags)
    (λ taken. then_named Q (without_stars (number_type of base) d.stars type) _ (stars_named (number_type of base) d.stars type)
    (λ t. needs_named Q (may_lead_to (array_kind ended) t) E13 (type_span (number_type of base)) _
    (then_named Q (object_bounds w.scope (number_declarator of d) t) _
    (then_named Any (declared_bounds (with_own (of d.name.name) t w.scope) (bounded_type (length_of d) t) 0 (option_map (number_bounds of) d.bounds)) _
    (bounds_named of inner (with_own (of d.name.name) t w.scope) (variable_agrees of d.name t (length_of d) ended None n w.scope agrees).tag (bounded_type (length_of d) t) 0 d.bounds behind.0) (λ b. tt))
    (λ declared. (let now = texts_agree of inner taken _ _ (variable_agrees of d.name t (length_of d) ended declared n w.scope agrees) in
    let inside = variable_scope taken (number_declarator of d) t declared w.scope in
    then_named Q (initializer at inside (option_map (number_initializer of) d.initializer)) _ (initializer_named of at inner inside (file_agrees of inner _ now) d.initializer form last.0)
    (λ x. variables_named of at ds split.0 m (record w { scope = inside; taken = taken }) base type span _
    (subst (λ k. AgreesFile of k inside) (sym last.1) now) (subst (λ k. HasTags k.tags base) (sym last.1) tags) parts.1 split.2))))))

global_named : (of : Numbers) (at : Places) (n m : Scopes) (w : Walk) (g : i.Global) → File of n w → built_item (i.GlobalItem g) ≡ true → all_mentioned (item_mentions (i.GlobalItem g)) n ≡ Ok m → IsNamed (File of m) (global at w (number_global of g))
global_named of at n m w g agrees built h =
    let forms = and_parts (built_type g.base) (list_all built_declarator g.declarators) (and_parts (not g.tainted) _ built).1 in
    let front = quiet_front (type_mentions g.base) (flat_map declarator_mentions g.declarators) (type_quiet g.base) n m h in
    let tags = found_tags n g.base front.0 in
    let base = number_type of g.base in
    let ds = map (number_declarator of) g.declarators in
    then_named (File of m) (room_for_first w (number_global of g) ds) _ (first_room_named of n w g g.declarators agrees tags)
    (λ taken. then_named (File of m) (base_type w.scope base) _ (base_named of n.tags w.scope agrees.tag g.base tags)
    (λ type. passing_named (λ (r : Walk × List WalkedVariable). File of m r.0) (File of m) (variables at w base type g.span ds []) _
    (variables_named of at g.declarators n m w g.base type g.span [] agrees tags forms.1 front.1)
    (λ x known. passing_named (λ (v : Walk). v.scope ≡ x.0.scope) (File of m) (with_objects x.0 g.span x.1) _ (objects_named x.0 g.span x.1)
    (λ v same. needs_named (File of m) (not v.scope.is_off) E15 g.span _ (subst (AgreesFile of m) (sym same) known)))))

-- ---- functions

result_named : (of : Numbers) (n : Scopes) (g : Scope) → AgreesFile of n g → (r : ResultForm) (stars : ℕ) → AreFound n (result_mentions r) → AllNamed (result_type g (number_result of r) stars)
result_named of n g agrees (i.Void span) stars found = needs_named Any (stars == 0) E15 span _ tt
result_named of n g agrees (i.Value base) stars found =
    let numbered = number_type of base in
    then_named Any (passing (base_type g numbered) (without_stars numbered stars)) _
    (then_named Any (base_type g numbered) (without_stars numbered stars) (base_named of n.tags g agrees.tag base (found_tags n base found)) (stars_named numbered stars)) (λ t. tt)

result_quiet : (r : ResultForm) → AreQuiet (result_mentions r)
result_quiet (i.Void span) = tt
result_quiet (i.Value base) = type_quiet base

none_built : (o : Option Body) → is_none o ≡ true → optional built_body o ≡ true
none_built None h = refl
none_built (Some body) h = absurd (cc)

body_built : (kind : FunctionKind) (d : i.Function) → built_of_kind kind d ≡ true → optional built_body d.body ≡ true
body_built function_kinds.Trusted d h = (and_parts (built_parameters built_parameter d.parameters) _ (and_parts (built_result d.result) _ h).1).1
body_built function_kinds.Tainted d h = none_built d.body (and_parts (built_parameters is_number_parameter d.parameters) _ (and_parts (d.stars == 0) _ (and_parts (is_number_result d.result) _ h).1).1).1
body_built function_kinds.Callback d h = absurd (cc)

function_front : (name : Identifier) (defined : Bool) (rest : List Mention) (n m : Scopes) → all_mentioned (DeclareFunction name defined ∷ rest) n ≡ Ok m
    → all_mentioned rest (standing_for name (Function (defined || was_defined (innermost n.blocks name.name))) n) ≡ Ok m
function_front name defined rest n m h = by (mentioned (DeclareFunction name defined) n) refl h
  where
    by : (r : Result Scopes SourceFault) → mentioned (DeclareFunction name defined) n ≡ r → then_mentioned r (all_mentioned rest) ≡ Ok m
        → all_mentioned rest (standing_for name (Function (defined || was_defined (innermost n.blocks name.name))) n) ≡ Ok m
    by (Ok j) e h' = subst (λ k. all_mentioned rest k ≡ Ok m) (not_refused _ _ name (standing_for name (Function (defined || was_defined (innermost n.blocks name.name))) n) j e).1 h'
    by (Err fault) e h' = absurd (cc)

abbrev of_body : Body → List Mention
of_body b = statements_mentions b.statements

body_keeps : (o : Option Body) → KeepsOutside (optional_mentions of_body o)
body_keeps None = nothing_keeps
body_keeps (Some body) = statements_keep body.statements

-- what naming enters for the parameters, and the tags of their types
parameters_add : (P : List ℕ → Type 0) (p : Parameters) → ((x : List ℕ) → is_listed (listed p) x ≡ true → P x) → (n m : Scopes) → all_mentioned (parameters_mentions p) n ≡ Ok m → Adds P n m × HaveTags n.tags (listed p)
parameters_add P i.Nothing each n m h = (subst (λ k. Adds P n k) (sym (quiet_all [] tt n m h).1) (adds_same P n), tt)
parameters_add P i.VoidAlone each n m h = (subst (λ k. Adds P n k) (sym (quiet_all [] tt n m h).1) (adds_same P n), tt)
parameters_add P (i.Listed members) each n m h = listed_adds P members (lists_all P members each) n m h

parameters_keep : (p : Parameters) → KeepsOutside (parameters_mentions p)
parameters_keep i.Nothing = nothing_keeps
parameters_keep i.VoidAlone = nothing_keeps
parameters_keep (i.Listed members) = listed_keeps members

-- a walk behind a scope agrees with whatever that agrees with
abbrev AgreesAs : Numbers → Scope → Walk → Type 0
AgreesAs of g v = (n : Scopes) → AgreesFile of n g → AgreesFile of n v.scope

body_named : (of : Numbers) (at : Places) (w : Walk) (f : Signature) (ps : List Parameter) (o : Option Body) (k l : Scopes) → ((body : Statements) → Agrees of k (inside f ps body w.scope)) → optional built_body o ≡ true → all_mentioned (optional_mentions of_body o) k ≡ Ok l
    → IsNamed (AgreesAs of w.scope) (function_body at w f ps (option_map (number_body of) o))
body_named of at w f ps None k l agrees built h = λ n same. same
body_named of at w f ps (Some body) k l agrees built h =
    let xs = number_statements of body.statements in
    let texts = body_texts (number_body of body) in
    let start = inside f ps xs (with_texts w.taken texts w.scope) in
    let here = subst (Agrees of k) (sym (inside_beside f ps xs w.taken texts w.scope)) (texts_agree_inside of k w.taken texts (inside f ps xs w.scope) (agrees xs)) in
    passing_named (Behind {A = core.Statements} of l start) (AgreesAs of w.scope) (statements at start xs) _ (statements_named of at body.statements k l start here built h)
    (λ x _. needs_named (AgreesAs of w.scope) (not (is_unchecked body.mark || w.scope.is_off)) E15 body.span _ (λ n same. texts_agree of n w.taken texts w.scope same))

-- the bounds of a result, where those of all parameters are read
result_bounds_named : (of : Numbers) (k : Scopes) (g : Scope) → KnowsTags of k.tags g → (all : List Member) (result : Option CType) (o : Option Bounds) → AreFound k (optional_mentions bounds_mentions o)
    → AllNamed (bounds_of_result g all result (option_map (number_bounds of) o))
result_bounds_named of k g knows all result None found = tt
result_bounds_named of k g knows all result (Some text) found =
    by (declared_bounds (among_parameters g all) (type_of_result result) (length all) (Some (number_bounds of text))) refl (bounds_named of k (among_parameters g all) knows (type_of_result result) (length all) (Some text) found)
  where
    by : (v : Verdict (Option Formed)) → declared_bounds (among_parameters g all) (type_of_result result) (length all) (Some (number_bounds of text)) ≡ v → AllNamed v → AllNamed (bounds_of_result g all result (Some (number_bounds of text)))
    by (Passes None) e h = rw e tt
    by (Passes (Some b)) e h =
        rw e (then_named Any (needs (is_none b.base) E16 (bounds_span (number_bounds of text)) (Passes (Some b))) _ (needs_named Any (is_none b.base) E16 (bounds_span (number_bounds of text)) _ tt) (λ kept. tt))
    by (Stops (Broken fault)) e h = rw e tt
    by (Stops Nameless) e h = absurd h

rules_named : (all : List Item) (d : i.Function) (f : Signature) (known : Option Signature) (changed : Option Span) (w : Walk) → IsNamed (λ (v : Walk). v ≡ w) (function_rules all d f known changed w)
rules_named all d f known (Some span) w =
    let Q : Walk → Type 0 = λ v. v ≡ w in
    needs_named Q (agrees known f && (all_scalar f.parameters && scalar_result f.result)) E13 d.span _ (needs_named Q (picked (is_tainted d.kind) true (is_defined all d.name.number)) E10 d.span _ tt)
rules_named all d f known None w =
    let Q : Walk → Type 0 = λ v. v ≡ w in
    needs_named Q (agrees known f && (all_scalar f.parameters && scalar_result f.result)) E13 d.span _
    (needs_named Q (picked (is_tainted d.kind) true (is_defined all d.name.number)) E10 d.span _
    (needs_named Q (not (is_unchecked d.mark)) E15 d.span _ (needs_named Q (not w.scope.is_off) E15 d.span (Passes w) refl)))

-- what naming goes through in a function: the tags of its result and its parameters, the bounds of its result, and its body
record Parts (n m : Scopes) (d : i.Function) : Type 0 where
  result : AreFound n (result_mentions d.result)
  declared : Scopes
  is_declared : declared ≡ standing_for d.name (Function (is_some d.body || was_defined (innermost n.blocks d.name.name))) n
  entered : Scopes
  parameters : all_mentioned (parameters_mentions d.parameters) (opened declared) ≡ Ok entered
  bounds : AreFound entered (optional_mentions bounds_mentions d.bounds)
  left : Scopes
  body : all_mentioned (optional_mentions of_body d.body) entered ≡ Ok left
  behind : m ≡ declared

parts_of : (n m : Scopes) (d : i.Function) → all_mentioned (function_mentions d) n ≡ Ok m → Parts n m d
parts_of n m d h =
    let bounds = optional_mentions bounds_mentions d.bounds in
    let body = optional_mentions of_body d.body in
    let inner = parameters_mentions d.parameters ++ (bounds ++ body) in
    let quiet = optional_quiet bounds_mentions bounds_quiet d.bounds in
    let front = quiet_front (result_mentions d.result) (DeclareFunction d.name (is_some d.body) ∷ in_block inner) (result_quiet d.result) n m h in
    let declared = standing_for d.name (Function (is_some d.body || was_defined (innermost n.blocks d.name.name))) n in
    let keeps = append_keeps (parameters_mentions d.parameters) (bounds ++ body) (parameters_keep d.parameters) (append_keeps bounds body (quiet_keeps bounds quiet) (body_keeps d.body)) in
    let block = block_mentioned inner keeps declared m (function_front d.name (is_some d.body) (in_block inner) n m front.1) in
    let split = mentioned_append (parameters_mentions d.parameters) (bounds ++ body) (opened declared) block.0 block.1 in
    let rest = quiet_front bounds body quiet split.0 block.0 split.2 in
    record { result = front.0; declared = declared; is_declared = refl; entered = split.0; parameters = split.1; bounds = rest.0; left = block.0; body = rest.1; behind = block.2 }

listed_numbered : (of : Numbers) (p : Parameters) → listed (number_parameters of p) ≡ map (number_member of) (listed p)
listed_numbered of i.Nothing = refl
listed_numbered of i.VoidAlone = refl
listed_numbered of (i.Listed parameters) = refl

function_named_so : (of : Numbers) (at : Places) (all : List Item) (n m : Scopes) (w : Walk) (d : i.Function) → File of n w → built_function d ≡ true → all_mentioned (function_mentions d) n ≡ Ok m → IsNamed (File of m) (function at all w (number_function of d))
function_named_so of at all n m w d before built h =
    let parts = parts_of n m d h in
    let e = number_function of d in
    let form = body_built d.kind d (and_parts _ (built_of_kind d.kind d) built).1 in
    let known = function_named w.scope.functions (of d.name.name) in
    let added = parameters_add (λ x. Unit {0}) d.parameters (λ x e. tt) (opened parts.declared) parts.entered parts.parameters in
    let tags = added.1 in
    let knows : KnowsTags of parts.entered.tags w.scope = subst (λ (ts : List (List ℕ)). KnowsTags of ts w.scope) (subst (λ (k : Scopes). n.tags ≡ k.tags) (sym parts.is_declared) refl ∙ sym added.0.keeps.tags) before.tag in
    let tags' : HaveTags n.tags (listed d.parameters) = subst (λ (k : Scopes). HaveTags k.tags (listed d.parameters)) parts.is_declared tags in
    let named : IsNamed (AreParameters of (listed d.parameters) []) (parameter_types w.scope (listed e.parameters) (listed e.parameters) []) =
    subst (λ ms. IsNamed (AreParameters of (listed d.parameters) []) (parameter_types w.scope (listed e.parameters) ms [])) (sym (listed_numbered of d.parameters)) (parameters_named of n.tags w.scope before.tag (listed e.parameters) (listed d.parameters) [] tags') in
    needs_named (File of m) _ E08 d.span _
    (then_named (File of m) (result_type w.scope e.result d.stars) _ (result_named of n w.scope before d.result d.stars parts.result)
    (λ result. passing_named (AreParameters of (listed d.parameters) []) (File of m) (parameter_types w.scope (listed e.parameters) (listed e.parameters) []) _ named
    (λ ps each. then_named (File of m) (bounds_of_result w.scope (listed e.parameters) result e.bounds) _ (result_bounds_named of parts.entered w.scope knows (listed e.parameters) result d.bounds parts.bounds)
    (λ bounds. (let f : Signature = signature_of e result ps bounds in
    let changed = first_changed_in (with_function (function_named w.scope.functions e.name.number) f w.scope) f ps e.body in
    let after : Scope = with_function known f w.scope in
    let inner : Walk = record w { scope = after } in
    let now : AgreesFile of parts.declared after = subst (λ k. AgreesFile of k after) (sym parts.is_declared) (function_agrees of d.name _ f refl n w.scope before) in
    let adds = (parameters_add (λ x. is_parameter ps (of x) ≡ true) d.parameters (λ x e. each x (inl e)) (opened parts.declared) parts.entered parts.parameters).0 in
    let start : Statements → Scope = λ body. record after {
      locals = [];
      arrays = [];
      visible = [];
      result = f.result;
      result_bounds = None;
      in_loop = false;
      outside = 0;
      flow = at_entry (variables_in (length ps) body);
      breaks = None;
      continues = None;
    } in
    let inside_now : (body : Statements) → Agrees of parts.entered (inside f ps body after) =
    λ body. (let b : Scope = before_bounds f ps body after in
    let begun : Agrees of parts.entered (knowing (with_bounds 0 ps b.flow) b) =
    flow_agrees of parts.entered b b.outside (with_bounds 0 ps b.flow) b.breaks b.continues
    (inside_agrees of (opened parts.declared) parts.entered (start body) ps (record { value = now.value; function = now.function; tag = now.tag; given = now.given }) adds) in
    record { value = begun.value; function = begun.function; tag = begun.tag; given = begun.given }) in
    passing_named (AgreesAs of after) (File of m) (function_body at inner f ps e.body) _ (body_named of at inner f ps d.body parts.entered parts.left inside_now form parts.body)
    (λ x same. named_so (λ (v : Walk). v ≡ x) (File of m) (function_rules all e f known changed x)
    (λ v is. subst (λ (u : Walk). File of m u) (sym is) (same m (subst (λ k. AgreesFile of k after) (sym parts.behind) now))) (rules_named all e f known changed x)))))))

-- ---- the whole program

item_named : (of : Numbers) (at : Places) (all : List Item) (n m : Scopes) (w : Walk) (x : Item) → File of n w → built_item x ≡ true → all_mentioned (item_mentions x) n ≡ Ok m → IsNamed (File of m) (item at all w (number_item of x))
item_named of at all n m w (i.RegionItem region span) agrees built h =
    subst (λ k. AgreesFile of k (record w.scope { is_off = is_off region })) (sym (quiet_all [] tt n m h).1) (record { value = agrees.value; function = agrees.function; tag = agrees.tag; given = agrees.given })
item_named of at all n m w (i.StructureItem d) agrees built h = structure_named of n m w d agrees h
item_named of at all n m w (i.GlobalItem g) agrees built h = global_named of at n m w g agrees built h
item_named of at all n m w (i.FunctionItem d) agrees built h = function_named_so of at all n m w d agrees built h

items_named : (of : Numbers) (at : Places) (all xs : List Item) (n m : Scopes) (w : Walk) → File of n w → list_all built_item xs ≡ true → all_mentioned (flat_map item_mentions xs) n ≡ Ok m → IsNamed (File of m) (items at all w (map (number_item of) xs))
items_named of at all [] n m w agrees built h = subst (λ k. File of k w) (sym (quiet_all [] tt n m h).1) agrees
items_named of at all (x ∷ xs) n m w agrees built h =
    let parts = and_parts (built_item x) (list_all built_item xs) built in
    let split = mentioned_append (item_mentions x) (flat_map item_mentions xs) n m h in
    passing_named (File of split.0) (File of m) (item at all w (number_item of x)) _ (item_named of at all n split.0 w x agrees parts.0 split.1) (λ v known. items_named of at all xs split.0 m v known parts.1 split.2)

start_agrees : (of : Numbers) (variables : ℕ) → File of at_file_level (start (given_by of) variables)
start_agrees of variables = record { value = λ x v. absurd (cc); function = λ x f. absurd (cc); tag = λ x t. absurd (cc); given = refl }

named_is : {A : Type 0} (v : Verdict A) → AllNamed v → v ≡ Unnamed → ⊥
named_is (Passes value) h e = absurd (cc)
named_is (Stops (Broken fault)) h e = absurd (cc)
named_is (Stops Nameless) h e = h

pub all_named : (at : Places) (t : Tree) → is_built t ≡ true → naming_fault t ≡ None → checked at (named_of t) ≡ Unnamed → ⊥
all_named at t built names = by (all_mentioned (tree_mentions t) at_file_level) refl names
  where
    of : Numbers
    of = number_in (names_of t)

    by : (r : Result Scopes SourceFault) → all_mentioned (tree_mentions t) at_file_level ≡ r → naming_fault_in (has_main t) r ≡ None → checked at (named_of t) ≡ Unnamed → ⊥
    by (Ok m) e fine =
        let declared = variables_declared (named_of t).tree.items in
        named_is (checked at (named_of t))
        (passing_named (File of m) Any (walked at (named_of t)) _ (items_named of at (named_of t).tree.items t.items at_file_level m (start (given_by of) declared) (start_agrees of declared) built e)
        (λ w _. needs_named Any (nat_le (w.taken + texts_size w.scope.strings.texts) 32768) E08 (named_of t).tree.span _ tt))
    by (Err fault) e fine = absurd (cc)
