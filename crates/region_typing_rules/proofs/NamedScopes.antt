-- How the scopes of naming and of the rules agree: what naming finds is known in the rules.
use Rattle.std.proofs.Common.{◌≡◌, ℕ, suc, ◌+◌, Bool, true, false, List, [], ◌∷◌, ◌++◌, length, Option, Some, None, refl, sym, ◌∙◌, subst, arith}
use Rattle.std.specs.Prelude.{◌==◌, ◌||◌, cond, bytes_eq, nat_lt, is_some, position, slice_get}
use Rattle.std.specs.List.{list_any, position_or_len}
use Rattle.std.proofs.lemmas.Bool.Decides.{nat_tests}
use Rattle.ckc_text.specs.declared.code.Code.TheVariants.{E13, E15}
use Rattle.ckc_tree.specs.declared.identifier.Identifier.{Identifier}
use Rattle.ckc_tree.specs.Types.{TypeTree, IntType, CharType, StructType, PointerType, TypeName, type_span}
use Rattle.ckc_tree.specs.Numbers.{Numbers, number_type, number_type_name}
use Rattle.ckc_names_rules.specs.Given.{null, given_by}
use Rattle.ckc_names_rules.specs.Mentions.{Use, Call, UseTag, type_mentions}
use Rattle.ckc_names_rules.specs.Scopes.{Meaning, Variable, Block, Scopes, visible, is_among, predefined, with_entry, standing_for, is_value, is_function}
use Rattle.bounds_exprs.specs.declared.term.Bounds.{Bounds}
use Rattle.bounds_flow.specs.Flows.{Knowledge}
use Rattle.pointer_modes.specs.Types.{CType}
use Rattle.region_typing_rules.specs.Verdicts.{passing, meant}
use Rattle.region_typing_rules.specs.Scopes.{Scope, Visible, Named, local_if, found_if, local_named, object_named, or_else, null_named, named, function_named, struct_named}
use Rattle.region_typing_rules.specs.Types.{kind_of, may_lead_to, without_stars, base_type, type_named}
use Rattle.region_typing_rules.specs.Statements.{with_local, behind_block, in_loop}
use Rattle.region_typing_rules.proofs.Verdicts.{Extends, extends_append, extends_last}
use Rattle.region_typing_rules.proofs.NamedVerdicts.{AllNamed, Any, then_named, needs_named}
use Rattle.region_typing_rules.proofs.NamedMentions.{not_refused, IsFound, AreFound, opened}
use Rattle.region_typing_rules.proofs.Signatures.{bytes_equal, number_same}

-- ---- options and lists

pub meant_some : {A : Type 0} (o : Option A) → is_some o ≡ true → AllNamed (meant o)
meant_some None h = absurd (cc)
meant_some (Some x) h = tt

pub first_some : (a b : Option Named) → is_some a ≡ true → is_some (or_else a b) ≡ true
first_some None b h = absurd (cc)
first_some (Some x) b h = refl

pub second_some : (a b : Option Named) → is_some b ≡ true → is_some (or_else a b) ≡ true
second_some None b h = h
second_some (Some x) b h = refl

either_some : (a a' b b' : Option Named) → (is_some a ≡ true → is_some a' ≡ true) → (is_some b ≡ true → is_some b' ≡ true) → is_some (or_else a b) ≡ true → is_some (or_else a' b') ≡ true
either_some None a' b b' f g h = second_some a' b' (g h)
either_some (Some x) a' b b' f g h = first_some a' b' (f refl)

-- a name is found among others where one of them is it
some_cond : (b : Bool) (n : ℕ) → is_some (cond b (Some n) None) ≡ b
some_cond true n = refl
some_cond false n = refl

one_more : (k n : ℕ) → nat_lt (1 + k) (suc n) ≡ nat_lt k n
one_more k n = grind (arith, nat_tests)

within_any : {X : Type 0} (p : X → Bool) (xs : List X) → nat_lt (position_or_len p xs) (length xs) ≡ list_any p xs
within_any p [] = refl
within_any p (x ∷ xs) = by (p x) refl (within_any p xs)
  where
    by : (b : Bool) → p x ≡ b → nat_lt (position_or_len p xs) (length xs) ≡ list_any p xs → nat_lt (position_or_len p (x ∷ xs)) (length (x ∷ xs)) ≡ list_any p (x ∷ xs)
    by true e rest = rw e (grind (arith, nat_tests))
    by false e rest = rw e (one_more (position_or_len p xs) (length xs) ∙ rest)

pub among_any : {X : Type 0} (p : X → Bool) (xs : List X) → is_some (position p xs) ≡ list_any p xs
among_any p xs = some_cond (nat_lt (position_or_len p xs) (length xs)) (position_or_len p xs) ∙ within_any p xs

-- ---- numbers

-- equal names have equal numbers
pub number_equal : (of : Numbers) (x y : List ℕ) → bytes_eq x y ≡ true → (of x == of y) ≡ true
number_equal of x y h = subst (λ z. (of x == of z) ≡ true) (bytes_equal x y h) (number_same (of x))

-- ---- agreement

-- a name stands for a local or for a file-level variable
abbrev pub IsKnown : Scope → ℕ → Type 0
IsKnown g x = is_some (or_else (local_named g.locals g.visible x) (object_named 0 g.variables x)) ≡ true

-- what naming finds is known in the rules: a variable, or a name that comes, as a local or a file-level variable, a function as
-- a function, and a tag as a struct
pub record Agrees (of : Numbers) (n : Scopes) (g : Scope) : Type 0 where
  pub value : (x : List ℕ) → is_value (visible n.blocks x) ≡ true → IsKnown g (of x)
  pub function : (x : List ℕ) → is_function (visible n.blocks x) ≡ true → is_some (function_named g.functions (of x)) ≡ true
  pub tag : (x : List ℕ) → is_among n.tags x ≡ true → is_some (struct_named g (of x)) ≡ true
  pub given : g.given ≡ given_by of

-- the same at file level, where no local is visible
pub record AgreesFile (of : Numbers) (n : Scopes) (g : Scope) : Type 0 where
  pub value : (x : List ℕ) → is_value (visible n.blocks x) ≡ true → is_some (object_named 0 g.variables (of x)) ≡ true
  pub function : (x : List ℕ) → is_function (visible n.blocks x) ≡ true → is_some (function_named g.functions (of x)) ≡ true
  pub tag : (x : List ℕ) → is_among n.tags x ≡ true → is_some (struct_named g (of x)) ≡ true
  pub given : g.given ≡ given_by of

pub file_agrees : (of : Numbers) → (n : Scopes) (g : Scope) → AgreesFile of n g → Agrees of n g
file_agrees of n g h = record { value = λ x v. second_some (local_named g.locals g.visible (of x)) (object_named 0 g.variables (of x)) (h.value x v); function = h.function; tag = h.tag; given = h.given }

pub opened_agrees : (of : Numbers) → (n : Scopes) (g : Scope) → Agrees of n g → Agrees of (opened n) g
opened_agrees of n g h = record { value = h.value; function = h.function; tag = h.tag; given = h.given }

pub loop_agrees : (of : Numbers) → (n : Scopes) (g : Scope) → Agrees of n g → Agrees of n (in_loop g)
loop_agrees of n g h = record { value = h.value; function = h.function; tag = h.tag; given = h.given }

-- what is known of numbers and pointers, and how many locals are outside of a loop, has nothing to do with names
pub flow_agrees : (of : Numbers) → (n : Scopes) (g : Scope) (k : ℕ) (f : Knowledge) (b c : Option Knowledge) → Agrees of n g → Agrees of n (record g { outside = k; flow = f; breaks = b; continues = c })
flow_agrees of n g k f b c h = record { value = h.value; function = h.function; tag = h.tag; given = h.given }

-- ---- scopes that were entered since

pub record Later (a b : Scope) : Type 0 where
  pub given : a.given ≡ b.given
  pub tags : a.tags ≡ b.tags
  pub functions : a.functions ≡ b.functions
  pub variables : a.variables ≡ b.variables
  pub locals : Extends a.locals b.locals

pub later_same : (g : Scope) → Later g g
later_same g = record { given = refl; tags = refl; functions = refl; variables = refl; locals = λ k x h. h }

pub later_further : (a b c : Scope) → Later a b → Later b c → Later a c
later_further a b c h h' = record { given = h.given ∙ h'.given; tags = h.tags ∙ h'.tags; functions = h.functions ∙ h'.functions; variables = h.variables ∙ h'.variables; locals = λ k x e. h'.locals k x (h.locals k x e) }

pub later_block : (g after : Scope) → Later g after → Later g (behind_block g after)
later_block g after h = record { given = h.given; tags = h.tags; functions = h.functions; variables = h.variables; locals = h.locals }

pub later_loop : (g after : Scope) → Later (in_loop g) after → Later g after
later_loop g after h = record { given = h.given; tags = h.tags; functions = h.functions; variables = h.variables; locals = h.locals }

-- where something else is known of numbers and pointers
pub flow_later : (a g : Scope) (k : ℕ) (f : Knowledge) (b c : Option Knowledge) → Later a g → Later a (record g { outside = k; flow = f; breaks = b; continues = c })
flow_later a g k f b c h = record { given = h.given; tags = h.tags; functions = h.functions; variables = h.variables; locals = h.locals }

pub from_flow : (g after : Scope) (k : ℕ) (f : Knowledge) (b c : Option Knowledge) → Later (record g { outside = k; flow = f; breaks = b; continues = c }) after → Later g after
from_flow g after k f b c h = record { given = h.given; tags = h.tags; functions = h.functions; variables = h.variables; locals = h.locals }

pub later_local : (name : ℕ) (t : CType) (b : Option Bounds) (g : Scope) → Later g (with_local name t b g)
later_local name t b g = record { given = refl; tags = refl; functions = refl; variables = refl; locals = extends_append g.locals (t ∷ []) }

-- whichever of its locals are arrays
pub arrays_agree : (of : Numbers) → (n : Scopes) (g : Scope) (arrays : List ℕ) → Agrees of n g → Agrees of n (record g { arrays = arrays })
arrays_agree of n g arrays h = record { value = h.value; function = h.function; tag = h.tag; given = h.given }

pub later_arrays : (g after : Scope) (arrays : List ℕ) → Later g after → Later g (record after { arrays = arrays })
later_arrays g after arrays h = record { given = h.given; tags = h.tags; functions = h.functions; variables = h.variables; locals = h.locals }

type_some : (o : Option CType) (k : ℕ) → is_some (local_if o k) ≡ true → (t : CType) × (o ≡ Some t)
type_some None k h = absurd (cc)
type_some (Some t) k h = (t, refl)

pub local_later : (types types' : List CType) (seen : List Visible) (x : ℕ) → Extends types types' → is_some (local_named types seen x) ≡ true → is_some (local_named types' seen x) ≡ true
local_later types types' [] x ext h = absurd (cc)
local_later types types' (v ∷ seen) x ext h = by (x == v.name) h (λ h'. local_later types types' seen x ext h')
  where
    by : (b : Bool) → is_some (found_if b (local_if (slice_get types v.local) v.local) (local_named types seen x)) ≡ true → (is_some (local_named types seen x) ≡ true → is_some (local_named types' seen x) ≡ true)
        → is_some (found_if b (local_if (slice_get types' v.local) v.local) (local_named types' seen x)) ≡ true
    by true h' again = let t = type_some (slice_get types v.local) v.local h' in rw (ext v.local t.0 t.1) refl
    by false h' again = again h'

-- behind a block what was known is known
pub behind_agrees : (of : Numbers) → (n : Scopes) (g after : Scope) → Agrees of n g → Later g after → Agrees of n (behind_block g after)
behind_agrees of n g after h later = record {
  value = λ x v. either_some (local_named g.locals g.visible (of x)) (local_named after.locals g.visible (of x)) (object_named 0 g.variables (of x)) (object_named 0 after.variables (of x))
      (local_later g.locals after.locals g.visible (of x) later.locals) (λ o. subst (λ vs. is_some (object_named 0 vs (of x)) ≡ true) later.variables o) (h.value x v);
  function = λ x f. subst (λ fs. is_some (function_named fs (of x)) ≡ true) later.functions (h.function x f);
  tag = λ x t. subst (λ ts. is_some (position (λ other. of x == other) ts) ≡ true) later.tags (h.tag x t);
  given = sym later.given ∙ h.given;
}

-- ---- a local more

-- what is found behind a new entry of the innermost block: its name, or what was found before
pub entry_value : (name : List ℕ) (meaning : Meaning) (blocks : List Block) (x : List ℕ) → bytes_eq x name ≡ false → visible (with_entry name meaning blocks) x ≡ visible blocks x
entry_value name meaning [] x e = refl
entry_value name meaning (block ∷ blocks) x e = rw e refl

-- what isn't so of the new entry was so before
pub entry_without : (test : Option Meaning → Bool) (name : List ℕ) (meaning : Meaning) → test (Some meaning) ≡ false → (blocks : List Block) (x : List ℕ) → test (visible (with_entry name meaning blocks) x) ≡ true → test (visible blocks x) ≡ true
entry_without test name meaning other blocks x h = by (bytes_eq x name) refl blocks h
  where
    by : (b : Bool) → bytes_eq x name ≡ b → (blocks : List Block) → test (visible (with_entry name meaning blocks) x) ≡ true → test (visible blocks x) ≡ true
    by false e blocks h' = subst (λ o. test o ≡ true) (entry_value name meaning blocks x e) h'
    by true e [] h' = h'
    by true e (block ∷ blocks) h' = let now : test (Some meaning) ≡ true = rw e at h' in absurd (cc)

pub local_agrees : (of : Numbers) → (name : Identifier) (t : CType) (b : Option Bounds) (n : Scopes) (g : Scope) → Agrees of n g → Agrees of (standing_for name Variable n) (with_local (of name.name) t b g)
local_agrees of name t b n g h = record {
  value = λ x v. by x (bytes_eq x name.name) refl v;
  function = λ x f. h.function x (entry_without is_function name.name Variable refl n.blocks x f);
  tag = h.tag;
  given = h.given;
}
  where
    -- what was known is known, also where it has the number of the new one
    still : (x : List ℕ) (test : Bool) → (of x == of name.name) ≡ test → IsKnown g (of x) → IsKnown (with_local (of name.name) t b g) (of x)
    still x true e before = rw (e, extends_last g.locals t) refl
    still x false e before =
        rw e (either_some (local_named g.locals g.visible (of x)) (local_named (g.locals ++ t ∷ []) g.visible (of x)) (object_named 0 g.variables (of x)) (object_named 0 g.variables (of x))
        (local_later g.locals (g.locals ++ t ∷ []) g.visible (of x) (extends_append g.locals (t ∷ []))) (λ o. o) before)

    by : (x : List ℕ) (test : Bool) → bytes_eq x name.name ≡ test → is_value (visible (with_entry name.name Variable n.blocks) x) ≡ true → IsKnown (with_local (of name.name) t b g) (of x)
    by x true e v = rw (number_equal of x name.name e, extends_last g.locals t) refl
    by x false e v = still x (of x == of name.name) refl (h.value x (subst (λ o. is_value o ≡ true) (entry_value name.name Variable n.blocks x e) v))

-- ---- what was found

use_value : (n : Scopes) (name : Identifier) → IsFound n (Use name) → (bytes_eq name.name null || is_value (visible n.blocks name.name)) ≡ true
use_value n name h = by (bytes_eq name.name null || is_value (visible n.blocks name.name)) refl
  where
    by : (b : Bool) → (bytes_eq name.name null || is_value (visible n.blocks name.name)) ≡ b → b ≡ true
    by true e = refl
    by false e = let refused = (not_refused _ _ name n n h).0 in let no : true ≡ false = rw e at refused in absurd (cc)

pub call_function : (n : Scopes) (name : Identifier) → IsFound n (Call name) → (is_among predefined name.name || is_function (visible n.blocks name.name)) ≡ true
call_function n name h = by (is_among predefined name.name || is_function (visible n.blocks name.name)) refl
  where
    by : (b : Bool) → (is_among predefined name.name || is_function (visible n.blocks name.name)) ≡ b → b ≡ true
    by true e = refl
    by false e = let refused = (not_refused _ _ name n n h).0 in let no : true ≡ false = rw e at refused in absurd (cc)

tag_among : (n : Scopes) (name : Identifier) → IsFound n (UseTag name) → is_among n.tags name.name ≡ true
tag_among n name h = by (is_among n.tags name.name) refl
  where
    by : (b : Bool) → is_among n.tags name.name ≡ b → b ≡ true
    by true e = refl
    by false e = let refused = (not_refused _ _ name n n h).0 in let no : true ≡ false = rw e at refused in absurd (cc)

pub name_meant : (of : Numbers) → (n : Scopes) (g : Scope) → Agrees of n g → (name : Identifier) → IsFound n (Use name) → AllNamed (named g (of name.name))
name_meant of n g agrees name h = meant_some _ (by (bytes_eq name.name null) refl (use_value n name h))
  where
    k : ℕ
    k = of name.name

    by : (b : Bool) → bytes_eq name.name null ≡ b → (b || is_value (visible n.blocks name.name)) ≡ true → is_some (or_else (local_named g.locals g.visible k) (or_else (object_named 0 g.variables k) (null_named g.given k))) ≡ true
    by true e v =
        let same : (k == g.given.null) ≡ true = rw agrees.given (number_equal of name.name null e) in
        rw same (second_some (local_named g.locals g.visible k) _ (second_some (object_named 0 g.variables k) _ refl))
    by false e v = either_some (local_named g.locals g.visible k) (local_named g.locals g.visible k) (object_named 0 g.variables k) _ (λ l. l)
        (λ o. first_some (object_named 0 g.variables k) (null_named g.given k) o) (agrees.value name.name v)

-- ---- types

-- the tags of a type are among these
abbrev pub HasTags : List (List ℕ) → TypeTree → Type 0
HasTags tags (IntType span) = Unit {0}
HasTags tags (CharType span) = Unit {0}
HasTags tags (StructType tag span) = is_among tags tag.name ≡ true
HasTags tags (PointerType word element stars span) = HasTags tags element

pub found_tags : (n : Scopes) (t : TypeTree) → AreFound n (type_mentions t) → HasTags n.tags t
found_tags n (IntType span) h = tt
found_tags n (CharType span) h = tt
found_tags n (StructType tag span) h = tag_among n tag h.0
found_tags n (PointerType word element stars span) h = found_tags n element h

pub stars_named : (base : TypeTree) (stars : ℕ) (t : CType) → AllNamed (without_stars base stars t)
stars_named base stars t = needs_named Any (stars == 0) E15 (type_span base) _ tt

abbrev pub KnowsTags : Numbers → List (List ℕ) → Scope → Type 0
KnowsTags of tags g = (x : List ℕ) → is_among tags x ≡ true → is_some (struct_named g (of x)) ≡ true

pub base_named : (of : Numbers) → (tags : List (List ℕ)) (g : Scope) → KnowsTags of tags g → (t : TypeTree) → HasTags tags t → AllNamed (base_type g (number_type of t))
base_named of tags g knows (IntType span) h = tt
base_named of tags g knows (CharType span) h = tt
base_named of tags g knows (StructType tag span) h = then_named Any (meant (struct_named g (of tag.name))) _ (meant_some (struct_named g (of tag.name)) (knows tag.name h)) (λ number. tt)
base_named of tags g knows (PointerType word element stars span) h =
    then_named Any (passing (base_type g (number_type of element)) (without_stars (number_type of element) stars)) _
    (then_named Any (base_type g (number_type of element)) (without_stars (number_type of element) stars) (base_named of tags g knows element h) (stars_named (number_type of element) stars))
    (λ t. needs_named Any (may_lead_to (kind_of word.kind) t) E13 span _ tt)

pub type_named_named : (of : Numbers) → (tags : List (List ℕ)) (g : Scope) → KnowsTags of tags g → (t : TypeName) → HasTags tags t.base → AllNamed (type_named g (number_type_name of t))
type_named_named of tags g knows t h =
    let base = number_type of t.base in
    then_named Any (base_type g base) (without_stars base t.stars) (base_named of tags g knows t.base h) (stars_named base t.stars)
