-- Members of a struct and parameters of a function: which names naming enters for them, and what the rules make of them.
use Rattle.std.proofs.Common.{◌≡◌, ℕ, Bool, true, false, List, [], ◌∷◌, ◌++◌, length, map, Option, Some, refl, sym, ◌∙◌, subst, ◌⊎◌, inl, inr, None}
use Rattle.std.specs.Prelude.{◌==◌, ◌||◌, bytes_eq, nat_lt, is_some, is_none, position, Ok, flat_map}
use Rattle.std.specs.List.{AllByRecursion, list_any}
use Rattle.std.specs.Option.{option_map}
use Rattle.ckc_text.specs.declared.code.Code.TheVariants.{E08}
use Rattle.ckc_tree.specs.declared.identifier.Identifier.{Identifier}
use Rattle.ckc_tree.specs.Types.{type_span}
use Rattle.ckc_tree.specs.Items.{Member}
use Rattle.ckc_tree.specs.Numbers.{Numbers, number_type, number_type_name, number_bounds, number_member}
use Rattle.ckc_names_rules.specs.Mentions.{Mention, Reveal, Declare, type_mentions, bounds_mentions, optional_mentions, member_mentions, listed_mentions}
use Rattle.ckc_names_rules.specs.Scopes.{Meaning, Coming, Variable, Scopes, visible, innermost, with_entry, standing_for, revealed_if, is_value, is_function, is_among, all_mentioned}
use Rattle.bounds_exprs.specs.declared.term.Bounds.{Bounds}
use Rattle.pointer_modes.specs.Types as types
use Rattle.pointer_modes.specs.Types.{CType}
use Rattle.region_typing_rules.specs.Scopes.{Scope, WrittenBounds, local_named, object_named, function_named}
use Rattle.region_typing_rules.specs.Types.{type_named}
use Rattle.region_typing_rules.specs.Statements.{with_local}
use Rattle.region_typing_rules.specs.DeclaredBounds.{declared_bounds}
use Rattle.region_typing_rules.specs.Items.{Parameter, member_types, among_parameters, declared_as, parameter_types, with_parameters}
use Rattle.region_typing_rules.proofs.Verdicts.{extends_append, extends_last}
use Rattle.region_typing_rules.proofs.NamedVerdicts.{IsNamed, AllNamed, Any, then_named, needs_named, named_so}
use Rattle.region_typing_rules.proofs.NamedMentions.{AreFound, mentioned_append, quiet_front, quiet_all, type_quiet, bounds_quiet, optional_quiet, declared_front, Keeps, keeps_same, keeps_further, keeps_standing, KeepsOutside}
use Rattle.region_typing_rules.proofs.NamedScopes.{number_equal, first_some, second_some, Agrees, AgreesFile, Later, later_same, later_further, later_local, local_later, entry_value, entry_without, HasTags, found_tags, KnowsTags, type_named_named}
use Rattle.region_typing_rules.proofs.NamedBounds.{bounds_named}

-- ---- which test holds

pub or_right : (a b : Bool) → b ≡ true → (a || b) ≡ true
or_right true b h = refl
or_right false b h = h

pub or_left : (a b : Bool) → a ≡ true → (a || b) ≡ true
or_left true b h = refl
or_left false b h = absurd (cc)

pub or_cases : (a b : Bool) → (a || b) ≡ true → (a ≡ true) ⊎ (b ≡ true)
or_cases true b h = inl refl
or_cases false b h = inr h

pub any_more : {X : Type 0} (p : X → Bool) (xs ys : List X) → list_any p xs ≡ true → list_any p (xs ++ ys) ≡ true
any_more p [] ys h = absurd (cc)
any_more p (x ∷ xs) ys h = elim (or_cases (p x) (list_any p xs) h) [
  | inl here ↦ or_left (p x) (list_any p (xs ++ ys)) here
  | inr there ↦ or_right (p x) (list_any p (xs ++ ys)) (any_more p xs ys there)
]

pub any_last : {X : Type 0} (p : X → Bool) (xs : List X) (y : X) → p y ≡ true → list_any p (xs ++ y ∷ []) ≡ true
any_last p [] y h = or_left (p y) false h
any_last p (x ∷ xs) y h = or_right (p x) (list_any p (xs ++ y ∷ [])) (any_last p xs y h)

-- ---- what naming enters

-- what stands in the bounds of a member or a parameter was found where the tags were these
abbrev pub HasFound : List (List ℕ) → Member → Type 0
HasFound tags p = (k : Scopes) × (k.tags ≡ tags) × AreFound k (optional_mentions bounds_mentions p.bounds)

-- the tags of their types are among these, and what stands in their bounds was found
abbrev pub HaveTags : List (List ℕ) → List Member → Type 0
HaveTags tags members = AllByRecursion (λ (p : Member). HasTags tags p.type.base × HasFound tags p) members

module _ (P : List ℕ → Type 0) where
  -- the innermost block has names more of which this is so
  pub record Adds (n m : Scopes) : Type 0 where
    pub value : (x : List ℕ) → is_value (visible m.blocks x) ≡ true → P x ⊎ (is_value (visible n.blocks x) ≡ true)
    pub function : (x : List ℕ) → is_function (visible m.blocks x) ≡ true → is_function (visible n.blocks x) ≡ true
    pub keeps : Keeps n m

  pub adds_same : (n : Scopes) → Adds n n
  adds_same n = record { value = λ x v. inr v; function = λ x f. f; keeps = keeps_same n n refl }

  adds_further : (n k m : Scopes) → Adds n k → Adds k m → Adds n m
  adds_further n k m p q = record {
    value = λ x v. elim (q.value x v) [ inl new ↦ inl new | inr old ↦ p.value x old ];
    function = λ x f. p.function x (q.function x f);
    keeps = keeps_further n k m p.keeps q.keeps;
  }

  adds_entry : (name : Identifier) (meaning : Meaning) → is_function (Some meaning) ≡ false → ((x : List ℕ) → bytes_eq x name.name ≡ true → P x) → (n : Scopes) → Adds n (standing_for name meaning n)
  adds_entry name meaning other here n = record {
    value = λ x v. by x (bytes_eq x name.name) refl v;
    function = λ x f. entry_without is_function name.name meaning other n.blocks x f;
    keeps = keeps_standing name meaning n;
  }
    where
      by : (x : List ℕ) (b : Bool) → bytes_eq x name.name ≡ b → is_value (visible (with_entry name.name meaning n.blocks) x) ≡ true → P x ⊎ (is_value (visible n.blocks x) ≡ true)
      by x true e v = inl (here x e)
      by x false e v = inr (subst (λ o. is_value o ≡ true) (entry_value name.name meaning n.blocks x e) v)

  -- it is so of each name of a list
  abbrev pub Lists : List Member → Type 0
  Lists members = AllByRecursion (λ (p : Member). (x : List ℕ) → bytes_eq x p.name.name ≡ true → P x) members

  revealed_adds : (test : Bool) (name : Identifier) → ((x : List ℕ) → bytes_eq x name.name ≡ true → P x) → (n : Scopes) → Adds n (revealed_if test name n)
  revealed_adds true name here n = adds_entry name Coming refl here n
  revealed_adds false name here n = adds_same n

  reveals_add : (members : List Member) (rest : List Mention) → Lists members → (n m : Scopes) → all_mentioned (map (λ (p : Member). Reveal p.name) members ++ rest) n ≡ Ok m → (k : Scopes) × Adds n k × (all_mentioned rest k ≡ Ok m)
  reveals_add [] rest lists n m h = (n, adds_same n, h)
  reveals_add (p ∷ members) rest lists n m h =
      let k = revealed_if (is_none (innermost n.blocks p.name.name)) p.name n in
      let more = reveals_add members rest lists.1 k m h in
      (more.0, adds_further n k more.0 (revealed_adds (is_none (innermost n.blocks p.name.name)) p.name lists.0 n) more.1, more.2)

  member_adds : (p : Member) → ((x : List ℕ) → bytes_eq x p.name.name ≡ true → P x) → (n m : Scopes) → all_mentioned (member_mentions p) n ≡ Ok m → Adds n m × (HasTags n.tags p.type.base × HasFound n.tags p)
  member_adds p here n m h =
      let bounds = optional_mentions bounds_mentions p.bounds in
      let front = quiet_front (type_mentions p.type.base) (Declare p.name ∷ bounds) (type_quiet p.type.base) n m h in
      let last = quiet_all bounds (optional_quiet bounds_mentions bounds_quiet p.bounds) (standing_for p.name Variable n) m (declared_front p.name bounds n m front.1) in
      (subst (λ k. Adds n k) (sym last.1) (adds_entry p.name Variable refl here n), (found_tags n p.type.base front.0, (standing_for p.name Variable n, refl, last.0)))

  members_add : (members : List Member) → Lists members → (n m : Scopes) → all_mentioned (flat_map member_mentions members) n ≡ Ok m → Adds n m × HaveTags n.tags members
  members_add [] lists n m h = (subst (λ k. Adds n k) (sym (quiet_all [] tt n m h).1) (adds_same n), tt)
  members_add (p ∷ members) lists n m h =
      let split = mentioned_append (member_mentions p) (flat_map member_mentions members) n m h in
      let first = member_adds p lists.0 n split.0 split.1 in
      let rest = members_add members lists.1 split.0 m split.2 in
      (adds_further n split.0 m first.0 rest.0, (first.1, subst (λ ts. HaveTags ts members) first.0.keeps.tags rest.1))

  pub listed_adds : (members : List Member) → Lists members → (n m : Scopes) → all_mentioned (listed_mentions members) n ≡ Ok m → Adds n m × HaveTags n.tags members
  listed_adds members lists n m h =
      let front = reveals_add members (flat_map member_mentions members) lists n m h in
      let rest = members_add members lists front.0 m front.2 in
      (adds_further n front.0 m front.1 rest.0, subst (λ ts. HaveTags ts members) front.1.keeps.tags rest.1)

-- whether a member, or a parameter, has a name
abbrev pub is_listed : List Member → List ℕ → Bool
is_listed members x = list_any (λ (p : Member). bytes_eq x p.name.name) members

abbrev pub is_parameter : List Parameter → ℕ → Bool
is_parameter parameters x = list_any (λ (v : Parameter). x == v.name) parameters

pub lists_all : (P : List ℕ → Type 0) (members : List Member) → ((x : List ℕ) → is_listed members x ≡ true → P x) → Lists P members
lists_all P [] h = tt
lists_all P (p ∷ members) h = (
  λ x e. h x (or_left (bytes_eq x p.name.name) (is_listed members x) e),
  lists_all P members (λ x e. h x (or_right (bytes_eq x p.name.name) (is_listed members x) e)),
)

pub listed_keeps : (members : List Member) → KeepsOutside (listed_mentions members)
listed_keeps members n m h = (listed_adds (λ x. Unit {0}) members (lists_all (λ x. Unit {0}) members (λ x e. tt)) n m h).0.keeps

-- ---- what the rules make of them

pub members_named : (of : Numbers) (tags : List (List ℕ)) (g : Scope) → KnowsTags of tags g → (members : List Member) (done : List types.Member) → HaveTags tags members → AllNamed (member_types g (map (number_member of) members) done)
members_named of tags g knows [] done h = tt
members_named of tags g knows (p ∷ members) done h =
    needs_named Any (nat_lt (length done) 64) E08 (type_span (number_type of p.type.base)) _
    (then_named Any (type_named g (number_type_name of p.type)) _ (type_named_named of tags g knows p.type h.0.0) (λ t. members_named of tags g knows members _ h.1))

-- each name of the list is one of the parameters
abbrev pub Named : Numbers → List Member → List Parameter → List Parameter → Type 0
Named of members done all = (x : List ℕ) → (is_listed members x ≡ true) ⊎ (is_parameter done (of x) ≡ true) → is_parameter all (of x) ≡ true

one_named : (of : Numbers) (p : Member) (members : List Member) (done all : List Parameter) (t : CType) (w : WrittenBounds) → Named of members (done ++ record { name = of p.name.name; type = t; bounds = w } ∷ []) all → Named of (p ∷ members) done all
one_named of p members done all t w h x (inl listed) = elim (or_cases (bytes_eq x p.name.name) (is_listed members x) listed) [
  | inl here ↦ h x (inr (any_last (λ (v : Parameter). of x == v.name) done (record { name = of p.name.name; type = t; bounds = w }) (number_equal of x p.name.name here)))
  | inr there ↦ h x (inl there)
]
one_named of p members done all t w h x (inr old) = h x (inr (any_more (λ (v : Parameter). of x == v.name) done (record { name = of p.name.name; type = t; bounds = w } ∷ []) old))

-- bounds of a parameter, where those of all are read
parameter_bounds_named : (of : Numbers) (tags : List (List ℕ)) (g : Scope) → KnowsTags of tags g → (all : List Member) (p : Member) → HasFound tags p → (t : CType) (own : ℕ) → AllNamed (declared_bounds (among_parameters g all) t own (option_map (number_bounds of) p.bounds))
parameter_bounds_named of tags g knows all p h t own = bounds_named of h.0 (among_parameters g all) (λ x among. knows x (subst (λ ts. is_among ts x ≡ true) h.1 among)) t own p.bounds h.2

pub parameters_named : (of : Numbers) (tags : List (List ℕ)) (g : Scope) → KnowsTags of tags g → (all members : List Member) (done : List Parameter) → HaveTags tags members → IsNamed (Named of members done) (parameter_types g all (map (number_member of) members) done)
parameters_named of tags g knows all [] done h = last
  where
    last : Named of [] done done
    last x (inl listed) = absurd (cc)
    last x (inr old) = old
parameters_named of tags g knows all (p ∷ members) done h =
    let written : Option Bounds → WrittenBounds = declared_as (option_map (number_bounds of) p.bounds) in
    let more : CType → Option Bounds → List Parameter = λ t b. done ++ record { name = of p.name.name; type = t; bounds = written b } ∷ [] in
    needs_named (Named of (p ∷ members) done) (nat_lt (length done) 16) E08 (type_span (number_type of p.type.base)) _
    (then_named (Named of (p ∷ members) done) (type_named g (number_type_name of p.type)) _ (type_named_named of tags g knows p.type h.0.0)
    (λ t. then_named (Named of (p ∷ members) done) (declared_bounds (among_parameters g all) t (length done) (option_map (number_bounds of) p.bounds)) _ (parameter_bounds_named of tags g knows all p h.0.1 t (length done))
    (λ b. named_so (Named of members (more t b)) (Named of (p ∷ members) done) (parameter_types g all (map (number_member of) members) (more t b))
    (λ ps. one_named of p members done ps t (written b)) (parameters_named of tags g knows all members (more t b) h.1))))

-- ---- the parameters as locals

pub parameters_later : (ps : List Parameter) (g : Scope) → Later g (with_parameters ps g)
parameters_later [] g = later_same g
parameters_later (p ∷ ps) g = later_further g (with_local p.name p.type None g) (with_parameters ps (with_local p.name p.type None g)) (later_local p.name p.type None g) (parameters_later ps (with_local p.name p.type None g))

abbrev IsLocal : Scope → ℕ → Type 0
IsLocal g x = is_some (local_named g.locals g.visible x) ≡ true

local_here : (name : ℕ) (t : CType) (g : Scope) (x : ℕ) → ((x == name) ≡ true) ⊎ IsLocal g x → IsLocal (with_local name t None g) x
local_here name t g x h = by (x == name) refl h
  where
    by : (b : Bool) → (x == name) ≡ b → (b ≡ true) ⊎ IsLocal g x → IsLocal (with_local name t None g) x
    by true e o = rw (e, extends_last g.locals t) refl
    by false e (inl here) = absurd (cc)
    by false e (inr old) = rw e (local_later g.locals (g.locals ++ t ∷ []) g.visible x (extends_append g.locals (t ∷ [])) old)

pub parameters_local : (ps : List Parameter) (g : Scope) (x : ℕ) → (is_parameter ps x ≡ true) ⊎ IsLocal g x → IsLocal (with_parameters ps g) x
parameters_local [] g x (inl none) = absurd (cc)
parameters_local [] g x (inr old) = old
parameters_local (p ∷ ps) g x (inl listed) = elim (or_cases (x == p.name) (is_parameter ps x) listed) [
  | inl here ↦ parameters_local ps (with_local p.name p.type None g) x (inr (local_here p.name p.type g x (inl here)))
  | inr there ↦ parameters_local ps (with_local p.name p.type None g) x (inl there)
]
parameters_local (p ∷ ps) g x (inr old) = parameters_local ps (with_local p.name p.type None g) x (inr (local_here p.name p.type g x (inr old)))

-- the scopes inside a function, where these are its parameters and naming has entered their names
pub inside_agrees : (of : Numbers) (n k : Scopes) (g : Scope) (ps : List Parameter) → AgreesFile of n g → Adds (λ x. is_parameter ps (of x) ≡ true) n k → Agrees of k (with_parameters ps g)
inside_agrees of n k g ps agrees adds =
    let after = with_parameters ps g in
    let later = parameters_later ps g in
    record {
      value = λ x v. elim (adds.value x v) [
        | inl new ↦ first_some (local_named after.locals after.visible (of x)) (object_named 0 after.variables (of x)) (parameters_local ps g (of x) (inl new))
        | inr old ↦ second_some (local_named after.locals after.visible (of x)) (object_named 0 after.variables (of x)) (subst (λ vs. is_some (object_named 0 vs (of x)) ≡ true) later.variables (agrees.value x old))
      ];
      function = λ x f. subst (λ fs. is_some (function_named fs (of x)) ≡ true) later.functions (agrees.function x (adds.function x f));
      tag = λ x t. subst (λ ts. is_some (position (λ other. of x == other) ts) ≡ true) later.tags (agrees.tag x (subst (λ ts. is_among ts x ≡ true) adds.keeps.tags t));
      given = sym later.given ∙ agrees.given;
    }
