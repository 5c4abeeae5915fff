-- The walks over items, by their steps.
use Rattle.std.proofs.Common.{◌≡◌, Bool, true, false, List, [], ◌∷◌, ◌++◌, not, nat_lt, length, map, refl, ap, ◌∙◌, sym}
use Rattle.std.proofs.lemmas.List.{map-append}
use Rattle.ckc_text.specs.declared.place.Span.{Span}
use Rattle.ckc_text.specs.declared.code.Code.{Code}
use Rattle.ckc_text.specs.declared.code.Code.TheVariants.{E08, E27}
use Rattle.ckc_tree.specs.Types.{TypeTree, type_span}
use Rattle.ckc_tree.specs.Items as i
use Rattle.ckc_tree.specs.Statements.{Declarator}
use Rattle.pointer_modes.specs.Types as types
use Rattle.pointer_modes.specs.Types.{CType}
use Rattle.region_typing_rules.specs.Verdicts.{Stop, Verdict, Passes, Stops, passing, needs}
use Rattle.region_typing_rules.specs.Scopes.{Scope}
use Rattle.region_typing_rules.specs.Types.{type_named}
use Rattle.region_typing_rules.specs.Operands.{Places}
use Rattle.region_typing_rules.specs.DeclaredBounds.{declared_bounds}
use Rattle.region_typing_rules.specs.Items.{Parameter, Walk, is_struct, member_types, among_parameters, declared_as, parameter_types, scalar_members, item, items}
use Rattle.region_typing.specs.declared.globals.WalkedVariable as code
use Rattle.region_typing.specs.Items.{one_member, one_parameter, one_variable, judged_variable, judged_variables, JudgedVariable}

needs_on : {A B C : Type 0} (b : Bool) (code : Code) (span : Span) (v : Verdict A) (f : A → B) (next : B → Verdict C) → needs b code span (passing v (λ t. next (f t))) ≡ passing (needs b code span (passing v (λ t. Passes (f t)))) next
needs_on true code span (Passes t) f next = refl
needs_on true code span (Stops stop) f next = refl
needs_on false code span v f next = refl

pub member_by_step : (g : Scope) (m : i.Member) (ms : List i.Member) (done : List types.Member) → member_types g (m ∷ ms) done ≡ passing (one_member g m done) (λ d. member_types g ms d)
member_by_step g m ms done = needs_on (nat_lt (length done) 64) E08 (type_span m.type.base) (type_named g m.type) (λ t. done ++ record { name = m.name.name; ctype = t; span = m.span } ∷ []) (λ d. member_types g ms d)

bounded_on : {A B C D E : Type 0} (b : Bool) (code : Code) (span : Span) (v : Verdict A) (w : A → Verdict B) (h : B → C) (f : A → C → D) (next : D → Verdict E)
    → needs b code span (passing v (λ t. passing (w t) (λ x. next (f t (h x))))) ≡ passing (needs b code span (passing v (λ t. passing (passing (w t) (λ x. Passes (h x))) (λ y. Passes (f t y))))) next
bounded_on {B = B} true code span (Passes t) w h f next = by (w t)
  where
    by : (o : Verdict B) → passing o (λ x. next (f t (h x))) ≡ passing (passing (passing o (λ x. Passes (h x))) (λ y. Passes (f t y))) next
    by (Passes x) = refl
    by (Stops stop) = refl
bounded_on true code span (Stops stop) w h f next = refl
bounded_on false code span v w h f next = refl

pub parameter_by_step : (g : Scope) (all : List i.Member) (p : i.Member) (ps : List i.Member) (done : List Parameter) → parameter_types g all (p ∷ ps) done ≡ passing (one_parameter g all p done) (λ d. parameter_types g all ps d)
parameter_by_step g all p ps done =
    bounded_on (nat_lt (length done) 16) E08 (type_span p.type.base) (type_named g p.type) (λ t. declared_bounds (among_parameters g all) t (length done) p.bounds) (λ b. declared_as p.bounds b)
    (λ t b. done ++ record { name = p.name.number; type = t; bounds = b } ∷ []) (λ d. parameter_types g all ps d)

-- no member is a struct
abbrev pub scalar_member : types.Member → Unit {0} → Verdict (Unit {0})
scalar_member m x = needs (not (is_struct m.ctype)) E27 m.span (Passes tt)

abbrev pub all_scalar_members : List types.Member → Unit {0} → Verdict (Unit {0})
all_scalar_members ms x = scalar_members ms (Passes tt)

pub scalar_by_step : (m : types.Member) (ms : List types.Member) (x : Unit {0}) → all_scalar_members (m ∷ ms) x ≡ passing (scalar_member m x) (λ y. all_scalar_members ms y)
scalar_by_step m ms x = by (not (is_struct m.ctype))
  where
    by : (b : Bool) → needs b E27 m.span (scalar_members ms (Passes tt)) ≡ passing (needs b E27 m.span (Passes tt)) (λ y. all_scalar_members ms y)
    by true = refl
    by false = refl

-- a variable more
abbrev pub variable_step : Places → TypeTree → CType → Span → Declarator → Walk × List JudgedVariable → Verdict (Walk × List JudgedVariable)
variable_step at base type span d x = passing (one_variable at x.0 base type span d) (λ y. Passes (y.0, x.1 ++ y.1 ∷ []))

pub variable_by_step : (at : Places) (base : TypeTree) (type : CType) (span : Span) (d : Declarator) (ds : List Declarator) (x : Walk × List JudgedVariable) → judged_variables at base type span (d ∷ ds) x ≡ passing (variable_step at base type span d x) (λ y. judged_variables at base type span ds y)
variable_by_step at base type span d ds x = by (one_variable at x.0 base type span d)
  where
    by : (v : Verdict (Walk × JudgedVariable)) → passing v (λ y. judged_variables at base type span ds (y.0, x.1 ++ y.1 ∷ [])) ≡ passing (passing v (λ y. Passes (y.0, x.1 ++ y.1 ∷ []))) (λ y. judged_variables at base type span ds y)
    by (Passes y) = refl
    by (Stops stop) = refl

pub variable_passes : (at : Places) (base : TypeTree) (type : CType) (span : Span) (d : Declarator) (w v : Walk) (walked new : List code.WalkedVariable) (x : code.WalkedVariable) → new ≡ walked ++ x ∷ [] → one_variable at w base type span d ≡ Passes (v, judged_variable type x)
    → variable_step at base type span d (w, map (judged_variable type) walked) ≡ Passes (v, map (judged_variable type) new)
variable_passes at base type span d w v walked new x are passes = rw passes (ap (λ vs. Passes (v, vs)) (sym (ap (map (judged_variable type)) are ∙ map-append (judged_variable type) walked (x ∷ []))))

pub variable_breaks : (at : Places) (base : TypeTree) (type : CType) (span : Span) (d : Declarator) (w : Walk) (walked : List JudgedVariable) (stop : Stop) → one_variable at w base type span d ≡ Stops stop → variable_step at base type span d (w, walked) ≡ Stops stop
variable_breaks at base type span d w walked stop breaks = rw breaks refl

-- one item more
abbrev pub item_step : Places → List i.Item → i.Item → Walk → Verdict Walk
item_step at all x w = item at all w x

abbrev pub items_from : Places → List i.Item → List i.Item → Walk → Verdict Walk
items_from at all xs w = items at all w xs

pub item_by_step : (at : Places) (all : List i.Item) (x : i.Item) (xs : List i.Item) (w : Walk) → items_from at all (x ∷ xs) w ≡ passing (item_step at all x w) (λ v. items_from at all xs v)
item_by_step at all x xs w = refl
