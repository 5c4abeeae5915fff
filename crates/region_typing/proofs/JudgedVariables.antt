-- File-level variables, by what is judged of their initialisers.
use Rattle.std.proofs.Common.{◌≡◌, ℕ, ◌==◌, Bool, true, false, nat_lt, List, [], ◌∷◌, ◌++◌, length, map, refl, ap, sym, ◌∙◌}
use Rattle.std.proofs.lemmas.List.{map-append}
use Rattle.ckc_text.specs.declared.place.Span.{Span}
use Rattle.ckc_text.specs.declared.code.Code.TheVariants.{E10, E13, E15}
use Rattle.ckc_tree.specs.Types.{TypeTree, type_span}
use Rattle.ckc_tree.specs.Items as i
use Rattle.ckc_tree.specs.Statements.{Declarator}
use Rattle.pointer_modes.specs.Types.{CType}
use Rattle.ckc_core.specs.Programs.{Initial}
use Rattle.region_typing_rules.specs.Verdicts.{Stop, Broken, Verdict, Passes, Stops, passing, needs}
use Rattle.region_typing_rules.specs.Scopes.{WrittenBounds}
use Rattle.region_typing_rules.specs.Types.{base_type, may_lead_to, without_stars}
use Rattle.region_typing_rules.specs.Operands.{Places}
use Rattle.ckc_names_rules.specs.declared.given.Given.{Given}
use Rattle.region_typing_rules.specs.Statements.{length_of, is_ended_array, array_kind, array_element}
use Rattle.region_typing_rules.specs.Items as rules
use Rattle.region_typing_rules.specs.Items.{Walk, WalkedVariable, object_bounds, variable_of, variable_scope, room_for, room_for_first, initializer, variables, with_objects, global, in_checked_region}
use Rattle.region_typing.specs.declared.globals.WalkedVariable as code
use Rattle.region_typing.specs.declared.initials.Judged as code_judged
use Rattle.region_typing.specs.Initials.{Judged, judged, judged_as, judged_cells}
use Rattle.region_typing.specs.Items.{JudgedVariable, judged_variable, with_one, one_variable, judged_variables, judged_initializer, judged_objects}
use Rattle.region_typing_statements.proofs.Verdicts.{same_behind, in_parts}
use Rattle.region_typing.proofs.Constants.{cells_judged}

abbrev as_judged : Given → WalkedVariable → JudgedVariable
as_judged given v = record { type = v.type; length = v.length; ended = v.ended; bounds = v.bounds; initial = judged_as given v.initial }

-- with a variable more, where it has cells
abbrev with_cells : (ended : Bool) → WrittenBounds → Span → Walk → List Initial → (Walk → Verdict Walk) → Verdict Walk
with_cells ended b span w cells next = needs (nat_lt 0 (length cells)) E10 span (next (record w { objects = w.objects ++ variable_of ended b cells ∷ [] }))

one_by_one : (ended : Bool) (b : WrittenBounds) (v : Verdict (List Initial)) (span : Span) (w : Walk) (next : Walk → Verdict Walk)
    → passing v (λ cells. with_cells ended b span w cells next) ≡ passing (passing v (λ cells. with_cells ended b span w cells Passes)) next
one_by_one ended b (Stops stop) span w next = refl
one_by_one ended b (Passes cells) span w next = by (nat_lt 0 (length cells))
  where
    by : (c : Bool) → needs c E10 span (next (record w { objects = w.objects ++ variable_of ended b cells ∷ [] }))
        ≡ passing (needs c E10 span (Passes (record w { objects = w.objects ++ variable_of ended b cells ∷ [] }))) next
    by true = refl
    by false = refl

objects_judged : (w : Walk) (span : Span) (vs : List WalkedVariable) → with_objects w span vs ≡ judged_objects span (map (as_judged w.scope.given) vs) w
objects_judged w span [] = refl
objects_judged w span (v ∷ vs) =
    let rest = judged_objects span (map (as_judged w.scope.given) vs) in
    let judged_here = judged_cells w.scope.structs v.type v.length v.ended (judged_as w.scope.given v.initial) span in
    ap (λ cells_are. passing cells_are (λ cells. with_cells v.ended v.bounds span w cells (λ x. with_objects x span vs))) (cells_judged w.scope.given w.scope.structs v.type v.length v.ended v.initial span)
    ∙ same_behind judged_here _ (λ cells. with_cells v.ended v.bounds span w cells rest)
    (λ cells. ap (λ x. needs (nat_lt 0 (length cells)) E10 span x) (objects_judged (record w { objects = w.objects ++ variable_of v.ended v.bounds cells ∷ [] }) span vs))
    ∙ one_by_one v.ended v.bounds judged_here span w rest

in_turn : {A B C D : Type 0} (v : Verdict A) (f : A → Verdict B) (g : A → B → C) (next : C → Verdict D) → passing (passing v (λ a. passing (f a) (λ b. Passes (g a b)))) next ≡ passing v (λ a. passing (f a) (λ b. next (g a b)))
in_turn (Stops stop) f g next = refl
in_turn (Passes a) f g next = by (f a)
  where
    by : (w : _) → passing (passing w (λ b. Passes (g a b))) next ≡ passing w (λ b. next (g a b))
    by (Passes b) = refl
    by (Stops stop) = refl

-- what comes behind the elements of an array
behind_element : {A B : Type 0} (ended : Bool) (t : CType) (base : TypeTree) (v : Verdict A) (next : A → Verdict B) → passing (array_element ended t base v) next ≡ array_element ended t base (passing v next)
behind_element ended t base v next = by (may_lead_to (array_kind ended) t)
  where
    by : (b : Bool) → passing (needs b E13 (type_span base) v) next ≡ needs b E13 (type_span base) (passing v next)
    by true = refl
    by false = refl

judged_next : {B : Type 0} (given : Given) (v : Verdict rules.Walked) (next : rules.Walked → Verdict B) (next' : _ → Verdict B) → ((x : rules.Walked) → next x ≡ next' (judged_as given x)) → passing v next ≡ passing (passing v (λ x. Passes (judged_as given x))) next'
judged_next given (Passes x) next next' same = same x
judged_next given (Stops stop) next next' same = refl

variables_judged : {B : Type 0} (at : Places) (w : Walk) (base : TypeTree) (t : CType) (span : Span) (ds : List Declarator) (done : List WalkedVariable) (next : Walk × List WalkedVariable → Verdict B) (next' : Walk × List JudgedVariable → Verdict B)
    → ((x : Walk × List WalkedVariable) → next x ≡ next' (x.0, map (as_judged x.0.scope.given) x.1)) → passing (variables at w base t span ds done) next ≡ passing (judged_variables at base t span ds (w, map (as_judged w.scope.given) done)) next'
variables_judged at w base t span [] done next next' same = same (w, done)
variables_judged at w base t span (d ∷ ds) done next next' same =
    let room = room_for w base span d in
    let starless = without_stars base d.stars t in
    let e = is_ended_array d in
    let given = λ (taken : ℕ) (u : CType) (b : WrittenBounds). judged_initializer at (variable_scope taken d u b w.scope) d.initializer in
    let begun = λ (taken : ℕ) (u : CType) (b : WrittenBounds) (x : rules.Walked).
    variables at (with_one taken d u b w) base t span ds (done ++ record { type = u; length = length_of d; ended = e; bounds = b; initial = x } ∷ []) in
    let bounded = λ (taken : ℕ) (u : CType) (b : WrittenBounds). passing (initializer at (variable_scope taken d u b w.scope) d.initializer) (begun taken u b) in
    let of_type = λ (taken : ℕ) (u : CType). array_element e u base (passing (object_bounds w.scope d u) (bounded taken u)) in
    let behind = λ (y : Walk × JudgedVariable). passing (judged_variables at base t span ds (y.0, map (as_judged w.scope.given) done ++ y.1 ∷ [])) next' in
    let judged : ℕ → CType → WrittenBounds → Judged → Walk × JudgedVariable = λ taken u b j. (with_one taken d u b w, record { type = u; length = length_of d; ended = e; bounds = b; initial = j }) in
    let then = λ (taken : ℕ) (u : CType). array_element e u base (passing (object_bounds w.scope d u) (λ b. passing (given taken u b) (λ j. behind (judged taken u b j)))) in
    in_parts room (λ taken. passing starless (of_type taken)) next
    ∙ same_behind room _ (λ taken. passing starless (then taken))
    (λ taken. in_parts starless (of_type taken) next
    ∙ same_behind starless _ (then taken)
    (λ u. behind_element e u base (passing (object_bounds w.scope d u) (bounded taken u)) next
    ∙ ap (λ v. array_element e u base v) (in_parts (object_bounds w.scope d u) (bounded taken u) next
    ∙ same_behind (object_bounds w.scope d u) _ (λ b. passing (given taken u b) (λ j. behind (judged taken u b j)))
    (λ b. in_parts (initializer at (variable_scope taken d u b w.scope) d.initializer) (begun taken u b) next
    ∙ judged_next w.scope.given (initializer at (variable_scope taken d u b w.scope) d.initializer) _ (λ j. behind (judged taken u b j))
    (λ x. variables_judged at (with_one taken d u b w) base t span ds (done ++ record { type = u; length = length_of d; ended = e; bounds = b; initial = x } ∷ []) next next' same
    ∙ ap (λ vs. passing (judged_variables at base t span ds (with_one taken d u b w, vs)) next') (map-append (as_judged w.scope.given) done (record { type = u; length = length_of d; ended = e; bounds = b; initial = x } ∷ [])))))))
    ∙ sym (same_behind room _ _ (λ taken. in_parts starless (λ u. array_element e u base (passing (object_bounds w.scope d u) (λ b. passing (given taken u b) (λ j. Passes (judged taken u b j))))) behind
    ∙ same_behind starless _ _ (λ u. behind_element e u base (passing (object_bounds w.scope d u) (λ b. passing (given taken u b) (λ j. Passes (judged taken u b j)))) behind
    ∙ ap (λ v. array_element e u base v) (in_turn (object_bounds w.scope d u) (given taken u) (judged taken u) behind))))
    ∙ sym (in_parts room (λ taken. passing starless (λ u. array_element e u base (passing (object_bounds w.scope d u) (λ b. passing (given taken u b) (λ j. Passes (judged taken u b j)))))) behind)
    ∙ sym (in_parts (one_variable at w base t span d) (λ y. judged_variables at base t span ds (y.0, map (as_judged w.scope.given) done ++ y.1 ∷ [])) next')

-- a declaration of variables, by what is judged
pub global_judged : (at : Places) (w : Walk) (d : i.Global) → global at w d ≡ passing (room_for_first w d d.declarators) (λ taken. passing (base_type w.scope d.base) (λ t. passing (passing (judged_variables at d.base t d.span d.declarators (w, [])) (λ x. judged_objects d.span x.1 x.0)) (λ v. in_checked_region v.scope d.span v)))
global_judged at w d =
    same_behind (room_for_first w d d.declarators) _ _ (λ taken.
    same_behind (base_type w.scope d.base) _ _ (λ t. variables_judged at w d.base t d.span d.declarators [] _ (λ x. passing (judged_objects d.span x.1 x.0) (λ v. in_checked_region v.scope d.span v))
    (λ x. ap (λ objects. passing objects (λ v. in_checked_region v.scope d.span v)) (objects_judged x.0 d.span x.1))
    ∙ sym (in_parts (judged_variables at d.base t d.span d.declarators (w, [])) (λ x. judged_objects d.span x.1 x.0) (λ v. in_checked_region v.scope d.span v))))

-- stars behind the type of a variable for which there is room
pub stars_break : (at : Places) (base : TypeTree) (span : Span) (d : Declarator) (t : CType) (taken : ℕ) (old : Walk) (stop : Stop) → room_for old base span d ≡ Passes taken → needs {A = Unit {0}} (d.stars == 0) E15 (type_span base) (Passes tt) ≡ Stops stop → one_variable at old base t span d ≡ Stops stop
stars_break at base span d t taken old stop room breaks = by (d.stars == 0) refl breaks
  where
    by : (b : Bool) → (d.stars == 0) ≡ b → needs {A = Unit {0}} b E15 (type_span base) (Passes tt) ≡ Stops stop → one_variable at old base t span d ≡ Stops stop
    by true e breaks = absurd (cc)
    by false e breaks =
        let there : Stop = Broken (record { code = E15; span = type_span base }) in
        let same : there ≡ stop = cc in
        rw (room, e) (ap Stops same)

-- what is made of a variable, behind its room and its type
module _ (at : Places) (base : TypeTree) (span : Span) (d : Declarator) (t : CType) (taken : ℕ) (old : Walk) (room : room_for old base span d ≡ Passes taken) (starless : (d.stars == 0) ≡ true) where
  abbrev leads : Bool
  leads = may_lead_to (array_kind (is_ended_array d)) t

  -- elements that no zero may end
  pub element_breaks : (stop : Stop) → needs {A = Unit {0}} leads E13 (type_span base) (Passes tt) ≡ Stops stop → one_variable at old base t span d ≡ Stops stop
  element_breaks stop breaks = by leads refl breaks
    where
      by : (b : Bool) → leads ≡ b → needs {A = Unit {0}} b E13 (type_span base) (Passes tt) ≡ Stops stop → one_variable at old base t span d ≡ Stops stop
      by true e breaks = absurd (cc)
      by false e breaks =
          let there : Stop = Broken (record { code = E13; span = type_span base }) in
          let same : there ≡ stop = cc in
          rw (room, starless, e) (ap Stops same)

  -- bounds that break a rule
  pub bounds_break : leads ≡ true → (stop : Stop) → object_bounds old.scope d t ≡ Stops stop → one_variable at old base t span d ≡ Stops stop
  bounds_break fits stop breaks = rw (room, starless, fits, breaks) refl

  module _ (b : WrittenBounds) (new : Walk) (is : new ≡ with_one taken d t b old) (fits : leads ≡ true) (bounded : object_bounds old.scope d t ≡ Passes b) where
    variable_walked : one_variable at old base t span d
        ≡ passing (judged_initializer at new.scope d.initializer) (λ j. Passes (new, record { type = t; length = length_of d; ended = is_ended_array d; bounds = b; initial = j }))
    variable_walked =
        rw (room, starless, fits, bounded)
        (ap (λ (v : Walk). passing (judged_initializer at v.scope d.initializer) (λ j. Passes (v, record { type = t; length = length_of d; ended = is_ended_array d; bounds = b; initial = j }))) (sym is))

    -- a variable more
    pub one_more_variable : (x : code.WalkedVariable) (j : code_judged.Judged) → x ≡ record { count = length_of d; ended = is_ended_array d; bounds = b; initial = j } → judged_initializer at new.scope d.initializer ≡ Passes (judged j)
        → one_variable at old base t span d ≡ Passes (new, judged_variable t x)
    one_more_variable x j x_is rest = variable_walked ∙ rw (rest, x_is) refl

    pub variable_unmade : (stop : Stop) → judged_initializer at new.scope d.initializer ≡ Stops stop → one_variable at old base t span d ≡ Stops stop
    variable_unmade stop breaks = variable_walked ∙ rw breaks refl
