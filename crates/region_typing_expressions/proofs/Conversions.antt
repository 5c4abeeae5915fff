-- The arguments of a call as values of the types of its parameters.
use Rattle.std.proofs.Common.{◌≡◌, ℕ, ◌+◌, ◌<◌, Bool, false, ◌==◌, List, [], ◌∷◌, ◌++◌, length, map, drop, get_or, arith, refl, ap, sym, ◌∙◌}
use Rattle.std.proofs.Common.{length-append}
use Rattle.std.proofs.lemmas.List.{drop_more}
use Rattle.pointer_modes.specs.declared.ctype.CType as code_type
use Rattle.pointer_modes.specs.Types.{ctype}
use Rattle.ckc_core.specs.declared.program.Expr.{Expr}
use Rattle.ckc_core.specs.Core as core
use Rattle.ckc_core.specs.Core.{expression, arguments_of}
use Rattle.ckc_text.specs.declared.place.Span.{Span}
use Rattle.ckc_text.specs.declared.code.Code.TheVariants.{E14}
use Rattle.region_typing_rules.specs.Verdicts.{Stop, Broken, Verdict, Passes, Stops, passing, needs}
use Rattle.region_typing_rules.specs.Operands.{converted}
use Rattle.region_typing_rules.specs.Calls.{arguments_as}
use Rattle.region_typing_expressions.specs.declared.calls.Argument as code
use Rattle.region_typing_scope.specs.OnHeap.{typed}
use Rattle.region_typing_expressions.specs.Calls.{argument, only_argument}
use Rattle.region_typing_scope.proofs.Entailing.{converted_then}
use Rattle.region_typing_expressions.proofs.CoreRows.{joined, joined_none, joined_one}

-- the values so far before those of the arguments that are left
abbrev pub values_behind : List Expr → Verdict core.Arguments → Verdict core.Arguments
values_behind built rest = passing rest (λ others. Passes (joined built others))

pub behind_none : (v : Verdict core.Arguments) → v ≡ values_behind [] v
behind_none (Passes others) = refl
behind_none (Stops stop) = refl

behind_one : (built : List Expr) (v : Expr) (rest : Verdict core.Arguments) → values_behind built (passing rest (λ others. Passes (core.More (expression v) others))) ≡ values_behind (built ++ v ∷ []) rest
behind_one built v (Passes others) = ap Passes (sym (joined_one built v others))
behind_one built v (Stops stop) = refl

types_at : (types : List code_type.CType) (k : ℕ) (t : code_type.CType) → k < length types → t ≡ get_or types k t → map ctype (drop k types) ≡ ctype t ∷ map ctype (drop (k + 1) types)
types_at types k t less is = ap (map ctype) (drop_more types k t less ∙ ap (λ u. u ∷ drop (k + 1) types) (sym is))

first_value : (a : code.Argument) (rest : List code.Argument) (types : List code_type.CType) (k : ℕ) (t : code_type.CType) (items : List code.Argument) → items ≡ a ∷ rest → k < length types → t ≡ get_or types k t
    → arguments_as (map argument items) (map ctype (drop k types)) ≡ passing (converted (typed a.typed) (ctype t) a.span Passes) (λ v. passing (arguments_as (map argument rest) (map ctype (drop (k + 1) types))) (λ others. Passes (core.More v others)))
first_value a rest types k t items are less is =
    ap (λ ws. arguments_as (map argument ws) (map ctype (drop k types))) are
    ∙ ap (arguments_as (argument a ∷ map argument rest)) (types_at types k t less is)
    ∙ converted_then (typed a.typed) (ctype t) a.span (λ v. passing (arguments_as (map argument rest) (map ctype (drop (k + 1) types))) (λ others. Passes (core.More v others)))

-- a value more
pub value_more : (all : Verdict core.Arguments) (a : code.Argument) (rest : List code.Argument) (types : List code_type.CType) (k : ℕ) (t : code_type.CType) (items : List code.Argument) (built : List Expr) (v : Expr) → items ≡ a ∷ rest → k < length types → t ≡ get_or types k t
    → all ≡ values_behind built (arguments_as (map argument items) (map ctype (drop k types))) → converted (typed a.typed) (ctype t) a.span Passes ≡ Passes (expression v)
    → all ≡ values_behind (built ++ v ∷ []) (arguments_as (map argument rest) (map ctype (drop (k + 1) types)))
value_more all a rest types k t items built v are less is so_far passes =
    so_far ∙ ap (values_behind built) (first_value a rest types k t items are less is) ∙ rw passes (behind_one built v (arguments_as (map argument rest) (map ctype (drop (k + 1) types))))

-- a value that breaks a rule
pub value_breaks : (all : Verdict core.Arguments) (a : code.Argument) (rest : List code.Argument) (types : List code_type.CType) (k : ℕ) (t : code_type.CType) (items : List code.Argument) (built : List Expr) (stop : Stop) → items ≡ a ∷ rest → k < length types → t ≡ get_or types k t
    → all ≡ values_behind built (arguments_as (map argument items) (map ctype (drop k types))) → converted (typed a.typed) (ctype t) a.span Passes ≡ Stops stop
    → all ≡ Stops stop
value_breaks all a rest types k t items built stop are less is so_far breaks =
    so_far ∙ ap (values_behind built) (first_value a rest types k t items are less is) ∙ rw breaks refl

-- all values
pub all_values : (all : Verdict core.Arguments) (items : List code.Argument) (types : List code_type.CType) (built : List Expr) → items ≡ [] → all ≡ values_behind built (arguments_as (map argument items) (map ctype types)) → all ≡ Passes (arguments_of built)
all_values all items types built are so_far = so_far ∙ ap (λ ws. values_behind built (arguments_as (map argument ws) (map ctype types))) are ∙ ap Passes (joined_none built)

pub pushed_long : (built new : List Expr) (v : Expr) → new ≡ built ++ v ∷ [] → length new ≡ length built + 1
pushed_long built new v is = ap length is ∙ length-append built (v ∷ [])

-- a value more, as it is pushed
pub value_pushed : (all : Verdict core.Arguments) (a : code.Argument) (rest : List code.Argument) (types : List code_type.CType) (t : code_type.CType) (items : List code.Argument) (built new : List Expr) (v : Expr) → new ≡ built ++ v ∷ [] → items ≡ a ∷ rest → length built < length types → t ≡ get_or types (length built) t
    → all ≡ values_behind built (arguments_as (map argument items) (map ctype (drop (length built) types))) → converted (typed a.typed) (ctype t) a.span Passes ≡ Passes (expression v)
    → all ≡ values_behind new (arguments_as (map argument rest) (map ctype (drop (length new) types)))
value_pushed all a rest types t items built new v is are less at so_far passes =
    let long : length new ≡ length built + 1 = pushed_long built new v is in
    value_more all a rest types (length built) t items built v are less at so_far passes
    ∙ ap (λ k. values_behind (built ++ v ∷ []) (arguments_as (map argument rest) (map ctype (drop k types)))) (sym long)
    ∙ ap (λ b. values_behind b (arguments_as (map argument rest) (map ctype (drop (length new) types)))) (sym is)

pub none_left : (items : List code.Argument) → length items ≡ 0 → items ≡ []
none_left [] none = refl
none_left (a ∷ items) none = absurd (omega arith)

-- more than one argument
pub one_too_many : (a : code.Argument) (rest items : List code.Argument) (b : Bool) (span : Span) (stop : Stop) → items ≡ a ∷ rest → b ≡ (length rest == 0) → needs {A = Unit {0}} b E14 span (Passes tt) ≡ Stops stop → only_argument (map argument items) span ≡ Stops stop
one_too_many a [] items b span stop are empty breaks = absurd (cc (rw empty at breaks))
one_too_many a (x ∷ rest) items b span stop are empty breaks =
    let some : (length (x ∷ rest) == 0) ≡ false = grind arith in
    let broken = rw (empty, some) at breaks in
    let same : Stop = Broken (record { code = E14; span = span }) in
    let is : same ≡ stop = cc in
    ap (λ ws. only_argument (map argument ws) span) are ∙ ap Stops is
