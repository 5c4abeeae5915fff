-- The tokens of an item begin one at each token, and no higher, and so those of a source do.
use Rattle.std.proofs.Common.{Bool, List, [], Option}
use Rattle.ckc_text.specs.declared.place.Span.{Span}
use Rattle.ckc_lexer.specs.declared.token.Token.{Token}
use Rattle.ckc_tree.specs.declared.identifier.Identifier.{Identifier}
use Rattle.ckc_tree.specs.declared.stmt.Mark.{Mark}
use Rattle.ckc_tree.specs.declared.item.FunctionKind.{FunctionKind}
use Rattle.ckc_tree.specs.Types.{TypeName}
use Rattle.ckc_tree.specs.Expressions.{Bounds}
use Rattle.ckc_tree.specs.Items.{Member, ResultForm, Parameters, Body, Item}
use Rattle.ckc_tree.specs.Heights.{Reach, nowhere, ◌beside◌, type_reach, optional_bounds_reach, members_reach, result_reach, parameters_reach, optional_body_reach, item_reach, items_reach}
use Rattle.ckc_parser_grammar.specs.ItemGrammar as g
use Rattle.ckc_parser_grammar.specs.ItemGrammar.{SpellsTainted, SpellsKind, SpellsOptionalMark, SpellsMember, SpellsMembers, SpellsResult, SpellsListed, SpellsParameters, SpellsBody, SpellsItem, SpellsItems}
use Rattle.ckc_parser_grammar.specs.TypeBeginnings as types
use Rattle.ckc_parser_grammar.specs.TypeBeginnings.{BeginsType}
use Rattle.ckc_parser_grammar.specs.ItemBeginnings as b
use Rattle.ckc_parser_grammar.specs.ItemBeginnings.{BeginsMember, BeginsMembers, BeginsListed, BeginsParameters, BeginsBody, BeginsItem, BeginsItems}
use Rattle.ckc_parser_grammar.proofs.Paths.{same, least, deep, one, grow, along, alone, Fact, fact, Path, here, next, on, past, part}
use Rattle.ckc_parser_grammar.proofs.TypePaths.{stars_path, begun_stars, type_path, begun_type, type_name_path, begun_type_name}
use Rattle.ckc_parser_grammar.proofs.StatementPaths.{optional_bounds_path, begun_optional_bounds, declarators_path, begun_declarators, statements_path, begun_statements}

-- ---- members and parameters

member_path : {name : Identifier} {type : TypeName} {written : Option Bounds} {o : Span} {ts r : List Token} → SpellsMember ts type name written o r → Path (Fact (BeginsMember ts) (type_reach type.base beside optional_bounds_reach written)) ts r
member_path (g.member t c) =
    past (part (λ us a. fact (b.type a.begins) (grow _ a.low)) (type_name_path t))
    (part (λ us a. fact (b.bounds t a.begins) (along _ a.low)) (optional_bounds_path c))

begun_member : {ts r : List Token} {q : Reach} → BeginsMember ts r q → Path (Fact (BeginsMember ts) q) ts r
begun_member (b.type t) = part (λ us a. fact (b.type a.begins) a.low) (begun_type_name t)
begun_member (b.bounds t c) =
    past (part (λ us a. fact (b.type a.begins) (grow _ a.low)) (type_name_path t))
    (part (λ us a. fact (b.bounds t a.begins) (along _ a.low)) (begun_optional_bounds c))

no_member : {ts : List Token} → BeginsMember ts ts nowhere
no_member = b.type (types.base types.nothing)

pub members_path : {x : List Member} {ts r : List Token} → SpellsMembers ts x r → Path (Fact (BeginsMembers ts) (members_reach x)) ts r
members_path (g.one d) =
    past (part (λ us a. fact (b.first a.begins) (grow _ a.low)) (member_path d))
    (next (fact (b.others d (b.first no_member)) same) (here (fact (b.last d) (grow _ same))))
members_path (g.more d m) = past (part (λ us a. fact (b.first a.begins) (grow _ a.low)) (member_path d)) (part (λ us a. fact (b.others d a.begins) (along _ a.low)) (members_path m))

begun_members : {ts r : List Token} {q : Reach} → BeginsMembers ts r q → Path (Fact (BeginsMembers ts) q) ts r
begun_members (b.first d) = part (λ us a. fact (b.first a.begins) a.low) (begun_member d)
begun_members (b.others d m) = past (part (λ us a. fact (b.first a.begins) (grow _ a.low)) (member_path d)) (part (λ us a. fact (b.others d a.begins) (along _ a.low)) (begun_members m))
begun_members (b.last d) =
    past (part (λ us a. fact (b.first a.begins) a.low) (member_path d))
    (next (fact (b.others d (b.first no_member)) (alone _)) (here (fact (b.last d) same)))

-- the path goes on behind the parenthesis
listed_path : {At : List Token → Type 0} {x : List Member} {t : Span} {ts us r : List Token} → ((vs : List Token) → Fact (BeginsListed ts) (members_reach x) vs → At vs) → SpellsListed ts x t us → Path At us r → Path At ts r
listed_path go (g.one d) p = past (part (λ us a. go us (fact (b.first a.begins) (grow _ a.low))) (member_path d)) p
listed_path go (g.more d m) p =
    past (part (λ us a. go us (fact (b.first a.begins) (grow _ a.low))) (member_path d))
    (listed_path (λ us a. go us (fact (b.others d a.begins) (along _ a.low))) m p)

begun_listed : {ts r : List Token} {q : Reach} → BeginsListed ts r q → Path (Fact (BeginsListed ts) q) ts r
begun_listed (b.first d) = part (λ us a. fact (b.first a.begins) a.low) (begun_member d)
begun_listed (b.others d m) = past (part (λ us a. fact (b.first a.begins) (grow _ a.low)) (member_path d)) (part (λ us a. fact (b.others d a.begins) (along _ a.low)) (begun_listed m))

no_parameters : {ts : List Token} {high : Reach} → Fact (BeginsParameters ts) high ts
no_parameters = fact (b.listed (b.first no_member)) least

parameters_path : {At : List Token → Type 0} {x : Parameters} {t : Span} {ts us r : List Token} → ((vs : List Token) → Fact (BeginsParameters ts) (parameters_reach x) vs → At vs) → SpellsParameters ts x t us → Path At us r → Path At ts r
parameters_path go g.nothing p = next (go _ no_parameters) p
parameters_path go g.void p = next (go _ no_parameters) (next (go _ (fact b.void least)) p)
parameters_path go (g.listed d) p = listed_path (λ us a. go us (fact (b.listed a.begins) a.low)) d p

begun_parameters : {ts r : List Token} {q : Reach} → BeginsParameters ts r q → Path (Fact (BeginsParameters ts) q) ts r
begun_parameters b.void = next no_parameters (here (fact b.void least))
begun_parameters (b.listed d) = part (λ us a. fact (b.listed a.begins) a.low) (begun_listed d)

-- ---- bodies

body_path : {x : Option Body} {t : Span} {ts r : List Token} → SpellsBody ts x t r → Path (Fact (BeginsBody ts) (optional_body_reach x)) ts r
body_path g.absent = next (fact b.nothing least) (here (fact b.absent same))
body_path (g.present (g.absent f) d) = next (fact b.nothing least) (part (λ us a. fact (b.statements (g.absent f) a.begins) (deep _ _ a.low)) (statements_path d))
body_path (g.present (g.present w) d) =
    next (fact b.nothing least) (next (fact (b.mark w) (one _ _)) (part (λ us a. fact (b.statements (g.present w) a.begins) (deep _ _ a.low)) (statements_path d)))

begun_body : {ts r : List Token} {q : Reach} → BeginsBody ts r q → Path (Fact (BeginsBody ts) q) ts r
begun_body b.nothing = here (fact b.nothing least)
begun_body b.absent = body_path g.absent
begun_body (b.mark w) = next (fact b.nothing least) (here (fact (b.mark w) same))
begun_body (b.statements (g.absent f) d) = next (fact b.nothing least) (part (λ us a. fact (b.statements (g.absent f) a.begins) (deep _ _ a.low)) (begun_statements d))
begun_body (b.statements (g.present w) d) =
    next (fact b.nothing least) (next (fact (b.mark w) (one _ _)) (part (λ us a. fact (b.statements (g.present w) a.begins) (deep _ _ a.low)) (begun_statements d)))

-- ---- words before an item. The path goes on behind them

tainted_path : {At : List Token → Type 0} {x : Bool} {tokens ts r : List Token} → At tokens → SpellsTainted tokens x ts → Path At ts r → Path At tokens r
tainted_path so (g.absent f) p = p
tainted_path so g.present p = next so p

kind_path : {At : List Token → Type 0} {x : FunctionKind} {tokens ts r : List Token} → At tokens → SpellsKind tokens x ts → Path At ts r → Path At tokens r
kind_path so (g.trusted f) p = p
kind_path so g.tainted p = next so p
kind_path so g.callback p = next so p

mark_path : {At : List Token → Type 0} {x : Option Mark} {tokens ts r : List Token} → At tokens → SpellsOptionalMark tokens x ts → Path At ts r → Path At tokens r
mark_path so (g.absent f) p = p
mark_path so (g.present w) p = next so p

result_path : {At : List Token → Type 0} {x : ResultForm} {ts us r : List Token} → ((vs : List Token) → Fact (BeginsType ts) (result_reach x) vs → At vs) → SpellsResult ts x us → Path At us r → Path At ts r
result_path go g.void p = next (go _ (fact types.nothing least)) p
result_path go (g.value d) p = on (part (λ us a. go us a) (type_path d)) p

-- ---- items. Without a token an item may not begin, though a source does

item_path : {At : List Token → Type 0} {x : Item} {ts r : List Token} → At ts → ((us : List Token) → Fact (BeginsItem ts) (item_reach x) us → At us) → SpellsItem ts x r → Path At ts r
item_path so go (g.region w) = next so (here (go _ (fact b.region same)))
item_path so go (g.structure t m) =
    tainted_path so t (next (go _ (fact (b.global_type t types.nothing) least)) (next (go _ (fact (b.struct_word t) least)) (next (go _ (fact (b.struct_tag t) least))
    (past (part (λ us a. go us (fact (b.struct_members t a.begins) a.low)) (members_path m)) (here (go _ (fact (b.structure t m) same)))))))
item_path so go (g.global t d l) =
    tainted_path so t (on (part (λ us a. go us (fact (b.global_type t a.begins) (grow _ a.low))) (type_path d))
    (past (part (λ us a. go us (fact (b.global_declarators t d a.begins) (along _ a.low))) (declarators_path l)) (here (go _ (fact (b.global t d l) same)))))
item_path so go (g.function k m d st p c y) =
    kind_path so k (mark_path (go _ (fact (b.function_word k) least)) m
    (result_path (λ us a. go us (fact (b.function_type k m a.begins) (grow _ (grow _ (grow _ a.low))))) d
    (past (part (λ us a. go us (fact (b.function_stars k m d a) (grow _ (grow _ (grow _ same))))) (stars_path st))
    (next (go _ (fact (b.function_name k m d st) (grow _ (grow _ (grow _ same)))))
    (parameters_path (λ us a. go us (fact (b.function_parameters k m d st a.begins) (grow _ (grow _ (along _ a.low))))) p
    (on (part (λ us a. go us (fact (b.function_bounds k m d st p a.begins) (grow _ (along _ a.low)))) (optional_bounds_path c))
    (part (λ us a. go us (fact (b.function_body k m d st p c a.begins) (along _ a.low))) (body_path y))))))))

begun_item : {At : List Token → Type 0} {ts r : List Token} {q : Reach} → At ts → ((us : List Token) → Fact (BeginsItem ts) q us → At us) → BeginsItem ts r q → Path At ts r
begun_item so go b.region = next so (here (go _ (fact b.region same)))
begun_item so go (b.struct_word t) = tainted_path so t (next (go _ (fact (b.global_type t types.nothing) least)) (here (go _ (fact (b.struct_word t) same))))
begun_item so go (b.struct_tag t) =
    tainted_path so t (next (go _ (fact (b.global_type t types.nothing) least)) (next (go _ (fact (b.struct_word t) least)) (here (go _ (fact (b.struct_tag t) same)))))
begun_item so go (b.struct_members t m) =
    tainted_path so t (next (go _ (fact (b.global_type t types.nothing) least)) (next (go _ (fact (b.struct_word t) least)) (next (go _ (fact (b.struct_tag t) least))
    (part (λ us a. go us (fact (b.struct_members t a.begins) a.low)) (begun_members m)))))
begun_item so go (b.structure t m) = item_path so go (g.structure t m)
begun_item so go (b.global_type t d) = tainted_path so t (part (λ us a. go us (fact (b.global_type t a.begins) a.low)) (begun_type d))
begun_item so go (b.global_declarators t d l) =
    tainted_path so t (on (part (λ us a. go us (fact (b.global_type t a.begins) (grow _ a.low))) (type_path d))
    (part (λ us a. go us (fact (b.global_declarators t d a.begins) (along _ a.low))) (begun_declarators l)))
begun_item so go (b.global t d l) = item_path so go (g.global t d l)
begun_item so go (b.function_word k) = kind_path so k (here (go _ (fact (b.function_word k) same)))
begun_item so go (b.function_mark k w) = kind_path so k (next (go _ (fact (b.function_word k) least)) (here (go _ (fact (b.function_mark k w) same))))
begun_item so go (b.function_void k m) =
    kind_path so k (mark_path (go _ (fact (b.function_word k) least)) m (next (go _ (fact (b.function_type k m types.nothing) least)) (here (go _ (fact (b.function_void k m) same)))))
begun_item so go (b.function_type k m d) =
    kind_path so k (mark_path (go _ (fact (b.function_word k) least)) m (part (λ us a. go us (fact (b.function_type k m a.begins) a.low)) (begun_type d)))
begun_item so go (b.function_stars k m d st) =
    kind_path so k (mark_path (go _ (fact (b.function_word k) least)) m
    (result_path (λ us a. go us (fact (b.function_type k m a.begins) a.low)) d (part (λ us a. go us (fact (b.function_stars k m d a) same)) (begun_stars st))))
begun_item so go (b.function_name k m d st) =
    kind_path so k (mark_path (go _ (fact (b.function_word k) least)) m
    (result_path (λ us a. go us (fact (b.function_type k m a.begins) a.low)) d
    (past (part (λ us a. go us (fact (b.function_stars k m d a) same)) (stars_path st)) (here (go _ (fact (b.function_name k m d st) same))))))
begun_item so go (b.function_parameters k m d st p) =
    kind_path so k (mark_path (go _ (fact (b.function_word k) least)) m
    (result_path (λ us a. go us (fact (b.function_type k m a.begins) (grow _ a.low))) d
    (past (part (λ us a. go us (fact (b.function_stars k m d a) (grow _ same))) (stars_path st))
    (next (go _ (fact (b.function_name k m d st) (grow _ same)))
    (part (λ us a. go us (fact (b.function_parameters k m d st a.begins) (along _ a.low))) (begun_parameters p))))))
begun_item so go (b.function_bounds k m d st p c) =
    kind_path so k (mark_path (go _ (fact (b.function_word k) least)) m
    (result_path (λ us a. go us (fact (b.function_type k m a.begins) (grow _ (grow _ a.low)))) d
    (past (part (λ us a. go us (fact (b.function_stars k m d a) (grow _ (grow _ same)))) (stars_path st))
    (next (go _ (fact (b.function_name k m d st) (grow _ (grow _ same))))
    (parameters_path (λ us a. go us (fact (b.function_parameters k m d st a.begins) (grow _ (along _ a.low)))) p
    (part (λ us a. go us (fact (b.function_bounds k m d st p a.begins) (along _ a.low))) (begun_optional_bounds c)))))))
begun_item so go (b.function_body k m d st p c y) =
    kind_path so k (mark_path (go _ (fact (b.function_word k) least)) m
    (result_path (λ us a. go us (fact (b.function_type k m a.begins) (grow _ (grow _ (grow _ a.low))))) d
    (past (part (λ us a. go us (fact (b.function_stars k m d a) (grow _ (grow _ (grow _ same))))) (stars_path st))
    (next (go _ (fact (b.function_name k m d st) (grow _ (grow _ (grow _ same)))))
    (parameters_path (λ us a. go us (fact (b.function_parameters k m d st a.begins) (grow _ (grow _ (along _ a.low))))) p
    (on (part (λ us a. go us (fact (b.function_bounds k m d st p a.begins) (grow _ (along _ a.low)))) (optional_bounds_path c))
    (part (λ us a. go us (fact (b.function_body k m d st p c a.begins) (along _ a.low))) (begun_body y))))))))

-- ---- sources

pub items_path : {x : List Item} {ts : List Token} → SpellsItems ts x → Path (Fact (BeginsItems ts) (items_reach x)) ts []
items_path g.none = here (fact b.nothing least)
items_path (g.more d m) =
    on (item_path (fact b.nothing least) (λ us a. fact (b.first a.begins) (grow _ a.low)) d)
    (part (λ us a. fact (b.others d a.begins) (along _ a.low)) (items_path m))

pub begun_items : {ts r : List Token} {q : Reach} → BeginsItems ts r q → Path (Fact (BeginsItems ts) q) ts r
begun_items b.nothing = here (fact b.nothing least)
begun_items (b.first d) = begun_item (fact b.nothing least) (λ us a. fact (b.first a.begins) a.low) d
begun_items (b.others d m) =
    on (item_path (fact b.nothing least) (λ us a. fact (b.first a.begins) (grow _ a.low)) d)
    (part (λ us a. fact (b.others d a.begins) (along _ a.low)) (begun_items m))
