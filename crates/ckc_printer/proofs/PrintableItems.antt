-- What is printed of a tree that tokens spell can be read as tokens, since these are.
use Rattle.std.proofs.Common.{ℕ, Bool, List, [], ◌∷◌, ◌++◌, map, Option}
use Rattle.std.specs.List.{flat_map, AllByRecursion}
use Rattle.ckc_text.specs.declared.place.Span.{Span}
use Rattle.ckc_lexer.specs.declared.token.Token.{Token}
use Rattle.ckc_tree.specs.declared.identifier.Identifier.{Identifier}
use Rattle.ckc_tree.specs.declared.stmt.Mark.{Mark}
use Rattle.ckc_tree.specs.declared.item.FunctionKind.{FunctionKind}
use Rattle.ckc_tree.specs.Types.{TypeName}
use Rattle.ckc_tree.specs.Expressions.{Bounds}
use Rattle.ckc_tree.specs.Items.{Member, ResultForm, Parameters, Body, Item, Tree}
use Rattle.ckc_parser_grammar.specs.ItemGrammar as g
use Rattle.ckc_parser_grammar.specs.ItemGrammar.{SpellsTainted, SpellsKind, SpellsOptionalMark, SpellsMember, SpellsMembers, SpellsResult, SpellsListed, SpellsParameters, SpellsBody, SpellsItem, SpellsItems, SpellsProgram}
use Rattle.ckc_printer.specs.Pieces.{Sign, Piece, InLine, with_commas}
use Rattle.ckc_printer.specs.TypePieces.{name_sign, type_name_pieces}
use Rattle.ckc_printer.specs.StatementPieces.{optional_bounds_pieces}
use Rattle.ckc_printer.specs.ItemPieces.{tainted_pieces, member_pieces, ended_member_pieces, kind_pieces, result_pieces, parameters_pieces, body_pieces, item_pieces, program_pieces}
use Rattle.ckc_printer.specs.ReadingBack.{IsLexical, CanSign, CanPrint}
use Rattle.ckc_printer.proofs.Printable.{Lexical, Can, nothing, first, joined, stars_can, stars_on, type_can, type_name_can}
use Rattle.ckc_printer.proofs.PrintableStatements.{others_can, optional_bounds_can, declarators_can, mark_can, statements_can}

tainted_can : {ts rest : List Token} {tainted : Bool} → SpellsTainted ts tainted rest → Lexical ts → Can (tainted_pieces tainted) rest
tainted_can (g.absent f) h = (nothing, h)
tainted_can g.present h = (first tt nothing, h.1)

kind_can : {ts rest : List Token} {kind : FunctionKind} → SpellsKind ts kind rest → Lexical ts → Can (kind_pieces kind) rest
kind_can (g.trusted f) h = (nothing, h)
kind_can g.tainted h = (first tt nothing, h.1)
kind_can g.callback h = (first tt nothing, h.1)

mark_on : {ts rest : List Token} {mark : Option Mark} → SpellsOptionalMark ts mark rest → Lexical ts → Lexical rest
mark_on (g.absent f) h = h
mark_on (g.present w) h = h.1

-- ---- structures

member_can : {ts rest : List Token} {type : TypeName} {name : Identifier} {written : Option Bounds} {o : Span} → SpellsMember ts type name written o rest → Lexical ts
    → Can (type_name_pieces type ++ name_sign name ∷ optional_bounds_pieces written) rest
member_can (g.member d b) h =
    let x = type_name_can d h in
    let y = optional_bounds_can b x.1.1 in
    (joined x.0 (first x.1.0 y.0), y.1)

members_can : {ts rest : List Token} {ms : List Member} → SpellsMembers ts ms rest → Lexical ts → Can (flat_map ended_member_pieces ms) rest
members_can (g.one d) h =
    let x = member_can d h in
    (joined (joined x.0 (first tt nothing)) nothing, x.1.1.1)
members_can (g.more d ms) h =
    let x = member_can d h in
    let y = members_can ms x.1.1 in
    (joined (joined x.0 (first tt nothing)) y.0, y.1)

-- ---- functions

result_can : {ts rest : List Token} {result : ResultForm} → SpellsResult ts result rest → Lexical ts → Can (result_pieces result) rest
result_can g.void h = (first tt nothing, h.1)
result_can (g.value d) h = type_can d h

listed_can : {t : Span} {ts rest : List Token} {ms : List Member} → SpellsListed ts ms t rest → Lexical ts → Can (with_commas member_pieces ms) rest
listed_can (g.one d) h =
    let x = member_can d h in
    (joined x.0 nothing, x.1.1)
listed_can (g.more {members} d ms) h =
    let x = member_can d h in
    let y = listed_can ms x.1.1 in
    (joined x.0 (others_can member_pieces members y.0), y.1)

parameters_can : {t : Span} {ts rest : List Token} {ps : Parameters} → SpellsParameters ts ps t rest → Lexical ts → Can (parameters_pieces ps) rest
parameters_can g.nothing h = (nothing, h.1)
parameters_can g.void h = (first tt nothing, h.1.1)
parameters_can (g.listed d) h = listed_can d h

body_can : {t : Span} {ts rest : List Token} {body : Option Body} → SpellsBody ts body t rest → Lexical ts → Can (body_pieces body) rest
body_can g.absent h = (first tt nothing, h.1)
body_can (g.present {optional_mark} m d) h =
    let x = statements_can d (mark_on m h).1 in
    (joined (mark_can optional_mark) (first tt (joined x.0 (first tt nothing))), x.1)

-- ---- pieces

in_line : (signs : List Sign) → AllByRecursion CanSign signs → AllByRecursion CanPrint (map InLine signs)
in_line [] h = tt
in_line (sign ∷ signs) h = (h.0, in_line signs h.1)

pieces_joined : (a b : List Piece) → AllByRecursion CanPrint a → AllByRecursion CanPrint b → AllByRecursion CanPrint (a ++ b)
pieces_joined [] b h k = k
pieces_joined (piece ∷ a) b h k = (h.0, pieces_joined a b h.1 k)

item_can : {ts rest : List Token} {item : Item} → SpellsItem ts item rest → Lexical ts → AllByRecursion CanPrint (item_pieces item) × Lexical rest
item_can (g.region d) h = ((tt, tt), h.1)
item_can (g.structure t m) h =
    let x = tainted_can t h in
    let y = members_can m x.1.1.1.1 in
    (in_line _ (joined x.0 (first tt (first x.1.1.0 (first tt (joined y.0 (first tt (first tt nothing))))))).all, y.1.1)
item_can (g.global t d m) h =
    let x = tainted_can t h in
    let y = type_can d x.1 in
    let z = declarators_can m y.1 in
    (in_line _ (joined x.0 (joined y.0 (joined z.0 (first tt nothing)))).all, z.1.1)
item_can (g.function {n} {optional_mark} k m d st ps b y) h =
    let kind = kind_can k h in
    let result = result_can d (mark_on m kind.1) in
    let named = stars_on st result.1 in
    let parameters = parameters_can ps named.1.1 in
    let bounds = optional_bounds_can b parameters.1 in
    let body = body_can y bounds.1 in
    let head = joined kind.0 (joined (mark_can optional_mark) (joined result.0 (joined (stars_can n) (first named.0 nothing)))) in
    (in_line _ (joined head (first tt (joined parameters.0 (first tt (joined bounds.0 body.0))))).all, body.1)

items_can : {ts : List Token} {items : List Item} → SpellsItems ts items → Lexical ts → AllByRecursion CanPrint (flat_map item_pieces items)
items_can g.none h = tt
items_can (g.more {item} d m) h =
    let x = item_can d h in
    pieces_joined (item_pieces item) _ x.0 (items_can m x.1)

pub tree_can : (length : ℕ) (tokens : List Token) (t : Tree) → AllByRecursion (λ t. IsLexical t.kind) tokens → SpellsProgram length tokens t → AllByRecursion CanPrint (program_pieces t)
tree_can length tokens t h (g.program d) = items_can d h
