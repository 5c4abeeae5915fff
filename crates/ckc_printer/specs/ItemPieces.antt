-- The signs of what stands at file level, and the pieces and the text of a whole source.
use Rattle.std.specs.Prelude.{ℕ, Bool, true, false, List, [], ◌∷◌, ◌++◌, map, Option, Some, None}
use Rattle.std.specs.List.{flat_map}
use Rattle.ckc_lexer.specs.declared.token.CheckedScope.{CheckedScope}
use Rattle.ckc_lexer.specs.declared.token.CheckedScope.TheVariants as scopes
use Rattle.ckc_lexer.specs.declared.keyword.Keyword.TheVariants as keywords
use Rattle.ckc_lexer.specs.declared.token.TokenKind.TheVariants as kinds
use Rattle.ckc_tree.specs.declared.item.Region.{Region}
use Rattle.ckc_tree.specs.declared.item.Region.TheVariants as regions
use Rattle.ckc_tree.specs.declared.item.FunctionKind.{FunctionKind}
use Rattle.ckc_tree.specs.declared.item.FunctionKind.TheVariants.{Trusted, Tainted, Callback}
use Rattle.ckc_tree.specs.Items.{Member, Structure, Global, ResultForm, Void, Value, Parameters, Nothing, VoidAlone, Listed, Body, Function, Item}
use Rattle.ckc_tree.specs.Items.{RegionItem, StructureItem, GlobalItem, FunctionItem, Tree}
use Rattle.ckc_printer.specs.Pieces.{Sign, One, Piece, InLine, ScopeLine, with_commas, text_of}
use Rattle.ckc_printer.specs.TypePieces.{name_sign, stars_pieces, type_pieces, type_name_pieces}
use Rattle.ckc_printer.specs.StatementPieces.{optional_bounds_pieces, declarator_pieces, mark_pieces, statements_pieces}

abbrev pub tainted_pieces : Bool → List Sign
tainted_pieces false = []
tainted_pieces true = One (kinds.Keyword keywords.Tainted) ∷ []

abbrev pub member_pieces : Member → List Sign
member_pieces m = type_name_pieces m.type ++ name_sign m.name ∷ optional_bounds_pieces m.bounds

-- a member of a struct, with its semicolon
abbrev pub ended_member_pieces : Member → List Sign
ended_member_pieces m = member_pieces m ++ One kinds.Semicolon ∷ []

abbrev pub structure_pieces : Structure → List Sign
structure_pieces s =
    tainted_pieces s.tainted ++ One (kinds.Keyword keywords.Struct) ∷ name_sign s.tag ∷ One kinds.OpenBrace
    ∷ (flat_map ended_member_pieces s.members ++ One kinds.CloseBrace ∷ One kinds.Semicolon ∷ [])

abbrev pub global_pieces : Global → List Sign
global_pieces g = tainted_pieces g.tainted ++ (type_pieces g.base ++ (with_commas declarator_pieces g.declarators ++ One kinds.Semicolon ∷ []))

abbrev pub kind_pieces : FunctionKind → List Sign
kind_pieces Trusted = []
kind_pieces Tainted = One (kinds.Keyword keywords.Tainted) ∷ []
kind_pieces Callback = One (kinds.Keyword keywords.Callback) ∷ []

abbrev pub result_pieces : ResultForm → List Sign
result_pieces (Void span) = One (kinds.Keyword keywords.Void) ∷ []
result_pieces (Value base) = type_pieces base

abbrev pub parameters_pieces : Parameters → List Sign
parameters_pieces Nothing = []
parameters_pieces VoidAlone = One (kinds.Keyword keywords.Void) ∷ []
parameters_pieces (Listed parameters) = with_commas member_pieces parameters

abbrev pub body_pieces : Option Body → List Sign
body_pieces None = One kinds.Semicolon ∷ []
body_pieces (Some body) = mark_pieces body.mark ++ One kinds.OpenBrace ∷ (statements_pieces body.statements ++ One kinds.CloseBrace ∷ [])

-- a function up to its name
abbrev pub head_pieces : Function → List Sign
head_pieces f = kind_pieces f.kind ++ (mark_pieces f.mark ++ (result_pieces f.result ++ (stars_pieces f.stars ++ name_sign f.name ∷ [])))

abbrev pub function_pieces : Function → List Sign
function_pieces f =
    head_pieces f ++ One kinds.OpenParen ∷ (parameters_pieces f.parameters ++ One kinds.CloseParen ∷ (optional_bounds_pieces f.bounds ++ body_pieces f.body))

abbrev pub region_scope : Region → CheckedScope
region_scope regions.On = scopes.On
region_scope regions.Off = scopes.Off

abbrev pub item_pieces : Item → List Piece
item_pieces (RegionItem region span) = ScopeLine (region_scope region) ∷ []
item_pieces (StructureItem structure) = map InLine (structure_pieces structure)
item_pieces (GlobalItem global) = map InLine (global_pieces global)
item_pieces (FunctionItem function) = map InLine (function_pieces function)

abbrev pub program_pieces : Tree → List Piece
program_pieces tree = flat_map item_pieces tree.items

abbrev pub program_text : Tree → List ℕ
program_text tree = text_of (program_pieces tree)
