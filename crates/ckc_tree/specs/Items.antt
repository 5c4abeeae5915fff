-- What stands at file level as plain data, and the view from the types of the code to it.
use Rattle.std.specs.Prelude.{ℕ, Bool, List, [], ◌∷◌, map, Option}
use Rattle.std.specs.Option.{option_map}
use Rattle.ckc_text.specs.declared.place.Span.{Span}
use Rattle.ckc_tree.specs.declared.identifier.Identifier.{Identifier}
use Rattle.ckc_tree.specs.declared.stmt.Mark.{Mark}
use Rattle.ckc_tree.specs.declared.stmt.Stmt as code_stmt
use Rattle.ckc_tree.specs.declared.item as code
use Rattle.ckc_tree.specs.declared.item.Region.{Region}
use Rattle.ckc_tree.specs.declared.item.FunctionKind.{FunctionKind}
use Rattle.ckc_tree.specs.declared.item.ResultForm.TheVariants as results
use Rattle.ckc_tree.specs.declared.item.Parameters.TheVariants as lists
use Rattle.ckc_tree.specs.declared.item.Item.TheVariants as items
use Rattle.ckc_tree.specs.Types.{TypeTree, type_tree, TypeName, type_name}
use Rattle.ckc_tree.specs.Expressions.{Bounds, bounds}
use Rattle.ckc_tree.specs.Statements.{Declarator, declarator, Statements, NoMore, Then, statement}

-- a member of a struct, or a parameter of a function
pub record Member : Type 0 where
  pub type : TypeName
  pub name : Identifier
  pub bounds : Option Bounds
  pub span : Span

pub record Structure : Type 0 where
  pub tainted : Bool
  pub tag : Identifier
  pub members : List Member
  pub span : Span

pub record Global : Type 0 where
  pub tainted : Bool
  pub base : TypeTree
  pub declarators : List Declarator
  pub span : Span

-- what a function returns, without stars
pub data ResultForm : Type 0 where
  Void : (span : Span) → ResultForm
  Value : (base : TypeTree) → ResultForm

-- what stands between the parentheses of a function
pub data Parameters : Type 0 where
  Nothing : Parameters
  VoidAlone : Parameters
  Listed : (parameters : List Member) → Parameters

-- the body of a function
pub record Body : Type 0 where
  pub mark : Option Mark
  pub statements : Statements
  pub span : Span

pub record Function : Type 0 where
  pub kind : FunctionKind
  pub mark : Option Mark
  pub result : ResultForm
  pub stars : ℕ
  pub name : Identifier
  pub parameters : Parameters
  pub bounds : Option Bounds
  pub body : Option Body
  pub span : Span

pub data Item : Type 0 where
  RegionItem : (region : Region) (span : Span) → Item
  StructureItem : (structure : Structure) → Item
  GlobalItem : (global : Global) → Item
  FunctionItem : (function : Function) → Item

-- a whole source
pub record Tree : Type 0 where
  pub items : List Item
  pub span : Span

-- what a value of the code's type stands for
abbrev pub member : code.Member.Member → Member
member m = record { type = type_name m.type_name; name = m.name; bounds = option_map bounds m.bounds; span = m.span }

abbrev pub structure : code.Structure.Structure → Structure
structure s = record { tainted = s.tainted; tag = s.tag; members = map member s.members.items; span = s.span }

abbrev pub global : code.Global.Global → Global
global g = record { tainted = g.tainted; base = type_tree g.base; declarators = map declarator g.declarators.items; span = g.span }

abbrev pub result_form : code.ResultForm.ResultForm → ResultForm
result_form (results.Void span) = Void span
result_form (results.Value base) = Value (type_tree base)

abbrev pub parameter : code.Parameter.Parameter → Member
parameter p = record { type = type_name p.type_name; name = p.name; bounds = option_map bounds p.bounds; span = p.span }

abbrev pub parameters : code.Parameters.Parameters → Parameters
parameters lists.Nothing = Nothing
parameters lists.Void = VoidAlone
parameters (lists.Listed listed) = Listed (map parameter listed.items)

-- the statements of a list
abbrev pub statement_list : List code_stmt.Stmt → Statements
statement_list [] = NoMore
statement_list (first ∷ others) = Then (statement first) (statement_list others)

abbrev pub body : code.Block.Block → Body
body b = record { mark = b.mark; statements = statement_list b.statements.items; span = b.span }

abbrev pub function : code.Function.Function → Function
function f = record {
  kind = f.kind;
  mark = f.mark;
  result = result_form f.result;
  stars = f.stars;
  name = f.name;
  parameters = parameters f.parameters;
  bounds = option_map bounds f.bounds;
  body = option_map body f.body;
  span = f.span;
}

abbrev pub item : code.Item.Item → Item
item (items.Region region span) = RegionItem region span
item (items.Structure s) = StructureItem (structure s)
item (items.Global g) = GlobalItem (global g)
item (items.Function f) = FunctionItem (function f)

-- the whole source
abbrev pub tree : code.Program.Program → Tree
tree program = record { items = map item program.items.items; span = program.span }
