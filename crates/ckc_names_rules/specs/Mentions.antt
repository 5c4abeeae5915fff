-- What a tree says of names, in the order of the source: where blocks open and close, which names are declared, and
-- which are used.
use Rattle.std.specs.Prelude.{Bool, List, [], ◌∷◌, ◌++◌, map, flat_map, Option, Some, None, is_some}
use Rattle.ckc_tree.specs.declared.identifier.Identifier.{Identifier}
use Rattle.ckc_tree.specs.Types.{TypeTree, IntType, CharType, StructType, PointerType}
use Rattle.ckc_tree.specs.Expressions as e
use Rattle.ckc_tree.specs.Expressions.{Expression, Expressions, Bounds}
use Rattle.ckc_tree.specs.Statements as s
use Rattle.ckc_tree.specs.Statements.{Initializer, Declarator, Declaration, Assignment, ForInitial, Statement, Statements}
use Rattle.ckc_tree.specs.Items as i
use Rattle.ckc_tree.specs.Items.{Member, Structure, Global, ResultForm, Parameters, Body, Function, Item, Tree}

pub data Mention : Type 0 where
  -- a block begins, or ends
  Open : Mention
  Close : Mention
  -- a name of a list is visible in all of the list; it is declared where it stands
  Reveal : (name : Identifier) → Mention
  -- a variable, a parameter or a member is declared
  Declare : (name : Identifier) → Mention
  -- a function is declared, with its body or without
  DeclareFunction : (name : Identifier) (defined : Bool) → Mention
  -- a tag of a struct is declared
  DeclareTag : (name : Identifier) → Mention
  -- a name stands as an expression, in front of arguments, behind the word struct, or as a member of an expression
  Use : (name : Identifier) → Mention
  Call : (name : Identifier) → Mention
  UseTag : (name : Identifier) → Mention
  Select : (name : Identifier) → Mention

abbrev pub type_mentions : TypeTree → List Mention
type_mentions (IntType span) = []
type_mentions (CharType span) = []
type_mentions (StructType tag span) = UseTag tag ∷ []
type_mentions (PointerType word element stars span) = type_mentions element

abbrev mutual
  pub expression_mentions : Expression → List Mention
  expression_mentions (e.Number value span) = []
  expression_mentions (e.Character value span) = []
  expression_mentions (e.Text bytes span) = []
  expression_mentions (e.Name name) = Use name ∷ []
  expression_mentions (e.Call callee arguments span) = Call callee ∷ expressions_mentions arguments
  expression_mentions (e.SizeOf type span) = type_mentions type.base
  expression_mentions (e.Cast word type operand span) = type_mentions type.base ++ expression_mentions operand
  expression_mentions (e.BoundedCast word type operand bounds span) = type_mentions type.base ++ (expression_mentions operand ++ bounds_mentions bounds)
  expression_mentions (e.Malloc word type size span) = type_mentions type.base ++ expression_mentions size
  expression_mentions (e.Calloc word type count size span) = type_mentions type.base ++ (expression_mentions count ++ expression_mentions size)
  expression_mentions (e.Index base index span) = expression_mentions base ++ expression_mentions index
  expression_mentions (e.Dot base member span) = expression_mentions base ++ Select member ∷ []
  expression_mentions (e.Arrow base member span) = expression_mentions base ++ Select member ∷ []
  expression_mentions (e.Unary operator operand span) = expression_mentions operand
  expression_mentions (e.Binary operator left right span) = expression_mentions left ++ expression_mentions right

  pub expressions_mentions : Expressions → List Mention
  expressions_mentions e.NoMore = []
  expressions_mentions (e.Then first others) = expression_mentions first ++ expressions_mentions others

  pub bounds_mentions : Bounds → List Mention
  bounds_mentions (e.Count count span) = expression_mentions count
  bounds_mentions (e.ByteCount count span) = expression_mentions count
  bounds_mentions (e.Unknown span) = []
  bounds_mentions (e.Range low high span) = expression_mentions low ++ expression_mentions high

-- what a part says that may be left out
abbrev pub optional_mentions : {A : Type 0} → (A → List Mention) → Option A → List Mention
optional_mentions of None = []
optional_mentions of (Some part) = of part

abbrev pub initializer_mentions : Initializer → List Mention
initializer_mentions (s.Value value) = expression_mentions value
initializer_mentions (s.Constants constants span) = []

-- a variable is visible from its name on, in its own bounds and in what it is initialised with too
abbrev pub declarator_mentions : Declarator → List Mention
declarator_mentions d = Declare d.name ∷ (optional_mentions bounds_mentions d.bounds ++ optional_mentions initializer_mentions d.initializer)

abbrev pub declaration_mentions : Declaration → List Mention
declaration_mentions d = type_mentions d.base ++ flat_map declarator_mentions d.declarators

abbrev pub assignment_mentions : Assignment → List Mention
assignment_mentions (s.Store operator target value span) = expression_mentions target ++ expression_mentions value
assignment_mentions (s.Step operator side target span) = expression_mentions target

abbrev pub for_initial_mentions : ForInitial → List Mention
for_initial_mentions s.Nothing = []
for_initial_mentions (s.Declares d) = declaration_mentions d
for_initial_mentions (s.Assigns a) = assignment_mentions a

-- what a block of its own says
abbrev pub in_block : List Mention → List Mention
in_block mentions = Open ∷ (mentions ++ Close ∷ [])

abbrev mutual
  -- branches and bodies of loops are blocks of their own, and so is a for with its head
  pub statement_mentions : Statement → List Mention
  statement_mentions (s.Block mark inner span) = in_block (statements_mentions inner)
  statement_mentions (s.Bundle assignments span) = flat_map assignment_mentions assignments
  statement_mentions (s.Declare d span) = declaration_mentions d
  statement_mentions (s.Assign a span) = assignment_mentions a
  statement_mentions (s.CallAlone call span) = expression_mentions call
  statement_mentions (s.Empty span) = []
  statement_mentions (s.If condition consequent span) = expression_mentions condition ++ in_block (statement_mentions consequent)
  statement_mentions (s.IfElse condition consequent alternative span) =
      expression_mentions condition ++ (in_block (statement_mentions consequent) ++ in_block (statement_mentions alternative))
  statement_mentions (s.While condition body span) = expression_mentions condition ++ in_block (statement_mentions body)
  statement_mentions (s.For initial condition step body span) =
      in_block (for_initial_mentions initial ++ (optional_mentions expression_mentions condition
      ++ (optional_mentions assignment_mentions step ++ in_block (statement_mentions body))))
  statement_mentions (s.Return value span) = optional_mentions expression_mentions value
  statement_mentions (s.Break span) = []
  statement_mentions (s.Continue span) = []

  pub statements_mentions : Statements → List Mention
  statements_mentions s.NoMore = []
  statements_mentions (s.Then first others) = statement_mentions first ++ statements_mentions others

-- a member or a parameter: its type, its name, and its bounds
abbrev pub member_mentions : Member → List Mention
member_mentions m = type_mentions m.type.base ++ Declare m.name ∷ optional_mentions bounds_mentions m.bounds

-- members, or parameters: each is visible in the whole list
abbrev pub listed_mentions : List Member → List Mention
listed_mentions members = map (λ m. Reveal m.name) members ++ flat_map member_mentions members

abbrev pub parameters_mentions : Parameters → List Mention
parameters_mentions i.Nothing = []
parameters_mentions i.VoidAlone = []
parameters_mentions (i.Listed parameters) = listed_mentions parameters

abbrev pub result_mentions : ResultForm → List Mention
result_mentions (i.Void span) = []
result_mentions (i.Value base) = type_mentions base

-- the parameters, the result's bounds and the statements of the body are one block
abbrev pub function_mentions : Function → List Mention
function_mentions f =
    result_mentions f.result
    ++ DeclareFunction f.name (is_some f.body)
    ∷ in_block (parameters_mentions f.parameters ++ (optional_mentions bounds_mentions f.bounds
    ++ optional_mentions (λ (b : Body). statements_mentions b.statements) f.body))

-- a tag is visible from its name on, so a member may point to its own struct
abbrev pub item_mentions : Item → List Mention
item_mentions (i.RegionItem region span) = []
item_mentions (i.StructureItem x) = DeclareTag x.tag ∷ in_block (listed_mentions x.members)
item_mentions (i.GlobalItem g) = type_mentions g.base ++ flat_map declarator_mentions g.declarators
item_mentions (i.FunctionItem f) = function_mentions f

-- what a whole source says
abbrev pub tree_mentions : Tree → List Mention
tree_mentions t = flat_map item_mentions t.items
