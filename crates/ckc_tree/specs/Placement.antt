-- Where the spans of a tree stand: each lies in that of the form around it, and those of its parts stand in order.
use Rattle.std.specs.Prelude.{ℕ, ◌≤◌, List, [], ◌∷◌, ◌++◌, map, Option, Some, None}
use Rattle.std.specs.List.{AllByRecursion}
use Rattle.ckc_text.specs.declared.place.Span.{Span}
use Rattle.ckc_tree.specs.declared.stmt.ArrayForm.{ArrayForm}
use Rattle.ckc_tree.specs.declared.stmt.SignedConstant.{SignedConstant}
use Rattle.ckc_tree.specs.Types.{TypeTree, IntType, CharType, StructType, PointerType, type_span}
use Rattle.ckc_tree.specs.Expressions as e
use Rattle.ckc_tree.specs.Expressions.{Expression, Expressions, Bounds, expression_span, bounds_span}
use Rattle.ckc_tree.specs.Statements as s
use Rattle.ckc_tree.specs.Statements.{Initializer, Declarator, Declaration, Assignment, assignment_span, ForInitial, Statement, Statements, statement_span}
use Rattle.ckc_tree.specs.Items as i
use Rattle.ckc_tree.specs.Items.{Member, ResultForm, Parameters, Body, Item, Tree}

-- from the first of these bytes to the last the spans stand in order, and none ends before it starts
abbrev pub InOrder : ℕ → List Span → ℕ → Type 0
InOrder from [] to = from ≤ to
InOrder from (span ∷ spans) to = (from ≤ span.from) × (span.from ≤ span.to) × InOrder span.to spans to

-- the spans of the parts lie in order in the span of the whole
abbrev pub Holds : Span → List Span → Type 0
Holds whole parts = InOrder whole.from parts whole.to

-- the span of a part that may be left out
abbrev pub optional : {A : Type 0} → (A → Span) → Option A → List Span
optional span_of None = []
optional span_of (Some part) = span_of part ∷ []

abbrev pub OptionalPlaced : {A : Type 0} → (A → Type 0) → Option A → Type 0
OptionalPlaced Placed None = Unit {0}
OptionalPlaced Placed (Some part) = Placed part

abbrev pub TypePlaced : TypeTree → Type 0
TypePlaced (IntType span) = Holds span []
TypePlaced (CharType span) = Holds span []
TypePlaced (StructType tag span) = Holds span (tag.span ∷ [])
TypePlaced (PointerType word element stars span) = Holds span (type_span element ∷ []) × TypePlaced element

abbrev pub expressions_spans : Expressions → List Span
expressions_spans e.NoMore = []
expressions_spans (e.Then first others) = expression_span first ∷ expressions_spans others

abbrev mutual
  pub ExpressionPlaced : Expression → Type 0
  ExpressionPlaced (e.Number value span) = Holds span []
  ExpressionPlaced (e.Character value span) = Holds span []
  ExpressionPlaced (e.Text bytes span) = Holds span []
  ExpressionPlaced (e.Name name) = Holds name.span []
  ExpressionPlaced (e.Call callee arguments span) = Holds span (callee.span ∷ expressions_spans arguments) × ExpressionsPlaced arguments
  ExpressionPlaced (e.SizeOf type span) = Holds span (type_span type.base ∷ []) × TypePlaced type.base
  ExpressionPlaced (e.Cast word type operand span) =
      Holds span (type_span type.base ∷ expression_span operand ∷ []) × TypePlaced type.base × ExpressionPlaced operand
  ExpressionPlaced (e.BoundedCast word type operand bounds span) = Holds span (type_span type.base ∷ expression_span operand ∷ bounds_span bounds ∷ [])
      × TypePlaced type.base × ExpressionPlaced operand × BoundsPlaced bounds
  ExpressionPlaced (e.Malloc word type size span) = Holds span (type_span type.base ∷ expression_span size ∷ []) × TypePlaced type.base × ExpressionPlaced size
  ExpressionPlaced (e.Calloc word type count size span) = Holds span (type_span type.base ∷ expression_span count ∷ expression_span size ∷ [])
      × TypePlaced type.base × ExpressionPlaced count × ExpressionPlaced size
  ExpressionPlaced (e.Index base index span) = Holds span (expression_span base ∷ expression_span index ∷ []) × ExpressionPlaced base × ExpressionPlaced index
  ExpressionPlaced (e.Dot base member span) = Holds span (expression_span base ∷ member.span ∷ []) × ExpressionPlaced base
  ExpressionPlaced (e.Arrow base member span) = Holds span (expression_span base ∷ member.span ∷ []) × ExpressionPlaced base
  ExpressionPlaced (e.Unary operator operand span) = Holds span (expression_span operand ∷ []) × ExpressionPlaced operand
  ExpressionPlaced (e.Binary operator left right span) =
      Holds span (expression_span left ∷ expression_span right ∷ []) × ExpressionPlaced left × ExpressionPlaced right

  pub ExpressionsPlaced : Expressions → Type 0
  ExpressionsPlaced e.NoMore = Unit {0}
  ExpressionsPlaced (e.Then first others) = ExpressionPlaced first × ExpressionsPlaced others

  pub BoundsPlaced : Bounds → Type 0
  BoundsPlaced (e.Count count span) = Holds span (expression_span count ∷ []) × ExpressionPlaced count
  BoundsPlaced (e.ByteCount count span) = Holds span (expression_span count ∷ []) × ExpressionPlaced count
  BoundsPlaced (e.Unknown span) = Holds span []
  BoundsPlaced (e.Range low high span) = Holds span (expression_span low ∷ expression_span high ∷ []) × ExpressionPlaced low × ExpressionPlaced high

abbrev pub initializer_span : Initializer → Span
initializer_span (s.Value value) = expression_span value
initializer_span (s.Constants constants span) = span

abbrev pub InitializerPlaced : Initializer → Type 0
InitializerPlaced (s.Value value) = ExpressionPlaced value
InitializerPlaced (s.Constants constants span) = Holds span (map (λ (constant : SignedConstant). constant.span) constants)

abbrev pub array_span : ArrayForm → Span
array_span array = array.span

abbrev pub DeclaratorPlaced : Declarator → Type 0
DeclaratorPlaced d =
    Holds d.span (d.name.span ∷ optional array_span d.array ++ optional bounds_span d.bounds ++ optional initializer_span d.initializer)
    × OptionalPlaced BoundsPlaced d.bounds
    × OptionalPlaced InitializerPlaced d.initializer

abbrev pub declarator_span : Declarator → Span
declarator_span d = d.span

abbrev pub DeclarationPlaced : Declaration → Type 0
DeclarationPlaced d = Holds d.span (type_span d.base ∷ map declarator_span d.declarators) × TypePlaced d.base × AllByRecursion DeclaratorPlaced d.declarators

abbrev pub AssignmentPlaced : Assignment → Type 0
AssignmentPlaced (s.Store operator target value span) =
    Holds span (expression_span target ∷ expression_span value ∷ []) × ExpressionPlaced target × ExpressionPlaced value
AssignmentPlaced (s.Step operator side target span) = Holds span (expression_span target ∷ []) × ExpressionPlaced target

abbrev pub initial_spans : ForInitial → List Span
initial_spans s.Nothing = []
initial_spans (s.Declares declaration) = declaration.span ∷ []
initial_spans (s.Assigns assignment) = assignment_span assignment ∷ []

abbrev pub InitialPlaced : ForInitial → Type 0
InitialPlaced s.Nothing = Unit {0}
InitialPlaced (s.Declares declaration) = DeclarationPlaced declaration
InitialPlaced (s.Assigns assignment) = AssignmentPlaced assignment

abbrev pub statements_spans : Statements → List Span
statements_spans s.NoMore = []
statements_spans (s.Then first others) = statement_span first ∷ statements_spans others

abbrev mutual
  pub StatementPlaced : Statement → Type 0
  StatementPlaced (s.Block mark statements span) = Holds span (statements_spans statements) × StatementsPlaced statements
  StatementPlaced (s.Bundle assignments span) = Holds span (map assignment_span assignments) × AllByRecursion AssignmentPlaced assignments
  StatementPlaced (s.Declare declaration span) = Holds span (declaration.span ∷ []) × DeclarationPlaced declaration
  StatementPlaced (s.Assign assignment span) = Holds span (assignment_span assignment ∷ []) × AssignmentPlaced assignment
  StatementPlaced (s.CallAlone call span) = Holds span (expression_span call ∷ []) × ExpressionPlaced call
  StatementPlaced (s.Empty span) = Holds span []
  StatementPlaced (s.If condition consequent span) =
      Holds span (expression_span condition ∷ statement_span consequent ∷ []) × ExpressionPlaced condition × StatementPlaced consequent
  StatementPlaced (s.IfElse condition consequent alternative span) = Holds span (expression_span condition ∷ statement_span consequent
      ∷ statement_span alternative ∷ []) × ExpressionPlaced condition × StatementPlaced consequent × StatementPlaced alternative
  StatementPlaced (s.While condition body span) =
      Holds span (expression_span condition ∷ statement_span body ∷ []) × ExpressionPlaced condition × StatementPlaced body
  StatementPlaced (s.For initial condition step body span) =
      Holds span (initial_spans initial ++ optional expression_span condition ++ optional assignment_span step ++ statement_span body ∷ [])
      × InitialPlaced initial
      × OptionalPlaced ExpressionPlaced condition
      × OptionalPlaced AssignmentPlaced step
      × StatementPlaced body
  StatementPlaced (s.Return value span) = Holds span (optional expression_span value) × OptionalPlaced ExpressionPlaced value
  StatementPlaced (s.Break span) = Holds span []
  StatementPlaced (s.Continue span) = Holds span []

  pub StatementsPlaced : Statements → Type 0
  StatementsPlaced s.NoMore = Unit {0}
  StatementsPlaced (s.Then first others) = StatementPlaced first × StatementsPlaced others

abbrev pub MemberPlaced : Member → Type 0
MemberPlaced m =
    Holds m.span (type_span m.type.base ∷ m.name.span ∷ optional bounds_span m.bounds) × TypePlaced m.type.base × OptionalPlaced BoundsPlaced m.bounds

abbrev pub member_span : Member → Span
member_span m = m.span

abbrev pub result_span : ResultForm → Span
result_span (i.Void span) = span
result_span (i.Value base) = type_span base

abbrev pub ResultPlaced : ResultForm → Type 0
ResultPlaced (i.Void span) = Holds span []
ResultPlaced (i.Value base) = TypePlaced base

abbrev pub listed : Parameters → List Member
listed i.Nothing = []
listed i.VoidAlone = []
listed (i.Listed parameters) = parameters

abbrev pub body_span : Body → Span
body_span b = b.span

abbrev pub BodyPlaced : Body → Type 0
BodyPlaced b = Holds b.span (statements_spans b.statements) × StatementsPlaced b.statements

abbrev pub item_span : Item → Span
item_span (i.RegionItem region span) = span
item_span (i.StructureItem structure) = structure.span
item_span (i.GlobalItem global) = global.span
item_span (i.FunctionItem function) = function.span

abbrev pub ItemPlaced : Item → Type 0
ItemPlaced (i.RegionItem region span) = Holds span []
ItemPlaced (i.StructureItem structure) =
    Holds structure.span (structure.tag.span ∷ map member_span structure.members) × AllByRecursion MemberPlaced structure.members
ItemPlaced (i.GlobalItem global) = Holds global.span (type_span global.base ∷ map declarator_span global.declarators) × TypePlaced global.base
    × AllByRecursion DeclaratorPlaced global.declarators
ItemPlaced (i.FunctionItem function) =
    Holds function.span (result_span function.result ∷ function.name.span ∷ map member_span (listed function.parameters)
    ++ optional bounds_span function.bounds ++ optional body_span function.body)
    × ResultPlaced function.result
    × AllByRecursion MemberPlaced (listed function.parameters)
    × OptionalPlaced BoundsPlaced function.bounds
    × OptionalPlaced BodyPlaced function.body

-- all spans of a tree stand so in a source of so many bytes
abbrev pub IsPlaced : ℕ → Tree → Type 0
IsPlaced length tree = InOrder 0 (tree.span ∷ []) length × Holds tree.span (map item_span tree.items) × AllByRecursion ItemPlaced tree.items
