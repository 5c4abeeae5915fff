-- The strings of each part of a tree, in the order of the source. Those in bounds aren't among them.
use Rattle.std.specs.Prelude.{ℕ, List, [], ◌∷◌, ◌++◌, Option, Some, None}
use Rattle.ckc_text.specs.declared.place.Span.{Span}
use Rattle.ckc_tree.specs.Expressions as e
use Rattle.ckc_tree.specs.Expressions.{Expression, Expressions}
use Rattle.ckc_tree.specs.Statements as s
use Rattle.ckc_tree.specs.Statements.{Initializer, Declarator, Declaration, Assignment, ForInitial, Statement, Statements}
use Rattle.ckc_tree.specs.Items.{Body}
use Rattle.ckc_tree.specs.declared.text as code

-- a string: its bytes without the zero that ends it, and where it stands
pub record Text : Type 0 where
  pub bytes : List ℕ
  pub span : Span

-- what a value of the code's type stands for
abbrev pub text : code.Text.Text → Text
text t = record { bytes = t.bytes.items; span = t.span }

abbrev mutual
  -- of a cast with bounds only what is cast: those in the bounds aren't collected
  pub expression_texts : Expression → List Text
  expression_texts (e.Number value span) = []
  expression_texts (e.Character value span) = []
  expression_texts (e.Text bytes span) = record { bytes = bytes; span = span } ∷ []
  expression_texts (e.Name name) = []
  expression_texts (e.Call callee arguments span) = expressions_texts arguments
  expression_texts (e.SizeOf type span) = []
  expression_texts (e.Cast word type operand span) = expression_texts operand
  expression_texts (e.BoundedCast word type operand bounds span) = expression_texts operand
  expression_texts (e.Malloc word type size span) = expression_texts size
  expression_texts (e.Calloc word type count size span) = expression_texts count ++ expression_texts size
  expression_texts (e.Index base index span) = expression_texts base ++ expression_texts index
  expression_texts (e.Dot base member span) = expression_texts base
  expression_texts (e.Arrow base member span) = expression_texts base
  expression_texts (e.Unary operator operand span) = expression_texts operand
  expression_texts (e.Binary operator left right span) = expression_texts left ++ expression_texts right

  pub expressions_texts : Expressions → List Text
  expressions_texts e.NoMore = []
  expressions_texts (e.Then first others) = expression_texts first ++ expressions_texts others

abbrev pub optional_texts : Option Expression → List Text
optional_texts None = []
optional_texts (Some expression) = expression_texts expression

-- a list of constants has none
abbrev pub initializer_texts : Option Initializer → List Text
initializer_texts None = []
initializer_texts (Some (s.Value value)) = expression_texts value
initializer_texts (Some (s.Constants constants span)) = []

abbrev pub declarators_texts : List Declarator → List Text
declarators_texts [] = []
declarators_texts (first ∷ others) = initializer_texts first.initializer ++ declarators_texts others

abbrev pub assignment_texts : Assignment → List Text
assignment_texts (s.Store operator target value span) = expression_texts target ++ expression_texts value
assignment_texts (s.Step operator side target span) = expression_texts target

abbrev pub assignments_texts : List Assignment → List Text
assignments_texts [] = []
assignments_texts (first ∷ others) = assignment_texts first ++ assignments_texts others

abbrev pub optional_assignment_texts : Option Assignment → List Text
optional_assignment_texts None = []
optional_assignment_texts (Some assignment) = assignment_texts assignment

abbrev pub initial_texts : ForInitial → List Text
initial_texts s.Nothing = []
initial_texts (s.Declares declaration) = declarators_texts declaration.declarators
initial_texts (s.Assigns assignment) = assignment_texts assignment

abbrev mutual
  -- the step of a for stands before its body
  pub statement_texts : Statement → List Text
  statement_texts (s.Block mark statements span) = statements_texts statements
  statement_texts (s.Bundle assignments span) = assignments_texts assignments
  statement_texts (s.Declare declaration span) = declarators_texts declaration.declarators
  statement_texts (s.Assign assignment span) = assignment_texts assignment
  statement_texts (s.CallAlone call span) = expression_texts call
  statement_texts (s.Empty span) = []
  statement_texts (s.If condition consequent span) = expression_texts condition ++ statement_texts consequent
  statement_texts (s.IfElse condition consequent alternative span) =
      expression_texts condition ++ (statement_texts consequent ++ statement_texts alternative)
  statement_texts (s.While condition body span) = expression_texts condition ++ statement_texts body
  statement_texts (s.For initial condition step body span) =
      initial_texts initial ++ (optional_texts condition ++ (optional_assignment_texts step ++ statement_texts body))
  statement_texts (s.Return value span) = optional_texts value
  statement_texts (s.Break span) = []
  statement_texts (s.Continue span) = []

  pub statements_texts : Statements → List Text
  statements_texts s.NoMore = []
  statements_texts (s.Then first others) = statement_texts first ++ statements_texts others

abbrev pub body_texts : Body → List Text
body_texts b = statements_texts b.statements
