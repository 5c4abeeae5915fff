-- Which places the checks of a program name: those at which an expression, an assignment or a declaration of its tree starts.
use Rattle.std.specs.Prelude.{◌≡◌, ◌⊎◌, List, [], ◌∷◌, Option, Some, None}
use Rattle.std.proofs.Common.{ℤ}
use Rattle.ckc_text.specs.declared.code.Code.{Code}
use Rattle.ckc_text.specs.declared.place.Place.{Place}
use Rattle.ckc_text.specs.declared.place.Span.{Span}
use Rattle.act_words.specs.declared.ending.Ending.TheVariants.{Check}
use Rattle.act_words.specs.declared.settings.Settings.{Settings}
use Rattle.act_words.specs.Acts.{Act}
use Rattle.ckc_tree.specs.Expressions as e
use Rattle.ckc_tree.specs.Expressions.{Expression, Expressions}
use Rattle.ckc_tree.specs.Statements as s
use Rattle.ckc_tree.specs.Statements.{Initializer, Declarator, Declaration, Assignment, ForInitial, Statement, Statements}
use Rattle.ckc_tree.specs.Items as i
use Rattle.ckc_tree.specs.Items.{Body, Item, Tree}
use Rattle.ckc_core.specs.Core.{Core}
use Rattle.ckc_core.specs.FailedChecks.{FailsAt}
use Rattle.ckc_core.specs.Meaning.{meaning}
use Rattle.ckc_core.specs.Outcome.{Ends}
use Rattle.ckc_core.specs.States.{State}
use Rattle.region_typing_rules.specs.Operands.{Places}

-- ---- the spans of expressions, assignments and declarations

abbrev mutual
  -- the span is that of the expression, or of one in it that may be evaluated
  pub InExpression : Span → Expression → Type 0
  InExpression x (e.Number value span) = x ≡ span
  InExpression x (e.Character value span) = x ≡ span
  InExpression x (e.Text bytes span) = x ≡ span
  InExpression x (e.Name name) = x ≡ name.span
  InExpression x (e.Call callee arguments span) = (x ≡ span) ⊎ InExpressions x arguments
  InExpression x (e.SizeOf type span) = x ≡ span
  InExpression x (e.Cast word type operand span) = (x ≡ span) ⊎ InExpression x operand
  InExpression x (e.BoundedCast word type operand bounds span) = (x ≡ span) ⊎ InExpression x operand
  InExpression x (e.Malloc word type size span) = (x ≡ span) ⊎ InExpression x size
  InExpression x (e.Calloc word type count size span) = (x ≡ span) ⊎ (InExpression x count ⊎ InExpression x size)
  InExpression x (e.Index base index span) = (x ≡ span) ⊎ (InExpression x base ⊎ InExpression x index)
  InExpression x (e.Dot base member span) = (x ≡ span) ⊎ InExpression x base
  InExpression x (e.Arrow base member span) = (x ≡ span) ⊎ InExpression x base
  InExpression x (e.Unary operator operand span) = (x ≡ span) ⊎ InExpression x operand
  InExpression x (e.Binary operator left right span) = (x ≡ span) ⊎ (InExpression x left ⊎ InExpression x right)

  pub InExpressions : Span → Expressions → Type 0
  InExpressions x e.NoMore = ⊥
  InExpressions x (e.Then first others) = InExpression x first ⊎ InExpressions x others

-- in a part that may be left out
abbrev pub InOptional : {A : Type 0} → (Span → A → Type 0) → Span → Option A → Type 0
InOptional In x None = ⊥
InOptional In x (Some part) = In x part

-- in one of several parts
abbrev pub InOneOf : {A : Type 0} → (Span → A → Type 0) → Span → List A → Type 0
InOneOf In x [] = ⊥
InOneOf In x (part ∷ parts) = In x part ⊎ InOneOf In x parts

abbrev pub InInitializer : Span → Initializer → Type 0
InInitializer x (s.Value value) = InExpression x value
InInitializer x (s.Constants constants span) = ⊥

abbrev pub InDeclarator : Span → Declarator → Type 0
InDeclarator x d = InOptional InInitializer x d.initializer

abbrev pub InDeclaration : Span → Declaration → Type 0
InDeclaration x d = (x ≡ d.span) ⊎ InOneOf InDeclarator x d.declarators

abbrev pub InAssignment : Span → Assignment → Type 0
InAssignment x (s.Store operator target value span) = (x ≡ span) ⊎ (InExpression x target ⊎ InExpression x value)
InAssignment x (s.Step operator side target span) = (x ≡ span) ⊎ InExpression x target

abbrev pub InInitial : Span → ForInitial → Type 0
InInitial x s.Nothing = ⊥
InInitial x (s.Declares d) = InDeclaration x d
InInitial x (s.Assigns a) = InAssignment x a

abbrev mutual
  pub InStatement : Span → Statement → Type 0
  InStatement x (s.Block mark inner span) = InStatements x inner
  InStatement x (s.Bundle assignments span) = InOneOf InAssignment x assignments
  InStatement x (s.Declare d span) = InDeclaration x d
  InStatement x (s.Assign a span) = InAssignment x a
  InStatement x (s.CallAlone call span) = InExpression x call
  InStatement x (s.Empty span) = ⊥
  InStatement x (s.If test consequent span) = InExpression x test ⊎ InStatement x consequent
  InStatement x (s.IfElse test consequent alternative span) = InExpression x test ⊎ (InStatement x consequent ⊎ InStatement x alternative)
  InStatement x (s.While test body span) = InExpression x test ⊎ InStatement x body
  InStatement x (s.For initial test step body span) =
      InInitial x initial ⊎ (InOptional InExpression x test ⊎ (InOptional InAssignment x step ⊎ InStatement x body))
  InStatement x (s.Return value span) = InOptional InExpression x value
  InStatement x (s.Break span) = ⊥
  InStatement x (s.Continue span) = ⊥

  pub InStatements : Span → Statements → Type 0
  InStatements x s.NoMore = ⊥
  InStatements x (s.Then first others) = InStatement x first ⊎ InStatements x others

abbrev pub InBody : Span → Body → Type 0
InBody x b = InStatements x b.statements

abbrev pub InItem : Span → Item → Type 0
InItem x (i.RegionItem region span) = ⊥
InItem x (i.StructureItem structure) = ⊥
InItem x (i.GlobalItem global) = ⊥
InItem x (i.FunctionItem f) = InOptional InBody x f.body

-- an expression, an assignment or a declaration in a function of the tree stands on these bytes
abbrev pub IsNodeOf : Tree → Span → Type 0
IsNodeOf t x = InOneOf InItem x t.items

-- ---- failed checks

-- the place at which such a node of the tree starts
abbrev pub StartsNode : Places → Tree → Place → Type 0
StartsNode at t place = (span : Span) × IsNodeOf t span × (place ≡ at span.from)

-- where the run of the program ends with a check, the place that it names is the start of a node of its tree, and there the check's
-- condition is false
abbrev pub ChecksAreNamed : Places → Tree → Core → Type 0
ChecksAreNamed at t program =
    (settings : Settings) (inputs : List ℤ) (acts : List Act) (code : Code) (place : Place) (s : State)
    → meaning program settings inputs acts ≡ Ends (Check code place) s → FailsAt program settings inputs acts code place × StartsNode at t place
