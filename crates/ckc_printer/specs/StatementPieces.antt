-- The signs of declarations and statements.
use Rattle.std.specs.Prelude.{Bool, true, false, List, [], ◌∷◌, ◌++◌, Option, Some, None}
use Rattle.std.specs.List.{flat_map}
use Rattle.ckc_lexer.specs.declared.token.TokenKind.{TokenKind}
use Rattle.ckc_lexer.specs.declared.keyword.Keyword.TheVariants as keywords
use Rattle.ckc_lexer.specs.declared.token.TokenKind.TheVariants as kinds
use Rattle.ckc_tree.specs.declared.stmt.Mark.{Mark}
use Rattle.ckc_tree.specs.declared.stmt.Mark.TheVariants as marks
use Rattle.ckc_tree.specs.declared.stmt.ArrayKind.{ArrayKind}
use Rattle.ckc_tree.specs.declared.stmt.ArrayKind.TheVariants as arrays
use Rattle.ckc_tree.specs.declared.stmt.ArrayForm.{ArrayForm}
use Rattle.ckc_tree.specs.declared.stmt.Constant.{Constant}
use Rattle.ckc_tree.specs.declared.stmt.Constant.TheVariants as constants
use Rattle.ckc_tree.specs.declared.stmt.SignedConstant.{SignedConstant}
use Rattle.ckc_tree.specs.declared.stmt.StoreOperator.{StoreOperator}
use Rattle.ckc_tree.specs.declared.stmt.StoreOperator.TheVariants as stores
use Rattle.ckc_tree.specs.declared.stmt.StepOperator.{StepOperator}
use Rattle.ckc_tree.specs.declared.stmt.StepOperator.TheVariants as steps
use Rattle.ckc_tree.specs.declared.stmt.StepSide.TheVariants.{Before, After}
use Rattle.ckc_tree.specs.Expressions.{Expression, Bounds}
use Rattle.ckc_tree.specs.Statements.{Initializer, Value, Constants, Declarator, Declaration, Assignment, Store, Step, ForInitial, Nothing}
use Rattle.ckc_tree.specs.Statements.{Declares, Assigns, Statement, Block, Bundle, Declare, Assign, CallAlone, Empty, If, IfElse, While, For}
use Rattle.ckc_tree.specs.Statements.{Return, Break, Continue, Statements, NoMore, Then}
use Rattle.ckc_printer.specs.Pieces.{Sign, One, with_commas}
use Rattle.ckc_printer.specs.TypePieces.{name_sign, stars_pieces, type_pieces}
use Rattle.ckc_printer.specs.ExpressionPieces.{expression_pieces, bounds_pieces, target_pieces}

-- ---- declarations

abbrev pub optional_bounds_pieces : Option Bounds → List Sign
optional_bounds_pieces None = []
optional_bounds_pieces (Some bounds) = One kinds.Colon ∷ bounds_pieces bounds

abbrev pub array_kind : ArrayKind → TokenKind
array_kind arrays.Checked = kinds.Keyword keywords.Checked
array_kind arrays.NullTerminated = kinds.Keyword keywords.NtChecked

abbrev pub array_pieces : Option ArrayForm → List Sign
array_pieces None = []
array_pieces (Some array) = One (array_kind array.kind) ∷ One kinds.OpenBracket ∷ One (kinds.Number array.length) ∷ One kinds.CloseBracket ∷ []

abbrev pub constant_kind : Constant → TokenKind
constant_kind (constants.Number value) = kinds.Number value
constant_kind (constants.Character value) = kinds.Character value

abbrev pub sign_pieces : Bool → List Sign
sign_pieces false = []
sign_pieces true = One kinds.Minus ∷ []

abbrev pub constant_pieces : SignedConstant → List Sign
constant_pieces signed = sign_pieces signed.negative ++ One (constant_kind signed.constant) ∷ []

abbrev pub initializer_pieces : Option Initializer → List Sign
initializer_pieces None = []
initializer_pieces (Some (Value value)) = One kinds.Equal ∷ expression_pieces value
initializer_pieces (Some (Constants listed span)) =
    One kinds.Equal ∷ One kinds.OpenBrace ∷ (with_commas constant_pieces listed ++ One kinds.CloseBrace ∷ [])

abbrev pub declarator_pieces : Declarator → List Sign
declarator_pieces d =
    stars_pieces d.stars ++ name_sign d.name ∷ (array_pieces d.array ++ (optional_bounds_pieces d.bounds ++ initializer_pieces d.initializer))

abbrev pub declaration_pieces : Declaration → List Sign
declaration_pieces d = type_pieces d.base ++ with_commas declarator_pieces d.declarators

-- ---- assignments

abbrev pub store_kind : StoreOperator → TokenKind
store_kind stores.Set = kinds.Equal
store_kind stores.Add = kinds.PlusEqual
store_kind stores.Subtract = kinds.MinusEqual

abbrev pub step_kind : StepOperator → TokenKind
step_kind steps.Increment = kinds.PlusPlus
step_kind steps.Decrement = kinds.MinusMinus

abbrev pub assignment_pieces : Assignment → List Sign
assignment_pieces (Store operator target value span) = target_pieces target ++ One (store_kind operator) ∷ expression_pieces value
assignment_pieces (Step operator Before target span) = One (step_kind operator) ∷ target_pieces target
assignment_pieces (Step operator After target span) = target_pieces target ++ One (step_kind operator) ∷ []

-- an assignment of a bundle, with its semicolon
abbrev pub bundled_pieces : Assignment → List Sign
bundled_pieces assignment = assignment_pieces assignment ++ One kinds.Semicolon ∷ []

-- ---- statements

abbrev pub mark_kind : Mark → TokenKind
mark_kind marks.Checked = kinds.Keyword keywords.Checked
mark_kind marks.Unchecked = kinds.Keyword keywords.Unchecked

abbrev pub mark_pieces : Option Mark → List Sign
mark_pieces None = []
mark_pieces (Some mark) = One (mark_kind mark) ∷ []

abbrev pub initial_pieces : ForInitial → List Sign
initial_pieces Nothing = []
initial_pieces (Declares declaration) = declaration_pieces declaration
initial_pieces (Assigns assignment) = assignment_pieces assignment

abbrev pub optional_expression_pieces : Option Expression → List Sign
optional_expression_pieces None = []
optional_expression_pieces (Some expression) = expression_pieces expression

abbrev pub optional_assignment_pieces : Option Assignment → List Sign
optional_assignment_pieces None = []
optional_assignment_pieces (Some assignment) = assignment_pieces assignment

-- the head of a for, from its word to its parenthesis
abbrev pub for_head_pieces : ForInitial → Option Expression → Option Assignment → List Sign
for_head_pieces initial condition step =
    One (kinds.Keyword keywords.For) ∷ One kinds.OpenParen ∷ (initial_pieces initial ++ One kinds.Semicolon
    ∷ (optional_expression_pieces condition ++ One kinds.Semicolon ∷ (optional_assignment_pieces step ++ One kinds.CloseParen ∷ [])))

-- the word of an if or a while, and the condition in parentheses
abbrev pub tested_pieces : TokenKind → Expression → List Sign
tested_pieces word condition = One word ∷ One kinds.OpenParen ∷ (expression_pieces condition ++ One kinds.CloseParen ∷ [])

abbrev mutual
  pub statement_pieces : Statement → List Sign
  statement_pieces (Block mark statements span) = mark_pieces mark ++ One kinds.OpenBrace ∷ (statements_pieces statements ++ One kinds.CloseBrace ∷ [])
  statement_pieces (Bundle assignments span) = One (kinds.Keyword keywords.Bundled) ∷ One kinds.OpenBrace
      ∷ (flat_map bundled_pieces assignments ++ One kinds.CloseBrace ∷ [])
  statement_pieces (Declare declaration span) = declaration_pieces declaration ++ One kinds.Semicolon ∷ []
  statement_pieces (Assign assignment span) = assignment_pieces assignment ++ One kinds.Semicolon ∷ []
  statement_pieces (CallAlone call span) = expression_pieces call ++ One kinds.Semicolon ∷ []
  statement_pieces (Empty span) = One kinds.Semicolon ∷ []
  statement_pieces (If condition consequent span) = tested_pieces (kinds.Keyword keywords.If) condition ++ statement_pieces consequent
  statement_pieces (IfElse condition consequent alternative span) =
      tested_pieces (kinds.Keyword keywords.If) condition ++ (statement_pieces consequent ++ One (kinds.Keyword keywords.Else) ∷ statement_pieces alternative)
  statement_pieces (While condition body span) = tested_pieces (kinds.Keyword keywords.While) condition ++ statement_pieces body
  statement_pieces (For initial condition step body span) = for_head_pieces initial condition step ++ statement_pieces body
  statement_pieces (Return value span) = One (kinds.Keyword keywords.Return) ∷ (optional_expression_pieces value ++ One kinds.Semicolon ∷ [])
  statement_pieces (Break span) = One (kinds.Keyword keywords.Break) ∷ One kinds.Semicolon ∷ []
  statement_pieces (Continue span) = One (kinds.Keyword keywords.Continue) ∷ One kinds.Semicolon ∷ []

  pub statements_pieces : Statements → List Sign
  statements_pieces NoMore = []
  statements_pieces (Then first others) = statement_pieces first ++ statements_pieces others
