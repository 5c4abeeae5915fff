-- What is printed of statements that tokens spell can be read as tokens, since these are.
use Rattle.std.proofs.Common.{◌≡◌, List, [], ◌∷◌, Option, Some, None}
use Rattle.std.proofs.lemmas.Option.{same_Some, none-some}
use Rattle.std.specs.List.{flat_map}
use Rattle.ckc_text.specs.declared.place.Span.{Span}
use Rattle.ckc_lexer.specs.declared.token.Token.{Token}
use Rattle.ckc_lexer.specs.declared.token.TokenKind.{TokenKind}
use Rattle.ckc_lexer.specs.declared.token.TokenKind.TheVariants as kinds
use Rattle.ckc_tree.specs.declared.stmt.Mark.{Mark}
use Rattle.ckc_tree.specs.declared.stmt.Mark.TheVariants as marks
use Rattle.ckc_tree.specs.declared.stmt.ArrayForm.{ArrayForm}
use Rattle.ckc_tree.specs.declared.stmt.ArrayKind.{ArrayKind}
use Rattle.ckc_tree.specs.declared.stmt.ArrayKind.TheVariants as arrays
use Rattle.ckc_tree.specs.declared.stmt.Constant.{Constant}
use Rattle.ckc_tree.specs.declared.stmt.SignedConstant.{SignedConstant}
use Rattle.ckc_tree.specs.declared.stmt.StoreOperator.{StoreOperator}
use Rattle.ckc_tree.specs.declared.stmt.StoreOperator.TheVariants as stores
use Rattle.ckc_tree.specs.declared.stmt.StepOperator.{StepOperator}
use Rattle.ckc_tree.specs.declared.stmt.StepOperator.TheVariants as steps
use Rattle.ckc_tree.specs.Expressions.{Expression, Bounds}
use Rattle.ckc_tree.specs.Statements.{Initializer, Declarator, Declaration, Assignment, ForInitial, Statement, Statements}
use Rattle.ckc_parser_grammar.specs.StatementGrammar as g
use Rattle.ckc_parser_grammar.specs.StatementGrammar.{SpellsOptionalBounds, SpellsOptionalArray, SpellsSigned, SpellsConstants, SpellsOptionalInitializer, SpellsDeclarator, SpellsDeclarators, SpellsDeclaration, SpellsAssignment, SpellsAssignments, SpellsForInitial, SpellsForCondition, SpellsForStep, SpellsStatement, SpellsStatements}
use Rattle.ckc_printer.specs.Pieces.{Sign, One, with_commas, after_commas}
use Rattle.ckc_printer.specs.StatementPieces.{optional_bounds_pieces, array_kind, array_pieces, constant_kind, constant_pieces, initializer_pieces, declarator_pieces, declaration_pieces, store_kind, step_kind, assignment_pieces, bundled_pieces, mark_kind, mark_pieces, initial_pieces, optional_expression_pieces, optional_assignment_pieces, statement_pieces, statements_pieces}
use Rattle.ckc_printer.specs.ReadingBack.{IsLexical, CanSign}
use Rattle.ckc_printer.proofs.Printable.{Lexical, Printable, Can, nothing, first, joined, target_can, stars_can, stars_on, type_can, expression_can, unary_expression_can, call_can, bounds_can}
use Rattle.ckc_parser_grammar.specs.Tokens.{constant_of}

-- others behind a comma
pub others_can : {A : Type 0} (pieces : A → List Sign) (others : List A) → Printable (with_commas pieces others) → Printable (after_commas pieces others)
others_can pieces [] p = nothing
others_can pieces (x ∷ others) p = first tt p

-- ---- declarations

pub optional_bounds_can : {o w : Span} {ts rest : List Token} {bounds : Option Bounds} → SpellsOptionalBounds o ts bounds w rest → Lexical ts → Can (optional_bounds_pieces bounds) rest
optional_bounds_can (g.absent f) h = (nothing, h)
optional_bounds_can (g.present d) h =
    let x = bounds_can d h.1 in
    (first tt x.0, x.1)

array_word_can : (kind : ArrayKind) → CanSign (One (array_kind kind))
array_word_can arrays.Checked = tt
array_word_can arrays.NullTerminated = tt

array_can : {o w : Span} {ts rest : List Token} {array : Option ArrayForm} → SpellsOptionalArray o ts array w rest → Lexical ts → Can (array_pieces array) rest
array_can (g.absent f) h = (nothing, h)
array_can (g.present {kind} w) h = (first (array_word_can kind) (first tt (first h.1.1.0 (first tt nothing))), h.1.1.1.1)

constant_can : (k : TokenKind) {c : Constant} → constant_of k ≡ Some c → IsLexical k → CanSign (One (constant_kind c))
constant_can (kinds.Number n) is h = rw (← same_Some _ _ is) h
constant_can (kinds.Character n) is h = rw (← same_Some _ _ is) h
constant_can _ is h = absurd (none-some _ is)

signed_can : {ts rest : List Token} {c : SignedConstant} → SpellsSigned ts c rest → Lexical ts → Can (constant_pieces c) rest
signed_can (g.plain {k} c) h = (first (constant_can k c h.0) nothing, h.1)
signed_can (g.minus {k} c) h = (first tt (first (constant_can k c h.1.0) nothing), h.1.1)

constants_can : {t : Span} {ts rest : List Token} {cs : List SignedConstant} → SpellsConstants ts cs t rest → Lexical ts → Can (with_commas constant_pieces cs) rest
constants_can (g.one d) h =
    let x = signed_can d h in
    (joined x.0 nothing, x.1.1)
constants_can (g.more {constants} d m) h =
    let x = signed_can d h in
    let y = constants_can m x.1.1 in
    (joined x.0 (others_can constant_pieces constants y.0), y.1)

initializer_can : {o w : Span} {ts rest : List Token} {initializer : Option Initializer} → SpellsOptionalInitializer o ts initializer w rest → Lexical ts → Can (initializer_pieces initializer) rest
initializer_can (g.absent f) h = (nothing, h)
initializer_can (g.value d) h =
    let x = expression_can d h.1 in
    (first tt x.0, x.1)
initializer_can (g.constants d) h =
    let x = constants_can d h.1.1 in
    (first tt (first tt (joined x.0 (first tt nothing))), x.1)

declarator_can : {ts rest : List Token} {d : Declarator} → SpellsDeclarator ts d rest → Lexical ts → Can (declarator_pieces d) rest
declarator_can (g.declarator {n} st a b i) h =
    let named = stars_on st h in
    let x = array_can a named.1 in
    let y = optional_bounds_can b x.1 in
    let z = initializer_can i y.1 in
    (joined (stars_can n) (first named.0 (joined x.0 (joined y.0 z.0))), z.1)

pub declarators_can : {w : Span} {ts rest : List Token} {ds : List Declarator} → SpellsDeclarators ts ds w rest → Lexical ts → Can (with_commas declarator_pieces ds) rest
declarators_can (g.one d f) h =
    let x = declarator_can d h in
    (joined x.0 nothing, x.1)
declarators_can (g.more {declarators} d m) h =
    let x = declarator_can d h in
    let y = declarators_can m x.1.1 in
    (joined x.0 (others_can declarator_pieces declarators y.0), y.1)

declaration_can : {ts rest : List Token} {d : Declaration} → SpellsDeclaration ts d rest → Lexical ts → Can (declaration_pieces d) rest
declaration_can (g.declaration t m) h =
    let x = type_can t h in
    let y = declarators_can m x.1 in
    (joined x.0 y.0, y.1)

-- ---- assignments

store_can : (w : StoreOperator) → CanSign (One (store_kind w))
store_can stores.Set = tt
store_can stores.Add = tt
store_can stores.Subtract = tt

step_word_can : (w : StepOperator) → CanSign (One (step_kind w))
step_word_can steps.Increment = tt
step_word_can steps.Decrement = tt

assignment_can : {ts rest : List Token} {a : Assignment} → SpellsAssignment ts a rest → Lexical ts → Can (assignment_pieces a) rest
assignment_can (g.store {target} {store_operator} d w v) h =
    let x = unary_expression_can d h in
    let y = expression_can v x.1.1 in
    (joined (target_can target x.0) (first (store_can store_operator) y.0), y.1)
assignment_can (g.after {target} {step_operator} d w) h =
    let x = unary_expression_can d h in
    (joined (target_can target x.0) (first (step_word_can step_operator) nothing), x.1.1)
assignment_can (g.before {target} {step_operator} w d) h =
    let x = unary_expression_can d h.1 in
    (first (step_word_can step_operator) (target_can target x.0), x.1)

assignments_can : {t : Span} {ts rest : List Token} {list : List Assignment} → SpellsAssignments ts list t rest → Lexical ts → Can (flat_map bundled_pieces list) rest
assignments_can g.none h = (nothing, h.1)
assignments_can (g.more d m) h =
    let x = assignment_can d h in
    let y = assignments_can m x.1.1 in
    (joined (joined x.0 (first tt nothing)) y.0, y.1)

-- ---- statements

initial_can : {ts rest : List Token} {initial : ForInitial} → SpellsForInitial ts initial rest → Lexical ts → Can (initial_pieces initial) rest
initial_can g.nothing h = (nothing, h.1)
initial_can (g.declares d) h =
    let x = declaration_can d h in
    (x.0, x.1.1)
initial_can (g.assigns d) h =
    let x = assignment_can d h in
    (x.0, x.1.1)

condition_can : {ts rest : List Token} {condition : Option Expression} → SpellsForCondition ts condition rest → Lexical ts → Can (optional_expression_pieces condition) rest
condition_can g.absent h = (nothing, h.1)
condition_can (g.present d) h =
    let x = expression_can d h in
    (x.0, x.1.1)

step_can : {ts rest : List Token} {step : Option Assignment} → SpellsForStep ts step rest → Lexical ts → Can (optional_assignment_pieces step) rest
step_can g.absent h = (nothing, h.1)
step_can (g.present d) h =
    let x = assignment_can d h in
    (x.0, x.1.1)

mark_word_can : (mark : Mark) → CanSign (One (mark_kind mark))
mark_word_can marks.Checked = tt
mark_word_can marks.Unchecked = tt

pub mark_can : (mark : Option Mark) → Printable (mark_pieces mark)
mark_can None = nothing
mark_can (Some mark) = first (mark_word_can mark) nothing

mutual
  statement_can : {ts rest : List Token} {x : Statement} → SpellsStatement ts x rest → Lexical ts → Can (statement_pieces x) rest
  statement_can (g.block d) h =
      let x = statements_can d h.1 in
      (first tt (joined x.0 (first tt nothing)), x.1)
  statement_can (g.marked_block {mark} w d) h =
      let x = statements_can d h.1.1 in
      (first (mark_word_can mark) (first tt (joined x.0 (first tt nothing))), x.1)
  statement_can (g.bundle d) h =
      let x = assignments_can d h.1.1 in
      (first tt (first tt (joined x.0 (first tt nothing))), x.1)
  statement_can (g.declare d) h =
      let x = declaration_can d h in
      (joined x.0 (first tt nothing), x.1.1)
  statement_can (g.assign d) h =
      let x = assignment_can d h in
      (joined x.0 (first tt nothing), x.1.1)
  statement_can (g.call d) h =
      let x = call_can d h in
      (joined x.0 (first tt nothing), x.1.1)
  statement_can g.empty h = (first tt nothing, h.1)
  statement_can (g.if c d f) h =
      let x = expression_can c h.1.1 in
      let y = statement_can d x.1.1 in
      (first tt (first tt (joined (joined x.0 (first tt nothing)) y.0)), y.1)
  statement_can (g.if_else c d a) h =
      let x = expression_can c h.1.1 in
      let y = statement_can d x.1.1 in
      let z = statement_can a y.1.1 in
      (first tt (first tt (joined (joined x.0 (first tt nothing)) (joined y.0 (first tt z.0)))), z.1)
  statement_can (g.while c d) h =
      let x = expression_can c h.1.1 in
      let y = statement_can d x.1.1 in
      (first tt (first tt (joined (joined x.0 (first tt nothing)) y.0)), y.1)
  statement_can (g.for i c s d) h =
      let x = initial_can i h.1.1 in
      let y = condition_can c x.1 in
      let z = step_can s y.1 in
      let w = statement_can d z.1 in
      (first tt (first tt (joined (joined x.0 (first tt (joined y.0 (first tt (joined z.0 (first tt nothing)))))) w.0)), w.1)
  statement_can g.return_nothing h = (first tt (first tt nothing), h.1.1)
  statement_can (g.return d) h =
      let x = expression_can d h.1 in
      (first tt (joined x.0 (first tt nothing)), x.1.1)
  statement_can g.break h = (first tt (first tt nothing), h.1.1)
  statement_can g.continue h = (first tt (first tt nothing), h.1.1)

  pub statements_can : {t : Span} {ts rest : List Token} {x : Statements} → SpellsStatements ts x t rest → Lexical ts → Can (statements_pieces x) rest
  statements_can g.none h = (nothing, h.1)
  statements_can (g.more d m) h =
      let x = statement_can d h in
      let y = statements_can m x.1 in
      (joined x.0 y.0, y.1)
