-- What is spelled begins, and has put the nodes of its tree.
use Rattle.std.proofs.Common.{ℕ, suc, List, [], Option}
use Rattle.ckc_text.specs.declared.place.Span.{Span}
use Rattle.ckc_lexer.specs.declared.token.Token.{Token}
use Rattle.ckc_tree.specs.Expressions.{Expression}
use Rattle.ckc_tree.specs.Statements.{Assignment, Statement, Statements}
use Rattle.ckc_tree.specs.Items.{Body, Item, Tree}
use Rattle.ckc_tree.specs.Heights.{Reach, expression_reach, assignments_reach, statement_reach, statements_reach, optional_body_reach, item_reach, items_reach}
use Rattle.ckc_parser_grammar.specs.ExpressionGrammar as e
use Rattle.ckc_parser_grammar.specs.ExpressionGrammar.{SpellsBinary, SpellsTail, SpellsUnary, SpellsSelectors}
use Rattle.ckc_parser_grammar.specs.StatementGrammar as s
use Rattle.ckc_parser_grammar.specs.StatementGrammar.{SpellsAssignments, SpellsStatement, SpellsStatements}
use Rattle.ckc_parser_grammar.specs.ItemGrammar as i
use Rattle.ckc_parser_grammar.specs.ItemGrammar.{SpellsBody, SpellsItem, SpellsItems, SpellsProgram}
use Rattle.ckc_parser_grammar.specs.ExpressionBeginnings as eb
use Rattle.ckc_parser_grammar.specs.ExpressionBeginnings.{BeginsBinary, BeginsTail, BeginsUnary, BeginsSelectors}
use Rattle.ckc_parser_grammar.specs.StatementBeginnings as sb
use Rattle.ckc_parser_grammar.specs.StatementBeginnings.{BeginsAssignments, BeginsStatement, BeginsStatements}
use Rattle.ckc_parser_grammar.specs.ItemBeginnings as ib
use Rattle.ckc_parser_grammar.specs.ItemBeginnings.{BeginsBody, BeginsItem, BeginsItems}

pub selectors_begin : {x whole : Expression} {o w : Span} {ts r : List Token} → SpellsSelectors x o ts whole w r → BeginsSelectors x o ts r (expression_reach whole)
selectors_begin (e.unselected f) = eb.unselected
selectors_begin (e.index d s) = eb.indexed d (selectors_begin s)
selectors_begin (e.dot s) = eb.dotted (selectors_begin s)
selectors_begin (e.arrow s) = eb.pointed (selectors_begin s)

pub unary_begins : {x : Expression} {o : Span} {ts r : List Token} → SpellsUnary ts x o r → BeginsUnary ts r (expression_reach x)
unary_begins (e.operator w d) = eb.operator w (unary_begins d)
unary_begins (e.postfix p s) = eb.selectors p (selectors_begin s)

mutual
  pub binary_begins : {n : ℕ} {x : Expression} {o : Span} {ts r : List Token} → SpellsBinary n ts x o r → BeginsBinary n ts r (expression_reach x)
  binary_begins (e.operand d) = eb.operand (unary_begins d)
  binary_begins (e.operators {ts} d t) = tail_begins ts (eb.first (binary_begins d)) (λ us q b. eb.operators d b) t

  -- an expression that begins at the start up to here, and with all that goes on from here, begins there with the whole
  tail_begins : {n : ℕ} {x whole : Expression} {o w : Span} {ts r : List Token} (start : List Token) → BeginsBinary (suc n) start ts (expression_reach x) → ((us : List Token) (q : Reach) → BeginsTail n x o ts us q → BeginsBinary (suc n) start us q)
      → SpellsTail n x o ts whole w r → BeginsBinary (suc n) start r (expression_reach whole)
  tail_begins start here on (e.level_done f) = here
  tail_begins start here on (e.level_more f l d t) = tail_begins start (on _ _ (eb.right f l (binary_begins d))) (λ us q b. on us q (eb.further f l d b)) t

assignments_begin : {ts r : List Token} {list : List Assignment} {t : Span} → SpellsAssignments ts list t r → BeginsAssignments ts r (assignments_reach list)
assignments_begin s.none = sb.none
assignments_begin (s.more d m) = sb.others d (assignments_begin m)

mutual
  pub statement_begins : {ts r : List Token} {x : Statement} → SpellsStatement ts x r → BeginsStatement ts r (statement_reach x)
  statement_begins (s.block d) = sb.block (statements_begin d)
  statement_begins (s.marked_block w d) = sb.marked_block w (statements_begin d)
  statement_begins (s.bundle d) = sb.bundle (assignments_begin d)
  statement_begins (s.declare d) = sb.declare d
  statement_begins (s.assign d) = sb.assign d
  statement_begins (s.call d) = sb.call d
  statement_begins s.empty = sb.empty
  statement_begins (s.if c d f) = sb.if_consequent c (statement_begins d)
  statement_begins (s.if_else c d a) = sb.if_alternative c d (statement_begins a)
  statement_begins (s.while c d) = sb.while_body c (statement_begins d)
  statement_begins (s.for f c a d) = sb.for_body f c a (statement_begins d)
  statement_begins s.return_nothing = sb.return_nothing
  statement_begins (s.return d) = sb.return d
  statement_begins s.break = sb.break
  statement_begins s.continue = sb.continue

  pub statements_begin : {ts r : List Token} {x : Statements} {t : Span} → SpellsStatements ts x t r → BeginsStatements ts r (statements_reach x)
  statements_begin s.none = sb.none
  statements_begin (s.more d m) = sb.others d (statements_begin m)

body_begins : {ts r : List Token} {b : Option Body} {t : Span} → SpellsBody ts b t r → BeginsBody ts r (optional_body_reach b)
body_begins i.absent = ib.absent
body_begins (i.present m d) = ib.statements m (statements_begin d)

pub item_begins : {ts r : List Token} {x : Item} → SpellsItem ts x r → BeginsItem ts r (item_reach x)
item_begins (i.region w) = ib.region
item_begins (i.structure t m) = ib.structure t m
item_begins (i.global t d l) = ib.global t d l
item_begins (i.function k m d st p b y) = ib.function_body k m d st p b (body_begins y)

pub items_begin : {ts : List Token} {list : List Item} → SpellsItems ts list → BeginsItems ts [] (items_reach list)
items_begin i.none = ib.nothing
items_begin (i.more d m) = ib.others d (items_begin m)

pub whole_begins : (length : ℕ) (tokens : List Token) (t : Tree) → SpellsProgram length tokens t → BeginsItems tokens [] (items_reach t.items)
whole_begins length tokens t (i.program d) = items_begin d
