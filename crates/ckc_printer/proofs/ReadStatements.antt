-- The signs of a statement that was spelled are read as the statement.
use Rattle.std.proofs.Common.{◌≡◌, ◌≤◌, Bool, true, false, List, [], ◌∷◌, ◌++◌, Option, Some, None, refl, arith}
use Rattle.std.specs.Option.{option_map}
use Rattle.std.specs.List.{flat_map}
use Rattle.ckc_text.specs.declared.place.Span.{Span}
use Rattle.ckc_lexer.specs.declared.token.Token.{Token}
use Rattle.ckc_lexer.specs.declared.token.TokenKind.{TokenKind}
use Rattle.ckc_lexer.specs.declared.keyword.Keyword.TheVariants as keywords
use Rattle.ckc_lexer.specs.declared.token.TokenKind.TheVariants as kinds
use Rattle.ckc_tree.specs.declared.stmt.Mark.{Mark}
use Rattle.ckc_tree.specs.declared.stmt.Mark.TheVariants as marks
use Rattle.ckc_tree.specs.Expressions.{Expression}
use Rattle.ckc_tree.specs.Statements as trees
use Rattle.ckc_tree.specs.Statements.{Assignment, assignment_span, ForInitial, Statement, statement_span, Statements}
use Rattle.ckc_tree.specs.Bare.{bare_expression, bare_assignment, bare_initial, bare_statement, bare_statements}
use Rattle.ckc_parser_grammar.specs.Tokens.{token, join, identifier, mark_of, next_is, else_word}
use Rattle.ckc_parser_grammar.specs.ExpressionGrammar as e
use Rattle.ckc_parser_grammar.specs.ExpressionGrammar.{SpellsExpression}
use Rattle.ckc_parser_grammar.specs.StatementGrammar as g
use Rattle.ckc_parser_grammar.specs.StatementGrammar.{SpellsForInitial, SpellsForCondition, SpellsForStep, SpellsStatement, SpellsStatements}
use Rattle.ckc_parser_grammar.proofs.Roles.{role, role_at, statement_starts}
use Rattle.ckc_printer.specs.Pieces.{Sign, One}
use Rattle.ckc_printer.specs.ExpressionPieces.{expression_pieces}
use Rattle.ckc_printer.specs.StatementPieces.{declaration_pieces, assignment_pieces, bundled_pieces, mark_kind, initial_pieces, optional_expression_pieces, optional_assignment_pieces, statement_pieces, statements_pieces}
use Rattle.ckc_printer.specs.ReadingBack.{AreSigns, one}
use Rattle.ckc_printer.proofs.SignedTokens as follow
use Rattle.ckc_printer.proofs.SignedTokens.{Read, Somewhere, Ending, ended, part}
use Rattle.ckc_printer.proofs.ReadExpressions.{read_expression, read_call}
use Rattle.ckc_printer.proofs.ReadDeclarations.{read_declaration, read_assignment, read_assignments}

-- ---- the head of a for

read_initial : {initial : ForInitial} {us r : List Token} → SpellsForInitial us initial r → (more : List Sign) (ts : List Token) → AreSigns (initial_pieces initial ++ One kinds.Semicolon ∷ more) ts → Read bare_initial (SpellsForInitial ts) initial more
read_initial g.nothing more ts (one {ts = us} b h) = record { tree = trees.Nothing; rest = us; spelled = g.nothing; same = refl; on = h }
read_initial (g.declares d) more ts h =
    let x = ended (read_declaration d more ts h) in
    record { tree = trees.Declares x.tree; rest = x.rest; spelled = g.declares x.spelled.1; same = cc; on = x.on }
read_initial (g.assigns {assignment} d) more ts h =
    let x = ended (read_assignment assignment (One kinds.Semicolon ∷ more) ts follow.semicolon h) in
    record { tree = trees.Assigns x.tree; rest = x.rest; spelled = g.assigns x.spelled.1; same = cc; on = x.on }

read_condition : (condition : Option Expression) (more : List Sign) (ts : List Token) → AreSigns (optional_expression_pieces condition ++ One kinds.Semicolon ∷ more) ts → Read (option_map bare_expression) (SpellsForCondition ts) condition more
read_condition None more ts (one {ts = us} b h) = record { tree = None; rest = us; spelled = g.absent; same = refl; on = h }
read_condition (Some condition) more ts h =
    let x = ended ((read_expression condition).alone (One kinds.Semicolon ∷ more) ts follow.semicolon h) in
    record { tree = Some x.tree; rest = x.rest; spelled = g.present x.spelled.1.1; same = cc; on = x.on }

read_step : (step : Option Assignment) (more : List Sign) (ts : List Token) → AreSigns (optional_assignment_pieces step ++ One kinds.CloseParen ∷ more) ts → Read (option_map bare_assignment) (SpellsForStep ts) step more
read_step None more ts (one {ts = us} b h) = record { tree = None; rest = us; spelled = g.absent; same = refl; on = h }
read_step (Some step) more ts h =
    let x = ended (read_assignment step (One kinds.CloseParen ∷ more) ts follow.paren h) in
    record { tree = Some x.tree; rest = x.rest; spelled = g.present x.spelled.1; same = cc; on = x.on }

-- a condition in parentheses
read_tested : (condition : Expression) (more : List Sign) (ts : List Token) → AreSigns (expression_pieces condition ++ One kinds.CloseParen ∷ more) ts → Read bare_expression (Ending kinds.CloseParen (Somewhere (SpellsExpression ts))) condition more
read_tested condition more ts h = ended ((read_expression condition).alone (One kinds.CloseParen ∷ more) ts follow.paren h)

-- ---- an else belongs to the nearest if

-- a statement, unless an else follows it here and didn't behind these tokens
abbrev Unless : List Token → List Token → Statement → List Token → Type 0
Unless old ts x rest = (next_is else_word rest ≡ true → next_is else_word old ≡ true) → SpellsStatement ts x rest

not_else : (here there : Bool) → there ≡ false → (here ≡ true → there ≡ true) → here ≡ false
not_else true there f on = let t : there ≡ true = on refl in absurd cc
not_else false there f on = refl

kind_not_else : (k : TokenKind) → 1 ≤ role k → else_word k ≡ false
kind_not_else (kinds.Keyword keywords.Else) h = absurd (omega arith)
kind_not_else _ h = refl

start_not_else : (ts : List Token) → 1 ≤ role_at ts → next_is else_word ts ≡ false
start_not_else [] h = refl
start_not_else (t ∷ ts) h = kind_not_else t.kind h

no_else : {ts r : List Token} {x : Statements} {t : Span} → SpellsStatements ts x t r → next_is else_word ts ≡ false
no_else g.none = refl
no_else (g.more {ts} d m) = start_not_else ts (statement_starts d)

-- ---- statements

pub mark_word : (mark : Mark) → mark_of (mark_kind mark) ≡ Some mark
mark_word marks.Checked = refl
mark_word marks.Unchecked = refl

-- a for from its parts, one behind the other
for_of : {initial : ForInitial} {condition : Option Expression} {step : Option Assignment} {body_statement : Statement} {more is cs ss : List Sign} {ts : List Token} (old : List Token) (s p o : Span) (x : Read bare_initial (SpellsForInitial ts) initial is) (y : Read (option_map bare_expression) (SpellsForCondition x.rest) condition cs)
    (z : Read (option_map bare_assignment) (SpellsForStep y.rest) step ss) → Read bare_statement (Unless old z.rest) body_statement more
    → Read bare_statement (Unless old (token (kinds.Keyword keywords.For) s ∷ token kinds.OpenParen p ∷ ts)) (trees.For initial condition step body_statement o) more
for_of old s p o x y z w =
    record { tree = trees.For x.tree y.tree z.tree w.tree (join s (statement_span w.tree)); rest = w.rest; spelled = λ follows. g.for x.spelled y.spelled z.spelled (w.spelled follows); same = cc; on = w.on }

mutual
  read_statement : {x : Statement} {us r : List Token} → SpellsStatement us x r → (more : List Sign) (ts : List Token) → AreSigns (statement_pieces x ++ more) ts → Read bare_statement (Unless r ts) x more
  read_statement (g.block {statements} d) more ts (one {s} {ts = us} b h) =
      let x = read_statements d more us (part (statements_pieces statements) _ more h) in
      record { tree = trees.Block None x.tree (join s x.spelled.0); rest = x.rest; spelled = λ f. g.block x.spelled.1; same = cc; on = x.on }
  read_statement (g.marked_block {statements} {mark} w d) more ts (one {s} b (one {ts = us} c h)) =
      let x = read_statements d more us (part (statements_pieces statements) _ more h) in
      record { tree = trees.Block (Some mark) x.tree (join s x.spelled.0); rest = x.rest; spelled = λ f. g.marked_block (mark_word mark) x.spelled.1; same = cc; on = x.on }
  read_statement (g.bundle {assignments} d) more ts (one {s} b (one {ts = us} c h)) =
      let x = read_assignments assignments more us (part (flat_map bundled_pieces assignments) _ more h) in
      record { tree = trees.Bundle x.tree (join s x.spelled.0); rest = x.rest; spelled = λ f. g.bundle x.spelled.1; same = cc; on = x.on }
  read_statement (g.declare {declaration} d) more ts h =
      let x = ended (read_declaration d more ts (part (declaration_pieces declaration) _ more h)) in
      record { tree = trees.Declare x.tree (join x.tree.span x.spelled.0); rest = x.rest; spelled = λ f. g.declare x.spelled.1; same = cc; on = x.on }
  read_statement (g.assign {assignment} d) more ts h =
      let x = ended (read_assignment assignment (One kinds.Semicolon ∷ more) ts follow.semicolon (part (assignment_pieces assignment) _ more h)) in
      record { tree = trees.Assign x.tree (join (assignment_span x.tree) x.spelled.0); rest = x.rest; spelled = λ f. g.assign x.spelled.1; same = cc; on = x.on }
  read_statement (g.call {call} (e.call {x = name} {s} {arguments} a)) more ts h =
      let x = ended (read_call (identifier name s) arguments s (One kinds.Semicolon ∷ more) ts (part (expression_pieces call) _ more h)) in
      record { tree = trees.CallAlone x.tree (join x.spelled.1.0 x.spelled.0); rest = x.rest; spelled = λ f. g.call x.spelled.1.1; same = cc; on = x.on }
  read_statement g.empty more ts (one {s} {ts = us} b h) = record { tree = trees.Empty s; rest = us; spelled = λ f. g.empty; same = refl; on = h }
  read_statement (g.if {condition} {consequent} c d f) more ts (one {s} b (one {ts = us} o h)) =
      let x = read_tested condition (statement_pieces consequent ++ more) us (part (expression_pieces condition) _ _ (part (expression_pieces condition ++ One kinds.CloseParen ∷ []) _ more h)) in
      let y = read_statement d more x.rest x.on in
      record { tree = trees.If x.tree y.tree (join s (statement_span y.tree)); rest = y.rest; spelled = λ follows. g.if x.spelled.1.1 (y.spelled follows) (not_else (next_is else_word y.rest) _ f follows); same = cc; on = y.on }
  read_statement (g.if_else {condition} {consequent} {alternative} c d a) more ts (one {s} b (one {ts = us} o h)) =
      let others = statement_pieces consequent ++ One (kinds.Keyword keywords.Else) ∷ statement_pieces alternative in
      let x = read_tested condition (others ++ more) us (part (expression_pieces condition) _ _ (part (expression_pieces condition ++ One kinds.CloseParen ∷ []) others more h)) in
      let y = ended (read_statement d (One (kinds.Keyword keywords.Else) ∷ (statement_pieces alternative ++ more)) x.rest (part (statement_pieces consequent) _ more x.on)) in
      let z = read_statement a more y.rest y.on in
      record { tree = trees.IfElse x.tree y.tree z.tree (join s (statement_span z.tree)); rest = z.rest; spelled = λ follows. g.if_else x.spelled.1.1 (y.spelled.1 (λ f. refl)) (z.spelled follows); same = cc; on = z.on }
  read_statement (g.while {condition} {body_statement} c d) more ts (one {s} b (one {ts = us} o h)) =
      let x = read_tested condition (statement_pieces body_statement ++ more) us (part (expression_pieces condition) _ _ (part (expression_pieces condition ++ One kinds.CloseParen ∷ []) _ more h)) in
      let y = read_statement d more x.rest x.on in
      record { tree = trees.While x.tree y.tree (join s (statement_span y.tree)); rest = y.rest; spelled = λ follows. g.while x.spelled.1.1 (y.spelled follows); same = cc; on = y.on }
  read_statement (g.for {rest} {initial} {optional} {step} {body_statement} i c st d) more ts (one {s} b (one {s = p} {ts = us} o h)) =
      let last = optional_assignment_pieces step ++ One kinds.CloseParen ∷ [] in
      let middle = optional_expression_pieces optional ++ One kinds.Semicolon ∷ last in
      let body = statement_pieces body_statement ++ more in
      let x = read_initial i (middle ++ body) us (part (initial_pieces initial) _ body (part (initial_pieces initial ++ One kinds.Semicolon ∷ middle) _ more h)) in
      let y = read_condition optional (last ++ body) x.rest (part (optional_expression_pieces optional) _ body x.on) in
      let z = read_step step body y.rest (part (optional_assignment_pieces step) _ body y.on) in
      for_of rest s p _ x y z (read_statement d more z.rest z.on)
  read_statement g.return_nothing more ts (one {s} b (one {s = t} {ts = us} c h)) = record { tree = trees.Return None (join s t); rest = us; spelled = λ f. g.return_nothing; same = refl; on = h }
  read_statement (g.return {e = value} d) more ts (one {s} {ts = us} b h) =
      let x = ended ((read_expression value).alone (One kinds.Semicolon ∷ more) us follow.semicolon (part (expression_pieces value) _ more h)) in
      record { tree = trees.Return (Some x.tree) (join s x.spelled.0); rest = x.rest; spelled = λ f. g.return x.spelled.1.1; same = cc; on = x.on }
  read_statement g.break more ts (one {s} b (one {s = t} {ts = us} c h)) = record { tree = trees.Break (join s t); rest = us; spelled = λ f. g.break; same = refl; on = h }
  read_statement g.continue more ts (one {s} b (one {s = t} {ts = us} c h)) = record { tree = trees.Continue (join s t); rest = us; spelled = λ f. g.continue; same = refl; on = h }

  pub read_statements : {x : Statements} {t : Span} {us r : List Token} → SpellsStatements us x t r → (more : List Sign) (ts : List Token) → AreSigns (statements_pieces x ++ One kinds.CloseBrace ∷ more) ts → Read bare_statements (Somewhere (SpellsStatements ts)) x more
  read_statements g.none more ts (one {s} {ts = us} b h) = record { tree = trees.NoMore; rest = us; spelled = (s, g.none); same = refl; on = h }
  read_statements (g.more {statement} {statements} d m) more ts h =
      let x = read_statement d (statements_pieces statements ++ One kinds.CloseBrace ∷ more) ts (part (statement_pieces statement) _ _ h) in
      let y = read_statements m more x.rest x.on in
      let f = no_else y.spelled.1 in
      record { tree = trees.Then x.tree y.tree; rest = y.rest; spelled = (y.spelled.0, g.more (x.spelled (λ follows. absurd cc)) y.spelled.1); same = cc; on = y.on }
