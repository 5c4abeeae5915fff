-- Parts of statements in the code's types and in the grammar's, and statements that begin with a name.
use Rattle.std.proofs.Common.{◌≡◌, ◌<◌, ℕ, suc, length, Bool, true, false, ◌||◌, List, [], ◌∷◌, Option, Vec, Global, refl, ap, ◌∙◌, arith}
use mathlib.Core.Former.{Count}
use Rattle.ckc_text.specs.declared.place.Span.{Span}
use Rattle.ckc_lexer.specs.declared.token.Token.{Token}
use Rattle.ckc_lexer.specs.declared.keyword.Keyword.TheVariants as keywords
use Rattle.ckc_lexer.specs.declared.token.TokenKind.TheVariants as kinds
use Rattle.ckc_tree.specs.declared.stmt.Mark.{Mark}
use Rattle.ckc_tree.specs.declared.stmt.Stmt.{Stmt, Row_of-Stmt, end_of-Stmt, more_of-Stmt, items-the_row-Stmt, items_hidden-the_row-Stmt-0}
use Rattle.ckc_tree.specs.declared.stmt.Stmt.TheVariants as stmts
use Rattle.ckc_tree.specs.Expressions.{Expression}
use Rattle.ckc_tree.specs.Statements.{ForInitial, Assignment, Statement, Statements, Block, If, IfElse, While, For, Then, Return, statement_span, statement, statements}
use Rattle.ckc_tree.specs.Items.{statement_list}
use Rattle.ckc_tree.specs.Heights.{◌beside◌, around, expression_reach, optional_expression_reach, optional_assignment_reach, for_initial_reach, statement_reach}
use Rattle.ckc_parser_grammar.specs.Tokens.{token, join, next_is, else_word}
use Rattle.ckc_parser_grammar.specs.ExpressionGrammar.{SpellsUnary}
use Rattle.ckc_parser_grammar.specs.StatementGrammar as g
use Rattle.ckc_parser_grammar.specs.StatementGrammar.{SpellsForInitial, SpellsForCondition, SpellsForStep, SpellsStatement}
use Rattle.ckc_parser_grammar.specs.Failures.{Failure, unexpected, IsLow}
use Rattle.ckc_parser_grammar.specs.StuckTypes.{type_word, name_token}
use Rattle.ckc_parser_grammar.specs.StuckStatements as stuck
use Rattle.ckc_parser_grammar.specs.StuckStatements.{semicolon, plain_word, assignment_word, statement_word, is_call_alone, StuckStatement}
use Rattle.ckc_parser.specs.StatementReadings as r
use Rattle.ckc_parser.specs.StatementReadings.{SpellsCondition, SpellsEnd, IsForHead, StuckAssigned, jump_word, jump}
use Rattle.ckc_parser_grammar.proofs.Readings.{low_around}
use Rattle.ckc_parser_grammar.proofs.Paths.{low_beside, shorter, led_shorter}
use Rattle.ckc_parser_grammar.proofs.ExpressionPaths.{binary_path, call_path}
use Rattle.ckc_parser_grammar.proofs.StatementPaths.{declaration_path, assignment_path, assignments_path, statement_path, statements_path}

-- ---- the statements of a block

-- as a row
abbrev row_of : Stmt → (n : Count) × Row_of-Stmt n
row_of (stmts.Block' mark shape row span) = (_, row)
row_of _ = (_, end_of-Stmt)

statements_of_row : (n : _) (row : Row_of-Stmt n) → statements row ≡ statement_list (items-the_row-Stmt n row)
statements_of_row n end_of-Stmt = refl
statements_of_row n (more_of-Stmt first rest) = ap (Then (statement first)) (statements_of_row _ rest)

pub block_is : (mark : Option Mark) (inner : Vec Stmt Global) (span : Span) → statement (stmts.Block mark inner span) ≡ Block mark (statement_list inner.items) span
block_is mark inner span =
    let row = row_of (stmts.Block mark inner span) in
    ap (λ (all : Statements). Block mark all span) (statements_of_row row.0 row.1 ∙ ap statement_list (items_hidden-the_row-Stmt-0 inner))

-- ---- a value or none, and its semicolon

pub end_of : {ts rest : List Token} {x : Option Expression} {s : Span} → SpellsEnd ts x s rest → SpellsForCondition ts x rest
end_of r.absent = g.absent
end_of (r.present d) = g.present d

pub is_return : {ts rest : List Token} {x : Option Expression} {s start : Span} → SpellsEnd ts x s rest → SpellsStatement (token (kinds.Keyword keywords.Return) start ∷ ts) (Return x (join start s)) rest
is_return r.absent = g.return_nothing
is_return (r.present d) = g.return d

-- ---- what begins with a name

pub stuck_named : {target : Expression} {d : ℕ} {o : Span} {ts mid : List Token} {f : Failure} → d < 200 → next_is name_token ts ≡ true → SpellsUnary ts target o mid → IsLow (suc d) (expression_reach target) → is_call_alone target mid ≡ false → StuckAssigned d mid f → StuckStatement d ts f
stuck_named deep named u low alone r.no_room = stuck.statement_no_room
stuck_named deep named u low alone (r.operator none) = stuck.named_end named u low none alone
stuck_named deep named u low alone (r.value w s) = stuck.named_value deep named u low w s

-- ---- statements behind their word

pub stuck_jump : (is_break : Bool) {d : ℕ} {s : Span} {ts : List Token} → d < 200 → next_is semicolon ts ≡ false → StuckStatement d (token (jump_word is_break) s ∷ ts) (unexpected ts)
stuck_jump true deep none = stuck.break deep none
stuck_jump false deep none = stuck.continue deep none

pub is_jump : (is_break : Bool) {d : ℕ} {s end : Span} {rest : List Token} → d < 200 → SpellsStatement (token (jump_word is_break) s ∷ token kinds.Semicolon end ∷ rest) (jump is_break (join s end)) rest × IsLow d (statement_reach (jump is_break (join s end)))
is_jump true deep = (g.break, omega arith)
is_jump false deep = (g.continue, omega arith)

pub stuck_consequent : {d : ℕ} {s : Span} {ts us : List Token} {e : Expression} {f : Failure} → d < 200 → SpellsCondition ts e us → IsLow (suc d) (expression_reach e) → StuckStatement (suc d) us f → StuckStatement d (token (kinds.Keyword keywords.If) s ∷ ts) f
stuck_consequent deep (r.condition e) low fails = stuck.if_consequent deep e low fails

pub stuck_alternative : {d : ℕ} {s w : Span} {ts us vs : List Token} {e : Expression} {x : Statement} {f : Failure} → d < 200 → SpellsCondition ts e us → IsLow (suc d) (expression_reach e) → SpellsStatement us x (token (kinds.Keyword keywords.Else) w ∷ vs) → IsLow (suc d) (statement_reach x) → StuckStatement (suc d) vs f → StuckStatement d (token (kinds.Keyword keywords.If) s ∷ ts) f
stuck_alternative deep (r.condition e) low x x_low fails = stuck.if_alternative deep e low x x_low fails

pub stuck_body : {d : ℕ} {s : Span} {ts us : List Token} {e : Expression} {f : Failure} → d < 200 → SpellsCondition ts e us → IsLow (suc d) (expression_reach e) → StuckStatement (suc d) us f → StuckStatement d (token (kinds.Keyword keywords.While) s ∷ ts) f
stuck_body deep (r.condition e) low fails = stuck.while_body deep e low fails

pub stuck_for_body : {d : ℕ} {s : Span} {ts us : List Token} {initial : ForInitial} {condition : Option Expression} {step : Option Assignment} {f : Failure} → d < 200 → IsForHead d ts initial condition step us → StuckStatement (suc d) us f → StuckStatement d (token (kinds.Keyword keywords.For) s ∷ ts) f
stuck_for_body deep h fails = rw h.opened (stuck.for_body deep h.begun h.begun_low h.tested h.tested_low h.stepped h.stepped_low fails)

pub is_if : {s : Span} {ts us rest : List Token} {e : Expression} {x : Statement} → SpellsCondition ts e us → SpellsStatement us x rest → next_is else_word rest ≡ false → SpellsStatement (token (kinds.Keyword keywords.If) s ∷ ts) (If e x (join s (statement_span x))) rest
is_if (r.condition e) x none = g.if e x none

pub is_if_else : {s w : Span} {ts us vs rest : List Token} {e : Expression} {x y : Statement} → SpellsCondition ts e us → SpellsStatement us x (token (kinds.Keyword keywords.Else) w ∷ vs) → SpellsStatement vs y rest → SpellsStatement (token (kinds.Keyword keywords.If) s ∷ ts) (IfElse e x y (join s (statement_span y))) rest
is_if_else (r.condition e) x y = g.if_else e x y

pub is_while : {s : Span} {ts us rest : List Token} {e : Expression} {x : Statement} → SpellsCondition ts e us → SpellsStatement us x rest → SpellsStatement (token (kinds.Keyword keywords.While) s ∷ ts) (While e x (join s (statement_span x))) rest
is_while (r.condition e) x = g.while e x

pub is_for : {d : ℕ} {s : Span} {ts us rest : List Token} {initial : ForInitial} {condition : Option Expression} {step : Option Assignment} {x : Statement} → IsForHead d ts initial condition step us → SpellsStatement us x rest → SpellsStatement (token (kinds.Keyword keywords.For) s ∷ ts) (For initial condition step x (join s (statement_span x))) rest
is_for h x = rw h.opened (g.for h.begun h.tested h.stepped x)

pub low_for : {d : ℕ} {ts us : List Token} {initial : ForInitial} {condition : Option Expression} {step : Option Assignment} (x : Statement) (start : ℕ) → d < 200 → IsForHead d ts initial condition step us → IsLow (suc d) (statement_reach x)
    → IsLow d (around start (for_initial_reach initial beside optional_expression_reach condition beside optional_assignment_reach step beside statement_reach x))
low_for x start deep h low = low_around _ start _ deep (low_beside _ _ _ (low_beside _ _ _ (low_beside _ _ _ h.begun_low h.tested_low) h.stepped_low) low)

-- ---- which statement begins here

pub no_other_word : (ts : List Token) → next_is statement_word ts ≡ true → next_is type_word ts ≡ false → next_is assignment_word ts ≡ false → next_is plain_word ts ≡ true
no_other_word [] word typed assigned = word
no_other_word (t ∷ ts) word typed assigned = by_test (plain_word t.kind) (type_word t.kind) (assignment_word t.kind) word typed assigned
  where
    by_test : (plain typed assigned : Bool) → plain || (typed || assigned) ≡ true → typed ≡ false → assigned ≡ false → plain ≡ true
    by_test true typed assigned word not_typed not_assigned = refl
    by_test false typed assigned word not_typed not_assigned = rw (not_typed, not_assigned) at word

-- ---- how many tokens a part takes

pub condition_shorter : {ts rest : List Token} {e : Expression} → SpellsCondition ts e rest → length rest < length ts
condition_shorter (r.condition d) = omega (arith, shorter (binary_path d))

initial_shorter : {ts rest : List Token} {x : ForInitial} → SpellsForInitial ts x rest → length rest < length ts
initial_shorter g.nothing = omega arith
initial_shorter (g.declares d) = omega (arith, shorter (declaration_path 0 d))
initial_shorter (g.assigns d) = omega (arith, shorter (assignment_path d))

tested_shorter : {ts rest : List Token} {x : Option Expression} → SpellsForCondition ts x rest → length rest < length ts
tested_shorter g.absent = omega arith
tested_shorter (g.present d) = omega (arith, shorter (binary_path d))

stepped_shorter : {ts rest : List Token} {x : Option Assignment} → SpellsForStep ts x rest → length rest < length ts
stepped_shorter g.absent = omega arith
stepped_shorter (g.present d) = omega (arith, shorter (assignment_path d))

pub head_shorter : {d : ℕ} {ts rest : List Token} {initial : ForInitial} {condition : Option Expression} {step : Option Assignment} → IsForHead d ts initial condition step rest → length rest < length ts
head_shorter h = omega (arith, ap length h.opened, initial_shorter h.begun, tested_shorter h.tested, stepped_shorter h.stepped)

pub statement_shorter : {ts rest : List Token} {x : Statement} → SpellsStatement ts x rest → length rest < length ts
statement_shorter (g.block d) = omega (arith, shorter (statements_path d))
statement_shorter (g.marked_block w d) = omega (arith, shorter (statements_path d))
statement_shorter (g.bundle d) = omega (arith, shorter (assignments_path d))
statement_shorter (g.declare d) = omega (arith, shorter (declaration_path 0 d))
statement_shorter (g.assign d) = omega (arith, shorter (assignment_path d))
statement_shorter (g.call d) = omega (arith, led_shorter (call_path d))
statement_shorter g.empty = omega arith
statement_shorter (g.if e x f) = omega (arith, shorter (binary_path e), shorter (statement_path x))
statement_shorter (g.if_else e x y) = omega (arith, shorter (binary_path e), shorter (statement_path x), shorter (statement_path y))
statement_shorter (g.while e x) = omega (arith, shorter (binary_path e), shorter (statement_path x))
statement_shorter (g.for i e s x) = omega (arith, initial_shorter i, tested_shorter e, stepped_shorter s, shorter (statement_path x))
statement_shorter g.return_nothing = omega arith
statement_shorter (g.return d) = omega (arith, shorter (binary_path d))
statement_shorter g.break = omega arith
statement_shorter g.continue = omega arith
