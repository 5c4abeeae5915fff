-- Each list of tokens is read as a statement or as the statements of a block, or has a refusal.
use Rattle.std.proofs.Common.{◌≡◌, ◌≤◌, ◌<◌, ◌||◌, ℕ, suc, length, Bool, true, false, List, ◌∷◌, Option, Some, None, refl, arith, sym, true≢false}
use Rattle.ckc_text.specs.declared.place.Span.{Span}
use Rattle.ckc_lexer.specs.declared.token.Token.{Token}
use Rattle.ckc_lexer.specs.declared.token.TokenKind.{TokenKind}
use Rattle.ckc_lexer.specs.declared.keyword.Keyword.TheVariants as keywords
use Rattle.ckc_lexer.specs.declared.token.TokenKind.TheVariants as kinds
use Rattle.ckc_tree.specs.declared.stmt.Mark.{Mark}
use Rattle.ckc_tree.specs.Expressions.{Expression}
use Rattle.ckc_tree.specs.Statements.{Assignment, assignment_span, ForInitial, Statement, statement_span, Block, Bundle, Declare, Assign, CallAlone, Empty, If, IfElse, While, For, Return, Break, Continue, Statements, NoMore, Then}
use Rattle.ckc_tree.specs.Heights.{◌beside◌, assignments_reach, expression_reach, for_initial_reach, optional_expression_reach, optional_assignment_reach, statement_reach, statements_reach}
use Rattle.ckc_parser_grammar.specs.Tokens.{token, join, mark_of, next_is, else_word}
use Rattle.ckc_parser_grammar.specs.ExpressionGrammar.{SpellsUnary, SpellsExpression}
use Rattle.ckc_parser_grammar.specs.StatementGrammar as g
use Rattle.ckc_parser_grammar.specs.StatementGrammar.{SpellsForInitial, SpellsForCondition, SpellsForStep, SpellsStatement, SpellsStatements}
use Rattle.ckc_parser_grammar.specs.Failures.{Failure, IsLow}
use Rattle.ckc_parser_grammar.specs.StuckTypes.{type_word, name_token}
use Rattle.ckc_parser_grammar.specs.StuckStatements as stuck
use Rattle.ckc_parser_grammar.specs.StuckStatements.{close_brace, semicolon, plain_word, assignment_word, statement_word, is_call, is_call_alone, StuckCondition, StuckStatement, StuckStatements}
use Rattle.ckc_parser_grammar.proofs.Forms.{Is, it}
use Rattle.ckc_parser_grammar.proofs.Ahead.{never, call_of}
use Rattle.ckc_parser_grammar.proofs.Paths.{low_around, low_beside}
use Rattle.ckc_parser_grammar.proofs.MoreForms.{by_next, shrinks}
use Rattle.ckc_parser_grammar.proofs.BoundsFails.{and_true}
use Rattle.ckc_parser_grammar.proofs.StatementForms as forms
use Rattle.ckc_parser_grammar.proofs.StatementForms.{IsPlain, stated, statement_high, statement_exact}
use Rattle.ckc_parser_grammar.proofs.StatementFailing.{PlainAt, plain_at, either_other}
use Rattle.ckc_parser_grammar.proofs.FewNodes.{binary_takes, for_initial_takes, for_condition_takes, for_step_takes, statement_takes}
use Rattle.ckc_parser_grammar.proofs.Reading.{Reading, read, refused, unexpected, too_deep, Next, here, other, next, Marks, marked, by_length, by_room, behind, ended}
use Rattle.ckc_parser_grammar.proofs.ReadTypes.{is_open_paren}
use Rattle.ckc_parser_grammar.proofs.ReadExpressions.{is_close_paren, expression_read, target_read}
use Rattle.ckc_parser_grammar.proofs.ReadDeclarations.{is_open_brace, is_close_brace, is_semicolon, declaration_read, assigned, assignment_read, assignments_read, for_initial_read, for_condition_read, for_step_read}

-- ---- what is read

abbrev pub ReadsStatement : ℕ → List Token → Type 0
ReadsStatement d ts = Reading {X = Statement} (λ x rest. SpellsStatement ts x rest × IsLow d (statement_reach x)) (StuckStatement d ts)

abbrev pub ReadsStatements : ℕ → List Token → Type 0
ReadsStatements d ts = Reading {X = Statements × Span} (λ x rest. SpellsStatements ts x.0 x.1 rest × IsLow d (statements_reach x.0)) (StuckStatements d ts)

-- statements are read that stand in fewer tokens
abbrev Shorter : ℕ → Type 0
Shorter n = (us : List Token) → length us < n → (d : ℕ) → d ≤ 200 → ReadsStatement d us

is_else : Marks (kinds.Keyword keywords.Else) else_word
is_else (kinds.Keyword keywords.Else) so = it
is_else _ so = absurd (true≢false (sym so))

-- ---- declarations, assignments and calls

declared : {d : ℕ} (ts : List Token) → next_is type_word ts ≡ true → ReadsStatement d ts
declared {d} ts so = ended is_semicolon (declaration_read d ts) (λ _ y. stuck.declaration so y) (λ x rest r none. stuck.declare_end r.0 r.1 none) (λ x t rest r. read (Declare x (join x.span t)) rest (g.declare r.0, r.1))

stored : {d : ℕ} (ts : List Token) → next_is assignment_word ts ≡ true → next_is name_token ts ≡ false → ReadsStatement d ts
stored {d} ts so unnamed = ended is_semicolon (assignment_read d ts) (λ _ y. stuck.assignment so unnamed y) (λ x rest r none. stuck.assign_end r.0 r.1 none) (λ x t rest r. read (Assign x (join (assignment_span x) t)) rest (g.assign r.0, r.1))

-- behind an expression that begins with a name
behind_target : {d : ℕ} {ts mid : List Token} {target : Expression} {o : Span} → d < 200 → next_is name_token ts ≡ true → SpellsUnary ts target o mid → IsLow (suc d) (expression_reach target) → ReadsStatement d ts
behind_target {d} {ts} {mid} {target} {o} room so spelled low = by (is_call_alone target mid) refl
  where
    called : {us : List Token} → Next (Is kinds.Semicolon) semicolon us → next_is semicolon us ≡ true → is_call target ≡ true → SpellsUnary ts target o us → ReadsStatement d ts
    called (here {s = t} {rest} it) ends call spelled = read (CallAlone target (join o t)) rest (g.call (call_of so spelled call), low_around d o.from (expression_reach target) low)
    called (other none) ends call spelled = never ends none

    by : (b : Bool) → is_call_alone target mid ≡ b → ReadsStatement d ts
    by true alone = let parts = and_true (is_call target) (next_is semicolon mid) alone in called (next is_semicolon mid) parts.1 parts.0 spelled
    by false alone = ended is_semicolon (assigned room spelled low (λ none. stuck.named_end so spelled low none alone) (λ k s vs w f d' is y. stuck.named_value room so d' low is y)) (λ _ y. y) (λ x rest r none. stuck.assign_end r.0 r.1 none) (λ x t rest r. read (Assign x (join (assignment_span x) t)) rest (g.assign r.0, r.1))

begun_by_name : {d : ℕ} (ts : List Token) → d < 200 → next_is name_token ts ≡ true → ReadsStatement d ts
begun_by_name {d} ts room so = behind (target_read ts (suc d)) (λ _ y. stuck.named room so y) (λ x mid r. behind_target room so r.0 r.1)

-- ---- blocks

statements_step : {m d : ℕ} → d ≤ 200 → Shorter m → (ts : List Token) → ((us : List Token) → length us < length ts → ReadsStatements d us) → length ts < m → ReadsStatements d ts
statements_step {m} {d} high shorter ts again less = marked is_close_brace (λ us. ((vs : List Token) → length vs < length us → ReadsStatements d vs) → length us < m → ReadsStatements d us) ts first (λ s us _ _. read (NoMore, s) us (g.none, omega (arith, high))) again less
  where
    first : (us : List Token) → next_is close_brace us ≡ false → ((vs : List Token) → length vs < length us → ReadsStatements d vs) → length us < m → ReadsStatements d us
    first us none again less = behind (shorter us less d high) (λ _ y. stuck.first none y)
        (λ x mid r. behind (again mid (shrinks statement_exact (stated r.0) (statement_high us mid (statement_reach x) (stated r.0)))) (λ _ y. stuck.others r.0 r.1 y)
        (λ xs rest q. read (Then x xs.0, xs.1) rest (g.more r.0 q.0, low_beside d (statement_reach x) (statements_reach xs.0) r.1 q.1)))

statements_within : {m d : ℕ} → d ≤ 200 → Shorter m → (ts : List Token) → length ts < m → ReadsStatements d ts
statements_within {m} {d} high shorter = by_length (λ ts. length ts < m → ReadsStatements d ts) (λ ts again less. statements_step high shorter ts (λ us short. again us short (omega (arith, short, less))) less)

-- behind a mark
marked_block : {m d : ℕ} {k : TokenKind} {s : Span} {w : Mark} → mark_of k ≡ Some w → d < 200 → Shorter m → (ts : List Token) → length ts < m → ReadsStatement d (token k s ∷ ts)
marked_block {m} {d} {k} {s} {w} is room shorter ts less = marked is_open_brace (λ us. length us < m → ReadsStatement d (token k s ∷ us)) ts (λ us none _. refused _ unexpected (stuck.mark room is none))
    (λ p us short. behind (statements_within (omega (arith, room)) shorter us (omega (arith, short))) (λ _ y. stuck.marked_block room is y) (λ xs rest r. read (Block (Some w) xs.0 (join s xs.1)) rest (g.marked_block is r.0, low_around d s.from (statements_reach xs.0) r.1)))
    less

bundled : {d : ℕ} {s : Span} → d < 200 → (ts : List Token) → ReadsStatement d (token (kinds.Keyword keywords.Bundled) s ∷ ts)
bundled {d} {s} room ts = marked is_open_brace (λ us. ReadsStatement d (token (kinds.Keyword keywords.Bundled) s ∷ us)) ts (λ us none. refused _ unexpected (stuck.bundle_open room none))
    (λ p us. behind (assignments_read (omega (arith, room)) us) (λ _ y. stuck.bundle room y) (λ xs rest r. read (Bundle xs.0 (join s xs.1)) rest (g.bundle r.0, low_around d s.from (assignments_reach xs.0) r.1)))

-- ---- statements with a condition

-- behind the word of such a statement: the condition, with its parentheses
conditional : {m d : ℕ} {k : TokenKind} {s : Span} → ((us : List Token) (f : Failure) → StuckCondition (suc d) us f → StuckStatement d (token k s ∷ us) f)
    → ((p q : Span) (us vs : List Token) (c : Expression × Span) → SpellsExpression us c.0 c.1 (token kinds.CloseParen q ∷ vs) → IsLow (suc d) (expression_reach c.0) → length vs < m → ReadsStatement d (token k s ∷ token kinds.OpenParen p ∷ us))
    → (ts : List Token) → length ts < m → ReadsStatement d (token k s ∷ ts)
conditional {m} {d} {k} {s} fails go ts less = marked is_open_paren (λ us. length us < m → ReadsStatement d (token k s ∷ us)) ts (λ us none _. refused _ unexpected (fails us _ (stuck.opens none)))
    (λ p us short. ended is_close_paren (expression_read us (suc d)) (λ f y. fails (token kinds.OpenParen p ∷ us) f (stuck.inside y)) (λ c rest r none. fails (token kinds.OpenParen p ∷ us) _ (stuck.close r.0 r.1 none)) (λ c q vs r. go p q us vs c r.0 r.1 (omega (arith, short, binary_takes r.0))))
    less

if_read : {m d : ℕ} {s : Span} → d < 200 → Shorter m → (ts : List Token) → length ts < m → ReadsStatement d (token (kinds.Keyword keywords.If) s ∷ ts)
if_read {m} {d} {s} room shorter = conditional (λ _ _ y. stuck.if_condition room y) consequent
  where
    consequent : (p q : Span) (us vs : List Token) (c : Expression × Span) → SpellsExpression us c.0 c.1 (token kinds.CloseParen q ∷ vs) → IsLow (suc d) (expression_reach c.0) → length vs < m → ReadsStatement d (token (kinds.Keyword keywords.If) s ∷ token kinds.OpenParen p ∷ us)
    consequent p q us vs c spelled low less = behind (shorter vs less (suc d) (omega (arith, room))) (λ _ y. stuck.if_consequent room spelled low y)
        (λ x mid r. marked is_else (λ ws. SpellsStatement vs x ws → ReadsStatement d (token (kinds.Keyword keywords.If) s ∷ token kinds.OpenParen p ∷ us)) mid
        (λ ws none one. read (If c.0 x (join s (statement_span x))) ws (g.if spelled one none, low_around d s.from _ (low_beside (suc d) (expression_reach c.0) (statement_reach x) low r.1)))
        (λ w ws one. behind (shorter ws (omega (arith, less, statement_takes one)) (suc d) (omega (arith, room))) (λ _ y. stuck.if_alternative room spelled low one r.1 y)
        (λ z rest t. read (IfElse c.0 x z (join s (statement_span z))) rest (g.if_else spelled one t.0, low_around d s.from _ (low_beside (suc d) (expression_reach c.0 beside statement_reach x) (statement_reach z) (low_beside (suc d) (expression_reach c.0) (statement_reach x) low r.1) t.1))))
        r.0)

while_read : {m d : ℕ} {s : Span} → d < 200 → Shorter m → (ts : List Token) → length ts < m → ReadsStatement d (token (kinds.Keyword keywords.While) s ∷ ts)
while_read {d} {s} room shorter = conditional (λ _ _ y. stuck.while_condition room y)
    (λ p q us vs c spelled low less. behind (shorter vs less (suc d) (omega (arith, room))) (λ _ y. stuck.while_body room spelled low y)
    (λ x rest r. read (While c.0 x (join s (statement_span x))) rest (g.while spelled r.0, low_around d s.from _ (low_beside (suc d) (expression_reach c.0) (statement_reach x) low r.1))))

-- ---- for

-- behind the head
for_body : {m d : ℕ} {s p : Span} {us vs ws xs : List Token} {i : ForInitial} {c : Option Expression} {a : Option Assignment} → d < 200 → Shorter m → SpellsForInitial us i vs → IsLow (suc d) (for_initial_reach i) → SpellsForCondition vs c ws → IsLow (suc d) (optional_expression_reach c)
    → SpellsForStep ws a xs → IsLow (suc d) (optional_assignment_reach a) → length us < m → ReadsStatement d (token (kinds.Keyword keywords.For) s ∷ token kinds.OpenParen p ∷ us)
for_body {d} {s} {us} {xs} {i} {c} {a} room shorter initial low condition low' step low'' less =
    behind (shorter xs (omega (arith, less, for_initial_takes initial, for_condition_takes condition, for_step_takes step)) (suc d) (omega (arith, room))) (λ _ y. stuck.for_body room initial low condition low' step low'' y)
    (λ x rest r. read (For i c a x (join s (statement_span x))) rest (
      g.for initial condition step r.0,
      low_around d s.from _
          (low_beside (suc d) (for_initial_reach i beside optional_expression_reach c beside optional_assignment_reach a) (statement_reach x) (low_beside (suc d) (for_initial_reach i beside optional_expression_reach c) (optional_assignment_reach a) (low_beside (suc d) (for_initial_reach i) (optional_expression_reach c) low low') low'') r.1),
    ))

for_read : {m d : ℕ} {s : Span} → d < 200 → Shorter m → (ts : List Token) → length ts < m → ReadsStatement d (token (kinds.Keyword keywords.For) s ∷ ts)
for_read {m} {d} {s} room shorter ts less = marked is_open_paren (λ us. length us < m → ReadsStatement d (token (kinds.Keyword keywords.For) s ∷ us)) ts (λ us none _. refused _ unexpected (stuck.for_open room none))
    (λ p us short. behind (for_initial_read (omega (arith, room)) us) (λ _ y. stuck.for_initial room y)
    (λ i vs r. behind (for_condition_read (omega (arith, room)) vs) (λ _ y. stuck.for_condition room r.0 r.1 y)
    (λ c ws q. behind (for_step_read (omega (arith, room)) ws) (λ _ y. stuck.for_step room r.0 r.1 q.0 q.1 y)
    (λ a xs t. for_body room shorter r.0 r.1 q.0 q.1 t.0 t.1 (omega (arith, short))))))
    less

-- ---- what leaves a statement

returned : {d : ℕ} {s : Span} {ts rest : List Token} {x : Option Expression} → d < 200 → SpellsForCondition ts x rest → IsLow (suc d) (optional_expression_reach x) → ReadsStatement d (token (kinds.Keyword keywords.Return) s ∷ ts)
returned {s} {rest} room (g.absent {s = t}) low = read (Return None (join s t)) rest (g.return_nothing, omega (arith, room))
returned {d} {s} {rest} room (g.present {s = t} {e} spelled) low = read (Return (Some e) (join s t)) rest (g.return spelled, low_around d s.from (expression_reach e) low)

break_read : {d : ℕ} {s : Span} → d < 200 → (ts : List Token) → ReadsStatement d (token (kinds.Keyword keywords.Break) s ∷ ts)
break_read {d} {s} room ts = marked is_semicolon (λ us. ReadsStatement d (token (kinds.Keyword keywords.Break) s ∷ us)) ts (λ us none. refused _ unexpected (stuck.break room none)) (λ t us. read (Break (join s t)) us (g.break, omega (arith, room)))

continue_read : {d : ℕ} {s : Span} → d < 200 → (ts : List Token) → ReadsStatement d (token (kinds.Keyword keywords.Continue) s ∷ ts)
continue_read {d} {s} room ts = marked is_semicolon (λ us. ReadsStatement d (token (kinds.Keyword keywords.Continue) s ∷ us)) ts (λ us none. refused _ unexpected (stuck.continue room none)) (λ t us. read (Continue (join s t)) us (g.continue, omega (arith, room)))

-- ---- all statements

plain_read : {m d : ℕ} {k : TokenKind} {h : forms.Plain} {s : Span} → IsPlain k h → d < 200 → Shorter m → (ts : List Token) → length ts < m → ReadsStatement d (token k s ∷ ts)
plain_read {d} {s} forms.block room shorter ts less = behind (statements_within (omega (arith, room)) shorter ts less) (λ _ y. stuck.block room y) (λ xs rest r. read (Block None xs.0 (join s xs.1)) rest (g.block r.0, low_around d s.from (statements_reach xs.0) r.1))
plain_read (forms.mark is) room shorter ts less = marked_block is room shorter ts less
plain_read forms.bundle room shorter ts less = bundled room ts
plain_read {s} forms.empty room shorter ts less = read (Empty s) ts (g.empty, omega (arith, room))
plain_read forms.if room shorter ts less = if_read room shorter ts less
plain_read forms.while room shorter ts less = while_read room shorter ts less
plain_read forms.for room shorter ts less = for_read room shorter ts less
plain_read forms.return room shorter ts less = behind (for_condition_read (omega (arith, room)) ts) (λ _ y. stuck.return room y) (λ x rest r. returned room r.0 r.1)
plain_read forms.break room shorter ts less = break_read room ts
plain_read forms.continue room shorter ts less = continue_read room ts

-- the first token of a statement
data StatementWord (k : TokenKind) : Type 0 where
  plain : PlainAt k → StatementWord k
  type : type_word k ≡ true → StatementWord k
  assigns : assignment_word k ≡ true → StatementWord k

statement_word_at : (k : TokenKind) → statement_word k ≡ true → StatementWord k
statement_word_at k so = by_plain (plain_word k) refl
  where
    by_type : (b : Bool) → type_word k ≡ b → type_word k || assignment_word k ≡ true → StatementWord k
    by_type true is rest = type is
    by_type false none rest = assigns (either_other (type_word k) (assignment_word k) rest none)

    by_plain : (b : Bool) → plain_word k ≡ b → StatementWord k
    by_plain true is = plain (plain_at k is)
    by_plain false none = by_type (type_word k) refl (either_other (plain_word k) (type_word k || assignment_word k) so none)

statement_step : (ts : List Token) → Shorter (length ts) → (d : ℕ) → d ≤ 200 → ReadsStatement d ts
statement_step ts shorter d high = by (next (λ k so. so) ts) shorter
  where
    worded : {k : TokenKind} {s : Span} {ts : List Token} → d < 200 → StatementWord k → Shorter (suc (length ts)) → ReadsStatement d (token k s ∷ ts)
    worded {ts} room (plain p) shorter = plain_read p.is room shorter ts (omega arith)
    worded {k} {s} {ts} room (type so) shorter = declared (token k s ∷ ts) so
    worded {k} {s} {ts} room (assigns so) shorter = by_next name_token (token k s ∷ ts) (λ name. begun_by_name (token k s ∷ ts) room name) (λ unnamed. stored (token k s ∷ ts) so unnamed)

    by : {ts : List Token} → Next (λ k. statement_word k ≡ true) statement_word ts → Shorter (length ts) → ReadsStatement d ts
    by (here {k} so) shorter = by_room d (λ room. worded room (statement_word_at k so) shorter) (λ full. refused _ too_deep (stuck.deep so full))
    by (other none) shorter = refused _ unexpected (stuck.no_statement none)

statement_read : (ts : List Token) (d : ℕ) → d ≤ 200 → ReadsStatement d ts
statement_read = by_length (λ ts. (d : ℕ) → d ≤ 200 → ReadsStatement d ts) statement_step

pub statements_read : {d : ℕ} → d ≤ 200 → (ts : List Token) → ReadsStatements d ts
statements_read high ts = statements_within {m = suc (length ts)} high (λ us less. statement_read us) ts (omega arith)
