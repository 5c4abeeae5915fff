-- Each list of tokens is read as a declaration, an assignment or a part of one, or has a refusal.
use Rattle.std.proofs.Common.{◌≡◌, ◌≤◌, ◌<◌, ℕ, suc, length, true, false, List, [], ◌∷◌, Option, Some, None, arith, refl, sym, true≢false}
use Rattle.ckc_text.specs.declared.place.Span.{Span}
use Rattle.ckc_lexer.specs.declared.token.Token.{Token}
use Rattle.ckc_lexer.specs.declared.token.TokenKind.{TokenKind}
use Rattle.ckc_lexer.specs.declared.token.TokenKind.TheVariants as kinds
use Rattle.ckc_tree.specs.declared.stmt.ArrayForm.{ArrayForm}
use Rattle.ckc_tree.specs.declared.stmt.ArrayKind.{ArrayKind}
use Rattle.ckc_tree.specs.declared.stmt.Constant.{Constant}
use Rattle.ckc_tree.specs.declared.stmt.SignedConstant.{SignedConstant}
use Rattle.ckc_tree.specs.declared.stmt.StoreOperator.{StoreOperator}
use Rattle.ckc_tree.specs.declared.stmt.StepOperator.{StepOperator}
use Rattle.ckc_tree.specs.declared.stmt.StepSide.TheVariants.{Before, After}
use Rattle.ckc_tree.specs.Types.{type_span}
use Rattle.ckc_tree.specs.Expressions.{Expression, Bounds}
use Rattle.ckc_tree.specs.Statements.{Initializer, Value, Constants, Declarator, Declaration, Assignment, Store, Step, ForInitial, Nothing, Declares, Assigns}
use Rattle.ckc_tree.specs.Heights.{nowhere, around, type_reach, expression_reach, optional_bounds_reach, optional_initializer_reach, declarator_reach, declarators_reach, declared_reach, assignment_reach, assignments_reach, for_initial_reach, optional_expression_reach, optional_assignment_reach}
use Rattle.ckc_parser_grammar.specs.Tokens.{token, join, identifier, from_first, array_kind_of, store_operator_of, step_operator_of, next_is, colon, equal, array_word, constant_of}
use Rattle.ckc_parser_grammar.specs.TypeGrammar.{SpellsStars}
use Rattle.ckc_parser_grammar.specs.ExpressionGrammar.{SpellsUnary}
use Rattle.ckc_parser_grammar.specs.StatementGrammar as g
use Rattle.ckc_parser_grammar.specs.StatementGrammar.{SpellsOptionalBounds, SpellsOptionalArray, SpellsSigned, SpellsConstants, SpellsOptionalInitializer, SpellsDeclarator, SpellsDeclarators, SpellsDeclaration, SpellsAssignment, SpellsAssignments, SpellsForInitial, SpellsForCondition, SpellsForStep}
use Rattle.ckc_parser_grammar.specs.Failures as failures
use Rattle.ckc_parser_grammar.specs.Failures.{Failure, IsLow}
use Rattle.ckc_parser_grammar.specs.StuckTypes.{type_word}
use Rattle.ckc_parser_grammar.specs.StuckExpressions.{unary_word, StuckExpression}
use Rattle.ckc_parser_grammar.specs.StuckStatements as stuck
use Rattle.ckc_parser_grammar.specs.StuckStatements.{open_bracket, open_brace, close_brace, semicolon, number_token, constant_token, minus_or_constant, comma_or_brace, assign_word, assignment_word, StuckOptionalBounds, StuckOptionalArray, StuckSigned, StuckConstants, StuckOptionalInitializer, StuckDeclarator, StuckDeclarators, StuckDeclaration, StuckAssignment, StuckAssignments, StuckForInitial, StuckForCondition, StuckForStep}
use Rattle.ckc_parser_grammar.proofs.Forms.{it}
use Rattle.ckc_parser_grammar.proofs.Paths.{low_around, low_beside}
use Rattle.ckc_parser_grammar.proofs.MoreForms.{by_next}
use Rattle.ckc_parser_grammar.proofs.FewNodes.{signed_takes, declarator_takes, assignment_takes}
use Rattle.ckc_parser_grammar.proofs.Reading.{Reading, read, refused, unexpected, too_deep, Next, here, other, next, Marks, marked, named, by_length, by_room, behind, ended}
use Rattle.ckc_parser_grammar.proofs.ReadTypes.{stars_read, type_read}
use Rattle.ckc_parser_grammar.proofs.ReadExpressions.{is_close_paren, is_close_bracket, is_comma, expression_read, target_read, written_bounds_read}
use Rattle.ckc_parser_grammar.proofs.OneMeaning.{some_word}

-- ---- marks and words

is_colon : Marks kinds.Colon colon
is_colon kinds.Colon so = it
is_colon _ so = absurd (true≢false (sym so))

is_equal : Marks kinds.Equal equal
is_equal kinds.Equal so = it
is_equal _ so = absurd (true≢false (sym so))

is_open_bracket : Marks kinds.OpenBracket open_bracket
is_open_bracket kinds.OpenBracket so = it
is_open_bracket _ so = absurd (true≢false (sym so))

pub is_open_brace : Marks kinds.OpenBrace open_brace
is_open_brace kinds.OpenBrace so = it
is_open_brace _ so = absurd (true≢false (sym so))

pub is_close_brace : Marks kinds.CloseBrace close_brace
is_close_brace kinds.CloseBrace so = it
is_close_brace _ so = absurd (true≢false (sym so))

pub is_semicolon : Marks kinds.Semicolon semicolon
is_semicolon kinds.Semicolon so = it
is_semicolon _ so = absurd (true≢false (sym so))

data IsNumber : TokenKind → Type 0 where
  number : {n : ℕ} → IsNumber (kinds.Number n)

is_number : (k : TokenKind) → number_token k ≡ true → IsNumber k
is_number (kinds.Number n) so = number
is_number _ so = absurd (true≢false (sym so))

array_word_at : (k : TokenKind) → array_word k ≡ true → (w : ArrayKind) × (array_kind_of k ≡ Some w)
array_word_at k so = some_word (array_kind_of k) so

constant_at : (k : TokenKind) → constant_token k ≡ true → (c : Constant) × (constant_of k ≡ Some c)
constant_at k so = some_word (constant_of k) so

data StartsSigned : TokenKind → Type 0 where
  minus : StartsSigned kinds.Minus
  plain : {k : TokenKind} {c : Constant} → constant_of k ≡ Some c → StartsSigned k

signed_at : (k : TokenKind) → minus_or_constant k ≡ true → StartsSigned k
signed_at kinds.Minus so = minus
signed_at (kinds.Number n) so = plain refl
signed_at (kinds.Character n) so = plain refl
signed_at _ so = absurd (true≢false (sym so))

data EndsConstant : TokenKind → Type 0 where
  comma : EndsConstant kinds.Comma
  brace : EndsConstant kinds.CloseBrace

ends_constant : (k : TokenKind) → comma_or_brace k ≡ true → EndsConstant k
ends_constant kinds.Comma so = comma
ends_constant kinds.CloseBrace so = brace
ends_constant _ so = absurd (true≢false (sym so))

data IsAssignWord : TokenKind → Type 0 where
  stores : {k : TokenKind} {w : StoreOperator} → store_operator_of k ≡ Some w → IsAssignWord k
  steps : {k : TokenKind} {w : StepOperator} → step_operator_of k ≡ Some w → IsAssignWord k

assign_word_at : (k : TokenKind) → assign_word k ≡ true → IsAssignWord k
assign_word_at kinds.Equal so = stores refl
assign_word_at kinds.PlusEqual so = stores refl
assign_word_at kinds.MinusEqual so = stores refl
assign_word_at kinds.PlusPlus so = steps refl
assign_word_at kinds.MinusMinus so = steps refl
assign_word_at _ so = absurd (true≢false (sym so))

-- the first token of an assignment
data StartsAssignment : TokenKind → Type 0 where
  step : {k : TokenKind} {w : StepOperator} → step_operator_of k ≡ Some w → StartsAssignment k
  target : {k : TokenKind} → unary_word k ≡ true → StartsAssignment k

assignment_at : (k : TokenKind) → assignment_word k ≡ true → StartsAssignment k
assignment_at kinds.PlusPlus so = step refl
assignment_at kinds.MinusMinus so = step refl
assignment_at k so = target so

-- ---- the parts of a declarator that may be left out

abbrev pub ReadsOptionalBounds : ℕ → Span → List Token → Type 0
ReadsOptionalBounds d o ts = Reading {X = Option Bounds × Span} (λ x rest. SpellsOptionalBounds o ts x.0 x.1 rest × IsLow d (optional_bounds_reach x.0)) (StuckOptionalBounds d ts)

pub optional_bounds_read : {d : ℕ} → d ≤ 200 → (o : Span) (ts : List Token) → ReadsOptionalBounds d o ts
optional_bounds_read {d} high o ts = marked is_colon (ReadsOptionalBounds d o) ts (λ us none. read (None, o) us (g.absent none, omega (arith, high)))
    (λ s us. behind (written_bounds_read us high) (λ _ y. stuck.bounds y) (λ x rest r. read (Some x.0, join o x.1) rest (g.present r.0, r.1)))

abbrev ReadsOptionalArray : Span → List Token → Type 0
ReadsOptionalArray o ts = Reading {X = Option ArrayForm × Span} (λ x rest. SpellsOptionalArray o ts x.0 x.1 rest) (StuckOptionalArray ts)

-- behind the word of an array
array_read : {k : TokenKind} {s : Span} {w : ArrayKind} → array_kind_of k ≡ Some w → (o : Span) (ts : List Token) → ReadsOptionalArray o (token k s ∷ ts)
array_read {k} {s} {w} is o ts = marked is_open_bracket (λ us. ReadsOptionalArray o (token k s ∷ us)) ts (λ us none. refused _ unexpected (stuck.opens is none)) (λ p us. sized p (next is_number us))
  where
    sized : (p : Span) {us : List Token} → Next IsNumber number_token us → ReadsOptionalArray o (token k s ∷ token kinds.OpenBracket p ∷ us)
    sized p (other none) = refused _ unexpected (stuck.length is none)
    sized p (here {s = q} {rest = us} (number {n})) = marked is_close_bracket (λ vs. ReadsOptionalArray o (token k s ∷ token kinds.OpenBracket p ∷ token (kinds.Number n) q ∷ vs)) us (λ vs none. refused _ unexpected (stuck.close is none))
        (λ t vs. read (Some (record { kind = w; length = n; span = join s t }), join o t) vs (g.present is))

optional_array_read : (o : Span) (ts : List Token) → ReadsOptionalArray o ts
optional_array_read o ts = by (next array_word_at ts)
  where
    by : {ts : List Token} → Next (λ k. (w : ArrayKind) × (array_kind_of k ≡ Some w)) array_word ts → ReadsOptionalArray o ts
    by (here {rest} w) = array_read w.1 o rest
    by (other none) = read (None, o) _ (g.absent none)

-- ---- lists of constants

abbrev ReadsSigned : List Token → Type 0
ReadsSigned ts = Reading {X = SignedConstant} (λ x rest. SpellsSigned ts x rest) (StuckSigned ts)

signed_read : (ts : List Token) → ReadsSigned ts
signed_read ts = by (next signed_at ts)
  where
    negative : {s : Span} {us : List Token} → Next (λ k. (c : Constant) × (constant_of k ≡ Some c)) constant_token us → ReadsSigned (token kinds.Minus s ∷ us)
    negative {s} (here {s = t} {rest} c) = read (record { negative = true; constant = c.0; span = join s t }) rest (g.minus c.1)
    negative (other none) = refused _ unexpected (stuck.behind_minus none)

    by : {ts : List Token} → Next StartsSigned minus_or_constant ts → ReadsSigned ts
    by (here {rest} minus) = negative (next constant_at rest)
    by (here {s} {rest} (plain {c} d)) = read (record { negative = false; constant = c; span = s }) rest (g.plain d)
    by (other none) = refused _ unexpected (stuck.no_constant none)

abbrev ReadsConstants : List Token → Type 0
ReadsConstants ts = Reading {X = List SignedConstant × Span} (λ x rest. SpellsConstants ts x.0 x.1 rest) (StuckConstants ts)

constants_step : (ts : List Token) → ((us : List Token) → length us < length ts → ReadsConstants us) → ReadsConstants ts
constants_step ts shorter = behind (signed_read ts) (λ _ y. stuck.first y) (λ x rest d. by x (next ends_constant rest) d)
  where
    by : (x : SignedConstant) {rest : List Token} → Next EndsConstant comma_or_brace rest → SpellsSigned ts x rest → ReadsConstants ts
    by x (here {rest = us} comma) d = behind (shorter us (omega (arith, signed_takes d))) (λ _ y. stuck.others d y) (λ xs rest r. read (x ∷ xs.0, xs.1) rest (g.more d r))
    by x (here {s = t} {rest} brace) d = read (x ∷ [], t) rest (g.one d)
    by x (other none) d = refused _ unexpected (stuck.end d none)

constants_read : (ts : List Token) → ReadsConstants ts
constants_read = by_length ReadsConstants constants_step

abbrev ReadsOptionalInitializer : ℕ → Span → List Token → Type 0
ReadsOptionalInitializer d o ts = Reading {X = Option Initializer × Span} (λ x rest. SpellsOptionalInitializer o ts x.0 x.1 rest × IsLow d (optional_initializer_reach x.0)) (StuckOptionalInitializer d ts)

optional_initializer_read : {d : ℕ} → d ≤ 200 → (o : Span) (ts : List Token) → ReadsOptionalInitializer d o ts
optional_initializer_read {d} high o ts = marked is_equal (ReadsOptionalInitializer d o) ts (λ us none. read (None, o) us (g.absent none, omega (arith, high)))
    (λ s us. marked is_open_brace (λ vs. ReadsOptionalInitializer d o (token kinds.Equal s ∷ vs)) us
    (λ vs none. behind (expression_read vs d) (λ _ y. stuck.value none y) (λ x rest r. read (Some (Value x.0), join o x.1) rest (g.value r.0, r.1)))
    (λ p vs. behind (constants_read vs) (λ _ y. stuck.constants y) (λ xs rest r. read (Some (Constants xs.0 (join p xs.1)), join o xs.1) rest (g.constants r, omega (arith, high)))))

-- ---- declarations

abbrev ReadsDeclarator : ℕ → List Token → Type 0
ReadsDeclarator d ts = Reading {X = Declarator} (λ x rest. SpellsDeclarator ts x rest × IsLow d (declarator_reach x)) (StuckDeclarator d ts)

-- behind the name of a variable
named_read : {d n : ℕ} {x : List ℕ} {s : Span} {ts us : List Token} → d ≤ 200 → SpellsStars ts n (token (kinds.Name x) s ∷ us) → ReadsDeclarator d ts
named_read {d} {n} {x} {s} {ts} {us} high stars = behind (optional_array_read (from_first ts s) us) (λ _ y. stuck.array stars y)
    (λ a vs r. behind (optional_bounds_read high a.1 vs) (λ _ y. stuck.bounds stars r y)
    (λ b ws q. behind (optional_initializer_read high b.1 ws) (λ _ y. stuck.initializer stars r q.0 q.1 y)
    (λ i rest p. read (record { stars = n; name = identifier x s; array = a.0; bounds = b.0; initializer = i.0; span = i.1 }) rest (g.declarator stars r q.0 p.0, low_beside d (optional_bounds_reach b.0) (optional_initializer_reach i.0) q.1 p.1))))

declarator_read : {d : ℕ} → d ≤ 200 → (ts : List Token) → ReadsDeclarator d ts
declarator_read {d} high ts = behind (stars_read ts) (λ _ y. absurd y)
    (λ n rest d'. named (λ us. SpellsStars ts n us → ReadsDeclarator d ts) rest (λ us none stars. refused _ unexpected (stuck.name stars none)) (λ x s us stars. named_read high stars) d')

abbrev pub ReadsDeclarators : ℕ → List Token → Type 0
ReadsDeclarators d ts = Reading {X = List Declarator × Span} (λ x rest. SpellsDeclarators ts x.0 x.1 rest × IsLow d (declarators_reach x.0)) (StuckDeclarators d ts)

declarators_step : {d : ℕ} → d ≤ 200 → (ts : List Token) → ((us : List Token) → length us < length ts → ReadsDeclarators d us) → ReadsDeclarators d ts
declarators_step {d} high ts shorter = behind (declarator_read high ts) (λ _ y. stuck.first y)
    (λ x rest r. marked is_comma (λ us. SpellsDeclarator ts x us → ReadsDeclarators d ts) rest
    (λ us none one. read (x ∷ [], x.span) us (g.one one none, low_beside d (declarator_reach x) nowhere r.1 (omega (arith, high))))
    (λ s us one. behind (shorter us (omega (arith, declarator_takes one))) (λ _ y. stuck.others one r.1 y)
    (λ xs rest q. read (x ∷ xs.0, xs.1) rest (g.more one q.0, low_beside d (declarator_reach x) (declarators_reach xs.0) r.1 q.1)))
    r.0)

pub declarators_read : {d : ℕ} → d ≤ 200 → (ts : List Token) → ReadsDeclarators d ts
declarators_read {d} high = by_length (ReadsDeclarators d) (declarators_step high)

abbrev pub ReadsDeclaration : ℕ → List Token → Type 0
ReadsDeclaration d ts = Reading {X = Declaration} (λ x rest. SpellsDeclaration ts x rest × IsLow d (around x.span.from (declared_reach x))) (StuckDeclaration d ts)

pub declaration_read : (d : ℕ) (ts : List Token) → ReadsDeclaration d ts
declaration_read d ts = by (next (λ k so. so) ts)
  where
    typed : {ts : List Token} → d < 200 → next_is type_word ts ≡ true → ReadsDeclaration d ts
    typed {ts} room so = behind (type_read ts (suc d)) (λ _ y. stuck.base room so y)
        (λ x us r. behind (declarators_read (omega (arith, room)) us) (λ _ y. stuck.declarators room r.0 r.1 y)
        (λ xs rest q. read (record { base = x; declarators = xs.0; span = join (type_span x) xs.1 }) rest (g.declaration r.0 q.0, low_around d (type_span x).from _ (low_beside (suc d) (type_reach x) (declarators_reach xs.0) r.1 q.1))))

    by : {ts : List Token} → Next (λ k. type_word k ≡ true) type_word ts → ReadsDeclaration d ts
    by (here so) = by_room d (λ room. typed room so) (λ full. refused _ too_deep (stuck.deep so full))
    by (other none) = refused _ unexpected (stuck.no_type none)

-- ---- assignments

abbrev pub ReadsAssignment : ℕ → List Token → Type 0
ReadsAssignment d ts = Reading {X = Assignment} (λ x rest. SpellsAssignment ts x rest × IsLow d (assignment_reach x)) (StuckAssignment d ts)

-- behind the target of an assignment; what fails there is told of the whole
pub assigned : {d : ℕ} {o : Span} {ts us : List Token} {target : Expression} {Fails : Failure → Type 0} → d < 200 → SpellsUnary ts target o us → IsLow (suc d) (expression_reach target) → (next_is assign_word us ≡ false → Fails (failures.unexpected us))
    → ((k : TokenKind) (s : Span) (vs : List Token) (w : StoreOperator) (f : Failure) → SpellsUnary ts target o (token k s ∷ vs) → store_operator_of k ≡ Some w → StuckExpression (suc d) vs f → Fails f) → Reading {X = Assignment} (λ x rest. SpellsAssignment ts x rest × IsLow d (assignment_reach x)) Fails
assigned {d} {o} {ts} {us} {target} {Fails} room spelled low none value = by (next assign_word_at us) spelled none
  where
    by : {us : List Token} → Next IsAssignWord assign_word us → SpellsUnary ts target o us → (next_is assign_word us ≡ false → Fails (failures.unexpected us)) → Reading {X = Assignment} (λ x rest. SpellsAssignment ts x rest × IsLow d (assignment_reach x)) Fails
    by (here {rest = vs} (stores {w} is)) spelled none = behind (expression_read vs (suc d)) (λ f y. value _ _ vs w f spelled is y)
        (λ x rest r. read (Store w target x.0 (join o x.1)) rest (g.store spelled is r.0, low_around d o.from _ (low_beside (suc d) (expression_reach target) (expression_reach x.0) low r.1)))
    by (here {s} {rest} (steps {w} is)) spelled none = read (Step w After target (join o s)) rest (g.after spelled is, low_around d o.from (expression_reach target) low)
    by (other is) spelled none = refused _ unexpected (none is)

pub assignment_read : (d : ℕ) (ts : List Token) → ReadsAssignment d ts
assignment_read d ts = by (next (λ k so. so) ts)
  where
    targeted : {ts : List Token} → d < 200 → next_is unary_word ts ≡ true → ReadsAssignment d ts
    targeted {ts} room so = behind (target_read ts (suc d)) (λ _ y. stuck.target room so y) (λ x rest r. assigned room r.0 r.1 (λ none. stuck.operator r.0 r.1 none) (λ k s vs w f spelled is y. stuck.value room spelled r.1 is y))

    started : {k : TokenKind} {s : Span} {ts : List Token} → d < 200 → StartsAssignment k → ReadsAssignment d (token k s ∷ ts)
    started {s} {ts} room (step {w} is) = behind (target_read ts (suc d)) (λ _ y. stuck.before room is y) (λ x rest r. read (Step w Before x.0 (join s x.1)) rest (g.before is r.0, low_around d s.from (expression_reach x.0) r.1))
    started room (target so) = targeted room so

    by : {ts : List Token} → Next (λ k. assignment_word k ≡ true) assignment_word ts → ReadsAssignment d ts
    by (here {k} so) = by_room d (λ room. started room (assignment_at k so)) (λ full. refused _ too_deep (stuck.deep so full))
    by (other none) = refused _ unexpected (stuck.no_assignment none)

abbrev pub ReadsAssignments : ℕ → List Token → Type 0
ReadsAssignments d ts = Reading {X = List Assignment × Span} (λ x rest. SpellsAssignments ts x.0 x.1 rest × IsLow d (assignments_reach x.0)) (StuckAssignments d ts)

assignments_step : {d : ℕ} → d ≤ 200 → (ts : List Token) → ((us : List Token) → length us < length ts → ReadsAssignments d us) → ReadsAssignments d ts
assignments_step {d} high ts shorter = marked is_close_brace (λ us. ((vs : List Token) → length vs < length us → ReadsAssignments d vs) → ReadsAssignments d us) ts first (λ s us _. read ([], s) us (g.none, omega (arith, high))) shorter
  where
    first : (us : List Token) → next_is close_brace us ≡ false → ((vs : List Token) → length vs < length us → ReadsAssignments d vs) → ReadsAssignments d us
    first us none shorter = ended is_semicolon (assignment_read d us) (λ _ y. stuck.first none y) (λ x rest r unmarked. stuck.end r.0 r.1 unmarked)
        (λ x s rest r. behind (shorter rest (omega (arith, assignment_takes r.0))) (λ _ y. stuck.others r.0 r.1 y)
        (λ xs rest q. read (x ∷ xs.0, xs.1) rest (g.more r.0 q.0, low_beside d (assignment_reach x) (assignments_reach xs.0) r.1 q.1)))

pub assignments_read : {d : ℕ} → d ≤ 200 → (ts : List Token) → ReadsAssignments d ts
assignments_read {d} high = by_length (ReadsAssignments d) (assignments_step high)

-- ---- the head of a for, and conditions

abbrev pub ReadsForInitial : ℕ → List Token → Type 0
ReadsForInitial d ts = Reading {X = ForInitial} (λ x rest. SpellsForInitial ts x rest × IsLow d (for_initial_reach x)) (StuckForInitial d ts)

pub for_initial_read : {d : ℕ} → d ≤ 200 → (ts : List Token) → ReadsForInitial d ts
for_initial_read {d} high ts = marked is_semicolon (ReadsForInitial d) ts (λ us none. by_next type_word us (λ so. declares us none so) (λ untyped. assigns us none untyped)) (λ s us. read Nothing us (g.nothing, omega (arith, high)))
  where
    declares : (us : List Token) → next_is semicolon us ≡ false → next_is type_word us ≡ true → ReadsForInitial d us
    declares us none so = ended is_semicolon (declaration_read d us) (λ _ y. stuck.declares none so y) (λ x rest r unmarked. stuck.declares_end r.0 r.1 unmarked) (λ x s rest r. read (Declares x) rest (g.declares r.0, r.1))

    assigns : (us : List Token) → next_is semicolon us ≡ false → next_is type_word us ≡ false → ReadsForInitial d us
    assigns us none untyped = ended is_semicolon (assignment_read d us) (λ _ y. stuck.assigns none untyped y) (λ x rest r unmarked. stuck.assigns_end r.0 r.1 unmarked) (λ x s rest r. read (Assigns x) rest (g.assigns r.0, r.1))

abbrev pub ReadsForCondition : ℕ → List Token → Type 0
ReadsForCondition d ts = Reading {X = Option Expression} (λ x rest. SpellsForCondition ts x rest × IsLow d (optional_expression_reach x)) (StuckForCondition d ts)

pub for_condition_read : {d : ℕ} → d ≤ 200 → (ts : List Token) → ReadsForCondition d ts
for_condition_read {d} high ts = marked is_semicolon (ReadsForCondition d) ts
    (λ us none. ended is_semicolon (expression_read us d) (λ _ y. stuck.present none y) (λ x rest r unmarked. stuck.end r.0 r.1 unmarked) (λ x s rest r. read (Some x.0) rest (g.present r.0, r.1)))
    (λ s us. read None us (g.absent, omega (arith, high)))

abbrev pub ReadsForStep : ℕ → List Token → Type 0
ReadsForStep d ts = Reading {X = Option Assignment} (λ x rest. SpellsForStep ts x rest × IsLow d (optional_assignment_reach x)) (StuckForStep d ts)

pub for_step_read : {d : ℕ} → d ≤ 200 → (ts : List Token) → ReadsForStep d ts
for_step_read {d} high ts = marked is_close_paren (ReadsForStep d) ts
    (λ us none. ended is_close_paren (assignment_read d us) (λ _ y. stuck.present none y) (λ x rest r unmarked. stuck.end r.0 r.1 unmarked) (λ x s rest r. read (Some x) rest (g.present r.0, r.1)))
    (λ s us. read None us (g.absent, omega (arith, high)))
