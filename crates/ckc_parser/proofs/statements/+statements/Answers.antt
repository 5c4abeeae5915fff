use Rattle.std.proofs.Common.{◌≡◌, [], ◌∷◌, ◌++◌, length, true, sym, ap, ◌∙◌, arith}
use Rattle.ckc_tree.specs.Statements.{statement}
use Rattle.ckc_lexer.specs.declared.token.TokenKind.TheVariants as kinds
use Rattle.ckc_parser_grammar.specs.Tokens.{next_is}
use Rattle.ckc_parser_grammar.specs.StuckStatements.{plain_word, statement_word}
use Rattle.ckc_parser_grammar.proofs.Readings.{begins, next, next_none, low_around}
use Rattle.ckc_parser_grammar.proofs.Lists.{goes_on, ended}
use Rattle.ckc_parser_grammar.proofs.Paths.{low_beside, shorter}
use Rattle.ckc_parser_grammar.proofs.StatementPaths.{statement_path}
use Rattle.ckc_parser.proofs.Blocks as blocks
use Rattle.ckc_parser.proofs.Blocks.{no_other_word, condition_shorter, head_shorter, statement_shorter}
use Rattle.ckc_parser_grammar.specs.StatementGrammar as g
use Rattle.ckc_parser_grammar.specs.StuckStatements as stuck
use Rattle.ckc_parser_grammar.proofs.Readings.{err}
use Rattle.ckc_parser.proofs.statements.+statements.Goals as goal

pub statement-returns-in_default : goal.statement-returns-in_default
statement-returns-in_default t c = stuck.no_statement (next_none _ _ c.in_default.ensures.cases)

pub statement-returns-then-not-starts_statement : goal.statement-returns-then-not-starts_statement
statement-returns-then-not-starts_statement t c = stuck.no_statement (next _ _ _ _ _ c.in-Some.ensures.cases.0 (sym c.if-not-starts_statement.ensures))

pub statement-returns-in_err-check : goal.statement-returns-in_err-check
statement-returns-in_err-check t c = rw (err _ _ c.from_residual.ensures.1, c.in_err-check.ensures.0, c.in-Some.ensures.cases.0) (stuck.deep (sym c.if-not-starts_statement.ensures) c.in_err-check.ensures.1)

pub statement-declared-requires-clause-typed : goal.statement-declared-requires-clause-typed
statement-declared-requires-clause-typed t c = next _ _ _ _ _ c.in-Some.ensures.cases.0 (sym c.if-starts_type.ensures)

pub statement-stored_or_called-requires-clause-word : goal.statement-stored_or_called-requires-clause-word
statement-stored_or_called-requires-clause-word t c = next _ _ _ _ _ c.in-Some.ensures.cases.0 (sym c.if-starts_assignment.ensures)

pub statement-plain-requires : goal.statement-plain-requires
statement-plain-requires t c =
    let word : next_is statement_word c.args.tokens.now.now ≡ true = next _ _ _ _ _ c.in-Some.ensures.cases.0 (sym c.if-not-starts_statement.ensures) in
    let plain : next_is plain_word c.args.tokens.now.now ≡ true = no_other_word _ word (next _ _ _ _ _ c.in-Some.ensures.cases.0 (sym c.if-starts_type.ensures)) (next _ _ _ _ _ c.in-Some.ensures.cases.0 (sym c.if-starts_assignment.ensures)) in
    (omega arith, (c.in_ok-check.ensures, plain))

pub plain-statements-requires : goal.plain-statements-requires
plain-statements-requires t c =
    let marked = ap length c.in-Ok.ensures.at in
    let opened = ap length c.in_ok-open_brace.ensures in
    (omega arith, omega arith)

pub plain-returns-in_err-open_brace : goal.plain-returns-in_err-open_brace
plain-returns-in_err-open_brace t c = rw (err _ _ c.from_residual.ensures.1, c.in_err-open_brace.ensures.reason, c.in_err-open_brace.ensures.left, c.in-Ok.ensures.at) (stuck.mark c.requires.deep c.in-Ok.ensures.says c.in_err-open_brace.ensures.other)

pub plain-returns-in_err-read : goal.plain-returns-in_err-read
plain-returns-in_err-read t c =
    rw (err _ _ c.from_residual-in_err-read.ensures.1, c.in-Ok.ensures.at, c.in_ok-open_brace.ensures) (stuck.marked_block c.requires.deep c.in-Ok.ensures.says (rw c.deeper-below.ensures at c.in_err-read.ensures))

pub plain-returns-in-Ok : goal.plain-returns-in-Ok
plain-returns-in-Ok t c =
    rw (c.in-Ok.ensures.at, c.in_ok-open_brace.ensures, c.in_ok-boxed.ensures, c.block.ensures) (g.marked_block c.in-Ok.ensures.says c.in_ok-read.ensures.0, low_around _ _ _ c.requires.deep (rw c.deeper-below.ensures at c.in_ok-read.ensures.1))

pub plain-statements-requires-in-Ok-open_brace : goal.plain-statements-requires-in-Ok-open_brace
plain-statements-requires-in-Ok-open_brace t c =
    let same = ap length c.in_default.ensures.left in
    let opened = ap length c.in-Ok-open_brace.ensures in
    (omega arith, omega arith)

pub plain-returns-in_err-inner : goal.plain-returns-in_err-inner
plain-returns-in_err-inner t c = rw (err _ _ c.from_residual-in_err-inner.ensures.1, ← c.in_default.ensures.left, c.in-Ok-open_brace.ensures) (stuck.block c.requires.deep (rw c.deeper-below.ensures at c.in_err-inner.ensures))

pub plain-returns-in-Ok-open_brace : goal.plain-returns-in-Ok-open_brace
plain-returns-in-Ok-open_brace t c =
    rw (← c.in_default.ensures.left, c.in-Ok-open_brace.ensures, c.in_ok-boxed-2.ensures, c.block-in-Ok-open_brace.ensures) (g.block c.in_ok-inner.ensures.0, low_around _ _ _ c.requires.deep (rw c.deeper-below.ensures at c.in_ok-inner.ensures.1))

pub plain-if_statement-requires : goal.plain-if_statement-requires
plain-if_statement-requires t c =
    let less = ap length (rw (c.in_default-open_brace.ensures.left, c.in_default.ensures.left) at c.in-Some.ensures.cases.0) in
    (omega arith, c.requires.deep)

pub plain-while_statement-requires : goal.plain-while_statement-requires
plain-while_statement-requires t c =
    let less = ap length (rw (c.in_default-open_brace.ensures.left, c.in_default.ensures.left) at c.in-Some.ensures.cases.0) in
    (omega arith, c.requires.deep)

pub plain-for_statement-requires : goal.plain-for_statement-requires
plain-for_statement-requires t c =
    let less = ap length (rw (c.in_default-open_brace.ensures.left, c.in_default.ensures.left) at c.in-Some.ensures.cases.0) in
    (omega arith, c.requires.deep)

pub plain-returns-in-Keyword-Bundled : goal.plain-returns-in-Keyword-Bundled
plain-returns-in-Keyword-Bundled t c = rw (begins _ _ _ _ (rw (c.in_default-open_brace.ensures.left, c.in_default.ensures.left) at c.in-Some.ensures.cases.0) (c.in-Keyword-Bundled.is ∙ ap kinds.Keyword (rw c.in-Keyword-Bundled.is at c.in-Keyword-Bundled.field-0-is))) c.bundle.ensures

pub plain-returns-in-Keyword-If : goal.plain-returns-in-Keyword-If
plain-returns-in-Keyword-If t c = rw (begins _ _ _ _ (rw (c.in_default-open_brace.ensures.left, c.in_default.ensures.left) at c.in-Some.ensures.cases.0) (c.in-Keyword-If.is ∙ ap kinds.Keyword (rw c.in-Keyword-If.is at c.in-Keyword-If.field-0-is))) c.if_statement.ensures

pub plain-returns-in-Keyword-While : goal.plain-returns-in-Keyword-While
plain-returns-in-Keyword-While t c = rw (begins _ _ _ _ (rw (c.in_default-open_brace.ensures.left, c.in_default.ensures.left) at c.in-Some.ensures.cases.0) (c.in-Keyword-While.is ∙ ap kinds.Keyword (rw c.in-Keyword-While.is at c.in-Keyword-While.field-0-is))) c.while_statement.ensures

pub plain-returns-in-Keyword-For : goal.plain-returns-in-Keyword-For
plain-returns-in-Keyword-For t c = rw (begins _ _ _ _ (rw (c.in_default-open_brace.ensures.left, c.in_default.ensures.left) at c.in-Some.ensures.cases.0) (c.in-Keyword-For.is ∙ ap kinds.Keyword (rw c.in-Keyword-For.is at c.in-Keyword-For.field-0-is))) c.for_statement.ensures

pub plain-returns-in-Keyword-Return : goal.plain-returns-in-Keyword-Return
plain-returns-in-Keyword-Return t c = rw (begins _ _ _ _ (rw (c.in_default-open_brace.ensures.left, c.in_default.ensures.left) at c.in-Some.ensures.cases.0) (c.in-Keyword-Return.is ∙ ap kinds.Keyword (rw c.in-Keyword-Return.is at c.in-Keyword-Return.field-0-is))) c.return_statement.ensures

pub plain-returns-in-Keyword-Break : goal.plain-returns-in-Keyword-Break
plain-returns-in-Keyword-Break t c = rw (begins _ _ _ _ (rw (c.in_default-open_brace.ensures.left, c.in_default.ensures.left) at c.in-Some.ensures.cases.0) (c.in-Keyword-Break.is ∙ ap kinds.Keyword (rw c.in-Keyword-Break.is at c.in-Keyword-Break.field-0-is))) (c.jump.ensures _ c.requires.deep)

pub plain-returns-in-Keyword-Continue : goal.plain-returns-in-Keyword-Continue
plain-returns-in-Keyword-Continue t c = rw (begins _ _ _ _ (rw (c.in_default-open_brace.ensures.left, c.in_default.ensures.left) at c.in-Some.ensures.cases.0) (c.in-Keyword-Continue.is ∙ ap kinds.Keyword (rw c.in-Keyword-Continue.is at c.in-Keyword-Continue.field-0-is))) (c.jump-in-Keyword-Continue.ensures _ c.requires.deep)

pub plain-returns-in_err-boxed : goal.plain-returns-in_err-boxed
plain-returns-in_err-boxed t c = rw (err _ _ c.from_residual-in_err-boxed.ensures.1) stuck.statement_no_room

pub plain-returns-in_err-boxed-2 : goal.plain-returns-in_err-boxed-2
plain-returns-in_err-boxed-2 t c = rw (err _ _ c.from_residual-in_err-boxed-2.ensures.1) stuck.statement_no_room

pub plain-returns-in_err-boxed-in-Semicolon : goal.plain-returns-in_err-boxed-in-Semicolon
plain-returns-in_err-boxed-in-Semicolon t c = rw (err _ _ c.from_residual-in_err-boxed-in-Semicolon.ensures.1) stuck.statement_no_room

pub plain-returns-in_ok-boxed-in-Semicolon : goal.plain-returns-in_ok-boxed-in-Semicolon
plain-returns-in_ok-boxed-in-Semicolon t c = rw (begins _ _ _ _ (rw (c.in_default-open_brace.ensures.left, c.in_default.ensures.left) at c.in-Some.ensures.cases.0) c.in-Semicolon.is, c.in_ok-boxed-in-Semicolon.ensures) (g.empty, omega arith)

pub statements-returns-in-Ok : goal.statements-returns-in-Ok
statements-returns-in-Ok t c = ended c.statements.invariant.0 (rw c.in-Ok.ensures (g.none, omega arith))

pub statements-returns-in_err-item : goal.statements-returns-in_err-item
statements-returns-in_err-item t c = rw (err _ _ c.from_residual.ensures.1) (c.statements.invariant.0.fails _ (stuck.first c.in_default.ensures.other (rw c.in_default.ensures.left at c.in_err-item.ensures)))

pub statements-returns-in_err-push : goal.statements-returns-in_err-push
statements-returns-in_err-push t c = rw (err _ _ c.from_residual-in_err-push.ensures.1) stuck.statements_no_room

pub statements-statements-smaller : goal.statements-statements-smaller
statements-statements-smaller t c = omega (arith, ap length c.in_default.ensures.left, statement_shorter c.in_ok-item.ensures.0)

pub statements-statements-preserved : goal.statements-statements-preserved
statements-statements-preserved t c =
    let item = rw c.in_default.ensures.left at c.in_ok-item.ensures.0 in (
      goes_on c.in_ok-item.item.value (c.in_ok-push.ensures ∙ ap (λ x. c.statements.form.items ++ x ∷ []) c.into_inner.ensures) c.statements.invariant.0
          (λ more w end d. (g.more item d.0, low_beside _ _ _ c.in_ok-item.ensures.1 d.1))
          (λ f d. stuck.others item c.in_ok-item.ensures.1 d),
      omega (arith, statement_shorter item, c.statements.invariant.1),
    )

pub statements-statement-requires : goal.statements-statement-requires
statements-statement-requires t c =
    let same = ap length c.in_default.ensures.left in
    let less = c.statements.invariant.1 in
    (omega arith, c.requires)

pub if_statement-statement-requires : goal.if_statement-statement-requires
if_statement-statement-requires t c = let less = condition_shorter c.in_ok-condition.ensures.0 in (omega arith, omega arith)

pub if_statement-statement-requires-in-Ok : goal.if_statement-statement-requires-in-Ok
if_statement-statement-requires-in-Ok t c =
    let less = condition_shorter c.in_ok-condition.ensures.0 in
    let behind = shorter (statement_path c.in_ok-consequent.ensures.0) in
    let further = ap length c.in-Ok.ensures in
    (omega arith, omega arith)

pub if_statement-returns-in_err-condition : goal.if_statement-returns-in_err-condition
if_statement-returns-in_err-condition t c = rw (err _ _ c.from_residual.ensures.1) (stuck.if_condition c.requires (rw c.deeper-below.ensures at c.in_err-condition.ensures))

pub if_statement-returns-in_err-consequent : goal.if_statement-returns-in_err-consequent
if_statement-returns-in_err-consequent t c =
    rw (err _ _ c.from_residual-in_err-consequent.ensures.1)
    (blocks.stuck_consequent c.requires c.in_ok-condition.ensures.0 (rw c.deeper-below.ensures at c.in_ok-condition.ensures.1) (rw c.deeper-below.ensures at c.in_err-consequent.ensures))

pub if_statement-returns-in_err-alternative : goal.if_statement-returns-in_err-alternative
if_statement-returns-in_err-alternative t c =
    let consequent = rw c.in-Ok.ensures at c.in_ok-consequent.ensures.0 in
    rw (err _ _ c.from_residual-in_err-alternative.ensures.1)
    (blocks.stuck_alternative c.requires c.in_ok-condition.ensures.0 (rw c.deeper-below.ensures at c.in_ok-condition.ensures.1) consequent (rw c.deeper-below.ensures at c.in_ok-consequent.ensures.1) (rw c.deeper-below.ensures at c.in_err-alternative.ensures))

pub if_statement-returns-in_err-boxed : goal.if_statement-returns-in_err-boxed
if_statement-returns-in_err-boxed t c = rw (err _ _ c.from_residual-in_err-boxed.ensures.1) stuck.statement_no_room

pub if_statement-returns-in-Ok : goal.if_statement-returns-in-Ok
if_statement-returns-in-Ok t c =
    let consequent = rw c.in-Ok.ensures at c.in_ok-consequent.ensures.0 in
    let condition_low = rw c.deeper-below.ensures at c.in_ok-condition.ensures.1 in
    let consequent_low = rw c.deeper-below.ensures at c.in_ok-consequent.ensures.1 in
    rw (c.in_ok-boxed.ensures, c.if_else.ensures, c.join-span.ensures, c.span.ensures, c.deref.ensures)
    (blocks.is_if_else c.in_ok-condition.ensures.0 consequent c.in_ok-alternative.ensures.0, low_around _ _ _ c.requires (low_beside _ _ _ (low_beside _ _ _ condition_low consequent_low) (rw c.deeper-below.ensures at c.in_ok-alternative.ensures.1)))

pub if_statement-returns-in_err-boxed-2 : goal.if_statement-returns-in_err-boxed-2
if_statement-returns-in_err-boxed-2 t c = rw (err _ _ c.from_residual-in_err-boxed-2.ensures.1) stuck.statement_no_room

pub if_statement-returns : goal.if_statement-returns
if_statement-returns t c =
    let condition_low = rw c.deeper-below.ensures at c.in_ok-condition.ensures.1 in
    rw (c.in_default.ensures.left, c.in_ok-boxed-2.ensures, c.if_alone.ensures, c.join-span-2.ensures, c.span-2.ensures, c.deref-2.ensures)
    (blocks.is_if c.in_ok-condition.ensures.0 c.in_ok-consequent.ensures.0 c.in_default.ensures.other, low_around _ _ _ c.requires (low_beside _ _ _ condition_low (rw c.deeper-below.ensures at c.in_ok-consequent.ensures.1)))

pub while_statement-statement-requires : goal.while_statement-statement-requires
while_statement-statement-requires t c = let less = condition_shorter c.in_ok-condition.ensures.0 in (omega arith, omega arith)

pub while_statement-returns-in_err-condition : goal.while_statement-returns-in_err-condition
while_statement-returns-in_err-condition t c = rw (err _ _ c.from_residual.ensures.1) (stuck.while_condition c.requires (rw c.deeper-below.ensures at c.in_err-condition.ensures))

pub while_statement-returns-in_err-body : goal.while_statement-returns-in_err-body
while_statement-returns-in_err-body t c =
    rw (err _ _ c.from_residual-in_err-body.ensures.1)
    (blocks.stuck_body c.requires c.in_ok-condition.ensures.0 (rw c.deeper-below.ensures at c.in_ok-condition.ensures.1) (rw c.deeper-below.ensures at c.in_err-body.ensures))

pub while_statement-returns-in_err-boxed : goal.while_statement-returns-in_err-boxed
while_statement-returns-in_err-boxed t c = rw (err _ _ c.from_residual-in_err-boxed.ensures.1) stuck.statement_no_room

pub while_statement-returns : goal.while_statement-returns
while_statement-returns t c =
    let condition_low = rw c.deeper-below.ensures at c.in_ok-condition.ensures.1 in
    rw (c.in_ok-boxed.ensures, c.while_loop.ensures, c.join-span.ensures, c.span.ensures, c.deref.ensures)
    (blocks.is_while c.in_ok-condition.ensures.0 c.in_ok-body.ensures.0, low_around _ _ _ c.requires (low_beside _ _ _ condition_low (rw c.deeper-below.ensures at c.in_ok-body.ensures.1)))

pub for_statement-statement-requires : goal.for_statement-statement-requires
for_statement-statement-requires t c = let less = head_shorter c.in_ok-head.ensures in (omega arith, omega arith)

pub for_statement-returns-in_err-head : goal.for_statement-returns-in_err-head
for_statement-returns-in_err-head t c = rw (err _ _ c.from_residual.ensures.1) c.in_err-head.ensures

pub for_statement-returns-in_err-body : goal.for_statement-returns-in_err-body
for_statement-returns-in_err-body t c =
    rw (err _ _ c.from_residual-in_err-body.ensures.1) (blocks.stuck_for_body c.requires c.in_ok-head.ensures (rw c.deeper.ensures at c.in_err-body.ensures))

pub for_statement-returns-in_err-boxed : goal.for_statement-returns-in_err-boxed
for_statement-returns-in_err-boxed t c = rw (err _ _ c.from_residual-in_err-boxed.ensures.1) stuck.statement_no_room

pub for_statement-returns : goal.for_statement-returns
for_statement-returns t c =
    rw (c.in_ok-boxed.ensures, c.for_loop.ensures, c.into_inner.ensures, c.join-span.ensures, c.span.ensures, c.deref.ensures)
    (blocks.is_for c.in_ok-head.ensures c.in_ok-body.ensures.0, blocks.low_for (statement c.in_ok-body.body.value) c.args.start.from c.requires c.in_ok-head.ensures (rw c.deeper.ensures at c.in_ok-body.ensures.1))
