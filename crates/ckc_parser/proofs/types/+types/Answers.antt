use Rattle.std.proofs.Common.{sym, arith, ap, ◌∙◌}
use Rattle.ckc_parser_grammar.specs.TypeGrammar as grammar
use Rattle.ckc_parser_grammar.specs.StuckTypes as stuck
use Rattle.ckc_lexer.specs.declared.token.TokenKind.TheVariants as kinds
use Rattle.ckc_parser_grammar.proofs.Readings.{err, begins, low_around}
use Rattle.ckc_parser.proofs.types.+types.Goals as goal

pub pointer_type-returns-in_err-less-clause-reads : goal.pointer_type-returns-in_err-less-clause-reads
pointer_type-returns-in_err-less-clause-reads t c = λ k word. rw (err _ _ c.from_residual.ensures.1, c.in_err-less.ensures.reason, c.in_err-less.ensures.left) (stuck.opens c.requires word c.in_err-less.ensures.other)

pub pointer_type-returns-in_err-element-clause-reads : goal.pointer_type-returns-in_err-element-clause-reads
pointer_type-returns-in_err-element-clause-reads t c = λ k word. rw (err _ _ c.from_residual-in_err-element.ensures.1, c.in_ok-less.ensures) ((stuck.element c.requires word (rw c.deeper.ensures at c.in_err-element.ensures.reads)))

pub pointer_type-returns-in_err-end-clause-reads : goal.pointer_type-returns-in_err-end-clause-reads
pointer_type-returns-in_err-end-clause-reads t c = λ k word.
    rw (err _ _ c.from_residual-in_err-end.ensures.1, c.in_err-end.ensures.reason, c.in_err-end.ensures.left) (rw c.in_ok-less.ensures (stuck.close word c.in_ok-element.ensures.reads.0 (rw c.deeper.ensures at c.in_ok-element.ensures.reads.1) c.stars-stars.ensures.spelled c.in_err-end.ensures.other))

pub pointer_type-returns-in_err-element-2-clause-reads : goal.pointer_type-returns-in_err-element-2-clause-reads
pointer_type-returns-in_err-element-2-clause-reads t c = λ k word. rw (err _ _ c.from_residual-in_err-element-2.ensures.1) stuck.no_room

pub pointer_type-returns-clause-reads : goal.pointer_type-returns-clause-reads
pointer_type-returns-clause-reads t c = λ k word.
    let closed = rw c.in_ok-end.ensures at c.stars-stars.ensures.spelled in
    let low = low_around _ c.args.start.from _ c.requires (rw c.deeper.ensures at c.in_ok-element.ensures.reads.1) in
    rw (c.in_ok-less.ensures, c.in_ok-element-2.ensures, c.join-span.ensures) (grammar.pointer word c.in_ok-element.ensures.reads.0 closed, low)

pub type_form-returns-in_err-token-clause-reads : goal.type_form-returns-in_err-token-clause-reads
type_form-returns-in_err-token-clause-reads t c = rw (err _ _ c.from_residual.ensures.1) c.in_err-token.ensures

pub type_form-returns-in-Keyword-Int-clause-reads : goal.type_form-returns-in-Keyword-Int-clause-reads
type_form-returns-in-Keyword-Int-clause-reads t c = rw (begins _ _ _ _ c.in_ok-token.ensures.0 (c.in-Keyword-Int.is ∙ ap kinds.Keyword (rw c.in-Keyword-Int.is at c.in-Keyword-Int.field-0-is)), c.innermost.ensures) (grammar.int, omega (arith, c.in_ok-token.ensures.2))

pub type_form-returns-in-Keyword-Char-clause-reads : goal.type_form-returns-in-Keyword-Char-clause-reads
type_form-returns-in-Keyword-Char-clause-reads t c = rw (begins _ _ _ _ c.in_ok-token.ensures.0 (c.in-Keyword-Char.is ∙ ap kinds.Keyword (rw c.in-Keyword-Char.is at c.in-Keyword-Char.field-0-is)), c.innermost-in-Keyword-Char.ensures) (grammar.char, omega (arith, c.in_ok-token.ensures.2))

pub type_form-returns-in-Keyword-Struct-clause-reads : goal.type_form-returns-in-Keyword-Struct-clause-reads
type_form-returns-in-Keyword-Struct-clause-reads t c = rw (begins _ _ _ _ c.in_ok-token.ensures.0 (c.in-Keyword-Struct.is ∙ ap kinds.Keyword (rw c.in-Keyword-Struct.is at c.in-Keyword-Struct.field-0-is))) (c.struct_type.ensures.reads _ c.in_ok-token.ensures.2)

pub type_form-returns-in-Some-clause-reads : goal.type_form-returns-in-Some-clause-reads
type_form-returns-in-Some-clause-reads t c = rw (c.in_ok-token.ensures.0) (c.pointer_type.ensures.reads _ (sym c.in-Some.ensures))
