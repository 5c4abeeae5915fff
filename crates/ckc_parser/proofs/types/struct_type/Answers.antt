use Rattle.std.proofs.Common.{◌∷◌, arith}
use Rattle.ckc_lexer.specs.declared.keyword.Keyword.TheVariants as keywords
use Rattle.ckc_lexer.specs.declared.token.TokenKind.TheVariants as kinds
use Rattle.ckc_parser_grammar.specs.Tokens.{token}
use Rattle.ckc_parser_grammar.specs.StuckTypes as stuck
use Rattle.ckc_parser_grammar.specs.StuckTypes.{StuckType}
use Rattle.ckc_parser_grammar.proofs.Readings.{err, name_fails}
use Rattle.ckc_parser.proofs.NamedOperands.{struct_named}
use Rattle.ckc_parser.proofs.types.struct_type.Goals as goal

pub returns-in_err-tag-clause-reads : goal.returns-in_err-tag-clause-reads
returns-in_err-tag-clause-reads c = λ d low. rw (err _ _ c.from_residual.ensures.1) (name_fails (StuckType d (token (kinds.Keyword keywords.Struct) c.args.word ∷ c.args.tokens.now.now)) c.in_err-tag.ensures (stuck.tag low) stuck.no_room)

pub returns-clause-reads : goal.returns-clause-reads
returns-clause-reads c = λ d low. rw (c.in_ok-tag.ensures.1, c.innermost.ensures, c.join-span.ensures) (struct_named c.in_ok-tag.tag c.in_ok-tag.ensures.0, omega arith)
