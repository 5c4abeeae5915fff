use Rattle.std.proofs.Common.{true, false, codes, refl, arith}
use Rattle.ckc_text.specs.declared.code.Code.TheVariants.{E02, E03, E04}
use Rattle.ckc_lexer.specs.declared.piece.ScopeWord.TheVariants as word
use Rattle.ckc_lexer.specs.declared.piece.Piece.TheVariants.{Gap, Lexeme, Named, Define, Scope, CommentFault, Fault}
use Rattle.ckc_lexer.specs.declared.keyword.Keyword.TheVariants as keyword
use Rattle.ckc_lexer.specs.declared.token.TokenKind.TheVariants as kind
use Rattle.ckc_lexer.specs.Directives.{part, named_directive, definition_of, signed_definition, numbered_definition, pragma_of, scope_of}
use Rattle.ckc_lexer.specs.Runs.{ends, goes}
use Rattle.ckc_lexer.specs.Tokens as tokens
use Rattle.ckc_lexer.specs.Tokens.{push}
use Rattle.ckc_lexer.proofs.Examples.{go, stop}
use Rattle.ckc_lexer.proofs.laws.examples_of_faults.Goals as goal

pub returns-clause-leading_zero : goal.returns-clause-leading_zero
unfolding push part named_directive definition_of signed_definition numbered_definition pragma_of scope_of
returns-clause-leading_zero c =
    tokens.cut (omega arith) (go (Lexeme (kind.Keyword keyword.Int)) 3 (omega arith) (refl, refl) refl
    (go (Gap false) 1 (omega arith) (refl, refl) refl
    (go (Named (codes "x")) 1 (omega arith) (refl, refl) refl
    (go (Gap false) 1 (omega arith) (refl, refl) refl
    (go (Lexeme kind.Equal) 1 (omega arith) refl refl
    (go (Gap false) 1 (omega arith) (refl, refl) refl
    (stop (Fault E02) 2 (omega arith) (refl, refl) refl)))))))

pub returns-clause-open_comment : goal.returns-clause-open_comment
unfolding push part named_directive definition_of signed_definition numbered_definition pragma_of scope_of
returns-clause-open_comment c =
    tokens.cut (omega arith) (go (Named (codes "a")) 1 (omega arith) (refl, refl) refl
    (stop (CommentFault E03) 2 (omega arith) (0, ends refl, (refl, refl)) refl))

pub returns-clause-great : goal.returns-clause-great
unfolding push part named_directive definition_of signed_definition numbered_definition pragma_of scope_of
returns-clause-great c =
    tokens.cut (omega arith) (stop (Fault E04) 10 (omega arith) (refl, refl) refl)

pub returns-clause-two_definitions : goal.returns-clause-two_definitions
unfolding push part named_directive definition_of signed_definition numbered_definition pragma_of scope_of
returns-clause-two_definitions c =
    tokens.cut (omega arith) (go (Define (record { name = codes "N"; negative = false; value = 4 })) 11 (omega arith) (10, (goes 0 refl (goes 0 refl (goes 0 refl (goes 0 refl (goes 0 refl (goes 0 refl (goes 0 refl (goes 0 refl (goes 0 refl (goes 0 refl (ends refl))))))))))), (refl, refl)) refl
    (go (Gap true) 1 (omega arith) (refl, refl) refl
    (stop (Define (record { name = codes "N"; negative = false; value = 5 })) 11 (omega arith) (10, (goes 0 refl (goes 0 refl (goes 0 refl (goes 0 refl (goes 0 refl (goes 0 refl (goes 0 refl (goes 0 refl (goes 0 refl (goes 0 refl (ends refl))))))))))), (refl, refl)) refl)))

pub returns-clause-pop_of_nothing : goal.returns-clause-pop_of_nothing
unfolding push part named_directive definition_of signed_definition numbered_definition pragma_of scope_of
returns-clause-pop_of_nothing c =
    tokens.cut (omega arith) (stop (Scope word.Pop) 25 (omega arith) (24, (goes 0 refl (goes 0 refl (goes 0 refl (goes 0 refl (goes 0 refl (goes 0 refl (goes 0 refl (goes 0 refl (goes 0 refl (goes 0 refl (goes 0 refl (goes 0 refl (goes 0 refl (goes 0 refl (goes 0 refl (goes 0 refl (goes 0 refl (goes 0 refl (goes 0 refl (goes 0 refl (goes 0 refl (goes 0 refl (goes 0 refl (goes 0 refl (ends refl))))))))))))))))))))))))), (refl, refl)) refl)
