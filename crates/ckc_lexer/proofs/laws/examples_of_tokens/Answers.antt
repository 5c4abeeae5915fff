use Rattle.std.proofs.Common.{true, false, codes, refl, arith}
use Rattle.ckc_lexer.specs.declared.piece.Piece.TheVariants.{Gap, Lexeme, Named, Define}
use Rattle.ckc_lexer.specs.declared.token.TokenKind.TheVariants as kind
use Rattle.ckc_lexer.specs.Directives.{part, named_directive, definition_of, signed_definition, numbered_definition, pragma_of, scope_of}
use Rattle.ckc_lexer.specs.Runs.{ends, goes}
use Rattle.ckc_lexer.specs.Tokens as tokens
use Rattle.ckc_lexer.specs.Tokens.{push}
use Rattle.ckc_lexer.proofs.Examples.{go}
use Rattle.ckc_lexer.proofs.laws.examples_of_tokens.Goals as goal

pub returns-clause-longest : goal.returns-clause-longest
unfolding push part named_directive definition_of signed_definition numbered_definition pragma_of scope_of
returns-clause-longest c =
    tokens.cut (omega arith) (go (Named (codes "a")) 1 (omega arith) (refl, refl) refl
    (go (Lexeme kind.LessEqual) 2 (omega arith) refl refl
    (go (Named (codes "b")) 1 (omega arith) (refl, refl) refl
    (tokens.ends refl))))

pub returns-clause-right_shift : goal.returns-clause-right_shift
unfolding push part named_directive definition_of signed_definition numbered_definition pragma_of scope_of
returns-clause-right_shift c =
    tokens.cut (omega arith) (go (Named (codes "a")) 1 (omega arith) (refl, refl) refl
    (go (Gap false) 1 (omega arith) (refl, refl) refl
    (go (Lexeme kind.Greater) 1 (omega arith) refl refl
    (go (Lexeme kind.GreaterEqual) 2 (omega arith) refl refl
    (go (Gap false) 1 (omega arith) (refl, refl) refl
    (go (Named (codes "b")) 1 (omega arith) (refl, refl) refl
    (tokens.ends refl)))))))

pub returns-clause-defined : goal.returns-clause-defined
unfolding push part named_directive definition_of signed_definition numbered_definition pragma_of scope_of
returns-clause-defined c =
    tokens.cut (omega arith) (go (Define (record { name = codes "N"; negative = true; value = 4 })) 12 (omega arith) (11, (goes 0 refl (goes 0 refl (goes 0 refl (goes 0 refl (goes 0 refl (goes 0 refl (goes 0 refl (goes 0 refl (goes 0 refl (goes 0 refl (goes 0 refl (ends refl)))))))))))), (refl, refl)) refl
    (go (Gap true) 1 (omega arith) (refl, refl) refl
    (go (Named (codes "N")) 1 (omega arith) (refl, refl) refl
    (tokens.ends refl))))
