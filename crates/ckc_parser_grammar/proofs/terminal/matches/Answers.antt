use Rattle.std.proofs.Common.{◌≡◌, Bool, true, false, Some, rules, sym, ap, ◌∙◌}
use Rattle.std.proofs.lemmas.Option.{same_Some}
use denote.Enum.Bare.{sameb, same_true, same_false}
use Rattle.ckc_lexer.specs.declared.token.TokenKind.{TokenKind}
use Rattle.ckc_parser_grammar.specs.contracts.terminal.Terminal.{the_type}
use Rattle.ckc_parser_grammar.specs.declared.terminal.Terminal.{Terminal}
use Rattle.ckc_parser_grammar.specs.Terminals.{terminal_of, Matches}
use Rattle.ckc_parser_grammar.proofs.Terminals.{spelled, other}
use Rattle.ckc_parser_grammar.proofs.terminal.matches.Goals as goal

-- a token that is this terminal, where the comparison says so
compared : (t u : Terminal) (k : TokenKind) (b : Bool) → b ≡ sameb the_type u t → terminal_of k ≡ Some u → Matches t k b
compared t u k true same is = spelled t k (is ∙ ap Some (same_true the_type (search rules) _ _ (sym same)))
compared t u k false same is = other t k (λ h. same_false the_type _ _ (sym same) (same_Some _ _ (sym is ∙ h)))

pub returns-in-Some : goal.returns-in-Some
returns-in-Some c = compared c.args.terminal c.in-Some.found c.args.kind.now _ c.eq.ensures (sym c.in-Some.ensures)
