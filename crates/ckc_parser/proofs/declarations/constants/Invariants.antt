use Rattle.std.proofs.Common.{length}
use Rattle.ckc_parser_grammar.specs.StatementGrammar.{SpellsConstants}
use Rattle.ckc_parser_grammar.specs.StuckStatements.{StuckConstants}
use Rattle.ckc_parser_grammar.proofs.Lists.{GoesOn}
use Rattle.ckc_parser.proofs.declarations.constants.Given as goal

abbrev pub invariant-constants : goal.invariant-constants
invariant-constants l = GoesOn SpellsConstants StuckConstants l.fn.tokens.now l.form.items l.tokens.now

abbrev pub decreases-constants : goal.decreases-constants
decreases-constants l = length l.tokens.now
