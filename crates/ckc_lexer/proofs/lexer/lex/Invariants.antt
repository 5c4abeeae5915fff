use Rattle.std.proofs.Common.{◌-◌, ◌≤◌, length, List, Result}
use Rattle.ckc_text.specs.declared.fault.SourceFault.{SourceFault}
use Rattle.ckc_lexer.specs.declared.token.Token.{Token}
use Rattle.ckc_lexer.specs.Tokens.{Cut, initial}
use Rattle.ckc_lexer.specs.Progress.{state_of}
use Rattle.ckc_lexer.proofs.lexer.lex.Given as goal

-- what the source is cut into from here on completes what it is cut into from its start
abbrev pub invariant-loop-lexer : goal.invariant-loop-lexer
invariant-loop-lexer l = record {
  small : length l.src ≤ 1048576;
  within : l.lexer.at ≤ length l.src;
  completed : (result : Result (List Token) SourceFault) → Cut l.src (state_of l.lexer) result → Cut l.src initial result;
}

abbrev pub decreases-loop-lexer : goal.decreases-loop-lexer
decreases-loop-lexer l = length l.src - l.lexer.at
