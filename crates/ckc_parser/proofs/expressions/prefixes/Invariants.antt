use Rattle.std.proofs.Common.{◌≤◌, length}
use Rattle.ckc_parser.specs.Contexts.{Base, NeedsOperand}
use Rattle.ckc_parser.proofs.expressions.prefixes.Given as goal

abbrev pub invariant-prefixes : goal.invariant-prefixes
invariant-prefixes l = ((b : Base) → NeedsOperand b l.fn.around l.fn.tokens.now → NeedsOperand b l.around l.tokens.now) × (length l.tokens.now ≤ length l.fn.tokens.now)

abbrev pub decreases-prefixes : goal.decreases-prefixes
decreases-prefixes l = length l.tokens.now
