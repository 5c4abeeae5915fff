use Rattle.std.proofs.Common.{◌≡◌, ◌+◌, drop}
use Rattle.ckc_lexer.specs.Pieces.{line_len}
use Rattle.ckc_lexer.proofs.directive.line_len.Given as goal

-- the bytes so far and those that are left to count are all
abbrev pub invariant-loop-len : goal.invariant-loop-len
invariant-loop-len l = l.len + line_len (drop l.len l.text) ≡ line_len l.text
