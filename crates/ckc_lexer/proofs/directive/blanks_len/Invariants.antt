use Rattle.std.proofs.Common.{◌≡◌, ◌+◌, drop}
use Rattle.std.specs.List.{prefix_len}
use Rattle.ckc_lexer.specs.Bytes.{is_blank}
use Rattle.ckc_lexer.proofs.directive.blanks_len.Given as goal

-- the bytes so far and those that are left to count are all
abbrev pub invariant-loop-len : goal.invariant-loop-len
invariant-loop-len l = l.len + prefix_len is_blank (drop l.len l.text) ≡ prefix_len is_blank l.text
