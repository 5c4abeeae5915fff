use Rattle.std.proofs.Common.{◌≡◌, drop}
use Rattle.std.specs.List.{list_any}
use Rattle.ckc_lexer.specs.Bytes.{is_control}
use Rattle.ckc_lexer.proofs.quoted.has_control.Given as goal

-- the bytes that are left decide it
abbrev pub invariant-loop-b : goal.invariant-loop-b
invariant-loop-b l = list_any is_control (drop l.b-index l.bytes) ≡ list_any is_control l.bytes
