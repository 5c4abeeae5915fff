use Rattle.std.proofs.Common.{◌≡◌, drop}
use Rattle.std.specs.List.{list_all}
use Rattle.ckc_text.specs.Names.{is_digit}
use Rattle.ckc_lexer.proofs.number.are_digits.Given as goal

-- the bytes that are left decide it
abbrev pub invariant-loop-b : goal.invariant-loop-b
invariant-loop-b l = list_all is_digit (drop l.b-index l.bytes) ≡ list_all is_digit l.bytes
