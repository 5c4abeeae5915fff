use Rattle.std.proofs.Common.{◌≡◌, drop}
use Rattle.std.specs.List.{list_all}
use Rattle.ckc_lexer.specs.Bytes.{is_blank}
use Rattle.ckc_lexer.proofs.directive.are_blanks.Given as goal

-- the bytes that are left decide it
abbrev pub invariant-loop-b : goal.invariant-loop-b
invariant-loop-b l = list_all is_blank (drop l.b-index l.text) ≡ list_all is_blank l.text
