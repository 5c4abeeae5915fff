use Rattle.std.proofs.Common.{◌≡◌, map, drop}
use Rattle.ckc_lexer.specs.Keywords.{spelled}
use Rattle.ckc_lexer.specs.Words.{listed}
use Rattle.ckc_lexer.proofs.word.listed.Given as goal

-- the word is none of the keywords before this one
abbrev pub invariant-loop-text : goal.invariant-loop-text
invariant-loop-text l = listed l.word (map spelled l.table) ≡ listed l.word (map spelled (drop l.text-index l.table))
