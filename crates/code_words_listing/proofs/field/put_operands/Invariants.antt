use Rattle.std.proofs.Common.{◌≡◌, ◌++◌, map, take}
use Rattle.code_words_listing.specs.Shown.{shown, behind_spaces}
use Rattle.code_words_listing.proofs.field.put_operands.Given as goal

abbrev pub invariant-loop-field : goal.invariant-loop-field
invariant-loop-field l = l.out.items ≡ l.initial.out.items ++ behind_spaces (map shown (take l.field-index l.operands))
