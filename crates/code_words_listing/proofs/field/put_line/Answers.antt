use Rattle.std.proofs.Common.{map, refl, append_assoc}
use Rattle.code_words_listing.specs.Shown.{shown}
use Rattle.code_words_listing.proofs.Written.{join_first}
use Rattle.code_words_listing.proofs.field.put_line.Goals as goal

pub returns : goal.returns
returns c =
    rw (join_first c.args.word.now (map shown c.args.operands.now), c.in_ok-push.ensures.items, c.in_ok-put_operands.ensures, c.in_ok-extend_from_slice.ensures.items, c.as_bytes.ensures.value) (simp append_assoc refl)
