use Rattle.std.proofs.Common.{refl}
use Rattle.std.specs.Fmt.{digits}
use Rattle.std.specs.Int.{int_wrap}
use Rattle.hex.proofs.OnLiterals.{hex_on_literals}
use Rattle.code_words_listing.proofs.laws.refused_texts.Goals as goal

pub returns : goal.returns
unfolding digits hex_on_literals int_wrap
returns c = record { stands = refl; empty = refl; no_feed = refl; order = refl; number = refl; jump_back = refl; reached_call = refl; call_alone = refl; pace_first = refl; ticked = refl; no_close = refl; close = refl; behind = refl; behind_feed = refl }
