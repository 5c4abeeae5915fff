use Rattle.std.proofs.Common.{refl}
use Rattle.std.specs.Fmt.{digits}
use Rattle.std.specs.Int.{int_wrap}
use Rattle.hex.proofs.OnLiterals.{hex_on_literals}
use Rattle.code_words_listing.proofs.laws.refused_lines.Goals as goal

pub returns : goal.returns
unfolding digits hex_on_literals int_wrap
returns c = record { leading_zero = refl; minus_zero = refl; plus = refl; above = refl; below = refl; wide = refl; no_size = refl; no_name = refl; many_arguments = refl; large_frame = refl; no_slots = refl; capitals = refl; odd = refl; other_length = refl; nothing_passed = refl; no_place = refl; two_spaces = refl; space_behind = refl; capital_word = refl; more_words = refl; empty = refl }
