use Rattle.std.proofs.Common.{refl}
use Rattle.std.specs.Fmt.{digits}
use Rattle.std.specs.Int.{int_wrap}
use Rattle.hex.proofs.OnLiterals.{hex_on_literals}
use Rattle.code_words_listing.proofs.laws.lines_within.Goals as goal

pub returns : goal.returns
unfolding digits hex_on_literals int_wrap
returns c = record { least = refl; most = refl; empty = refl }
