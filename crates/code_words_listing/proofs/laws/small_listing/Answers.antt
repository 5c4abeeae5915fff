use Rattle.std.proofs.Common.{refl}
use Rattle.std.specs.Fmt.{digits}
use Rattle.hex.proofs.OnLiterals.{hex_on_literals}
use Rattle.code_words_listing.proofs.laws.small_listing.Goals as goal

pub returns : goal.returns
unfolding digits hex_on_literals
returns c = refl
