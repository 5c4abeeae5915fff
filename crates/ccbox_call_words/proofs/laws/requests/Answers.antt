use Rattle.std.proofs.Common.{refl}
use Rattle.clap.proofs.OnLiterals.{clap_on_literals}
use Rattle.ccbox_call_words.specs.CommandLine.{found_by}
use Rattle.ccbox_call_words.proofs.laws.requests.Goals as goal

pub returns-clause-alone : goal.returns-clause-alone
unfolding clap_on_literals found_by
returns-clause-alone c = (refl, refl, refl, refl, refl, refl, refl, refl, refl, refl, refl, refl, refl, refl)

pub returns-clause-commands : goal.returns-clause-commands
unfolding clap_on_literals found_by
returns-clause-commands c = (refl, refl, refl, refl, refl, refl, refl, refl, refl, refl)

pub returns-clause-listings : goal.returns-clause-listings
unfolding clap_on_literals found_by
returns-clause-listings c = (refl, refl, refl, refl, refl, refl, refl, refl)

pub returns-clause-together : goal.returns-clause-together
unfolding clap_on_literals found_by
returns-clause-together c = refl

pub returns-clause-places : goal.returns-clause-places
unfolding clap_on_literals found_by
returns-clause-places c = (refl, refl, refl, refl, refl, refl, refl, refl, refl, refl)

pub returns-clause-refused : goal.returns-clause-refused
unfolding clap_on_literals found_by
returns-clause-refused c = (refl, refl, refl, refl, refl, refl, refl, refl, refl, refl, refl, refl, refl, refl, refl, refl, refl, refl, refl, refl, refl, refl, refl, refl, refl, refl, refl, refl, refl, refl, refl, refl, refl)

pub returns-clause-twice : goal.returns-clause-twice
unfolding clap_on_literals found_by
returns-clause-twice c = (refl, refl, refl, refl, refl, refl, refl, refl, refl)
