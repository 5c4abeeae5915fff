use Rattle.code_words_listing.specs.States.{seen}
use Rattle.code_words_listing.proofs.Reached.{pace-some, pace-none}
use Rattle.code_words_listing.proofs.read_listing.check_pace.Goals as goal

pub returns-in-Some : goal.returns-in-Some
returns-in-Some c =
    pace-some (seen c.args.state.now) c.args.number c.in-Some.place c.begun_ops-ops.result.now c.requires.reached c.requires.number c.begun_ops-ops.ensures
    c.in-Some.ensures.first c.in-Some.ensures.within

pub returns-in-None : goal.returns-in-None
returns-in-None c = pace-none (seen c.args.state.now) c.begun_ops-ops.result.now c.requires.reached c.begun_ops-ops.ensures c.in-None.ensures.first
