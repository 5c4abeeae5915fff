use Rattle.ccbox_call_words.specs.Given.{all, failed}
use Rattle.ccbox_call_words.proofs.output.give.Goals as goal

pub returns-in-Ok : goal.returns-in-Ok
returns-in-Ok g c = all c.in-Ok.ensures.all c.in-Ok.ensures.counts

pub returns-in-Err-Failed : goal.returns-in-Err-Failed
returns-in-Err-Failed g c = let f = c.in-Err-Failed.ensures.front in failed f.0 f.1 f.2 c.in-Err-Failed.ensures.counts
