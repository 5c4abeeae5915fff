use Rattle.bounds_exprs.proofs.Terms.{term_of-plus, term_of-minus, term_of-times}
use Rattle.bounds_exprs.proofs.normalize.+term_of.Goals as goal

pub returns-in-Plus : goal.returns-in-Plus
returns-in-Plus t c = rw (c.in-Plus.is, term_of-plus) (cc)

pub returns-in-Minus : goal.returns-in-Minus
returns-in-Minus t c = rw (c.in-Minus.is, term_of-minus) (cc)

pub returns-in-Times : goal.returns-in-Times
returns-in-Times t c = rw (c.in-Times.is, term_of-times) (cc)
