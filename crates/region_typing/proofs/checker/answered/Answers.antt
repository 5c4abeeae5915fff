use Rattle.std.proofs.Common.{Err, ap, ◌∙◌}
use Rattle.region_typing.proofs.checker.answered.Goals as goal

pub returns-in-Ok : goal.returns-in-Ok
returns-in-Ok c at n came = let answer = rw c.in-Ok.is at came in answer.so

pub returns-in-Source : goal.returns-in-Source
returns-in-Source c at n came = let answer = rw (c.in-Err.is, c.in-Source.is) at came in answer.so

pub unreachable-requires : goal.unreachable-requires
unreachable-requires c = c.requires (c.in-Err.is ∙ ap Err c.in-Unnamed.is)
