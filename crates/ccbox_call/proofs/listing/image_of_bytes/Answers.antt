use Rattle.std.proofs.Common.{refl, inr, arith}
use Rattle.ccbox_call.specs.Answers.{refused_at}
use Rattle.ccbox_call.specs.Calls.{no_memory}
use Rattle.ccbox_call.proofs.Giving.{line_gives}
use Rattle.ccbox_call.proofs.listing.image_of_bytes.Goals as goal

pub returns-in-Err-Line : goal.returns-in-Err-Line
returns-in-Err-Line g c =
    let h = rw c.in-Err-Line.field-0-is at c.in-Err-Line.ensures in
    λ misses faults. line_gives _ 11 (refused_at c.in-Err-Line.line h) (refl, inr (inr (inr (inr (inr (inr refl)))), refl)) (omega arith) c.give_listing_refused.ensures

pub returns-in-Err-NoMemory : goal.returns-in-Err-NoMemory
returns-in-Err-NoMemory g c = λ misses faults. no_memory refl (omega arith) refl refl
