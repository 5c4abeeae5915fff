use Rattle.std.proofs.Common.{arith}
use Rattle.ckc_parser.proofs.FileLevel.{is_led, is_tainted}
use Rattle.ckc_parser.proofs.items.item.Goals as goal

pub returns-in-Ok : goal.returns-in-Ok
returns-in-Ok c = (c.in-Ok.ensures, omega arith)

pub unmarked-requires : goal.unmarked-requires
unmarked-requires c =
    let none = rw c.in-Some.ensures.0 at c.optional_mark-mark.ensures in
    record { led = is_led c.in_default.ensures.other (rw c.in_default.ensures.left at c.function_kind-kind.ensures) none; tainted = is_tainted (rw c.in_default.ensures.left at c.function_kind-kind.ensures) none c.in-Some.ensures.1 }

pub alone-requires : goal.alone-requires
alone-requires c = record { led = is_led c.in_default.ensures.other (rw c.in_default.ensures.left at c.function_kind-kind.ensures) c.optional_mark-mark.ensures; alone = c.in-None.ensures }
