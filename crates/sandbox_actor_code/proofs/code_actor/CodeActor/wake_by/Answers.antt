use Rattle.std.proofs.Common.{◌≡◌, Some, length, subst, sym, ap}
use Rattle.act_words.specs.Acts.{Seen, SeenBytes, seen_view}
use Rattle.sandbox_actor_code.specs.Answering.{is_load_size, taken_of}
use Rattle.sandbox_actor_code.specs.Codes.{Code, Shows, at_rest, held_at_rest}
use Rattle.sandbox_actor_code.proofs.Shown.{stops_by, bytes_at_rest}
use Rattle.sandbox_actor_code.proofs.code_actor.CodeActor.wake_by.Goals as goal

pub returns-in-Bytes : goal.returns-in-Bytes
returns-in-Bytes c =
    let m : Code = c.args.self.now in
    let at = c.in-Bytes.at in
    let bytes = c.in-Bytes.bytes in
    let seen : seen_view c.args.seen.now ≡ SeenBytes at bytes = ap seen_view c.in-Bytes.is in
    subst (λ (s : Seen). Shows (taken_of (Some s)) (at_rest m) m c.stop.result c.stop.new.self) (sym seen)
    (stops_by m c.stop.new.self (at_rest m) (taken_of (Some (SeenBytes at bytes))) c.stop.result (at_rest m)
    (bytes_at_rest m.image m.budget (held_at_rest m.waiting) m.ticks (is_load_size (length bytes)) at bytes) c.stop.ensures)
