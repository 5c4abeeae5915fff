use Rattle.std.proofs.Common.{◌≡◌, ◌∷◌, Some, None, true, false, length, refl, sym, ap, arith}
use Rattle.std.specs.Prelude.{◌==◌}
use Rattle.std.proofs.lemmas.Bool.Decides.{nat_tests}
use Rattle.act_words.specs.Acts.{SeenCall}
use Rattle.code_words.specs.SandboxCode.{Entered, enter, function_of}
use Rattle.sandbox_actor_code.specs.Codes.{Code, at_rest}
use Rattle.sandbox_actor_code.proofs.Shown.{shows_by, stops_by, call_meets}
use Rattle.sandbox_actor_code.proofs.code_actor.CodeActor.take_call.Goals as goal

pub returns-in_default : goal.returns-in_default
returns-in_default c =
    let m : Code = c.args.self.now in
    let none : function_of m.image c.args.number ≡ None = sym c.in_default.ensures.found in
    stops_by m c.stop.new.self (at_rest m) (Some (SeenCall c.args.number c.args.args.now)) c.stop.result (at_rest m) (λ n. rw none refl) c.stop.ensures

pub returns-then-args-words : goal.returns-then-args-words
returns-then-args-words c =
    let m : Code = c.args.self.now in
    let there : function_of m.image c.args.number ≡ Some c.in-Some.fun.now = sym c.in-Some.ensures.found in
    let other : (c.in-Some.fun.now.args == length c.args.args.now) ≡ false = grind (arith, nat_tests, c.args-2.ensures.args, ap length c.as_slice-words.ensures.items, c.if-args-words.true) in
    stops_by m c.stop-then-args-words.new.self (at_rest m) (Some (SeenCall c.args.number c.args.args.now)) c.stop-then-args-words.result (at_rest m) (λ n. rw (there, other) refl) c.stop-then-args-words.ensures

pub returns : goal.returns
returns c =
    let m : Code = c.args.self.now in
    let there : function_of m.image c.args.number ≡ Some c.in-Some.fun.now = sym c.in-Some.ensures.found in
    let same : (c.in-Some.fun.now.args == length c.args.args.now) ≡ true = grind (arith, nat_tests, c.args-2.ensures.args, ap length c.as_slice-words.ensures.items, c.if-args-words.false) in
    shows_by m c.enter.new.self (at_rest m) (Some (SeenCall c.args.number c.args.args.now)) c.enter.result (enter c.in-Some.fun.now c.args.args.now (Entered ∷ (at_rest m).held) (at_rest m))
    (call_meets m.image m.budget c.in-Some.ensures.paced (at_rest m).held m.ticks c.args.number c.args.args.now c.in-Some.fun.now there same)
    (rw c.as_slice-words.ensures.items at c.enter.ensures)
