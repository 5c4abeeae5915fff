use Rattle.std.proofs.Common.{◌≡◌, ◌<◌, length, Some, Option, refl, ap, ◌∙◌}
use Rattle.std.specs.Prelude.{option_map}
use Rattle.act_words.specs.Acts.{Seen, seen_view}
use Rattle.code_words.specs.SandboxCode.{Step}
use Rattle.sandbox_actor_code.specs.declared.code_actor.Phase.TheVariants as phases
use Rattle.sandbox_actor_code.specs.Answering.{taken_of}
use Rattle.sandbox_actor_code.specs.Codes.{Code, held_behind, looking, resume_step, running}
use Rattle.sandbox_actor_code.specs.CodeInsides.{IsOpen, code}
use Rattle.sandbox_actor_code.proofs.Shown.{led_from, shows_by, stops_by, word_meets, no_word}
use Rattle.sandbox_actor_code.proofs.code_actor.CodeActor.look.Goals as goal

pub returns-in-Some : goal.returns-in-Some
returns-in-Some c =
    let i = c.self.inside in
    let p : i.phase ≡ phases.Looks = ap (λ (m : Code). m.phase) c.self.view_is ∙ c.requires in
    let opened : IsOpen i.image.now i.call × (length i.waiting.calls < 1000) = rw p at c.self.invariant.phase in
    let f = opened.0.f in
    let seen : Option Seen = taken_of (option_map seen_view c.args.last.now) in
    let goes : Step = resume_step f (Some c.in-Some.word) i.call.frame (running (code i)) in
    rw (← c.self.view_is)
    (shows_by (code i) c.resume.new.self (looking (code i)) seen c.resume.result goes
    (word_meets i.image.now i.budget i.call.frame (held_behind i.waiting.calls) i.ticks f seen c.in-Some.word opened.0.there c.in-Some.ensures)
    (led_from (code i) (record (code i) { phase = phases.Runs }) c.resume.new.self c.resume.result goes (refl, refl) (c.resume.ensures f opened.0.there)))

pub returns-in-None : goal.returns-in-None
returns-in-None c =
    let m : Code = c.args.self.now in
    let seen : Option Seen = taken_of (option_map seen_view c.args.last.now) in
    stops_by m c.stop.new.self (looking m) seen c.stop.result (looking m) (no_word m.image m.budget m.call.frame (held_behind m.waiting) m.ticks seen c.in-None.ensures) c.stop.ensures
