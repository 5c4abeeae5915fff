use Rattle.std.proofs.Common.{◌≡◌, refl, ap, ◌∙◌}
use Rattle.code_words.specs.Table.{Stores, Passes, Replies}
use Rattle.two_memory_machine_states.specs.Machines.{Machine, Touching}
use Rattle.two_memory_machine_states.specs.Insides.{doing_of}
use Rattle.two_memory_machine_states.proofs.running_image.RunningImage.make_touch.Goals as goal

pub returns-in-Stores : goal.returns-in-Stores
returns-in-Stores c = λ touch e acts inputs events.
    let before : doing_of c.self.inside.phase ≡ Touching touch = ap (λ (m : Machine). m.doing) c.self.view_is ∙ e in
    let waits : doing_of c.self.inside.phase ≡ Touching (Stores c.in-Stores.at c.in-Stores.bytes) = rw (c.in-Touching.is, c.in-Stores.is) refl in
    let same : touch ≡ Stores c.in-Stores.at c.in-Stores.bytes = cc in
    rw same (c.make_store.ensures acts inputs events)

pub returns-in-Passes : goal.returns-in-Passes
returns-in-Passes c = λ touch e acts inputs events.
    let before : doing_of c.self.inside.phase ≡ Touching touch = ap (λ (m : Machine). m.doing) c.self.view_is ∙ e in
    let waits : doing_of c.self.inside.phase ≡ Touching (Passes c.in-Passes.import c.in-Passes.words c.in-Passes.place) = rw (c.in-Touching.is, c.in-Passes.is) refl in
    let same : touch ≡ Passes c.in-Passes.import c.in-Passes.words c.in-Passes.place = cc in
    rw same (c.make_call.ensures acts inputs events)

pub returns-in-Replies : goal.returns-in-Replies
returns-in-Replies c = λ touch e acts inputs events.
    let before : doing_of c.self.inside.phase ≡ Touching touch = ap (λ (m : Machine). m.doing) c.self.view_is ∙ e in
    let waits : doing_of c.self.inside.phase ≡ Touching (Replies c.in-Replies.value) = rw (c.in-Touching.is, c.in-Replies.is) refl in
    let same : touch ≡ Replies c.in-Replies.value = cc in
    rw same (c.make_reply.ensures acts inputs events)
