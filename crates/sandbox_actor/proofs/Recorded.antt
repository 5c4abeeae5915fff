-- What an actor answers that keeps the acts of another one.
use Rattle.std.proofs.Common.{◌≡◌, List, [], ◌∷◌, ◌++◌, sym, ap, ◌∙◌, append_assoc}
use Rattle.std.proofs.lemmas.List.{append-nil}
use Rattle.act_words.specs.Acts.{Act}
use Rattle.sandbox_actor.specs.Recordings.{recorded, Answering, RecordingAnswers, HasOneAnswer, Gave, none, more}

same_pair : {S T : Type 0} (s s' : S) (t t' : T) → s ≡ s' → t ≡ t' → ◌≡◌ {A = S × T} (s, t) (s', t')
same_pair s s' t t' e f = cc

pub one_answer : {S : Type 0} (answers : Answering S) (before : S × List Act) → HasOneAnswer answers before.0 → HasOneAnswer (RecordingAnswers answers) before
one_answer answers before one after after' files now x y h i =
    let same = one after.0 after'.0 files now x y h.0 i.0 in
    (same.0, same_pair after.0 after'.0 after.1 after'.1 same.1 (h.1 ∙ ap (λ z. recorded z before.1) same.0 ∙ sym i.1))

pub kept : {S : Type 0} (answers : Answering S) (first last : S × List Act) (acts : List Act) → Gave (RecordingAnswers answers) first acts last
    → Gave answers first.0 acts last.0 × (last.1 ≡ first.1 ++ acts)
kept answers first last acts' (none {state = state}) = (none, sym (append-nil state.1))
kept answers first last acts' (more {mid = mid} {acts = acts} {act = act} gave step) =
    let before = kept answers first mid acts gave in
    (more before.0 step.0, step.1 ∙ ap (λ (xs : List Act). xs ++ act ∷ []) before.1 ∙ append_assoc first.1 acts (act ∷ []))
