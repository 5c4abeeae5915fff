-- The acts of events in parts, and that they lead to one state.
use Rattle.std.proofs.Common.{◌≡◌, List, [], ◌∷◌, ◌++◌, Option, Some, refl, sym, ◌∙◌, subst}
use Rattle.ckc_io.specs.Files.{Files}
use Rattle.act_words.specs.Acts.{Act, Seen}
use Rattle.act_words.specs.World.{Event, Took, Output, Released, Showed, NoAct}
use Rattle.sandbox_actor.specs.Answers.{Moment, Gives}
use Rattle.run_core.specs.Asked.{Answering}
use Rattle.run_core.specs.Touched.{last_of}
use Rattle.run_core.specs.Gave.{Gave, AnswersOnce}

module _ {S : Type 0} (answers : Answering S) (files : Option Files) where
  pub gave-append : (before mid after : S) (last : Option Seen) (xs ys : List Event) → Gave answers files before last xs mid → Gave answers files mid (last_of last xs) ys after → Gave answers files before last (xs ++ ys) after
  gave-append before mid after last [] ys h k = subst (λ s. Gave answers files s last ys after) h k
  gave-append before mid after last (Took turn act ∷ xs) ys h k = (h.0, h.1, gave-append h.0 mid after last xs ys h.2 k)
  gave-append before mid after last (Output bytes ∷ xs) ys h k = gave-append before mid after last xs ys h k
  gave-append before mid after last (Released release ∷ xs) ys h k = gave-append before mid after last xs ys h k
  gave-append before mid after last (Showed seen ∷ xs) ys h k = gave-append before mid after (Some seen) xs ys h k
  gave-append before mid after last (NoAct turn ∷ xs) ys h k = absurd h

  pub gave-parts : (before after : S) (last : Option Seen) (xs ys : List Event) → Gave answers files before last (xs ++ ys) after → (mid : S) × Gave answers files before last xs mid × Gave answers files mid (last_of last xs) ys after
  gave-parts before after last [] ys h = (before, refl, h)
  gave-parts before after last (Took turn act ∷ xs) ys h = let rest = gave-parts h.0 after last xs ys h.2 in (rest.0, (h.0, h.1, rest.1), rest.2)
  gave-parts before after last (Output bytes ∷ xs) ys h = gave-parts before after last xs ys h
  gave-parts before after last (Released release ∷ xs) ys h = gave-parts before after last xs ys h
  gave-parts before after last (Showed seen ∷ xs) ys h = gave-parts before after (Some seen) xs ys h
  gave-parts before after last (NoAct turn ∷ xs) ys h = absurd h

  module _ (Ok : S → Type 0) (once : AnswersOnce answers files Ok) where
    -- one act has one state behind it
    one_behind : (before a b : S) (now : Moment) (act : Act) → Ok before → answers before files now (Gives act) a → answers before files now (Gives act) b → a ≡ b
    one_behind before a b now act ok p q = (once.one before a b now (Gives act) (Gives act) ok p q).1

    pub gave-one : (before a b : S) (last : Option Seen) (xs : List Event) → Ok before → Gave answers files before last xs a → Gave answers files before last xs b → a ≡ b
    gave-one before a b last [] ok p q = p ∙ sym q
    gave-one before a b last (Took turn act ∷ xs) ok p q =
        let mid = one_behind before p.0 q.0 (record { turn = turn; last = last }) act ok p.1 q.1 in
        gave-one p.0 a b last xs (once.stays before p.0 (record { turn = turn; last = last }) (Gives act) ok p.1) p.2 (subst (λ s. Gave answers files s last xs b) (sym mid) q.2)
    gave-one before a b last (Output bytes ∷ xs) ok p q = gave-one before a b last xs ok p q
    gave-one before a b last (Released release ∷ xs) ok p q = gave-one before a b last xs ok p q
    gave-one before a b last (Showed seen ∷ xs) ok p q = gave-one before a b (Some seen) xs ok p q
    gave-one before a b last (NoAct turn ∷ xs) ok p q = absurd p

    pub gave-ok : (before after : S) (last : Option Seen) (xs : List Event) → Ok before → Gave answers files before last xs after → Ok after
    gave-ok before after last [] ok h = subst Ok (sym h) ok
    gave-ok before after last (Took turn act ∷ xs) ok h = gave-ok h.0 after last xs (once.stays before h.0 (record { turn = turn; last = last }) (Gives act) ok h.1) h.2
    gave-ok before after last (Output bytes ∷ xs) ok h = gave-ok before after last xs ok h
    gave-ok before after last (Released release ∷ xs) ok h = gave-ok before after last xs ok h
    gave-ok before after last (Showed seen ∷ xs) ok h = gave-ok before after (Some seen) xs ok h
    gave-ok before after last (NoAct turn ∷ xs) ok h = absurd h
