-- A run of code has one end.
use Rattle.std.proofs.Common.{◌≡◌, ℕ, zero, suc, ◌≤◌, sym, ◌∙◌, ⊎_elim, arith}
use Rattle.std.proofs.lemmas.Bool.{cases_lt}
use Rattle.act_words.specs.declared.ending.Ending.{Ending}
use Rattle.act_words.specs.declared.settings.Settings.{Settings}
use Rattle.code_words.specs.Table.{State, Step, Goes, Over}
use Rattle.code_words.specs.Moves.{move}
use Rattle.code_words.specs.Runs.{Run, Finished, exec, go_on}
use Rattle.code_words.specs.Images.{Image}

module _ (image : Image) (settings : Settings) where
  -- what a move leads to, where the rest of the run isn't cut off
  move_stays : (x : Step) (n m : ℕ) (ending : Ending) (t : State) → ((s : State) → exec image settings n s ≡ Finished ending t → exec image settings m s ≡ Finished ending t) → go_on x (exec image settings n) ≡ Finished ending t → go_on x (exec image settings m) ≡ Finished ending t
  move_stays (Goes s) n m ending t more h = more s h
  move_stays (Over e s) n m ending t more h = h

  -- a run that is finished stays so with more moves
  pub finished_stays : (n m : ℕ) (s : State) (ending : Ending) (t : State) → n ≤ m → exec image settings n s ≡ Finished ending t → exec image settings m s ≡ Finished ending t
  finished_stays zero m s ending t le h = absurd (cc)
  finished_stays (suc n) zero s ending t le h = absurd (omega arith)
  finished_stays (suc n) (suc m) s ending t le h = move_stays (move image settings s) n m ending t (λ u e. finished_stays n m u ending t (omega arith) e) h

  pub one_end : (n m : ℕ) (s : State) (d e : Ending) (t u : State) → exec image settings n s ≡ Finished d t → exec image settings m s ≡ Finished e u → ◌≡◌ {A = Run} (Finished d t) (Finished e u)
  one_end n m s d e t u h k =
      ⊎_elim
      (λ lt. sym (finished_stays n m s d t (omega arith) h) ∙ k)
      (λ le. sym h ∙ finished_stays m n s e u le k)
      (cases_lt n m)

pub same_ending : (d e : Ending) (t u : State) → ◌≡◌ {A = Run} (Finished d t) (Finished e u) → d ≡ e
same_ending d e t u h = cc

pub same_last : (d e : Ending) (t u : State) → ◌≡◌ {A = Run} (Finished d t) (Finished e u) → t ≡ u
same_last d e t u h = cc
