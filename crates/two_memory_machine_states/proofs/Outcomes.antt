-- From what an instruction's last part does to the instruction's line of the table.
use Rattle.std.proofs.Common.{◌≡◌, ℕ, ℤ, pos, nat_le, if◌then◌else◌, Bool, true, false, Some, None, List, [], ◌∷◌, length, take, drop, reverse, refl, sym, ap, ◌∙◌, arith}
use Rattle.std.specs.Prelude.{slice_get, int_le}
use Rattle.std.proofs.lemmas.Int.{ints}
use Rattle.std.proofs.lemmas.Option.{same_Some}
use Rattle.act_words.specs.Acts.{Act}
use Rattle.act_words.specs.World
use Rattle.code_words.specs.Table.{State, Step, Goes, Over, pop, pop_2, is_positive}
use Rattle.two_memory_machine_states.specs.declared.outcome.Outcome.{Outcome}
use Rattle.two_memory_machine_states.specs.Machines.{Machine}
use Rattle.two_memory_machine_states.specs.Steps.{Brings, two_topmost, top_words_of}

-- a machine of the same image
pub brings_at : (acts : List Act) (inputs : List ℤ) (events : List World.Event) (step : Step) (old mid new : Machine) (outcome : Outcome) → mid.image ≡ old.image → mid.settings ≡ old.settings → Brings acts inputs events step mid outcome new → Brings acts inputs events step old outcome new
brings_at acts inputs events (Goes s) old mid new outcome e h b = (b.0, b.1, b.2, (b.3.0 ∙ e, b.3.1 ∙ h))
brings_at acts inputs events (Over ending s) old mid new outcome e h b = (b.0, b.1, b.2, b.3, b.4, (b.5.0 ∙ e, b.5.1 ∙ h))

-- words that were found are popped
pub pop_found : (stack : List ℕ) (w : ℕ) (next : ℕ → List ℕ → Step) (s : State) → Some w ≡ slice_get stack 0 → pop stack next s ≡ next w (drop 1 stack)
pop_found [] w next s e = absurd (cc)
pop_found (v ∷ stack) w next s e = let same : v ≡ w = cc in rw same refl

pub pop_2_found : (stack : List ℕ) (a b : ℕ) (next : ℕ → ℕ → List ℕ → Step) (s : State) → Some (a, b) ≡ two_topmost stack → pop_2 stack next s ≡ next a b (drop 2 stack)
pop_2_found [] a b next s h = absurd (cc)
pop_2_found (_ ∷ []) a b next s h = absurd (cc)
pop_2_found (b' ∷ a' ∷ stack) a b next s h =
    let all : (a, b) ≡ (a', b') = same_Some _ _ h in
    ap (λ (t : ℕ × ℕ). next t.0 t.1 stack) (sym all)

pub above_zero : (number : ℤ) → int_le number (pos 0) ≡ false → is_positive number ≡ true
above_zero number h = by (is_positive number) refl
  where
    by : (b : Bool) → is_positive number ≡ b → b ≡ true
    by true e = refl
    by false e = absurd (omega (arith, ints))

-- so many words are not there
pub none_on_top : (n : ℕ) (stack : List ℕ) → None ≡ top_words_of n stack → nat_le n (length stack) ≡ false
none_on_top n stack h = by (nat_le n (length stack)) h
  where
    by : (b : Bool) → None ≡ (if b then Some (reverse (take n stack)) else None) → b ≡ false
    by true f = absurd (cc)
    by false f = refl
