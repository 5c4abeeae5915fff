-- Pops from a stack on which the words were found.
use Rattle.std.proofs.Common.{◌≡◌, ℕ, ◌≤◌, Some, List, [], ◌∷◌, drop, length, ap, sym, arith}
use Rattle.std.proofs.lemmas.Option.{same_Some}
use Rattle.code_words.specs.Table.{State, Step, pop_3, pop_5, pop_6, peek}
use Rattle.two_memory_machine_states.specs.Steps.{four_topmost, five_topmost, seven_topmost}

pub pop_5_found : (stack : List ℕ) (a b c d e : ℕ) (next : ℕ → ℕ → ℕ → ℕ → ℕ → List ℕ → Step) (s : State) → Some (a, b, c, d, e) ≡ five_topmost stack → pop_5 stack next s ≡ next a b c d e (drop 5 stack)
pop_5_found [] a b c d e next s h = absurd (cc)
pop_5_found (_ ∷ []) a b c d e next s h = absurd (cc)
pop_5_found (_ ∷ _ ∷ []) a b c d e next s h = absurd (cc)
pop_5_found (_ ∷ _ ∷ _ ∷ []) a b c d e next s h = absurd (cc)
pop_5_found (_ ∷ _ ∷ _ ∷ _ ∷ []) a b c d e next s h = absurd (cc)
pop_5_found (e' ∷ d' ∷ c' ∷ b' ∷ a' ∷ stack) a b c d e next s h =
    let all : (a, b, c, d, e) ≡ (a', b', c', d', e') = same_Some _ _ h in
    ap (λ (t : ℕ × ℕ × ℕ × ℕ × ℕ). next t.0 t.1 t.2 t.3 t.4 stack) (sym all)

-- three words are popped, and the fourth stays
pub pop_3_found : (stack : List ℕ) (p a b c : ℕ) (next : ℕ → ℕ → ℕ → ℕ → List ℕ → Step) (s : State) → Some (p, a, b, c) ≡ four_topmost stack → pop_3 stack (λ a b c rest. peek rest (λ p. next p a b c rest) s) s ≡ next p a b c (drop 3 stack)
pop_3_found [] p a b c next s h = absurd (cc)
pop_3_found (_ ∷ []) p a b c next s h = absurd (cc)
pop_3_found (_ ∷ _ ∷ []) p a b c next s h = absurd (cc)
pop_3_found (_ ∷ _ ∷ _ ∷ []) p a b c next s h = absurd (cc)
pop_3_found (c' ∷ b' ∷ a' ∷ p' ∷ stack) p a b c next s h =
    let all : (p, a, b, c) ≡ (p', a', b', c') = same_Some _ _ h in
    ap (λ (t : ℕ × ℕ × ℕ × ℕ). next t.0 t.1 t.2 t.3 (p' ∷ stack)) (sym all)

-- six words are popped, and the seventh stays
pub pop_6_found : (stack : List ℕ) (p a b c d e f : ℕ) (next : ℕ → ℕ → ℕ → ℕ → ℕ → ℕ → ℕ → List ℕ → Step) (s : State) → Some (p, a, b, c, d, e, f) ≡ seven_topmost stack → pop_6 stack (λ a b c d e f rest. peek rest (λ p. next p a b c d e f rest) s) s ≡ next p a b c d e f (drop 6 stack)
pop_6_found [] p a b c d e f next s h = absurd (cc)
pop_6_found (_ ∷ []) p a b c d e f next s h = absurd (cc)
pop_6_found (_ ∷ _ ∷ []) p a b c d e f next s h = absurd (cc)
pop_6_found (_ ∷ _ ∷ _ ∷ []) p a b c d e f next s h = absurd (cc)
pop_6_found (_ ∷ _ ∷ _ ∷ _ ∷ []) p a b c d e f next s h = absurd (cc)
pop_6_found (_ ∷ _ ∷ _ ∷ _ ∷ _ ∷ []) p a b c d e f next s h = absurd (cc)
pop_6_found (_ ∷ _ ∷ _ ∷ _ ∷ _ ∷ _ ∷ []) p a b c d e f next s h = absurd (cc)
pop_6_found (f' ∷ e' ∷ d' ∷ c' ∷ b' ∷ a' ∷ p' ∷ stack) p a b c d e f next s h =
    let all : (p, a, b, c, d, e, f) ≡ (p', a', b', c', d', e', f') = same_Some _ _ h in
    ap (λ (t : ℕ × ℕ × ℕ × ℕ × ℕ × ℕ × ℕ). next t.0 t.1 t.2 t.3 t.4 t.5 t.6 (p' ∷ stack)) (sym all)

-- ---- how many words there are

pub three_there : (stack : List ℕ) (p a b c : ℕ) → Some (p, a, b, c) ≡ four_topmost stack → 3 ≤ length stack
three_there (_ ∷ _ ∷ _ ∷ stack) p a b c h = omega arith
three_there [] p a b c h = absurd (cc)
three_there (_ ∷ []) p a b c h = absurd (cc)
three_there (_ ∷ _ ∷ []) p a b c h = absurd (cc)

pub six_there : (stack : List ℕ) (p a b c d e f : ℕ) → Some (p, a, b, c, d, e, f) ≡ seven_topmost stack → 6 ≤ length stack
six_there (_ ∷ _ ∷ _ ∷ _ ∷ _ ∷ _ ∷ stack) p a b c d e f h = omega arith
six_there [] p a b c d e f h = absurd (cc)
six_there (_ ∷ []) p a b c d e f h = absurd (cc)
six_there (_ ∷ _ ∷ []) p a b c d e f h = absurd (cc)
six_there (_ ∷ _ ∷ _ ∷ []) p a b c d e f h = absurd (cc)
six_there (_ ∷ _ ∷ _ ∷ _ ∷ []) p a b c d e f h = absurd (cc)
six_there (_ ∷ _ ∷ _ ∷ _ ∷ _ ∷ []) p a b c d e f h = absurd (cc)
