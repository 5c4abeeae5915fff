-- What stands between quotes means one list of bytes at most.
use Rattle.std.proofs.Common.{◌≡◌, ℕ, ◌+◌, ◌<◌, List, [], ◌∷◌, ◌++◌, length, drop, Some, None, refl, sym, subst, ap, ◌∙◌, append_assoc, arith}
use Rattle.std.proofs.lemmas.List.{drop-drop}
use Rattle.ckc_lexer.specs.Quoted.{quoted_byte, Means, nothing, byte}

-- where no byte stands, the text means nothing
pub no_byte : {text bytes : List ℕ} → quoted_byte text ≡ None → 0 < length text → Means text bytes → ⊥
no_byte none some nothing = omega arith
no_byte none some (byte b n e rest) = cc

-- behind the first byte
pub after_byte : {text bytes : List ℕ} (b n : ℕ) → quoted_byte text ≡ Some (b, n) → Means text bytes → (others : List ℕ) × (bytes ≡ b ∷ others) × Means (drop n text) others
after_byte b n e nothing = cc
after_byte {text} b n e (byte {bytes = others} b' n' e' rest) =
    let same : ◌≡◌ {A = ℕ × ℕ} (b', n') (b, n) = cc in
    let same_byte = ap (λ (p : ℕ × ℕ). p.0) same in
    let same_len = ap (λ (p : ℕ × ℕ). p.1) same in
    (others, ap (λ x. x ∷ others) same_byte, subst (λ k. Means (drop k text) others) same_len rest)

pub same_meaning : {text bytes others : List ℕ} → Means text bytes → Means text others → bytes ≡ others
same_meaning nothing nothing = refl
same_meaning nothing (byte b n e rest) = cc
same_meaning {text} (byte b n e rest) other =
    let a = after_byte b n e other in
    ap (λ bs. b ∷ bs) (same_meaning rest a.2) ∙ sym a.1

pub more_bytes : (text front others : List ℕ) (at b n : ℕ) → quoted_byte (drop at text) ≡ Some (b, n) → ((rest : List ℕ) → Means (drop at text) rest → Means text (front ++ rest)) → Means (drop (at + n) text) others → Means text ((front ++ (b ∷ [])) ++ others)
more_bytes text front others at b n e completed h =
    rw append_assoc (completed (b ∷ others) (byte b n e (rw drop-drop h)))

pub after_byte_at : (text : List ℕ) {all : List ℕ} (at b n : ℕ) → quoted_byte (drop at text) ≡ Some (b, n) → Means (drop at text) all → (others : List ℕ) × Means (drop (at + n) text) others
after_byte_at text at b n e h =
    let a = after_byte b n e h in
    (a.0, rw drop-drop at a.2)
