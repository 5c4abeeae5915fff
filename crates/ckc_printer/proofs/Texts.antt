-- Signs with spaces behind them.
use Rattle.std.proofs.Common.{rules, ◌≡◌, ℕ, suc, ◌+◌, ◌-◌, ◌<◌, Bool, true, false, List, [], ◌∷◌, ◌++◌, refl, ap, sym, ◌∙◌, append_assoc, arith}
use Rattle.std.proofs.lemmas.Grind.{flat_map-append}
use Rattle.ckc_printer.specs.Pieces.{Sign, sign_text, around}
use Rattle.ckc_printer.specs.TypePieces.{stars_pieces}
use Rattle.ckc_printer.specs.declared.output.Output.{Output}
use Rattle.ckc_printer.specs.Output.{Puts, Leaves}
use Rattle.ckc_printer.specs.Spaced.{spaced, spaced_if, spaced_text}

pub spaced_append : (xs ys : List Sign) → spaced_text (xs ++ ys) ≡ spaced_text xs ++ spaced_text ys
spaced_append xs ys = flat_map-append (λ sign. spaced (sign_text sign)) xs ys

-- parentheses around signs
pub spaced_around : (wanted : Bool) (xs : List Sign) → spaced_text (around wanted xs) ≡ spaced_if wanted (40 ∷ []) ++ (spaced_text xs ++ spaced_if wanted (41 ∷ []))
spaced_around false xs = search rules
spaced_around true xs = rw (spaced_append xs _) refl

-- one text behind the other
pub behind : {old mid new : Output} {text rest : List ℕ} → Puts old mid text → Puts mid new rest → Puts old new (text ++ rest)
behind {old} {mid} {new} {text} {rest} first last = record {
  put = λ h.
      let here = last.put h in
      let before = first.put here.0 in
      (before.0, here.1 ∙ ap (λ l. l ++ rest) before.1 ∙ append_assoc old.bytes.items text rest);
}

-- what is put is the first of what is left
pub leaves_less : {first old new : Output} {left text rest whole : List ℕ} → Leaves first old left whole → Puts old new text → left ≡ text ++ rest → Leaves first new rest whole
leaves_less {first} {old} {new} {left} {text} {rest} {whole} so_far put same = record {
  all = λ h.
      let here = put.put h in
      let before = so_far.all here.0 in
      (before.0, ap (λ l. l ++ rest) here.1 ∙ append_assoc old.bytes.items text rest ∙ ap (λ l. old.bytes.items ++ l) (sym same) ∙ before.1);
}

-- the first star of those that are left
pub star_first : (n k : ℕ) → k < n → spaced_text (stars_pieces (n - k)) ≡ 42 ∷ 32 ∷ spaced_text (stars_pieces (n - (k + 1)))
star_first n k low = let one_more : n - k ≡ suc (n - (k + 1)) = omega (arith, low) in ap (λ m. spaced_text (stars_pieces m)) one_more
