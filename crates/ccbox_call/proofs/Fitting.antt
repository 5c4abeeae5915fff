-- Whether an image fits settings can be told.
use Rattle.std.proofs.Common.{◌≡◌, ℕ, zero, suc, ◌<◌, ◌⊎◌, inl, inr, ⊎_elim, nat_lt, Bool, true, false, List, [], ◌∷◌, length, Option, Some, None, refl, sym, ◌∙◌, subst, arith}
use Rattle.std.specs.Prelude.{slice_get, IsTrue}
use Rattle.std.proofs.lemmas.Bool.{ltb-true, ltb-false}
use Rattle.std.proofs.lemmas.List.Elements.{All-nil}
use Rattle.flat_bytes.specs.Blocks.{first_offset, grown}
use Rattle.act_words.specs.declared.settings.Settings.{Settings}
use Rattle.act_words.specs.Limits.{AreAllowed}
use Rattle.code_words.specs.Fitting.{BlocksFit, HasMain, Fits}
use Rattle.code_words.specs.Functions.{Func}
use Rattle.code_words.specs.Images.{Image}
use Rattle.code_words.proofs.Fitting.{with_first, without_first, first_fits}

abbrev OrNot : Type 0 → Type 0
OrNot P = P ⊎ (P → ⊥)

blocks_fit : (size offset : ℕ) (blocks : List (List ℕ)) → OrNot (BlocksFit size offset blocks)
blocks_fit size offset [] = by (nat_lt size offset) refl
  where
    by : (b : Bool) → nat_lt size offset ≡ b → OrNot (BlocksFit size offset [])
    by true high = inr (λ f. omega (arith, f.low, ltb-true size offset high))
    by false low = inl (record { not_empty = All-nil (λ (block : List ℕ). 0 < length block); low = omega (arith, ltb-false size offset low) })
blocks_fit size offset ([] ∷ blocks) = inr (λ f. omega (arith, (first_fits size offset [] blocks f).0))
blocks_fit size offset ((b ∷ block) ∷ blocks) =
    ⊎_elim
    (λ f. inl (with_first size offset (b ∷ block) blocks (omega arith) f))
    (λ no. inr (λ f. no (without_first size offset (b ∷ block) blocks f)))
    (blocks_fit size (grown offset (length (b ∷ block))) blocks)

module _ (image : Image) where
  by_arguments : (number : ℕ) (f : Func) → image.layout.main ≡ Some number → slice_get image.trusted.funs number ≡ Some f → (args : ℕ) → f.args ≡ args → OrNot (HasMain image)
  by_arguments number f named there zero none = inl (number, f, record { named = named; there = there; no_argument = none })
  by_arguments number f named there (suc args) some = inr other
    where
      other : HasMain image → ⊥
      other h =
          let m = h.2 in
          let numbers : Some h.0 ≡ Some number = sym m.named ∙ named in
          let number_is : h.0 ≡ number = cc in
          let functions : Some h.1 ≡ Some f = sym m.there ∙ subst (λ n. slice_get image.trusted.funs n ≡ Some f) (sym number_is) there in
          let function_is : h.1 ≡ f = cc in
          let arguments : f.args ≡ 0 = subst (λ (g : Func). g.args ≡ 0) function_is m.no_argument in
          omega (arith, arguments, some)

  by_function : (number : ℕ) → image.layout.main ≡ Some number → (o : Option Func) → slice_get image.trusted.funs number ≡ o → OrNot (HasMain image)
  by_function number named (Some f) there = by_arguments number f named there f.args refl
  by_function number named None gone = inr other
    where
      other : HasMain image → ⊥
      other h =
          let m = h.2 in
          let numbers : Some h.0 ≡ Some number = sym m.named ∙ named in
          let number_is : h.0 ≡ number = cc in
          let wrong : Some h.1 ≡ None = sym m.there ∙ subst (λ n. slice_get image.trusted.funs n ≡ None) (sym number_is) gone in
          cc

  by_main : (o : Option ℕ) → image.layout.main ≡ o → OrNot (HasMain image)
  by_main (Some number) named = by_function number named (slice_get image.trusted.funs number) refl
  by_main None gone = inr (λ h. let wrong : None ≡ Some h.0 = sym gone ∙ (h.2).named in cc)

pub fits_or_not : (image : Image) (settings : Settings) → AreAllowed settings → OrNot (Fits image settings)
fits_or_not image settings allowed =
    ⊎_elim
    (λ trusted.
    ⊎_elim
    (λ sandbox.
    ⊎_elim
    (λ main. inl (record { allowed = allowed; trusted = trusted; sandbox = sandbox; main = main }))
    (λ no. inr (λ f. no f.main))
    (by_main image image.layout.main refl))
    (λ no. inr (λ f. no f.sandbox))
    (blocks_fit settings.sandbox first_offset image.sandbox.blocks))
    (λ no. inr (λ f. no f.trusted))
    (blocks_fit settings.trusted first_offset image.trusted.blocks)

-- where the test of a fit answers no
pub unless_fits : (image : Image) {settings other : Settings} → settings ≡ other → {b : Bool} → (Fits image settings → IsTrue b) → b ≡ false → Fits image other → ⊥
unless_fits image {settings} {other} same {b} tells no_fit f = let wrong : b ≡ true = tells (subst (Fits image) (sym same) f) in cc
