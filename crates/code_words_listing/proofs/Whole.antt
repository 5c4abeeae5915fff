-- What is whole in a state that is reached: functions, callbacks, images.
use Rattle.std.proofs.Common.{◌≡◌, ℕ, zero, suc, ◌+◌, ◌-◌, Bool, true, false, List, [], ◌∷◌, ◌++◌, length, Some, None, refl, sym, ap, ◌∙◌, arith}
use Rattle.std.specs.Prelude.{All, nat_lt, nat_le, codes, slice_get}
use Rattle.std.proofs.lemmas.List.Elements.{All-nil, All-cons, All-append, All-head}
use Rattle.std.proofs.lemmas.Bool.Decides.{nat_tests}
use Rattle.marshalling.specs.declared.signature.Param.{Param}
use Rattle.marshalling.specs.Signatures.{IsSignature}
use Rattle.code_words.specs.declared.image.Callback.{Callback}
use Rattle.code_words.specs.declared.op.Op.{Op}
use Rattle.code_words.specs.Formats.{IsFunc, KeepsFormat, HasNames}
use Rattle.code_words.specs.Functions.{Func}
use Rattle.code_words.specs.Images.{Image}
use Rattle.code_words_listing.specs.Lines.{Line, Heading, TrustedSide, Parameter, End, SandboxSide, IsAllowed}
use Rattle.code_words_listing.specs.Listings.{trusted_lines, sandbox_lines}
use Rattle.code_words_listing.specs.Reached.{begun_ops, IsReached, EndsOnPace}
use Rattle.code_words_listing.specs.Steps.{State, InCallback, InFunction, InBody, Closed, with_parameter, is_among, opened, least_behind, step, lines_to, begun_lines}
use Rattle.code_words_listing.specs.Verdicts.{off_pace_in, off_pace}
use Rattle.code_words_listing.proofs.KeptFormat.{function-allowed, keeps-format, has-names}
use Rattle.code_words_listing.proofs.PacedLines.{function-keeps, lines-paced}
use Rattle.code_words_listing.proofs.Reached.{kept, open-pace}
use Rattle.code_words_listing.proofs.SomeVerdict.{all-back}
use Rattle.code_words_listing.proofs.Steps.{closed-format, plain, step-leads}

-- ---- functions

-- a function that has begun, may stand in a listing so far, and keeps the pace
begun-whole : (state : State) (f : Func) → IsReached state → begun_ops state ≡ f.ops → All IsAllowed (begun_lines f) → off_pace 1 (lines_to state) ≡ None → IsFunc f
begun-whole state f r ops a h =
    let o = open-pace state r in
    let pace : off_pace_in o.first f.ops 0 f.ops ≡ None = ap (λ (l : List Op). off_pace_in o.first l 0 l) (sym ops) ∙ sym o.is ∙ h in
    let end : IsAllowed End = plain End (codes "end") refl tt in
    let all = function-allowed f (All-append IsAllowed (begun_lines f) (End ∷ []) a (All-cons IsAllowed End [] end (All-nil IsAllowed))) in
    record { named = all.named; frame = all.frame; sized = all.sized; paced = function-keeps o.first f.ops 0 f.ops pace }

pub whole-function : (image : Image) (f : Func) (line : Line) → IsReached (InFunction image f) → EndsOnPace (InFunction image f) line → line ≡ End → IsFunc f
whole-function image f line r paced is =
    begun-whole (InFunction image f) f r refl (all-back IsAllowed (Heading ∷ TrustedSide ∷ trusted_lines image) (begun_lines f) r.allowed) (paced (rw is refl))

pub whole-body : (image : Image) (f : Func) (line : Line) → IsReached (InBody image f) → EndsOnPace (InBody image f) line → line ≡ End → IsFunc f
whole-body image f line r paced is =
    let behind = all-back IsAllowed (Heading ∷ TrustedSide ∷ trusted_lines image) (SandboxSide ∷ (sandbox_lines image ++ begun_lines f)) r.allowed in
    begun-whole (InBody image f) f r refl (all-back IsAllowed (SandboxSide ∷ sandbox_lines image) (begun_lines f) behind) (paced (rw is refl))

-- ---- callbacks

-- the last parameter makes a signature
pub last-parameter : (image : Image) (c : Callback) (left : ℕ) (p : Param) → IsReached (InCallback image c left) → IsAllowed (Parameter p) → is_among (length c.signature + suc left) p.region ≡ true → left ≡ 0
    → IsSignature (c.signature ++ p ∷ [])
last-parameter image c left p r a t zero-left =
    let on : step (InCallback image c left) (Parameter p) ≡ Some (opened image (with_parameter p c) 0) =
    rw t (ap (λ n. Some (opened image (with_parameter p c) n)) zero-left) in
    let l = step-leads (InCallback image c left) (opened image (with_parameter p c) 0) (Parameter p) (kept (InCallback image c left) r) a on in
    let whole = all-back (λ (c : Callback). IsSignature c.signature) image.layout.callbacks (with_parameter p c ∷ []) l.kept.callable in
    All-head (λ (c : Callback). IsSignature c.signature) (with_parameter p c) [] whole

-- ---- images

-- a whole image keeps what every image does
pub whole-format : (image : Image) → IsReached (Closed image) → KeepsFormat image
whole-format image r = keeps-format image (closed-format image (kept (Closed image) r) r.allowed) (lines-paced image r.paced)

pub whole-names : (image : Image) → IsReached (Closed image) → HasNames image
whole-names image r = has-names image (closed-format image (kept (Closed image) r) r.allowed)

-- ---- numbers that rise

behind-last : (least : ℕ) (funs : List Func) (k : ℕ) (f : Func) → suc k ≡ length funs → slice_get funs k ≡ Some f → least_behind least funs ≡ suc f.number
behind-last least [] k f e h = cc
behind-last least (g ∷ []) zero f e h = let same : g ≡ f = cc in ap (λ (f : Func). suc f.number) same
behind-last least (g ∷ []) (suc k) f e h = cc
behind-last least (g ∷ next ∷ funs) zero f e h = let no : ⊥ = omega (arith, e) in absurd no
behind-last least (g ∷ next ∷ funs) (suc k) f e h = behind-last (suc g.number) (next ∷ funs) k f (omega (arith, e)) h

below : (m n : ℕ) → nat_lt m n ≡ nat_le (suc m) n
below m n = by (nat_lt m n) refl (nat_le (suc m) n) refl
  where
    by : (a : Bool) → nat_lt m n ≡ a → (b : Bool) → nat_le (suc m) n ≡ b → a ≡ b
    by true e true f = refl
    by false e false f = refl
    by true e false f = grind (arith, nat_tests, e, f)
    by false e true f = grind (arith, nat_tests, e, f)

pub rises : (funs : List Func) (f : Func) (number : ℕ) → slice_get funs (length funs - 1) ≡ Some f → nat_lt f.number number ≡ nat_le (least_behind 0 funs) number
rises [] f number h = cc
rises (g ∷ funs) f number h =
    let one : suc (length (g ∷ funs) - 1) ≡ length (g ∷ funs) = omega arith in
    below f.number number ∙ ap (λ n. nat_le n number) (sym (behind-last 0 (g ∷ funs) (length (g ∷ funs) - 1) f one h))
