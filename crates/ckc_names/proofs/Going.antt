-- Mentions behind one another.
use Rattle.std.proofs.Common.{◌≡◌, ℕ, ◌+◌, ◌<◌, List, [], ◌∷◌, ◌++◌, length, map, take, get_or, Option, Some, None, is_some, Result, refl, sym, ap, ◌∙◌, append_assoc}
use Rattle.std.specs.List.{flat_map}
use Rattle.std.specs.Option.{option_map}
use Rattle.std.proofs.lemmas.List.{append-nil, take_more}
use Rattle.ckc_text.specs.declared.fault.SourceFault.{SourceFault}
use Rattle.ckc_names_rules.specs.Mentions.{Mention}
use Rattle.ckc_names.specs.State.{State}
use Rattle.ckc_names.specs.Progress.{Progress, Passes, step, after}

after_both : (ms ns : List Mention) (known : Result State SourceFault) → after (ms ++ ns) known ≡ after ns (after ms known)
after_both [] ns known = refl
after_both (m ∷ ms) ns known = after_both ms ns (step m known)

-- mentions behind mentions
pub on : {ms ns all : List Mention} {a b c : Progress} → all ≡ ms ++ ns → Passes ms a b → Passes ns b c → Passes all a c
on {ms} {ns} {all} {a} {b} {c} is first rest = record {
  passed = λ whole.
      let behind = rest.passed whole in
      let before = first.passed behind.0 in
      (before.0, behind.1 ∙ ap (after ns) before.1 ∙ sym (ap (λ xs. after xs a.known) is ∙ after_both ms ns a.known));
}

-- ---- parts in a list

flat_last : {X : Type 0} (f : X → List Mention) (xs ys : List X) → flat_map f (xs ++ ys) ≡ flat_map f xs ++ flat_map f ys
flat_last f [] ys = refl
flat_last f (x ∷ xs) ys = ap (λ ms. f x ++ ms) (flat_last f xs ys) ∙ sym (append_assoc (f x) (flat_map f xs) (flat_map f ys))

part_at : {X : Type 0} (f : X → List Mention) (xs : List X) (i : ℕ) (x : X) → i < length xs → x ≡ get_or xs i x → flat_map f (take (i + 1) xs) ≡ flat_map f (take i xs) ++ f x
part_at f xs i x less is =
    ap (flat_map f) (take_more xs i x less ∙ ap (λ y. take i xs ++ y ∷ []) (sym is))
    ∙ flat_last f (take i xs) (x ∷ []) ∙ ap (λ ms. flat_map f (take i xs) ++ ms) (append-nil (f x))

-- one part more
pub part_more : {X : Type 0} {a b c : Progress} (f : X → List Mention) (xs : List X) (i : ℕ) (x : X) → i < length xs → x ≡ get_or xs i x → Passes (flat_map f (take i xs)) a b → Passes (f x) b c → Passes (flat_map f (take (i + 1) xs)) a c
part_more f xs i x less is first rest = on (part_at f xs i x less is) first rest

-- what is shown of the parts
pub flat_shown : {X Y : Type 0} (f : Y → List Mention) (g : X → Y) (xs : List X) → flat_map f (map g xs) ≡ flat_map (λ x. f (g x)) xs
flat_shown f g [] = refl
flat_shown f g (x ∷ xs) = ap (λ ms. f (g x) ++ ms) (flat_shown f g xs)

-- the parts of a for, those of its head first
pub for_parts : (first second third body behind : List Mention) → (first ++ (second ++ (third ++ body))) ++ behind ≡ (first ++ (second ++ third)) ++ (body ++ behind)
for_parts first second third body behind = simp append_assoc

-- one mention of each part
pub each_shown : {X Y : Type 0} (f : Y → Mention) (g : X → Y) (xs : List X) → map f (map g xs) ≡ flat_map (λ x. f (g x) ∷ []) xs
each_shown f g [] = refl
each_shown f g (x ∷ xs) = ap (λ ms. f (g x) ∷ ms) (each_shown f g xs)

pub some_shown : {X Y : Type 0} (g : X → Y) (o : Option X) → is_some (option_map g o) ≡ is_some o
some_shown g None = refl
some_shown g (Some x) = refl
