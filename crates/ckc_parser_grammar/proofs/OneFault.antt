-- A list of tokens has one refusal at most, and none if it spells a tree that is low enough.
use Rattle.std.proofs.Common.{◌≡◌, ◌≤◌, ◌<◌, ◌⊎◌, inl, inr, ℕ, List, [], ◌∷◌, refl, sym, ap, subst, arith}
use Rattle.ckc_text.specs.declared.code.Code.TheVariants.{E06, E07}
use Rattle.ckc_text.specs.declared.fault.SourceFault.{SourceFault}
use Rattle.ckc_lexer.specs.declared.token.Token.{Token}
use Rattle.ckc_tree.specs.Items.{Item, Tree}
use Rattle.ckc_tree.specs.Heights.{Reach, items_reach}
use Rattle.ckc_parser_grammar.specs.ItemGrammar.{SpellsItems, SpellsProgram, program}
use Rattle.ckc_parser_grammar.specs.ItemBeginnings.{BeginsItems}
use Rattle.ckc_parser_grammar.specs.Parsing.{IsTree, BeginsLow, point, IsFault, unexpected, ended, too_deep}
use Rattle.ckc_parser_grammar.proofs.OneType.{first_span, rest_of}
use Rattle.ckc_parser_grammar.proofs.Paths.{Fact, Path, here, next, head}
use Rattle.ckc_parser_grammar.proofs.ItemPaths.{items_path, begun_items}

-- a path to the end has a fact behind each token
ahead : {P Q : List Token → Type 0} {first : Token} {ts rest : List Token} → Path P ts [] → Path Q ts (first ∷ rest) → P rest
ahead (here a) q = elim q [ ]
ahead (next a p) (here b) = head p
ahead (next a p) (next b q) = ahead p q

-- of two paths to a token, one has a fact behind the other's, or they lead to the same
meet : {P Q : List Token → Type 0} {first other : Token} {ts rest rest' : List Token} → Path P ts (first ∷ rest) → Path Q ts (other ∷ rest') → (first ∷ rest ≡ other ∷ rest') ⊎ (P rest' ⊎ Q rest)
meet (here a) (here b) = inl refl
meet (here a) (next b q) = inr (inr (head q))
meet (next a p) (here b) = inr (inl (head p))
meet (next a p) (next b q) = meet p q

-- what the tokens up to a token begin, at each token before it
path_of : {tokens rest : List Token} (b : BeginsLow tokens rest) → Path (Fact (BeginsItems tokens) b.reach) tokens rest
path_of b = begun_items b.begins

-- all that these tokens begin is too deep, and its first node of the greatest depth starts no earlier
abbrev Deep : List Token → List Token → ℕ → Type 0
Deep tokens rest start = (q : Reach) → BeginsItems tokens rest q → (200 < q.height) × (start ≤ q.start)

too_low : {tokens rest : List Token} {high : Reach} {start : ℕ} → Fact (BeginsItems tokens) high rest → high.height ≤ 200 → Deep tokens rest start → ⊥
too_low a low deep = absurd (omega (arith, a.low.no_higher, low, (deep a.reach a.begins).0))

-- ---- a tree or a refusal

no_fault : {length : ℕ} {tokens : List Token} {f : SourceFault} {list : List Item} → SpellsItems tokens list → (items_reach list).height ≤ 200 → IsFault length tokens f → ⊥
no_fault d low (unexpected b none) = let a = ahead (items_path d) (path_of b) in none a.reach a.begins
no_fault d low (ended b none) = none _ (program d)
no_fault d low (too_deep b r deep) = too_low (ahead (items_path d) (path_of b)) low deep

no_fault_of : {length : ℕ} {tokens : List Token} {f : SourceFault} {t : Tree} → SpellsProgram length tokens t → (items_reach t.items).height ≤ 200 → IsFault length tokens f → ⊥
no_fault_of (program d) low fault = no_fault d low fault

pub never_both : (length : ℕ) (tokens : List Token) (f : SourceFault) (t : Tree) → IsFault length tokens f → IsTree length tokens t → ⊥
never_both length tokens f t fault known = no_fault_of known.spelled known.low fault

-- ---- one refusal

move : {tokens rest rest' : List Token} {r : Reach} → rest ≡ rest' → BeginsItems tokens rest r → BeginsItems tokens rest' r
move {tokens} {r} same b = subst (λ (ts : List Token). BeginsItems tokens ts r) same b

one_place : {tokens rest rest' : List Token} {q r : Reach} → rest ≡ rest' → BeginsItems tokens rest q → Deep tokens rest q.start → BeginsItems tokens rest' r → Deep tokens rest' r.start → q.start ≡ r.start
one_place {q} {r} same b deep b' deep' =
    omega (arith, (deep r (move (sym same) b')).1, (deep' q (move same b)).1)

not_both : {tokens rest rest' : List Token} {first other : Token} {r : Reach} → BeginsLow tokens (first ∷ rest) → ((q : Reach) → BeginsItems tokens rest q → ⊥)
    → BeginsLow tokens (other ∷ rest') → BeginsItems tokens rest' r → Deep tokens rest' r.start → ⊥
not_both b none b' r deep =
    elim (meet (path_of b) (path_of b')) [
      | inl same ↦ none _ (move (sym (ap rest_of same)) r)
      | inr (inl a) ↦ too_low a b.low deep
      | inr (inr a) ↦ none a.reach a.begins
    ]

pub at_most_one_fault : (length : ℕ) (tokens : List Token) (f g : SourceFault) → IsFault length tokens f → IsFault length tokens g → f ≡ g
at_most_one_fault length tokens f g (unexpected b none) (unexpected b' none') =
    elim (meet (path_of b) (path_of b')) [
      | inl same ↦ ap (λ (ts : List Token). record { code = E06; span = first_span ts }) same
      | inr (inl a) ↦ absurd (none' a.reach a.begins)
      | inr (inr a) ↦ absurd (none a.reach a.begins)
    ]
at_most_one_fault length tokens f g (unexpected b none) (ended b' none') = let a = ahead (path_of b') (path_of b) in absurd (none a.reach a.begins)
at_most_one_fault length tokens f g (ended b' none') (unexpected b none) = let a = ahead (path_of b') (path_of b) in absurd (none a.reach a.begins)
at_most_one_fault length tokens f g (ended b none) (ended b' none') = refl
at_most_one_fault length tokens f g (ended b' none) (too_deep b r deep) = absurd (too_low (ahead (path_of b') (path_of b)) b'.low deep)
at_most_one_fault length tokens f g (too_deep b r deep) (ended b' none) = absurd (too_low (ahead (path_of b') (path_of b)) b'.low deep)
at_most_one_fault length tokens f g (unexpected b none) (too_deep b' r deep) = absurd (not_both b none b' r deep)
at_most_one_fault length tokens f g (too_deep b' r deep) (unexpected b none) = absurd (not_both b none b' r deep)
at_most_one_fault length tokens f g (too_deep b r deep) (too_deep b' r' deep') =
    elim (meet (path_of b) (path_of b')) [
      | inl same ↦ ap (λ (at : ℕ). record { code = E07; span = point at }) (one_place (ap rest_of same) r deep r' deep')
      | inr (inl a) ↦ absurd (too_low a b.low deep')
      | inr (inr a) ↦ absurd (too_low a b'.low deep)
    ]
