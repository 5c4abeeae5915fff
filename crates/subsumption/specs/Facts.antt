-- Facts, valuations, and what facts entail.
use Rattle.std.specs.Prelude.{ℕ, ◌+◌, ◌^◌, ◌<◌, ◌≤◌, ◌≡◌, ◌↔◌, ℤ, pos, negsuc, unsigned_abs, ◌+ℤ◌, ◌-ℤ◌, ◌≤ℤ◌, Option, None, Some, List, [], length}
use Rattle.std.specs.Prelude.{slice_index_or}
use Rattle.std.specs.List.{All, Contains}
use Rattle.bounds_exprs.specs.declared.term.Term.{Term}
use Rattle.subsumption.specs.declared.fact.Fact.{Fact}
use Rattle.subsumption.specs.Graphs.{fact_at, node_of, IsWithin}
use Rattle.subsumption.specs.declared.fact.Answer.{Answer}
use Rattle.subsumption.specs.declared.fact.Answer.TheVariants.{Yes, No}

-- the number of a variable or of zero
abbrev pub value_of : (ℕ → ℤ) → Option ℕ → ℤ
value_of v None = pos 0
value_of v (Some x) = v x

-- the fact holds where variables and zero have these numbers
abbrev pub HoldsBy : (Option ℕ → ℤ) → Fact → Type 0
HoldsBy a f = a f.left ≤ℤ (a f.right +ℤ f.plus)

-- the fact holds of a valuation
abbrev pub Holds : (ℕ → ℤ) → Fact → Type 0
Holds v f = HoldsBy (value_of v) f

-- the valuation meets the facts
abbrev pub Meets : (ℕ → ℤ) → List Fact → Type 0
Meets v facts = All (Holds v) facts

-- each valuation that meets the facts meets the goal
abbrev pub Entails : List Fact → Fact → Type 0
Entails facts goal = (v : ℕ → ℤ) → Meets v facts → Holds v goal

-- the numbers of a list, and zero for the variables past its end
abbrev pub numbers_of : List ℤ → ℕ → ℤ
numbers_of values x = slice_index_or values x (pos 0)

-- the number of a term
abbrev pub term_value : (ℕ → ℤ) → Term → ℤ
term_value v t = value_of v t.var +ℤ t.plus

-- the fact that the one term is at most the other
abbrev pub fact_of : Term → Term → Fact
fact_of a b = record { left = a.var; right = b.var; plus = b.plus -ℤ a.plus }

-- the one term is at most the other
abbrev pub TermsHold : (ℕ → ℤ) → Term → Term → Type 0
TermsHold v a b = term_value v a ≤ℤ term_value v b

-- an answer to a question about a fact and n nodes: at most n facts that stand among these and alone entail the goal, or
-- a number for each variable, which meet all of these and break the goal
abbrev pub AnswersFact : ℕ → List Fact → Fact → Answer → Type 0
AnswersFact n facts goal (Yes path) = All (Contains facts) path.facts.items × Entails path.facts.items goal × (length path.facts.items ≤ n)
AnswersFact n facts goal (No valuation) =
    Meets (numbers_of valuation.values.items) facts × (Holds (numbers_of valuation.values.items) goal → ⊥) × (length valuation.values.items + 1 ≡ n)

-- the variable, if it is one, is below this number
abbrev pub IsBelow : ℕ → Option ℕ → Type 0
IsBelow vars None = Unit {0}
IsBelow vars (Some x) = x < vars

-- the fact speaks of variables below this number
pub record IsAbout (vars : ℕ) (f : Fact) : Type 0 where
  pub left : IsBelow vars f.left
  pub right : IsBelow vars f.right

-- both nodes of the fact are among the first n, and the constant isn't outside -2^100 to 2^100
pub record IsKept (n : ℕ) (f : Fact) : Type 0 where
  pub left : node_of f.left < n
  pub right : node_of f.right < n
  pub plus : IsWithin (2 ^ 100) f.plus

-- both lists entail it
abbrev pub BothEntail : List Fact → List Fact → Fact → Type 0
BothEntail first second goal = Entails first goal × Entails second goal

-- the facts are about the same two, in the same order
pub record IsAlike (f g : Fact) : Type 0 where
  pub left : f.left ≡ g.left
  pub right : f.right ≡ g.right

-- no two of the facts are about the same two
pub record HasOneEach (facts : List Fact) : Type 0 where
  pub apart : (i j : ℕ) (d : Fact) → i < j → j < length facts → IsAlike (slice_index_or facts i d) (slice_index_or facts j d) → ⊥

-- of the facts that are entailed, the one with the least constant for these two
pub record IsLeastConstant (entailed : Fact → Type 0) (left right : Option ℕ) (plus : ℤ) : Type 0 where
  pub holds : entailed (fact_at left right plus)
  pub least : entailed (fact_at left right (plus -ℤ pos 1)) → ⊥

-- What is entailed can be met, since it isn't everything: that zero is below zero isn't entailed. And for some two the
-- least constant lies outside -2^100 to 2^100.
pub record IsWide (vars : ℕ) (entailed : Fact → Type 0) : Type 0 where
  pub met : entailed (fact_at None None (negsuc 0)) → ⊥
  pub left : Option ℕ
  pub right : Option ℕ
  pub about : IsAbout vars (fact_at left right (pos 0))
  pub plus : ℤ
  pub least : IsLeastConstant entailed left right plus
  pub outside : 2 ^ 100 < unsigned_abs plus

-- these are the facts after a step that leaves so much entailed: they entail exactly that, or there are none left where
-- the least constants are too large
pub record Leaves (vars : ℕ) (entailed : Fact → Type 0) (facts : List Fact) : Type 0 where
  pub none : IsWide vars entailed → facts ≡ []
  pub same : (IsWide vars entailed → ⊥) → (goal : Fact) → IsAbout vars goal → Entails facts goal ↔ entailed goal
