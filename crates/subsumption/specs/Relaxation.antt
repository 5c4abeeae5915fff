-- Distances by rounds in which all facts are relaxed, after Bellman and Ford.
use Rattle.std.specs.Prelude.{ℕ, suc, ◌+◌, ◌*◌, ◌^◌, ◌<◌, ◌≤◌, ◌≡◌, ◌⊎◌, ℤ, pos, neg_ℤ, ◌+ℤ◌, ◌-ℤ◌, ◌≤ℤ◌, ◌<ℤ◌, Bool, true, false, Option, None}
use Rattle.std.specs.Prelude.{Some, List, [], ◌∷◌, ◌++◌, length, slice_index_or, slice_set}
use Rattle.std.specs.List.{All, Contains}
use Rattle.subsumption.specs.declared.fact.Fact.{Fact}
use Rattle.subsumption.specs.Graphs.{node_of, at, IsWithin}
use Rattle.subsumption.specs.declared.relaxation.Outcome.{Outcome}
use Rattle.subsumption.specs.declared.relaxation.Outcome.TheVariants.{Settled, Contradictory}
use Rattle.subsumption.specs.Facts.{HoldsBy}
use Rattle.subsumption.specs.Models.{IsContradiction}

-- where nodes stand that the start doesn't lead to
abbrev pub far_away : ℤ
far_away = pos (2 ^ 118)

-- the fact that lowered a node last
abbrev pub last_of : List (Option Fact) → Option ℕ → Option Fact
last_of last x = slice_index_or last (node_of x) None

-- one fact relaxed by the distances of the round before
abbrev pub Relaxes : List ℤ → Fact → List ℤ → List (Option Fact) → Bool → List ℤ → List (Option Fact) → Type 0
Relaxes before f old last false new next = (new ≡ old) × (next ≡ last) × (at old f.left ≤ℤ (at before f.right +ℤ f.plus))
Relaxes before f old last true new next = (new ≡ slice_set old (node_of f.left) (at before f.right +ℤ f.plus))
    × (next ≡ slice_set last (node_of f.left) (Some f)) × ((at before f.right +ℤ f.plus) <ℤ at old f.left)

-- a node that a round left where it was
pub record IsSame (before after : List ℤ) (last next : List (Option Fact)) (x : Option ℕ) : Type 0 where
  pub value : at after x ≡ at before x
  pub fact : last_of next x ≡ last_of last x

-- a node that a round lowered
pub record IsLowered (facts : List Fact) (before after : List ℤ) (next : List (Option Fact)) (x : Option ℕ) : Type 0 where
  pub by : Fact
  pub among : Contains facts by
  pub left : by.left ≡ x
  pub fact : last_of next x ≡ Some by
  pub value : at after x ≡ at before by.right +ℤ by.plus
  pub lower : at after x <ℤ at before x

-- whether a distance fell
abbrev pub ShowsFall : List ℤ → List (Option Fact) → List ℤ → List (Option Fact) → Bool → Type 0
ShowsFall before last after next false = (after ≡ before) × (next ≡ last)
ShowsFall before last after next true = (x : Option ℕ) × (node_of x < length before) × (at after x <ℤ at before x)

-- a round as far as these facts of it were relaxed
pub record IsRound (facts done : List Fact) (before : List ℤ) (last : List (Option Fact)) (after : List ℤ) (next : List (Option Fact)) (fell : Bool)
    : Type 0 where
  pub size : length after ≡ length before
  pub last_size : length next ≡ length last
  pub each : (x : Option ℕ) → node_of x < length before → IsSame before after last next x ⊎ IsLowered facts before after next x
  pub met : All (λ f. at after f.left ≤ℤ (at before f.right +ℤ f.plus)) done
  pub falls : ShowsFall before last after next fell

-- A node that was never lowered: the start, or one that is far away. Its round is none.
pub record IsRoot (start x : Option ℕ) (d : ℤ) (round : ℕ) : Type 0 where
  pub unmoved : round ≡ 0
  pub value : ((x ≡ start) × (d ≡ pos 0)) ⊎ (d ≡ far_away)

-- A node that a fact lowered last. Where the fact's right didn't fall since, its last round was before.
pub record IsStep (facts : List Fact) (rounds : Option ℕ → ℕ) (distances : List ℤ) (x : Option ℕ) (f : Fact) : Type 0 where
  pub among : Contains facts f
  pub left : f.left ≡ x
  pub met : (at distances f.right +ℤ f.plus) ≤ℤ at distances x
  pub sooner : (rounds f.right < rounds x) ⊎ ((at distances f.right +ℤ f.plus) <ℤ at distances x)
  pub next : rounds x ≤ suc (rounds f.right)

-- the distances of n nodes after k rounds, with the round in which each fell last
pub record IsRelaxed (facts : List Fact) (start : Option ℕ) (n k : ℕ) (distances : List ℤ) (last : List (Option Fact)) : Type 0 where
  pub rounds : Option ℕ → ℕ
  pub size : length distances ≡ n
  pub last_size : length last ≡ n
  pub begins : at distances start ≤ℤ pos 0
  pub roots : (x : Option ℕ) → node_of x < n → last_of last x ≡ None → IsRoot start x (at distances x) (rounds x)
  pub steps : (x : Option ℕ) (f : Fact) → node_of x < n → last_of last x ≡ Some f → IsStep facts rounds distances x f
  pub latest : (x : Option ℕ) → node_of x < n → rounds x ≤ k
  pub low : (x : Option ℕ) → node_of x < n → neg_ℤ (pos (k * 2 ^ 102)) ≤ℤ at distances x
  pub high : (x : Option ℕ) → node_of x < n → at distances x ≤ℤ far_away
  pub ahead : All (λ f. HoldsBy (at distances) f ⊎ (rounds f.right ≡ k)) facts
  pub reached : 0 < k → (x : Option ℕ) × (node_of x < n) × (rounds x ≡ k)

-- distances after at most n rounds that meet all facts
pub record IsSettled (facts : List Fact) (start : Option ℕ) (n : ℕ) (distances : List ℤ) (last : List (Option Fact)) : Type 0 where
  pub k : ℕ
  pub few : k ≤ n
  pub relaxed : IsRelaxed facts start n k distances last
  pub met : All (HoldsBy (at distances)) facts

-- a fact more, where there is one
abbrev pub with_last : List Fact → Option Fact → List Fact
with_last facts None = facts
with_last facts (Some f) = facts ++ f ∷ []

-- the facts that lowered one of the first i nodes last
pub record AreNamed (last : List (Option Fact)) (i : ℕ) (facts : List Fact) : Type 0 where
  pub count : length facts ≤ i
  pub among : All (λ f. (x : Option ℕ) × (node_of x < i) × (last_of last x ≡ Some f)) facts
  pub all : (x : Option ℕ) (f : Fact) → node_of x < i → last_of last x ≡ Some f → Contains facts f

-- the distances, or the contradiction
abbrev pub ShowsSearch : List Fact → Option ℕ → ℕ → Outcome → Type 0
ShowsSearch facts start n (Settled search) = IsSettled facts start n search.distances.items search.last.items
ShowsSearch facts start n (Contradictory path) = IsContradiction facts n path.items

-- A fact on the way to a node: its right fell last in a round before.
pub record IsLink (n : ℕ) (rounds : Option ℕ → ℕ) (distances : List ℤ) (x : Option ℕ) (f : Fact) : Type 0 where
  pub left : f.left ≡ x
  pub right : node_of f.right < n
  pub plus : IsWithin (2 ^ 102) f.plus
  pub met : (at distances f.right +ℤ f.plus) ≤ℤ at distances x
  pub sooner : rounds f.right < rounds x

-- distances whose facts lead back from each node to a root
pub record AreLinked (start : Option ℕ) (distances : List ℤ) (last : List (Option Fact)) : Type 0 where
  pub rounds : Option ℕ → ℕ
  pub few : (x : Option ℕ) → node_of x < length last → rounds x ≤ length last
  pub roots : (x : Option ℕ) → node_of x < length last → last_of last x ≡ None → IsRoot start x (at distances x) (rounds x)
  pub steps : (x : Option ℕ) (f : Fact) → node_of x < length last → last_of last x ≡ Some f → IsLink (length last) rounds distances x f

-- the facts lead from a node towards another
pub record LeadsFrom (start : Option ℕ) (distances : List ℤ) (last : List (Option Fact)) (here there : Option ℕ) (path : List Fact) : Type 0 where
  pub room : node_of here < length last
  pub count : (linked : AreLinked start distances last) → linked.rounds here + length path ≤ length last
  pub among : All (λ f. (x : Option ℕ) × (node_of x < length last) × (last_of last x ≡ Some f)) path
  pub shows : (a : Option ℕ → ℤ) → All (HoldsBy a) path → (a there +ℤ at distances here) ≤ℤ (a here +ℤ at distances there)
  pub near : at distances here ≤ℤ (at distances there +ℤ pos (length path * 2 ^ 102))

-- the facts alone show that a node is no further from the start than its distance
pub record IsPath (start : Option ℕ) (distances : List ℤ) (last : List (Option Fact)) (there : Option ℕ) (path : List Fact) : Type 0 where
  pub count : length path ≤ length last
  pub among : All (λ f. (x : Option ℕ) × (node_of x < length last) × (last_of last x ≡ Some f)) path
  pub shows : (a : Option ℕ → ℤ) → All (HoldsBy a) path → a there ≤ℤ (a start +ℤ at distances there)

-- the numbers of the variables, counted from that of zero
pub record AreCounted (distances values : List ℤ) : Type 0 where
  pub size : length values + 1 ≡ length distances
  pub each : (i : ℕ) → i < length values → slice_index_or values i (pos 0) ≡ slice_index_or distances (i + 1) (pos 0) -ℤ slice_index_or distances 0 (pos 0)
