-- Facts that lead back from a node, and the answers that distances give.
use Rattle.std.proofs.Common.{ℕ, suc, ◌+◌, ◌*◌, ◌^◌, ◌<◌, ◌≤◌, ◌≡◌, ℤ, pos, ◌+ℤ◌, ◌-ℤ◌, ◌≤ℤ◌, ◌<ℤ◌, Option, None, Some, List, [], ◌∷◌, ◌++◌, length, get_or, sym, ◌∙◌, ap, subst, arith, inl, inr, Vec, Global}
use Rattle.std.proofs.lemmas.Int.{ints}
use Rattle.std.proofs.lemmas.List.{length_push}
use Rattle.std.proofs.lemmas.List.Elements.{All-push, All-contains}
use Rattle.std.specs.List.{All, Contains}
use Rattle.subsumption.specs.declared.fact.Fact.{Fact}
use Rattle.subsumption.specs.Graphs.{node_of, at, IsEdge}
use Rattle.subsumption.specs.declared.relaxation.Outcome.{Outcome}
use Rattle.subsumption.specs.declared.relaxation.Outcome.TheVariants.{Contradictory}
use Rattle.subsumption.specs.Facts.{value_of, numbers_of, HoldsBy, Holds, Meets, Entails}
use Rattle.subsumption.specs.Models.{AreEdges, IsContradiction}
use Rattle.subsumption.specs.Relaxation.{far_away, last_of, IsStep, IsSettled, IsLink, AreLinked, LeadsFrom, IsPath, AreCounted, ShowsSearch}
use Rattle.subsumption.proofs.Lists.{All_front, All_last}

-- where all facts are met, the right of the fact that lowered a node last fell last in a round before
pub link_of : (F : List Fact) (n : ℕ) (R : Option ℕ → ℕ) (D : List ℤ) (x : Option ℕ) (f : Fact) → AreEdges n F → All (HoldsBy (at D)) F → IsStep F R D x f → IsLink n R D x f
link_of F n R D x f edges met step =
    let edge : IsEdge n f = All-contains (IsEdge n) F f edges.edges step.among in
    let holds : at D f.left ≤ℤ (at D f.right +ℤ f.plus) = All-contains (HoldsBy (at D)) F f met step.among in
    let same : at D f.left ≡ at D x = ap (at D) step.left in
    record {
      left = step.left;
      right = edge.right;
      plus = edge.plus;
      met = step.met;
      sooner = elim step.sooner [ inl lt ↦ lt | inr low ↦ absurd (omega (arith, ints, same, holds)) ];
    }

pub linked : (F : List Fact) (s : Option ℕ) (n : ℕ) (D : List ℤ) (L : List (Option Fact)) → AreEdges n F → IsSettled F s n D L → AreLinked s D L
linked F s n D L edges settled =
    let r = settled.relaxed in
    let P : ℕ → (x : Option ℕ) → Fact → Type 0 = λ m x f. IsLink m r.rounds D x f in
    record {
      rounds = r.rounds;
      few = λ x lt. omega (arith, r.last_size, settled.few, r.latest x (omega (arith, lt, r.last_size)));
      roots = λ x lt e. r.roots x (omega (arith, lt, r.last_size)) e;
      steps = λ x f lt e. subst (λ m. P m x f) (sym r.last_size) (link_of F n r.rounds D x f edges settled.met (r.steps x f (omega (arith, lt, r.last_size)) e));
    }

pub leads_start : (s : Option ℕ) (D : List ℤ) (L : List (Option Fact)) (x : Option ℕ) → node_of x < length L → LeadsFrom s D L x x []
leads_start s D L x lt = record {
  room = lt;
  count = λ l. (let few = l.few x lt in omega arith);
  among = λ i d in'. absurd (omega arith);
  shows = λ a holds. omega (arith, ints);
  near = omega (arith, ints);
}

pub leads_more : (s : Option ℕ) (D : List ℤ) (L : List (Option Fact)) (here there : Option ℕ) (path : List Fact) (f : Fact) → AreLinked s D L
    → LeadsFrom s D L here there path → last_of L here ≡ Some f → LeadsFrom s D L f.right there (path ++ f ∷ [])
leads_more s D L here there path f l leads e =
    let link = l.steps here f leads.room e in
    record {
      room = link.right;
      count = λ m. (let c = leads.count m in let sooner = (m.steps here f leads.room e).sooner in omega (arith, length_push path f));
      among = All-push (λ f. (x : Option ℕ) × (node_of x < length L) × (last_of L x ≡ Some f)) path f leads.among (here, leads.room, e);
      shows = λ a holds. (let before = leads.shows a (All_front (HoldsBy a) path (f ∷ []) holds) in
          let last : a f.left ≤ℤ (a f.right +ℤ f.plus) = All_last (HoldsBy a) path f holds in
          let same : a f.left ≡ a here = ap a link.left in
          let met = link.met in
          omega (arith, ints, same));
      near = (let met = link.met in let w = link.plus.low in let near = leads.near in
          let size : length (path ++ f ∷ []) * 2 ^ 102 ≡ length path * 2 ^ 102 + 2 ^ 102 = rw length_push (omega arith) in
          omega (arith, ints, size));
    }

pub leads_shorter : (s : Option ℕ) (D : List ℤ) (L : List (Option Fact)) (here there : Option ℕ) (path : List Fact) (f : Fact) → AreLinked s D L
    → LeadsFrom s D L here there path → last_of L here ≡ Some f → length path < length L
leads_shorter s D L here there path f l leads e = let sooner = (l.steps here f leads.room e).sooner in let c = leads.count l in omega arith

pub path_is : (s : Option ℕ) (D : List ℤ) (L : List (Option Fact)) (here there : Option ℕ) (path : List Fact) → AreLinked s D L → length L ≤ 4097
    → (at D there +ℤ pos (2 ^ 115)) <ℤ far_away → LeadsFrom s D L here there path → last_of L here ≡ None → IsPath s D L there path
path_is s D L here there path l few close leads e =
    let c = leads.count l in
    let most : length path * 2 ^ 102 ≤ 4097 * 2 ^ 102 = omega (arith, few, c) in
    let near = leads.near in
    record {
      count = omega arith;
      among = leads.among;
      shows = λ a holds. (let h = leads.shows a holds in elim (l.roots here leads.room e).value [
        | inl root ↦ (let same : a here ≡ a s = ap a root.0 in let zero' = root.1 in omega (arith, ints, same))
        | inr far ↦ absurd (omega (arith, ints, most, far))
      ]);
    }

pub yes_answer : (F : List Fact) (g : Fact) (n : ℕ) (D : List ℤ) (L : List (Option Fact)) (path : List Fact) → IsSettled F g.right n D L
    → IsPath g.right D L g.left path → at D g.left ≤ℤ g.plus → All (Contains F) path × Entails path g × (length path ≤ n)
yes_answer F g n D L path settled is le = (
  (λ i d lt. (let h = is.among i d lt in (settled.relaxed.steps h.0 (get_or path i d) (omega (arith, h.1, settled.relaxed.last_size)) h.2).among)),
  (λ v meets. (let h = is.shows (value_of v) meets in omega (arith, ints))),
  omega (arith, is.count, settled.relaxed.last_size),
)

value_of-counted : (D vs : List ℤ) → AreCounted D vs → (x : Option ℕ) → node_of x < length D → value_of (numbers_of vs) x ≡ at D x -ℤ at D None
value_of-counted D vs are None lt = omega (arith, ints)
value_of-counted D vs are (Some i) lt =
    let e : get_or vs i (pos 0) ≡ get_or D (i + 1) (pos 0) -ℤ get_or D 0 (pos 0) = are.each i (omega (arith, are.size)) in
    let same : suc i ≡ i + 1 = omega arith in
    e ∙ ap (λ n. get_or D n (pos 0) -ℤ get_or D 0 (pos 0)) (sym same)

pub no_answer : (F : List Fact) (g : Fact) (n : ℕ) (D : List ℤ) (L : List (Option Fact)) (vs : List ℤ) → AreEdges n F → IsSettled F g.right n D L
    → AreCounted D vs → node_of g.left < n → node_of g.right < n → g.plus <ℤ at D g.left → Meets (numbers_of vs) F × (Holds (numbers_of vs) g → ⊥) × (length vs + 1 ≡ n)
no_answer F g n D L vs edges settled are left right over =
    let is = λ (x : Option ℕ) (lt : node_of x < n). value_of-counted D vs are x (omega (arith, lt, settled.relaxed.size)) in (
      (λ i d lt. (let f = get_or F i d in
          let edge : IsEdge n f = edges.edges i d lt in
          let met : at D f.left ≤ℤ (at D f.right +ℤ f.plus) = settled.met i d lt in
          omega (arith, ints, is f.left edge.left, is f.right edge.right))),
      (λ h. (let begins = settled.relaxed.begins in omega (arith, ints, is g.left left, is g.right right, h))),
      are.size ∙ settled.relaxed.size,
    )

-- yes for an answer where nothing meets the facts
pub contradiction_answer : (F : List Fact) (n : ℕ) (g : Fact) (s : Option ℕ) (o : Outcome) (path : Vec Fact Global) → o ≡ Contradictory path → ShowsSearch F s n o
    → All (Contains F) path.items × Entails path.items g × (length path.items ≤ n)
contradiction_answer F n g s o path is shown =
    let P : Outcome → Type 0 = λ o. ShowsSearch F s n o in
    let broken : IsContradiction F n path.items = subst P is shown in
    (broken.among, (λ v meets. absurd (broken.unmet (value_of v) meets tt)), broken.count)
