-- What a round keeps.
use Rattle.std.proofs.Common.{ℕ, suc, ◌+◌, ◌*◌, ◌^◌, ◌<◌, ◌≤◌, ◌≡◌, ◌||◌, ℤ, pos, neg_ℤ, ◌+ℤ◌, ◌≤ℤ◌, ◌<ℤ◌, Bool, true, false, cond, Option, None, Some, List, [], ◌∷◌, ◌++◌, length, take, get_or, set, replicate, refl, sym, ◌∙◌, ap, subst, arith, ◌⊎◌, inl, inr}
use Rattle.std.proofs.lemmas.Int.{ints}
use Rattle.std.proofs.lemmas.Bool.{cases_eq}
use Rattle.std.proofs.lemmas.List.{take_more, get_or_default, get_or-set_same, get_or-set_other, get_or-replicate, length-set, length-replicate}
use Rattle.std.proofs.lemmas.List.Elements.{All-push, All-contains, All-contains_itself}
use Rattle.std.proofs.Math.Nat.{suc-mul}
use Rattle.std.specs.Int.Signed.{lt_z}
use Rattle.std.specs.List.{All, Contains}
use Rattle.subsumption.specs.declared.fact.Fact.{Fact}
use Rattle.subsumption.specs.Graphs.{node_of, at, IsEdge, IsWithin, at_index}
use Rattle.subsumption.specs.Facts.{HoldsBy}
use Rattle.subsumption.specs.Models.{AreEdges}
use Rattle.subsumption.specs.Relaxation.{far_away, last_of, Relaxes, IsSame, IsLowered, IsRound, IsRoot, IsStep, IsRelaxed, IsSettled}
use Rattle.subsumption.proofs.Lists.{node_same, node_of-at_index}
use Rattle.subsumption.proofs.Gaps.{lt_not}

pub round_start : (F : List Fact) (B : List ℤ) (L : List (Option Fact)) → IsRound F [] B L B L false
round_start F B L = record {
  size = refl;
  last_size = refl;
  each = λ x lt. inl (record { value = refl; fact = refl });
  met = λ i d lt. absurd (omega arith);
  falls = (refl, refl);
}

round_kept : (F K : List Fact) (B : List ℤ) (L : List (Option Fact)) (D : List ℤ) (M : List (Option Fact)) (fell : Bool) (f : Fact)
    → IsRound F K B L D M fell → at D f.left ≤ℤ (at B f.right +ℤ f.plus) → IsRound F (K ++ f ∷ []) B L D M fell
round_kept F K B L D M fell f r met = record {
  size = r.size;
  last_size = r.last_size;
  each = r.each;
  met = All-push (λ g. at D g.left ≤ℤ (at B g.right +ℤ g.plus)) K f r.met met;
  falls = r.falls;
}

at_put : (D : List ℤ) (x : Option ℕ) (v : ℤ) (y : Option ℕ) → node_of x < length D → node_of y ≡ node_of x → at (set D (node_of x) v) y ≡ v
at_put D x v y lt same = ap (λ m. get_or (set D (node_of x) v) m (pos 0)) same ∙ get_or-set_same D (node_of x) v (pos 0) lt

last_put : (M : List (Option Fact)) (x : Option ℕ) (f : Fact) (y : Option ℕ) → node_of x < length M → node_of y ≡ node_of x → last_of (set M (node_of x) (Some f)) y ≡ Some f
last_put M x f y lt same = ap (λ m. get_or (set M (node_of x) (Some f)) m None) same ∙ get_or-set_same M (node_of x) (Some f) None lt

-- no number rises where one is lowered
put_below : (D : List ℤ) (x : Option ℕ) (v : ℤ) (y : Option ℕ) → node_of x < length D → v <ℤ at D x → at (set D (node_of x) v) y ≤ℤ at D y
put_below D x v y lt low = elim (cases_eq (node_of y) (node_of x)) [
  | inl same ↦ (let e : at D y ≡ at D x = ap (λ m. get_or D m (pos 0)) same in omega (arith, ints, at_put D x v y lt same, e, low))
  | inr ne ↦ omega (arith, ints, get_or-set_other D (node_of x) (node_of y) v (pos 0) ne)
]

-- no node rises in a round
round_below : (F K : List Fact) (B : List ℤ) (L : List (Option Fact)) (D : List ℤ) (M : List (Option Fact)) (fell : Bool)
    → IsRound F K B L D M fell → (x : Option ℕ) → node_of x < length B → at D x ≤ℤ at B x
round_below F K B L D M fell r x lt = elim (r.each x lt) [
  | inl same ↦ omega (arith, ints, same.value)
  | inr low ↦ omega (arith, ints, low.lower)
]

lowered_here : (F K : List Fact) (B : List ℤ) (L : List (Option Fact)) (D : List ℤ) (M : List (Option Fact)) (fell : Bool) (f : Fact) (x : Option ℕ)
    → Contains F f → node_of f.left < length B → length M ≡ length B → length D ≡ length B → IsRound F K B L D M fell
    → (at B f.right +ℤ f.plus) <ℤ at D f.left → node_of x ≡ node_of f.left
    → IsLowered F B (set D (node_of f.left) (at B f.right +ℤ f.plus)) (set M (node_of f.left) (Some f)) x
lowered_here F K B L D M fell f x among room sizeM sizeD r low same =
    let v = at B f.right +ℤ f.plus in
    let e : f.left ≡ x = sym (node_same x f.left same) in
    let value : at (set D (node_of f.left) v) x ≡ v = at_put D f.left v x (omega (arith, room, sizeD)) same in
    let old : at D f.left ≤ℤ at B f.left = round_below F K B L D M fell r f.left room in
    let there : at B x ≡ at B f.left = ap (at B) (sym e) in
    record {
      by = f;
      among = among;
      left = e;
      fact = last_put M f.left f x (omega (arith, room, sizeM)) same;
      value = value;
      lower = omega (arith, ints, value, old, there, low);
    }

each_other : (F : List Fact) (B : List ℤ) (L : List (Option Fact)) (D E : List ℤ) (M N : List (Option Fact)) (x : Option ℕ)
    → at E x ≡ at D x → last_of N x ≡ last_of M x → IsSame B D L M x ⊎ IsLowered F B D M x → IsSame B E L N x ⊎ IsLowered F B E N x
each_other F B L D E M N x value last (inl same) = inl (record { value = value ∙ same.value; fact = last ∙ same.fact })
each_other F B L D E M N x value last (inr low) = inr (record {
  by = low.by;
  among = low.among;
  left = low.left;
  fact = last ∙ low.fact;
  value = value ∙ low.value;
  lower = (let l = low.lower in omega (arith, ints, value, l));
})

round_lowered : (F K : List Fact) (B : List ℤ) (L : List (Option Fact)) (D : List ℤ) (M : List (Option Fact)) (fell : Bool) (f : Fact)
    → Contains F f → node_of f.left < length B → length L ≡ length B → IsRound F K B L D M fell → (at B f.right +ℤ f.plus) <ℤ at D f.left
    → IsRound F (K ++ f ∷ []) B L (set D (node_of f.left) (at B f.right +ℤ f.plus)) (set M (node_of f.left) (Some f)) true
round_lowered F K B L D M fell f among room sizeL r low =
    let v = at B f.right +ℤ f.plus in
    let sizeM : length M ≡ length B = r.last_size ∙ sizeL in
    let inD : node_of f.left < length D = omega (arith, room, r.size) in
    let here = λ (x : Option ℕ) (same : node_of x ≡ node_of f.left). lowered_here F K B L D M fell f x among room sizeM r.size r low same in
    let below = λ (x : Option ℕ). put_below D f.left v x inD low in
    record {
      size = length-set D (node_of f.left) v ∙ r.size;
      last_size = length-set M (node_of f.left) (Some f) ∙ r.last_size;
      each = λ x lt. elim (cases_eq (node_of x) (node_of f.left)) [
        | inl same ↦ inr (here x same)
        | inr ne ↦ each_other F B L D _ M _ x (get_or-set_other D (node_of f.left) (node_of x) v (pos 0) ne) (get_or-set_other M (node_of f.left) (node_of x) (Some f) None ne) (r.each x lt)
      ];
      met = All-push (λ g. at (set D (node_of f.left) v) g.left ≤ℤ (at B g.right +ℤ g.plus)) K f
          (λ i d lt. (let g = get_or K i d in let b = below g.left in let m : at D g.left ≤ℤ (at B g.right +ℤ g.plus) = r.met i d lt in omega (arith, ints, b, m)))
          (omega (arith, ints, at_put D f.left v f.left inD refl));
      falls = (f.left, room, (here f.left refl).lower);
    }

-- one fact more of a round
pub round_more : (F K : List Fact) (B : List ℤ) (L : List (Option Fact)) (D E : List ℤ) (M N : List (Option Fact)) (fell b : Bool) (f : Fact)
    → Contains F f → node_of f.left < length B → length L ≡ length B → IsRound F K B L D M fell → Relaxes B f D M b E N
    → IsRound F (K ++ f ∷ []) B L E N (b || fell)
round_more F K B L D E M N fell false f among room size r h =
    let P : List ℤ → Type 0 = λ X. IsRound F (K ++ f ∷ []) B L X N fell in
    let Q : List (Option Fact) → Type 0 = λ X. IsRound F (K ++ f ∷ []) B L D X fell in
    subst P (sym h.0) (subst Q (sym h.1) (round_kept F K B L D M fell f r h.2))
round_more F K B L D E M N fell true f among room size r h =
    let P : List ℤ → Type 0 = λ X. IsRound F (K ++ f ∷ []) B L X N true in
    let Q : List (Option Fact) → Type 0 = λ X. IsRound F (K ++ f ∷ []) B L (set D (node_of f.left) (at B f.right +ℤ f.plus)) X true in
    subst P (sym h.0) (subst Q (sym h.1) (round_lowered F K B L D M fell f among room size r h.2))

pub round_take : (F : List Fact) (i : ℕ) (d : Fact) (B : List ℤ) (L : List (Option Fact)) (D E : List ℤ) (M N : List (Option Fact)) (fell b : Bool)
    → i < length F → All (IsEdge (length B)) F → length L ≡ length B → IsRound F (take i F) B L D M fell → Relaxes B (get_or F i d) D M b E N
    → IsRound F (take (i + 1) F) B L E N (b || fell)
round_take F i d B L D E M N fell b lt edges size r h =
    let P : List Fact → Type 0 = λ K. IsRound F K B L E N (b || fell) in
    let edge : IsEdge (length B) (get_or F i d) = edges i d lt in
    subst P (sym (take_more F i d lt)) (round_more F (take i F) B L D E M N fell b (get_or F i d) (All-contains_itself F i d lt) edge.left size r h)

-- where nodes stand before the first round
pub relaxed_start : (F : List Fact) (s : Option ℕ) (n : ℕ) → node_of s < n → IsRelaxed F s n 0 (set (replicate n far_away) (node_of s) (pos 0)) (replicate n None)
relaxed_start F s n lt =
    let D : List ℤ = set (replicate n far_away) (node_of s) (pos 0) in
    let room : node_of s < length (replicate n far_away) = rw (length-replicate n far_away) lt in
    let there : (x : Option ℕ) → node_of x < n → ((x ≡ s) × (at D x ≡ pos 0)) ⊎ (at D x ≡ far_away) = λ x in'. elim (cases_eq (node_of x) (node_of s)) [
      | inl same ↦ inl (node_same x s same, at_put (replicate n far_away) s (pos 0) x room same)
      | inr ne ↦ inr (get_or-set_other (replicate n far_away) (node_of s) (node_of x) (pos 0) (pos 0) ne ∙ get_or-replicate n (node_of x) far_away (pos 0) in')
    ] in
    record {
      rounds = λ _. 0;
      size = length-set (replicate n far_away) (node_of s) (pos 0) ∙ length-replicate n far_away;
      last_size = length-replicate n None;
      begins = omega (arith, ints, at_put (replicate n far_away) s (pos 0) s room refl);
      roots = λ x in' e. record { unmoved = refl; value = there x in' };
      steps = λ x f in' e. (let none : last_of (replicate n None) x ≡ None = get_or-replicate n (node_of x) None None in' in cc);
      latest = λ x in'. omega arith;
      low = λ x in'. elim (there x in') [ inl h ↦ omega (arith, ints, h.1) | inr h ↦ omega (arith, ints, h) ];
      high = λ x in'. elim (there x in') [ inl h ↦ omega (arith, ints, h.1) | inr h ↦ omega (arith, ints, h) ];
      ahead = λ i d in'. inr refl;
      reached = λ h. absurd (omega arith);
    }

-- the round of a node after a round
abbrev pub round_of : ℤ → ℤ → ℕ → ℕ → ℕ
round_of after before new old = cond (lt_z after before) new old

round_same : (a b : ℤ) (k m : ℕ) (t : Bool) → lt_z a b ≡ t → a ≡ b → cond t k m ≡ m
round_same a b k m true e same = (let lt : a <ℤ b = grind (arith, ints) in absurd (omega (arith, ints)))
round_same a b k m false e same = refl

round_lower : (a b : ℤ) (k m : ℕ) (t : Bool) → lt_z a b ≡ t → a <ℤ b → cond t k m ≡ k
round_lower a b k m true e lt = refl
round_lower a b k m false e lt = (let le : b ≤ℤ a = lt_not a b e in absurd (omega (arith, ints)))

-- what a round did to a node
abbrev Changes : ℤ → ℤ → ℕ → ℕ → ℕ → Type 0
Changes after before new old k = ((after ≡ before) × (new ≡ old)) ⊎ ((after <ℤ before) × (new ≡ suc k))

changes : (F : List Fact) (B : List ℤ) (L : List (Option Fact)) (D : List ℤ) (M : List (Option Fact)) (x : Option ℕ) (old k : ℕ)
    → IsSame B D L M x ⊎ IsLowered F B D M x → Changes (at D x) (at B x) (round_of (at D x) (at B x) (suc k) old) old k
changes F B L D M x old k (inl same) = inl (same.value, round_same (at D x) (at B x) (suc k) old (lt_z (at D x) (at B x)) refl same.value)
changes F B L D M x old k (inr low) = inr (low.lower, round_lower (at D x) (at B x) (suc k) old (lt_z (at D x) (at B x)) refl low.lower)

-- a fact that lowered its left earlier
step_kept : (p q l plus : ℤ) (rp rq rl k : ℕ) → Changes q p rq rp k → (p +ℤ plus) ≤ℤ l → (rp < rl) ⊎ ((p +ℤ plus) <ℤ l) → rl ≤ suc rp → rl ≤ k
    → ((q +ℤ plus) ≤ℤ l) × ((rq < rl) ⊎ ((q +ℤ plus) <ℤ l)) × (rl ≤ suc rq)
step_kept p q l plus rp rq rl k (inl same) met (inl lt) next low = (let a = same.0 in let b = same.1 in (omega (arith, ints), inl (omega arith), omega arith))
step_kept p q l plus rp rq rl k (inl same) met (inr lt) next low = (let a = same.0 in let b = same.1 in (omega (arith, ints), inr (omega (arith, ints)), omega arith))
step_kept p q l plus rp rq rl k (inr fell) met sooner next low = (let a = fell.0 in let b = fell.1 in (omega (arith, ints), inr (omega (arith, ints)), omega arith))

-- a fact that lowered its left in this round
step_new : (p q l old plus : ℤ) (rp rq k : ℕ) → Changes q p rq rp k → l ≡ p +ℤ plus → l <ℤ old → rp ≤ k → (old ≤ℤ (p +ℤ plus)) ⊎ (rp ≡ k)
    → ((q +ℤ plus) ≤ℤ l) × ((rq < suc k) ⊎ ((q +ℤ plus) <ℤ l)) × (suc k ≤ suc rq)
step_new p q l old plus rp rq k (inl same) is lt low (inl met) = absurd (omega (arith, ints, is))
step_new p q l old plus rp rq k (inl same) is lt low (inr e) = (let a = same.0 in let b = same.1 in (omega (arith, ints, is), inl (omega arith), omega arith))
step_new p q l old plus rp rq k (inr fell) is lt low h = (let a = fell.0 in let b = fell.1 in (omega (arith, ints, is), inr (omega (arith, ints, is)), omega arith))

-- what one round more leaves of a step
steps_more : (F : List Fact) (s : Option ℕ) (n k : ℕ) (D E : List ℤ) (L N : List (Option Fact)) → AreEdges n F → (r : IsRelaxed F s n k D L)
    → (rounds : Option ℕ → ℕ) → ((x : Option ℕ) → node_of x < n → Changes (at E x) (at D x) (rounds x) (r.rounds x) k)
    → (x : Option ℕ) (f : Fact) → node_of x < n → last_of N x ≡ Some f → IsSame D E L N x ⊎ IsLowered F D E N x → IsStep F rounds E x f
steps_more F s n k D E L N edges r rounds change x f lt e (inl same) =
    let old : IsStep F r.rounds D x f = r.steps x f lt (sym same.fact ∙ e) in
    let edge : IsEdge n f = All-contains (IsEdge n) F f edges.edges old.among in
    let here : rounds x ≡ r.rounds x = elim (change x lt) [ inl h ↦ h.1 | inr h ↦ absurd (let a = h.0 in let b = same.value in omega (arith, ints)) ] in
    let h = step_kept (at D f.right) (at E f.right) (at D x) f.plus (r.rounds f.right) (rounds f.right) (r.rounds x) k (change f.right edge.right)
    old.met old.sooner old.next (r.latest x lt) in
    let P : ℤ → Type 0 = λ z. (at E f.right +ℤ f.plus) ≤ℤ z in
    let Q : ℤ → ℕ → Type 0 = λ z m. (rounds f.right < m) ⊎ ((at E f.right +ℤ f.plus) <ℤ z) in
    record {
      among = old.among;
      left = old.left;
      met = subst P (sym same.value) h.0;
      sooner = subst (λ m. Q (at E x) m) (sym here) (subst (λ z. Q z (r.rounds x)) (sym same.value) h.1);
      next = rw here h.2;
    }
steps_more F s n k D E L N edges r rounds change x f lt e (inr low) =
    let same : low.by ≡ f = (let a : Some low.by ≡ Some f = sym low.fact ∙ e in cc) in
    let P : Fact → Type 0 = λ g. IsStep F rounds E x g in
    let g = low.by in
    let edge : IsEdge n g = All-contains (IsEdge n) F g edges.edges low.among in
    let here : rounds x ≡ suc k = elim (change x lt) [ inl h ↦ absurd (let a = h.0 in let b = low.lower in omega (arith, ints)) | inr h ↦ h.1 ] in
    let ahead : (at D g.left ≤ℤ (at D g.right +ℤ g.plus)) ⊎ (r.rounds g.right ≡ k) = All-contains (λ f. HoldsBy (at D) f ⊎ (r.rounds f.right ≡ k)) F g r.ahead low.among in
    let there : at D x ≡ at D g.left = ap (at D) (sym low.left) in
    let lower : at E x <ℤ at D g.left = (let b = low.lower in omega (arith, ints, there)) in
    let h = step_new (at D g.right) (at E g.right) (at E x) (at D g.left) g.plus (r.rounds g.right) (rounds g.right) k (change g.right edge.right)
    low.value lower (r.latest g.right edge.right) ahead in
    let Q : ℕ → Type 0 = λ m. (rounds g.right < m) ⊎ ((at E g.right +ℤ g.plus) <ℤ at E x) in
    subst P same (record {
      among = low.among;
      left = low.left;
      met = h.0;
      sooner = subst Q (sym here) h.1;
      next = rw here h.2;
    })

low_more : (d e plus : ℤ) (k : ℕ) → neg_ℤ (pos (k * 2 ^ 102)) ≤ℤ d → IsWithin (2 ^ 102) plus → e ≡ d +ℤ plus → neg_ℤ (pos (suc k * 2 ^ 102)) ≤ℤ e
low_more d e plus k low w is = let a = w.low in omega (arith, ints, suc-mul k (2 ^ 102), is)

low_kept : (d e : ℤ) (k : ℕ) → neg_ℤ (pos (k * 2 ^ 102)) ≤ℤ d → e ≡ d → neg_ℤ (pos (suc k * 2 ^ 102)) ≤ℤ e
low_kept d e k low is = omega (arith, ints, suc-mul k (2 ^ 102), is)

-- one round more
pub relaxed_more : (F : List Fact) (s : Option ℕ) (n k : ℕ) (D E : List ℤ) (L N : List (Option Fact)) → AreEdges n F → node_of s < n
    → IsRelaxed F s n k D L → IsRound F F D L E N true → IsRelaxed F s n (suc k) E N
relaxed_more F s n k D E L N edges room r round =
    let rounds : Option ℕ → ℕ = λ x. round_of (at E x) (at D x) (suc k) (r.rounds x) in
    let each : (x : Option ℕ) → node_of x < n → IsSame D E L N x ⊎ IsLowered F D E N x = λ x lt. round.each x (omega (arith, r.size)) in
    let change : (x : Option ℕ) → node_of x < n → Changes (at E x) (at D x) (rounds x) (r.rounds x) k = λ x lt. changes F D L E N x (r.rounds x) k (each x lt) in
    let below : (x : Option ℕ) → node_of x < n → at E x ≤ℤ at D x = λ x lt. round_below F F D L E N true round x (omega (arith, r.size)) in
    record {
      rounds = rounds;
      size = round.size ∙ r.size;
      last_size = round.last_size ∙ r.last_size;
      begins = (let a = r.begins in let b = below s room in omega (arith, ints));
      roots = λ x lt e. elim (each x lt) [
        | inl same ↦ (let old : IsRoot s x (at D x) (r.rounds x) = r.roots x lt (sym same.fact ∙ e) in
            let here : rounds x ≡ r.rounds x = round_same (at E x) (at D x) (suc k) (r.rounds x) (lt_z (at E x) (at D x)) refl same.value in
            let P : ℤ → Type 0 = λ d. ((x ≡ s) × (d ≡ pos 0)) ⊎ (d ≡ far_away) in
            record { unmoved = here ∙ old.unmoved; value = subst P (sym same.value) old.value })
        | inr low ↦ (let a : None ≡ Some low.by = sym e ∙ low.fact in cc)
      ];
      steps = λ x f lt e. steps_more F s n k D E L N edges r rounds change x f lt e (each x lt);
      latest = λ x lt. (let old = r.latest x lt in elim (change x lt) [ inl h ↦ omega (arith, h.1) | inr h ↦ omega (arith, h.1) ]);
      low = λ x lt. elim (each x lt) [
        | inl same ↦ low_kept (at D x) (at E x) k (r.low x lt) same.value
        | inr low ↦ (let edge : IsEdge n low.by = All-contains (IsEdge n) F low.by edges.edges low.among in
            low_more (at D low.by.right) (at E x) low.by.plus k (r.low low.by.right edge.right) edge.plus low.value)
      ];
      high = λ x lt. (let a = r.high x lt in let b = below x lt in omega (arith, ints));
      ahead = λ i d lt. (let f = get_or F i d in
          let edge : IsEdge n f = edges.edges i d lt in
          let met : at E f.left ≤ℤ (at D f.right +ℤ f.plus) = round.met i d lt in
          elim (change f.right edge.right) [
            | inl same ↦ inl (let a = same.0 in omega (arith, ints))
            | inr fell ↦ inr fell.1
          ]);
      reached = λ _. (round.falls.0, omega (arith, round.falls.1, r.size), round_lower _ _ (suc k) _ (lt_z (at E round.falls.0) (at D round.falls.0)) refl round.falls.2);
    }

pub relaxed_next : (F : List Fact) (s : Option ℕ) (n k : ℕ) (D E : List ℤ) (L N : List (Option Fact)) → AreEdges n F → node_of s < n
    → IsRelaxed F s n k D L → IsRound F F D L E N true → IsRelaxed F s n (k + 1) E N
relaxed_next F s n k D E L N edges room r round =
    let next : suc k ≡ k + 1 = omega arith in
    let P : ℕ → Type 0 = λ m. IsRelaxed F s n m E N in
    subst P next (relaxed_more F s n k D E L N edges room r round)

small_by : (d : ℤ) (n k : ℕ) → k ≤ n → n ≤ 4097 → neg_ℤ (pos (k * 2 ^ 102)) ≤ℤ d → d ≤ℤ far_away → IsWithin (2 ^ 119) d
small_by d n k few most low high =
    let a : k * 2 ^ 102 ≤ 4097 * 2 ^ 102 = omega (arith, most, few) in
    record { low = omega (arith, ints, a); high = omega (arith, ints) }

-- sums of distances fit
pub relaxed_small : (F : List Fact) (s : Option ℕ) (n k : ℕ) (D : List ℤ) (L : List (Option Fact)) → n ≤ 4097 → k ≤ n → IsRelaxed F s n k D L → All (IsWithin (2 ^ 119)) D
relaxed_small F s n k D L most few r i d lt =
    let here : node_of (at_index i) ≡ i = node_of-at_index i in
    let room : node_of (at_index i) < n = omega (arith, here, lt, r.size) in
    let P : ℤ → Type 0 = IsWithin (2 ^ 119) in
    let e : get_or D (node_of (at_index i)) (pos 0) ≡ get_or D i d = ap (λ m. get_or D m (pos 0)) here ∙ get_or_default D i (pos 0) d lt in
    subst P e (small_by (at D (at_index i)) n k few most (r.low (at_index i) room) (r.high (at_index i) room))

-- a round that lowers nothing
pub settled : (F : List Fact) (s : Option ℕ) (n k : ℕ) (D E : List ℤ) (L N : List (Option Fact)) → k ≤ n → IsRelaxed F s n k D L
    → IsRound F F D L E N false → IsSettled F s n E N
settled F s n k D E L N few r round =
    let met : All (HoldsBy (at D)) F = (let P : List ℤ → Type 0 = λ X. All (λ f. at X f.left ≤ℤ (at D f.right +ℤ f.plus)) F in subst P round.falls.0 round.met) in
    let P : List ℤ → Type 0 = λ X. IsSettled F s n X N in
    let Q : List (Option Fact) → Type 0 = λ X. IsSettled F s n D X in
    subst P (sym round.falls.0) (subst Q (sym round.falls.1) (record { k = k; few = few; relaxed = r; met = met }))
