-- What changes of a matrix make of its constants and paths.
use Rattle.std.proofs.Common.{ℕ, suc, ◌+◌, ◌<◌, ◌≡◌, ◌≢◌, ◌==◌, ℤ, pos, ◌+ℤ◌, ◌-ℤ◌, ◌≤ℤ◌, Bool, true, false, cond, Option, None, Some, refl, sym, ◌∙◌, ap, subst, arith, ◌⊎◌, inl, inr}
use Rattle.std.proofs.lemmas.Int.{ints}
use Rattle.std.proofs.lemmas.Bool.{cases_eq}
use Rattle.std.proofs.lemmas.Bool.Decides.{nat_tests}
use Rattle.std.specs.Int.Signed.{le_z}
use Rattle.subsumption.specs.Distances.{longer_of, is_near}
use Rattle.subsumption.specs.declared.row.Step.{Step}
use Rattle.subsumption.specs.declared.matrix.Change.{Change}
use Rattle.subsumption.specs.declared.matrix.Change.TheVariants.{Add, Kill, Shift}
use Rattle.subsumption.specs.Squares.{Cells}
use Rattle.subsumption.specs.ClosedTables.{AtMost, Pairs, is_at_most, no_pairs, sum_of, smaller_of, added, killed, raised, shared, is_broken, rows_of, are_near}
use Rattle.subsumption.specs.TableLaws.{IsClosed}
use Rattle.subsumption.specs.Matrices.{cell, plus_of, first_of, constants_of, own, better_of, more_of, cleared, killed_step, changed, longer_step, joined_step, forgotten, lowers, lowers_by, reach_of, turn_of, AreChanged, AreColumnsOf, IsPlaced, IsSteady, Keeps, Opens, Spares, AreNear}
use Rattle.subsumption.specs.declared.matrix.Columns.{Columns}
use Rattle.std.specs.Prelude.{not}
use Rattle.subsumption.specs.declared.matrix.Turn.TheVariants.{Reach}
use Rattle.subsumption.specs.MatrixPaths.{Continues, HasPaths, IsCanonical, IsCleared, IsMet, guarded_rows, pairs_after}
use Rattle.subsumption.proofs.TableConstants.{at_most_from, at_most_up, le_from, lt_of}
use Rattle.subsumption.proofs.TableChanges.{to_same, from_same, not_broken, closed_same, none_closed, added_closed, killed_closed, raised_closed, shared_closed}
use Rattle.subsumption.proofs.TableNumbers.{at_least}
use Rattle.subsumption.proofs.TableSteps.{rows_same, rows_near, near_rows, none_near}

abbrev stepped : ℤ → ℕ → Step
stepped c f = record { plus = c; first = f }

-- ---- constants

better_plus : (s : Option Step) (o : Option ℤ) (f : ℕ) → plus_of (better_of s o f) ≡ smaller_of (plus_of s) o
better_plus None None f = refl
better_plus (Some s) None f = refl
better_plus None (Some d) f = refl
better_plus (Some s) (Some d) f = by (le_z s.plus d)
  where
    by : (b : Bool) → plus_of (cond b (Some s) (Some (record { plus = d; first = f }))) ≡ Some (cond b s.plus d)
    by true = refl
    by false = refl

own_plus : (j : ℕ) (s : Option Step) → plus_of (own j s) ≡ plus_of s
own_plus j None = refl
own_plus j (Some s) = refl

more_plus : (s : Option Step) (c : ℤ) → plus_of (more_of s c) ≡ sum_of (plus_of s) (Some c)
more_plus None c = refl
more_plus (Some s) c = refl

longer_plus : (j : ℕ) (s t : Option Step) → plus_of (longer_step j s t) ≡ longer_of (plus_of s) (plus_of t)
longer_plus j None t = refl
longer_plus j (Some s) None = refl
longer_plus j (Some s) (Some t) = refl

killed_plus : (s : Option Step) (p q r : Bool) → plus_of (cond p s (cond q None (cond r None s))) ≡ cond p (plus_of s) (cond q None (cond r None (plus_of s)))
killed_plus s true q r = refl
killed_plus s false true r = refl
killed_plus s false false true = refl
killed_plus s false false false = refl

cleared_plus : (j : ℕ) (b : Bool) → plus_of (cond b (Some (record { plus = pos 0; first = j })) None) ≡ cond b (Some (pos 0)) None
cleared_plus j true = refl
cleared_plus j false = refl

pub add_constant : (m : Cells) (x y : ℕ) (c : ℤ) (i j : ℕ) → plus_of (changed (Add x y c) m i j) ≡ added x y c (constants_of m) i j
add_constant m x y c i j = better_plus (cell m i j) (sum_of (sum_of (constants_of m i x) (Some c)) (constants_of m y j)) (cond (i == x) y (first_of (cell m i x)))

kill_constant : (m : Cells) (x i j : ℕ) → constants_of m x x ≡ Some (pos 0) → (o : Option Step) → cell m i x ≡ o → plus_of (forgotten x o (cell m i j) i j) ≡ killed x (constants_of m) i j
kill_constant m x i j diagonal (Some t) e = own_plus j (killed_step x (cell m i j) i j) ∙ killed_plus (cell m i j) (i == j) (i == x) (j == x)
kill_constant m x i j diagonal None e = by (i == j) (i == x) (j == x) refl refl
  where
    by : (p q r : Bool) → (i == x) ≡ q → (j == x) ≡ r → constants_of m i j ≡ cond p (constants_of m i j) (cond q None (cond r None (constants_of m i j)))
    by true q r f g = refl
    by false true r f g = absurd (let same : i ≡ x = grind (arith, nat_tests) in
        let none : constants_of m x x ≡ None = subst (λ i. constants_of m i x ≡ None) same (ap plus_of e) in cc)
    by false false true f g = (let same : j ≡ x = grind (arith, nat_tests) in subst (λ j. constants_of m i j ≡ None) (sym same) (ap plus_of e))
    by false false false f g = refl

pub shift_constant : (m : Cells) (x : ℕ) (c : ℤ) (i j : ℕ) → plus_of (changed (Shift x c) m i j) ≡ raised x c (constants_of m) i j
shift_constant m x c i j = more_plus (cell m i j) (cond (i == x) c (pos 0) -ℤ cond (j == x) c (pos 0))

pub join_constant : (m u : Cells) (i j : ℕ) → plus_of (joined_step m u i j) ≡ shared (constants_of m) (constants_of u) i j
join_constant m u i j = longer_plus j (cell m i j) (cell u i j)

-- ---- paths of one fact

equal_tests : (j : ℕ) (b : Bool) → (j == j) ≡ b → b ≡ true
equal_tests j true e = refl
equal_tests j false e = absurd (grind (arith, nat_tests))

other_tests : (i j : ℕ) (b : Bool) → (i == j) ≡ b → i ≢ j → b ≡ false
other_tests i j true e ne = absurd (ne (grind (arith, nat_tests)))
other_tests i j false e ne = refl

own_rank : ℕ → ℕ → ℕ
own_rank i j = cond (i == j) 0 1

rank_here : (i j : ℕ) (b : Bool) → (i == j) ≡ b → i ≡ j → cond {A = ℕ} b 0 1 ≡ 0
rank_here i j true e same = refl
rank_here i j false e same = absurd (grind (arith, nat_tests))

rank_there : (i j : ℕ) (b : Bool) → (i == j) ≡ b → i ≢ j → cond {A = ℕ} b 0 1 ≡ 1
rank_there i j true e ne = absurd (ne (grind (arith, nat_tests)))
rank_there i j false e ne = refl

-- where each step leads to its node at once
pub own_paths : (m : Cells) → ((j : ℕ) → j < m.n → constants_of m j j ≡ Some (pos 0)) → ((i j : ℕ) (s : Step) → i < m.n → j < m.n → cell m i j ≡ Some s → s.first ≡ j) → HasPaths m
unfolding own_rank
own_paths m diagonal leads = record {
  rank = own_rank;
  continues = λ i j s li lj ne e.
      let here = leads i j s li lj e in
      let same : s ≡ record { plus = s.plus; first = j } = ap (stepped s.plus) here in
      record {
        room = omega (arith, here, lj);
        apart = λ q. ne (sym q ∙ here);
        head = s.plus;
        rest = pos 0;
        fact = subst (λ f. cell m i f ≡ Some (record { plus = s.plus; first = f })) (sym here) (e ∙ ap Some same);
        behind = subst (λ f. constants_of m f j ≡ Some (pos 0)) (sym here) (diagonal j lj);
        sum = omega (arith, ints);
        sooner = (let a = rank_here s.first j (s.first == j) refl here in let b = rank_there i j (i == j) refl ne in omega (arith, a, b));
      };
}

own_first : (j : ℕ) (o : Option Step) (s : Step) → own j o ≡ Some s → s.first ≡ j
own_first j None s e = absurd (cc)
own_first j (Some t) s e = cc

longer_first : (j : ℕ) (o p : Option Step) (s : Step) → longer_step j o p ≡ Some s → s.first ≡ j
longer_first j None p s e = absurd (cc)
longer_first j (Some t) None s e = absurd (cc)
longer_first j (Some t) (Some u) s e = cc

cleared_first : (j : ℕ) (b : Bool) (s : Step) → cond b (Some (record { plus = pos 0; first = j })) None ≡ Some s → s.first ≡ j
cleared_first j true s e = cc
cleared_first j false s e = absurd (cc)

-- ---- shifted paths

some_more : (o : Option Step) (c : ℤ) (s : Step) → more_of o c ≡ Some s → (d : ℤ) × (o ≡ Some (record { plus = d; first = s.first })) × (s.plus ≡ d +ℤ c)
some_more None c s e = absurd (cc)
some_more (Some t) c s e = (t.plus, (let f : t.first ≡ s.first = cc in ap (λ f. Some (stepped t.plus f)) f), (let f : t.plus +ℤ c ≡ s.plus = cc in sym f))

gain : ℕ → ℤ → ℕ → ℤ
gain x c i = cond (i == x) c (pos 0)

pub shift_paths : (m new : Cells) (x : ℕ) (c : ℤ) → AreChanged (changed (Shift x c) m) m new → HasPaths m → HasPaths new
unfolding gain
shift_paths m new x c h paths = record {
  rank = paths.rank;
  continues = λ i j s li lj ne e.
      let ni : i < m.n = subst (λ n. i < n) h.size li in
      let nj : j < m.n = subst (λ n. j < n) h.size lj in
      let old = some_more (cell m i j) (gain x c i -ℤ gain x c j) s (sym (h.done i j ni nj) ∙ e) in
      let on = paths.continues i j (record { plus = old.0; first = s.first }) ni nj ne old.1 in
      let sum : old.0 ≡ on.head +ℤ on.rest = on.sum in
      let plus : s.plus ≡ old.0 +ℤ (gain x c i -ℤ gain x c j) = old.2 in
      record {
        room = subst (λ n. s.first < n) (sym h.size) on.room;
        apart = on.apart;
        head = on.head +ℤ (gain x c i -ℤ gain x c s.first);
        rest = on.rest +ℤ (gain x c s.first -ℤ gain x c j);
        fact = h.done i s.first ni on.room ∙ ap (λ o. more_of o (gain x c i -ℤ gain x c s.first)) on.fact;
        behind = ap plus_of (h.done s.first j on.room nj) ∙ (shift_constant m x c s.first j ∙ ap (λ o. sum_of o (Some (gain x c s.first -ℤ gain x c j))) on.behind);
        sum = omega (arith, ints, sum, plus);
        sooner = on.sooner;
      };
}

-- ---- paths without a node

module _ (m new : Cells) (x : ℕ) (lx : x < m.n) (closed : IsClosed m.n (constants_of m)) (paths : HasPaths m) (h : AreChanged (changed (Kill x) m) m new) (diagonal : (j : ℕ) → j < new.n → constants_of new j j ≡ Some (pos 0)) where
  -- in the rows that are kept as before, and one elsewhere
  killed_rank : Option Step → Bool → ℕ → ℕ → ℕ
  killed_rank o true i j = 0
  killed_rank None false i j = suc (paths.rank i j)
  killed_rank (Some t) false i j = 1

  rank_after : ℕ → ℕ → ℕ
  rank_after i j = killed_rank (cell m i x) (i == j) i j

  rank_none : (i j : ℕ) (o : Option Step) (b : Bool) → (i == j) ≡ b → i ≡ j → killed_rank o b i j ≡ 0
  unfolding killed_rank
  rank_none i j o true e same = refl
  rank_none i j o false e same = absurd (grind (arith, nat_tests))

  rank_more : (i j : ℕ) (o : Option Step) (b : Bool) → (i == j) ≡ b → i ≢ j → o ≡ None → killed_rank o b i j ≡ suc (paths.rank i j)
  unfolding killed_rank
  rank_more i j o true e ne f = absurd (ne (grind (arith, nat_tests)))
  rank_more i j None false e ne f = refl
  rank_more i j (Some t) false e ne f = absurd (cc)

  rank_one : (i j : ℕ) (o : Option Step) (t : Step) (b : Bool) → (i == j) ≡ b → i ≢ j → o ≡ Some t → killed_rank o b i j ≡ 1
  unfolding killed_rank
  rank_one i j o t true e ne f = absurd (ne (grind (arith, nat_tests)))
  rank_one i j None t false e ne f = absurd (cc)
  rank_one i j (Some u) t false e ne f = refl

  -- a row that leads nowhere to x is kept
  kept_after : (i j : ℕ) → i < m.n → j < m.n → cell m i x ≡ None → cell new i j ≡ cell m i j
  kept_after i j li lj none = h.done i j li lj ∙ ap (λ o. forgotten x o (cell m i j) i j) none

  below : (i : ℕ) → i < new.n → i < m.n
  below i li = subst (λ n. i < n) h.size li

  goes_on_kept : (i j : ℕ) (s : Step) → i < new.n → j < new.n → i ≢ j → cell new i j ≡ Some s → cell m i x ≡ None → Continues new rank_after i j s
  unfolding rank_after
  goes_on_kept i j s li lj ne e none =
      let on = paths.continues i j s (below i li) (below j lj) ne (sym (kept_after i j (below i li) (below j lj) none) ∙ e) in
      let p = s.first in
      let first_none : cell m p x ≡ None = by (cell m p x) refl on.head (ap plus_of on.fact) on.room in
      let sooner = on.sooner in
      let here = rank_more i j (cell m i x) (i == j) refl ne none in
      record {
        room = subst (λ n. p < n) (sym h.size) on.room;
        apart = on.apart;
        head = on.head;
        rest = on.rest;
        fact = kept_after i p (below i li) on.room none ∙ on.fact;
        behind = ap plus_of (kept_after p j on.room (below j lj) first_none) ∙ on.behind;
        sum = on.sum;
        sooner = elim (cases_eq p j) [
          | inl same ↦ (let there = rank_none p j (cell m p x) (p == j) refl same in omega (arith, here, there))
          | inr apart ↦ (let there = rank_more p j (cell m p x) (p == j) refl apart first_none in omega (arith, here, there, sooner))
        ];
      }
    where
      by : (o : Option Step) → cell m s.first x ≡ o → (head : ℤ) → constants_of m i s.first ≡ Some head → s.first < m.n → o ≡ None
      by None f head to room = refl
      by (Some t) f head to room = absurd (from_same None (constants_of m i x) (head +ℤ t.plus) (ap plus_of none)
          (closed.triangle i s.first x head t.plus (below i li) room lx
          (to_same (Some head) (constants_of m i s.first) head to (omega (arith, ints)))
          (to_same (Some t.plus) (constants_of m s.first x) t.plus (ap plus_of f) (omega (arith, ints)))))

  goes_on_own : (i j : ℕ) (s t : Step) → i < new.n → j < new.n → i ≢ j → cell new i j ≡ Some s → cell m i x ≡ Some t → Continues new rank_after i j s
  unfolding rank_after
  goes_on_own i j s t li lj ne e some =
      let step : own j (killed_step x (cell m i j) i j) ≡ Some s = sym (h.done i j (below i li) (below j lj) ∙ ap (λ o. forgotten x o (cell m i j) i j) some) ∙ e in
      let here = own_first j (killed_step x (cell m i j) i j) s step in
      let same : s ≡ record { plus = s.plus; first = j } = ap (stepped s.plus) here in
      record {
        room = omega (arith, here, lj);
        apart = λ q. ne (sym q ∙ here);
        head = s.plus;
        rest = pos 0;
        fact = subst (λ f. cell new i f ≡ Some (record { plus = s.plus; first = f })) (sym here) (e ∙ ap Some same);
        behind = subst (λ f. constants_of new f j ≡ Some (pos 0)) (sym here) (diagonal j lj);
        sum = omega (arith, ints);
        sooner = (let a = rank_none s.first j (cell m s.first x) (s.first == j) refl here in let b = rank_one i j (cell m i x) t (i == j) refl ne some in omega (arith, a, b));
      }

  kill_paths : HasPaths new
  kill_paths = record { rank = rank_after; continues = λ i j s li lj ne e. by i j s li lj ne e (cell m i x) refl }
    where
      by : (i j : ℕ) (s : Step) → i < new.n → j < new.n → i ≢ j → cell new i j ≡ Some s → (o : Option Step) → cell m i x ≡ o → Continues new rank_after i j s
      by i j s li lj ne e None f = goes_on_kept i j s li lj ne e f
      by i j s li lj ne e (Some t) f = goes_on_own i j s t li lj ne e f

-- ---- paths through a new fact

-- the path through the new fact is shorter
record Improves (t : Pairs) (x y : ℕ) (c : ℤ) (i j : ℕ) : Type 0 where
  pub before : ℤ
  pub behind : ℤ
  pub to : t i x ≡ Some before
  pub from : t y j ≡ Some behind
  pub lower : AtMost (t i j) ((before +ℤ c) +ℤ behind) → ⊥

at_some : (o : Option ℤ) (d : ℤ) → o ≡ Some d → AtMost o d
at_some o d e = to_same (Some d) o d e (omega (arith, ints))

up_some : (o : Option ℤ) (d e : ℤ) → o ≡ Some d → d ≤ℤ e → AtMost o e
up_some o d e q le = to_same (Some d) o e q le

from_some : (o : Option ℤ) (d e : ℤ) → o ≡ Some d → AtMost o e → d ≤ℤ e
from_some o d e q h = from_same (Some d) o e q h

-- what is put there, by cases
better_kept : (s : Option Step) (o : Option ℤ) (f : ℕ) → ((d : ℤ) → o ≡ Some d → AtMost (plus_of s) d) → better_of s o f ≡ s
better_kept s None f h = by s
  where
    by : (s : Option Step) → better_of s None f ≡ s
    by None = refl
    by (Some s) = refl
better_kept None (Some d) f h = absurd (h d refl)
better_kept (Some s) (Some d) f h = by (le_z s.plus d) refl
  where
    by : (b : Bool) → le_z s.plus d ≡ b → cond b (Some s) (Some (record { plus = d; first = f })) ≡ Some s
    by true e = refl
    by false e = absurd (let le = h d refl in let lt = lt_of s.plus d e in omega (arith, ints, le, lt))

better_new : (s : Option Step) (d : ℤ) (f : ℕ) → (AtMost (plus_of s) d → ⊥) → better_of s (Some d) f ≡ Some (record { plus = d; first = f })
better_new None d f h = refl
better_new (Some s) d f h = by (le_z s.plus d) refl
  where
    by : (b : Bool) → le_z s.plus d ≡ b → cond b (Some s) (Some (record { plus = d; first = f })) ≡ Some (record { plus = d; first = f })
    by true e = absurd (h (le_from s.plus d e))
    by false e = refl

module _ (m : Cells) (x y : ℕ) (c : ℤ) (lx : x < m.n) (ly : y < m.n) (closed : IsClosed m.n (constants_of m)) (sound : is_broken (constants_of m y x) c ≡ false) where
  abbrev t : Pairs
  t = constants_of m

  abbrev new : ℕ → ℕ → Option Step
  new = changed (Add x y c) m

  abbrev Better : ℕ → ℕ → Type 0
  Better = Improves t x y c

  -- whether a path through the new fact is shorter
  decide_by : (i j : ℕ) (o p : Option ℤ) → t i x ≡ o → t y j ≡ p → Better i j ⊎ (Better i j → ⊥)
  decide_by i j None p e f = inr (λ b. let q = b.to in absurd (cc))
  decide_by i j (Some a) None e f = inr (λ b. let q = b.from in absurd (cc))
  decide_by i j (Some a) (Some d) e f = by (t i j) refl
    where
      better : (AtMost (t i j) ((a +ℤ c) +ℤ d) → ⊥) → Better i j
      better h = record { before = a; behind = d; to = e; from = f; lower = h }

      worse : AtMost (t i j) ((a +ℤ c) +ℤ d) → Better i j → ⊥
      worse h b = (let p : a ≡ b.before = (let to = b.to in cc) in let q : d ≡ b.behind = (let from = b.from in cc) in
          b.lower (at_most_up (t i j) ((a +ℤ c) +ℤ d) ((b.before +ℤ c) +ℤ b.behind) h (omega (arith, ints, p, q))))

      by : (o : Option ℤ) → t i j ≡ o → Better i j ⊎ (Better i j → ⊥)
      by None q = inl (better (λ h. from_same None (t i j) ((a +ℤ c) +ℤ d) q h))
      by (Some g) q = by_test (le_z g ((a +ℤ c) +ℤ d)) refl
        where
          by_test : (b : Bool) → le_z g ((a +ℤ c) +ℤ d) ≡ b → Better i j ⊎ (Better i j → ⊥)
          by_test true r = inr (worse (up_some (t i j) g ((a +ℤ c) +ℤ d) q (le_from g ((a +ℤ c) +ℤ d) r)))
          by_test false r = inl (better (λ h. let le = from_some (t i j) g ((a +ℤ c) +ℤ d) q h in let lt = lt_of g ((a +ℤ c) +ℤ d) r in omega (arith, ints, le, lt)))

  decide : (i j : ℕ) → Better i j ⊎ (Better i j → ⊥)
  decide i j = decide_by i j (t i x) (t y j) refl refl

  sum_some : (o p : Option ℤ) (d : ℤ) → sum_of (sum_of o (Some c)) p ≡ Some d → (a : ℤ) × (b : ℤ) × (o ≡ Some a) × (p ≡ Some b) × (d ≡ (a +ℤ c) +ℤ b)
  sum_some None p d e = absurd (cc)
  sum_some (Some a) None d e = absurd (cc)
  sum_some (Some a) (Some b) d e = (a, b, refl, refl, (let q : (a +ℤ c) +ℤ b ≡ d = cc in sym q))

  -- a step that the new fact leaves
  kept : (i j : ℕ) → (Better i j → ⊥) → new i j ≡ cell m i j
  kept i j worse = better_kept (cell m i j) (sum_of (sum_of (t i x) (Some c)) (t y j)) (cond (i == x) y (first_of (cell m i x))) (λ d e.
      let p = sum_some (t i x) (t y j) d e in by d p.0 p.1 p.2 p.3 p.4 (decide i j))
    where
      by : (d a b : ℤ) → t i x ≡ Some a → t y j ≡ Some b → d ≡ (a +ℤ c) +ℤ b → Better i j ⊎ (Better i j → ⊥) → AtMost (t i j) d
      by d a b e f q (inl h) = absurd (worse h)
      by d a b e f q (inr h) = at (t i j) refl
        where
          at : (o : Option ℤ) → t i j ≡ o → AtMost (t i j) d
          at None r = absurd (worse (record { before = a; behind = b; to = e; from = f; lower = λ k. from_same None (t i j) ((a +ℤ c) +ℤ b) r k }))
          at (Some g) r = by_test (le_z g d) refl
            where
              by_test : (z : Bool) → le_z g d ≡ z → AtMost (t i j) d
              by_test true u = up_some (t i j) g d r (le_from g d u)
              by_test false u = absurd (worse (record { before = a; behind = b; to = e; from = f; lower = λ k. (let le = from_some (t i j) g ((a +ℤ c) +ℤ b) r k in let lt = lt_of g d u in omega (arith, ints, le, lt, q)) }))

  -- a step that the new fact makes
  made : (i j : ℕ) (b : Better i j) → new i j ≡ Some (record { plus = (b.before +ℤ c) +ℤ b.behind; first = cond (i == x) y (first_of (cell m i x)) })
  made i j b =
      let e : sum_of (sum_of (t i x) (Some c)) (t y j) ≡ Some ((b.before +ℤ c) +ℤ b.behind) = ap (λ o. sum_of (sum_of o (Some c)) (t y j)) b.to ∙ ap (sum_of (Some (b.before +ℤ c))) b.from in
      ap (λ o. better_of (cell m i j) o (cond (i == x) y (first_of (cell m i x)))) e ∙ better_new (cell m i j) ((b.before +ℤ c) +ℤ b.behind) (cond (i == x) y (first_of (cell m i x))) b.lower

  -- no path to x or from y is shorter through the new fact
  to_kept : (i : ℕ) → i < m.n → Better i x → ⊥
  to_kept i li b =
      let low = not_broken (t y x) c b.behind sound (at_some (t y x) b.behind b.from) in
      b.lower (up_some (t i x) b.before ((b.before +ℤ c) +ℤ b.behind) b.to (omega (arith, ints, low)))

  from_kept : (j : ℕ) → j < m.n → Better y j → ⊥
  from_kept j lj b =
      let low = not_broken (t y x) c b.before sound (at_some (t y x) b.before b.to) in
      b.lower (up_some (t y j) b.behind ((b.before +ℤ c) +ℤ b.behind) b.from (omega (arith, ints, low)))

  pub add_steady : IsSteady (Add x y c) m
  add_steady = λ j lj. kept y j (from_kept j lj)

  -- where the path to y is no better through the new fact, no other one is
  pub row_kept : (i : ℕ) → i < m.n → turn_of (Add x y c) m i ≡ None → (j : ℕ) → j < m.n → new i j ≡ cell m i j
  row_kept i li e j lj = kept i j (λ b. b.lower (closed.triangle i y j (b.before +ℤ c) b.behind li ly lj (no_better (cell m i x) e b.before b.to) (at_some (t y j) b.behind b.from)))
    where
      no_better : (o : Option Step) → reach_of o c (t i y) y (i == x) ≡ None → (d : ℤ) → plus_of o ≡ Some d → AtMost (t i y) (d +ℤ c)
      no_better None e d f = absurd (cc)
      no_better (Some s) e d f =
          let same : s.plus ≡ d = cc in
          subst (λ d. AtMost (t i y) (d +ℤ c)) same (by (is_at_most (t i y) (s.plus +ℤ c)) refl e)
        where
          by : (b : Bool) → is_at_most (t i y) (s.plus +ℤ c) ≡ b → cond b None (Some (Reach y (s.plus +ℤ c) (cond (i == x) y s.first))) ≡ None → AtMost (t i y) (s.plus +ℤ c)
          by true q r = at_most_from (t i y) (s.plus +ℤ c) q
          by false q r = absurd (cc)

  -- where x comes no nearer to a node, none does
  pub column_kept : (j : ℕ) → j < m.n → lowers x y c m j ≡ false → (i : ℕ) → i < m.n → new i j ≡ cell m i j
  column_kept j lj e i li = kept i j (λ b.
      b.lower (at_most_up (t i j) (b.before +ℤ (c +ℤ b.behind)) ((b.before +ℤ c) +ℤ b.behind)
      (closed.triangle i x j b.before (c +ℤ b.behind) li lx lj (at_some (t i x) b.before b.to) (no_lower (cell m y j) e b.behind b.from)) (omega (arith, ints))))
    where
      no_lower : (o : Option Step) → lowers_by o c (t x j) ≡ false → (d : ℤ) → plus_of o ≡ Some d → AtMost (t x j) (c +ℤ d)
      no_lower None e d f = absurd (cc)
      no_lower (Some s) e d f =
          let same : s.plus ≡ d = cc in
          subst (λ d. AtMost (t x j) (c +ℤ d)) same (by (is_at_most (t x j) (c +ℤ s.plus)) refl e)
        where
          by : (b : Bool) → is_at_most (t x j) (c +ℤ s.plus) ≡ b → not b ≡ false → AtMost (t x j) (c +ℤ s.plus)
          by true q r = at_most_from (t x j) (c +ℤ s.plus) q
          by false q r = absurd (cc)

  module _ (paths : HasPaths m) where
    rank_by : (i j : ℕ) → Better i j ⊎ (Better i j → ⊥) → ℕ
    rank_by i j (inl b) = suc (paths.rank y j + paths.rank i x)
    rank_by i j (inr b) = paths.rank i j

    rank : ℕ → ℕ → ℕ
    rank i j = rank_by i j (decide i j)

    rank_kept_by : (i j : ℕ) (d : Better i j ⊎ (Better i j → ⊥)) → (Better i j → ⊥) → rank_by i j d ≡ paths.rank i j
    unfolding rank_by
    rank_kept_by i j (inl b) worse = absurd (worse b)
    rank_kept_by i j (inr b) worse = refl

    rank_made_by : (i j : ℕ) (d : Better i j ⊎ (Better i j → ⊥)) → Better i j → rank_by i j d ≡ suc (paths.rank y j + paths.rank i x)
    unfolding rank_by
    rank_made_by i j (inl b) better = refl
    rank_made_by i j (inr b) better = absurd (b better)

    rank_kept : (i j : ℕ) → (Better i j → ⊥) → rank i j ≡ paths.rank i j
    unfolding rank
    rank_kept i j worse = rank_kept_by i j (decide i j) worse

    rank_made : (i j : ℕ) → Better i j → rank i j ≡ suc (paths.rank y j + paths.rank i x)
    unfolding rank
    rank_made i j better = rank_made_by i j (decide i j) better

    -- what a path that goes on needs, in the new steps
    record GoesOn (i j : ℕ) (s : Step) : Type 0 where
      pub room : s.first < m.n
      pub apart : s.first ≢ i
      pub head : ℤ
      pub rest : ℤ
      pub fact : new i s.first ≡ Some (record { plus = head; first = s.first })
      pub behind : plus_of (new s.first j) ≡ Some rest
      pub sum : s.plus ≡ head +ℤ rest
      pub sooner : rank s.first j < rank i j

    goes_kept : (i j : ℕ) (s : Step) → i < m.n → j < m.n → i ≢ j → cell m i j ≡ Some s → (Better i j → ⊥) → GoesOn i j s
    goes_kept i j s li lj ne e worse =
        let on = paths.continues i j s li lj ne e in
        let p = s.first in
        let plus : t i j ≡ Some s.plus = ap plus_of e in
        let head : t i p ≡ Some on.head = ap plus_of on.fact in
        let sum = on.sum in
        let first_kept : Better i p → ⊥ = λ b.
        let round = at_least (t y j) (b.behind +ℤ on.rest) (closed.triangle y p j b.behind on.rest ly on.room lj (at_some (t y p) b.behind b.from) (at_some (t p j) on.rest on.behind)) in
        let fits = round.2 in
        worse (record {
          before = b.before;
          behind = round.0;
          to = b.to;
          from = round.1;
          lower = λ h. (let le = from_some (t i j) s.plus ((b.before +ℤ c) +ℤ round.0) plus h in b.lower (up_some (t i p) on.head ((b.before +ℤ c) +ℤ b.behind) head (omega (arith, ints, le, fits, sum))));
        }) in
        let rest_kept : Better p j → ⊥ = λ b.
        let round = at_least (t i x) (on.head +ℤ b.before) (closed.triangle i p x on.head b.before li on.room lx (at_some (t i p) on.head head) (at_some (t p x) b.before b.to)) in
        let fits = round.2 in
        worse (record {
          before = round.0;
          behind = b.behind;
          to = round.1;
          from = b.from;
          lower = λ h. (let le = from_some (t i j) s.plus ((round.0 +ℤ c) +ℤ b.behind) plus h in b.lower (up_some (t p j) on.rest ((b.before +ℤ c) +ℤ b.behind) on.behind (omega (arith, ints, le, fits, sum))));
        }) in
        let r = rank_kept p j rest_kept in let q = rank_kept i j worse in let sooner = on.sooner in
        record {
          room = on.room;
          apart = on.apart;
          head = on.head;
          rest = on.rest;
          fact = kept i p first_kept ∙ on.fact;
          behind = ap plus_of (kept p j rest_kept) ∙ on.behind;
          sum = on.sum;
          sooner = omega (arith, r, q, sooner);
        }

    -- from x itself
    goes_made_here : (j : ℕ) → j < m.n → (b : Better x j) → GoesOn x j (record { plus = (b.before +ℤ c) +ℤ b.behind; first = y })
    goes_made_here j lj b =
        let zero_x : t x x ≡ Some (pos 0) = closed.diagonal x lx in
        let before : b.before ≡ pos 0 = (let to = b.to in let q : Some b.before ≡ Some (pos 0) = cc in cc) in
        let edge : Better x y = record {
          before = pos 0;
          behind = pos 0;
          to = zero_x;
          from = closed.diagonal y ly;
          lower = λ h. b.lower (at_most_up (t x j) (((pos 0 +ℤ c) +ℤ pos 0) +ℤ b.behind) ((b.before +ℤ c) +ℤ b.behind)
              (closed.triangle x y j ((pos 0 +ℤ c) +ℤ pos 0) b.behind lx ly lj h (at_some (t y j) b.behind b.from)) (omega (arith, ints, before)));
        } in
        let r = rank_kept y j (from_kept j lj) in let q = rank_made x j b in
        record {
          room = ly;
          apart = λ e. (let P : ℕ → Type 0 = λ z. Better z j in from_kept j lj (subst P (sym e) b));
          head = (pos 0 +ℤ c) +ℤ pos 0;
          rest = b.behind;
          fact = made x y edge ∙ ap (λ z. Some (record { plus = (pos 0 +ℤ c) +ℤ pos 0; first = cond z y (first_of (cell m x x)) })) (equal_tests x (x == x) refl);
          behind = ap plus_of (kept y j (from_kept j lj)) ∙ b.from;
          sum = omega (arith, ints, before);
          sooner = omega (arith, r, q);
        }

    -- from another node, which has a path to x
    goes_made_there : (i j : ℕ) (s : Step) → i < m.n → j < m.n → i ≢ x → cell m i x ≡ Some s → (b : Better i j) → GoesOn i j (record { plus = (b.before +ℤ c) +ℤ b.behind; first = s.first })
    goes_made_there i j s li lj ne e b =
        let on = paths.continues i x s li lx ne e in
        let p = s.first in
        let to : t i x ≡ Some s.plus = ap plus_of e in
        let before : b.before ≡ s.plus = (let q = b.to in let r : Some b.before ≡ Some s.plus = cc in cc) in
        let head : t i p ≡ Some on.head = ap plus_of on.fact in
        let sum = on.sum in
        let first_kept : Better i p → ⊥ = λ d.
        let same : d.before ≡ s.plus = (let q = d.to in let r : Some d.before ≡ Some s.plus = cc in cc) in
        let low = not_broken (t y x) c (d.behind +ℤ on.rest) sound (closed.triangle y p x d.behind on.rest ly on.room lx (at_some (t y p) d.behind d.from) (at_some (t p x) on.rest on.behind)) in
        d.lower (up_some (t i p) on.head ((d.before +ℤ c) +ℤ d.behind) head (omega (arith, ints, low, same, sum))) in
        let rest_made : Better p j = record {
          before = on.rest;
          behind = b.behind;
          to = on.behind;
          from = b.from;
          lower = λ h. b.lower (at_most_up (t i j) (on.head +ℤ ((on.rest +ℤ c) +ℤ b.behind)) ((b.before +ℤ c) +ℤ b.behind)
              (closed.triangle i p j on.head ((on.rest +ℤ c) +ℤ b.behind) li on.room lj (at_some (t i p) on.head head) h) (omega (arith, ints, before, sum)));
        } in
        let r = rank_made p j rest_made in let q = rank_made i j b in let sooner = on.sooner in
        record {
          room = on.room;
          apart = on.apart;
          head = on.head;
          rest = (on.rest +ℤ c) +ℤ b.behind;
          fact = kept i p first_kept ∙ on.fact;
          behind = ap plus_of (made p j rest_made);
          sum = omega (arith, ints, before, sum);
          sooner = omega (arith, r, q, sooner);
        }

    some_step : (o : Option Step) (a : ℤ) → plus_of o ≡ Some a → (s : Step) × (o ≡ Some s)
    some_step None a e = absurd (cc)
    some_step (Some s) a e = (s, refl)

    goes_made : (i j : ℕ) → i < m.n → j < m.n → (b : Better i j) → GoesOn i j (record { plus = (b.before +ℤ c) +ℤ b.behind; first = cond (i == x) y (first_of (cell m i x)) })
    goes_made i j li lj b = elim (cases_eq i x) [
      | inl same ↦ (
          let P : ℕ → Type 0 = λ i. (b : Better i j) → GoesOn i j (record { plus = (b.before +ℤ c) +ℤ b.behind; first = cond (i == x) y (first_of (cell m i x)) }) in
          subst P (sym same) (λ b. subst (λ z. GoesOn x j (record { plus = (b.before +ℤ c) +ℤ b.behind; first = cond z y (first_of (cell m x x)) })) (sym (equal_tests x (x == x) refl)) (goes_made_here j lj b)) b)
      | inr ne ↦ (
          let step = some_step (cell m i x) b.before b.to in
          let Q : Bool → Option Step → Type 0 = λ z o. GoesOn i j (record { plus = (b.before +ℤ c) +ℤ b.behind; first = cond z y (first_of o) }) in
          subst (λ z. Q z (cell m i x)) (sym (other_tests i x (i == x) refl ne)) (subst (Q false) (sym step.1) (goes_made_there i j step.0 li lj ne step.1 b)))
    ]

    goes_on : (i j : ℕ) (s : Step) → i < m.n → j < m.n → i ≢ j → new i j ≡ Some s → GoesOn i j s
    goes_on i j s li lj ne e = elim (decide i j) [
      | inl b ↦ (let q : Some (stepped ((b.before +ℤ c) +ℤ b.behind) (cond (i == x) y (first_of (cell m i x)))) ≡ Some s = sym (made i j b) ∙ e in
          let r : stepped ((b.before +ℤ c) +ℤ b.behind) (cond (i == x) y (first_of (cell m i x))) ≡ s = cc in subst (GoesOn i j) r (goes_made i j li lj b))
      | inr worse ↦ goes_kept i j s li lj ne (sym (kept i j worse) ∙ e) worse
    ]

    pub add_paths : (after : Cells) → AreChanged new m after → HasPaths after
    add_paths after h = record {
      rank = rank;
      continues = λ i j s li lj ne e.
          let ni : i < m.n = subst (λ n. i < n) h.size li in
          let nj : j < m.n = subst (λ n. j < n) h.size lj in
          let on = goes_on i j s ni nj ne (sym (h.done i j ni nj) ∙ e) in
          record {
            room = subst (λ n. s.first < n) (sym h.size) on.room;
            apart = on.apart;
            head = on.head;
            rest = on.rest;
            fact = h.done i s.first ni on.room ∙ on.fact;
            behind = ap plus_of (h.done s.first j on.room nj) ∙ on.behind;
            sum = on.sum;
            sooner = on.sooner;
          };
    }

-- ---- changes keep least constants with paths

pub cleared_constants : (m : Cells) → IsCleared m → (i j : ℕ) → i < m.n → j < m.n → constants_of m i j ≡ no_pairs i j
cleared_constants m h i j li lj = ap plus_of (h i j li lj) ∙ cleared_plus j (i == j)

pub cleared_canonical : (m : Cells) → IsCleared m → IsCanonical m
cleared_canonical m h =
    let same = cleared_constants m h in
    let closed = closed_same m.n no_pairs (constants_of m) same (none_closed m.n) in
    record {
      closed = closed;
      near = λ i j li lj. ap is_near (same i j li lj) ∙ none_near m.n i j li lj;
      paths = own_paths m closed.diagonal (λ i j s li lj e. cleared_first j (i == j) s (sym (h i j li lj) ∙ e));
    }

module _ (m new : Cells) (canonical : IsCanonical m) where
  constants_after : (change : Change) → IsPlaced change m.n → (i j : ℕ) → plus_of (changed change m i j) ≡ pairs_after change (constants_of m) i j
  constants_after (Add x y c) placed i j = add_constant m x y c i j
  constants_after (Kill x) placed i j = kill_constant m x i j (canonical.closed.diagonal x placed) (cell m i x) refl
  constants_after (Shift x c) placed i j = shift_constant m x c i j

  closed_after : (change : Change) → IsPlaced change m.n → IsMet change m → IsClosed m.n (pairs_after change (constants_of m))
  closed_after (Add x y c) placed met = added_closed m.n x y c (constants_of m) placed.0 placed.1 canonical.closed met
  closed_after (Kill x) placed met = killed_closed m.n x (constants_of m) canonical.closed
  closed_after (Shift x c) placed met = raised_closed m.n x c (constants_of m) canonical.closed

  pub steady_by : (change : Change) → IsPlaced change m.n → IsMet change m → IsSteady change m
  steady_by (Add x y c) placed met = add_steady m x y c placed.0 placed.1 canonical.closed met
  steady_by (Kill x) placed met = tt
  steady_by (Shift x c) placed met = tt

  pub keeps_by : (change : Change) → IsPlaced change m.n → IsMet change m → (i : ℕ) → i < m.n → Keeps change m i
  keeps_by (Add x y c) placed met i li = row_kept m x y c placed.0 placed.1 canonical.closed met i li
  keeps_by (Kill x) placed met i li = tt
  keeps_by (Shift x c) placed met i li = tt

  pub spares_by : (change : Change) (columns : Columns) → IsPlaced change m.n → IsMet change m → AreColumnsOf change m columns → (i : ℕ) → i < m.n → Spares (changed change m i) m i columns
  spares_by (Add x y c) columns placed met others i li = λ j lj out. column_kept m x y c placed.0 placed.1 canonical.closed met j lj (others j lj out) i li
  spares_by (Kill x) columns placed met others i li = λ j lj out. absurd (others j lj out)
  spares_by (Shift x c) columns placed met others i li = λ j lj out. absurd (others j lj out)

  -- where each step of what was made leads to its node at once
  own_after : (f : ℕ → ℕ → Option Step) → AreChanged f m new → IsClosed new.n (constants_of new) → ((i j : ℕ) (s : Step) → f i j ≡ Some s → s.first ≡ j) → HasPaths new
  own_after f h closed leads = own_paths new closed.diagonal (λ i j s li lj e. leads i j s (sym (h.done i j (subst (λ n. i < n) h.size li) (subst (λ n. j < n) h.size lj)) ∙ e))

  paths_after : (change : Change) → IsPlaced change m.n → IsMet change m → AreChanged (changed change m) m new → IsClosed new.n (constants_of new) → HasPaths new
  paths_after (Add x y c) placed met h closed = add_paths m x y c placed.0 placed.1 canonical.closed met canonical.paths new h
  paths_after (Kill x) placed met h closed = kill_paths m new x placed canonical.closed canonical.paths h closed.diagonal
  paths_after (Shift x c) placed met h closed = shift_paths m new x c h canonical.paths

  module _ (f : ℕ → ℕ → Option Step) (t : Pairs) (h : AreChanged f m new) (made : (i j : ℕ) → plus_of (f i j) ≡ t i j) where
    constants_made : (i j : ℕ) → i < m.n → j < m.n → constants_of new i j ≡ t i j
    constants_made i j li lj = ap plus_of (h.done i j li lj) ∙ made i j

    rows_made : rows_of m.n (constants_of new) ≡ rows_of m.n t
    rows_made = rows_same m.n (constants_of new) t constants_made

    closed_made : IsClosed m.n t → IsClosed new.n (constants_of new)
    closed_made closed = subst (λ n. IsClosed n (constants_of new)) (sym h.size) (closed_same m.n t (constants_of new) constants_made closed)

    near_made : are_near (rows_of m.n (constants_of new)) ≡ true → AreNear new
    near_made near = rows_near new.n (constants_of new) (subst (λ n. are_near (rows_of n (constants_of new)) ≡ true) (sym h.size) near)

    guarded_made : are_near (rows_of m.n (constants_of new)) ≡ true → rows_of new.n (constants_of new) ≡ guarded_rows m.n t
    guarded_made near =
        let P : ℕ → Type 0 = λ n. rows_of n (constants_of new) ≡ guarded_rows m.n t in
        let all : are_near (rows_of m.n t) ≡ true = ap are_near (sym rows_made) ∙ near in
        subst P (sym h.size) (rows_made ∙ sym (ap (λ b. cond b (rows_of m.n t) (rows_of m.n no_pairs)) all))

    guarded_cleared : (last : Cells) → are_near (rows_of m.n (constants_of new)) ≡ false → AreChanged cleared new last → rows_of last.n (constants_of last) ≡ guarded_rows m.n t
    guarded_cleared last far again =
        let P : ℕ → Type 0 = λ n. rows_of n (constants_of last) ≡ guarded_rows m.n t in
        let none : are_near (rows_of m.n t) ≡ false = ap are_near (sym rows_made) ∙ far in
        let Q : ℕ → Type 0 = λ n. rows_of n (constants_of last) ≡ rows_of n no_pairs in
        let rows = subst Q h.size (rows_same new.n (constants_of last) no_pairs (λ i j li lj. ap plus_of (again.done i j li lj) ∙ cleared_plus j (i == j))) in
        subst P (sym (again.size ∙ h.size)) (rows ∙ sym (ap (λ b. cond b (rows_of m.n t) (rows_of m.n no_pairs)) none))

  module _ (change : Change) (placed : IsPlaced change m.n) (met : IsMet change m) (h : AreChanged (changed change m) m new) where
    pub changed_canonical : are_near (rows_of m.n (constants_of new)) ≡ true → IsCanonical new
    changed_canonical near =
        let closed = closed_made (changed change m) (pairs_after change (constants_of m)) h (constants_after change placed) (closed_after change placed met) in
        record { closed = closed; near = near_made (changed change m) (pairs_after change (constants_of m)) h (constants_after change placed) near; paths = paths_after change placed met h closed }

    pub changed_rows : are_near (rows_of m.n (constants_of new)) ≡ true → rows_of new.n (constants_of new) ≡ guarded_rows m.n (pairs_after change (constants_of m))
    changed_rows near = guarded_made (changed change m) (pairs_after change (constants_of m)) h (constants_after change placed) near

    pub changed_none : (last : Cells) → are_near (rows_of m.n (constants_of new)) ≡ false → AreChanged cleared new last → rows_of last.n (constants_of last) ≡ guarded_rows m.n (pairs_after change (constants_of m))
    changed_none last far again = guarded_cleared (changed change m) (pairs_after change (constants_of m)) h (constants_after change placed) last far again

  module _ (other : Cells) (same : other.n ≡ m.n) (both : IsCanonical other) (h : AreChanged (joined_step m other) m new) where
    longer_near : (o p : Option ℤ) → is_near o ≡ true → is_near p ≡ true → is_near (longer_of o p) ≡ true
    longer_near None p e f = refl
    longer_near (Some d) None e f = refl
    longer_near (Some d) (Some g) e f = by (le_z d g)
      where
        by : (b : Bool) → is_near (Some (cond b g d)) ≡ true
        by true = f
        by false = e

    near : are_near (rows_of m.n (constants_of new)) ≡ true
    near = near_rows m.n (constants_of new) (λ i j li lj.
        let lies : is_near (constants_of other i j) ≡ true = both.near i j (subst (λ n. i < n) (sym same) li) (subst (λ n. j < n) (sym same) lj) in
        ap is_near (constants_made (joined_step m other) (shared (constants_of m) (constants_of other)) h (join_constant m other) i j li lj) ∙ longer_near (constants_of m i j) (constants_of other i j) (canonical.near i j li lj) lies)

    pub joined_canonical : IsCanonical new
    joined_canonical =
        let second : IsClosed m.n (constants_of other) = subst (λ n. IsClosed n (constants_of other)) same both.closed in
        let closed = closed_made (joined_step m other) (shared (constants_of m) (constants_of other)) h (join_constant m other) (shared_closed m.n (constants_of m) (constants_of other) canonical.closed second) in
        record {
          closed = closed;
          near = near_made (joined_step m other) (shared (constants_of m) (constants_of other)) h (join_constant m other) near;
          paths = own_after (joined_step m other) h closed (λ i j s e. longer_first j (cell m i j) (cell other i j) s e);
        }

    pub joined_rows : rows_of new.n (constants_of new) ≡ guarded_rows m.n (shared (constants_of m) (constants_of other))
    joined_rows = guarded_made (joined_step m other) (shared (constants_of m) (constants_of other)) h (join_constant m other) near

pub cleared_after : (m new : Cells) → AreChanged cleared m new → IsCleared new
cleared_after m new h = λ i j li lj. h.done i j (subst (λ n. i < n) h.size li) (subst (λ n. j < n) h.size lj)

-- the same steps, however they are kept
pub canonical_same : (m new : Cells) → new.n ≡ m.n → ((i j : ℕ) → i < m.n → j < m.n → cell new i j ≡ cell m i j) → IsCanonical m → IsCanonical new
canonical_same m new size same canonical = record {
  closed = subst (λ n. IsClosed n (constants_of new)) (sym size) (closed_same m.n (constants_of m) (constants_of new) constants canonical.closed);
  near = λ i j li lj. ap is_near (constants i j (below i li) (below j lj)) ∙ canonical.near i j (below i li) (below j lj);
  paths = record {
    rank = canonical.paths.rank;
    continues = λ i j s li lj ne e.
        let on = canonical.paths.continues i j s (below i li) (below j lj) ne (sym (same i j (below i li) (below j lj)) ∙ e) in
        record {
          room = subst (λ n. s.first < n) (sym size) on.room;
          apart = on.apart;
          head = on.head;
          rest = on.rest;
          fact = same i s.first (below i li) on.room ∙ on.fact;
          behind = constants s.first j on.room (below j lj) ∙ on.behind;
          sum = on.sum;
          sooner = on.sooner;
        };
  };
}
  where
    below : (i : ℕ) → i < new.n → i < m.n
    below i li = subst (λ n. i < n) size li

    constants : (i j : ℕ) → i < m.n → j < m.n → constants_of new i j ≡ constants_of m i j
    constants i j li lj = ap plus_of (same i j li lj)

-- a new fact says the same of both
pub added_same : (m new : Cells) (x y : ℕ) (c : ℤ) → x < m.n → y < m.n → Opens m x new → guarded_rows new.n (added x y c (constants_of new)) ≡ guarded_rows m.n (added x y c (constants_of m))
added_same m new x y c lx ly h =
    let rows : rows_of m.n (added x y c (constants_of new)) ≡ rows_of m.n (added x y c (constants_of m)) = rows_same m.n (added x y c (constants_of new)) (added x y c (constants_of m)) (λ i j li lj.
    ap (λ s. smaller_of (plus_of s) (sum_of (sum_of (constants_of new i x) (Some c)) (constants_of new y j))) (h.same i j li lj)
    ∙ (ap (λ s. smaller_of (constants_of m i j) (sum_of (sum_of (plus_of s) (Some c)) (constants_of new y j))) (h.same i x li lx)
    ∙ ap (λ s. smaller_of (constants_of m i j) (sum_of (sum_of (constants_of m i x) (Some c)) (plus_of s))) (h.same y j ly lj))) in
    subst (λ n. guarded_rows n (added x y c (constants_of new)) ≡ guarded_rows m.n (added x y c (constants_of m))) (sym h.size) (ap (λ r. cond (are_near r) r (rows_of m.n no_pairs)) rows)
