-- Steps that were put into a matrix, row by row.
use Rattle.std.proofs.Common.{ℕ, cond, ◌==◌, ◌-ℤ◌, ◌+ℤ◌, ◌+◌, ◌^◌, ◌<◌, ◌≤◌, ◌≡◌, ◌≢◌, ℤ, pos, Option, None, Some, length, get_or, replicate, refl, sym, ◌∙◌, ap, subst, arith, inl, inr, Bool, true, false}
use Rattle.std.specs.Prelude.{slice_set, not, nat_lt, ◌&&◌}
use Rattle.subsumption.specs.declared.matrix.Columns.{Columns}
use Rattle.std.proofs.lemmas.Int.{ints}
use Rattle.std.proofs.lemmas.List.{get_or-set_same, get_or-set_other, get_or-replicate, length-set, length-replicate}
use Rattle.std.proofs.lemmas.Bool.{cases_eq, cases_lt}
use Rattle.std.proofs.lemmas.Bool.Decides.{nat_tests}
use Rattle.subsumption.specs.Graphs.{IsWithin}
use Rattle.subsumption.specs.Distances.{is_near}
use Rattle.subsumption.specs.declared.row.Step.{Step}
use Rattle.subsumption.specs.Squares.{Cells, Line, IsSquare, is_open, line, no_line}
use Rattle.subsumption.specs.declared.matrix.Change.{Change}
use Rattle.subsumption.specs.declared.matrix.Change.TheVariants.{Add, Kill, Shift}
use Rattle.subsumption.specs.declared.matrix.Turn.{Turn}
use Rattle.subsumption.specs.declared.matrix.Turn.TheVariants.{Reach, Forget, Gain}
use Rattle.subsumption.specs.ClosedTables.{are_near, is_at_most, rows_of, sum_of}
use Rattle.subsumption.specs.Matrices.{forget_of, forgotten, AreColumns, LeavesOut, Spares, columns_of, with_column, AreChanged, AreNear, HasRoom, IsChanged, IsPlaced, IsRowChanged, IsSteady, IsTurnPlaced, Keeps, Opens, Puts, RowsNear, ShowsRow, TurnsNear, alone, better_of, cell, changed, cleared, constants_of, first_of, joined_step, killed_step, line_cell, longer_step, more_of, own, plus_of, reach_of, step_of, turn_of, turned}
use Rattle.subsumption.proofs.TableSteps.{rows_near, near_rows}
use Rattle.subsumption.proofs.MatrixNumbers.{near_within}

-- ---- lines

open_cell : (l : Line) (i j : ℕ) → is_open l ≡ true → line_cell l i j ≡ step_of (get_or l.firsts j None) (get_or l.constants j (pos 0))
open_cell l i j e = ap (λ b. cond b (step_of (get_or l.firsts j None) (get_or l.constants j (pos 0))) (cleared i j)) e

closed_cell : (l : Line) (i j : ℕ) → is_open l ≡ false → line_cell l i j ≡ cleared i j
closed_cell l i j e = ap (λ b. cond b (step_of (get_or l.firsts j None) (get_or l.constants j (pos 0))) (cleared i j)) e

alone_long : (n i : ℕ) → length (alone n i).firsts ≡ n
alone_long n i = length-set (replicate n None) i (Some i) ∙ length-replicate n None

alone_open : (n i : ℕ) → i < n → is_open (alone n i) ≡ true
alone_open n i lt = by (length (alone n i).firsts == 0) refl
  where
    by : (b : Bool) → (length (alone n i).firsts == 0) ≡ b → not b ≡ true
    by false e = refl
    by true e = (let long = alone_long n i in absurd (grind (arith, nat_tests)))

alone_cell : (n i j : ℕ) → i < n → j < n → line_cell (alone n i) i j ≡ cleared i j
alone_cell n i j li lj =
    open_cell (alone n i) i j (alone_open n i li)
    ∙ (ap (step_of (get_or (slice_set (replicate n None) i (Some i)) j None)) (get_or-replicate n j (pos 0) (pos 0) lj) ∙ by (i == j) refl)
  where
    by : (b : Bool) → (i == j) ≡ b → step_of (get_or (slice_set (replicate n None) i (Some i)) j None) (pos 0) ≡ cond b (Some (record { plus = pos 0; first = j })) None
    by true e =
        let same : i ≡ j = grind (arith, nat_tests) in
        let long = length-replicate {A = Option ℕ} n None in
        subst (λ j. step_of (get_or (slice_set (replicate n None) i (Some i)) j None) (pos 0) ≡ Some (record { plus = pos 0; first = j })) same
        (ap (λ f. step_of f (pos 0)) (get_or-set_same (replicate n None) i (Some i) None (omega (arith, long, li))))
    by false e =
        let ne : j ≢ i = λ same. absurd (grind (arith, nat_tests)) in
        ap (λ f. step_of f (pos 0)) (get_or-set_other (replicate n None) i j (Some i) None ne ∙ get_or-replicate n j None None lj)

-- ---- one line of a matrix

line_here : (m new : Cells) (i : ℕ) (l : Line) → IsSquare m → i < m.n → new ≡ record { n = m.n; rows = slice_set m.rows i l } → line new i ≡ l
line_here m new i l square lt is = ap (λ m. line m i) is ∙ (let size = square.size in get_or-set_same m.rows i l no_line (omega (arith, size, lt)))

line_other : (m new : Cells) (i a : ℕ) (l : Line) → new ≡ record { n = m.n; rows = slice_set m.rows i l } → a ≢ i → line new a ≡ line m a
line_other m new i a l is ne = ap (λ m. line m a) is ∙ get_or-set_other m.rows i a l no_line ne

pub open_at : (m new : Cells) (i : ℕ) → IsSquare m → i < m.n → is_open (line m i) ≡ false → new ≡ record { n = m.n; rows = slice_set m.rows i (alone m.n i) } → Opens m i new
open_at m new i square li shut is =
    let here = line_here m new i (alone m.n i) square li is in
    record {
      size = ap (λ m. m.n) is;
      ready = ap is_open here ∙ alone_open m.n i li;
      same = λ a b la lb. elim (cases_eq a i) [
        | inl same ↦ subst (λ a. cell new a b ≡ cell m a b) (sym same) (ap (λ l. line_cell l i b) here ∙ (alone_cell m.n i b li lb ∙ sym (closed_cell (line m i) i b shut)))
        | inr ne ↦ ap (λ l. line_cell l a b) (line_other m new i a (alone m.n i) is ne)
      ];
    }

-- ---- one step after another

pub row_more : (new : ℕ → Option Step) (m now next : Cells) (i k : ℕ) → k < m.n → IsRowChanged new m now i k → Puts now i k (new k) next → IsRowChanged new m next i (k + 1)
row_more new m now next i k lk h puts = record {
  size = puts.size ∙ h.size;
  done = λ j lj lt. elim (cases_eq j k) [
    | inl same ↦ subst (λ j. cell next i j ≡ new j) (sym same) puts.here
    | inr ne ↦ puts.beside j (below j lj) ne ∙ h.done j lj (omega arith)
  ];
  left = λ j lj le. puts.beside j (below j lj) (λ e. absurd (omega arith)) ∙ h.left j lj (omega arith);
  others = λ a ne. puts.others a ne ∙ h.others a ne;
}
  where
    below : (j : ℕ) → j < m.n → j < now.n
    below j lj = subst (λ n. j < n) (sym h.size) lj

-- what the new steps leave as it is
pub row_skip : (new : ℕ → Option Step) (m now : Cells) (i k n : ℕ) → IsRowChanged new m now i k → k ≤ n → ((j : ℕ) → j < m.n → k ≤ j → j < n → new j ≡ cell m i j) → IsRowChanged new m now i n
row_skip new m now i k n h le same = record {
  size = h.size;
  done = λ j lj lt. elim (cases_lt j k) [ inl before ↦ h.done j lj before | inr ge ↦ h.left j lj ge ∙ sym (same j lj ge lt) ];
  left = λ j lj ge. h.left j lj (omega (arith, le, ge));
  others = h.others;
}

pub row_start : (new : ℕ → Option Step) (m : Cells) (i k : ℕ) → ((j : ℕ) → j < m.n → j < k → new j ≡ cell m i j) → IsRowChanged new m m i k
row_start new m i k same = record { size = refl; done = λ j lj lt. sym (same j lj lt); left = λ j lj le. refl; others = λ a ne. refl }

-- a row that is as the new steps say
pub row_same : (new : ℕ → Option Step) (m : Cells) (i : ℕ) → ((j : ℕ) → j < m.n → new j ≡ cell m i j) → IsRowChanged new m m i m.n
row_same new m i same = record { size = refl; done = λ j lj lt. sym (same j lj); left = λ j lj le. refl; others = λ a ne. refl }

pub row_by : (f g : ℕ → Option Step) (m now : Cells) (i : ℕ) → ((j : ℕ) → j < m.n → f j ≡ g j) → IsRowChanged f m now i m.n → IsRowChanged g m now i m.n
row_by f g m now i same h = record { size = h.size; done = λ j lj lt. h.done j lj lt ∙ same j lj; left = h.left; others = h.others }

-- ---- whether new constants are near

pub near_more : (new : ℕ → Option Step) (k : ℕ) (a b : Bool) → a ≡ is_near (plus_of (new k)) → ShowsRow b new k → ShowsRow (a && b) new (k + 1)
near_more new k true true e h = λ j lt. elim (cases_eq j k) [
  | inl same ↦ subst (λ j. is_near (plus_of (new j)) ≡ true) (sym same) (sym e)
  | inr ne ↦ h j (omega arith)
]
near_more new k false true e h = (k, omega arith, sym e)
near_more new k true false e (j, lt, far) = (j, omega (arith, lt), far)
near_more new k false false e (j, lt, far) = (j, omega (arith, lt), far)

-- those that stay as they are don't count
pub near_skip : (new : ℕ → Option Step) (k n : ℕ) (b : Bool) → k ≤ n → ((j : ℕ) → k ≤ j → j < n → is_near (plus_of (new j)) ≡ true) → ShowsRow b new k → ShowsRow b new n
near_skip new k n true le near h = λ j lt. elim (cases_lt j k) [ inl before ↦ h j before | inr ge ↦ near j ge lt ]
near_skip new k n false le near (j, lt, far) = (j, omega (arith, lt, le), far)

pub near_to : (new : ℕ → Option Step) (k n : ℕ) (b : Bool) → k ≡ n → ShowsRow b new k → ShowsRow b new n
near_to new k n b e h = subst (ShowsRow b new) e h

pub near_by : (f g : ℕ → Option Step) (n : ℕ) (b : Bool) → ((j : ℕ) → j < n → f j ≡ g j) → ShowsRow b f n → ShowsRow b g n
near_by f g n true same h = λ j lt. ap (λ s. is_near (plus_of s)) (sym (same j lt)) ∙ h j lt
near_by f g n false same (j, lt, far) = (j, lt, ap (λ s. is_near (plus_of s)) (sym (same j lt)) ∙ far)

abbrev pub ShowsNear : Bool → (ℕ → ℕ → Option Step) → ℕ → ℕ → Type 0
ShowsNear true new n k = (i j : ℕ) → i < k → j < n → is_near (plus_of (new i j)) ≡ true
ShowsNear false new n k = (i j : ℕ) × (i < n) × (j < n) × (is_near (plus_of (new i j)) ≡ false)

pub rows_more : (new : ℕ → ℕ → Option Step) (n k : ℕ) (a b : Bool) → k < n → ShowsRow a (new k) n → ShowsNear b new n k → ShowsNear (a && b) new n (k + 1)
rows_more new n k true true lk row h = λ i j li lj. elim (cases_eq i k) [
  | inl same ↦ subst (λ i. is_near (plus_of (new i j)) ≡ true) (sym same) (row j lj)
  | inr ne ↦ h i j (omega arith) lj
]
rows_more new n k false true lk (j, lj, far) h = (k, j, lk, lj, far)
rows_more new n k true false lk row h = h
rows_more new n k false false lk row h = h

pub near_all : (new : ℕ → ℕ → Option Step) (m now : Cells) (k : ℕ) (b : Bool) → m.n ≤ k → AreChanged new m now → ShowsNear b new m.n k → b ≡ are_near (rows_of m.n (constants_of now))
near_all new m now k true all h shows = sym (near_rows m.n (constants_of now) (λ i j li lj. ap (λ s. is_near (plus_of s)) (h.done i j li lj) ∙ shows i j (omega (arith, li, all)) lj))
near_all new m now k false all h (i, j, li, lj, far) = by (are_near (rows_of m.n (constants_of now))) refl
  where
    by : (r : Bool) → are_near (rows_of m.n (constants_of now)) ≡ r → false ≡ r
    by false e = refl
    by true e = absurd (let p = rows_near m.n (constants_of now) e i j li lj in let q = ap (λ s. is_near (plus_of s)) (h.done i j li lj) in cc)

-- ---- one row after another

pub changed_none : (new : ℕ → ℕ → Option Step) (m : Cells) → IsChanged new m m 0
changed_none new m = record { size = refl; done = λ i j li lj lt. absurd (omega arith); left = λ i le. refl }

pub changed_more : (new : ℕ → ℕ → Option Step) (m now next : Cells) (k : ℕ) → IsChanged new m now k → IsRowChanged (new k) now next k now.n → IsChanged new m next (k + 1)
changed_more new m now next k h row = record {
  size = row.size ∙ h.size;
  done = λ i j li lj lt. elim (cases_eq i k) [
    | inl same ↦ subst (λ i. cell next i j ≡ new i j) (sym same) (row.done j (below j lj) (below j lj))
    | inr ne ↦ ap (λ l. line_cell l i j) (row.others i ne) ∙ h.done i j li lj (omega arith)
  ];
  left = λ i le. row.others i (λ e. absurd (omega arith)) ∙ h.left i (omega arith);
}
  where
    below : (j : ℕ) → j < m.n → j < now.n
    below j lj = subst (λ n. j < n) (sym h.size) lj

pub changed_all : (new : ℕ → ℕ → Option Step) (m now : Cells) (k : ℕ) → m.n ≤ k → IsChanged new m now k → AreChanged new m now
changed_all new m now k all h = record { size = h.size; done = λ i j li lj. h.done i j li lj (omega (arith, li, all)) }

-- ---- turns

absent : (i j : ℕ) (b : Bool) → (i == j) ≡ b → i ≢ j → ◌≡◌ {A = Option Step} (cond b (Some (record { plus = pos 0; first = j })) None) None
absent i j true e ne = absurd (ne (grind (arith, nat_tests)))
absent i j false e ne = refl

module _ (m : Cells) (i : ℕ) where
  -- a turn makes of each step what the change does
  reached : (x y : ℕ) (c : ℤ) (j : ℕ) (o : Option Step) (t : Turn) → reach_of o c (constants_of m i y) y (i == x) ≡ Some t
      → turned t m i j ≡ better_of (cell m i j) (sum_of (sum_of (plus_of o) (Some c)) (constants_of m y j)) (cond (i == x) y (first_of o))
  reached x y c j None t e = absurd (cc)
  reached x y c j (Some s) t e = by (is_at_most (constants_of m i y) (s.plus +ℤ c)) e
    where
      by : (b : Bool) → cond b None (Some (Reach y (s.plus +ℤ c) (cond (i == x) y s.first))) ≡ Some t → turned t m i j ≡ better_of (cell m i j) (sum_of (Some (s.plus +ℤ c)) (constants_of m y j)) (cond (i == x) y s.first)
      by true r = absurd (cc)
      by false r = (let same : Reach y (s.plus +ℤ c) (cond (i == x) y s.first) ≡ t = cc in ap (λ t. turned t m i j) (sym same))

  turned_by : (u t : Turn) (j : ℕ) (b : Bool) → cond b (Some u) None ≡ Some t → turned t m i j ≡ turned u m i j
  turned_by u t j true e = (let same : u ≡ t = cc in ap (λ t. turned t m i j) (sym same))
  turned_by u t j false e = absurd (cc)

  -- a path is forgotten only where there is one
  forgets : (x : ℕ) (t : Turn) (o : Option Step) → forget_of (is_open (line m i)) o x ≡ Some t → cond (is_open (line m i)) (Some (Forget x)) None ≡ Some t
  forgets x t None e = absurd (cc)
  forgets x t (Some s) e = e

  pub turned_is : (change : Change) (t : Turn) (j : ℕ) → turn_of change m i ≡ Some t → turned t m i j ≡ changed change m i j
  turned_is (Add x y c) t j e = reached x y c j (cell m i x) t e
  turned_is (Kill x) t j e = by (cell m i x) e
    where
      by : (o : Option Step) → forget_of (is_open (line m i)) o x ≡ Some t → turned t m i j ≡ forgotten x o (cell m i j) i j
      by None r = absurd (cc)
      by (Some s) r = turned_by (Forget x) t j (is_open (line m i)) r
  turned_is (Shift x c) t j e = turned_by (Gain x c) t j (is_open (line m i)) e

  turned_open : (u t : Turn) (b : Bool) → cond b (Some u) None ≡ Some t → b ≡ true
  turned_open u t true e = refl
  turned_open u t false e = absurd (cc)

  -- there is room for the steps that a turn makes
  pub turn_open : (change : Change) (t : Turn) → HasRoom change m i → turn_of change m i ≡ Some t → is_open (line m i) ≡ true
  turn_open (Add x y c) t room e = elim (cases_eq i x) [ inl same ↦ room same | inr ne ↦ by (is_open (line m i)) refl ne ]
    where
      by : (b : Bool) → is_open (line m i) ≡ b → i ≢ x → b ≡ true
      by true shut ne = refl
      by false shut ne = absurd (let none : cell m i x ≡ None = closed_cell (line m i) i x shut ∙ absent i x (i == x) refl ne in
          let f : None ≡ Some t = ap (λ o. reach_of o c (constants_of m i y) y (i == x)) (sym none) ∙ e in cc)
  turn_open (Kill x) t room e = turned_open (Forget x) t (is_open (line m i)) (forgets x t (cell m i x) e)
  turn_open (Shift x c) t room e = turned_open (Gain x c) t (is_open (line m i)) e

  -- what a turn adds up is small
  reach_placed : (x y : ℕ) (c : ℤ) (o : Option Step) (t : Turn) → y < m.n → IsWithin (2 ^ 66) c → is_near (plus_of o) ≡ true → reach_of o c (constants_of m i y) y (i == x) ≡ Some t → IsTurnPlaced t m.n
  reach_placed x y c None t ly small near e = absurd (cc)
  reach_placed x y c (Some s) t ly small near e = by (is_at_most (constants_of m i y) (s.plus +ℤ c)) e
    where
      by : (b : Bool) → cond b None (Some (Reach y (s.plus +ℤ c) (cond (i == x) y s.first))) ≡ Some t → IsTurnPlaced t m.n
      by true r = absurd (cc)
      by false r =
          let same : Reach y (s.plus +ℤ c) (cond (i == x) y s.first) ≡ t = cc in
          let within = near_within s.plus near in
          let low = within.low in let high = within.high in let least = small.low in let most = small.high in
          subst (λ t. IsTurnPlaced t m.n) same (ly, record { low = omega (arith, ints, low, least); high = omega (arith, ints, high, most) })

  gain_placed : (x : ℕ) (c : ℤ) (t : Turn) (b : Bool) → IsWithin (2 ^ 64) c → cond b (Some (Gain x c)) None ≡ Some t → IsTurnPlaced t m.n
  gain_placed x c t true small e = (let same : Gain x c ≡ t = cc in subst (λ t. IsTurnPlaced t m.n) same small)
  gain_placed x c t false small e = absurd (cc)

  forget_placed : (x : ℕ) (t : Turn) (b : Bool) → cond b (Some (Forget x)) None ≡ Some t → IsTurnPlaced t m.n
  forget_placed x t true e = (let same : Forget x ≡ t = cc in subst (λ t. IsTurnPlaced t m.n) same tt)
  forget_placed x t false e = absurd (cc)

  pub turn_placed : (change : Change) (t : Turn) → IsPlaced change m.n → RowsNear change m i → turn_of change m i ≡ Some t → IsTurnPlaced t m.n
  turn_placed (Add x y c) t placed near e = reach_placed x y c (cell m i x) t placed.1 placed.2 (near.0 x placed.0) e
  turn_placed (Kill x) t placed near e = forget_placed x t (is_open (line m i)) (forgets x t (cell m i x) e)
  turn_placed (Shift x c) t placed near e = gain_placed x c t (is_open (line m i)) placed.1 e

  reach_near : (x y : ℕ) (c : ℤ) (j : ℕ) (o : Option Step) (t : Turn) → is_near (constants_of m y j) ≡ true → reach_of o c (constants_of m i y) y (i == x) ≡ Some t → TurnsNear t m i j
  reach_near x y c j None t near e = absurd (cc)
  reach_near x y c j (Some s) t near e = by (is_at_most (constants_of m i y) (s.plus +ℤ c)) e
    where
      by : (b : Bool) → cond b None (Some (Reach y (s.plus +ℤ c) (cond (i == x) y s.first))) ≡ Some t → TurnsNear t m i j
      by true r = absurd (cc)
      by false r = (let same : Reach y (s.plus +ℤ c) (cond (i == x) y s.first) ≡ t = cc in subst (λ t. TurnsNear t m i j) same near)

  near_from : (u t : Turn) (j : ℕ) (b : Bool) → TurnsNear u m i j → cond b (Some u) None ≡ Some t → TurnsNear t m i j
  near_from u t j true near e = (let same : u ≡ t = cc in subst (λ t. TurnsNear t m i j) same near)
  near_from u t j false near e = absurd (cc)

  pub turn_near : (change : Change) (t : Turn) → RowsNear change m i → turn_of change m i ≡ Some t → (j : ℕ) → j < m.n → TurnsNear t m i j
  turn_near (Add x y c) t near e j lj = reach_near x y c j (cell m i x) t (near.1 j lj) e
  turn_near (Kill x) t near e j lj = near_from (Forget x) t j (is_open (line m i)) tt (forgets x t (cell m i x) e)
  turn_near (Shift x c) t near e j lj = near_from (Gain x c) t j (is_open (line m i)) (near j lj) e

  -- a row that isn't turned stays as it is
  shut : (u : Turn) (b : Bool) → cond b (Some u) None ≡ None → b ≡ false
  shut u true e = absurd (cc)
  shut u false e = refl

  kill_shut : (x j : ℕ) (p q r : Bool) → own j (cond p (cond p (Some (record { plus = pos 0; first = j })) None) (cond q None (cond r None (cond p (Some (record { plus = pos 0; first = j })) None)))) ≡ cond p (Some (record { plus = pos 0; first = j })) None
  kill_shut x j true q r = refl
  kill_shut x j false true r = refl
  kill_shut x j false false true = refl
  kill_shut x j false false false = refl

  shift_shut : (x : ℕ) (c : ℤ) (j : ℕ) (b : Bool) → (i == j) ≡ b → more_of (cond b (Some (record { plus = pos 0; first = j })) None) (cond (i == x) c (pos 0) -ℤ cond (j == x) c (pos 0)) ≡ cond b (Some (record { plus = pos 0; first = j })) None
  shift_shut x c j true e =
      let same : i ≡ j = grind (arith, nat_tests) in
      let none : pos 0 +ℤ (cond (i == x) c (pos 0) -ℤ cond (j == x) c (pos 0)) ≡ pos 0 = subst (λ j. pos 0 +ℤ (cond (i == x) c (pos 0) -ℤ cond (j == x) c (pos 0)) ≡ pos 0) same (omega (arith, ints)) in
      ap (λ d. Some (record { plus = d; first = j })) none
  shift_shut x c j false e = refl

  pub turn_kept : (change : Change) → Keeps change m i → turn_of change m i ≡ None → (j : ℕ) → j < m.n → changed change m i j ≡ cell m i j
  turn_kept (Add x y c) keeps e j lj = keeps e j lj
  turn_kept (Kill x) keeps e j lj = by (cell m i x) e
    where
      by : (o : Option Step) → forget_of (is_open (line m i)) o x ≡ None → forgotten x o (cell m i j) i j ≡ cell m i j
      by None r = refl
      by (Some t) r =
          let none = closed_cell (line m i) i j (shut (Forget x) (is_open (line m i)) r) in
          ap (λ s. own j (killed_step x s i j)) none ∙ (kill_shut x j (i == j) (i == x) (j == x) ∙ sym none)
  turn_kept (Shift x c) keeps e j lj =
      let none = closed_cell (line m i) i j (shut (Gain x c) (is_open (line m i)) e) in
      ap (λ s. more_of s (cond (i == x) c (pos 0) -ℤ cond (j == x) c (pos 0))) none ∙ (shift_shut x c j (i == j) refl ∙ sym none)

  pub row_near : (change : Change) → RowsNear change m i → (j : ℕ) → j < m.n → is_near (constants_of m i j) ≡ true
  row_near (Add x y c) near = near.0
  row_near (Kill x) near = near
  row_near (Shift x c) near = near

  pub kept_near : (change : Change) → RowsNear change m i → Keeps change m i → turn_of change m i ≡ None → ShowsRow true (changed change m i) m.n
  kept_near change near keeps e = λ j lj. ap (λ s. is_near (plus_of s)) (turn_kept change keeps e j lj) ∙ row_near change near j lj

  -- a turn leaves as it is what the change leaves
  pub turn_spares : (change : Change) (t : Turn) (columns : Columns) → turn_of change m i ≡ Some t → Spares (changed change m i) m i columns → Spares (turned t m i) m i (columns_of t i columns)
  turn_spares change t columns e spares = by t (λ j lj out. turned_is change t j e ∙ spares j lj out)
    where
      by : (t : Turn) → Spares (turned t m i) m i columns → Spares (turned t m i) m i (columns_of t i columns)
      by (Reach y d f) h = h
      by (Forget x) h = h
      by (Gain x c) h = narrow (x == i) (nat_lt x columns.to) refl
        where
          own_gain : (j : ℕ) (o : Option Step) (p q : Bool) → p ≡ false → q ≡ false → more_of o (cond p c (pos 0) -ℤ cond q c (pos 0)) ≡ o
          own_gain j None p q e f = refl
          own_gain j (Some s) p q e f = subst (λ p. more_of (Some s) (cond p c (pos 0) -ℤ cond q c (pos 0)) ≡ Some s) (sym e) (subst (λ q. more_of (Some s) (pos 0 -ℤ cond q c (pos 0)) ≡ Some s) (sym f) (
              let none : s.plus +ℤ (pos 0 -ℤ pos 0) ≡ s.plus = omega (arith, ints) in ap (λ d. Some (record { plus = d; first = s.first })) none))

          apart : (a b : ℕ) → a ≢ b → (a == b) ≡ false
          apart a b ne = test (a == b) refl
            where
              test : (r : Bool) → (a == b) ≡ r → r ≡ false
              test true e = absurd (ne (grind (arith, nat_tests)))
              test false e = refl

          narrow : (p q : Bool) → (x == i) ≡ p → Spares (turned (Gain x c) m i) m i (cond (not p && q) (record { from = x; to = x + 1 }) columns)
          narrow true q e = h
          narrow false false e = h
          narrow false true e = λ j lj out.
              let ne : x ≢ i = λ same. absurd (grind (arith, nat_tests)) in
              let beside : j ≢ x = elim out [ inl lt ↦ (λ same. absurd (omega (arith, lt, same))) | inr ge ↦ (λ same. absurd (omega (arith, ge, same))) ] in
              own_gain j (cell m i j) (i == x) (j == x) (apart i x (λ same. ne (sym same))) (apart j x beside)

  pub turn_to : (t : Turn) (columns : Columns) → AreColumns m.n columns → AreColumns m.n (columns_of t i columns)
  turn_to (Reach y d f) columns h = h
  turn_to (Forget x) columns h = h
  turn_to (Gain x c) columns h = by (x == i) (nat_lt x columns.to) refl
    where
      by : (p q : Bool) → nat_lt x columns.to ≡ q → AreColumns m.n (cond (not p && q) (record { from = x; to = x + 1 }) columns)
      by true q e = h
      by false false e = h
      by false true e =
          let lt : x < columns.to = grind (arith, nat_tests) in
          let le = h.1 in (omega (arith, lt, le), omega (arith, lt, le))

-- what a turn reads stays as it is while its row is turned
pub turned_same : (t : Turn) (m now : Cells) (i k : ℕ) → k < m.n → IsTurnPlaced t m.n → IsRowChanged (turned t m i) m now i k → turned t now i k ≡ turned t m i k
turned_same (Reach y d f) m now i k lk placed h =
    let from : cell now y k ≡ cell m y k = elim (cases_eq y i) [ inl same ↦ subst (λ y. cell now y k ≡ cell m y k) (sym same) (h.left k lk (omega arith)) | inr ne ↦ ap (λ l. line_cell l y k) (h.others y ne) ] in
    ap (λ s. better_of s (sum_of (Some d) (constants_of now y k)) f) (h.left k lk (omega arith)) ∙ ap (λ s. better_of (cell m i k) (sum_of (Some d) (plus_of s)) f) from
turned_same (Forget x) m now i k lk placed h = ap (λ s. own k (killed_step x s i k)) (h.left k lk (omega arith))
turned_same (Gain x c) m now i k lk placed h = ap (λ s. more_of s (cond (i == x) c (pos 0) -ℤ cond (k == x) c (pos 0))) (h.left k lk (omega arith))

pub still_near : (t : Turn) (m now : Cells) (i k : ℕ) → k < m.n → TurnsNear t m i k → IsRowChanged (turned t m i) m now i k → TurnsNear t now i k
still_near (Reach y d f) m now i k lk near h = elim (cases_eq y i) [
  | inl same ↦ subst (λ y. is_near (constants_of m y k) ≡ true → is_near (constants_of now y k) ≡ true) (sym same) (λ near. ap (λ s. is_near (plus_of s)) (h.left k lk (omega arith)) ∙ near) near
  | inr ne ↦ ap (λ l. is_near (plus_of (line_cell l y k))) (h.others y ne) ∙ near
]
still_near (Forget x) m now i k lk near h = tt
still_near (Gain x c) m now i k lk near h = ap (λ s. is_near (plus_of s)) (h.left k lk (omega arith)) ∙ near

-- ---- what a change reads of rows that were changed before

module _ (m now : Cells) (k : ℕ) (lk : k < m.n) where
  kept_row : (new : ℕ → ℕ → Option Step) → IsChanged new m now k → (j : ℕ) → cell now k j ≡ cell m k j
  kept_row new h j = ap (λ l. line_cell l k j) (h.left k (omega arith))

  steady_row : (new : ℕ → ℕ → Option Step) (y : ℕ) → y < m.n → ((j : ℕ) → j < m.n → new y j ≡ cell m y j) → IsChanged new m now k → (j : ℕ) → j < m.n → cell now y j ≡ cell m y j
  steady_row new y ly steady h j lj = elim (cases_lt y k) [ inl lt ↦ h.done y j ly lj lt ∙ steady j lj | inr ge ↦ ap (λ l. line_cell l y j) (h.left y ge) ]

  pub step_same : (change : Change) → IsPlaced change m.n → IsSteady change m → IsChanged (changed change m) m now k → (j : ℕ) → j < m.n → changed change now k j ≡ changed change m k j
  step_same (Add x y c) placed steady h j lj =
      let r = steady_row (changed (Add x y c) m) y placed.1 steady h j lj in
      let F : Option Step → Option Step → Option Step → Option Step = λ s a b. better_of s (sum_of (sum_of (plus_of a) (Some c)) (plus_of b)) (cond (k == x) y (first_of a)) in
      ap (λ s. F s (cell now k x) (cell now y j)) (kept_row (changed (Add x y c) m) h j) ∙ (ap (λ a. F (cell m k j) a (cell now y j)) (kept_row (changed (Add x y c) m) h x) ∙ ap (F (cell m k j) (cell m k x)) r)
  step_same (Kill x) placed steady h j lj = ap (λ l. forgotten x (line_cell l k x) (line_cell l k j) k j) (h.left k (omega arith))
  step_same (Shift x c) placed steady h j lj = ap (λ s. more_of s (cond (k == x) c (pos 0) -ℤ cond (j == x) c (pos 0))) (kept_row (changed (Shift x c) m) h j)

  still_row : (new : ℕ → ℕ → Option Step) → IsChanged new m now k → AreNear m → (j : ℕ) → j < now.n → is_near (constants_of now k j) ≡ true
  still_row new h near j lj = ap (λ s. is_near (plus_of s)) (kept_row new h j) ∙ near k j lk (subst (λ n. j < n) h.size lj)

  pub rows_near_on : (change : Change) → IsPlaced change m.n → IsSteady change m → AreNear m → IsChanged (changed change m) m now k → RowsNear change now k
  rows_near_on (Add x y c) placed steady near h = (
    still_row (changed (Add x y c) m) h near,
    λ j lj. (let below = subst (λ n. j < n) h.size lj in ap (λ s. is_near (plus_of s)) (steady_row (changed (Add x y c) m) y placed.1 steady h j below) ∙ near y j placed.1 below),
  )
  rows_near_on (Kill x) placed steady near h = still_row (changed (Kill x) m) h near
  rows_near_on (Shift x c) placed steady near h = still_row (changed (Shift x c) m) h near

  pub room_on : (change : Change) → HasRoom change m k → IsChanged (changed change m) m now k → HasRoom change now k
  room_on (Add x y c) room h = λ e. ap is_open (h.left k (omega arith)) ∙ room e
  room_on (Kill x) room h = tt
  room_on (Shift x c) room h = tt

  pub spares_on : (change : Change) (columns : Columns) → IsPlaced change m.n → IsSteady change m → Spares (changed change m k) m k columns → IsChanged (changed change m) m now k → Spares (changed change now k) now k columns
  spares_on change columns placed steady spares h = λ j lj out.
      let below = subst (λ n. j < n) h.size lj in
      step_same change placed steady h j below ∙ (spares j below out ∙ sym (kept_row (changed change m) h j))

  pub keeps_on : (change : Change) → IsPlaced change m.n → IsSteady change m → Keeps change m k → IsChanged (changed change m) m now k → Keeps change now k
  keeps_on (Add x y c) placed steady keeps h = λ e j lj.
      let below = subst (λ n. j < n) h.size lj in
      step_same (Add x y c) placed steady h j below
      ∙ (keeps (ap (λ l. reach_of (line_cell l k x) c (plus_of (line_cell l k y)) y (k == x)) (sym (h.left k (omega arith))) ∙ e) j below ∙ sym (kept_row (changed (Add x y c) m) h j))
  keeps_on (Kill x) placed steady keeps h = tt
  keeps_on (Shift x c) placed steady keeps h = tt

-- ---- joins

pub join_same : (m now other : Cells) (i k : ℕ) → k < m.n → IsRowChanged (joined_step m other i) m now i k → joined_step now other i k ≡ joined_step m other i k
join_same m now other i k lk h = ap (λ s. longer_step k s (cell other i k)) (h.left k lk (omega arith))

pub joined_same : (m now other : Cells) (k : ℕ) → k < m.n → IsChanged (joined_step m other) m now k → (j : ℕ) → joined_step now other k j ≡ joined_step m other k j
joined_same m now other k lk h j = ap (λ s. longer_step j s (cell other k j)) (kept_row m now k lk (joined_step m other) h j)

-- ---- columns

pub left_more : (test : ℕ → Bool) (k : ℕ) (columns : Columns) (b : Bool) → test k ≡ b → columns.to ≤ k → LeavesOut test k columns → LeavesOut test (k + 1) (cond b (with_column columns k) columns)
left_more test k columns false e le h = λ j lj out. elim (cases_eq j k) [ inl same ↦ subst (λ j. test j ≡ false) (sym same) e | inr ne ↦ h j (omega arith) out ]
left_more test k columns true e le h = by (nat_lt columns.from k) refl
  where
    by : (b : Bool) → nat_lt columns.from k ≡ b → LeavesOut test (k + 1) (record { from = cond b columns.from k; to = k + 1 })
    by true f = λ j lj out. elim out [
      | inl lt ↦ (let from : columns.from < k = grind (arith, nat_tests) in h j (omega (arith, lt, from)) (inl lt))
      | inr ge ↦ absurd (omega (arith, lj, ge))
    ]
    by false f = λ j lj out. elim out [
      | inl lt ↦ (let from : k ≤ columns.from = grind (arith, nat_tests) in h j lt (inl (omega (arith, lt, from))))
      | inr ge ↦ absurd (omega (arith, lj, ge))
    ]

pub columns_more : (n k : ℕ) (columns : Columns) (b : Bool) → k ≤ n → columns.from ≤ n → columns.to ≤ k → ((cond b (with_column columns k) columns).from ≤ n) × ((cond b (with_column columns k) columns).to ≤ k + 1)
columns_more n k columns false le from to = (from, omega (arith, to))
columns_more n k columns true le from to = (by (nat_lt columns.from k), omega arith)
  where
    by : (b : Bool) → cond b columns.from k ≤ n
    by true = from
    by false = le
