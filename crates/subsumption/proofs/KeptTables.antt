-- What a table of facts keeps shows its closed table, and each change of it is that of the closed table.
use Rattle.std.proofs.Common.{ℕ, zero, suc, ◌+◌, ◌^◌, ◌<◌, ◌≤◌, ◌≡◌, ◌≢◌, ◌==◌, ℤ, pos, negsuc, ◌-ℤ◌, Bool, true, false, cond, Option, None, Some, List, [], ◌∷◌, ◌++◌, length, refl, sym, ◌∙◌, ap, subst, arith}
use Rattle.std.specs.Prelude.{unsigned_abs}
use Rattle.std.specs.List.{All, Contains}
use Rattle.std.proofs.lemmas.Int.{ints}
use Rattle.std.proofs.lemmas.Bool.Decides.{nat_tests}
use Rattle.std.proofs.lemmas.List.Elements.{All-contains_itself, All-weaker, Contains-append_left}
use Rattle.subsumption.specs.declared.fact.Fact.{Fact}
use Rattle.subsumption.specs.declared.fact.Answer.{Answer}
use Rattle.subsumption.specs.declared.row.Step.{Step}
use Rattle.subsumption.specs.declared.matrix.Change.{Change}
use Rattle.subsumption.specs.declared.matrix.Change.TheVariants.{Add, Kill, Shift}
use Rattle.subsumption.specs.Graphs.{at_index, fact_at, node_of}
use Rattle.subsumption.specs.Distances.{is_near, longer_of}
use Rattle.subsumption.specs.Shifts.{moved}
use Rattle.subsumption.specs.Facts.{AnswersFact, BothEntail, Entails, HasOneEach, Holds, IsAbout, IsBelow, IsKept, IsWide}
use Rattle.subsumption.specs.Tables.{Becomes, FollowsWithout, Joins, Table}
use Rattle.subsumption.specs.ClosedTables.{ClosedTable, Contradiction, Least, Pairs, Rows, added, added_to, are_near, entry, guarded, is_broken, joined, no_facts, no_pairs, rows_of, shared, shifted, smaller_of, sum_of, table_of, with_fact, without}
use Rattle.subsumption.specs.ShownTables.{Shows}
use Rattle.subsumption.specs.Squares.{Cells}
use Rattle.subsumption.specs.Matrices.{cell, constants_of, plus_of}
use Rattle.subsumption.specs.MatrixWays.{Contradicts}
use Rattle.subsumption.specs.MatrixPaths.{IsCanonical, IsKeptClosed, fact_by, facts_between, facts_by, facts_of, guarded_rows, listed, pairs_after, table_by}
use Rattle.subsumption.proofs.TableConstants.{at_most_from, at_most_to}
use Rattle.subsumption.proofs.TableChanges.{AreSame, entry_is}
use Rattle.subsumption.proofs.TableSteps.{below_node, entries_near, least_near, rows_same}
use Rattle.subsumption.proofs.ShownTables.{add_leaves, join_same, kept_about, kill_leaves, shift_leaves}
use Rattle.subsumption.proofs.MatrixFacts.{facts_all, facts_one, listed_none, says_rows, table_rows}
use Rattle.subsumption.proofs.MatrixNumbers.{near_within}

-- ---- what is kept shows its closed table

pub kept_facts : (m : Cells) → IsCanonical m → All (IsKept m.n) (facts_of m)
kept_facts m canonical = facts_all m (IsKept m.n) (λ i j s li lj ne e same. record {
  left = subst (λ i. i < m.n) (sym (node_at i)) li;
  right = subst (λ j. j < m.n) (sym (node_at j)) lj;
  plus = near_within s.plus (ap (λ o. is_near (plus_of o)) (sym e) ∙ canonical.near i j li lj);
})
  where
    node_at : (i : ℕ) → node_of (at_index i) ≡ i
    node_at zero = refl
    node_at (suc i) = refl

broken_entails : (F : List Fact) (g : Fact) → Entails F (fact_at None None (negsuc 0)) → Entails F g
broken_entails F g h v meets = (let below : Holds v (fact_at None None (negsuc 0)) = h v meets in absurd (omega (arith, ints, below)))

module _ (vars : ℕ) (path : List Fact) (m : Cells) where
  pub shows_kept : (broken : Bool) → IsKeptClosed vars broken path m → Shows vars (facts_by broken path m) (table_by broken m)
  shows_kept false kept = record {
    about = kept_about vars (facts_of m) (subst (λ n. All (IsKept n) (facts_of m)) kept.size (kept_facts m kept.sound));
    closed = table_rows vars m kept.size kept.sound;
    same = says_rows vars m kept.size kept.sound;
  }
  shows_kept true kept = record {
    about = kept_about vars path kept.sound.kept;
    closed = tt;
    same = λ goal about. ((λ e. broken_entails path goal kept.sound.broken), (λ h. refl));
  }

  pub one_kept : (broken : Bool) → IsKeptClosed vars broken path m → HasOneEach (facts_by broken path m)
  one_kept false kept = facts_one m
  one_kept true kept = kept.sound.one_each

  no_step : (i j : ℕ) → constants_of m i j ≡ None → (o : Option Step) → cell m i j ≡ o → (b : Bool) → cond b [] (fact_by i j o) ≡ []
  no_step i j none None e true = refl
  no_step i j none None e false = refl
  no_step i j none (Some s) e b = absurd (let q = ap plus_of e in cc)

  -- where nothing is known there are no facts
  pub empty_by : ((i j : ℕ) → i < m.n → j < m.n → i ≢ j → constants_of m i j ≡ None) → facts_of m ≡ []
  empty_by none = listed_none m.n (λ i. listed m.n (λ j. facts_between m i j)) (λ i li. listed_none m.n (λ j. facts_between m i j) (λ j lj. by i j li lj (i == j) refl))
    where
      not_same : (i j : ℕ) → i ≡ j → (i == j) ≡ false → ⊥
      not_same i j same e = grind (arith, nat_tests)

      by : (i j : ℕ) → i < m.n → j < m.n → (b : Bool) → (i == j) ≡ b → cond b [] (fact_by i j (cell m i j)) ≡ []
      by i j li lj true e = refl
      by i j li lj false e = no_step i j (none i j li lj (λ same. not_same i j same e)) (cell m i j) refl false

  pub none_there : (i j : ℕ) → i ≢ j → no_pairs i j ≡ None
  none_there i j ne = by (i == j) refl
    where
      by : (b : Bool) → (i == j) ≡ b → cond b (Some (pos 0)) None ≡ None
      by true e = absurd (ne (grind (arith, nat_tests)))
      by false e = refl

  pub empty_kept : (broken : Bool) → IsKeptClosed vars broken path m → table_by broken m ≡ no_facts vars → facts_by broken path m ≡ []
  empty_kept true kept e = absurd (cc)
  empty_kept false kept e = empty_by (λ i j li lj ne.
      let rows : rows_of m.n (constants_of m) ≡ rows_of (vars + 1) no_pairs = cc in
      let ni = subst (λ n. i < n) kept.size li in let nj = subst (λ n. j < n) kept.size lj in
      sym (entry_is m.n (constants_of m) i j li lj) ∙ (ap (λ rows. entry rows i j) rows ∙ (entry_is (vars + 1) no_pairs i j ni nj ∙ none_there i j ne)))

-- ---- no least constant is too large

pub narrow_shown : (vars : ℕ) (F : List Fact) (t : ClosedTable) → Shows vars F t → IsWide vars (Entails F) → ⊥
narrow_shown vars F Contradiction shows wide = wide.met ((shows.same (fact_at None None (negsuc 0)) (record { left = tt; right = tt })).0 refl)
narrow_shown vars F (Least rows) shows wide =
    let i = node_of wide.left in let j = node_of wide.right in
    let about : (k : ℤ) → IsAbout vars (fact_at wide.left wide.right k) = λ k. record { left = wide.about.left; right = wide.about.right } in
    let at = at_most_from (entry rows i j) wide.plus ((shows.same (fact_at wide.left wide.right wide.plus) (about wide.plus)).1 wide.least.holds) in
    let near = least_near (entry rows i j) wide.plus (entries_near vars rows shows.closed i j (below_node vars wide.left wide.about.left) (below_node vars wide.right wide.about.right)) at
    (λ h. wide.least.least ((shows.same (fact_at wide.left wide.right (wide.plus -ℤ pos 1)) (about (wide.plus -ℤ pos 1))).0 (at_most_to (entry rows i j) (wide.plus -ℤ pos 1) h))) in
    let outside = wide.outside in omega (arith, near, outside)

-- ---- tables of pairs

least_guarded : (vars n : ℕ) (t : Pairs) → n ≡ vars + 1 → Least (guarded_rows n t) ≡ table_of vars t
least_guarded vars n t e = subst (λ n. Least (guarded_rows n t) ≡ table_of vars t) (sym e) (by (are_near (rows_of (vars + 1) t)))
  where
    by : (b : Bool) → Least (cond b (rows_of (vars + 1) t) (rows_of (vars + 1) no_pairs)) ≡ cond b (Least (rows_of (vars + 1) t)) (no_facts vars)
    by true = refl
    by false = refl

table_same : (vars : ℕ) (t u : Pairs) → AreSame (vars + 1) t u → table_of vars u ≡ table_of vars t
table_same vars t u same = ap (guarded vars) (rows_same (vars + 1) u t same)

module _ (vars : ℕ) (m : Cells) (size : m.n ≡ vars + 1) where
  abbrev pub seen : Pairs
  seen = entry (rows_of m.n (constants_of m))

  same : AreSame (vars + 1) (constants_of m) seen
  same i j li lj = entry_is m.n (constants_of m) i j (subst (λ n. i < n) (sym size) li) (subst (λ n. j < n) (sym size) lj)

  -- the nodes that are named by a fact are nodes of the table
  abbrev pub Names : Change → ℕ → Type 0
  Names (Add x y c) n = (x < n) × (y < n)
  Names (Kill x) n = Unit {0}
  Names (Shift x c) n = Unit {0}

  after_same : (change : Change) → Names change (vars + 1) → AreSame (vars + 1) (pairs_after change (constants_of m)) (pairs_after change seen)
  after_same (Add x y c) placed i j li lj =
      let F : Option ℤ → Option ℤ → Option ℤ → Option ℤ = λ o p q. smaller_of o (sum_of (sum_of p (Some c)) q) in
      ap (λ o. F o (seen i x) (seen y j)) (same i j li lj) ∙ (ap (λ p. F (constants_of m i j) p (seen y j)) (same i x li placed.0) ∙ ap (F (constants_of m i j) (constants_of m i x)) (same y j placed.1 lj))
  after_same (Kill x) placed i j li lj = ap (λ o. cond (i == j) o (cond (i == x) None (cond (j == x) None o))) (same i j li lj)
  after_same (Shift x c) placed i j li lj = ap (λ o. sum_of o (Some (cond (i == x) c (pos 0) -ℤ cond (j == x) c (pos 0)))) (same i j li lj)

  -- the table after a change
  pub least_after : (new : Cells) (change : Change) → Names change m.n → rows_of new.n (constants_of new) ≡ guarded_rows m.n (pairs_after change (constants_of m)) → table_by false new ≡ table_of vars (pairs_after change seen)
  least_after new change placed rows =
      ap Least rows ∙ (least_guarded vars m.n (pairs_after change (constants_of m)) size ∙ sym (table_same vars (pairs_after change (constants_of m)) (pairs_after change seen) (after_same change (subst (Names change) size placed))))

  pub broken_same : (x y : ℕ) (c : ℤ) → x < m.n → y < m.n → is_broken (seen y x) c ≡ is_broken (constants_of m y x) c
  broken_same x y c lx ly = ap (λ o. is_broken o c) (same y x (subst (λ n. y < n) size ly) (subst (λ n. x < n) size lx))

  -- the table after a fact was added that can be met
  pub least_added : (new : Cells) (x y : ℕ) (c : ℤ) → (x < m.n) × (y < m.n) → is_broken (constants_of m y x) c ≡ false → rows_of new.n (constants_of new) ≡ guarded_rows m.n (pairs_after (Add x y c) (constants_of m)) → table_by false new ≡ added_to vars x y c seen
  least_added new x y c placed met rows =
      least_after new (Add x y c) placed rows ∙ sym (ap (λ b. cond b Contradiction (table_of vars (added x y c seen))) (broken_same x y c placed.0 placed.1 ∙ met))

  pub broken_added : (x y : ℕ) (c : ℤ) → x < m.n → y < m.n → is_broken (constants_of m y x) c ≡ true → Contradiction ≡ added_to vars x y c seen
  broken_added x y c lx ly met = sym (ap (λ b. cond b Contradiction (table_of vars (added x y c seen))) (broken_same x y c lx ly ∙ met))

  pub least_joined : (other new : Cells) → other.n ≡ m.n → rows_of new.n (constants_of new) ≡ guarded_rows m.n (shared (constants_of m) (constants_of other)) → table_by false new ≡ table_of vars (shared seen (entry (rows_of other.n (constants_of other))))
  least_joined other new e rows =
      let sides : AreSame (vars + 1) (shared (constants_of m) (constants_of other)) (shared seen (entry (rows_of other.n (constants_of other)))) = λ i j li lj.
      ap (λ o. longer_of o (entry (rows_of other.n (constants_of other)) i j)) (same i j li lj)
      ∙ ap (longer_of (constants_of m i j)) (entry_is other.n (constants_of other) i j (subst (λ n. i < n) (sym (e ∙ size)) li) (subst (λ n. j < n) (sym (e ∙ size)) lj)) in
      ap Least rows ∙ (least_guarded vars m.n (shared (constants_of m) (constants_of other)) size ∙ sym (table_same vars (shared (constants_of m) (constants_of other)) (shared seen (entry (rows_of other.n (constants_of other)))) sides))

-- ---- steps

abbrev pub view : ℕ → Bool → List Fact → Cells → Table
view vars broken path m = record { vars = vars; facts = facts_by broken path m; table = table_by broken m }

module _ (vars : ℕ) (b c : Bool) (path after : List Fact) (m new : Cells) (kept : IsKeptClosed vars b path m) (left : IsKeptClosed vars c after new) where
  pub add_becomes : (f : Fact) → IsAbout vars f → table_by c new ≡ with_fact vars f (table_by b m) → Becomes (view vars b path m) (Entails (facts_by b path m ++ f ∷ [])) (view vars c after new)
  add_becomes f about e = record { vars = refl; facts = add_leaves vars (facts_by b path m) (facts_by c after new) (table_by b m) (table_by c new) (shows_kept vars path m b kept) (shows_kept vars after new c left) (empty_kept vars after new c left) f about e }

  pub kill_becomes : (x : ℕ) → x < vars → table_by c new ≡ without vars x (table_by b m) → Becomes (view vars b path m) (FollowsWithout x (facts_by b path m)) (view vars c after new)
  kill_becomes x lt e = record { vars = refl; facts = kill_leaves vars (facts_by b path m) (facts_by c after new) (table_by b m) (table_by c new) (shows_kept vars path m b kept) (shows_kept vars after new c left) (empty_kept vars after new c left) x lt e }

  pub shift_becomes : (x : ℕ) (z : ℤ) → x < vars → table_by c new ≡ shifted vars x z (table_by b m) → Becomes (view vars b path m) (λ goal. Entails (facts_by b path m) (moved x z goal)) (view vars c after new)
  shift_becomes x z lt e = record { vars = refl; facts = shift_leaves vars (facts_by b path m) (facts_by c after new) (table_by b m) (table_by c new) (shows_kept vars path m b kept) (shows_kept vars after new c left) (empty_kept vars after new c left) x z lt e }

  pub join_becomes : (d : Bool) (others : List Fact) (other : Cells) → IsKeptClosed vars d others other → table_by c new ≡ joined vars (table_by b m) (table_by d other) → Joins (view vars b path m) (view vars d others other) (view vars c after new)
  join_becomes d others other both e = record {
    vars = refl;
    same = join_same vars (facts_by b path m) (facts_by c after new) (table_by b m) (table_by c new) (shows_kept vars path m b kept) (shows_kept vars after new c left) (empty_kept vars after new c left)
        (facts_by d others other) (table_by d other) (shows_kept vars others other d both) e;
  }

-- ---- the calls

module _ (vars : ℕ) (path : List Fact) (m new : Cells) where
  pub kept_after : (b : Bool) → b ≡ false → IsKeptClosed vars b path m → new.n ≡ m.n → IsCanonical new → IsKeptClosed vars b path new
  kept_after true e kept size canonical = absurd (cc)
  kept_after false e kept size canonical = record { few = kept.few; size = size ∙ kept.size; sound = canonical }

  pub kill_table : (b : Bool) (x : ℕ) → b ≡ false → IsKeptClosed vars b path m → rows_of new.n (constants_of new) ≡ guarded_rows m.n (pairs_after (Kill (x + 1)) (constants_of m)) → table_by b new ≡ without vars x (table_by b m)
  kill_table true x e kept rows = absurd (cc)
  kill_table false x e kept rows =
      let one : x + 1 ≡ suc x = omega arith in
      least_after vars m kept.size new (Kill (suc x)) tt (subst (λ y. rows_of new.n (constants_of new) ≡ guarded_rows m.n (pairs_after (Kill y) (constants_of m))) one rows)

  pub shift_table : (b : Bool) (x : ℕ) (z c : ℤ) → b ≡ false → z ≡ c → IsKeptClosed vars b path m → rows_of new.n (constants_of new) ≡ guarded_rows m.n (pairs_after (Shift (x + 1) z) (constants_of m)) → table_by b new ≡ shifted vars x c (table_by b m)
  shift_table true x z c e same kept rows = absurd (cc)
  shift_table false x z c e same kept rows =
      let one : x + 1 ≡ suc x = omega arith in
      let P : ℕ → ℤ → Type 0 = λ y z. rows_of new.n (constants_of new) ≡ guarded_rows m.n (pairs_after (Shift y z) (constants_of m)) in
      least_after vars m kept.size new (Shift (suc x) c) tt (subst (P (suc x)) same (subst (λ y. P y z) one rows))

  pub add_table : (b : Bool) (f : Fact) (x y : ℕ) (z : ℤ) → b ≡ false → IsKeptClosed vars b path m → x ≡ node_of f.left → y ≡ node_of f.right → z ≡ f.plus → node_of f.left < m.n → node_of f.right < m.n → is_broken (constants_of m (node_of f.right) (node_of f.left)) f.plus ≡ false
      → rows_of new.n (constants_of new) ≡ guarded_rows m.n (pairs_after (Add x y z) (constants_of m)) → table_by b new ≡ with_fact vars f (table_by b m)
  add_table true f x y z e kept p q r lx ly met rows = absurd (cc)
  add_table false f x y z e kept p q r lx ly met rows =
      let P : ℕ → ℕ → ℤ → Type 0 = λ x y z. rows_of new.n (constants_of new) ≡ guarded_rows m.n (pairs_after (Add x y z) (constants_of m)) in
      least_added vars m kept.size new (node_of f.left) (node_of f.right) f.plus (lx, ly) met (subst (P (node_of f.left) (node_of f.right)) r (subst (λ y. P (node_of f.left) y z) q (subst (λ x. P x y z) p rows)))

  pub join_table : (b d : Bool) (others : List Fact) (other : Cells) → b ≡ false → d ≡ false → IsKeptClosed vars b path m → IsKeptClosed vars d others other
      → rows_of new.n (constants_of new) ≡ guarded_rows m.n (shared (constants_of m) (constants_of other)) → table_by b new ≡ joined vars (table_by b m) (table_by d other)
  join_table true d others other e f kept both rows = absurd (cc)
  join_table false true others other e f kept both rows = absurd (cc)
  join_table false false others other e f kept both rows = least_joined vars m kept.size other new (both.size ∙ sym kept.size) rows

-- where nothing met the facts before
pub broken_killed : (vars x : ℕ) (b : Bool) (m : Cells) → b ≡ true → table_by b m ≡ without vars x (table_by b m)
broken_killed vars x true m e = refl
broken_killed vars x false m e = absurd (cc)

pub broken_shifted : (vars x : ℕ) (c : ℤ) (b : Bool) (m : Cells) → b ≡ true → table_by b m ≡ shifted vars x c (table_by b m)
broken_shifted vars x c true m e = refl
broken_shifted vars x c false m e = absurd (cc)

pub broken_more : (vars : ℕ) (f : Fact) (b : Bool) (m : Cells) → b ≡ true → table_by b m ≡ with_fact vars f (table_by b m)
broken_more vars f true m e = refl
broken_more vars f false m e = absurd (cc)

pub broken_joined : (vars : ℕ) (b d : Bool) (m other new : Cells) → b ≡ true → d ≡ false → new ≡ other → table_by false new ≡ joined vars (table_by b m) (table_by d other)
broken_joined vars true false m other new e f same = ap (table_by false) same
broken_joined vars true true m other new e f same = absurd (cc)
broken_joined vars false d m other new e f same = absurd (cc)

pub taken_over : (vars : ℕ) (path others : List Fact) (d : Bool) (other new : Cells) → d ≡ false → new ≡ other → IsKeptClosed vars d others other → IsKeptClosed vars false path new
taken_over vars path others true other new e same kept = absurd (cc)
taken_over vars path others false other new e same kept = subst (IsKeptClosed vars false path) (sym same) (record { few = kept.few; size = kept.size; sound = kept.sound })

-- a contradiction comes up
pub contradicted : (vars : ℕ) (m : Cells) (f : Fact) (path before : List Fact) (b : Bool) → IsKeptClosed vars b before m → Contradicts m f path → IsKeptClosed vars true path m
contradicted vars m f path before b kept h = record {
  few = kept.few;
  size = kept.size;
  sound = record {
    few = (let few = h.few in let size = kept.size in omega (arith, few, size));
    kept = subst (λ n. All (IsKept n) path) kept.size h.kept;
    one_each = h.one_each;
    broken = h.broken;
  };
}

pub contradicted_table : (vars : ℕ) (m : Cells) (f : Fact) (before : List Fact) (b : Bool) → b ≡ false → IsKeptClosed vars b before m → node_of f.left < m.n → node_of f.right < m.n
    → is_broken (constants_of m (node_of f.right) (node_of f.left)) f.plus ≡ true → Contradiction ≡ with_fact vars f (table_by b m)
contradicted_table vars m f before true e kept lx ly met = absurd (cc)
contradicted_table vars m f before false e kept lx ly met = broken_added vars m kept.size (node_of f.left) (node_of f.right) f.plus lx ly met

pub contradicted_among : (m : Cells) (f : Fact) (path before : List Fact) (b : Bool) → b ≡ false → Contradicts m f path → All (Contains (facts_by b before m ++ f ∷ [])) path
contradicted_among m f path before true e h = absurd (cc)
contradicted_among m f path before false e h = h.among

pub front_among : (F : List Fact) (f : Fact) → All (Contains (F ++ f ∷ [])) F
front_among F f = All-weaker (Contains F) (Contains (F ++ f ∷ [])) (λ g h. Contains-append_left F (f ∷ []) g h) F (All-contains_itself F)

pub named_below : (vars : ℕ) (m : Cells) (o : Option ℕ) → m.n ≡ vars + 1 → IsBelow vars o → node_of o < m.n
named_below vars m o size below = subst (λ n. node_of o < n) (sym size) (below_node vars o below)

-- ---- answers

pub broken_answer : (vars : ℕ) (path items : List Fact) (m : Cells) (b : Bool) (goal : Fact) → b ≡ true → IsKeptClosed vars b path m → items ≡ path
    → All (Contains (facts_by b path m)) items × Entails items goal × (length items ≤ vars + 1)
broken_answer vars path items m true goal e kept same =
    let P : List Fact → Type 0 = λ items. All (Contains path) items × Entails items goal × (length items ≤ vars + 1) in
    subst P (sym same) (All-contains_itself path, broken_entails path goal kept.sound.broken, kept.sound.few)
broken_answer vars path items m false goal e kept same = absurd (cc)

pub met_answer : (vars : ℕ) (path : List Fact) (m : Cells) (b : Bool) (goal : Fact) (answer : Answer) → b ≡ false → IsKeptClosed vars b path m → AnswersFact m.n (facts_of m) goal answer → AnswersFact (vars + 1) (facts_by b path m) goal answer
met_answer vars path m true goal answer e kept h = absurd (cc)
met_answer vars path m false goal answer e kept h = subst (λ n. AnswersFact n (facts_of m) goal answer) kept.size h

-- ---- a new table

pub new_kept : (vars : ℕ) (path : List Fact) (m : Cells) → vars ≤ 4096 → m.n ≡ vars + 1 → IsCanonical m → IsKeptClosed vars false path m
new_kept vars path m few size canonical = record { few = few; size = size; sound = canonical }

pub new_view : (vars : ℕ) (path : List Fact) (m : Cells) → m.n ≡ vars + 1 → IsCanonical m → ((i j : ℕ) → i < m.n → j < m.n → constants_of m i j ≡ no_pairs i j) → view vars false path m ≡ record { vars = vars; facts = []; table = no_facts vars }
new_view vars path m size canonical none =
    let rows : rows_of m.n (constants_of m) ≡ rows_of (vars + 1) no_pairs = rows_same m.n (constants_of m) no_pairs none ∙ ap (λ n. rows_of n no_pairs) size in
    let facts : facts_of m ≡ [] = empty_by vars path m (λ i j li lj ne. none i j li lj ∙ none_there vars path m i j ne) in
    let V : List Fact → Rows → Table = λ f r. record { vars = vars; facts = f; table = Least r } in
    ap (λ f. V f (rows_of m.n (constants_of m))) facts ∙ ap (V []) rows

-- ---- what holds of each table

abbrev pub FactsOf : Table → Type 0
FactsOf t = Shows t.vars t.facts t.table

none_outside : (vars : ℕ) (F : List Fact) (x y : Option ℕ) (k : ℤ) → (IsWide vars (Entails F) → ⊥) → IsAbout vars (fact_at x y (pos 0)) → 2 ^ 100 < unsigned_abs k
    → Entails F (fact_at x y k) → (Entails F (fact_at x y (k -ℤ pos 1)) → ⊥) → ⊥
none_outside vars F x y k narrow about outside h lower = narrow (record {
  met = λ broken. lower (broken_entails F (fact_at x y (k -ℤ pos 1)) broken);
  left = x;
  right = y;
  about = about;
  plus = k;
  least = record { holds = h; least = lower };
  outside = outside;
})

-- of what two tables both entail no least constant is too large
pub both_narrow : (vars : ℕ) (F G : List Fact) → (IsWide vars (Entails F) → ⊥) → (IsWide vars (Entails G) → ⊥) → IsWide vars (BothEntail F G) → ⊥
both_narrow vars F G first second w =
    none_outside vars F w.left w.right w.plus first w.about w.outside w.least.holds.0
    (λ f. none_outside vars G w.left w.right w.plus second w.about w.outside w.least.holds.1 (λ g. w.least.least (f, g)))

pub joins_narrow : (a b : Table) → FactsOf a → FactsOf b → b.vars ≡ a.vars → IsWide a.vars (BothEntail a.facts b.facts) → ⊥
joins_narrow a b first second same = both_narrow a.vars a.facts b.facts (narrow_shown a.vars a.facts a.table first) (subst (λ n. IsWide n (Entails b.facts) → ⊥) same (narrow_shown b.vars b.facts b.table second))

-- a join is a step that leaves what both entail
pub joins_become : (a b : Table) → FactsOf a → FactsOf b → b.vars ≡ a.vars → (after : Table) → Joins a b after → Becomes a (BothEntail a.facts b.facts) after
joins_become a b first second same after joins = record {
  vars = joins.vars;
  facts = record { none = λ wide. absurd (joins_narrow a b first second same wide); same = λ narrow g about. joins.same g about };
}
