-- What the facts of a flow say of the numbers of variables, after each change.
use Rattle.std.proofs.Common.{ℕ, ◌<◌, ◌≡◌, ◌≢◌, ℤ, pos, negsuc, ◌+ℤ◌, Bool, true, false, cond, ◌==◌, Option, None, Some, refl, sym, ap, subst, arith, inl, inr}
use Rattle.std.proofs.lemmas.Int.{ints}
use Rattle.std.proofs.lemmas.Bool.Decides.{nat_tests}
use Rattle.bounds_exprs.specs.declared.term.Term.{Term}
use Rattle.subsumption.specs.declared.fact.Fact.{Fact}
use Rattle.subsumption.specs.Graphs.{fact_at}
use Rattle.subsumption.specs.Shifts.{is_variable, moved}
use Rattle.subsumption.specs.Facts.{Holds, IsAbout, IsBelow, TermsHold, fact_of, value_of, term_value}
use Rattle.subsumption.specs.ClosedTables.{ClosedTable, Contradiction, entails_fact, entails_terms, with_fact, without, shifted, joined}
use Rattle.subsumption.specs.TableLaws.{IsTable, MeetsTable}
use Rattle.subsumption.proofs.TableSteps.{are_exact, entails_terms_exactly, give_tables, no_facts_met}
use Rattle.bounds_flow.specs.Flows.{with_equal}

-- ---- other numbers

value_same : (v w : ℕ → ℤ) (x : ℕ) (o : Option ℕ) → ((y : ℕ) → y ≢ x → w y ≡ v y) → o ≢ Some x → value_of w o ≡ value_of v o
value_same v w x None same ne = refl
value_same v w x (Some y) same ne = same y (λ e. ne (ap Some e))

pub met_same : (vars : ℕ) (t : ClosedTable) (v w : ℕ → ℤ) → ((y : ℕ) → w y ≡ v y) → MeetsTable vars v t → MeetsTable vars w t
met_same vars t v w same m f about e =
    let a = at f.left in let b = at f.right in let h = m f about e in omega (arith, ints, a, b, h)
  where
    at : (o : Option ℕ) → value_of w o ≡ value_of v o
    at None = refl
    at (Some y) = same y

-- after a variable was assigned a number of which nothing is known
pub met_without : (vars : ℕ) (t : ClosedTable) (x : ℕ) (v w : ℕ → ℤ) → IsTable vars t → x < vars → ((y : ℕ) → y ≢ x → w y ≡ v y) → MeetsTable vars v t → MeetsTable vars w (without vars x t)
met_without vars t x v w is lt same m goal about e =
    ((are_exact vars t is).kill x lt goal about).0 e w (λ f named apart entailed.
    let a = value_same v w x f.left same apart.left in
    let b = value_same v w x f.right same apart.right in
    let h = m f named entailed in omega (arith, ints, a, b, h))

shifted_value : (v w : ℕ → ℤ) (x : ℕ) (c : ℤ) (o : Option ℕ) → w x ≡ v x +ℤ c → ((y : ℕ) → y ≢ x → w y ≡ v y) → value_of w o ≡ value_of v o +ℤ cond (is_variable x o) c (pos 0)
shifted_value v w x c None here same = omega (arith, ints)
shifted_value v w x c (Some y) here same = by (y == x) refl
  where
    by : (b : Bool) → (y == x) ≡ b → w y ≡ v y +ℤ cond b c (pos 0)
    by true e = (let q : y ≡ x = grind (arith, nat_tests) in subst (λ y. w y ≡ v y +ℤ c) (sym q) here)
    by false e = (let h = same y (λ q. absurd (grind (arith, nat_tests))) in omega (arith, ints, h))

-- after c was added to a variable
pub met_shifted : (vars : ℕ) (t : ClosedTable) (x : ℕ) (c : ℤ) (v w : ℕ → ℤ) → IsTable vars t → x < vars → w x ≡ v x +ℤ c → ((y : ℕ) → y ≢ x → w y ≡ v y)
    → MeetsTable vars v t → MeetsTable vars w (shifted vars x c t)
met_shifted vars t x c v w is lt here same m goal about e = elim ((are_exact vars t is).shift x c lt) [
  | inl none ↦ no_facts_met vars w goal about (subst (λ t. entails_fact goal t ≡ true) none.1 e)
  | inr says ↦ (
      let f = moved x c goal in
      let h = m f (record { left = about.left; right = about.right }) ((says.1 goal about).0 e) in
      let a = shifted_value v w x c goal.left here same in
      let b = shifted_value v w x c goal.right here same in omega (arith, ints, a, b, h))
]

-- with a fact that holds
pub met_with : (vars : ℕ) (t : ClosedTable) (f : Fact) (v : ℕ → ℤ) → IsTable vars t → IsAbout vars f → Holds v f → MeetsTable vars v t → MeetsTable vars v (with_fact vars f t)
met_with vars t f v is named holds m goal about e = elim ((are_exact vars t is).add f named) [
  | inl none ↦ no_facts_met vars v goal about (subst (λ t. entails_fact goal t ≡ true) none.1 e)
  | inr says ↦ (says.1 goal about).0 e v m holds
]

-- ---- terms

holds_of : (v : ℕ → ℤ) (a b : Term) → TermsHold v a b → Holds v (fact_of a b)
holds_of v a b h = omega (arith, ints, h)

pub met_order : (vars : ℕ) (t : ClosedTable) (a b : Term) (v : ℕ → ℤ) → IsTable vars t → IsBelow vars a.var → IsBelow vars b.var → TermsHold v a b → MeetsTable vars v t
    → MeetsTable vars v (with_fact vars (fact_of a b) t)
met_order vars t a b v is l r h m = met_with vars t (fact_of a b) v is (record { left = l; right = r }) (holds_of v a b h) m

pub met_equal : (vars : ℕ) (t : ClosedTable) (a b : Term) (v : ℕ → ℤ) → IsTable vars t → IsBelow vars a.var → IsBelow vars b.var → term_value v a ≡ term_value v b → MeetsTable vars v t
    → MeetsTable vars v (with_equal vars a b t)
met_equal vars t a b v is l r e m =
    met_order vars (with_fact vars (fact_of a b) t) b a v ((give_tables vars).add t (fact_of a b) is (record { left = l; right = r })) r l (omega (arith, ints, e))
    (met_order vars t a b v is l r (omega (arith, ints, e)) m)

-- what is entailed holds
pub met_entails : (vars : ℕ) (t : ClosedTable) (a b : Term) (v : ℕ → ℤ) → IsTable vars t → IsBelow vars a.var → IsBelow vars b.var → entails_terms a b t ≡ true → MeetsTable vars v t → TermsHold v a b
met_entails vars t a b v is l r e m = (entails_terms_exactly vars t a b is l r).0 e v m

-- ---- ways

pub met_first : (vars : ℕ) (t u : ClosedTable) (v : ℕ → ℤ) → IsTable vars t → IsTable vars u → MeetsTable vars v t → MeetsTable vars v (joined vars t u)
met_first vars t u v is other m goal about e = m goal about (((are_exact vars t is).join u other goal about).0 e).0

pub met_second : (vars : ℕ) (t u : ClosedTable) (v : ℕ → ℤ) → IsTable vars t → IsTable vars u → MeetsTable vars v u → MeetsTable vars v (joined vars t u)
met_second vars t u v is other m goal about e = m goal about (((are_exact vars t is).join u other goal about).0 e).1

-- nothing meets a contradiction
pub unmet : (vars : ℕ) (v : ℕ → ℤ) → MeetsTable vars v Contradiction → ⊥
unmet vars v m = let h = m (fact_at None None (negsuc 0)) (record { left = tt; right = tt }) refl in omega (arith, ints, h)
