-- What closed tables say, over all valuations.
use Rattle.std.specs.Prelude.{ℕ, ◌+◌, ◌<◌, ◌≡◌, ◌↔◌, ◌⊎◌, ℤ, pos, ◌+ℤ◌, true, Some}
use Rattle.bounds_exprs.specs.declared.term.Term.{Term}
use Rattle.subsumption.specs.declared.fact.Fact.{Fact}
use Rattle.subsumption.specs.Shifts.{moved}
use Rattle.subsumption.specs.Facts.{Holds, IsAbout, IsBelow, IsWide, TermsHold}
use Rattle.subsumption.specs.Tables.{IsWithout}
use Rattle.subsumption.specs.ClosedTables.{AtMost, Pairs, Rows, rows_of, entry, are_near, ClosedTable, Contradiction, Least, no_facts, entails_fact}
use Rattle.subsumption.specs.ClosedTables.{entails_terms, with_fact, without, shifted, joined}

-- ---- closed tables

-- what follows from two constants is known
pub record IsClosed (n : ℕ) (t : Pairs) : Type 0 where
  pub diagonal : (i : ℕ) → i < n → t i i ≡ Some (pos 0)
  pub triangle : (i j k : ℕ) (c e : ℤ) → i < n → j < n → k < n → AtMost (t i j) c → AtMost (t j k) e → AtMost (t i k) (c +ℤ e)

-- rows of n nodes whose constants are closed and lie within -2^100 to 2^100
pub record AreClosed (n : ℕ) (rows : Rows) : Type 0 where
  pub shape : rows_of n (entry rows) ≡ rows
  pub closed : IsClosed n (entry rows)
  pub near : are_near rows ≡ true

-- a table of so many variables
abbrev pub IsTable : ℕ → ClosedTable → Type 0
IsTable vars Contradiction = Unit {0}
IsTable vars (Least rows) = AreClosed (vars + 1) rows

-- no facts are a table, and each change of tables gives one
pub record GiveTables (vars : ℕ) : Type 0 where
  pub none : IsTable vars (no_facts vars)
  pub add : (t : ClosedTable) (f : Fact) → IsTable vars t → IsAbout vars f → IsTable vars (with_fact vars f t)
  pub kill : (t : ClosedTable) (x : ℕ) → IsTable vars t → IsTable vars (without vars x t)
  pub shift : (t : ClosedTable) (x : ℕ) (c : ℤ) → IsTable vars t → IsTable vars (shifted vars x c t)
  pub join : (t u : ClosedTable) → IsTable vars t → IsTable vars u → IsTable vars (joined vars t u)

-- ---- what they entail

-- the valuation meets the facts of the table: all facts about its variables that it entails
abbrev pub MeetsTable : ℕ → (ℕ → ℤ) → ClosedTable → Type 0
MeetsTable vars v t = (f : Fact) → IsAbout vars f → entails_fact f t ≡ true → Holds v f

-- a table entails exactly what each valuation that meets its facts meets
abbrev pub EntailsExactly : Type 0
EntailsExactly = (vars : ℕ) (t : ClosedTable) (goal : Fact) → IsTable vars t → IsAbout vars goal
    → (entails_fact goal t ≡ true) ↔ ((v : ℕ → ℤ) → MeetsTable vars v t → Holds v goal)

-- the same of terms
abbrev pub EntailsTermsExactly : Type 0
EntailsTermsExactly = (vars : ℕ) (t : ClosedTable) (a b : Term) → IsTable vars t → IsBelow vars a.var → IsBelow vars b.var
    → (entails_terms a b t ≡ true) ↔ ((v : ℕ → ℤ) → MeetsTable vars v t → TermsHold v a b)

-- each valuation meets a table without facts
abbrev pub NoFactsAreMet : Type 0
NoFactsAreMet = (vars : ℕ) (v : ℕ → ℤ) → MeetsTable vars v (no_facts vars)

-- ---- changes

-- the table entails exactly this
abbrev pub SaysExactly : ℕ → (Fact → Type 0) → ClosedTable → Type 0
SaysExactly vars entailed t = (goal : Fact) → IsAbout vars goal → (entails_fact goal t ≡ true) ↔ entailed goal

-- after a step that leaves so much entailed: where a least constant lies outside -2^100 to 2^100, and the facts can be met,
-- there are no facts; else the table entails exactly that
abbrev pub IsLeft : ℕ → (Fact → Type 0) → ClosedTable → Type 0
IsLeft vars entailed t = (IsWide vars entailed × (t ≡ no_facts vars)) ⊎ ((IsWide vars entailed → ⊥) × SaysExactly vars entailed t)

-- it follows from the facts of the table and one more
abbrev pub FollowsWith : ℕ → Fact → ClosedTable → Fact → Type 0
FollowsWith vars f t goal = (v : ℕ → ℤ) → MeetsTable vars v t → Holds v f → Holds v goal

-- it follows from the facts of the table that don't name x
abbrev pub FollowsWithoutNamed : ℕ → ℕ → ClosedTable → Fact → Type 0
FollowsWithoutNamed vars x t goal = (v : ℕ → ℤ)
    → ((f : Fact) → IsAbout vars f → IsWithout x f → entails_fact f t ≡ true → Holds v f) → Holds v goal

-- What is entailed after each change of a table. What is kept without a variable, or on two ways, is never lost: its constants
-- are those of the tables, or larger ones of two.
pub record ChangesExactly (vars : ℕ) (t : ClosedTable) : Type 0 where
  pub add : (f : Fact) → IsAbout vars f → IsLeft vars (FollowsWith vars f t) (with_fact vars f t)
  pub kill : (x : ℕ) → x < vars → SaysExactly vars (FollowsWithoutNamed vars x t) (without vars x t)
  pub shift : (x : ℕ) (c : ℤ) → x < vars → IsLeft vars (λ goal. entails_fact (moved x c goal) t ≡ true) (shifted vars x c t)
  pub join : (u : ClosedTable) → IsTable vars u
      → SaysExactly vars (λ goal. (entails_fact goal t ≡ true) × (entails_fact goal u ≡ true)) (joined vars t u)

abbrev pub AreExact : Type 0
AreExact = (vars : ℕ) (t : ClosedTable) → IsTable vars t → ChangesExactly vars t

-- tables that entail the same are the same
abbrev pub HaveOneForm : Type 0
HaveOneForm = (vars : ℕ) (t u : ClosedTable) → IsTable vars t → IsTable vars u
    → ((goal : Fact) → IsAbout vars goal → entails_fact goal t ≡ entails_fact goal u) → t ≡ u
