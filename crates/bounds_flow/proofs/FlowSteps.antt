-- Each step from a flow gives a flow.
use Rattle.std.specs.Prelude.{◌&&◌, ◌+ℤ◌, is_none, pos}
use Rattle.std.proofs.Common.{ℕ, ◌<◌, ◌≤◌, ◌≡◌, Bool, true, false, cond, Option, None, Some, List, [], ◌∷◌, fold, set, subst}
use Rattle.std.proofs.lemmas.List.{length-map, length-replicate, length-set}
use Rattle.std.proofs.lemmas.List.Elements.{All-replicate}
use Rattle.bounds_exprs.specs.declared.term.Term.{Term}
use Rattle.bounds_exprs.specs.declared.term.Bounds.{Bounds}
use Rattle.bounds_exprs.specs.Terms.{is_var, is_within, term_limit}
use Rattle.subsumption.specs.Facts.{IsBelow, fact_of}
use Rattle.subsumption.specs.ClosedTables.{ClosedTable, entails_terms, joined, with_fact, without}
use Rattle.subsumption.specs.TableLaws.{IsTable}
use Rattle.subsumption.proofs.TableSteps.{entails_terms_exactly, give_tables}
use Rattle.bounds_flow.specs.declared.held.Held.{Held}
use Rattle.bounds_flow.specs.declared.changes.Change.TheVariants.{Shift, Number, Base, Leave, Head, Settle}
use Rattle.bounds_flow.specs.declared.steps.How.{How}
use Rattle.bounds_flow.specs.declared.steps.How.TheVariants.{Lt, Le, Gt, Ge, Eq, Ne}
use Rattle.bounds_flow.specs.declared.steps.Test.{Test}
use Rattle.bounds_flow.specs.declared.steps.Test.TheVariants.{NotNull, Compare}
use Rattle.bounds_flow.specs.Pointers.{is_own, no_pointer, one_further, up_to, with_bounds}
use Rattle.bounds_flow.specs.Flows.{Knowledge, are_equal, at_entry, measured, measured_by, number, number_assigned, number_facts, number_held, assumed, opposite, with_comparison, with_equal, variable, held_at, wider}
use Rattle.bounds_flow.specs.Conditions.{AreBoundsBelow, AreOfVariables, IsFlow, IsHeldBelow, IsTermBelow, IsTestWithin}
use Rattle.bounds_flow.specs.Laws.{AreKept, FlowsEntailExactly, GivesFlows}
use Rattle.bounds_flow.proofs.Pointers.{assigned_below, fresh_below}
use Rattle.bounds_flow.proofs.Variables.{forgotten, held_below, known, mapped, met_of, none_below, placed, rejoined_of, renumbered}

-- ---- facts

fact_table : (vars : ℕ) (a b : Term) (t : ClosedTable) → IsBelow vars a.var → IsBelow vars b.var → IsTable vars t → IsTable vars (with_fact vars (fact_of a b) t)
fact_table vars a b t l r is = (give_tables vars).add t (fact_of a b) is (record { left = l; right = r })

equal_table : (vars : ℕ) (a b : Term) (t : ClosedTable) → IsBelow vars a.var → IsBelow vars b.var → IsTable vars t → IsTable vars (with_equal vars a b t)
equal_table vars a b t l r is = fact_table vars b a _ r l (fact_table vars a b t l r is)

comparison_table : (vars : ℕ) (how : How) (a b : Term) (t : ClosedTable) → IsBelow vars a.var → IsBelow vars b.var → IsTable vars t → IsTable vars (with_comparison vars how a b t)
comparison_table vars Lt a b t l r is = fact_table vars _ b t l r is
comparison_table vars Le a b t l r is = fact_table vars a b t l r is
comparison_table vars Gt a b t l r is = fact_table vars _ a t r l is
comparison_table vars Ge a b t l r is = fact_table vars b a t r l is
comparison_table vars Eq a b t l r is = equal_table vars a b t l r is
comparison_table vars Ne a b t l r is = is

either_table : (vars : ℕ) (b : Bool) (t u : ClosedTable) → IsTable vars t → IsTable vars u → IsTable vars (cond b t u)
either_table vars true t u i j = i
either_table vars false t u i j = j

number_table : (vars x : ℕ) (to : Option Term) (t : ClosedTable) → x < vars → IsTermBelow vars to → IsTable vars t → IsTable vars (number_facts vars x to t)
number_table vars x None t lt below is = (give_tables vars).kill t x is
number_table vars x (Some e) t lt below is =
    either_table vars (is_var x e.var) _ _ ((give_tables vars).shift t x e.plus is) (equal_table vars (variable x) e _ lt below ((give_tables vars).kill t x is))

killed_table : (vars : ℕ) (t : ClosedTable) (xs : List ℕ) → IsTable vars t → IsTable vars (fold (λ t x. without vars x t) t xs)
killed_table vars t [] is = is
killed_table vars t (x ∷ xs) is = killed_table vars (without vars x t) xs ((give_tables vars).kill t x is)

-- ---- pointers

either_held : (vars : ℕ) (b : Bool) (held others : List Held) (assigned : List Bool) → AreOfVariables vars held assigned → AreOfVariables vars others assigned
    → AreOfVariables vars (cond b held others) assigned
either_held vars true held others assigned i j = i
either_held vars false held others assigned i j = j

number_pointers : (vars x : ℕ) (to : Option Term) (held : List Held) (assigned since : List Bool) → AreOfVariables vars held assigned → AreOfVariables vars (number_held x to since held) assigned
number_pointers vars x None held assigned since is = mapped vars held assigned since (Number x) is
number_pointers vars x (Some e) held assigned since is =
    either_held vars (is_var x e.var) _ _ assigned (mapped vars held assigned since (Shift x e.plus) is) (mapped vars held assigned since (Number x) is)

-- ---- steps

entry_is : (vars : ℕ) → vars ≤ 4096 → IsFlow (at_entry vars)
entry_is vars few = record {
  few = few;
  facts = (give_tables vars).none;
  variables = record { pointers = length-replicate vars no_pointer; numbers = length-replicate vars false; below = All-replicate (IsHeldBelow vars) vars no_pointer (none_below vars) };
}

assumed_is : (f : Knowledge) (test : Test) (truth : Bool) → IsFlow f → IsTestWithin f.vars test → IsFlow (assumed test truth f)
assumed_is f (NotNull p) true is within = record { few = is.few; facts = is.facts; variables = known f.vars f.held f.assigned p is.variables }
assumed_is f (NotNull p) false is within = is
assumed_is f (Compare how a b) truth is within = record {
  few = is.few;
  facts = comparison_table f.vars (cond truth how (opposite how)) a b f.facts within.0.var within.1.var is.facts;
  variables = is.variables;
}

-- ---- null-terminated pointers

pub wider_below : (vars : ℕ) (index : Term) (t : ClosedTable) (o : Option Bounds) → AreBoundsBelow vars o → AreBoundsBelow vars (wider index t o)
wider_below vars index t None below = tt
wider_below vars index t (Some b) below = either (is_none b.base && are_equal index b.hi t) (limited (is_within term_limit (b.hi.plus +ℤ pos 1)))
  where
    limited : (test : Bool) → AreBoundsBelow vars (up_to b (cond test (Some (record { var = b.hi.var; plus = b.hi.plus +ℤ pos 1 })) None))
    limited true = record { lo = below.lo; hi = below.hi }
    limited false = tt

    either : (test : Bool) → AreBoundsBelow vars (one_further b) → AreBoundsBelow vars (cond test (one_further b) None)
    either true h = h
    either false h = tt

pub bounded_below : (vars : ℕ) (o : Option Bounds) (h : Held) → AreBoundsBelow vars o → IsHeldBelow vars h → IsHeldBelow vars (with_bounds o h)
bounded_below vars None h below is = is
bounded_below vars (Some b) h below is = record { declared = is.declared; bounds = below }

pub measured_below : (vars x : ℕ) (t : ClosedTable) (o : Option Bounds) (h : Held) → x < vars → AreBoundsBelow vars o → IsHeldBelow vars h → IsHeldBelow vars (measured x t o h)
measured_below vars x t None h lt below is = record { declared = is.declared; bounds = record { lo = tt; hi = lt } }
measured_below vars x t (Some b) h lt below is = by (entails_terms b.hi (variable x) t)
  where
    by : (test : Bool) → IsHeldBelow vars (cond test (record h { bounds = Some (record b { hi = variable x }) }) h)
    by true = record { declared = is.declared; bounds = record { lo = below.lo; hi = lt } }
    by false = is

measured_is : (x p : ℕ) (f : Knowledge) → IsFlow f → x < f.vars → IsFlow (measured_by x p f)
measured_is x p f is lt =
    let facts = with_fact f.vars (fact_of (number 0) (variable x)) f.facts in
    let h = held_below f.vars f.held p is.variables.below in
    record {
      few = is.few;
      facts = fact_table f.vars (number 0) (variable x) f.facts tt lt is.facts;
      variables = placed f.vars f.held f.assigned p _ is.variables (measured_below f.vars x facts (held_at f.held p).bounds (held_at f.held p) lt h.bounds h);
    }

either_is : (test : Bool) (f g : Knowledge) → IsFlow f → IsFlow g → IsFlow (cond test f g)
either_is true f g h k = h
either_is false f g h k = k

assigned_is : (f : Knowledge) (x : ℕ) (to : Option Term) → IsFlow f → x < f.vars → IsTermBelow f.vars to → IsFlow (number_assigned x to f)
assigned_is f x to is lt below = record {
  few = is.few;
  facts = number_table f.vars x to f.facts lt below is.facts;
  variables = renumbered f.vars _ f.assigned (set f.assigned x true) (number_pointers f.vars x to f.held f.assigned (set f.assigned x true) is.variables) (length-set f.assigned x true);
}

joined_is : (f g : Knowledge) (held : List Held) → AreOfVariables f.vars held f.assigned → IsFlow f → IsFlow g → g.vars ≡ f.vars
    → IsFlow (record f { facts = joined f.vars f.facts g.facts; held = held })
joined_is f g held now is other e = record {
  few = is.few;
  facts = (give_tables f.vars).join f.facts g.facts is.facts (subst (λ n. IsTable n g.facts) e other.facts);
  variables = now;
}

gives_flows : (f : Knowledge) → IsFlow f → GivesFlows f
gives_flows f is = record {
  enter = λ x declared below. record { few = is.few; facts = is.facts; variables = placed f.vars f.held f.assigned x _ is.variables (fresh_below f.vars declared below) };
  leave = λ x. record {
    few = is.few;
    facts = (give_tables f.vars).kill f.facts x is.facts;
    variables = renumbered f.vars _ f.assigned (set f.assigned x false) (placed f.vars _ f.assigned x no_pointer (mapped f.vars f.held f.assigned f.assigned (Leave x) is.variables) (none_below f.vars)) (length-set f.assigned x false);
  };
  assign_int = λ x to lt below. assigned_is f x to is lt below;
  assign_pointer = λ p from moved not_null below. record {
    few = is.few;
    facts = is.facts;
    variables = placed f.vars _ f.assigned p _ (mapped f.vars f.held f.assigned f.assigned (Base p moved) is.variables) (assigned_below f.vars p from moved not_null (held_at f.held p) (held_below f.vars f.held p is.variables.below) below);
  };
  assume = λ test truth within. assumed_is f test truth is within;
  widen = λ p index. record {
    few = is.few;
    facts = is.facts;
    variables = placed f.vars f.held f.assigned p _ is.variables
        (let h = held_below f.vars f.held p is.variables.below in bounded_below f.vars _ (held_at f.held p) (wider_below f.vars index f.facts (held_at f.held p).bounds h.bounds) h);
  };
  strlen = λ x p lt. (let after = assigned_is f x None is lt tt in either_is (is_own (held_at f.held p).bounds) _ _ (measured_is x p (number_assigned x None f) after lt) after);
  enter_loop = λ changed. record {
    few = is.few;
    facts = killed_table f.vars f.facts changed is.facts;
    variables = forgotten f.vars _ f.assigned changed (mapped f.vars f.held f.assigned f.assigned Head is.variables);
  };
  cut = record { few = is.few; facts = tt; variables = is.variables };
  join = λ g other e. joined_is f g _ (met_of f.vars f.held g.held f.assigned is.variables) is other e;
  rejoin = λ before g was same other e. either_is before.bundled _ _
      (joined_is f g _ (rejoined_of f.vars before.held f.held g.held before.assigned f.assigned (subst (λ n. AreOfVariables n before.held before.assigned) same was.variables) is.variables) is other e)
      (joined_is f g _ (met_of f.vars f.held g.held f.assigned is.variables) is other e);
  bundle = record { few = is.few; facts = is.facts; variables = is.variables };
  settle = record {
    few = is.few;
    facts = is.facts;
    variables = renumbered f.vars _ f.assigned _ (mapped f.vars f.held f.assigned f.assigned Settle is.variables) (length-map f.assigned (λ was. false));
  };
}

pub are_kept : AreKept
are_kept = record { entry = entry_is; steps = gives_flows }

pub entail_exactly : FlowsEntailExactly
entail_exactly f a b is la lb = entails_terms_exactly f.vars f.facts a b is.facts la lb
