-- What the checker knows at a point of a function, and what each step makes of it.
use Rattle.std.specs.Prelude.{ℕ, ◌≡◌, ◌+ℤ◌, ℤ, pos, Bool, true, false, ◌&&◌, cond, Option, None, Some, is_none}
use Rattle.std.specs.Prelude.{List, [], ◌∷◌, map, fold, replicate, slice_index_or, slice_set}
use Rattle.bounds_exprs.specs.declared.term.Term.{Term}
use Rattle.bounds_exprs.specs.declared.term.Bounds.{Bounds}
use Rattle.bounds_exprs.specs.Terms.{is_var}
use Rattle.subsumption.specs.Facts.{fact_of}
use Rattle.subsumption.specs.ClosedTables.{ClosedTable, Contradiction, no_facts, with_fact, without, shifted, joined, entails_terms}
use Rattle.bounds_flow.specs.declared.held.Held.{Held}
use Rattle.bounds_flow.specs.declared.held.Mark.TheVariants.{Changed}
use Rattle.bounds_flow.specs.declared.steps.Source.{Source}
use Rattle.bounds_flow.specs.declared.steps.How.{How}
use Rattle.bounds_flow.specs.declared.steps.How.TheVariants.{Lt, Le, Gt, Ge, Eq, Ne}
use Rattle.bounds_flow.specs.declared.steps.Test.{Test}
use Rattle.bounds_flow.specs.declared.steps.Test.TheVariants.{NotNull, Compare}
use Rattle.bounds_flow.specs.Pointers.{no_pointer, fresh, with_declared, maybe_null, known_not_null, after_shift, after_number, after_base, assigned_from}
use Rattle.bounds_flow.specs.Pointers.{joined_over, joined_with, after_leaving, settled_pointer, is_own, one_further, with_bounds}

-- the number of variables, the facts, what is known of each variable as a pointer, which int variables were assigned since the last settling,
-- and whether it stands in a bundle, at whose end alone it is settled
pub record Knowledge : Type 0 where
  pub vars : ℕ
  pub facts : ClosedTable
  pub held : List Held
  pub assigned : List Bool
  pub bundled : Bool

-- what is known of a variable
abbrev pub held_at : List Held → ℕ → Held
held_at held x = slice_index_or held x no_pointer

-- the same of all but one, which is changed
abbrev pub change_at : ℕ → (Held → Held) → List Held → List Held
change_at x change held = slice_set held x (change (held_at held x))

-- ---- entry and scopes

-- where nothing is in scope yet
abbrev pub at_entry : ℕ → Knowledge
at_entry vars =
    record { vars = vars; facts = no_facts vars; held = replicate vars no_pointer; assigned = replicate vars false; bundled = false }

-- the variable comes into scope
abbrev pub entered : ℕ → Option Bounds → Knowledge → Knowledge
entered x declared f = record f { held = slice_set f.held x (fresh declared) }

-- the variable leaves its scope
abbrev pub left : ℕ → Knowledge → Knowledge
left x f = record f {
  facts = without f.vars x f.facts;
  held = slice_set (map (after_leaving x) f.held) x no_pointer;
  assigned = slice_set f.assigned x false;
}

-- ---- assignments

-- the term of a constant
abbrev pub number : ℕ → Term
number k = record { var = None; plus = pos k }

-- the term of a variable
abbrev pub variable : ℕ → Term
variable x = record { var = Some x; plus = pos 0 }

-- the facts, and that the terms are equal
abbrev pub with_equal : ℕ → Term → Term → ClosedTable → ClosedTable
with_equal vars a b t = with_fact vars (fact_of b a) (with_fact vars (fact_of a b) t)

-- the facts once x was assigned a term, or something that has none
abbrev pub number_facts : ℕ → ℕ → Option Term → ClosedTable → ClosedTable
number_facts vars x None t = without vars x t
number_facts vars x (Some e) t = cond (is_var x e.var) (shifted vars x e.plus t) (with_equal vars (variable x) e (without vars x t))

-- the pointers then, with the variables that were assigned by now
abbrev pub number_held : ℕ → Option Term → List Bool → List Held → List Held
number_held x None assigned held = map (after_number x assigned) held
number_held x (Some e) assigned held = cond (is_var x e.var) (map (after_shift x e.plus) held) (map (after_number x assigned) held)

-- an int variable was assigned
abbrev pub number_assigned : ℕ → Option Term → Knowledge → Knowledge
number_assigned x to f =
    let assigned = slice_set f.assigned x true in
    record f { facts = number_facts f.vars x to f.facts; held = number_held x to assigned f.held; assigned = assigned }

-- a pointer was assigned; `moved` is the constant where it was assigned itself plus one
abbrev pub pointer_assigned : ℕ → Source → Option ℤ → Bool → Knowledge → Knowledge
pointer_assigned p from moved not_null f =
    record f { held = slice_set (map (after_base p moved) f.held) p (assigned_from p from moved not_null (held_at f.held p)) }

-- ---- tests

-- what holds where the comparison doesn't
abbrev pub opposite : How → How
opposite Lt = Ge
opposite Le = Gt
opposite Gt = Le
opposite Ge = Lt
opposite Eq = Ne
opposite Ne = Eq

-- one more than a term
abbrev pub next : Term → Term
next t = record t { plus = t.plus +ℤ pos 1 }

-- the facts, and that the comparison holds; that two terms differ is no fact
abbrev pub with_comparison : ℕ → How → Term → Term → ClosedTable → ClosedTable
with_comparison vars Lt a b t = with_fact vars (fact_of (next a) b) t
with_comparison vars Le a b t = with_fact vars (fact_of a b) t
with_comparison vars Gt a b t = with_fact vars (fact_of (next b) a) t
with_comparison vars Ge a b t = with_fact vars (fact_of b a) t
with_comparison vars Eq a b t = with_equal vars a b t
with_comparison vars Ne a b t = t

-- the test came out so
abbrev pub assumed : Test → Bool → Knowledge → Knowledge
assumed (NotNull p) true f = record f { held = change_at p known_not_null f.held }
assumed (NotNull p) false f = f
assumed (Compare how left right) truth f = record f { facts = with_comparison f.vars (cond truth how (opposite how)) left right f.facts }

-- ---- null-terminated pointers

-- the facts entail that the terms are equal
abbrev pub are_equal : Term → Term → ClosedTable → Bool
are_equal a b t = entails_terms a b t && entails_terms b a t

-- what the bounds in force become where the element at the index isn't zero: those that count from the pointer itself, and end at the index, end
-- one element further
abbrev pub wider : Term → ClosedTable → Option Bounds → Option Bounds
wider index t None = None
wider index t (Some b) = cond (is_none b.base && are_equal index b.hi t) (one_further b) None

-- the element at the index isn't zero
abbrev pub widened : ℕ → Term → Knowledge → Knowledge
widened p index f = record f { held = change_at p (with_bounds (wider index f.facts (held_at f.held p).bounds)) f.held }

-- 0 to the variable
abbrev pub count_to : ℕ → Bounds
count_to x = record { base = None; lo = number 0; hi = variable x }

-- a pointer behind the assignment of its length: bounds that this took are 0 to the length, and others end there that end no further on
abbrev pub measured : ℕ → ClosedTable → Option Bounds → Held → Held
measured x t None h = record h { bounds = Some (count_to x); mark = Changed }
measured x t (Some b) h = cond (entails_terms b.hi (variable x) t) (record h { bounds = Some (record b { hi = variable x }) }) h

-- x is the length of what a pointer leads to whose bounds count from itself: it isn't below 0
abbrev pub measured_by : (x p : ℕ) → Knowledge → Knowledge
measured_by x p f =
    let facts = with_fact f.vars (fact_of (number 0) (variable x)) f.facts in
    record f { facts = facts; held = change_at p (λ h. measured x facts h.bounds h) f.held }

-- x was assigned the length of what a null-terminated pointer leads to
abbrev pub length_assigned : (x p : ℕ) → Knowledge → Knowledge
length_assigned x p f = cond (is_own (held_at f.held p).bounds) (measured_by x p (number_assigned x None f)) (number_assigned x None f)

-- ---- ways that part and meet

-- the head of a loop that assigns these variables
abbrev pub at_head : List ℕ → Knowledge → Knowledge
at_head changed f = record f {
  facts = fold (λ t x. without f.vars x t) f.facts changed;
  held = fold (λ held p. change_at p maybe_null held) (map with_declared f.held) changed;
}

-- no way leads on: every fact is entailed
abbrev pub cut_off : Knowledge → Knowledge
cut_off f = record f { facts = Contradiction }

-- each pointer with that of the second way
abbrev pub joined_held : List Held → List Held → List Held
joined_held [] others = []
joined_held (h ∷ held) [] = h ∷ held
joined_held (h ∷ held) (k ∷ others) = joined_with h k ∷ joined_held held others

-- two ways meet
abbrev pub met : Knowledge → Knowledge → Knowledge
met f g = record f { facts = joined f.vars f.facts g.facts; held = joined_held f.held g.held }

-- each pointer with that of the second way; where their bounds differ, it has those from before both
abbrev pub rejoined_held : (before held others : List Held) → List Held
rejoined_held [] held others = []
rejoined_held (b ∷ before) [] others = []
rejoined_held (b ∷ before) (h ∷ held) [] = h ∷ held
rejoined_held (b ∷ before) (h ∷ held) (k ∷ others) = joined_over b.bounds h k ∷ rejoined_held before held others

-- two ways through one expression meet, before which so much was known. In a bundle declared bounds needn't hold, so what the ways differ in is
-- there as it was before the expression
abbrev pub rejoined : (before f g : Knowledge) → Knowledge
rejoined before f g =
    cond before.bundled (record f { facts = joined f.vars f.facts g.facts; held = rejoined_held before.held f.held g.held }) (met f g)

-- ---- bundles

-- where a bundle begins
abbrev pub in_bundle : Knowledge → Knowledge
in_bundle f = record f { bundled = true }

-- after a settling that all pointers meet, which ends a bundle
abbrev pub settled : Knowledge → Knowledge
settled f = record f { held = map settled_pointer f.held; assigned = map (λ was. false) f.assigned; bundled = false }

-- ---- steps that find no memory

-- the pointers, and what was assigned, are as before
pub record KeepsPointers (before after : Knowledge) : Type 0 where
  pub vars : after.vars ≡ before.vars
  pub held : after.held ≡ before.held
  pub assigned : after.assigned ≡ before.assigned
  pub bundled : after.bundled ≡ before.bundled
