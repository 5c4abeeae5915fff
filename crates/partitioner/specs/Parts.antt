-- Which side each function and each file-level variable stands on.
use Rattle.std.specs.Prelude.{◌≡◌, ℕ, suc, ◌+◌, ◌<◌, ◌==◌, Bool, true, false, not, List, [], ◌∷◌, length, Option, Some, None, slice_get}
use Rattle.ckc_core.specs.Programs.{Definition, Trusted, Tainted, trusted_of, tainted_of}
use Rattle.ckc_core.specs.Core.{Core, Statements}
use Rattle.partitioner.specs.declared.parts as code

-- the numbers of functions and of file-level variables on each side, and those of the functions that the sandbox may call, all in
-- the order of the source
pub record Parts : Type 0 where
  pub trusted : List ℕ
  pub sandbox : List ℕ
  pub trusted_objects : List ℕ
  pub sandbox_objects : List ℕ
  pub callbacks : List ℕ

-- the parts that a value of the code's type stands for
abbrev pub parts : code.Parts.Parts → Parts
parts p = record {
  trusted = p.trusted.items;
  sandbox = p.sandbox.items;
  trusted_objects = p.trusted_objects.items;
  sandbox_objects = p.sandbox_objects.items;
  callbacks = p.callbacks.items;
}

-- the number, where it is wanted, before others
abbrev pub taken : Bool → ℕ → List ℕ → List ℕ
taken true number others = number ∷ others
taken false number others = others

abbrev pub is_trusted : Definition Statements → Bool
is_trusted (Trusted function) = true
is_trusted (Tainted import) = false

-- the numbers of functions on one side, where the first has this number
abbrev pub numbers_from : ℕ → Bool → List (Definition Statements) → List ℕ
numbers_from number side [] = []
numbers_from number true (d ∷ others) = taken (is_trusted d) number (numbers_from (suc number) true others)
numbers_from number false (d ∷ others) = taken (not (is_trusted d)) number (numbers_from (suc number) false others)

-- as many numbers from one on
abbrev pub counted_from : {X : Type 0} → ℕ → List X → List ℕ
counted_from number [] = []
counted_from number (x ∷ xs) = number ∷ counted_from (suc number) xs

-- tainted functions stand in the sandbox, all others and each variable on the trusted side; there are no callbacks
abbrev pub parts_of : Core → Parts
parts_of c = record {
  trusted = numbers_from 0 true c.definitions;
  sandbox = numbers_from 0 false c.definitions;
  trusted_objects = counted_from 0 c.objects;
  sandbox_objects = [];
  callbacks = [];
}

-- ---- what parts name

-- what is named, if it is there, before others
abbrev pub name_before : {X : Type 0} → Option X → List X → List X
name_before None xs = xs
name_before (Some x) xs = x ∷ xs

-- those of a list that these numbers name, in the order of the numbers
abbrev pub named : {X : Type 0} → List X → List ℕ → List X
named xs [] = []
named xs (number ∷ numbers) = name_before (slice_get xs number) (named xs numbers)

abbrev one_if : Bool → ℕ → ℕ
one_if true n = suc n
one_if false n = n

-- how many times a number stands in a list
abbrev pub times : ℕ → List ℕ → ℕ
times k [] = 0
times k (number ∷ numbers) = one_if (k == number) (times k numbers)

-- each of so many numbers stands in exactly one of the lists, and once
abbrev pub AreApart : ℕ → List ℕ → List ℕ → Type 0
AreApart count first second = (k : ℕ) → k < count → times k first + times k second ≡ 1

-- Each function and each file-level variable stands on exactly one side. What stands on the trusted side are all the trusted functions
-- in their order, and what stands on the other one are all the tainted ones.
pub record IsPartition (c : Core) (p : Parts) : Type 0 where
  pub functions : AreApart (length c.definitions) p.trusted p.sandbox
  pub objects : AreApart (length c.objects) p.trusted_objects p.sandbox_objects
  pub trusted : trusted_of (named c.definitions p.trusted) ≡ trusted_of c.definitions
  pub no_tainted : tainted_of (named c.definitions p.trusted) ≡ []
  pub sandbox : tainted_of (named c.definitions p.sandbox) ≡ tainted_of c.definitions
  pub no_trusted : trusted_of (named c.definitions p.sandbox) ≡ []
  pub all_objects : named c.objects p.trusted_objects ≡ c.objects
  pub no_objects : named c.objects p.sandbox_objects ≡ []
