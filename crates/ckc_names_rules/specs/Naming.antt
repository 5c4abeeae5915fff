-- What naming a program answers.
use Rattle.std.specs.Prelude.{◌≡◌, ℕ, Bool, true, false, ◌&&◌, ◌==◌, bytes_eq, List, [], ◌∷◌, ◌++◌, Option, Some, None, Result, Ok, Err, is_some}
use Rattle.std.specs.List.{list_any}
use Rattle.ckc_text.specs.declared.code.Code.TheVariants.{E28}
use Rattle.ckc_text.specs.declared.fault.Refused.{Refused}
use Rattle.ckc_text.specs.declared.fault.Refused.TheVariants.{Source, NoMemory}
use Rattle.ckc_text.specs.declared.fault.SourceFault.{SourceFault}
use Rattle.ckc_text.specs.declared.place.Span.{Span}
use Rattle.ckc_tree.specs.declared.item.FunctionKind.{FunctionKind}
use Rattle.ckc_tree.specs.declared.item.FunctionKind.TheVariants as kinds
use Rattle.ckc_tree.specs.Types.{TypeTree, IntType, CharType, StructType, PointerType}
use Rattle.ckc_tree.specs.Items as i
use Rattle.ckc_tree.specs.Items.{ResultForm, Parameters, Function, Item, Tree}
use Rattle.ckc_tree.specs.Numbers.{numbered}
use Rattle.ckc_names_rules.specs.Given.{main, number_in}
use Rattle.ckc_names_rules.specs.Mentions.{Mention, Open, Close, Reveal, Declare, DeclareFunction, DeclareTag, Use, Call, UseTag, Select, tree_mentions}
use Rattle.ckc_names_rules.specs.Scopes.{Scopes, at_file_level, all_mentioned, is_among}

-- ---- `main`

abbrev pub is_trusted : FunctionKind → Bool
is_trusted kinds.Trusted = true
is_trusted _ = false

abbrev pub is_int_type : TypeTree → Bool
is_int_type (IntType span) = true
is_int_type (CharType span) = false
is_int_type (StructType tag span) = false
is_int_type (PointerType word element stars span) = false

abbrev pub is_int : ResultForm → Bool
is_int (i.Void span) = false
is_int (i.Value base) = is_int_type base

abbrev pub takes_nothing : Parameters → Bool
takes_nothing i.Nothing = true
takes_nothing i.VoidAlone = true
takes_nothing (i.Listed parameters) = false

-- a trusted `int main(void)` with a body
abbrev pub is_main_function : Function → Bool
is_main_function f =
    is_trusted f.kind && (is_int f.result && (f.stars == 0 && (bytes_eq f.name.name main && (takes_nothing f.parameters && is_some f.body))))

abbrev pub is_main : Item → Bool
is_main (i.RegionItem region span) = false
is_main (i.StructureItem structure) = false
is_main (i.GlobalItem global) = false
is_main (i.FunctionItem f) = is_main_function f

abbrev pub has_main : Tree → Bool
has_main t = list_any is_main t.items

-- ---- the names of a program

-- the name that a mention has
abbrev pub name_in : Mention → List (List ℕ)
name_in Open = []
name_in Close = []
name_in (Reveal name) = name.name ∷ []
name_in (Declare name) = name.name ∷ []
name_in (DeclareFunction name defined) = name.name ∷ []
name_in (DeclareTag name) = name.name ∷ []
name_in (Use name) = name.name ∷ []
name_in (Call name) = name.name ∷ []
name_in (UseTag name) = name.name ∷ []
name_in (Select name) = name.name ∷ []

abbrev pub with_new : Bool → List ℕ → List (List ℕ) → List (List ℕ)
with_new true name names = names
with_new false name names = names ++ name ∷ []

abbrev pub with_all : List (List ℕ) → List (List ℕ) → List (List ℕ)
with_all [] names = names
with_all (name ∷ more) names = with_all more (with_new (is_among names name) name names)

-- each name once, where it is seen first
abbrev pub names_seen : List Mention → List (List ℕ) → List (List ℕ)
names_seen [] names = names
names_seen (m ∷ mentions) names = names_seen mentions (with_all (name_in m) names)

-- ---- what naming answers

-- at the start of the source
abbrev pub start : Span
start = record { from = 0; to = 0 }

abbrev main_or_fault : Bool → Option SourceFault
main_or_fault true = None
main_or_fault false = Some (record { code = E28; span = start })

-- goes on where there is a `main`
abbrev pub need_main : Bool → Result (Unit {0}) Refused
need_main true = Ok tt
need_main false = Err (Source (record { code = E28; span = start }))

-- names, where there is a `main`
abbrev pub names_if : Bool → List (List ℕ) → Result (List (List ℕ)) Refused
names_if true names = Ok names
names_if false names = Err (Source (record { code = E28; span = start }))

-- what is wrong with the names of a program: the first name that isn't visible where it stands or stands twice, else that
-- there is no `main`
abbrev pub naming_fault_in : Bool → Result Scopes SourceFault → Option SourceFault
naming_fault_in found (Ok s) = main_or_fault found
naming_fault_in found (Err f) = Some f

abbrev pub naming_fault : Tree → Option SourceFault
naming_fault t = naming_fault_in (has_main t) (all_mentioned (tree_mentions t) at_file_level)

-- a named program: its tree, in which each name has its number, and its names in the order in which they were seen first
pub record NamedTree : Type 0 where
  pub tree : Tree
  pub names : List (List ℕ)

-- the names of a program
abbrev pub names_of : Tree → List (List ℕ)
names_of t = names_seen (tree_mentions t) []

abbrev pub named_of : Tree → NamedTree
named_of t = record { tree = numbered (number_in (names_of t)) t; names = names_of t }

-- what naming answers: the named tree exactly where nothing is wrong with its names, and else the fault
abbrev pub Names : {N : Type 0} → (N → NamedTree) → Tree → Result N Refused → Type 0
Names view t (Ok named) = (naming_fault t ≡ None) × (view named ≡ named_of t)
Names view t (Err (Source f)) = naming_fault t ≡ Some f
Names view t (Err NoMemory) = Unit {0}

-- this is what naming answers for a program with whose names nothing is wrong
pub record IsNamed (n : NamedTree) : Type 0 where
  pub source : Tree
  pub fine : naming_fault source ≡ None
  pub named : n ≡ named_of source
