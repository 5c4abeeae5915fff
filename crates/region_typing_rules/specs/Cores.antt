-- What a program that breaks no rule becomes, and what checking answers.
use Rattle.std.specs.Prelude.{◌≡◌, ℕ, false, ◌==◌, List, [], ◌∷◌, ◌++◌, length, map, nat_le, ◌+◌, Result, Ok, Err}
use Rattle.ckc_text.specs.declared.place.Span.{Span}
use Rattle.ckc_text.specs.declared.code.Code.TheVariants.{E08}
use Rattle.ckc_text.specs.declared.fault.Refused.{Refused}
use Rattle.ckc_text.specs.declared.fault.Refused.TheVariants.{Source, NoMemory}
use Rattle.ckc_names_rules.specs.Given.{main, number_in}
use Rattle.ckc_names_rules.specs.Naming.{NamedTree}
use Rattle.ckc_core.specs.Programs.{Import, Definition, Trusted, Tainted}
use Rattle.ckc_core.specs.Core as core
use Rattle.ckc_core.specs.Core.{Core}
use Rattle.region_typing_rules.specs.Verdicts.{Verdict, Passes, Breaks, passing, needs, picked}
use Rattle.region_typing_rules.specs.Scopes.{Signature}
use Rattle.region_typing_rules.specs.Operands.{Places}
use Rattle.region_typing_rules.specs.Calls.{is_import, side_number}
use Rattle.region_typing_rules.specs.Items.{Defined, Walk, walked}
use Rattle.region_typing_rules.specs.Strings.{texts_size, text_object}

-- a function without a body; in a program that breaks no rule there is none (body-unless-tainted)
abbrev pub without_body : Signature → core.Function
without_body f = record { name = f.text; parameters = length f.parameters; locals = f.parameters; result = f.result; body = core.NoMore }

-- the body of a function among others
abbrev pub body_of : List Defined → Signature → core.Function
body_of [] f = without_body f
body_of (b ∷ bodies) f = picked (f.name == b.name) b.function (body_of bodies f)

-- a tainted function
abbrev pub import_of : Signature → Import
import_of f = record { name = f.text; parameters = length f.parameters; result = f.result }

-- a function on its side
abbrev pub definition_of : List Defined → Signature → Definition core.Statements
definition_of bodies f = picked (is_import f) (Tainted (import_of f)) (Trusted (body_of bodies f))

-- the functions in the order in which their names are first declared
abbrev pub definitions_of : List Defined → List Signature → List (Definition core.Statements)
definitions_of bodies [] = []
definitions_of bodies (f ∷ functions) = definition_of bodies f ∷ definitions_of bodies functions

-- the core of what was walked, where this is the name of `main`: it is there where naming finds no fault
abbrev pub core_of : ℕ → Walk → Core
core_of entry w =
    record {
      objects = w.objects ++ map text_object w.scope.strings.texts;
      definitions = definitions_of w.bodies w.scope.functions;
      main = side_number false w.scope.functions entry 0;
    }

-- few-static-bytes of the whole program, each of whose variables and strings has been asked where it stands (E08, at the program)
abbrev pub small_core : ℕ → Span → Walk → Verdict Core
small_core entry span w = needs (nat_le (w.taken + texts_size w.scope.strings.texts) 32768) E08 span (Passes (core_of entry w))

-- the core of a named program, or the first rule that it breaks
abbrev pub checked : Places → NamedTree → Verdict Core
checked at n = passing (walked at n) (small_core (number_in n.names main) n.tree.span)

-- what checking answers: the core exactly where no rule is broken, and else the fault of the first one that is
abbrev pub CheckAnswers : {C : Type 0} → (C → Core) → Places → NamedTree → Result C Refused → Type 0
CheckAnswers view at n (Ok c) = checked at n ≡ Passes (view c)
CheckAnswers view at n (Err (Source fault)) = checked at n ≡ Breaks fault
CheckAnswers view at n (Err NoMemory) = Unit {0}
