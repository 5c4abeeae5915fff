-- Worked examples of flows. The variables 0 and 1 are the ints n and x, and 2 and 3 are the pointers p and q.
use Rattle.std.specs.Prelude.{ℕ, ◌^◌, ◌≡◌, ℤ, pos, negsuc, Bool, true, false, Option, None, Some, [], ◌∷◌}
use Rattle.bounds_exprs.specs.declared.term.Term.{Term}
use Rattle.bounds_exprs.specs.declared.term.Bounds.{Bounds}
use Rattle.subsumption.specs.ClosedTables.{ClosedTable, entails_terms, no_facts}
use Rattle.bounds_flow.specs.declared.held.Held.{Held}
use Rattle.bounds_flow.specs.declared.held.Mark.TheVariants as marks
use Rattle.bounds_flow.specs.declared.steps.Source.TheVariants as sources
use Rattle.bounds_flow.specs.declared.steps.How.{How}
use Rattle.bounds_flow.specs.declared.steps.How.TheVariants.{Lt, Ge, Eq, Ne}
use Rattle.bounds_flow.specs.declared.steps.Test.TheVariants.{NotNull, Compare}
use Rattle.bounds_flow.specs.Pointers.{no_pointer}
use Rattle.bounds_flow.specs.Flows.{Knowledge, held_at, at_entry, entered, left, number_assigned, pointer_assigned}
use Rattle.bounds_flow.specs.Flows.{assumed, at_head, cut_off, in_bundle, met, rejoined, settled}
use Rattle.bounds_flow.specs.Flows.{widened, wider, length_assigned}
use Rattle.bounds_flow.specs.Settling.{Finding, Meets, WasLost, Falls, finding}

-- ---- terms, bounds and flows

-- a variable plus a constant
abbrev pub plus : ℕ → ℤ → Term
plus x c = record { var = Some x; plus = c }

-- a constant
abbrev pub number : ℤ → Term
number c = record { var = None; plus = c }

-- bounds between two ends from the pointer itself, or from a base
abbrev pub from_itself : Term → Term → Bounds
from_itself lo hi = record { base = None; lo = lo; hi = hi }

abbrev pub from_base : ℕ → Term → Term → Bounds
from_base q lo hi = record { base = Some q; lo = lo; hi = hi }

-- `count(n)`, and the bounds 0 to x
abbrev pub count_n : Bounds
count_n = from_itself (number (pos 0)) (plus 0 (pos 0))

abbrev pub count_x : Bounds
count_x = from_itself (number (pos 0)) (plus 1 (pos 0))

-- where n and x are in scope, p with its declared bounds, and q without any
abbrev pub start : Bounds → Knowledge
start declared = entered 3 None (entered 2 (Some declared) (entered 1 None (entered 0 None (at_entry 4))))

-- p has the bounds 0 to x in force, and `count(n)` at its declaration
abbrev pub start_narrow : Knowledge
start_narrow =
    let p : Held = record { declared = Some count_n; bounds = Some count_x; known = false; mark = marks.Settled } in
    record (start count_n) { held = no_pointer ∷ no_pointer ∷ p ∷ no_pointer ∷ [] }

-- the bounds in force of a pointer, and what a settling finds of it
abbrev pub bounds_in : Knowledge → ℕ → Option Bounds
bounds_in f p = (held_at f.held p).bounds

abbrev pub finding_in : Knowledge → ℕ → Finding
finding_in f p = finding f.facts (held_at f.held p)

-- no pointer is known not to be null at entry, and bounds in force are the declared ones
abbrev pub AtEntry : Type 0
AtEntry = (bounds_in (start count_n) 2 ≡ Some count_n) × (bounds_in (start count_n) 3 ≡ None) × ((held_at (start count_n).held 2).known ≡ false)
    × ((start count_n).facts ≡ no_facts 4)

-- `n = n - 1` leaves p one element more than `count(n)` asks, and after the settling its bounds are these
abbrev pub CountsAreLowered : Type 0
CountsAreLowered = let lower = number_assigned 0 (Some (plus 0 (negsuc 0))) (start count_n) in
    (bounds_in lower 2 ≡ Some (from_itself (number (pos 0)) (plus 0 (pos 1)))) × (finding_in lower 2 ≡ Meets)
    × (bounds_in (settled lower) 2 ≡ Some count_n)

-- `n = n + 1` leaves it one too few, so that n is at most n - 1 is asked
abbrev pub CountsAreRaised : Type 0
CountsAreRaised = let higher = number_assigned 0 (Some (plus 0 (pos 1))) (start count_n) in
    (bounds_in higher 2 ≡ Some (from_itself (number (pos 0)) (plus 0 (negsuc 0))))
    × (finding_in higher 2 ≡ Falls (Some (record { low = plus 0 (pos 0); high = plus 0 (negsuc 0) })))

-- `n = 5` loses its bounds, and is what is known of n
abbrev pub CountsAreReplaced : Type 0
CountsAreReplaced = let five = number_assigned 0 (Some (number (pos 5))) (start count_n) in
    (bounds_in five 2 ≡ None) × (finding_in five 2 ≡ WasLost) × (entails_terms (plus 0 (pos 0)) (number (pos 5)) five.facts ≡ true)
    × (entails_terms (number (pos 5)) (plus 0 (pos 0)) five.facts ≡ true) × (entails_terms (plus 0 (pos 0)) (number (pos 4)) five.facts ≡ false)
    × (five.assigned ≡ true ∷ false ∷ false ∷ false ∷ [])

-- a shift by 0 keeps the bounds and counts as a change
abbrev pub ShiftsByNothingCount : Type 0
ShiftsByNothingCount = let same = number_assigned 0 (Some (plus 0 (pos 0))) (start count_n) in
    (bounds_in same 2 ≡ Some count_n) × ((held_at same.held 2).mark ≡ marks.Changed) × (finding_in same 2 ≡ Meets)

-- bounds are lost where an end's constant would leave -2^40 to 2^40
abbrev pub ShiftsAreLimited : Type 0
ShiftsAreLimited = let wide = from_itself (number (pos 0)) (plus 0 (pos (2 ^ 40))) in
    (bounds_in (number_assigned 0 (Some (plus 0 (negsuc 0))) (start wide)) 2 ≡ None)
    × (finding_in (number_assigned 0 (Some (plus 0 (negsuc 0))) (start wide)) 2 ≡ WasLost)
    × (bounds_in (number_assigned 0 (Some (plus 0 (pos 1))) (start wide)) 2 ≡ Some (from_itself (number (pos 0)) (plus 0 (pos 1099511627775))))

-- With 0 to x in force and `count(n)` declared: `x = 5` gives the declared bounds back, and
-- `_Bundled { n = 100; x = 5; }` loses the bounds
abbrev pub DeclaredBoundsComeBack : Type 0
DeclaredBoundsComeBack = let alone = number_assigned 1 (Some (number (pos 5))) start_narrow in
    let both = number_assigned 1 (Some (number (pos 5))) (number_assigned 0 (Some (number (pos 100))) start_narrow) in
    (bounds_in alone 2 ≡ Some count_n) × (finding_in alone 2 ≡ Meets) × (bounds_in both 2 ≡ None) × (finding_in both 2 ≡ WasLost)

-- where p goes from q on, `q = q + 1` moves its bounds, and any other assignment to q loses them
abbrev pub BasesMove : Type 0
BasesMove = let before = start (from_base 3 (number (pos 0)) (plus 0 (pos 0))) in
    let further = pointer_assigned 3 (sources.Known (from_base 3 (number (pos 0)) (number (pos 8)))) (Some (pos 1)) false before in
    let other = pointer_assigned 3 sources.Lost None true before in
    (bounds_in further 2 ≡ Some (from_base 3 (number (negsuc 0)) (plus 0 (negsuc 0))))
    × (bounds_in further 3 ≡ Some (from_itself (number (negsuc 0)) (number (pos 7)))) × (bounds_in other 2 ≡ None) × (finding_in other 2 ≡ WasLost)
    × ((held_at other.held 3).known ≡ true)

-- null meets all bounds; a pointer that is assigned one of which nothing is known, or bounds from what it was, has none
abbrev pub NullMeetsAll : Type 0
NullMeetsAll = let null = pointer_assigned 2 sources.Null None false (start count_n) in
    let unknown = pointer_assigned 2 sources.Lost None false (start count_n) in
    let own = pointer_assigned 2 (sources.Known (from_base 2 (number (pos 0)) (plus 0 (pos 0)))) None false (start count_n) in
    (bounds_in null 2 ≡ None) × (finding_in null 2 ≡ Meets) × (bounds_in (settled null) 2 ≡ Some count_n)
    × (finding_in unknown 2 ≡ Falls None) × (bounds_in own 2 ≡ None)

-- a settling asks for the lower end first, then for the upper one, and for the base before both
abbrev pub EndsAreAskedInOrder : Type 0
EndsAreAskedInOrder = let given = λ (b : Bounds). pointer_assigned 2 (sources.Known b) None false (start count_n) in
    (finding_in (given (from_itself (number (pos 1)) (number (pos 2)))) 2 ≡ Falls (Some (record { low = number (pos 1); high = number (pos 0) })))
    × (finding_in (given (from_itself (number (negsuc 0)) (number (pos 2)))) 2 ≡ Falls (Some (record { low = plus 0 (pos 0); high = number (pos 2) })))
    × (finding_in (given (from_base 3 (number (pos 0)) (plus 0 (pos 0)))) 2 ≡ Falls None) × (finding_in (given count_n) 2 ≡ Meets)

-- a test against an int on its two ways
abbrev pub TestsTellTwoWays : Type 0
TestsTellTwoWays = let when = λ (how : How) (truth : Bool). (assumed (Compare how (plus 0 (pos 0)) (plus 1 (pos 0))) truth (start count_n)).facts in
    let below = λ (t : ClosedTable). entails_terms (plus 0 (pos 1)) (plus 1 (pos 0)) t in
    let above = λ (t : ClosedTable). entails_terms (plus 1 (pos 0)) (plus 0 (pos 0)) t in
    (below (when Lt true) ≡ true) × (below (when Lt false) ≡ false) × (above (when Lt false) ≡ true) × (above (when Lt true) ≡ false)
    × (below (when Ge false) ≡ true) × (above (when Eq true) ≡ true) × (below (when Ne true) ≡ false)
    × (when Ne true ≡ no_facts 4) × (when Eq false ≡ no_facts 4)

-- a test of a pointer tells on one way alone
abbrev pub TestsForNull : Type 0
TestsForNull = ((held_at (assumed (NotNull 2) true (start count_n)).held 2).known ≡ true) × (assumed (NotNull 2) false (start count_n) ≡ start count_n)

-- At the head of a loop that assigns n and q: nothing is known of n, bounds are the declared ones, and p alone is known
-- not to be null
abbrev pub LoopsForget : Type 0
LoopsForget = let before = number_assigned 0 (Some (number (pos 3))) (assumed (NotNull 3) true (assumed (NotNull 2) true start_narrow)) in
    let head = at_head (0 ∷ 3 ∷ []) before in
    (entails_terms (plus 0 (pos 0)) (number (pos 3)) before.facts ≡ true) × (head.facts ≡ no_facts 4) × (bounds_in head 2 ≡ Some count_n)
    × ((held_at head.held 2).known ≡ true) × ((held_at head.held 3).known ≡ false)

-- where ways meet, other bounds than on the second way become the declared ones; a way that leads nowhere keeps all facts
-- of the other
abbrev pub WaysMeet : Type 0
WaysMeet = let three = number_assigned 0 (Some (number (pos 3))) start_narrow in
    (bounds_in (met start_narrow (start count_n)) 2 ≡ Some count_n) × (bounds_in (met start_narrow start_narrow) 2 ≡ Some count_x)
    × ((met three (start count_n)).facts ≡ no_facts 4) × ((met (cut_off (start count_n)) three).facts ≡ three.facts)
    × (entails_terms (number (pos 1)) (number (pos 0)) (cut_off (start count_n)).facts ≡ true)

-- where two ways through one expression know different bounds, they are those from before in a bundle, and else the declared ones; equal ones are kept
abbrev pub WaysMeetAgain : Type 0
WaysMeetAgain = let inside = in_bundle start_narrow in
    let once = widened 2 (plus 1 (pos 0)) inside in
    (bounds_in (rejoined inside inside once) 2 ≡ Some count_x) × (bounds_in (rejoined inside once inside) 2 ≡ Some count_x)
    × (bounds_in (rejoined inside once once) 2 ≡ Some (from_itself (number (pos 0)) (plus 1 (pos 1))))
    × (bounds_in (rejoined once once inside) 2 ≡ Some (from_itself (number (pos 0)) (plus 1 (pos 1))))
    × (bounds_in (rejoined start_narrow start_narrow (widened 2 (plus 1 (pos 0)) start_narrow)) 2 ≡ Some count_n)

-- `_Bundled { n = 5; p = q; }` with 0 to 5 in force for q: p meets its declared bounds at its end, and not before; it is a bundle from its beginning to
-- its settling
abbrev pub BundlesEnd : Type 0
BundlesEnd = let number_first = number_assigned 0 (Some (number (pos 5))) (in_bundle (start count_n)) in
    let both = pointer_assigned 2 (sources.Known (from_itself (number (pos 0)) (number (pos 5)))) None false number_first in
    (finding_in number_first 2 ≡ WasLost) × (finding_in both 2 ≡ Meets) × (bounds_in (settled both) 2 ≡ Some count_n)
    × ((start count_n).bundled ≡ false) × (both.bundled ≡ true) × ((settled both).bundled ≡ false)

-- Where p has the bounds 0 to x: its element at x raises the end to x + 1, and then that at x + 1 to x + 2; its first one raises it where x is 0, and
-- no other one. Behind an assignment to p the bounds are those that it gives, and behind one to x the declared ones
abbrev pub TestsWiden : Type 0
TestsWiden = let once = widened 2 (plus 1 (pos 0)) start_narrow in
    let at_zero = number_assigned 1 (Some (number (pos 0))) (start count_x) in
    (bounds_in once 2 ≡ Some (from_itself (number (pos 0)) (plus 1 (pos 1))))
    × (bounds_in (widened 2 (plus 1 (pos 1)) once) 2 ≡ Some (from_itself (number (pos 0)) (plus 1 (pos 2))))
    × (widened 2 (plus 1 (pos 1)) start_narrow ≡ start_narrow) × (widened 2 (number (pos 0)) start_narrow ≡ start_narrow)
    × ((held_at once.held 2).mark ≡ marks.Settled) × (bounds_in (settled once) 2 ≡ Some (from_itself (number (pos 0)) (plus 1 (pos 1))))
    × (bounds_in (number_assigned 1 None once) 2 ≡ Some count_n)
    × (bounds_in (pointer_assigned 2 (sources.Known count_n) None false once) 2 ≡ Some count_n)
    × (wider (number (pos 0)) at_zero.facts (Some (from_itself (number (pos 0)) (plus 1 (pos 0)))) ≡ Some (from_itself (number (pos 0)) (plus 1 (pos 1))))

-- no pointer is widened that counts from a base, or has no bounds, or whose end would leave -2^40 to 2^40
abbrev pub WideningIsLimited : Type 0
WideningIsLimited = let based = start (from_base 3 (number (pos 0)) (plus 0 (pos 0))) in
    let wide = start (from_itself (number (pos 0)) (plus 0 (pos (2 ^ 40)))) in
    (widened 2 (plus 0 (pos 0)) based ≡ based) × (widened 3 (number (pos 0)) based ≡ based) × (widened 2 (plus 0 (pos (2 ^ 40))) wide ≡ wide)

-- `x = strlen(p)` where p has the bounds 0 to 0, 0 to 3, or 0 to n: x isn't below 0, and the bounds end there where they ended no further on
abbrev pub LengthsAreBounds : Type 0
LengthsAreBounds = let zero = length_assigned 1 2 (start (from_itself (number (pos 0)) (number (pos 0)))) in
    let three = length_assigned 1 2 (start (from_itself (number (pos 0)) (number (pos 3)))) in
    (bounds_in zero 2 ≡ Some count_x) × (entails_terms (number (pos 0)) (plus 1 (pos 0)) zero.facts ≡ true)
    × (entails_terms (number (pos 1)) (plus 1 (pos 0)) zero.facts ≡ false) × ((held_at zero.held 2).mark ≡ marks.Settled)
    × (zero.assigned ≡ false ∷ true ∷ false ∷ false ∷ [])
    × (bounds_in three 2 ≡ Some (from_itself (number (pos 0)) (number (pos 3)))) × (bounds_in (length_assigned 1 2 (start count_n)) 2 ≡ Some count_n)

-- Bounds that the assignment took become 0 to the length, so that `n = strlen(p)` keeps `count(n)`. Those that it gave back count as bounds that were not
-- lost, and a pointer with a base, or without bounds, has none of this
abbrev pub LostLengthsComeBack : Type 0
LostLengthsComeBack = let own = length_assigned 0 2 (start count_n) in
    let based = length_assigned 0 2 (start (from_base 3 (number (pos 0)) (plus 0 (pos 0)))) in
    (bounds_in own 2 ≡ Some count_n) × ((held_at own.held 2).mark ≡ marks.Changed) × (finding_in own 2 ≡ Meets)
    × (bounds_in (length_assigned 1 2 start_narrow) 2 ≡ Some count_n) × (bounds_in based 2 ≡ None) × (finding_in based 2 ≡ WasLost)
    × (length_assigned 1 3 (start count_n) ≡ number_assigned 1 None (start count_n))

-- the end of a scope takes a variable's facts away, and bounds that name it
abbrev pub ScopesEnd : Type 0
ScopesEnd = let three = number_assigned 0 (Some (plus 1 (pos 3))) start_narrow in
    ((left 1 three).facts ≡ no_facts 4) × (bounds_in (left 1 three) 2 ≡ Some count_n) × (bounds_in (left 2 start_narrow) 2 ≡ None)
