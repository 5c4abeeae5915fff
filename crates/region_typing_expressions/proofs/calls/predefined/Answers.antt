use Rattle.std.proofs.Common.{◌≡◌, ◌≢◌, ℕ, ◌==◌, true, false, refl, arith}
use Rattle.std.proofs.lemmas.Bool.Decides.{nat_tests}
use Rattle.region_typing_expressions.proofs.calls.predefined.Goals as goal

this_name : (a b : ℕ) → a ≡ b → (a == b) ≡ true
this_name a b is = grind (arith, nat_tests)

other_name : (a b : ℕ) → a ≢ b → (a == b) ≡ false
other_name a b is = grind (arith, nat_tests)

pub returns-then-name-given : goal.returns-then-name-given
returns-then-name-given c = rw (this_name c.args.name c.args.given.next_input c.if-name-given.true) c.reads.ensures

pub returns-then-name-given-2 : goal.returns-then-name-given-2
returns-then-name-given-2 c = rw (other_name c.args.name c.args.given.next_input c.if-name-given.false, this_name c.args.name c.args.given.print_int c.if-name-given-2.true) c.prints.ensures

pub returns-then-name-given-3 : goal.returns-then-name-given-3
returns-then-name-given-3 c = rw (other_name c.args.name c.args.given.next_input c.if-name-given.false, other_name c.args.name c.args.given.print_int c.if-name-given-2.false, this_name c.args.name c.args.given.putchar c.if-name-given-3.true) c.puts_byte.ensures

pub returns-then-name-given-4 : goal.returns-then-name-given-4
returns-then-name-given-4 c = rw (other_name c.args.name c.args.given.next_input c.if-name-given.false, other_name c.args.name c.args.given.print_int c.if-name-given-2.false, other_name c.args.name c.args.given.putchar c.if-name-given-3.false, this_name c.args.name c.args.given.strlen c.if-name-given-4.true) c.measures.ensures

pub returns : goal.returns
returns c =
    rw (other_name c.args.name c.args.given.next_input c.if-name-given.false, other_name c.args.name c.args.given.print_int c.if-name-given-2.false, other_name c.args.name c.args.given.putchar c.if-name-given-3.false, other_name c.args.name c.args.given.strlen c.if-name-given-4.false)
    (record { so = refl })
