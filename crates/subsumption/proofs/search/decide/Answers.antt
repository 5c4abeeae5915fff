use Rattle.std.proofs.Common.{◌≡◌, ◌≤ℤ◌, ◌<ℤ◌, arith, rules}
use Rattle.std.proofs.lemmas.Int.{ints}
use Rattle.subsumption.specs.Graphs.{at}
use Rattle.subsumption.proofs.Rounds.{relaxed_small}
use Rattle.subsumption.proofs.Paths.{linked, yes_answer, no_answer}
use Rattle.subsumption.proofs.search.decide.Goals as goal

pub path_of-requires-clause-linked : goal.path_of-requires-clause-linked
path_of-requires-clause-linked c = linked _ _ _ _ _ c.requires.edges c.requires.settled

pub returns-then-distance_at-goal : goal.returns-then-distance_at-goal
returns-then-distance_at-goal c =
    let e : c.distance_at.result ≡ at c.args.search.now.distances.items c.args.goal.now.left = rw c.as_slice.ensures.value at c.distance_at.ensures in
    let le : at c.args.search.now.distances.items c.args.goal.now.left ≤ℤ c.args.goal.now.plus = (let h = c.if-distance_at-goal.true in omega (arith, ints, e)) in
    yes_answer _ _ _ _ _ _ c.requires.settled c.in_ok-facts.ensures le

pub numbers-requires-clause-small : goal.numbers-requires-clause-small
numbers-requires-clause-small c =
    rw c.as_slice-2.ensures.value (relaxed_small _ _ _ _ _ _ c.requires.edges.nodes c.requires.settled.few c.requires.settled.relaxed)

pub returns : goal.returns
returns c =
    let e : c.distance_at.result ≡ at c.args.search.now.distances.items c.args.goal.now.left = rw c.as_slice.ensures.value at c.distance_at.ensures in
    let over : c.args.goal.now.plus <ℤ at c.args.search.now.distances.items c.args.goal.now.left = (let h = c.if-distance_at-goal.false in omega (arith, ints, e)) in
    no_answer _ _ _ _ _ _ c.requires.edges c.requires.settled (rw c.as_slice-2.ensures.value at c.in_ok-values.ensures) c.requires.left c.requires.right over

pub path_of-requires-clause-few : goal.path_of-requires-clause-few
path_of-requires-clause-few c = search rules

pub path_of-requires-clause-left : goal.path_of-requires-clause-left
path_of-requires-clause-left c = search rules

pub path_of-requires-clause-near : goal.path_of-requires-clause-near
path_of-requires-clause-near c = search rules

pub returns-in_err-facts : goal.returns-in_err-facts
returns-in_err-facts c = search rules

pub numbers-requires-clause-some : goal.numbers-requires-clause-some
numbers-requires-clause-some c = search rules

pub returns-in_err-values : goal.returns-in_err-values
returns-in_err-values c = search rules
