use Rattle.std.proofs.Common.{ℕ, ℤ, List, Bool, true, false, ◌≡◌, ◌∙◌, subst, arith}
use Rattle.subsumption.specs.Relaxation.{IsRound, IsRelaxed, AreNamed}
use Rattle.subsumption.proofs.Rounds.{relaxed_small, relaxed_next, settled}
use Rattle.subsumption.proofs.Circles.{circle}
use Rattle.subsumption.proofs.relaxation.find_distances.Goals as goal

pub relax_all-requires-clause-small : goal.relax_all-requires-clause-small
relax_all-requires-clause-small c =
    let few = c.loop-round-test.true in
    rw (c.as_slice-in-loop-round.ensures.value, c.loop-round.invariant.0)
    (relaxed_small _ _ _ _ _ _ c.requires.edges.nodes (omega (arith, few)) c.loop-round.invariant.1)

pub loop-round-preserved : goal.loop-round-preserved
loop-round-preserved c =
    let e : c.as_slice-in-loop-round.result.now ≡ c.loop-round.distances.items = c.as_slice-in-loop-round.ensures.value ∙ c.loop-round.invariant.0 in
    let P : List ℤ → Type 0 = λ B. IsRound c.args.facts.now c.args.facts.now B c.loop-round.last.items c.relax_all.new.distances.items c.relax_all.new.last.items true in
    let Q : Bool → Type 0 = λ b. IsRound c.args.facts.now c.args.facts.now c.as_slice-in-loop-round.result.now c.loop-round.last.items c.relax_all.new.distances.items c.relax_all.new.last.items b in (
      c.copy_from_slice.ensures.items ∙ c.as_slice-in-loop-round-2.ensures.value,
      relaxed_next _ _ _ _ _ _ _ _ c.requires.edges c.requires.start c.loop-round.invariant.1 (subst P e (subst Q c.if-not-relax_all.false c.relax_all.ensures)),
    )

pub returns-then-not-relax_all : goal.returns-then-not-relax_all
returns-then-not-relax_all c =
    let e : c.as_slice-in-loop-round.result.now ≡ c.loop-round.distances.items = c.as_slice-in-loop-round.ensures.value ∙ c.loop-round.invariant.0 in
    let P : List ℤ → Type 0 = λ B. IsRound c.args.facts.now c.args.facts.now B c.loop-round.last.items c.relax_all.new.distances.items c.relax_all.new.last.items false in
    let Q : Bool → Type 0 = λ b. IsRound c.args.facts.now c.args.facts.now c.as_slice-in-loop-round.result.now c.loop-round.last.items c.relax_all.new.distances.items c.relax_all.new.last.items b in
    let few = c.loop-round-test.true in
    settled _ _ _ _ _ _ _ _ (omega (arith, few)) c.loop-round.invariant.1 (subst P e (subst Q c.if-not-relax_all.true c.relax_all.ensures))

pub returns : goal.returns
returns c =
    let all : c.loop-round._round ≡ c.args.n = omega (arith, c.loop-round-test.false, c.loop-round.auto._round-end) in
    let P : ℕ → Type 0 = λ k. IsRelaxed c.args.facts.now c.args.start c.args.n k c.loop-round.distances.items c.loop-round.last.items in
    let relaxed = subst P all c.loop-round.invariant.1 in
    let Q : ℕ → Type 0 = λ m. AreNamed c.loop-round.last.items m c.in_ok-path.path.items in
    circle _ _ _ _ _ _ c.requires.edges relaxed (subst Q relaxed.last_size (rw c.as_slice-2.ensures.value at c.in_ok-path.ensures))
