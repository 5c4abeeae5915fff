use Rattle.std.proofs.Common.{◌≡◌, ◌∷◌, true, refl, sym, ◌∙◌, ap}
use Rattle.ckc_parser.specs.Contexts.{frame, waiting, takes_before}
use Rattle.ckc_parser.proofs.Waiting.{waiting_last}
use Rattle.ckc_parser.proofs.ContextSteps.{reduces_around, reduces_tight, is_small}
use Rattle.ckc_parser.proofs.expressions.reduced.Goals as goal

pub applied-requires-clause-others : goal.applied-requires-clause-others
applied-requires-clause-others c =
    let now = c.loop-around.invariant.0 c.requires.0 c.requires.1 c.requires.2 in
    let top = waiting_last _ _ _ c.in-Some.ensures.items in
    is_small _ _ _ _ (rw top at now.0.fits)

pub loop-around-preserved-in-Some : goal.loop-around-preserved-in-Some
loop-around-preserved-in-Some c =
    let top : waiting c.loop-around.around.pending.items ≡ frame c.in-Some.pending ∷ waiting c.pop.new.self.items = waiting_last _ _ _ c.in-Some.ensures.items in
    let takes : takes_before (waiting c.loop-around.around.pending.items) c.args.looser ≡ true = sym (c.loop-around-test.ensures ∙ ap (λ x. takes_before (waiting x) c.args.looser) c.as_slice.ensures.value) in (
      λ b around low.
          let now = c.loop-around.invariant.0 b around low in
          reduces_around c.in-Some.pending c.args.looser _ _ _ _ now.0 now.1 top takes c.in_ok-operand.ensures c.shallower-around.ensures refl,
      λ b ts is has.
          let now = c.loop-around.invariant.1 b ts is has in
          reduces_tight c.in-Some.pending c.args.looser _ _ _ _ is now top takes c.in_ok-operand.ensures c.shallower-around.ensures refl,
    )
