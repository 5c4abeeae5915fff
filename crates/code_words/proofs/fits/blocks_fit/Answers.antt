use Rattle.std.proofs.Common.{◌≡◌, ℕ, ◌+◌, ◌<◌, List, ◌∷◌, length, drop, sym, ap, ◌∙◌, subst, arith}
use Rattle.std.proofs.lemmas.List.{drop_more}
use Rattle.flat_bytes.specs.Blocks.{grown}
use Rattle.code_words.specs.Fitting.{BlocksFit}
use Rattle.code_words.proofs.Fitting.{with_first, without_first, first_fits}
use Rattle.code_words.proofs.fits.blocks_fit.Goals as goal
use Rattle.code_words.proofs.fits.blocks_fit.Goals.{After-as_slice}

-- the blocks behind the one that is looked at
abbrev rest : (c : After-as_slice) → List (List ℕ)
rest c = drop (c.loop-block.block-index + 1) c.args.blocks.now

split : (c : After-as_slice) → drop c.loop-block.block-index c.args.blocks.now ≡ c.block-item.result ∷ rest c
split c =
    drop_more c.args.blocks.now c.loop-block.block-index c.block-item.result c.loop-block-test.true
    ∙ ap (λ block. block ∷ rest c) (sym c.block-item.is)

pub returns-in-None : goal.returns-in-None
returns-in-None c =
    let b = (goal.at.returns-in-None c).After-as_slice in
    let len = ap length c.as_slice.ensures in (
      λ no. absurd (cc),
      λ fits.
          let here = subst (λ blocks. BlocksFit c.args.size c.loop-block.offset blocks) (split b) (c.loop-block.invariant.left fits) in
          let first = first_fits c.args.size c.loop-block.offset c.block-item.result (rest b) here in
          absurd (c.in-None.ensures.none (omega (arith, first.0, len)) (omega (arith, first.1, len))),
    )

pub loop-block-preserved : goal.loop-block-preserved
loop-block-preserved c =
    let b = (goal.at.loop-block-preserved c).After-as_slice in
    let len = ap length c.as_slice.ensures in
    let end = c.in-Some.ensures.end in
    let some : 0 < length c.block-item.result = omega (arith, end.0, len) in
    let same : c.in-Some.end ≡ grown c.loop-block.offset (length c.block-item.result) = end.1 ∙ ap (grown c.loop-block.offset) len in
    record {
      low = end.2;
      all = λ fits. c.loop-block.invariant.all (subst (λ blocks. BlocksFit c.args.size c.loop-block.offset blocks) (sym (split b))
          (with_first c.args.size c.loop-block.offset c.block-item.result (rest b) some (subst (λ offset. BlocksFit c.args.size offset (rest b)) same fits)));
      left = λ fits. subst (λ offset. BlocksFit c.args.size offset (rest b)) (sym same)
          (without_first c.args.size c.loop-block.offset c.block-item.result (rest b)
          (subst (λ blocks. BlocksFit c.args.size c.loop-block.offset blocks) (split b) (c.loop-block.invariant.left fits)));
    }
