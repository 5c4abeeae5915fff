use Rattle.std.proofs.Common.{◌≡◌, ◌⊎◌, ◌∙◌, length, take, ap, inl, inr, arith}
use Rattle.ckc_io.proofs.Fronts.{front_longer, front_whole, same_file}
use Rattle.ckc_io.proofs.whole.read_whole.Goals as goal
use Rattle.ckc_io.proofs.whole.read_whole.Goals.{then-count-eq0-via-then-count-eq0, then-count-eq0-via-else-count-eq0+then-len-most}

-- the loop is left where no byte came, or all that are wanted are there
pub returns-then-count-eq0-clause-content : goal.returns-then-count-eq0-clause-content
returns-then-count-eq0-clause-content g c m told =
    let bytes = c.read_piece.new.bytes in
    let piece = c.in_ok-count.ensures.content m (c.loop-bytes.invariant.files ∙ told) in
    let front = c.loop-bytes.invariant.front m told piece.0 piece.1 in
    let left : (c.in_ok-count.count ≡ 0) ⊎ (length bytes.items ≡ c.args.most) = elim c.then-count-eq0.branch [ then-count-eq0-via-then-count-eq0 w ↦ inl w.if-count-eq0.true | then-count-eq0-via-else-count-eq0+then-len-most w ↦ inr (omega (arith, bytes.ok.0)) ] in
    (piece.0, piece.1, front_whole _ _ _ _ _ front piece.2 (omega (arith, bytes.ok.0)) left)

pub loop-bytes-preserved : goal.loop-bytes-preserved
loop-bytes-preserved g c = record {
  within = c.in_ok-count.ensures.within;
  files = c.in_ok-count.ensures.files ∙ c.loop-bytes.invariant.files;
  misses = c.in_ok-count.ensures.counts.0 ∙ c.loop-bytes.invariant.misses;
  faults = c.in_ok-count.ensures.counts.1 ∙ c.loop-bytes.invariant.faults;
  front = λ m told file there.
      let piece = c.in_ok-count.ensures.content m (c.loop-bytes.invariant.files ∙ told) in
      let front = c.loop-bytes.invariant.front m told piece.0 piece.1 in
      front_longer _ _ _ _ _ front piece.2 ∙ ap (take (length c.read_piece.new.bytes.items)) (same_file _ _ _ piece.1 there);
}
