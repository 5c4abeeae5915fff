use Rattle.std.proofs.Common.{◌≡◌, ◌+◌, ◌^◌, ◌≤ℤ◌, ◌*ℤ◌, pos, negsuc, sym, ap, subst, ◌∙◌, arith}
use Rattle.std.specs.Prelude.{FitsSigned}
use Rattle.std.proofs.lemmas.Int.{ints, to_z-of_z, fits_signed_mul}
use mir.Syntax.{w128}
use mir.Val.{to_z, of_z}
use Rattle.marshalling.proofs.Scaling.{scaled_bounds, size_of_count}
use Rattle.marshalling.proofs.ends.scaled.Goals as goal

pub returns : goal.returns
returns c =
    let n = c.args.count in
    let size = c.args.size in
    let small : FitsSigned w128 c.from.result = rw c.from.ensures (omega (arith, ints)) in
    let fits : FitsSigned w128 (n *ℤ pos size) = fits_signed_mul w128 n (pos size) (2 ^ 64 + 1) (2 ^ 32) (size_of_count n c.requires.low c.requires.high) (omega arith) (omega arith) in
    let x : to_z w128 (of_z w128 n) ≡ n = to_z-of_z w128 n c.ranges.count in
    let y : to_z w128 (of_z w128 c.from.result) ≡ pos size = to_z-of_z w128 c.from.result small ∙ c.from.ensures in
    let product : to_z w128 (of_z w128 n) *ℤ to_z w128 (of_z w128 c.from.result) ≡ n *ℤ pos size = cc in
    let value = ap (λ p. to_z w128 (of_z w128 p)) product ∙ to_z-of_z w128 (n *ℤ pos size) fits in
    let bounds = scaled_bounds n size c.requires.low c.requires.high (omega arith) in
    record {
      value = value;
      low = subst (λ z. negsuc (2 ^ 97) ≤ℤ z) (sym value) bounds.0;
      high = subst (λ z. z ≤ℤ pos (2 ^ 97)) (sym value) bounds.1;
    }
