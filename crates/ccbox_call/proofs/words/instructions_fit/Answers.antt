use Rattle.std.proofs.Common.{take, sym, arith}
use Rattle.std.proofs.lemmas.List.{take_all}
use Rattle.std.proofs.lemmas.List.Elements.{All-more, All-same}
use Rattle.ccbox_call.specs.Words.{HasWords}
use Rattle.ccbox_call.proofs.words.instructions_fit.Goals as goal

pub loop-op-preserved : goal.loop-op-preserved
loop-op-preserved c = All-more HasWords c.args.ops.now c.loop-op.op-index _ (omega arith) c.loop-op.invariant c.instruction_fits.ensures

pub returns : goal.returns
returns c =
    let i = c.loop-op.op-index in
    All-same HasWords c.args.ops.now (take i c.args.ops.now) (sym (take_all i c.args.ops.now (omega arith))) c.loop-op.invariant
