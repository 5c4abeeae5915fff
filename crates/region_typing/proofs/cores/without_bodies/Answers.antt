use Rattle.std.proofs.Common.{[], map, arith}
use Rattle.ckc_core.specs.Core.{definition}
use Rattle.region_typing_rules.specs.Cores.{definitions_of}
use Rattle.region_typing_scope.specs.Views.{signature}
use Rattle.region_typing.proofs.CoreLists.{definitions_more, definitions_done}
use Rattle.region_typing.proofs.cores.without_bodies.Goals as goal

pub loop-f-preserved : goal.loop-f-preserved
loop-f-preserved c =
    record { so_far = definitions_more c.args.functions.now c.loop-f.f-index c.f-item.result (definitions_of [] (map signature c.args.functions.now)) (map definition c.loop-f.built.items) (map definition c.push_definition.new.built.items) (omega (arith, c.loop-f-test.true)) c.f-item.is c.in_ok-push_definition.ensures c.loop-f.invariant.so_far }

pub returns : goal.returns
returns c = definitions_done c.args.functions.now c.loop-f.f-index (definitions_of [] (map signature c.args.functions.now)) (map definition c.loop-f.built.items) (omega (arith, c.loop-f-test.false)) c.loop-f.invariant.so_far
