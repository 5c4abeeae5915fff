use Rattle.std.proofs.Common.{◌<◌, length, map, get_or, refl, arith}
use Rattle.ckc_core.specs.Core.{import_of}
use Rattle.check_insertion.specs.Sides.{tainted_at}
use Rattle.check_insertion.proofs.Named.{named_more, named_all, item_same, imports_one}
use Rattle.check_insertion.proofs.copies.imports.Goals as goal

pub loop-number-preserved : goal.loop-number-preserved
loop-number-preserved c =
    let numbers = c.args.numbers.now in
    let i = c.loop-number.number-index in
    let less : i < length numbers = omega (arith, c.loop-number-test.true) in
    named_more (tainted_at c.args.definitions.now) (imports_one c.args.definitions.now) numbers i (get_or numbers i 0) (map import_of c.loop-number.copies.items) (map import_of c.push_import.new.copies.items)
    less (item_same numbers i 0 (get_or numbers i 0) less) c.in_ok-push_import.ensures c.loop-number.invariant

pub returns : goal.returns
returns c = named_all (tainted_at c.args.definitions.now) refl c.args.numbers.now c.loop-number.number-index (map import_of c.loop-number.copies.items) (omega (arith, c.loop-number-test.false)) c.loop-number.invariant
