use Rattle.std.proofs.Common.{◌≡◌, true, map, sym, ap, ◌∙◌, arith}
use Rattle.std.proofs.lemmas.List.{length-map}
use Rattle.region_typing_scope.specs.Views.{signature}
use Rattle.region_typing_scope.specs.Tables.{side_before}
use Rattle.region_typing_scope.proofs.Tables.{before_first, counted_at, counted_few}
use Rattle.region_typing_scope.proofs.scope.Scope.tainted_before.Goals as goal

pub returns-then-place-eq0-clause-count : goal.returns-then-place-eq0-clause-count
returns-then-place-eq0-clause-count c =
    let fs = map signature c.args.self.now.functions.items in
    let none : c.args.place ≡ 0 = omega arith in
    sym (ap (side_before true fs) none ∙ before_first true fs)

pub returns-else-place-eq0-clause-count : goal.returns-else-place-eq0-clause-count
returns-else-place-eq0-clause-count c =
    let fs = map signature c.args.self.now.functions.items in
    counted_at c.args.self.now.tainted_counts.items fs c.args.place c.index.result.now c.args.self.now.counted (omega arith) (rw (length-map c.args.self.now.functions.items signature) c.requires) c.index.ensures

pub returns-else-place-eq0-clause-few : goal.returns-else-place-eq0-clause-few
returns-else-place-eq0-clause-few c =
    let fs = map signature c.args.self.now.functions.items in
    counted_few fs c.args.place c.index.result.now
    (counted_at c.args.self.now.tainted_counts.items fs c.args.place c.index.result.now c.args.self.now.counted (omega arith) (rw (length-map c.args.self.now.functions.items signature) c.requires) c.index.ensures)
