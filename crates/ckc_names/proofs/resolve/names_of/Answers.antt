use Rattle.std.proofs.Common.{ℕ, List}
use Rattle.ckc_tree.specs.Items.{tree}
use Rattle.ckc_tree.specs.Numbers.{numbered}
use Rattle.ckc_names_rules.specs.Given.{number_in}
use Rattle.ckc_names.proofs.Endings.{refused_names, main_names}
use Rattle.ckc_names.proofs.Rows.{program_says}
use Rattle.ckc_names.proofs.resolve.names_of.Goals as goal

pub returns-in-Ok : goal.returns-in-Ok
returns-in-Ok c =
    let opens = rw c.new-resolver.ensures at c.open.ensures in
    let walks = rw (program_says c.args.program.now c.as_slice.result.now c.as_slice.ensures.value) at c.items.ensures in
    let ends = rw c.in-Ok.is at c.finish.ensures in
    rw c.with_main.ensures (main_names (tree c.args.program.now) c.open.new.self c.items.new.resolver c.in-Ok.names opens walks ends)

pub returns-in-Err : goal.returns-in-Err
returns-in-Err c =
    let opens = rw c.new-resolver.ensures at c.open.ensures in
    let walks = rw (program_says c.args.program.now c.as_slice.result.now c.as_slice.ensures.value) at c.items.ensures in
    let ends = rw c.in-Err.is at c.finish.ensures in
    refused_names (λ (names : List (List ℕ)). record { tree = numbered (number_in names) (tree c.args.program.now); names = names }) (tree c.args.program.now) c.open.new.self c.items.new.resolver c.in-Err.refused opens walks ends
