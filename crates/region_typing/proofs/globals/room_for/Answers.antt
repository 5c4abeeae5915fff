use Rattle.std.proofs.Common.{ℕ, ◌+◌, nat_lt, ap, sym, ◌∙◌}
use Rattle.std.proofs.lemmas.List.{length-map}
use Rattle.region_typing_rules.specs.Verdicts.{Passes}
use Rattle.region_typing_rules.specs.Cells.{is_length}
use Rattle.region_typing_scope.specs.Views.{variable}
use Rattle.region_typing_scope.proofs.Going.{goes_on, refused}
use Rattle.region_typing_statements.proofs.Testing.{holds, fails}
use Rattle.region_typing.proofs.globals.room_for.Goals as goal

pub returns-in_err-needs-clause-room : goal.returns-in_err-needs-clause-room
returns-in_err-needs-clause-room c =
    let vs = c.args.walk.now.scope.variables in
    let room = ap (λ n. nat_lt n 4096) (c.len.ensures ∙ vs.ok.0 ∙ sym (length-map vs.items variable)) in
    fails _ _ _ _ _ c.from_residual.result room c.from_residual.ensures.1 c.in_err-needs.ensures

pub returns-in_err-size-clause-room : goal.returns-in_err-size-clause-room
returns-in_err-size-clause-room c =
    let vs = c.args.walk.now.scope.variables in
    let room = ap (λ n. nat_lt n 4096) (c.len.ensures ∙ vs.ok.0 ∙ sym (length-map vs.items variable)) in
    holds _ _ _ _ _ room c.in_ok-needs.ensures (refused _ c.from_residual-in_err-size.result c.from_residual-in_err-size.ensures.1 c.in_err-size.ensures.bytes)

pub returns-in_err-needs-2-clause-room : goal.returns-in_err-needs-2-clause-room
returns-in_err-needs-2-clause-room c =
    let vs = c.args.walk.now.scope.variables in
    let room = ap (λ n. nat_lt n 4096) (c.len.ensures ∙ vs.ok.0 ∙ sym (length-map vs.items variable)) in
    let long = c.is_length.ensures ∙ ap is_length c.length_of-count.ensures in
    holds _ _ _ _ _ room c.in_ok-needs.ensures (goes_on _ c.in_ok-size.ensures.bytes
    (fails _ _ _ _ _ c.from_residual-in_err-needs-2.result long c.from_residual-in_err-needs-2.ensures.1 c.in_err-needs-2.ensures))

pub returns-in_err-needs-3-clause-room : goal.returns-in_err-needs-3-clause-room
returns-in_err-needs-3-clause-room c =
    let vs = c.args.walk.now.scope.variables in
    let room = ap (λ n. nat_lt n 4096) (c.len.ensures ∙ vs.ok.0 ∙ sym (length-map vs.items variable)) in
    let long = c.is_length.ensures ∙ ap is_length c.length_of-count.ensures in
    let fits = rw (c.block_bytes.ensures.bytes, c.count_of.ensures.count, c.length_of-count.ensures) at c.fit_behind.ensures in
    holds _ _ _ _ _ room c.in_ok-needs.ensures (goes_on _ c.in_ok-size.ensures.bytes (holds _ _ _ _ _ long c.in_ok-needs-2.ensures
    (fails _ _ _ _ _ c.from_residual-in_err-needs-3.result fits c.from_residual-in_err-needs-3.ensures.1 c.in_err-needs-3.ensures)))

pub returns-clause-room : goal.returns-clause-room
returns-clause-room c =
    let vs = c.args.walk.now.scope.variables in
    let room = ap (λ n. nat_lt n 4096) (c.len.ensures ∙ vs.ok.0 ∙ sym (length-map vs.items variable)) in
    let long = c.is_length.ensures ∙ ap is_length c.length_of-count.ensures in
    let fits = rw (c.block_bytes.ensures.bytes, c.count_of.ensures.count, c.length_of-count.ensures) at c.fit_behind.ensures in
    let bytes = rw (c.count_of.ensures.count, c.length_of-count.ensures) at c.block_bytes.ensures.bytes in
    holds _ _ _ _ _ room c.in_ok-needs.ensures (goes_on _ c.in_ok-size.ensures.bytes (holds _ _ _ _ _ long c.in_ok-needs-2.ensures
    (holds _ _ _ _ _ fits c.in_ok-needs-3.ensures (record { so = ap (λ (n : ℕ). Passes (c.args.walk.now.taken + n)) (sym bytes) }))))
