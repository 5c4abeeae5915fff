use Rattle.std.proofs.Common.{ℕ, List, refl, sym, ap, ◌∙◌, inl, arith, Some, option_map, Bor}
use Rattle.sandbox_actor.specs.ActLists.{acts_of_file}
use Rattle.ccbox_call.specs.Answers.{acts_missing}
use Rattle.ccbox_call.specs.Supplies.{Listed, Own, supply_at}
use Rattle.ccbox_call.specs.Programs.{Coded}
use Rattle.ccbox_call_words.specs.Requested.{options as options_view}
use Rattle.ccbox_call.specs.Calls.{files_failed, no_memory}
use Rattle.ccbox_call.proofs.Giving.{gives_as, gives_from, same_counts, line_gives, supply_run}
use Rattle.ccbox_call.proofs.run.run_image.Goals as goal

pub returns-in_default : goal.returns-in_default
returns-in_default g c = no_memory refl (omega arith) refl refl

pub returns-in_default-acts : goal.returns-in_default-acts
returns-in_default-acts g c =
    let o = options_view c.args.options.now in
    gives_as (supply_run (g.F.Shelf.files c.args.shelf.now) o (Coded c.args.image.now) c.settings-settings.result c.as_slice-inputs.result.now Own c.settings-settings.ensures
    (c.as_slice-inputs.ensures.value ∙ c.in-Ok.ensures)
    (λ files told. ap (supply_at files) (ap (option_map (λ (n : Bor (List ℕ)). n.now)) c.in_default-acts.is))) c.run_own.ensures

pub returns-in-Ok-start : goal.returns-in-Ok-start
returns-in-Ok-start g c =
    let o = options_view c.args.options.now in
    let counts = c.in-Ok-start.ensures.counts in
    gives_from (same_counts _ _ _ _ _ counts.0 counts.1)
    (gives_as (supply_run (g.F.Shelf.files c.args.shelf.now) o (Coded c.args.image.now) c.settings-settings.result c.as_slice-inputs.result.now (Listed c.in-Ok-start.actor) c.settings-settings.ensures
    (c.as_slice-inputs.ensures.value ∙ c.in-Ok.ensures)
    (λ files told.
    let read = c.in-Ok-start.ensures.content files told in
    ap (supply_at files) (ap (option_map (λ (n : Bor (List ℕ)). n.now)) c.in-Some.is) ∙ ap (option_map (λ file. Listed (acts_of_file file))) read.1 ∙ ap (λ list. Some (Listed list)) (sym read.2))) c.run_listed.ensures)

pub returns-in-Err-Missing : goal.returns-in-Err-Missing
returns-in-Err-Missing g c =
    let h = rw c.in-Err-Missing.field-0-is at c.in-Err-Missing.ensures in
    line_gives _ 3 (λ files told. acts_missing c.in-Some.name.now (ap (option_map (λ (n : Bor (List ℕ)). n.now)) c.in-Some.is) (h.content files told)) (h.counts.1, inl (refl, h.counts.0)) h.counts.0.no_less c.give_missing.ensures

pub returns-in-Err-Failed : goal.returns-in-Err-Failed
returns-in-Err-Failed g c =
    let h = rw c.in-Err-Failed.field-0-is at c.in-Err-Failed.ensures in
    files_failed refl h.counts.0 h.counts.1 refl

pub returns-in-Err-NoMemory : goal.returns-in-Err-NoMemory
returns-in-Err-NoMemory g c =
    let h = rw c.in-Err-NoMemory.field-0-is at c.in-Err-NoMemory.ensures in
    no_memory refl (omega (arith, h.counts.0)) h.counts.1 refl
