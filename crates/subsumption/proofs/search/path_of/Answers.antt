use Rattle.std.proofs.Common.{◌≡◌, Some, None, sym, ◌∙◌, arith}
use Rattle.std.proofs.lemmas.List.{length_push}
use Rattle.subsumption.specs.Relaxation.{last_of}
use Rattle.subsumption.proofs.Paths.{leads_start, leads_more, leads_shorter, path_is}
use Rattle.subsumption.proofs.search.path_of.Goals as goal

pub loop-fact-smaller : goal.loop-fact-smaller
loop-fact-smaller c =
    let e : last_of c.args.search.now.last.items c.loop-fact.here ≡ Some c.in-Some.fact = rw c.as_slice.ensures.value at (sym c.last_at.ensures ∙ c.in-Some.is) in
    let short = leads_shorter _ _ _ _ _ _ _ c.requires.linked c.loop-fact.invariant e in
    rw (c.in_ok-push.ensures.items, length_push) (omega (arith, short))

pub loop-fact-preserved : goal.loop-fact-preserved
loop-fact-preserved c =
    let e : last_of c.args.search.now.last.items c.loop-fact.here ≡ Some c.in-Some.fact = rw c.as_slice.ensures.value at (sym c.last_at.ensures ∙ c.in-Some.is) in
    rw c.in_ok-push.ensures.items (leads_more _ _ _ _ _ _ _ c.requires.linked c.loop-fact.invariant e)

pub returns : goal.returns
returns c =
    let e : last_of c.args.search.now.last.items c.loop-fact.here ≡ None = rw c.as_slice.ensures.value at (sym c.last_at.ensures ∙ c.in_default.is) in
    path_is _ _ _ _ _ _ c.requires.linked c.requires.few c.requires.near c.loop-fact.invariant e

pub loop-fact-init : goal.loop-fact-init
loop-fact-init c = rw c.new-path.ensures.items (leads_start _ _ _ _ c.requires.left)
