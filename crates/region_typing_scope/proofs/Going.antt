-- Rules behind one another.
use Rattle.std.proofs.Common.{◌≡◌, Result, Ok, Err, refl}
use Rattle.region_typing_scope.specs.declared.refusals.CheckError.{CheckError}
use Rattle.region_typing_scope.specs.declared.refusals.CheckError.TheVariants.{Source, Unnamed, NoMemory}
use Rattle.std.specs.Result.{IsErrAnd}
use Rattle.std.proofs.lemmas.Result.{err_from_is_err_and}
use Rattle.region_typing_rules.specs.Verdicts.{Stop, Broken, Nameless, Verdict, Stops, passing}
use Rattle.region_typing_scope.specs.Answering.{Answers}

-- what comes behind a rule that is kept
pub goes_on : {A B C D : Type 0} {view : C → A} {verdict : Verdict A} {x : C} {view' : D → B} {r : Result D CheckError} (next : A → Verdict B) → Answers view verdict (Ok x) → Answers view' (next (view x)) r → Answers view' (passing verdict next) r
goes_on next first rest = record { so = rw first.so rest.so }

-- a rule that is broken
stops : {A B C D : Type 0} (view : C → A) (verdict : Verdict A) (view' : D → B) (next : A → Verdict B) (e : CheckError) → Answers view verdict (Err e) → Answers view' (passing verdict next) (Err e)
stops view verdict view' next (Source fault) first = record { so = rw first.so refl }
stops view verdict view' next Unnamed first = record { so = rw first.so refl }
stops view verdict view' next NoMemory first = record { so = tt }

pub refused : {A B C D : Type 0} {view : C → A} {verdict : Verdict A} {view' : D → B} {e : CheckError} (next : A → Verdict B) (r : Result D CheckError) → IsErrAnd r (λ y. y ≡ e) → Answers view verdict (Err e) → Answers view' (passing verdict next) r
refused {view = view} {verdict = verdict} {view' = view'} {e = e} next r is first =
    let p = err_from_is_err_and r is in
    rw (p.1, p.2) (stops view verdict view' next e first)

refused_so : {A B C D : Type 0} (view : C → A) (v : Verdict A) (view' : D → B) (w : Verdict B) (e : CheckError) → ((stop : Stop) → v ≡ Stops stop → w ≡ Stops stop) → Answers view v (Err e) → Answers view' w (Err e)
refused_so view v view' w (Source fault) breaks part = record { so = breaks (Broken fault) part.so }
refused_so view v view' w Unnamed breaks part = record { so = breaks Nameless part.so }
refused_so view v view' w NoMemory breaks part = record { so = tt }

-- what a part is refused for the whole is refused for
pub refused_by : {A B C D : Type 0} {view : C → A} {v : Verdict A} {view' : D → B} {w : Verdict B} {e : CheckError} (r : Result D CheckError) → IsErrAnd r (λ y. y ≡ e) → ((stop : Stop) → v ≡ Stops stop → w ≡ Stops stop) → Answers view v (Err e) → Answers view' w r
refused_by {view = view} {v = v} {view' = view'} {w = w} {e = e} r is breaks part =
    let p = err_from_is_err_and r is in
    rw (p.1, p.2) (refused_so view v view' w e breaks part)
