-- What a walk over all of a program's names comes to.
use Rattle.std.proofs.Common.{◌≡◌, ℕ, Bool, true, false, List, [], ◌∷◌, Result, Ok, Err, refl, sym, ap, ◌∙◌}
use Rattle.ckc_text.specs.declared.fault.Refused.{Refused}
use Rattle.ckc_text.specs.declared.fault.Refused.TheVariants.{Source, NoMemory}
use Rattle.ckc_text.specs.declared.code.Code.TheVariants.{E28}
use Rattle.ckc_text.specs.declared.fault.SourceFault.{SourceFault}
use Rattle.ckc_tree.specs.Items.{Tree}
use Rattle.ckc_tree.specs.Numbers.{numbered}
use Rattle.ckc_names_rules.specs.Given.{number_in}
use Rattle.ckc_names_rules.specs.Mentions.{Mention, Open, tree_mentions}
use Rattle.ckc_names_rules.specs.Scopes.{Scopes, mentioned, then_mentioned, all_mentioned, at_file_level}
use Rattle.ckc_names_rules.specs.Naming.{name_in, with_all, names_seen, has_main, start, need_main, names_if, naming_fault_in, names_of, NamedTree, Names}
use Rattle.ckc_names.specs.State.{State}
use Rattle.ckc_names.specs.Progress.{Progress, Passes, Finishes, beginning, after, known_behind}

after_fault : (ms : List Mention) (f : SourceFault) → after ms (Err f) ≡ Err f
after_fault [] f = refl
after_fault (m ∷ ms) f = after_fault ms f

-- the walk finds what is visible and what was seen, or the first fault
after_is : (ms : List Mention) (s : State) → after ms (Ok s) ≡ known_behind (names_seen ms s.names) (all_mentioned ms s.scopes)
after_is [] s = refl
after_is (m ∷ ms) s = by (mentioned m s.scopes) (λ u. after_is ms (record { scopes = u; names = with_all (name_in m) s.names }))
  where
    by : (q : Result Scopes SourceFault) → ((u : Scopes) → after ms (Ok (record { scopes = u; names = with_all (name_in m) s.names })) ≡ known_behind (names_seen ms (with_all (name_in m) s.names)) (all_mentioned ms u))
        → after ms (known_behind (with_all (name_in m) s.names) q) ≡ known_behind (names_seen ms (with_all (name_in m) s.names)) (then_mentioned q (all_mentioned ms))
    by (Ok u) rest = rest u
    by (Err f) rest = after_fault ms f

abbrev visible_in : Tree → Result Scopes SourceFault
visible_in t = all_mentioned (tree_mentions t) at_file_level

whole_walk : (t : Tree) (a b : Progress) → Passes (Open ∷ []) beginning a → Passes (tree_mentions t) a b → b.is_whole ≡ true → b.known ≡ known_behind (names_of t) (visible_in t)
whole_walk t a b opens goes whole =
    let behind = goes.passed whole in
    behind.1 ∙ ap (after (tree_mentions t)) (opens.passed behind.0).1 ∙ after_is (tree_mentions t) (record { scopes = at_file_level; names = [] })

fault_found : (names : List (List ℕ)) (q : Result Scopes SourceFault) (f : SourceFault) → Err f ≡ known_behind names q → q ≡ Err f
fault_found names (Ok u) f is = absurd (cc)
fault_found names (Err g) f is = sym (cc)

all_found : (names seen : List (List ℕ)) (scopes : Scopes) (q : Result Scopes SourceFault) → Ok (record { scopes = scopes; names = seen }) ≡ known_behind names q → (q ≡ Ok scopes) × (seen ≡ names)
all_found names seen scopes (Ok u) is =
    let same : record { scopes = scopes; names = seen } ≡ record { scopes = u; names = names } = cc in
    (ap (λ (s : State). Ok s.scopes) (sym same), ap (λ (s : State). s.names) same)
all_found names seen scopes (Err g) is = absurd (cc)

-- a fault of the walk is that of the program
pub refused_names : {N : Type 0} (view : N → NamedTree) (t : Tree) (a b : Progress) (e : Refused) → Passes (Open ∷ []) beginning a → Passes (tree_mentions t) a b → Finishes b (Err e) → Names view t (Err e)
refused_names view t a b (Source f) opens goes ends =
    ap (naming_fault_in (has_main t)) (fault_found (names_of t) (visible_in t) f (sym ends.1 ∙ whole_walk t a b opens goes ends.0))
refused_names view t a b NoMemory opens goes ends = tt

found : (t : Tree) (a b : Progress) (names : List (List ℕ)) → Passes (Open ∷ []) beginning a → Passes (tree_mentions t) a b → (ends : Finishes b (Ok names)) → (visible_in t ≡ Ok ends.1.0) × (names ≡ names_of t)
found t a b names opens goes ends = all_found (names_of t) names ends.1.0 (visible_in t) (sym ends.1.1 ∙ whole_walk t a b opens goes ends.0)

-- where the walk finds none, the names are those of the program, if it has a `main`
pub main_names : (t : Tree) (a b : Progress) (names : List (List ℕ)) → Passes (Open ∷ []) beginning a → Passes (tree_mentions t) a b → Finishes b (Ok names) → Names (λ names. record { tree = numbered (number_in names) t; names = names }) t (names_if (has_main t) names)
main_names t a b names opens goes ends = by (has_main t) refl (found t a b names opens goes ends)
  where
    by : (main : Bool) → has_main t ≡ main → (visible_in t ≡ Ok ends.1.0) × (names ≡ names_of t) → Names (λ names. record { tree = numbered (number_in names) t; names = names }) t (names_if main names)
    by true is all = (ap (λ m. naming_fault_in m (visible_in t)) is ∙ ap (naming_fault_in true) all.0, ap (λ (names : List (List ℕ)). record { tree = numbered (number_in names) t; names = names }) all.1)
    by false is all = ap (λ m. naming_fault_in m (visible_in t)) is ∙ ap (naming_fault_in false) all.0

-- ---- `main`

pub names_with_main : (main : Bool) (names : List (List ℕ)) → Ok tt ≡ need_main main → Ok names ≡ names_if main names
names_with_main true names is = refl
names_with_main false names is = absurd (cc)

pub refused_without_main : (main : Bool) (names : List (List ℕ)) (e : Refused) → Err e ≡ need_main main → Err e ≡ names_if main names
refused_without_main true names e is = absurd (cc)
refused_without_main false names e is = let same : e ≡ Source (record { code = E28; span = start }) = cc in rw same refl
