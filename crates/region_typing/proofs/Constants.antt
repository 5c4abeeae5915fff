-- Constants, and the cells that they are in.
use Rattle.std.proofs.Common.{◌≡◌, ℕ, zero, suc, ◌+◌, ◌-◌, ◌<◌, ◌≤◌, ◌^◌, Bool, true, false, ◌&&◌, nat_lt, nat_le, Option, Some, None, List, [], ◌∷◌, ◌++◌, length, map, drop, get_or, append_assoc, refl, ap, sym, ◌∙◌, arith}
use Rattle.std.proofs.lemmas.List.{append-nil, drop_more, drop_all}
use Rattle.std.proofs.lemmas.Bool.Decides.{nat_tests}
use Rattle.std.proofs.Common.{ℤ, pos}
use Rattle.ckc_text.specs.declared.place.Span.{Span}
use Rattle.ckc_text.specs.declared.code.Code.TheVariants.{E04, E13}
use Rattle.ckc_tree.specs.Expressions.{Expression}
use Rattle.ckc_tree.specs.declared.stmt.SignedConstant.{SignedConstant}
use Rattle.std.specs.Option.{option_map}
use Rattle.pointer_modes.specs.Types.{CType, Int, Char, Struct, Pointer, Structure}
use Rattle.ckc_core.specs.Programs.{Initial}
use Rattle.ckc_core.specs.Steps.{low_byte}
use Rattle.region_typing_rules.specs.Verdicts.{Stop, Verdict, Passes, Stops, passing, needs, breaks, picked}
use Rattle.region_typing_rules.specs.Operands.{Places, Typed}
use Rattle.region_typing_rules.specs.Scopes.{Scope}
use Rattle.ckc_tree.specs.Statements as s
use Rattle.region_typing.specs.Items.{judged_initializer}
use Rattle.ckc_names_rules.specs.declared.given.Given.{Given}
use Rattle.region_typing_rules.specs.Cells.{cells_with}
use Rattle.region_typing_rules.specs.Items as rules
use Rattle.region_typing_rules.specs.Statements.{before_end}
use Rattle.region_typing_rules.specs.Items.{negative, is_zero, are_zeros, signed_constant, number_or_break, closed, object_cells, zeros_of, cells_listed, cells_or_break, listed_cells, unsigned_number, signed_number, small_constants}
use Rattle.region_typing.specs.Initials.{constant_cells, judged_as, judged_cells, kept_as, elements_of, listed, number_listed, number_more, numbers_listed, judged_numbers, Constants}

-- ---- cells by what is judged

written_cells_judged : (given : Given) (structs : List Structure) (t : CType) (ended : Bool) (value : Expression) (u : Typed) (span : Span)
    → object_cells given structs t None ended (rules.Written value u) span ≡ judged_cells structs t None ended (judged_as given (rules.Written value u)) span
written_cells_judged given structs Int ended value u span = refl
written_cells_judged given structs Char ended value u span = by (signed_constant given value)
  where
    by : (number : Option ℤ) → number_or_break number span (λ n. cells_with structs Char (low_byte n)) ≡ constant_cells structs Char (is_zero u) number span
    by None = refl
    by (Some number) = refl
written_cells_judged given structs (Struct number) ended value u span = refl
written_cells_judged given structs (Pointer mode kind target) ended value u span = by (is_zero u)
  where
    by : (zero : Bool) → needs zero E13 span (Passes (cells_with structs (Pointer mode kind target) (pos 0))) ≡ constant_cells structs (Pointer mode kind target) zero (signed_constant given value) span
    by true = refl
    by false = refl

shorter : (l n : ℕ) → nat_le (suc l) (suc n) ≡ nat_le l n
shorter l n = grind (arith, nat_tests)

-- elements that are listed, and zeros behind them
elements_listed : (structs : List Structure) (t : CType) (n : ℕ) (cs : List SignedConstant) → cells_listed structs t (λ z. kept_as t z) n cs
    ≡ picked (nat_le (length (map signed_number cs)) n) (Some (elements_of structs t (map signed_number cs) ++ zeros_of (n - length (map signed_number cs)) structs t)) None
elements_listed structs t n [] =
    let none : nat_le 0 n ≡ true = grind (arith, nat_tests) in
    let all : n - 0 ≡ n = omega arith in
    rw (none, all) refl
elements_listed structs t zero (c ∷ cs) =
    let many : nat_le (suc (length (map signed_number cs))) 0 ≡ false = grind (arith, nat_tests) in
    rw many refl
elements_listed structs t (suc n) (c ∷ cs) =
    let zs = map signed_number cs in
    let fewer : suc n - suc (length zs) ≡ n - length zs = omega arith in
    rw (shorter (length zs) n, fewer) (by (nat_le (length zs) n) (elements_listed structs t n cs))
  where
    by : (b : Bool) → cells_listed structs t (λ z. kept_as t z) n cs ≡ picked b (Some (elements_of structs t (map signed_number cs) ++ zeros_of (n - length (map signed_number cs)) structs t)) None
        → option_map (λ cells. cells_with structs t (kept_as t (signed_number c)) ++ cells) (cells_listed structs t (λ z. kept_as t z) n cs)
        ≡ picked b (Some ((cells_with structs t (kept_as t (signed_number c)) ++ elements_of structs t (map signed_number cs)) ++ zeros_of (n - length (map signed_number cs)) structs t)) None
    by true rest = rw rest (ap Some (sym (append_assoc (cells_with structs t (kept_as t (signed_number c))) (elements_of structs t (map signed_number cs)) (zeros_of (n - length (map signed_number cs)) structs t))))
    by false rest = rw rest refl

or_break : (b : Bool) (cells : List Initial) (span : Span) → cells_or_break (picked b (Some cells) None) span ≡ picked b (Passes cells) (breaks E13 span)
or_break true cells span = refl
or_break false cells span = refl

-- a test before one of the length
needed_first : (b short : Bool) (cells : List Initial) (span : Span) → needs b E13 span (picked short (Passes cells) (breaks E13 span)) ≡ picked (b && short) (Passes cells) (breaks E13 span)
needed_first true short cells span = refl
needed_first false short cells span = refl

list_judged : (structs : List Structure) (t : CType) (n : ℕ) (cs : List SignedConstant) (span : Span) → listed_cells structs t n cs span ≡ listed structs t n (are_zeros cs) (map signed_number cs) span
list_judged structs Int n cs span = ap (λ cells. cells_or_break cells span) (elements_listed structs Int n cs) ∙ or_break (nat_le (length (map signed_number cs)) n) _ span
list_judged structs Char n cs span = ap (λ cells. cells_or_break cells span) (elements_listed structs Char n cs) ∙ or_break (nat_le (length (map signed_number cs)) n) _ span
list_judged structs (Struct number) n cs span = refl
list_judged structs (Pointer mode kind target) n cs span =
    let t = Pointer mode kind target in
    let zs = map signed_number cs in
    let cells = elements_of structs t zs ++ zeros_of (n - length zs) structs t in
    ap (λ listed. needs (are_zeros cs) E13 span (cells_or_break listed span)) (elements_listed structs t n cs)
    ∙ ap (λ v. needs (are_zeros cs) E13 span v) (or_break (nat_le (length zs) n) cells span)
    ∙ needed_first (are_zeros cs) (nat_le (length zs) n) cells span

pub cells_judged : (given : Given) (structs : List Structure) (t : CType) (count : Option ℕ) (ended : Bool) (w : rules.Walked) (span : Span) → object_cells given structs t count ended w span ≡ judged_cells structs t count ended (judged_as given w) span
cells_judged given structs t None ended rules.Missing span = refl
cells_judged given structs t None ended (rules.Written value u) span = written_cells_judged given structs t ended value u span
cells_judged given structs t None ended (rules.Constants cs) span = refl
cells_judged given structs t (Some n) ended rules.Missing span = refl
cells_judged given structs t (Some n) ended (rules.Written value u) span = refl
cells_judged given structs t (Some n) ended (rules.Constants cs) span =
    ap (λ listed. passing listed (λ cells. Passes (closed ended structs t cells))) (list_judged structs t (before_end ended n) cs span)

-- ---- the constants of a list

small_then : {A B : Type 0} (xs : List SignedConstant) (v : A) (next : A → B) → passing (small_constants xs (Passes v)) (λ x. Passes (next x)) ≡ small_constants xs (Passes (next v))
small_then [] v next = refl
small_then (x ∷ xs) v next = test (nat_lt (unsigned_number x.constant) (2 ^ 31)) (small_then xs v next)
  where
    test : (b : Bool) → passing (small_constants xs (Passes v)) (λ y. Passes (next y)) ≡ small_constants xs (Passes (next v))
        → passing (needs b E04 x.span (small_constants xs (Passes v))) (λ y. Passes (next y)) ≡ needs b E04 x.span (small_constants xs (Passes (next v)))
    test true rest = rest
    test false rest = refl

-- what is judged of a list
pub list_parts : (at : Places) (g : Scope) (cs : List SignedConstant) (span : Span) → judged_initializer at g (Some (s.Constants cs span)) ≡ judged_numbers cs
list_parts at g cs span = small_then cs (rules.Constants cs) (judged_as g.given) ∙ sym (small_then cs (map signed_number cs) (Constants (are_zeros cs)))

-- a constant more, before those that are left
pub numbers_by_step : (c : SignedConstant) (cs : List SignedConstant) (done : List ℤ) → passing (numbers_listed (c ∷ cs)) (λ zs. Passes (done ++ zs))
    ≡ passing (passing (number_listed c) (λ z. Passes (done ++ z ∷ []))) (λ more. passing (numbers_listed cs) (λ zs. Passes (more ++ zs)))
numbers_by_step c cs done = by (nat_lt (unsigned_number c.constant) (2 ^ 31))
  where
    by : (b : Bool) → passing (needs b E04 c.span (small_constants cs (Passes (signed_number c ∷ map signed_number cs)))) (λ zs. Passes (done ++ zs))
        ≡ passing (passing (needs b E04 c.span (Passes (signed_number c))) (λ z. Passes (done ++ z ∷ []))) (λ more. passing (numbers_listed cs) (λ zs. Passes (more ++ zs)))
    by true =
        small_then cs (signed_number c ∷ map signed_number cs) (λ zs. done ++ zs)
        ∙ ap (λ zs. small_constants cs (Passes zs)) (sym (append_assoc done (signed_number c ∷ []) (map signed_number cs)))
        ∙ sym (small_then cs (map signed_number cs) (λ zs. (done ++ signed_number c ∷ []) ++ zs))
    by false = refl

-- a constant more, as it is pushed
pub number_pushed : (all : Verdict (List ℤ)) (xs : List SignedConstant) (i : ℕ) (x : SignedConstant) (built new : List ℤ) → i < length xs → x ≡ get_or xs i x
    → all ≡ passing (numbers_listed (drop i xs)) (λ zs. Passes (built ++ zs)) → number_more built x ≡ Passes new → all ≡ passing (numbers_listed (drop (i + 1) xs)) (λ zs. Passes (new ++ zs))
number_pushed all xs i x built new less is so_far passes =
    so_far ∙ ap (λ ys. passing (numbers_listed ys) (λ zs. Passes (built ++ zs))) (drop_more xs i x less ∙ ap (λ y. y ∷ drop (i + 1) xs) (sym is))
    ∙ numbers_by_step x (drop (i + 1) xs) built ∙ rw passes refl

pub number_breaks : (all : Verdict (List ℤ)) (xs : List SignedConstant) (i : ℕ) (x : SignedConstant) (built : List ℤ) (stop : Stop) → i < length xs → x ≡ get_or xs i x
    → all ≡ passing (numbers_listed (drop i xs)) (λ zs. Passes (built ++ zs)) → number_more built x ≡ Stops stop → all ≡ Stops stop
number_breaks all xs i x built stop less is so_far breaks =
    so_far ∙ ap (λ ys. passing (numbers_listed ys) (λ zs. Passes (built ++ zs))) (drop_more xs i x less ∙ ap (λ y. y ∷ drop (i + 1) xs) (sym is))
    ∙ numbers_by_step x (drop (i + 1) xs) built ∙ rw breaks refl

pub numbers_done : (all : Verdict (List ℤ)) (xs : List SignedConstant) (i : ℕ) (built : List ℤ) → length xs ≤ i → all ≡ passing (numbers_listed (drop i xs)) (λ zs. Passes (built ++ zs)) → all ≡ Passes built
numbers_done all xs i built end so_far =
    so_far ∙ ap (λ ys. passing (numbers_listed ys) (λ zs. Passes (built ++ zs))) (drop_all i xs end) ∙ ap Passes (append-nil built)

-- all constants are behind none
pub numbers_from : (v : Verdict (List ℤ)) → v ≡ passing v (λ zs. Passes ([] ++ zs))
numbers_from (Passes zs) = refl
numbers_from (Stops stop) = refl

-- ---- elements one by one

-- an element more
pub element_more : (structs : List Structure) (t : CType) (zs : List ℤ) (i : ℕ) (z : ℤ) (all built new : List Initial) → i < length zs → z ≡ get_or zs i z → new ≡ built ++ cells_with structs t (kept_as t z)
    → all ≡ built ++ elements_of structs t (drop i zs) → all ≡ new ++ elements_of structs t (drop (i + 1) zs)
element_more structs t zs i z all built new less is are so_far =
    so_far ∙ ap (λ ys. built ++ elements_of structs t ys) (drop_more zs i z less ∙ ap (λ y. y ∷ drop (i + 1) zs) (sym is))
    ∙ sym (append_assoc built (cells_with structs t (kept_as t z)) (elements_of structs t (drop (i + 1) zs)))
    ∙ ap (λ cells. cells ++ elements_of structs t (drop (i + 1) zs)) (sym are)

pub elements_done : (structs : List Structure) (t : CType) (zs : List ℤ) (i : ℕ) (all built : List Initial) → length zs ≤ i → all ≡ built ++ elements_of structs t (drop i zs) → built ≡ all
elements_done structs t zs i all built end so_far = sym (so_far ∙ ap (λ ys. built ++ elements_of structs t ys) (drop_all i zs end) ∙ append-nil built)

-- an element of zeros more
pub zeros_more : (structs : List Structure) (t : CType) (left : ℕ) (all built new : List Initial) → 0 < left → new ≡ built ++ cells_with structs t (pos 0)
    → all ≡ built ++ zeros_of left structs t → all ≡ new ++ zeros_of (left - 1) structs t
zeros_more structs t zero all built new some are so_far = absurd (omega arith)
zeros_more structs t (suc n) all built new some are so_far =
    let one : suc n - 1 ≡ n = omega arith in
    rw one (so_far ∙ sym (append_assoc built (cells_with structs t (pos 0)) (zeros_of n structs t)) ∙ ap (λ cells. cells ++ zeros_of n structs t) (sym are))

pub zeros_done : (structs : List Structure) (t : CType) (left : ℕ) (all built : List Initial) → left ≡ 0 → all ≡ built ++ zeros_of left structs t → built ≡ all
zeros_done structs t left all built none so_far = sym (so_far ∙ ap (λ n. built ++ zeros_of n structs t) none ∙ append-nil built)
