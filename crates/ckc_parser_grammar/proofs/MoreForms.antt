-- Further forms that are built of others: parts that may be left out, parts without nodes, nodes that are put with their
-- first token, and lists. For each that reading it goes one way, and where it fails.
use Rattle.std.proofs.Common.{◌≡◌, ◌≤◌, ◌<◌, ◌+◌, ◌⊎◌, inl, inr, ℕ, zero, suc, nat_lt, length, Bool, true, false, List, [], ◌∷◌, refl, sym, ap, subst, ◌∙◌, arith}
use Rattle.std.proofs.lemmas.Bool.{ltb-true, ltb-false, lt-ltb, le-ltb}
use Rattle.ckc_text.specs.declared.place.Span.{Span}
use Rattle.ckc_lexer.specs.declared.token.Token.{Token}
use Rattle.ckc_lexer.specs.declared.token.TokenKind.{TokenKind}
use Rattle.ckc_tree.specs.Heights.{Reach, nowhere, around, ◌beside◌}
use Rattle.ckc_parser_grammar.specs.Tokens.{token, next_is, start_of}
use Rattle.ckc_parser_grammar.specs.TypeBeginnings.{begun}
use Rattle.ckc_parser_grammar.specs.Failures as failures
use Rattle.ckc_parser_grammar.specs.Failures.{Failure, IsLow}
use Rattle.ckc_parser_grammar.proofs.Paths.{beside_nowhere, around_height, beside_height, low_around, low_beside}
use Rattle.ckc_parser_grammar.proofs.Forms.{Is, it, HeadS, HeadB, OneHead, head_exact, ◌ends◌, all, later, end_length, end_trans, end_same, Read, ExactBelow, Exact, exact_on_all, below, within, tokens_same, reach_same, move, beside_same, SeqS, SeqB, seq, in_first, in_second, AfterS, AfterB, not_yet, EitherS, yes, no}
use Rattle.ckc_parser_grammar.proofs.Ahead.{never}
use Rattle.ckc_parser_grammar.proofs.Forms as forms
use Rattle.ckc_parser_grammar.proofs.Failing.{Fails, unexpected, too_deep, no_memory, beside_higher, deep_around, inner_start, longer, fails_after}

-- ---- reaches

beside_lower : (p q : Reach) → q.height ≤ p.height → p beside q ≡ p
beside_lower p q less = rw (le-ltb p.height q.height less) refl

pub beside_assoc : (p q r : Reach) → p beside q beside r ≡ p beside (q beside r)
beside_assoc p q r = by_tests (nat_lt p.height q.height) refl (nat_lt q.height r.height) refl
  where
    on_right : {x y : Reach} → x ≡ y → p beside x ≡ p beside y
    on_right same = ap (λ (x : Reach). p beside x) same

    on_left : {x y : Reach} → x ≡ y → x beside r ≡ y beside r
    on_left same = ap (λ (x : Reach). x beside r) same

    by_tests : (a : Bool) → nat_lt p.height q.height ≡ a → (b : Bool) → nat_lt q.height r.height ≡ b → p beside q beside r ≡ p beside (q beside r)
    by_tests true f true g =
        let a = ltb-true p.height q.height f in
        let b = ltb-true q.height r.height g in
        let k = beside_higher q r b in
        on_left (beside_higher p q a) ∙ k ∙ sym (on_right k ∙ beside_higher p r (omega (arith, a, b)))
    by_tests true f false g =
        let k = beside_lower q r (ltb-false q.height r.height g) in
        let l = beside_higher p q (ltb-true p.height q.height f) in
        on_left l ∙ k ∙ sym (on_right k ∙ l)
    by_tests false f true g =
        on_left (beside_lower p q (ltb-false p.height q.height f)) ∙ sym (on_right (beside_higher q r (ltb-true q.height r.height g)))
    by_tests false f false g =
        let a = ltb-false p.height q.height f in
        let b = ltb-false q.height r.height g in
        let l = beside_lower p q a in
        on_left l ∙ beside_lower p r (omega (arith, a, b)) ∙ sym (on_right (beside_lower q r b) ∙ l)

-- where a node holds something, its start doesn't matter
pub around_any : (s t : ℕ) (r : Reach) → 0 < r.height → around s r ≡ around t r
around_any s t r high = by_height r.height refl
  where
    by_height : (n : ℕ) → r.height ≡ n → around s r ≡ around t r
    by_height zero same = absurd (omega (arith, same, high))
    by_height (suc n) same = rw same refl

pub begun_node : (ts rest : List Token) (r : Reach) → length rest < length ts → begun ts rest r ≡ around (start_of ts) r
begun_node ts rest r less = rw (lt-ltb (length rest) (length ts) less) refl

pub begun_nothing : (ts : List Token) (r : Reach) → begun ts ts r ≡ nowhere
begun_nothing ts r = rw (le-ltb (length ts) (length ts) (omega arith)) refl

-- a form with another reach
pub reach_is : (F : List Token → List Token → Reach → Type 0) {ts m : List Token} {p q : Reach} → p ≡ q → F ts m p → F ts m q
reach_is F {ts} {m} same a = subst (F ts m) same a

pub beside_high : (p q : Reach) → 0 < p.height → 0 < (p beside q).height
beside_high p q high = omega (arith, high, (beside_height p q).0)

-- ---- what starts a form

-- a form that begins with such a token alone
pub record Starts (is : TokenKind → Bool) (B : List Token → List Token → Reach → Type 0) : Type 0 where
  pub none : {ts rest : List Token} {q : Reach} → B ts rest q → next_is is ts ≡ false → rest ≡ ts
  pub here : (ts : List Token) → B ts ts nowhere

-- tests that no token meets both of
abbrev pub Apart : (TokenKind → Bool) → (TokenKind → Bool) → Type 0
Apart is other = (k : TokenKind) → is k ≡ true → other k ≡ false

pub next_apart : {is other : TokenKind → Bool} → Apart is other → (ts : List Token) → next_is is ts ≡ true → next_is other ts ≡ false
next_apart apart [] so = absurd cc
next_apart apart (t ∷ ts) so = apart t.kind so

-- the next token is such a one or not
pub by_next : {A : Type 0} (is : TokenKind → Bool) (ts : List Token) → (next_is is ts ≡ true → A) → (next_is is ts ≡ false → A) → A
by_next {A} is ts f g = by_test (next_is is ts) refl
  where
    by_test : (b : Bool) → next_is is ts ≡ b → A
    by_test true so = f so
    by_test false so = g so

-- what is read of nothing is read of each form
pub nothing_read : (C : List Token → List Token → Reach → Type 0) {ts rest : List Token} {q : Reach} → rest ≡ ts → q ≡ nowhere → C ts ts nowhere → C ts rest q
nothing_read C {ts} {rest} same base c = subst (λ (x : Reach). C ts rest x) (sym base) (subst (λ (x : List Token). C ts x nowhere) (sym same) c)

-- one of two forms, by the token with which what is in it starts
pub or_left : {is : TokenKind → Bool} {S B D C : List Token → List Token → Reach → Type 0} → Exact nowhere S B → Starts is B → ((ts : List Token) → C ts ts nowhere) → ((ts rest : List Token) (q : Reach) → B ts rest q → D ts rest q) → (ts rest : List Token) (q : Reach) → B ts rest q → EitherS (next_is is) D C ts rest q
or_left {is} {C} e s here up ts rest q c = by_next is ts (λ so. yes so (up ts rest q c)) (λ so. let same = s.none c so in no so (nothing_read C same (e.nothing c same) (here ts)))

pub or_right : {is other : TokenKind → Bool} {S B C D : List Token → List Token → Reach → Type 0} → Exact nowhere S C → Apart is other → Starts other C → ((ts : List Token) → B ts ts nowhere) → ((ts rest : List Token) (q : Reach) → C ts rest q → D ts rest q) → (ts rest : List Token) (q : Reach) → C ts rest q → EitherS (next_is is) B D ts rest q
or_right {is} {B} e apart s here up ts rest q c = by_next is ts (λ so. let same = s.none c (next_apart apart ts so) in yes so (nothing_read B same (e.nothing c same) (here ts))) (λ so. no so (up ts rest q c))

-- what has a node takes a token
takes_below : {n : ℕ} {S B : List Token → List Token → Reach → Type 0} → ExactBelow n nowhere S B → {ts rest : List Token} {q : Reach} → length ts < n → B ts rest q → 0 < q.height → length rest < length ts
takes_below e {ts} {rest} less c high = by_end (e.ended less c) refl
  where
    by_end : {us : List Token} → rest ends us → us ≡ ts → length rest < length ts
    by_end all same = let base = e.nothing less c same in absurd (omega (arith, high, ap (λ (x : Reach). x.height) base))
    by_end (later f) same = omega (arith, end_length f, ap length same)

pub takes : {S B : List Token → List Token → Reach → Type 0} → Exact nowhere S B → {ts rest : List Token} {q : Reach} → B ts rest q → 0 < q.height → length rest < length ts
takes e {ts} c high = takes_below {n = suc (length ts)} (below e) (omega arith) c high

pub shrinks : {S B : List Token → List Token → Reach → Type 0} → Exact nowhere S B → {ts m : List Token} {r : Reach} → S ts m r → 0 < r.height → length m < length ts
shrinks e a high = takes e (e.spelled a) high

pub starts_whole : {is : TokenKind → Bool} {S B : List Token → List Token → Reach → Type 0} → Exact nowhere S B → Starts is B → {ts m : List Token} {r : Reach} → S ts m r → 0 < r.height → next_is is ts ≡ true
starts_whole {is} e s {ts} a high = by_next is ts (λ so. so) (λ so. absurd (omega (arith, shrinks e a high, ap length (s.none (e.spelled a) so))))

-- where no token that starts it stands
pub fails_unstarted : {d : ℕ} {is : TokenKind → Bool} {S B : List Token → List Token → Reach → Type 0} {ts : List Token} → Exact nowhere S B → Starts is B → ((m : List Token) (r : Reach) → S ts m r → 0 < r.height) → d ≤ 200 → next_is is ts ≡ false → Fails d S B ts (failures.unexpected ts)
fails_unstarted {S} {B} {ts} e s high low none = unexpected (s.here ts) (omega (arith, low)) (λ m q a. never (starts_whole e s a (high m q a)) none) (λ t rest q is c. absurd (omega (arith, ap length is, ap length (s.none c none))))

-- ---- a token, and a form by its first token

pub is_it : (is : TokenKind → Bool) {k : TokenKind} → is k ≡ true → (j : TokenKind) → Is k j → is j ≡ true
is_it is so k it = so

pub head_all : {H : Type 0} {Is : TokenKind → H → Type 0} {base : H → ℕ → Reach} {S B : H → ℕ → List Token → List Token → Reach → Type 0} → OneHead Is → ((h : H) (start : ℕ) → Exact (base h start) (S h start) (B h start)) → Exact nowhere (HeadS Is S) (HeadB Is B)
head_all only e = exact_on_all (λ n. within (head_exact only (λ h start. below (e h start))))

-- ---- a part that may be left out

pub data OptionalS (K : TokenKind → Type 0) (is : TokenKind → Bool) (S : List Token → List Token → Reach → Type 0) : List Token → List Token → Reach → Type 0 where
  absent : {ts : List Token} → next_is is ts ≡ false → OptionalS K is S ts ts nowhere
  present : {k : TokenKind} {s : Span} {ts m : List Token} {r : Reach} → K k → S ts m r → OptionalS K is S (token k s ∷ ts) m r

pub optional_exact : {n : ℕ} {K : TokenKind → Type 0} {is : TokenKind → Bool} {base : Reach} {S B : List Token → List Token → Reach → Type 0} → ((k : TokenKind) → K k → is k ≡ true) → ExactBelow n base S B → ExactBelow (suc n) nowhere (OptionalS K is S) (AfterB K B)
optional_exact {n} {K} {is} {base} {S} {B} known e = record { one = one; spelled = spelled; longest = longest; whole = whole; nothing = nothing; ended = ended }
  where
    one : {ts m m' : List Token} {r r' : Reach} → length ts < suc n → OptionalS K is S ts m r → OptionalS K is S ts m' r' → ◌≡◌ {A = Read} (m, r) (m', r')
    one less (absent f) (absent f') = refl
    one less (absent f) (present t a) = never (known _ t) f
    one less (present t a) (absent f) = never (known _ t) f
    one less (present t a) (present t' a') = e.one (omega (arith, less)) a a'

    spelled : {ts m : List Token} {r : Reach} → length ts < suc n → OptionalS K is S ts m r → AfterB K B ts m r
    spelled less (absent f) = not_yet
    spelled less (present t a) = forms.after t (e.spelled (omega (arith, less)) a)

    ended : {ts rest : List Token} {q : Reach} → length ts < suc n → AfterB K B ts rest q → rest ends ts
    ended less not_yet = all
    ended less (forms.after t c) = later (e.ended (omega (arith, less)) c)

    longest : {ts m rest : List Token} {r q : Reach} → length ts < suc n → OptionalS K is S ts m r → AfterB K B ts rest q → m ends rest
    longest less (absent f) not_yet = all
    longest less (absent f) (forms.after t c) = never (known _ t) f
    longest less (present t a) not_yet = later (e.ended (omega (arith, less)) (e.spelled (omega (arith, less)) a))
    longest less (present t a) (forms.after t' c) = e.longest (omega (arith, less)) a c

    whole : {ts m rest : List Token} {r q : Reach} → length ts < suc n → OptionalS K is S ts m r → AfterB K B ts rest q → rest ≡ m → q ≡ r
    whole less (absent f) not_yet same = refl
    whole less (absent f) (forms.after t c) same = never (known _ t) f
    whole less (present t a) not_yet same = absurd (omega (arith, end_length (e.ended (omega (arith, less)) (e.spelled (omega (arith, less)) a)), ap length same))
    whole less (present t a) (forms.after t' c) same = e.whole (omega (arith, less)) a c same

    nothing : {ts rest : List Token} {q : Reach} → length ts < suc n → AfterB K B ts rest q → rest ≡ ts → q ≡ nowhere
    nothing less not_yet same = refl
    nothing less (forms.after t c) same = absurd (omega (arith, end_length (e.ended (omega (arith, less)) c), ap length same))

pub optional_all : {K : TokenKind → Type 0} {is : TokenKind → Bool} {base : Reach} {S B : List Token → List Token → Reach → Type 0} → ((k : TokenKind) → K k → is k ≡ true) → Exact base S B → Exact nowhere (OptionalS K is S) (AfterB K B)
optional_all known e = exact_on_all (λ n. within (optional_exact known (below e)))

-- what is spelled in fewer ways fails where what is spelled in more does
pub fails_fewer : {d : ℕ} {S T B : List Token → List Token → Reach → Type 0} {ts : List Token} {f : Failure} → ((m : List Token) (r : Reach) → S ts m r → T ts m r) → Fails d T B ts f → Fails d S B ts f
fails_fewer to no_memory = no_memory
fails_fewer to (unexpected b low whole further) = unexpected b low (λ m q a. whole m q (to m q a)) further
fails_fewer to (too_deep b low deep at every) = too_deep b low deep at every

pub fails_present : {d : ℕ} {k : TokenKind} {s : Span} {base : Reach} {K : TokenKind → Type 0} {is : TokenKind → Bool} {S B : List Token → List Token → Reach → Type 0} {ts : List Token} {f : Failure} → ((k : TokenKind) → K k → is k ≡ true) → K k → Exact base S B → Fails d S B ts f → Fails d (OptionalS K is S) (AfterB K B) (token k s ∷ ts) f
fails_present {k} {s} {K} {is} {S} {ts} known first e f = fails_fewer to (fails_after first e f)
  where
    to : (m : List Token) (r : Reach) → OptionalS K is S (token k s ∷ ts) m r → AfterS K S (token k s ∷ ts) m r
    to m r (absent g) = never (known k first) g
    to m r (present t a) = forms.after t a

-- ---- a part without nodes before a form

pub data LeadS (S T : List Token → List Token → Reach → Type 0) : List Token → List Token → Reach → Type 0 where
  lead : {ts mid m : List Token} {q : Reach} → S ts mid nowhere → T mid m q → LeadS S T ts m q

pub data LeadB (S B C : List Token → List Token → Reach → Type 0) : List Token → List Token → Reach → Type 0 where
  in_lead : {ts rest : List Token} {q : Reach} → B ts rest q → LeadB S B C ts rest q
  behind_lead : {ts mid rest : List Token} {q : Reach} → S ts mid nowhere → C mid rest q → LeadB S B C ts rest q

pub lead_exact : {n : ℕ} {S B T C : List Token → List Token → Reach → Type 0} → ExactBelow n nowhere S B → ExactBelow n nowhere T C → ExactBelow n nowhere (LeadS S T) (LeadB S B C)
lead_exact {n} {S} {B} {T} {C} e f = record { one = one; spelled = spelled; longest = longest; whole = whole; nothing = nothing; ended = ended }
  where
    short : {ts mid : List Token} → length ts < n → S ts mid nowhere → length mid < n
    short less a = omega (arith, less, end_length (e.ended less (e.spelled less a)))

    one : {ts m m' : List Token} {r r' : Reach} → length ts < n → LeadS S T ts m r → LeadS S T ts m' r' → ◌≡◌ {A = Read} (m, r) (m', r')
    one less (lead a b) (lead a' b') = f.one (short less a) b (move T (tokens_same (e.one less a a')) b')

    spelled : {ts m : List Token} {r : Reach} → length ts < n → LeadS S T ts m r → LeadB S B C ts m r
    spelled less (lead a b) = behind_lead a (f.spelled (short less a) b)

    longest : {ts m rest : List Token} {r q : Reach} → length ts < n → LeadS S T ts m r → LeadB S B C ts rest q → m ends rest
    longest less (lead a b) (in_lead c) = end_trans (f.ended (short less a) (f.spelled (short less a) b)) (e.longest less a c)
    longest less (lead a b) (behind_lead a' c) = f.longest (short less a) b (move C (tokens_same (e.one less a a')) c)

    whole : {ts m rest : List Token} {r q : Reach} → length ts < n → LeadS S T ts m r → LeadB S B C ts rest q → rest ≡ m → q ≡ r
    whole {m} less (lead {mid} a b) (in_lead c) same =
        let begun = f.spelled (short less a) b in
        let here : m ≡ mid = end_same (f.ended (short less a) begun) (omega (arith, end_length (e.longest less a c), ap length same)) in
        e.whole less a c (same ∙ here) ∙ sym (f.nothing (short less a) begun here)
    whole less (lead a b) (behind_lead a' c) same = f.whole (short less a) b (move C (tokens_same (e.one less a a')) c) same

    nothing : {ts rest : List Token} {q : Reach} → length ts < n → LeadB S B C ts rest q → rest ≡ ts → q ≡ nowhere
    nothing less (in_lead c) same = e.nothing less c same
    nothing less (behind_lead a c) same =
        let here = end_same (e.ended less (e.spelled less a)) (omega (arith, end_length (f.ended (short less a) c), ap length same)) in
        f.nothing (short less a) c (rw (same, here) refl)

    ended : {ts rest : List Token} {q : Reach} → length ts < n → LeadB S B C ts rest q → rest ends ts
    ended less (in_lead c) = e.ended less c
    ended less (behind_lead a c) = end_trans (f.ended (short less a) c) (e.ended less (e.spelled less a))

pub lead_all : {S B T C : List Token → List Token → Reach → Type 0} → Exact nowhere S B → Exact nowhere T C → Exact nowhere (LeadS S T) (LeadB S B C)
lead_all e f = exact_on_all (λ n. lead_exact (below e) (below f))

pub fails_in_lead : {d : ℕ} {S B T C : List Token → List Token → Reach → Type 0} {ts : List Token} {f : Failure} → Exact nowhere S B → Exact nowhere T C → Fails d S B ts f → Fails d (LeadS S T) (LeadB S B C) ts f
fails_in_lead e g no_memory = no_memory
fails_in_lead {S} {B} {T} {C} {ts} e g (unexpected {at} b low whole further) = unexpected (in_lead b) low no_whole no_further
  where
    no_whole : (m : List Token) (q : Reach) → LeadS S T ts m q → ⊥
    no_whole m q (lead a b) = whole _ _ a

    no_further : (t : Token) (rest : List Token) (q : Reach) → at ≡ t ∷ rest → LeadB S B C ts rest q → ⊥
    no_further t rest q same (in_lead c) = further t rest q same c
    no_further t rest q same (behind_lead a c) = whole _ _ a
fails_in_lead {d} {S} {B} {T} {C} {ts} e g (too_deep {behind} {start} b low deep at every) = too_deep (in_lead b) low (in_lead deep) at each
  where
    each : (q : Reach) → LeadB S B C ts behind q → (200 < d + q.height) × (start ≤ q.start)
    each q (in_lead c) = every q c
    each q (behind_lead {mid} a c) =
        let here : mid ≡ behind = end_same (e.longest a deep) (end_length (g.ended c)) in
        rw (g.nothing c (sym here)) (every nowhere (subst (λ (x : List Token). B ts x nowhere) here (e.spelled a)))

pub fails_behind_lead : {d : ℕ} {S B T C : List Token → List Token → Reach → Type 0} {ts mid : List Token} {f : Failure} → Exact nowhere S B → Exact nowhere T C → S ts mid nowhere → Fails d T C mid f → Fails d (LeadS S T) (LeadB S B C) ts f
fails_behind_lead e g a no_memory = no_memory
fails_behind_lead {S} {B} {T} {C} {ts} {mid} e g a (unexpected {at} b low whole further) = unexpected (behind_lead a b) low no_whole no_further
  where
    no_whole : (m : List Token) (q : Reach) → LeadS S T ts m q → ⊥
    no_whole m q (lead a' b') = whole _ _ (move T (tokens_same (e.one a a')) b')

    no_further : (t : Token) (rest : List Token) (q : Reach) → at ≡ t ∷ rest → LeadB S B C ts rest q → ⊥
    no_further t rest q same (in_lead c) = longer same (g.ended b) (e.longest a c)
    no_further t rest q same (behind_lead a' c) = further t rest _ same (move C (tokens_same (e.one a a')) c)
fails_behind_lead {d} {S} {B} {T} {C} {ts} {mid} e g a (too_deep {behind} {start} b low deep at every) = too_deep (behind_lead a b) low (behind_lead a deep) at each
  where
    each : (q : Reach) → LeadB S B C ts behind q → (200 < d + q.height) × (start ≤ q.start)
    each q (in_lead c) = longer refl (g.ended b) (e.longest a c)
    each q (behind_lead a' c) = every q (move C (tokens_same (e.one a a')) c)

-- ---- a form with what was read before it

pub data SideS (p : Reach) (S : List Token → List Token → Reach → Type 0) : List Token → List Token → Reach → Type 0 where
  side : {ts m : List Token} {q : Reach} → S ts m q → SideS p S ts m (p beside q)

pub side_exact : {p : Reach} {n : ℕ} {S B : List Token → List Token → Reach → Type 0} → ExactBelow n nowhere S B → ExactBelow n p (SideS p S) (SideS p B)
side_exact {p} {n} {S} {B} e = record { one = one; spelled = spelled; longest = longest; whole = whole; nothing = nothing; ended = ended }
  where
    one : {ts m m' : List Token} {r r' : Reach} → length ts < n → SideS p S ts m r → SideS p S ts m' r' → ◌≡◌ {A = Read} (m, r) (m', r')
    one less (side a) (side a') = ap (λ (x : Read). (x.0, p beside x.1)) (e.one less a a')

    spelled : {ts m : List Token} {r : Reach} → length ts < n → SideS p S ts m r → SideS p B ts m r
    spelled less (side a) = side (e.spelled less a)

    longest : {ts m rest : List Token} {r q : Reach} → length ts < n → SideS p S ts m r → SideS p B ts rest q → m ends rest
    longest less (side a) (side c) = e.longest less a c

    whole : {ts m rest : List Token} {r q : Reach} → length ts < n → SideS p S ts m r → SideS p B ts rest q → rest ≡ m → q ≡ r
    whole less (side a) (side c) same = ap (λ (x : Reach). p beside x) (e.whole less a c same)

    nothing : {ts rest : List Token} {q : Reach} → length ts < n → SideS p B ts rest q → rest ≡ ts → q ≡ p
    nothing less (side c) same = ap (λ (x : Reach). p beside x) (e.nothing less c same) ∙ beside_nowhere p

    ended : {ts rest : List Token} {q : Reach} → length ts < n → SideS p B ts rest q → rest ends ts
    ended less (side c) = e.ended less c

pub side_all : {p : Reach} {S B : List Token → List Token → Reach → Type 0} → Exact nowhere S B → Exact p (SideS p S) (SideS p B)
side_all e = exact_on_all (λ n. side_exact (below e))

pub fails_side : {d : ℕ} {p : Reach} {S B : List Token → List Token → Reach → Type 0} {ts : List Token} {f : Failure} → IsLow d p → Fails d S B ts f → Fails d (SideS p S) (SideS p B) ts f
fails_side high no_memory = no_memory
fails_side {d} {p} {S} {B} {ts} high (unexpected {at} {r} b low whole further) = unexpected (side b) (low_beside d p r high low) no_whole no_further
  where
    no_whole : (m : List Token) (q : Reach) → SideS p S ts m q → ⊥
    no_whole m q (side a) = whole _ _ a

    no_further : (t : Token) (rest : List Token) (q : Reach) → at ≡ t ∷ rest → SideS p B ts rest q → ⊥
    no_further t rest q same (side c) = further t rest _ same c
fails_side {d} {p} {S} {B} {ts} high (too_deep {behind} {p = q} {r} {start} b low deep at every) =
    too_deep (side b) (low_beside d p q high low) (side deep) (at ∙ ap (λ (x : Reach). x.start) (sym (higher r deep))) each
  where
    higher : (q : Reach) → B ts behind q → p beside q ≡ q
    higher q c = beside_higher p q (omega (arith, high, (every q c).0))

    each : (q : Reach) → SideS p B ts behind q → (200 < d + q.height) × (start ≤ q.start)
    each q (side {q = inner} c) = rw (higher inner c) (every inner c)

-- ---- a node that is put with its first token

pub data PutS (S : List Token → List Token → Reach → Type 0) : List Token → List Token → Reach → Type 0 where
  put : {ts m : List Token} {r : Reach} → S ts m r → PutS S ts m (begun ts m r)

pub put_exact : {n : ℕ} {base : Reach} {S B : List Token → List Token → Reach → Type 0} → ExactBelow n base S B → ExactBelow n nowhere (PutS S) (PutS B)
put_exact {n} {base} {S} {B} e = record { one = one; spelled = spelled; longest = longest; whole = whole; nothing = nothing; ended = ended }
  where
    one : {ts m m' : List Token} {r r' : Reach} → length ts < n → PutS S ts m r → PutS S ts m' r' → ◌≡◌ {A = Read} (m, r) (m', r')
    one {ts} less (put a) (put a') = ap (λ (x : Read). (x.0, begun ts x.0 x.1)) (e.one less a a')

    spelled : {ts m : List Token} {r : Reach} → length ts < n → PutS S ts m r → PutS B ts m r
    spelled less (put a) = put (e.spelled less a)

    longest : {ts m rest : List Token} {r q : Reach} → length ts < n → PutS S ts m r → PutS B ts rest q → m ends rest
    longest less (put a) (put c) = e.longest less a c

    whole : {ts m rest : List Token} {r q : Reach} → length ts < n → PutS S ts m r → PutS B ts rest q → rest ≡ m → q ≡ r
    whole {ts} {m} less (put a) (put {r} c) same = ap (λ (x : List Token). begun ts x r) same ∙ ap (begun ts m) (e.whole less a c same)

    nothing : {ts rest : List Token} {q : Reach} → length ts < n → PutS B ts rest q → rest ≡ ts → q ≡ nowhere
    nothing {ts} less (put {r} c) same = ap (λ (x : List Token). begun ts x r) same ∙ begun_nothing ts r

    ended : {ts rest : List Token} {q : Reach} → length ts < n → PutS B ts rest q → rest ends ts
    ended less (put c) = e.ended less c

pub put_all : {base : Reach} {S B : List Token → List Token → Reach → Type 0} → Exact base S B → Exact nowhere (PutS S) (PutS B)
put_all e = exact_on_all (λ n. put_exact (below e))

-- the node of what has one in it
pub put_node : {S B : List Token → List Token → Reach → Type 0} {ts rest : List Token} {q : Reach} → Exact nowhere S B → (start : ℕ) → B ts rest q → 0 < q.height → begun ts rest q ≡ around start q
put_node {ts} {rest} {q} e start c high = begun_node ts rest q (takes e c high) ∙ around_any (start_of ts) start q high

low_begun : (d : ℕ) (ts rest : List Token) (r : Reach) → IsLow (suc d) r → IsLow d (begun ts rest r)
low_begun d ts rest r low = by_test (nat_lt (length rest) (length ts)) refl
  where
    by_test : (b : Bool) → nat_lt (length rest) (length ts) ≡ b → IsLow d (begun ts rest r)
    by_test true less = rw less (low_around d (start_of ts) r low)
    by_test false less = rw less (omega (arith, low))

pub fails_put : {d : ℕ} {base : Reach} {S B : List Token → List Token → Reach → Type 0} {ts : List Token} {f : Failure} → Exact base S B → d < 200 → Fails (suc d) S B ts f → Fails d (PutS S) (PutS B) ts f
fails_put e some no_memory = no_memory
fails_put {d} {base} {S} {B} {ts} e some (unexpected {at} {r} b low whole further) = unexpected (put b) (low_begun d ts at r low) no_whole no_further
  where
    no_whole : (m : List Token) (q : Reach) → PutS S ts m q → ⊥
    no_whole m q (put a) = whole _ _ a

    no_further : (t : Token) (rest : List Token) (q : Reach) → at ≡ t ∷ rest → PutS B ts rest q → ⊥
    no_further t rest q same (put c) = further t rest _ same c
fails_put {d} {base} {S} {B} {ts} e some (too_deep {t} {behind} {p} {r} {start} b low deep at every) =
    too_deep (put b) (low_begun d ts (t ∷ behind) p low) (put deep) (at ∙ sym (inner_start (start_of ts) r (omega (arith, some, (every r deep).0))) ∙ ap (λ (x : Reach). x.start) (sym (begun_node ts behind r less))) each
  where
    less : length behind < length ts
    less = omega (arith, end_length (e.ended b))

    each : (q : Reach) → PutS B ts behind q → (200 < d + q.height) × (start ≤ q.start)
    each q (put {r = inner} c) = rw (begun_node ts behind inner less) (deep_around d (start_of ts) inner (every inner c) some)

-- the first token of a form puts no node that starts elsewhere
pub record PutsFirst (is : TokenKind → Bool) (B : List Token → List Token → Reach → Type 0) : Type 0 where
  pub one : {k : TokenKind} {s : Span} {rest : List Token} → is k ≡ true → (r : Reach) × B (token k s ∷ rest) rest r
  pub start : {t : Token} {ts rest : List Token} {r : Reach} → B (t ∷ ts) rest r → length rest ≡ length ts → (r.height ≡ 0) ⊎ (r.start ≡ t.span.from)

first_start : (s : ℕ) (r : Reach) → (r.height ≡ 0) ⊎ (r.start ≡ s) → (around s r).start ≡ s
first_start s r h = by_height r.height refl h
  where
    by_height : (n : ℕ) → r.height ≡ n → (r.height ≡ 0) ⊎ (r.start ≡ s) → (around s r).start ≡ s
    by_height zero same h = rw same refl
    by_height (suc n) same (inl none) = absurd (omega (arith, same, none))
    by_height (suc n) same (inr at) = rw same at

-- where no node may stand
pub fails_put_deep : {d : ℕ} {is : TokenKind → Bool} {k : TokenKind} {s : Span} {base : Reach} {S B : List Token → List Token → Reach → Type 0} {ts : List Token} → Exact base S B → PutsFirst is B → B (token k s ∷ ts) (token k s ∷ ts) nowhere → d ≤ 200 → is k ≡ true → 200 ≤ d → Fails d (PutS S) (PutS B) (token k s ∷ ts) (failures.too_deep s.from)
fails_put_deep {d} {k} {s} {B} {ts} e first here low so deep = too_deep (put here) (rw (begun_nothing (token k s ∷ ts) nowhere) (omega (arith, low))) (put found.1) (sym (starts found.0 found.1)) each
  where
    found : (r : Reach) × B (token k s ∷ ts) ts r
    found = first.one so

    is_node : (r : Reach) → begun (token k s ∷ ts) ts r ≡ around s.from r
    is_node r = begun_node (token k s ∷ ts) ts r (omega arith)

    starts : (r : Reach) → B (token k s ∷ ts) ts r → (begun (token k s ∷ ts) ts r).start ≡ s.from
    starts r c = rw (is_node r) (first_start s.from r (first.start c refl))

    each : (q : Reach) → PutS B (token k s ∷ ts) ts q → (200 < d + q.height) × (s.from ≤ q.start)
    each q (put {r = inner} c) = rw (is_node inner) (omega (arith, deep, around_height s.from inner), omega (arith, first_start s.from inner (first.start c refl)))

pub seq_first : {is : TokenKind → Bool} {S B T C : List Token → List Token → Reach → Type 0} → Exact nowhere S B → Exact nowhere T C → ((ts m : List Token) (r : Reach) → S ts m r → length m < length ts) → PutsFirst is B → PutsFirst is (SeqB S B C)
seq_first {is} {S} {B} {T} {C} e f shorter first = record { one = one; start = start }
  where
    one : {k : TokenKind} {s : Span} {rest : List Token} → is k ≡ true → (r : Reach) × SeqB S B C (token k s ∷ rest) rest r
    one so = let found = first.one so in (found.0, in_first found.1)

    start : {t : Token} {ts rest : List Token} {r : Reach} → SeqB S B C (t ∷ ts) rest r → length rest ≡ length ts → (r.height ≡ 0) ⊎ (r.start ≡ t.span.from)
    start (in_first c) same = first.start c same
    start {t} {ts} {rest} (in_second {mid} {p} {q} a c) same =
        let long : length mid ≤ length ts = omega (arith, shorter _ _ _ a) in
        let behind = f.ended c in
        let here : rest ≡ mid = end_same behind (omega (arith, same, long)) in
        let base : p beside q ≡ p = ap (λ (x : Reach). p beside x) (f.nothing c here) ∙ beside_nowhere p in
        rw base (first.start (e.spelled a) (ap length (sym here) ∙ same))

-- ---- a form that takes a token, and one behind it that may begin with it again

pub list_exact : {n : ℕ} {S B T C : List Token → List Token → Reach → Type 0} → ((ts m : List Token) (r : Reach) → S ts m r → 0 < r.height) → ExactBelow (suc n) nowhere S B → ExactBelow n nowhere T C → ExactBelow (suc n) nowhere (SeqS S T) (SeqB S B C)
list_exact {n} {S} {B} {T} {C} high e f = record { one = one; spelled = spelled; longest = longest; whole = whole; nothing = nothing; ended = ended }
  where
    shorter : {ts mid : List Token} {p : Reach} → length ts < suc n → S ts mid p → length mid < length ts
    shorter less a = takes_below e less (e.spelled less a) (high _ _ _ a)

    short : {ts mid : List Token} {p : Reach} → length ts < suc n → S ts mid p → length mid < n
    short less a = omega (arith, less, shorter less a)

    one : {ts m m' : List Token} {r r' : Reach} → length ts < suc n → SeqS S T ts m r → SeqS S T ts m' r' → ◌≡◌ {A = Read} (m, r) (m', r')
    one less (seq a b) (seq a' b') =
        let first = e.one less a a' in
        let second = f.one (short less a) b (move T (tokens_same first) b') in
        rw (tokens_same second, reach_same first, reach_same second) refl

    spelled : {ts m : List Token} {r : Reach} → length ts < suc n → SeqS S T ts m r → SeqB S B C ts m r
    spelled less (seq a b) = in_second a (f.spelled (short less a) b)

    longest : {ts m rest : List Token} {r q : Reach} → length ts < suc n → SeqS S T ts m r → SeqB S B C ts rest q → m ends rest
    longest less (seq a b) (in_first c) = end_trans (f.ended (short less a) (f.spelled (short less a) b)) (e.longest less a c)
    longest less (seq a b) (in_second a' c) = f.longest (short less a) b (move C (tokens_same (e.one less a a')) c)

    whole : {ts m rest : List Token} {r q : Reach} → length ts < suc n → SeqS S T ts m r → SeqB S B C ts rest q → rest ≡ m → q ≡ r
    whole {m} less (seq {mid} {p} a b) (in_first c) is =
        let begun = f.spelled (short less a) b in
        let here : m ≡ mid = end_same (f.ended (short less a) begun) (omega (arith, end_length (e.longest less a c), ap length is)) in
        e.whole less a c (is ∙ here) ∙ sym (ap (λ (x : Reach). p beside x) (f.nothing (short less a) begun here) ∙ beside_nowhere p)
    whole less (seq a b) (in_second a' c) is =
        let first = e.one less a a' in
        beside_same (sym (reach_same first)) (f.whole (short less a) b (move C (tokens_same first) c) is)

    nothing : {ts rest : List Token} {q : Reach} → length ts < suc n → SeqB S B C ts rest q → rest ≡ ts → q ≡ nowhere
    nothing less (in_first c) same = e.nothing less c same
    nothing less (in_second a c) same = absurd (omega (arith, shorter less a, end_length (f.ended (short less a) c), ap length same))

    ended : {ts rest : List Token} {q : Reach} → length ts < suc n → SeqB S B C ts rest q → rest ends ts
    ended less (in_first c) = e.ended less c
    ended less (in_second a c) = end_trans (f.ended (short less a) c) (e.ended less (e.spelled less a))

-- ---- beginnings to which whole forms are added, where those read a token more

pub data WithS (S B : List Token → List Token → Reach → Type 0) : List Token → List Token → Reach → Type 0 where
  so_far : {ts rest : List Token} {q : Reach} → B ts rest q → WithS S B ts rest q
  in_whole : {ts m : List Token} {r : Reach} → S ts m r → WithS S B ts m r

-- ---- behind a part that a form is known to begin with

-- what is stuck behind the part is stuck in the form, if only the part behind goes on
pub fails_past : {d : ℕ} {S B T C : List Token → List Token → Reach → Type 0} {ts mid : List Token} {f : Failure} → ((rest : List Token) (q : Reach) → C mid rest q → rest ends mid) → ((m : List Token) (r : Reach) → S ts m r → T mid m r)
    → ((rest : List Token) (q : Reach) → B ts rest q → length rest < length mid → C mid rest q) → ((rest : List Token) (q : Reach) → C mid rest q → B ts rest q) → Fails d T C mid f → Fails d S B ts f
fails_past ended to into back no_memory = no_memory
fails_past ended to into back (unexpected b low whole further) = unexpected (back _ _ b) low (λ m q a. whole m q (to m q a)) (λ t rest q same c. further t rest q same (into rest q c (omega (arith, ap length same, end_length (ended _ _ b)))))
fails_past ended to into back (too_deep b low deep at every) = too_deep (back _ _ b) low (back _ _ deep) at (λ q c. every q (into _ q c (omega (arith, end_length (ended _ _ b)))))
