-- Where reading a form fails, for forms that are built of others.
use Rattle.std.proofs.Common.{◌≡◌, ◌≤◌, ◌<◌, ◌+◌, ℕ, zero, suc, length, Bool, true, false, List, ◌∷◌, refl, sym, ap, subst, ◌∙◌, arith}
use Rattle.std.proofs.lemmas.Bool.{lt-ltb}
use Rattle.ckc_text.specs.declared.place.Span.{Span}
use Rattle.ckc_lexer.specs.declared.token.Token.{Token}
use Rattle.ckc_lexer.specs.declared.token.TokenKind.{TokenKind}
use Rattle.ckc_tree.specs.Heights.{Reach, nowhere, around, ◌beside◌}
use Rattle.ckc_tree.specs.Heights as heights
use Rattle.ckc_parser_grammar.specs.Tokens.{token, next_is}
use Rattle.ckc_parser_grammar.specs.Failures as failures
use Rattle.ckc_parser_grammar.specs.Failures.{Failure, IsLow}
use Rattle.ckc_parser_grammar.proofs.Forms.{◌ends◌, all, end_length, end_same, Exact, ExactValue, tokens_same, reach_same, move, SeqS, SeqB, seq, in_first, in_second, EndedS, EndedB, before_end, AfterS, AfterB, not_yet, NodeS, node, EitherS, yes, no, ChainS, ChainB, chain, in_link, behind_link, HeadS, HeadB, none_yet, OneHead, move_head}
use Rattle.ckc_parser_grammar.proofs.Ahead.{never}
use Rattle.ckc_parser_grammar.proofs.Forms as forms
use Rattle.ckc_parser_grammar.proofs.Paths.{beside_nowhere, low_beside, low_around}

-- with d nodes around it, these tokens begin the form low up to the failure, nothing begins further or all that does is too deep
pub data Fails (d : ℕ) (S B : List Token → List Token → Reach → Type 0) (ts : List Token) : Failure → Type 0 where
  unexpected : {at : List Token} {r : Reach} → B ts at r → IsLow d r → ((m : List Token) (q : Reach) → S ts m q → ⊥) → ((t : Token) (rest : List Token) (q : Reach) → at ≡ t ∷ rest → B ts rest q → ⊥) → Fails d S B ts (failures.unexpected at)
  too_deep : {t : Token} {behind : List Token} {p r : Reach} {start : ℕ} → B ts (t ∷ behind) p → IsLow d p → B ts behind r → start ≡ r.start → ((q : Reach) → B ts behind q → (200 < d + q.height) × (start ≤ q.start)) → Fails d S B ts (failures.too_deep start)
  no_memory : Fails d S B ts failures.no_memory

-- ---- reaches side by side

pub beside_higher : (p q : Reach) → p.height < q.height → p beside q ≡ q
beside_higher p q less = rw (lt-ltb p.height q.height less) refl

pub longer : {t : Token} {rest mid at : List Token} {A : Type 0} → at ≡ t ∷ rest → at ends mid → mid ends rest → A
longer is e f = absurd (omega (arith, ap length is, end_length e, end_length f))

-- ---- one form behind another

pub fails_first : {d : ℕ} {S B T C : List Token → List Token → Reach → Type 0} {ts : List Token} {f : Failure} → Exact nowhere S B → Exact nowhere T C → Fails d S B ts f → Fails d (SeqS S T) (SeqB S B C) ts f
fails_first e g no_memory = no_memory
fails_first {S} {B} {T} {C} {ts} e g (unexpected {at} begun low whole further) = unexpected (in_first begun) low no_whole no_further
  where
    no_whole : (m : List Token) (q : Reach) → SeqS S T ts m q → ⊥
    no_whole m q (seq a b) = whole _ _ a

    no_further : (t : Token) (rest : List Token) (q : Reach) → at ≡ t ∷ rest → SeqB S B C ts rest q → ⊥
    no_further t rest q is (in_first c) = further t rest q is c
    no_further t rest q is (in_second a c) = whole _ _ a
fails_first {d} {S} {B} {T} {C} {ts} e g (too_deep {behind} {start} begun low deep is every) = too_deep (in_first begun) low (in_first deep) is each
  where
    each : (q : Reach) → SeqB S B C ts behind q → (200 < d + q.height) × (start ≤ q.start)
    each q (in_first c) = every q c
    each q (in_second {mid} {p} {q = r} a c) =
        let first = e.spelled a in
        let here : mid ≡ behind = end_same (e.longest a deep) (end_length (g.ended c)) in
        let rest : r ≡ nowhere = g.nothing c (sym here) in
        let all_of : p beside r ≡ p = ap (λ (x : Reach). p beside x) rest ∙ beside_nowhere p in
        rw all_of (every p (subst (λ (x : List Token). B ts x p) here first))

pub fails_second : {d : ℕ} {S B T C : List Token → List Token → Reach → Type 0} {ts mid : List Token} {p : Reach} {f : Failure} → Exact nowhere S B → Exact nowhere T C → S ts mid p → IsLow d p → Fails d T C mid f → Fails d (SeqS S T) (SeqB S B C) ts f
fails_second e g a high no_memory = no_memory
fails_second {S} {B} {T} {C} {ts} {mid} {p} e g a high (unexpected {at} {r} begun low whole further) = unexpected (in_second a begun) (low_beside _ p r high low) no_whole no_further
  where
    no_whole : (m : List Token) (q : Reach) → SeqS S T ts m q → ⊥
    no_whole m q (seq a' b) = whole _ _ (move T (tokens_same (e.one a a')) b)

    no_further : (t : Token) (rest : List Token) (q : Reach) → at ≡ t ∷ rest → SeqB S B C ts rest q → ⊥
    no_further t rest q is (in_first c) = longer is (g.ended begun) (e.longest a c)
    no_further t rest q is (in_second a' c) = further t rest _ is (move C (tokens_same (e.one a a')) c)
fails_second {d} {S} {B} {T} {C} {ts} {mid} {p} e g a high (too_deep {behind} {p = q} {r} {start} begun low deep is every) =
    too_deep (in_second a begun) (low_beside _ p q high low) (in_second a deep) (is ∙ ap (λ (x : Reach). x.start) (sym (higher r deep))) each
  where
    higher : (q : Reach) → C mid behind q → p beside q ≡ q
    higher q c = beside_higher p q (omega (arith, high, (every q c).0))

    each : (q : Reach) → SeqB S B C ts behind q → (200 < d + q.height) × (start ≤ q.start)
    each q (in_first c) = longer refl (g.ended begun) (e.longest a c)
    each q (in_second {p = p'} {q = q'} a' c) =
        let first = e.one a a' in
        let moved = move C (tokens_same first) c in
        let is_q : p' beside q' ≡ q' = ap (λ (x : Reach). x beside q') (sym (reach_same first)) ∙ higher q' moved in
        rw is_q (every q' moved)

-- ---- a token behind a form

pub fails_before_end : {d : ℕ} {K : TokenKind → Type 0} {base : Reach} {S B : List Token → List Token → Reach → Type 0} {ts : List Token} {f : Failure} → Exact base S B → Fails d S B ts f → Fails d (EndedS K S) (EndedB K S B) ts f
fails_before_end e no_memory = no_memory
fails_before_end {K} {S} {B} {ts} e (unexpected {at} begun low whole further) = unexpected (before_end begun) low no_whole no_further
  where
    no_whole : (m : List Token) (q : Reach) → EndedS K S ts m q → ⊥
    no_whole m q (forms.end a t) = whole _ _ a

    no_further : (t : Token) (rest : List Token) (q : Reach) → at ≡ t ∷ rest → EndedB K S B ts rest q → ⊥
    no_further t rest q here (before_end c) = further t rest q here c
    no_further t rest q here (forms.end a k) = whole _ _ a
fails_before_end {d} {K} {S} {B} {ts} e (too_deep {behind} {start} begun low deep at every) = too_deep (before_end begun) low (before_end deep) at each
  where
    each : (q : Reach) → EndedB K S B ts behind q → (200 < d + q.height) × (start ≤ q.start)
    each q (before_end c) = every q c
    each q (forms.end a t) = absurd (omega (arith, end_length (e.longest a deep)))

pub fails_at_end : {d : ℕ} {K : TokenKind → Type 0} {is : TokenKind → Bool} {base : Reach} {S B : List Token → List Token → Reach → Type 0} {ts rest : List Token} {p : Reach} → ((k : TokenKind) → K k → is k ≡ true) → Exact base S B → S ts rest p → IsLow d p → next_is is rest ≡ false → Fails d (EndedS K S) (EndedB K S B) ts (failures.unexpected rest)
fails_at_end {K} {is} {S} {B} {ts} {rest} known e a low other = unexpected (before_end (e.spelled a)) low no_whole no_further
  where
    not_next : {k : TokenKind} {s : Span} {ms : List Token} {q : Reach} {A : Type 0} → S ts (token k s ∷ ms) q → K k → A
    not_next {k} a' t = never (known k t) (subst (λ (x : List Token). next_is is x ≡ false) (tokens_same (e.one a a')) other)

    no_whole : (m : List Token) (q : Reach) → EndedS K S ts m q → ⊥
    no_whole m q (forms.end a' t) = not_next a' t

    no_further : (t : Token) (us : List Token) (q : Reach) → rest ≡ t ∷ us → EndedB K S B ts us q → ⊥
    no_further t us q here (before_end c) = longer here all (e.longest a c)
    no_further t us q here (forms.end a' k) = not_next a' k

-- ---- a form behind a token

behind_first : {k : TokenKind} {s : Span} {K : TokenKind → Type 0} {B : List Token → List Token → Reach → Type 0} {ts rest : List Token} {q : Reach} → AfterB K B (token k s ∷ ts) rest q → length rest ≤ length ts → B ts rest q
behind_first not_yet short = absurd (omega (arith, short))
behind_first (forms.after t c) short = c

pub fails_after : {d : ℕ} {k : TokenKind} {s : Span} {base : Reach} {K : TokenKind → Type 0} {S B : List Token → List Token → Reach → Type 0} {ts : List Token} {f : Failure} → K k → Exact base S B → Fails d S B ts f → Fails d (AfterS K S) (AfterB K B) (token k s ∷ ts) f
fails_after first e no_memory = no_memory
fails_after {k} {s} {K} {S} {B} {ts} first e (unexpected {at} begun low whole further) = unexpected (forms.after first begun) low no_whole no_further
  where
    no_whole : (m : List Token) (q : Reach) → AfterS K S (token k s ∷ ts) m q → ⊥
    no_whole m q (forms.after t a) = whole _ _ a

    no_further : (t : Token) (rest : List Token) (q : Reach) → at ≡ t ∷ rest → AfterB K B (token k s ∷ ts) rest q → ⊥
    no_further t rest q here not_yet = absurd (omega (arith, ap length here, end_length (e.ended begun)))
    no_further t rest q here (forms.after t' c) = further t rest q here c
fails_after {d} {k} {s} {K} {S} {B} {ts} first e (too_deep {behind} {start} begun low deep at every) = too_deep (forms.after first begun) low (forms.after first deep) at each
  where
    each : (q : Reach) → AfterB K B (token k s ∷ ts) behind q → (200 < d + q.height) × (start ≤ q.start)
    each q c = every q (behind_first c (omega (arith, end_length (e.ended begun))))

pub fails_at_first : {d : ℕ} {K : TokenKind → Type 0} {is : TokenKind → Bool} {S B : List Token → List Token → Reach → Type 0} {ts : List Token} → ((k : TokenKind) → K k → is k ≡ true) → d ≤ 200 → next_is is ts ≡ false → Fails d (AfterS K S) (AfterB K B) ts (failures.unexpected ts)
fails_at_first {d} {K} {is} {S} {B} {ts} known low other = unexpected not_yet (omega (arith, low)) (no_whole other) (no_further other)
  where
    no_whole : {ts : List Token} → next_is is ts ≡ false → (m : List Token) (q : Reach) → AfterS K S ts m q → ⊥
    no_whole other m q (forms.after {k} t a) = never (known k t) other

    no_further : {ts : List Token} → next_is is ts ≡ false → (t : Token) (rest : List Token) (q : Reach) → ts ≡ t ∷ rest → AfterB K B ts rest q → ⊥
    no_further other t rest q here not_yet = absurd (omega (arith, ap length here))
    no_further other t rest q here (forms.after {k} t' c) = never (known k t') other

-- ---- a node around a form

pub deep_around : (d start : ℕ) (q : Reach) {at : ℕ} → (200 < suc d + q.height) × (at ≤ q.start) → d < 200 → (200 < d + (around start q).height) × (at ≤ (around start q).start)
deep_around d start q {at} deep low = by_height q.height refl
  where
    by_height : (h : ℕ) → q.height ≡ h → (200 < d + (around start q).height) × (at ≤ (around start q).start)
    by_height zero same = absurd (omega (arith, same, deep.0, low))
    by_height (suc h) same = rw same (omega (arith, deep.0, same), omega (arith, deep.1))

pub inner_start : (start : ℕ) (r : Reach) → 0 < r.height → (around start r).start ≡ r.start
inner_start start r high = by_height r.height refl
  where
    by_height : (h : ℕ) → r.height ≡ h → (around start r).start ≡ r.start
    by_height zero same = absurd (omega (arith, same, high))
    by_height (suc h) same = rw same refl

pub fails_node : {d start : ℕ} {S B : List Token → List Token → Reach → Type 0} {ts : List Token} {f : Failure} → d < 200 → Fails (suc d) S B ts f → Fails d (NodeS start S) (NodeS start B) ts f
fails_node some no_memory = no_memory
fails_node {d} {start} {S} {B} {ts} some (unexpected {at} {r} begun low whole further) = unexpected (node begun) (low_around d start r low) no_whole no_further
  where
    no_whole : (m : List Token) (q : Reach) → NodeS start S ts m q → ⊥
    no_whole m q (node a) = whole _ _ a

    no_further : (t : Token) (rest : List Token) (q : Reach) → at ≡ t ∷ rest → NodeS start B ts rest q → ⊥
    no_further t rest q here (node c) = further t rest _ here c
fails_node {d} {start} {S} {B} {ts} some (too_deep {behind} {p} {r} {start = at} begun low deep is every) =
    too_deep (node begun) (low_around d start p low) (node deep) (is ∙ sym (inner_start start r (omega (arith, some, (every r deep).0)))) each
  where
    each : (q : Reach) → NodeS start B ts behind q → (200 < d + q.height) × (at ≤ q.start)
    each q (node {r = inner} c) = deep_around d start inner (every inner c) some

-- ---- one of two forms

pub fails_yes : {d : ℕ} {test : List Token → Bool} {S B T C : List Token → List Token → Reach → Type 0} {ts : List Token} {f : Failure} → test ts ≡ true → Fails d S B ts f → Fails d (EitherS test S T) (EitherS test B C) ts f
fails_yes so no_memory = no_memory
fails_yes {test} {S} {B} {T} {C} {ts} so (unexpected {at} begun low whole further) = unexpected (yes so begun) low no_whole no_further
  where
    no_whole : (m : List Token) (q : Reach) → EitherS test S T ts m q → ⊥
    no_whole m q (yes t a) = whole _ _ a
    no_whole m q (no t a) = never so t

    no_further : (t : Token) (rest : List Token) (q : Reach) → at ≡ t ∷ rest → EitherS test B C ts rest q → ⊥
    no_further t rest q here (yes t' c) = further t rest q here c
    no_further t rest q here (no t' c) = never so t'
fails_yes {d} {test} {S} {B} {T} {C} {ts} so (too_deep {behind} {start} begun low deep at every) = too_deep (yes so begun) low (yes so deep) at each
  where
    each : (q : Reach) → EitherS test B C ts behind q → (200 < d + q.height) × (start ≤ q.start)
    each q (yes t c) = every q c
    each q (no t c) = never so t

pub fails_no : {d : ℕ} {test : List Token → Bool} {S B T C : List Token → List Token → Reach → Type 0} {ts : List Token} {f : Failure} → test ts ≡ false → Fails d T C ts f → Fails d (EitherS test S T) (EitherS test B C) ts f
fails_no so no_memory = no_memory
fails_no {test} {S} {B} {T} {C} {ts} so (unexpected {at} begun low whole further) = unexpected (no so begun) low no_whole no_further
  where
    no_whole : (m : List Token) (q : Reach) → EitherS test S T ts m q → ⊥
    no_whole m q (yes t a) = never t so
    no_whole m q (no t a) = whole _ _ a

    no_further : (t : Token) (rest : List Token) (q : Reach) → at ≡ t ∷ rest → EitherS test B C ts rest q → ⊥
    no_further t rest q here (yes t' c) = never t' so
    no_further t rest q here (no t' c) = further t rest q here c
fails_no {d} {test} {S} {B} {T} {C} {ts} so (too_deep {behind} {start} begun low deep at every) = too_deep (no so begun) low (no so deep) at each
  where
    each : (q : Reach) → EitherS test B C ts behind q → (200 < d + q.height) × (start ≤ q.start)
    each q (yes t c) = never t so
    each q (no t c) = every q c

-- ---- what goes on with a form

pub fails_in_link : {A : Type 0} {d : ℕ} {base : Reach} {reach : A → Reach} {S : A → List Token → List Token → Type 0} {B : List Token → List Token → Reach → Type 0} {T C : A → List Token → List Token → Reach → Type 0} {ts : List Token} {f : Failure}
    → ExactValue base reach S B → ((a : A) → Exact (reach a) (T a) (C a)) → Fails d (λ us m r. (a : A) × S a us m × (r ≡ reach a)) B ts f → Fails d (ChainS S T) (ChainB S B C) ts f
fails_in_link e g no_memory = no_memory
fails_in_link {A} {reach} {S} {B} {T} {C} {ts} e g (unexpected {at} begun low whole further) = unexpected (in_link begun) low no_whole no_further
  where
    no_whole : (m : List Token) (q : Reach) → ChainS S T ts m q → ⊥
    no_whole m q (chain {a = value} a t) = whole _ (reach value) (value, a, refl)

    no_further : (t : Token) (rest : List Token) (q : Reach) → at ≡ t ∷ rest → ChainB S B C ts rest q → ⊥
    no_further t rest q here (in_link c) = further t rest q here c
    no_further t rest q here (behind_link {a = value} a c) = whole _ (reach value) (value, a, refl)
fails_in_link {A} {d} {reach} {S} {B} {T} {C} {ts} e g (too_deep {behind} {start} begun low deep at every) = too_deep (in_link begun) low (in_link deep) at each
  where
    each : (q : Reach) → ChainB S B C ts behind q → (200 < d + q.height) × (start ≤ q.start)
    each q (in_link c) = every q c
    each q (behind_link {a = value} {mid} a c) =
        let here : mid ≡ behind = end_same (e.longest a deep) (end_length ((g value).ended c)) in
        let same : q ≡ reach value = (g value).nothing c (sym here) in
        rw same (every (reach value) (subst (λ (x : List Token). B ts x (reach value)) here (e.spelled a)))

move_behind : {A : Type 0} (T : A → List Token → List Token → Reach → Type 0) {a b : A} {mid mid' m : List Token} {r : Reach} → ◌≡◌ {A = A × List Token} (a, mid) (b, mid') → T b mid' m r → T a mid m r
move_behind {A} T {m} {r} same t = subst (λ (x : A × List Token). T x.0 x.1 m r) (sym same) t

pub fails_behind_link : {A : Type 0} {d : ℕ} {base : Reach} {reach : A → Reach} {S : A → List Token → List Token → Type 0} {B : List Token → List Token → Reach → Type 0} {T C : A → List Token → List Token → Reach → Type 0} {ts mid : List Token} {value : A} {f : Failure}
    → ExactValue base reach S B → ((a : A) → Exact (reach a) (T a) (C a)) → S value ts mid → Fails d (T value) (C value) mid f → Fails d (ChainS S T) (ChainB S B C) ts f
fails_behind_link e g a no_memory = no_memory
fails_behind_link {A} {S} {B} {T} {C} {ts} {mid} {value} e g a (unexpected {at} begun low whole further) = unexpected (behind_link a begun) low no_whole no_further
  where
    no_whole : (m : List Token) (q : Reach) → ChainS S T ts m q → ⊥
    no_whole m q (chain a' t) = whole _ _ (move_behind T (e.one a a') t)

    no_further : (t : Token) (rest : List Token) (q : Reach) → at ≡ t ∷ rest → ChainB S B C ts rest q → ⊥
    no_further t rest q here (in_link c) = longer here ((g value).ended begun) (e.longest a c)
    no_further t rest q here (behind_link a' c) = further t rest _ here (move_behind C (e.one a a') c)
fails_behind_link {A} {d} {S} {B} {T} {C} {ts} {mid} {value} e g a (too_deep {behind} {start} begun low deep at every) = too_deep (behind_link a begun) low (behind_link a deep) at each
  where
    each : (q : Reach) → ChainB S B C ts behind q → (200 < d + q.height) × (start ≤ q.start)
    each q (in_link c) = longer refl ((g value).ended begun) (e.longest a c)
    each q (behind_link a' c) = every q (move_behind C (e.one a a') c)

-- ---- a form that another one is

pub fails_as : {d : ℕ} {S B T C : List Token → List Token → Reach → Type 0} {ts : List Token} {f : Failure} → ((ts m : List Token) (r : Reach) → S ts m r → T ts m r) → ((ts rest : List Token) (q : Reach) → B ts rest q → C ts rest q) → ((ts rest : List Token) (q : Reach) → C ts rest q → B ts rest q) → Fails d T C ts f → Fails d S B ts f
fails_as to into back no_memory = no_memory
fails_as to into back (unexpected begun low whole further) = unexpected (back _ _ _ begun) low (λ m q a. whole m q (to _ m q a)) (λ t rest q here c. further t rest q here (into _ rest q c))
fails_as to into back (too_deep begun low deep at every) = too_deep (back _ _ _ begun) low (back _ _ _ deep) at (λ q c. every q (into _ _ _ c))

-- ---- a form by what its first token is

behind : {H : Type 0} {Is : TokenKind → H → Type 0} {B : H → ℕ → List Token → List Token → Reach → Type 0} {k : TokenKind} {s : Span} {h : H} {ts rest : List Token} {q : Reach} → OneHead Is → Is k h → HeadB Is B (token k s ∷ ts) rest q → length rest ≤ length ts → B h s.from ts rest q
behind only i none_yet short = absurd (omega (arith, short))
behind {B} only i (forms.headed i' c) short = move_head B (only _ _ _ i i') c

pub fails_headed : {H : Type 0} {d : ℕ} {Is : TokenKind → H → Type 0} {k : TokenKind} {s : Span} {h : H} {base : Reach} {S B : H → ℕ → List Token → List Token → Reach → Type 0} {ts : List Token} {f : Failure}
    → OneHead Is → Is k h → Exact base (S h s.from) (B h s.from) → Fails d (S h s.from) (B h s.from) ts f → Fails d (HeadS Is S) (HeadB Is B) (token k s ∷ ts) f
fails_headed only i e no_memory = no_memory
fails_headed {Is} {k} {s} {S} {B} {ts} only i e (unexpected {at} begun low whole further) = unexpected (forms.headed i begun) low no_whole no_further
  where
    no_whole : (m : List Token) (q : Reach) → HeadS Is S (token k s ∷ ts) m q → ⊥
    no_whole m q (forms.headed i' a) = whole _ _ (move_head S (only _ _ _ i i') a)

    no_further : (t : Token) (rest : List Token) (q : Reach) → at ≡ t ∷ rest → HeadB Is B (token k s ∷ ts) rest q → ⊥
    no_further t rest q here c = further t rest q here (behind only i c (omega (arith, ap length here, end_length (e.ended begun))))
fails_headed {d} {Is} {k} {s} {S} {B} {ts} only i e (too_deep {behind = us} {start} begun low deep at every) = too_deep (forms.headed i begun) low (forms.headed i deep) at each
  where
    each : (q : Reach) → HeadB Is B (token k s ∷ ts) us q → (200 < d + q.height) × (start ≤ q.start)
    each q c = every q (behind only i c (omega (arith, end_length (e.ended begun))))

-- a first token that begins nothing, or the end
pub fails_unheaded : {H : Type 0} {d : ℕ} {Is : TokenKind → H → Type 0} {S B : H → ℕ → List Token → List Token → Reach → Type 0} {ts : List Token} → d ≤ 200 → ((k : TokenKind) (s : Span) (us : List Token) (h : H) → ts ≡ token k s ∷ us → Is k h → ⊥) → Fails d (HeadS Is S) (HeadB Is B) ts (failures.unexpected ts)
fails_unheaded {d} {Is} {S} {B} {ts} low none = unexpected none_yet (omega (arith, low)) (λ m q a. no_whole refl a) (λ t rest q here c. no_further here refl c)
  where
    no_whole : {us m : List Token} {q : Reach} → ts ≡ us → HeadS Is S us m q → ⊥
    no_whole is (forms.headed i a) = none _ _ _ _ is i

    no_further : {t : Token} {us rest : List Token} {q : Reach} → ts ≡ t ∷ rest → ts ≡ us → HeadB Is B us rest q → ⊥
    no_further here is none_yet = absurd (omega (arith, ap length here, ap length is))
    no_further here is (forms.headed i c) = none _ _ _ _ is i

-- a first token that makes a node, where none may stand
pub fails_deep_head : {H : Type 0} {d : ℕ} {Is : TokenKind → H → Type 0} {k : TokenKind} {s : Span} {h : H} {S B : H → ℕ → List Token → List Token → Reach → Type 0} {ts : List Token}
    → OneHead Is → Is k h → d ≤ 200 → 200 ≤ d → Exact (heights.node s.from) (S h s.from) (B h s.from) → B h s.from ts ts (heights.node s.from) → Fails d (HeadS Is S) (HeadB Is B) (token k s ∷ ts) (failures.too_deep s.from)
fails_deep_head {H} {d} {Is} {k} {s} {h} {S} {B} {ts} only i low deep e here = too_deep none_yet (omega (arith, low)) (forms.headed i here) refl each
  where
    each : (q : Reach) → HeadB Is B (token k s ∷ ts) ts q → (200 < d + q.height) × (s.from ≤ q.start)
    each q c = let base = e.nothing (behind only i c (omega arith)) refl in rw base (omega (arith, deep), omega arith)
