-- What is begun past a part that is known, for forms that are built of others.
use Rattle.std.proofs.Common.{◌≡◌, ◌≤◌, ◌<◌, ◌+◌, ℕ, nat_lt, length, Bool, true, false, List, ◌∷◌, refl, sym, ap, subst, ◌∙◌, arith}
use Rattle.std.proofs.lemmas.Bool.{ltb-true, ltb-false}
use Rattle.ckc_text.specs.declared.place.Span.{Span}
use Rattle.ckc_lexer.specs.declared.token.Token.{Token}
use Rattle.ckc_lexer.specs.declared.token.TokenKind.{TokenKind}
use Rattle.ckc_tree.specs.Heights.{Reach, nowhere, ◌beside◌}
use Rattle.ckc_parser_grammar.specs.Tokens.{token}
use Rattle.ckc_parser_grammar.specs.Failures.{Failure}
use Rattle.ckc_parser_grammar.proofs.Forms.{◌ends◌, end_length, end_trans, end_same, end_within, Exact, tokens_same, reach_same, move, SeqS, SeqB, seq, in_first, in_second, AfterS, AfterB, not_yet, after}
use Rattle.ckc_parser_grammar.proofs.Paths.{beside_nowhere}
use Rattle.ckc_parser_grammar.proofs.Failing.{Fails, unexpected, too_deep, no_memory}
use Rattle.ckc_parser_grammar.proofs.MoreForms.{LeadS, LeadB, lead, in_lead, behind_lead, SideS, side}

pub lead_past : {S B C : List Token → List Token → Reach → Type 0} {ts mid rest : List Token} {q : Reach} → Exact nowhere S B → S ts mid nowhere → LeadB S B C ts rest q → length rest < length mid → C mid rest q
lead_past e a (in_lead c) less = absurd (omega (arith, less, end_length (e.longest a c)))
lead_past {C} e a (behind_lead a' c) less = move C (tokens_same (e.one a a')) c

pub lead_whole : {S B T : List Token → List Token → Reach → Type 0} {ts mid m : List Token} {r : Reach} → Exact nowhere S B → S ts mid nowhere → LeadS S T ts m r → T mid m r
lead_whole {T} e a (lead a' b) = move T (tokens_same (e.one a a')) b

same_side : {C : List Token → List Token → Reach → Type 0} {mid rest : List Token} {p p' : Reach} (q : Reach) → p ≡ p' → C mid rest q → SideS p C mid rest (p' beside q)
same_side {C} {mid} {rest} {p} q same c = subst (λ (x : Reach). SideS p C mid rest (x beside q)) same (side c)

pub seq_past : {S B C : List Token → List Token → Reach → Type 0} {ts mid rest : List Token} {p q : Reach} → Exact nowhere S B → S ts mid p → SeqB S B C ts rest q → length rest < length mid → SideS p C mid rest q
seq_past e a (in_first c) less = absurd (omega (arith, less, end_length (e.longest a c)))
seq_past {C} e a (in_second a' c) less = let same = e.one a a' in same_side _ (reach_same same) (move C (tokens_same same) c)

pub seq_whole : {S B T : List Token → List Token → Reach → Type 0} {ts mid m : List Token} {p r : Reach} → Exact nowhere S B → S ts mid p → SeqS S T ts m r → SideS p T mid m r
seq_whole {T} e a (seq a' b) = let same = e.one a a' in same_side _ (reach_same same) (move T (tokens_same same) b)

pub after_past : {K : TokenKind → Type 0} {B : List Token → List Token → Reach → Type 0} {k : TokenKind} {s : Span} {ts rest : List Token} {q : Reach} → AfterB K B (token k s ∷ ts) rest q → length rest ≤ length ts → B ts rest q
after_past not_yet short = absurd (omega (arith, short))
after_past (after t c) short = c

pub after_whole : {K : TokenKind → Type 0} {S : List Token → List Token → Reach → Type 0} {k : TokenKind} {s : Span} {ts m : List Token} {r : Reach} → AfterS K S (token k s ∷ ts) m r → S ts m r
after_whole (after t a) = a

-- a whole form ends what begins the form, if only what stands behind a part goes on
pub longest_past : {base : Reach} {T C : List Token → List Token → Reach → Type 0} {ts mid m rest : List Token} {r : Reach} (q : Reach) → Exact base T C → mid ends ts → T mid m r → (length rest < length mid → C mid rest q) → rest ends ts → m ends rest
longest_past {mid} {m} {rest} q e within a into ended = by_test (nat_lt (length rest) (length mid)) refl
  where
    behind : m ends mid
    behind = e.ended (e.spelled a)

    by_test : (b : Bool) → nat_lt (length rest) (length mid) ≡ b → m ends rest
    by_test true less = e.longest a (into (ltb-true (length rest) (length mid) less))
    by_test false more = end_within (end_trans behind within) ended (omega (arith, end_length behind, ltb-false (length rest) (length mid) more))

-- where the first of two parts fails, and what stands behind it, if anything, is read up to its end
pub fails_opening : {d : ℕ} {S B T C : List Token → List Token → Reach → Type 0} {ts : List Token} {f : Failure} → Exact nowhere S B → ((us rest : List Token) (q : Reach) → C us rest q → rest ends us) → ((us rest : List Token) (q : Reach) → C us rest q → rest ≡ us → q ≡ nowhere) → Fails d S B ts f → Fails d (SeqS S T) (SeqB S B C) ts f
fails_opening e ended nothing no_memory = no_memory
fails_opening {S} {B} {T} {C} {ts} e ended nothing (unexpected {at} b low whole further) = unexpected (in_first b) low no_whole no_further
  where
    no_whole : (m : List Token) (q : Reach) → SeqS S T ts m q → ⊥
    no_whole m q (seq a b) = whole _ _ a

    no_further : (t : Token) (rest : List Token) (q : Reach) → at ≡ t ∷ rest → SeqB S B C ts rest q → ⊥
    no_further t rest q same (in_first c) = further t rest q same c
    no_further t rest q same (in_second a c) = whole _ _ a
fails_opening {d} {S} {B} {T} {C} {ts} e ended nothing (too_deep {behind} {start} b low deep at every) = too_deep (in_first b) low (in_first deep) at each
  where
    each : (q : Reach) → SeqB S B C ts behind q → (200 < d + q.height) × (start ≤ q.start)
    each q (in_first c) = every q c
    each q (in_second {mid} {p} {q = r} a c) =
        let here : mid ≡ behind = end_same (e.longest a deep) (end_length (ended _ _ _ c)) in
        let all_of : p beside r ≡ p = ap (λ (x : Reach). p beside x) (nothing _ _ _ c (sym here)) ∙ beside_nowhere p in
        rw all_of (every p (subst (λ (x : List Token). B ts x p) here (e.spelled a)))
