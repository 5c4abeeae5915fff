-- Forms that are read from left to right: what they are built of, and that reading them goes one way. A form is two
-- families: its whole spellings and its beginnings, from tokens to the tokens left, with their reaches.
use Rattle.std.proofs.Common.{◌≡◌, ◌≤◌, ◌<◌, ℕ, zero, suc, length, Bool, true, false, List, [], ◌∷◌, refl, sym, ap, subst, ◌∙◌, arith}
use Rattle.ckc_text.specs.declared.place.Span.{Span}
use Rattle.ckc_lexer.specs.declared.token.Token.{Token}
use Rattle.ckc_lexer.specs.declared.token.TokenKind.{TokenKind}
use Rattle.ckc_lexer.specs.declared.token.TokenKind.TheVariants as kinds
use Rattle.ckc_tree.specs.Heights.{Reach, nowhere, around, ◌beside◌}
use Rattle.ckc_parser_grammar.specs.Tokens.{token}
use Rattle.ckc_parser_grammar.proofs.Ahead.{never}
use Rattle.ckc_parser_grammar.proofs.Paths.{beside_nowhere}

-- ---- ends of lists

infixl 20 ◌ends◌
-- the first is an end of the second
pub data ◌ends◌ : List Token → List Token → Type 0 where
  all : {ts : List Token} → ts ends ts
  later : {t : Token} {rest ts : List Token} → rest ends ts → rest ends (t ∷ ts)

pub end_length : {rest ts : List Token} → rest ends ts → length rest ≤ length ts
end_length all = omega arith
end_length (later e) = omega (arith, end_length e)

pub end_trans : {a b c : List Token} → a ends b → b ends c → a ends c
end_trans a all = a
end_trans a (later b) = later (end_trans a b)

-- ends of the same list, of which the first is no longer than the second
pub end_within : {a b c : List Token} → a ends c → b ends c → length a ≤ length b → a ends b
end_within a all short = a
end_within all (later b) short = absurd (omega (arith, short, end_length b))
end_within (later a) (later b) short = end_within a b short

pub end_same : {a b : List Token} → a ends b → length b ≤ length a → a ≡ b
end_same all short = refl
end_same (later e) short = absurd (omega (arith, short, end_length e))

pub not_longer : {t : Token} {ts : List Token} {A : Type 0} → (t ∷ ts) ends ts → A
not_longer e = absurd (omega (arith, end_length e))

-- ---- exact forms

-- what is read, up to these tokens, with this reach
abbrev pub Read : Type 0
Read = List Token × Reach

-- reading goes one way on all lists shorter than n; with nothing read the reach is the base, with all read that of the whole form
pub record ExactBelow (n : ℕ) (base : Reach) (S B : List Token → List Token → Reach → Type 0) : Type 0 where
  pub one : {ts m m' : List Token} {r r' : Reach} → length ts < n → S ts m r → S ts m' r' → ◌≡◌ {A = Read} (m, r) (m', r')
  pub spelled : {ts m : List Token} {r : Reach} → length ts < n → S ts m r → B ts m r
  pub longest : {ts m rest : List Token} {r q : Reach} → length ts < n → S ts m r → B ts rest q → m ends rest
  pub whole : {ts m rest : List Token} {r q : Reach} → length ts < n → S ts m r → B ts rest q → rest ≡ m → q ≡ r
  pub nothing : {ts rest : List Token} {q : Reach} → length ts < n → B ts rest q → rest ≡ ts → q ≡ base
  pub ended : {ts rest : List Token} {q : Reach} → length ts < n → B ts rest q → rest ends ts

-- the same on all lists
pub record Exact (base : Reach) (S B : List Token → List Token → Reach → Type 0) : Type 0 where
  pub one : {ts m m' : List Token} {r r' : Reach} → S ts m r → S ts m' r' → ◌≡◌ {A = Read} (m, r) (m', r')
  pub spelled : {ts m : List Token} {r : Reach} → S ts m r → B ts m r
  pub longest : {ts m rest : List Token} {r q : Reach} → S ts m r → B ts rest q → m ends rest
  pub whole : {ts m rest : List Token} {r q : Reach} → S ts m r → B ts rest q → rest ≡ m → q ≡ r
  pub nothing : {ts rest : List Token} {q : Reach} → B ts rest q → rest ≡ ts → q ≡ base
  pub ended : {ts rest : List Token} {q : Reach} → B ts rest q → rest ends ts

pub exact_on_all : {base : Reach} {S B : List Token → List Token → Reach → Type 0} → ((n : ℕ) → ExactBelow n base S B) → Exact base S B
exact_on_all e = record {
  one = λ {ts} a. (e (suc (length ts))).one (omega arith) a;
  spelled = λ {ts} a. (e (suc (length ts))).spelled (omega arith) a;
  longest = λ {ts} a. (e (suc (length ts))).longest (omega arith) a;
  whole = λ {ts} a. (e (suc (length ts))).whole (omega arith) a;
  nothing = λ {ts} c. (e (suc (length ts))).nothing (omega arith) c;
  ended = λ {ts} c. (e (suc (length ts))).ended (omega arith) c;
}

pub none_below : {base : Reach} {S B : List Token → List Token → Reach → Type 0} → ExactBelow zero base S B
none_below = record { one = λ less. absurd (omega (arith, less)); spelled = λ less. absurd (omega (arith, less)); longest = λ less. absurd (omega (arith, less)); whole = λ less. absurd (omega (arith, less)); nothing = λ less. absurd (omega (arith, less)); ended = λ less. absurd (omega (arith, less)) }

pub tokens_same : {m m' : List Token} {r r' : Reach} → ◌≡◌ {A = Read} (m, r) (m', r') → m ≡ m'
tokens_same same = ap (λ (x : Read). x.0) same

pub reach_same : {m m' : List Token} {r r' : Reach} → ◌≡◌ {A = Read} (m, r) (m', r') → r ≡ r'
reach_same same = ap (λ (x : Read). x.1) same

pub move : (F : List Token → List Token → Reach → Type 0) {ts us m : List Token} {r : Reach} → ts ≡ us → F us m r → F ts m r
move F {m} {r} same f = subst (λ (x : List Token). F x m r) (sym same) f

-- ---- one form behind another

pub data SeqS (S T : List Token → List Token → Reach → Type 0) : List Token → List Token → Reach → Type 0 where
  seq : {ts mid m : List Token} {p q : Reach} → S ts mid p → T mid m q → SeqS S T ts m (p beside q)

pub data SeqB (S B C : List Token → List Token → Reach → Type 0) : List Token → List Token → Reach → Type 0 where
  in_first : {ts rest : List Token} {q : Reach} → B ts rest q → SeqB S B C ts rest q
  in_second : {ts mid rest : List Token} {p q : Reach} → S ts mid p → C mid rest q → SeqB S B C ts rest (p beside q)

-- the second part of a reading, from where the first ended
pub beside_same : {p p' q q' : Reach} → p ≡ p' → q ≡ q' → p beside q ≡ p' beside q'
beside_same a b = rw (a, b) refl

pair_same : {m m' : List Token} {r r' : Reach} → m ≡ m' → r ≡ r' → ◌≡◌ {A = Read} (m, r) (m', r')
pair_same a b = rw (a, b) refl

pub seq_exact : {n : ℕ} {S B T C : List Token → List Token → Reach → Type 0} → ExactBelow n nowhere S B → ExactBelow n nowhere T C → ExactBelow n nowhere (SeqS S T) (SeqB S B C)
seq_exact {n} {S} {B} {T} {C} e f = record { one = one; spelled = spelled; longest = longest; whole = whole; nothing = nothing; ended = ended }
  where
    short : {ts mid : List Token} {p : Reach} → length ts < n → S ts mid p → length mid < n
    short less a = omega (arith, less, end_length (e.ended less (e.spelled less a)))

    one : {ts m m' : List Token} {r r' : Reach} → length ts < n → SeqS S T ts m r → SeqS S T ts m' r' → ◌≡◌ {A = Read} (m, r) (m', r')
    one less (seq a b) (seq a' b') =
        let first = e.one less a a' in
        let second = f.one (short less a) b (move T (tokens_same first) b') in
        pair_same (tokens_same second) (beside_same (reach_same first) (reach_same second))

    spelled : {ts m : List Token} {r : Reach} → length ts < n → SeqS S T ts m r → SeqB S B C ts m r
    spelled less (seq a b) = in_second a (f.spelled (short less a) b)

    longest : {ts m rest : List Token} {r q : Reach} → length ts < n → SeqS S T ts m r → SeqB S B C ts rest q → m ends rest
    longest less (seq a b) (in_first c) = end_trans (f.ended (short less a) (f.spelled (short less a) b)) (e.longest less a c)
    longest less (seq a b) (in_second a' c) = f.longest (short less a) b (move C (tokens_same (e.one less a a')) c)

    whole : {ts m rest : List Token} {r q : Reach} → length ts < n → SeqS S T ts m r → SeqB S B C ts rest q → rest ≡ m → q ≡ r
    whole {m} less (seq {mid} {p} a b) (in_first c) is =
        let begun = f.spelled (short less a) b in
        let here : m ≡ mid = end_same (f.ended (short less a) begun) (omega (arith, end_length (e.longest less a c), ap length is)) in
        e.whole less a c (is ∙ here) ∙ sym (ap (λ (x : Reach). p beside x) (f.nothing (short less a) begun here) ∙ beside_nowhere p)
    whole less (seq a b) (in_second a' c) is =
        let first = e.one less a a' in
        beside_same (sym (reach_same first)) (f.whole (short less a) b (move C (tokens_same first) c) is)

    nothing : {ts rest : List Token} {q : Reach} → length ts < n → SeqB S B C ts rest q → rest ≡ ts → q ≡ nowhere
    nothing less (in_first c) is = e.nothing less c is
    nothing less (in_second a c) is =
        let begun = e.spelled less a in
        let behind = f.ended (short less a) c in
        let here = end_same (e.ended less begun) (omega (arith, end_length behind, ap length is)) in
        beside_same (e.nothing less begun here) (f.nothing (short less a) c (rw (is, here) refl))

    ended : {ts rest : List Token} {q : Reach} → length ts < n → SeqB S B C ts rest q → rest ends ts
    ended less (in_first c) = e.ended less c
    ended less (in_second a c) = end_trans (f.ended (short less a) c) (e.ended less (e.spelled less a))

-- ---- kinds of tokens

-- this word or mark
pub data Is (k : TokenKind) : TokenKind → Type 0 where
  it : Is k k

pub data IsName : TokenKind → Type 0 where
  name : {x : List ℕ} → IsName (kinds.Name x)

-- ---- a token behind a form

pub data EndedS (K : TokenKind → Type 0) (S : List Token → List Token → Reach → Type 0) : List Token → List Token → Reach → Type 0 where
  end : {k : TokenKind} {s : Span} {ts m : List Token} {r : Reach} → S ts (token k s ∷ m) r → K k → EndedS K S ts m r

pub data EndedB (K : TokenKind → Type 0) (S B : List Token → List Token → Reach → Type 0) : List Token → List Token → Reach → Type 0 where
  before_end : {ts rest : List Token} {q : Reach} → B ts rest q → EndedB K S B ts rest q
  end : {k : TokenKind} {s : Span} {ts rest : List Token} {r : Reach} → S ts (token k s ∷ rest) r → K k → EndedB K S B ts rest r

abbrev pub tail : List Token → List Token
tail [] = []
tail (t ∷ ts) = ts

pub ended_exact : {n : ℕ} {K : TokenKind → Type 0} {base : Reach} {S B : List Token → List Token → Reach → Type 0} → ExactBelow n base S B → ExactBelow n base (EndedS K S) (EndedB K S B)
ended_exact {n} {K} {base} {S} {B} e = record { one = one; spelled = spelled; longest = longest; whole = whole; nothing = nothing; ended = ended }
  where
    one : {ts m m' : List Token} {r r' : Reach} → length ts < n → EndedS K S ts m r → EndedS K S ts m' r' → ◌≡◌ {A = Read} (m, r) (m', r')
    one less (end a t) (end a' t') = ap (λ (x : Read). (tail x.0, x.1)) (e.one less a a')

    spelled : {ts m : List Token} {r : Reach} → length ts < n → EndedS K S ts m r → EndedB K S B ts m r
    spelled less (end a t) = end a t

    longest : {ts m rest : List Token} {r q : Reach} → length ts < n → EndedS K S ts m r → EndedB K S B ts rest q → m ends rest
    longest less (end a t) (before_end c) = end_trans (later all) (e.longest less a c)
    longest less (end {m} a t) (end a' t') = subst (λ (x : List Token). m ends x) (ap tail (tokens_same (e.one less a a'))) all

    whole : {ts m rest : List Token} {r q : Reach} → length ts < n → EndedS K S ts m r → EndedB K S B ts rest q → rest ≡ m → q ≡ r
    whole less (end a t) (before_end c) is = absurd (omega (arith, end_length (e.longest less a c), ap length is))
    whole less (end a t) (end a' t') is = reach_same (e.one less a' a)

    ended : {ts rest : List Token} {q : Reach} → length ts < n → EndedB K S B ts rest q → rest ends ts
    ended less (before_end c) = e.ended less c
    ended less (end a t) = end_trans (later all) (e.ended less (e.spelled less a))

    nothing : {ts rest : List Token} {q : Reach} → length ts < n → EndedB K S B ts rest q → rest ≡ ts → q ≡ base
    nothing less (before_end c) is = e.nothing less c is
    nothing less (end a t) is = absurd (omega (arith, end_length (e.ended less (e.spelled less a)), ap length is))

-- ---- a form behind a token

pub data AfterS (K : TokenKind → Type 0) (S : List Token → List Token → Reach → Type 0) : List Token → List Token → Reach → Type 0 where
  after : {k : TokenKind} {s : Span} {ts m : List Token} {r : Reach} → K k → S ts m r → AfterS K S (token k s ∷ ts) m r

pub data AfterB (K : TokenKind → Type 0) (B : List Token → List Token → Reach → Type 0) : List Token → List Token → Reach → Type 0 where
  not_yet : {ts : List Token} → AfterB K B ts ts nowhere
  after : {k : TokenKind} {s : Span} {ts rest : List Token} {q : Reach} → K k → B ts rest q → AfterB K B (token k s ∷ ts) rest q

pub after_exact : {n : ℕ} {K : TokenKind → Type 0} {base : Reach} {S B : List Token → List Token → Reach → Type 0} → ExactBelow n base S B → ExactBelow (suc n) nowhere (AfterS K S) (AfterB K B)
after_exact {n} {K} {base} {S} {B} e = record { one = one; spelled = spelled; longest = longest; whole = whole; nothing = nothing; ended = ended }
  where
    one : {ts m m' : List Token} {r r' : Reach} → length ts < suc n → AfterS K S ts m r → AfterS K S ts m' r' → ◌≡◌ {A = Read} (m, r) (m', r')
    one less (after t a) (after t' a') = e.one (omega (arith, less)) a a'

    spelled : {ts m : List Token} {r : Reach} → length ts < suc n → AfterS K S ts m r → AfterB K B ts m r
    spelled less (after t a) = after t (e.spelled (omega (arith, less)) a)

    ended : {ts rest : List Token} {q : Reach} → length ts < suc n → AfterB K B ts rest q → rest ends ts
    ended less not_yet = all
    ended less (after t c) = later (e.ended (omega (arith, less)) c)

    longest : {ts m rest : List Token} {r q : Reach} → length ts < suc n → AfterS K S ts m r → AfterB K B ts rest q → m ends rest
    longest less (after t a) not_yet = later (e.ended (omega (arith, less)) (e.spelled (omega (arith, less)) a))
    longest less (after t a) (after t' c) = e.longest (omega (arith, less)) a c

    whole : {ts m rest : List Token} {r q : Reach} → length ts < suc n → AfterS K S ts m r → AfterB K B ts rest q → rest ≡ m → q ≡ r
    whole less (after t a) not_yet is = absurd (omega (arith, end_length (e.ended (omega (arith, less)) (e.spelled (omega (arith, less)) a)), ap length is))
    whole less (after t a) (after t' c) is = e.whole (omega (arith, less)) a c is

    nothing : {ts rest : List Token} {q : Reach} → length ts < suc n → AfterB K B ts rest q → rest ≡ ts → q ≡ nowhere
    nothing less not_yet is = refl
    nothing less (after t c) is = absurd (omega (arith, end_length (e.ended (omega (arith, less)) c), ap length is))

-- ---- a node around a form

pub data NodeS (start : ℕ) (S : List Token → List Token → Reach → Type 0) : List Token → List Token → Reach → Type 0 where
  node : {ts m : List Token} {r : Reach} → S ts m r → NodeS start S ts m (around start r)

pub node_exact : {n start : ℕ} {base : Reach} {S B : List Token → List Token → Reach → Type 0} → ExactBelow n base S B → ExactBelow n (around start base) (NodeS start S) (NodeS start B)
node_exact {n} {start} {base} {S} {B} e = record { one = one; spelled = spelled; longest = longest; whole = whole; nothing = nothing; ended = ended }
  where
    one : {ts m m' : List Token} {r r' : Reach} → length ts < n → NodeS start S ts m r → NodeS start S ts m' r' → ◌≡◌ {A = Read} (m, r) (m', r')
    one less (node a) (node a') = ap (λ (x : Read). (x.0, around start x.1)) (e.one less a a')

    spelled : {ts m : List Token} {r : Reach} → length ts < n → NodeS start S ts m r → NodeS start B ts m r
    spelled less (node a) = node (e.spelled less a)

    longest : {ts m rest : List Token} {r q : Reach} → length ts < n → NodeS start S ts m r → NodeS start B ts rest q → m ends rest
    longest less (node a) (node c) = e.longest less a c

    whole : {ts m rest : List Token} {r q : Reach} → length ts < n → NodeS start S ts m r → NodeS start B ts rest q → rest ≡ m → q ≡ r
    whole less (node a) (node c) is = ap (around start) (e.whole less a c is)

    nothing : {ts rest : List Token} {q : Reach} → length ts < n → NodeS start B ts rest q → rest ≡ ts → q ≡ around start base
    nothing less (node c) is = ap (around start) (e.nothing less c is)

    ended : {ts rest : List Token} {q : Reach} → length ts < n → NodeS start B ts rest q → rest ends ts
    ended less (node c) = e.ended less c

-- ---- nothing

pub data DoneS : List Token → List Token → Reach → Type 0 where
  done : {ts : List Token} → DoneS ts ts nowhere

pub done_exact : {n : ℕ} → ExactBelow n nowhere DoneS DoneS
done_exact {n} = record { one = one; spelled = λ less a. a; longest = longest; whole = whole; nothing = nothing; ended = ended }
  where
    one : {ts m m' : List Token} {r r' : Reach} → length ts < n → DoneS ts m r → DoneS ts m' r' → ◌≡◌ {A = Read} (m, r) (m', r')
    one less done done = refl

    longest : {ts m rest : List Token} {r q : Reach} → length ts < n → DoneS ts m r → DoneS ts rest q → m ends rest
    longest less done done = all

    whole : {ts m rest : List Token} {r q : Reach} → length ts < n → DoneS ts m r → DoneS ts rest q → rest ≡ m → q ≡ r
    whole less done done is = refl

    nothing : {ts rest : List Token} {q : Reach} → length ts < n → DoneS ts rest q → rest ≡ ts → q ≡ nowhere
    nothing less done is = refl

    ended : {ts rest : List Token} {q : Reach} → length ts < n → DoneS ts rest q → rest ends ts
    ended less done = all

-- ---- one of two forms, by a test of the tokens that stand here

pub data EitherS (test : List Token → Bool) (S T : List Token → List Token → Reach → Type 0) : List Token → List Token → Reach → Type 0 where
  yes : {ts m : List Token} {r : Reach} → test ts ≡ true → S ts m r → EitherS test S T ts m r
  no : {ts m : List Token} {r : Reach} → test ts ≡ false → T ts m r → EitherS test S T ts m r

pub either_exact : {n : ℕ} {test : List Token → Bool} {base : Reach} {S B T C : List Token → List Token → Reach → Type 0} → ExactBelow n base S B → ExactBelow n base T C → ExactBelow n base (EitherS test S T) (EitherS test B C)
either_exact {n} {test} {base} {S} {B} {T} {C} e f = record { one = one; spelled = spelled; longest = longest; whole = whole; nothing = nothing; ended = ended }
  where
    one : {ts m m' : List Token} {r r' : Reach} → length ts < n → EitherS test S T ts m r → EitherS test S T ts m' r' → ◌≡◌ {A = Read} (m, r) (m', r')
    one less (yes t a) (yes t' a') = e.one less a a'
    one less (yes t a) (no t' a') = never t t'
    one less (no t a) (yes t' a') = never t' t
    one less (no t a) (no t' a') = f.one less a a'

    spelled : {ts m : List Token} {r : Reach} → length ts < n → EitherS test S T ts m r → EitherS test B C ts m r
    spelled less (yes t a) = yes t (e.spelled less a)
    spelled less (no t a) = no t (f.spelled less a)

    longest : {ts m rest : List Token} {r q : Reach} → length ts < n → EitherS test S T ts m r → EitherS test B C ts rest q → m ends rest
    longest less (yes t a) (yes t' c) = e.longest less a c
    longest less (yes t a) (no t' c) = never t t'
    longest less (no t a) (yes t' c) = never t' t
    longest less (no t a) (no t' c) = f.longest less a c

    whole : {ts m rest : List Token} {r q : Reach} → length ts < n → EitherS test S T ts m r → EitherS test B C ts rest q → rest ≡ m → q ≡ r
    whole less (yes t a) (yes t' c) is = e.whole less a c is
    whole less (yes t a) (no t' c) is = never t t'
    whole less (no t a) (yes t' c) is = never t' t
    whole less (no t a) (no t' c) is = f.whole less a c is

    nothing : {ts rest : List Token} {q : Reach} → length ts < n → EitherS test B C ts rest q → rest ≡ ts → q ≡ base
    nothing less (yes t c) is = e.nothing less c is
    nothing less (no t c) is = f.nothing less c is

    ended : {ts rest : List Token} {q : Reach} → length ts < n → EitherS test B C ts rest q → rest ends ts
    ended less (yes t c) = e.ended less c
    ended less (no t c) = f.ended less c

-- ---- what goes on with a form, by what that form is. The reach is that of all so far

pub data ChainS {A : Type 0} (S : A → List Token → List Token → Type 0) (T : A → List Token → List Token → Reach → Type 0) : List Token → List Token → Reach → Type 0 where
  chain : {a : A} {ts mid m : List Token} {r : Reach} → S a ts mid → T a mid m r → ChainS S T ts m r

pub data ChainB {A : Type 0} (S : A → List Token → List Token → Type 0) (B : List Token → List Token → Reach → Type 0) (C : A → List Token → List Token → Reach → Type 0) : List Token → List Token → Reach → Type 0 where
  in_link : {ts rest : List Token} {q : Reach} → B ts rest q → ChainB S B C ts rest q
  behind_link : {a : A} {ts mid rest : List Token} {q : Reach} → S a ts mid → C a mid rest q → ChainB S B C ts rest q

-- a form whose reading gives a value, with the reach of the value, on lists shorter than n
pub record ExactValueBelow {A : Type 0} (n : ℕ) (base : Reach) (reach : A → Reach) (S : A → List Token → List Token → Type 0) (B : List Token → List Token → Reach → Type 0) : Type 0 where
  pub one : {a b : A} {ts m m' : List Token} → length ts < n → S a ts m → S b ts m' → ◌≡◌ {A = A × List Token} (a, m) (b, m')
  pub spelled : {a : A} {ts m : List Token} → length ts < n → S a ts m → B ts m (reach a)
  pub longest : {a : A} {ts m rest : List Token} {q : Reach} → length ts < n → S a ts m → B ts rest q → m ends rest
  pub whole : {a : A} {ts m rest : List Token} {q : Reach} → length ts < n → S a ts m → B ts rest q → rest ≡ m → q ≡ reach a
  pub nothing : {ts rest : List Token} {q : Reach} → length ts < n → B ts rest q → rest ≡ ts → q ≡ base
  pub ended : {ts rest : List Token} {q : Reach} → length ts < n → B ts rest q → rest ends ts
  -- something is read
  pub shrinks : {a : A} {ts m : List Token} → length ts < n → S a ts m → length m < length ts

-- the same on all lists
pub record ExactValue {A : Type 0} (base : Reach) (reach : A → Reach) (S : A → List Token → List Token → Type 0) (B : List Token → List Token → Reach → Type 0) : Type 0 where
  pub one : {a b : A} {ts m m' : List Token} → S a ts m → S b ts m' → ◌≡◌ {A = A × List Token} (a, m) (b, m')
  pub spelled : {a : A} {ts m : List Token} → S a ts m → B ts m (reach a)
  pub longest : {a : A} {ts m rest : List Token} {q : Reach} → S a ts m → B ts rest q → m ends rest
  pub whole : {a : A} {ts m rest : List Token} {q : Reach} → S a ts m → B ts rest q → rest ≡ m → q ≡ reach a
  pub nothing : {ts rest : List Token} {q : Reach} → B ts rest q → rest ≡ ts → q ≡ base
  pub ended : {ts rest : List Token} {q : Reach} → B ts rest q → rest ends ts

move_chain : {A : Type 0} (T : A → List Token → List Token → Reach → Type 0) {a b : A} {mid mid' m : List Token} {r : Reach} → ◌≡◌ {A = A × List Token} (a, mid) (b, mid') → T b mid' m r → T a mid m r
move_chain {A} T {m} {r} same t = subst (λ (x : A × List Token). T x.0 x.1 m r) (sym same) t

pub chain_exact : {A : Type 0} {n : ℕ} {base : Reach} {reach : A → Reach} {S : A → List Token → List Token → Type 0} {B : List Token → List Token → Reach → Type 0} {T C : A → List Token → List Token → Reach → Type 0}
    → ExactValueBelow (suc n) base reach S B → ((a : A) → ExactBelow n (reach a) (T a) (C a)) → ExactBelow (suc n) base (ChainS S T) (ChainB S B C)
chain_exact {A} {n} {base} {reach} {S} {B} {T} {C} e f = record { one = one; spelled = spelled; longest = longest; whole = whole; nothing = nothing; ended = ended }
  where
    short : {a : A} {ts mid : List Token} → length ts < suc n → S a ts mid → length mid < n
    short less a = omega (arith, less, e.shrinks less a)

    one : {ts m m' : List Token} {r r' : Reach} → length ts < suc n → ChainS S T ts m r → ChainS S T ts m' r' → ◌≡◌ {A = Read} (m, r) (m', r')
    one less (chain a t) (chain a' t') = (f _).one (short less a) t (move_chain T (e.one less a a') t')

    spelled : {ts m : List Token} {r : Reach} → length ts < suc n → ChainS S T ts m r → ChainB S B C ts m r
    spelled less (chain a t) = behind_link a ((f _).spelled (short less a) t)

    longest : {ts m rest : List Token} {r q : Reach} → length ts < suc n → ChainS S T ts m r → ChainB S B C ts rest q → m ends rest
    longest less (chain a t) (in_link c) = end_trans ((f _).ended (short less a) ((f _).spelled (short less a) t)) (e.longest less a c)
    longest less (chain a t) (behind_link a' c) = (f _).longest (short less a) t (move_chain C (e.one less a a') c)

    whole : {ts m rest : List Token} {r q : Reach} → length ts < suc n → ChainS S T ts m r → ChainB S B C ts rest q → rest ≡ m → q ≡ r
    whole {m} less (chain {a = value} {mid} a t) (in_link c) is =
        let begun = (f value).spelled (short less a) t in
        let here : m ≡ mid = end_same ((f value).ended (short less a) begun) (omega (arith, end_length (e.longest less a c), ap length is)) in
        e.whole less a c (is ∙ here) ∙ sym ((f value).nothing (short less a) begun here)
    whole less (chain a t) (behind_link a' c) is = (f _).whole (short less a) t (move_chain C (e.one less a a') c) is

    nothing : {ts rest : List Token} {q : Reach} → length ts < suc n → ChainB S B C ts rest q → rest ≡ ts → q ≡ base
    nothing less (in_link c) is = e.nothing less c is
    nothing less (behind_link a c) is = absurd (omega (arith, e.shrinks less a, end_length ((f _).ended (short less a) c), ap length is))

    ended : {ts rest : List Token} {q : Reach} → length ts < suc n → ChainB S B C ts rest q → rest ends ts
    ended less (in_link c) = e.ended less c
    ended less (behind_link a c) = end_trans ((f _).ended (short less a) c) (e.ended less (e.spelled less a))

-- ---- a form that another one is

pub same_exact : {n : ℕ} {base : Reach} {S B T C : List Token → List Token → Reach → Type 0} → ExactBelow n base T C
    → ((ts m : List Token) (r : Reach) → S ts m r → T ts m r) → ((ts m : List Token) (r : Reach) → S ts m r → B ts m r) → ((ts rest : List Token) (q : Reach) → B ts rest q → C ts rest q) → ExactBelow n base S B
same_exact e s b c = record {
  one = λ less a a'. e.one less (s _ _ _ a) (s _ _ _ a');
  spelled = λ less a. b _ _ _ a;
  longest = λ less a d. e.longest less (s _ _ _ a) (c _ _ _ d);
  whole = λ less a d is. e.whole less (s _ _ _ a) (c _ _ _ d) is;
  nothing = λ less d is. e.nothing less (c _ _ _ d) is;
  ended = λ less d. e.ended less (c _ _ _ d);
}

-- ---- a form by what its first token is, which says what stands behind that token

pub data HeadS {H : Type 0} (Is : TokenKind → H → Type 0) (S : H → ℕ → List Token → List Token → Reach → Type 0) : List Token → List Token → Reach → Type 0 where
  headed : {k : TokenKind} {s : Span} {h : H} {ts m : List Token} {r : Reach} → Is k h → S h s.from ts m r → HeadS Is S (token k s ∷ ts) m r

pub data HeadB {H : Type 0} (Is : TokenKind → H → Type 0) (B : H → ℕ → List Token → List Token → Reach → Type 0) : List Token → List Token → Reach → Type 0 where
  none_yet : {ts : List Token} → HeadB Is B ts ts nowhere
  headed : {k : TokenKind} {s : Span} {h : H} {ts rest : List Token} {q : Reach} → Is k h → B h s.from ts rest q → HeadB Is B (token k s ∷ ts) rest q

-- a token is one thing
abbrev pub OneHead : {H : Type 0} → (TokenKind → H → Type 0) → Type 0
OneHead {H} Is = (k : TokenKind) (h i : H) → Is k h → Is k i → h ≡ i

pub move_head : {H : Type 0} (F : H → ℕ → List Token → List Token → Reach → Type 0) {h i : H} {start : ℕ} {ts m : List Token} {r : Reach} → h ≡ i → F i start ts m r → F h start ts m r
move_head {H} F {start} {ts} {m} {r} same a = subst (λ (x : H). F x start ts m r) (sym same) a

pub head_exact : {H : Type 0} {n : ℕ} {Is : TokenKind → H → Type 0} {base : H → ℕ → Reach} {S B : H → ℕ → List Token → List Token → Reach → Type 0} → OneHead Is → ((h : H) (start : ℕ) → ExactBelow n (base h start) (S h start) (B h start)) → ExactBelow (suc n) nowhere (HeadS Is S) (HeadB Is B)
head_exact {H} {n} {Is} {base} {S} {B} only e = record { one = one; spelled = spelled; longest = longest; whole = whole; nothing = nothing; ended = ended }
  where
    one : {ts m m' : List Token} {r r' : Reach} → length ts < suc n → HeadS Is S ts m r → HeadS Is S ts m' r' → ◌≡◌ {A = Read} (m, r) (m', r')
    one less (headed i a) (headed i' a') = (e _ _).one (omega (arith, less)) a (move_head S (only _ _ _ i i') a')

    spelled : {ts m : List Token} {r : Reach} → length ts < suc n → HeadS Is S ts m r → HeadB Is B ts m r
    spelled less (headed i a) = headed i ((e _ _).spelled (omega (arith, less)) a)

    ended : {ts rest : List Token} {q : Reach} → length ts < suc n → HeadB Is B ts rest q → rest ends ts
    ended less none_yet = all
    ended less (headed i c) = later ((e _ _).ended (omega (arith, less)) c)

    longest : {ts m rest : List Token} {r q : Reach} → length ts < suc n → HeadS Is S ts m r → HeadB Is B ts rest q → m ends rest
    longest less (headed i a) none_yet = later ((e _ _).ended (omega (arith, less)) ((e _ _).spelled (omega (arith, less)) a))
    longest less (headed i a) (headed i' c) = (e _ _).longest (omega (arith, less)) a (move_head B (only _ _ _ i i') c)

    whole : {ts m rest : List Token} {r q : Reach} → length ts < suc n → HeadS Is S ts m r → HeadB Is B ts rest q → rest ≡ m → q ≡ r
    whole less (headed i a) none_yet is = absurd (omega (arith, end_length ((e _ _).ended (omega (arith, less)) ((e _ _).spelled (omega (arith, less)) a)), ap length is))
    whole less (headed i a) (headed i' c) is = (e _ _).whole (omega (arith, less)) a (move_head B (only _ _ _ i i') c) is

    nothing : {ts rest : List Token} {q : Reach} → length ts < suc n → HeadB Is B ts rest q → rest ≡ ts → q ≡ nowhere
    nothing less none_yet is = refl
    nothing less (headed i c) is = absurd (omega (arith, end_length ((e _ _).ended (omega (arith, less)) c), ap length is))

-- what nothing is
pub data NeverS : List Token → List Token → Reach → Type 0 where

pub never_exact : {n : ℕ} {base : Reach} → ExactBelow n base NeverS NeverS
never_exact {n} {base} = record { one = one; spelled = λ less a. a; longest = longest; whole = whole; nothing = nothing; ended = ended }
  where
    one : {ts m m' : List Token} {r r' : Reach} → length ts < n → NeverS ts m r → NeverS ts m' r' → ◌≡◌ {A = Read} (m, r) (m', r')
    one less a b = elim a [ ]

    longest : {ts m rest : List Token} {r q : Reach} → length ts < n → NeverS ts m r → NeverS ts rest q → m ends rest
    longest less a b = elim a [ ]

    whole : {ts m rest : List Token} {r q : Reach} → length ts < n → NeverS ts m r → NeverS ts rest q → rest ≡ m → q ≡ r
    whole less a b is = elim a [ ]

    nothing : {ts rest : List Token} {q : Reach} → length ts < n → NeverS ts rest q → rest ≡ ts → q ≡ base
    nothing less a is = elim a [ ]

    ended : {ts rest : List Token} {q : Reach} → length ts < n → NeverS ts rest q → rest ends ts
    ended less a = elim a [ ]

-- ---- forms on all lists

pub below : {n : ℕ} {base : Reach} {S B : List Token → List Token → Reach → Type 0} → Exact base S B → ExactBelow n base S B
below e = record { one = λ less a. e.one a; spelled = λ less a. e.spelled a; longest = λ less a. e.longest a; whole = λ less a. e.whole a; nothing = λ less c. e.nothing c; ended = λ less c. e.ended c }

pub seq_all : {S B T C : List Token → List Token → Reach → Type 0} → Exact nowhere S B → Exact nowhere T C → Exact nowhere (SeqS S T) (SeqB S B C)
seq_all e f = exact_on_all (λ n. seq_exact (below e) (below f))

pub ended_all : {K : TokenKind → Type 0} {base : Reach} {S B : List Token → List Token → Reach → Type 0} → Exact base S B → Exact base (EndedS K S) (EndedB K S B)
ended_all e = exact_on_all (λ n. ended_exact (below e))

pub node_all : {start : ℕ} {base : Reach} {S B : List Token → List Token → Reach → Type 0} → Exact base S B → Exact (around start base) (NodeS start S) (NodeS start B)
node_all e = exact_on_all (λ n. node_exact (below e))

pub either_all : {test : List Token → Bool} {base : Reach} {S B T C : List Token → List Token → Reach → Type 0} → Exact base S B → Exact base T C → Exact base (EitherS test S T) (EitherS test B C)
either_all e f = exact_on_all (λ n. either_exact (below e) (below f))

pub done_all : Exact nowhere DoneS DoneS
done_all = exact_on_all (λ n. done_exact)

-- what is exact on lists shorter than n, one token in
pub within : {n : ℕ} {base : Reach} {S B : List Token → List Token → Reach → Type 0} → ExactBelow (suc n) base S B → ExactBelow n base S B
within e = record { one = λ less a. e.one (omega (arith, less)) a; spelled = λ less a. e.spelled (omega (arith, less)) a; longest = λ less a. e.longest (omega (arith, less)) a; whole = λ less a. e.whole (omega (arith, less)) a; nothing = λ less c. e.nothing (omega (arith, less)) c; ended = λ less c. e.ended (omega (arith, less)) c }

pub after_all : {K : TokenKind → Type 0} {base : Reach} {S B : List Token → List Token → Reach → Type 0} → Exact base S B → Exact nowhere (AfterS K S) (AfterB K B)
after_all e = exact_on_all (λ n. within (after_exact (below e)))

pub same_all : {base : Reach} {S B T C : List Token → List Token → Reach → Type 0} → Exact base T C → ((ts m : List Token) (r : Reach) → S ts m r → T ts m r) → ((ts m : List Token) (r : Reach) → S ts m r → B ts m r) → ((ts rest : List Token) (q : Reach) → B ts rest q → C ts rest q) → Exact base S B
same_all e s b c = exact_on_all (λ n. same_exact (below e) s b c)

pub value_below : {A : Type 0} {n : ℕ} {base : Reach} {reach : A → Reach} {S : A → List Token → List Token → Type 0} {B : List Token → List Token → Reach → Type 0} → ((a : A) (ts m : List Token) → S a ts m → length m < length ts) → ExactValue base reach S B → ExactValueBelow n base reach S B
value_below shrinks e = record { one = λ less a. e.one a; spelled = λ less a. e.spelled a; longest = λ less a. e.longest a; whole = λ less a. e.whole a; nothing = λ less c. e.nothing c; ended = λ less c. e.ended c; shrinks = λ less a. shrinks _ _ _ a }

pub value_on_all : {A : Type 0} {base : Reach} {reach : A → Reach} {S : A → List Token → List Token → Type 0} {B : List Token → List Token → Reach → Type 0} → ((n : ℕ) → ExactValueBelow n base reach S B) → ExactValue base reach S B
value_on_all e = record {
  one = λ {ts} a. (e (suc (length ts))).one (omega arith) a;
  spelled = λ {ts} a. (e (suc (length ts))).spelled (omega arith) a;
  longest = λ {ts} a. (e (suc (length ts))).longest (omega arith) a;
  whole = λ {ts} a. (e (suc (length ts))).whole (omega arith) a;
  nothing = λ {ts} c. (e (suc (length ts))).nothing (omega arith) c;
  ended = λ {ts} c. (e (suc (length ts))).ended (omega arith) c;
}

pub chain_all : {A : Type 0} {base : Reach} {reach : A → Reach} {S : A → List Token → List Token → Type 0} {B : List Token → List Token → Reach → Type 0} {T C : A → List Token → List Token → Reach → Type 0}
    → ((a : A) (ts m : List Token) → S a ts m → length m < length ts) → ExactValue base reach S B → ((a : A) → Exact (reach a) (T a) (C a)) → Exact base (ChainS S T) (ChainB S B C)
chain_all shrinks e f = exact_on_all (λ n. within (chain_exact (value_below shrinks e) (λ a. below (f a))))

-- ---- a place that is left as it is

pub data StaysS (base : Reach) : List Token → List Token → Reach → Type 0 where
  stays : {ts : List Token} → StaysS base ts ts base

pub stays_exact : {n : ℕ} {base : Reach} → ExactBelow n base (StaysS base) (StaysS base)
stays_exact {n} {base} = record { one = one; spelled = λ less a. a; longest = longest; whole = whole; nothing = nothing; ended = ended }
  where
    one : {ts m m' : List Token} {r r' : Reach} → length ts < n → StaysS base ts m r → StaysS base ts m' r' → ◌≡◌ {A = Read} (m, r) (m', r')
    one less stays stays = refl

    longest : {ts m rest : List Token} {r q : Reach} → length ts < n → StaysS base ts m r → StaysS base ts rest q → m ends rest
    longest less stays stays = all

    whole : {ts m rest : List Token} {r q : Reach} → length ts < n → StaysS base ts m r → StaysS base ts rest q → rest ≡ m → q ≡ r
    whole less stays stays is = refl

    nothing : {ts rest : List Token} {q : Reach} → length ts < n → StaysS base ts rest q → rest ≡ ts → q ≡ base
    nothing less stays is = refl

    ended : {ts rest : List Token} {q : Reach} → length ts < n → StaysS base ts rest q → rest ends ts
    ended less stays = all

pub value_within : {A : Type 0} {n : ℕ} {base : Reach} {reach : A → Reach} {S : A → List Token → List Token → Type 0} {B : List Token → List Token → Reach → Type 0} → ExactValueBelow (suc n) base reach S B → ExactValueBelow n base reach S B
value_within e = record { one = λ less a. e.one (omega (arith, less)) a; spelled = λ less a. e.spelled (omega (arith, less)) a; longest = λ less a. e.longest (omega (arith, less)) a; whole = λ less a. e.whole (omega (arith, less)) a; nothing = λ less c. e.nothing (omega (arith, less)) c; ended = λ less c. e.ended (omega (arith, less)) c; shrinks = λ less a. e.shrinks (omega (arith, less)) a }
