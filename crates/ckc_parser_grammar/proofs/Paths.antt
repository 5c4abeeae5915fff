-- Tokens read one by one, with a beginning at each.
use Rattle.std.proofs.Common.{◌≡◌, ◌≤◌, ◌<◌, ◌⊎◌, inl, inr, ℕ, zero, suc, nat_lt, length, Bool, true, false, List, ◌∷◌, refl, arith}
use Rattle.std.proofs.lemmas.Bool.{ltb-true, ltb-false, lt-ltb, le-ltb}
use Rattle.ckc_lexer.specs.declared.token.Token.{Token}
use Rattle.ckc_tree.specs.Heights.{Reach, nowhere, node, around, ◌beside◌}
use Rattle.ckc_parser_grammar.specs.Tokens.{start_of}
use Rattle.ckc_parser_grammar.specs.Failures.{IsLow}
use Rattle.ckc_parser_grammar.specs.TypeBeginnings.{around_if, begun}

-- ---- heights

-- the first is no higher than the second
pub record Low (low high : Reach) : Type 0 where
  pub no_higher : low.height ≤ high.height

pub same : {r : Reach} → Low r r
same = record { no_higher = omega arith }

pub trans : {p q r : Reach} → Low p q → Low q r → Low p r
trans a b = record { no_higher = omega (arith, a.no_higher, b.no_higher) }

pub least : {r : Reach} → Low nowhere r
least = record { no_higher = omega arith }

pub around_height : (start : ℕ) (r : Reach) → (around start r).height ≡ suc r.height
around_height start r = by_height r.height refl
  where
    by_height : (n : ℕ) → r.height ≡ n → (around start r).height ≡ suc r.height
    by_height zero same = rw same refl
    by_height (suc n) same = rw same refl

pub deep : (s t : ℕ) {p q : Reach} → Low p q → Low (around s p) (around t q)
deep s t {p} {q} low = record { no_higher = omega (arith, around_height s p, around_height t q, low.no_higher) }

pub up : (s : ℕ) {p q : Reach} → Low p q → Low p (around s q)
up s {q} low = record { no_higher = omega (arith, around_height s q, low.no_higher) }

pub one : {s : ℕ} (t : ℕ) (r : Reach) → Low (node s) (around t r)
one t r = record { no_higher = omega (arith, around_height t r) }

pub beside_height : (p q : Reach) → (p.height ≤ (p beside q).height) × (q.height ≤ (p beside q).height) × (((p beside q).height ≡ p.height) ⊎ ((p beside q).height ≡ q.height))
beside_height p q = by_test (nat_lt p.height q.height) refl
  where
    by_test : (b : Bool) → nat_lt p.height q.height ≡ b → (p.height ≤ (p beside q).height) × (q.height ≤ (p beside q).height) × (((p beside q).height ≡ p.height) ⊎ ((p beside q).height ≡ q.height))
    by_test true less = let lower = ltb-true p.height q.height less in rw less (omega (arith, lower), omega arith, inr refl)
    by_test false less = let lower = ltb-false p.height q.height less in rw less (omega arith, omega (arith, lower), inl refl)

-- of parts side by side
pub grow : {p q : Reach} (r : Reach) → Low p q → Low p (q beside r)
grow {q} r low = record { no_higher = omega (arith, low.no_higher, (beside_height q r).0) }

pub along : (p : Reach) {q r : Reach} → Low q r → Low (p beside q) (p beside r)
along p {q} {r} low = record { no_higher = omega (arith, low.no_higher, (beside_height p q).2, (beside_height p r).0, (beside_height p r).1) }

pub alone : (p : Reach) → Low (p beside nowhere) p
alone p = record { no_higher = omega (arith, (beside_height p nowhere).2) }

-- a node that is put with its first token
begun_by : (shorter : Bool) (start t : ℕ) {p q : Reach} → Low p q → Low (around_if shorter start p) (around t q)
begun_by true start t low = deep start t low
begun_by false start t low = least

pub begun_low : (ts us : List Token) (t : ℕ) {p q : Reach} → Low p q → Low (begun ts us p) (around t q)
begun_low ts us t low = begun_by (nat_lt (length us) (length ts)) (start_of ts) t low

no_node : (ts : List Token) (p : Reach) {q : Reach} → Low (begun ts ts p) q
no_node ts p = rw (le-ltb (length ts) (length ts) (omega arith)) least

pub begun_none : (ts : List Token) {q : Reach} → Low (begun ts ts nowhere) q
begun_none ts = no_node ts nowhere

pub begun_within : (ts us rest : List Token) {p q : Reach} → length rest < length ts → Low p q → Low (begun ts us p) (begun ts rest q)
begun_within ts us rest shorter low = rw (lt-ltb (length rest) (length ts) shorter) (begun_low ts us (start_of ts) low)

pub beside_nowhere : (p : Reach) → p beside nowhere ≡ p
beside_nowhere p = rw (le-ltb p.height 0 (omega arith)) refl

pub low_beside : (d : ℕ) (p q : Reach) → IsLow d p → IsLow d q → IsLow d (p beside q)
low_beside d p q a b = omega (arith, a, b, (beside_height p q).2)

pub low_around : (d start : ℕ) (r : Reach) → IsLow (suc d) r → IsLow d (around start r)
low_around d start r low = omega (arith, low, around_height start r)

-- ---- paths

-- what begins here, with no higher a reach
pub record Fact (Begins : List Token → Reach → Type 0) (high : Reach) (rest : List Token) : Type 0 where
  pub reach : Reach
  pub begins : Begins rest reach
  pub low : Low reach high

pub fact : {Begins : List Token → Reach → Type 0} {high r : Reach} {rest : List Token} → Begins rest r → Low r high → Fact Begins high rest
fact b low = record { reach = _; begins = b; low = low }

-- from the tokens to the rest, and a fact before each token and at the end
pub data Path (At : List Token → Type 0) : List Token → List Token → Type 0 where
  here : {ts : List Token} → At ts → Path At ts ts
  next : {t : Token} {ts rest : List Token} → At (t ∷ ts) → Path At ts rest → Path At (t ∷ ts) rest

pub head : {At : List Token → Type 0} {ts rest : List Token} → Path At ts rest → At ts
head (here a) = a
head (next a p) = a

-- one path behind the other
pub on : {At : List Token → Type 0} {ts mid rest : List Token} → Path At ts mid → Path At mid rest → Path At ts rest
on (here a) q = q
on (next a p) q = next a (on p q)

-- past a token between them
pub past : {At : List Token → Type 0} {t : Token} {ts mid rest : List Token} → Path At ts (t ∷ mid) → Path At mid rest → Path At ts rest
past (here a) q = next a q
past (next a p) q = next a (past p q)

-- a path but for the fact at its head
pub data Behind (At : List Token → Type 0) : List Token → List Token → Type 0 where
  behind : {t : Token} {ts rest : List Token} → Path At ts rest → Behind At (t ∷ ts) rest

-- from the facts of a part those of the whole
pub part : {At Of : List Token → Type 0} {ts rest : List Token} → ((us : List Token) → At us → Of us) → Path At ts rest → Path Of ts rest
part f (here a) = here (f _ a)
part f (next a p) = next (f _ a) (part f p)

pub led : {At Of : List Token → Type 0} {ts rest : List Token} → Of ts → ((us : List Token) → At us → Of us) → Behind At ts rest → Path Of ts rest
led so f (behind p) = next so (part f p)

pub shorter : {At : List Token → Type 0} {ts rest : List Token} → Path At ts rest → length rest ≤ length ts
shorter (here a) = omega arith
shorter (next a p) = omega (arith, shorter p)

pub led_shorter : {At : List Token → Type 0} {ts rest : List Token} → Behind At ts rest → length rest < length ts
led_shorter (behind p) = omega (arith, shorter p)

-- the same for a node that is put with its first token
pub begun_path : {Begins Of : List Token → Reach → Type 0} {q : Reach} {ts rest : List Token} → ((us : List Token) (p : Reach) → Begins us p → Of us (begun ts us p)) → Path (Fact Begins q) ts rest → Path (Fact Of (begun ts rest q)) ts rest
begun_path {ts} go (here a) = here (fact (go _ _ a.begins) (no_node ts a.reach))
begun_path {ts} {rest} go (next a p) = part (λ us f. fact (go us _ f.begins) (begun_within ts us rest (omega (arith, shorter p)) f.low)) (next a p)
