-- Tokens that stand in order, and what is spelled between them.
use Rattle.std.proofs.Common.{◌≡◌, ℕ, ◌≤◌, List, [], ◌∷◌, ◌++◌, ap, arith}
use Rattle.ckc_text.specs.declared.place.Span.{Span}
use Rattle.ckc_lexer.specs.declared.token.Token.{Token}
use Rattle.ckc_lexer.specs.declared.token.TokenKind.{TokenKind}
use Rattle.ckc_lexer.specs.declared.token.TokenKind.TheVariants as kinds
use Rattle.ckc_lexer.specs.Tokens as lexer
use Rattle.ckc_tree.specs.Placement.{InOrder}
use Rattle.ckc_parser_grammar.specs.Tokens.{start_of}

-- where the next token begins at the earliest: a number may stand on the bytes of the minus before it
abbrev pub behind : TokenKind → Span → ℕ
behind kinds.Minus span = span.from
behind _ span = span.to

-- between these bytes the tokens stand in order
pub data Runs : ℕ → List Token → ℕ → Type 0 where
  none : {from end : ℕ} → from ≤ end → Runs from [] end
  next : {from end : ℕ} {t : Token} {ts : List Token} → from ≤ t.span.from → t.span.from ≤ t.span.to → t.span.to ≤ end → Runs (behind t.kind t.span) ts end → Runs from (t ∷ ts) end

-- ---- from the tokens of a source

behind_low : (k : TokenKind) (s : Span) → s.from ≤ s.to → behind k s ≤ s.to
behind_low kinds.Minus s h = h
behind_low _ s h = omega arith

behind_high : (k : TokenKind) (s : Span) → s.from ≤ s.to → s.from ≤ behind k s
behind_high kinds.Minus s h = omega arith
behind_high _ s h = h

add : {from place end : ℕ} (ts : List Token) (t : Token) → Runs from ts place → place ≤ t.span.from → t.span.from ≤ t.span.to → t.span.to ≤ end → Runs from (ts ++ t ∷ []) end
add [] t (none h) low some high = next (omega arith) some high (none (omega (arith, behind_low t.kind t.span some)))
add (first ∷ ts) t (next a b c d) low some high = next a b (omega arith) (add ts t d low some high)

add_again : {from end : ℕ} (ts : List Token) (t u : Token) → Runs from (ts ++ t ∷ []) end → t.kind ≡ kinds.Minus → u.span ≡ t.span → Runs from ((ts ++ t ∷ []) ++ u ∷ []) end
add_again [] t u (next a b c d) minus same =
    let start : behind t.kind t.span ≡ t.span.from = ap (λ k. behind k t.span) minus in
    let from : u.span.from ≡ t.span.from = ap (λ (s : Span). s.from) same in
    let to : u.span.to ≡ t.span.to = ap (λ (s : Span). s.to) same in
    let some : u.span.from ≤ u.span.to = omega arith in
    next a b c (next (omega arith) some (omega arith) (none (omega (arith, behind_low u.kind u.span some))))
add_again (first ∷ ts) t u (next a b c d) minus same = next a b c (add_again ts t u d minus same)

pub in_order_runs : {tokens : List Token} {end : ℕ} → lexer.InOrder tokens end → Runs 0 tokens end
in_order_runs lexer.none = none (omega arith)
in_order_runs (lexer.token ts t o some high) = add ts t (in_order_runs o) (omega arith) (omega (arith, some)) high
in_order_runs (lexer.again ts t u o minus same) = add_again ts t u (in_order_runs o) minus same

-- ---- a token, and those behind it

-- a span begins at a byte or behind it, and doesn't end before it begins
pub record Stands (from : ℕ) (span : Span) : Type 0 where
  pub after : from ≤ span.from
  pub some : span.from ≤ span.to

pub first : {from end : ℕ} {t : Token} {ts : List Token} → Runs from (t ∷ ts) end → Stands from t.span
first (next a b c d) = record { after = a; some = b }

pub on : {from end : ℕ} {t : Token} {ts : List Token} → Runs from (t ∷ ts) end → Runs (behind t.kind t.span) ts end
on (next a b c d) = d

pub later : {from start end : ℕ} {ts : List Token} → from ≤ start → Runs start ts end → Runs from ts end
later low (none h) = none (omega arith)
later low (next a b c d) = next (omega arith) b c d

-- the tokens behind the first, from where that begins
pub follow : {from end : ℕ} {t : Token} {ts : List Token} → Runs from (t ∷ ts) end → Runs t.span.from ts end
follow (next {t} a b c d) = later (behind_high t.kind t.span b) d

-- and from where that might have begun
pub skip : {from end : ℕ} {t : Token} {ts : List Token} → Runs from (t ∷ ts) end → Runs from ts end
skip h = later (first h).after (follow h)

abbrev pub IsNotEmpty : List Token → Type 0
IsNotEmpty [] = ⊥
IsNotEmpty (t ∷ ts) = Unit {0}

pub starts : {from end : ℕ} {ts : List Token} → IsNotEmpty ts → Runs from ts end → from ≤ start_of ts
starts some (none h) = absurd some
starts some (next a b c d) = a

pub from_start : {from end : ℕ} {ts : List Token} → Runs from ts end → Runs (start_of ts) ts end
from_start (none h) = none (omega arith)
from_start (next a b c d) = next (omega arith) b c d

-- ---- spans

pub sooner : {from start : ℕ} (spans : List Span) (to : ℕ) → from ≤ start → InOrder start spans to → InOrder from spans to
sooner [] to low h = omega (arith, low, h)
sooner (s ∷ spans) to low h = (omega (arith, low, h.0), h.1, h.2)

pub longer : (from : ℕ) (spans : List Span) {to end : ℕ} → to ≤ end → InOrder from spans to → InOrder from spans end
longer from [] high h = omega (arith, high, h)
longer from (s ∷ spans) high h = (h.0, h.1, longer s.to spans high h.2)

appended : (from place to : ℕ) (spans others : List Span) → InOrder from spans place → InOrder place others to → InOrder from (spans ++ others) to
appended from place to [] others h k = sooner others to h k
appended from place to (s ∷ spans) others h k = (h.0, h.1, appended s.to place to spans others h.2 k)

-- ---- what is spelled

-- a form stands on these bytes, from a byte on, and the tokens behind it stand behind them
pub record Read (from : ℕ) (span : Span) (Placed : Type 0) (rest : List Token) (end : ℕ) : Type 0 where
  pub after : from ≤ span.from
  pub some : span.from ≤ span.to
  pub placed : Placed
  pub on : Runs span.to rest end

-- a form whose own bytes lie in those with the parentheses around it
pub record Within (outer span : Span) (Placed : Type 0) : Type 0 where
  pub begins : outer.from ≤ span.from
  pub some : span.from ≤ span.to
  pub ends : span.to ≤ outer.to
  pub placed : Placed

-- forms on these spans stand in order between two bytes, and the tokens behind them stand behind the second
pub record Part (from : ℕ) (spans : List Span) (to : ℕ) (Placed : Type 0) (rest : List Token) (end : ℕ) : Type 0 where
  pub more : from ≤ to
  pub order : InOrder from spans to
  pub placed : Placed
  pub on : Runs to rest end

-- a form without parentheses around it
pub bare : {from end : ℕ} {span : Span} {Placed : Type 0} {rest : List Token} → from ≤ span.from → span.from ≤ span.to → Placed → Runs span.to rest end → Read from span (Within span span Placed) rest end
bare after some placed on = record { after = after; some = some; placed = record { begins = omega arith; some = some; ends = omega arith; placed = placed }; on = on }

-- a form of one token
pub leaf : {from end : ℕ} {span : Span} {rest : List Token} → Stands from span → Runs span.to rest end → Read from span (span.from ≤ span.to) rest end
leaf s on = record { after = s.after; some = s.some; placed = s.some; on = on }

pub bare_leaf : {from end : ℕ} {span : Span} {rest : List Token} → Stands from span → Runs span.to rest end → Read from span (Within span span (span.from ≤ span.to)) rest end
bare_leaf s on = bare s.after s.some s.some on

-- a form, and those behind it
pub one_more : {from to end : ℕ} {span : Span} {spans : List Span} {A B : Type 0} {ts rest : List Token} → Read from span A ts end → Part span.to spans to B rest end → Part from (span ∷ spans) to (A × B) rest end
one_more x y = record { more = omega (arith, x, y.more); order = (x.after, x.some, y.order); placed = (x.placed, y.placed); on = y.on }

pub alone : {from end : ℕ} {span : Span} {Placed : Type 0} {rest : List Token} → Read from span Placed rest end → Part from (span ∷ []) span.to Placed rest end
alone x = record { more = omega (arith, x.after, x.some); order = (x.after, x.some, omega arith); placed = x.placed; on = x.on }

-- forms, and others behind them
pub together : {from place to end : ℕ} {spans others : List Span} {A B : Type 0} {ts rest : List Token} → Part from spans place A ts end → Part place others to B rest end → Part from (spans ++ others) to (A × B) rest end
together {from} {place} {to} {spans} {others} x y = record { more = omega (arith, x.more, y.more); order = appended from place to spans others x.order y.order; placed = (x.placed, y.placed); on = y.on }

-- none up to a token
pub no_more : {from end : ℕ} {span : Span} {rest : List Token} → Stands from span → Runs span.to rest end → Part from [] span.to (Unit {0}) rest end
no_more s on = record { more = omega (arith, s); order = omega (arith, s); placed = tt; on = on }

-- the part that is left out before a mark
pub omitted : {from end : ℕ} {t : Token} {rest : List Token} → Runs from (t ∷ rest) end → Part from [] from (Unit {0}) rest end
omitted h = record { more = omega arith; order = omega arith; placed = tt; on = skip h }
