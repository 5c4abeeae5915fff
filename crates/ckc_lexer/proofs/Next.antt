-- What a piece leads to stands behind it, with the tokens in order.
use Rattle.std.proofs.Common.{◌≡◌, ℕ, ◌+◌, ◌<◌, ◌≤◌, Bool, true, false, cond, List, [], ◌∷◌, ◌++◌, length, drop, Option, Some, None, Result, Ok, Err, IfOk, nat_lt, refl, sym, ap, ◌∙◌, subst, arith, length-drop}
use Rattle.std.proofs.lemmas.Bool.{ltb-true}
use Rattle.std.proofs.lemmas.List.{length-append}
use Rattle.ckc_text.specs.declared.code.Code.TheVariants.{E08}
use Rattle.ckc_text.specs.declared.fault.SourceFault.{SourceFault}
use Rattle.ckc_lexer.specs.declared.line.Line.{Line}
use Rattle.ckc_lexer.specs.declared.line.Line.TheVariants.{Fresh, Marked, Behind}
use Rattle.ckc_lexer.specs.declared.piece.Piece.{Piece}
use Rattle.ckc_lexer.specs.declared.piece.Piece.TheVariants.{Gap, Lexeme, Named, Include, Define, Scope, CommentFault, Forbidden, Fault}
use Rattle.ckc_lexer.specs.declared.piece.Definition.{Definition}
use Rattle.ckc_lexer.specs.declared.piece.ScopeWord.{ScopeWord}
use Rattle.ckc_lexer.specs.declared.piece.ScopeWord.TheVariants as word
use Rattle.ckc_lexer.specs.declared.token.CheckedScope.{CheckedScope}
use Rattle.ckc_lexer.specs.declared.token.CheckedScope.TheVariants as scope
use Rattle.ckc_lexer.specs.declared.token.Token.{Token}
use Rattle.ckc_lexer.specs.declared.token.TokenKind.{TokenKind}
use Rattle.ckc_lexer.specs.declared.token.TokenKind.TheVariants as kind
use Rattle.ckc_lexer.specs.Tokens.{State, Step, Cut, ends, stops, goes, Lexes, great, cut, token_at, fault_at, go_on, push, push_after, number_tokens, name_tokens, definition_for, behind_mark, define, scope_from, pop_scope, change_scope, is_first, next, InOrder, none, token, again}
use Rattle.ckc_lexer.proofs.Fronts.{piece_within}

widen : {tokens : List Token} {a b : ℕ} → InOrder tokens a → a ≤ b → InOrder tokens b
widen none h = none
widen (token ts t o some to) h = token ts t o some (omega (arith, to, h))
widen (again ts t u o m e) h = again ts t u (widen o h) m e

-- at the same place, with the tokens of the n bytes that stand there
record Kept (s : State) (n : ℕ) (t : State) : Type 0 where
  at : t.at ≡ s.at
  order : InOrder s.tokens s.at → 0 < n → InOrder t.tokens (s.at + n)
  few : length s.tokens ≤ 200000 → length t.tokens ≤ 200000

-- behind the n bytes that stand there
pub record Further (s : State) (n : ℕ) (t : State) : Type 0 where
  pub at : t.at ≡ s.at + n
  pub order : InOrder s.tokens s.at → 0 < n → InOrder t.tokens t.at
  pub few : length s.tokens ≤ 200000 → length t.tokens ≤ 200000

same_ok : {r q : State} → ◌≡◌ {A = Result State SourceFault} (Ok r) (Ok q) → r ≡ q
same_ok e = cc

chosen : (c : Bool) (r q : State) (f : SourceFault) → ◌≡◌ {A = Result State SourceFault} (cond c (Ok r) (Err f)) (Ok q) → r ≡ q
chosen true r q f e = same_ok e
chosen false r q f e = cc

kept_same : (s : State) (n : ℕ) → Kept s n s
kept_same s n = record { at = refl; order = λ o some. widen o (omega arith); few = λ f. f }

-- behind one token more
abbrev pushed : State → TokenKind → ℕ → State
pushed s k n = record { at = s.at; line = s.line; tokens = s.tokens ++ token_at s.at (s.at + n) k ∷ []; definitions = s.definitions; scope = s.scope; kept = s.kept }

pushed_few : (s t : State) (k : TokenKind) (n : ℕ) → push s k n ≡ Ok t → length t.tokens ≤ 200000
unfolding push
pushed_few s t k n e = by (nat_lt (length s.tokens) 200000) refl e
  where
    by : (c : Bool) → nat_lt (length s.tokens) 200000 ≡ c → ◌≡◌ {A = Result State SourceFault} (cond c (Ok (pushed s k n)) (Err (fault_at E08 s.at))) (Ok t) → length t.tokens ≤ 200000
    by true room e =
        subst (λ (x : State). length x.tokens ≤ 200000) (same_ok e) (omega (arith, ltb-true (length s.tokens) 200000 room, length-append s.tokens (token_at s.at (s.at + n) k ∷ [])))
    by false full e = cc

pushed_is : (s t : State) (k : TokenKind) (n : ℕ) → push s k n ≡ Ok t → (t.at ≡ s.at) × (t.tokens ≡ s.tokens ++ token_at s.at (s.at + n) k ∷ [])
unfolding push
pushed_is s t k n e = let same = chosen _ _ t _ e in (sym (ap (λ (u : State). u.at) same), sym (ap (λ (u : State). u.tokens) same))

kept_push : (s t : State) (k : TokenKind) (n : ℕ) → push s k n ≡ Ok t → Kept s n t
unfolding push
kept_push s t k n e =
    let is = pushed_is s t k n e in
    record {
      at = is.0;
      order = λ o some. subst (λ x. InOrder x (s.at + n)) (sym is.1) (token s.tokens (token_at s.at (s.at + n) k) o (omega arith) (omega arith));
      few = λ f. pushed_few s t k n e;
    }

-- a minus and a token of the same bytes
kept_twice : (s t : State) (r : Result State SourceFault) (l : TokenKind) (n : ℕ) → push s kind.Minus n ≡ r → push_after r l n ≡ Ok t → Kept s n t
kept_twice s t (Err f) l n d e = cc
kept_twice s t (Ok u) l n d e =
    let first = pushed_is s u kind.Minus n d in
    let second = pushed_is u t l n e in
    let a = token_at s.at (s.at + n) kind.Minus in
    let b = token_at s.at (s.at + n) l in
    let at : u.at ≡ s.at = first.0 in
    let tokens : t.tokens ≡ (s.tokens ++ a ∷ []) ++ b ∷ [] =
    second.1 ∙ ap (λ x. x ++ token_at u.at (u.at + n) l ∷ []) first.1 ∙ ap (λ x. (s.tokens ++ a ∷ []) ++ token_at x (x + n) l ∷ []) at in
    record {
      at = second.0 ∙ at;
      order = λ o some. subst (λ x. InOrder x (s.at + n)) (sym tokens) (again s.tokens a b (token s.tokens a o (omega arith) (omega arith)) refl refl);
      few = λ f. pushed_few u t l n e;
    }

kept_number : (negative : Bool) (value : ℕ) (s t : State) (n : ℕ) → number_tokens negative value s n ≡ Ok t → Kept s n t
kept_number false value s t n e = kept_push s t (kind.Number value) n e
kept_number true value s t n e = kept_twice s t (push s kind.Minus n) (kind.Number value) n refl e

kept_name : (name : List ℕ) (found : Option (Bool × ℕ)) (s t : State) (n : ℕ) → name_tokens name found s n ≡ Ok t → Kept s n t
kept_name name None s t n e = kept_push s t (kind.Name name) n e
kept_name name (Some (negative, value)) s t n e = kept_number negative value s t n e

kept_define : (found : Option (Bool × ℕ)) (d : Definition) (s t : State) (n : ℕ) → define found d s ≡ Ok t → Kept s n t
kept_define None d s t n e = subst (λ u. Kept s n u) (same_ok e) (record { at = refl; order = λ o some. widen o (omega arith); few = λ f. f })
kept_define (Some (negative, value)) d s t n e = subst (λ u. Kept s n u) (chosen _ s t _ e) (kept_same s n)

kept_scope : (s t : State) (c : CheckedScope) (kept : List CheckedScope) (n : ℕ) → scope_from s c kept n ≡ Ok t → Kept s n t
kept_scope s t c kept n e =
    let k = kept_push (record { at = s.at; line = s.line; tokens = s.tokens; definitions = s.definitions; scope = c; kept = kept }) t (kind.Scope c) n e in
    record { at = k.at; order = k.order; few = k.few }

kept_pop : (kept : List CheckedScope) (s t : State) (n : ℕ) → pop_scope kept s n ≡ Ok t → Kept s n t
kept_pop [] s t n e = cc
kept_pop (last ∷ others) s t n e = kept_scope s t last others n e

kept_change : (w : ScopeWord) (s t : State) (n : ℕ) → change_scope w s n ≡ Ok t → Kept s n t
kept_change word.On s t n e = kept_scope s t scope.On s.kept n e
kept_change word.Off s t n e = kept_scope s t scope.Off s.kept n e
kept_change word.Push s t n e = kept_scope s t s.scope (s.scope ∷ s.kept) n e
kept_change word.Pop s t n e = kept_pop s.kept s t n e

gone_on : (r : Result State SourceFault) (line : Line) (s t : State) (n : ℕ) → ((u : State) → r ≡ Ok u → Kept s n u) → go_on n line r ≡ Ok t → Further s n t
gone_on (Err f) line s t n h e = cc
gone_on (Ok u) line s t n h e =
    let k = h u refl in
    let same = same_ok e in
    let at : t.at ≡ s.at + n = sym (ap (λ (x : State). x.at) same) ∙ ap (λ x. x + n) k.at in
    record {
      at = at;
      order = λ o some. subst (λ x. InOrder x t.at) (ap (λ (x : State). x.tokens) same) (subst (λ x. InOrder u.tokens x) (sym at) (k.order o some));
      few = λ f. subst (λ (x : State). length x.tokens ≤ 200000) same (k.few f);
    }

behind_further : (line : Line) (r : Result State SourceFault) (s t : State) (n : ℕ) → ((u : State) → r ≡ Ok u → Kept s n u) → behind_mark line r n ≡ Ok t → Further s n t
behind_further Fresh r s t n h e = gone_on r Marked s t n h e
behind_further Marked r s t n h e = gone_on r Marked s t n h e
behind_further (Behind directive) r s t n h e = cc

pub next_further : (piece : Piece) (s t : State) (n : ℕ) → next piece s n ≡ Ok t → Further s n t
next_further (Gap ends_line) s t n e = gone_on (Ok s) _ s t n (λ u d. subst (λ x. Kept s n x) (same_ok d) (kept_same s n)) e
next_further (Lexeme k) s t n e = behind_further s.line (push s k n) s t n (λ u d. kept_push s u k n d) e
next_further (Named name) s t n e = behind_further s.line _ s t n (λ u d. kept_name name (definition_for name s.definitions) s u n d) e
next_further Include s t n e = gone_on (Ok s) _ s t n (λ u d. subst (λ x. Kept s n x) (same_ok d) (kept_same s n)) e
next_further (Define d) s t n e = gone_on _ _ s t n (λ u f. kept_define (definition_for d.name s.definitions) d s u n f) e
next_further (Scope w) s t n e = gone_on _ _ s t n (λ u d. kept_change w s u n d) e
next_further (CommentFault code) s t n e = cc
next_further Forbidden s t n e = cc
next_further (Fault code) s t n e = cc

-- a step leads further, and not past the end
pub record Advances (src : List ℕ) (s t : State) : Type 0 where
  pub more : s.at < t.at
  pub within : t.at ≤ length src
  pub order : InOrder s.tokens s.at → InOrder t.tokens t.at
  pub few : length s.tokens ≤ 200000 → length t.tokens ≤ 200000

pub step_advances : {src : List ℕ} {s t : State} → Step src s (Ok t) → Advances src s t
step_advances {src} {s} {t} a =
    let w = piece_within (is_first s.line) (drop s.at src) a.piece a.n (omega (arith, a.within, length-drop s.at src)) a.stands in
    let f = next_further a.piece s t a.n a.leads in
    record {
      more = omega (arith, f.at, w.some);
      within = omega (arith, f.at, w.within, a.within, length-drop s.at src);
      order = λ o. f.order o w.some;
      few = f.few;
    }

ordered_cut : {src : List ℕ} {s : State} {r : Result (List Token) SourceFault} → Cut src s r → InOrder s.tokens s.at → IfOk r (λ tokens. InOrder tokens (length src))
ordered_cut {s} (ends e) o = subst (λ x. InOrder s.tokens x) e o
ordered_cut (stops a) o = tt
ordered_cut (goes a c) o = ordered_cut c ((step_advances a).order o)

pub ordered : {src : List ℕ} {r : Result (List Token) SourceFault} → Lexes src r → IfOk r (λ tokens. InOrder tokens (length src))
ordered (great h) = tt
ordered (cut h c) = ordered_cut c none

few_cut : {src : List ℕ} {s : State} {r : Result (List Token) SourceFault} → Cut src s r → length s.tokens ≤ 200000 → IfOk r (λ tokens. length tokens ≤ 200000)
few_cut (ends e) f = f
few_cut (stops a) f = tt
few_cut (goes a c) f = few_cut c ((step_advances a).few f)

pub few_tokens : {src : List ℕ} {r : Result (List Token) SourceFault} → Lexes src r → IfOk r (λ tokens. length tokens ≤ 200000)
few_tokens (great h) = tt
few_tokens (cut h c) = few_cut c (omega arith)
