-- The tokens of a source can be spelled: each piece of a cut adds such tokens, and definitions whose numbers are in range.
use Rattle.std.proofs.Common.{ℕ, ◌+◌, ◌≤◌, Bool, true, false, nat_lt, cond, List, [], ◌∷◌, ◌++◌, length, drop, find, bytes_eq, Option, Some, None, Result, Ok, Err, IfSome, IfOk, option_map, subst}
use Rattle.std.specs.List.{AllByRecursion}
use Rattle.ckc_text.specs.declared.fault.SourceFault.{SourceFault}
use Rattle.ckc_text.specs.declared.code.Code.TheVariants.{E05, E08}
use Rattle.ckc_lexer.specs.declared.line.Line.{Line}
use Rattle.ckc_lexer.specs.declared.line.Line.TheVariants.{Fresh, Marked, Behind}
use Rattle.ckc_lexer.specs.declared.piece.Definition.{Definition}
use Rattle.ckc_lexer.specs.declared.piece.Piece.{Piece}
use Rattle.ckc_lexer.specs.declared.piece.Piece.TheVariants.{Gap, Lexeme, Named, Include, Define, Scope, CommentFault, Forbidden, Fault}
use Rattle.ckc_lexer.specs.declared.piece.ScopeWord.{ScopeWord}
use Rattle.ckc_lexer.specs.declared.piece.ScopeWord.TheVariants as word
use Rattle.ckc_lexer.specs.declared.token.CheckedScope.{CheckedScope}
use Rattle.ckc_lexer.specs.declared.token.CheckedScope.TheVariants as scopes
use Rattle.ckc_lexer.specs.declared.token.Token.{Token}
use Rattle.ckc_lexer.specs.declared.token.TokenKind.{TokenKind}
use Rattle.ckc_lexer.specs.declared.token.TokenKind.TheVariants as kinds
use Rattle.ckc_lexer.specs.Rules.{is_same_number}
use Rattle.ckc_lexer.specs.Tokens.{State, Step, Cut, ends, stops, goes, cut, token_at, fault_at, go_on, push, push_after, definition_for, name_tokens, behind_mark, define, scope_from, pop_scope, change_scope, is_first, next}
use Rattle.ckc_printer.specs.ReadingBack.{IsFreeName, IsLexical, AreBytes, TokensAreLexical}
use Rattle.ckc_printer.proofs.Printable.{Lexical}
use Rattle.ckc_printer.proofs.LexicalPieces.{IsLexicalPiece, either, dropped, piece_lexical}

-- one more at the end
all_more : {A : Type 0} (P : A → Type 0) (xs : List A) (x : A) → AllByRecursion P xs → P x → AllByRecursion P (xs ++ x ∷ [])
all_more P [] x h p = (p, tt)
all_more P (y ∷ ys) x h p = (h.0, all_more P ys x h.1 p)

-- a definition whose number is in range
abbrev InRange : Definition → Type 0
InRange d = d.value ≤ 2147483647

-- all tokens so far can be spelled, and what they may come from
record IsLexicalState (s : State) : Type 0 where
  tokens : Lexical s.tokens
  definitions : AllByRecursion InRange s.definitions

abbrev Leads : Result State SourceFault → Type 0
Leads r = IfOk r (λ s. IsLexicalState s)

push_leads : {s : State} (k : TokenKind) (n : ℕ) → IsLexical k → IsLexicalState s → Leads (push s k n)
unfolding push
push_leads {s} k n h l =
    let t = token_at s.at (s.at + n) k in
    let pushed : State = record { at = s.at; line = s.line; tokens = s.tokens ++ t ∷ []; definitions = s.definitions; scope = s.scope; kept = s.kept } in
    let can : IsLexicalState pushed = record { tokens = all_more (λ (t : Token). IsLexical t.kind) s.tokens t l.tokens h; definitions = l.definitions } in
    either Leads (nat_lt (length s.tokens) 200000) (Ok pushed) (Err (fault_at E08 s.at)) can tt

push_after_leads : (r : Result State SourceFault) (k : TokenKind) (n : ℕ) → IsLexical k → Leads r → Leads (push_after r k n)
push_after_leads (Ok s) k n h l = push_leads k n h l
push_after_leads (Err fault) k n h l = tt

found_in_range : (test : Definition → Bool) (definitions : List Definition) → AllByRecursion InRange definitions → IfSome (option_map (λ (d : Definition). (d.negative, d.value)) (find test definitions)) (λ (x : Bool × ℕ). x.1 ≤ 2147483647)
found_in_range test [] h = tt
found_in_range test (d ∷ ds) h =
    either (λ (o : Option Definition). IfSome (option_map (λ (d : Definition). (d.negative, d.value)) o) (λ (x : Bool × ℕ). x.1 ≤ 2147483647)) (test d) (Some d) (find test ds) h.0 (found_in_range test ds h.1)

name_leads : {s : State} (name : List ℕ) (found : Option (Bool × ℕ)) (n : ℕ) → IsFreeName name → IfSome found (λ (x : Bool × ℕ). x.1 ≤ 2147483647) → IsLexicalState s → Leads (name_tokens name found s n)
name_leads name None n h small l = push_leads (kinds.Name name) n h l
name_leads name (Some (false, value)) n h small l = push_leads (kinds.Number value) n small l
name_leads {s} name (Some (true, value)) n h small l = push_after_leads (push s kinds.Minus n) (kinds.Number value) n small (push_leads kinds.Minus n tt l)

on_leads : (n : ℕ) (line : Line) (r : Result State SourceFault) → Leads r → Leads (go_on n line r)
on_leads n line (Ok s) l = record { tokens = l.tokens; definitions = l.definitions }
on_leads n line (Err fault) l = tt

behind_leads : (line : Line) (r : Result State SourceFault) (n : ℕ) → Leads r → Leads (behind_mark line r n)
behind_leads Fresh r n l = on_leads n Marked r l
behind_leads Marked r n l = on_leads n Marked r l
behind_leads (Behind directive) r n l = tt

define_leads : {s : State} (found : Option (Bool × ℕ)) (d : Definition) → InRange d → IsLexicalState s → Leads (define found d s)
define_leads {s} None d h l = record { tokens = l.tokens; definitions = all_more InRange s.definitions d l.definitions h }
define_leads {s} (Some (negative, value)) d h l = either Leads (is_same_number negative value d) (Ok s) (Err (fault_at E05 s.at)) l tt

scope_leads : {s : State} (scope : CheckedScope) (kept : List CheckedScope) (n : ℕ) → IsLexicalState s → Leads (scope_from s scope kept n)
scope_leads {s} scope kept n l =
    let from : State = record { at = s.at; line = s.line; tokens = s.tokens; definitions = s.definitions; scope = scope; kept = kept } in
    push_leads {s = from} (kinds.Scope scope) n tt (record { tokens = l.tokens; definitions = l.definitions })

pop_leads : {s : State} (kept : List CheckedScope) (n : ℕ) → IsLexicalState s → Leads (pop_scope kept s n)
pop_leads [] n l = tt
pop_leads (last ∷ others) n l = scope_leads last others n l

change_leads : {s : State} (w : ScopeWord) (n : ℕ) → IsLexicalState s → Leads (change_scope w s n)
change_leads {s} word.On n l = scope_leads scopes.On s.kept n l
change_leads {s} word.Off n l = scope_leads scopes.Off s.kept n l
change_leads {s} word.Push n l = scope_leads s.scope (s.scope ∷ s.kept) n l
change_leads {s} word.Pop n l = pop_leads s.kept n l

next_leads : (piece : Piece) (s : State) (n : ℕ) → IsLexicalPiece piece → IsLexicalState s → Leads (next piece s n)
next_leads (Gap ends_line) s n h l = on_leads n (cond ends_line Fresh s.line) (Ok s) l
next_leads (Lexeme k) s n h l = behind_leads s.line (push s k n) n (push_leads k n h l)
next_leads (Named name) s n h l =
    let found = definition_for name s.definitions in
    behind_leads s.line (name_tokens name found s n) n (name_leads name found n h (found_in_range (λ d. bytes_eq d.name name) s.definitions l.definitions) l)
next_leads Include s n h l = on_leads n (Behind s.at) (Ok s) l
next_leads (Define d) s n h l =
    let found = definition_for d.name s.definitions in
    on_leads n (Behind s.at) (define found d s) (define_leads found d h l)
next_leads (Scope w) s n h l = on_leads n (Behind s.at) (change_scope w s n) (change_leads w n l)
next_leads (CommentFault code) s n h l = tt
next_leads Forbidden s n h l = tt
next_leads (Fault code) s n h l = tt

step_leads : {src : List ℕ} {s : State} {r : Result State SourceFault} → AreBytes src → IsLexicalState s → Step src s r → Leads r
step_leads {src} {s} h l a =
    subst Leads a.leads (next_leads a.piece s a.n (piece_lexical (is_first s.line) (drop s.at src) a.piece a.n (dropped s.at src h) a.stands) l)

cut_lexical : {src : List ℕ} {s : State} {r : Result (List Token) SourceFault} → AreBytes src → IsLexicalState s → Cut src s r → IfOk r Lexical
cut_lexical h l (ends e) = l.tokens
cut_lexical h l (stops a) = tt
cut_lexical h l (goes a c) = cut_lexical h (step_leads h l a) c

pub lexed_lexical : TokensAreLexical
lexed_lexical src tokens h (cut small c) = cut_lexical h (record { tokens = tt; definitions = tt }) c
