-- Pieces that can be printed are lexed as the tokens that they are: piece by piece, from their text's start on.
use Rattle.std.proofs.Common.{◌≡◌, ℕ, ◌+◌, ◌<◌, ◌≤◌, Bool, true, false, not, ◌||◌, ◌==◌, cond, List, [], ◌∷◌, ◌++◌, length, drop, map, nat_lt, codes, Result, Ok, refl, sym, ap, ◌∙◌, subst, append_assoc, append-nil, length-append, length-drop, drop-drop, arith}
use Rattle.std.specs.List.{AllByRecursion, list_all}
use Rattle.std.proofs.Math.Seq.{drop-append_seam}
use Rattle.std.proofs.lemmas.Bool.Decides.{nat_tests}
use Rattle.ckc_text.specs.declared.fault.SourceFault.{SourceFault}
use Rattle.ckc_lexer.specs.declared.run.Run.TheVariants.{Directive}
use Rattle.ckc_lexer.specs.declared.line.Line.{Line}
use Rattle.ckc_lexer.specs.declared.line.Line.TheVariants.{Fresh, Marked, Behind}
use Rattle.ckc_lexer.specs.declared.piece.Piece.TheVariants.{Gap, Lexeme, Named, Scope}
use Rattle.ckc_lexer.specs.declared.piece.Piece.{Piece}
use Rattle.ckc_lexer.specs.declared.piece.ScopeWord.{ScopeWord}
use Rattle.ckc_lexer.specs.declared.piece.ScopeWord.TheVariants as word
use Rattle.ckc_lexer.specs.declared.token.CheckedScope.{CheckedScope}
use Rattle.ckc_lexer.specs.declared.token.CheckedScope.TheVariants.{On, Off}
use Rattle.ckc_lexer.specs.declared.token.Token.{Token}
use Rattle.ckc_lexer.specs.declared.token.TokenKind.{TokenKind}
use Rattle.ckc_lexer.specs.declared.token.TokenKind.TheVariants as kinds
use Rattle.ckc_lexer.specs.Directives.{part, named_directive, pragma_of, scope_of}
use Rattle.ckc_lexer.specs.Runs as runs
use Rattle.ckc_lexer.specs.Runs.{width, Extent}
use Rattle.ckc_lexer.specs.Pieces.{Stands}
use Rattle.ckc_lexer.specs.Tokens as tokens
use Rattle.ckc_lexer.specs.Tokens.{State, Cut, token_at, push, behind_mark, go_on, is_first, next}
use Rattle.ckc_printer.specs.Pieces as pieces
use Rattle.ckc_printer.specs.Pieces.{Sign, One, RightShift, InLine, ScopeLine, kind_text, sign_text, scope_text, pieces_text}
use Rattle.ckc_printer.specs.ReadingBack.{AreSigns, none, one, shift, sign_of, signed_tokens, CanSign, CanPrint, PiecesLexBack}
use Rattle.ckc_printer.specs.ReadingBack.{Behind as IsBehind}
use Rattle.ckc_printer.proofs.LexedTokens.{gap_byte, StandsBefore, fixed_stands, name_stands, number_stands}
use Rattle.ckc_printer.proofs.LexedQuotes.{string_stands, character_stands}

-- ---- what is left of a text

-- behind these many bytes of a text stands the rest
record Left (src : List ℕ) (at : ℕ) (rest : List ℕ) : Type 0 where
  is : drop at src ≡ rest
  within : at ≤ length src

-- behind one more part
left_behind : {src : List ℕ} {at : ℕ} (front rest : List ℕ) → Left src at (front ++ rest) → Left src (at + length front) rest
left_behind {src} {at} front rest l = record {
  is = sym (drop-drop (length front) at src) ∙ ap (λ t. drop (length front) t) l.is ∙ drop-append_seam front rest;
  within = omega (arith, length-drop at src, ap length l.is, length-append front rest, l.within);
}

-- ---- single pieces of it

-- before a place of a text without definitions
abbrev state : ℕ → Line → List Token → CheckedScope → List CheckedScope → State
state at line read scope kept = record { at = at; line = line; tokens = read; definitions = []; scope = scope; kept = kept }

-- a piece leads on from here
piece_goes : {src text : List ℕ} {t : State} {r : Result (List Token) SourceFault} (s : State) (piece : Piece) (n : ℕ) → Left src s.at text → 0 < length text → Stands (is_first s.line) text piece n → next piece s n ≡ Ok t → Cut src t r → Cut src s r
piece_goes {src} s piece n l some stands leads c =
    tokens.goes (record {
      within = omega (arith, length-drop s.at src, ap length l.is);
      piece = piece;
      n = n;
      stands = subst (λ text. Stands (is_first s.line) text piece n) (sym l.is) stands;
      leads = leads;
    }) c

-- a line that has no mark yet, or one that has
abbrev line_of : Bool → Line
line_of fresh = cond fresh Fresh Marked

-- a space leaves the line as it is, and a line feed begins one
gap_goes : {src rest : List ℕ} {r : Result (List Token) SourceFault} (ends : Bool) (at : ℕ) (line : Line) (read : List Token) (scope : CheckedScope) (kept : List CheckedScope) → Left src at (gap_byte ends ∷ rest)
    → Cut src (state (at + 1) (cond ends Fresh line) read scope kept) r → Cut src (state at line read scope kept) r
gap_goes true at line read scope kept l c = piece_goes (state at line read scope kept) (Gap true) 1 l (omega arith) (refl, refl) refl c
gap_goes false at line read scope kept l c = piece_goes (state at line read scope kept) (Gap false) 1 l (omega arith) (refl, refl) refl c

pushed : (at : ℕ) (line : Line) (read : List Token) (scope : CheckedScope) (kept : List CheckedScope) (k : TokenKind) (n : ℕ) → length read < 200000
    → push (state at line read scope kept) k n ≡ Ok (state at line (read ++ token_at at (at + n) k ∷ []) scope kept)
unfolding push
pushed at line read scope kept k n h = let few : nat_lt (length read) 200000 ≡ true = grind (arith, nat_tests) in rw few refl

-- this piece is one token of this kind
abbrev IsToken : Piece → TokenKind → Type 0
IsToken piece k = (s : State) (n : ℕ) → s.definitions ≡ [] → next piece s n ≡ behind_mark s.line (push s k n) n

behind_marked : (fresh : Bool) (n : ℕ) (r : Result State SourceFault) → behind_mark (line_of fresh) r n ≡ go_on n Marked r
behind_marked true n r = refl
behind_marked false n r = refl

token_goes : {src text : List ℕ} {r : Result (List Token) SourceFault} (fresh : Bool) (at : ℕ) (read : List Token) (scope : CheckedScope) (kept : List CheckedScope) (k : TokenKind) (piece : Piece) (n : ℕ)
    → IsToken piece k → length read < 200000 → Left src at text → 0 < length text → Stands (is_first (line_of fresh)) text piece n
    → Cut src (state (at + n) Marked (read ++ token_at at (at + n) k ∷ []) scope kept) r → Cut src (state at (line_of fresh) read scope kept) r
token_goes fresh at read scope kept k piece n is few l some stands c =
    let s = state at (line_of fresh) read scope kept in
    piece_goes s piece n l some stands
    (is s n refl ∙ behind_marked fresh n (push s k n) ∙ ap (λ r. go_on n Marked r) (pushed at (line_of fresh) read scope kept k n few)) c

-- ---- the tokens from a place on

-- the tokens from here on are these signs, and start here
record Back (src : List ℕ) (s : State) (signs : List Sign) : Type 0 where
  read : List Token
  cut : Cut src s (Ok (s.tokens ++ read))
  are : AreSigns signs read
  behind : (to : ℕ) → to < s.at → IsBehind to read

-- that is so wherever this text is left
abbrev GoesBack : List ℕ → List ℕ → Line → CheckedScope → List CheckedScope → List Sign → Type 0
GoesBack src text line scope kept signs = (at : ℕ) (read : List Token) → Left src at text → length read + signed_tokens signs ≤ 200000 → Back src (state at line read scope kept) signs

-- a token's text before a gap
record Shown (ends : Bool) (k : TokenKind) : Type 0 where
  piece : Piece
  stands : StandsBefore ends k piece
  is : IsToken piece k

lexeme_shown : {ends : Bool} (k : TokenKind) → StandsBefore ends k (Lexeme k) → Shown ends k
lexeme_shown k stands = record { piece = Lexeme k; stands = stands; is = λ s n none. refl }

kind_shown : (ends : Bool) (k : TokenKind) → CanSign (One k) → Shown ends k
kind_shown ends (kinds.Name name) h = record { piece = Named name; stands = name_stands ends h; is = λ s n none. rw none refl }
kind_shown ends (kinds.Number n) h = lexeme_shown (kinds.Number n) (number_stands ends h)
kind_shown ends (kinds.Character b) h = lexeme_shown (kinds.Character b) (λ first rest. character_stands first b (gap_byte ends ∷ rest) h)
kind_shown ends (kinds.Text bytes) h = lexeme_shown (kinds.Text bytes) (λ first rest. string_stands first bytes (gap_byte ends ∷ rest) h)
kind_shown ends (kinds.Scope scope) h = absurd h
kind_shown ends k h = lexeme_shown k (fixed_stands ends k tt)

one_back : {src rest : List ℕ} {signs : List Sign} {scope : CheckedScope} {kept : List CheckedScope} (ends fresh : Bool) {k : TokenKind} → Shown ends k
    → GoesBack src rest (line_of ends) scope kept signs → GoesBack src (kind_text k ++ gap_byte ends ∷ rest) (line_of fresh) scope kept (One k ∷ signs)
one_back {src} {rest} {scope} {kept} ends fresh {k} shown on at read l few =
    let n = length (kind_text k) in
    let t = token_at at (at + n) k in
    let gap = left_behind (kind_text k) (gap_byte ends ∷ rest) l in
    let b = on (at + n + 1) (read ++ t ∷ []) (left_behind (gap_byte ends ∷ []) rest gap) (omega (arith, length-append read (t ∷ []))) in
    record {
      read = t ∷ b.read;
      cut =
          token_goes fresh at read scope kept k shown.piece n shown.is (omega arith) l (omega (arith, length-append (kind_text k) (gap_byte ends ∷ rest))) (shown.stands (is_first (line_of fresh)) rest)
          (gap_goes ends (at + n) Marked (read ++ t ∷ []) scope kept gap
          (subst (λ ts. Cut src (state (at + n + 1) (line_of ends) (read ++ t ∷ []) scope kept) (Ok ts)) (append_assoc read (t ∷ []) b.read) b.cut));
      are = one (b.behind (at + n) (omega arith)) b.are;
      behind = λ to before. before;
    }

greater_first : (first : Bool) (rest : List ℕ) → Stands first (62 ∷ 62 ∷ rest) (Lexeme kinds.Greater) 1
greater_first first rest = refl

-- a right shift is lexed as its two marks
shift_back : {src rest : List ℕ} {signs : List Sign} {scope : CheckedScope} {kept : List CheckedScope} (ends fresh : Bool)
    → GoesBack src rest (line_of ends) scope kept signs → GoesBack src (62 ∷ 62 ∷ gap_byte ends ∷ rest) (line_of fresh) scope kept (RightShift ∷ signs)
shift_back {src} {rest} {scope} {kept} ends fresh on at read l few =
    let t = token_at at (at + 1) kinds.Greater in
    let u = token_at (at + 1) (at + 1 + 1) kinds.Greater in
    let second = left_behind (62 ∷ []) (62 ∷ gap_byte ends ∷ rest) l in
    let gap = left_behind (62 ∷ []) (gap_byte ends ∷ rest) second in
    let both = (read ++ t ∷ []) ++ u ∷ [] in
    let counted : length both ≡ length read + 2 = omega (arith, length-append (read ++ t ∷ []) (u ∷ []), length-append read (t ∷ [])) in
    let b = on (at + 1 + 1 + 1) both (left_behind (gap_byte ends ∷ []) rest gap) (omega arith) in
    record {
      read = t ∷ u ∷ b.read;
      cut =
          token_goes fresh at read scope kept kinds.Greater (Lexeme kinds.Greater) 1 (λ s n none. refl) (omega arith) l (omega arith) (greater_first (is_first (line_of fresh)) (gap_byte ends ∷ rest))
          (token_goes false (at + 1) (read ++ t ∷ []) scope kept kinds.Greater (Lexeme kinds.Greater) 1 (λ s n none. refl) (omega (arith, length-append read (t ∷ []))) second (omega arith) (fixed_stands ends kinds.Greater tt false rest)
          (gap_goes ends (at + 1 + 1) Marked both scope kept gap
          (subst (λ ts. Cut src (state (at + 1 + 1 + 1) (line_of ends) both scope kept) (Ok ts)) (append_assoc (read ++ t ∷ []) (u ∷ []) b.read ∙ append_assoc read (t ∷ []) (u ∷ b.read)) b.cut)));
      are = shift refl (b.behind (at + 1 + 1) (omega arith)) b.are;
      behind = λ to before. before;
    }

sign_back : {src rest : List ℕ} {signs : List Sign} {scope : CheckedScope} {kept : List CheckedScope} (ends fresh : Bool) (sign : Sign) → CanSign sign
    → GoesBack src rest (line_of ends) scope kept signs → GoesBack src (sign_text sign ++ gap_byte ends ∷ rest) (line_of fresh) scope kept (sign ∷ signs)
sign_back ends fresh (One k) h on = one_back ends fresh (kind_shown ends k h) on
sign_back ends fresh RightShift h on = shift_back ends fresh on

-- ---- lines of their own

scope_word : CheckedScope → ScopeWord
scope_word On = word.On
scope_word Off = word.Off

-- a byte that a directive runs past
abbrev runs_past : ℕ → Bool
runs_past b = not (b == 10 || b == 47)

directive_extent : (w rest : List ℕ) → list_all runs_past w ≡ true → Extent Directive (w ++ 10 ∷ rest) (length w)
directive_extent [] rest h = runs.ends refl
directive_extent (b ∷ w) rest h =
    let past : width Directive (b ∷ (w ++ 10 ∷ rest)) ≡ 1 = grind (arith, nat_tests) in
    let others : list_all runs_past w ≡ true = grind (arith, nat_tests) in
    subst (λ n. Extent Directive (b ∷ (w ++ 10 ∷ rest)) n) (omega arith) (runs.goes 0 past (directive_extent w rest others))

scope_stands : (scope : CheckedScope) (rest : List ℕ) → Stands true (scope_text scope ++ 10 ∷ rest) (Scope (scope_word scope)) (length (scope_text scope))
unfolding part named_directive pragma_of scope_of scope_word
scope_stands On rest = (23, directive_extent (codes "pragma CHECKED_SCOPE on") rest refl, (refl, refl))
scope_stands Off rest = (24, directive_extent (codes "pragma CHECKED_SCOPE off") rest refl, (refl, refl))

scope_leads : (new : CheckedScope) (at : ℕ) (read : List Token) (scope : CheckedScope) (kept : List CheckedScope) (n : ℕ) → length read < 200000
    → next (Scope (scope_word new)) (state at Fresh read scope kept) n ≡ Ok (state (at + n) (Behind at) (read ++ token_at at (at + n) (kinds.Scope new) ∷ []) new kept)
unfolding scope_word
scope_leads On at read scope kept n few = ap (λ r. go_on n (Behind at) r) (pushed at Fresh read On kept (kinds.Scope On) n few)
scope_leads Off at read scope kept n few = ap (λ r. go_on n (Behind at) r) (pushed at Fresh read Off kept (kinds.Scope Off) n few)

scope_back : {src rest : List ℕ} {signs : List Sign} {scope : CheckedScope} {kept : List CheckedScope} (fresh : Bool) → fresh ≡ true → (new : CheckedScope)
    → GoesBack src rest Fresh new kept signs → GoesBack src (scope_text new ++ 10 ∷ rest) (line_of fresh) scope kept (One (kinds.Scope new) ∷ signs)
scope_back false e new on = absurd (cc)
scope_back {src} {rest} {scope} {kept} true e new on = λ at read l few.
    let n = length (scope_text new) in
    let t = token_at at (at + n) (kinds.Scope new) in
    let gap = left_behind (scope_text new) (10 ∷ rest) l in
    let b = on (at + n + 1) (read ++ t ∷ []) (left_behind (10 ∷ []) rest gap) (omega (arith, length-append read (t ∷ []))) in
    record {
      read = t ∷ b.read;
      cut =
          piece_goes (state at Fresh read scope kept) (Scope (scope_word new)) n l (omega (arith, length-append (scope_text new) (10 ∷ rest))) (scope_stands new rest) (scope_leads new at read scope kept n (omega arith))
          (gap_goes true (at + n) (Behind at) (read ++ t ∷ []) new kept gap
          (subst (λ ts. Cut src (state (at + n + 1) Fresh (read ++ t ∷ []) new kept) (Ok ts)) (append_assoc read (t ∷ []) b.read) b.cut));
      are = one (b.behind (at + n) (omega arith)) b.are;
      behind = λ to before. before;
    }

-- ---- all pieces

-- a line of its own begins where no mark stands
abbrev Begins : Bool → List pieces.Piece → Type 0
Begins fresh [] = Unit {0}
Begins fresh (InLine sign ∷ others) = Unit {0}
Begins fresh (ScopeLine scope ∷ others) = fresh ≡ true

begins_fresh : (others : List pieces.Piece) → Begins true others
begins_fresh [] = tt
begins_fresh (InLine sign ∷ others) = tt
begins_fresh (ScopeLine scope ∷ others) = refl

none_back : (src : List ℕ) (line : Line) (scope : CheckedScope) (kept : List CheckedScope) → GoesBack src [] line scope kept []
none_back src line scope kept at read l few =
    let end : at ≡ length src = omega (arith, l.within, length-drop at src, ap length l.is) in
    record { read = []; cut = rw append-nil (tokens.ends end); are = none; behind = λ to before. tt }

pieces_back : (src : List ℕ) (listed : List pieces.Piece) (fresh : Bool) (scope : CheckedScope) (kept : List CheckedScope) → AllByRecursion CanPrint listed → Begins fresh listed
    → GoesBack src (pieces_text listed) (line_of fresh) scope kept (map sign_of listed)
pieces_back src [] fresh scope kept h begins = none_back src (line_of fresh) scope kept
pieces_back src (InLine sign ∷ []) fresh scope kept h begins = sign_back true fresh sign h.0 (pieces_back src [] true scope kept tt tt)
pieces_back src (InLine sign ∷ InLine following ∷ others) fresh scope kept h begins = sign_back false fresh sign h.0 (pieces_back src (InLine following ∷ others) false scope kept h.1 tt)
pieces_back src (InLine sign ∷ ScopeLine new ∷ others) fresh scope kept h begins = sign_back true fresh sign h.0 (pieces_back src (ScopeLine new ∷ others) true scope kept h.1 refl)
pieces_back src (ScopeLine new ∷ []) fresh scope kept h begins = scope_back fresh begins new (pieces_back src [] true new kept tt tt)
pieces_back src (ScopeLine new ∷ following ∷ others) fresh scope kept h begins = scope_back fresh begins new (pieces_back src (following ∷ others) true new kept h.1 (begins_fresh (following ∷ others)))

pub lexed_back : PiecesLexBack
lexed_back [] can small few = ([], tokens.cut small (gap_goes true 0 Fresh [] On [] (record { is = refl; within = omega arith }) (tokens.ends refl)), none)
lexed_back (piece ∷ others) can small few =
    let src = pieces_text (piece ∷ others) in
    let b = pieces_back src (piece ∷ others) true On [] can (begins_fresh (piece ∷ others)) 0 [] (record { is = refl; within = omega arith }) (omega arith) in
    (b.read, tokens.cut small b.cut, b.are)
