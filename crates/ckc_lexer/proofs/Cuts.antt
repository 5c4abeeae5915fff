-- A source is cut in one way: it has one list of tokens, or one fault.
use Rattle.std.proofs.Common.{◌≡◌, ℕ, suc, ◌+◌, Bool, true, false, List, take, drop, Option, Some, None, Result, refl, sym, ap, ◌∙◌, subst, arith}
use Rattle.std.specs.List.{list_any}
use Rattle.ckc_text.specs.declared.fault.SourceFault.{SourceFault}
use Rattle.ckc_lexer.specs.Bytes.{is_control, is_forbidden}
use Rattle.ckc_lexer.specs.Runs.{Extent, ends, goes}
use Rattle.ckc_lexer.specs.Quoted.{IsContent, string_piece, character_piece}
use Rattle.ckc_lexer.specs.Pieces.{comment_piece, closing_len, is_closing, quote_len, is_quote, is_include, IsDirective, IsHash, StandsAs, Stands, front_of}
use Rattle.ckc_lexer.specs.Tokens as tokens
use Rattle.ckc_lexer.specs.Tokens.{State, Step, Cut, Lexes, next}
use Rattle.ckc_lexer.specs.declared.front.Front.{Front}
use Rattle.ckc_lexer.specs.declared.front.Front.TheVariants.{BlankByte, LineComment, BlockComment, StringQuote, CharacterQuote, Word, Hash, Mark}
use Rattle.ckc_lexer.specs.declared.run.Run.{Run}
use Rattle.ckc_lexer.specs.declared.piece.Piece.{Piece}
use Rattle.ckc_lexer.specs.declared.token.Token.{Token}
use Rattle.ckc_lexer.proofs.Meanings.{same_meaning}

-- a run has one length
pub same_extent : {run : Run} {text : List ℕ} {n m : ℕ} → Extent run text n → Extent run text m → n ≡ m
same_extent (ends e) (ends f) = refl
same_extent (ends e) (goes w f rest) = absurd (omega (arith, e, f))
same_extent (goes w e rest) (ends f) = absurd (omega (arith, e, f))
same_extent {run} {text} (goes {n} w e rest) (goes {n = m} v f other) =
    let same : v ≡ w = omega (arith, e, f) in
    let more = same_extent rest (subst (λ k. Extent run (drop (suc k) text) m) same other) in
    omega (arith, same, more)

same_content : (text : List ℕ) (c d : Option (List ℕ)) → IsContent text c → IsContent text d → c ≡ d
same_content text None None h i = refl
same_content text None (Some bytes) h i = absurd (h bytes i)
same_content text (Some bytes) None h i = absurd (i bytes h)
same_content text (Some bytes) (Some others) h i = ap Some (same_meaning h i)

same_directive : (inner : List ℕ) (m : ℕ) (include : Bool) (p q : Piece) (n k : ℕ) → IsDirective inner m include p n → IsDirective inner m include q k → (p ≡ q) × (n ≡ k)
same_directive inner m true p q n k (a, b) (c, d) = (a ∙ sym c, b ∙ sym d)
same_directive inner m false p q n k (a, b) (c, d) = (a ∙ sym c, b ∙ sym d)

same_hash : (first : Bool) (inner : List ℕ) (p q : Piece) (n k : ℕ) → IsHash first inner p n → IsHash first inner q k → (p ≡ q) × (n ≡ k)
same_hash false inner p q n k (a, b) (c, d) = (a ∙ sym c, b ∙ sym d)
same_hash true inner p q n k (m, e, h) (l, f, i) =
    same_directive inner m (is_include (take m inner)) p q n k h (subst (λ j. IsDirective inner j (is_include (take j inner)) q k) (same_extent f e) i)

-- at one place stands one piece
same_as : (front : Front) (first : Bool) (text : List ℕ) (p q : Piece) (n k : ℕ) → StandsAs front first text p n → StandsAs front first text q k → (p ≡ q) × (n ≡ k)
same_as BlankByte first text p q n k (a, b) (c, d) = (a ∙ sym c, b ∙ sym d)
same_as LineComment first text p q n k (a, b) (c, d) = (a ∙ sym c, b ∙ sym d)
same_as BlockComment first text p q n k (m, e, (a, b)) (l, f, (c, d)) =
    let inner = drop 2 text in
    let same = same_extent e f in
    (a ∙ ap (λ j. comment_piece (take j inner) (is_closing (drop j inner))) same ∙ sym c, b ∙ ap (λ j. 2 + (j + closing_len (is_closing (drop j inner)))) same ∙ sym d)
same_as StringQuote first text p q n k (m, e, content, g, (a, b)) (l, f, other, h, (c, d)) =
    let inner = drop 1 text in
    let same = same_extent e f in
    let means = same_content (take l inner) content other (subst (λ j. IsContent (take j inner) content) same g) h in (
      a
          ∙ ap (λ j. string_piece (list_any is_control (take j inner)) content (is_quote 34 (drop j inner))) same
          ∙ ap (λ x. string_piece (list_any is_control (take l inner)) x (is_quote 34 (drop l inner))) means
          ∙ sym c,
      b ∙ ap (λ j. 1 + (j + quote_len (is_quote 34 (drop j inner)))) same ∙ sym d,
    )
same_as CharacterQuote first text p q n k (m, e, content, g, (a, b)) (l, f, other, h, (c, d)) =
    let inner = drop 1 text in
    let same = same_extent e f in
    let means = same_content (take l inner) content other (subst (λ j. IsContent (take j inner) content) same g) h in (
      a
          ∙ ap (λ j. character_piece (list_any is_forbidden (take j inner)) content (is_quote 39 (drop j inner))) same
          ∙ ap (λ x. character_piece (list_any is_forbidden (take l inner)) x (is_quote 39 (drop l inner))) means
          ∙ sym c,
      b ∙ ap (λ j. 1 + (j + quote_len (is_quote 39 (drop j inner)))) same ∙ sym d,
    )
same_as Word first text p q n k (a, b) (c, d) = (a ∙ sym c, b ∙ sym d)
same_as Hash first text p q n k h i = same_hash first (drop 1 text) p q n k h i
same_as Mark first text p q n k h i =
    let same : ◌≡◌ {A = Piece × ℕ} (p, n) (q, k) = h ∙ sym i in
    (ap (λ (x : Piece × ℕ). x.0) same, ap (λ (x : Piece × ℕ). x.1) same)

pub same_piece : (first : Bool) (text : List ℕ) (p q : Piece) (n k : ℕ) → Stands first text p n → Stands first text q k → (p ≡ q) × (n ≡ k)
same_piece first text p q n k h i = same_as (front_of text) first text p q n k h i

-- a state leads to one other, or to one fault
pub same_step : {src : List ℕ} {s : State} {r q : Result State SourceFault} → Step src s r → Step src s q → r ≡ q
same_step {src} {s} a b =
    let same = same_piece (tokens.is_first s.line) (drop s.at src) a.piece b.piece a.n b.n a.stands b.stands in
    sym a.leads ∙ ap (λ p. next p s a.n) same.0 ∙ ap (λ k. next b.piece s k) same.1 ∙ b.leads

pub same_cut : {src : List ℕ} {s : State} {r q : Result (List Token) SourceFault} → Cut src s r → Cut src s q → r ≡ q
same_cut (tokens.ends e) (tokens.ends f) = refl
same_cut (tokens.ends e) (tokens.stops b) = absurd (omega (arith, e, b.within))
same_cut (tokens.ends e) (tokens.goes b d) = absurd (omega (arith, e, b.within))
same_cut (tokens.stops a) (tokens.ends f) = absurd (omega (arith, f, a.within))
same_cut (tokens.stops a) (tokens.stops b) = let same = same_step a b in cc
same_cut (tokens.stops a) (tokens.goes b d) = let same = same_step a b in absurd (cc)
same_cut (tokens.goes a c) (tokens.ends f) = absurd (omega (arith, f, a.within))
same_cut (tokens.goes a c) (tokens.stops b) = let same = same_step a b in absurd (cc)
same_cut {src} {q} (tokens.goes {t} a c) (tokens.goes {t = u} b d) =
    let same = same_step a b in
    let state : u ≡ t = cc in
    same_cut c (subst (λ x. Cut src x q) state d)

-- a source has one list of tokens or one fault
pub same_answer : {src : List ℕ} {r q : Result (List Token) SourceFault} → Lexes src r → Lexes src q → r ≡ q
same_answer (tokens.great h) (tokens.great i) = refl
same_answer (tokens.great h) (tokens.cut i d) = absurd (omega (arith, h, i))
same_answer (tokens.cut h c) (tokens.great i) = absurd (omega (arith, h, i))
same_answer (tokens.cut h c) (tokens.cut i d) = same_cut c d
