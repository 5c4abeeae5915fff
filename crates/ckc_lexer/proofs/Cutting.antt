-- Every source is cut: each front has a piece, and each run an end.
use Rattle.std.proofs.Common.{◌≡◌, ℕ, zero, suc, ◌+◌, ◌<◌, ◌≤◌, Bool, true, false, cond, ◌==◌, ◌&&◌, nat_lt, List, [], ◌∷◌, length, take, drop, Option, Some, None, Result, Ok, Err, refl, arith, length-drop}
use Rattle.std.proofs.lemmas.Bool.{ltb-true, ltb-false}
use Rattle.ckc_text.specs.declared.fault.SourceFault.{SourceFault}
use Rattle.ckc_lexer.specs.Bytes.{is_hexadecimal_digit}
use Rattle.ckc_lexer.specs.Marks.{mark_piece}
use Rattle.ckc_lexer.specs.Runs.{width, Extent, ends, goes}
use Rattle.ckc_lexer.specs.Quoted.{simple_escape, hexadecimal_escape, escape, quoted_byte, nothing, byte, IsContent}
use Rattle.ckc_lexer.specs.Pieces.{is_include, IsDirective, IsHash, StandsAs, front_of}
use Rattle.ckc_lexer.specs.Tokens as tokens
use Rattle.ckc_lexer.specs.Tokens.{State, Step, Cut, Lexes, next, is_first, initial}
use Rattle.ckc_lexer.specs.declared.front.Front.{Front}
use Rattle.ckc_lexer.specs.declared.front.Front.TheVariants.{BlankByte, LineComment, BlockComment, StringQuote, CharacterQuote, Word, Hash, Mark}
use Rattle.ckc_lexer.specs.declared.run.Run.{Run}
use Rattle.ckc_lexer.specs.declared.run.Run.TheVariants.{Comment, Directive, Quoted}
use Rattle.ckc_lexer.specs.declared.piece.Piece.{Piece}
use Rattle.ckc_lexer.specs.declared.token.Token.{Token}
use Rattle.ckc_lexer.proofs.Meanings.{no_byte, after_byte}
use Rattle.ckc_lexer.proofs.Fronts.{width_within}
use Rattle.ckc_lexer.proofs.Next.{step_advances}

-- ---- a run ends

extent_up_to : (run : Run) (k : ℕ) (text : List ℕ) → length text ≤ k → (n : ℕ) × Extent run text n
extent_up_to run zero text short = (0, ends (omega (arith, short, width_within run text)))
extent_up_to run (suc k) text short = by (width run text) refl (λ rest less. extent_up_to run k rest less)
  where
    by : (w : ℕ) → width run text ≡ w → ((rest : List ℕ) → length rest ≤ k → (n : ℕ) × Extent run rest n) → (n : ℕ) × Extent run text n
    by zero e behind = (0, ends e)
    by (suc w) e behind = let rest = behind (drop (suc w) text) (omega (arith, short, length-drop (suc w) text)) in (suc w + rest.0, goes w e rest.1)

some_extent : (run : Run) (text : List ℕ) → (n : ℕ) × Extent run text n
some_extent run text = extent_up_to run (length text) text (omega arith)

-- ---- what stands between quotes means a list of bytes, or nothing

-- a byte takes some of the text
abbrev TakesSome : Option (ℕ × ℕ) → Type 0
TakesSome None = Unit {0}
TakesSome (Some found) = 0 < found.1

either : (c : Bool) (x y : Option (ℕ × ℕ)) → TakesSome x → TakesSome y → TakesSome (cond c x y)
either true x y h i = h
either false x y h i = i

simple_takes : (c : ℕ) → TakesSome (simple_escape c)
simple_takes c =
    either (c == 110) _ _ (omega arith) (either (c == 116) _ _ (omega arith) (either (c == 114) _ _ (omega arith) (either (c == 48) _ _ (omega arith)
    (either (c == 92) _ _ (omega arith) (either (c == 39) _ _ (omega arith) (either (c == 34) _ _ (omega arith) tt))))))

hexadecimal_takes : (text : List ℕ) → TakesSome (hexadecimal_escape text)
hexadecimal_takes [] = tt
hexadecimal_takes (h ∷ []) = tt
hexadecimal_takes (h ∷ l ∷ rest) = either (is_hexadecimal_digit h && is_hexadecimal_digit l) _ None (omega arith) tt

escape_takes : (text : List ℕ) → TakesSome (escape text)
escape_takes [] = tt
escape_takes (c ∷ cs) = either (c == 120) (hexadecimal_escape cs) (simple_escape c) (hexadecimal_takes cs) (simple_takes c)

byte_takes : (text : List ℕ) → TakesSome (quoted_byte text)
byte_takes [] = tt
byte_takes (b ∷ bs) = either (b == 92) (escape bs) (Some (b, 1)) (escape_takes bs) (omega arith)

behind_byte : (text : List ℕ) (b n : ℕ) → quoted_byte text ≡ Some (b, n) → (content : Option (List ℕ)) × IsContent (drop n text) content → (content : Option (List ℕ)) × IsContent text content
behind_byte text b n e (None, none) = (None, λ bytes means. let rest = after_byte b n e means in none rest.0 rest.2)
behind_byte text b n e (Some bytes, means) = (Some (b ∷ bytes), byte b n e means)

content_up_to : (k : ℕ) (text : List ℕ) → length text ≤ k → (content : Option (List ℕ)) × IsContent text content
content_up_to k [] short = (Some [], nothing)
content_up_to zero (c ∷ cs) short = absurd (omega (arith, short))
content_up_to (suc k) (c ∷ cs) short = by (quoted_byte (c ∷ cs)) refl (byte_takes (c ∷ cs)) (λ rest less. content_up_to k rest less)
  where
    by : (found : Option (ℕ × ℕ)) → quoted_byte (c ∷ cs) ≡ found → TakesSome found → ((rest : List ℕ) → length rest ≤ k → (content : Option (List ℕ)) × IsContent rest content) → (content : Option (List ℕ)) × IsContent (c ∷ cs) content
    by None e takes behind = (None, λ bytes means. no_byte e (omega arith) means)
    by (Some (b, n)) e takes behind = behind_byte (c ∷ cs) b n e (behind (drop n (c ∷ cs)) (omega (arith, short, takes, length-drop n (c ∷ cs))))

some_content : (text : List ℕ) → (content : Option (List ℕ)) × IsContent text content
some_content text = content_up_to (length text) text (omega arith)

-- ---- a piece stands at each front

some_directive : (inner : List ℕ) (m : ℕ) (include : Bool) → (piece : Piece) × (n : ℕ) × IsDirective inner m include piece n
some_directive inner m true = (_, _, (refl, refl))
some_directive inner m false = (_, _, (refl, refl))

some_hash : (first : Bool) (inner : List ℕ) → (piece : Piece) × (n : ℕ) × IsHash first inner piece n
some_hash false inner = (_, _, (refl, refl))
some_hash true inner =
    let run = some_extent Directive inner in
    let found = some_directive inner run.0 (is_include (take run.0 inner)) in
    (found.0, found.1, (run.0, run.1, found.2))

some_as : (front : Front) (first : Bool) (text : List ℕ) → (piece : Piece) × (n : ℕ) × StandsAs front first text piece n
some_as BlankByte first text = (_, _, (refl, refl))
some_as LineComment first text = (_, _, (refl, refl))
some_as BlockComment first text = let run = some_extent Comment (drop 2 text) in (_, _, (run.0, run.1, (refl, refl)))
some_as StringQuote first text =
    let run = some_extent (Quoted 34) (drop 1 text) in
    let content = some_content (take run.0 (drop 1 text)) in
    (_, _, (run.0, run.1, content.0, content.1, (refl, refl)))
some_as CharacterQuote first text =
    let run = some_extent (Quoted 39) (drop 1 text) in
    let content = some_content (take run.0 (drop 1 text)) in
    (_, _, (run.0, run.1, content.0, content.1, (refl, refl)))
some_as Word first text = (_, _, (refl, refl))
some_as Hash first text = some_hash first (drop 1 text)
some_as Mark first text = ((mark_piece text).0, (mark_piece text).1, refl)

-- ---- a step, and a cut

some_step : (src : List ℕ) (s : State) → s.at < length src → (result : Result State SourceFault) × Step src s result
some_step src s within =
    let found = some_as (front_of (drop s.at src)) (is_first s.line) (drop s.at src) in
    (next found.0 s found.1, record { within = within; piece = found.0; n = found.1; stands = found.2; leads = refl })

cut_up_to : (src : List ℕ) (k : ℕ) (s : State) → s.at ≤ length src → length src ≤ s.at + k → (result : Result (List Token) SourceFault) × Cut src s result
cut_up_to src zero s within few = (Ok s.tokens, tokens.ends (omega (arith, within, few)))
cut_up_to src (suc k) s within few = by (nat_lt s.at (length src)) refl (λ t ended less. cut_up_to src k t ended less)
  where
    behind : (result : Result State SourceFault) → Step src s result → ((t : State) → t.at ≤ length src → length src ≤ t.at + k → (answer : Result (List Token) SourceFault) × Cut src t answer) → (answer : Result (List Token) SourceFault) × Cut src s answer
    behind (Err fault) step further = (Err fault, tokens.stops step)
    behind (Ok t) step further =
        let advances = step_advances step in
        let rest = further t advances.within (omega (arith, few, advances.more)) in
        (rest.0, tokens.goes step rest.1)

    by : (c : Bool) → nat_lt s.at (length src) ≡ c → ((t : State) → t.at ≤ length src → length src ≤ t.at + k → (answer : Result (List Token) SourceFault) × Cut src t answer) → (answer : Result (List Token) SourceFault) × Cut src s answer
    by true less further = let step = some_step src s (ltb-true s.at (length src) less) in behind step.0 step.1 further
    by false past further = (Ok s.tokens, tokens.ends (omega (arith, within, ltb-false s.at (length src) past)))

pub some_answer : (src : List ℕ) → (answer : Result (List Token) SourceFault) × Lexes src answer
some_answer src = by (nat_lt 1048576 (length src)) refl
  where
    by : (c : Bool) → nat_lt 1048576 (length src) ≡ c → (answer : Result (List Token) SourceFault) × Lexes src answer
    by true long = (_, tokens.great (ltb-true 1048576 (length src) long))
    by false short =
        let found = cut_up_to src (length src) initial (omega arith) (omega arith) in
        (found.0, tokens.cut (omega (arith, ltb-false 1048576 (length src) short)) found.1)
