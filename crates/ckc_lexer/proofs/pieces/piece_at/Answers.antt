use Rattle.std.proofs.Common.{◌≡◌, ◌∙◌, ℕ, Bool, List, sym, subst, Result, IfOk}
use Rattle.std.proofs.lemmas.List.{take_rest}
use Rattle.ckc_lexer.specs.Pieces.{front_of, StandsAs, Stands}
use Rattle.ckc_lexer.specs.declared.front.Front.{Front}
use Rattle.ckc_lexer.specs.declared.piece.Piece.{Piece}
use Rattle.ckc_lexer.proofs.pieces.piece_at.Goals as goal

-- what stands as its front says stands there
stands : {E : Type 0} {front : Front} (first : Bool) (text : List ℕ) (result : Result (Piece × ℕ) E) → front ≡ front_of text → IfOk result (λ found. StandsAs front first text found.0 found.1) → IfOk result (λ found. Stands first text found.0 found.1)
stands first text result e h = subst (λ f. IfOk result (λ found. StandsAs f first text found.0 found.1)) e h

pub returns-in-BlockComment : goal.returns-in-BlockComment
returns-in-BlockComment c =
    let h = rw take_rest at c.block_comment.ensures in
    subst (λ f. StandsAs f c.args.first c.args.text.now c.block_comment.result.0 c.block_comment.result.1) (sym c.in-BlockComment.is ∙ c.front_of.ensures.front) h

pub returns-in-StringQuote : goal.returns-in-StringQuote
returns-in-StringQuote c =
    let h = rw take_rest at c.string.ensures in
    stands c.args.first c.args.text.now c.string.result (sym c.in-StringQuote.is ∙ c.front_of.ensures.front) h

pub returns-in-CharacterQuote : goal.returns-in-CharacterQuote
returns-in-CharacterQuote c =
    let h = rw take_rest at c.character.ensures in
    stands c.args.first c.args.text.now c.character.result (sym c.in-CharacterQuote.is ∙ c.front_of.ensures.front) h

pub returns-in-Hash : goal.returns-in-Hash
returns-in-Hash c =
    let h = rw take_rest at c.hash.ensures in
    stands c.args.first c.args.text.now c.hash.result (sym c.in-Hash.is ∙ c.front_of.ensures.front) h
