use Rattle.std.proofs.Common.{ℕ, ◌<◌, ◌≤◌, List, length, Result, Ok, Err, arith}
use Rattle.std.proofs.lemmas.Bool.Decides.{nat_tests}
use Rattle.ckc_text.specs.declared.fault.SourceFault.{SourceFault}
use Rattle.ckc_text.specs.declared.fault.Refused.{Refused}
use Rattle.ckc_text.specs.declared.fault.Refused.TheVariants.{Source, NoMemory}
use Rattle.ckc_lexer.specs.declared.lexer.Lexer.{Lexer}
use Rattle.ckc_lexer.specs.declared.token.Token.{Token}
use Rattle.ckc_lexer.specs.Tokens.{Cut, ends, stops, goes, great, cut, initial, LexAnswers}
use Rattle.ckc_lexer.specs.Progress.{state_of, Steps}
use Rattle.ckc_lexer.proofs.lexer.lex.Goals as goal

-- a step that fails is the source's fault
failed : (src : List ℕ) (old new : Lexer) (e : Refused) → length src ≤ 1048576 → ((result : Result (List Token) SourceFault) → Cut src (state_of old) result → Cut src initial result) → Steps src old (Err e) new → LexAnswers src (Err e)
failed src old new (Source fault) small completed step = cut small (completed (Err fault) (stops step))
failed src old new NoMemory small completed step = tt

pub returns-then-src-gt-MAX_SOURCE : goal.returns-then-src-gt-MAX_SOURCE
returns-then-src-gt-MAX_SOURCE c = rw c.fault_at.ensures (great {src = c.args.src.now} (omega (arith, c.if-src-gt-MAX_SOURCE.true)))

pub loop-lexer-preserved : goal.loop-lexer-preserved
loop-lexer-preserved c =
    let s = c.loop-lexer.invariant in
    record {
      small = s.small;
      within = omega (arith, c.in_default.ensures.further);
      completed = λ result h. s.completed result (goes c.in_default.ensures.step h);
    }

pub returns-in-Err : goal.returns-in-Err
returns-in-Err c =
    let s = c.loop-lexer.invariant in
    failed c.args.src.now c.loop-lexer.lexer c.step.new.self c.in-Err.refused s.small s.completed c.in-Err.ensures.step

pub returns : goal.returns
returns c =
    let s = c.loop-lexer.invariant in
    cut s.small (s.completed (Ok c.loop-lexer.lexer.tokens.items) (ends (omega arith)))
