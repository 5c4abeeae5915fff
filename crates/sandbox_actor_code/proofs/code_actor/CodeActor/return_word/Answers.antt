use Rattle.std.proofs.Common.{ℕ, List, subst, sym}
use Rattle.code_words.specs.declared.op.Op.TheVariants as ops
use Rattle.code_words.specs.SandboxCode.{act}
use Rattle.sandbox_actor_code.specs.Codes.{Code, Leads, running}
use Rattle.sandbox_actor_code.proofs.OpenCalls.{one_found}
use Rattle.sandbox_actor_code.proofs.code_actor.CodeActor.return_word.Goals as goal

pub returns : goal.returns
returns c = λ f here.
    let m : Code = c.args.self.now in
    subst (λ (stack : List ℕ). Leads (act m.image m.budget f ops.Return (record m.call.frame { stack = stack }) (running m)) m c.leave.result c.leave.new.self)
    (sym (one_found m.call.frame.stack c.in-Some.word c.in-Some.ensures)) (c.leave.ensures f)
