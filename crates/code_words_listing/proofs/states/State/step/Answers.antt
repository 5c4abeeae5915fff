use Rattle.std.proofs.Common.{rules}
use Rattle.code_words_listing.proofs.states.State.step.Goals as goal

pub returns-in-Trusted : goal.returns-in-Trusted
returns-in-Trusted c = rw c.in-Trusted.is c.trusted_step.ensures

pub returns-in-Callback : goal.returns-in-Callback
returns-in-Callback c = rw c.in-Callback.is c.callback_step.ensures

pub returns-in-Function : goal.returns-in-Function
returns-in-Function c = rw c.in-Function.is c.trusted_function_step.ensures

pub returns-in-Sandbox : goal.returns-in-Sandbox
returns-in-Sandbox c = rw c.in-Sandbox.is c.sandbox_step.ensures

pub returns-in-Body : goal.returns-in-Body
returns-in-Body c = rw c.in-Body.is c.body_step.ensures

pub returns-in-Start : goal.returns-in-Start
returns-in-Start c = search rules

pub returns-in-Headed : goal.returns-in-Headed
returns-in-Headed c = search rules

pub callback_step-requires-clause-reached : goal.callback_step-requires-clause-reached
callback_step-requires-clause-reached c = search rules

pub trusted_function_step-requires-clause-paced : goal.trusted_function_step-requires-clause-paced
trusted_function_step-requires-clause-paced c = search rules

pub body_step-requires-clause-reached : goal.body_step-requires-clause-reached
body_step-requires-clause-reached c = search rules

pub body_step-requires-clause-paced : goal.body_step-requires-clause-paced
body_step-requires-clause-paced c = search rules

pub returns : goal.returns
returns c = search rules
