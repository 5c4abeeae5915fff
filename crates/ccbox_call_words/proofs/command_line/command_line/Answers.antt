use Rattle.std.proofs.Common.{codes, true, ◌≡◌, ◌∙◌, ap}
use Rattle.std.proofs.lemmas.Result.{IfOk-weaker}
use Rattle.clap.specs.Words.{app_of, new_app}
use Rattle.clap.specs.Simple.{app_of_fields, on_top}
use Rattle.ccbox_call_words.specs.CommandLine.{rules, with_rules}
use Rattle.ccbox_call_words.proofs.command_line.command_line.Goals as goal

pub returns : goal.returns
returns c =
    let start : app_of c.disable_help_flag-command.result ≡ on_top (λ s. record s { no_binary_name = true; disable_help_flag = true }) (new_app (codes "ccbox")) =
    ap app_of_fields c.disable_help_flag-command.ensures ∙ ap (on_top (λ s. record s { disable_help_flag = true })) (ap app_of_fields c.no_binary_name.ensures ∙ ap (on_top (λ s. record s { no_binary_name = true })) c.new.ensures.app) in
    IfOk-weaker c.with_words.result _ _ (λ command told. told ∙ ap (λ app. with_rules app rules) start) c.with_words.ensures
