use Rattle.std.proofs.Common.{rules, ap₂, codes, ◌≡◌, ◌∙◌}
use Rattle.std.proofs.lemmas.Result.{IfOk-weaker}
use Rattle.clap.specs.Words.{rule_of, with_rule}
use Rattle.program_words.specs.Rules.{option_rule, required_rule}
use Rattle.program_words.proofs.server.command.Goals as goal

pub returns : goal.returns
returns c =
    let config_is : rule_of c.required.result ≡ required_rule (codes "config") = search rules in
    let socket_is : rule_of c.required-2.result ≡ required_rule (codes "socket") = search rules in
    let number_is : rule_of c.required-3.result ≡ required_rule (codes "connections") = search rules in
    let dump_is : rule_of c.option.result ≡ option_rule (codes "dump") = search rules in
    let first_is = c.in_ok-arg.ensures.shape c.required.ensures.global ∙ ap₂ with_rule c.new.ensures.app config_is in
    let second_is = c.in_ok-arg-2.ensures.shape c.required-2.ensures.global ∙ ap₂ with_rule first_is socket_is in
    let third_is = c.in_ok-arg-3.ensures.shape c.required-3.ensures.global ∙ ap₂ with_rule second_is number_is in
    IfOk-weaker c.arg-4.result _ _ (λ m added. added.shape c.option.ensures.global ∙ ap₂ with_rule third_is dump_is) c.arg-4.ensures
