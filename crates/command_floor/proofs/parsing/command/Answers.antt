use Rattle.std.proofs.Common.{rules, ap, ap₂, ◌≡◌, ◌∙◌, ◌<◌, length, map, take}
use Rattle.std.proofs.lemmas.Result.{IfOk-weaker}
use Rattle.std.proofs.lemmas.List.{take_all}
use Rattle.clap.specs.Walk.{rule_of}
use Rattle.clap.specs.Simple.{with_rule}
use Rattle.command_floor.specs.Parsing.{bare, with_options, option_rule, names_rule}
use Rattle.command_floor.specs.Settings.{option_name}
use Rattle.command_floor.proofs.Options.{add_option}
use Rattle.command_floor.proofs.parsing.command.Goals as goal

pub loop-option-preserved : goal.loop-option-preserved
loop-option-preserved c =
    let lt : c.loop-option.option-index < length c.args.options.now = search rules in
    let rule : rule_of c.action-arg.result ≡ option_rule c.name-long.result.now = search rules in
    c.in_ok-command.ensures.shape (search rules) ∙ ap₂ with_rule c.loop-option.invariant rule
    ∙ add_option (bare c.args.name.now) c.args.options.now c.loop-option.option-index _ c.name-long.result.now lt c.name-long.ensures

pub returns : goal.returns
returns c =
    let rule : rule_of c.action.result ≡ names_rule = search rules in
    let whole : take c.loop-option.option-index c.args.options.now ≡ c.args.options.now =
    search (rules, take_all c.loop-option.option-index c.args.options.now) in
    IfOk-weaker c.arg-2.result _ _ (λ m h. h.shape (search rules) ∙ ap₂ with_rule (c.loop-option.invariant
    ∙ ap (λ os. with_options (bare c.args.name.now) (map option_name os)) whole) rule) c.arg-2.ensures
