use Rattle.std.proofs.Common.{refl, rules, ap₂, ◌∙◌}
use Rattle.clap.specs.Words.{with_rule}
use Rattle.omf_cmd.proofs.Parsed.{ok_also}
use Rattle.omf_drafting.proofs.options.with_options.Goals as goal

pub returns : goal.returns
returns c =
    let first = c.in_ok-arg.ensures.shape (search rules) ∙ ap₂ with_rule refl c.valued.ensures.rule in
    let second = c.in_ok-arg-2.ensures.shape (search rules) ∙ ap₂ with_rule first c.real.ensures.rule in
    ok_also c.arg-3.result (λ command adds. adds.shape (search rules) ∙ ap₂ with_rule second c.valued-2.ensures.rule) c.arg-3.ensures
