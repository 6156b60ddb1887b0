use Rattle.std.proofs.Common.{refl, rules, ap₂, ◌∙◌}
use Rattle.clap.specs.Words.{with_rule}
use Rattle.omf_cmd.proofs.Parsed.{ok_also}
use Rattle.omf_linker.proofs.link.form_words.with_addresses.Goals as goal

pub returns : goal.returns
returns c = ok_also c.arg.result (λ command adds. adds.shape (search rules) ∙ ap₂ with_rule refl c.valued.ensures.rule) c.arg.ensures
