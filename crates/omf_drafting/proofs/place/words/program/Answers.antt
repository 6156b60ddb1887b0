use Rattle.std.proofs.Common.{ap, ◌∙◌}
use Rattle.omf_cmd.proofs.Parsed.{ok_also}
use Rattle.omf_drafting.specs.Options.{with_options}
use Rattle.omf_drafting.proofs.place.words.program.Goals as goal

pub returns : goal.returns
returns c = ok_also c.with_options.result (λ place is. is ∙ ap with_options c.new.ensures.app) c.with_options.ensures
