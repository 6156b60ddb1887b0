use Rattle.std.proofs.Common.{ap, ◌∙◌}
use Rattle.clap.proofs.WalkLemmas.{first_value-rows}
use Rattle.clap.specs.Words.{found_of}
use Rattle.omf_linker.specs.Link.FormWords.{addresses_id, hex_named}
use Rattle.omf_linker.proofs.link.form_words.base_in.Goals as goal

pub returns : goal.returns
returns c = c.hex_named.ensures ∙ ap hex_named (c.get_str.ensures ∙ first_value-rows (found_of c.args.matches.now) addresses_id)
