use Rattle.std.proofs.Common.{ap, ap₂, ◌∙◌, option_map}
use Rattle.std.specs.Prelude.{option_and_then}
use Rattle.clap.proofs.WalkLemmas.{first_value-rows, one_text-rows}
use Rattle.clap.specs.Words.{found_of}
use Rattle.omf_cmd.proofs.Parsed.{flag_value}
use Rattle.omf_drafting.specs.Options.{base_id, base_named, flat_id, frames_named, real_id}
use Rattle.omf_drafting.proofs.options.options_in.Goals as goal

pub returns : goal.returns
returns c real set =
    let found = found_of c.args.matches.now in
    let flag = flag_value real c.get_flag-real.result _ c.get_flag-real.ensures.value c.get_flag-real.ensures.other (one_text-rows found real_id ∙ set) in
    c.options.ensures
    ∙ ap₂ (λ b f. option_and_then (λ x. option_map (λ y. record { base = x; frames = y }) f) b)
    (c.base_named-base.ensures ∙ ap base_named (c.get_str.ensures ∙ first_value-rows found base_id))
    (c.frames_named-frames.ensures ∙ ap₂ frames_named flag (c.get_str-2.ensures ∙ first_value-rows found flat_id))
