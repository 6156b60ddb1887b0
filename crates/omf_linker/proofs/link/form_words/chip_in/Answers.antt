use Rattle.std.proofs.Common.{ℕ, Option, ap, ◌∙◌, option_map}
use Rattle.std.specs.Prelude.{option_and_then}
use Rattle.clap.proofs.WalkLemmas.{first_value-rows}
use Rattle.clap.specs.Words.{first_of, found_of, rows_of}
use Rattle.omf_output.specs.declared.rom.form.Chip.{Chip}
use Rattle.omf_drafting.specs.Options.{base_id}
use Rattle.omf_linker.specs.Link.FormWords.{address_named, fill_id, fill_named, size_id, size_named}
use Rattle.omf_linker.proofs.link.form_words.chip_in.Goals as goal

abbrev built : Option ℕ → Option ℕ → Option ℕ → Option Chip
built base size fill = option_and_then (λ b. option_and_then (λ s. option_map (λ f. record { base = b; size = s; fill = f }) fill) size) base

pub returns : goal.returns
returns c =
    let found = found_of c.args.matches.now in
    let b = c.address_named-base.ensures ∙ ap address_named (c.get_str.ensures ∙ first_value-rows found base_id) in
    let s = c.size_named-size.ensures ∙ ap size_named (c.get_str-2.ensures ∙ first_value-rows found size_id) in
    let f = c.fill_named-fill.ensures ∙ ap fill_named (c.get_str-3.ensures ∙ first_value-rows found fill_id) in
    let base = address_named (first_of base_id (rows_of found)) in
    let size = size_named (first_of size_id (rows_of found)) in
    c.chip.ensures ∙ ap (λ (x : Option ℕ). built x c.size_named-size.result c.fill_named-fill.result) b ∙ ap (λ (x : Option ℕ). built base x c.fill_named-fill.result) s ∙ ap (λ (x : Option ℕ). built base size x) f
