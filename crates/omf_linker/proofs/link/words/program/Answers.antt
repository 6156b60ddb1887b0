use Rattle.std.proofs.Common.{rules, ap, ap₂, ◌∙◌}
use Rattle.clap.specs.Words.{App, Shape, with_subcommand}
use Rattle.omf_cmd.proofs.Parsed.{ok_also}
use Rattle.omf_linker.proofs.ArgLaws.{no_globals}
use Rattle.omf_linker.specs.Link.FormWords.{with_addresses, with_chip}
use Rattle.omf_drafting.specs.Options.{with_options}
use Rattle.omf_linker.proofs.link.words.program.Goals as goal

pub returns : goal.returns
returns c =
    let top : App → Shape = λ a. a.top in
    let first = c.in_ok-link.ensures.shape (search rules) ∙ ap₂ with_subcommand c.new-link.ensures.app (ap top c.new.ensures.app) in
    let second = c.in_ok-link-2.ensures.shape (search rules) ∙ ap₂ with_subcommand first (ap top c.new-2.ensures.app) in
    let bin = c.in_ok-with_chip.ensures ∙ ap with_chip c.new-3.ensures.app in
    let bin_local = no_globals _ _ _ _ (ap (λ (a : App). a.top.is_plain) bin) in
    let third = c.in_ok-link-3.ensures.shape bin_local ∙ ap₂ with_subcommand second (ap top bin) in
    let hex = c.in_ok-with_addresses.ensures ∙ ap with_addresses c.new-4.ensures.app in
    let hex_local = no_globals _ _ _ _ (ap (λ (a : App). a.top.is_plain) hex) in
    let fourth = c.in_ok-link-4.ensures.shape hex_local ∙ ap₂ with_subcommand third (ap top hex) in
    let srec = c.in_ok-with_addresses-2.ensures ∙ ap with_addresses c.new-5.ensures.app in
    let srec_local = no_globals _ _ _ _ (ap (λ (a : App). a.top.is_plain) srec) in
    let fifth = c.in_ok-link-5.ensures.shape srec_local ∙ ap₂ with_subcommand fourth (ap top srec) in
    let draft = c.in_ok-with_options.ensures ∙ ap with_options c.new-6.ensures.app in
    let local = no_globals _ _ _ _ (ap (λ (a : App). a.top.is_plain) draft) in
    ok_also c.subcommand-6.result (λ link adds. adds.shape local ∙ ap₂ with_subcommand fifth (ap top draft)) c.subcommand-6.ensures
