use Rattle.std.proofs.Common.{subst}
use Rattle.std.proofs.lemmas.Result.{err_from_is_err_and}
use Rattle.std.specs.Prelude.{Err, string_bytes}
use Rattle.omf_check.specs.Module.{records_in}
use Rattle.omf_check.specs.WellFormed.{recs}
use Rattle.omf_layout.specs.declared.options.Options.{Options}
use Rattle.omf_drafting.specs.Place.Drafts.{IsDraft, IsDrafted}
use Rattle.omf_drafting.specs.Place.Faults.{of_layout}
use Rattle.omf_drafting.proofs.FitLaws.{layouts-fit}
use Rattle.omf_drafting.proofs.PlaceRuns.{not-laid}
use Rattle.omf_drafting.proofs.place.running.placed_text.Goals as goal

pub returns-in_err-layout : goal.returns-in_err-layout
returns-in_err-layout c =
    let e = err_from_is_err_and c.from_residual.result c.from_residual.ensures.1 in
    let m = recs (records_in c.args.«module».now.bytes) in
    let f = c.in_err-layout.field-0.0 in
    rw (e.1, e.2) (subst (λ (o : Options). IsDrafted o m (Err (of_layout f))) c.module_options-options.ensures (not-laid c.module_options-options.result m f c.in_err-layout.ensures))

pub returns-in_err-text : goal.returns-in_err-text
returns-in_err-text c =
    let e = err_from_is_err_and c.from_residual-in_err-text.result c.from_residual-in_err-text.ensures.1 in
    rw (e.1, e.2) tt

pub returns : goal.returns
returns c =
    let m = recs (records_in c.args.«module».now.bytes) in
    subst (λ (o : Options). IsDraft o m (string_bytes c.in_ok-text.text)) c.module_options-options.ensures (record {
      layout = c.in_ok-layout.layout;
      laid = c.in_ok-layout.ensures;
      text_is = c.in_ok-text.ensures.text;
      read = c.in_ok-text.ensures.read;
      fits = layouts-fit c.module_options-options.result m c.in_ok-layout.layout c.in_ok-layout.ensures;
    })
