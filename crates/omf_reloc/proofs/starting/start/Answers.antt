use Rattle.std.proofs.Common.{◌∙◌, ap, sym, Some, None}
use Rattle.omf_check.specs.Module.{records_in}
use Rattle.omf_check.specs.WellFormed.{recs}
use Rattle.std.specs.Result.{result_ok}
use Rattle.omf_reloc.specs.Offsets.{start_outcome}
use Rattle.omf_reloc.specs.Inner.Widths.{modend_type}
use Rattle.omf_reloc.proofs.EndLaws.{seen-end, none-here, none-named, frame-set, target-set, start-found}
use Rattle.omf_reloc.proofs.starting.start.Goals as goal

pub returns-in_default : goal.returns-in_default
returns-in_default c = none-here c.args.placement.now (recs (records_in c.args.module.now.bytes)) c.end-end.ensures.holds c.end-end.result c.end-end.ensures.last c.in_default.not-ModEnd

pub plain_reference-plain-requires-clause-frame : goal.plain_reference-plain-requires-clause-frame
plain_reference-plain-requires-clause-frame c =
    let m = recs (records_in c.args.module.now.bytes) in
    let e = c.in-ModEnd in
    frame-set c.args.placement.now m c.end-end.ensures.holds (modend_type e.width) e.type_byte c.in-Some.reference
    (seen-end m c.end-end.result e.width e.type_byte e.start (Some c.in-Some.reference) e.is c.in-Some.is c.end-end.ensures.last)
    c.threads_of_end-threads.result c.threads_of_end-threads.ensures.frame c.threads_of_end-threads.ensures.target

pub plain_reference-plain-requires-clause-target : goal.plain_reference-plain-requires-clause-target
plain_reference-plain-requires-clause-target c =
    let m = recs (records_in c.args.module.now.bytes) in
    let e = c.in-ModEnd in
    target-set c.args.placement.now m c.end-end.ensures.holds (modend_type e.width) e.type_byte c.in-Some.reference
    (seen-end m c.end-end.result e.width e.type_byte e.start (Some c.in-Some.reference) e.is c.in-Some.is c.end-end.ensures.last)
    c.threads_of_end-threads.result c.threads_of_end-threads.ensures.frame c.threads_of_end-threads.ensures.target

pub returns : goal.returns
returns c =
    let m = recs (records_in c.args.module.now.bytes) in
    let e = c.in-ModEnd in
    none-named c.args.placement.now m c.end-end.ensures.holds (modend_type e.width) e.type_byte
    (seen-end m c.end-end.result e.width e.type_byte e.start None e.is c.in-None.is c.end-end.ensures.last)

-- the start that was computed, or that there is none, is that of the module
pub returns-in_err-start-in-Some : goal.returns-in_err-start-in-Some
returns-in_err-start-in-Some c =
    let pl = c.args.placement.now in
    let m = recs (records_in c.args.module.now.bytes) in
    let e = c.in-ModEnd in
    let kind = modend_type e.width in
    c.from_residual.ensures ∙ sym c.in_err-start-in-Some.was ∙ c.ok.ensures.value
    ∙ ap result_ok (c.start_outcome.ensures ∙ ap (start_outcome pl kind) c.plain_reference-plain.ensures)
    ∙ start-found pl m c.end-end.ensures.holds kind e.type_byte c.in-Some.reference
    (seen-end m c.end-end.result e.width e.type_byte e.start (Some c.in-Some.reference) e.is c.in-Some.is c.end-end.ensures.last)
    c.threads_of_end-threads.result c.threads_of_end-threads.ensures.frame c.threads_of_end-threads.ensures.target

pub returns-in-Some : goal.returns-in-Some
returns-in-Some c =
    let pl = c.args.placement.now in
    let m = recs (records_in c.args.module.now.bytes) in
    let e = c.in-ModEnd in
    let kind = modend_type e.width in
    ap Some c.start.view_is ∙ sym c.in_ok-start-in-Some.was ∙ c.ok.ensures.value
    ∙ ap result_ok (c.start_outcome.ensures ∙ ap (start_outcome pl kind) c.plain_reference-plain.ensures)
    ∙ start-found pl m c.end-end.ensures.holds kind e.type_byte c.in-Some.reference
    (seen-end m c.end-end.result e.width e.type_byte e.start (Some c.in-Some.reference) e.is c.in-Some.is c.end-end.ensures.last)
    c.threads_of_end-threads.result c.threads_of_end-threads.ensures.frame c.threads_of_end-threads.ensures.target
