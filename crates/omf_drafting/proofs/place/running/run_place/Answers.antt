use Rattle.std.proofs.Common.{refl, Ok, Err}
use Rattle.std.specs.Prelude.{string_bytes}
use Rattle.std.proofs.lemmas.Result.{err_from_is_err_and}
use Rattle.omf_drafting.proofs.place.running.run_place.Goals as goal

pub returns-in_err-text : goal.returns-in_err-text
returns-in_err-text g c =
    let e = err_from_is_err_and c.from_residual.result c.from_residual.ensures.1 in
    rw (e.1, e.2) (record { drafted = Err c.in_err-text.field-0.0; cause = c.in_err-text.ensures.cause; drafts = c.in_err-text.ensures.answer; printed = (refl, refl) })

pub returns : goal.returns
returns g c = record { drafted = Ok (string_bytes c.in_ok-text.text); cause = c.in_ok-text.ensures.cause; drafts = c.in_ok-text.ensures.answer; printed = rw (← c.as_bytes.ensures.value) c.print_all.ensures }
