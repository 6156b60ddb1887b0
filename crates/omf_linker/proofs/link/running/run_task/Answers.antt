use Rattle.std.proofs.Common.{refl, Ok, Err}
use Rattle.std.proofs.lemmas.Result.{err_from_is_err_and}
use Rattle.omf_linker.proofs.link.running.run_task.Goals as goal

pub returns-in_err-output : goal.returns-in_err-output
returns-in_err-output g c =
    let e = err_from_is_err_and c.from_residual.result c.from_residual.ensures.1 in
    rw (e.1, e.2) (record { shown = Err c.in_err-output.field-0.0; cause = c.in_err-output.ensures.cause; shows = c.in_err-output.ensures.answer; printed = (refl, refl) })

pub returns-in-Ok : goal.returns-in-Ok
returns-in-Ok g c = record { shown = Ok c.in_ok-output.output; cause = c.in_ok-output.ensures.cause; shows = c.in_ok-output.ensures.answer; printed = c.in-Ok.ensures }

pub returns : goal.returns
returns g c = record { shown = Ok c.in_ok-output.output; cause = c.in_ok-output.ensures.cause; shows = c.in_ok-output.ensures.answer; printed = (refl, c.in-Err.ensures.1, c.in-Err.ensures.2) }
