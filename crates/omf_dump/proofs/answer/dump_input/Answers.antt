use Rattle.omf_dump.proofs.LibraryLaws.{is_library, is_module}
use Rattle.omf_dump.proofs.answer.dump_input.Goals as goal

pub returns-in_ok-is_refused-in-Ok : goal.returns-in_ok-is_refused-in-Ok
returns-in_ok-is_refused-in-Ok g c = is_library c.args.mode c.args.input.now _ _ _ c.in-Ok.ensures.0 c.in_ok-is_refused-in-Ok.ensures

pub returns-in_ok-is_refused-in-Err : goal.returns-in_ok-is_refused-in-Err
returns-in_ok-is_refused-in-Err g c = is_module c.args.mode c.args.input.now _ _ _ c.in-Err.field-0 c.in-Err.ensures c.in_ok-is_refused-in-Err.ensures
