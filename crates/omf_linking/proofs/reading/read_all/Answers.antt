use Rattle.std.proofs.Common.{◌++◌, take}
use Rattle.std.proofs.KnownBytes.{Consumes-trans}
use Rattle.std.proofs.lemmas.Result.{err_from_is_err_and}
use Rattle.omf_linking.proofs.reading.read_all.Goals as goal

pub returns-in_err-extend_from_slice-clause-part : goal.returns-in_err-extend_from_slice-clause-part
returns-in_err-extend_from_slice-clause-part g c =
    let e = err_from_is_err_and c.from_residual.result c.from_residual.ensures.1 in
    rw (e.1) (c.loop.bytes.items ++ take c.in-Ok.count c.pull_piece.new.buffer, Consumes-trans _ _ _ _ _ c.loop.invariant.consumed c.in-Ok.ensures.bytes)
