use Rattle.std.proofs.Common.{◌≡◌, ◌≤◌, ◌++◌, ℕ, List, length, take, arith}
use Rattle.std.proofs.KnownBytes.{Consumes-trans}
use Rattle.std.proofs.lemmas.List.{length-append, length-take}
use Rattle.std.proofs.lemmas.Result.{err_from_is_err_and}
use Rattle.omf_cmd.proofs.input.read_text.Goals as goal

pub returns-then-count-lacking-clause-fault : goal.returns-then-count-lacking-clause-fault
returns-then-count-lacking-clause-fault g c =
    let piece : List ℕ = take c.in-Ok.count c.pull_piece.new.buffer in
    let more = length-take c.in-Ok.count c.pull_piece.new.buffer in
    let both = length-append c.loop-count.text.items piece in
    let bound = c.in-Ok.ensures.bound in
    let room = c.pull_piece.auto.buffer in
    let front = length-take c.min.result c.loop-count.buffer in
    let least = c.min.ensures in
    let len = c.len-lacking.ensures in
    let long = c.if-count-lacking.true in
    let short = c.loop-count.invariant.short in
    let all : length (c.loop-count.text.items ++ piece) ≡ 4194305 = omega (arith, more, both, bound, room, front, least, len, long, short) in
    (c.loop-count.text.items ++ piece, Consumes-trans _ _ _ _ _ c.loop-count.invariant.consumed c.in-Ok.ensures.bytes, all)

pub returns-in_err-extend_from_slice-clause-fault : goal.returns-in_err-extend_from_slice-clause-fault
returns-in_err-extend_from_slice-clause-fault g c =
    let piece : List ℕ = take c.in-Ok.count c.pull_piece.new.buffer in
    let more = length-take c.in-Ok.count c.pull_piece.new.buffer in
    let both = length-append c.loop-count.text.items piece in
    let len = c.len-lacking.ensures in
    let few = c.if-count-lacking.false in
    let short = c.loop-count.invariant.short in
    let all : length (c.loop-count.text.items ++ piece) ≤ 4194304 = omega (arith, more, both, len, few, short) in
    let e = err_from_is_err_and c.from_residual.result c.from_residual.ensures.1 in
    rw (e.1, e.2) (c.loop-count.text.items ++ piece, Consumes-trans _ _ _ _ _ c.loop-count.invariant.consumed c.in-Ok.ensures.bytes, all)
