use Rattle.std.proofs.Common.{length}
use Rattle.omf_image.proofs.ShownLaws.{none_left, some_bytes}
use Rattle.omf_finding.proofs.CompareLaws.{has-byte, no-byte, not-empty}
use Rattle.omf_finding.proofs.found.has_byte.Goals as goal

pub returns-in-Some-clause-some : goal.returns-in-Some-clause-some
returns-in-Some-clause-some c =
    let some = some_bytes c.args.image.now c.args.segment 0 c.in-Some._first c.in-Some.bytes.now c.in-Some.ensures in
    λ _. has-byte c.args.image.now c.args.segment c.in-Some._first c.in-Some.bytes.now some c.in-Some.ensures.1

pub returns-in-Some-clause-none : goal.returns-in-Some-clause-none
returns-in-Some-clause-none c =
    let some = some_bytes c.args.image.now c.args.segment 0 c.in-Some._first c.in-Some.bytes.now c.in-Some.ensures in
    λ empty. absurd (not-empty c.is_empty.result empty (length c.in-Some.bytes.now) c.is_empty.ensures some)

pub returns-in-None-clause-none : goal.returns-in-None-clause-none
returns-in-None-clause-none c = λ _. no-byte c.args.image.now c.args.segment (none_left c.args.image.now c.args.segment 0 c.in-None.ensures)
