use Rattle.std.proofs.Common.{◌<◌, length, get_or, refl, rules}
use Rattle.omf_frame.specs.Framing.{raw_bytes}
use Rattle.omf_explicit.specs.Explicit.{segment}
use Rattle.omf_explicit.proofs.WalkSteps.{maps_more}
use Rattle.omf_explicit.proofs.writing.put_segments.Goals as goal

pub loop-number-preserved : goal.loop-number-preserved
loop-number-preserved c =
    let ns = c.args.numbers.now in
    let i = c.loop-number.number-index in
    let low : i < length ns = search rules in
    maps_more segment raw_bytes c.loop-number.out.items _ _ ns i 0 (get_or ns i 0) low refl c.in_ok-put_segment.ensures c.loop-number.invariant
