use Rattle.std.proofs.Common.{◌<◌, ◌∙◌, ap, length, length-drop, drop, ℕ, arith, rules}
use Rattle.omf_records.specs.Inner.Reads.{after}
use Rattle.omf_frame.specs.Types.{width_bytes}
use Rattle.omf_image.specs.Inner.Lengths.{len_block, len_all}
use Rattle.omf_image.proofs.Counting.{size_step}
use Rattle.omf_image.proofs.length.blocks_len.Goals as goal

pub loop-pos-preserved : goal.loop-pos-preserved
loop-pos-preserved c =
    let w : ℕ = width_bytes c.args.width in
    let bytes = c.args.bytes.now in
    let left = drop c.loop-pos.pos bytes in
    let low : c.loop-pos.pos < length bytes = search rules in
    let size = length-drop c.loop-pos.pos bytes in
    let step = size_step w c.args.levels (length bytes) c.loop-pos.total c.loop-pos.pos left (after c.in_ok-len.len c.in_ok-len.next (drop c.in_ok-len.next bytes))
    (omega (arith, size, low)) (omega (arith, size)) c.in_ok-len.ensures.read in
    record {
      inside = search rules;
      same = ap (λ n. len_all (len_block w c.args.levels) (length bytes) n c.in_ok-len.next (drop c.in_ok-len.next bytes)) c.saturating_add-total.ensures ∙ step ∙ c.loop-pos.invariant.same;
    }
