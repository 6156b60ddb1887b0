use Rattle.std.proofs.Common.{◌<◌, ◌∙◌, ap, length, length-drop, drop, arith, rules}
use Rattle.omf_frame.specs.Types.{width_bytes}
use Rattle.omf_records.specs.Inner.Reads.{after}
use Rattle.omf_lowering.specs.Inner.Turns.{found_all, found_block}
use Rattle.omf_lowering.proofs.FoundSteps.{all_err, found_fault, found_step}
use Rattle.omf_lowering.proofs.spreading.spread_all.Goals as goal

pub loop-pos-preserved : goal.loop-pos-preserved
loop-pos-preserved c =
    let s = c.args.search.now in
    let w = width_bytes s.width in
    let bytes = s.bytes.now in
    let low : c.loop-pos.pos < length bytes = search rules in
    let size = length-drop c.loop-pos.pos bytes in
    let end = c.in-Ok.end in
    record {
      inside = search rules;
      same = ap (λ n. found_all s.location (found_block s.location w 64) (length bytes) n end (drop end bytes)) c.joined-all.ensures
          ∙ found_step s.location w 64 (length bytes) c.loop-pos.all c.loop-pos.pos (drop c.loop-pos.pos bytes) (after c.in-Ok.next end (drop end bytes)) (omega (arith, size, low)) (omega (arith, size)) c.in-Ok.ensures.read
          ∙ c.loop-pos.invariant.same;
    }

pub returns-in-Err : goal.returns-in-Err
returns-in-Err c =
    let s = c.args.search.now in
    let w = width_bytes s.width in
    let bytes = s.bytes.now in
    let low : c.loop-pos.pos < length bytes = search rules in
    let size = length-drop c.loop-pos.pos bytes in
    all_err bytes c.in-Err.stop _ _ c.in-Err.ensures.read
    (λ f e. found_fault s.location w 64 (length bytes) c.loop-pos.all c.loop-pos.pos (drop c.loop-pos.pos bytes) f (omega (arith, size, low)) (omega (arith, size)) e ∙ c.loop-pos.invariant.same)
