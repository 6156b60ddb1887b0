use Rattle.std.proofs.Common.{rules, arith, sym, ◌∙◌}
use Rattle.omf_samples.proofs.HexLaws.{next_byte, has_second}
use Rattle.omf_samples.proofs.hex.push_row.Goals as goal

pub loop-first-preserved : goal.loop-first-preserved
loop-first-preserved c = let read = sym c.pair.ensures ∙ c.in_ok-pair.was in record {
  reads = next_byte _ _ _ c.in-Some.first.now c.in_ok-pair.field-0 _ c.in-Some.rest.now _ _ c.in-Some.ensures.cases.0 (search rules) read (search rules) c.split_at.ensures.back c.loop-first.invariant.reads;
  offset = omega (arith, has_second c.loop-first.at c.in-Some.first.now c.in_ok-pair.field-0 c.in-Some.rest.now read, c.in-Some.ensures.cases.1, c.split_at.ensures.back_len, c.loop-first.invariant.offset);
}
