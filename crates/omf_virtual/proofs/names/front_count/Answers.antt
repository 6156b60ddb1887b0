use Rattle.std.proofs.Common.{refl, arith}
use Rattle.omf_virtual.proofs.CountLaws.{last_start}
use Rattle.omf_virtual.proofs.names.front_count.Goals as goal

pub loop-record-init : goal.loop-record-init
loop-record-init c = record {
  passed = refl;
  inside = omega arith;
  all = last_start c.args.records.now c.min-count.result (λ e. omega (arith, e)) (λ e. omega (arith, e));
}
