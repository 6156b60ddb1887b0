use Rattle.std.proofs.Common.{◌≡◌, sym, subst, ap, ◌∙◌}
use Rattle.omf_check.specs.Module.{records_in}
use Rattle.omf_c.specs.Data.{bytes_if, numbered}
use Rattle.omf_c.proofs.DataLaws.{AllMeasure, all-measured, here-numbered, not-numbered}
use Rattle.omf_c.proofs.data.bytes_of.Goals as goal

pub loop-place-init : goal.loop-place-init
loop-place-init c =
    let records = records_in c.args.module.now.bytes in
    let listed = c.into_iter-place-iterator.ensures.into_iter_gives ∙ c.undecoded-place-items.ensures.listed in
    record {
      bytes = ap (λ xs. bytes_if (numbered c.args.number xs)) listed;
      measure = subst AllMeasure (sym listed) (all-measured records c.undecoded-place-items.ensures.holds);
    }

pub record_bytes-requires : goal.record_bytes-requires
record_bytes-requires c = (subst AllMeasure c.in-Some.ensures.steps c.loop-place.invariant.measure).0
