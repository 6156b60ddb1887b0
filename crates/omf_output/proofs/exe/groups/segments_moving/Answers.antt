use Rattle.std.proofs.Common.{◌∙◌, sym}
use Rattle.omf_check.specs.Module.{records_in}
use Rattle.omf_check.specs.Tables.{segments}
use Rattle.omf_check.specs.WellFormed.{recs}
use Rattle.omf_output.specs.Exe.Based.{is_movable}
use Rattle.omf_output.proofs.LowLaws.{more-of, next-entry}
use Rattle.omf_output.proofs.exe.groups.segments_moving.Goals as goal

pub loop-before-preserved : goal.loop-before-preserved
loop-before-preserved c =
    let m = recs (records_in c.args.«module».now.bytes) in
    record {
      flags = more-of (λ s. is_movable s.absolute) c.loop-before.moving.items c.push.new.self.items c.is_movable.result _ _ c.in-Some.segment _ c.in_ok-push.ensures.items c.is_movable.ensures
          (next-entry (segments m) c.loop-before.before c.in-Some.segment (sym c.segment.ensures ∙ c.in-Some.is)) c.loop-before.invariant.flags;
      end = c.loop-before.invariant.end;
    }
