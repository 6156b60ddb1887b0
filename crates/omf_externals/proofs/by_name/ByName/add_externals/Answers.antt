use Rattle.std.proofs.Common.{◌≡◌, ◌+◌, ap, refl, arith, subst}
use Rattle.std.specs.Prelude.{flat_map}
use Rattle.std.specs.List.{enumerate_from}
use Rattle.omf_check.specs.Module.{records_in}
use Rattle.omf_check.specs.WellFormed.{recs}
use Rattle.omf_placement.specs.Derive.{named_externals}
use Rattle.omf_placement.proofs.NamedLaws.{named-count}
use Rattle.omf_externals.specs.Unresolved.{HasMore, IsByName, asked_row, spot}
use Rattle.omf_externals.specs.declared.by_name.Spot.{Spot}
use Rattle.omf_placement.proofs.Filling.{fill-start, fill-more, fill-end}
use Rattle.omf_placement.proofs.StepLaws.{next_entry, none_left}
use Rattle.omf_externals.proofs.by_name.ByName.add_externals.Goals as goal

pub loop-before-init : goal.loop-before-init
loop-before-init c = record { end = c.externals-before-end.ensures.count; filled = fill-start IsByName c.args.self.now.spots _ _ refl }

pub loop-before-preserved : goal.loop-before-preserved
loop-before-preserved c =
    let m = recs (records_in c.args.«module».now.bytes) in
    let k = c.loop-before.before in
    let x = c.external_at.result in
    let e : x.spot ≡ spot c.args.number (k + 1) = c.external_at.ensures.same in
    let here : HasMore c.loop-before.self.spots c.add_external.new.self.spots (asked_row c.args.local c.args.settled.now c.args.number (k + 1, (x.name.now, x.local)))
    = subst (λ (s : Spot). HasMore c.loop-before.self.spots c.add_external.new.self.spots (asked_row c.args.local c.args.settled.now s.«module» (s.external, (x.name.now, x.local)))) e c.in_ok-add_external.ensures in
    record {
      end = c.loop-before.invariant.end;
      filled = fill-more IsByName c.args.self.now.spots c.loop-before.self.spots c.add_external.new.self.spots (asked_row c.args.local c.args.settled.now c.args.number (k + 1, (x.name.now, x.local))) _ _ _
          (ap (λ xs. flat_map (asked_row c.args.local c.args.settled.now c.args.number) (enumerate_from (k + 1) xs)) (next_entry (named_externals m) k (x.name.now, x.local) (c.external_at.ensures.named))) here c.loop-before.invariant.filled;
    }

pub returns : goal.returns
returns c =
    let m = recs (records_in c.args.«module».now.bytes) in
    let k = c.loop-before.before in
    fill-end IsByName c.args.self.now.spots c.loop-before.self.spots _ _
    (ap (λ xs. flat_map (asked_row c.args.local c.args.settled.now c.args.number) (enumerate_from (k + 1) xs)) (none_left (named_externals m) k (omega (arith, c.loop-before-test.false, c.loop-before.invariant.end, named-count m)))) c.loop-before.invariant.filled
