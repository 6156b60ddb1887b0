use Rattle.std.proofs.Common.{◌≡◌, ◌+◌, ◌∷◌, ◌∙◌, ap, arith, drop, refl, subst, sym}
use Rattle.std.specs.Prelude.{flat_map}
use Rattle.std.specs.List.{enumerate_from}
use Rattle.omf_check.specs.Module.{records_in}
use Rattle.omf_check.specs.Tables.{groups}
use Rattle.omf_check.specs.WellFormed.{recs}
use Rattle.omf_output.specs.Inner.Owners.{IsTable}
use Rattle.omf_output.specs.Near.{members_of}
use Rattle.omf_output.proofs.OwnerLaws.{table-more}
use Rattle.omf_placement.proofs.StepLaws.{none_left}
use Rattle.omf_output.proofs.Steps.{entry_there}
use Rattle.omf_output.proofs.near.owners.groups_of.Goals as goal

pub loop-before-preserved : goal.loop-before-preserved
loop-before-preserved c =
    let m = recs (records_in c.args.module.now.bytes) in
    let k = c.loop-before.before in
    let end = c.loop-before.invariant.end in
    let g = entry_there (groups m) k (omega (arith, c.loop-before-test.true, end)) in
    let left = ap (λ l. flat_map members_of (enumerate_from (k + 1) l)) g.2 in
    record {
      table = table-more m c.loop-before.table.items _ (members_of (k + 1, g.0)) (flat_map members_of (enumerate_from (k + 1 + 1) (drop (k + 1) (groups m))))
          (subst (λ l. IsTable m l c.loop-before.table.items) left c.loop-before.invariant.table) (c.note_group.ensures g.0 g.1);
      end = end;
    }

pub returns : goal.returns
returns c =
    let m = recs (records_in c.args.module.now.bytes) in
    let k = c.loop-before.before in
    let end = c.loop-before.invariant.end in
    let none = none_left (groups m) k (omega (arith, c.loop-before-test.false, end)) in
    subst (λ l. IsTable m (flat_map members_of (enumerate_from (k + 1) l)) c.loop-before.table.items) none c.loop-before.invariant.table
