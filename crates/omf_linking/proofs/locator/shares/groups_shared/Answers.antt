use Rattle.std.proofs.Common.{List, ◌≡◌, ◌≤◌, ◌+◌, ◌∙◌, ◌++◌, [], ap, ap₂, append-nil, arith, drop, length, rules, sym, take, true}
use Rattle.std.specs.Prelude.{Some, slice_get}
use Rattle.std.proofs.lemmas.List.{drop_all}
use Rattle.omf_check.specs.Module.{records_in}
use Rattle.omf_check.specs.Tables.{entry}
use Rattle.omf_check.specs.WellFormed.{recs}
use Rattle.omf_placement.specs.declared.frame.Frame.{Frame}
use Rattle.omf_placement.proofs.ListLaws.{entry-at}
use Rattle.omf_linking.specs.Inner.Sharing.{shared_after}
use Rattle.omf_linking.specs.Locator.Drafted.{groups_framed}
use Rattle.omf_linking.specs.Locator.Items.{in_quotes, group_title}
use Rattle.omf_linking.proofs.KeyLaws.{all-in}
use Rattle.omf_linking.proofs.SharingLaws.{Framed, entry-framed, first-table, framed-long, last-table, next-shared, next-table}
use Rattle.omf_linking.proofs.locator.shares.groups_shared.Goals as goal

pub loop-before-init : goal.loop-before-init
loop-before-init c =
    let m = recs (records_in c.args.«module».now.bytes) in
    let empty : c.new-shared.result.items ≡ [] = search rules in
    record {
      end = c.groups-before-end.ensures.count;
      table = λ ms gs j here first. first-table group_title ms m gs (groups_framed j 1 c.args.placement.now.groups) c.args.firsts.now.by_title first;
      shared = λ ms gs j here first.
          let all : List Framed = groups_framed j 1 c.args.placement.now.groups in
          ap₂ (λ xs g. xs ++ shared_after group_title ms g m all) empty (append-nil gs);
    }

pub loop-before-preserved : goal.loop-before-preserved
loop-before-preserved c =
    let m = recs (records_in c.args.«module».now.bytes) in
    let vs = c.args.placement.now.groups in
    let k = c.loop-before.before in
    let v = c.in-Some.frame in
    let told : entry vs (k + 1) ≡ Some v = search rules in
    let at : slice_get vs k ≡ Some v = sym (entry-at vs k) ∙ told in
    record {
      end = c.loop-before.invariant.end;
      table = λ ms gs j here first.
          let all : List Framed = groups_framed j 1 vs in
          let x : Framed = ((j, k + 1), Some v) in
          next-table group_title ms m gs all k x c.share.new.self.by_title (entry-framed (λ (f : Frame). f) (λ i. true) j vs k v at)
          (c.in_ok-shares.ensures.table group_title ms (gs ++ take k all) j (k + 1) m here c.in_ok-title.ensures (c.loop-before.invariant.table ms gs j here first));
      shared = λ ms gs j here first.
          let all : List Framed = groups_framed j 1 vs in
          let x : Framed = ((j, k + 1), Some v) in
          let own = in_quotes (group_title m (k + 1)) in
          next-shared group_title ms m gs all c.loop-before.shared.items c.push.new.self.items k x c.in_ok-shares.shares (shared_after group_title ms gs m all) (entry-framed (λ (f : Frame). f) (λ i. true) j vs k v at) c.in_ok-push.ensures.items
          (c.in_ok-shares.ensures.shared group_title ms (gs ++ take k all) own c.in_ok-title.ensures (c.loop-before.invariant.table ms gs j here first))
          (c.loop-before.invariant.shared ms gs j here first);
    }

pub returns-clause-table : goal.returns-clause-table
returns-clause-table c = λ ms gs j here first.
    let m = recs (records_in c.args.«module».now.bytes) in
    let vs = c.args.placement.now.groups in
    let k = c.loop-before.before in
    last-table group_title ms m gs (groups_framed j 1 vs) k c.loop-before.firsts.by_title (omega (arith, c.loop-before-test.false, c.loop-before.invariant.end, c.requires, framed-long (λ (f : Frame). f) (λ i. true) j vs)) (c.loop-before.invariant.table ms gs j here first)

pub returns-clause-shared : goal.returns-clause-shared
returns-clause-shared c = λ ms gs j here first.
    let m = recs (records_in c.args.«module».now.bytes) in
    let vs = c.args.placement.now.groups in
    let k = c.loop-before.before in
    let all : List Framed = groups_framed j 1 vs in
    let end : length all ≤ k = omega (arith, c.loop-before-test.false, c.loop-before.invariant.end, c.requires, framed-long (λ (f : Frame). f) (λ i. true) j vs) in
    all-in c.loop-before.shared.items (shared_after group_title ms (gs ++ take k all) m (drop k all)) (shared_after group_title ms gs m all)
    (ap (shared_after group_title ms (gs ++ take k all) m) (drop_all k all end)) (c.loop-before.invariant.shared ms gs j here first)
