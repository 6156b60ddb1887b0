use Rattle.std.proofs.Common.{◌≡◌, ◌<◌, ◌+◌, ◌++◌, ◌∙◌, [], List, ap, ap₂, arith, drop, length, map, rules, sym, take, true}
use Rattle.std.specs.Prelude.{Some, flat_map, slice_get, zip}
use Rattle.std.specs.List.{enumerate_from}
use Rattle.std.proofs.lemmas.Option.{slice_get-get_or}
use Rattle.std.proofs.lemmas.Slice.Zip.{AllZip-long}
use Rattle.omf_check.specs.Module.{records_in, typed_modules}
use Rattle.omf_check.specs.WellFormed.{recs}
use Rattle.omf_placement.specs.declared.frame.Frame.{Frame}
use Rattle.omf_placement.specs.declared.frame.Placed.{Placed}
use Rattle.omf_placement.proofs.ListLaws.{all-mapped, more-mapped, next-at}
use Rattle.omf_linking.specs.Inner.Sharing.{shares_seen}
use Rattle.omf_linking.specs.Locator.Drafted.{HasEntries, all_groups, all_parts, all_shared, is_part, shared_by, sharing_of}
use Rattle.omf_linking.specs.Locator.Items.{group_title, segment_title}
use Rattle.omf_linking.proofs.SharingLaws.{Entered, all-split, clear-more, entered, groups-zipped, groups_of, has-at, more-so-far, none-entered, none-so-far, segments_of, shares-are, typed-length, typed-slice}
use Rattle.omf_linking.proofs.locator.shares.shares_of.Goals as goal

pub bounds-placements-number : goal.bounds-placements-number
bounds-placements-number c =
    let ms = typed_modules c.args.modules.now in
    omega (arith, c.loop-number-test.true, AllZip-long HasEntries ms c.args.placements.now c.requires, typed-length c.args.modules.now)

pub segments_shared-requires : goal.segments_shared-requires
segments_shared-requires c =
    let mods = c.args.modules.now in
    let ms = typed_modules mods in
    let pls = c.args.placements.now in
    let n = c.loop-number.number in
    let pl = c.index-placements-number.result in
    let low : n < length pls = omega (arith, c.loop-number-test.true, AllZip-long HasEntries ms pls c.requires, typed-length mods) in
    (has-at ms pls n _ pl (typed-slice mods n c.index-modules-number.result c.index-modules-number.is c.loop-number-test.true) (slice_get-get_or pls n pl low ∙ ap Some (sym c.index-placements-number.is)) c.requires).segments

pub groups_shared-requires : goal.groups_shared-requires
groups_shared-requires c =
    let mods = c.args.modules.now in
    let ms = typed_modules mods in
    let pls = c.args.placements.now in
    let n = c.loop-number.number in
    let pl = c.index-placements-number.result in
    let low : n < length pls = omega (arith, c.loop-number-test.true, AllZip-long HasEntries ms pls c.requires, typed-length mods) in
    (has-at ms pls n _ pl (typed-slice mods n c.index-modules-number.result c.index-modules-number.is c.loop-number-test.true) (slice_get-get_or pls n pl low ∙ ap Some (sym c.index-placements-number.is)) c.requires).groups

pub loop-number-init : goal.loop-number-init
loop-number-init c =
    let ms = typed_modules c.args.modules.now in
    let zs : List Entered = enumerate_from 0 (zip ms c.args.placements.now) in
    let empty : c.new-shares.result.items ≡ [] = search rules in
    record {
      segments = none-so-far segment_title segments_of ms zs _ (c.new-first_segments.ensures segment_title ms);
      groups = none-so-far group_title groups_of ms zs _ (c.new-first_groups.ensures group_title ms);
      made = ap (λ ss. map shares_seen ss ++ map (λ (y : Entered). shared_by (sharing_of ms c.args.placements.now y.0 y.1.0) y.1.1) zs) empty;
    }

pub loop-number-preserved : goal.loop-number-preserved
loop-number-preserved c =
    let mods = c.args.modules.now in
    let ms = typed_modules mods in
    let pls = c.args.placements.now in
    let zs : List Entered = enumerate_from 0 (zip ms pls) in
    let n = c.loop-number.number in
    let m = recs (records_in c.index-modules-number.result.bytes) in
    let pl = c.index-placements-number.result in
    let x : Entered = (n, (m, pl)) in
    let low : n < length pls = omega (arith, c.loop-number-test.true, AllZip-long HasEntries ms pls c.requires, typed-length mods) in
    let here : slice_get ms n ≡ Some m = typed-slice mods n c.index-modules-number.result c.index-modules-number.is c.loop-number-test.true in
    let there : slice_get zs n ≡ Some x = entered ms pls n m pl here (slice_get-get_or pls n pl low ∙ ap Some (sym c.index-placements-number.is)) in
    let old = c.loop-number.invariant in
    let ss = flat_map segments_of (take n zs) in
    let gs = flat_map groups_of (take n zs) in
    let segments = c.in_ok-segments.ensures.shared ms ss n here old.segments.table
    ∙ shares-are segment_title ms n m here (λ (p : Placed). p.frame) (is_part m) 1 pl.segments ss (flat_map segments_of (drop (n + 1) zs)) (all_parts 0 ms pls) (λ i above. old.segments.clear n i (omega arith)) (all-split segments_of zs n x there) in
    let groups = c.in_ok-groups.ensures.shared ms gs n here old.groups.table
    ∙ shares-are group_title ms n m here (λ (f : Frame). f) (λ i. true) 1 pl.groups gs (flat_map groups_of (drop (n + 1) zs)) (all_groups 0 pls) (λ i above. old.groups.clear n i (omega arith)) (sym (groups-zipped 0 ms pls c.requires) ∙ all-split groups_of zs n x there) in
    record {
      segments = more-so-far segment_title segments_of ms zs n x _ there (c.in_ok-segments.ensures.table ms ss n here old.segments.table) (clear-more (λ (p : Placed). p.frame) (is_part m) n pl.segments ss old.segments.clear);
      groups = more-so-far group_title groups_of ms zs n x _ there (c.in_ok-groups.ensures.table ms gs n here old.groups.table) (clear-more (λ (f : Frame). f) (λ i. true) n pl.groups gs old.groups.clear);
      made = more-mapped shares_seen (λ (y : Entered). shared_by (sharing_of ms pls y.0 y.1.0) y.1.1) c.loop-number.shares.items c.push.new.self.items _ (drop n zs) (drop (n + 1) zs) x (all_shared ms pls) c.in_ok-push.ensures.items
          (next-at zs n x there) (ap₂ (λ a b. (a, b)) segments groups) old.made;
    }

pub returns : goal.returns
returns c =
    let mods = c.args.modules.now in
    let ms = typed_modules mods in
    let pls = c.args.placements.now in
    let zs : List Entered = enumerate_from 0 (zip ms pls) in
    all-mapped shares_seen (λ (y : Entered). shared_by (sharing_of ms pls y.0 y.1.0) y.1.1) c.loop-number.shares.items (drop c.loop-number.number zs) (all_shared ms pls)
    (none-entered 0 ms pls c.loop-number.number (omega (arith, c.loop-number-test.false, typed-length mods))) c.loop-number.invariant.made
