use Rattle.std.proofs.Common.{◌≡◌, refl, subst}
use Rattle.omf_linking.specs.Inner.Walking.{IsGiven}
use Rattle.omf_linking.specs.Locator.LinkEntries.{ExternalPlace, GroupFrame, SegmentPlace, StoredPlace}
use Rattle.omf_linking.specs.Locator.Sparse.{Sparse}
use Rattle.omf_linking.proofs.SparseLaws.{external_given_by, group_given_by, segment_given_by, stored_given_by}
use Rattle.omf_linking.proofs.locator.sparse.Sparse.give.Goals as goal

pub returns-in-Segment : goal.returns-in-Segment
returns-in-Segment c m =
    let old : Sparse = record { segments = c.self.inside.segments.items; stored = c.self.inside.stored.items; groups = c.self.inside.groups.items; externals = c.self.inside.externals.items } in
    let new : Sparse = record { segments = c.put_place.new.places.items; stored = c.self.inside.stored.items; groups = c.self.inside.groups.items; externals = c.self.inside.externals.items } in
    let view = c.self.view_is in
    let is : old ≡ c.args.self.now = cc in
    rw c.in-Segment.is (subst (λ (s : Sparse). IsGiven m c.args.index (SegmentPlace c.in-Segment.place) s new c.put_place.result) is (segment_given_by m c.args.index old new c.put_place.result c.in-Segment.place c.put_place.ensures refl refl refl))

pub returns-in-Group : goal.returns-in-Group
returns-in-Group c m =
    let old : Sparse = record { segments = c.self.inside.segments.items; stored = c.self.inside.stored.items; groups = c.self.inside.groups.items; externals = c.self.inside.externals.items } in
    let new : Sparse = record { segments = c.self.inside.segments.items; stored = c.self.inside.stored.items; groups = c.put_frame.new.frames.items; externals = c.self.inside.externals.items } in
    let view = c.self.view_is in
    let is : old ≡ c.args.self.now = cc in
    rw c.in-Group.is (subst (λ (s : Sparse). IsGiven m c.args.index (GroupFrame c.in-Group.frame) s new c.put_frame.result) is (group_given_by m c.args.index old new c.put_frame.result c.in-Group.frame c.put_frame.ensures refl refl refl))

pub returns-in-External : goal.returns-in-External
returns-in-External c m =
    let old : Sparse = record { segments = c.self.inside.segments.items; stored = c.self.inside.stored.items; groups = c.self.inside.groups.items; externals = c.self.inside.externals.items } in
    let new : Sparse = record { segments = c.self.inside.segments.items; stored = c.self.inside.stored.items; groups = c.self.inside.groups.items; externals = c.put_place-in-External.new.places.items } in
    let view = c.self.view_is in
    let is : old ≡ c.args.self.now = cc in
    rw c.in-External.is (subst (λ (s : Sparse). IsGiven m c.args.index (ExternalPlace c.in-External.place) s new c.put_place-in-External.result) is (external_given_by m c.args.index old new c.put_place-in-External.result c.in-External.place c.put_place-in-External.ensures refl refl refl))

pub returns-in-Stored : goal.returns-in-Stored
returns-in-Stored c m =
    let old : Sparse = record { segments = c.self.inside.segments.items; stored = c.self.inside.stored.items; groups = c.self.inside.groups.items; externals = c.self.inside.externals.items } in
    let new : Sparse = record { segments = c.put_stored.new.places.items; stored = c.put_stored.new.stored.items; groups = c.self.inside.groups.items; externals = c.self.inside.externals.items } in
    let view = c.self.view_is in
    let is : old ≡ c.args.self.now = cc in
    rw c.in-Stored.is (subst (λ (s : Sparse). IsGiven m c.args.index (StoredPlace c.in-Stored.place c.in-Stored.address) s new c.put_stored.result) is
    (stored_given_by m c.args.index old new c.put_stored.result c.in-Stored.place c.in-Stored.address c.put_stored.ensures.place c.put_stored.ensures.stored refl refl))
