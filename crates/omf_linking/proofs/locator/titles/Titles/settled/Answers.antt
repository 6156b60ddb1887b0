use Rattle.std.proofs.Common.{◌∙◌, ap, sym}
use Rattle.std.specs.Prelude.{Option, Some, option_map}
use Rattle.omf_check.specs.Module.{recs_of}
use Rattle.omf_placement.specs.declared.frame.Frame.{Frame as Base}
use Rattle.omf_linking.specs.Inner.LineParsing.{told_seen}
use Rattle.omf_linking.specs.Locator.LinkEntries.{GroupFrame, SegmentPlace, StoredPlace}
use Rattle.omf_linking.specs.Locator.Items.{or_unshared, settled}
use Rattle.omf_linking.proofs.locator.titles.Titles.settled.Goals as goal

pub returns-in-Some : goal.returns-in-Some
returns-in-Some c = λ ms items at.
    let found = sym (c.in_ok-frame-in-SharedPlace.ensures ms items at) ∙ c.in-Some.is in
    sym (
    ap (λ t. settled ms items (recs_of c.args.«module».now.bytes) (told_seen t) c.args.index) c.in-SharedPlace.is
    ∙ ap (λ (o : Option Base). or_unshared (option_map (λ f. SegmentPlace (record { address = c.in-SharedPlace.address; frame = f })) o)) found)

pub returns-in-None : goal.returns-in-None
returns-in-None c = λ ms items at.
    let found = sym (c.in_ok-frame-in-SharedPlace.ensures ms items at) ∙ c.in-None.is in
    sym (
    ap (λ t. settled ms items (recs_of c.args.«module».now.bytes) (told_seen t) c.args.index) c.in-SharedPlace.is
    ∙ ap (λ (o : Option Base). or_unshared (option_map (λ f. SegmentPlace (record { address = c.in-SharedPlace.address; frame = f })) o)) found)

pub returns-in-Some-2 : goal.returns-in-Some-2
returns-in-Some-2 c = λ ms items at.
    let found = sym (c.in_ok-frame-in-SharedStored.ensures ms items at) ∙ c.in-Some-2.is in
    sym (
    ap (λ t. settled ms items (recs_of c.args.«module».now.bytes) (told_seen t) c.args.index) c.in-SharedStored.is
    ∙ ap (λ (o : Option Base). or_unshared (option_map (λ f. StoredPlace (record { address = c.in-SharedStored.address; frame = f }) c.in-SharedStored.stored) o)) found)

pub returns-in-None-2 : goal.returns-in-None-2
returns-in-None-2 c = λ ms items at.
    let found = sym (c.in_ok-frame-in-SharedStored.ensures ms items at) ∙ c.in-None-2.is in
    sym (
    ap (λ t. settled ms items (recs_of c.args.«module».now.bytes) (told_seen t) c.args.index) c.in-SharedStored.is
    ∙ ap (λ (o : Option Base). or_unshared (option_map (λ f. StoredPlace (record { address = c.in-SharedStored.address; frame = f }) c.in-SharedStored.stored) o)) found)

pub returns-in-Some-3 : goal.returns-in-Some-3
returns-in-Some-3 c = λ ms items at.
    let found = sym (c.in_ok-frame-in-SharedFrame.ensures ms items at) ∙ c.in-Some-3.is in
    sym (
    ap (λ t. settled ms items (recs_of c.args.«module».now.bytes) (told_seen t) c.args.index) c.in-SharedFrame.is
    ∙ ap (λ (o : Option Base). or_unshared (option_map (λ f. GroupFrame (Some f)) o)) found)

pub returns-in-None-3 : goal.returns-in-None-3
returns-in-None-3 c = λ ms items at.
    let found = sym (c.in_ok-frame-in-SharedFrame.ensures ms items at) ∙ c.in-None-3.is in
    sym (
    ap (λ t. settled ms items (recs_of c.args.«module».now.bytes) (told_seen t) c.args.index) c.in-SharedFrame.is
    ∙ ap (λ (o : Option Base). or_unshared (option_map (λ f. GroupFrame (Some f)) o)) found)
