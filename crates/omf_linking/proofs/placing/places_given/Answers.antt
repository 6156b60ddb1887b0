use Rattle.std.proofs.Common.{◌≡◌, ◌+◌, ◌∷◌, ◌++◌, ◌∙◌, ◌<◌, ◌≤◌, [], List, ap, drop, get_or, length, refl, sym, subst}
use Rattle.std.specs.Prelude.{None, Ok, Option, Some}
use Rattle.omf_check.specs.Module.{records_in}
use Rattle.omf_check.specs.WellFormed.{recs}
use Rattle.omf_placement.specs.declared.frame.Frame.{Frame}
use Rattle.omf_placement.specs.declared.frame.Placed.{Placed}
use Rattle.omf_placement.specs.Placement.{Places}
use Rattle.omf_records.specs.Inner.Seen.{map_ok}
use Rattle.omf_reloc.specs.declared.fault.Kind.TheVariants as kinds
use Rattle.omf_linking.specs.Placing.{all_given, frame_given, or_missing, placed_by, with_segments}
use Rattle.omf_linking.proofs.PlacesLaws.{all-taken, frames_left, framed, more-taken, next-frame, no-frame, none-taken, none-there}
use Rattle.omf_linking.proofs.placing.places_given.Goals as goal

pub loop-k-init : goal.loop-k-init
loop-k-init c =
    let m = recs (records_in c.args.«module».now.bytes) in
    let segs = c.in_ok-segments.segments.items in
    let given = c.args.given.now in
    let start : framed c.args.number m c.of-placement.result 1 given.groups ≡ framed c.args.number m (placed_by segs []) 1 given.groups
    = ap (λ (pl : Places). framed c.args.number m pl 1 given.groups) (c.of-placement.ensures ∙ placed-empty segs c.new.result.items c.new-2.result.items c.new.ensures.items c.new-2.ensures.items) in
    let told : or_missing c.args.number kinds.Segment (all_given 1 given.segments) ≡ Ok segs
    = subst (λ ps. or_missing c.args.number kinds.Segment (all_given 1 ps) ≡ Ok segs) c.segments.ensures.all c.in_ok-segments.ensures in
    record {
      all = start ∙ ap (λ r. map_ok (placed_by segs) (or_missing c.args.number kinds.Group r)) (none-taken (all_given 1 (frames_left m segs 1 given.groups))) ∙ ap (with_segments c.args.number m given.groups) (sym told);
      none = ap (λ (pl : Places). pl.externals) c.of-placement.ensures ∙ c.new-2.ensures.items;
    }
  where
    placed-empty : (segs : List Placed) (gs : List Frame) (es : List Placed) → gs ≡ [] → es ≡ [] → ◌≡◌ {A = Places} (record { segments = segs; groups = gs; externals = es }) (placed_by segs [])
    placed-empty segs gs es e f = rw (e, f) refl

pub returns-in_default : goal.returns-in_default
returns-in_default c =
    let m = recs (records_in c.args.«module».now.bytes) in
    let k = c.loop-k.k in
    let pl = c.loop-k.placement in
    let gs = c.args.given.now.groups in
    let all = c.groups-groups.ensures.all in
    let none : frame_given m pl.segments (k + 1, get_or gs k None) ≡ None = subst (λ xs. frame_given m pl.segments (k + 1, get_or xs k None) ≡ None) all (sym c.in_default.ensures) in
    let next = next-frame m pl.segments gs k (subst (λ (xs : List (Option (Option Frame))). k < length xs) all c.loop-k-test.true) ∙ ap (λ o. o ∷ frames_left m pl.segments (k + 1 + 1) (drop (k + 1) gs)) none in
    sym c.loop-k.invariant.all
    ∙ ap (λ r. map_ok (placed_by pl.segments) (or_missing c.args.number kinds.Group r)) (none-there pl.groups (k + 1) (frames_left m pl.segments (k + 1) (drop k gs)) (frames_left m pl.segments (k + 1 + 1) (drop (k + 1) gs)) next)

pub loop-k-preserved : goal.loop-k-preserved
loop-k-preserved c =
    let m = recs (records_in c.args.«module».now.bytes) in
    let k = c.loop-k.k in
    let pl = c.loop-k.placement in
    let gs = c.args.given.now.groups in
    let all = c.groups-groups.ensures.all in
    let frame = c.in-Some.frame in
    let some : frame_given m pl.segments (k + 1, get_or gs k None) ≡ Some frame = subst (λ xs. frame_given m pl.segments (k + 1, get_or xs k None) ≡ Some frame) all (sym c.in-Some.ensures) in
    let next = next-frame m pl.segments gs k (subst (λ (xs : List (Option (Option Frame))). k < length xs) all c.loop-k-test.true) ∙ ap (λ o. o ∷ frames_left m pl.segments (k + 1 + 1) (drop (k + 1) gs)) some in
    let grown : Places = record { segments = pl.segments; groups = pl.groups ++ frame ∷ []; externals = pl.externals } in
    record {
      all = ap (λ (q : Places). framed c.args.number m q (k + 1 + 1) (drop (k + 1) gs)) c.in_ok-push_group.ensures.ok
          ∙ sym (ap (λ r. map_ok (placed_by pl.segments) (or_missing c.args.number kinds.Group r))
          (more-taken pl.groups grown.groups frame (k + 1) (frames_left m pl.segments (k + 1) (drop k gs)) (frames_left m pl.segments (k + 1 + 1) (drop (k + 1) gs)) next refl)) ∙ c.loop-k.invariant.all;
      none = ap (λ (q : Places). q.externals) c.in_ok-push_group.ensures.ok ∙ c.loop-k.invariant.none;
    }

pub returns : goal.returns
returns c =
    let m = recs (records_in c.args.«module».now.bytes) in
    let k = c.loop-k.k in
    let pl = c.loop-k.placement in
    let gs = c.args.given.now.groups in
    let low = subst (λ (xs : List (Option (Option Frame))). length xs ≤ k) c.groups-groups.ensures.all c.loop-k-test.false in
    sym c.loop-k.invariant.all
    ∙ ap (λ r. map_ok (placed_by pl.segments) (or_missing c.args.number kinds.Group r)) (all-taken pl.groups (k + 1) (frames_left m pl.segments (k + 1) (drop k gs)) (no-frame m pl.segments gs k low))
    ∙ ap (λ xs. Ok (record { segments = pl.segments; groups = pl.groups; externals = xs })) (sym c.loop-k.invariant.none)
