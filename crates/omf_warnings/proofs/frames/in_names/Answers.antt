use Rattle.std.proofs.Common.{◌+◌, ◌∙◌, ap, sym, drop}
use Rattle.std.specs.Prelude.{map}
use Rattle.omf_warnings.specs.Frames.{split}
use Rattle.omf_warnings.proofs.FrameLaws.{next-list, no-list}
use Rattle.omf_warnings.proofs.WideLaws.{first_found, first_later, first_none}
use Rattle.omf_warnings.proofs.frames.in_names.Goals as goal

pub returns-in-Some : goal.returns-in-Some
returns-in-Some c =
    let rs = c.args.names.now in
    let i = c.loop-groups.groups-index in
    let r = c.groups-item.result in
    first_found split (map (λ v. v.items) (drop i rs)) r.items (map (λ v. v.items) (drop (i + 1) rs)) c.in-Some.found _ (next-list rs i r c.groups-item.is c.loop-groups-test.true)
    (ap split (sym c.deref.ensures.value) ∙ sym c.split.ensures ∙ c.in-Some.is) c.loop-groups.invariant

pub loop-groups-preserved : goal.loop-groups-preserved
loop-groups-preserved c =
    let rs = c.args.names.now in
    let i = c.loop-groups.groups-index in
    let r = c.groups-item.result in
    first_later split (map (λ v. v.items) (drop i rs)) r.items (map (λ v. v.items) (drop (i + 1) rs)) _ (next-list rs i r c.groups-item.is c.loop-groups-test.true)
    (ap split (sym c.deref.ensures.value) ∙ sym c.split.ensures ∙ c.in_default.is) c.loop-groups.invariant

pub returns : goal.returns
returns c =
    let rs = c.args.names.now in
    let i = c.loop-groups.groups-index in
    first_none split (map (λ v. v.items) (drop i rs)) _ (no-list rs i c.loop-groups-test.false) c.loop-groups.invariant
