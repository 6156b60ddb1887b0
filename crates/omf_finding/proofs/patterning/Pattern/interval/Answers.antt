use Rattle.std.proofs.Common.{subst, Some, None}
use Rattle.omf_image.specs.Overlay.{byte_at, IsRunShown, AreBytesAt}
use Rattle.omf_finding.specs.Inner.Walking.{Marks}
use Rattle.omf_finding.proofs.IntervalLaws.{interval-shown, interval-missing}
use Rattle.omf_finding.proofs.patterning.Pattern.interval.Goals as goal

pub returns-in_err-marks : goal.returns-in_err-marks
returns-in_err-marks c =
    let segment = c.args.segment in
    let k = c.args.k in
    let first = c.in_ok-first.first in
    let bytes = c.in_ok-first.values.now in
    let shown = subst (λ (p : Marks). IsRunShown (byte_at p.values segment) k (Some (first, bytes))) c.self.view_is c.in_ok-first.ensures in
    let missing = subst (λ (p : Marks). AreBytesAt (byte_at p.marks segment) k None) c.self.view_is c.in_err-marks.ensures in
    absurd (interval-missing c.args.self.now c.requires segment k first bytes shown missing)

pub returns : goal.returns
returns c =
    let segment = c.args.segment in
    let k = c.args.k in
    let first = c.in_ok-first.first in
    let values = c.in_ok-first.values in
    let marks = c.in_ok-marks.marks in
    let shown = subst (λ (p : Marks). IsRunShown (byte_at p.values segment) k (Some (first, values.now))) c.self.view_is c.in_ok-first.ensures in
    let marked = subst (λ (p : Marks). AreBytesAt (byte_at p.marks segment) k (Some marks.now)) c.self.view_is c.in_ok-marks.ensures in
    (shown, interval-shown c.args.self.now c.requires segment k (record { first = first; values = values; marks = marks }) shown marked)
