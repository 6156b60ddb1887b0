use Rattle.std.proofs.Common.{◌≡◌, ◌∙◌, ℕ, false, ap, sym, subst}
use Rattle.std.specs.Prelude.{Result, Ok, IfOk}
use Rattle.omf_records.specs.Layout.{Meets}
use Rattle.omf_records.specs.Records.{contents}
use Rattle.omf_records.specs.declared.at.LayoutFault.{LayoutFault}
use Rattle.omf_records.specs.declared.record.Rec.{Rec as CodeRec}
use Rattle.omf_records.specs.Inner.Seen.{contents_seen, kind_seen, map_ok, rec_seen}
use Rattle.omf_records.specs.Valued.{is_fixupp}
use Rattle.omf_image.specs.Limits.{profile_limits}
use Rattle.omf_check.specs.Inner.Kept.{IsBounded}
use Rattle.omf_check.specs.Inner.Judging.{IsNoFixupp}
use Rattle.omf_check.proofs.RecordLaws.{fits_on, one_fits_on, not_fixupp}
use Rattle.omf_check.proofs.ShortLaws.{spelled_short}
use Rattle.omf_check.proofs.table.Tables.take_other.Goals as goal

-- a record of another type than FIXUPP has no subrecords
other : (kind : ℕ) (viewed : Result CodeRec LayoutFault) (rec : CodeRec) → is_fixupp kind ≡ false → viewed ≡ Ok rec → IfOk viewed (λ r. kind_seen r ≡ kind) → IsNoFixupp (contents_seen rec)
other kind viewed rec none ok same = not_fixupp rec (ap is_fixupp (subst (λ x. IfOk x (λ r. kind_seen r ≡ kind)) ok same) ∙ none)

pub add-requires-clause-items : goal.add-requires-clause-items
add-requires-clause-items c =
    one_fits_on c.args.profile profile_limits c.args.self.now c.requires.bounded c.args.raw.start (rec_seen c.in-Ok.rec)
    (other c.args.raw.kind c.view-viewed.result c.in-Ok.rec c.requires.other c.in-Ok.is c.view-viewed.ensures.kind) (sym c.record_fault.ensures ∙ c.in_default.is)

pub record_fault-requires-clause-other : goal.record_fault-requires-clause-other
record_fault-requires-clause-other c = other c.args.raw.kind c.view-viewed.result c.in-Ok.rec c.requires.other c.in-Ok.is c.view-viewed.ensures.kind

pub record_fault-requires-clause-short : goal.record_fault-requires-clause-short
record_fault-requires-clause-short c =
    let meets = subst (λ x. Meets (contents c.args.raw.kind) 3 c.args.raw.body.now (map_ok contents_seen x)) c.in-Ok.is c.view-viewed.ensures.meets in
    spelled_short c.args.raw.kind c.args.raw.body.now (contents_seen c.in-Ok.rec) c.requires.short meets.spelled

pub returns-in-Ok-add-clause-bounded : goal.returns-in-Ok-add-clause-bounded
returns-in-Ok-add-clause-bounded c =
    subst IsBounded (sym c.in-Ok-add.ensures)
    (fits_on c.args.profile profile_limits c.args.self.now c.requires.bounded c.args.raw.start (rec_seen c.in-Ok.rec) (sym c.record_fault.ensures ∙ c.in_default.is)).1
