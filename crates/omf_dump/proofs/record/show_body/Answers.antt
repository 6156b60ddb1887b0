use Rattle.std.proofs.Common.{◌≡◌, ℕ, ◌++◌, ap, ap₂, subst, ◌∙◌}
use Rattle.std.specs.Prelude.{OnOk}
use Rattle.omf_frame.specs.declared.kinds.Width.{Width}
use Rattle.omf_records.specs.Inner.Reading.{contents_or, read_body}
use Rattle.omf_records.specs.Inner.Seen.{contents_seen, kind_seen}
use Rattle.omf_dump.specs.Fields.{Shown}
use Rattle.omf_dump.specs.Inner.Showing.{shown_by, shown_in}
use Rattle.omf_dump.specs.Render.{shown_text}
use Rattle.omf_dump.proofs.record.show_body.Goals as goal

pub returns-in-Ok-clause-text : goal.returns-in-Ok-clause-text
returns-in-Ok-clause-text c =
    let raw = c.args.raw in
    let known = c.args.known.now in
    let read : contents_seen c.in-Ok.rec ≡ contents_or raw.body.now (read_body raw.kind raw.body.now) = ap (contents_or raw.body.now) c.in-Ok.ensures.read in
    let same : kind_seen c.in-Ok.rec ≡ raw.kind = c.in-Ok.ensures.kind in
    let shown : shown_in known c.of.result (kind_seen c.in-Ok.rec) (contents_seen c.in-Ok.rec) ≡ shown_by known raw.kind (contents_or raw.body.now (read_body raw.kind raw.body.now)) =
    ap₂ (λ (w : Width) (k : ℕ). shown_in known w k (contents_seen c.in-Ok.rec)) c.of.ensures same ∙ ap (shown_by known raw.kind) read in
    subst (λ (x : Shown). OnOk c.show_contents.result (c.show_contents.new.text.items ≡ c.args.text.now.items ++ shown_text c.args.style x)) shown c.show_contents.ensures.text
