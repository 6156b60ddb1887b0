use Rattle.std.proofs.Common.{◌≡◌, ℕ, ◌++◌, ap₂, subst, ◌∙◌}
use Rattle.std.specs.Prelude.{OnOk}
use Rattle.omf_records.specs.Inner.Seen.{contents_seen, kind_seen}
use Rattle.omf_records.specs.Values.{Contents}
use Rattle.omf_dump.specs.Fields.{Shown}
use Rattle.omf_dump.specs.Inner.Showing.{Keeps, shown_by, shown_in}
use Rattle.omf_frame.specs.declared.kinds.Width.{Width}
use Rattle.omf_dump.specs.Render.{shown_text}
use Rattle.omf_dump.proofs.UnjudgedLaws.{fault_lost, fault_shown, fault_unread, on_any, read_kept, read_lost, read_shown, unread_kept}
use Rattle.omf_dump.proofs.later.show_plain.Goals as goal

pub returns-in-Ok-clause-text : goal.returns-in-Ok-clause-text
returns-in-Ok-clause-text c =
    let raw = c.args.raw in
    let known = c.args.state.now.known in
    let same : kind_seen c.in-Ok.rec ≡ raw.kind = c.in-Ok.ensures.kind in
    let by_kind : shown_in known c.of.result (kind_seen c.in-Ok.rec) (contents_seen c.in-Ok.rec) ≡ shown_by known raw.kind (contents_seen c.in-Ok.rec) =
    ap₂ (λ (w : Width) (k : ℕ). shown_in known w k (contents_seen c.in-Ok.rec)) c.of.ensures same in
    let is = by_kind ∙ read_shown known c.args.state.now.lost raw.kind raw.body.now (contents_seen c.in-Ok.rec) c.requires.plain c.in-Ok.ensures.read in
    subst (λ (x : Shown). OnOk c.show_contents.result (c.show_contents.new.text.items ≡ c.args.text.now.items ++ shown_text c.args.style x)) is c.show_contents.ensures.text

pub returns-in-Ok-clause-keeps : goal.returns-in-Ok-clause-keeps
returns-in-Ok-clause-keeps c =
    let raw = c.args.raw in
    let is = read_kept c.args.state.now.known.tables c.args.state.now.lost raw.kind raw.body.now (contents_seen c.in-Ok.rec) c.requires.plain c.in-Ok.ensures.read in
    subst (λ (x : Contents). OnOk c.show_contents.result (Keeps c.args.state.now.known x c.show_contents.new.known)) is c.show_contents.ensures.keeps

pub returns-in-Ok-clause-lost : goal.returns-in-Ok-clause-lost
returns-in-Ok-clause-lost c = on_any c.show_contents.result (read_lost c.args.state.now.known.tables c.args.state.now.lost c.args.raw.kind c.args.raw.body.now (contents_seen c.in-Ok.rec) c.requires.plain c.in-Ok.ensures.read)

pub returns-in-Err-clause-text : goal.returns-in-Err-clause-text
returns-in-Err-clause-text c =
    let raw = c.args.raw in
    let is = fault_shown c.args.state.now.known c.args.state.now.lost raw.kind raw.body.now _ c.requires.plain c.in-Err.ensures.read in
    subst (λ (x : Shown). OnOk c.show_opaque.result (c.show_opaque.new.text.items ≡ c.args.text.now.items ++ shown_text c.args.style x)) is c.show_opaque.ensures.text

pub returns-in-Err-clause-keeps : goal.returns-in-Err-clause-keeps
returns-in-Err-clause-keeps c =
    let raw = c.args.raw in
    let lost = c.args.state.now.lost in
    let is = unread_kept c.args.state.now.known.tables lost raw.kind raw.body.now (fault_unread lost raw.kind raw.body.now _ c.requires.plain c.in-Err.ensures.read) in
    subst (λ (x : Contents). OnOk c.show_opaque.result (Keeps c.args.state.now.known x c.show_opaque.new.state.known)) is c.show_opaque.ensures.keeps

pub returns-in-Err-clause-lost : goal.returns-in-Err-clause-lost
returns-in-Err-clause-lost c =
    let raw = c.args.raw in
    fault_lost c.show_opaque.result c.args.state.now.known.tables c.args.state.now.lost c.show_opaque.new.state.lost raw.kind raw.body.now _ c.requires.plain c.in-Err.ensures.read c.show_opaque.ensures.lost
