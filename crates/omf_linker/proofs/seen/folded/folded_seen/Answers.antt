use Rattle.std.proofs.Common.{map}
use Rattle.std.specs.Prelude.{string_bytes}
use Rattle.omf_records.specs.Inner.Seen.{map_ok}
use Rattle.omf_linker.specs.declared.seen.files.SeenText.{SeenText}
use Rattle.omf_linker.proofs.FoldedRuns.{shown-folded}
use Rattle.omf_linker.proofs.LookLaws.{looked-folded}
use Rattle.omf_linker.proofs.seen.folded.folded_seen.Goals as goal

pub returns-clause-shown : goal.returns-clause-shown
returns-clause-shown c =
    let r = c.args.request in
    let folded = c.in-Ok.folded in
    shown-folded r.task (map string_bytes c.args.labels.now) c.args.modules.items folded.modules.items r.text.now folded.text.items (map_ok (λ (s : SeenText). s.shown) c.modules_seen.result)
    c.in-Ok.ensures.modules c.in-Ok.ensures.text (rw (c.deref.ensures.value, c.deref-2.ensures.value) at c.modules_seen.ensures.shown)

pub returns-clause-looked : goal.returns-clause-looked
returns-clause-looked c =
    let r = c.args.request in
    let folded = c.in-Ok.folded in
    looked-folded r.task r.allowed (map string_bytes c.args.labels.now) c.args.modules.items folded.modules.items r.text.now folded.text.items c.modules_seen.result c.in-Ok.ensures.modules c.in-Ok.ensures.text
    (rw (c.deref.ensures.value, c.deref-2.ensures.value) at c.modules_seen.ensures.looked)
