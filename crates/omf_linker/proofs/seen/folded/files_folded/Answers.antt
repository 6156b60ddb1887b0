use Rattle.std.proofs.Common.{map}
use Rattle.std.specs.Prelude.{string_bytes}
use Rattle.omf_records.specs.Inner.Seen.{map_ok}
use Rattle.omf_linker.specs.declared.seen.files.SeenText.{SeenText}
use Rattle.omf_linker.specs.Seen.Looks.{AreLookedFolded}
use Rattle.omf_linker.proofs.FoldedRuns.{folded-from-modules, not-folded}
use Rattle.omf_linker.proofs.LookLaws.{looked-from}
use Rattle.omf_linker.proofs.seen.folded.files_folded.Goals as goal

pub returns-in-Ok-clause-shown : goal.returns-in-Ok-clause-shown
returns-in-Ok-clause-shown c =
    let all = c.in-Ok.all in
    let shown = map_ok (λ (s : SeenText). s.shown) c.of_modules.result in
    let r = c.args.request in
    folded-from-modules r.task c.args.files.items r.text.now all.modules.items (map string_bytes all.labels.items) shown
    c.in-Ok.ensures.labeled
    c.of_modules.ensures.shown

pub returns-in-Ok-clause-looked : goal.returns-in-Ok-clause-looked
returns-in-Ok-clause-looked c =
    let all = c.in-Ok.all in
    let r = c.args.request in
    looked-from (AreLookedFolded r.task r.allowed) c.args.files.items r.text.now all.modules.items (map string_bytes all.labels.items) c.of_modules.result c.in-Ok.ensures.labeled c.of_modules.ensures.looked

pub returns-in-Err-clause-shown : goal.returns-in-Err-clause-shown
returns-in-Err-clause-shown c = not-folded c.args.request.task c.args.files.items c.args.request.text.now c.in-Err.fault c.in-Err.ensures.fault
