use Rattle.std.proofs.Common.{map}
use Rattle.std.specs.Prelude.{option_map, string_bytes}
use Rattle.omf_linking.specs.PlainText.{plain_text}
use Rattle.omf_linker.proofs.LookLaws.{looked-in}
use Rattle.omf_linker.proofs.seen.files.modules_seen.Goals as goal

pub returns-in-Ok-clause-looked : goal.returns-in-Ok-clause-looked
returns-in-Ok-clause-looked c =
    let r = c.args.request in
    looked-in r.task r.allowed (map string_bytes c.args.labeled.labels.now) c.args.labeled.modules.now (plain_text r.text.now) (option_map (λ p. p.items) c.in-Ok.at.placements) c.looked_at-looked.result c.in-Ok.ensures.linked c.looked_at-looked.ensures
