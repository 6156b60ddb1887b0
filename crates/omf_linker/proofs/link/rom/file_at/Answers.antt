use Rattle.std.proofs.Common.{◌≡◌, ℕ, List, Vec, Global, map, subst, sym}
use Rattle.std.specs.Prelude.{Ok, string_bytes}
use Rattle.std.proofs.lemmas.Result.{IfOk-weaker}
use Rattle.omf_linking.specs.Placing.{linked}
use Rattle.omf_check.specs.Module.{typed_modules}
use Rattle.omf_records.specs.Inner.Seen.{map_ok}
use Rattle.omf_placement.specs.Placement.{Places}
use Rattle.omf_linker.proofs.RomFiles.{not_linked, rom_is}
use Rattle.omf_linker.proofs.link.rom.file_at.Goals as goal

pub returns-in-Ok-clause-file : goal.returns-in-Ok-clause-file
returns-in-Ok-clause-file c =
    rom_is c.args.form (map string_bytes c.args.labeled.labels.now) (typed_modules c.args.labeled.modules.now) c.args.text.now c.in-Ok.linked (map_ok (λ (r : Vec ℕ Global × Vec Places Global). r.0.items) c.placed_file.result) c.in-Ok.ensures.linked c.placed_file.ensures.file

pub returns-in-Err-clause-file : goal.returns-in-Err-clause-file
returns-in-Err-clause-file c =
    not_linked c.args.form (map string_bytes c.args.labeled.labels.now) (typed_modules c.args.labeled.modules.now) c.args.text.now c.in-Err.fault c.named.result c.in-Err.ensures.linked c.named.ensures

pub returns-in-Ok-clause-linked : goal.returns-in-Ok-clause-linked
returns-in-Ok-clause-linked c =
    let whole = linked (typed_modules c.args.labeled.modules.now) c.args.text.now in
    let kept = c.in-Ok.linked.placements.items in
    IfOk-weaker c.placed_file.result (λ r. r.1.items ≡ kept) (λ r. whole ≡ Ok r.1.items) (λ r e. subst (λ (ps : List Places). whole ≡ Ok ps) (sym e) c.in-Ok.ensures.linked.placed) c.placed_file.ensures.kept
