use Rattle.std.proofs.Common.{ℕ, List, map, subst, sym}
use Rattle.std.specs.Prelude.{Ok, string_bytes}
use Rattle.omf_check.specs.Module.{typed_modules}
use Rattle.omf_linker.specs.Link.Rom.{IsRom}
use Rattle.omf_linker.proofs.link.running.file_shown.Goals as goal

pub returns-in-Ok-clause-shown : goal.returns-in-Ok-clause-shown
returns-in-Ok-clause-shown c =
    subst (λ (t : List ℕ). IsRom c.args.form (map string_bytes c.args.labeled.labels.now) (typed_modules c.args.labeled.modules.now) c.args.text.now (Ok t)) (sym c.of_text.ensures) c.in-Ok.ensures.file

pub returns-in-Ok-clause-linked : goal.returns-in-Ok-clause-linked
returns-in-Ok-clause-linked c = c.in-Ok.ensures.linked
