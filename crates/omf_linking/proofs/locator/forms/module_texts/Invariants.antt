use Rattle.std.proofs.Common.{◌≡◌, ◌++◌, drop}
use Rattle.std.specs.Prelude.{map, string_bytes}
use Rattle.omf_check.specs.Module.{typed_modules}
use Rattle.omf_linking.specs.Locator.KeyForms.{module_texts}
use Rattle.omf_linking.proofs.locator.forms.module_texts.Given as goal

-- the names so far, and those that are left
abbrev pub invariant-loop-module : goal.invariant-loop-module
invariant-loop-module l = map string_bytes l.texts.items ++ module_texts (typed_modules (drop l.module-index l.modules)) ≡ module_texts (typed_modules l.modules)
