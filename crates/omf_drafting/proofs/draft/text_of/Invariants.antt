use Rattle.std.proofs.Common.{◌≡◌, ◌++◌, drop}
use Rattle.std.specs.Prelude.{string_bytes, flat_map, zip}
use Rattle.std.specs.List.{enumerate_from}
use Rattle.omf_layout.specs.Reading.{AreShort}
use Rattle.omf_layout.proofs.Printed.{HoldsTo}
use Rattle.omf_check.specs.Module.{typed_modules}
use Rattle.omf_drafting.specs.Reading.{HasFew}
use Rattle.omf_drafting.specs.Text.{module_text, link_text}
use Rattle.omf_drafting.proofs.draft.text_of.Given as goal

-- the parts so far, and those that are left; and that the numbers so far are short
abbrev pub invariant-loop-number : goal.invariant-loop-number
invariant-loop-number l = let ms = typed_modules l.modules in record {
  parts : string_bytes l.text ++ flat_map (module_text l.frames ms l.placements) (enumerate_from l.number (drop l.number (zip ms l.placements))) ≡ link_text l.frames ms l.placements;
  short : HoldsTo AreShort l.placements l.number;
  few : HoldsTo HasFew ms l.number;
}
