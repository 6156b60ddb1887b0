use Rattle.std.proofs.Common.{◌++◌, List, Option, refl, subst}
use Rattle.std.specs.Prelude.{map, option_map, string_bytes}
use Rattle.omf_check.specs.Module.{Module}
use Rattle.omf_finding.specs.declared.nearing.Difference.{Difference}
use Rattle.omf_finding.specs.declared.straying.Stray.{Stray}
use Rattle.omf_find.specs.NearLines.{AreTexts, IsByteLine, IsReferenceLine, near_line}
use Rattle.omf_find.proofs.TextLaws.{in-three}
use Rattle.omf_find.proofs.near.put_one.Goals as goal

pub returns : goal.returns
returns c =
    let f = c.args.format in
    let y = c.args.one.now in
    let line = near_line f (map string_bytes c.args.source.files.now) c.args.source.gathered.now y in
    let first = c.in_ok-put_differences.ensures in
    let second = c.in_ok-put_strays.ensures in
    let m = option_map (λ m. m.now) c.module-module.result in
    let bytes = subst (λ (ds : List Difference). AreTexts (IsByteLine f m y.near) ds first.0) c.deref.ensures.value first.1 in
    let references = subst (λ (ss : List Stray). AreTexts (IsReferenceLine f m y.near) ss second.0) c.deref-2.ensures.value second.1 in (
      line ++ (first.0 ++ second.0),
      record {
        bytes = first.0;
        are_bytes = subst (λ (m : Option Module). AreTexts (IsByteLine f m y.near) y.near.differences.items first.0) c.module-module.ensures bytes;
        references = second.0;
        are_references = subst (λ (m : Option Module). AreTexts (IsReferenceLine f m y.near) y.strays.items second.0) c.module-module.ensures references;
        text_is = refl;
      },
      in-three c.args.text.now.items line first.0 second.0 _ _ _ c.in_ok-put_segment.ensures first.2 second.2,
    )
