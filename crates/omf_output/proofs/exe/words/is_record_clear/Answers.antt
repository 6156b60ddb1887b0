use Rattle.std.proofs.Common.{◌∙◌, ap, sym, subst, [], arith}
use Rattle.std.specs.Prelude.{All, option_to_list}
use Rattle.std.proofs.lemmas.List.Elements.{All-head}
use Rattle.omf_image.specs.Painting.{Fits}
use Rattle.omf_output.proofs.exe.words.is_record_clear.Goals as goal

pub overflow_add-from-in-Some : goal.overflow_add-from-in-Some
overflow_add-from-in-Some c =
    let e = c.in-Some.extent in
    let fits = All-head Fits e [] (subst (All Fits) (sym c.extent_of.ensures ∙ ap option_to_list c.in-Some.is) c.requires.fits) in
    let low = c.segment_address.ensures.low in
    omega (arith, fits, low)
