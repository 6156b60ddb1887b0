use Rattle.std.proofs.Common.{◌<◌, ◌^◌, ◌∙◌, List, length, sym, subst, arith}
use Rattle.std.specs.Prelude.{string_bytes}
use Rattle.std.specs.List.{AllZip}
use Rattle.std.proofs.lemmas.Option.{same_Some}
use Rattle.omf_check.specs.Module.{typed_modules}
use Rattle.omf_placement.specs.Placement.{Places}
use Rattle.omf_layout.specs.Layout.{Laid}
use Rattle.omf_layout.specs.Several.Laying.{laid}
use Rattle.omf_linking.specs.Locator.Drafted.{HasEntries}
use Rattle.omf_drafting.specs.Reading.{IsReadBack}
use Rattle.omf_drafting.proofs.DraftLaws.{link-text-read}
use Rattle.omf_drafting.proofs.PlacesLaws.{all-have, typed-length}
use Rattle.omf_drafting.proofs.draft.link_draft.Goals as goal

pub text_of-requires-clause-entries : goal.text_of-requires-clause-entries
text_of-requires-clause-entries c =
    let ms = typed_modules c.args.modules.now in
    subst (AllZip HasEntries ms) (sym c.deref.ensures.value) (all-have _ ms (laid c.in_ok-placements.placements.items c.in_ok-placements._free) c.in_ok-placements.ensures.answer)

pub returns-clause-read : goal.returns-clause-read
returns-clause-read c = λ l h.
    let ms = typed_modules c.args.modules.now in
    let pls = c.deref.result.now in
    let items = c.in_ok-placements.placements.items in
    let has = subst (AllZip HasEntries ms) (sym c.deref.ensures.value) (all-have _ ms (laid items c.in_ok-placements._free) c.in_ok-placements.ensures.answer) in
    let low : length ms < 2 ^ 32 = omega (arith, c.requires, typed-length c.args.modules.now) in
    let read : IsReadBack ms pls (string_bytes c.in_ok-text.text)
    = subst (IsReadBack ms pls) (sym c.in_ok-text.ensures.text) (link-text-read c.args.options.frames ms pls low has c.in_ok-text.ensures.entries c.in_ok-text.ensures.short) in
    subst (λ (k : Laid (List Places)). IsReadBack ms k.what (string_bytes c.in_ok-text.text)) (same_Some (laid items c.in_ok-placements._free) l (sym c.in_ok-placements.ensures.answer ∙ h))
    (subst (λ xs. IsReadBack ms xs (string_bytes c.in_ok-text.text)) c.deref.ensures.value read)
