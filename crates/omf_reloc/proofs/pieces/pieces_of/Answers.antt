use Rattle.std.proofs.Common.{◌∙◌, ap, List}
use Rattle.std.specs.Prelude.{map}
use Rattle.omf_frame.specs.declared.fault.Place.{Place}
use Rattle.omf_image.specs.Limits.{profile_limits}
use Rattle.omf_records.specs.Values.{Rec}
use Rattle.omf_check.specs.Module.{records_in}
use Rattle.omf_check.specs.WellFormed.{recs}
use Rattle.omf_reloc.specs.Inner.Pieces.{placed_pieces, reference_places}
use Rattle.omf_reloc.proofs.PieceLaws.{pieces-listed, pieces-placed, records-set}
use Rattle.omf_check.proofs.ListedLaws.{records_listed}
use Rattle.omf_reloc.proofs.pieces.pieces_of.Goals as goal

abbrev without_places : List (Place × Rec) → List Rec
without_places xs = map (λ x. x.1) xs

pub new-requires : goal.new-requires
new-requires c =
    let raws = records_in c.args.module.now.bytes in
    records-set profile_limits (recs raws) c.undecoded.result c.undecoded.ensures.holds (ap without_places c.undecoded.ensures.listed ∙ records_listed 0 0 raws)

pub returns-clause-listed : goal.returns-clause-listed
returns-clause-listed c =
    let raws = records_in c.args.module.now.bytes in
    ap (λ s. map (λ p. p.1) s) c.new.ensures
    ∙ pieces-listed (recs raws) c.undecoded.result (ap without_places c.undecoded.ensures.listed ∙ records_listed 0 0 raws)

pub returns-clause-places : goal.returns-clause-places
returns-clause-places c =
    let raws = records_in c.args.module.now.bytes in
    ap reference_places c.new.ensures ∙ ap (λ xs. reference_places (placed_pieces xs)) c.undecoded.ensures.listed ∙ pieces-placed raws
