use Rattle.omf_frame.specs.Fields.{IsLittle}
use Rattle.omf_records.specs.Inner.FieldReaders.{le_read, le_ok, le_short}
use Rattle.omf_image.proofs.FieldSteps.{never_unspelled}
use Rattle.omf_image.proofs.copier.Copier.dword.Goals as goal

pub unreachable-requires : goal.unreachable-requires
unreachable-requires c =
    never_unspelled (IsLittle 4) (le_read 4) (le_ok 4) (le_short 4) c.args.pos c.args.source.bytes.now c.args.source.are_bytes
    (λ v front back sp parts. c.in-None.ensures.none (record { 0 = v }) front back sp parts) c.requires.1
