use Rattle.std.proofs.Common.{ℕ, List, ◌∙◌, refl, arith}
use Rattle.omf_frame.specs.Fields.{IsName}
use Rattle.omf_records.specs.Inner.FieldReaders.{name_read, name_ok, name_again, name_short}
use Rattle.omf_image.proofs.FieldSteps.{read_at, never_unspelled}
use Rattle.omf_image.proofs.CopySteps.{moves_then, moves_as, wanted_all, wanted_none}
use Rattle.omf_image.proofs.copier.Copier.data.Goals as goal

pub unreachable-requires : goal.unreachable-requires
unreachable-requires c =
    never_unspelled IsName name_read name_ok name_short c.args.pos c.args.source.bytes.now c.args.source.are_bytes
    (λ v front back sp parts. c.in-None.ensures.none v front back sp parts) c.requires.1

pub returns-in_ok-write-in-Some : goal.returns-in_ok-write-in-Some
returns-in_ok-write-in-Some c =
    let name : List ℕ = c.in-Some.name in
    let found = c.in-Some.ensures.found in
    record {
      value = name;
      is = read_at IsName name_read name_again c.args.pos c.in-Some.end c.args.source.bytes.now name found;
      from = found.0;
      to = found.1;
      moves = moves_as (moves_then c.in-Some.ensures.moves c.in_ok-write-in-Some.ensures) (omega arith) (c.name.view_is ∙ wanted_all c.args.is_wanted name c.if-is_wanted.true);
    }

pub returns-else-is_wanted : goal.returns-else-is_wanted
returns-else-is_wanted c =
    let name : List ℕ = c.in-Some.name in
    let found = c.in-Some.ensures.found in
    record {
      value = name;
      is = read_at IsName name_read name_again c.args.pos c.in-Some.end c.args.source.bytes.now name found;
      from = found.0;
      to = found.1;
      moves = moves_as c.in-Some.ensures.moves refl (wanted_none c.args.is_wanted name c.if-is_wanted.false);
    }
