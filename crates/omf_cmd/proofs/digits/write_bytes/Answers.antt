use Rattle.std.proofs.Common.{rules, refl}
use Rattle.omf_cmd.proofs.Hexadecimal.{last_written}
use Rattle.omf_cmd.proofs.digits.write_bytes.Goals as goal

pub returns : goal.returns
returns c =
    last_written _ c.write_others.new.text c.write_byte.new.text c.args.bytes.now c.in-Some.others.now c.in-Some.last.now _ _ c.in-Some.ensures.cases.0 (search rules) c.write_others.ensures c.write_byte.ensures refl
