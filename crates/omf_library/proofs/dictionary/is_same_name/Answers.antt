use Rattle.std.proofs.Common.{sym}
use Rattle.omf_library.proofs.NameLengths.{other_length}
use Rattle.omf_library.proofs.dictionary.is_same_name.Goals as goal

pub returns-then-one-other : goal.returns-then-one-other
returns-then-one-other c = sym (other_length c.args.is_case_sensitive c.args.one.now c.args.other.now c.if-one-other.true)
