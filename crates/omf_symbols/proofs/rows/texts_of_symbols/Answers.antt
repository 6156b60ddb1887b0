use Rattle.std.specs.Prelude.{refl}
use Rattle.std.specs.Fmt.{digits}
use Rattle.omf_symbols.proofs.rows.texts_of_symbols.Goals as goal

pub returns-clause-ghidra : goal.returns-clause-ghidra
unfolding digits
returns-clause-ghidra c = refl

pub returns-clause-ida : goal.returns-clause-ida
unfolding digits
returns-clause-ida c = refl

pub returns-clause-radare : goal.returns-clause-radare
unfolding digits
returns-clause-radare c = refl

pub returns-clause-nm : goal.returns-clause-nm
unfolding digits
returns-clause-nm c = refl
