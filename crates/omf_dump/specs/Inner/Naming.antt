-- The lines of names, as the code keeps how they are made.
use Rattle.std.specs.Prelude.{ℕ, List}
use Rattle.omf_dump.specs.Names.{NameRow, rows_text}
use Rattle.omf_dump.specs.declared.naming.Names.{Names}

abbrev pub lines_of : Names → List NameRow → List ℕ
lines_of n rows = rows_text n.shape n.which n.head.now rows
