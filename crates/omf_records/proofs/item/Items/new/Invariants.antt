use Rattle.std.proofs.Common.{◌≡◌, length}
use Rattle.std.specs.Result.{result_err}
use Rattle.omf_records.specs.Inner.Reads.{each}
use Rattle.omf_records.proofs.item.Items.new.Given as goal

-- the fault, if there is one, is still to come
abbrev pub invariant-loop-left : goal.invariant-loop-left
invariant-loop-left g l = result_err (each (g.T.Item.reader (g.T.From.Cursor.wide l.from)).read (g.T.From.Cursor.place l.from) (g.T.From.Cursor.rest l.from)) ≡ result_err (each (g.T.Item.reader (g.T.From.Cursor.wide l.left)).read (g.T.From.Cursor.place l.left) (g.T.From.Cursor.rest l.left))

abbrev pub decreases-loop-left : goal.decreases-loop-left
decreases-loop-left g l = length (g.T.From.Cursor.rest l.left)
