-- As many modules are left as there are.
use Rattle.std.proofs.Common.{◌≡◌, ◌∙◌, Bool, true, false, List, length, ap}
use Rattle.std.specs.List.{enumerate_from}
use Rattle.std.proofs.lemmas.List.FromFn.{length-enumerate_from}
use Rattle.std.proofs.lemmas.Slice.Zip.{AllZip-long}
use Rattle.omf_check.specs.Module.{Module, typed_modules}
use Rattle.omf_trimming.specs.Reaching.{IsWithoutUnreached, has_optional}
use Rattle.omf_trimming.specs.Trimmed.{AreTrimmed, AreTrimmedIf}
use Rattle.omf_trimming.specs.declared.optional.LeftOut.{LeftOut}
use Rattle.omf_trimming.specs.declared.without.LeftPublics.{LeftPublics}

as-many-if : (b : Bool) (publics : LeftPublics) (o : LeftOut) (ms out : List Module) → AreTrimmedIf b publics o ms out → length out ≡ length ms
as-many-if false publics o ms out e = ap length e
as-many-if true publics o ms out w = AllZip-long (IsWithoutUnreached publics w.set) (enumerate_from 0 ms) out w.each ∙ length-enumerate_from 0 ms

pub as-many : (publics : LeftPublics) (o : LeftOut) (ms out : List Module) → AreTrimmed publics o ms out → length out ≡ length ms
as-many publics o ms out t = as-many-if (has_optional o (typed_modules ms)) publics o ms out t
