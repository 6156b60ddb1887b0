-- Laws of what is reached, each the contract of a function of the same name.
use Rattle.std.specs.Prelude.{◌≡◌, List, [], All}
use Rattle.std.specs.List.{enumerate_from}
use Rattle.omf_records.specs.Values.{Rec}
use Rattle.omf_check.specs.Module.{Module, recs_of}
use Rattle.omf_trimming.specs.Reaching.{AreReached, AreWithoutUnreached, Node, is_among, unreached}
use Rattle.omf_trimming.specs.declared.optional.LeftOut.{LeftOut}
use Rattle.omf_trimming.specs.declared.without.LeftPublics.{LeftPublics}

-- The segments of a program that are reached are determined.
abbrev pub ReachedAreUnique : Type 0
ReachedAreUnique = (o : LeftOut) (ms : List (List Rec)) (one other : List Node) → AreReached o ms one → AreReached o ms other → (n : Node) → is_among one n ≡ is_among other n

-- Modules of which each segment is reached stay as they are.
abbrev pub AllReachedStay : Type 0
AllReachedStay = (publics : LeftPublics) (o : LeftOut) (ms out : List Module) (w : AreWithoutUnreached publics o ms out) → All (λ m. unreached w.set m.0 (recs_of m.1.bytes) ≡ []) (enumerate_from 0 ms) → out ≡ ms
