-- The walk to what is reached, as the code makes it.
use Rattle.std.specs.Prelude.{◌≡◌, ℕ, zero, suc, ◌+◌, ◌<◌, ⊤, List, [], ◌∷◌, ◌++◌, length, map, All, Contains, slice_get, slice_set, Bool, true, false, not, nat_lt, Option, Some, None, if◌then◌else◌}
use Rattle.std.specs.List.{enumerate_from}
use Rattle.omf_records.specs.Values.{Contents, Group, Rec}
use Rattle.omf_check.specs.Module.{recs_of}
use Rattle.omf_check.specs.Tables.{segments}
use Rattle.omf_check.specs.declared.segment.SegInfo.{SegInfo}
use Rattle.omf_placement.specs.Inner.Linkage.{linkage}
use Rattle.omf_placement.specs.Weak.{weak_pairs}
use Rattle.omf_trimming.specs.Reaching.{AreReached, IsNode, Node, always_stays, next, roots, unreached}
use Rattle.omf_trimming.specs.Inner.Uses.{module_uses}
use Rattle.omf_trimming.specs.declared.reaching.program.Program.{Program}
use Rattle.omf_trimming.specs.declared.reaching.program.ProgramModule.{ProgramModule}
use Rattle.omf_trimming.specs.declared.optional.LeftOut.{LeftOut}

-- A module of a program.
pub record IsOf (m : List Rec) (p : ProgramModule) : Type 0 where
  pub own : recs_of p.checked.now.bytes ≡ m
  pub uses_are : p.uses ≡ module_uses m
  pub pairs_are : p.pairs.items ≡ weak_pairs m

-- The members of a group, by the contents of its GRPDEF.
abbrev pub member_segments : ℕ → Contents → List Node
member_segments j (Group g) = map (λ x. (j, x.item.item)) g.members
member_segments j _ = []

-- The modules of a program with their numbers from a number on.
abbrev pub AreOf : ℕ → List (List Rec) → List ProgramModule → Type 0
AreOf j [] [] = ⊤
AreOf j [] (p ∷ ps) = ⊥
AreOf j (m ∷ ms) [] = ⊥
AreOf j (m ∷ ms) (p ∷ ps) = IsOf m p × (p.number ≡ j) × AreOf (j + 1) ms ps

pub record IsProgram (ms : List (List Rec)) (p : Program) : Type 0 where
  pub modules : AreOf 0 ms p.modules.items
  pub linked : p.linkage.links ≡ linkage ms

-- Marks of the segments of one module, and of all modules.
abbrev pub open_bit : Option Bool → Bool
open_bit None = false
open_bit (Some b) = not b

abbrev pub with_bit : List Bool → ℕ → Option Bool → List Bool
with_bit bs i None = bs
with_bit bs i (Some b) = slice_set bs i true

abbrev pub is_open_in : List Bool → ℕ → Bool
is_open_in bs i = open_bit (slice_get bs i)

abbrev pub marked_in : List Bool → ℕ → List Bool
marked_in bs i = with_bit bs i (slice_get bs i)

abbrev pub Marks : Type 0
Marks = List (List Bool)

abbrev pub open_of : ℕ → Option (List Bool) → Bool
open_of i None = false
open_of i (Some bs) = is_open_in bs i

abbrev pub with_marks : Marks → Node → Option (List Bool) → Marks
with_marks ms n None = ms
with_marks ms n (Some bs) = slice_set ms n.0 (marked_in bs n.1)

abbrev pub is_open : Marks → Node → Bool
is_open ms n = open_of n.1 (slice_get ms n.0)

abbrev pub with_mark : Marks → Node → Marks
with_mark ms n = with_marks ms n (slice_get ms n.0)

-- Whether a segment is marked; whether it has a mark.
abbrev pub is_set : Option Bool → Bool
is_set None = false
is_set (Some b) = b

abbrev pub set_of : ℕ → Option (List Bool) → Bool
set_of i None = false
set_of i (Some bs) = is_set (slice_get bs i)

abbrev pub is_marked : Marks → Node → Bool
is_marked ms n = set_of n.1 (slice_get ms n.0)

abbrev pub size_of : Option (List Bool) → ℕ
size_of None = 0
size_of (Some bs) = length bs

abbrev pub HasMark : Marks → Node → Type 0
HasMark ms n = n.1 < size_of (slice_get ms n.0)

-- The number of marks that are not set.
abbrev pub left_in : List Bool → ℕ
left_in [] = 0
left_in (true ∷ bs) = left_in bs
left_in (false ∷ bs) = suc (left_in bs)

abbrev pub left_open : Marks → ℕ
left_open [] = 0
left_open (bs ∷ ms) = left_in bs + left_open ms

-- The queue after a segment is reached.
abbrev pub queued : Marks → List Node → Node → List Node
queued marks queue n = if is_open marks n then queue ++ n ∷ [] else queue

-- A segment stays; or one at the end of such a chain refers to it.
abbrev pub EndsChain : LeftOut → List (List Rec) → ℕ → Node → Type 0
EndsChain o ms zero n = Contains (roots o ms) n × IsNode ms n
EndsChain o ms (suc k) n = (b : Node) × EndsChain o ms k b × Contains (next ms b) n × IsNode ms n

abbrev pub IsChained : LeftOut → List (List Rec) → Node → Type 0
IsChained o ms n = (k : ℕ) × EndsChain o ms k n

-- The segments with a mark that is set are in the queue; each is there for a chain.
pub record IsWalk (o : LeftOut) (ms : List (List Rec)) (marks : Marks) (queue : List Node) : Type 0 where
  pub sized : map (λ bs. length bs) marks ≡ map (λ m. length (segments m) + 1) ms
  pub slots : (n : Node) → HasMark marks n → IsNode ms n
  pub has_slots : (n : Node) → IsNode ms n → HasMark marks n
  pub found : (n : Node) → is_marked marks n ≡ true → Contains queue n
  pub marked : All (λ n. is_marked marks n ≡ true) queue
  pub chained : All (IsChained o ms) queue

-- A segment is there for a chain, if it is one of the program; it is marked, if it is one.
abbrev pub IsCalled : LeftOut → List (List Rec) → Node → Type 0
IsCalled o ms n = IsNode ms n → IsChained o ms n

abbrev pub IsTaken : List (List Rec) → Marks → Node → Type 0
IsTaken ms marks n = IsNode ms n → is_marked marks n ≡ true

-- A walk that went on: these segments are marked.
pub record IsGrown (o : LeftOut) (ms : List (List Rec)) (marks : Marks) (queue : List Node) (marks_after : Marks) (queue_after taken_nodes : List Node) : Type 0 where
  pub walk : IsWalk o ms marks_after queue_after
  pub kept : (n : Node) → is_marked marks n ≡ true → is_marked marks_after n ≡ true
  pub more : List Node
  pub longer : queue_after ≡ queue ++ more
  pub taken : All (IsTaken ms marks_after) taken_nodes

-- What a segment refers to was looked at.
abbrev pub IsLooked : List (List Rec) → Marks → Node → Type 0
IsLooked ms marks n = All (IsTaken ms marks) (next ms n)

-- A walk at its end.
pub record IsWalked (o : LeftOut) (ms : List (List Rec)) (marks : Marks) (queue : List Node) : Type 0 where
  pub walk : IsWalk o ms marks queue
  pub first : All (IsTaken ms marks) (roots o ms)
  pub looked : (n : Node) → Contains queue n → IsLooked ms marks n

-- The indices from 1 on whose marks are not set, where the first mark is of this index.
abbrev pub unmarked_from : ℕ → List Bool → List ℕ
unmarked_from i [] = []
unmarked_from i (true ∷ bs) = unmarked_from (i + 1) bs
unmarked_from i (false ∷ bs) = if nat_lt 0 i then i ∷ unmarked_from (i + 1) bs else unmarked_from (i + 1) bs

-- A segment of a module, if it stays.
abbrev pub root_if : LeftOut → List (List ℕ) → ℕ → ℕ × SegInfo → List Node
root_if o ns j s = if always_stays o ns s.1 then (j, s.0) ∷ [] else []

-- The segments of each module that are not reached.
pub record AreUnreached (o : LeftOut) (ms : List (List Rec)) (gone : List (List ℕ)) : Type 0 where
  pub found : List Node
  pub reached : AreReached o ms found
  pub lists : gone ≡ map (λ m. unreached found m.0 m.1) (enumerate_from 0 ms)
