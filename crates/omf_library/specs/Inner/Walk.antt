-- The walk from module to member: whether each member has joined, and the queue of those that have, by their numbers.
use Rattle.std.specs.Prelude.{◌≡◌, ℕ, suc, ◌+◌, ◌<◌, List, [], ◌∷◌, ◌++◌, length, slice_get, slice_index_or, Bool, true, false, Some, if◌then◌else◌, All, Contains}
use Rattle.omf_library.specs.Needed.{Offer, Linkage, member_of, IsChained}

-- Whether a member has joined.
abbrev pub has_joined : List Bool → ℕ → Bool
has_joined joined n = slice_index_or joined n false

-- The number of members that have not joined.
abbrev pub left_out : List Bool → ℕ
left_out [] = 0
left_out (true ∷ bs) = left_out bs
left_out (false ∷ bs) = suc (left_out bs)

-- The queue after one more member joins.
abbrev pub queued : List Bool → List ℕ → ℕ → List ℕ
queued joined queue n = if has_joined joined n then queue else queue ++ n ∷ []

-- The members that have joined are in the queue; each there is there for a chain.
pub record IsWalk (o : Offer) (joined : List Bool) (queue : List ℕ) : Type 0 where
  pub sized : length joined ≡ length o.members
  pub found : (n : ℕ) → has_joined joined n ≡ true → Contains queue n
  pub inside : All (λ n. n < length o.members) queue
  pub chained : All (IsChained o) queue
  pub few : length queue + left_out joined ≡ length o.members

-- The member of a name is there for a chain.
abbrev pub IsCalled : Offer → List ℕ → Type 0
IsCalled o name = (n : ℕ) → member_of o name ≡ Some n → IsChained o n

-- The member of a name has joined; and those of all externals of a module.
abbrev pub IsTaken : Offer → List Bool → List ℕ → Type 0
IsTaken o joined name = (n : ℕ) → member_of o name ≡ Some n → has_joined joined n ≡ true

abbrev pub AreTaken : Offer → List Bool → Linkage → Type 0
AreTaken o joined m = All (IsTaken o joined) m.externals

-- A walk that went on: the members of these names have joined.
pub record IsGrown (o : Offer) (joined : List Bool) (queue : List ℕ) (joined_after : List Bool) (queue_after : List ℕ) (names : List (List ℕ)) : Type 0 where
  pub walk : IsWalk o joined_after queue_after
  pub kept : (n : ℕ) → has_joined joined n ≡ true → has_joined joined_after n ≡ true
  pub more : List ℕ
  pub longer : queue_after ≡ queue ++ more
  pub taken : All (IsTaken o joined_after) names

-- A member's externals were looked at.
abbrev pub IsLooked : Offer → List Bool → ℕ → Type 0
IsLooked o joined n = (m : Linkage) → slice_get o.members n ≡ Some m → AreTaken o joined m

-- A walk at its end: the members have joined that the given modules and the joined members need.
pub record IsWalked (o : Offer) (joined : List Bool) (queue : List ℕ) : Type 0 where
  pub walk : IsWalk o joined queue
  pub given : All (AreTaken o joined) o.given
  pub members : (n : ℕ) → has_joined joined n ≡ true → IsLooked o joined n

-- The numbers of the members that have joined; the first of all has the number `first`.
abbrev pub numbers_from : ℕ → List Bool → List ℕ
numbers_from first [] = []
numbers_from first (true ∷ bs) = first ∷ numbers_from (first + 1) bs
numbers_from first (false ∷ bs) = numbers_from (first + 1) bs
