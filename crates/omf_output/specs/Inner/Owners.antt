-- The groups of segments, kept in a list by the index of the segment.
use Rattle.std.specs.Prelude.{◌≡◌, ℕ, ◌-◌, ◌≤◌, ◌==◌, List, [], ◌++◌, Option, find, get_or, length, option_map, unwrap_or, if◌then◌else◌}
use Rattle.omf_check.specs.Tables.{segments}
use Rattle.omf_records.specs.Values.{Contents, Group, Rec}
use Rattle.omf_output.specs.Near.{members_of, memberships}

-- The group of the first pair for segment k, or 0.
abbrev pub paired : ℕ → List (ℕ × ℕ) → ℕ
paired k pairs = unwrap_or (option_map (λ x. x.1) (find (λ x. x.0 == k) pairs)) 0

-- What a table has for segment k; where it has 0, the group of the first pair for it.
abbrev pub owner : List ℕ → List (ℕ × ℕ) → ℕ → ℕ
owner table pairs k = if get_or table (k - 1) 0 == 0 then paired k pairs else get_or table (k - 1) 0

-- A table has taken these pairs: whatever pairs come later.
pub record HasTaken (old new : List ℕ) (pairs : List (ℕ × ℕ)) : Type 0 where
  pub size : length new ≡ length old
  pub owners : (k : ℕ) (rest : List (ℕ × ℕ)) → 1 ≤ k → k ≤ length old → owner new rest k ≡ owner old (pairs ++ rest) k

-- A table has the group of each segment, once it has taken the pairs that are left.
pub record IsTable (m : List Rec) (left : List (ℕ × ℕ)) (table : List ℕ) : Type 0 where
  pub size : length table ≡ length (segments m)
  pub owners : (k : ℕ) → 1 ≤ k → k ≤ length table → owner table left k ≡ paired k (memberships m)

-- The members of a record, if it is a GRPDEF, with the index of its group.
abbrev pub group_pairs : ℕ → Contents → List (ℕ × ℕ)
group_pairs i (Group g) = members_of (i, g)
group_pairs i _ = []
