-- The names of a module, and its COMDATs by their names.
use Rattle.std.specs.Prelude.{◌≡◌, ℕ, ◌+◌, ◌==◌, ◌&&◌, nat_lt, bytes_eq, if◌then◌else◌, List, []}
use Rattle.std.specs.Borrow.{Bor}
use Rattle.std.specs.BTreeMap.{BTreeMap, get_by}
use Rattle.omf_names.specs.Names.{name_cmp}
use Rattle.omf_lowering.specs.Comdats.{class_of, index_of, instance_of}
use Rattle.omf_lowering.specs.Values.{Instance}

-- A table has the last of these COMDATs for each name.
pub record AreNamed (table : BTreeMap (Bor (List ℕ)) Instance) (instances : List Instance) : Type 0 where
  pub each : (name : List ℕ) → get_by (λ k. name_cmp name k.now) table ≡ instance_of instances name

-- The indices of the first names with three texts; 0 if there is none that an index can have.
pub record AreFirst (code far_data empty : ℕ) (names : List (List ℕ)) : Type 0 where
  pub code_is : code ≡ index_of 0 (class_of 1) names
  pub far_data_is : far_data ≡ index_of 0 (class_of 0) names
  pub empty_is : empty ≡ index_of 0 [] names

-- Such an index after one more name, which has this number from 0.
abbrev pub first_after : ℕ → ℕ → List ℕ → List ℕ → ℕ
first_after first number name text = if (first == 0) && (nat_lt number 32767 && bytes_eq name text) then number + 1 else first

abbrev pub or_other : ℕ → ℕ → ℕ
or_other first other = if first == 0 then other else first
