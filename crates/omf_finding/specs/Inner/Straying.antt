-- How references that go elsewhere are computed. Only private functions use these definitions.
use Rattle.std.specs.Prelude.{◌≡◌, ◌==◌, ℕ, List, Bool, Contains}
use Rattle.std.specs.List.{list_any}
use Rattle.omf_finding.specs.declared.straying.Stray.{Stray}

abbrev pub is_among : List ℕ → ℕ → Bool
is_among targets place = list_any (λ target. target == place) targets

-- One of these places is among the targets.
abbrev pub any_among : List ℕ → List ℕ → Bool
any_among wanted targets = list_any (is_among targets) wanted

-- A reference at this offset to this external. It should go to one of the places that are wanted, and goes to one of the targets; no target is wanted.
pub record IsElsewhere (offset external : ℕ) (wanted targets : List ℕ) (s : Stray) : Type 0 where
  pub offset_is : s.offset ≡ offset
  pub external_is : s.external ≡ external
  pub wanted_is : Contains wanted s.wanted
  pub there_is : Contains targets s.there
  pub apart : (place : ℕ) → Contains wanted place → Contains targets place → ⊥
