-- What has bytes: a data record without any lays none (this profile's rule).
use Rattle.std.specs.Prelude.{ℕ, List, [], ◌∷◌, length, Bool, true, false, nat_lt}

abbrev pub has_any : List ℕ → Bool
has_any bytes = nat_lt 0 (length bytes)

-- A value if a test holds, and none otherwise.
abbrev pub only_if : {A : Type 0} → Bool → A → List A
only_if true a = a ∷ []
only_if false a = []
