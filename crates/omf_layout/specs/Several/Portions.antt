-- The segments of several modules, and how each combines with others of its class and name (TIS OMF 1.1, "SEGDEF").
use Rattle.std.specs.Prelude.{ℕ, List, [], map, flat_map, unwrap_or, ◌==◌, if◌then◌else◌}
use Rattle.std.specs.List.{enumerate_from, zip}
use denote.Ref.{Bor}
use Rattle.omf_records.specs.Values.{Rec, combination}
use Rattle.omf_check.specs.Tables.{attributes, names, segments, entry}
use Rattle.omf_check.specs.declared.segment.SegInfo.{SegInfo}
use Rattle.omf_layout.specs.Wants.{alignment_in}
use Rattle.omf_layout.specs.declared.several.portion.Combination.{Combination}
use Rattle.omf_layout.specs.declared.several.portion.Combination.TheVariants.{Joined, Common, Alone}
use Rattle.omf_layout.specs.declared.several.portion.Portion.{Portion}

-- How a C field combines: 2, 4 and 7 public and 5 stack, which are joined; 6 common; 0 private and the reserved 1 and 3, which are alone.
abbrev pub combined : ℕ → Combination
combined c = if c == 2 then Joined else (if c == 4 then Joined else (if c == 5 then Joined else (if c == 6 then Common else (if c == 7 then Joined else Alone))))

abbrev pub combination_named : ℕ → Combination
combination_named attribute = combined (combination attribute)

-- The name of an index; the empty name for index 0.
abbrev pub name_at : List Rec → ℕ → List ℕ
name_at m i = unwrap_or (entry (names m) i) []

-- A segment of a module, by the module's number from 0 and the segment's index from 1.
abbrev pub portion : List Rec → ℕ → ℕ → SegInfo → ℕ → Portion
portion m j i s attribute = record { «module» = j; index = i; segment = s; alignment = alignment_in m i attribute; combination = combination_named attribute }

-- A value with a name, and a value with a class and a name.
abbrev pub Named : Type 0 → Type 0
Named A = List ℕ × A

abbrev pub Classed : Type 0 → Type 0
Classed A = Named (Named A)

abbrev pub classed : List Rec → ℕ → ℕ × (SegInfo × ℕ) → Classed Portion
classed m j x = (name_at m x.1.0.class, (name_at m x.1.0.name, portion m j x.0 x.1.0 x.1.1))

-- The segments of a module in order, and those of all modules, module by module.
abbrev pub portions_in : ℕ × List Rec → List (Classed Portion)
portions_in m = map (classed m.1 m.0) (enumerate_from 1 (zip (segments m.1) (attributes m.1)))

abbrev pub portions : List (List Rec) → List (Classed Portion)
portions ms = flat_map portions_in (enumerate_from 0 ms)

-- A portion with its names, as the code has them.
abbrev pub with_names : Bor (List ℕ) × (Bor (List ℕ) × Portion) → Classed Portion
with_names x = (x.0.now, (x.1.0.now, x.1.1))
