-- What the module for DOS order changes: the order in which segments are laid, and nothing else.
use Rattle.std.specs.Prelude.{◌≡◌, ℕ, ◌+◌, ◌<◌, ◌≤◌, ◌==◌, ◌&&◌, List, [], ◌∷◌, map, flat_map, Bool, true, false, not, Some, None, is_some, bytes_eq, codes, slice_get}
use Rattle.std.specs.List.{filter}
use Rattle.std.specs.Option.{option_map_or}
use Rattle.omf_records.specs.Values.{Rec}
use Rattle.omf_check.specs.Tables.{attributes, data_in, names, segments}
use Rattle.omf_check.specs.declared.segment.SegInfo.{SegInfo}
use Rattle.omf_layout.specs.Layout.{Laid}
use Rattle.omf_layout.specs.Room.{limit}
use Rattle.omf_layout.specs.Wants.{raised}
use Rattle.omf_layout.specs.declared.options.Options.{Options}
use Rattle.omf_layout.specs.declared.several.portion.Portion.{Portion}
use Rattle.omf_layout.specs.declared.own.slots.DosPart.{DosPart}
use Rattle.omf_layout.specs.declared.own.slots.DosPart.TheVariants as part
use Rattle.omf_layout.specs.Several.Laying.{Lying, arranged, runs_laid}
use Rattle.omf_layout.specs.Several.Order.{runs}
use Rattle.omf_layout.specs.Several.Portions.{Classed, name_at, portions}
use Rattle.omf_layout.specs.Own.Order.{dgroup_classes, first_of, has_name, is_same_part, module_at, order_records, part_of, slot}

-- Records with the names and the segments of others, and with their raised segments: those by which segments are laid.
pub record HasSegmentsOf (rs m : List Rec) : Type 0 where
  pub names : names m ≡ names rs
  pub segments : segments m ≡ segments rs
  pub attributes : attributes m ≡ attributes rs
  pub raised : raised m ≡ raised rs

-- A segment of a module, once one module more is in front.
abbrev pub in_next_module : Portion → Portion
in_next_module p = record { «module» = p.«module» + 1; index = p.index; segment = p.segment; alignment = p.alignment; combination = p.combination }

-- The segments of a run that are not of the first module.
abbrev pub without_first : List Portion → List Portion
without_first run = filter (λ p. not (p.«module» == 0)) run

-- A run has a segment that is not absolute; the first of them is of a class in this part.
abbrev pub is_laid : List Portion → Bool
is_laid run = is_some (first_of run)

abbrev pub is_run_in : List (List Rec) → DosPart → List Portion → Bool
is_run_in ms part run = option_map_or (λ p. is_same_part part (slot ms p).part) (first_of run) false

-- The runs of modules part by part, in each in the order of the modules' classes and names.
abbrev pub dos_parts : List DosPart
dos_parts = part.Code ∷ part.Outside ∷ part.Begin ∷ part.Data ∷ part.Bss ∷ part.Stack ∷ []

abbrev pub dos_runs : List (List Rec) → List (List Portion)
dos_runs ms = flat_map (λ part. filter (is_run_in ms part) (runs ms)) dos_parts

-- With the module for DOS order in front, the runs of modules that have a segment that is not absolute are in that order. No segment leaves its run or its place in it.
abbrev pub IsDosOrder : Type 0
IsDosOrder = (ms : List (List Rec)) (m : List Rec) → HasSegmentsOf (order_records ms) m
    → filter is_laid (map without_first (runs (m ∷ ms))) ≡ map (map in_next_module) (dos_runs ms)

-- The module has no data, and its segments have no bytes.
abbrev pub IsEmptyOrder : Type 0
IsEmptyOrder = (ms : List (List Rec)) → (flat_map (λ r. data_in r.contents) (order_records ms) ≡ [])
    × ((i : ℕ) (s : SegInfo) → slice_get (segments (order_records ms)) i ≡ Some s → (s.length ≡ 0) × (s.absolute ≡ None))

-- A segment has the class and the name of one of its two segments at the ends of data and BSS; modules have none of these.
abbrev pub ends : List (List ℕ)
ends = codes "END OF DATA" ∷ codes "END OF BSS" ∷ []

abbrev pub is_end : Classed Portion → Bool
is_end x = has_name ends x.0 && bytes_eq x.0 x.1.0

abbrev pub HaveNoEnds : List (List Rec) → Type 0
HaveNoEnds ms = filter is_end (portions ms) ≡ []

-- A laid segment is not absolute, and not of the first module.
abbrev pub is_moved : Lying → Bool
is_moved x = not (x.0.«module» == 0) && not (is_some x.0.segment.absolute)

-- Laid segments have the places that they have if their runs alone are laid in DOS order, without that module. So has the first free address.
pub record LieAsAlone (o : Options) (ms : List (List Rec)) (l : Laid (List Lying)) : Type 0 where
  pub alone : Laid (List Lying)
  pub laid : runs_laid o.frames o.base (map (map in_next_module) (dos_runs ms)) ≡ Some alone
  pub places : filter is_moved l.what ≡ filter is_moved alone.what
  pub free : l.free ≡ alone.free

-- With the module for DOS order in front, segments lie so: the module changes their order, and no address but by the order.
abbrev pub IsOrderAlone : Type 0
IsOrderAlone = (o : Options) (ms : List (List Rec)) (m : List Rec) (l : Laid (List Lying)) → HasSegmentsOf (order_records ms) m → HaveNoEnds ms
    → arranged o (m ∷ ms) ≡ Some l → LieAsAlone o ms l

-- The part of a segment that is laid with one module more in front, by its class.
abbrev pub part_in : List (List Rec) → List Rec → Portion → DosPart
part_in ms m p = part_of (dgroup_classes ms) (name_at (module_at (m ∷ ms) p.«module») p.segment.class)

-- The number of a part.
abbrev pub rank : DosPart → ℕ
rank part.Code = 0
rank part.Outside = 1
rank part.Begin = 2
rank part.Data = 3
rank part.Bss = 4
rank part.Stack = 5

-- Of two such segments of different parts, the one in the earlier part ends before the other begins.
abbrev pub ArePartsApart : Type 0
ArePartsApart = (o : Options) (ms : List (List Rec)) (m : List Rec) (l : Laid (List Lying)) → HasSegmentsOf (order_records ms) m → arranged o (m ∷ ms) ≡ Some l
    → (i j : ℕ) (x y : Lying) → slice_get l.what i ≡ Some x → slice_get l.what j ≡ Some y → is_moved x ≡ true → is_moved y ≡ true
    → rank (part_in ms m x.0) < rank (part_in ms m y.0) → x.1.address + x.0.segment.length ≤ y.1.address

-- If those runs alone fit, with an address left below the limit for its two segments at the ends, then all fit with the module in front.
abbrev pub IsOrderFitting : Type 0
IsOrderFitting = (o : Options) (ms : List (List Rec)) (m : List Rec) (a : Laid (List Lying)) → HasSegmentsOf (order_records ms) m → HaveNoEnds ms
    → runs_laid o.frames o.base (map (map in_next_module) (dos_runs ms)) ≡ Some a → a.free < limit o.frames → is_some (arranged o (m ∷ ms)) ≡ true
