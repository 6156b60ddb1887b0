-- The module that a linker puts before the modules of a program for an order of classes (this profile's rule). Segments are laid by class as these first appear.
use Rattle.std.specs.Prelude.{◌≡◌, ⊤, ℕ, ◌+◌, ◌*◌, ◌<◌, List, [], ◌∷◌, ◌++◌, codes, length, map, filter, filter_map, find, not, ◌&&◌, is_some, nat_lt, bytes_eq, Bool, Option, None, option_map, if◌then◌else◌}
use Rattle.omf_layout.specs.declared.alignment.Alignment.{Alignment}
use Rattle.omf_layout.specs.declared.several.portion.Combination.{Combination}
use Rattle.omf_layout.specs.declared.own.order.OrderFault.{OrderFault}
use Rattle.omf_layout.specs.declared.own.order.OrderFault.TheVariants as order_fault
use Rattle.omf_layout.specs.declared.several.portion.Portion.{Portion}
use Rattle.omf_layout.specs.Own.Order.{alignment_bits, combination_bits, has_name, is_block, module_at}
use Rattle.omf_layout.specs.Own.Ordered.{HasSegmentsOf}
use Rattle.omf_layout.specs.Own.Written.{end_record, header, name_record, raisings, segment_record}
use Rattle.omf_layout.specs.Several.Gathered.{distinct, names_in}
use Rattle.omf_layout.specs.Several.Order.{nameless_last}
use Rattle.omf_layout.specs.Several.Portions.{Classed, name_at, portions}
use Rattle.omf_records.specs.Values.{Rec}
use Rattle.omf_combining.specs.declared.classes.EmptySegment.{EmptySegment}

-- ---- The empty segments

-- A segment is of a class and not absolute.
abbrev pub begins : List ℕ → Classed Portion → Bool
begins class x = bytes_eq x.0 class && not (is_some x.1.1.segment.absolute)

-- The empty segment for the first such segment of modules: with the names of its class and its own, aligned and combined as it is.
abbrev pub bits_of : Alignment → Combination → ℕ
bits_of a c = alignment_bits a + combination_bits c

abbrev pub leader_of : List (List Rec) → List ℕ → Portion → EmptySegment
leader_of ms class p = record { class = class; name = name_at (module_at ms p.«module») p.segment.name; attribute = bits_of p.alignment p.combination; raised = is_block p.alignment }

-- That of a class; none if the modules have no such segment. A name has at most 255 bytes.
abbrev pub leader : List (List Rec) → List ℕ → Option EmptySegment
leader ms class = if nat_lt 255 (length class) then None else option_map (λ x. leader_of ms class x.1.1) (find (begins class) (portions ms))

-- Those of several classes.
abbrev pub leaders : List (List Rec) → List (List ℕ) → List EmptySegment
leaders ms classes = filter_map (leader ms) classes

-- ---- The records

-- The names and the segment of an empty segment, after others.
abbrev pub leader_records : ℕ → EmptySegment → List Rec
leader_records j s = name_record s.class ∷ name_record s.name ∷ segment_record s.attribute 0 (2 * j + 2) (2 * j + 1) ∷ []

abbrev pub leaders_records : ℕ → List EmptySegment → List Rec
leaders_records j [] = []
leaders_records j (s ∷ ss) = leader_records j s ++ leaders_records (j + 1) ss

-- The comments that raise empty segments, from the first on.
abbrev pub raise_records : List EmptySegment → List Rec
raise_records ss = raisings 1 (map (λ s. s.raised) ss)

-- The module that makes classes the first ones of modules.
abbrev pub class_order_records : List (List ℕ) → List (List Rec) → List Rec
class_order_records classes ms = header (codes "order") ∷ (leaders_records 0 (leaders ms classes) ++ (raise_records (leaders ms classes) ++ end_record ∷ []))

-- Why there is no such module: it has more than 16,383 segments. Memory may run out at any time.
abbrev pub IsClassOrderFault : List (List ℕ) → List (List Rec) → OrderFault → Type 0
IsClassOrderFault classes ms order_fault.Memory = ⊤
IsClassOrderFault classes ms order_fault.TooMany = 16383 < length (leaders ms classes)

-- ---- What it changes

-- The classes of modules, in the order in which they first appear: in this order they are laid (`runs` of omf_layout).
abbrev pub class_order : List (List Rec) → List (List ℕ)
class_order ms = distinct (names_in (nameless_last (portions ms)))

-- Of these classes those of which the modules have a segment that is not absolute, each once.
abbrev pub is_led : List (List Rec) → List ℕ → Bool
is_led ms class = is_some (leader ms class)

abbrev pub led : List (List ℕ) → List (List Rec) → List (List ℕ)
led classes ms = distinct (filter (is_led ms) classes)

-- With the module in front, these classes are the first ones, in the order in which they are named; the others follow in theirs.
abbrev pub ClassesComeFirst : Type 0
ClassesComeFirst = (classes : List (List ℕ)) (ms : List (List Rec)) (m : List Rec) → HasSegmentsOf (class_order_records classes ms) m
    → class_order (m ∷ ms) ≡ led classes ms ++ filter (λ c. not (has_name (led classes ms) c)) (class_order ms)
