-- The module that a linker adds to give the stack of a program its length (TIS OMF 1.1, "SEGDEF", combine type 5; Microsoft LINK's option STACK; this profile's rule).
use Rattle.std.specs.Prelude.{◌≡◌, ◌<◌, ◌^◌, ◌++◌, ℕ, ◌+◌, ◌-◌, ◌*◌, ◌/◌, ◌%◌, ◌==◌, ◌&&◌, List, [], ◌∷◌, codes, filter, flat_map, fold, max, min, not, is_some, Bool, Option, Some, None, option_and_then, unwrap_or, slice_get, if◌then◌else◌}
use Rattle.omf_check.specs.Tables.{attributes, entry}
use Rattle.omf_frame.specs.Bytes.{last}
use Rattle.omf_layout.specs.Own.Order.{module_at}
use Rattle.omf_layout.specs.Own.Stack.{stack_records}
use Rattle.omf_layout.specs.Own.Written.{end_record, header, name_record, segment_record, written}
use Rattle.omf_layout.specs.Room.{next_multiple}
use Rattle.omf_layout.specs.Several.Order.{runs}
use Rattle.omf_layout.specs.Several.Portions.{name_at}
use Rattle.omf_layout.specs.Wants.{bytes_aligned}
use Rattle.omf_layout.specs.declared.several.portion.Portion.{Portion}
use Rattle.omf_records.specs.Values.{Rec, combination}
use Rattle.omf_combining.specs.declared.stack.StackPart.{StackPart}

-- ---- The stack of modules

-- A segment is a part of the stack: it is not absolute, and its combine type is 5.
abbrev pub attribute_of : List (List Rec) → Portion → ℕ
attribute_of ms p = unwrap_or (option_and_then (λ m. entry (attributes m) p.index) (slice_get ms p.«module»)) 0

abbrev pub is_stack_part : List (List Rec) → Portion → Bool
is_stack_part ms p = not (is_some p.segment.absolute) && combination (attribute_of ms p) == 5

-- The parts of the stack in the order in which they are laid: by class and by name, as these first appear.
abbrev pub stack_parts : List (List Rec) → List Portion
stack_parts ms = flat_map (λ run. filter (is_stack_part ms) run) (runs ms)

-- The length of a stack: its parts follow one another, each at its alignment. More than 65,536 bytes count as 65,536.
abbrev pub with_part : ℕ → Portion → ℕ
with_part n p = min (next_multiple (bytes_aligned p.alignment) n + p.segment.length) 65536

abbrev pub stack_length : List Portion → ℕ
stack_length ps = fold with_part 0 ps

-- ---- The part that is added

-- A length, rounded up to an even one.
abbrev pub even : ℕ → ℕ
even n = (n + 1) / 2 * 2

-- The bytes that a stack of these parts lacks: it has as many as are asked for, or as its parts have if that is more, and one more if that is odd. SP is even
-- then, if the stack begins at an even offset (Microsoft LINK rounds the size of a stack up too).
abbrev pub missing : List Portion → ℕ → ℕ
missing ps size = even (max size (stack_length ps)) - stack_length ps

-- A part of n bytes after another one: with the names of its class and its own, byte-aligned (A = 1), of the combine type stack, 32-bit if the other is (P bit).
abbrev pub next_part : List (List Rec) → Portion → ℕ → StackPart
next_part ms p n = record {
  class = name_at (module_at ms p.«module») p.segment.class;
  name = name_at (module_at ms p.«module») p.segment.name;
  attribute = 0x34 + attribute_of ms p % 2;
  size = n;
}

abbrev pub part_records : StackPart → List Rec
part_records p = header (codes "stack") ∷ name_record p.class ∷ name_record p.name ∷ segment_record p.attribute p.size 2 1 ∷ end_record ∷ []

-- The records of a module of n bytes of stack: after the last part of the stack; without one a segment STACK of class STACK.
abbrev pub more_records : List (List Rec) → Option Portion → ℕ → List Rec
more_records ms (Some p) n = part_records (next_part ms p n)
more_records ms None n = stack_records n

-- The bytes of the module that makes the stack of modules one of `size` bytes or more, of an even number; none if the stack is so without.
abbrev pub stack_bytes : List (List Rec) → ℕ → Option (List ℕ)
stack_bytes ms size =
    let ps = stack_parts ms in
    if missing ps size == 0 then None else Some (written (more_records ms (last ps) (missing ps size)))

-- ---- What it changes

-- A part after others that is aligned to bytes and has what they lack.
pub record IsMissingPart (ps : List Portion) (size : ℕ) (p : Portion) : Type 0 where
  pub aligned : bytes_aligned p.alignment ≡ 1
  pub length : p.segment.length ≡ missing ps size

-- With it the stack is as long as is asked for, or as it is without if that is longer, and one byte longer if that is odd.
abbrev pub StackIsAsAsked : Type 0
StackIsAsAsked = (ps : List Portion) (size : ℕ) (p : Portion) → size < 2 ^ 16 → IsMissingPart ps size p → stack_length (ps ++ p ∷ []) ≡ even (max size (stack_length ps))
