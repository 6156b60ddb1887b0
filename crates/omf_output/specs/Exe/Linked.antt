-- The program of linked modules, and why modules have none (this profile's rule; the order of faults too).
use Rattle.std.specs.Prelude.{◌≡◌, ◌⊎◌, ℕ, ◌+◌, ◌-◌, ◌*◌, ◌/◌, ◌%◌, ◌^◌, List, [], ◌∷◌, ◌++◌, length, map, min, max, filter_map, Bool, false, nat_le, nat_lt, ◌&&◌, Option, Some, None, option_map, option_to_list, slice_get, Result, Ok, Err, if◌then◌else◌}
use Rattle.std.specs.Result.{result_err}
use Rattle.omf_frame.specs.Bytes.{last}
use Rattle.omf_frame.specs.declared.fault.Place.{Place}
use Rattle.omf_records.specs.Values.{Contents, ModEnd, Rec}
use Rattle.omf_check.specs.Listed.{placed_from}
use Rattle.omf_check.specs.Module.{recs_of, records_in}
use Rattle.omf_reloc.specs.Image.{start}
-- computed: threads_give_references and faults_are_walked of omf_reloc.
use Rattle.omf_reloc.specs.Inner.Pieces.{placed_pieces}
use Rattle.omf_reloc.specs.Plain.{Piece}
use Rattle.omf_reloc.specs.Reach.{reach_fault}
use Rattle.omf_output.specs.declared.exe.fault.ExeFault.{ExeFault}
use Rattle.omf_output.specs.declared.exe.fault.ExeFault.TheVariants as fault
use Rattle.omf_output.specs.declared.exe.file.FarAddress.{FarAddress}
use Rattle.omf_output.specs.declared.exe.room.Stack.{Stack}
use Rattle.omf_output.specs.Exe.Based.{has_its_movers}
use Rattle.omf_output.specs.Exe.Exe.{Program}
use Rattle.omf_output.specs.Exe.Loading.{Loaded}
use Rattle.omf_output.specs.Exe.Members.{Member, all_moving, member_at, memory_end, portions, stack}
use Rattle.omf_output.specs.Exe.Memory.{all_chunks, chunks_at, data_end, flat, program}
use Rattle.omf_output.specs.Exe.Movable.{first_unmoved}
use Rattle.omf_output.specs.Exe.Overlaps.{all_words}

-- The pieces of a module, each with its place.
abbrev pub placed : Member → List (Place × Piece)
placed m = placed_pieces (placed_from 0 0 (records_in m.bytes))

-- ---- the start

-- A main module is one whose MODEND has bit 7 of its type byte set (TIS OMF 1.1, "MODEND").
abbrev pub is_main_end : Contents → Bool
is_main_end (ModEnd byte start) = nat_le 128 byte
is_main_end _ = false

abbrev pub is_main : Option Rec → Bool
is_main None = false
is_main (Some r) = is_main_end r.contents

-- The start of a module that counts: that of a main one, if it names one.
abbrev pub main_start : Member → Option (ℕ × ℕ)
main_start m = if is_main (last (recs_of m.bytes)) then start m.places (recs_of m.bytes) else None

-- The modules with such a start, by their numbers.
abbrev pub numbered_start : Member → Option (ℕ × (ℕ × ℕ))
numbered_start m = option_map (λ s. (m.number, s)) (main_start m)

abbrev pub starts : List Member → List (ℕ × (ℕ × ℕ))
starts ms = filter_map numbered_start ms

-- The start of the program: that of the one module that has one. IP has 16 bits.
abbrev pub one_start : List (ℕ × (ℕ × ℕ)) → Result (ℕ × ℕ) ExeFault
one_start [] = Err fault.NoStart
one_start (s ∷ []) = if nat_lt s.1.1 65536 then Ok s.1 else Err (fault.FarStart s.0)
one_start (s ∷ t ∷ more) = Err (fault.Starts s.0 t.0)

-- ---- the stack

-- SS:SP: the selector of the stack's frame, and the stack's end in it, where 65,536 is 0. Without a stack it is 0:0.
abbrev pub in_registers : Option Stack → Result (ℕ × ℕ) ExeFault
in_registers None = Ok (0, 0)
in_registers (Some s) = if nat_le s.frame.base s.end && nat_le s.end (s.frame.base + 65536) then Ok (s.frame.selector, (s.end - s.frame.base) % 65536) else Err fault.FarStack

-- A far address as a selector and an offset.
abbrev pub far_pair : FarAddress → ℕ × ℕ
far_pair a = (a.selector, a.offset)

-- ---- faults

-- The fault of a module: its placement does not reach, or else its movers are not those of its records, or else a part of it does not move with the program.
abbrev pub or_else : Option ExeFault → Option ExeFault → Option ExeFault
or_else None o = o
or_else (Some f) o = Some f

abbrev pub movers_fault : Member → Option ExeFault
movers_fault m = if has_its_movers m then None else Some (fault.Movers m.number)

abbrev pub member_fault : Member → Option ExeFault
member_fault m =
    or_else (option_map (λ f. fault.Reach m.number f) (reach_fault m.places (recs_of m.bytes)))
    (or_else (movers_fault m) (option_map (λ p. fault.Stays m.number p) (first_unmoved m.movers (placed m))))

-- The image ends by 2^20, and so do the segments.
abbrev pub high_faults : List Member → List ExeFault
high_faults ms = if nat_lt (2 ^ 20) (max (data_end (all_chunks (all_moving ms))) (memory_end (portions ms))) then fault.TooHigh ∷ [] else []

-- The faults that are found without memory, in their order: those of the modules; that of the start; that of the end; that of the stack.
abbrev pub later_faults : List Member → List ExeFault
later_faults ms = option_to_list (result_err (one_start (starts ms))) ++ (high_faults ms ++ option_to_list (result_err (in_registers (stack (portions ms)))))

abbrev pub plain_faults : List Member → List ExeFault
plain_faults ms = filter_map member_fault ms ++ later_faults ms

-- The relocation words of modules, after words of others; or the first part that overlaps a word.
abbrev pub in_module : ℕ → (List ℕ → Result (List ℕ) ExeFault) → Result (List ℕ) Place → Result (List ℕ) ExeFault
in_module number f (Ok ws) = f ws
in_module number f (Err place) = Err (fault.Overlap number place)

abbrev pub words_from : List Member → List ℕ → Result (List ℕ) ExeFault
words_from [] ws = Ok ws
words_from (m ∷ ms) ws = in_module m.number (words_from ms) (all_words m.movers m.places None (placed m) ws)

-- A fault of adding words: the overlap; or Memory.
abbrev pub IsOverlap : Result (List ℕ) ExeFault → ExeFault → Type 0
IsOverlap r f = (r ≡ Err f) ⊎ (f ≡ fault.Memory)

abbrev pub few_words : Result (List ℕ) ExeFault → List ExeFault
few_words (Err f) = f ∷ []
few_words (Ok ws) = if nat_lt 65535 (length ws) then fault.TooMany ∷ [] else []

-- The first fault; or Memory, only if there is none that is found without memory.
abbrev pub exe_fault : List Member → Option ExeFault
exe_fault ms = slice_get (plain_faults ms ++ few_words (words_from ms [])) 0

abbrev pub IsExeFault : List Member → ExeFault → Type 0
IsExeFault ms f = (exe_fault ms ≡ Some f) ⊎ ((f ≡ fault.Memory) × (plain_faults ms ≡ []))

-- ---- the program

abbrev pub ok_or : {A : Type 0} → A → Result A ExeFault → A
ok_or a (Ok b) = b
ok_or a (Err f) = a

-- CS:IP and SS:SP.
abbrev pub code : List Member → ℕ × ℕ
code ms = ok_or (0, 0) (one_start (starts ms))

abbrev pub stack_pointer : List Member → ℕ × ℕ
stack_pointer ms = ok_or (0, 0) (in_registers (stack (portions ms)))

-- The paragraphs after an image of n bytes up to the end of the segments; the field has 16 bits.
abbrev pub extra : ℕ → ℕ → ℕ
extra n end = min 65535 ((end - n + 15) / 16)

abbrev pub linked : List Member → Program
linked ms =
    let n = data_end (all_chunks (all_moving ms)) in
    program n (all_moving ms) (code ms) (stack_pointer ms) (extra n (memory_end (portions ms)))

-- What the modules are at their placements moved by k paragraphs: their bytes there, their start there, and the end of their stack there. Registers have
-- 16 bits. Without a stack SS is the paragraph.
abbrev pub in_16_bits : ℕ × ℕ → ℕ × ℕ
in_16_bits s = (s.0 % 65536, s.1)

abbrev pub stack_at : ℕ → List Member → Option Stack → ℕ × ℕ
stack_at k ms None = (k % 65536, 0)
stack_at k ms (Some s) = in_16_bits (stack_pointer (map (member_at k) ms))

abbrev pub linked_at : ℕ → List Member → Loaded
linked_at k ms = record {
  address = 16 * k;
  image = flat (16 * k) (data_end (all_chunks (all_moving ms))) (chunks_at k (all_moving ms));
  code = in_16_bits (code (map (member_at k) ms));
  stack = stack_at k ms (stack (portions ms));
}
