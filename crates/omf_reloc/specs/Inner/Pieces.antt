-- The pieces of a module in order, one fixup at a time and each at its place, as an iterator gives them that keeps the threads in force.
use Rattle.std.specs.Prelude.{ℕ, List, [], ◌∷◌, ◌++◌, map, flat_map, filter_map, Option, Some, None, option_map, IsSome, ⊤}
use Rattle.omf_frame.specs.declared.fault.Place.{Place}
use Rattle.omf_records.specs.Values.{At, Rec, Contents, Fixups, ModEnd, Subrecord, Thread, Fixup, Reference}
use Rattle.omf_check.specs.Inner.Judging.{frame_cell, target_cell}
use Rattle.omf_check.specs.Inner.Kept.{no_threads, set_thread, set_threads, threads_after}
use Rattle.omf_check.specs.declared.threads.Threads.{Threads}
use Rattle.omf_reloc.specs.Plain.{Piece, Kept, Fixed, End, pieces}
use Rattle.omf_reloc.specs.Inner.Walking.{plain_by, plain_fixup_by}

-- The pieces of a module, each fixup a piece of its own.
abbrev pub one_by_one : Piece → List Piece
one_by_one (Kept r) = Kept r ∷ []
one_by_one (Fixed kind fixups) = map (λ f. Fixed kind (f ∷ [])) fixups
one_by_one (End kind byte start) = End kind byte start ∷ []

abbrev pub single_pieces : List Rec → List Piece
single_pieces m = flat_map one_by_one (pieces m)

-- The places of a piece's references: the number of the record, and the offset in it.
abbrev pub references_at : Place → Piece → List (ℕ × ℕ)
references_at at (Kept r) = []
references_at at (Fixed kind fixups) = map (λ f. (at.number, at.within)) fixups
references_at at (End kind byte None) = []
references_at at (End kind byte (Some r)) = (at.number, at.within) ∷ []

abbrev pub reference_places : List (Place × Piece) → List (ℕ × ℕ)
reference_places ps = flat_map (λ p. references_at p.0 p.1) ps

-- The step of each subrecord, by the threads in force there: a fixup, at its first byte; nothing for a THREAD.
abbrev pub subrecord_step : Threads → Place → ℕ → ℕ → Subrecord → Option (Place × Piece)
subrecord_step threads at kind within (Thread byte datum) = None
subrecord_step threads at kind within (Fixup locat r) = Some (record at { within = within }, Fixed kind (plain_fixup_by threads locat r ∷ []))

abbrev pub subrecord_steps : Threads → Place → ℕ → List (At Subrecord) → List (Option (Place × Piece))
subrecord_steps threads at kind [] = []
subrecord_steps threads at kind (s ∷ subs) = subrecord_step threads at kind s.within s.item ∷ subrecord_steps (set_thread threads s.item) at kind subs

-- The place of a MODEND: its type byte, or the fix data byte of its start.
abbrev pub end_at : Place → Option Reference → Place
end_at at None = at
end_at at (Some r) = record at { within = r.fix.within }

-- The steps of each record. A FIXUPP gives only the steps of its subrecords.
abbrev pub contents_steps : Threads → Place → ℕ → Contents → List (Option (Place × Piece))
contents_steps threads at kind (Fixups subs) = None ∷ subrecord_steps threads at kind subs
contents_steps threads at kind (ModEnd byte start) = Some (end_at at start, End kind byte (option_map (plain_by threads) start)) ∷ []
contents_steps threads at kind c = Some (at, Kept (record { kind = kind; contents = c })) ∷ []

abbrev pub steps_from : Threads → List (Place × Rec) → List (Option (Place × Piece))
steps_from threads [] = []
steps_from threads (x ∷ xs) = contents_steps threads x.0 x.1.kind x.1.contents ++ steps_from (threads_after threads x.1.contents) xs

-- A FIXUPP with subrecords left to read.
pub record OpenFixups : Type 0 where
  pub place : Place
  pub kind : ℕ
  pub left : List (At Subrecord)

abbrev pub open_steps : Threads → Option OpenFixups → List (Option (Place × Piece))
open_steps threads None = []
open_steps threads (Some o) = subrecord_steps threads o.place o.kind o.left

abbrev pub threads_after_open : Threads → Option OpenFixups → Threads
threads_after_open threads None = threads
threads_after_open threads (Some o) = set_threads threads o.left

-- The steps left: those of the FIXUPP being read, then those of the records after it. And the pieces among the steps.
abbrev pub steps_left : Threads → Option OpenFixups → List (Place × Rec) → List (Option (Place × Piece))
steps_left threads o xs = open_steps threads o ++ steps_from (threads_after_open threads o) xs

abbrev pub given : List (Option (Place × Piece)) → List (Place × Piece)
given steps = filter_map (λ s. s) steps

abbrev pub placed_pieces : List (Place × Rec) → List (Place × Piece)
placed_pieces xs = given (steps_from no_threads xs)

-- Each thread that a reference names is set at that point.
pub record IsSet (threads : Threads) (r : Reference) : Type 0 where
  pub frame : IsSome (frame_cell threads r)
  pub target : IsSome (target_cell threads r)

abbrev pub SubrecordIsSet : Threads → Subrecord → Type 0
SubrecordIsSet threads (Thread byte datum) = ⊤
SubrecordIsSet threads (Fixup locat r) = IsSet threads r

abbrev pub SubrecordsAreSet : Threads → List (At Subrecord) → Type 0
SubrecordsAreSet threads [] = ⊤
SubrecordsAreSet threads (s ∷ subs) = SubrecordIsSet threads s.item × SubrecordsAreSet (set_thread threads s.item) subs

abbrev pub ContentsAreSet : Threads → Contents → Type 0
ContentsAreSet threads (Fixups subs) = SubrecordsAreSet threads subs
ContentsAreSet threads (ModEnd byte (Some r)) = IsSet threads r
ContentsAreSet threads _ = ⊤

abbrev pub RecordsAreSet : Threads → List (Place × Rec) → Type 0
RecordsAreSet threads [] = ⊤
RecordsAreSet threads (x ∷ xs) = ContentsAreSet threads x.1.contents × RecordsAreSet (threads_after threads x.1.contents) xs

abbrev pub OpenIsSet : Threads → Option OpenFixups → Type 0
OpenIsSet threads None = ⊤
OpenIsSet threads (Some o) = SubrecordsAreSet threads o.left

pub record AreSet (threads : Threads) (o : Option OpenFixups) (xs : List (Place × Rec)) : Type 0 where
  pub open_fixups : OpenIsSet threads o
  pub records : RecordsAreSet (threads_after_open threads o) xs
