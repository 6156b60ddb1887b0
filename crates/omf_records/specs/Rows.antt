-- Worked examples of contents: their values or their first faults, worked out by hand. Each is the contract of a function.
use Rattle.std.specs.Prelude.{◌≡◌, ℕ, List, [], ◌∷◌, Option, Some, None, Ok, Err}
use Rattle.omf_frame.specs.declared.fault.Reason.{Reason}
use Rattle.omf_frame.specs.declared.fault.Reason.TheVariants as reason
use Rattle.omf_records.specs.Values.{At, Reference, Contents, Near, Far, Thread, Fixup, Header, Comment, Names, Segment, Group, Externs, Publics, Communals, Plain, Iterated, Fixups, ModEnd, Carried}
use Rattle.omf_records.specs.Layout.{fault}
use Rattle.omf_records.specs.Shortest.{contents_bytes}
use Rattle.omf_records.specs.Inner.Reading.{read_body}

abbrev pub Gives : ℕ → List ℕ → Contents → Type 0
Gives kind body c = read_body kind body ≡ Ok c

abbrev pub Refused : ℕ → List ℕ → ℕ → Reason → Type 0
Refused kind body at r = read_body kind body ≡ Err (fault at r)

-- the contents read from the first bytes are written as the second
abbrev pub Shortens : ℕ → List ℕ → Contents → List ℕ → Type 0
Shortens kind body c short = Gives kind body c × (contents_bytes kind c ≡ short)

abbrev pub put_at : {A : Type 0} → ℕ → A → At A
put_at at x = record { within = at; item = x }

abbrev pub refers : At ℕ → Option (At ℕ) → Option (At ℕ) → Option ℕ → Reference
refers fix frame target displacement = record { fix = fix; frame = frame; target = target; displacement = displacement }

-- A small module: header, names, segment, data, fixup, end.
pub record SmallModule : Type 0 where
  pub header : Gives 0x80 (0x01 ∷ 0x41 ∷ []) (Header (0x41 ∷ []))
  pub names : Gives 0x96 (0x01 ∷ 0x54 ∷ []) (Names (put_at 3 (0x54 ∷ []) ∷ []))
  pub segment : Gives 0x98 (0x28 ∷ 0x04 ∷ 0x00 ∷ 0x02 ∷ 0x01 ∷ 0x01 ∷ [])
      (Segment (record { attribute = 0x28; absolute = None; size = 4; name = put_at 6 2; class = put_at 7 1; overlay = 1 }))
  pub data_record : Gives 0xA0 (0x01 ∷ 0x00 ∷ 0x00 ∷ 0xB8 ∷ 0x00 ∷ 0x00 ∷ 0x90 ∷ [])
      (Plain (record { segment = put_at 3 1; offset = put_at 4 0; bytes = 0xB8 ∷ 0 ∷ 0 ∷ 0x90 ∷ [] }))
  pub fixup : Gives 0x9C (0xC4 ∷ 0x01 ∷ 0x04 ∷ 0x01 ∷ 0x01 ∷ []) (Fixups (put_at 3 (Fixup 0xC401 (refers (put_at 5 4) (Some (put_at 6 1)) (Some (put_at 7 1)) None)) ∷ []))
  pub last_record : Gives 0x8A (0x00 ∷ []) (ModEnd 0 None)

-- All other records.
pub record OtherRecords : Type 0 where
  pub library_header : Gives 0x82 (0x00 ∷ []) (Header [])
  pub comment : Gives 0x88 (0x00 ∷ 0xAA ∷ []) (Comment 0 0xAA [])
  pub comment_text : Gives 0x88 (0x80 ∷ 0xE9 ∷ 0x41 ∷ 0x42 ∷ []) (Comment 0x80 0xE9 (0x41 ∷ 0x42 ∷ []))
  pub two_names : Gives 0x96 (0x01 ∷ 0x54 ∷ 0x04 ∷ 0x46 ∷ 0x4C ∷ 0x41 ∷ 0x54 ∷ []) (Names (put_at 3 (0x54 ∷ []) ∷ put_at 5 (0x46 ∷ 0x4C ∷ 0x41 ∷ 0x54 ∷ []) ∷ []))
  pub absolute : Gives 0x98 (0x08 ∷ 0x00 ∷ 0xB8 ∷ 0x00 ∷ 0x04 ∷ 0x00 ∷ 0x02 ∷ 0x01 ∷ 0x01 ∷ [])
      (Segment (record { attribute = 0x08; absolute = Some (0xB800, 0); size = 4; name = put_at 9 2; class = put_at 10 1; overlay = 1 }))
  pub wide_segment : Gives 0x99 (0xA9 ∷ 0x0A ∷ 0x00 ∷ 0x00 ∷ 0x00 ∷ 0x02 ∷ 0x01 ∷ 0x01 ∷ [])
      (Segment (record { attribute = 0xA9; absolute = None; size = 10; name = put_at 8 2; class = put_at 9 1; overlay = 1 }))
  pub big : Gives 0x98 (0x2A ∷ 0x00 ∷ 0x00 ∷ 0x02 ∷ 0x01 ∷ 0x01 ∷ [])
      (Segment (record { attribute = 0x2A; absolute = None; size = 0; name = put_at 6 2; class = put_at 7 1; overlay = 1 }))
  pub group : Gives 0x9A (0x02 ∷ 0xFF ∷ 0x01 ∷ []) (Group (record { name = put_at 3 2; members = put_at 4 (put_at 5 1) ∷ [] }))
  pub empty_group : Gives 0x9A (0x03 ∷ []) (Group (record { name = put_at 3 3; members = [] }))
  pub external : Gives 0x8C (0x01 ∷ 0x58 ∷ 0x00 ∷ []) (Externs (put_at 3 (record { name = 0x58 ∷ []; type_index = 0 }) ∷ []))
  pub publics : Gives 0x90 (0x00 ∷ 0x01 ∷ 0x01 ∷ 0x58 ∷ 0x02 ∷ 0x00 ∷ 0x00 ∷ [])
      (Publics (record { group = put_at 3 0; segment = put_at 4 1; frame = None; items = put_at 5 (record { name = 0x58 ∷ []; offset = 2; type_index = 0 }) ∷ [] }))
  pub wide_publics : Gives 0x91 (0x00 ∷ 0x01 ∷ 0x01 ∷ 0x58 ∷ 0x02 ∷ 0x00 ∷ 0x00 ∷ 0x01 ∷ 0x07 ∷ [])
      (Publics (record { group = put_at 3 0; segment = put_at 4 1; frame = None; items = put_at 5 (record { name = 0x58 ∷ []; offset = 0x01000002; type_index = 7 }) ∷ [] }))
  pub far : Gives 0xB0 (0x01 ∷ 0x58 ∷ 0x00 ∷ 0x61 ∷ 0x03 ∷ 0x84 ∷ 0x00 ∷ 0x00 ∷ 0x01 ∷ []) (Communals (put_at 3 (record { name = 0x58 ∷ []; type_index = 0; size = Far 3 65536 }) ∷ []))
  pub local_names : Gives 0xCA (0x01 ∷ 0x55 ∷ []) (Names (put_at 3 (0x55 ∷ []) ∷ []))
  pub local_external : Gives 0xB4 (0x01 ∷ 0x58 ∷ 0x00 ∷ []) (Externs (put_at 3 (record { name = 0x58 ∷ []; type_index = 0 }) ∷ []))
  pub second_type : Gives 0xB5 (0x01 ∷ 0x58 ∷ 0x00 ∷ []) (Externs (put_at 3 (record { name = 0x58 ∷ []; type_index = 0 }) ∷ []))
  pub local_publics : Gives 0xB6 (0x00 ∷ 0x02 ∷ 0x01 ∷ 0x50 ∷ 0x00 ∷ 0x00 ∷ 0x00 ∷ [])
      (Publics (record { group = put_at 3 0; segment = put_at 4 2; frame = None; items = put_at 5 (record { name = 0x50 ∷ []; offset = 0; type_index = 0 }) ∷ [] }))
  pub wide_local_publics : Gives 0xB7 (0x00 ∷ 0x00 ∷ 0x34 ∷ 0x12 ∷ 0x01 ∷ 0x50 ∷ 0x02 ∷ 0x00 ∷ 0x00 ∷ 0x01 ∷ 0x07 ∷ [])
      (Publics (record { group = put_at 3 0; segment = put_at 4 0; frame = Some 0x1234; items = put_at 7 (record { name = 0x50 ∷ []; offset = 0x01000002; type_index = 7 }) ∷ [] }))
  pub local_communal : Gives 0xB8 (0x01 ∷ 0x58 ∷ 0x00 ∷ 0x61 ∷ 0x03 ∷ 0x84 ∷ 0x00 ∷ 0x00 ∷ 0x01 ∷ []) (Communals (put_at 3 (record { name = 0x58 ∷ []; type_index = 0; size = Far 3 65536 }) ∷ []))
  pub iterated : Gives 0xA2 (0x01 ∷ 0x00 ∷ 0x00 ∷ 0x03 ∷ 0x00 ∷ 0x00 ∷ 0x00 ∷ 0x01 ∷ 0xAA ∷ [])
      (Iterated (record { segment = put_at 3 1; offset = put_at 4 0; bytes = 0x03 ∷ 0 ∷ 0 ∷ 0 ∷ 1 ∷ 0xAA ∷ [] }))
  pub wide_iterated : Gives 0xA3 (0x01 ∷ 0x00 ∷ 0x00 ∷ 0x00 ∷ 0x00 ∷ 0xFF ∷ 0xFF ∷ 0xFF ∷ 0xFF ∷ 0x00 ∷ 0x00 ∷ 0x00 ∷ [])
      (Iterated (record { segment = put_at 3 1; offset = put_at 4 0; bytes = 0xFF ∷ 0xFF ∷ 0xFF ∷ 0xFF ∷ 0 ∷ 0 ∷ 0 ∷ [] }))
  pub carried : Gives 0x8E (0x01 ∷ 0x02 ∷ []) (Carried (0x01 ∷ 0x02 ∷ []))
  pub start : Gives 0x8A (0xC1 ∷ 0xA0 ∷ 0x01 ∷ 0x02 ∷ 0x00 ∷ []) (ModEnd 0xC1 (Some (refers (put_at 4 0xA0) None (Some (put_at 5 1)) (Some 2))))
  pub wide_start : Gives 0x8B (0xC1 ∷ 0x50 ∷ 0x01 ∷ 0x02 ∷ 0x00 ∷ 0x00 ∷ 0x01 ∷ []) (ModEnd 0xC1 (Some (refers (put_at 4 0x50) None (Some (put_at 5 1)) (Some 0x01000002))))

-- Subrecords: threads and the fixups that use them, a 16:32 pointer and a 32-bit offset, every kind of fix data byte.
pub record Subrecords : Type 0 where
  pub threads : Gives 0x9C (0x50 ∷ 0x00 ∷ 0x01 ∷ 0xC4 ∷ 0x00 ∷ 0x8C ∷ 0x00 ∷ 0x02 ∷ []) (Fixups (
      put_at 3 (Thread 0x50 None) ∷ put_at 4 (Thread 0x00 (Some (put_at 5 1))) ∷ put_at 6 (Fixup 0xC400 (refers (put_at 8 0x8C) None None None))
      ∷ put_at 9 (Thread 0x00 (Some (put_at 10 2))) ∷ []))
  pub wide_fixups : Gives 0x9D (0xEC ∷ 0x00 ∷ 0x14 ∷ 0x01 ∷ 0x01 ∷ 0xE4 ∷ 0x06 ∷ 0x10 ∷ 0x01 ∷ 0x01 ∷ 0x04 ∷ 0x00 ∷ 0x00 ∷ 0x00 ∷ []) (Fixups (
      put_at 3 (Fixup 0xEC00 (refers (put_at 5 0x14) (Some (put_at 6 1)) (Some (put_at 7 1)) None))
      ∷ put_at 8 (Fixup 0xE406 (refers (put_at 10 0x10) (Some (put_at 11 1)) (Some (put_at 12 1)) (Some 4))) ∷ []))
  pub thread_of_segment : Gives 0x9C (0x01 ∷ 0x02 ∷ []) (Fixups (put_at 3 (Thread 0x01 (Some (put_at 4 2))) ∷ []))
  -- a target thread has two method bits, and bit 5 of a thread is ignored
  pub third_bit : Gives 0x9C (0x10 ∷ 0x05 ∷ 0x14 ∷ 0x05 ∷ 0x18 ∷ 0x05 ∷ 0x20 ∷ 0x05 ∷ []) (Fixups (
      put_at 3 (Thread 0x10 (Some (put_at 4 5))) ∷ put_at 5 (Thread 0x14 (Some (put_at 6 5))) ∷ put_at 7 (Thread 0x18 (Some (put_at 8 5))) ∷ put_at 9 (Thread 0x20 (Some (put_at 10 5))) ∷ []))
  pub third_bit_wrong : Refused 0x9C (0x1C ∷ []) 3 reason.TargetMethod
  -- frame threads: F5 has no index, F2 has one, F7 is refused
  pub frame_threads : Gives 0x9C (0x57 ∷ 0x4A ∷ 0x09 ∷ []) (Fixups (put_at 3 (Thread 0x57 None) ∷ put_at 4 (Thread 0x4A (Some (put_at 5 9))) ∷ []))
  pub frame_thread_wrong : Refused 0x9C (0x57 ∷ 0x5C ∷ []) 4 reason.FrameMethod
  -- if a thread gives the frame, bit 6 is ignored; if one gives the target, 3 is its number
  pub frame_by_thread : Gives 0x9C (0xC4 ∷ 0x01 ∷ 0xF4 ∷ 0x01 ∷ []) (Fixups (put_at 3 (Fixup 0xC401 (refers (put_at 5 0xF4) None (Some (put_at 6 1)) None)) ∷ []))
  pub frame_by_third_thread : Gives 0x9C (0xC4 ∷ 0x01 ∷ 0xB4 ∷ 0x01 ∷ []) (Fixups (put_at 3 (Fixup 0xC401 (refers (put_at 5 0xB4) None (Some (put_at 6 1)) None)) ∷ []))
  pub target_by_thread : Gives 0x9C (0xC4 ∷ 0x01 ∷ 0x0F ∷ 0x01 ∷ []) (Fixups (put_at 3 (Fixup 0xC401 (refers (put_at 5 0x0F) (Some (put_at 6 1)) None None)) ∷ []))

-- Longer encodings, and the shortest.
pub record ShortestOf : Type 0 where
  pub long_index : Shortens 0xA0 (0x80 ∷ 0x01 ∷ 0x00 ∷ 0x00 ∷ 0xB8 ∷ 0x00 ∷ 0x00 ∷ 0x90 ∷ [])
      (Plain (record { segment = put_at 3 1; offset = put_at 5 0; bytes = 0xB8 ∷ 0 ∷ 0 ∷ 0x90 ∷ [] })) (0x01 ∷ 0x00 ∷ 0x00 ∷ 0xB8 ∷ 0x00 ∷ 0x00 ∷ 0x90 ∷ [])
  -- index 0 in two bytes is index 0: the base frame follows it
  pub long_zero : Shortens 0x90 (0x80 ∷ 0x00 ∷ 0x80 ∷ 0x00 ∷ 0x34 ∷ 0x12 ∷ [])
      (Publics (record { group = put_at 3 0; segment = put_at 5 0; frame = Some 0x1234; items = [] })) (0x00 ∷ 0x00 ∷ 0x34 ∷ 0x12 ∷ [])
  pub long_length : Shortens 0xB0 (0x01 ∷ 0x58 ∷ 0x00 ∷ 0x62 ∷ 0x81 ∷ 0x80 ∷ 0x00 ∷ [])
      (Communals (put_at 3 (record { name = 0x58 ∷ []; type_index = 0; size = Near 128 }) ∷ [])) (0x01 ∷ 0x58 ∷ 0x00 ∷ 0x62 ∷ 0x80 ∷ [])
  pub long_start : Shortens 0x8A (0xC1 ∷ 0x10 ∷ 0x80 ∷ 0x01 ∷ 0x81 ∷ 0x2C ∷ 0x02 ∷ 0x00 ∷ [])
      (ModEnd 0xC1 (Some (refers (put_at 4 0x10) (Some (put_at 5 1)) (Some (put_at 7 300)) (Some 2)))) (0xC1 ∷ 0x10 ∷ 0x01 ∷ 0x81 ∷ 0x2C ∷ 0x02 ∷ 0x00 ∷ [])

-- Each layout fault once.
pub record FirstFaults : Type 0 where
  pub communal_length : Refused 0xB0 (0x01 ∷ 0x58 ∷ 0x00 ∷ 0x62 ∷ 0x82 ∷ []) 7 reason.CommunalLength
  pub communal_type : Refused 0xB0 (0x01 ∷ 0x58 ∷ 0x00 ∷ 0x63 ∷ 0x05 ∷ []) 6 reason.CommunalType
  pub alignment : Refused 0x98 (0xC8 ∷ 0x04 ∷ 0x00 ∷ 0x02 ∷ 0x01 ∷ 0x01 ∷ []) 3 reason.Alignment
  pub big_length : Refused 0x98 (0x2A ∷ 0x01 ∷ 0x00 ∷ 0x02 ∷ 0x01 ∷ 0x01 ∷ []) 4 reason.BigLength
  pub group_component : Refused 0x9A (0x02 ∷ 0xFE ∷ 0x01 ∷ []) 4 reason.GroupComponent
  pub frame_thread : Refused 0x9C (0x4C ∷ []) 3 reason.FrameMethod
  pub target_thread : Refused 0x9C (0x0C ∷ []) 3 reason.TargetMethod
  pub frame_method : Refused 0x9C (0xC4 ∷ 0x01 ∷ 0x34 ∷ 0x01 ∷ 0x01 ∷ []) 5 reason.FrameMethod
  pub location_type : Refused 0x9C (0xDC ∷ 0x00 ∷ 0x04 ∷ 0x01 ∷ 0x01 ∷ []) 3 reason.LocationType
  pub self_relative : Refused 0x9C (0x88 ∷ 0x00 ∷ 0x04 ∷ 0x01 ∷ 0x01 ∷ []) 3 reason.SelfRelative
  pub short_name : Refused 0x96 (0x05 ∷ 0x41 ∷ []) 3 reason.Short
  pub short_index : Refused 0xA0 (0x80 ∷ []) 3 reason.Short
  pub short_fixup : Refused 0x9C (0xC4 ∷ []) 3 reason.Short
  pub long_end : Refused 0x8A (0x80 ∷ 0x00 ∷ []) 4 reason.Long

-- The first of several faults.
pub record FaultOrder : Type 0 where
  -- a method is checked before the datum that would follow; of two wrong methods the frame's is reported
  pub target_before_datum : Refused 0x9C (0xC4 ∷ 0x01 ∷ 0x07 ∷ []) 5 reason.TargetMethod
  pub both_methods : Refused 0x9C (0xC4 ∷ 0x01 ∷ 0x37 ∷ []) 5 reason.FrameMethod
  -- the first two bytes of a FIXUP are one field: one of them is Short, two of a wrong type are not
  pub half_location : Refused 0x9C (0xDC ∷ []) 3 reason.Short
  pub location_alone : Refused 0x9C (0xDC ∷ 0x00 ∷ []) 3 reason.LocationType
  pub relative_alone : Refused 0x9C (0x88 ∷ 0x00 ∷ []) 3 reason.SelfRelative
  pub wrong_type_relative : Refused 0x9C (0x9C ∷ 0x00 ∷ []) 3 reason.LocationType
  pub good_location_alone : Refused 0x9C (0xC4 ∷ 0x00 ∷ []) 5 reason.Short
  -- a wrong first byte of a length is refused by itself; a right one without its bytes is Short at the same offset
  pub mark_at_end : Refused 0xB0 (0x01 ∷ 0x58 ∷ 0x00 ∷ 0x62 ∷ 0xFF ∷ []) 7 reason.CommunalLength
  pub mark_without_bytes : Refused 0xB0 (0x01 ∷ 0x58 ∷ 0x00 ∷ 0x62 ∷ 0x81 ∷ 0x00 ∷ []) 7 reason.Short
  pub second_mark : Refused 0xB0 (0x01 ∷ 0x58 ∷ 0x00 ∷ 0x61 ∷ 0x81 ∷ 0x00 ∷ 0x01 ∷ 0x87 ∷ []) 10 reason.CommunalLength
  -- the length of a Big segment is checked before a missing field on its right; half a length is Short
  pub big_without_names : Refused 0x98 (0x2A ∷ 0x01 ∷ 0x00 ∷ []) 4 reason.BigLength
  pub big_absolute : Refused 0x98 (0x02 ∷ 0xB8 ∷ 0x00 ∷ 0x04 ∷ 0x01 ∷ 0x00 ∷ []) 7 reason.BigLength
  pub half_length : Refused 0x98 (0x2A ∷ 0x01 ∷ []) 4 reason.Short
  pub wide_length : Refused 0x99 (0xA9 ∷ 0x0A ∷ 0x00 ∷ 0x00 ∷ []) 4 reason.Short
  pub alignment_alone : Refused 0x98 (0xE2 ∷ []) 3 reason.Alignment
  pub second_component : Refused 0x9A (0x02 ∷ 0xFF ∷ 0x01 ∷ 0xFE ∷ []) 6 reason.GroupComponent
  pub component_alone : Refused 0x9A (0x02 ∷ 0xFF ∷ []) 5 reason.Short
  pub empty_header : Refused 0x80 [] 3 reason.Short
  pub long_header : Refused 0x80 (0x00 ∷ 0x41 ∷ []) 4 reason.Long
  pub long_segment : Refused 0x98 (0x28 ∷ 0x04 ∷ 0x00 ∷ 0x02 ∷ 0x01 ∷ 0x01 ∷ 0x00 ∷ []) 9 reason.Long
  pub short_class : Refused 0x88 (0x00 ∷ []) 4 reason.Short
  pub short_frame : Refused 0x90 (0x00 ∷ 0x00 ∷ 0x34 ∷ []) 5 reason.Short
  pub short_displacement : Refused 0x9C (0xC4 ∷ 0x01 ∷ 0x50 ∷ 0x01 ∷ 0x02 ∷ []) 7 reason.Short
  pub start_without_fix : Refused 0x8A (0x40 ∷ []) 4 reason.Short
  pub start_method : Refused 0x8B (0x40 ∷ 0x60 ∷ []) 4 reason.FrameMethod
