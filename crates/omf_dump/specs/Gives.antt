-- What a record gives later ones that is not read, but of which the fields are all there: the entries that it defines, and its data (TIS OMF 1.1, the page
-- of each record; that they count so is this profile's rule).
use Rattle.std.specs.Prelude.{ℕ, zero, suc, ◌-◌, ◌==◌, ◌&&◌, ◌||◌, List, [], ◌∷◌, length, map, flat_map, take, drop, Bool, true, false, not, nat_le, nat_lt, is_some, option_and_then, option_map, option_to_list, unwrap_or, Option, Some, None, if◌then◌else◌}
use Rattle.std.specs.List.{list_all}
use Rattle.omf_frame.specs.Bytes.{bits, has_bit}
use Rattle.omf_frame.specs.Types.{type_of, width_bytes, width_of}
use Rattle.omf_frame.specs.declared.kinds.RecordType.{RecordType}
use Rattle.omf_frame.specs.declared.kinds.RecordType.TheVariants as types
use Rattle.omf_frame.specs.declared.kinds.Width.{Width}
use Rattle.omf_records.specs.Values.{At, Contents, Segment, Group, Externs, Plain, Iterated, Carried, SegmentItem, GroupItem, ExternalItem, DataItem}
use Rattle.omf_check.specs.Tables.{entry}
use Rattle.omf_dump.specs.Known.{Tables}
use Rattle.omf_dump.specs.Layouts.{head_steps, item_steps, row}
use Rattle.omf_dump.specs.Raw.{after_first, comdat_offset, first_of, has_blocks, index_of, index_size, is_near, is_there, left_by, name_size, size_here, step_bytes, step_size}
use Rattle.omf_dump.specs.declared.giving.Effect.{Effect}
use Rattle.omf_dump.specs.declared.giving.Effect.TheVariants as effect
use Rattle.omf_dump.specs.declared.step.Step.{Step}
use Rattle.omf_dump.specs.declared.step.Step.TheVariants as step

-- A communal's length begins with a byte that gives its size (TIS OMF 1.1, "COMDEF").
abbrev pub is_count : ℕ → Bool
is_count b = nat_le b 0x80 || (b == 0x81 || (b == 0x84 || b == 0x88))

-- Whether the first byte of a field leaves no doubt about the bytes after it: a communal is far, near or Borland's; its lengths have a size; the frame
-- method of a fixup is no reserved one (6 and 7), which may have a datum or none.
abbrev pub is_clear : Step → ℕ → Bool
is_clear step.Communal b = is_near b || b == 0x61
is_clear step.NearLength b = is_count b
is_clear step.FarCount b = is_count b
is_clear step.FarSize b = is_count b
is_clear step.Fix b = has_bit b 7 || nat_lt (bits b 4 3) 6
is_clear _ b = true

-- The bytes after these fields. None: a field is cut, or in doubt.
abbrev pub after_steps : Width → ℕ → List Step → List ℕ → Option (List ℕ)
after_steps w last [] bytes = Some bytes
after_steps w last (s ∷ ss) bytes =
    if is_there (row s).when last then (if is_some (size_here w s bytes) && is_clear s (first_of bytes) then
    after_steps w (left_by s (step_bytes w s bytes) last) ss (drop (step_size w s bytes) bytes)
    else None)
    else after_steps w last ss bytes

-- The bytes after the fields at the beginning of a record; those after an item, from its first byte on.
abbrev pub after_head : Width → RecordType → List ℕ → Option (List ℕ)
after_head w kind body = after_steps w 0 (head_steps kind) body

abbrev pub after_item : Width → RecordType → List ℕ → Option (List ℕ)
after_item w kind bytes = after_steps w 0 (item_steps kind (first_of bytes)) bytes

-- The items of a record, each by the bytes from its first one on. After one that is cut or in doubt there are no others. The first `skipped` bytes are those
-- of the item before.
abbrev pub clear_size : Width → RecordType → List ℕ → ℕ
clear_size w kind bytes = length bytes - length (unwrap_or (after_item w kind bytes) [])

abbrev pub item_parts : Width → RecordType → ℕ → List ℕ → List (List ℕ)
item_parts w kind skipped [] = []
item_parts w kind (suc skipped) (b ∷ bytes) = item_parts w kind skipped bytes
item_parts w kind zero (b ∷ bytes) = (b ∷ bytes) ∷ item_parts w kind (clear_size w kind (b ∷ bytes) - 1) bytes

-- The index or the name at the front.
abbrev pub front_index : List ℕ → ℕ
front_index bytes = index_of (take (unwrap_or (index_size bytes) 0) bytes)

abbrev pub front_name : List ℕ → List ℕ
front_name bytes = after_first (take (unwrap_or (name_size bytes) 0) bytes)

-- An item of these types defines an external. Its name is in the item; a CEXTDEF has the index of one of these names (TIS OMF 1.1, "CEXTDEF").
abbrev pub external_name : List (List ℕ) → RecordType → List ℕ → Option (List ℕ)
external_name names types.Cextdef item = entry names (front_index item)
external_name names _ item = Some (front_name item)

abbrev pub external_if : List (List ℕ) → Width → RecordType → List ℕ → Option (List ℕ)
external_if names w kind item = if is_some (after_item w kind item) then external_name names kind item else None

abbrev pub externals_of : List (List ℕ) → Width → RecordType → List (List ℕ) → List (List ℕ)
externals_of names w kind items = flat_map (λ item. option_to_list (external_if names w kind item)) items

-- What an item gives is known: the name of an external. A fixup gives nothing; what a THREAD gives may not be known.
abbrev pub is_fixup : Width → List ℕ → Bool
is_fixup w item = nat_le 128 (first_of item) && is_some (after_item w types.Fixupp item)

abbrev pub is_item_known : List (List ℕ) → Width → RecordType → List ℕ → Bool
is_item_known names w types.Fixupp item = is_fixup w item
is_item_known names w kind item = is_some (external_if names w kind item)

abbrev pub are_known : List (List ℕ) → Width → RecordType → List ℕ → Bool
are_known names w kind body = list_all (is_item_known names w kind) (item_parts w kind 0 body)

-- The index of the name of the segment that a SEGDEF defines, whatever its attributes; of the group that a GRPDEF defines, whatever its components.
abbrev pub segment_front : List Step
segment_front = step.Attributes ∷ step.AbsoluteFrame ∷ step.AbsoluteOffset ∷ step.Length ∷ []

abbrev pub segment_name : Width → List ℕ → Option ℕ
segment_name w body = if is_some (after_head w types.Segdef body) then option_map front_index (after_steps w 0 segment_front body) else None

abbrev pub group_name : Width → List ℕ → Option ℕ
group_name w body = if is_some (after_head w types.Grpdef body) then Some (front_index body) else None

-- Contents that define these, and no more; of a segment and a group only the name counts here.
abbrev pub alone : {A : Type 0} → A → At A
alone x = record { within = 0; item = x }

abbrev pub segment_of : ℕ → Contents
segment_of name = Segment (record { attribute = 0; absolute = None; size = 0; name = alone name; class = alone 0; overlay = 0 })

abbrev pub group_of : ℕ → Contents
group_of name = Group (record { name = alone name; members = [] })

abbrev pub external_of : List ℕ → At ExternalItem
external_of name = alone (record { name = name; type_index = 0 })

abbrev pub externs_of : List (List ℕ) → Contents
externs_of names = Externs (map external_of names)

-- The data of a COMDAT, which the fixups after it change like those of an LEDATA; they are not known here if they are iterated.
abbrev pub data_of : ℕ → List ℕ → Contents
data_of offset bytes = Plain (record { segment = alone 0; offset = alone offset; bytes = bytes })

abbrev pub comdat_data : Width → List ℕ → Option (List ℕ)
comdat_data w body = if has_blocks types.Comdat (first_of body) then None else after_head w types.Comdat body

-- What a record gives by its bytes alone. None: that is not known, or nothing.
abbrev pub externs_if : List (List ℕ) → Width → RecordType → List ℕ → Option Contents
externs_if names w kind body = if are_known names w kind body then Some (externs_of (externals_of names w kind (item_parts w kind 0 body))) else None

abbrev pub fixups_if : List (List ℕ) → Width → List ℕ → Option Contents
fixups_if names w body = if are_known names w types.Fixupp body then Some (Carried []) else None

-- What records of a type define or change.
abbrev pub effect_of : RecordType → Effect
effect_of types.Segdef = effect.Segment
effect_of types.Grpdef = effect.Group
effect_of types.Extdef = effect.Externals
effect_of types.Lextdef = effect.Externals
effect_of types.Comdef = effect.Externals
effect_of types.Lcomdef = effect.Externals
effect_of types.Cextdef = effect.Externals
effect_of types.Fixupp = effect.Threads
effect_of types.Comdat = effect.Data
effect_of _ = effect.Nothing

abbrev pub given_as : Effect → List (List ℕ) → Width → RecordType → List ℕ → Option Contents
given_as effect.Segment names w kind body = option_map segment_of (segment_name w body)
given_as effect.Group names w kind body = option_map group_of (group_name w body)
given_as effect.Externals names w kind body = externs_if names w kind body
given_as effect.Threads names w kind body = fixups_if names w body
given_as effect.Data names w kind body = option_map (data_of (comdat_offset w body)) (comdat_data w body)
given_as effect.Nothing names w kind body = None

abbrev pub given_by : List (List ℕ) → Width → RecordType → List ℕ → Option Contents
given_by names w kind body = given_as (effect_of kind) names w kind body
