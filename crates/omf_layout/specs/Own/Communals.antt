-- The module that gives the communals of modules a place (TIS OMF 1.1, "COMDEF"; the segments and their order are this profile's rule).
use Rattle.std.specs.Prelude.{◌≡◌, ⊤, ℕ, ◌+◌, ◌%◌, ◌^◌, ◌<◌, ◌≤◌, List, [], ◌∷◌, ◌++◌, length, map, filter_map, max, Bool, true, false, not, ◌&&◌, Option, Some, None, option_map, nat_le, slice_get, codes, bytes_eq, if◌then◌else◌}
use Rattle.std.specs.List.{filter, list_any}
use Rattle.omf_records.specs.Values.{Rec}
use Rattle.omf_check.specs.Tables.{groups}
use Rattle.omf_layout.specs.declared.own.claims.ClaimKind.{ClaimKind}
use Rattle.omf_layout.specs.declared.own.claims.ClaimKind.TheVariants as kinds
use Rattle.omf_layout.specs.declared.own.fault.CommunalReason.{CommunalReason}
use Rattle.omf_layout.specs.declared.own.fault.CommunalReason.TheVariants as reasons
use Rattle.omf_layout.specs.declared.own.fault.CommunalsFault.{CommunalsFault}
use Rattle.omf_layout.specs.declared.own.fault.CommunalsFault.TheVariants as fault
use Rattle.omf_layout.specs.declared.own.homes.Home.{Home}
use Rattle.omf_layout.specs.declared.own.homes.Home.TheVariants as homes
use Rattle.omf_layout.specs.Several.Gathered.{gathered}
use Rattle.omf_layout.specs.Several.Portions.{name_at}
use Rattle.omf_layout.specs.Own.Claims.{Claim, all_claims}
use Rattle.omf_layout.specs.Own.Shared.{Shared}
use Rattle.omf_layout.specs.Own.Written.{header, name_record, segment_record, group_record, public_record, end_record, written}

-- Whether a name is claimed as this.
abbrev pub is_same_kind : ClaimKind → ClaimKind → Bool
is_same_kind kinds.Public kinds.Public = true
is_same_kind kinds.Near kinds.Near = true
is_same_kind kinds.Far kinds.Far = true
is_same_kind _ _ = false

abbrev pub has_kind : ClaimKind → List Claim → Bool
has_kind kind run = list_any (λ c. is_same_kind kind c.kind) run

-- The claims of each name that COMDEFs define and no PUBDEF, in the order in which the names are first met.
abbrev pub is_communal : List Claim → Bool
is_communal run = not (has_kind kinds.Public run)

abbrev pub runs_in : List (List Claim) → List (List Claim)
runs_in runs = filter is_communal runs

abbrev pub runs_of : List (List Rec) → List (List Claim)
runs_of ms = runs_in (gathered (all_claims ms))

-- The communal of the claims of one name: far if one of them is, and of the size of the largest.
abbrev pub name_of : List Claim → List ℕ
name_of [] = []
name_of (c ∷ cs) = c.name

abbrev pub largest : List Claim → ℕ
largest [] = 0
largest (c ∷ cs) = max c.size (largest cs)

abbrev pub shared_by : List Claim → Shared
shared_by run = record { name = name_of run; far = has_kind kinds.Far run; size = largest run }

abbrev pub communals : List (List Rec) → List Shared
communals ms = map shared_by (runs_of ms)

-- The fault of the claims of a name: one is near and another far, or one has 2^32 bytes or more.
abbrev pub reason_of : List Claim → Option CommunalReason
reason_of run = if has_kind kinds.Near run && has_kind kinds.Far run then Some reasons.Mixed else (if nat_le (2 ^ 32) (largest run) then Some reasons.TooLong else None)

abbrev pub fault_of : List Claim → Option (List ℕ × CommunalReason)
fault_of run = option_map (λ r. (name_of run, r)) (reason_of run)

abbrev pub faults_in : List (List Claim) → List (List ℕ × CommunalReason)
faults_in runs = filter_map fault_of runs

abbrev pub faults_of : List (List Rec) → List (List ℕ × CommunalReason)
faults_of ms = faults_in (runs_of ms)

-- The near ones, and the far ones.
abbrev pub nears : List Shared → List Shared
nears cs = filter (λ c. not c.far) cs

abbrev pub fars : List Shared → List Shared
fars cs = filter (λ c. c.far) cs

-- The room of a near communal: its size, rounded up to an even number; and the room of several.
abbrev pub room : Shared → ℕ
room c = c.size + c.size % 2

abbrev pub all_room : List Shared → ℕ
all_room [] = 0
all_room (c ∷ cs) = room c + all_room cs

abbrev pub near_room : List Shared → ℕ
near_room cs = all_room (nears cs)

abbrev pub has_near : List Shared → Bool
has_near cs = list_any (λ c. not c.far) cs

-- The near communals have one segment, if there are any, word-aligned and public: c_common of class BSS, or a part of the segment of their home. Each far one
-- has a segment FAR_BSS of class FAR_BSS, paragraph-aligned and private. The last name is that of a group.
abbrev pub near_class : Home → List ℕ
near_class (homes.Segment name class) = class
near_class _ = codes "BSS"

abbrev pub near_name : Home → List ℕ
near_name (homes.Segment name class) = name
near_name _ = codes "c_common"

abbrev pub home_group : Home → List ℕ
home_group (homes.Group name) = name
home_group _ = codes "DGROUP"

abbrev pub own_names : Home → List (List ℕ)
own_names home = [] ∷ near_class home ∷ near_name home ∷ codes "FAR_BSS" ∷ home_group home ∷ []

abbrev pub near_segment : List Shared → List Rec
near_segment cs = if has_near cs then segment_record 0x48 (near_room cs) 3 2 ∷ [] else []

abbrev pub far_segment : Shared → Rec
far_segment c = segment_record 0x60 c.size 4 4

-- The segment of the near ones is in the group of their home, if that is one. The index of the group in PUBDEFs is 1, or 0 for none.
abbrev pub is_in_group : Home → Bool
is_in_group (homes.Group name) = true
is_in_group _ = false

abbrev pub near_group : Bool → List Shared → List Rec
near_group grouped cs = if grouped && has_near cs then group_record 5 1 ∷ [] else []

abbrev pub group_index : Bool → ℕ
group_index grouped = if grouped then 1 else 0

-- Each near communal has a public at the first offset after the room of those before it, and each far one a public at the start of its segment.
abbrev pub near_publics : ℕ → ℕ → List Shared → List Rec
near_publics group offset [] = []
near_publics group offset (c ∷ cs) = public_record group 1 c.name offset ∷ near_publics group (offset + room c) cs

abbrev pub far_publics : ℕ → List Shared → List Rec
far_publics index [] = []
far_publics index (c ∷ cs) = public_record 0 index c.name 0 ∷ far_publics (index + 1) cs

-- The index of the first far segment.
abbrev pub first_far : List Shared → ℕ
first_far cs = if has_near cs then 2 else 1

-- The records of the module: its name and the names of its segments, the segments, the group, the publics, the end.
abbrev pub front_records : Home → List Rec
front_records home = header (codes "communals") ∷ map name_record (own_names home)

abbrev pub communals_records : Home → List Shared → List Rec
communals_records home cs =
    let grouped = is_in_group home in
    front_records home ++ (near_segment cs ++ (map far_segment (fars cs) ++ (near_group grouped cs ++ (near_publics (group_index grouped) 0 (nears cs)
    ++ (far_publics (first_far cs) (fars cs) ++ end_record ∷ [])))))

abbrev pub is_dgroup : List ℕ → Bool
is_dgroup name = bytes_eq name (codes "DGROUP")

-- Whether a module has a group DGROUP, and whether one of several has.
abbrev pub is_grouped : List Rec → Bool
is_grouped m = list_any (λ g. is_dgroup (name_at m g.name.item)) (groups m)

abbrev pub are_grouped : List (List Rec) → Bool
are_grouped ms = list_any is_grouped ms

-- The module of the communals of these modules, with the near ones in this home; none without communals.
abbrev pub module_of : Home → List Shared → Option (List Rec)
module_of home [] = None
module_of home (c ∷ cs) = Some (communals_records home (c ∷ cs))

abbrev pub communals_of : Home → List (List Rec) → Option (List Rec)
communals_of home ms = module_of home (communals ms)

-- Why there is no such module: the first communal at fault, in the order in which the names are first met; more communals than a module has segments; near ones of 2^32 bytes or more together.
-- Memory may run out at any time.
abbrev pub IsCommunalsFault : List (List Rec) → CommunalsFault → Type 0
IsCommunalsFault ms fault.Memory = ⊤
IsCommunalsFault ms (fault.Communal name reason) = slice_get (faults_of ms) 0 ≡ Some (name.now, reason)
IsCommunalsFault ms fault.TooMany = (faults_of ms ≡ []) × (32766 < length (communals ms))
IsCommunalsFault ms fault.TooLarge = (faults_of ms ≡ []) × (2 ^ 32 ≤ near_room (communals ms))

-- The claims of one name have this fault.
abbrev pub IsRunFault : List Claim → CommunalsFault → Type 0
IsRunFault run fault.Memory = ⊤
IsRunFault run (fault.Communal name reason) = fault_of run ≡ Some (name.now, reason)
IsRunFault run fault.TooMany = ⊥
IsRunFault run fault.TooLarge = ⊥

-- This is the first fault of the claims of several names.
abbrev pub IsFirstFault : List (List Claim) → CommunalsFault → Type 0
IsFirstFault runs fault.Memory = ⊤
IsFirstFault runs (fault.Communal name reason) = slice_get (faults_in runs) 0 ≡ Some (name.now, reason)
IsFirstFault runs fault.TooMany = ⊥
IsFirstFault runs fault.TooLarge = ⊥

-- The bytes of the module, if there is one: no communal is at fault.
pub record AreCommunals (home : Home) (ms : List (List Rec)) (made : Option (List ℕ)) : Type 0 where
  pub sound : faults_of ms ≡ []
  pub all : made ≡ option_map written (communals_of home ms)
