-- What a lowering has of the records so far, and the results of its functions.
use Rattle.std.specs.Prelude.{◌≡◌, ◌<◌, IsTrue, ⊤, ℕ, List, [], ◌∷◌, ◌++◌, length, Option, Some, None, Result, Ok, Err}
use Rattle.omf_frame.specs.Fault.{Fault}
use Rattle.omf_frame.specs.declared.fault.Reason.TheVariants as reason
use Rattle.omf_check.specs.Rules.{item_limit}
use Rattle.omf_frame.specs.Framing.{Raw, is_end, raw_bytes}
use Rattle.omf_lowering.specs.Patches.{pieces_from}
use Rattle.omf_lowering.specs.Lowering.{Before, so_far, up_to_next, replacement, pieces, patches_in, patches, growths_in, growths, lowering_fault, BeginsWith, IsWideRecord}
use Rattle.omf_lowering.specs.declared.record.Front.{Front}
use Rattle.omf_lowering.specs.declared.fault.LoweringFault.{LoweringFault}
use Rattle.omf_lowering.specs.declared.fault.LoweringFault.TheVariants as lowering
use Rattle.omf_lowering.specs.declared.fault.Stop.{Stop}
use Rattle.omf_lowering.specs.declared.fault.Stop.TheVariants as stop
use Rattle.omf_lowering.specs.declared.values.Piece.{Piece}
use Rattle.omf_lowering.specs.declared.values.Patch.{Patch}

-- What the module has so far, the data, the values to add to them, and the growths of lengths.
pub record State : Type 0 where
  pub before : Before
  pub data_before : List Piece
  pub patches : List Patch
  pub growths : List Patch

-- The record at the front of some bytes.
abbrev pub seen : Front → Raw
seen f = record { kind = f.kind; body = f.body.now; checksum = f.checksum }

-- The state after these records.
abbrev pub state_of : List Raw → State
state_of rs = record { before = so_far rs; data_before = pieces rs; patches = patches rs; growths = growths rs }

-- The state after one more record.
abbrev pub added : State → Raw → State
added s r = record {
  before = up_to_next s.before r;
  data_before = s.data_before ++ pieces_from (length s.before.records) (replacement s.before r);
  patches = s.patches ++ patches_in s.before s.data_before r;
  growths = s.growths ++ growths_in s.before s.data_before r;
}

-- These records are appended, and their data.
pub record AreAppended (rs old new : List Raw) (data_old data_new : List Piece) : Type 0 where
  pub items : List Raw
  pub is : items ≡ rs
  pub records : new ≡ old ++ items
  pub pieces : data_new ≡ data_old ++ pieces_from (length old) items

-- A function stopped for this fault, or memory ran out.
abbrev pub IsStop : Stop → Option Fault → Type 0
IsStop stop.Memory f = ⊤
IsStop (stop.At e) f = f ≡ Some e

-- The fault of a record with a number at an offset in the input, for which the work on it stopped.
abbrev pub refusal : Stop → ℕ → ℕ → LoweringFault
refusal stop.Memory number start = lowering.Memory
refusal (stop.At e) number start = lowering.Refused e.reason (record { number = number; start = start; within = e.within })

-- The fault that records are too many, at an offset in the input.
abbrev pub excess : ℕ → LoweringFault
excess start = lowering.Refused reason.TooMany (record { number = item_limit; start = start; within = 0 })

-- A function gave, seen by view, what a reading gives, unless memory ran out.
abbrev pub GivesAll : {X Y : Type 0} → (X → Y) → Result X Stop → Result Y Fault → Type 0
GivesAll view (Ok x) read = read ≡ Ok (view x)
GivesAll view (Err stop.Memory) read = ⊤
GivesAll view (Err (stop.At e)) read = read ≡ Err e

-- The state after the records of an input up to a MODEND, none of which has a fault, and the rest of the input.
pub record IsRead (input rest : List ℕ) (s : State) : Type 0 where
  pub before : List Raw
  pub end : Raw
  pub begins : BeginsWith input before (raw_bytes end ++ rest)
  pub few : length before < item_limit
  pub last : IsWideRecord end
  pub ends : IsTrue (is_end end.kind)
  pub sound : lowering_fault before end ≡ None
  pub state : s ≡ state_of (before ++ end ∷ [])

-- The records before the rest of an input, with their number, have no fault, and this is the state after them.
pub record IsOpen (input rest : List ℕ) (number : ℕ) (s : State) : Type 0 where
  pub before : List Raw
  pub begins : BeginsWith input before rest
  pub count : number ≡ length before
  pub state : s ≡ state_of before
