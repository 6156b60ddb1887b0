-- What is shown of a record: named fields, the items that it repeats, and bytes (this profile's rule). Text and JSON are two renderings of it.
use Rattle.std.specs.Prelude.{ℕ, List, Bool, Option, Some, None}

-- An index, and the name of its entry: None if it is 0, not defined, or that of an entry without a name.
pub record Entry : Type 0 where
  pub index : ℕ
  pub name : Option (List ℕ)

-- A value: a number; a 16-bit number with a sign; a number in hexadecimal, with the least number of digits; one word of a fixed list; bytes as characters; bytes as numbers;
-- bytes with those before and after them; an entry of a table; a frame or target method, with its entry if it has one; whether something is set;
-- how deep something is nested.
pub data Value : Type 0 where
  Number : ℕ → Value
  Signed : ℕ → Value
  Hex : ℕ → ℕ → Value
  Word : List ℕ → Value
  Characters : List ℕ → Value
  Bytes : List ℕ → Value
  Marked : List ℕ → List ℕ → List ℕ → Value
  Named : Entry → Value
  Method : List ℕ → Option Entry → Value
  Flag : Bool → Value
  Depth : ℕ → Value

pub record Field : Type 0 where
  pub name : List ℕ
  pub value : Value

abbrev pub field : List ℕ → Value → Field
field name value = record { name = name; value = value }

-- An item of a record: the offset in the record of its first byte (0 is the type byte), and its fields.
pub record Item : Type 0 where
  pub within : ℕ
  pub fields : List Field

abbrev pub item : ℕ → List Field → Item
item within fields = record { within = within; fields = fields }

-- Bytes, and the offset of the first of them in its segment, or in the record's contents.
pub record Block : Type 0 where
  pub first : ℕ
  pub bytes : List ℕ

-- All that is shown of a record's contents. Only some types have items, and only some have bytes.
pub record Shown : Type 0 where
  pub fields : List Field
  pub items : Option (List Item)
  pub block : Option Block

abbrev pub only_fields : List Field → Shown
only_fields fields = record { fields = fields; items = None; block = None }

abbrev pub with_items : List Field → List Item → Shown
with_items fields items = record { fields = fields; items = Some items; block = None }

abbrev pub with_block : List Field → ℕ → List ℕ → Shown
with_block fields first bytes = record { fields = fields; items = None; block = Some (record { first = first; bytes = bytes }) }
