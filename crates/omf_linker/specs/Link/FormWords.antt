-- The options of the tasks that write files for chips (a rule of this profile), stated over clap's own definitions.
use Rattle.std.specs.Prelude.{◌≡◌, ℕ, List, Option, Some, None, option_map, option_and_then, codes, if◌then◌else◌}
use Rattle.std.specs.Str.{bytes_eq}
use Rattle.clap.specs.Words.{App, Row, Text, first_of, with_rule}
use Rattle.omf_host.specs.Numbers.{number, size}
use Rattle.omf_output.specs.declared.rom.form.Chip.{Chip}
use Rattle.omf_output.specs.declared.rom.form.Form.{Form}
use Rattle.omf_output.specs.declared.rom.form.Form.TheVariants as form
use Rattle.omf_output.specs.declared.rom.hex.HexBase.{HexBase}
use Rattle.omf_output.specs.declared.rom.hex.HexBase.TheVariants.{Linear, Segment}
use Rattle.omf_output.specs.declared.rom.srec.SAddress.{SAddress}
use Rattle.omf_output.specs.declared.rom.srec.SAddress.TheVariants.{Bits16, Bits24, Bits32}
use Rattle.omf_drafting.specs.Options.{base_id, value_rule}

-- ---- a chip

abbrev pub size_id : Text
size_id = codes "size"

abbrev pub fill_id : Text
fill_id = codes "fill"

-- A command with three options that take a value.
abbrev pub with_chip : App → App
with_chip a = with_rule (with_rule (with_rule a (value_rule base_id)) (value_rule size_id)) (value_rule fill_id)

-- The base: 1 to 8 hexadecimal digits, alone, after 0x or before H. The size: the same, or kilobytes before K. Both must be given.
abbrev pub address_named : Option Text → Option ℕ
address_named None = None
address_named (Some word) = number 8 word

abbrev pub size_named : Option Text → Option ℕ
size_named None = None
size_named (Some word) = size word

-- The fill: 1 or 2 hexadecimal digits, as those of the base; FFH by default, as in an erased chip.
abbrev pub fill_named : Option Text → Option ℕ
fill_named None = Some 0xFF
fill_named (Some word) = number 2 word

-- The chip, if all are valid.
abbrev pub chip_named : Option Text → Option Text → Option Text → Option Chip
chip_named base bytes fill =
    option_and_then (λ b. option_and_then (λ s. option_map (λ f. record { base = b; size = s; fill = f }) (fill_named fill)) (size_named bytes)) (address_named base)

abbrev pub chip_in : List Row → Option Chip
chip_in rows = chip_named (first_of base_id rows) (first_of size_id rows) (first_of fill_id rows)

-- ---- addresses

abbrev pub addresses_id : Text
addresses_id = codes "addresses"

-- A command with an option that takes a value.
abbrev pub with_addresses : App → App
with_addresses a = with_rule a (value_rule addresses_id)

-- How Intel HEX gives addresses above 64 KB: `linear`, the default, or `segment`.
abbrev pub hex_named : Option Text → Option HexBase
hex_named None = Some Linear
hex_named (Some word) = if bytes_eq word (codes "linear") then Some Linear else (if bytes_eq word (codes "segment") then Some Segment else None)

-- The bits of the addresses of S-records: `16`, `24` or `32`, the default.
abbrev pub width_named : Option Text → Option SAddress
width_named None = Some Bits32
width_named (Some word) =
    if bytes_eq word (codes "16") then Some Bits16 else (if bytes_eq word (codes "24") then Some Bits24 else (if bytes_eq word (codes "32") then Some Bits32 else None))

-- ---- a form

-- A subcommand and the arguments after it give a form.
abbrev pub IsFormNamed : Text → List Row → Form → Type 0
IsFormNamed name rows (form.Binary chip) = (name ≡ codes "bin") × (chip_in rows ≡ Some chip)
IsFormNamed name rows (form.Hex base) = (name ≡ codes "hex") × (hex_named (first_of addresses_id rows) ≡ Some base)
IsFormNamed name rows (form.SRecords width) = (name ≡ codes "srec") × (width_named (first_of addresses_id rows) ≡ Some width)
