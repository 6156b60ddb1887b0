-- Numbers as a person types them (a form of this profile).
use Rattle.std.specs.Prelude.{ℕ, ◌*◌, List, length, Option, Some, None, option_and_then, if◌then◌else◌, ◌&&◌, nat_lt, nat_le}
use Rattle.std.specs.Option.{option_map_or}
use Rattle.std.specs.Char.{is_digit}
use Rattle.std.specs.List.{list_all}
use Rattle.std.specs.Str.Parse.{digits_value}
-- computed, and proved equal to the rule: numbers_are_read of omf_placement.
use Rattle.omf_placement.specs.Inner.EntryReading.{hexadecimal}
use Rattle.omf_text.specs.Numerals.{before_letter, digits_of, marked}

-- A number of 1 to most hexadecimal digits, marked or not.
abbrev pub number : ℕ → List ℕ → Option ℕ
number most word = hexadecimal most (digits_of word)

-- A number of 1 to 7 decimal digits.
abbrev pub decimal : List ℕ → Option ℕ
decimal cs = if nat_lt 0 (length cs) && (nat_le (length cs) 7 && list_all (λ c. is_digit c 10) cs) then Some (digits_value 10 cs) else None

-- The bytes of a decimal number of kilobytes: below 4 GB.
abbrev pub kilobytes : List ℕ → Option ℕ
kilobytes digits = option_and_then (λ n. if nat_lt n 4194304 then Some (n * 1024) else None) (decimal digits)

-- A size in bytes: kilobytes before a K, or a hexadecimal number.
abbrev pub size : List ℕ → Option ℕ
size word = option_map_or kilobytes (before_letter 75 107 word) (number 8 word)

-- A size in bytes that is decimal without a mark: hexadecimal after 0x or before an H, kilobytes before a K.
abbrev pub amount : List ℕ → Option ℕ
amount word = option_map_or (hexadecimal 8) (marked word) (option_map_or kilobytes (before_letter 75 107 word) (decimal word))
