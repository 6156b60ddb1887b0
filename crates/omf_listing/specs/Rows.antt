-- Definitions for the worked examples.
use Rattle.std.specs.Prelude.{ℕ, List, Option, option_map}
use Rattle.omf_layout.specs.declared.options.Frames.TheVariants.{Real}
use Rattle.omf_layout.specs.Several.Placing.{arranged_places}
use Rattle.omf_records.specs.Values.{Rec}
use Rattle.omf_listing.specs.Combined.{CombinedSegment, combined_segments}

-- The combined segments of modules that are laid from address 0 on in real mode.
abbrev pub combined : List (List Rec) → Option (List CombinedSegment)
combined ms = option_map (λ l. combined_segments ms l.what) (arranged_places (record { base = 0; frames = Real }) ms)

abbrev pub extent : List ℕ → List ℕ → ℕ → ℕ → CombinedSegment
extent class name start end = record { class = class; name = name; start = start; end = end }
