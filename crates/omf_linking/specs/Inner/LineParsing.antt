-- The entries of the code, and the steps of parsing a line.
use Rattle.std.specs.Prelude.{ℕ, List, [], Option, Some, None}
use Rattle.omf_placement.specs.Inner.EntryReading.{words_of}
use Rattle.omf_linking.specs.Locator.LinkEntries.{Key, Named, OfClass, Numbered, Target, SegmentPlace, StoredPlace, GroupFrame, ExternalPlace, Told, Own, SharedPlace, SharedStored, SharedFrame, LinkEntry, Blank, Opens, Gives, Lays, Frames, Parts, ClassParts, NameParts, NamedParts}
use Rattle.omf_linking.specs.declared.locator.entry.Key.TheVariants as keys
use Rattle.omf_linking.specs.declared.locator.entry.Key as written_key
use Rattle.omf_linking.specs.declared.locator.entry.Target.TheVariants as targets
use Rattle.omf_linking.specs.declared.locator.entry.Target as written_target
use Rattle.omf_linking.specs.declared.locator.entry.Told.TheVariants as tellings
use Rattle.omf_linking.specs.declared.locator.entry.Told as written_told
use Rattle.omf_linking.specs.declared.locator.entry.Parts.TheVariants as several
use Rattle.omf_linking.specs.declared.locator.entry.Parts as written_parts
use Rattle.omf_linking.specs.declared.locator.entry.LinkEntry.TheVariants as code
use Rattle.omf_linking.specs.declared.locator.entry.LinkEntry as written
use denote.Ref.{Bor}

abbrev pub key_seen : written_key.Key → Key
key_seen (keys.Named n) = Named n.now
key_seen (keys.OfClass n c) = OfClass n.now c.now
key_seen (keys.Numbered k) = Numbered k

abbrev pub target_seen : written_target.Target → Target
target_seen (targets.Segment p) = SegmentPlace p
target_seen (targets.Stored p s) = StoredPlace p s
target_seen (targets.Group f) = GroupFrame f
target_seen (targets.External p) = ExternalPlace p

abbrev pub told_seen : written_told.Told → Told
told_seen (tellings.Own t) = Own (target_seen t)
told_seen (tellings.SharedPlace a) = SharedPlace a
told_seen (tellings.SharedStored a s) = SharedStored a s
told_seen tellings.SharedFrame = SharedFrame

abbrev pub parts_seen : written_parts.Parts → Parts
parts_seen (several.OfClass c) = ClassParts c.now
parts_seen (several.OfName n) = NameParts n.now
parts_seen (several.OfBoth n c) = NamedParts n.now c.now

-- An entry of the code.
abbrev pub seen : written.LinkEntry → LinkEntry
seen code.Blank = Blank
seen (code.Opens k) = Opens (key_seen k)
seen (code.Gives k t) = Gives (key_seen k) (told_seen t)
seen (code.Lays ps s) = Lays (parts_seen ps) s
seen (code.Frames n f) = Frames n.now f

-- The words of the text that is left, if any.
abbrev pub words_left : Option (Bor (List ℕ)) → List (List ℕ)
words_left None = []
words_left (Some text) = words_of text.now
