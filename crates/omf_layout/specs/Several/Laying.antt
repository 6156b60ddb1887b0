-- Addresses and frames of the segments of several modules (this profile's rule).
use Rattle.std.specs.Prelude.{ℕ, ◌+◌, List, [], ◌∷◌, map, max, Option, Some, option_map, option_and_then}
use Rattle.omf_records.specs.Values.{Rec}
use Rattle.omf_placement.specs.declared.frame.Frame.{Frame}
use Rattle.omf_placement.specs.declared.frame.Placed.{Placed}
use Rattle.omf_layout.specs.Layout.{Laid, and_then_more, all_laid, segment_laid}
use Rattle.omf_layout.specs.Room.{address_from, frame_at}
use Rattle.omf_layout.specs.Wants.{bytes_aligned}
use Rattle.omf_layout.specs.declared.options.Frames.{Frames}
use Rattle.omf_layout.specs.declared.options.Options.{Options}
use Rattle.omf_layout.specs.declared.several.portion.Combination.TheVariants.{Joined, Common, Alone}
use Rattle.omf_layout.specs.declared.several.portion.Portion.{Portion}
use Rattle.omf_layout.specs.Several.Order.{combined_by, runs}

-- A segment and its place.
abbrev pub Lying : Type 0
Lying = Portion × Placed

abbrev pub laid : {A : Type 0} → A → ℕ → Laid A
laid what free = record { what = what; free = free }

-- What is laid after other things, from the first free address after them.
abbrev pub and_then_after : {A : Type 0} → Option (Laid (List A)) → (ℕ → Option (Laid (List A))) → Option (Laid (List A))
and_then_after first rest = option_and_then (λ l. and_then_more l.what (rest l.free)) first

-- The first free address of a segment's alignment, if the segment fits there.
abbrev pub address_of : Frames → ℕ → Portion → Option ℕ
address_of frames free p = address_from frames (bytes_aligned p.alignment) free p.segment.length

-- Joined segments follow one another, each at its own alignment, all in the frame of the first.
abbrev pub lying_at : Frame → Portion → ℕ → Laid Lying
lying_at frame p a = laid (p, record { address = a; frame = frame }) (a + p.segment.length)

abbrev pub joined_in : Frames → Frame → ℕ → Portion → Option (Laid Lying)
joined_in frames frame free p = option_map (lying_at frame p) (address_of frames free p)

abbrev pub joined_laid : Frames → ℕ → List Portion → Option (Laid (List Lying))
joined_laid frames free [] = Some (laid [] free)
joined_laid frames free (p ∷ ps) = option_and_then (λ a. all_laid (joined_in frames (frame_at frames a)) free (p ∷ ps)) (address_of frames free p)

-- Common segments share one address, at the strictest of their alignments, and take the room of the longest.
abbrev pub strictest : List Portion → ℕ
strictest [] = 1
strictest (p ∷ ps) = max (bytes_aligned p.alignment) (strictest ps)

abbrev pub longest : List Portion → ℕ
longest [] = 0
longest (p ∷ ps) = max p.segment.length (longest ps)

abbrev pub all_at : List Portion → Placed → List Lying
all_at ps place = map (λ p. (p, place)) ps

abbrev pub common_at : Frames → List Portion → ℕ → Laid (List Lying)
common_at frames ps a = laid (all_at ps (record { address = a; frame = frame_at frames a })) (a + longest ps)

abbrev pub common_laid : Frames → ℕ → List Portion → Option (Laid (List Lying))
common_laid frames free [] = Some (laid [] free)
common_laid frames free (p ∷ ps) = option_map (common_at frames (p ∷ ps)) (address_from frames (strictest (p ∷ ps)) free (longest (p ∷ ps)))

-- A segment that is alone has its own frame; an absolute one is where its SEGDEF puts it, and takes no free room.
abbrev pub lying_there : Portion → Laid Placed → Laid Lying
lying_there p l = laid (p, l.what) l.free

abbrev pub alone_laid : Frames → ℕ → Portion → Option (Laid Lying)
alone_laid frames free p = option_map (lying_there p) (segment_laid frames free (p.segment, p.alignment))

-- The segments of one class and name: the joined ones, then the common ones, then those that are alone.
abbrev pub run_laid : Frames → ℕ → List Portion → Option (Laid (List Lying))
run_laid frames free run =
    and_then_after (joined_laid frames free (combined_by Joined run)) (λ after.
    and_then_after (common_laid frames after (combined_by Common run)) (λ last.
    all_laid (alone_laid frames) last (combined_by Alone run)))

-- Runs one after another; and all segments of all modules, from the base on.
abbrev pub runs_laid : Frames → ℕ → List (List Portion) → Option (Laid (List Lying))
runs_laid frames free [] = Some (laid [] free)
runs_laid frames free (r ∷ rs) = and_then_after (run_laid frames free r) (λ after. runs_laid frames after rs)

abbrev pub arranged : Options → List (List Rec) → Option (Laid (List Lying))
arranged o ms = runs_laid o.frames o.base (runs ms)
