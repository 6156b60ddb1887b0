-- The pieces of a module, each with the segment of the data before it.
use Rattle.std.proofs.Common.{◌≡◌, ℕ, List, [], ◌∷◌, ◌++◌, refl, sym, ◌∙◌, ap}
use Rattle.std.specs.Prelude.{Option, Some, None, filter_map, option_map}
use Rattle.std.specs.List.{cons_option, last_or}
use Rattle.std.specs.Option.{option_or}
use Rattle.omf_frame.specs.Bytes.{with_before}
use Rattle.omf_frame.specs.declared.fault.Place.{Place}
use Rattle.omf_records.specs.Values.{DataItem}
use Rattle.omf_reloc.specs.Plain.{Piece, data_of}
use Rattle.omf_output.specs.Inner.Walked.{located_from, segment_after}
use Rattle.omf_output.specs.Located.{Located, last_segment, located, located_after}

abbrev data_in : List (Place × Piece) → List DataItem
data_in ps = filter_map (λ x. data_of x.1) ps

abbrev segment_of : Option DataItem → Option ℕ
segment_of o = option_map (λ d. d.segment.item) o

-- The segment of the last data record, with one more piece.
one-more : (o d : Option DataItem) → segment_of (last_or o (cons_option d [])) ≡ option_or (segment_of d) (segment_of o)
one-more o None = refl
one-more o (Some d) = refl

segment-more : (ps : List (Place × Piece)) (x : Place × Piece) (o : Option DataItem) → segment_of (last_or o (data_in (ps ++ x ∷ []))) ≡ segment_after x.1 (segment_of (last_or o (data_in ps)))
segment-more [] x o = one-more o (data_of x.1)
segment-more (y ∷ ps) x o = by (data_of y.1) (segment-more ps x)
  where
    by : (d : Option DataItem) → ((q : Option DataItem) → segment_of (last_or q (data_in (ps ++ x ∷ []))) ≡ segment_after x.1 (segment_of (last_or q (data_in ps)))) → segment_of (last_or o (cons_option d (data_in (ps ++ x ∷ [])))) ≡ segment_after x.1 (segment_of (last_or o (cons_option d (data_in ps))))
    by None rest = rest o
    by (Some d) rest = rest (Some d)

walked-after : (before xs : List (Place × Piece)) → with_before located_after before xs ≡ located_from (last_segment before) xs
walked-after before [] = refl
walked-after before (x ∷ xs) =
    ap (λ l. let here : Located = record { place = x.0; segment = last_segment before; piece = x.1 } in here ∷ l)
    (walked-after (before ++ x ∷ []) xs ∙ ap (λ s. located_from s xs) (segment-more before x None))

pub walked : (xs : List (Place × Piece)) → located_from None xs ≡ located xs
walked xs = sym (walked-after [] xs)
