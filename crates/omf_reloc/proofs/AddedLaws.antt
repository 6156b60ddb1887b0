-- If a placement reaches, every fixup has something to add.
use Rattle.std.proofs.Common.{◌≡◌, ℕ, List, [], ◌∷◌, ◌++◌, refl, sym, subst}
use Rattle.std.specs.Prelude.{All, map, Option, Some, None, Result, Ok, Err, IsOk}
use Rattle.std.proofs.lemmas.List.Elements.{All-nil, All-cons, All-head, All-tail}
use Rattle.std.proofs.lemmas.Option.{none-some}
use Rattle.omf_records.specs.Values.{Rec, DataItem}
use Rattle.omf_reloc.specs.declared.fault.Cause.{Cause}
use Rattle.omf_reloc.specs.Laws.{AllAreAdded, AllReach}
use Rattle.std.specs.Result.{result_err}
use Rattle.omf_reloc.specs.Offsets.{outcome, start_outcome}
use Rattle.omf_placement.specs.Placement.{Places}
use Rattle.omf_reloc.specs.Plain.{Piece, Kept, End, PlainFixup, data_contents, fixups_of_data}
use Rattle.omf_reloc.specs.Reach.{causes, piece_causes}
use Rattle.omf_reloc.specs.Inner.Names.{causes_at}

abbrev pub IsFine : Option Cause → Type 0
IsFine c = c ≡ None

pub left : (xs ys : List (Option Cause)) → All IsFine (xs ++ ys) → All IsFine xs
left [] ys h = All-nil IsFine
left (x ∷ xs) ys h = All-cons IsFine x xs (All-head IsFine x (xs ++ ys) h) (left xs ys (All-tail IsFine x (xs ++ ys) h))

pub right : (xs ys : List (Option Cause)) → All IsFine (xs ++ ys) → All IsFine ys
right [] ys h = h
right (x ∷ xs) ys h = right xs ys (All-tail IsFine x (xs ++ ys) h)

pub fine-ok : {A : Type 0} (r : Result A Cause) → result_err r ≡ None → IsOk r
fine-ok (Ok a) h = refl
fine-ok (Err c) h = absurd (none-some c (sym h))

pub fine-all : (pl : Places) (d : DataItem) (fs : List (ℕ × PlainFixup)) → All IsFine (map (λ f. result_err (outcome pl d f)) fs) → All (λ f. IsOk (outcome pl d f)) fs
fine-all pl d [] h = All-nil (λ f. IsOk (outcome pl d f))
fine-all pl d (f ∷ fs) h =
    let rest = map (λ g. result_err (outcome pl d g)) fs in
    All-cons (λ g. IsOk (outcome pl d g)) f fs (fine-ok (outcome pl d f) (All-head IsFine (result_err (outcome pl d f)) rest h)) (fine-all pl d fs (All-tail IsFine (result_err (outcome pl d f)) rest h))

module _ (pl : Places) where
  -- What holds for all causes holds for those of one piece.
  of-piece : (before after : List Piece) (p : Piece) → All IsFine (causes pl (before ++ p ∷ after)) → All IsFine (piece_causes pl p after)
  of-piece [] after p h = left (piece_causes pl p after) (causes pl after) h
  of-piece (q ∷ before) after p h = of-piece before after p (right (piece_causes pl q (before ++ p ∷ after)) (causes pl (before ++ p ∷ after)) h)

  of-data : (o : Option DataItem) (d : DataItem) (after : List Piece) → o ≡ Some d → All IsFine (causes_at pl o after) → All (λ f. IsOk (outcome pl d f)) (fixups_of_data after)
  of-data o d after e h = fine-all pl d (fixups_of_data after) (subst (λ x. All IsFine (causes_at pl x after)) e h)

  pub all-added : (m : List Rec) → AllReach pl m → AllAreAdded pl m
  all-added m r = record {
    fixups = λ before after q d e g. of-data (data_contents q.contents) d after g (of-piece before after (Kept q) (subst (λ ps. All IsFine (causes pl ps)) e r.each));
    start = λ before after kind byte q e. fine-ok (start_outcome pl kind q)
        (All-head IsFine (result_err (start_outcome pl kind q)) [] (of-piece before after (End kind byte (Some q)) (subst (λ ps. All IsFine (causes pl ps)) e r.each)));
  }
