-- The places of modules have an entry for each segment and each group.
use Rattle.std.proofs.Common.{◌≡◌, ℕ, zero, suc, ◌+◌, ◌<◌, List, [], ◌∷◌, ◌++◌, length, get_or, sym, ap, subst, ◌∙◌, append_assoc, append-nil, arith}
use Rattle.std.specs.Prelude.{All, Some, Result, Ok, slice_get, zip}
use Rattle.std.specs.List.{AllZip}
use Rattle.std.proofs.lemmas.List.{length-map}
use Rattle.std.proofs.lemmas.List.Elements.{All-nil}
use Rattle.std.proofs.lemmas.Slice.Zip.{AllZip-long}
use Rattle.std.proofs.lemmas.Option.{slice_get-get_or}
use Rattle.omf_records.specs.Values.{Rec}
use Rattle.omf_check.specs.Module.{Module, records_in, typed_modules}
use Rattle.omf_check.specs.Tables.{entry}
use Rattle.omf_check.specs.WellFormed.{recs}
use Rattle.omf_placement.specs.Placement.{Places}
use Rattle.omf_layout.specs.declared.options.Options.{Options}
use Rattle.omf_layout.specs.Layout.{Laid}
use Rattle.omf_layout.specs.Reading.{IsShortFrame, IsShortPlace, AreShort}
use Rattle.omf_placement.proofs.ListLaws.{entry-at}
use Rattle.omf_linking.specs.Locator.Sparse.{sparse}
use Rattle.omf_linking.specs.Placing.{places_of}
use Rattle.omf_layout.specs.Several.Laws.{PlacedLieApart}
use Rattle.omf_layout.specs.Several.Laying.{laid}
use Rattle.omf_layout.specs.Several.Placing.{arranged_places}
use Rattle.omf_layout.proofs.SeveralLaws.FitLaws.{places-lie-apart}
use Rattle.omf_drafting.specs.Fit.{FitsSoFar, FitModules}
use Rattle.omf_drafting.proofs.FitLaws.{places-fit}
use Rattle.omf_drafting.specs.Laws.{IsDraft, DraftsAreRead, DraftsFit, DraftsLieApart}
use Rattle.omf_linking.specs.Locator.Drafted.{HasEntries}
use Rattle.omf_drafting.specs.Reading.{GivesPlaces}
use Rattle.omf_drafting.specs.Text.{link_text}
use Rattle.omf_drafting.proofs.DraftLaws.{link-text-read}

each-has : (ms : List (List Rec)) (pls : List Places) → AllZip FitsSoFar ms pls → AllZip HasEntries ms pls
each-has [] [] f = tt
each-has [] (pl ∷ pls) f = absurd f
each-has (m ∷ ms) [] f = absurd f
each-has (m ∷ ms) (pl ∷ pls) f = (record { segments = f.0.entries.segments; groups = f.0.entries.groups; externals = f.0.no_externals }, each-has ms pls f.1)

pub all-have : (o : Options) (ms : List (List Rec)) (l : Laid (List Places)) → arranged_places o ms ≡ Some l → AllZip HasEntries ms l.what
all-have o ms l h = each-has ms l.what (places-fit o ms l h).so_far

pub drafts-are-read : DraftsAreRead
drafts-are-read o ms l h low few short = link-text-read o.frames ms l.what low (all-have o ms l h) few short

-- The draft's text gives the modules the places that it was made of.
same-value : {A E : Type 0} (r : Result A E) (x y : A) → r ≡ Ok x → r ≡ Ok y → x ≡ y
same-value r x y e f = cc

given-same : (o : Options) (ms : List (List Rec)) (l : Laid (List Places)) (pls : List Places) → IsDraft o ms l → GivesPlaces ms (link_text o.frames ms l.what) pls → l.what ≡ pls
given-same o ms l pls d g =
    let read = drafts-are-read o ms l d.is d.modules d.entries d.short in
    let given = same-value (sparse ms (link_text o.frames ms l.what)) read.given g.given read.reads g.reads in
    same-value (places_of 0 (zip ms g.given)) l.what pls (sym (ap (λ ss. places_of 0 (zip ms ss)) given) ∙ read.places) g.places

pub drafts-fit : DraftsFit
drafts-fit o ms l pls d g = subst (FitModules ms) (given-same o ms l pls d g) (places-fit o ms l d.is)

pub drafts-lie-apart : DraftsLieApart
drafts-lie-apart o ms l pls d g = subst (λ xs. PlacedLieApart o ms (laid xs l.free)) (given-same o ms l pls d g) (places-lie-apart o ms l d.is)

-- The numbers of entries of a module.
pub has-at : (ms : List Module) (pls : List Places) (j : ℕ) (m : Module) (pl : Places) → m ≡ get_or ms j m → pl ≡ get_or pls j pl → j < length ms → AllZip HasEntries (typed_modules ms) pls → HasEntries (recs (records_in m.bytes)) pl
has-at [] pls j m pl a b l h = absurd (omega (arith, l))
has-at (x ∷ ms) [] j m pl a b l h = absurd h
has-at (x ∷ ms) (y ∷ pls) zero m pl a b l h = subst (λ (v : Module). HasEntries (recs (records_in v.bytes)) pl) (sym a) (subst (HasEntries (recs (records_in x.bytes))) (sym b) h.0)
has-at (x ∷ ms) (y ∷ pls) (suc j) m pl a b l h = has-at ms pls j m pl a b (omega (arith, l)) h.1

pub as-many : (ms : List Module) (pls : List Places) → AllZip HasEntries (typed_modules ms) pls → length pls ≡ length ms
as-many ms pls h = AllZip-long HasEntries (typed_modules ms) pls h ∙ length-map ms (λ (m : Module). recs (records_in m.bytes))

-- Places with short numbers.
pub is-short : (m : List Rec) (pl : Places) → HasEntries m pl → All IsShortPlace pl.segments → All IsShortFrame pl.groups → AreShort pl
is-short m pl h s g = record { segments = s; groups = g; externals = subst (All IsShortPlace) (sym h.externals) (All-nil IsShortPlace) }

pub here-at : (pls : List Places) (j : ℕ) (pl : Places) → pl ≡ get_or pls j pl → j < length pls → entry pls (j + 1) ≡ Some pl
here-at pls j pl e low = entry-at pls j ∙ slice_get-get_or pls j pl low ∙ ap Some (sym e)

-- One more part is printed: the line before it, and the part.
pub more-parts : (old mid new front part rest left all : List ℕ) → mid ≡ old ++ front → new ≡ mid ++ part → left ≡ (front ++ part) ++ rest → old ++ left ≡ all → new ++ rest ≡ all
more-parts old mid new front part rest left all e f g h =
    ap (λ t. t ++ rest) (f ∙ ap (λ t. t ++ part) e ∙ append_assoc old front part) ∙ append_assoc old (front ++ part) rest ∙ ap (λ t. old ++ t) (sym g) ∙ h

pub all-parts : (now left all : List ℕ) → left ≡ [] → now ++ left ≡ all → now ≡ all
all-parts now left all e h = sym (append-nil now) ∙ ap (λ t. now ++ t) (sym e) ∙ h

-- What is printed in three steps.
pub three-steps : (t0 t1 t2 a b c : List ℕ) → t1 ≡ t0 ++ a → t2 ≡ t1 ++ b → t2 ++ c ≡ t0 ++ (a ++ b ++ c)
three-steps t0 t1 t2 a b c e f =
    ap (λ t. t ++ c) (f ∙ ap (λ t. t ++ b) e ∙ append_assoc t0 a b) ∙ append_assoc t0 (a ++ b) c

-- The typed records of a module at its number.
typed-slice : (ms : List Module) (j : ℕ) (m : Module) → m ≡ get_or ms j m → j < length ms → slice_get (typed_modules ms) j ≡ Some (recs (records_in m.bytes))
typed-slice [] j m e h = absurd (omega (arith, h))
typed-slice (x ∷ ms) zero m e h = ap (λ (y : Module). Some (recs (records_in y.bytes))) (sym e)
typed-slice (x ∷ ms) (suc j) m e h = typed-slice ms j m e (omega (arith, h))

pub typed-at : (ms : List Module) (j : ℕ) (m : Module) → m ≡ get_or ms j m → j < length ms → entry (typed_modules ms) (j + 1) ≡ Some (recs (records_in m.bytes))
typed-at ms j m e h = entry-at (typed_modules ms) j ∙ typed-slice ms j m e h

pub typed-length : (ms : List Module) → length (typed_modules ms) ≡ length ms
typed-length ms = length-map ms (λ (m : Module). recs (records_in m.bytes))
