-- Layouts and the places of several modules fit their modules.
use Rattle.std.proofs.Common.{◌≡◌, ℕ, suc, ◌+◌, List, [], ◌∷◌, ◌++◌, length, refl, sym, ap, ◌∙◌, subst, arith}
use Rattle.std.specs.Prelude.{map, zip, filter_map, All, Option, Some, None, slice_get}
use Rattle.std.specs.List.{AllZip, enumerate_from}
use Rattle.std.proofs.lemmas.List.{length-map}
use Rattle.std.proofs.lemmas.List.Elements.{All-nil, All-cons, All-head}
use Rattle.std.proofs.lemmas.Option.{none-some, same_Some}
use Rattle.omf_records.specs.Values.{Rec}
use Rattle.omf_check.specs.Tables.{groups, entry}
use Rattle.omf_placement.specs.declared.frame.Placed.{Placed}
use Rattle.omf_placement.specs.Placement.{Places}
use Rattle.omf_placement.specs.Derivation.{KeepsPlace}
use Rattle.omf_placement.proofs.DeriveLaws.{derived-fit}
use Rattle.omf_reloc.specs.Inner.Names.{far_fault}
use Rattle.omf_reloc.specs.declared.fault.Cause.{Cause}
use Rattle.omf_reloc.specs.declared.fault.ReachFault.{ReachFault}
use Rattle.omf_reloc.specs.declared.fault.ReachFault.TheVariants as fault
use Rattle.omf_reloc.specs.Plain.{pieces}
use Rattle.omf_reloc.specs.Laws.{Fits}
use Rattle.omf_reloc.specs.Reach.{causes, all_reference_places, far_faults, reach_fault}
use Rattle.omf_reloc.proofs.ReachLaws.{fits-to}
use Rattle.omf_layout.specs.Layout.{Laid}
use Rattle.omf_layout.specs.declared.options.Options.{Options}
use Rattle.omf_layout.specs.Several.Laying.{Lying, arranged}
use Rattle.omf_layout.specs.Several.Placing.{segments_in, all_segments_in, lows, frame_named, with_frames, all_with_frames}
use Rattle.omf_layout.specs.Several.Portions.{Named, name_at}
use Rattle.omf_layout.proofs.FitLaws.{map_some, segment-count, group-count, external-count, absolute-at as layout-absolute}
use Rattle.omf_layout.proofs.SeveralLaws.FitLaws.{absolute-at, all-placed}
use Rattle.omf_drafting.specs.Fit.{IsFar, FitsModule, LayoutsFit, FitsSoFar, FitModules, PlacesFit}

-- If a placement fits, the first fault is that of a reference.
all-far : (xs : List ((ℕ × ℕ) × Option Cause)) → All IsFar (filter_map far_fault xs)
all-far [] = All-nil IsFar
all-far ((p, None) ∷ xs) = all-far xs
all-far ((p, Some c) ∷ xs) = All-cons IsFar (fault.TooFar p.0 p.1 c) (filter_map far_fault xs) tt (all-far xs)

first-far : (xs : List ReachFault) (f : ReachFault) → All IsFar xs → slice_get xs 0 ≡ Some f → IsFar f
first-far [] f h e = absurd (none-some f e)
first-far (x ∷ xs) f h e = subst IsFar (same_Some x f e) (All-head IsFar x xs h)

no-entry-named : (m : List Rec) (pl : Places) → Fits pl m → (f : ReachFault) → reach_fault pl m ≡ Some f → IsFar f
no-entry-named m pl fit f e = first-far (far_faults pl m) f (all-far (zip (all_reference_places m) (causes pl (pieces m))))
    (ap (λ xs. slice_get (xs ++ far_faults pl m) 0) (sym (fits-to pl m fit)) ∙ e)

pub layouts-fit : LayoutsFit
layouts-fit o m l h =
    let fit : Fits l.places m = record {
      segment_count = segment-count o m l h;
      group_count = group-count o m l h;
      external_count = external-count o m l h;
      absolute = layout-absolute o m l h;
    } in
    record { fits = fit; names_no_entry = no-entry-named m l.places fit }

module _ (o : Options) (ms : List (List Rec)) (k : Laid (List Lying)) (h : arranged o ms ≡ Some k) where
  abbrev all_places : List Places
  all_places = all_with_frames o.frames ms (all_segments_in k.what ms)

  abbrev all_lows : List (Named Placed)
  all_lows = lows ms (all_segments_in k.what ms)

  fit-from : (named : List (Named Placed)) (a : ℕ) (ns : List (List Rec)) → ((i : ℕ) → slice_get ns i ≡ slice_get ms (a + i)) → AllZip FitsSoFar ns (map (with_frames o.frames named) (zip ns (map (segments_in k.what) (enumerate_from a ns))))
  fit-from named a [] e = tt
  fit-from named a (m ∷ ns) e =
      let same : a + 0 ≡ a = omega arith in (
        record {
          entries = record {
            segments = all-placed o ms k h a m (ap (slice_get ms) (sym same) ∙ sym (e 0));
            groups = length-map (groups m) (λ g. frame_named o.frames named (name_at m g.name.item));
          };
          no_externals = refl;
          absolute = absolute-at o ms k h a m (ap (slice_get ms) (sym same) ∙ sym (e 0));
        },
        fit-from named (a + 1) ns (λ i. let next : a + suc i ≡ a + 1 + i = omega arith in e (suc i) ∙ ap (slice_get ms) next),
      )

  all-fit-so-far : AllZip FitsSoFar ms all_places
  all-fit-so-far = fit-from all_lows 0 ms (λ i. let same : i ≡ 0 + i = omega arith in ap (slice_get ms) same)

-- A derived placement fits its module too.
fits-whole : (m : List Rec) (pl all : Places) → FitsSoFar m pl → KeepsPlace (m, pl) all → FitsModule m all
fits-whole m pl all f k =
    let fit : Fits all m = record {
      segment_count = ap length k.segments ∙ f.entries.segments;
      group_count = ap length k.groups ∙ f.entries.groups;
      external_count = k.external_count;
      absolute = λ i number offset s e a. ap (λ xs. entry xs i) k.segments ∙ f.absolute i number offset s e a;
    } in
    record { fits = fit; names_no_entry = no-entry-named m all fit }

all-fit : (ms : List (List Rec)) (pls all : List Places) → AllZip FitsSoFar ms pls → AllZip KeepsPlace (zip ms pls) all → AllZip FitsModule ms all
all-fit [] pls [] f k = tt
all-fit [] pls (a ∷ all) f k = absurd k
all-fit (m ∷ ms) [] all f k = absurd f
all-fit (m ∷ ms) (pl ∷ pls) [] f k = absurd k
all-fit (m ∷ ms) (pl ∷ pls) (a ∷ all) f k = (fits-whole m pl a f.0 k.0, all-fit ms pls all f.1 k.1)

pub places-fit : PlacesFit
places-fit o ms l h = map_some _ (arranged o ms) l h (λ k e g.
    let so_far = all-fit-so-far o ms k e in
    subst (λ (q : Laid (List Places)). FitModules ms q.what) g (record {
      so_far = so_far;
      derivations = λ given all d. all-fit ms (all_places o ms k e) all so_far (derived-fit (zip ms (all_places o ms k e)) given all d);
    }))
