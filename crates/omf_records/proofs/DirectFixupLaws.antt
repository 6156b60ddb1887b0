-- A FIXUP that uses no thread has the numbers that are read field by field.
use Rattle.std.proofs.Common.{◌≡◌, ℕ, ◌+◌, ◌*◌, ◌<◌, ◌≤◌, Bool, true, false, List, [], ◌∷◌, length, sym, ap, ◌∙◌, Ok, is_ok}
use Rattle.std.specs.Prelude.{not, nat_lt, ◌||◌, unwrap_or}
use Rattle.std.proofs.lemmas.Bool.{ltb-true}
use Rattle.omf_records.specs.Inner.Names.{has_frame_datum, has_no_displacement}
use Rattle.omf_records.specs.declared.direct_fixup.DirectFixup.{DirectFixup}
use Rattle.omf_records.specs.declared.here.Here.{Here}
use Rattle.omf_records.specs.Inner.DirectFixups.{index_or_zero, IsDirectFixup, GivesDirect}
use Rattle.omf_records.specs.Inner.Each.{each_turn, with_first, with_first_ok}
use Rattle.omf_records.specs.Entries.{wrong_methods, wrong_location, is_frame_method}
use Rattle.omf_records.specs.Inner.EntryReaders.{datum_reader, displacement_reader, subrecord_reader, subrecord_shrinks}
use Rattle.omf_records.specs.Inner.Passing.{Passes}
use Rattle.omf_records.specs.Inner.Reads.{after, or_none}
use Rattle.omf_records.specs.Values.{At, Subrecord, Fixup, frame_by_thread, frame_bits, target_by_thread, target_bits}
use Rattle.omf_records.proofs.DirectLaws.{items_at, no-reason}
use Rattle.omf_records.proofs.PassingLaws.{all-passed, not-empty, second}

pub reads : (wide : Bool) (at : ℕ) (bytes : List ℕ) (h l f : ℕ) (tail : List ℕ) (parts : bytes ≡ h ∷ l ∷ f ∷ tail) (d : DirectFixup)
    → 128 ≤ h → wrong_location (h * 256 + l) ≡ [] → h * 256 + l ≡ d.location
    → wrong_methods f ≡ [] → frame_by_thread f ≡ false → target_by_thread f ≡ false → d.fix ≡ f
    → (v : Bool) → v ≡ wide → (w : ℕ) → w ≡ at + 3 → (passed : List ℕ) → passed ≡ tail
    → (h1 : Here) → Passes (λ e. index_or_zero e ≡ d.frame) v ((datum_reader (has_frame_datum f)).read w passed) h1
    → (h2 : Here) → Passes (λ e. index_or_zero e ≡ d.target) h1.wide ((datum_reader true).read h1.within h1.bytes.now) h2
    → (there : Bool) → there ≡ not (has_no_displacement f)
    → (h3 : Here) → Passes (λ e. unwrap_or e 0 ≡ d.displacement) h2.wide ((displacement_reader h2.wide there).read h2.within h2.bytes.now) h3
    → Passes (IsDirectFixup d) wide ((subrecord_reader wide).read at bytes) h3
reads wide at bytes h l f tail parts d high place number methods own_frame own_target fix v same w e passed t h1 p1 h2 p2 there s h3 p3 =
    let kind : target_bits f < 3 = ltb-true (target_bits f) 3 (second (target_by_thread f) (nat_lt (target_bits f) 3) own_target (no-reason (frame_by_thread f || is_frame_method (frame_bits f)) (target_by_thread f || nat_lt (target_bits f) 3) methods).1) in
    let still : h2.wide ≡ wide = p2.same ∙ p1.same ∙ same in
    let read1 = ap (λ (b : List ℕ). (datum_reader (has_frame_datum f)).read w b) (sym t) ∙ p1.is in
    let read3 = ap (λ b. (displacement_reader b (not (has_no_displacement f))).read h2.within h2.bytes.now) (sym still)
    ∙ ap (λ b. (displacement_reader h2.wide b).read h2.within h2.bytes.now) (sym s) ∙ p3.is in
    record {
      value = Fixup (h * 256 + l) (record { fix = record { within = at + 2; item = f }; frame = p1.value; target = p2.value; displacement = p3.value });
      is = ap (λ (b : List ℕ). (subrecord_reader wide).read at b) parts
          ∙ all-passed wide at h l f tail high place methods own_frame own_target kind w e p1.value h1.within h1.bytes.now read1 p2.value h2.within h2.bytes.now p2.is p3.value h3.within h3.bytes.now read3;
      same = p3.same ∙ still;
      holds = (number, record { own_frame = own_frame; own_target = own_target; fix = sym fix; frame = p1.holds; target = p2.holds; displacement = p3.holds });
    }

-- ---- it is the next of a record's subrecords, which are valid

module _ (d : DirectFixup) (from here : Here) (old : List (At Subrecord)) (was : Ok old ≡ items_at from)
    (p : Passes (IsDirectFixup d) from.wide ((subrecord_reader from.wide).read from.within from.bytes.now) here) where
  x : At Subrecord
  x = record { within = from.within; item = p.value }

  step : items_at from ≡ with_first x (items_at here)
  unfolding x
  step =
      let t = after p.value here.within here.bytes.now in
      let less = subrecord_shrinks from.wide from.within from.bytes.now t p.is in
      each_turn (λ w. (subrecord_reader w).read) subrecord_shrinks from.wide here.wide from.within from.bytes.now t p.same (not-empty from.bytes.now (length here.bytes.now) less) p.is

  pub others-valid : is_ok (items_at here) ≡ true
  others-valid = with_first_ok x (items_at here) (sym (ap is_ok (was ∙ step)))

  pub gives-direct : (new : List (At Subrecord)) → Ok new ≡ items_at here → (within : ℕ) → within ≡ from.within → GivesDirect old within d new
  unfolding x
  gives-direct new is within same =
      let given : old ≡ record { within = from.within; item = p.value } ∷ new = ap or_none (was ∙ step ∙ ap (with_first x) (sym is)) in
      record { next = p.value; gives = rw same given; direct = p.holds }
