-- An input has at most one result.
use Rattle.std.proofs.Common.{◌≡◌, ◌⊎◌, ℕ, true, false, List, [], ◌∷◌, ◌++◌, length, refl, sym, ap, ap₂, subst, ◌∙◌, suc, ◌<◌, arith, inl, inr, Ok, Err}
use Rattle.std.specs.Prelude.{IsTrue, slice_index}
use Rattle.std.proofs.lemmas.List.{append_cancel_left}
use Rattle.omf_frame.specs.Framing.{is_header}
use Rattle.omf_frame.specs.declared.fault.Place.{Place}
use Rattle.omf_frame.specs.declared.fault.Reason.{Reason}
use Rattle.omf_image.specs.Limits.{profile_limits}
use Rattle.omf_check.specs.Module.{Module, records_in}
use Rattle.omf_check.specs.Refusal.{IsRefused}
use Rattle.omf_check.specs.declared.profile.Profile.{Profile}
use Rattle.omf_check.proofs.AcceptLaws.{accepted_once, never_both}
use Rattle.omf_check.proofs.UniqueLaws.{refused_once}
use Rattle.omf_linking.specs.Laws.{InputsAreReadOneWay}
use Rattle.omf_linking.specs.Reading.{BeginsWith, IsFront, IsNoTextBehind, IsRefusedBehind, begins_module, is_text, unpadded}
use Rattle.omf_linking.specs.declared.fault.LinkFault.TheVariants as fault

-- a module begins with a header's type
header_begins : (bytes rest : List ℕ) → IsTrue (is_header (slice_index bytes 0)) → begins_module (bytes ++ rest) ≡ true
header_begins [] rest h = absurd cc
header_begins (b ∷ bs) rest h = h

module _ (p : Profile) where
  begins : (input : List ℕ) (m : Module) → BeginsWith p input m → begins_module input ≡ true
  begins input m a = ap begins_module a.1.0.spelled ∙ header_begins a.1.0.bytes a.1.0.rest a.1.0.well_formed.framed.first

  -- bytes begin with at most one module, and go on in one way
  one_module : (input : List ℕ) (m n : Module) (a : BeginsWith p input m) (b : BeginsWith p input n) → (m ≡ n) × (a.1.0.rest ≡ b.1.0.rest)
  one_module input m n a b =
      let same = (accepted_once p profile_limits input (records_in m.bytes) (records_in n.bytes) a.1.0 b.1.0).1 in
      let bytes : m.bytes ≡ n.bytes = sym a.1.1 ∙ same ∙ b.1.1 in
      let both : a.1.0.bytes ++ a.1.0.rest ≡ a.1.0.bytes ++ b.1.0.rest = sym a.1.0.spelled ∙ b.1.0.spelled ∙ ap (λ (xs : List ℕ). xs ++ b.1.0.rest) (sym same) in
      (ap₂ (λ (xs : List ℕ) (q : Profile). record { bytes = xs; profile = q }) bytes (a.0 ∙ sym b.0), append_cancel_left a.1.0.bytes a.1.0.rest b.1.0.rest both)

  never : (input : List ℕ) (m : Module) (why : Reason) (at : Place) → BeginsWith p input m → IsRefused p profile_limits input why at → ⊥
  never input m why at a r = never_both p profile_limits input (records_in m.bytes) why at a.1.0 r

  -- no further module begins after these
  stops : (input : List ℕ) (m : Module) → BeginsWith p input m → begins_module input ≡ false → ⊥
  stops input m a f = let e : true ≡ false = sym (begins input m a) ∙ f in absurd cc

  -- two results of one input
  both_end : (input : List ℕ) (ms ns : List Module) (r s : List ℕ) → IsFront p input ms r → IsFront p input ns s → begins_module r ≡ false → begins_module s ≡ false → (ms ≡ ns) × (r ≡ s)
  both_end input [] [] r s h i e f = (refl, sym h ∙ i)
  both_end input [] (n ∷ ns) r s h i e f = absurd (stops input n i.0 (ap begins_module h ∙ e))
  both_end input (m ∷ ms) [] r s h i e f = absurd (stops input m h.0 (ap begins_module i ∙ f))
  both_end input (m ∷ ms) (n ∷ ns) r s h i e f =
      let one = one_module input m n h.0 i.0 in
      let left : IsFront p (unpadded h.0.1.0.rest) ns s = subst (λ (xs : List ℕ). IsFront p (unpadded xs) ns s) (sym one.1) i.1 in
      let more = both_end (unpadded h.0.1.0.rest) ms ns r s h.1 left e f in
      (ap₂ (λ (x : Module) (xs : List Module). x ∷ xs) one.0 more.0, more.1)

  -- none is both read to its end and refused
  one_ends : (input : List ℕ) (ms ns : List Module) (r s : List ℕ) (why : Reason) (at : Place) → IsFront p input ms r → begins_module r ≡ false → IsFront p input ns s → begins_module s ≡ true
      → IsRefused p profile_limits s why at → ⊥
  one_ends input [] [] r s why at h e i b f = let x : true ≡ false = sym b ∙ ap begins_module (sym i ∙ h) ∙ e in absurd cc
  one_ends input [] (n ∷ ns) r s why at h e i b f = stops input n i.0 (ap begins_module h ∙ e)
  one_ends input (m ∷ ms) [] r s why at h e i b f = never input m why at h.0 (subst (λ (xs : List ℕ). IsRefused p profile_limits xs why at) (sym i) f)
  one_ends input (m ∷ ms) (n ∷ ns) r s why at h e i b f =
      let one = one_module input m n h.0 i.0 in
      let left : IsFront p (unpadded h.0.1.0.rest) ns s = subst (λ (xs : List ℕ). IsFront p (unpadded xs) ns s) (sym one.1) i.1 in
      one_ends (unpadded h.0.1.0.rest) ms ns r s why at h.1 e left b f

  -- a first module is expected in any case
  begun_ends : (input : List ℕ) (ms ns : List Module) (r s : List ℕ) (why : Reason) (at : Place) → IsFront p input ms r → begins_module r ≡ false → 0 < length ms → IsFront p input ns s
      → (ns ≡ []) ⊎ (begins_module s ≡ true) → IsRefused p profile_limits s why at → ⊥
  begun_ends input [] ns r s why at h e l i b f = absurd (omega (arith, l))
  begun_ends input (m ∷ ms) ns r s why at h e l i (inr b) f = one_ends input (m ∷ ms) ns r s why at h e i b f
  begun_ends input (m ∷ ms) ns r s why at h e l i (inl none) f =
      let whole : input ≡ s = subst (λ (xs : List Module). IsFront p input xs s) none i in
      never input m why at h.0 (subst (λ (xs : List ℕ). IsRefused p profile_limits xs why at) (sym whole) f)

  -- it is refused in one place
  both_refused : (input : List ℕ) (ms ns : List Module) (r s : List ℕ) (why other : Reason) (at there : Place) → IsFront p input ms r → IsRefused p profile_limits r why at → IsFront p input ns s
      → IsRefused p profile_limits s other there → (length ms ≡ length ns) × (r ≡ s)
  both_refused input [] [] r s why other at there h f i g = (refl, sym h ∙ i)
  both_refused input [] (n ∷ ns) r s why other at there h f i g = absurd (never input n why at i.0 (subst (λ (xs : List ℕ). IsRefused p profile_limits xs why at) (sym h) f))
  both_refused input (m ∷ ms) [] r s why other at there h f i g = absurd (never input m other there h.0 (subst (λ (xs : List ℕ). IsRefused p profile_limits xs other there) (sym i) g))
  both_refused input (m ∷ ms) (n ∷ ns) r s why other at there h f i g =
      let one = one_module input m n h.0 i.0 in
      let left : IsFront p (unpadded h.0.1.0.rest) ns s = subst (λ (xs : List ℕ). IsFront p (unpadded xs) ns s) (sym one.1) i.1 in
      let more = both_refused (unpadded h.0.1.0.rest) ms ns r s why other at there h.1 f left g in
      (ap suc more.0, more.1)

  refused_so : (input : List ℕ) (j k : ℕ) (why other : Reason) (at there : Place) → IsRefusedBehind p input j why at → IsRefusedBehind p input k other there
      → (j ≡ k) × ((why ≡ other) × (at ≡ there))
  refused_so input j k why other at there a b =
      let same = both_refused input a.modules b.modules a.rest b.rest why other at there a.front a.refused b.front b.refused in
      (sym a.counted ∙ same.0 ∙ b.counted, refused_once p profile_limits a.rest why other at there a.refused (subst (λ (xs : List ℕ). IsRefused p profile_limits xs other there) (sym same.1) b.refused))

  -- none is both read to its end and no text
  text_ends : (input : List ℕ) (ms : List Module) (r : List ℕ) (at : ℕ) → IsFront p input ms r → begins_module r ≡ false → is_text r ≡ true → IsNoTextBehind p input at → ⊥
  text_ends input ms r at h e t n =
      let same = both_end input ms n.modules r n.rest h n.front e n.ended in
      let x : true ≡ false = sym t ∙ ap is_text same.1 ∙ n.strange in
      absurd cc

  strange_once : (input : List ℕ) (at there : ℕ) → IsNoTextBehind p input at → IsNoTextBehind p input there → at ≡ there
  strange_once input at there a b =
      let same = both_end input a.modules b.modules a.rest b.rest a.front b.front a.ended b.ended in
      let long = ap length same.1 in
      omega (arith, long, a.counted, b.counted)

  refused_ends : (input : List ℕ) (k at : ℕ) (why : Reason) (place : Place) → IsNoTextBehind p input at → IsRefusedBehind p input k why place → ⊥
  refused_ends input k at why place n r = begun_ends input n.modules r.modules n.rest r.rest why place n.front n.ended n.some r.front r.begun r.refused

pub one_reading : InputsAreReadOneWay
one_reading p input (Ok a) (Ok b) s t h i =
    let same = both_end p input a.0 b.0 a.1 b.1 h.0 i.0 h.1 i.1 in
    ap₂ (λ (ms : List Module) (text : List ℕ). Ok (ms, text)) same.0 same.1
one_reading p input (Ok a) (Err (fault.Refused k why at)) s t h i = absurd (begun_ends p input a.0 i.modules a.1 i.rest why at h.0 h.1 h.2 i.front i.begun i.refused)
one_reading p input (Err (fault.Refused k why at)) (Ok b) s t h i = absurd (begun_ends p input b.0 h.modules b.1 h.rest why at i.0 i.1 i.2 h.front h.begun h.refused)
one_reading p input (Err (fault.Refused j why at)) (Err (fault.Refused k other there)) s t h i =
    let same = refused_so p input j k why other at there h i in
    ap₂ (λ (n : ℕ) (f : Reason × Place). Err (fault.Refused n f.0 f.1)) same.0 (ap₂ (λ (w : Reason) (q : Place). (w, q)) same.1.0 same.1.1)
one_reading p input (Ok a) (Err (fault.NoText at)) s t h i = absurd (text_ends p input a.0 a.1 at h.0 h.1 h.3 i)
one_reading p input (Err (fault.NoText at)) (Ok b) s t h i = absurd (text_ends p input b.0 b.1 at i.0 i.1 i.3 h)
one_reading p input (Err (fault.NoText at)) (Err (fault.NoText there)) s t h i = ap (λ (n : ℕ). Err (fault.NoText n)) (strange_once p input at there h i)
one_reading p input (Err (fault.Refused k why place)) (Err (fault.NoText at)) s t h i = absurd (refused_ends p input k at why place i h)
one_reading p input (Err (fault.NoText at)) (Err (fault.Refused k why place)) s t h i = absurd (refused_ends p input k at why place h i)
one_reading p input (Ok a) (Err fault.Memory) s t h i = absurd cc
one_reading p input (Ok a) (Err fault.Read) s t h i = absurd i
one_reading p input (Ok a) (Err fault.NoModules) s t h i = absurd i
one_reading p input (Ok a) (Err (fault.Line n why)) s t h i = absurd i
one_reading p input (Ok a) (Err (fault.External f)) s t h i = absurd i
one_reading p input (Ok a) (Err (fault.Reach l f)) s t h i = absurd i
one_reading p input (Ok a) (Err (fault.Starts l k)) s t h i = absurd i
one_reading p input (Ok a) (Err (fault.Space f)) s t h i = absurd i
one_reading p input (Err (fault.Refused j why at)) (Err fault.Memory) s t h i = absurd cc
one_reading p input (Err (fault.Refused j why at)) (Err fault.Read) s t h i = absurd i
one_reading p input (Err (fault.Refused j why at)) (Err fault.NoModules) s t h i = absurd i
one_reading p input (Err (fault.Refused j why at)) (Err (fault.Line n line)) s t h i = absurd i
one_reading p input (Err (fault.Refused j why at)) (Err (fault.External f)) s t h i = absurd i
one_reading p input (Err (fault.Refused j why at)) (Err (fault.Reach l f)) s t h i = absurd i
one_reading p input (Err (fault.Refused j why at)) (Err (fault.Starts l k)) s t h i = absurd i
one_reading p input (Err (fault.Refused j why at)) (Err (fault.Space f)) s t h i = absurd i
one_reading p input (Err (fault.NoText at)) (Err fault.Memory) s t h i = absurd cc
one_reading p input (Err (fault.NoText at)) (Err fault.Read) s t h i = absurd i
one_reading p input (Err (fault.NoText at)) (Err fault.NoModules) s t h i = absurd i
one_reading p input (Err (fault.NoText at)) (Err (fault.Line n why)) s t h i = absurd i
one_reading p input (Err (fault.NoText at)) (Err (fault.External f)) s t h i = absurd i
one_reading p input (Err (fault.NoText at)) (Err (fault.Reach l f)) s t h i = absurd i
one_reading p input (Err (fault.NoText at)) (Err (fault.Starts l k)) s t h i = absurd i
one_reading p input (Err (fault.NoText at)) (Err (fault.Space f)) s t h i = absurd i
one_reading p input (Err fault.Memory) other s t h i = absurd cc
one_reading p input (Err fault.Read) other s t h i = absurd h
one_reading p input (Err fault.NoModules) other s t h i = absurd h
one_reading p input (Err (fault.Line n why)) other s t h i = absurd h
one_reading p input (Err (fault.External f)) other s t h i = absurd h
one_reading p input (Err (fault.Reach l f)) other s t h i = absurd h
one_reading p input (Err (fault.Starts l k)) other s t h i = absurd h
one_reading p input (Err (fault.Space f)) other s t h i = absurd h
