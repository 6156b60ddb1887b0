-- The modules of files, one file after another.
use Rattle.std.proofs.Common.{◌≡◌, ℕ, suc, ◌+◌, ◌<◌, ◌≤◌, ◌^◌, false, List, [], ◌∷◌, ◌++◌, length, take, get_or, refl, sym, ap, subst, ◌∙◌, append_assoc, append-nil, arith}
use Rattle.std.specs.Prelude.{Result, Ok, Err, Some, IfErr, OnOk, slice_get}
use Rattle.std.proofs.lemmas.List.{take_all}
use Rattle.std.proofs.lemmas.Option.{slice_get-get_or}
use Rattle.std.proofs.Math.Seq.{take-suc}
use Rattle.omf_linking.specs.Inner.Gathering.{IsGathered}
use Rattle.omf_check.specs.Module.{Module}
use Rattle.omf_check.specs.declared.profile.Profile.{Profile}
use Rattle.omf_linking.specs.File.{InputFile}
use Rattle.omf_linking.specs.Files.{HasMore, HaveModules, IsFile}
use Rattle.omf_linking.specs.Reading.{AreModules, IsNoTextBehind, is_text}
use Rattle.omf_linking.specs.declared.fault.LinkFault.{LinkFault}
use Rattle.omf_linking.specs.declared.fault.LinkFault.TheVariants as fault

-- one more file
pub have_more : (p : Profile) (fs : List InputFile) (ms : List Module) (f : InputFile) (own : List Module) → HaveModules p fs ms → IsFile p f.bytes (Ok own) → HaveModules p (fs ++ f ∷ []) (ms ++ own)
have_more p [] ms f own h i = (own, [], i, refl, ap (λ (xs : List Module). xs ++ own) h ∙ sym (append-nil own))
have_more p (g ∷ gs) ms f own (first, others, j, rest, e) i = (first, others ++ own, j, have_more p gs others f own rest i, ap (λ (xs : List Module). xs ++ own) e ∙ append_assoc first others own)

-- what is no text is something
strange_is_some : (rest : List ℕ) → is_text rest ≡ false → 0 < length rest
strange_is_some [] e = absurd cc
strange_is_some (b ∷ bs) e = omega arith

is_more : (p : Profile) (bytes : List ℕ) (at : ℕ) → IsNoTextBehind p bytes at → HasMore p bytes at
is_more p bytes at n = record { modules = n.modules; rest = n.rest; front = n.front; some = n.some; ended = n.ended; left = strange_is_some n.rest n.strange; counted = n.counted }

-- a file whose modules are refused, or which holds more
pub file_fails : (p : Profile) (bytes : List ℕ) (f : LinkFault) → AreModules p bytes (Err f) → IsFile p bytes (Err f)
file_fails p bytes fault.Memory h = tt
file_fails p bytes fault.Read h = absurd h
file_fails p bytes (fault.Refused k why at) h = h
file_fails p bytes (fault.NoText at) h = is_more p bytes at h
file_fails p bytes fault.NoModules h = absurd h
file_fails p bytes (fault.Line n why) h = absurd h
file_fails p bytes (fault.External f) h = absurd h
file_fails p bytes (fault.Reach k f) h = absurd h
file_fails p bytes (fault.Starts j k) h = absurd h
file_fails p bytes (fault.Space f) h = absurd h

pub file_has_more : (p : Profile) (bytes : List ℕ) (ms : List Module) (rest : List ℕ) (at : ℕ) → AreModules p bytes (Ok (ms, rest)) → 0 < length rest → at + length rest ≡ length bytes → IsFile p bytes (Err (fault.NoText at))
file_has_more p bytes ms rest at h some c = record { modules = ms; rest = rest; front = h.0; some = h.2; ended = h.1; left = some; counted = c }

-- nothing is left
pub file_holds : (p : Profile) (bytes : List ℕ) (ms : List Module) (rest : List ℕ) → length rest ≡ 0 → AreModules p bytes (Ok (ms, rest)) → IsFile p bytes (Ok ms)
file_holds p bytes ms [] e h = (h.0, h.2)
file_holds p bytes ms (b ∷ bs) e h = absurd (omega (arith, e))

-- the modules of a file were added, or memory ran out
pub gathered : (p : Profile) (bytes : List ℕ) (old own new : List Module) (r : Result (Unit {0}) LinkFault) → IsFile p bytes (Ok own) → OnOk r (new ≡ old ++ own) → OnOk r (length new < 2 ^ 32) → IfErr r (λ f. f ≡ fault.Memory)
    → IsGathered p bytes old new r
gathered p bytes old own new (Ok done) h m f c = (own, h, m, f)
gathered p bytes old own new (Err g) h m f c = subst (λ (x : LinkFault). IsFile p bytes (Err x)) (sym c) tt

-- one more file of the list
pub file_added : (p : Profile) (fs : List InputFile) (i : ℕ) (f : InputFile) (ms own now : List Module) → i < length fs → f ≡ get_or fs i f → HaveModules p (take i fs) ms → IsFile p f.bytes (Ok own) → now ≡ ms ++ own → HaveModules p (take (i + 1) fs) now
file_added p fs i f ms own now low is h j e =
    let after : i + 1 ≡ suc i = omega arith in
    let next : take (i + 1) fs ≡ take i fs ++ f ∷ [] = ap (λ (n : ℕ). take n fs) after ∙ take-suc fs i f low ∙ ap (λ (x : InputFile). take i fs ++ x ∷ []) (sym is) in
    subst (λ (xs : List InputFile). HaveModules p xs now) (sym next) (subst (λ (ns : List Module). HaveModules p (take i fs ++ f ∷ []) ns) (sym e) (have_more p (take i fs) ms f own h j))

pub all_added : (p : Profile) (fs : List InputFile) (i : ℕ) (ms : List Module) → length fs ≤ i → HaveModules p (take i fs) ms → HaveModules p fs ms
all_added p fs i ms high h = subst (λ (xs : List InputFile). HaveModules p xs ms) (take_all i fs high) h

pub is_found : (fs : List InputFile) (i : ℕ) (f : InputFile) → i < length fs → f ≡ get_or fs i f → slice_get fs i ≡ Some f
is_found fs i f low is = slice_get-get_or fs i f low ∙ ap Some (sym is)
