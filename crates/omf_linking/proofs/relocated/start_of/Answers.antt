use Rattle.std.proofs.Common.{◌≡◌, ℕ, ◌+◌, ◌∷◌, ◌++◌, drop, sym, ap, ◌∙◌}
use Rattle.std.specs.Prelude.{Option, zip, option_to_list}
use Rattle.omf_check.specs.Module.{records_in, typed_modules}
use Rattle.omf_check.specs.WellFormed.{recs}
use Rattle.omf_linking.specs.Starts.{main_starts, one_start}
use Rattle.omf_linking.proofs.StartLaws.{Placed, starts_from, next_at, none_at, no_start, first_start, second_start, all_started}
use Rattle.omf_linking.proofs.relocated.start_of.Goals as goal

pub loop-j-preserved-in_default : goal.loop-j-preserved-in_default
loop-j-preserved-in_default c =
    let ms = zip (typed_modules c.args.modules.now) c.args.relocated.now in
    let j = c.loop-j.j in
    let m : Placed = (recs (records_in c.index-modules-j.result.bytes), c.index-relocated-j.result) in
    let next : drop j ms ≡ m ∷ drop (j + 1) ms
    = next_at c.args.modules.now c.args.relocated.now j c.index-modules-j.result c.index-relocated-j.result c.index-modules-j.is c.index-relocated-j.is c.loop-j-test.true c.requires.relocated in
    no_start ms j m next (option_to_list c.loop-j.found) (one_start (main_starts ms)) (sym c.main_start.ensures ∙ c.in_default.is) c.loop-j.invariant

pub returns-in-Some-found : goal.returns-in-Some-found
returns-in-Some-found c =
    let ms = zip (typed_modules c.args.modules.now) c.args.relocated.now in
    let j = c.loop-j.j in
    let m : Placed = (recs (records_in c.index-modules-j.result.bytes), c.index-relocated-j.result) in
    let next : drop j ms ≡ m ∷ drop (j + 1) ms
    = next_at c.args.modules.now c.args.relocated.now j c.index-modules-j.result c.index-relocated-j.result c.index-modules-j.is c.index-relocated-j.is c.loop-j-test.true c.requires.relocated in
    let f : ℕ × (ℕ × ℕ) = (c.in-Some-found.first, c.in-Some-found.field-0-1) in
    let known : one_start (f ∷ starts_from ms j) ≡ one_start (main_starts ms)
    = ap (λ (o : Option (ℕ × (ℕ × ℕ))). one_start (option_to_list o ++ starts_from ms j)) (sym c.in-Some-found.is) ∙ c.loop-j.invariant in
    second_start ms j m next c.in-Some.start f (one_start (main_starts ms)) (sym c.main_start.ensures ∙ c.in-Some.is) known

pub loop-j-preserved : goal.loop-j-preserved
loop-j-preserved c =
    let ms = zip (typed_modules c.args.modules.now) c.args.relocated.now in
    let j = c.loop-j.j in
    let m : Placed = (recs (records_in c.index-modules-j.result.bytes), c.index-relocated-j.result) in
    let next : drop j ms ≡ m ∷ drop (j + 1) ms
    = next_at c.args.modules.now c.args.relocated.now j c.index-modules-j.result c.index-relocated-j.result c.index-modules-j.is c.index-relocated-j.is c.loop-j-test.true c.requires.relocated in
    let unknown : one_start (starts_from ms j) ≡ one_start (main_starts ms)
    = ap (λ (o : Option (ℕ × (ℕ × ℕ))). one_start (option_to_list o ++ starts_from ms j)) (sym c.in_default-found.is) ∙ c.loop-j.invariant in
    first_start ms j m next c.in-Some.start (one_start (main_starts ms)) (sym c.main_start.ensures ∙ c.in-Some.is) unknown

pub returns-in-Some-found-2 : goal.returns-in-Some-found-2
returns-in-Some-found-2 c =
    let ms = zip (typed_modules c.args.modules.now) c.args.relocated.now in
    ap (λ (o : Option (ℕ × (ℕ × ℕ))). one_start (option_to_list o)) (sym c.in-Some-found-2.is)
    ∙ all_started ms c.loop-j.j c.loop-j.found (none_at c.args.modules.now c.args.relocated.now c.loop-j.j c.loop-j-test.false) c.loop-j.invariant

pub returns-in-None : goal.returns-in-None
returns-in-None c =
    let ms = zip (typed_modules c.args.modules.now) c.args.relocated.now in
    ap (λ (o : Option (ℕ × (ℕ × ℕ))). one_start (option_to_list o)) (sym c.in-None.is)
    ∙ all_started ms c.loop-j.j c.loop-j.found (none_at c.args.modules.now c.args.relocated.now c.loop-j.j c.loop-j-test.false) c.loop-j.invariant
