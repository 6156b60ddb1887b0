-- Searches of a dictionary, block by block.
use Rattle.std.proofs.Common.{◌≡◌, ℕ, ◌+◌, ◌*◌, ◌%◌, ◌<◌, Bool, List, sym, ap, subst, ◌∙◌, arith, add-one}
use Rattle.std.proofs.Math.Nat.{mod-add-mod}
use Rattle.omf_library.specs.Hash.{probe_of}
use Rattle.omf_library.specs.Dictionary.{IsEnded, IsFoundAfter, Reaches, Task, block_after, block_count, block_of, bucket_after, look_of, next_first, task_of}
use Rattle.omf_library.specs.declared.dictionary.Look.TheVariants as look
use Rattle.omf_library.specs.declared.hash.Probe.{Probe}
use Rattle.omf_library.specs.declared.search.Ended.TheVariants as ended
use Rattle.omf_library.specs.declared.search.Rule.{Rule}

-- one step more, modulo n
pub stepped : (b k s n : ℕ) → ((b + k * s) % n + s) % n ≡ (b + (k + 1) * s) % n
stepped b k s n = let same : b + k * s + s ≡ b + (k + 1) * s = omega arith in mod-add-mod (b + k * s) n s ∙ ap (λ x. x % n) same

pub next_block : (dictionary name : List ℕ) (k count number : ℕ) (probe : Probe) → count ≡ block_count dictionary → probe ≡ probe_of count name → number ≡ block_after dictionary name k
    → (number + probe.block_step) % count ≡ block_after dictionary name (k + 1)
next_block dictionary name k count number probe c q h =
    let p = probe_of (block_count dictionary) name in
    let e : probe ≡ p = q ∙ ap (λ m. probe_of m name) c in
    ap (λ x. (x + probe.block_step) % count) h ∙ ap (λ (x : Probe). (block_after dictionary name k + x.block_step) % count) e ∙ ap (λ x. (block_after dictionary name k + p.block_step) % x) c
    ∙ stepped p.block k p.block_step (block_count dictionary)

-- a search stops at one of the buckets
pub stopped_low : (task : Task) (block : List ℕ) (bucket : ℕ) → IsEnded task block (ended.Full bucket) → bucket < 37
stopped_low task block bucket h = let e = h.3 in omega (arith, e)

-- one full block more
pub one_more : (rule : Rule) (sensitive : Bool) (dictionary name : List ℕ) (k first count number stopped next : ℕ) (probe : Probe) (block : List ℕ)
    → count ≡ block_count dictionary → probe ≡ probe_of count name → number ≡ block_after dictionary name k → block ≡ block_of dictionary number → Reaches rule sensitive dictionary name k first
    → IsEnded (record { is_case_sensitive = sensitive; name = name; first = first; step = probe.bucket_step }) block (ended.Full stopped) → next ≡ next_first rule probe.bucket stopped
    → Reaches rule sensitive dictionary name (k + 1) next
one_more rule sensitive dictionary name k first count number stopped next probe block c q h v reached end n =
    let e : probe ≡ probe_of (block_count dictionary) name = q ∙ ap (λ m. probe_of m name) c in
    let stepping = subst (λ (p : Probe). IsEnded (record { is_case_sensitive = sensitive; name = name; first = first; step = p.bucket_step }) block (ended.Full stopped)) e end in
    let there = subst (λ (b : List ℕ). IsEnded (task_of sensitive dictionary name first) b (ended.Full stopped)) (v ∙ ap (λ m. block_of dictionary m) h) stepping in
    let after = n ∙ ap (λ (p : Probe). next_first rule p.bucket stopped) e in
    subst (λ m. Reaches rule sensitive dictionary name m next) (sym (add-one k)) (first, stopped, reached, there, after)

-- a remainder is below what divides
below : (x n k : ℕ) → k < n → x % n < n
below x n k h = omega arith

pub found_entry : (rule : Rule) (sensitive : Bool) (dictionary name : List ℕ) (k page : ℕ) → IsFoundAfter rule sensitive dictionary name k page
    → (number : ℕ) × (bucket : ℕ) × (number < block_count dictionary) × (bucket < 37) × (look_of sensitive (block_of dictionary number) bucket name ≡ look.Found page)
found_entry rule sensitive dictionary name k page h =
    let count = block_count dictionary in
    let p = probe_of count name in
    let e = h.found in
    (block_after dictionary name k, bucket_after h.first p.bucket_step e.0, below (p.block + k * p.block_step) count k h.inside, below (h.first + e.0 * p.bucket_step) 37 e.0 e.1, e.3)
