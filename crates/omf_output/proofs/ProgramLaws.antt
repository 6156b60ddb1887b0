-- The file of a program, loaded at a paragraph.
use Rattle.std.proofs.Common.{◌≡◌, ℕ, ◌+◌, ◌*◌, ◌≤◌, List, [], ◌∷◌, length, sym, ◌∙◌, ap, subst, arith}
use Rattle.std.specs.Prelude.{All, fold, ◌%◌, replicate}
use Rattle.std.proofs.lemmas.List.Elements.{All-nil, All-head, All-tail, All-append, All-weaker}
use Rattle.omf_output.specs.Exe.Exe.{CanBeWritten}
use Rattle.omf_output.specs.Exe.Memory.{Chunk, MovingModule, LiesIn, IsProgram, all_chunks, chunks_at, chunk_words, flat, flat_words, program, put}
use Rattle.omf_output.specs.Exe.Loading.{Loaded}
use Rattle.omf_output.specs.Exe.Laws.{ProgramsAreLoaded}
use Rattle.omf_output.proofs.ChunkMoves.{chunks-move}
use Rattle.omf_output.proofs.FileLaws.{files, length-zeros}
use Rattle.omf_output.proofs.ImageMoves.{images, length-put, words-low}

length-puts : (base n : ℕ) (cs : List Chunk) (bytes : List ℕ) → length bytes ≡ n → All (LiesIn base n) cs → length (fold (put base) bytes cs) ≡ n
length-puts base n [] bytes e all = e
length-puts base n (c ∷ cs) bytes e all =
    length-puts base n cs (put base bytes c) (length-put 0 base n c bytes e (All-head (LiesIn base n) c cs all)) (All-tail (LiesIn base n) c cs all)

pub length-flat : (base n : ℕ) (cs : List Chunk) → All (LiesIn base n) cs → length (flat base n cs) ≡ n
length-flat base n cs all = length-puts base n cs (replicate n 0) (length-zeros n) all

-- Each word is in the image.
pub words-inside : (base n : ℕ) (cs : List Chunk) → All (LiesIn base n) cs → All (λ at. at + 2 ≤ n) (flat_words base cs)
words-inside base n [] all = All-nil (λ at. at + 2 ≤ n)
words-inside base n (c ∷ cs) all =
    let zeros : List ℕ = replicate n 0 in
    let long : length zeros ≡ n = length-zeros n in
    let low = words-low 0 base n c zeros long (All-head (LiesIn base n) c cs all) in
    All-append (λ at. at + 2 ≤ n) (chunk_words base c) (flat_words base cs)
    (All-weaker (λ at. at + 2 ≤ length zeros) (λ at. at + 2 ≤ n) (λ at g. omega (arith, g, long)) (chunk_words base c) low)
    (words-inside base n cs (All-tail (LiesIn base n) c cs all))

writable : (n : ℕ) (ms : List MovingModule) (code stack : ℕ × ℕ) (extra : ℕ) → IsProgram n ms code stack → CanBeWritten (program n ms code stack extra)
writable n ms code stack extra h =
    let cs = all_chunks ms in
    let long : length (flat 0 n cs) ≡ n = length-flat 0 n cs h.lying in
    let short = h.short in
    record {
      few = h.few;
      short = omega (arith, long, short);
      inside = subst (λ l. All (λ at. at + 2 ≤ l) (flat_words 0 cs)) (sym long) (words-inside 0 n cs h.lying);
      code = h.code_fits;
      stack = h.stack_fits;
    }

pub programs : ProgramsAreLoaded
programs most k n ms code stack extra h =
    let cs = all_chunks ms in
    let here : 0 + 16 * k ≡ 16 * k = omega arith in
    let moved_image = sym (images k 0 n cs h.lying h.uncovered) ∙ ap (flat (0 + 16 * k) n) (sym (chunks-move k ms h.moving)) ∙ ap (λ b. flat b n (chunks_at k ms)) here in
    files most (program n ms code stack extra) k (writable n ms code stack extra h)
    ∙ ap (λ (i : List ℕ). let l : Loaded = record { address = 16 * k; image = i; code = ((code.0 + k) % 65536, code.1); stack = ((stack.0 + k) % 65536, stack.1) } in l) moved_image
