use Rattle.std.proofs.Common.{◌≡◌, ◌∙◌, ap₂, rules}
use Rattle.omf_output.specs.Exe.Loading.{table}
use Rattle.omf_find.specs.Mz.{image, words}
use Rattle.omf_find.proofs.mz.read_image.Goals as goal

pub returns-clause-ok : goal.returns-clause-ok
returns-clause-ok c =
    let file = c.args.file.now in
    let read : c.in_ok-words.words.items ≡ words file = c.in_ok-words.ensures ∙ ap₂ (table file) c.word.ensures (c.from.ensures ∙ c.word-2.ensures) in
    record {
      header = c.requires.none;
      inside = search (rules, read);
      image = c.image-image.ensures;
      words = read;
      code = ap₂ (λ a b. (a, b)) c.word-in-None.ensures c.word-in-None-2.ensures;
      stack = c.word-in-None-3.ensures;
    }
