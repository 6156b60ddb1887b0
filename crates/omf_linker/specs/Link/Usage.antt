-- The usage of `omf-link` (a rule of this profile).
use Rattle.std.specs.Prelude.{ℕ, ◌+◌, List, [], ◌∷◌, ◌++◌, flat_map, codes}

-- The usage.
abbrev pub usage : List ℕ
usage = flat_map (λ line. line ++ 10 ∷ [])
    (codes "usage: omf-link exe -o FILE [--map FILE] [--symbols TOOL=FILE] [--stack BYTES]"
    ∷ codes "           [--order ORDER] [--max-alloc PARAGRAPHS] [-L DIR ..]"
    ∷ codes "           [--library-path DIR ..] [--no-default-libraries]"
    ∷ codes "           [--no-default-library NAME ..] [--allow group|mixed|near|twice ..]"
    ∷ codes "           [--ignore-case] [--keep-debug] [--eliminate] FILE .."
    ∷ codes "       omf-link com -o FILE [--map FILE] [--symbols TOOL=FILE] [--stack BYTES]"
    ∷ codes "           [--order ORDER] [-L DIR ..] [--library-path DIR ..]"
    ∷ codes "           [--no-default-libraries] [--no-default-library NAME ..]"
    ∷ codes "           [--allow group|mixed|near|twice ..] [--ignore-case] [--keep-debug]"
    ∷ codes "           [--eliminate] FILE .."
    ∷ codes "       omf-link image [--allow overlap|align|group|frame|near|twice ..]"
    ∷ codes "           [--ignore-case] [-t TEXT] [-o FILE] [FILE ..]"
    ∷ codes "       omf-link map [--ignore-case] [-t TEXT] [-o FILE] [FILE ..]"
    ∷ codes "       omf-link bin --base ADDRESS --size SIZE [--fill BYTE]"
    ∷ codes "           [--allow overlap|align|group|frame|near|twice ..]"
    ∷ codes "           [--ignore-case] [-t TEXT] [-o FILE] [FILE ..]"
    ∷ codes "       omf-link hex [--addresses linear|segment]"
    ∷ codes "           [--allow overlap|align|group|frame|near|twice ..]"
    ∷ codes "           [--ignore-case] [-t TEXT] [-o FILE] [FILE ..]"
    ∷ codes "       omf-link srec [--addresses 16|24|32]"
    ∷ codes "           [--allow overlap|align|group|frame|near|twice ..]"
    ∷ codes "           [--ignore-case] [-t TEXT] [-o FILE] [FILE ..]"
    ∷ codes "       omf-link draft [--base ADDRESS] [--real | --flat SELECTOR]"
    ∷ codes "           [--ignore-case] [-o FILE] [FILE ..]"
    ∷ [])
