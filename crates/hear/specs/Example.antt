-- Document 01, "Program hear": its example, the seven bytes and what is printed for them.
use Rattle.std.specs.Prelude.{◌≡◌, [], ◌∷◌, ◌++◌}
use Rattle.text.specs.Text.{ascii}
use Rattle.hear.specs.Call.{printed}

abbrev pub Example : Type 0
Example =
    printed (0x80 ∷ 0x56 ∷ 0x0D ∷ 0x40 ∷ 0x15 ∷ 0x00 ∷ 0x10 ∷ [])
    ≡ ascii "grain=186 order=house\n"
    ++ ascii "frame=0 kind=U pitch=- lsf=90,0,0,0 bp=- fm=- ap=- g1=4071 g2=6282 sync=0 fixed=0 mute=0\n"
    ++ ascii "frames=1 repeats=0 left=0\n"
