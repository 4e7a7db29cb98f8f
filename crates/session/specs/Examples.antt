-- Document 02, T-01, in numbers: the file of one frame, that of document 01's example 6, and what the writer refuses.
use Rattle.std.specs.Prelude.{ℕ, ◌≡◌, true, false, List, [], ◌∷◌, ◌++◌, replicate, Ok, Err}
use Prim.Native.String.{String}
use Rattle.text.specs.Text.{ascii}
use Rattle.refusal.specs.declared.Refusal.TheVariants.{ShortOutput, FrameLength, PaddingBits}
use Rattle.session.specs.Format.{session_text}
use Rattle.session.specs.Writing.{is_whole, write_answer}

abbrev pub frame : List ℕ
frame = 0x80 ∷ 0x56 ∷ 0x0D ∷ 0x40 ∷ 0x15 ∷ 0x00 ∷ 0x10 ∷ []

-- the same with its last bit set
abbrev pub padded : List ℕ
padded = 0x80 ∷ 0x56 ∷ 0x0D ∷ 0x40 ∷ 0x15 ∷ 0x00 ∷ 0x11 ∷ []

-- the first two lines with others after them
abbrev pub after : String → List ℕ
after lines = ascii "file=melp\norder=house\n" ++ ascii lines

abbrev pub file : List ℕ
file = after "frames=1\nf=80560d40150010\n"

pub record Examples : Type 0 where
  -- the file of the frame, and of none
  pub text : session_text (frame ∷ []) ≡ file
  pub none : session_text [] ≡ after "frames=0\n"
  -- 48 and 31 bytes: just enough, and one too few
  pub enough : write_answer frame 48 ≡ Ok 48
  pub short : write_answer frame 47 ≡ Err ShortOutput
  pub none_enough : write_answer [] 31 ≡ Ok 31
  pub none_short : write_answer [] 30 ≡ Err ShortOutput
  -- padding bits, but for an output that is too short
  pub padding : write_answer padded 48 ≡ Err PaddingBits
  pub padding_short : write_answer padded 47 ≡ Err ShortOutput
  -- no whole frame, before an output that is too short
  pub part : write_answer (0 ∷ []) 48 ≡ Err FrameLength
  pub part_short : write_answer (0 ∷ []) 0 ≡ Err FrameLength
  -- 2,000 frames, and one more
  pub most : is_whole (replicate 14000 0) ≡ true
  pub too_many : is_whole (replicate 14007 0) ≡ false
