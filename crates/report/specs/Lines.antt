-- Document 01, "Program hear": its lines.
use Rattle.std.specs.Prelude.{ℕ, Bool, true, false, List, ◌++◌, Result, Ok, Err}
use Rattle.sets.specs.Sets.{indices_in}
use Rattle.sets.specs.declared.Indices.{Indices}
use Rattle.sets.specs.declared.ParameterSet.{ParameterSet}
use Rattle.sets.specs.declared.ParameterSet.TheVariants.{Unvoiced, Voiced}
use Rattle.receiver.specs.declared.FrameResult.{FrameResult}
use Rattle.receiver.specs.declared.Kind.{Kind}
use Rattle.receiver.specs.declared.Kind.TheVariants.{Repeat}
use Rattle.receiver.specs.declared.Kind.TheVariants.{Unvoiced as Kind-as-Unvoiced, Voiced as Kind-as-Voiced}
use Rattle.text.specs.Text.{ascii, decimal, field}

-- the first line: the grains in a dB, and the order of the bits
abbrev pub first_line : List ℕ
first_line = ascii "grain=186 order=house\n"

-- the letter of a kind
abbrev pub letter : Kind → List ℕ
letter Kind-as-Unvoiced = ascii "U"
letter Kind-as-Voiced = ascii "V"
letter Repeat = ascii "R"

-- the four LSF indices
unfoldable pub lsf_text : Indices → List ℕ
lsf_text x = field " lsf=" (decimal x.l1) ++ field "," (decimal x.l2) ++ field "," (decimal x.l3) ++ field "," (decimal x.l4)

-- the pitch of a set, and what else a voiced one has; what an unvoiced one lacks is a dash
abbrev pub pitch_text : ParameterSet → List ℕ
pitch_text (Unvoiced x) = ascii " pitch=-"
pitch_text (Voiced x v) = field " pitch=" (decimal v.pitch)

abbrev pub voicing_text : ParameterSet → List ℕ
voicing_text (Unvoiced x) = ascii " bp=- fm=- ap=-"
voicing_text (Voiced x v) = field " bp=" (decimal v.bandpass) ++ field " fm=" (decimal v.fourier) ++ field " ap=" (decimal v.aperiodic)

-- a set
unfoldable pub set_text : ParameterSet → List ℕ
set_text set = pitch_text set ++ lsf_text (indices_in set) ++ voicing_text set

-- a bit
abbrev pub flag : Bool → List ℕ
flag true = ascii "1"
flag false = ascii "0"

-- a result: kind, set and levels, then sync bit, repaired count and mute
unfoldable pub result_text : FrameResult → List ℕ
result_text r =
    field " kind=" (letter r.kind)
    ++ set_text r.set
    ++ field " g1=" (decimal r.first)
    ++ field " g2=" (decimal r.second)
    ++ field " sync=" (flag r.sync)
    ++ field " fixed=" (decimal r.repaired)
    ++ field " mute=" (flag r.mute)

-- what a frame was answered, or the number of what refused it
abbrev pub answer_text : Result FrameResult ℕ → List ℕ
answer_text (Ok r) = result_text r
answer_text (Err n) = field " refused=" (decimal n)

-- the line of frame k
unfoldable pub frame_line : ℕ → Result FrameResult ℕ → List ℕ
frame_line k answer = field "frame=" (decimal k) ++ answer_text answer ++ ascii "\n"

-- the last line: how many frames, how many of them repeats, how many bytes after the last whole frame
abbrev pub counts : ℕ → ℕ → ℕ → List ℕ
counts frames repeats left = field "frames=" (decimal frames) ++ field " repeats=" (decimal repeats) ++ field " left=" (decimal left)

unfoldable pub last_line : ℕ → ℕ → ℕ → List ℕ
last_line frames repeats left = counts frames repeats left ++ ascii "\n"
