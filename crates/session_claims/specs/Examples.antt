-- Document 02, T-01, in numbers: steps in the file of one frame, that of document 01's example 6, and in files with one thing wrong.
use Rattle.std.specs.Prelude.{◌≡◌, [], None, Some, Ok}
use Rattle.refusal.specs.Refusals.{number_of}
use Rattle.refusal.specs.declared.Refusal.TheVariants.{PaddingBits, BadLine}
use Rattle.text.specs.Text.{ascii}
use Rattle.session.specs.Examples.{frame, after, file}
use Rattle.session_reader.specs.Steps.{refused, stays, step_at}

-- the file of the frame, and of none: read from 0, and at the offset after each step
pub record Good : Type 0 where
  pub first : step_at file 0 ≡ record { answer = Ok (Some frame); at = 48 }
  pub end : step_at file 48 ≡ stays (Ok None) 48
  pub end_of_none : step_at (after "frames=0\n") 0 ≡ stays (Ok None) 0

-- one line is bad, and told by its number; the refusals are 8 and 3
pub record Bad : Type 0 where
  pub numbers : (number_of BadLine ≡ 8) × (number_of PaddingBits ≡ 3)
  pub empty : step_at [] 0 ≡ stays (refused BadLine 1) 0
  pub another_file : step_at (ascii "file=MELP\norder=house\nframes=0\n") 0 ≡ stays (refused BadLine 1) 0
  pub another_order : step_at (ascii "file=melp\norder=own\nframes=0\n") 0 ≡ stays (refused BadLine 2) 0
  pub leading_zero : step_at (after "frames=01\nf=80560d40150010\n") 0 ≡ stays (refused BadLine 3) 0
  pub two_zeros : step_at (after "frames=00\n") 0 ≡ stays (refused BadLine 3) 0
  pub too_many : step_at (after "frames=2001\n") 0 ≡ stays (refused BadLine 3) 0
  pub most_without_lines : step_at (after "frames=2000\n") 0 ≡ stays (refused BadLine 4) 0
  pub no_number : step_at (after "frames=\n") 0 ≡ stays (refused BadLine 3) 0
  pub upper_case : step_at (after "frames=1\nf=80560D40150010\n") 0 ≡ stays (refused BadLine 4) 0
  pub carriage_return : step_at (after "frames=1\nf=80560d40150010\r\n") 0 ≡ stays (refused BadLine 4) 0
  pub no_line_end : step_at (after "frames=1\nf=80560d40150010") 0 ≡ stays (refused BadLine 4) 0
  pub too_few : step_at (after "frames=2\nf=80560d40150010\n") 48 ≡ stays (refused BadLine 5) 48
  pub line_after_the_last : step_at (after "frames=1\nf=80560d40150010\n\n") 48 ≡ stays (refused BadLine 5) 48
  pub padding : step_at (after "frames=1\nf=80560d40150011\n") 0 ≡ stays (refused PaddingBits 4) 0
  pub padding_and_upper_case : step_at (after "frames=1\nf=80560D40150011\n") 0 ≡ stays (refused BadLine 4) 0
  pub inside_a_line : step_at file 32 ≡ stays (refused BadLine 0) 32

pub record Examples : Type 0 where
  pub good : Good
  pub bad : Bad
