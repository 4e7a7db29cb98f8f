-- The examples of files and of the writer, by computing them. Assumes nothing.
use mathlib.Core.Path.{refl}
use Rattle.order.specs.Order.{bit_at}
use Rattle.text.specs.Text.{digits, decimal}
use Rattle.session.specs.Format.{count_line, hex_text, frame_line, frame_lines, header, session_text}
use Rattle.session.specs.Writing.{frames_of, write_answer}
use Rattle.session.specs.Examples.{Examples}

pub examples : Examples
unfolding bit_at digits decimal count_line hex_text frame_line frame_lines header session_text frames_of write_answer
examples = record {
  text = refl;
  none = refl;
  enough = refl;
  short = refl;
  none_enough = refl;
  none_short = refl;
  padding = refl;
  padding_short = refl;
  part = refl;
  part_short = refl;
  most = refl;
  too_many = refl;
}
