-- The examples of session files, by computing them. Assumes nothing.
use mathlib.Core.Path.{refl}
use Rattle.order.specs.Order.{bit_at}
use Rattle.text.specs.Text.{digits, decimal}
use Rattle.session.specs.Format.{count_line, hex_text, frame_line, frame_lines, header, session_text}
use Rattle.session_lines.specs.Lines.{line_of, digits_value, is_count_line, all_hex, hex_bytes, is_frame_line, frame_of}
use Rattle.session_lines.specs.Headers.{bad_header_line, frames_in, first_place}
use Rattle.session_reader.specs.Steps.{is_place, frame_step, last_step, step_after, step_at}
use Rattle.session_claims.specs.Examples.{Examples}

pub examples : Examples
unfolding bit_at digits decimal count_line hex_text frame_line frame_lines header session_text line_of digits_value is_count_line all_hex hex_bytes is_frame_line
    frame_of bad_header_line frames_in first_place is_place frame_step last_step step_after step_at
examples = record {
  good = record { first = refl; end = refl; end_of_none = refl };
  bad = record {
    numbers = (refl, refl);
    empty = refl;
    another_file = refl;
    another_order = refl;
    leading_zero = refl;
    two_zeros = refl;
    too_many = refl;
    most_without_lines = refl;
    no_number = refl;
    upper_case = refl;
    carriage_return = refl;
    no_line_end = refl;
    too_few = refl;
    line_after_the_last = refl;
    padding = refl;
    padding_and_upper_case = refl;
    inside_a_line = refl;
  };
}
