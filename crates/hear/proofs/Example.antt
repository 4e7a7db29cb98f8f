-- The document's example of what is printed, by computing it. Assumes nothing.
use mathlib.Core.Path.{refl}
use Rattle.pitch.specs.Pitch.{class_of}
use Rattle.hamming.specs.Word.{fix_of, decode}
use Rattle.order.specs.Order.{place_of, order_by, default_order, bit_at}
use Rattle.gain.specs.Levels.{first_level}
use Rattle.reading.specs.Reading.{read}
use Rattle.records.specs.Records.{fresh}
use Rattle.receiver.specs.Steps.{accepted, repeated}
use Rattle.receiver.specs.Receiving.{receive}
use Rattle.text.specs.Text.{digits, decimal}
use Rattle.report.specs.Lines.{lsf_text, set_text, result_text, frame_line, last_line}
use Rattle.receiver.specs.Frames.{record_after, answer_at}
use Rattle.hear.specs.Call.{text_before, repeats_before, text}
use Rattle.hear.specs.Example.{Example}

pub example : Example
unfolding class_of fix_of decode place_of order_by default_order bit_at first_level read fresh accepted repeated receive
    digits decimal lsf_text set_text result_text frame_line last_line
    record_after answer_at text_before repeats_before text
example = refl
