-- Document 02, T-01: a reader's step, what its text has at its offset, and the reader after it, on the same text.
use Rattle.session_reader.specs.Steps.{step_at}
use Rattle.session_reader.specs.declared.reader.Reader.{Reader}
use Rattle.session_reader.specs.declared.reader.Handed.{Handed}

abbrev pub handed : Reader → Handed
handed r = record {
  step = step_at r.text.now r.at;
  rest = record { text = r.text; at = (step_at r.text.now r.at).at };
}
