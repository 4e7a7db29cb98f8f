-- Document 01, "LSF and magnitude values": what the program finds for a frame and the texts of two codebooks. A refusal of the frame comes
-- first, then one of a text, then one of a row.
use Rattle.std.specs.Prelude.{ℕ, List, ◌++◌, replicate, ℤ, pos, Result, Ok, Err}
use Rattle.std.specs.Result.{result_and}
use Rattle.refusal.specs.Refusals.{first_refusal, unless}
use Rattle.refusal.specs.declared.Refusal.{Refusal}
use Rattle.order.specs.Order.{default_order}
use Rattle.sets.specs.declared.ParameterSet.{ParameterSet}
use Rattle.records.specs.Records.{fresh}
use Rattle.receiver.specs.Receiving.{receive}
use Rattle.receiver.specs.declared.FrameResult.{FrameResult}
use Rattle.codebook.specs.Rows.{lsf_size, magnitude_size}
use Rattle.codebook_values.specs.Values.{lsf_table, lsf_writes, magnitudes_table, magnitudes_writes}
use Rattle.codebook_text.specs.Text.{text_table, numbers}
use Rattle.spectrum.specs.declared.values.Spectrum.{Spectrum}

-- ten zeros, which the values replace
abbrev pub zeros : List ℤ
zeros = replicate 10 (pos 0)

-- the values of a set by both codebooks
abbrev pub of_codebooks : ParameterSet → List ℤ → List ℤ → Result Spectrum Refusal
of_codebooks set lsf magnitudes =
    unless (first_refusal (lsf_table set lsf 10 ++ magnitudes_table set magnitudes 10))
    (record { lsf = lsf_writes set lsf zeros; magnitudes = magnitudes_writes set magnitudes zeros })

-- the values of a set by the texts of both codebooks
abbrev pub of_texts : ParameterSet → List ℕ → List ℕ → Result Spectrum Refusal
of_texts set lsf magnitudes =
    result_and (unless (first_refusal (text_table lsf_size lsf lsf_size ++ text_table magnitude_size magnitudes magnitude_size)) (tt {0}))
    (of_codebooks set (numbers lsf_size lsf) (numbers magnitude_size magnitudes))

-- the values by what a receiver answers
abbrev pub of_answer : Result FrameResult Refusal → List ℕ → List ℕ → Result Spectrum Refusal
of_answer (Ok r) lsf magnitudes = of_texts r.set lsf magnitudes
of_answer (Err f) lsf magnitudes = Err f

-- the values of a frame that reaches a fresh receiver
unfoldable pub of_frame : List ℕ → List ℕ → List ℕ → Result Spectrum Refusal
of_frame bytes lsf magnitudes = of_answer (receive default_order fresh bytes).answer lsf magnitudes
