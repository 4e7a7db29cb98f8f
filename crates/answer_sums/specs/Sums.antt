-- Helpers of a measurement, no part of document 01: all numbers that a frame is answered, added up, and a number in bytes.
use Rattle.std.specs.Prelude.{ℕ, ◌+◌, ◌-◌, ◌/◌, ◌%◌, ◌^◌, List, [], ◌∷◌, Result, Ok, Err}
use Rattle.bits.specs.Bits.{bit_num, cut}
use Rattle.refusal.specs.Refusals.{number_of, numbered}
use Rattle.sets.specs.declared.Indices.{Indices}
use Rattle.sets.specs.declared.Voicing.{Voicing}
use Rattle.sets.specs.declared.ParameterSet.{ParameterSet}
use Rattle.sets.specs.declared.ParameterSet.TheVariants as set
use Rattle.records.specs.declared.Record.{Record}
use Rattle.receiver.specs.declared.Kind.{Kind}
use Rattle.receiver.specs.declared.Kind.TheVariants as kind
use Rattle.receiver.specs.declared.FrameResult.{FrameResult}
use Rattle.receiver.specs.declared.Received.{Received}

-- of a set
abbrev pub indices_sum : Indices → ℕ
indices_sum x = x.l1 + x.l2 + x.l3 + x.l4 + x.g2 + x.g1

abbrev pub voicing_sum : Voicing → ℕ
voicing_sum v = v.pitch + v.bandpass + v.fourier + v.aperiodic

abbrev pub set_sum : ParameterSet → ℕ
set_sum (set.Unvoiced x) = indices_sum x
set_sum (set.Voiced x v) = indices_sum x + voicing_sum v

-- of a kind
abbrev pub kind_sum : Kind → ℕ
kind_sum kind.Unvoiced = 0
kind_sum kind.Voiced = 1
kind_sum kind.Repeat = 2

-- of a result, and of an answer: its result, or the number of what refused it
abbrev pub result_sum : FrameResult → ℕ
result_sum r = kind_sum r.kind + set_sum r.set + (r.first + r.second) + (bit_num r.mute + bit_num r.sync) + r.repaired

abbrev pub answer_sum : Result FrameResult ℕ → ℕ
answer_sum (Ok r) = result_sum r
answer_sum (Err n) = n

-- of frames that are received one after another from a record on: what each is answered, added up
abbrev pub sum_from : (Record → List ℕ → Received) → Record → List (List ℕ) → ℕ
sum_from receive rec [] = 0
sum_from receive rec (frame ∷ frames) = answer_sum (numbered number_of (receive rec frame).answer) + sum_from receive (receive rec frame).next frames

-- a number in eight bytes, most significant first
abbrev pub eight_bytes : ℕ → List ℕ
eight_bytes n = cut (λ i. n / 256 ^ (7 - i) % 256) 0 8
