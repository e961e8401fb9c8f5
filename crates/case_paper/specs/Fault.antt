-- The number and the place of each refusal of a case, and the first word of the record that is open.
use Rattle.std.specs.Prelude.{ℕ}
use Rattle.std.specs.Option.{unwrap_or}
use Rattle.word.specs.Fault.{refusal_number}
use Rattle.case_paper.specs.declared.fault.RecordFault.{RecordFault}
use Rattle.case_paper.specs.declared.fault.RecordFault.TheVariants.{Word, Order, Count}
use Rattle.case_paper.specs.declared.fault.CaseFault.{CaseFault}
use Rattle.case_paper.specs.declared.fault.CaseFault.TheVariants.{Record, Repeats, Lacks}

abbrev pub record_number : RecordFault → ℕ
record_number (Word f) = refusal_number f.refusal
record_number (Order place first) = 5
record_number (Count place first) = 6

abbrev pub record_place : RecordFault → ℕ
record_place (Word f) = f.place
record_place (Order place first) = place
record_place (Count place first) = place

abbrev pub case_number : CaseFault → ℕ
case_number (Record f) = record_number f
case_number (Repeats row) = 8
case_number (Lacks row) = 9

abbrev pub case_place : CaseFault → ℕ
case_place (Record f) = record_place f
case_place (Repeats row) = row
case_place (Lacks row) = row

-- the first word of the open record, 0 where none is open
abbrev pub record_open_word : RecordFault → ℕ
record_open_word (Word f) = unwrap_or f.first 0
record_open_word (Order place first) = first
record_open_word (Count place first) = first

-- a repeated or a lacking name is found after the last record
abbrev pub case_open_word : CaseFault → ℕ
case_open_word (Record f) = record_open_word f
case_open_word (Repeats row) = 0
case_open_word (Lacks row) = 0
