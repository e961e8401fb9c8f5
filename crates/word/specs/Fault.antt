-- The number of each refusal of a word, and the fault of a paper without records.
use Rattle.std.specs.Prelude.{◌≡◌, ℕ, List, None}
use Rattle.word.specs.Form.{Form, Refused}
use Rattle.word.specs.declared.fault.WordFault.{WordFault}
use Rattle.word.specs.declared.fault.WordRefusal.{WordRefusal}
use Rattle.word.specs.declared.fault.WordRefusal.TheVariants.{Stops, Kind, Range, Follows}

abbrev pub refusal_number : WordRefusal → ℕ
refusal_number Stops = 2
refusal_number Kind = 3
refusal_number Range = 4
refusal_number Follows = 7

-- the words are refused so, and no record is open
abbrev pub RefusedWord : Form → List ℕ → WordFault → Type 0
RefusedWord F w f = Refused F w f.refusal f.place × (f.first ≡ None)
