-- The paper of a hand-over.
use Rattle.std.specs.Prelude.{◌≡◌, ℕ, ◌<◌, List, [], ◌∷◌, pos}
use Rattle.word.specs.Word.{word_of, amount_word}
use Rattle.word.specs.Form.{Form}
use Rattle.word.specs.declared.kind.Kind.TheVariants as kind

-- head, the next attendant's number, end
abbrev pub hand_over_words : ℕ → List ℕ
hand_over_words attendant = word_of kind.Head 7 ∷ amount_word (pos attendant) ∷ word_of kind.End 0 ∷ []

abbrev pub HandOverForm : Form
HandOverForm w = (attendant : ℕ) × (attendant < 65536) × (w ≡ hand_over_words attendant)
