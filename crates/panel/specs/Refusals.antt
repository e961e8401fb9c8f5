-- The number and the place of each refusal of a panel.
use Rattle.std.specs.Prelude.{ℕ}
use Rattle.word.specs.Fault.{refusal_number}
use Rattle.network.specs.Refusals as model
use Rattle.paper.specs.Write.{write_number, write_place}
use Rattle.panel.specs.declared.refusal.PaperRefusal.{PaperRefusal}
use Rattle.panel.specs.declared.refusal.PaperRefusal.TheVariants.{Words, Case}
use Rattle.panel.specs.declared.refusal.OfferRefusal.{OfferRefusal}
use Rattle.panel.specs.declared.refusal.OfferRefusal.TheVariants.{Full, Paper}
use Rattle.panel.specs.declared.refusal.ReadOutRefusal.{ReadOutRefusal}
use Rattle.panel.specs.declared.refusal.ReadOutRefusal.TheVariants.{NoneShown, List}

abbrev pub paper_number : PaperRefusal → ℕ
paper_number (Words f) = refusal_number f.refusal
paper_number (Case e) = model.number_of e

abbrev pub paper_place : PaperRefusal → ℕ
paper_place (Words f) = f.place
paper_place (Case e) = model.place_of e

abbrev pub offer_number : OfferRefusal → ℕ
offer_number Full = 1
offer_number (Paper e) = paper_number e

abbrev pub offer_place : OfferRefusal → ℕ
offer_place Full = 0
offer_place (Paper e) = paper_place e

abbrev pub read_out_number : ReadOutRefusal → ℕ
read_out_number NoneShown = 17
read_out_number (List e) = write_number e

abbrev pub read_out_place : ReadOutRefusal → ℕ
read_out_place NoneShown = 0
read_out_place (List e) = write_place e
