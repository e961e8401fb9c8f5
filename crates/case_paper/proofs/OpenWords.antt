-- No record's first word is 0.
use Rattle.std.proofs.Common.{rules, ◌≡◌, ℕ, List, Some, None, Option, sym, refl, ap, ◌∙◌}
use Rattle.std.specs.Option.{unwrap_or}
use Rattle.word.specs.Word.{kind_of}
use Rattle.word.specs.declared.kind.Kind.TheVariants as kind
use Rattle.word.specs.declared.fault.WordFault.{WordFault}
use Rattle.case_paper.specs.Case.{FirstWord, sort_kind}
use Rattle.case_paper.specs.Fault.{record_open_word}
use Rattle.case_paper.specs.CaseFault.{OpenWord, Shows, OpenWordTold}
use Rattle.case_paper.specs.declared.sort.Sort.{Sort}
use Rattle.case_paper.specs.declared.sort.Sort.TheVariants.{Bus, Stepped, Curved, Branch}
use Rattle.case_paper.specs.declared.fault.RecordFault.{RecordFault}
use Rattle.case_paper.specs.declared.fault.RecordFault.TheVariants.{Word, Order, Count}
use Rattle.case_paper.proofs.States.{first_kind}

sort_known : (q : Sort) → sort_kind q ≡ kind.Unknown → ⊥
sort_known Bus e = search rules
sort_known (Stepped n) e = search rules
sort_known Curved e = search rules
sort_known Branch e = search rules

nothing-kind : kind_of 0 ≡ kind.Unknown
unfolding kind_of
nothing-kind = refl

not_zero : (q : Sort) (x : ℕ) → FirstWord q x → x ≡ 0 → ⊥
not_zero q x f e = sort_known q (sym (first_kind q x f) ∙ ap kind_of e ∙ nothing-kind)

none_open : (p : List ℕ) (o : Option ℕ) → OpenWord p o → unwrap_or o 0 ≡ 0 → o ≡ None
none_open p None h e = refl
none_open p (Some x) h e = absurd (not_zero h.sort x h.opens e)

shown_none : (rows w : List ℕ) (k : ℕ) (f : RecordFault) → Shows rows w k f → record_open_word f ≡ 0 → (g : WordFault) × (f ≡ Word g) × (g.first ≡ None)
shown_none rows w k (Word g) s e = (g, refl, none_open _ g.first s.1 e)
shown_none rows w k (Order place first) (h, rs, r, c, is, n) e = absurd (not_zero r.sort r.first c.formed.0 (sym is ∙ e))
shown_none rows w k (Count place first) (h, rs, r, c, is, n) e = absurd (not_zero r.sort r.first c.formed.0 (sym is ∙ e))

pub open_word_told : OpenWordTold
open_word_told = record { first = not_zero; none = λ rows w f r e. shown_none rows w r.at f r.shows e }
