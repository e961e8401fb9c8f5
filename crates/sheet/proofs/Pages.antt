-- The spaces behind the text of a page.
use Rattle.std.proofs.Common.{◌≡◌, ℕ, ◌+◌, ◌-◌, ◌<◌, ◌≤◌, List, ◌++◌, length, take, drop, replicate, sym, ap, ◌∙◌, arith, length-drop}
use lib.ListN.{length-replicate}
use Rattle.std.proofs.lemmas.List.{drop-drop, drop-replicate, take-append-drop, length-take-le}
use Rattle.sheet.specs.Blank.{BlankAfter}

pub blank_room : (len : ℕ) (bs : List ℕ) → len < 256 → BlankAfter len bs → len < length bs
blank_room len bs h b = omega (arith, sym (length-drop len bs) ∙ ap length b.1 ∙ length-replicate (256 - len) 32)

pub blank_more : (len n : ℕ) (bs : List ℕ) → len + n ≤ 256 → BlankAfter len bs → drop (len + n) bs ≡ replicate (256 - (len + n)) 32
blank_more len n bs h b =
    sym (drop-drop n len bs) ∙ ap (drop n) b.1 ∙ drop-replicate n (256 - len) 32 ∙ ap (λ k. replicate k 32) (omega arith)

pub page_bytes : (len : ℕ) (bs t : List ℕ) → len < 256 → BlankAfter len bs → take len bs ≡ t → bs ≡ t ++ replicate (256 - length t) 32
page_bytes len bs t h b e =
    let room = blank_room len bs h b in
    let size : length t ≡ len = sym (ap length e) ∙ length-take-le len bs (omega arith) in
    sym (take-append-drop len bs) ∙ ap (λ u. u ++ drop len bs) e ∙ ap (λ u. t ++ u) (b.1 ∙ ap (λ n. replicate (256 - n) 32) (sym size))
