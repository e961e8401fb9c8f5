use Rattle.std.proofs.Common.{◌≡◌, take, map, ap, ◌∙◌, rules, arith, IfOk}
use Rattle.std.proofs.lemmas.Result.{IfOk-weaker}
use Rattle.word.specs.Word.{of_bytes}
use Rattle.paper_file.specs.Words.{words_in, WordsOfFile}
use Rattle.paper_file.proofs.Fours.{words_of_fours, words_of_file}
use Rattle.paper_file.proofs.words.words_of.Goals as goal

pub returns-clause-words : goal.returns-clause-words
returns-clause-words c =
    let bytes = c.args.bytes.now in
    let fours = c.fours.result.now in
    let mapped : IfOk c.collect.result (λ v. v.items ≡ map of_bytes fours) = search rules in
    let words = ap (map of_bytes) c.fours.ensures ∙ words_of_fours (take 65536 bytes) in
    IfOk-weaker c.collect.result (λ v. v.items ≡ map of_bytes fours) (λ v. v.items ≡ words_in (take 65536 bytes)) (λ v e. e ∙ words) mapped

pub returns-clause-bytes : goal.returns-clause-bytes
returns-clause-bytes c =
    let bytes = c.args.bytes.now in
    let fours = c.fours.result.now in
    let mapped : IfOk c.collect.result (λ v. v.items ≡ map of_bytes fours) = search rules in
    let words = ap (map of_bytes) c.fours.ensures ∙ words_of_fours (take 65536 bytes) in
    IfOk-weaker c.collect.result (λ v. v.items ≡ map of_bytes fours) (λ v. WordsOfFile v.items bytes)
    (λ v e. words_of_file v.items bytes (λ i. omega (arith, c.type_inv.bytes i)) (e ∙ words)) mapped
