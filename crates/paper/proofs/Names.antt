-- Names in words, there and back.
use Rattle.std.proofs.Common.{◌≡◌, ℕ, ◌+◌, ◌*◌, ◌/◌, ◌%◌, ◌<◌, ap, ◌∙◌, arith}
use Rattle.word.specs.Word.{word_of, payload_of}
use Rattle.word.specs.Slot.{Byte, Fits}
use Rattle.word.specs.declared.kind.Kind.TheVariants as kind
use Rattle.word.specs.declared.slot.Slot.TheVariants.{Bus, Branch}
use Rattle.word.proofs.Words.{kind_word, payload_word, word_is}
use Rattle.word.proofs.Fillings.{bus_known, branch_known}
use Rattle.names.specs.declared.branch.BranchName.{BranchName}
use Rattle.paper.specs.Name.{bus_word, branch_word, Named}
use Rattle.word.specs.Slot.{branch_of}

pub bus_word-payload_of : (x : ℕ) → Fits Bus x → x ≡ bus_word (payload_of x)
bus_word-payload_of x f = word_is x kind.Bus f.0 bus_known

pub bus_fits : (n : ℕ) → Byte n → Fits Bus (bus_word n)
bus_fits n b =
    let p : payload_of (bus_word n) ≡ n = payload_word kind.Bus n (omega arith) in
    (kind_word kind.Bus n (omega arith), (omega arith, omega arith))

pub branch_word-branch_of : (x : ℕ) → Fits Branch x → x ≡ branch_word (branch_of x)
branch_word-branch_of x f =
    let p : payload_of x ≡ 65536 * (payload_of x / 65536) + 256 * (payload_of x / 256 % 256) + payload_of x % 256 =
    let q : (payload_of x / 256) / 256 ≡ payload_of x / 65536 = omega arith in omega arith in
    word_is x kind.Branch f.0 branch_known ∙ ap (word_of kind.Branch) p

pub branch_named : (x : ℕ) → Fits Branch x → Named (branch_of x)
branch_named x f = record { circuits = f.1.0; froms = f.1.1; tos = f.1.2 }

pub branch_fits : (b : BranchName) → Named b → Fits Branch (branch_word b)
branch_fits b n =
    let c = n.circuits in
    let f = n.froms in
    let t = n.tos in
    let p : ℕ = 65536 * b.circuit + 256 * b.from + b.to in
    let small : p < 268435456 = omega arith in
    let e : payload_of (branch_word b) ≡ p = payload_word kind.Branch p small in
    let ec : p / 65536 ≡ b.circuit = omega arith in
    let ef : p / 256 % 256 ≡ b.from = omega arith in
    let et : p % 256 ≡ b.to = omega arith in
    let gc : payload_of (branch_word b) / 65536 ≡ b.circuit = ap (λ n. n / 65536) e ∙ ec in
    let gf : payload_of (branch_word b) / 256 % 256 ≡ b.from = ap (λ n. n / 256 % 256) e ∙ ef in
    let gt : payload_of (branch_word b) % 256 ≡ b.to = ap (λ n. n % 256) e ∙ et in
    (kind_word kind.Branch p small, ((omega arith, omega arith), (omega arith, omega arith), (omega arith, omega arith)))
