-- A paper is a list of 32-bit words: the kind in the top four bits, the payload in the low 28.
use Rattle.std.specs.Prelude.{ℕ, suc, ◌+◌, ◌-◌, ◌*◌, ◌/◌, ◌%◌, ◌^◌, cond, List, [], ◌∷◌, ℤ, pos, negsuc, ◌==◌, nat_lt, slice_index}
use Rattle.word.specs.declared.kind.Kind.{Kind}
use Rattle.word.specs.declared.kind.Kind.TheVariants.{Unknown, Head, Bus, Stepped, Curved, Branch, Amount, End}

abbrev pub kind_number : Kind → ℕ
kind_number Unknown = 0
kind_number Head = 1
kind_number Bus = 2
kind_number Stepped = 3
kind_number Curved = 4
kind_number Branch = 5
kind_number Amount = 6
kind_number End = 7

-- the kind with this number
abbrev pub kind_numbered : ℕ → Kind
kind_numbered n =
    cond (n == 1) Head (cond (n == 2) Bus (cond (n == 3) Stepped (cond (n == 4) Curved
    (cond (n == 5) Branch (cond (n == 6) Amount (cond (n == 7) End Unknown))))))

unfoldable pub kind_of : ℕ → Kind
kind_of word = kind_numbered (word / 2 ^ 28)

abbrev pub payload_of : ℕ → ℕ
payload_of word = word % 2 ^ 28

-- the word with this kind and payload
abbrev pub word_of : Kind → ℕ → ℕ
word_of kind payload = kind_number kind * 2 ^ 28 + payload

-- a payload read as a number in two's complement of 28 bits
abbrev pub signed_of : ℕ → ℤ
signed_of payload = cond (nat_lt payload (2 ^ 27)) (pos payload) (negsuc (2 ^ 28 - suc payload))

unfoldable pub amount_of : ℕ → ℤ
amount_of word = signed_of (payload_of word)

-- the low 28 bits of a number in two's complement
abbrev pub payload_for : ℤ → ℕ
payload_for (pos n) = n % 2 ^ 28
payload_for (negsuc n) = 2 ^ 28 - suc (n % 2 ^ 28)

unfoldable pub amount_word : ℤ → ℕ
amount_word z = word_of Amount (payload_for z)

-- four bytes, the highest first
abbrev pub of_bytes : List ℕ → ℕ
of_bytes bytes = slice_index bytes 0 * 16777216 + slice_index bytes 1 * 65536 + slice_index bytes 2 * 256 + slice_index bytes 3

abbrev pub bytes_of : ℕ → List ℕ
bytes_of word = (word / 16777216 % 256) ∷ (word / 65536 % 256) ∷ (word / 256 % 256) ∷ (word % 256) ∷ []
