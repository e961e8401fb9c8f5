-- A list that is filled from a reader.
use Rattle.std.proofs.Common.{◌≡◌, ℕ, ◌+◌, ◌-◌, ◌≤◌, List, ◌++◌, None, Some, IfSome, Option, arith, length, take, slice_range, sym, ap, ◌∙◌, subst, le_refl, drop_at, length-take-le, take_all, take_at, take-add, append-nil}
use Rattle.std.proofs.lemmas.Slice.{take-put_mid_below}
use Rattle.std.specs.Io.KnownBytes.{Consumes, IsAtEnd}
use Rattle.std.proofs.KnownBytes.{Consumes-nil, Consumes-trans}
use borrow.Rule.Slice.PartMut.{put_mid, post_of}
use lib.Seq.{take-append-le}
use Rattle.file_print.specs.Stream.{FirstBytes}

-- the first bytes of the list, as many as are filled, were taken from the reader
pub record Filled (given left : Option (List ℕ)) (bytes : List ℕ) (filled : ℕ) : Type 0 where
  pub within : filled ≤ length bytes
  pub taken : Consumes given left (take filled bytes)

pub filled_none : (given : Option (List ℕ)) (bytes : List ℕ) → Filled given given bytes 0
filled_none given bytes = record { within = omega arith; taken = Consumes-nil given }

take_split : (a b : ℕ) (old new : List ℕ) → a ≤ b → take a new ≡ take a old → take a old ++ slice_range new a b ≡ take b new
take_split a b old new h front =
    let same : a + (b - a) ≡ b = omega arith in
    ap (λ l. l ++ slice_range new a b) (sym front) ∙ sym (take-add a (b - a) new) ∙ ap (λ n. take n new) same

slice_range-put_mid : (a k n : ℕ) (xs ys : List ℕ) → a ≤ length xs → n ≤ length ys → slice_range (put_mid a k xs ys) a (a + n) ≡ take n ys
slice_range-put_mid a k n xs ys within fits =
    let same : (a + n) - a ≡ n = omega arith in
    let after = post_of a k xs in
    ap (take ((a + n) - a)) (drop_at (take a xs) (ys ++ after) a (length-take-le a xs within)) ∙ ap (λ m. take m (ys ++ after)) same ∙ take-append-le n ys after fits

-- a read put n bytes more into the rest of the list
pub filled_more :
    (a b c : Option (List ℕ)) (xs part : List ℕ) (at n : ℕ) → Filled a b xs at → n ≤ length part → Consumes b c (take n part) →
    at + n ≤ length (put_mid at (length xs - at) xs part) → Filled a c (put_mid at (length xs - at) xs part) (at + n)
filled_more a b c xs part at n h fits read within =
    let room = length xs - at in
    let joined = take_split at (at + n) xs (put_mid at room xs part) (omega arith) (take-put_mid_below _ _ _ _ _ (le_refl _) h.within) in
    let all : take at xs ++ take n part ≡ take (at + n) (put_mid at room xs part) = ap (λ l. take at xs ++ l) (sym (slice_range-put_mid at room n xs part h.within fits)) ∙ joined in
    record { within = within; taken = subst (Consumes a c) all (Consumes-trans a b c _ _ h.taken read) }

-- where the list is full these are the first bytes
taken_full : (given left : Option (List ℕ)) (bytes : List ℕ) (n : ℕ) → length bytes ≡ n → Consumes given left bytes → IfSome given (λ xs. bytes ≡ take n xs)
taken_full None left bytes n e h = tt
taken_full (Some xs) None bytes n e h = absurd h
taken_full (Some xs) (Some ys) bytes n e h = sym (ap (take n) h ∙ take_at bytes ys n e)

pub filled_full : (given left : Option (List ℕ)) (bytes : List ℕ) (filled : ℕ) → Filled given left bytes filled → length bytes ≤ filled → FirstBytes (length bytes) given left (take filled bytes)
filled_full given left bytes filled h full =
    let long : length (take filled bytes) ≡ length bytes = ap length (take_all filled bytes full) in
    record { most = omega (arith, long); first = taken_full given left _ _ long h.taken; taken = h.taken }

-- where the reader is at its end too
taken_ended : (given left : Option (List ℕ)) (bytes : List ℕ) (n : ℕ) → length bytes ≤ n → Consumes given left bytes → IsAtEnd left → IfSome given (λ xs. bytes ≡ take n xs)
taken_ended None left bytes n e h end = tt
taken_ended (Some xs) None bytes n e h end = absurd h
taken_ended (Some xs) (Some ys) bytes n e h end = sym (ap (take n) (h ∙ ap (λ l. bytes ++ l) end ∙ append-nil bytes) ∙ take_all n bytes e)

pub filled_ended : (given left : Option (List ℕ)) (bytes : List ℕ) (filled : ℕ) → Filled given left bytes filled → IsAtEnd left → FirstBytes (length bytes) given left (take filled bytes)
filled_ended given left bytes filled h end =
    let long : length (take filled bytes) ≡ filled = length-take-le filled bytes h.within in
    let most : length (take filled bytes) ≤ length bytes = omega (arith, long, h.within) in
    record { most = most; first = taken_ended given left _ _ most h.taken end; taken = h.taken }
