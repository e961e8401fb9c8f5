-- A text that is written in pieces.
use Rattle.std.proofs.Common.{◌≡◌, ℕ, ◌-◌, List, [], ◌++◌, Option, length, take, drop, refl, sym, ap, ◌∙◌, subst, append_assoc, append-nil, take-append-drop}
use Rattle.std.proofs.lemmas.List.{take_rest}
use Rattle.std.specs.Io.KnownBytes.{Appends, Keeps}
use Rattle.std.proofs.KnownBytes.{Appends-nil, Appends-trans, Appends-kept}
use Rattle.std.proofs.Transfers.{starts_with_of_append, starts_with_of_eq}
use Rattle.file_print.specs.Stream.{AppendsPart}

-- what comes before the rest of the text was appended
pub record Written (held holds : Option (List ℕ)) (text rest : List ℕ) : Type 0 where
  pub done : List ℕ
  pub split : text ≡ done ++ rest
  pub appended : Appends held holds done

pub written_none : (held : Option (List ℕ)) (text : List ℕ) → Written held held text text
written_none held text = record { done = []; split = refl; appended = Appends-nil held }

-- the writer took n bytes of the rest
pub written_more :
    (a b c : Option (List ℕ)) (text rest : List ℕ) (n : ℕ) → Written a b text rest → Appends b c (take n rest) → Written a c text (take (length rest - n) (drop n rest))
written_more a b c text rest n h more = record {
  done = h.done ++ take n rest;
  split =
      h.split ∙ ap (λ l. h.done ++ l) (sym (take-append-drop n rest)) ∙ sym (append_assoc h.done (take n rest) (drop n rest))
      ∙ ap (λ l. (h.done ++ take n rest) ++ l) (sym (take_rest rest n));
  appended = Appends-trans a b c _ _ h.appended more;
}

pub written_part : (a b c : Option (List ℕ)) (text rest : List ℕ) → Written a b text rest → Keeps b c → AppendsPart a c text
written_part a b c text rest h kept = record { part = h.done; begins = starts_with_of_append text h.done rest h.split; written = Appends-kept a b c _ h.appended kept }

pub written_all : (a b : Option (List ℕ)) (text rest : List ℕ) → Written a b text rest → rest ≡ [] → Appends a b text
written_all a b text rest h none = subst (Appends a b) (sym (h.split ∙ ap (λ l. h.done ++ l) none ∙ append-nil h.done)) h.appended

-- all of it and a flush
pub flushed_all : (a b c : Option (List ℕ)) (text : List ℕ) → Appends a b text → Keeps b c → Appends a c text
flushed_all a b c text h kept = Appends-kept a b c text h kept

pub flushed_part : (a b c : Option (List ℕ)) (text : List ℕ) → Appends a b text → Keeps b c → AppendsPart a c text
flushed_part a b c text h kept = record { part = text; begins = starts_with_of_eq text text refl; written = Appends-kept a b c text h kept }
