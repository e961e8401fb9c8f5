-- The text of the bytes that were read, and what of it was written.
use Rattle.std.proofs.Common.{◌≡◌, ℕ, List, Option, subst}
use Rattle.std.specs.Io.KnownBytes.{Appends}
use Rattle.file_run.specs.Run.{FileRun}
use Rattle.file_print.specs.Stream.{FirstBytes, AppendsPart, TextOf, Streamed, Broken}

module _ (given left held holds : Option (List ℕ)) (n : ℕ) (bytes text lent : List ℕ) (first : FirstBytes n given left bytes) (most : n ≡ 65536) (run : FileRun bytes text) (same : lent ≡ text) where
  told : TextOf given left text
  told = record { bytes = bytes; read = subst (λ (k : ℕ). FirstBytes k given left bytes) most first; run = run }

  pub all_written : Appends held holds lent → Streamed given left held holds
  all_written h = record { text = text; told = told; written = subst (Appends held holds) same h }

  pub part_written : AppendsPart held holds lent → Broken given left held holds
  part_written h = record { text = text; told = told; part = subst (AppendsPart held holds) same h }
