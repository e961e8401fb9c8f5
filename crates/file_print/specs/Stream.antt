-- The run of a file whose bytes a reader gives and whose text a writer takes. What a reader has left and what a writer holds are lists of bytes where they are
-- known, and nothing is claimed where they are not.
use Rattle.std.specs.Prelude.{◌≡◌, ℕ, ◌≤◌, List, length, take, Option, IfSome, ◌≢◌}
use Rattle.std.specs.Io.{StartsWith}
use Rattle.std.specs.IoError.{error_kind}
use Rattle.std.specs.declared.io.Error.{Error}
use Rattle.std.specs.declared.io.ErrorKind.TheVariants.{Interrupted}
use Rattle.std.specs.Io.KnownBytes.{Consumes, Appends, Keeps}
use Rattle.file_run.specs.Run.{FileRun}
use Rattle.file_print.specs.declared.stream.StreamError.{StreamError}
use Rattle.file_print.specs.declared.stream.StreamError.TheVariants.{Reading, Writing, OutOfMemory}

-- a reader that had `given` left gave these bytes: the first n, or all where they are fewer, and no others
pub record FirstBytes (n : ℕ) (given left : Option (List ℕ)) (bytes : List ℕ) : Type 0 where
  pub most : length bytes ≤ n
  pub first : IfSome given (λ xs. bytes ≡ take n xs)
  pub taken : Consumes given left bytes

-- a beginning of the text was appended
pub record AppendsPart (held holds : Option (List ℕ)) (text : List ℕ) : Type 0 where
  pub part : List ℕ
  pub begins : StartsWith text part
  pub written : Appends held holds part

-- the text is all that is printed of the first 65,536 bytes that the reader gave
pub record TextOf (given left : Option (List ℕ)) (text : List ℕ) : Type 0 where
  pub bytes : List ℕ
  pub read : FirstBytes 65536 given left bytes
  pub run : FileRun bytes text

module _ (given left held holds : Option (List ℕ)) where
  -- the writer got that text, once
  pub record Streamed : Type 0 where
    pub text : List ℕ
    pub told : TextOf given left text
    pub written : Appends held holds text

  -- the writer got a beginning of that text
  pub record Broken : Type 0 where
    pub text : List ℕ
    pub told : TextOf given left text
    pub part : AppendsPart held holds text

  -- a read failed, and was not only interrupted; nothing is written
  pub record Unread (e : Error) : Type 0 where
    pub failed : error_kind e ≢ Interrupted
    pub kept : Keeps held holds

  -- the bytes are read, and nothing is written
  pub record Unanswered : Type 0 where
    pub bytes : List ℕ
    pub read : FirstBytes 65536 given left bytes
    pub kept : Keeps held holds

  -- nothing is written unless all was read and answered
  abbrev pub StreamFailed : StreamError → Type 0
  StreamFailed (Reading e) = Unread e
  StreamFailed (Writing e) = Broken
  StreamFailed OutOfMemory = Unanswered
