-- A page of 256 bytes: a text, and then spaces.
use Rattle.std.specs.Prelude.{◌≡◌, ℕ, ◌-◌, ◌≤◌, List, drop, replicate}

-- after the first len bytes of the page there are only spaces
abbrev pub BlankAfter : ℕ → List ℕ → Type 0
BlankAfter len bytes = (len ≤ 256) × (drop len bytes ≡ replicate (256 - len) 32)
