-- What is said of a part of a list of rows, whose first row has the index base in the whole list.
use Rattle.std.specs.Prelude.{◌≡◌, ℕ, ◌+◌, ◌^◌, ◌<◌, List, length, slice_index_or}

-- there are so many rows, their indices fit in 64 bits, and each meets a test of its index and itself
pub record EachRow {X : Type 0} (test : ℕ → X → Type 0) (base count : ℕ) (rows : List X) : Type 0 where
  pub size : length rows ≡ count
  pub room : base + count < 2 ^ 64
  pub each : (k : ℕ) (d : X) → k < length rows → test (base + k) (slice_index_or rows k d)

-- each row stands in a relation to its index and to what it was
pub record EachChange {X : Type 0} (made : ℕ → X → X → Type 0) (base : ℕ) (old new : List X) : Type 0 where
  pub each : (k : ℕ) (d : X) → k < length old → made (base + k) (slice_index_or old k d) (slice_index_or new k d)
