-- What a shelf of files and a sink of bytes hold, and what a call of theirs may do.
use Rattle.std.specs.Prelude.{◌≡◌, ◌≢◌, ℕ, ◌+◌, ◌-◌, ◌^◌, ◌<◌, ◌≤◌, min, List, [], ◌∷◌, ◌++◌, length, take, drop, Option, Some, None, Result, OnErr, OnOk, if◌then◌else◌}
use Rattle.std.specs.Option.{option_map}
use Rattle.std.specs.Str.{bytes_eq}

-- the bytes under a name, among files that are a name and bytes each: those of the first with that name
abbrev pub bytes_of : List ℕ → List (List ℕ × List ℕ) → Option (List ℕ)
bytes_of name [] = None
bytes_of name (file ∷ files) = if bytes_eq file.0 name then Some file.1 else bytes_of name files

-- what a counter of 64 bits shows after one more: it stays at its last value
abbrev pub one_more : ℕ → ℕ
one_more count = min (count + 1) (2 ^ 64 - 1)

-- a count rose, or stands at its last value
abbrev pub Rose : ℕ → ℕ → Type 0
Rose before now = one_more before ≤ now

-- a count neither rose nor stands at a counter's last value: what it counts didn't happen
abbrev pub Stood : ℕ → ℕ → Type 0
Stood before now = (now ≡ before) × (now < 2 ^ 64 - 1)

-- a count that shows one more where this was answered, and stands where it wasn't
pub record Counted (before now : ℕ) (answered : Type 0) : Type 0 where
  pub later : before ≤ now
  pub cause : answered → now ≡ one_more before
  pub only : (answered → ⊥) → now ≡ before

-- a count that shows one more where the call failed, and stands where it didn't
pub record HasCause {T E : Type 0} (before now : ℕ) (result : Result T E) : Type 0 where
  pub later : before ≤ now
  pub cause : OnErr result (now ≡ one_more before)
  pub only : OnOk result (now ≡ before)

-- The front of the piece has the next n bytes of a file of which so many were taken, and n is 0 only at the file's end.
pub record ReadsNext (file : List ℕ) (taken : ℕ) (piece : List ℕ) (n : ℕ) : Type 0 where
  pub left : n ≤ length (drop taken file)
  pub bytes : take n piece ≡ take n (drop taken file)
  pub end : 0 < length piece → n ≡ 0 → length file ≤ taken

-- what was written, with these bytes after it, where it is told
abbrev pub with_bytes : Option (List ℕ) → List ℕ → Option (List ℕ)
with_bytes written bytes = option_map (λ before. before ++ bytes) written

-- a proper prefix of the text was written
pub record AddsPrefix (before now : Option (List ℕ)) (text : List ℕ) : Type 0 where
  pub count : ℕ
  pub proper : count < length text
  pub bytes : now ≡ with_bytes before (take count text)

-- After a file was put under a name: the name has these bytes, and every other name what it had.
pub record Puts (old new : List (List ℕ × List ℕ)) (name bytes : List ℕ) : Type 0 where
  pub put : bytes_of name new ≡ Some bytes
  pub others : (other : List ℕ) → other ≢ name → bytes_of other new ≡ bytes_of other old
