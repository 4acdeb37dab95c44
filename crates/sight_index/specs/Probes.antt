-- What is asked of boxes, and how the answer is found: `Near` says which boxes may be asked, and the truth values what each would say.
use Rattle.std.specs.Prelude.{ℕ, ◌≡◌, ◌<◌, ◌⊎◌, Bool, true, List, map, Option, Some, MatchOption, slice_get}
use Rattle.room_layout.specs.Place.{place_of}
use Rattle.room_layout.specs.declared.geometry.Point.{Point}
use Rattle.room_layout.specs.declared.room.Block.{Block}
use Rattle.sight_line.specs.Sight.{meets_box}
use Rattle.sight_index.specs.Masks.{HasBit}

-- for each box whether the segment from p to q meets it
abbrev pub meetings : List Block → Point → Point → List Bool
meetings blocks p q = map (λ b. meets_box (place_of p) (place_of q) b) blocks

abbrev pub IsTrueAt : List Bool → ℕ → Type 0
IsTrueAt truths b = slice_get truths b ≡ Some true

-- no near box's truth value is true
abbrev pub NoneTrue : (ℕ → Type 0) → List Bool → Type 0
NoneTrue Near truths = (b : ℕ) → Near b → ¬ IsTrueAt truths b

-- box b is the least near one whose truth value is true
pub record IsFirstTrue (Near : ℕ → Type 0) (truths : List Bool) (b : ℕ) : Type 0 where
  pub near : Near b
  pub holds : IsTrueAt truths b
  pub first : (a : ℕ) → a < b → Near a → ¬ IsTrueAt truths a

abbrev pub IsAnswer : (ℕ → Type 0) → List Bool → Option ℕ → Type 0
IsAnswer Near truths answer = MatchOption answer (NoneTrue Near truths) (λ b. IsFirstTrue Near truths b)

-- no bit of what was asked is lost, and those that are new are near boxes'
pub record AsksNearAlone (Near : ℕ → Type 0) (before after : ℕ) : Type 0 where
  pub kept : (b : ℕ) → HasBit before b → HasBit after b
  pub added : (b : ℕ) → HasBit after b → HasBit before b ⊎ Near b
