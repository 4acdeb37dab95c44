-- What ties near boxes and answers to the plain rule of sight, by which every box is asked.
use Rattle.std.specs.Prelude.{ℕ, ◌≡◌, List, Option, is_some, slice_get, IsSomeAnd, MatchOption}
use Rattle.room_layout.specs.Place.{place_of}
use Rattle.room_layout.specs.declared.geometry.Point.{Point}
use Rattle.room_layout.specs.declared.geometry.Size.{Size}
use Rattle.room_layout.specs.declared.room.Block.{Block}
use Rattle.sight_line.specs.Sight.{MeetsBox, NoneMet, IsFirstMet, is_blocked}
use Rattle.sight_index.specs.Cells.{IsPointIn}
use Rattle.sight_index.specs.Index.{IsIndexOf, IsNear}
use Rattle.sight_index.specs.Probes.{IsAnswer, meetings}
use Rattle.sight_index.specs.declared.index.SightIndex.{SightIndex}

-- a box that a segment between two points of the room meets is near it
abbrev pub MetIsNear : Type 0
MetIsNear = (room : Size) (blocks : List Block) (index : SightIndex) (p q : Point) (b : ℕ) → IsIndexOf room blocks index → IsPointIn room p →
    IsPointIn room q → IsSomeAnd (slice_get blocks b) (MeetsBox (place_of p) (place_of q)) → IsNear index p q b

-- the answer is that of asking every box
pub record AgreesWithPlain (blocks : List Block) (p q : Point) (answer : Option ℕ) : Type 0 where
  pub test : is_some answer ≡ is_blocked blocks (place_of p) (place_of q)
  pub first : MatchOption answer (NoneMet blocks (place_of p) (place_of q)) (λ k. IsFirstMet blocks (place_of p) (place_of q) k)

-- where the truth values say which boxes the segment meets, the first near box whose value is true is the first box that is met
abbrev pub AnswersAgree : Type 0
AnswersAgree = (room : Size) (blocks : List Block) (index : SightIndex) (p q : Point) (answer : Option ℕ) → IsIndexOf room blocks index →
    IsPointIn room p → IsPointIn room q → IsAnswer (IsNear index p q) (meetings blocks p q) answer → AgreesWithPlain blocks p q answer
