-- Lists for which the memory is taken before anything is put into them.
use Rattle.std.specs.Prelude.{ℕ, ◌≡◌, ◌≤◌, [], Vec, vec_capacity}

-- an empty list with room for so many elements
pub record IsReserved {X Z : Type 0} (count : ℕ) (list : Vec X Z) : Type 0 where
  pub empty : list.items ≡ []
  pub room : count ≤ vec_capacity list
