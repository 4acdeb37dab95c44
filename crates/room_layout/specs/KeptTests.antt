-- Which lamps are kept, computed.
use Rattle.std.specs.Prelude.{◌≡◌, ℕ, List, [], ◌∷◌, true, false, refl}
use Rattle.room_layout.specs.declared.geometry.Face.TheVariants.{Down}
use Rattle.room_layout.specs.declared.room.Lamp.{Lamp}
use Rattle.room_layout.specs.declared.room.Shine.TheVariants.{Even}
use Rattle.room_layout.specs.Kept.{kept}

abbrev lamp : ℕ → Lamp
lamp candela = record {
  at = record { x = 0; y = 0; z = 0 };
  shine = Even candela;
  turn = 0;
  maintenance = 1000;
  size_x = 0;
  size_y = 0;
  split_x = 1;
  split_y = 1;
  aim = Down;
}

abbrev three : List Lamp
three = lamp 1 ∷ lamp 2 ∷ lamp 3 ∷ []

first_and_last : kept (true ∷ false ∷ true ∷ []) three ≡ lamp 1 ∷ lamp 3 ∷ []
unfolding kept
first_and_last = refl

none : kept (false ∷ false ∷ false ∷ []) three ≡ []
unfolding kept
none = refl
