-- Places that are dark for a lamp's point and places that aren't, computed.
use Rattle.std.specs.Prelude.{true, false, refl}
use Rattle.std.proofs.Common.{inl, inr}
use Rattle.room_layout.specs.Place.{Place, in_front}
use Rattle.room_layout.specs.declared.geometry.Face.TheVariants.{Up, Down}
use Rattle.direct_light.specs.Ways.{IsDark}

abbrev floor : Place
floor = record { x = 3000; y = 3000; z = 0 }

abbrev overhead : Place
overhead = record { x = 3000; y = 3000; z = 6000 }

-- a plane from which the point is hidden is dark, whatever it faces
hidden_is_dark : IsDark overhead floor Up false
hidden_is_dark = inl refl

-- so is one that faces down, of a point above it
behind_is_dark : IsDark overhead floor Down true
unfolding in_front
behind_is_dark = inr refl

-- and one that the point lies in
in_plane_is_dark : IsDark (record { x = 0; y = 0; z = 0 }) floor Up true
unfolding in_front
in_plane_is_dark = inr refl

-- one that faces up to the point and sees it isn't
lit_is_not_dark : IsDark overhead floor Up true → ⊥
unfolding in_front
lit_is_not_dark (inl e) = cc
lit_is_not_dark (inr e) = cc
