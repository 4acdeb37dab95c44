-- The points of a route, one after the other, and the numbers of marked lamps.
use Rattle.std.proofs.Common.{ℕ, ◌+◌, ◌<◌, ◌≡◌, ◌++◌, List, [], ◌∷◌, All, length, get_or, inl, inr, arith, ap, refl, ◌∙◌}
use Rattle.std.proofs.Math.ListN.{get_or-append}
use Rattle.std.proofs.Math.Seq.{get_or-append_seam}
use Rattle.std.proofs.lemmas.Bool.{cases_lt}
use Rattle.std.proofs.lemmas.List.{length_push}
use Rattle.std.proofs.lemmas.List.Elements.{All-nil, All-push, All-same}
use Rattle.room_layout.specs.Place.{point_of}
use Rattle.room_layout.specs.Positions.{IsInReach}
use Rattle.room_layout.specs.declared.geometry.Point.{Point}
use Rattle.escape_route.specs.Routes.{no_point, point_count, point_of_number, route_place, AreRoutePoints}
use Rattle.escape_route.specs.declared.route.Route.{Route}

-- the first points of a route
pub record AreFirst (r : Route) (count : ℕ) (points : List Point) : Type 0 where
  pub size : length points ≡ count
  pub each : (k : ℕ) → k < count → point_of_number points k ≡ point_of (route_place r k)
  pub within : All IsInReach points

pub none_yet : (r : Route) (points : List Point) → points ≡ [] → AreFirst r 0 points
none_yet r points e = record {
  size = rw e refl;
  each = λ k l. absurd (omega arith);
  within = All-same IsInReach points [] e (All-nil IsInReach);
}

pub one_more : (r : Route) (n : ℕ) (points more : List Point) (p : Point) → AreFirst r n points → p ≡ point_of (route_place r n) → IsInReach p
    → more ≡ points ++ p ∷ [] → AreFirst r (n + 1) more
one_more r n points more p h is reach pushed =
    let size = h.size in
    rw pushed (record {
      size = let long = length_push points p in omega (arith, size, long);
      each = λ k l. elim (cases_lt k n) [
        | inl below ↦ get_or-append points (p ∷ []) no_point k (omega (arith, size, below)) ∙ h.each k below
        | inr above ↦
            let e : k ≡ length points = omega (arith, l, above, size) in
            let g : n ≡ k = omega (arith, l, above) in
            ap (λ (i : ℕ). get_or (points ++ p ∷ []) i no_point) e ∙ get_or-append_seam points p [] no_point ∙ is ∙ ap (λ (i : ℕ). point_of (route_place r i)) g
      ];
      within = All-push IsInReach points p h.within reach;
    })

pub all_of : (r : Route) (n : ℕ) (points : List Point) → n ≡ point_count r → AreFirst r n points → AreRoutePoints r points
all_of r n points e h = let size = h.size in record {
  size = size ∙ e;
  each = λ k l. h.each k (omega (arith, size, l));
}
