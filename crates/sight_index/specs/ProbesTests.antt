-- What is asked of two boxes, from 100 to 200 and from 1000 to 2000 mm on each axis, of which the second is near, and the answer. The
-- rows are worked out by hand.
use Rattle.std.specs.Prelude.{ℕ, zero, suc, ◌≡◌, true, false, Some, None, pos, [], ◌∷◌, refl}
use Rattle.std.proofs.Common.{arith, inl, inr, lit<}
use Rattle.std.proofs.lemmas.List.Elements.{All-nil}
use Rattle.std.proofs.lemmas.Nat.Bits.{bit_at_above, bit_at-zero}
use Rattle.room_layout.specs.declared.geometry.Point.{Point}
use Rattle.room_layout.specs.declared.room.Block.{Block}
use Rattle.sight_line.specs.Sight.{meets_box, is_blocked}
use Rattle.sight_index.specs.Laws.{AgreesWithPlain}
use Rattle.sight_index.specs.Masks.{HasBit}
use Rattle.sight_index.specs.Probes.{AsksNearAlone, IsAnswer, IsTrueAt, meetings}

abbrev box : ℕ → ℕ → Block
box lo hi = record { lo = record { x = lo; y = lo; z = lo }; hi = record { x = hi; y = hi; z = hi }; reflect = 0 }

abbrev from : Point
from = record { x = pos 0; y = pos 3000; z = pos 3000 }

abbrev to : Point
to = record { x = pos 6000; y = pos 3000; z = pos 3000 }

-- the second box is met
meetings_of_two : meetings (box 100 200 ∷ box 1000 2000 ∷ []) from to ≡ false ∷ true ∷ []
unfolding meets_box
meetings_of_two = refl

-- only the second box is near
abbrev IsSecond : ℕ → Type 0
IsSecond b = b ≡ 1

-- both truth values are true: the first box isn't near
second_answers : IsAnswer IsSecond (true ∷ true ∷ []) (Some 1)
second_answers = record { near = refl; holds = refl; first = λ a less near. absurd (omega arith) }

none_answers : IsAnswer IsSecond (false ∷ false ∷ []) None
none_answers b near t = let e : IsTrueAt (false ∷ false ∷ []) 1 = rw near at t in cc

first_is_no_answer : ¬ IsAnswer IsSecond (true ∷ true ∷ []) (Some 0)
first_is_no_answer a = absurd (omega (arith, a.near))

-- bit 1 alone was set
second_bit : (b : ℕ) → HasBit 2 b → b ≡ 1
second_bit zero h = absurd (omega (arith, h))
second_bit (suc zero) h = refl
second_bit (suc (suc b)) h = let z = bit_at_above 2 2 (suc (suc b)) (omega arith) (omega arith) in absurd (omega arith)

second_asked : AsksNearAlone IsSecond 0 2
second_asked = record {
  kept = λ b h. let z = bit_at-zero b in absurd (omega arith);
  added = λ b h. inr (second_bit b h);
}

-- bit 0 isn't a near box's
every_box_asked : ¬ AsksNearAlone IsSecond 0 3
every_box_asked a = elim (a.added 0 refl) [ inl old ↦ absurd (omega (arith, old)) | inr near ↦ absurd (omega (arith, near)) ]

-- the box is met, and the answer names it
agrees : AgreesWithPlain (box 1000 2000 ∷ []) from to (Some 0)
unfolding is_blocked meets_box
agrees = record {
  test = refl;
  first = record {
    met = record { r = 1; s = 1; some = lit< tt; x = (lit< tt, lit< tt); y = (lit< tt, lit< tt); z = (lit< tt, lit< tt) };
    none_before = All-nil _;
  };
}

none_disagrees : ¬ AgreesWithPlain (box 1000 2000 ∷ []) from to None
unfolding is_blocked meets_box
none_disagrees a = let t : false ≡ true = a.test in cc
