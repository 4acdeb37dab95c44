-- The test over pairs of faces decides whether a segment meets a box.
use Rattle.std.proofs.Common.{◌≡◌, ℕ, zero, suc, ◌*◌, ◌<◌, Bool, true, false, ◌||◌, nat_lt, List, [], ◌∷◌, get_or, IsTrue, ◌↔◌, refl, arith, lit<}
use Rattle.std.specs.List.{All, list_all}
use Rattle.std.proofs.lemmas.Bool.{ltb-true, lt-ltb}
use Rattle.std.proofs.lemmas.List.Sums.{AllPass-from_list_all, list_all-from_AllPass}
use Rattle.std.proofs.lemmas.List.Elements.{All-cons}
use Rattle.room_layout.specs.Place.{Place}
use Rattle.room_layout.specs.declared.room.Block.{Block}
use Rattle.sight_line.specs.Sight.{MeetsBox, Side, low_side, high_side, sides, enters_before, meets_box}
use Rattle.sight_line.proofs.Planes.{above_plane, below_plane}
use Rattle.sight_line.proofs.Pairs.{IsApart, IsBefore, IsAt, Inside, before_from, inside_each}

-- two tests of one fact are the same
pub same_test : {P : Type 0} (a b : Bool) → IsTrue a ↔ P → IsTrue b ↔ P → a ≡ b
same_test true true f g = refl
same_test false false f g = refl
same_test true false f g = let t : IsTrue false = g.1 (f.0 refl) in cc
same_test false true f g = let t : IsTrue false = f.1 (g.0 refl) in cc

-- ---- one pair of faces

test_before : (a b x y : ℕ) → ((nat_lt 0 a || nat_lt 0 b) || nat_lt x y) ≡ true → a ≡ 0 → b ≡ 0 → x < y
test_before zero zero x y h e f = ltb-true x y h
test_before (suc a) b x y h e f = absurd (omega arith)
test_before zero (suc b) x y h e f = absurd (omega arith)

before_test : (a b x y : ℕ) → (a ≡ 0 → b ≡ 0 → x < y) → ((nat_lt 0 a || nat_lt 0 b) || nat_lt x y) ≡ true
before_test zero zero x y h = lt-ltb x y (h refl refl)
before_test (suc a) b x y h = let t : nat_lt 0 (suc a) ≡ true = lt-ltb 0 (suc a) (omega arith) in rw t refl
before_test zero (suc b) x y h = let t : nat_lt 0 (suc b) ≡ true = lt-ltb 0 (suc b) (omega arith) in rw t refl

is_before : (f g : Side) → enters_before f g ≡ true → IsBefore f g
is_before f g h = record { before = test_before f.p_in g.q_in (f.p_out * g.q_out) (g.p_in * f.q_in) h }

passes : (f g : Side) → IsBefore f g → enters_before f g ≡ true
passes f g b = before_test f.p_in g.q_in (f.p_out * g.q_out) (g.p_in * f.q_in) b.before

-- ---- the six faces

all_none : (P : Side → Type 0) → All P []
all_none P = λ k d l. absurd (omega arith)

six : (P : Side → Type 0) (a b c d e f : Side) → P a → P b → P c → P d → P e → P f → All P (a ∷ b ∷ c ∷ d ∷ e ∷ f ∷ [])
six P a b c d e f pa pb pc pd pe pf =
    All-cons P a (b ∷ c ∷ d ∷ e ∷ f ∷ []) pa
    (All-cons P b (c ∷ d ∷ e ∷ f ∷ []) pb
    (All-cons P c (d ∷ e ∷ f ∷ []) pc
    (All-cons P d (e ∷ f ∷ []) pd
    (All-cons P e (f ∷ []) pe
    (All-cons P f [] pf (all_none P))))))

each_side : (P : Side → Type 0) (p q : Place) (b : Block) →
    P (low_side p.x q.x b.lo.x) → P (high_side p.x q.x b.hi.x) →
    P (low_side p.y q.y b.lo.y) → P (high_side p.y q.y b.hi.y) →
    P (low_side p.z q.z b.lo.z) → P (high_side p.z q.z b.hi.z) → All P (sides p q b)
each_side P p q b =
    six P
    (low_side p.x q.x b.lo.x) (high_side p.x q.x b.hi.x)
    (low_side p.y q.y b.lo.y) (high_side p.y q.y b.hi.y)
    (low_side p.z q.z b.lo.z) (high_side p.z q.z b.hi.z)

low_apart : (p q lo : ℕ) → IsApart (low_side p q lo)
low_apart p q lo = record { p = λ l. omega arith; q = λ l. omega arith }

high_apart : (p q hi : ℕ) → IsApart (high_side p q hi)
high_apart p q hi = record { p = λ l. omega arith; q = λ l. omega arith }

sides_apart : (p q : Place) (b : Block) → All (λ f. IsApart f) (sides p q b)
sides_apart p q b =
    each_side (λ f. IsApart f) p q b
    (low_apart p.x q.x b.lo.x) (high_apart p.x q.x b.hi.x)
    (low_apart p.y q.y b.lo.y) (high_apart p.y q.y b.hi.y)
    (low_apart p.z q.z b.lo.z) (high_apart p.z q.z b.hi.z)

-- a point inside each face lies in the open inside of the box
inside_meets : (p q : Place) (b : Block) → Inside (sides p q b) → MeetsBox p q b
inside_meets p q b i =
    let d : Side = low_side 0 0 0 in
    let low = λ (u v lo : ℕ). (above_plane i.r i.s u v (2 * lo)).0 in
    let high = λ (u v hi : ℕ). (below_plane i.r i.s u v (2 * hi)).0 in
    record {
      r = i.r;
      s = i.s;
      some = i.some;
      x = (low p.x q.x b.lo.x (i.each 0 d (lit< tt)).at, high p.x q.x b.hi.x (i.each 1 d (lit< tt)).at);
      y = (low p.y q.y b.lo.y (i.each 2 d (lit< tt)).at, high p.y q.y b.hi.y (i.each 3 d (lit< tt)).at);
      z = (low p.z q.z b.lo.z (i.each 4 d (lit< tt)).at, high p.z q.z b.hi.z (i.each 5 d (lit< tt)).at);
    }

meets_inside : (p q : Place) (b : Block) (m : MeetsBox p q b) → All (λ f. IsAt m.r m.s f) (sides p q b)
meets_inside p q b m =
    each_side (λ f. IsAt m.r m.s f) p q b
    (record { at = (above_plane m.r m.s p.x q.x (2 * b.lo.x)).1 m.x.0 })
    (record { at = (below_plane m.r m.s p.x q.x (2 * b.hi.x)).1 m.x.1 })
    (record { at = (above_plane m.r m.s p.y q.y (2 * b.lo.y)).1 m.y.0 })
    (record { at = (below_plane m.r m.s p.y q.y (2 * b.hi.y)).1 m.y.1 })
    (record { at = (above_plane m.r m.s p.z q.z (2 * b.lo.z)).1 m.z.0 })
    (record { at = (below_plane m.r m.s p.z q.z (2 * b.hi.z)).1 m.z.1 })

-- ---- the law

-- a test of each pair of faces, in the form of `meets_box`
abbrev each_enters : List Side → Bool
each_enters fs = list_all (λ f. list_all (λ g. enters_before f g) fs) fs

from_test : (fs : List Side) → each_enters fs ≡ true → All (λ f. All (λ g. IsBefore f g) fs) fs
from_test fs h = λ k d l j e i.
    let row = AllPass-from_list_all (λ f. list_all (λ g. enters_before f g) fs) fs h k d l in
    is_before _ _ (AllPass-from_list_all (λ g. enters_before (get_or fs k d) g) fs row j e i)

from_pairs : (fs : List Side) → All (λ f. All (λ g. IsBefore f g) fs) fs → each_enters fs ≡ true
from_pairs fs h =
    list_all-from_AllPass (λ f. list_all (λ g. enters_before f g) fs) fs (λ k d l.
    list_all-from_AllPass (λ g. enters_before (get_or fs k d) g) fs (λ j e i. passes _ _ (h k d l j e i)))

pub decided : (p q : Place) (b : Block) → IsTrue (meets_box p q b) ↔ MeetsBox p q b
unfolding meets_box
decided p q b = (
  λ t. inside_meets p q b (inside_each (sides p q b) (sides_apart p q b) (from_test (sides p q b) t)),
  λ m.
      let at = meets_inside p q b m in
      from_pairs (sides p q b) (λ k d l j e i. before_from m.r m.s _ _ (at k d l) (at j e i)),
)
