-- The first box that a segment meets, by the test of each box.
use Rattle.std.proofs.Common.{◌≡◌, ℕ, ◌+◌, ◌<◌, true, false, List, [], length, get_or, take, refl}
use Rattle.std.proofs.lemmas.List.Folds.{list_any_at, list_any_more}
use Rattle.std.proofs.lemmas.Option.{slice_get-get_or}
use Rattle.room_layout.specs.Place.{Place}
use Rattle.room_layout.specs.declared.room.Block.{Block}
use Rattle.sight_line.specs.Sight.{MeetsBox, NoneMet, IsFirstMet, meets_box, is_blocked}
use Rattle.sight_line.proofs.Decided.{decided}

pub none_yet : (p q : Place) → is_blocked [] p q ≡ false
unfolding is_blocked
none_yet p q = refl

pub none_more : (blocks : List Block) (p q : Place) (k : ℕ) (d : Block) → k < length blocks → is_blocked (take k blocks) p q ≡ false →
    meets_box p q (get_or blocks k d) ≡ false → is_blocked (take (k + 1) blocks) p q ≡ false
unfolding is_blocked
none_more blocks p q k d l before here = rw (list_any_more (λ b. meets_box p q b) blocks k d l, before, here) refl

pub one_met : (blocks : List Block) (p q : Place) (k : ℕ) (d : Block) → k < length blocks → meets_box p q (get_or blocks k d) ≡ true →
    is_blocked blocks p q ≡ true
unfolding is_blocked
one_met blocks p q k d l here = list_any_at (λ b. meets_box p q b) blocks k d l here

pub none_met : (blocks : List Block) (p q : Place) → is_blocked blocks p q ≡ false → NoneMet blocks p q
none_met blocks p q none = λ k d l m.
    let t = one_met blocks p q k d l ((decided p q (get_or blocks k d)).1 m) in
    cc

pub first_met : (blocks : List Block) (p q : Place) (k : ℕ) (d : Block) → k < length blocks → is_blocked (take k blocks) p q ≡ false →
    MeetsBox p q (get_or blocks k d) → IsFirstMet blocks p q k
first_met blocks p q k d l before here = record {
  met = rw (slice_get-get_or blocks k d l) here;
  none_before = none_met (take k blocks) p q before;
}
