-- A box that is met is near, so asking near boxes alone gives the answer of asking all.
use Rattle.std.proofs.Common.{ℕ, ◌≡◌, ◌<◌, Bool, true, false, not, List, length, get_or, take, refl, subst, sym, ap, ◌∙◌, arith, inl, inr, length-take-le, get_or-take}
use Rattle.std.specs.Prelude.{All, Option, None, Some, slice_get, is_some, nat_abs}
use Rattle.std.specs.Option.{option_map}
use Rattle.std.proofs.lemmas.Bool.{cases_Bool}
use Rattle.std.proofs.lemmas.List.Folds.{list_any_none}
use Rattle.std.proofs.lemmas.Option.{slice_get-map, slice_get-get_or, slice_get_within, get_or_from_slice_get}
use Rattle.room_layout.specs.Place.{Place, place_of}
use Rattle.room_layout.specs.declared.geometry.Point.{Point}
use Rattle.room_layout.specs.declared.geometry.Size.{Size}
use Rattle.room_layout.specs.declared.room.Block.{Block}
use Rattle.sight_line.specs.Sight.{MeetsBox, meets_box, is_blocked}
use Rattle.sight_line.proofs.Decided.{decided}
use Rattle.sight_line.proofs.First.{one_met, none_met, first_met}
use Rattle.sight_index.specs.Cells.{IsCell, IsPointIn, Touches}
use Rattle.sight_index.specs.Index.{size_of, IsIndexOf, IsNear}
use Rattle.sight_index.specs.Laws.{AgreesWithPlain, AnswersAgree, MetIsNear}
use Rattle.sight_index.specs.Probes.{IsAnswer, IsFirstTrue, IsTrueAt, NoneTrue, meetings}
use Rattle.sight_index.specs.Vantages.{IsVantage}
use Rattle.sight_index.specs.declared.index.SightIndex.{SightIndex}
use Rattle.sight_index.specs.declared.vantage.Vantage.{Vantage}
use Rattle.sight_index.proofs.Cuts.{met_part}
use Rattle.sight_index.proofs.NearBoxes.{within_x, within_y, within_z}
use Rattle.sight_index.proofs.Options.{is_some_of, of_some}

-- the index of a room's boxes, and two points of the room
record IsAsked (room : Size) (blocks : List Block) (index : SightIndex) (p q : Point) : Type 0 where
  boxes : IsIndexOf room blocks index
  from : IsPointIn (size_of index) p
  to : IsPointIn (size_of index) q

asked_in : (room : Size) (blocks : List Block) (index : SightIndex) (p q : Point) → IsIndexOf room blocks index → IsPointIn room p →
    IsPointIn room q → IsAsked room blocks index p q
asked_in room blocks index p q boxes from to = record {
  boxes = boxes;
  from = subst (λ s. IsPointIn s p) (sym boxes.size) from;
  to = subst (λ s. IsPointIn s q) (sym boxes.size) to;
}

-- ---- met is near

near_in : (room : Size) (blocks : List Block) (index : SightIndex) (p q : Point) (b : ℕ) (x : Block) → IsAsked room blocks index p q →
    slice_get blocks b ≡ Some x → MeetsBox (place_of p) (place_of q) x → IsNear index p q b
near_in room blocks index p q b x asked e m =
    let size : Size = size_of index in
    let i = met_part size.x m.r m.s (nat_abs p.x) (nat_abs q.x) x.lo.x x.hi.x m.some (within_x size p asked.from) (within_x size q asked.to) m.x in
    let j = met_part size.y m.r m.s (nat_abs p.y) (nat_abs q.y) x.lo.y x.hi.y m.some (within_y size p asked.from) (within_y size q asked.to) m.y in
    let k = met_part size.z m.r m.s (nat_abs p.z) (nat_abs q.z) x.lo.z x.hi.z m.some (within_z size p asked.from) (within_z size q asked.to) m.z in
    let cell : IsCell i.at j.at k.at = record { x = i.below; y = j.below; z = k.below } in
    let touches : Touches size i.at j.at k.at x = record { x = i.holds.0; y = j.holds.0; z = k.holds.0 } in
    record {
      i = i.at;
      j = j.at;
      k = k.at;
      cell = cell;
      touched = record { x = i.holds.1; y = j.holds.1; z = k.holds.1 };
      has = ((asked.boxes.cells i.at j.at k.at cell).bits b).1 (of_some (slice_get blocks b) x _ e (subst (λ s. Touches s i.at j.at k.at x) asked.boxes.size touches));
    }

pub met_near : MetIsNear
met_near room blocks index p q b boxes from to h =
    let x = is_some_of (slice_get blocks b) _ h in
    near_in room blocks index p q b x.0 (asked_in room blocks index p q boxes from to) x.1 x.2

-- ---- the answers agree

-- the truth value of a box that is there
truth_at : (blocks : List Block) (p q : Point) (b : ℕ) (x : Block) → slice_get blocks b ≡ Some x → meets_box (place_of p) (place_of q) x ≡ true →
    IsTrueAt (meetings blocks p q) b
truth_at blocks p q b x e t = rw (slice_get-map (λ c. meets_box (place_of p) (place_of q) c) blocks b, e) (ap (λ v. Some v) t)

true_from : (o : Option Block) (f : Block → Bool) → option_map f o ≡ Some true → (x : Block) × (o ≡ Some x) × (f x ≡ true)
true_from None f h = cc
true_from (Some x) f h = (x, refl, cc)

-- a box whose truth value isn't true isn't met
clear_at : (room : Size) (blocks : List Block) (index : SightIndex) (p q : Point) (b : ℕ) (d : Block) → IsAsked room blocks index p q →
    b < length blocks → (IsNear index p q b → ¬ IsTrueAt (meetings blocks p q) b) → meets_box (place_of p) (place_of q) (get_or blocks b d) ≡ false
clear_at room blocks index p q b d asked l none =
    let e = slice_get-get_or blocks b d l in
    elim (cases_Bool (meets_box (place_of p) (place_of q) (get_or blocks b d))) [
      | inl met ↦
          let near = near_in room blocks index p q b (get_or blocks b d) asked e ((decided (place_of p) (place_of q) (get_or blocks b d)).0 met) in
          absurd (none near (truth_at blocks p q b (get_or blocks b d) e met))
      | inr clear ↦ clear
    ]

none_blocks : (blocks : List Block) (p q : Place) → All (λ b. meets_box p q b ≡ false) blocks → is_blocked blocks p q ≡ false
unfolding is_blocked
none_blocks blocks p q h = list_any_none (λ b. meets_box p q b) blocks h

agrees_none : (room : Size) (blocks : List Block) (index : SightIndex) (p q : Point) → IsAsked room blocks index p q →
    NoneTrue (IsNear index p q) (meetings blocks p q) → AgreesWithPlain blocks p q None
agrees_none room blocks index p q asked none =
    let blocked = none_blocks blocks (place_of p) (place_of q) (λ b d l. clear_at room blocks index p q b d asked l (none b)) in
    record { test = sym blocked; first = none_met blocks (place_of p) (place_of q) blocked }

clear_before : (room : Size) (blocks : List Block) (index : SightIndex) (p q : Point) (b : ℕ) → IsAsked room blocks index p q → b < length blocks →
    ((a : ℕ) → a < b → IsNear index p q a → ¬ IsTrueAt (meetings blocks p q) a) → is_blocked (take b blocks) (place_of p) (place_of q) ≡ false
clear_before room blocks index p q b asked l first =
    none_blocks (take b blocks) (place_of p) (place_of q) (λ a d m.
    let below : a < b = omega (arith, length-take-le b blocks (omega arith)) in
    rw (get_or-take b blocks a d below) (clear_at room blocks index p q a d asked (omega arith) (first a below)))

agrees_some : (room : Size) (blocks : List Block) (index : SightIndex) (p q : Point) (b : ℕ) → IsAsked room blocks index p q →
    IsFirstTrue (IsNear index p q) (meetings blocks p q) b → AgreesWithPlain blocks p q (Some b)
agrees_some room blocks index p q b asked f =
    let met = λ (c : Block). meets_box (place_of p) (place_of q) c in
    let x = true_from (slice_get blocks b) met (sym (slice_get-map met blocks b) ∙ f.holds) in
    let l = slice_get_within blocks b x.0 x.1 in
    let e = get_or_from_slice_get blocks b x.0 x.0 x.1 in
    let here : met (get_or blocks b x.0) ≡ true = ap met e ∙ x.2 in
    record {
      test = sym (one_met blocks (place_of p) (place_of q) b x.0 l here);
      first = first_met blocks (place_of p) (place_of q) b x.0 l (clear_before room blocks index p q b asked l f.first)
          ((decided (place_of p) (place_of q) (get_or blocks b x.0)).0 here);
    }

agrees : (room : Size) (blocks : List Block) (index : SightIndex) (p q : Point) (answer : Option ℕ) → IsAsked room blocks index p q →
    IsAnswer (IsNear index p q) (meetings blocks p q) answer → AgreesWithPlain blocks p q answer
agrees room blocks index p q None asked a = agrees_none room blocks index p q asked a
agrees room blocks index p q (Some b) asked a = agrees_some room blocks index p q b asked a

pub agree : AnswersAgree
agree room blocks index p q answer boxes from to a = agrees room blocks index p q answer (asked_in room blocks index p q boxes from to) a

-- ---- between vantages

clear_is : (a clear b : Bool) → a ≡ not clear → a ≡ b → clear ≡ not b
clear_is a true b e f = cc
clear_is a false b e f = cc

-- where a probe of the boxes and points was asked, no answer means that none of the boxes is met
pub clear_between : (room : Size) (blocks : List Block) (index : SightIndex) (v w : Vantage) (truths : List Bool) (answer : Option ℕ) (clear : Bool) →
    IsIndexOf room blocks index → IsVantage index v → IsVantage index w → truths ≡ meetings blocks v.at w.at →
    IsAnswer (IsNear index v.at w.at) truths answer → is_some answer ≡ not clear →
    clear ≡ not (is_blocked blocks (place_of v.at) (place_of w.at))
clear_between room blocks index v w truths answer clear boxes from to e a s =
    let asked : IsAsked room blocks index v.at w.at = record { boxes = boxes; from = from.within; to = to.within } in
    clear_is (is_some answer) clear _ s (agrees room blocks index v.at w.at answer asked (rw e at a)).test
