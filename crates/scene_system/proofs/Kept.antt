-- Tables that the program keeps, and the exact ones that they are rounded from.
use Rattle.std.proofs.Common.{ℕ, zero, suc, ◌+◌, ◌*◌, ◌<◌, ◌≤◌, ◌≡◌, List, [], ◌∷◌, ◌++◌, All, length, map, take, sum_by, arith, refl, sym, ap, ◌∙◌, subst, inl, inr}
use Rattle.std.specs.Prelude.{slice_index_or}
use Rattle.std.specs.Int.{div_ceil}
use Rattle.std.proofs.lemmas.Bool.{cases_lt}
use Rattle.std.proofs.lemmas.Grind.{div_ceil_times}
use Rattle.std.proofs.lemmas.List.{map_more}
use Rattle.std.proofs.lemmas.List.Elements.{All-get_or, All-more, All-push}
use Rattle.std.proofs.lemmas.List.Sums.{sum_by-cons}
use Rattle.std.proofs.Math.Nat.{mul-le-mul_left}
use Rattle.fx_base.specs.Fraction.{Fraction, ◌≤ᶠ◌, whole}
use Rattle.fx_base.specs.Interval.{Interval, exact}
use Rattle.fx_base.specs.Units.{ticks}
use Rattle.fx_base.proofs.Sums.{ticks_above_back}
use Rattle.room_layout.specs.Accepted.{IsShine}
use Rattle.room_layout.specs.declared.room.Lamp.{Lamp}
use Rattle.room_layout.specs.declared.room.Room.{Room}
use Rattle.room_layout.specs.declared.room.Shine.{Shine}
use Rattle.room_layout.specs.declared.room.Shine.TheVariants.{Even, File}
use Rattle.photo_table.specs.Exact.{IsIntensityTable, rounded, ticks_above}
use Rattle.photo_table.specs.Kept.{IsGreatest}
use Rattle.photo_table.specs.Table.{Table, upper}
use Rattle.photo_table.proofs.Exactly.{rounded_stands}
use Rattle.photo_table.proofs.HullLaws.{stands_table}
use Rattle.direct_light.specs.Shares.{no_table, table_at}
use Rattle.scene_system.specs.Causes.{greatest_of, greatest_ticks, greatest_total, ticks_of, total_ticks, upper_ticks}
use Rattle.scene_system.specs.Tables.{AreExactTables, AreKept, AreTablesOf, IsKeptTable, ticks_by}

-- ---- the least number of ticks that isn't below a number

above_most : (x : Fraction) (m : ℕ) → x ≤ᶠ ticks m → ticks_above x ≤ m
above_most x m h =
    let p = x.positive in
    let g = ticks_above_back m h in
    let c = (div_ceil_times (x.num * 68719476736) x.den p).1 in
    elim (cases_lt m (ticks_above x)) [
      | inl l ↦ let k : m + 1 ≤ div_ceil (x.num * 68719476736) x.den = omega (arith, l) in absurd (omega (arith, mul-le-mul_left x.den k, g, c))
      | inr k ↦ k
    ]

above_ticks : (m : ℕ) → ticks_above (ticks m) ≡ m
unfolding ticks
above_ticks m = let c = div_ceil_times (m * 68719476736) 68719476736 (omega arith) in omega (arith, c.0, c.1)

-- ---- the greatest of a list of intensities

no_intensity : Interval
no_intensity = exact (whole 0)

greatest_below : (is : List Interval) (m : ℕ) → ((k : ℕ) → k < length is → (slice_index_or is k (exact (whole 0))).hi ≤ᶠ ticks m) → greatest_of (map upper_ticks is) ≤ m
unfolding greatest_of
greatest_below [] m h = omega arith
greatest_below (i ∷ is) m h = omega (arith, above_most i.hi m (h 0 (omega arith)), greatest_below is m (λ k l. h (suc k) (omega arith)))

greatest_above : (is : List Interval) (k : ℕ) → k < length is → upper_ticks (slice_index_or is k (exact (whole 0))) ≤ greatest_of (map upper_ticks is)
unfolding greatest_of
greatest_above [] k l = absurd (omega arith)
greatest_above (i ∷ is) zero l = omega arith
greatest_above (i ∷ is) (suc k) l = omega (arith, greatest_above is k (omega arith))

pub greatest_is : (p : Table) (m : ℕ) → IsGreatest upper p (ticks m) → m ≡ greatest_ticks p
greatest_is p m h =
    let below = greatest_below p.values m h.all in
    let above = greatest_above p.values h.place h.within in
    let e : upper_ticks (slice_index_or p.values h.place (exact (whole 0))) ≡ m = ap ticks_above h.is ∙ above_ticks m in
    omega (arith, below, above, e)

-- rounding up to a tick leaves it as it is
greatest_rounded : (is : List Interval) → greatest_of (map upper_ticks (map rounded is)) ≡ greatest_of (map upper_ticks is)
unfolding greatest_of
greatest_rounded [] = refl
greatest_rounded (i ∷ is) = rw (above_ticks (ticks_above i.hi), greatest_rounded is) refl

-- ---- kept tables

pub kept_table : (p : Table) (m : ℕ) → IsIntensityTable p → IsGreatest upper p (ticks m) → m ≤ greatest_total → IsKeptTable p
kept_table p m kept greatest bright =
    let e = greatest_is p m greatest in
    let G : ℕ → Type 0 = λ z. IsGreatest upper p (ticks z) in
    record { kept = kept; greatest = subst G e greatest; bright = omega (arith, e, bright) }

pub kept_at : (photos : List Table) (k : ℕ) → AreKept photos → k < length photos → IsKeptTable (table_at photos k)
kept_at photos k are inside = All-get_or IsKeptTable photos k no_table inside are

-- a lamp of one of the files is within the limit by itself
shine_most : (photos : List Table) (l : Lamp) (s : Shine) → l.shine ≡ s → IsShine (length photos) s → AreKept photos → ticks_of photos l ≤ greatest_total
shine_most photos l (Even candela) e is are = rw e (omega (arith, is))
shine_most photos l (File k) e is are = rw e ((kept_at photos k are is).bright)

pub ticks_most : (photos : List Table) (l : Lamp) → IsShine (length photos) l.shine → AreKept photos → ticks_of photos l ≤ greatest_total
ticks_most photos l is are = shine_most photos l l.shine refl is are

-- by the numbers of the files
file_ticks : (photos : List Table) (k : ℕ) → slice_index_or (map greatest_ticks photos) k 0 ≡ greatest_ticks (table_at photos k)
unfolding greatest_of
file_ticks [] k = refl
file_ticks (p ∷ photos) zero = refl
file_ticks (p ∷ photos) (suc k) = file_ticks photos k

by_files : (photos : List Table) (l : Lamp) (s : Shine) → l.shine ≡ s → ticks_by (map greatest_ticks photos) l ≡ ticks_of photos l
by_files photos l (Even candela) e = rw e refl
by_files photos l (File k) e = rw e (file_ticks photos k)

same_sum : (f g : Lamp → ℕ) (lamps : List Lamp) → ((l : Lamp) → f l ≡ g l) → sum_by f lamps ≡ sum_by g lamps
same_sum f g [] h = refl
same_sum f g (l ∷ lamps) h = rw (sum_by-cons f l lamps, sum_by-cons g l lamps, h l, same_sum f g lamps h) refl

pub total_by_files : (photos : List Table) (room : Room) → sum_by (ticks_by (map greatest_ticks photos)) room.lamps ≡ total_ticks photos room
total_by_files photos room = same_sum (ticks_by (map greatest_ticks photos)) (ticks_of photos) room.lamps (λ l. by_files photos l l.shine refl)

-- ---- the numbers of the first files

pub record AreFirstKept (photos : List Table) (i : ℕ) (all : List ℕ) : Type 0 where
  pub so_far : all ≡ map greatest_ticks (take i photos)
  pub most : All (λ n. n ≤ greatest_total) all
  pub kept : AreKept (take i photos)

pub one_more_kept : (photos : List Table) (i : ℕ) (all more : List ℕ) (p : Table) (r : ℕ) → i < length photos → p ≡ slice_index_or photos i p → r ≡ greatest_ticks p → IsKeptTable p
    → all ≡ map greatest_ticks (take i photos) → All (λ n. n ≤ greatest_total) all → AreKept (take i photos) → more ≡ all ++ r ∷ [] → AreFirstKept photos (i + 1) more
one_more_kept photos i all more p r inside is e kept so_far most first pushed = record {
  so_far = pushed ∙ ap (λ (ns : List ℕ). ns ++ r ∷ []) so_far ∙ ap (λ (n : ℕ). map greatest_ticks (take i photos) ++ n ∷ []) (e ∙ ap greatest_ticks is)
      ∙ sym (map_more greatest_ticks photos i p inside);
  most = rw pushed (All-push (λ n. n ≤ greatest_total) all r most (omega (arith, e, kept.bright)));
  kept = All-more IsKeptTable photos i p inside first (subst IsKeptTable is kept);
}

-- ---- and the exact ones

past_end : (tables : List Table) (k : ℕ) → length tables ≤ k → table_at tables k ≡ no_table
past_end [] k h = refl
past_end (t ∷ tables) zero h = absurd (omega arith)
past_end (t ∷ tables) (suc k) h = past_end tables k (omega arith)

same_greatest : (photos tables : List Table) (k : ℕ) → AreTablesOf photos tables → greatest_ticks (table_at photos k) ≡ greatest_ticks (table_at tables k)
same_greatest photos tables k are = elim (cases_lt k (length photos)) [
  | inl inside ↦ rw ((are.each k inside).values) (greatest_rounded (table_at tables k).values)
  | inr past ↦ let c = are.count in rw (past_end photos k past, past_end tables k (omega (arith, c, past))) refl
]

same_ticks : (photos tables : List Table) (l : Lamp) (s : Shine) → AreTablesOf photos tables → l.shine ≡ s → ticks_of photos l ≡ ticks_of tables l
same_ticks photos tables l (Even candela) are e = rw e refl
same_ticks photos tables l (File k) are e = rw e (same_greatest photos tables k are)

-- the total intensity is the same by either
pub same_total : (photos tables : List Table) (room : Room) → AreTablesOf photos tables → total_ticks photos room ≡ total_ticks tables room
same_total photos tables room are = same_sum (ticks_of photos) (ticks_of tables) room.lamps (λ l. same_ticks photos tables l l.shine are refl)

pub exact_tables : (room : Room) (photos tables : List Table) → length photos ≡ length room.files → AreKept photos → AreTablesOf photos tables → AreExactTables room tables
exact_tables room photos tables count kept are =
    let c = are.count in
    record {
      count = omega (arith, c, count);
      is_table = λ k inside. let h : k < length photos = omega (arith, c, inside) in
          stands_table (table_at photos k) (table_at tables k) (kept_at photos k kept h).kept.is_table
          (rounded_stands (table_at photos k) (table_at tables k) (are.each k h));
      exact = λ k inside. (are.each k (omega (arith, c, inside))).exact;
    }
