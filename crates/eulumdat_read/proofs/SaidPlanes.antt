-- The stored planes in the words of the grammar.
use Rattle.std.proofs.Common.{ℕ, zero, suc, ◌+◌, ◌-◌, ◌*◌, ◌/◌, ◌%◌, ◌<◌, ◌≤◌, ◌≡◌, ◌<ℤ◌, ◌-ℤ◌, ℤ, pos, negsuc, true, ◌&&◌, List, ◌++◌, length, map, take, drop, slice_index_or, inl, inr, refl, ap, sym, subst, ◌∙◌, arith}
use Rattle.std.specs.Ordering.{int_eq}
use Rattle.std.proofs.Math.ListN.{length-map}
use Rattle.std.proofs.Math.Seq.{take-length}
use Rattle.std.proofs.lemmas.Bool.{cases_lt}
use Rattle.std.proofs.lemmas.Bool.Decides.{Decides-int_eq}
use Rattle.std.proofs.lemmas.Int.{ints}
use Rattle.std.proofs.lemmas.List.{ext_get_or, get_or-drop, get_or-map, get_or-take, get_or_append_left, get_or-append_right, get_or_default, length-append, length-drop, length-take-le}
use Rattle.fx_base.specs.declared.Micro.{Micro}
use Rattle.fx_base.proofs.Truth.{both_true}
use Rattle.photo_table.specs.Kept.{angle_of}
use Rattle.symmetry_expand.specs.declared.symmetry.Symmetry.{Symmetry}
use Rattle.symmetry_expand.specs.declared.symmetry.Symmetry.TheVariants as symmetry
use Rattle.symmetry_expand.specs.Measured.{first_angle, last_angle, no_angle}
use Rattle.symmetry_expand.specs.Stored.{multiple_of, stored_count}
use Rattle.symmetry_expand.proofs.Planes.{natural_is}
use Rattle.eulumdat_read.specs.Grammar.{AreStored, Run, RunAsNeeded, SayAngles, angle, less_a_turn}
use Rattle.eulumdat_read.specs.Ldt.{run_well, stored_angles}
use Rattle.eulumdat_read.specs.Runs.{AreAngles}
use Rattle.eulumdat_read.proofs.StoredPlanes.{AreFirst, AreTurned, are_turned, axis_first, both_first, early_is, late_is, none_first, plane0_first, stored_get, stored_length}

-- ---- all angles C

above : (lines : List (List ℕ)) (k n high : ℕ) (xs : List Micro) → SayAngles lines k n high xs → (j i : ℕ) → i < j → j < n → angle xs i <ℤ angle xs j
above lines k n high xs h zero i p q = absurd (omega arith)
above lines k n high xs h (suc j) i p q =
    let s : j + 1 ≡ suc j = omega arith in
    let r : angle xs j <ℤ angle xs (suc j) = rw s at (h.rise j (omega arith)) in
    elim (cases_lt i j) [
      | inl a ↦ let b = above lines k n high xs h j i a (omega arith) in omega (arith, ints, b, r)
      | inr a ↦ let e : i ≡ j = omega arith in rw e r
    ]

natural_angle : (lines : List (List ℕ)) (k n high : ℕ) (xs : List Micro) → SayAngles lines k n high xs → (i : ℕ) → i < length xs → pos (slice_index_or (map angle_of xs) i 0) ≡ angle xs i
natural_angle lines k n high xs h i p =
    let e = h.size in
    ap pos (get_or-map angle_of xs i no_angle 0 p) ∙ natural_is (angle xs i) (h.least i (omega arith))

pub measured_of : (lines : List (List ℕ)) (k n high most : ℕ) (xs : List Micro) → high < most → SayAngles lines k n high xs → AreAngles n most xs
measured_of lines k n high most xs l h =
    let e = h.size in
    record {
      count = e;
      not_negative = λ i d p. rw (get_or_default xs i d no_angle p) (h.least i (omega arith));
      rise = λ i j p q.
          let a = natural_angle lines k n high xs h i (omega arith) in
          let b = natural_angle lines k n high xs h j q in
          let c = above lines k n high xs h j i p (omega arith) in
          omega (arith, ints, a, b, c);
      below = λ i p.
          let a = natural_angle lines k n high xs h i p in
          let b = h.most i (omega arith) in
          omega (arith, ints, a, b);
    }

-- ---- those that are stored

-- from the first one on
firsts : (s : Symmetry) (planes : ℕ) (xs : List Micro) → length xs ≡ planes → AreFirst s planes xs → stored_angles s planes xs ≡ take (stored_count s planes) xs
firsts s planes xs e f =
    let few = f.few in
    let l = length-take-le (stored_count s planes) xs (omega arith) in
    let n = stored_length s planes xs in
    ext_get_or no_angle (stored_angles s planes xs) (take (stored_count s planes) xs) (n ∙ sym l)
    (λ i p. let q : i < stored_count s planes = omega (arith, n) in stored_get s planes xs i no_angle q ∙ f.each i q ∙ sym (get_or-take (stored_count s planes) xs i no_angle q))

-- the last quarter, a turn earlier, and the first with its end
abbrev quarters : ℕ → List Micro → List Micro
quarters m xs = map less_a_turn (drop (3 * m) xs) ++ take (m + 1) xs

micro_is : (a b : Micro) → a.0 ≡ b.0 → a ≡ b
micro_is a b h = ap (λ z. let m : Micro = record { 0 = z } in m) h

quarters_length : (m : ℕ) (xs : List Micro) → length xs ≡ 4 * m → 1 ≤ m → (length (map less_a_turn (drop (3 * m) xs)) ≡ m) × (length (quarters m xs) ≡ 2 * m + 1)
quarters_length m xs e some =
    let a : length (map less_a_turn (drop (3 * m) xs)) ≡ m = let p = length-map (drop (3 * m) xs) less_a_turn in let q = length-drop (3 * m) xs in omega (arith, p, q) in
    let b = length-take-le (m + 1) xs (omega arith) in
    let c = length-append (map less_a_turn (drop (3 * m) xs)) (take (m + 1) xs) in
    (a, omega (arith, a, b, c))

early_quarter : (m : ℕ) (xs : List Micro) → length xs ≡ 4 * m → 1 ≤ m → (i : ℕ) → i < m → slice_index_or (quarters m xs) i no_angle ≡ less_a_turn (slice_index_or xs (3 * m + i) no_angle)
early_quarter m xs e some i p =
    let a = (quarters_length m xs e some).0 in
    let q = length-drop (3 * m) xs in
    get_or_append_left (map less_a_turn (drop (3 * m) xs)) (take (m + 1) xs) no_angle i (omega (arith, a))
    ∙ get_or-map less_a_turn (drop (3 * m) xs) i no_angle no_angle (omega (arith, q))
    ∙ ap less_a_turn (get_or-drop (3 * m) xs i no_angle)

late_quarter : (m : ℕ) (xs : List Micro) → length xs ≡ 4 * m → 1 ≤ m → (i : ℕ) → m ≤ i → i ≤ 2 * m → slice_index_or (quarters m xs) i no_angle ≡ slice_index_or xs (i - m) no_angle
late_quarter m xs e some i p q =
    let a = (quarters_length m xs e some).0 in
    get_or-append_right (map less_a_turn (drop (3 * m) xs)) (take (m + 1) xs) m i no_angle a p ∙ get_or-take (m + 1) xs (i - m) no_angle (omega arith)

quarters_are : (m : ℕ) (xs : List Micro) → AreAngles (4 * m) 360000000 xs → AreTurned m xs → 1 ≤ m → stored_angles symmetry.Plane90 (4 * m) xs ≡ quarters m xs
quarters_are m xs h t some =
    let n = stored_length symmetry.Plane90 (4 * m) xs in
    let l = quarters_length m xs h.count some in
    let k : length (stored_angles symmetry.Plane90 (4 * m) xs) ≡ 2 * m + 1 = omega (arith, n) in
    ext_get_or no_angle (stored_angles symmetry.Plane90 (4 * m) xs) (quarters m xs) (k ∙ sym l.1)
    (λ i p. elim (cases_lt i m) [
      | inl q ↦ micro_is _ _ (early_is m xs h t i no_angle q).0 ∙ sym (early_quarter m xs h.count some i q)
      | inr q ↦ let r : i ≤ 2 * m = omega (arith, k) in micro_is _ _ (late_is m xs h t some i no_angle q r).0 ∙ sym (late_quarter m xs h.count some i q r)
    ])

quarter_ends : (m : ℕ) (xs : List Micro) → length xs ≡ 4 * m → 1 ≤ m
    → (first_angle (quarters m xs) ≡ (slice_index_or xs (3 * m) no_angle).0 -ℤ pos 360000000) × (last_angle (quarters m xs) ≡ (slice_index_or xs m no_angle).0)
quarter_ends m xs e some =
    let l = (quarters_length m xs e some).1 in
    let a : 3 * m + 0 ≡ 3 * m = omega arith in
    let b : length (quarters m xs) - 1 ≡ 2 * m = omega (arith, l) in
    let c : 2 * m - m ≡ m = omega arith in
    let f : first_angle (quarters m xs) ≡ (slice_index_or xs (3 * m + 0) no_angle).0 -ℤ pos 360000000 = ap (λ (x : Micro). x.0) (early_quarter m xs e some 0 (omega arith)) in
    let g : (slice_index_or (quarters m xs) (2 * m) no_angle).0 ≡ (slice_index_or xs (2 * m - m) no_angle).0 = ap (λ (x : Micro). x.0) (late_quarter m xs e some (2 * m) (omega arith) (omega arith)) in
    (f ∙ ap (λ k. (slice_index_or xs k no_angle).0 -ℤ pos 360000000) a, ap (λ k. (slice_index_or (quarters m xs) k no_angle).0) b ∙ g ∙ ap (λ k. (slice_index_or xs k no_angle).0) c)

turned_by : (m : ℕ) (xs : List Micro) → length xs ≡ 4 * m → 1 ≤ m → Run (negsuc 89999999) (pos 90000000) (quarters m xs) → AreTurned m xs
turned_by m xs e some r =
    let q = quarter_ends m xs e some in
    let a = r.0 in
    let b = q.0 in
    record { first = omega (arith, ints, a, b); last = sym q.1 ∙ r.1 }

run_by : (m : ℕ) (xs : List Micro) → length xs ≡ 4 * m → 1 ≤ m → AreTurned m xs → Run (negsuc 89999999) (pos 90000000) (quarters m xs)
run_by m xs e some t =
    let q = quarter_ends m xs e some in
    let a = t.first in
    let b = q.0 in
    (omega (arith, ints, a, b), q.1 ∙ t.last)

-- ---- both ways

both_ends : (a b : ℤ) (ps : List Micro) → (int_eq (first_angle ps) a && int_eq (last_angle ps) b) ≡ true → Run a b ps
both_ends a b ps h =
    let t = both_true (int_eq (first_angle ps) a) (int_eq (last_angle ps) b) h in
    ((Decides-int_eq (first_angle ps) a).0 t.0, (Decides-int_eq (last_angle ps) b).0 t.1)

-- what is said of stored planes, of all angles C
abbrev pub Stored : Symmetry → List Micro → List Micro → Type 0
Stored s xs ps = AreStored s xs ps × RunAsNeeded s ps

turned_stored : (m : ℕ) (xs : List Micro) → AreAngles (4 * m) 360000000 xs → 1 ≤ m → run_well symmetry.Plane90 (stored_angles symmetry.Plane90 (4 * m) xs) ≡ true
    → Stored symmetry.Plane90 xs (stored_angles symmetry.Plane90 (4 * m) xs)
turned_stored m xs h some r =
    let t = are_turned m xs h some r in
    let e = quarters_are m xs h t some in
    let n = h.count in
    let a : 3 * length xs / 4 ≡ 3 * m = omega arith in
    let b : length xs / 4 ≡ m = omega arith in
    (rw (a, b) e, rw e (run_by m xs h.count some t))

stored_turned : (m : ℕ) (xs ps : List Micro) → AreAngles (4 * m) 360000000 xs → 1 ≤ m → Stored symmetry.Plane90 xs ps
    → (stored_angles symmetry.Plane90 (4 * m) xs ≡ ps) × (run_well symmetry.Plane90 ps ≡ true)
stored_turned m xs ps h some q =
    let n = h.count in
    let a : 3 * length xs / 4 ≡ 3 * m = omega arith in
    let b : length xs / 4 ≡ m = omega arith in
    let e : ps ≡ quarters m xs = rw (a, b) at q.0 in
    let t = turned_by m xs h.count some (rw e at q.1) in
    (quarters_are m xs h t some ∙ sym e, rw (q.1.0, q.1.1) refl)

pub says_stored : (s : Symmetry) (planes : ℕ) (xs : List Micro) → AreAngles planes 360000000 xs → 1 ≤ planes → planes % multiple_of s ≡ 0
    → run_well s (stored_angles s planes xs) ≡ true → Stored s xs (stored_angles s planes xs)
says_stored symmetry.None planes xs h some w r =
    (firsts symmetry.None planes xs h.count (none_first planes xs some) ∙ ap (λ n. take n xs) (sym h.count) ∙ take-length xs, tt)
says_stored symmetry.Axis planes xs h some w r = (firsts symmetry.Axis planes xs h.count (axis_first planes xs some), tt)
says_stored symmetry.Plane0 planes xs h some w r =
    (firsts symmetry.Plane0 planes xs h.count (plane0_first planes xs some w) ∙ ap (λ n. take (n / 2 + 1) xs) (sym h.count), both_ends (pos 0) (pos 180000000) (stored_angles symmetry.Plane0 planes xs) r)
says_stored symmetry.Plane90 planes xs h some w r =
    let m = planes / 4 in
    let e : planes ≡ 4 * m = omega arith in
    subst (λ (n : ℕ). AreAngles n 360000000 xs → run_well symmetry.Plane90 (stored_angles symmetry.Plane90 n xs) ≡ true → Stored symmetry.Plane90 xs (stored_angles symmetry.Plane90 n xs))
    (sym e) (λ g q. turned_stored m xs g (omega arith) q) h r
says_stored symmetry.Both planes xs h some w r =
    (firsts symmetry.Both planes xs h.count (both_first planes xs some w) ∙ ap (λ n. take (n / 4 + 1) xs) (sym h.count), both_ends (pos 0) (pos 90000000) (stored_angles symmetry.Both planes xs) r)

pub stored_says : (s : Symmetry) (planes : ℕ) (xs ps : List Micro) → AreAngles planes 360000000 xs → 1 ≤ planes → planes % multiple_of s ≡ 0 → Stored s xs ps
    → (stored_angles s planes xs ≡ ps) × (run_well s ps ≡ true)
stored_says symmetry.None planes xs ps h some w q = (firsts symmetry.None planes xs h.count (none_first planes xs some) ∙ ap (λ n. take n xs) (sym h.count) ∙ take-length xs ∙ sym q.0, refl)
stored_says symmetry.Axis planes xs ps h some w q = (firsts symmetry.Axis planes xs h.count (axis_first planes xs some) ∙ sym q.0, refl)
stored_says symmetry.Plane0 planes xs ps h some w q =
    (firsts symmetry.Plane0 planes xs h.count (plane0_first planes xs some w) ∙ ap (λ n. take (n / 2 + 1) xs) (sym h.count) ∙ sym q.0, rw (q.1.0, q.1.1) refl)
stored_says symmetry.Plane90 planes xs ps h some w q =
    let m = planes / 4 in
    let e : planes ≡ 4 * m = omega arith in
    subst (λ (n : ℕ). AreAngles n 360000000 xs → (stored_angles symmetry.Plane90 n xs ≡ ps) × (run_well symmetry.Plane90 ps ≡ true)) (sym e) (λ g. stored_turned m xs ps g (omega arith) q) h
stored_says symmetry.Both planes xs ps h some w q =
    (firsts symmetry.Both planes xs h.count (both_first planes xs some w) ∙ ap (λ n. take (n / 4 + 1) xs) (sym h.count) ∙ sym q.0, rw (q.1.0, q.1.1) refl)
