-- The half-planes of the table of all round are those that stand for measured ones.
use Rattle.std.proofs.Common.{ℕ, ◌+◌, ◌-◌, ◌*◌, ◌<◌, ◌≤◌, ◌≡◌, ◌⊎◌, inl, inr, List, length, slice_index_or, arith, ap, refl, sym, ◌∙◌}
use Rattle.std.specs.Prelude.{◌↔◌}
use Rattle.std.proofs.lemmas.Bool.{cases_lt}
use Rattle.fx_base.specs.Fraction.{Fraction, ◌+ᶠ◌, ◌-ᶠ◌, whole}
use Rattle.fx_base.specs.Units.{millionths}
use Rattle.photo_table.specs.Table.{Table, IsTable}
use Rattle.symmetry_expand.specs.declared.symmetry.Symmetry.TheVariants.{None, Axis, Plane0, Plane90, Both}
use Rattle.symmetry_expand.specs.AllRound.{all_round, round_trip}
use Rattle.symmetry_expand.specs.Fold.{AreEnds, HasFolded, IsAmong, IsMeasuredAngle, PlanesAreFolded, RunAs, fold, mirror_0, mirror_90}
use Rattle.symmetry_expand.specs.Steps.{GoesRound, last_of, last_place, start_of, there_and_back, zigzag}
use Rattle.symmetry_expand.proofs.AllFolded.{goes, rise_once}
use Rattle.symmetry_expand.proofs.Across.{fold_is, folded, stays_later, stays_within, turns_above, turns_below}
use Rattle.symmetry_expand.proofs.Folds.{mirror_0_stays, mirror_0_turns, mirror_90_stays, mirror_90_turns}
use Rattle.symmetry_expand.proofs.Joined.{ones_get}
use Rattle.symmetry_expand.proofs.Planes.{RiseOnce, at_least_first, at_most_last}
use Rattle.symmetry_expand.proofs.Rounds.{base_reached, from_base, turn_angle, turn_later, turn_steps}
use Rattle.symmetry_expand.proofs.Starts.{start_least, start_reached}
use Rattle.symmetry_expand.proofs.Turns.{trip_count, trip_planes}
use Rattle.symmetry_expand.proofs.Zigzag.{place_of, zig_back, zig_back_lt, zig_there}
use Rattle.symmetry_expand.proofs.Zigzag.Place.{there, back}

-- ---- the planes of a turn, and the steps to and fro

-- so far from the base lies a measured plane, on the way there or back
pub record AtStep (ps : List ℕ) (base c : ℕ) : Type 0 where
  pub trips : ℕ
  pub place : ℕ
  pub within : place ≤ last_place ps
  pub at : (c + base ≡ there_and_back ps * trips + slice_index_or ps place 0) ⊎ (c + base ≡ there_and_back ps * trips + (2 * last_of ps - slice_index_or ps place 0))

step_of : (ps : List ℕ) (base c j : ℕ) → RiseOnce ps → 2 ≤ length ps → c + base ≡ zigzag ps j → AtStep ps base c
step_of ps base c j rise two e = elim (place_of ps j two) [
  | there q r l f ↦ record { trips = q; place = r; within = omega arith; at = inl (e ∙ ap (zigzag ps) f ∙ zig_there ps q r (omega arith) two) }
  | back q k l f ↦
      let g : j ≡ q * (2 * last_place ps) + (2 * last_place ps - (k + 1)) = omega arith in
      record { trips = q; place = k + 1; within = omega arith; at = inr (e ∙ ap (zigzag ps) g ∙ zig_back ps rise q (k + 1) (omega arith) two) }
]

zig_of : (ps : List ℕ) (base c : ℕ) → RiseOnce ps → 2 ≤ length ps → AtStep ps base c → (j : ℕ) × (c + base ≡ zigzag ps j)
zig_of ps base c rise two s = elim s.at [
  | inl e ↦ (s.trips * (2 * last_place ps) + s.place, e ∙ sym (zig_there ps s.trips s.place s.within two))
  | inr e ↦ (s.trips * (2 * last_place ps) + (2 * last_place ps - s.place), e ∙ sym (zig_back ps rise s.trips s.place s.within two))
]

among_of : (m : Table) (times base c : ℕ) → RiseOnce m.planes → GoesRound m.planes times base → IsAmong (round_trip times base m).planes c → AtStep m.planes base c
among_of m times base c rise h a =
    let n = turn_steps m.planes times in
    let few : a.place < n = let w = a.within in omega (arith, trip_count m times base) in
    let at : turn_angle m.planes base a.place ≡ c = sym (ap (λ xs. slice_index_or xs a.place 0) (trip_planes m times base) ∙ ones_get (λ i. turn_angle m.planes base i) n 0 a.place few) ∙ a.is in
    let b = from_base m.planes times base rise h a.place in
    step_of m.planes base c (start_of m.planes base + a.place) rise h.two (omega arith)

of_step : (m : Table) (times base c : ℕ) → RiseOnce m.planes → GoesRound m.planes times base → c < 360000000 → AtStep m.planes base c → IsAmong (round_trip times base m).planes c
of_step m times base c rise h below s =
    let ps = m.planes in
    let n = turn_steps ps times in
    let z = zig_of ps base c rise h.two s in
    let j = z.0 in
    let e = z.1 in
    let start = start_of ps base in
    let early : start ≤ j = elim (cases_lt j start) [
      | inl l ↦ let k = start_least ps base j l in absurd (omega arith)
      | inr g ↦ g
    ] in
    let reached = start_reached ps base (base_reached ps times base h) in
    let later = turn_later ps times base h start 1 in
    let late : j < start + n * 1 = zig_back_lt ps rise h.two j (start + n * 1) (omega arith) in
    let few : j - start < n = omega arith in
    let back : start + (j - start) ≡ j = omega arith in
    record {
      place = j - start;
      within = rw (trip_count m times base) few;
      is = ap (λ xs. slice_index_or xs (j - start) 0) (trip_planes m times base) ∙ ones_get (λ i. turn_angle ps base i) n 0 (j - start) few ∙ ap (λ k. zigzag ps k - base) back ∙ omega arith;
    }

-- ---- an angle that is worth so many millionths

pub record IsWorth (x : Fraction) (v : ℕ) : Type 0 where
  pub den : x.den ≡ 1000000
  pub num : x.num ≡ v

-- plane p is that angle up to whole turns
pub record Turned (ps : List ℕ) (v : ℕ) : Type 0 where
  pub place : ℕ
  pub within : place < length ps
  pub turns : ℕ
  pub others : ℕ
  pub is : v + 360000000 * turns ≡ slice_index_or ps place 0 + 360000000 * others

turned_of : (ps : List ℕ) (x : Fraction) (v : ℕ) → IsWorth x v → IsMeasuredAngle ps x → Turned ps v
unfolding millionths whole ◌+ᶠ◌
turned_of ps x v w h =
    let e = h.is.cross in
    let d = w.den in
    let n = w.num in
    record { place = h.place; within = h.within; turns = h.turns; others = h.turns_of_it; is = let f = rw (d, n) at e in omega arith }

of_turned : (ps : List ℕ) (x : Fraction) (v : ℕ) → IsWorth x v → Turned ps v → IsMeasuredAngle ps x
unfolding millionths whole ◌+ᶠ◌
of_turned ps x v w h =
    let e = h.is in
    let d = w.den in
    let n = w.num in
    record { place = h.place; within = h.within; turns = h.turns; turns_of_it = h.others; is = record { cross = rw (d, n) (omega arith) } }

worth_itself : (c : ℕ) → IsWorth (millionths c) c
unfolding millionths
worth_itself c = record { den = refl; num = refl }

worth_less : (d : ℕ) (x : Fraction) (v : ℕ) → IsWorth x v → IsWorth (whole d -ᶠ x) (d * 1000000 - v)
unfolding whole ◌-ᶠ◌
worth_less d x v w =
    let e = w.den in
    let n = w.num in
    record { den = rw e refl; num = rw (e, n) (omega arith) }

-- ---- a table of one turn to and fro

both_ways : (m : Table) (times base c v : ℕ) (x : Fraction) → RiseOnce m.planes → GoesRound m.planes times base → c < 360000000 → IsWorth x v
    → (AtStep m.planes base c → Turned m.planes v) → (Turned m.planes v → AtStep m.planes base c) → IsAmong (round_trip times base m).planes c ↔ IsMeasuredAngle m.planes x
both_ways m times base c v x rise h below w to from =
    (λ a. of_turned m.planes x v w (to (among_of m times base c rise h a)), λ a. of_step m times base c rise h below (from (turned_of m.planes x v w a)))

-- a measured plane lies between the ends
within_ends : (ps : List ℕ) (a b k : ℕ) → RiseOnce ps → AreEnds ps a b → k < length ps → (a ≤ slice_index_or ps k 0) × (slice_index_or ps k 0 ≤ b)
within_ends ps a b k rise h p =
    let e = h.begins in
    let f = h.ends in
    let l = at_least_first ps rise k p in
    let g = at_most_last ps rise k p in
    (omega (arith, e, l), omega (arith, f, g))

-- ---- mirrored at 0 and 180

-- what an angle is worth when it is folded
abbrev pub Half : ℕ → ℕ → Type 0
Half c v = ((c ≤ 180000000) × (v ≡ c)) ⊎ ((180000000 < c) × (v ≡ 360 * 1000000 - c))

half_worth : (c : ℕ) → (v : ℕ) × IsWorth (mirror_0 (millionths c)) v × Half c v
unfolding millionths whole
half_worth c = elim (cases_lt 180000000 c) [
  | inl l ↦ rw (mirror_0_turns (millionths c) (record { cross = omega arith })) (360 * 1000000 - c, worth_less 360 (millionths c) c (worth_itself c), inr (l, refl))
  | inr g ↦ rw (mirror_0_stays (millionths c) (record { cross = omega arith })) (c, worth_itself c, inl (g, refl))
]

plane0_to : (ps : List ℕ) (c v : ℕ) → RiseOnce ps → 2 ≤ length ps → AreEnds ps 0 180000000 → c < 360000000 → Half c v → AtStep ps 0 c → Turned ps v
plane0_to ps c v rise two h below half s =
    let q = s.trips in
    let few : s.place < length ps = let w = s.within in omega arith in
    let b = within_ends ps 0 180000000 s.place rise h few in
    let low = b.0 in
    let high = b.1 in
    let at = rw (h.begins, h.ends) at s.at in
    record {
      place = s.place;
      within = few;
      turns = 0;
      others = 0;
      is = elim half [
        | inl a ↦ let a0 = a.0 in let a1 = a.1 in elim at [ inl e ↦ omega arith | inr e ↦ omega arith ]
        | inr a ↦ let a0 = a.0 in let a1 = a.1 in elim at [ inl e ↦ omega arith | inr e ↦ omega arith ]
      ];
    }

plane0_from : (ps : List ℕ) (c v : ℕ) → RiseOnce ps → 2 ≤ length ps → AreEnds ps 0 180000000 → c < 360000000 → Half c v → Turned ps v → AtStep ps 0 c
plane0_from ps c v rise two h below half t =
    let b = within_ends ps 0 180000000 t.place rise h t.within in
    let low = b.0 in
    let high = b.1 in
    let w = t.within in
    let is = t.is in
    record {
      trips = 0;
      place = t.place;
      within = omega arith;
      at = rw (h.begins, h.ends) (elim half [
        | inl a ↦ let a0 = a.0 in let a1 = a.1 in inl (omega arith)
        | inr a ↦ let a0 = a.0 in let a1 = a.1 in inr (omega arith)
      ]);
    }

-- ---- mirrored at both

abbrev pub Quarter : ℕ → ℕ → Type 0
Quarter c v =
    ((c ≤ 90000000) × (v ≡ c)) ⊎ ((90000000 < c) × (c ≤ 180000000) × (v ≡ 180 * 1000000 - c))
    ⊎ ((180000000 < c) × (c < 270000000) × (v ≡ 180 * 1000000 - (360 * 1000000 - c))) ⊎ ((270000000 ≤ c) × (v ≡ 360 * 1000000 - c))

quarter_worth : (c : ℕ) → c < 360000000 → (v : ℕ) × IsWorth (mirror_90 (mirror_0 (millionths c))) v × Quarter c v
unfolding millionths whole ◌-ᶠ◌
quarter_worth c below = elim (cases_lt 180000000 c) [
  | inl l ↦ rw (mirror_0_turns (millionths c) (record { cross = omega arith })) (elim (cases_lt c 270000000) [
    | inl h ↦ rw (mirror_90_turns (whole 360 -ᶠ millionths c) (record { cross = omega arith }))
        (180 * 1000000 - (360 * 1000000 - c), worth_less 180 (whole 360 -ᶠ millionths c) (360 * 1000000 - c) (worth_less 360 (millionths c) c (worth_itself c)), inr (inr (inl (l, h, refl))))
    | inr h ↦ rw (mirror_90_stays (whole 360 -ᶠ millionths c) (record { cross = omega arith })) (360 * 1000000 - c, worth_less 360 (millionths c) c (worth_itself c), inr (inr (inr (h, refl))))
  ])
  | inr g ↦ rw (mirror_0_stays (millionths c) (record { cross = omega arith })) (elim (cases_lt 90000000 c) [
    | inl h ↦ rw (mirror_90_turns (millionths c) (record { cross = omega arith })) (180 * 1000000 - c, worth_less 180 (millionths c) c (worth_itself c), inr (inl (h, g, refl)))
    | inr h ↦ rw (mirror_90_stays (millionths c) (record { cross = omega arith })) (c, worth_itself c, inl (h, refl))
  ])
]

both_to : (ps : List ℕ) (c v : ℕ) → RiseOnce ps → 2 ≤ length ps → AreEnds ps 0 90000000 → c < 360000000 → Quarter c v → AtStep ps 0 c → Turned ps v
both_to ps c v rise two h below quarter s =
    let q = s.trips in
    let few : s.place < length ps = let w = s.within in omega arith in
    let b = within_ends ps 0 90000000 s.place rise h few in
    let low = b.0 in
    let high = b.1 in
    let at = rw (h.begins, h.ends) at s.at in
    record {
      place = s.place;
      within = few;
      turns = 0;
      others = 0;
      is = elim quarter [
        | inl a ↦ let a0 = a.0 in let a1 = a.1 in elim at [ inl e ↦ omega arith | inr e ↦ omega arith ]
        | inr r ↦ elim r [
          | inl a ↦ let a0 = a.0 in let a1 = a.1 in let a2 = a.2 in elim at [ inl e ↦ omega arith | inr e ↦ omega arith ]
          | inr t ↦ elim t [
            | inl a ↦ let a0 = a.0 in let a1 = a.1 in let a2 = a.2 in elim at [ inl e ↦ omega arith | inr e ↦ omega arith ]
            | inr a ↦ let a0 = a.0 in let a1 = a.1 in elim at [ inl e ↦ omega arith | inr e ↦ omega arith ]
          ]
        ]
      ];
    }

both_from : (ps : List ℕ) (c v : ℕ) → RiseOnce ps → 2 ≤ length ps → AreEnds ps 0 90000000 → c < 360000000 → Quarter c v → Turned ps v → AtStep ps 0 c
both_from ps c v rise two h below quarter t =
    let b = within_ends ps 0 90000000 t.place rise h t.within in
    let low = b.0 in
    let high = b.1 in
    let w = t.within in
    let is = t.is in
    elim quarter [
      | inl a ↦ let a0 = a.0 in let a1 = a.1 in record { trips = 0; place = t.place; within = omega arith; at = rw (h.begins, h.ends) (inl (omega arith)) }
      | inr r ↦ elim r [
        | inl a ↦ let a0 = a.0 in let a1 = a.1 in let a2 = a.2 in record { trips = 0; place = t.place; within = omega arith; at = rw (h.begins, h.ends) (inr (omega arith)) }
        | inr u ↦ elim u [
          | inl a ↦ let a0 = a.0 in let a1 = a.1 in let a2 = a.2 in record { trips = 1; place = t.place; within = omega arith; at = rw (h.begins, h.ends) (inl (omega arith)) }
          | inr a ↦ let a0 = a.0 in let a1 = a.1 in record { trips = 1; place = t.place; within = omega arith; at = rw (h.begins, h.ends) (inr (omega arith)) }
        ]
      ]
    ]

-- ---- mirrored at 90 and 270, measured from -90 to 90, here a turn later

abbrev pub Near : ℕ → ℕ → Type 0
Near c v = ((c ≤ 90000000) × (v ≡ c)) ⊎ ((90000000 < c) × (c < 270000000) × (v ≡ 540 * 1000000 - c)) ⊎ ((270000000 ≤ c) × (v ≡ c))

near_worth : (c : ℕ) → c < 360000000 → (v : ℕ) × IsWorth (folded 270000000 450000000 (millionths c)) v × Near c v
unfolding millionths whole ◌+ᶠ◌
near_worth c below = elim (cases_lt 90000000 c) [
  | inl l ↦ elim (cases_lt c 270000000) [
    | inl h ↦ rw (turns_below 270000000 450000000 (millionths c) (record { cross = omega arith }) (record { cross = omega arith })) (540 * 1000000 - c, worth_less 540 (millionths c) c (worth_itself c), inr (inl (l, h, refl)))
    | inr h ↦ rw (stays_within 270000000 450000000 (millionths c) (record { cross = omega arith }) (record { cross = omega arith })) (c, worth_itself c, inr (inr (h, refl)))
  ]
  | inr g ↦ rw (stays_later 270000000 450000000 (millionths c) (record { cross = omega arith })) (c, worth_itself c, inl (g, refl))
]

near_to : (ps : List ℕ) (c v : ℕ) → RiseOnce ps → 2 ≤ length ps → AreEnds ps 270000000 450000000 → c < 360000000 → Near c v → AtStep ps 360000000 c → Turned ps v
near_to ps c v rise two h below near s =
    let q = s.trips in
    let few : s.place < length ps = let w = s.within in omega arith in
    let b = within_ends ps 270000000 450000000 s.place rise h few in
    let low = b.0 in
    let high = b.1 in
    let at = rw (h.begins, h.ends) at s.at in
    elim near [
      | inl a ↦ let a0 = a.0 in let a1 = a.1 in record { place = s.place; within = few; turns = 1; others = 0; is = elim at [ inl e ↦ omega arith | inr e ↦ omega arith ] }
      | inr r ↦ elim r [
        | inl a ↦ let a0 = a.0 in let a1 = a.1 in let a2 = a.2 in record { place = s.place; within = few; turns = 0; others = 0; is = elim at [ inl e ↦ omega arith | inr e ↦ omega arith ] }
        | inr a ↦ let a0 = a.0 in let a1 = a.1 in record { place = s.place; within = few; turns = 0; others = 0; is = elim at [ inl e ↦ omega arith | inr e ↦ omega arith ] }
      ]
    ]

near_from : (ps : List ℕ) (c v : ℕ) → RiseOnce ps → 2 ≤ length ps → AreEnds ps 270000000 450000000 → c < 360000000 → Near c v → Turned ps v → AtStep ps 360000000 c
near_from ps c v rise two h below near t =
    let b = within_ends ps 270000000 450000000 t.place rise h t.within in
    let low = b.0 in
    let high = b.1 in
    let w = t.within in
    let is = t.is in
    elim near [
      | inl a ↦ let a0 = a.0 in let a1 = a.1 in record { trips = 0; place = t.place; within = omega arith; at = rw (h.begins, h.ends) (inl (omega arith)) }
      | inr r ↦ elim r [
        | inl a ↦ let a0 = a.0 in let a1 = a.1 in let a2 = a.2 in record { trips = 0; place = t.place; within = omega arith; at = rw (h.begins, h.ends) (inr (omega arith)) }
        | inr a ↦ let a0 = a.0 in let a1 = a.1 in record { trips = 1; place = t.place; within = omega arith; at = rw (h.begins, h.ends) (inl (omega arith)) }
      ]
    ]

-- ---- or measured from 90 to 270

abbrev pub Far : ℕ → ℕ → Type 0
Far c v = ((c < 90000000) × (v ≡ 540 * 1000000 - c)) ⊎ ((90000000 ≤ c) × (c ≤ 270000000) × (v ≡ c)) ⊎ ((270000000 < c) × (v ≡ 540 * 1000000 - c))

far_worth : (c : ℕ) → c < 360000000 → (v : ℕ) × IsWorth (folded 90000000 270000000 (millionths c)) v × Far c v
unfolding millionths whole ◌+ᶠ◌
far_worth c below = elim (cases_lt c 90000000) [
  | inl l ↦ rw (turns_below 90000000 270000000 (millionths c) (record { cross = omega arith }) (record { cross = omega arith })) (540 * 1000000 - c, worth_less 540 (millionths c) c (worth_itself c), inl (l, refl))
  | inr g ↦ elim (cases_lt 270000000 c) [
    | inl h ↦ rw (turns_above 90000000 270000000 (millionths c) (record { cross = omega arith }) (record { cross = omega arith })) (540 * 1000000 - c, worth_less 540 (millionths c) c (worth_itself c), inr (inr (h, refl)))
    | inr h ↦ rw (stays_within 90000000 270000000 (millionths c) (record { cross = omega arith }) (record { cross = omega arith })) (c, worth_itself c, inr (inl (g, h, refl)))
  ]
]

far_to : (ps : List ℕ) (c v : ℕ) → RiseOnce ps → 2 ≤ length ps → AreEnds ps 90000000 270000000 → c < 360000000 → Far c v → AtStep ps 360000000 c → Turned ps v
far_to ps c v rise two h below far s =
    let q = s.trips in
    let few : s.place < length ps = let w = s.within in omega arith in
    let b = within_ends ps 90000000 270000000 s.place rise h few in
    let low = b.0 in
    let high = b.1 in
    let at = rw (h.begins, h.ends) at s.at in
    elim far [
      | inl a ↦ let a0 = a.0 in let a1 = a.1 in record { place = s.place; within = few; turns = 0; others = 1; is = elim at [ inl e ↦ omega arith | inr e ↦ omega arith ] }
      | inr r ↦ elim r [
        | inl a ↦ let a0 = a.0 in let a1 = a.1 in let a2 = a.2 in record { place = s.place; within = few; turns = 0; others = 0; is = elim at [ inl e ↦ omega arith | inr e ↦ omega arith ] }
        | inr a ↦ let a0 = a.0 in let a1 = a.1 in record { place = s.place; within = few; turns = 0; others = 0; is = elim at [ inl e ↦ omega arith | inr e ↦ omega arith ] }
      ]
    ]

far_from : (ps : List ℕ) (c v : ℕ) → RiseOnce ps → 2 ≤ length ps → AreEnds ps 90000000 270000000 → c < 360000000 → Far c v → Turned ps v → AtStep ps 360000000 c
far_from ps c v rise two h below far t =
    let b = within_ends ps 90000000 270000000 t.place rise h t.within in
    let low = b.0 in
    let high = b.1 in
    let w = t.within in
    let is = t.is in
    elim far [
      | inl a ↦ let a0 = a.0 in let a1 = a.1 in record { trips = 0; place = t.place; within = omega arith; at = rw (h.begins, h.ends) (inr (omega arith)) }
      | inr r ↦ elim r [
        | inl a ↦ let a0 = a.0 in let a1 = a.1 in let a2 = a.2 in record { trips = 1; place = t.place; within = omega arith; at = rw (h.begins, h.ends) (inl (omega arith)) }
        | inr a ↦ let a0 = a.0 in let a1 = a.1 in record { trips = 1; place = t.place; within = omega arith; at = rw (h.begins, h.ends) (inr (omega arith)) }
      ]
    ]

-- ---- the law

none_planes : (m : Table) → RunAs None m.planes → HasFolded None m m
unfolding fold
none_planes m r c below = (
  λ a. of_turned m.planes (millionths c) c (worth_itself c) (record { place = a.place; within = a.within; turns = 0; others = 0; is = let e = a.is in omega arith }),
  λ h.
      let t = turned_of m.planes (millionths c) c (worth_itself c) h in
      let b = r t.place t.within in
      let e = t.is in
      record { place = t.place; within = t.within; is = omega arith },
)

plane0_planes : (m : Table) → IsTable m → AreEnds m.planes 0 180000000 → HasFolded Plane0 m (round_trip 1 0 m)
unfolding fold
plane0_planes m im h c below =
    let r = goes m im 0 180000000 1 0 h (omega arith) (omega arith) refl (omega arith) (omega arith) in
    let rise = rise_once m im 0 h.begins (omega arith) in
    let w = half_worth c in
    both_ways m 1 0 c w.0 (mirror_0 (millionths c)) rise r below w.1 (plane0_to m.planes c w.0 rise r.two h below w.2) (plane0_from m.planes c w.0 rise r.two h below w.2)

both_planes : (m : Table) → IsTable m → AreEnds m.planes 0 90000000 → HasFolded Both m (round_trip 2 0 m)
unfolding fold
both_planes m im h c below =
    let r = goes m im 0 90000000 2 0 h (omega arith) (omega arith) refl (omega arith) (omega arith) in
    let rise = rise_once m im 0 h.begins (omega arith) in
    let w = quarter_worth c below in
    both_ways m 2 0 c w.0 (mirror_90 (mirror_0 (millionths c))) rise r below w.1 (both_to m.planes c w.0 rise r.two h below w.2) (both_from m.planes c w.0 rise r.two h below w.2)

plane90_planes : (m : Table) → IsTable m → AreEnds m.planes 270000000 450000000 ⊎ AreEnds m.planes 90000000 270000000 → HasFolded Plane90 m (round_trip 1 360000000 m)
plane90_planes m im (inl h) c below =
    let r = goes m im 270000000 450000000 1 360000000 h (omega arith) (omega arith) refl (omega arith) (omega arith) in
    let rise = rise_once m im 270000000 h.begins (omega arith) in
    let w = near_worth c below in
    rw (fold_is m.planes 270000000 450000000 h (millionths c))
    (both_ways m 1 360000000 c w.0 (folded 270000000 450000000 (millionths c)) rise r below w.1 (near_to m.planes c w.0 rise r.two h below w.2) (near_from m.planes c w.0 rise r.two h below w.2))
plane90_planes m im (inr h) c below =
    let r = goes m im 90000000 270000000 1 360000000 h (omega arith) (omega arith) refl (omega arith) (omega arith) in
    let rise = rise_once m im 90000000 h.begins (omega arith) in
    let w = far_worth c below in
    rw (fold_is m.planes 90000000 270000000 h (millionths c))
    (both_ways m 1 360000000 c w.0 (folded 90000000 270000000 (millionths c)) rise r below w.1 (far_to m.planes c w.0 rise r.two h below w.2) (far_from m.planes c w.0 rise r.two h below w.2))

pub planes_are_folded : PlanesAreFolded
unfolding all_round
planes_are_folded None m im r = none_planes m r
planes_are_folded Axis m im r = refl
planes_are_folded Plane0 m im r = plane0_planes m im r
planes_are_folded Plane90 m im r = plane90_planes m im r
planes_are_folded Both m im r = both_planes m im r
