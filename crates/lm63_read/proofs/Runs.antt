-- Runs of angles and of intensities, an item at a time.
use Rattle.std.proofs.Common.{ℕ, zero, suc, ◌+◌, ◌-◌, ◌<◌, ◌≤◌, ◌≡◌, true, false, List, [], ◌∷◌, ◌++◌, ℤ, Ok, Err, refl, ap, sym, ◌∙◌, arith}
use Rattle.std.proofs.lemmas.List.{map-append}
use Rattle.fx_base.specs.Ends.{Ends}
use Rattle.fx_base.specs.declared.micro.Micro.{Micro}
use Rattle.lm63_read.specs.declared.angles.AngleKind.{AngleKind}
use Rattle.lm63_read.specs.declared.fault.IesFault.{IesFault}
use Rattle.lm63_read.specs.declared.fault.IesFault.TheVariants as fault
use Rattle.lm63_read.specs.Reads.{number_at}
use Rattle.lm63_read.specs.Angles.{angle_at, angles_at, fits, micro}
use Rattle.lm63_read.specs.Values.{value_at, values_at}
use Rattle.lm63_read.specs.Spans.{AreSpansOf, ReadSoFar, span_of, spans_of}

-- ---- angles: k is the next item, and `left` of them are still to come

pub angle_fault : (kind : AngleKind) (items : List (List ℕ)) (k : ℕ) (front : List Micro) (left : ℕ) (e : IesFault) → 0 < left
    → number_at items k ≡ Err e → angles_at kind items k front left ≡ Err e
unfolding angles_at angle_at
angle_fault kind items k front zero e p h = absurd (omega arith)
angle_fault kind items k front (suc n) e p h = rw h refl

pub angle_unfit : (kind : AngleKind) (items : List (List ℕ)) (k : ℕ) (front shown : List Micro) (left n : ℕ) (z : ℤ) → left ≡ n + 1 → shown ≡ front
    → number_at items k ≡ Ok z → fits kind shown z n ≡ false → angles_at kind items k front left ≡ Err (fault.Angles k)
unfolding angles_at angle_at
angle_unfit kind items k front shown left n z l s h f = let e : left ≡ suc n = omega arith in rw (e, h, ← s, f) refl

pub angle_more : (kind : AngleKind) (items : List (List ℕ)) (k : ℕ) (front shown new : List Micro) (left n : ℕ) (z : ℤ) → left ≡ n + 1 → shown ≡ front
    → new ≡ front ++ micro z ∷ [] → number_at items k ≡ Ok z → fits kind shown z n ≡ true
    → angles_at kind items k front left ≡ angles_at kind items (k + 1) new n
unfolding angles_at angle_at
angle_more kind items k front shown new left n z l s a h f = let e : left ≡ suc n = omega arith in rw (e, h, a, ← s, f) refl

pub angles_all : (kind : AngleKind) (items : List (List ℕ)) (k : ℕ) (front : List Micro) (left : ℕ) → left ≡ 0 → angles_at kind items k front left ≡ Ok front
unfolding angles_at
angles_all kind items k front left e = rw e refl

-- ---- intensities

pub none_so_far : (items : List (List ℕ)) (k factor n : ℕ) (spans : List Ends) → spans ≡ [] → ReadSoFar items k factor n 0 spans
unfolding spans_of
none_so_far items k factor n spans e =
    let a : k + 0 ≡ k = omega arith in
    let b : n - 0 ≡ n = omega arith in
    record { front = []; so_far = rw (a, b) refl; are = e }

value_more : (items : List (List ℕ)) (k factor : ℕ) (front : List ℕ) (left n v : ℕ) → left ≡ n + 1 → value_at items k factor ≡ Ok v
    → values_at items k factor front left ≡ values_at items (k + 1) factor (front ++ v ∷ []) n
unfolding values_at
value_more items k factor front left n v l h = let e : left ≡ suc n = omega arith in rw (e, h) refl

value_fault : (items : List (List ℕ)) (k factor : ℕ) (front : List ℕ) (left n : ℕ) (e : IesFault) → left ≡ n + 1 → value_at items k factor ≡ Err e
    → values_at items k factor front left ≡ Err e
unfolding values_at
value_fault items k factor front left n e l h = let s : left ≡ suc n = omega arith in rw (s, h) refl

pub more_so_far : (items : List (List ℕ)) (k factor n i v : ℕ) (spans new : List Ends) → ReadSoFar items k factor n i spans → i < n
    → value_at items (k + i) factor ≡ Ok v → new ≡ spans ++ span_of v ∷ [] → ReadSoFar items k factor n (i + 1) new
unfolding spans_of
more_so_far items k factor n i v spans new h l r e =
    let s : k + i + 1 ≡ k + (i + 1) = omega arith in
    let m = value_more items (k + i) factor h.front (n - i) (n - (i + 1)) v (omega arith) r in
    record {
      front = h.front ++ v ∷ [];
      so_far = h.so_far ∙ (m ∙ ap (λ j. values_at items j factor (h.front ++ v ∷ []) (n - (i + 1))) s);
      are = e ∙ (ap (λ xs. xs ++ span_of v ∷ []) h.are ∙ sym (map-append span_of h.front (v ∷ [])));
    }

pub fault_so_far : (items : List (List ℕ)) (k factor n i : ℕ) (spans : List Ends) (e : IesFault) → ReadSoFar items k factor n i spans → i < n
    → value_at items (k + i) factor ≡ Err e → values_at items k factor [] n ≡ Err e
fault_so_far items k factor n i spans e h l r = h.so_far ∙ value_fault items (k + i) factor h.front (n - i) (n - (i + 1)) e (omega arith) r

pub all_so_far : (items : List (List ℕ)) (k factor n i : ℕ) (spans : List Ends) → ReadSoFar items k factor n i spans → n ≤ i
    → AreSpansOf spans (values_at items k factor [] n)
unfolding values_at
all_so_far items k factor n i spans h l =
    let e : n - i ≡ 0 = omega arith in
    record { products = h.front; is = h.so_far ∙ rw e refl; are = h.are }
