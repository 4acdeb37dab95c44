-- The least values, and the uniformity.
use Rattle.std.proofs.Common.{ℕ, zero, suc, ◌+◌, ◌<◌, ◌≡◌, Bool, true, false, arith, refl, subst, inl, inr, if◌then◌else◌, ◌==◌}
use Rattle.std.proofs.lemmas.Bool.{cases_lt}
use Rattle.std.proofs.lemmas.Bool.Decides.{nat_tests}
use Rattle.scene_system.proofs.Means.{whole_positive}
use Rattle.fx_base.specs.Fraction.{Fraction, ◌≤ᶠ◌, ◌*ᶠ◌, whole, lesser, sum_to}
use Rattle.fx_base.proofs.Order.{le_refl_f, le_trans_f, add_le_f, mul_le_f, mul_add_f, mul_one_f, mul_zero_f, le_add_f}
use Rattle.fx_base.proofs.Ratios.{lesser_left, lesser_right, le_lesser, le_over, whole_split}
use Rattle.interval_system.specs.Values.{open_count, open_sum, mean, least}

-- ---- the least of the values that aren't covered

chosen_above : (b t : Bool) (x y a : Fraction) → (b ≡ true → a ≤ᶠ x) → (b ≡ false → t ≡ true → a ≤ᶠ y) → (b ≡ false → t ≡ false → a ≤ᶠ lesser x y)
    → a ≤ᶠ (if b then x else (if t then y else lesser x y))
chosen_above true t x y a f g h = f refl
chosen_above false true x y a f g h = g refl refl
chosen_above false false x y a f g h = h refl refl

chosen_below : (b t : Bool) (x y a : Fraction) → (b ≡ true → x ≤ᶠ a) → (b ≡ false → t ≡ true → y ≤ᶠ a) → (b ≡ false → t ≡ false → lesser x y ≤ᶠ a)
    → (if b then x else (if t then y else lesser x y)) ≤ᶠ a
chosen_below true t x y a f g h = f refl
chosen_below false true x y a f g h = g refl refl
chosen_below false false x y a f g h = h refl refl

count_covered : (covered : ℕ → Bool) (n : ℕ) → covered n ≡ true → open_count covered (suc n) ≡ open_count covered n
unfolding open_count
count_covered covered n e = rw e refl

count_open : (covered : ℕ → Bool) (n : ℕ) → covered n ≡ false → open_count covered (suc n) ≡ open_count covered n + 1
unfolding open_count
count_open covered n e = rw e refl

no_count : (covered : ℕ → Bool) → open_count covered 0 ≡ 0
unfolding open_count
no_count covered = refl

-- what is at most each of them is at most the least of them
pub below_least : (covered : ℕ → Bool) (v : ℕ → Fraction) (a : Fraction) (n : ℕ) → 0 < open_count covered n
    → ((g : ℕ) → g < n → covered g ≡ false → a ≤ᶠ v g) → a ≤ᶠ least covered v n
unfolding least
below_least covered v a zero some h = absurd (let e = no_count covered in omega arith)
below_least covered v a (suc n) some h = chosen_above (covered n) (open_count covered n == 0) (least covered v n) (v n) a
    (λ b. below_least covered v a n (let e = count_covered covered n b in omega arith) (λ g l. h g (omega arith)))
    (λ b t. h n (omega arith) b)
    (λ b t. le_lesser (least covered v n) (v n) (below_least covered v a n (grind (arith, nat_tests)) (λ g l. h g (omega arith))) (h n (omega arith) b))

counted : (covered : ℕ → Bool) (n : ℕ) (b : Bool) → covered n ≡ b → (b ≡ true → 0 < open_count covered n) → 0 < open_count covered (suc n)
counted covered n true e h = let k = count_covered covered n e in let f = h refl in omega arith
counted covered n false e h = let k = count_open covered n e in omega arith

not_last : (covered : ℕ → Bool) (n g : ℕ) → g < suc n → covered g ≡ false → covered n ≡ true → g < n
not_last covered n g l o e = elim (cases_lt g n) [
  | inl h ↦ h
  | inr q ↦ absurd (let f : g ≡ n = omega arith in let P : ℕ → Type 0 = λ m. covered m ≡ false in let k : covered n ≡ false = subst P f o in cc)
]

some_count : (covered : ℕ → Bool) (n g : ℕ) → g < n → covered g ≡ false → 0 < open_count covered n
some_count covered zero g l o = absurd (omega arith)
some_count covered (suc n) g l o = counted covered n (covered n) refl (λ e. some_count covered n g (not_last covered n g l o e) o)

alone : (covered : ℕ → Bool) (v : ℕ → Fraction) (n g : ℕ) → g < suc n → covered g ≡ false → (open_count covered n == 0) ≡ true → v n ≤ᶠ v g
alone covered v n g l o t = elim (cases_lt g n) [
  | inl h ↦ absurd (let p = some_count covered n g h o in grind (arith, nat_tests))
  | inr q ↦ let f : n ≡ g = omega arith in let P : ℕ → Type 0 = λ m. v n ≤ᶠ v m in subst P f (le_refl_f (v n))
]

-- and the least of them is at most each
pub least_below : (covered : ℕ → Bool) (v : ℕ → Fraction) (n g : ℕ) → g < n → covered g ≡ false → least covered v n ≤ᶠ v g
unfolding least
least_below covered v zero g l o = absurd (omega arith)
least_below covered v (suc n) g l o = chosen_below (covered n) (open_count covered n == 0) (least covered v n) (v n) (v g)
    (λ b. least_below covered v n g (not_last covered n g l o b) o)
    (λ b t. alone covered v n g l o t)
    (λ b t. elim (cases_lt g n) [
      | inl h ↦ le_trans_f (lesser_left (least covered v n) (v n)) (least_below covered v n g h o)
      | inr q ↦ let f : n ≡ g = omega arith in let P : ℕ → Type 0 = λ m. lesser (least covered v n) (v n) ≤ᶠ v m in subst P f (lesser_right (least covered v n) (v n))
    ])

-- ---- the least is at most the mean

sum_step : (covered : ℕ → Bool) (w : ℕ → Fraction) (a : Fraction) (k : ℕ) (b : Bool) → covered k ≡ b
    → (a *ᶠ whole (open_count covered k)) ≤ᶠ open_sum covered w k → (b ≡ false → a ≤ᶠ w k) → (a *ᶠ whole (open_count covered (suc k))) ≤ᶠ open_sum covered w (suc k)
unfolding open_sum sum_to
sum_step covered w a k true e r h = rw (count_covered covered k e, e) (le_trans_f r (le_add_f (open_sum covered w k) (whole 0)))
sum_step covered w a k false e r h = rw (count_open covered k e, e)
    (le_trans_f (mul_le_f (le_refl_f a) (whole_split (open_count covered k) 1))
    (le_trans_f (mul_add_f a (whole (open_count covered k)) (whole 1)) (add_le_f r (le_trans_f (mul_one_f a) (h refl)))))

sum_none : (covered : ℕ → Bool) (w : ℕ → Fraction) (a : Fraction) → (a *ᶠ whole (open_count covered 0)) ≤ᶠ open_sum covered w 0
unfolding open_count open_sum sum_to
sum_none covered w a = mul_zero_f a

sum_most : (covered : ℕ → Bool) (w : ℕ → Fraction) (a : Fraction) (k : ℕ) → ((g : ℕ) → g < k → covered g ≡ false → a ≤ᶠ w g)
    → (a *ᶠ whole (open_count covered k)) ≤ᶠ open_sum covered w k
sum_most covered w a zero h = sum_none covered w a
sum_most covered w a (suc k) h = sum_step covered w a k (covered k) refl (sum_most covered w a k (λ g l. h g (omega arith))) (λ e. h k (omega arith) e)

pub least_below_mean : (covered : ℕ → Bool) (v w : ℕ → Fraction) (n : ℕ) → 0 < open_count covered n
    → ((g : ℕ) → g < n → covered g ≡ false → v g ≤ᶠ w g) → least covered v n ≤ᶠ mean covered w n
unfolding mean
least_below_mean covered v w n some h = le_over (open_sum covered w n) (whole (open_count covered n)) (least covered v n) (whole_positive (open_count covered n) some)
    (sum_most covered w (least covered v n) n (λ g l o. le_trans_f (least_below covered v n g l o) (h g l o)))
