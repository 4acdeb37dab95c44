-- The words that mark lamps.
use Rattle.std.proofs.Common.{ℕ, suc, ◌+◌, ◌-◌, ◌<◌, ◌≤◌, ◌≡◌, ◌++◌, Bool, true, false, List, [], ◌∷◌, length, map, take, drop, get_or, min, ap, inl, inr, refl, sym, ◌∙◌, arith}
use Rattle.std.specs.Prelude.{Option, Some, None}
use Rattle.std.proofs.lemmas.List.{drop_more, get_or-drop, get_or-map, length-drop, length-map, length_push, map_more, take_all}
use Rattle.std.proofs.lemmas.Bool.{cases_lt}
use Rattle.lux_core.specs.Commands.{are_rising, lamp_number, marked_lamps, number_within}

-- the word at a place of a list of texts
pub word_there : {X : Type 0} (f : X → List ℕ) (xs : List X) (i : ℕ) (x : X) (w : List ℕ) → i < length xs → x ≡ get_or xs i x → w ≡ f x → get_or (map f xs) i [] ≡ w
word_there f xs i x w l is e = get_or-map f xs i x [] l ∙ sym (ap f is) ∙ sym e

pub there : {X : Type 0} (f : X → List ℕ) (xs : List X) (i : ℕ) → i < length xs → i < length (map f xs)
there f xs i l = let e = length-map xs f in omega (arith, e, l)

-- ---- they rise

-- whether the first words rise is told by those after them
pub record IsRisingSoFar (words : List (List ℕ)) (index least : ℕ) : Type 0 where
  pub is : are_rising 0 words ≡ are_rising least (drop index words)
  pub few : least ≤ 256

pub none_yet : (words : List (List ℕ)) → IsRisingSoFar words 0 0
none_yet words = record { is = refl; few = omega arith }

rises : (least k : ℕ) (word : List ℕ) (more : List (List ℕ)) → number_within least 255 word ≡ Some k → are_rising least (word ∷ more) ≡ are_rising (k + 1) more
unfolding are_rising
rises least k word more e = rw (e, are_rising) refl

falls : (least : ℕ) (word : List ℕ) (more : List (List ℕ)) → number_within least 255 word ≡ None → are_rising least (word ∷ more) ≡ false
unfolding are_rising
falls least word more e = rw (e, are_rising) refl

pub one_more : (words : List (List ℕ)) (i least k : ℕ) (d : List ℕ) → i < length words → IsRisingSoFar words i least → number_within least 255 (get_or words i d) ≡ Some k → k ≤ 255
    → IsRisingSoFar words (i + 1) (k + 1)
one_more words i least k d inside h e few = record {
  is = h.is ∙ ap (are_rising least) (drop_more words i d inside) ∙ rises least k (get_or words i d) (drop (i + 1) words) e;
  few = omega (arith, few);
}

pub no_more : (words : List (List ℕ)) (i least : ℕ) (d : List ℕ) → i < length words → IsRisingSoFar words i least → number_within least 255 (get_or words i d) ≡ None
    → are_rising 0 words ≡ false
no_more words i least d inside h e = h.is ∙ ap (are_rising least) (drop_more words i d inside) ∙ falls least (get_or words i d) (drop (i + 1) words) e

past_end : (words : List (List ℕ)) (i : ℕ) → length words ≤ i → drop i words ≡ []
past_end words i l = by_length (drop i words) (length-drop i words ∙ (omega (arith, l)))
  where
    by_length : (xs : List (List ℕ)) → length xs ≡ 0 → xs ≡ []
    by_length [] e = refl
    by_length (x ∷ xs) e = absurd (omega (arith, e))

pub all_rise : (words : List (List ℕ)) (i least : ℕ) → length words ≤ i → IsRisingSoFar words i least → are_rising 0 words ≡ true
unfolding are_rising
all_rise words i least l h = h.is ∙ ap (are_rising least) (past_end words i l)

-- ---- their numbers

-- the lamps of the words after the eighth, before the word of number k
pub record AreMarkedSoFar (words : List (List ℕ)) (k : ℕ) (lamps : List ℕ) : Type 0 where
  pub from : 8 ≤ k
  pub to : k ≤ 24
  pub are : lamps ≡ map lamp_number (take (k - 8) (drop 8 words))
  pub few : length lamps ≤ k - 8

pub none_marked : (words : List (List ℕ)) (lamps : List ℕ) → lamps ≡ [] → AreMarkedSoFar words 8 lamps
none_marked words lamps e = rw e (record { from = omega arith; to = omega arith; are = refl; few = omega arith })

pub one_marked : (words : List (List ℕ)) (k : ℕ) (lamps more : List ℕ) (word : List ℕ) → k < length words → k < 24 → AreMarkedSoFar words k lamps → word ≡ get_or words k []
    → more ≡ lamps ++ lamp_number word ∷ [] → AreMarkedSoFar words (k + 1) more
one_marked words k lamps more word inside below h is pushed =
    let from = h.from in
    let few = h.few in
    let xs = drop 8 words in
    let long : length xs ≡ length words - 8 = length-drop 8 words in
    let i : k + 1 - 8 ≡ (k - 8) + 1 = omega (arith, from) in
    let here : 8 + (k - 8) ≡ k = omega (arith, from) in
    let word_is : get_or xs (k - 8) [] ≡ word = get_or-drop 8 words (k - 8) [] ∙ ap (λ (z : ℕ). get_or words z []) here ∙ sym is in
    let step : map lamp_number (take ((k - 8) + 1) xs) ≡ map lamp_number (take (k - 8) xs) ++ lamp_number (get_or xs (k - 8) []) ∷ [] =
    map_more lamp_number xs (k - 8) [] (omega (arith, long, from, inside)) in
    rw pushed (record {
      from = omega (arith, from);
      to = omega (arith, below);
      are = ap (λ (ns : List ℕ). ns ++ lamp_number word ∷ []) h.are ∙ ap (λ (w : List ℕ). map lamp_number (take (k - 8) xs) ++ lamp_number w ∷ []) (sym word_is) ∙ sym step
          ∙ ap (λ (z : ℕ). map lamp_number (take z xs)) (sym i);
      few = let size = length_push lamps (lamp_number word) in omega (arith, size, few, from);
    })

same_take : (xs : List (List ℕ)) (m : ℕ) → m ≤ 16 → (m < 16 → length xs ≤ m) → take m xs ≡ take 16 xs
same_take xs m few all = elim (cases_lt m 16) [
  | inl below ↦ take_all m xs (all below) ∙ sym (take_all 16 xs (let l = all below in omega (arith, l, few)))
  | inr above ↦ let e : m ≡ 16 = omega (arith, few, above) in ap (λ (z : ℕ). take z xs) e
]

pub all_marked : (words : List (List ℕ)) (k : ℕ) (lamps : List ℕ) → min (length words) 24 ≤ k → AreMarkedSoFar words k lamps → lamps ≡ marked_lamps words
all_marked words k lamps past h =
    let from = h.from in
    let to = h.to in
    let long : length (drop 8 words) ≡ length words - 8 = length-drop 8 words in
    h.are ∙ ap (map lamp_number) (same_take (drop 8 words) (k - 8) (omega (arith, from, to)) (λ below. omega (arith, long, from, past, below)))
