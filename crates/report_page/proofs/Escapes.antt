-- Escaped text.
use Rattle.std.proofs.Common.{ℕ, ◌≡◌, ◌<◌, ◌≤◌, inl, inr, Bool, true, false, List, [], ◌∷◌, ◌++◌, length, get_or, append_assoc, append-nil, ap, ap₂, sym, subst, refl, ◌∙◌, arith, flat_map, suc, zero}
use Rattle.std.specs.Prelude.{All, ◌≢◌, ◌==◌, if◌then◌else◌, codes}
use Rattle.std.proofs.lemmas.Bool.{cases_eq, cases_lt}
use Rattle.std.proofs.lemmas.Bool.Decides.{nat_tests}
use Rattle.std.proofs.lemmas.List.Concat.{flat_map-append}
use Rattle.std.proofs.lemmas.List.Elements.{All-cons, All-nil}
use Rattle.std.proofs.lemmas.Str.{encode_ascii, encodes-append, encodes-chars, inside_one}
use Rattle.std.specs.Str.{chars, IsUtf8}
use lib.Utf8.{encode, encodes}
use Rattle.report_page.specs.Escaped.{escape, escaped, AllRefer, EndsReference, EscapedIsPlain, IsHarmless, IsPlain}

-- ---- nothing of escaped text is markup

-- one more byte before plain text, that isn't an ampersand
plain_byte : (c : ℕ) (rest : List ℕ) → IsHarmless c → c ≢ 38 → IsPlain rest → IsPlain (c ∷ rest)
plain_byte c rest h n p = record { harmless = All-cons IsHarmless c rest h p.harmless; refer = (λ e. absurd (n e), p.refer) }

-- an ampersand before the rest of a reference
plain_reference : (rest : List ℕ) → EndsReference rest → IsPlain rest → IsPlain (38 ∷ rest)
plain_reference rest ends p = record {
  harmless = All-cons IsHarmless 38 rest (λ e. omega (arith, e), λ e. omega (arith, e), λ e. omega (arith, e), λ e. omega (arith, e)) p.harmless;
  refer = (λ _. ends, p.refer);
}

-- the bytes of references: letters, and digits and the semicolon
plain_letter : (c : ℕ) (rest : List ℕ) → 63 ≤ c → IsPlain rest → IsPlain (c ∷ rest)
plain_letter c rest h p = plain_byte c rest (λ e. omega (arith, h, e), λ e. omega (arith, h, e), λ e. omega (arith, h, e), λ e. omega (arith, h, e)) (λ e. omega (arith, h, e)) p

plain_digit : (c : ℕ) (rest : List ℕ) → 40 ≤ c → c < 60 → IsPlain rest → IsPlain (c ∷ rest)
plain_digit c rest h l p = plain_byte c rest (λ e. omega (arith, h, l, e), λ e. omega (arith, h, l, e), λ e. omega (arith, h, l, e), λ e. omega (arith, h, l, e)) (λ e. omega (arith, h, l, e)) p

plain_hash : (rest : List ℕ) → IsPlain rest → IsPlain (35 ∷ rest)
plain_hash rest p = plain_byte 35 rest (λ e. omega (arith, e), λ e. omega (arith, e), λ e. omega (arith, e), λ e. omega (arith, e)) (λ e. omega (arith, e)) p

plain_end : (rest : List ℕ) → IsPlain rest → IsPlain (59 ∷ rest)
plain_end rest p = plain_digit 59 rest (omega arith) (omega arith) p

amp : (rest : List ℕ) → IsPlain rest → IsPlain (codes "&amp;" ++ rest)
amp rest p = plain_reference (codes "amp;" ++ rest) (inl (rest, refl))
    (plain_letter 97 _ (omega arith) (plain_letter 109 _ (omega arith) (plain_letter 112 _ (omega arith) (plain_end rest p))))

lt : (rest : List ℕ) → IsPlain rest → IsPlain (codes "&lt;" ++ rest)
lt rest p = plain_reference (codes "lt;" ++ rest) (inr (inl (rest, refl))) (plain_letter 108 _ (omega arith) (plain_letter 116 _ (omega arith) (plain_end rest p)))

gt : (rest : List ℕ) → IsPlain rest → IsPlain (codes "&gt;" ++ rest)
gt rest p = plain_reference (codes "gt;" ++ rest) (inr (inr (inl (rest, refl)))) (plain_letter 103 _ (omega arith) (plain_letter 116 _ (omega arith) (plain_end rest p)))

quot : (rest : List ℕ) → IsPlain rest → IsPlain (codes "&quot;" ++ rest)
quot rest p = plain_reference (codes "quot;" ++ rest) (inr (inr (inr (inl (rest, refl)))))
    (plain_letter 113 _ (omega arith) (plain_letter 117 _ (omega arith) (plain_letter 111 _ (omega arith) (plain_letter 116 _ (omega arith) (plain_end rest p)))))

apostrophe : (rest : List ℕ) → IsPlain rest → IsPlain (codes "&#39;" ++ rest)
apostrophe rest p = plain_reference (codes "#39;" ++ rest) (inr (inr (inr (inr (rest, refl)))))
    (plain_hash _ (plain_digit 51 _ (omega arith) (omega arith) (plain_digit 57 _ (omega arith) (omega arith) (plain_end rest p))))

-- the five references before plain text, or another byte
one_of_five : (a b d e f : Bool) (c : ℕ) (rest : List ℕ) → (a ≡ false → c ≢ 38) → (b ≡ false → c ≢ 60) → (d ≡ false → c ≢ 62) → (e ≡ false → c ≢ 34) → (f ≡ false → c ≢ 39) → IsPlain rest
    → IsPlain ((if a then codes "&amp;" else (if b then codes "&lt;" else (if d then codes "&gt;" else (if e then codes "&quot;" else (if f then codes "&#39;" else (c ∷ [])))))) ++ rest)
one_of_five true b d e f c rest i j k l m p = amp rest p
one_of_five false true d e f c rest i j k l m p = lt rest p
one_of_five false false true e f c rest i j k l m p = gt rest p
one_of_five false false false true f c rest i j k l m p = quot rest p
one_of_five false false false false true c rest i j k l m p = apostrophe rest p
one_of_five false false false false false c rest i j k l m p = plain_byte c rest (j refl, k refl, l refl, m refl) (i refl) p

differs : (c d : ℕ) → (c == d) ≡ false → c ≢ d
differs c d h e = let i : true ≡ false = grind (arith, nat_tests) in cc

plain_escape : (c : ℕ) (rest : List ℕ) → IsPlain rest → IsPlain (escape c ++ rest)
plain_escape c rest p =
    one_of_five (c == 38) (c == 60) (c == 62) (c == 34) (c == 39) c rest (differs c 38) (differs c 60) (differs c 62) (differs c 34) (differs c 39) p

pub escaped_plain : EscapedIsPlain
unfolding escaped
escaped_plain [] = record { harmless = All-nil IsHarmless; refer = tt }
escaped_plain (c ∷ more) = plain_escape c (escaped more) (escaped_plain more)

-- ---- a character's bytes

-- a byte that no reference stands for
kept : (c : ℕ) → 128 ≤ c → escape c ≡ c ∷ []
kept c h = grind (arith, nat_tests)

same : (c : ℕ) → c ≢ 38 → c ≢ 60 → c ≢ 62 → c ≢ 34 → c ≢ 39 → escape c ≡ c ∷ []
same c i j k l m = grind (arith, nat_tests)

-- bytes that no reference stands for are as they are
all_kept : (bytes : List ℕ) → ((k : ℕ) → k < length bytes → 128 ≤ get_or bytes k 0) → flat_map escape bytes ≡ bytes
all_kept [] h = refl
all_kept (c ∷ more) h = ap₂ (λ (a b : List ℕ). a ++ b) (kept c (h 0 (omega arith))) (all_kept more (λ k below. h (suc k) (omega arith)))

-- a character of several bytes has none of the five
pub wide_kept : (c : ℕ) → 128 ≤ c → flat_map escape (encode c) ≡ encode c
wide_kept c wide = all_kept (encode c) (λ k below. elim (cases_lt (get_or (encode c) k 0) 128) [
  | inl low ↦ absurd (omega (arith, inside_one c [] (encode c) k (sym (append-nil _)) below low))
  | inr high ↦ high
])

pub narrow : (c : ℕ) → c < 128 → flat_map escape (encode c) ≡ escape c
narrow c small = rw (encode_ascii c small) (append-nil (escape c))

-- a character that no reference stands for is as it is
pub as_it_is : (c : ℕ) → c ≢ 38 → c ≢ 60 → c ≢ 62 → c ≢ 34 → c ≢ 39 → flat_map escape (encode c) ≡ encode c
as_it_is c i j k l m = elim (cases_lt c 128) [
  | inl small ↦ narrow c small ∙ (same c i j k l m ∙ sym (encode_ascii c small))
  | inr wide ↦ wide_kept c wide
]

-- ---- a text grows by its characters

pub one_more : (base text new : List ℕ) (done : List ℕ) (c : ℕ) → text ≡ base ++ escaped (encodes done) → new ≡ text ++ flat_map escape (encode c)
    → new ≡ base ++ escaped (encodes (done ++ c ∷ []))
unfolding escaped
one_more base text new done c so_far grown =
    rw (grown, so_far, encodes-append done (c ∷ []), append-nil (encode c), flat_map-append escape (encodes done) (encode c), append_assoc) refl

pub all_done : (base text outside done : List ℕ) → IsUtf8 outside → done ≡ chars outside → text ≡ base ++ escaped (encodes done) → text ≡ base ++ escaped outside
all_done base text outside done utf8 e so_far = so_far ∙ ap (λ (cs : List ℕ). base ++ escaped cs) (ap encodes e ∙ encodes-chars outside utf8)

pub none_yet : (text : List ℕ) → text ≡ text ++ escaped (encodes [])
unfolding escaped
none_yet text = sym (append-nil text)
