-- A text that grows by its pieces.
use Rattle.std.proofs.Common.{ℕ, zero, suc, ◌+◌, ◌≡◌, List, [], ◌∷◌, ◌++◌, ap, ◌∙◌, append_assoc, append-nil, add-one, sym, refl}
use Rattle.plan_drawing.specs.Pieces.{first, joined}

-- one more piece, after what is done
pub after : (text base done piece new : List ℕ) → text ≡ base ++ done → new ≡ text ++ piece → new ≡ base ++ (done ++ piece)
after text base done piece new e f = rw (f, e, append_assoc) refl

-- nothing is done yet
pub none_yet : (text : List ℕ) (piece : ℕ → List ℕ) → text ≡ text ++ first 0 piece
unfolding first
none_yet text piece = sym (append-nil text)

-- the next of numbered pieces
pub one_more : (piece : ℕ → List ℕ) (k : ℕ) (base text new : List ℕ) → text ≡ base ++ first k piece → new ≡ text ++ piece k → new ≡ base ++ first (k + 1) piece
unfolding first
one_more piece k base text new e f = rw add-one (after text base (first k piece) (piece k) new e f)

-- ---- lists of pieces

joined_and_last : (done : List (List ℕ)) (piece : List ℕ) → joined (done ++ piece ∷ []) ≡ joined done ++ piece
joined_and_last [] piece = append-nil piece
joined_and_last (p ∷ done) piece = ap (λ (t : List ℕ). p ++ t) (joined_and_last done piece) ∙ sym (append_assoc p (joined done) piece)

-- the first piece of some
pub begun : (base piece new : List ℕ) → new ≡ base ++ piece → new ≡ base ++ joined (piece ∷ [])
begun base piece new e = rw (e, append-nil piece) refl

-- one more piece behind those that are done
pub grown : (done : List (List ℕ)) (base text piece new : List ℕ) → text ≡ base ++ joined done → new ≡ text ++ piece → new ≡ base ++ joined (done ++ piece ∷ [])
grown done base text piece new e f = rw (joined_and_last done piece) (after text base (joined done) piece new e f)

-- two pieces, and so on, in a row

pub two_pieces : (base t1 t2 p q : List ℕ) → t1 ≡ base ++ p → t2 ≡ t1 ++ q → t2 ≡ base ++ joined (p ∷ q ∷ [])
two_pieces base t1 t2 p q e1 e2 = grown (p ∷ []) base t1 q t2 (begun base p t1 e1) e2

pub three_pieces : (base t1 t2 t3 p q r : List ℕ) → t1 ≡ base ++ p → t2 ≡ t1 ++ q → t3 ≡ t2 ++ r → t3 ≡ base ++ joined (p ∷ q ∷ r ∷ [])
three_pieces base t1 t2 t3 p q r e1 e2 e3 = grown (p ∷ q ∷ []) base t2 r t3 (two_pieces base t1 t2 p q e1 e2) e3

pub four_pieces : (base t1 t2 t3 t4 p q r s : List ℕ) → t1 ≡ base ++ p → t2 ≡ t1 ++ q → t3 ≡ t2 ++ r → t4 ≡ t3 ++ s → t4 ≡ base ++ joined (p ∷ q ∷ r ∷ s ∷ [])
four_pieces base t1 t2 t3 t4 p q r s e1 e2 e3 e4 = grown (p ∷ q ∷ r ∷ []) base t3 s t4 (three_pieces base t1 t2 t3 p q r e1 e2 e3) e4

pub five_pieces : (base t1 t2 t3 t4 t5 p q r s t : List ℕ) → t1 ≡ base ++ p → t2 ≡ t1 ++ q → t3 ≡ t2 ++ r → t4 ≡ t3 ++ s → t5 ≡ t4 ++ t
    → t5 ≡ base ++ joined (p ∷ q ∷ r ∷ s ∷ t ∷ [])
five_pieces base t1 t2 t3 t4 t5 p q r s t e1 e2 e3 e4 e5 = grown (p ∷ q ∷ r ∷ s ∷ []) base t4 t t5 (four_pieces base t1 t2 t3 t4 p q r s e1 e2 e3 e4) e5

pub six_pieces : (base t1 t2 t3 t4 t5 t6 p q r s t u : List ℕ) → t1 ≡ base ++ p → t2 ≡ t1 ++ q → t3 ≡ t2 ++ r → t4 ≡ t3 ++ s → t5 ≡ t4 ++ t → t6 ≡ t5 ++ u
    → t6 ≡ base ++ joined (p ∷ q ∷ r ∷ s ∷ t ∷ u ∷ [])
six_pieces base t1 t2 t3 t4 t5 t6 p q r s t u e1 e2 e3 e4 e5 e6 =
    grown (p ∷ q ∷ r ∷ s ∷ t ∷ []) base t5 u t6 (five_pieces base t1 t2 t3 t4 t5 p q r s t e1 e2 e3 e4 e5) e6
