-- Small lists of lamps and files, and whether each pair is there once, in order of first use, as the lamps' tables ask.
use Rattle.std.proofs.Common.{◌≡◌, ℕ, ◌+◌, zero, suc, pos, List, [], ◌∷◌, get_or, Option, Some, codes, refl, ap, subst, sym, lit<, arith}
use Rattle.std.specs.Prelude.{Any}
use Rattle.std.specs.Option.{option_and_then, unwrap_or}
use Rattle.toml.specs.Data.{Data, get_member, as_str, integer, string, array, table, no_items, item, no_members, member}
use Rattle.room_layout.specs.declared.geometry.Face.TheVariants.{Down}
use Rattle.room_layout.specs.declared.room.Lamp.{Lamp}
use Rattle.room_layout.specs.declared.room.Shine.{Shine}
use Rattle.room_layout.specs.declared.room.Shine.TheVariants.{Even, File}
use Rattle.room_layout.specs.declared.room.FileUse.{FileUse}
use Rattle.room_layout.specs.Files.{ShinesBy, AreDistinct, AreUsed, AreInOrderOfUse, AsksFor, lamps_in}
use Rattle.room_layout.proofs.FilesOnce.{same_index}
use Rattle.room_layout.proofs.Ranges.{some_same}

abbrev lamp : Shine → Lamp
lamp shine = record { at = record { x = 0; y = 0; z = 0 }; shine = shine; turn = 0; maintenance = 1000; size_x = 0; size_y = 0; split_x = 1; split_y = 1; aim = Down }

abbrev pair : List ℕ → ℕ → FileUse
pair name set = record { name = name; set = set }

-- ---- each pair once

-- two sets of one file are two pairs
two_sets : AreDistinct (pair (codes "a") 2 ∷ pair (codes "a") 1 ∷ [])
two_sets zero (suc zero) d before within = λ e. let sets : ◌≡◌ {A = ℕ} 2 1 = ap (λ (f : FileUse). f.set) e in omega arith
two_sets zero zero d before within = absurd (omega (arith, before))
two_sets (suc i) (suc zero) d before within = absurd (omega (arith, before))
two_sets (suc i) zero d before within = absurd (omega (arith, before))
two_sets i (suc (suc j)) d before within = absurd (omega (arith, within))

twice : AreDistinct (pair (codes "a") 1 ∷ pair (codes "b") 1 ∷ pair (codes "a") 1 ∷ []) → ⊥
twice apart = apart 0 2 (pair [] 0) (lit< tt) (lit< tt) refl

-- ---- in order of first use

both_used : AreUsed (pair (codes "a") 2 ∷ pair (codes "a") 1 ∷ []) (lamp (File 0) ∷ lamp (Even 5) ∷ lamp (File 1) ∷ [])
both_used zero within = (0, lamp (File 0), lit< tt, refl, refl)
both_used (suc zero) within = (2, lamp (File 1), lit< tt, refl, refl)
both_used (suc (suc k)) within = absurd (omega (arith, within))

the_only : (P : Lamp → Type 0) (l : Lamp) → Any P (l ∷ []) → P l
the_only P l (zero, x, within, is, p) = subst P (sym is) p
the_only P l (suc k, x, within, is, p) = absurd (omega (arith, within))

second_unused : AreUsed (pair (codes "a") 2 ∷ pair (codes "a") 1 ∷ []) (lamp (File 0) ∷ []) → ⊥
second_unused used = let same = same_index 0 1 (the_only (ShinesBy 1) (lamp (File 0)) (used 1 (lit< tt))) in omega arith

in_turn : AreInOrderOfUse (lamp (File 0) ∷ lamp (File 1) ∷ lamp (File 0) ∷ [])
in_turn zero k d within shines = let same = same_index 0 (k + 1) shines in absurd (omega arith)
in_turn (suc zero) zero d within shines = (0, lamp (File 0), lit< tt, refl, refl)
in_turn (suc zero) (suc k) d within shines = let same = same_index 1 (suc k + 1) shines in absurd (omega arith)
in_turn (suc (suc zero)) k d within shines = let same = same_index 0 (k + 1) shines in absurd (omega arith)
in_turn (suc (suc (suc i))) k d within shines = absurd (omega (arith, within))

out_of_turn : AreInOrderOfUse (lamp (File 1) ∷ lamp (File 0) ∷ []) → ⊥
out_of_turn in_order = let (k, l, within, is, shines) = in_order 0 0 (lamp (Even 0)) (lit< tt) refl in omega (arith, within)

-- ---- as the tables ask

abbrev of_set_two : Data
of_set_two = table (member (codes "set") (integer (pos 2)) (member (codes "file") (string (codes "a.ldt")) no_members))

abbrev of_no_set : Data
of_no_set = table (member (codes "file") (string (codes "a.ldt")) no_members)

second_set : AsksFor (pair (codes "a.ldt") 2) of_set_two
second_set = record { lamp = _; table = refl; name = refl; set = refl }

set_one : AsksFor (pair (codes "a.ldt") 1) of_no_set
set_one = record { lamp = _; table = refl; name = refl; set = refl }

another_name : AsksFor (pair (codes "b.ldt") 1) of_no_set → ⊥
another_name asks =
    let members = member (codes "file") (string (codes "a.ldt")) no_members in
    let same : members ≡ asks.lamp = some_same members asks.lamp asks.table in
    let name : Some (codes "a.ldt") ≡ Some (codes "b.ldt") = subst (λ ms. option_and_then as_str (get_member (codes "file") ms) ≡ Some (codes "b.ldt")) (sym same) asks.name in
    let first : ◌≡◌ {A = ℕ} 97 98 = ap (λ (o : Option (List ℕ)). get_or (unwrap_or o []) 0 0) name in
    omega arith

in_a_document : lamps_in (member (codes "version") (integer (pos 1)) (member (codes "lamp") (array (item of_set_two (item of_no_set no_items))) no_members)) ≡ of_set_two ∷ of_no_set ∷ []
in_a_document = refl

no_lamps : lamps_in (member (codes "version") (integer (pos 1)) no_members) ≡ []
no_lamps = refl
