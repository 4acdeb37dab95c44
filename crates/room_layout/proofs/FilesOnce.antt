-- A room that the layout gives has each pair of file and set once, in order of first use.
use Rattle.std.proofs.Common.{◌≡◌, ◌≢◌, ℕ, ◌+◌, ◌<◌, ◌≤◌, ◌==◌, ◌⊎◌, inl, inr, Bool, true, false, nat_lt, zero, suc, List, [], ◌∷◌, length, get_or, take, Option, Some, None, Ok, cond, refl, ap, subst, sym, ◌∙◌, arith, length-append}
use Rattle.std.specs.Prelude.{Any}
use Rattle.std.specs.List.{position, position_or_len}
use Rattle.std.specs.Str.{bytes_eq}
use Rattle.std.proofs.lemmas.Bool.{and_parts, false≢true, cases_lt}
use Rattle.std.proofs.lemmas.Bool.Decides.{nat_tests}
use Rattle.std.proofs.lemmas.List.{get_or_append_left, get_or_push}
use Rattle.std.proofs.lemmas.List.Sums.{fails_before_first}
use Rattle.std.proofs.lemmas.List.Quantifiers.{all_pairs_push, position-Some}
use Rattle.std.proofs.lemmas.Slice.Eq.{bytes_eq-Decides}
use Rattle.toml.specs.Data.{Data, Members}
use Rattle.room_layout.specs.declared.parts.Shell.{Shell}
use Rattle.room_layout.specs.declared.room.Lamp.{Lamp}
use Rattle.room_layout.specs.declared.room.Shine.{Shine}
use Rattle.room_layout.specs.declared.room.Shine.TheVariants.{Even, File}
use Rattle.room_layout.specs.declared.room.FileUse.{FileUse}
use Rattle.room_layout.specs.declared.room.Room.{Room}
use Rattle.room_layout.specs.declared.parts.Lit.{Lit}
use Rattle.room_layout.specs.Checks.{◌>>=◌}
use Rattle.room_layout.specs.Layout.{is_same_use, placed_at, placed, shine_of, lamp_of, lamps_from, room_of_document}
use Rattle.room_layout.specs.Files.{ShinesBy, AreDistinct, HasEachFileOnce}
use Rattle.room_layout.proofs.Ranges.{bind_ok, ok_same}
use Rattle.room_layout.proofs.AcceptsLamps.{checked_accepted, lamp_parts, lamp_of_parts}
use Rattle.room_layout.proofs.AcceptsRoom.{lamps_read, room_parts}

-- ---- some element of a list

pub Any-head : {A : Type 0} (P : A → Type 0) (x : A) (xs : List A) → P x → Any P (x ∷ xs)
Any-head P x xs p = (0, x, omega arith, refl, p)

pub Any-tail : {A : Type 0} (P : A → Type 0) (x : A) (xs : List A) → Any P xs → Any P (x ∷ xs)
Any-tail P x xs (k, y, h, e, p) = (suc k, y, omega arith, e, p)

-- ---- pairs of file and set

same_pair : (f g : FileUse) → is_same_use f g ≡ true → f ≡ g
same_pair f g e =
    let (names, sets) = and_parts (bytes_eq f.name g.name) (f.set == g.set) e in
    let name : f.name ≡ g.name = (bytes_eq-Decides f.name g.name).0 names in
    let set : f.set ≡ g.set = grind (arith, nat_tests, sets) in
    ap (λ (n : List ℕ). record { name = n; set = f.set }) name ∙ ap (λ (s : ℕ). record { name = g.name; set = s }) set

its_own_pair : (f : FileUse) → is_same_use f f ≡ true
its_own_pair f =
    let name : bytes_eq f.name f.name ≡ true = (bytes_eq-Decides f.name f.name).1 refl in
    let set : (f.set == f.set) ≡ true = grind (arith, nat_tests) in
    rw (name, set)

none_if : (a b : ℕ) (t : Bool) → nat_lt a b ≡ t → cond t (Some a) None ≡ None → b ≤ a
none_if a b true test e = absurd (cc)
none_if a b false test e = grind (arith, nat_tests, test)

none_passes : {A : Type 0} (p : A → Bool) (xs : List A) → position p xs ≡ None → length xs ≤ position_or_len p xs
none_passes p xs e = none_if (position_or_len p xs) (length xs) (nat_lt (position_or_len p xs) (length xs)) refl e

-- ---- the files after one lamp

-- a lamp that shines so after these files leaves those files
pub record UsesNext (files : List FileUse) (shine : Shine) (more : List FileUse) : Type 0 where
  pub apart : AreDistinct files → AreDistinct more
  pub longer : length files ≤ length more
  pub kept : (k : ℕ) (d : FileUse) → k < length files → get_or more k d ≡ get_or files k d
  pub next : (k : ℕ) → shine ≡ File k → k ≤ length files
  pub new : (k : ℕ) → length files ≤ k → k < length more → shine ≡ File k

pub same_index : (a b : ℕ) → File a ≡ File b → a ≡ b
same_index a b e = cc

uses_same : (files : List FileUse) (shine : Shine) → ((k : ℕ) → shine ≡ File k → k ≤ length files) → UsesNext files shine files
uses_same files shine next = record {
  apart = λ all. all;
  longer = omega arith;
  kept = λ k d h. refl;
  next = next;
  new = λ k above below. absurd (omega (arith, above, below));
}

pub uses_placed : (f : FileUse) (files : List FileUse) (o : Option ℕ) → position (is_same_use f) files ≡ o → (let r = placed_at f files o in UsesNext files (File r.0) r.1 × (r.0 < length r.1) × ((d : FileUse) → get_or r.1 r.0 d ≡ f))
uses_placed f files (Some k) found = (
  uses_same files (File k) (λ j e. let same = same_index k j e in let within = (position-Some (is_same_use f) files k f found).0 in omega arith),
  (position-Some (is_same_use f) files k f found).0,
  λ d. sym (same_pair f (get_or files k d) (position-Some (is_same_use f) files k d found).1),
)
uses_placed f files None found =
    let all : length files ≤ position_or_len (is_same_use f) files = none_passes (is_same_use f) files found in
    let other : (k : ℕ) (d : FileUse) → k < length files → get_or files k d ≢ f =
    λ k d h same. false≢true (sym (fails_before_first (is_same_use f) files k d (omega arith)) ∙ subst (λ g. is_same_use f g ≡ true) (sym same) (its_own_pair f)) in (
      record {
        apart = λ apart. all_pairs_push (λ f g. f ≢ g) files f apart other;
        longer = omega (arith, length-append files (f ∷ []));
        kept = λ k d h. get_or_append_left files (f ∷ []) d k h;
        next = λ k e. let same = same_index (length files) k e in omega arith;
        new = λ k above below. let same : length files ≡ k = omega (arith, above, below, length-append files (f ∷ [])) in ap File same;
      },
      omega (arith, length-append files (f ∷ [])),
      λ d. get_or_push files f d (length files) refl,
    )

-- ---- one lamp

uses_shine : (i : ℕ) (files : List FileUse) (set : ℕ) (candela : Option ℕ) (file : Option (List ℕ)) (r : Shine × List FileUse) → shine_of i files set candela file ≡ Ok r → UsesNext files r.0 r.1
unfolding shine_of
uses_shine i files set None None r e = absurd (cc)
uses_shine i files set (Some n) (Some name) r e = absurd (cc)
uses_shine i files set (Some n) None r e =
    let same : (Even n, files) ≡ r = ok_same _ r e in
    subst (λ v. UsesNext files v.0 v.1) same (uses_same files (Even n) (λ k e. absurd (cc)))
uses_shine i files set None (Some name) r e =
    let f : FileUse = record { name = name; set = set } in
    let same : (File (placed f files).0, (placed f files).1) ≡ r = ok_same _ r e in
    subst (λ v. UsesNext files v.0 v.1) same (uses_placed f files (position (is_same_use f) files) refl).0

uses_lamp : (room : Shell) (i : ℕ) (files : List FileUse) (d : Data) (r : Lamp × List FileUse) → lamp_of room i files d ≡ Ok r → UsesNext files r.0.shine r.1
uses_lamp room i files d r e =
    let p = lamp_parts room i files d r e in
    let (same, _, _) = checked_accepted room i (lamp_of_parts p) p.lit.1 r p.end_is in
    subst (λ (v : Lamp × List FileUse). UsesNext files v.0.shine v.1) same (uses_shine i files p.source.set p.source.candela p.source.file p.lit p.lit_is)

-- ---- all lamps

-- the lamps that are read after these files, and all files after them
pub record UseFiles (files : List FileUse) (r : Lit) : Type 0 where
  pub apart : AreDistinct files → AreDistinct r.files
  pub longer : length files ≤ length r.files
  pub kept : (k : ℕ) (d : FileUse) → k < length files → get_or r.files k d ≡ get_or files k d
  pub used : (k : ℕ) → length files ≤ k → k < length r.files → Any (ShinesBy k) r.lamps
  pub in_order : (i k : ℕ) (d : Lamp) → length files ≤ k → i < length r.lamps → ShinesBy (k + 1) (get_or r.lamps i d) → Any (ShinesBy k) (take i r.lamps)

no_lamps : (files : List FileUse) → UseFiles files (record { lamps = []; files = files })
no_lamps files = record {
  apart = λ all. all;
  longer = omega arith;
  kept = λ k d h. refl;
  used = λ k above below. absurd (omega (arith, above, below));
  in_order = λ i k d above h names. absurd (omega (arith, h));
}

used_at : (files more : List FileUse) (l : Lamp) (rest : Lit) → UsesNext files l.shine more → UseFiles more rest → (k : ℕ) → length files ≤ k → k < length rest.files → (k < length more) ⊎ (length more ≤ k) → Any (ShinesBy k) (l ∷ rest.lamps)
used_at files more l rest first then k above below (inr late) = Any-tail (ShinesBy k) l rest.lamps (then.used k late below)
used_at files more l rest first then k above below (inl early) = Any-head (ShinesBy k) l rest.lamps (first.new k above early)

ordered_at : (files more : List FileUse) (l : Lamp) (rest : Lit) → UsesNext files l.shine more → UseFiles more rest → (i k : ℕ) (d : Lamp) → length files ≤ k → i < suc (length rest.lamps) → ShinesBy (k + 1) (get_or (l ∷ rest.lamps) i d)
    → (k < length more) ⊎ (length more ≤ k) → Any (ShinesBy k) (take i (l ∷ rest.lamps))
ordered_at files more l rest first then zero k d above h names at = let next : k + 1 ≤ length files = first.next (k + 1) names in absurd (omega (arith, next, above))
ordered_at files more l rest first then (suc i) k d above h names (inr late) = Any-tail (ShinesBy k) l (take i rest.lamps) (then.in_order i k d late (omega arith) names)
ordered_at files more l rest first then (suc i) k d above h names (inl early) = Any-head (ShinesBy k) l (take i rest.lamps) (first.new k above early)

one_more_lamp : (files more : List FileUse) (l : Lamp) (rest : Lit) → UsesNext files l.shine more → UseFiles more rest → UseFiles files (record { lamps = l ∷ rest.lamps; files = rest.files })
one_more_lamp files more l rest first then = record {
  apart = λ all. then.apart (first.apart all);
  longer = omega (arith, first.longer, then.longer);
  kept = λ k d h. then.kept k d (omega (arith, h, first.longer)) ∙ first.kept k d h;
  used = λ k above below. used_at files more l rest first then k above below (cases_lt k (length more));
  in_order = λ i k d above h names. ordered_at files more l rest first then i k d above h names (cases_lt k (length more));
}

pub lamps_use : (room : Shell) (i : ℕ) (files : List FileUse) (ds : List Data) (r : Lit) → lamps_from room i files ds ≡ Ok r → UseFiles files r
lamps_use room i files [] r e = let same : record { lamps = []; files = files } ≡ r = ok_same _ r e in subst (UseFiles files) same (no_lamps files)
lamps_use room i files (d ∷ ds) r e =
    let (l, lamp_is, e1) = bind_ok (lamp_of room i files d) (λ l. lamps_from room (i + 1) l.1 ds >>= λ r. Ok (record { lamps = l.0 ∷ r.lamps; files = r.files })) r e in
    let (rest, rest_is, e2) = bind_ok (lamps_from room (i + 1) l.1 ds) (λ r. Ok (record { lamps = l.0 ∷ r.lamps; files = r.files })) r e1 in
    let same : record { lamps = l.0 ∷ rest.lamps; files = rest.files } ≡ r = ok_same _ r e2 in
    subst (UseFiles files) same (one_more_lamp files l.1 l.0 rest (uses_lamp room i files d l lamp_is) (lamps_use room (i + 1) l.1 ds rest rest_is))

-- ---- the room

pub document_files : (document : Members) (r : Room) → room_of_document document ≡ Ok r → HasEachFileOnce r
document_files document r e =
    let parts = room_parts document r e in
    let (ds, _, read) = lamps_read parts.shell document _ parts.lamps_are in
    let uses = lamps_use parts.shell 0 [] ds (record { lamps = r.lamps; files = r.files }) read in
    record {
      apart = uses.apart (λ i j d before within. absurd (omega (arith, within)));
      used = λ k within. uses.used k (omega arith) within;
      in_order = λ i k d within names. uses.in_order i k d (omega arith) within names;
    }
