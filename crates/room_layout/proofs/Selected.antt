-- What holds of all lamps of a room holds of those that are kept.
use Rattle.std.proofs.Common.{◌≡◌, ℕ, suc, ◌+◌, ◌<◌, ◌≤◌, Bool, true, false, if◌then◌else◌, List, [], ◌∷◌, ◌++◌, All, length, get_or, drop, arith, refl, subst, sym, ◌∙◌, append_assoc, append-nil}
use Rattle.std.proofs.Math.ListN.{drop_of_length-le}
use Rattle.std.proofs.lemmas.List.{drop_more}
use Rattle.std.proofs.lemmas.List.Elements.{All-cons, All-nil}
use Rattle.room_layout.specs.Accepted.{IsAccepted, IsLampIn}
use Rattle.room_layout.specs.Kept.{kept, kept_room, KeepsAccepted}
use Rattle.room_layout.specs.declared.room.Lamp.{Lamp}
use Rattle.room_layout.specs.declared.room.Room.{Room}

-- ---- of all, and how many

first_of : (P : Lamp → Type 0) (l : Lamp) (lamps : List Lamp) → All P (l ∷ lamps) → P l
first_of P l lamps all = all 0 l (omega arith)

rest_of : (P : Lamp → Type 0) (l : Lamp) (lamps : List Lamp) → All P (l ∷ lamps) → All P lamps
rest_of P l lamps all = λ i d h. all (suc i) d (omega (arith, h))

pub all_kept : (P : Lamp → Type 0) (keep : List Bool) (lamps : List Lamp) → All P lamps → All P (kept keep lamps)
unfolding kept
all_kept P [] lamps all = All-nil P
all_kept P (k ∷ keep) [] all = All-nil P
all_kept P (true ∷ keep) (l ∷ lamps) all = All-cons P l (kept keep lamps) (first_of P l lamps all) (all_kept P keep lamps (rest_of P l lamps all))
all_kept P (false ∷ keep) (l ∷ lamps) all = all_kept P keep lamps (rest_of P l lamps all)

pub few_kept : (keep : List Bool) (lamps : List Lamp) → length (kept keep lamps) ≤ length lamps
unfolding kept
few_kept [] lamps = omega arith
few_kept (k ∷ keep) [] = omega arith
few_kept (true ∷ keep) (l ∷ lamps) = omega (arith, few_kept keep lamps)
few_kept (false ∷ keep) (l ∷ lamps) = omega (arith, few_kept keep lamps)

-- ---- accepted

kept_accepted : (room : Room) (keep : List Bool) → IsAccepted room → IsAccepted (kept_room keep room)
kept_accepted room keep is = record {
  size = is.size;
  reflect = is.reflect;
  patch = is.patch;
  block_count = is.block_count;
  each_block = is.each_block;
  lamp_count = omega (arith, few_kept keep room.lamps, is.lamp_count);
  each_lamp = all_kept (IsLampIn room.size (length room.files)) keep room.lamps is.each_lamp;
  file_count = is.file_count;
  each_file = is.each_file;
  task = is.task;
  limits = is.limits;
}

pub keeps_accepted : KeepsAccepted
keeps_accepted room r keep is without = subst IsAccepted (sym without) (kept_accepted room keep is)

-- ---- found by a loop

next_of : (k : Bool) (keep : List Bool) (before : List Lamp) (l : Lamp) (lamps : List Lamp)
    → before ++ kept (k ∷ keep) (l ∷ lamps) ≡ (if k then before ++ l ∷ [] else before) ++ kept keep lamps
unfolding kept
next_of true keep before l lamps = sym (append_assoc before (l ∷ []) (kept keep lamps))
next_of false keep before l lamps = refl

looked_at : (keep : List Bool) (lamps before : List Lamp) (i : ℕ) (k : Bool) (l : Lamp) → i < length keep → i < length lamps
    → before ++ kept (drop i keep) (drop i lamps) ≡ (if get_or keep i k then before ++ get_or lamps i l ∷ [] else before) ++ kept (drop (i + 1) keep) (drop (i + 1) lamps)
looked_at keep lamps before i k l h g =
    rw (drop_more keep i k h, drop_more lamps i l g) (next_of (get_or keep i k) (drop (i + 1) keep) before (get_or lamps i l) (drop (i + 1) lamps))

-- one more lamp is looked at
pub step_kept : (keep : List Bool) (lamps before after : List Lamp) (i : ℕ) (k : Bool) (l : Lamp) → i < length keep → i < length lamps
    → after ≡ (if get_or keep i k then before ++ get_or lamps i l ∷ [] else before) → before ++ kept (drop i keep) (drop i lamps) ≡ kept keep lamps
    → after ++ kept (drop (i + 1) keep) (drop (i + 1) lamps) ≡ kept keep lamps
step_kept keep lamps before after i k l h g pushed so_far = rw pushed (sym (looked_at keep lamps before i k l h g) ∙ so_far)

no_more : (before : List Lamp) → before ++ kept [] [] ≡ before
unfolding kept
no_more before = append-nil before

pub all_looked_at : (keep : List Bool) (lamps before : List Lamp) (i : ℕ) → length keep ≤ i → length lamps ≤ i
    → before ++ kept (drop i keep) (drop i lamps) ≡ before
all_looked_at keep lamps before i h g = rw (drop_of_length-le keep h, drop_of_length-le lamps g) (no_more before)
