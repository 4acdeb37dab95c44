-- Boxes and lamps, read one after another.
use Rattle.std.proofs.Common.{◌≡◌, ℕ, ◌+◌, ◌<◌, ◌≤◌, List, [], ◌∷◌, ◌++◌, length, get_or, drop, map, Result, Ok, Err, refl, ap, sym, append_assoc, append-nil}
use Rattle.std.proofs.Math.ListN.{drop_of_length-le}
use Rattle.std.proofs.lemmas.List.{drop_more}
use Rattle.toml.specs.View.{view}
use Rattle.toml.specs.declared.value.Value.{Value}
use Rattle.room_layout.specs.declared.fault.RoomFault.{RoomFault}
use Rattle.room_layout.specs.declared.parts.Shell.{Shell}
use Rattle.room_layout.specs.declared.room.Block.{Block}
use Rattle.room_layout.specs.declared.room.Lamp.{Lamp}
use Rattle.room_layout.specs.declared.room.FileUse.{FileUse}
use Rattle.room_layout.specs.declared.parts.Lit.{Lit}
use Rattle.room_layout.specs.Checks.{◌>>=◌}
use Rattle.room_layout.specs.Layout.{block_of, blocks_from, lamp_of, lamps_from}
use Rattle.room_layout.proofs.Each.{joined}

-- ---- boxes

-- the boxes so far, and then what the rest gives
abbrev pub with_blocks : List Block → Result (List Block) RoomFault → Result (List Block) RoomFault
with_blocks before rest = rest >>= λ bs. Ok (before ++ bs)

pub no_blocks_before : (rest : Result (List Block) RoomFault) → with_blocks [] rest ≡ rest
no_blocks_before (Ok bs) = refl
no_blocks_before (Err f) = refl

pub block_passes : (room : Shell) (vs : List Value) (i : ℕ) (d : Value) (before : List Block) (b : Block) → i < length vs → block_of room i (view (get_or vs i d)) ≡ Ok b
    → with_blocks before (blocks_from room i (map view (drop i vs))) ≡ with_blocks (before ++ b ∷ []) (blocks_from room (i + 1) (map view (drop (i + 1) vs)))
block_passes room vs i d before b h e = rw (drop_more vs i d h, e) (joined before b (blocks_from room (i + 1) (map view (drop (i + 1) vs))))

pub block_fails : (room : Shell) (vs : List Value) (i : ℕ) (d : Value) (before : List Block) (f : RoomFault) → i < length vs → block_of room i (view (get_or vs i d)) ≡ Err f
    → with_blocks before (blocks_from room i (map view (drop i vs))) ≡ Err f
block_fails room vs i d before f h e = rw (drop_more vs i d h, e)

pub blocks_end : (room : Shell) (vs : List Value) (i : ℕ) (before : List Block) → length vs ≤ i → with_blocks before (blocks_from room i (map view (drop i vs))) ≡ Ok before
blocks_end room vs i before all = rw (drop_of_length-le vs all) (ap Ok (append-nil before))

-- ---- lamps

-- the lamps so far, and then what the rest gives
abbrev pub with_lamps : List Lamp → Result Lit RoomFault → Result Lit RoomFault
with_lamps before rest = rest >>= λ r. Ok (record { lamps = before ++ r.lamps; files = r.files })

pub no_lamps_before : (rest : Result Lit RoomFault) → with_lamps [] rest ≡ rest
no_lamps_before (Ok r) = refl
no_lamps_before (Err f) = refl

lit_joined : (before : List Lamp) (l : Lamp) (rest : Result Lit RoomFault) → with_lamps before (rest >>= λ r. Ok (record { lamps = l ∷ r.lamps; files = r.files })) ≡ with_lamps (before ++ l ∷ []) rest
lit_joined before l (Ok r) = ap (λ ls. Ok (record { lamps = ls; files = r.files })) (sym (append_assoc before (l ∷ []) r.lamps))
lit_joined before l (Err f) = refl

pub lamp_passes : (room : Shell) (vs : List Value) (i : ℕ) (d : Value) (before : List Lamp) (files : List FileUse) (l : Lamp) (more : List FileUse) → i < length vs
    → lamp_of room i files (view (get_or vs i d)) ≡ Ok (l, more)
    → with_lamps before (lamps_from room i files (map view (drop i vs))) ≡ with_lamps (before ++ l ∷ []) (lamps_from room (i + 1) more (map view (drop (i + 1) vs)))
lamp_passes room vs i d before files l more h e = rw (drop_more vs i d h, e) (lit_joined before l (lamps_from room (i + 1) more (map view (drop (i + 1) vs))))

pub lamp_fails : (room : Shell) (vs : List Value) (i : ℕ) (d : Value) (before : List Lamp) (files : List FileUse) (f : RoomFault) → i < length vs
    → lamp_of room i files (view (get_or vs i d)) ≡ Err f
    → with_lamps before (lamps_from room i files (map view (drop i vs))) ≡ Err f
lamp_fails room vs i d before files f h e = rw (drop_more vs i d h, e)

pub lamps_end : (room : Shell) (vs : List Value) (i : ℕ) (before : List Lamp) (files : List FileUse) → length vs ≤ i
    → with_lamps before (lamps_from room i files (map view (drop i vs))) ≡ Ok (record { lamps = before; files = files })
lamps_end room vs i before files all = rw (drop_of_length-le vs all) (ap (λ ls. Ok (record { lamps = ls; files = files })) (append-nil before))
