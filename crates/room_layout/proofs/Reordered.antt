-- The order in which tables have their keys doesn't matter: data that is the same but for the order of keys is read alike.
use Rattle.std.proofs.Common.{◌≡◌, ℕ, ◌+◌, nat_le, Bool, true, false, cond, List, [], ◌∷◌, length, Option, Some, None, is_some, Result, Ok, Err, Ordering, Less, Equal, Greater, codes, nat_cmp, is_eq, refl, ap, subst, sym, ◌∙◌}
use Rattle.std.specs.List.{AllZip, list_all}
use Rattle.std.specs.Cmp.{tied_itself}
use Rattle.std.specs.Cmp.Lexicographic.{slice_cmp}
use Rattle.std.specs.Ordering.{match_ordering}
use Rattle.std.proofs.lemmas.Bool.{and_parts}
use Rattle.std.proofs.lemmas.Cmp.{nat_list_cmp_total}
use Rattle.std.proofs.lemmas.Map.Text.{is_eq-slice_cmp}
use Rattle.std.proofs.lemmas.Slice.Eq.{bytes_eq-Decides}
use Rattle.toml.specs.Data.{Data, Items, Members, no_members, member, get_member, as_integer, as_str}
use Rattle.room_layout.specs.declared.fault.RoomFault.{RoomFault}
use Rattle.room_layout.specs.declared.fault.RoomFault.TheVariants as fault
use Rattle.room_layout.specs.declared.fault.Spot.{Spot}
use Rattle.room_layout.specs.declared.fault.Key.TheVariants as key
use Rattle.room_layout.specs.declared.geometry.Face.TheVariants.{Down}
use Rattle.room_layout.specs.declared.parts.Shell.{Shell}
use Rattle.room_layout.specs.declared.version.Version.{Version}
use Rattle.room_layout.specs.declared.room.FileUse.{FileUse}
use Rattle.room_layout.specs.Checks.{◌>>=◌, demand, each, spot, required, optional, where_given, ranged, kind, number, is_integer, items_list, array, all_numbers, numbers, is_name, name_text, is_among, has_only, table_with, elements}
use Rattle.room_layout.specs.Layout.{longest_edge, room_keys, version_from, version_of, shell_of, box_keys, block_of, blocks_from, blocks_of, lamp_keys, aim_named, known_aim, aim_text, source_of, fitting_of, lamp_of, lamps_from, lamps_of, task_keys, task_of, limits_keys, limits_in, limits_of, document_keys, room_of_document}
use Rattle.room_layout.specs.Laws.{IsReordered, same, arrays, tables, IsReorderedIfGiven, neither, both, AreItemsReordered, none, next, AreReordered, IgnoresOrder}

-- ---- unknown keys

-- two tables with the same keys
abbrev HasSameKeys : Members → Members → Type 0
HasSameKeys a b = (k : List ℕ) → is_some (get_member k a) ≡ is_some (get_member k b)

-- each key that the table has is one of these
abbrev KnowsKeys : List (List ℕ) → Members → Type 0
KnowsKeys known ms = (k : List ℕ) → is_some (get_member k ms) ≡ true → is_among known k ≡ true

pub same_bytes : (k l : List ℕ) → slice_cmp nat_cmp k l ≡ Equal → k ≡ l
same_bytes k l e = (bytes_eq-Decides k l).0 (sym (is_eq-slice_cmp k l) ∙ ap is_eq e)

knows_first : (known : List (List ℕ)) (k l : List ℕ) (d : Data) (rest : Option Data) (o : Ordering) → slice_cmp nat_cmp k l ≡ o → is_among known l ≡ true → (is_some rest ≡ true → is_among known k ≡ true)
    → is_some (match_ordering o rest (Some d) rest) ≡ true → is_among known k ≡ true
knows_first known k l d rest Less e first more has = more has
knows_first known k l d rest Equal e first more has = subst (λ x. is_among known x ≡ true) (sym (same_bytes k l e)) first
knows_first known k l d rest Greater e first more has = more has

knows_from : (known : List (List ℕ)) (ms : Members) → has_only known ms ≡ true → KnowsKeys known ms
knows_from known no_members e k has = absurd (cc)
knows_from known (member l d ms) e k has =
    let (first, more) = and_parts (is_among known l) (has_only known ms) e in
    knows_first known k l d (get_member k ms) (slice_cmp nat_cmp k l) refl first (knows_from known ms more k) has

has_in_rest : (d : Data) (rest : Option Data) (o : Ordering) → is_some rest ≡ true → is_some (match_ordering o rest (Some d) rest) ≡ true
has_in_rest d rest Less has = has
has_in_rest d rest Equal has = refl
has_in_rest d rest Greater has = has

only_from : (known : List (List ℕ)) (ms : Members) → KnowsKeys known ms → has_only known ms ≡ true
only_from known no_members knows = refl
only_from known (member l d ms) knows =
    let first : is_among known l ≡ true = knows l (rw (tied_itself nat_list_cmp_total l)) in
    let more : has_only known ms ≡ true = only_from known ms (λ k has. knows k (has_in_rest d (get_member k ms) (slice_cmp nat_cmp k l) has)) in
    rw (first, more)

same_test : (a b : Bool) → (a ≡ true → b ≡ true) → (b ≡ true → a ≡ true) → a ≡ b
same_test true b there back = sym (there refl)
same_test false true there back = back refl
same_test false false there back = refl

has_only-same : (known : List (List ℕ)) (a b : Members) → HasSameKeys a b → has_only known a ≡ has_only known b
has_only-same known a b keys =
    same_test (has_only known a) (has_only known b)
    (λ e. only_from known b (λ k has. knows_from known a e k (keys k ∙ has)))
    (λ e. only_from known a (λ k has. knows_from known b e k (sym (keys k) ∙ has)))

given_same : {o p : Option Data} → IsReorderedIfGiven o p → is_some o ≡ is_some p
given_same neither = refl
given_same (both r) = refl

has_only-reordered : (known : List (List ℕ)) (a b : Members) → AreReordered a b → has_only known a ≡ has_only known b
has_only-reordered known a b r = has_only-same known a b (λ k. given_same (r k))

-- ---- data is alike with itself

if_given-itself : (o : Option Data) → IsReorderedIfGiven o o
if_given-itself None = neither
if_given-itself (Some d) = both same

members-itself : (ms : Members) → AreReordered ms ms
members-itself ms k = if_given-itself (get_member k ms)

list-itself : (ds : List Data) → AllZip IsReordered ds ds
list-itself [] = tt
list-itself (d ∷ ds) = (same, list-itself ds)

-- ---- results that are alike

-- both are values that stand in the relation, or both are the same fault
abbrev Agrees : {A : Type 0} → (A → A → Type 0) → Result A RoomFault → Result A RoomFault → Type 0
Agrees R (Ok x) (Ok y) = R x y
Agrees R (Ok x) (Err f) = ⊥
Agrees R (Err e) (Ok y) = ⊥
Agrees R (Err e) (Err f) = e ≡ f

agrees-itself : {A : Type 0} (R : A → A → Type 0) → ((x : A) → R x x) → (r : Result A RoomFault) → Agrees R r r
agrees-itself R itself (Ok x) = itself x
agrees-itself R itself (Err e) = refl

bind-same : {A B : Type 0} (R : A → A → Type 0) (f g : A → Result B RoomFault) (x y : Result A RoomFault) → Agrees R x y → ((a b : A) → R a b → f a ≡ g b) → (x >>= f) ≡ (y >>= g)
bind-same R f g (Ok x) (Ok y) r rest = rest x y r
bind-same R f g (Ok x) (Err e) r rest = elim r [ ]
bind-same R f g (Err e) (Ok y) r rest = elim r [ ]
bind-same R f g (Err e) (Err h) r rest = ap Err r

bind-agrees : {A B : Type 0} (R : A → A → Type 0) (S : B → B → Type 0) (f g : A → Result B RoomFault) (x y : Result A RoomFault) → Agrees R x y → ((a b : A) → R a b → Agrees S (f a) (g b)) → Agrees S (x >>= f) (y >>= g)
bind-agrees R S f g (Ok x) (Ok y) r rest = rest x y r
bind-agrees R S f g (Ok x) (Err e) r rest = elim r [ ]
bind-agrees R S f g (Err e) (Ok y) r rest = elim r [ ]
bind-agrees R S f g (Err e) (Err h) r rest = r

bind-each : {A B : Type 0} (f g : A → Result B RoomFault) (x y : Result A RoomFault) → x ≡ y → ((a : A) → f a ≡ g a) → (x >>= f) ≡ (y >>= g)
bind-each f g x y e rest = bind-same (λ a b. a ≡ b) f g x y (subst (λ z. Agrees (λ a b. a ≡ b) x z) e (agrees-itself (λ a b. a ≡ b) (λ a. refl) x)) (λ a b equal. rest a ∙ ap g equal)

test-agrees : {A : Type 0} (R : A → A → Type 0) (x y : A) (f : RoomFault) (p q : Bool) → p ≡ q → R x y → Agrees R (cond p (Ok x) (Err f)) (cond q (Ok y) (Err f))
test-agrees R x y f true true e r = r
test-agrees R x y f true false e r = absurd (cc)
test-agrees R x y f false true e r = absurd (cc)
test-agrees R x y f false false e r = refl

-- ---- numbers and names

pub integer-same : {d e : Data} → IsReordered d e → as_integer d ≡ as_integer e
integer-same same = refl
integer-same (arrays items) = refl
integer-same (tables at) = refl

text-same : {d e : Data} → IsReordered d e → as_str d ≡ as_str e
text-same same = refl
text-same (arrays items) = refl
text-same (tables at) = refl

-- a check that gives the same for values that are the same but for the order of keys
abbrev IsSteady : {A : Type 0} → (Data → Result A RoomFault) → Type 0
IsSteady check = (d e : Data) → IsReordered d e → check d ≡ check e

number-steady : (lo hi : ℕ) (s : Spot) → IsSteady (number lo hi s)
number-steady lo hi s d e r = ap (λ o. kind s o >>= ranged lo hi s) (integer-same r)

name_text-steady : (s : Spot) → IsSteady (name_text s)
name_text-steady s d e r = ap (λ o. kind s o >>= λ bytes. cond (is_name bytes) (Ok bytes) (Err (fault.Range s))) (text-same r)

aim_text-steady : (s : Spot) → IsSteady (aim_text s)
aim_text-steady s d e r = ap (λ o. kind s o >>= λ name. known_aim s (aim_named name)) (text-same r)

-- ---- arrays

items-alike : {a b : Items} → AreItemsReordered a b → AllZip IsReordered (items_list a) (items_list b)
items-alike none = tt
items-alike (next r more) = (r, items-alike more)

pub array-agrees : (s : Spot) {d e : Data} → IsReordered d e → Agrees (AllZip IsReordered) (array s d) (array s e)
array-agrees s (same {d = d}) = agrees-itself (AllZip IsReordered) list-itself (array s d)
array-agrees s (arrays items) = items-alike items
array-agrees s (tables at) = refl

length-same : (ds es : List Data) → AllZip IsReordered ds es → length ds ≡ length es
length-same [] [] r = refl
length-same [] (e ∷ es) r = elim r [ ]
length-same (d ∷ ds) [] r = elim r [ ]
length-same (d ∷ ds) (e ∷ es) r = rw (length-same ds es r.1)

integers-same : (ds es : List Data) → AllZip IsReordered ds es → list_all is_integer ds ≡ list_all is_integer es
integers-same [] [] r = refl
integers-same [] (e ∷ es) r = elim r [ ]
integers-same (d ∷ ds) [] r = elim r [ ]
integers-same (d ∷ ds) (e ∷ es) r = rw (integer-same r.0, integers-same ds es r.1)

each-same : {A : Type 0} (check : Data → Result A RoomFault) → IsSteady check → (ds es : List Data) → AllZip IsReordered ds es → each check ds ≡ each check es
each-same check steady [] [] r = refl
each-same check steady [] (e ∷ es) r = elim r [ ]
each-same check steady (d ∷ ds) [] r = elim r [ ]
each-same check steady (d ∷ ds) (e ∷ es) r = rw (steady d e r.0, each-same check steady ds es r.1)

all_numbers-same : (count lo hi : ℕ) (s : Spot) (ds es : List Data) → AllZip IsReordered ds es → all_numbers count lo hi s ds ≡ all_numbers count lo hi s es
all_numbers-same count lo hi s ds es r = rw (length-same ds es r, integers-same ds es r, each-same (number lo hi s) (number-steady lo hi s) ds es r)

numbers-steady : (count lo hi : ℕ) (s : Spot) → IsSteady (numbers count lo hi s)
numbers-steady count lo hi s d e r = bind-same (AllZip IsReordered) (all_numbers count lo hi s) (all_numbers count lo hi s) (array s d) (array s e) (array-agrees s r) (all_numbers-same count lo hi s)

elements-agree : (most : ℕ) (s : Spot) (d e : Data) → IsReordered d e → Agrees (AllZip IsReordered) (elements most s d) (elements most s e)
elements-agree most s d e r =
    bind-agrees (AllZip IsReordered) (AllZip IsReordered) _ _ (array s d) (array s e) (array-agrees s r)
    (λ ds es alike. test-agrees (AllZip IsReordered) ds es (fault.TooMany s) (nat_le (length ds) most) (nat_le (length es) most) (ap (λ n. nat_le n most) (length-same ds es alike)) alike)

-- ---- tables

table-agrees : (known : List (List ℕ)) (s : Spot) (d e : Data) → IsReordered d e → Agrees AreReordered (table_with known s d) (table_with known s e)
table-agrees known s d e (same {d = x}) = agrees-itself AreReordered members-itself (table_with known s x)
table-agrees known s d e (arrays items) = refl
table-agrees known s d e (tables {a} {b} at) = test-agrees AreReordered a b (fault.Unknown s) (has_only known a) (has_only known b) (has_only-reordered known a b at) at

-- ---- keys that are given or not

required-same : {A : Type 0} (s : Spot) (check : Spot → Data → Result A RoomFault) {o p : Option Data} → IsSteady (check s) → IsReorderedIfGiven o p → required s check o ≡ required s check p
required-same s check steady neither = refl
required-same s check steady (both {d} {e} r) = steady d e r

optional-same : {A : Type 0} (default : A) (s : Spot) (check : Spot → Data → Result A RoomFault) {o p : Option Data} → IsSteady (check s) → IsReorderedIfGiven o p → optional default s check o ≡ optional default s check p
optional-same default s check steady neither = refl
optional-same default s check steady (both {d} {e} r) = steady d e r

where_given-same : {A : Type 0} (s : Spot) (check : Spot → Data → Result A RoomFault) {o p : Option Data} → IsSteady (check s) → IsReorderedIfGiven o p → where_given s check o ≡ where_given s check p
where_given-same s check steady neither = refl
where_given-same s check steady (both {d} {e} r) = ap (λ x. x >>= λ y. Ok (Some y)) (steady d e r)

required-agrees : {A : Type 0} (R : A → A → Type 0) (s : Spot) (check : Spot → Data → Result A RoomFault) {o p : Option Data} → ((d e : Data) → IsReordered d e → Agrees R (check s d) (check s e)) → IsReorderedIfGiven o p
    → Agrees R (required s check o) (required s check p)
required-agrees R s check agrees neither = refl
required-agrees R s check agrees (both {d} {e} r) = agrees d e r

optional-agrees : {A : Type 0} (R : A → A → Type 0) (default : A) → R default default → (s : Spot) (check : Spot → Data → Result A RoomFault) {o p : Option Data} → ((d e : Data) → IsReordered d e → Agrees R (check s d) (check s e))
    → IsReorderedIfGiven o p → Agrees R (optional default s check o) (optional default s check p)
optional-agrees R default itself s check agrees neither = itself
optional-agrees R default itself s check agrees (both {d} {e} r) = agrees d e r

-- ---- the room's own table

version_of-same : (a b : Members) → AreReordered a b → version_of a ≡ version_of b
unfolding version_of
version_of-same a b r = ap version_from (required-same (spot key.Version 0) (number 1 2) (number-steady 1 2 (spot key.Version 0)) (r (codes "version")))

shell_of-same : (version : Version) (a b : Members) → AreReordered a b → shell_of version a ≡ shell_of version b
unfolding shell_of
shell_of-same version a b r =
    bind-same AreReordered _ _ _ _ (required-agrees AreReordered (spot key.Room 0) (table_with room_keys) (table-agrees room_keys (spot key.Room 0)) (r (codes "room")))
    (λ x y at. rw (
      required-same (spot key.RoomSize 0) (numbers 3 500 (longest_edge version)) (numbers-steady 3 500 (longest_edge version) (spot key.RoomSize 0)) (at (codes "size")),
      optional-same (0 ∷ 0 ∷ 0 ∷ 0 ∷ 0 ∷ 0 ∷ []) (spot key.RoomReflect 0) (numbers 6 0 950) (numbers-steady 6 0 950 (spot key.RoomReflect 0)) (at (codes "reflect")),
      optional-same 600 (spot key.RoomPatch 0) (number 50 50000) (number-steady 50 50000 (spot key.RoomPatch 0)) (at (codes "patch")),
    ))

-- ---- boxes

block_of-same : (room : Shell) (i : ℕ) (d e : Data) → IsReordered d e → block_of room i d ≡ block_of room i e
unfolding block_of
block_of-same room i d e r =
    bind-same AreReordered _ _ _ _ (table-agrees box_keys (spot key.Box i) d e r)
    (λ x y at. rw (
      required-same (spot key.BoxLo i) (numbers 3 0 (longest_edge room.version)) (numbers-steady 3 0 (longest_edge room.version) (spot key.BoxLo i)) (at (codes "lo")),
      required-same (spot key.BoxHi i) (numbers 3 0 (longest_edge room.version)) (numbers-steady 3 0 (longest_edge room.version) (spot key.BoxHi i)) (at (codes "hi")),
      optional-same 0 (spot key.BoxReflect i) (number 0 950) (number-steady 0 950 (spot key.BoxReflect i)) (at (codes "reflect")),
    ))

blocks_from-same : (room : Shell) (i : ℕ) (ds es : List Data) → AllZip IsReordered ds es → blocks_from room i ds ≡ blocks_from room i es
blocks_from-same room i [] [] r = refl
blocks_from-same room i [] (e ∷ es) r = elim r [ ]
blocks_from-same room i (d ∷ ds) [] r = elim r [ ]
blocks_from-same room i (d ∷ ds) (e ∷ es) r = rw (block_of-same room i d e r.0, blocks_from-same room (i + 1) ds es r.1)

blocks_of-same : (room : Shell) (a b : Members) → AreReordered a b → blocks_of room a ≡ blocks_of room b
unfolding blocks_of
blocks_of-same room a b r =
    bind-same (AllZip IsReordered) (blocks_from room 0) (blocks_from room 0) _ _
    (optional-agrees (AllZip IsReordered) [] tt (spot key.Box 0) (elements 64) (elements-agree 64 (spot key.Box 0)) (r (codes "box"))) (blocks_from-same room 0)

-- ---- lamps

source_of-same : (i : ℕ) (a b : Members) → AreReordered a b → source_of i a ≡ source_of i b
unfolding source_of
source_of-same i a b at = rw (
  where_given-same (spot key.LampCandela i) (number 0 10000000) (number-steady 0 10000000 (spot key.LampCandela i)) (at (codes "candela")),
  where_given-same (spot key.LampFile i) name_text (name_text-steady (spot key.LampFile i)) (at (codes "file")),
  optional-same 1 (spot key.LampSet i) (number 1 20) (number-steady 1 20 (spot key.LampSet i)) (at (codes "set")),
)

fitting_of-same : (i : ℕ) (a b : Members) → AreReordered a b → fitting_of i a ≡ fitting_of i b
unfolding fitting_of
fitting_of-same i a b at = rw (
  optional-same 0 (spot key.LampTurn i) (number 0 359) (number-steady 0 359 (spot key.LampTurn i)) (at (codes "turn")),
  optional-same 1000 (spot key.LampMaintenance i) (number 0 1000) (number-steady 0 1000 (spot key.LampMaintenance i)) (at (codes "maintenance")),
  optional-same (0 ∷ 0 ∷ []) (spot key.LampSize i) (numbers 2 0 5000) (numbers-steady 2 0 5000 (spot key.LampSize i)) (at (codes "size")),
  optional-same (1 ∷ 1 ∷ []) (spot key.LampSplit i) (numbers 2 1 8) (numbers-steady 2 1 8 (spot key.LampSplit i)) (at (codes "split")),
  optional-same Down (spot key.LampAim i) aim_text (aim_text-steady (spot key.LampAim i)) (at (codes "aim")),
)

lamp_of-same : (room : Shell) (i : ℕ) (files : List FileUse) (d e : Data) → IsReordered d e → lamp_of room i files d ≡ lamp_of room i files e
unfolding lamp_of
lamp_of-same room i files d e r =
    bind-same AreReordered _ _ _ _ (table-agrees (lamp_keys room.version) (spot key.Lamp i) d e r)
    (λ x y at. rw (
      required-same (spot key.LampAt i) (numbers 3 0 (longest_edge room.version)) (numbers-steady 3 0 (longest_edge room.version) (spot key.LampAt i)) (at (codes "at")),
      source_of-same i x y at,
      fitting_of-same i x y at,
    ))

lamps_from-same : (room : Shell) (i : ℕ) (files : List FileUse) (ds es : List Data) → AllZip IsReordered ds es → lamps_from room i files ds ≡ lamps_from room i files es
lamps_from-same room i files [] [] r = refl
lamps_from-same room i files [] (e ∷ es) r = elim r [ ]
lamps_from-same room i files (d ∷ ds) [] r = elim r [ ]
lamps_from-same room i files (d ∷ ds) (e ∷ es) r = bind-each _ _ _ _ (lamp_of-same room i files d e r.0) (λ l. rw (lamps_from-same room (i + 1) l.1 ds es r.1))

lamps_of-same : (room : Shell) (a b : Members) → AreReordered a b → lamps_of room a ≡ lamps_of room b
unfolding lamps_of
lamps_of-same room a b r =
    bind-same (AllZip IsReordered) (lamps_from room 0 []) (lamps_from room 0 []) _ _
    (optional-agrees (AllZip IsReordered) [] tt (spot key.Lamp 0) (elements 256) (elements-agree 256 (spot key.Lamp 0)) (r (codes "lamp"))) (lamps_from-same room 0 [])

-- ---- the task and the limits

task_of-same : (room : Shell) (a b : Members) → AreReordered a b → task_of room a ≡ task_of room b
unfolding task_of
task_of-same room a b r =
    bind-same AreReordered _ _ _ _ (required-agrees AreReordered (spot key.Task 0) (table_with task_keys) (table-agrees task_keys (spot key.Task 0)) (r (codes "task")))
    (λ x y at. rw (
      required-same (spot key.TaskFrom 0) (numbers 2 0 (longest_edge room.version)) (numbers-steady 2 0 (longest_edge room.version) (spot key.TaskFrom 0)) (at (codes "from")),
      required-same (spot key.TaskTo 0) (numbers 2 0 (longest_edge room.version)) (numbers-steady 2 0 (longest_edge room.version) (spot key.TaskTo 0)) (at (codes "to")),
      required-same (spot key.TaskHeight 0) (number 0 (longest_edge room.version)) (number-steady 0 (longest_edge room.version) (spot key.TaskHeight 0)) (at (codes "height")),
      required-same (spot key.TaskPoints 0) (numbers 2 1 1024) (numbers-steady 2 1 1024 (spot key.TaskPoints 0)) (at (codes "points")),
    ))

limits_in-steady : (s : Spot) → IsSteady (limits_in s)
unfolding limits_in
limits_in-steady s d e r =
    bind-same AreReordered _ _ _ _ (table-agrees limits_keys s d e r)
    (λ x y at. rw (
      where_given-same (spot key.LimitsAverageMillilux 0) (number 0 1000000000) (number-steady 0 1000000000 (spot key.LimitsAverageMillilux 0)) (at (codes "average_millilux")),
      where_given-same (spot key.LimitsUniformityPermille 0) (number 0 1000) (number-steady 0 1000 (spot key.LimitsUniformityPermille 0)) (at (codes "uniformity_permille")),
    ))

limits_of-same : (a b : Members) → AreReordered a b → limits_of a ≡ limits_of b
unfolding limits_of
limits_of-same a b r = optional-same (record { average = None; uniformity = None }) (spot key.Limits 0) limits_in (limits_in-steady (spot key.Limits 0)) (r (codes "limits"))

-- ---- the document

room_of_document-same : (a b : Members) → AreReordered a b → room_of_document a ≡ room_of_document b
unfolding room_of_document
room_of_document-same a b r =
    bind-each _ _ _ _ (version_of-same a b r)
    (λ version. bind-each _ _ _ _ (ap (λ t. demand t (fault.Unknown (spot key.Version 0))) (has_only-reordered document_keys a b r))
    (λ known. bind-each _ _ _ _ (shell_of-same version a b r)
    (λ shell. bind-each _ _ _ _ (blocks_of-same shell a b r)
    (λ blocks. bind-each _ _ _ _ (lamps_of-same shell a b r)
    (λ lit. bind-each _ _ _ _ (task_of-same shell a b r)
    (λ task. bind-each _ _ _ _ (limits_of-same a b r)
    (λ limits. refl)))))))

-- ---- the whole

pub ignores_order : IgnoresOrder
ignores_order a b r = room_of_document-same a b r
