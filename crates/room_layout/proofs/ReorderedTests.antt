-- Small documents, and whether they are the same but for the order of keys.
use Rattle.std.proofs.Common.{◌≡◌, ℕ, true, false, List, Some, None, Ordering, Less, Equal, Greater, codes, nat_cmp, is_eq, pos, refl, ap, subst}
use Rattle.std.specs.Cmp.Lexicographic.{slice_cmp}
use Rattle.std.specs.Ordering.{match_ordering}
use Rattle.toml.specs.Data.{Data, integer, array, table, no_items, item, Members, no_members, member, same_key}
use Rattle.room_layout.specs.Checks.{spot}
use Rattle.room_layout.specs.declared.fault.Key.TheVariants as key
use Rattle.room_layout.specs.Laws.{IsReordered, same, arrays, tables, IsReorderedIfGiven, neither, both, none, next, AreReordered}
use Rattle.room_layout.proofs.Reordered.{same_bytes, integer-same, array-agrees}

-- ---- two keys that change places

turned_at : {c d e f : Data} (o p : Ordering) → (o ≡ Equal → p ≡ Equal → ⊥) → IsReordered c d → IsReordered e f
    → IsReorderedIfGiven (match_ordering o (match_ordering p None (Some e) None) (Some c) (match_ordering p None (Some e) None)) (match_ordering p (match_ordering o None (Some d) None) (Some f) (match_ordering o None (Some d) None))
turned_at Less Less apart r s = neither
turned_at Less Equal apart r s = both s
turned_at Less Greater apart r s = neither
turned_at Equal Less apart r s = both r
turned_at Equal Equal apart r s = elim (apart refl refl) [ ]
turned_at Equal Greater apart r s = both r
turned_at Greater Less apart r s = neither
turned_at Greater Equal apart r s = both s
turned_at Greater Greater apart r s = neither

turned : {c d e f : Data} (k l : List ℕ) → same_key k l ≡ false → IsReordered c d → IsReordered e f → AreReordered (member k c (member l e no_members)) (member l f (member k d no_members))
turned k l apart r s j =
    turned_at (slice_cmp nat_cmp j k) (slice_cmp nat_cmp j l)
    (λ is_k is_l. let e : same_key k l ≡ true = ap is_eq (subst (λ x. slice_cmp nat_cmp x l ≡ Equal) (same_bytes j k is_k) is_l) in absurd (cc)) r s

-- ---- a document, and the same with its keys turned round at its top, in its table and in the table of its array

abbrev number : ℕ → Data
number n = integer (pos n)

abbrev edges : Data
edges = array (item (number 6000) (item (number 5000) (item (number 3000) no_items)))

abbrev as_written : Members
as_written =
    member (codes "room") (table (member (codes "size") edges (member (codes "patch") (number 600) no_members)))
    (member (codes "lamp") (array (item (table (member (codes "at") edges (member (codes "candela") (number 5000) no_members))) no_items)) no_members)

abbrev turned_round : Members
turned_round =
    member (codes "lamp") (array (item (table (member (codes "candela") (number 5000) (member (codes "at") edges no_members))) no_items))
    (member (codes "room") (table (member (codes "patch") (number 600) (member (codes "size") edges no_members))) no_members)

is_turned_round : AreReordered as_written turned_round
is_turned_round =
    turned (codes "room") (codes "lamp") refl
    (tables (turned (codes "size") (codes "patch") refl same same))
    (arrays (next (tables (turned (codes "at") (codes "candela") refl same same)) none))

-- ---- what isn't the same

differ_given : IsReorderedIfGiven (Some (number 1)) (Some (number 2)) → ⊥
differ_given (both r) = let e = integer-same r in absurd (cc)

-- another number at a key
another_number : AreReordered (member (codes "version") (number 1) no_members) (member (codes "version") (number 2) no_members) → ⊥
another_number r = differ_given (r (codes "version"))

lacks_given : IsReorderedIfGiven (Some (number 1)) None → ⊥
lacks_given r = elim r [ ]

-- a key that only one of them has
one_key_less : AreReordered (member (codes "version") (number 1) no_members) no_members → ⊥
one_key_less r = lacks_given (r (codes "version"))

-- the items of an array in another order
items_turned : IsReordered (array (item (number 1) (item (number 2) no_items))) (array (item (number 2) (item (number 1) no_items))) → ⊥
items_turned r = let e = integer-same (array-agrees (spot key.RoomSize 0) r).0 in absurd (cc)
