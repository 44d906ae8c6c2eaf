-- Filters of lists of hashes.
use Rattle.std.proofs.Common.{◌≡◌, ◌≢◌, ℕ, zero, suc, ◌+◌, ◌<◌, ◌==◌, true, false, IsTrue, List, [], ◌∷◌, ◌++◌, length, map, get_or, refl, sym, ap, ◌∙◌, arith, inl, inr, eq-eqb}
use Rattle.std.specs.Prelude.{replicate, filter, slice_set, slice_index_or, All, Contains}
use Rattle.std.specs.List.{range_with_len}
use Rattle.std.specs.Prelude.{nat_eq, Bool, ◌↔◌}
use lib.Pointwise.{pointwise}
use Rattle.std.proofs.lemmas.Slice.Eq.{bytes_eq-Decides, slice_eq-Decides}
use Rattle.std.proofs.lemmas.Bool.Decides.{eqb_tells}
use Rattle.std.proofs.lemmas.List.{replicate-append-replicate, length-set, same_lists, map-append, get_or-set_same, get_or-set_other}
use Rattle.std.proofs.lemmas.List.Elements.{filter-append, All-head, All-tail}
use Rattle.std.proofs.lemmas.List.FromFn.{length-map-range_with_len, get_or-map-range_with_len}
use Rattle.vx_bloom_spec.specs.Blocks.{Block, mask, no_lanes, or_lanes}
use Rattle.vx_bloom_spec.specs.Filter.{block_of, or_all, masks_in, filter_of, inserted, may_contain, or_blocks, SameElements}
use Rattle.vx_bloom_spec.proofs.Places.{length-or_blocks}
use Rattle.vx_bloom_spec.proofs.Lanes.{or_lanes_assoc, or_lanes_comm, or_lanes_twice, or_all_none, or_all-append, or_all_one, covers_absorbed}

-- one block of a filter
abbrev block_at : ℕ → List ℕ → ℕ → Block
block_at blocks hashes place = or_all (masks_in blocks hashes place)

pub length-filter_of : (blocks : ℕ) (hashes : List ℕ) → length (filter_of blocks hashes) ≡ blocks
unfolding filter_of
length-filter_of blocks hashes = length-map-range_with_len (block_at blocks hashes) 0 blocks

pub get_or-filter_of : (blocks : ℕ) (hashes : List ℕ) (place : ℕ) (d : Block) → place < blocks
    → get_or (filter_of blocks hashes) place d ≡ block_at blocks hashes place
unfolding filter_of
get_or-filter_of blocks hashes place d h =
    get_or-map-range_with_len (block_at blocks hashes) 0 blocks place place d h (omega arith)

none_from : (blocks from count : ℕ) → map (block_at blocks []) (range_with_len from count) ≡ replicate count no_lanes
unfolding or_all
none_from blocks from zero = refl
none_from blocks from (suc count) = ap (λ (bs : List Block). no_lanes ∷ bs) (none_from blocks (from + 1) count)

pub filter_of_none : (blocks : ℕ) → filter_of blocks [] ≡ replicate blocks no_lanes
unfolding filter_of
filter_of_none blocks = none_from blocks 0 blocks

-- ---- two lists

masks_in-append : (blocks : ℕ) (xs ys : List ℕ) (place : ℕ)
    → masks_in blocks (xs ++ ys) place ≡ masks_in blocks xs place ++ masks_in blocks ys place
masks_in-append blocks xs ys place =
    ap (map mask) (filter-append (λ hash. block_of blocks hash == place) xs ys)
    ∙ map-append mask (filter (λ hash. block_of blocks hash == place) xs) (filter (λ hash. block_of blocks hash == place) ys)

block_at-append : (blocks : ℕ) (xs ys : List ℕ) (place : ℕ)
    → block_at blocks (xs ++ ys) place ≡ or_lanes (block_at blocks xs place) (block_at blocks ys place)
block_at-append blocks xs ys place =
    ap or_all (masks_in-append blocks xs ys place) ∙ or_all-append (masks_in blocks xs place) (masks_in blocks ys place)

or_from : (blocks : ℕ) (xs ys places : List ℕ)
    → or_blocks (map (block_at blocks xs) places) (map (block_at blocks ys) places) ≡ map (block_at blocks (xs ++ ys)) places
unfolding or_blocks
or_from blocks xs ys [] = refl
or_from blocks xs ys (place ∷ places) =
    rw (block_at-append blocks xs ys place, or_from blocks xs ys places) refl

-- the union of two lists' filters is the filter of both
pub or_blocks-filter_of : (blocks : ℕ) (xs ys : List ℕ)
    → or_blocks (filter_of blocks xs) (filter_of blocks ys) ≡ filter_of blocks (xs ++ ys)
unfolding filter_of
or_blocks-filter_of blocks xs ys = or_from blocks xs ys (range_with_len 0 blocks)

-- ---- one hash more

one_in : (blocks hash place : ℕ) → block_of blocks hash ≡ place → masks_in blocks (hash ∷ []) place ≡ mask hash ∷ []
one_in blocks hash place e =
    let test : (block_of blocks hash == place) ≡ true = eq-eqb (block_of blocks hash) place e in
    rw test refl

one_out : (blocks hash place : ℕ) → block_of blocks hash ≢ place → masks_in blocks (hash ∷ []) place ≡ []
one_out blocks hash place ne =
    let test : (block_of blocks hash == place) ≡ false = grind arith in
    rw test refl

block_in : (blocks hash place : ℕ) → block_of blocks hash ≡ place → block_at blocks (hash ∷ []) place ≡ mask hash
block_in blocks hash place e = ap or_all (one_in blocks hash place e) ∙ or_all_one hash

block_out : (blocks hash place : ℕ) → block_of blocks hash ≢ place → block_at blocks (hash ∷ []) place ≡ no_lanes
unfolding or_all
block_out blocks hash place ne = ap or_all (one_out blocks hash place ne)

block_first : (blocks x : ℕ) (xs : List ℕ) (place : ℕ)
    → block_at blocks (x ∷ xs) place ≡ or_lanes (block_at blocks (x ∷ []) place) (block_at blocks xs place)
block_first blocks x xs place = block_at-append blocks (x ∷ []) xs place

-- a filter's block takes in the mask of each of its hashes without a change
absorbs : (blocks : ℕ) (hashes : List ℕ) (hash place : ℕ) → block_of blocks hash ≡ place
    → (k : ℕ) → k < length hashes → slice_index_or hashes k hash ≡ hash
    → or_lanes (mask hash) (block_at blocks hashes place) ≡ block_at blocks hashes place
absorbs blocks [] hash place e k low is = absurd (omega arith)
absorbs blocks (x ∷ xs) hash place e zero low is =
    let here : block_of blocks x ≡ place = ap (block_of blocks) is ∙ e in
    let all : block_at blocks (x ∷ xs) place ≡ or_lanes (mask hash) (block_at blocks xs place) =
    block_first blocks x xs place
    ∙ ap (λ (b : Block). or_lanes b (block_at blocks xs place)) (block_in blocks x place here ∙ ap mask is) in
    ap (or_lanes (mask hash)) all ∙ or_lanes_twice (mask hash) (block_at blocks xs place) ∙ sym all
absorbs blocks (x ∷ xs) hash place e (suc k) low is =
    let first = block_at blocks (x ∷ []) place in
    let others = block_at blocks xs place in
    ap (or_lanes (mask hash)) (block_first blocks x xs place)
    ∙ sym (or_lanes_assoc (mask hash) first others)
    ∙ ap (λ (b : Block). or_lanes b others) (or_lanes_comm (mask hash) first)
    ∙ or_lanes_assoc first (mask hash) others
    ∙ ap (or_lanes first) (absorbs blocks xs hash place e k (omega arith) is)
    ∙ sym (block_first blocks x xs place)

one_taken_in : (blocks x : ℕ) (ys : List ℕ) (place : ℕ) → Contains ys x
    → or_lanes (block_at blocks (x ∷ []) place) (block_at blocks ys place) ≡ block_at blocks ys place
one_taken_in blocks x ys place has =
    elim (eqb_tells (block_of blocks x) place) [
      | inl same ↦ rw (block_in blocks x place same.1) (absorbs blocks ys x place same.1 has.0 has.1 has.2)
      | inr other ↦ rw (block_out blocks x place other.1) (or_all_none (masks_in blocks ys place))
    ]

block_taken_in : (blocks : ℕ) (xs ys : List ℕ) (place : ℕ) → All (Contains ys) xs
    → block_at blocks (xs ++ ys) place ≡ block_at blocks ys place
block_taken_in blocks [] ys place all = refl
block_taken_in blocks (x ∷ xs) ys place all =
    block_first blocks x (xs ++ ys) place
    ∙ ap (or_lanes (block_at blocks (x ∷ []) place)) (block_taken_in blocks xs ys place (All-tail (Contains ys) x xs all))
    ∙ one_taken_in blocks x ys place (All-head (Contains ys) x xs all)

block_same : (blocks : ℕ) (xs ys : List ℕ) (place : ℕ) → SameElements xs ys → block_at blocks xs place ≡ block_at blocks ys place
block_same blocks xs ys place same =
    sym (block_taken_in blocks ys xs place same.1)
    ∙ block_at-append blocks ys xs place
    ∙ or_lanes_comm (block_at blocks ys place) (block_at blocks xs place)
    ∙ sym (block_at-append blocks xs ys place)
    ∙ block_taken_in blocks xs ys place same.0

map_same : (f g : ℕ → Block) (places : List ℕ) → ((place : ℕ) → f place ≡ g place) → map f places ≡ map g places
map_same f g [] h = refl
map_same f g (place ∷ places) h = rw (h place, map_same f g places h) refl

-- filters of the same hashes are the same
pub same_filters : (blocks : ℕ) (xs ys : List ℕ) → SameElements xs ys → filter_of blocks xs ≡ filter_of blocks ys
unfolding filter_of
same_filters blocks xs ys same =
    map_same (block_at blocks xs) (block_at blocks ys) (range_with_len 0 blocks) (λ place. block_same blocks xs ys place same)

pub contains_inserted : (blocks : ℕ) (hashes : List ℕ) (hash : ℕ) → block_of blocks hash < blocks → Contains hashes hash
    → may_contain (filter_of blocks hashes) hash ≡ true
unfolding may_contain
contains_inserted blocks hashes hash low has =
    rw (length-filter_of blocks hashes, get_or-filter_of blocks hashes (block_of blocks hash) no_lanes low)
    (covers_absorbed (block_at blocks hashes (block_of blocks hash)) (mask hash)
    (absorbs blocks hashes hash (block_of blocks hash) refl has.0 has.1 has.2))

-- one block of a filter with one more hash
inserted_here : (blocks : ℕ) (hashes : List ℕ) (hash : ℕ) (k : ℕ) (d : Block) → k < blocks → block_of blocks hash ≡ k
    → get_or (slice_set (filter_of blocks hashes) k (or_lanes (get_or (filter_of blocks hashes) k no_lanes) (mask hash))) k d
    ≡ block_at blocks (hashes ++ hash ∷ []) k
inserted_here blocks hashes hash k d low e =
    get_or-set_same (filter_of blocks hashes) k
    (or_lanes (get_or (filter_of blocks hashes) k no_lanes) (mask hash)) d
    (rw (length-filter_of blocks hashes) low)
    ∙ rw (get_or-filter_of blocks hashes k no_lanes low, block_at-append blocks hashes (hash ∷ []) k, block_in blocks hash k e) refl

inserted_elsewhere : (blocks : ℕ) (hashes : List ℕ) (hash : ℕ) (place k : ℕ) (b d : Block) → k < blocks → block_of blocks hash ≡ place → k ≢ place
    → get_or (slice_set (filter_of blocks hashes) place b) k d ≡ block_at blocks (hashes ++ hash ∷ []) k
inserted_elsewhere blocks hashes hash place k b d low e ne =
    let out : block_of blocks hash ≢ k = λ same. ne (sym same ∙ e) in
    get_or-set_other (filter_of blocks hashes) place k b d ne
    ∙ get_or-filter_of blocks hashes k d low
    ∙ sym (or_all_none (masks_in blocks hashes k))
    ∙ or_lanes_comm no_lanes (block_at blocks hashes k)
    ∙ sym (ap (or_lanes (block_at blocks hashes k)) (block_out blocks hash k out))
    ∙ sym (block_at-append blocks hashes (hash ∷ []) k)

pub inserted-filter_of : (blocks : ℕ) (hashes : List ℕ) (hash : ℕ)
    → inserted (filter_of blocks hashes) hash ≡ filter_of blocks (hashes ++ hash ∷ [])
unfolding inserted
inserted-filter_of blocks hashes hash =
    rw (length-filter_of blocks hashes)
    (same_lists
    (slice_set (filter_of blocks hashes) (block_of blocks hash) (or_lanes (get_or (filter_of blocks hashes) (block_of blocks hash) no_lanes) (mask hash)))
    (filter_of blocks (hashes ++ hash ∷ []))
    (length-set (filter_of blocks hashes) (block_of blocks hash) (or_lanes (get_or (filter_of blocks hashes) (block_of blocks hash) no_lanes) (mask hash))
    ∙ length-filter_of blocks hashes ∙ sym (length-filter_of blocks (hashes ++ hash ∷ [])))
    (λ k d within.
    let low : k < blocks = rw (length-set (filter_of blocks hashes), length-filter_of blocks hashes) at within in
    elim (eqb_tells (block_of blocks hash) k) [
      | inl here ↦ rw here.1 (inserted_here blocks hashes hash k d low here.1)
      | inr elsewhere ↦ inserted_elsewhere blocks hashes hash (block_of blocks hash) k
          (or_lanes (get_or (filter_of blocks hashes) (block_of blocks hash) no_lanes) (mask hash)) d low refl (λ e. elsewhere.1 (sym e))
    ]
    ∙ sym (get_or-filter_of blocks (hashes ++ hash ∷ []) k d low)))

-- ---- for the functions

pub replicate_more : (n : ℕ) → replicate n no_lanes ++ no_lanes ∷ [] ≡ replicate (n + 1) no_lanes
replicate_more n = replicate-append-replicate n 1 no_lanes

pub inserted_of : (filter : List Block) (blocks : ℕ) (hashes : List ℕ) (hash : ℕ) → filter ≡ filter_of blocks hashes
    → inserted filter hash ≡ filter_of blocks (hashes ++ hash ∷ [])
inserted_of filter blocks hashes hash e = ap (λ (f : List Block). inserted f hash) e ∙ inserted-filter_of blocks hashes hash

pub union_of : (f g : List Block) (blocks : ℕ) (xs ys : List ℕ) → f ≡ filter_of blocks xs → g ≡ filter_of blocks ys
    → or_blocks f g ≡ filter_of blocks (xs ++ ys)
union_of f g blocks xs ys e e' = rw (e, e') (or_blocks-filter_of blocks xs ys)

pub contained_of : (filter : List Block) (blocks : ℕ) (hashes : List ℕ) (hash : ℕ) → filter ≡ filter_of blocks hashes
    → block_of (length filter) hash < length filter → Contains hashes hash → may_contain filter hash ≡ true
contained_of filter blocks hashes hash e within has =
    let count : length filter ≡ blocks = ap (λ (f : List Block). length f) e ∙ length-filter_of blocks hashes in
    let low : block_of blocks hash < blocks = rw count at within in
    rw e (contains_inserted blocks hashes hash low has)

pub same_count : (f g : List Block) (blocks : ℕ) (xs ys : List ℕ) → f ≡ filter_of blocks xs → g ≡ filter_of blocks ys → length f ≡ length g
same_count f g blocks xs ys e e' = rw (e, e', length-filter_of blocks xs, length-filter_of blocks ys) refl

-- what `==` tells of two filters
pub told_same : (f g : List Block) (r : Bool) → r ≡ pointwise (pointwise nat_eq) f g → IsTrue r ↔ (f ≡ g)
told_same f g r e = slice_eq-Decides bytes_eq-Decides f g r e

pub same_of : (f g : List Block) (blocks : ℕ) (xs ys : List ℕ) → f ≡ filter_of blocks xs → g ≡ filter_of blocks ys
    → SameElements xs ys → f ≡ g
same_of f g blocks xs ys e e' same = e ∙ same_filters blocks xs ys same ∙ sym e'

pub ruleset empty_rules = (filter_of_none, replicate_more)

pub ruleset insert_rules = (inserted_of)

pub ruleset contains_rules = (contained_of)

pub ruleset union_rules = (union_of, length-or_blocks)
