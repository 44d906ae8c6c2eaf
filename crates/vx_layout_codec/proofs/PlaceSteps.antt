-- Steps of the loop that maps the ids of a context to their places.
use Rattle.std.proofs.Common.{◌≡◌, ℕ, zero, suc, ◌+◌, ◌<◌, ◌||◌, ◌++◌, bytes_eq, Bool, true, false, List, [], ◌∷◌, length, get_or, take, cond, Option, Some, None, refl, sym, ◌∙◌, ap, arith}
use Rattle.std.specs.Ordering.{nat_cmp}
use Rattle.std.specs.Cmp.Lexicographic.{slice_cmp}
use Rattle.std.specs.BTreeMap.{BTreeMap, UpdatesBy}
use denote.Ref.{Bor}
use Rattle.std.proofs.lemmas.List.{take_more, length-take-le}
use Rattle.std.proofs.lemmas.Slice.Eq.{bytes_eq-Decides}
use Rattle.std.proofs.lemmas.Map.Text.{btree_map_updates_str}
use Rattle.vx_session.specs.Ids.{is_listed, are_distinct, place_of, further}
use Rattle.vx_session.proofs.Lists.{repeat_found}
use Rattle.vx_layout_codec.specs.Places.{TellsPlaces}

place_append : (ids : List (List ℕ)) (id q : List ℕ)
    → place_of q (ids ++ id ∷ []) ≡ cond (is_listed q ids) (place_of q ids) (cond (bytes_eq id q) (Some (length ids)) None)
place_append [] id q = refl
place_append (x ∷ ids) id q = rw (place_append ids id q) (joined (bytes_eq x q) (is_listed q ids) (bytes_eq id q) (place_of q ids) (length ids))
  where
    joined : (a b c : Bool) (o : Option ℕ) (n : ℕ)
        → cond a (Some 0) (further (cond b o (cond c (Some n) None))) ≡ cond (a || b) (cond a (Some 0) (further o)) (cond c (Some (suc n)) None)
    joined true b c o n = refl
    joined false true c o n = refl
    joined false false true o n = refl
    joined false false false o n = refl

unlisted : (ids : List (List ℕ)) (q : List ℕ) → is_listed q ids ≡ false → place_of q ids ≡ None
unlisted [] q h = refl
unlisted (x ∷ ids) q h = parted (bytes_eq x q) (is_listed q ids) (place_of q ids) (unlisted ids q) h
  where
    parted : (a b : Bool) (o : Option ℕ) → (b ≡ false → o ≡ None) → (a || b) ≡ false → cond a (Some 0) (further o) ≡ None
    parted true b o f h = cc h
    parted false b o f h = ap further (f h)

-- the places with one id more, which isn't among those before it
place_more : (ids : List (List ℕ)) (i : ℕ) (id : List ℕ) → i < length ids → id ≡ get_or ids i id → are_distinct ids ≡ true → (q : List ℕ)
    → place_of q (take (i + 1) ids) ≡ cond (bytes_eq id q) (Some i) (place_of q (take i ids))
place_more ids i id lt is apart q =
    ap (place_of q) (take_more ids i id lt ∙ ap (λ (x : List ℕ). take i ids ++ x ∷ []) (sym is))
    ∙ place_append (take i ids) id q
    ∙ ap (λ (n : ℕ). cond (is_listed q (take i ids)) (place_of q (take i ids)) (cond (bytes_eq id q) (Some n) None)) (length-take-le i ids (omega arith))
    ∙ parted (bytes_eq id q) (is_listed q (take i ids)) refl refl
  where
    parted : (same listed : Bool) → bytes_eq id q ≡ same → is_listed q (take i ids) ≡ listed
        → cond listed (place_of q (take i ids)) (cond same (Some i) None) ≡ cond same (Some i) (place_of q (take i ids))
    parted true true h g =
        let again : is_listed id (take i ids) ≡ true = ap (λ (x : List ℕ). is_listed x (take i ids)) ((bytes_eq-Decides id q).0 h) ∙ g in
        cc (repeat_found ids i id lt is again, apart)
    parted true false h g = refl
    parted false true h g = refl
    parted false false h g = sym (unlisted (take i ids) q g)

-- the map with one id more
pub map_more : (ids : List (List ℕ)) (i : ℕ) (id : List ℕ) → i < length ids → id ≡ get_or ids i id → are_distinct ids ≡ true
    → (m n : BTreeMap (Bor (List ℕ)) ℕ) (k : Bor (List ℕ)) → k.now ≡ id → UpdatesBy (λ x y. slice_cmp nat_cmp x.now y.now) (λ o. slice_cmp nat_cmp k.now o.now) m n (Some i)
    → TellsPlaces m (take i ids) → TellsPlaces n (take (i + 1) ids)
map_more ids i id lt is apart m n k text more before q =
    btree_map_updates_str k.now m n (Some i) more q
    ∙ ap (λ (o : Option ℕ). cond (bytes_eq k.now q) (Some i) o) (before q)
    ∙ ap (λ (bs : List ℕ). cond (bytes_eq bs q) (Some i) (place_of q (take i ids))) text
    ∙ sym (place_more ids i id lt is apart q)
