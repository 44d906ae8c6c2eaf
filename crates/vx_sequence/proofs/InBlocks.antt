-- What stands in blocks, and what an edit of one block does to all entries.
use Rattle.std.proofs.Common.{◌≡◌, ℕ, ◌+◌, ◌-◌, ◌<◌, ◌≤◌, List, [], ◌∷◌, ◌++◌, length, get_or, set, take, drop, suc, zero, Result, Ok, Err, OnErr, IsSome, refl, sym, ap, subst, ◌∙◌, arith, take-append-drop}
use Rattle.std.specs.List.{All, insert, remove}
use Rattle.std.specs.Global.{Vec}
use Rattle.std.proofs.Math.Seq.{split_at}
use Rattle.std.proofs.lemmas.List.{append_assoc, append-nil, length-append, length-take-le, get_or_default, set_split, take_at, drop_at, take-set, drop-set-lt, take_more_set, set-append_left, set-append_right}
use Rattle.std.proofs.lemmas.List.Elements.{All-set, All-take, All-drop, All-append, All-cons}
use Rattle.std.proofs.lemmas.Bool.{true≢false}
use Rattle.std.proofs.lemmas.List.Concat.{flat_map-append, get_or-flat_map}
use Rattle.std.proofs.lemmas.List.Edits.{insert-append_left, insert-append_right, remove-append_left, remove-append_right}
use Rattle.std.specs.declared.cmp.Ordering.TheVariants.{Less, Equal}
use Rattle.vx_sequence.specs.declared.entries.Entry.{Entry}
use Rattle.std.specs.FinMap.{find}
use Rattle.vx_sequence.specs.Universe.{path_cmp}
use Rattle.vx_sequence.specs.Entries.{pairs, AreBelow, IsBelow, Ascends, IsAt, IsGap}
use Rattle.vx_sequence.specs.Blocks.{all_of, IsBlockOf}
use Rattle.vx_sequence.proofs.Ascending.{below_from_at, are_below_trans}
use Rattle.vx_sequence.proofs.Sets.{same_true}
use Rattle.std.specs.Ordering.{is_eq}
use Rattle.vx_sequence.proofs.Edits.{before_it}

abbrev items_of : Vec Entry → List Entry
items_of b = b.items

abbrev pub HasEntry : Vec Entry → Type 0
HasEntry b = 0 < length b.items

-- what is said at an error
pub at_error : {T E : Type 0} (r : Result T E) (P : Type 0) → P → OnErr r P
at_error (Ok x) P p = tt
at_error (Err x) P p = p

-- where a path is found, a block stands
pub some_block : (bs : List (Vec Entry)) (p : List ℕ) → IsSome (find path_cmp p (pairs (all_of bs))) → 0 < length bs
some_block [] p h = absurd (true≢false (sym h))
some_block (b ∷ bs) p h = omega arith

-- An edit in the middle one of three lists.
module _ {X : Type 0} (front middle back : List X) (i : ℕ) where
  past : length front + i - length front ≡ i
  past = omega arith

  insert_middle : (x : X) → i ≤ length middle → insert (front ++ (middle ++ back)) (length front + i) x ≡ front ++ (insert middle i x ++ back)
  insert_middle x le =
      insert-append_right front (middle ++ back) (length front) (length front + i) x refl (omega arith)
      ∙ ap (λ n. front ++ insert (middle ++ back) n x) past
      ∙ ap (λ l. front ++ l) (insert-append_left middle back i x le)

  remove_middle : i < length middle → remove (front ++ (middle ++ back)) (length front + i) ≡ front ++ (remove middle i ++ back)
  remove_middle lt =
      remove-append_right front (middle ++ back) (length front) (length front + i) refl (omega arith)
      ∙ ap (λ n. front ++ remove (middle ++ back) n) past
      ∙ ap (λ l. front ++ l) (remove-append_left middle back i lt)

  set_middle : (x : X) → i < length middle → set (front ++ (middle ++ back)) (length front + i) x ≡ front ++ (set middle i x ++ back)
  set_middle x lt =
      set-append_right front (middle ++ back) (length front) (length front + i) x refl (omega arith)
      ∙ ap (λ n. front ++ set (middle ++ back) n x) past
      ∙ ap (λ l. front ++ l) (set-append_left middle back i x lt)

-- Lists that ascend, and what is below or above a path, in parts.

pub below_right : (p : List ℕ) (xs ys : List Entry) → IsBelow p (xs ++ ys) → IsBelow p ys
below_right p [] ys h = h
below_right p (x ∷ xs) ys h = below_right p xs ys h.1

pub below_both : (p : List ℕ) (xs ys : List Entry) → IsBelow p xs → IsBelow p ys → IsBelow p (xs ++ ys)
below_both p [] ys a b = b
below_both p (x ∷ xs) ys a b = (a.0, below_both p xs ys a.1 b)

below_left : (p : List ℕ) (xs ys : List Entry) → IsBelow p (xs ++ ys) → IsBelow p xs
below_left p [] ys h = tt
below_left p (x ∷ xs) ys h = (h.0, below_left p xs ys h.1)

pub are_below_both : (xs ys : List Entry) (p : List ℕ) → AreBelow xs p → AreBelow ys p → AreBelow (xs ++ ys) p
are_below_both [] ys p a b = b
are_below_both (x ∷ xs) ys p a b = (a.0, are_below_both xs ys p a.1 b)

ascends_right : (xs ys : List Entry) → Ascends (xs ++ ys) → Ascends ys
ascends_right [] ys a = a
ascends_right (x ∷ xs) ys a = ascends_right xs ys a.1

ascends_left : (xs ys : List Entry) → Ascends (xs ++ ys) → Ascends xs
ascends_left [] ys a = tt
ascends_left (x ∷ xs) ys a = (below_left x.path xs ys a.0, ascends_left xs ys a.1)

head_below : (xs ys : List Entry) (e : Entry) → 0 < length xs → e ≡ get_or xs 0 e → Ascends (xs ++ ys) → IsBelow e.path ys
head_below [] ys e some is a = absurd (omega (arith, some))
head_below (x ∷ xs) ys e some is a = subst (λ (d : Entry). IsBelow d.path ys) (sym is) (below_right x.path xs ys a.0)

-- what stands behind a block stands behind an earlier one
pub below_later : (p : List ℕ) (bs : List (Vec Entry)) (i k : ℕ) → i ≤ k → IsBelow p (all_of (drop i bs)) → IsBelow p (all_of (drop k bs))
below_later p bs zero zero le h = h
below_later p bs (suc i) zero le h = absurd (omega (arith, le))
below_later p [] zero (suc k) le h = tt
below_later p [] (suc i) (suc k) le h = tt
below_later p (b ∷ bs) zero (suc k) le h = below_later p bs zero k (omega arith) (below_right p b.items (all_of bs) h)
below_later p (b ∷ bs) (suc i) (suc k) le h = below_later p bs i k (omega (arith, le)) h

-- Blocks from block m on, and those before it.
module _ (bs : List (Vec Entry)) (m : ℕ) where
  abbrev front : List Entry
  front = all_of (take m bs)

  pub halves : all_of bs ≡ front ++ all_of (drop m bs)
  halves = ap all_of (sym (take-append-drop m bs)) ∙ flat_map-append items_of (take m bs) (drop m bs)

  front_is : take (length front) (all_of bs) ≡ front
  front_is = ap (take (length front)) halves ∙ take_at front (all_of (drop m bs)) (length front) refl

  back_is : drop (length front) (all_of bs) ≡ all_of (drop m bs)
  back_is = ap (drop (length front)) halves ∙ drop_at front (all_of (drop m bs)) (length front) refl

-- The block b at k.
module _ (bs : List (Vec Entry)) (k : ℕ) (lt : k < length bs) where
  abbrev before : List Entry
  before = all_of (take k bs)

  abbrev behind : List Entry
  behind = all_of (drop (suc k) bs)

  pub with_block : (b : Vec Entry) → all_of (set bs k b) ≡ before ++ (b.items ++ behind)
  with_block b = ap all_of (set_split bs k b lt) ∙ flat_map-append items_of (take k bs) (b ∷ drop (suc k) bs)

  module _ (b : Vec Entry) (is : b ≡ get_or bs k b) where
    pub parts : all_of bs ≡ before ++ (b.items ++ behind)
    parts = ap all_of (split_at bs k b lt) ∙ flat_map-append items_of (take k bs) (get_or bs k b ∷ drop (suc k) bs)
        ∙ ap (λ c. before ++ (items_of c ++ behind)) (sym is)

    pub long : length (all_of bs) ≡ length before + (length b.items + length behind)
    long = ap length parts ∙ length-append before (b.items ++ behind) ∙ ap (λ n. length before + n) (length-append b.items behind)

    pub place_within : (i : ℕ) → i < length b.items → length before + i < length (all_of bs)
    place_within i l = omega (arith, long, l)

    pub entry_there : (i : ℕ) (e : Entry) → i < length b.items → get_or (all_of bs) (length before + i) e ≡ get_or b.items i e
    entry_there i e l =
        get_or-flat_map items_of bs k i b e lt (subst (λ c. i < length (items_of c)) is l)
        ∙ ap (λ c. get_or (items_of c) i e) (sym is)

    -- what an edit of the block does

    pub set_in : (i : ℕ) (e : Entry) (c : Vec Entry) → i < length b.items → c.items ≡ set b.items i e
        → all_of (set bs k c) ≡ set (all_of bs) (length before + i) e
    set_in i e c l same = with_block c ∙ ap (λ l. before ++ (l ++ behind)) same
        ∙ sym (set_middle before b.items behind i e l) ∙ ap (λ l. set l (length before + i) e) (sym parts)

    pub insert_in : (i : ℕ) (e : Entry) (c : Vec Entry) → i ≤ length b.items → c.items ≡ insert b.items i e
        → all_of (set bs k c) ≡ insert (all_of bs) (length before + i) e
    insert_in i e c l same = with_block c ∙ ap (λ l. before ++ (l ++ behind)) same
        ∙ sym (insert_middle before b.items behind i e l) ∙ ap (λ l. insert l (length before + i) e) (sym parts)

    pub remove_in : (i : ℕ) (c : Vec Entry) → i < length b.items → c.items ≡ remove b.items i
        → all_of (set bs k c) ≡ remove (all_of bs) (length before + i)
    remove_in i c l same = with_block c ∙ ap (λ l. before ++ (l ++ behind)) same
        ∙ sym (remove_middle before b.items behind i l) ∙ ap (λ l. remove l (length before + i)) (sym parts)

    pub same_in : (c : Vec Entry) → c.items ≡ b.items → all_of (set bs k c) ≡ all_of bs
    same_in c same = with_block c ∙ ap (λ l. before ++ (l ++ behind)) same ∙ sym parts

    -- the block is cut in two

    one_behind : k + 1 ≡ suc k
    one_behind = omega arith

    rest_set : (c : Vec Entry) → drop (k + 1) (set bs k c) ≡ drop (suc k) bs
    rest_set c = ap (λ n. drop n (set bs k c)) one_behind ∙ drop-set-lt (suc k) bs k c (omega arith)

    pub cut_in : (n : ℕ) (c rest : Vec Entry) → c.items ≡ take n b.items → rest.items ≡ drop n b.items
        → all_of (insert (set bs k c) (k + 1) rest) ≡ all_of bs
    cut_in n c rest first_is rest_is =
        ap (λ l. all_of (l ++ (rest ∷ drop (k + 1) (set bs k c)))) (take_more_set bs k c lt)
        ∙ ap (λ l. all_of ((take k bs ++ c ∷ []) ++ (rest ∷ l))) (rest_set c)
        ∙ flat_map-append items_of (take k bs ++ c ∷ []) (rest ∷ drop (suc k) bs)
        ∙ ap (λ l. l ++ (rest.items ++ behind)) (flat_map-append items_of (take k bs) (c ∷ []) ∙ ap (λ l. before ++ l) (append-nil c.items))
        ∙ append_assoc before c.items (rest.items ++ behind)
        ∙ ap (λ l. before ++ l) (sym (append_assoc c.items rest.items behind))
        ∙ (λ j. before ++ ((first_is j ++ rest_is j) ++ behind))
        ∙ ap (λ l. before ++ (l ++ behind)) (take-append-drop n b.items)
        ∙ sym parts

    pub cut_filled : (c rest : Vec Entry) → All HasEntry bs → HasEntry c → HasEntry rest → All HasEntry (insert (set bs k c) (k + 1) rest)
    cut_filled c rest all one other =
        let now : All HasEntry (set bs k c) = All-set HasEntry bs k c one all in
        All-append HasEntry (take (k + 1) (set bs k c)) (rest ∷ drop (k + 1) (set bs k c))
        (All-take HasEntry (k + 1) (set bs k c) now)
        (All-cons HasEntry rest (drop (k + 1) (set bs k c)) other (All-drop HasEntry (k + 1) (set bs k c) now))

    -- an empty block is taken out

    others_are : (c : Vec Entry) → remove (set bs k c) k ≡ take k bs ++ drop (suc k) bs
    others_are c = ap (λ l. l ++ drop (suc k) (set bs k c)) (take-set bs k c) ∙ ap (λ l. take k bs ++ l) (drop-set-lt (suc k) bs k c (omega arith))

    pub taken_out : (c : Vec Entry) → c.items ≡ [] → all_of (remove (set bs k c) k) ≡ all_of (set bs k c)
    taken_out c none = ap all_of (others_are c) ∙ flat_map-append items_of (take k bs) (drop (suc k) bs)
        ∙ sym (with_block c ∙ ap (λ l. before ++ (l ++ behind)) none)

    pub others_filled : (c : Vec Entry) → All HasEntry bs → All HasEntry (remove (set bs k c) k)
    others_filled c all = subst (All HasEntry) (sym (others_are c))
        (All-append HasEntry (take k bs) (drop (suc k) bs) (All-take HasEntry k bs all) (All-drop HasEntry (suc k) bs all))

    -- what is said of the block by its place

    pub at_block : (P : Vec Entry → Type 0) → ((d : Vec Entry) → P (get_or bs k d)) → P b
    at_block P h = subst P (sym is) (h b)

    pub by_place : (P : Vec Entry → Type 0) → P b → (d : Vec Entry) → P (get_or bs k d)
    by_place P h d = subst P (is ∙ get_or_default bs k b d lt) h

    -- where a path's entry stands in the block, there it stands among all

    pub block_ascends : Ascends (all_of bs) → Ascends b.items
    block_ascends a = ascends_left b.items behind (ascends_right before (b.items ++ behind) (subst Ascends parts a))

    pub block_at : (p : List ℕ) (i : ℕ) → IsAt b.items p i → IsAt (all_of bs) p (length before + i)
    block_at p i at = record {
      within = place_within i at.within;
      found = λ d. ap (λ (e : Entry). e.path) (entry_there i d at.within) ∙ at.found d;
    }

    pub block_gap : (p : List ℕ) (i : ℕ) → IsBlockOf bs p k → IsGap b.items p i → IsGap (all_of bs) p (length before + i)
    block_gap p i of gap =
        let cut : all_of bs ≡ (before ++ take i b.items) ++ (drop i b.items ++ behind) =
        parts
        ∙ ap (λ l. before ++ (l ++ behind)) (sym (take-append-drop i b.items))
        ∙ ap (λ l. before ++ l) (append_assoc (take i b.items) (drop i b.items) behind)
        ∙ sym (append_assoc before (take i b.items) (drop i b.items ++ behind)) in
        let size : length (before ++ take i b.items) ≡ length before + i =
        length-append before (take i b.items) ∙ ap (λ n. length before + n) (length-take-le i b.items gap.within) in
        record {
          within = omega (arith, long, gap.within);
          before = subst (λ l. AreBelow l p) (sym (ap (take (length before + i)) cut ∙ take_at (before ++ take i b.items) (drop i b.items ++ behind) (length before + i) size))
              (are_below_both before (take i b.items) p of.before gap.before);
          behind = subst (IsBelow p) (sym (ap (drop (length before + i)) cut ∙ drop_at (before ++ take i b.items) (drop i b.items ++ behind) (length before + i) size))
              (below_both p (drop i b.items) behind gap.behind (subst (λ j. IsBelow p (all_of (drop j bs))) next of.behind));
        }
      where
        next : k + 1 ≡ suc k
        next = omega arith

    -- a path that is above the block's first one is above what stands before the block; one that is below it is below what stands from the block on
    module _ (some : 0 < length b.items) (asc : Ascends (all_of bs)) (e : Entry) (first : e ≡ get_or b.items 0 e) where
      first_within : length before < length (all_of bs)
      first_within = omega (arith, long, some)

      first_is : get_or (all_of bs) (length before) e ≡ e
      first_is = ap (λ n. get_or (all_of bs) n e) none_more ∙ entry_there 0 e some ∙ sym first
        where
          none_more : length before ≡ length before + 0
          none_more = omega arith

      pub before_first : AreBelow before e.path
      before_first = subst (λ l. AreBelow l e.path) (front_is bs k)
          (before_it (all_of bs) (length before) e e.path first_within (ap (λ (x : Entry). x.path) first_is) asc)

      -- the path was compared with the block's first one

      pub before_less : (q : List ℕ) → path_cmp e.path q ≡ Less → AreBelow before q
      before_less q h = are_below_trans before e.path q before_first h

      pub below_first : (q : List ℕ) → path_cmp q e.path ≡ Less → IsBelow q (all_of (drop k bs))
      below_first q h = subst (IsBelow q) (back_is bs k)
          (below_from_at (all_of bs) q (length before) e asc first_within (ap (λ (x : Entry). path_cmp q x.path) first_is ∙ h))

      pub behind_first : IsBelow e.path behind
      behind_first = head_below b.items behind e some first (ascends_right before (b.items ++ behind) (subst Ascends parts asc))

      pub this_block : (q : List ℕ) → path_cmp e.path q ≡ Equal → IsBlockOf bs q k
      this_block q h =
          let same : e.path ≡ q = same_true e.path q (ap is_eq h) in
          record {
            within = lt;
            before = subst (AreBelow before) same before_first;
            behind = subst (λ n. IsBelow q (all_of (drop n bs))) (sym one_behind) (subst (λ p. IsBelow p behind) same behind_first);
          }
