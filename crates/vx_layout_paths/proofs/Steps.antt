-- Paths are taken in turn.
use Rattle.std.proofs.Common.{◌≡◌, ◌≢◌, ℕ, suc, ◌+◌, ◌<◌, List, [], ◌∷◌, ◌++◌, length, get_or, set, take, drop, map, refl, sym, ap, ap₂, subst, ◌∙◌, append_assoc, arith, get_or-set_other}
use Rattle.std.proofs.lemmas.List.{length-append, map_more}
use Rattle.std.specs.Global.{Vec}
use Rattle.vx_model.specs.declared.segment.SegmentId.{SegmentId}
use Rattle.vx_path.specs.declared.owned.Path.{Path}
use Rattle.vx_layout_spec.specs.LayoutTree.{LayoutData, layout, lays_of, segments_of, children_of}
use Rattle.vx_layout_segments.specs.Segments.{segments_in, all_segments}
use Rattle.vx_layout_segments.proofs.SegmentLaws.{segments_in-parts, all_segments_more, all_segments-behind, lays_of-lays_in}
use Rattle.vx_layout_tree.specs.LayoutView.{number}
use Rattle.vx_layout_tree.specs.LayDepth.{depth, depths}
use Rattle.vx_layout_paths.specs.Taking.{path_at, Apart, taken, emptied, Took, HasRoom}

-- ---- one after another

taken-append : (ns ms : List ℕ) (ps : List (List ℕ)) → taken (ns ++ ms) ps ≡ taken ns ps ++ taken ms (emptied ns ps)
taken-append [] ms ps = refl
taken-append (n ∷ ns) ms ps = ap (λ r. path_at ps n ∷ r) (taken-append ns ms (set ps n []))

emptied-append : (ns ms : List ℕ) (ps : List (List ℕ)) → emptied (ns ++ ms) ps ≡ emptied ms (emptied ns ps)
emptied-append [] ms ps = refl
emptied-append (n ∷ ns) ms ps = emptied-append ns ms (set ps n [])

took_both : (ns ms : List ℕ) (ps qs rs : List (List ℕ)) (u v w : Vec Path) → Took ns ps qs u v → Took ms qs rs v w → Took (ns ++ ms) ps rs u w
took_both ns ms ps qs rs u v w first then = record {
  behind =
      then.behind ∙ ap₂ (λ r s. r ++ taken ms s) first.behind first.leaves
      ∙ append_assoc u.items (taken ns ps) (taken ms (emptied ns ps)) ∙ ap (λ r. u.items ++ r) (sym (taken-append ns ms ps));
  leaves = then.leaves ∙ ap (emptied ms) first.leaves ∙ sym (emptied-append ns ms ps);
  count = omega (arith, first.count, then.count, length-append ns ms);
  capacity = then.capacity ∙ first.capacity;
}

-- ---- all of them

-- no number stands twice: each path is found as it stood
taken_apart : (ns : List ℕ) (ps qs : List (List ℕ)) → Apart ns → ((k : ℕ) → k < length ns → path_at ps (get_or ns k 0) ≡ path_at qs (get_or ns k 0)) → taken ns ps ≡ map (path_at qs) ns
taken_apart [] ps qs apart same = refl
taken_apart (n ∷ ns) ps qs apart same =
    ap₂ (λ (r : List ℕ) (s : List (List ℕ)). r ∷ s) (same 0 (omega arith))
    (taken_apart ns (set ps n []) qs (λ i j d lt in_list. apart (suc i) (suc j) d (omega (arith, lt)) (omega (arith, in_list)))
    (λ k lt. let other : get_or ns k 0 ≢ n = λ e. apart 0 (suc k) 0 (omega arith) (omega (arith, lt)) (sym e) in
    get_or-set_other ps n (get_or ns k 0) [] [] other ∙ same (suc k) (omega (arith, lt))))

pub took_all : (ns : List ℕ) (ps left : List (List ℕ)) (u v : Vec Path) → Apart ns → Took ns ps left u v → v.items ≡ u.items ++ map (path_at ps) ns
took_all ns ps left u v apart took = took.behind ∙ ap (λ r. u.items ++ r) (taken_apart ns ps ps apart (λ k lt. refl))

-- ---- one of several

-- there is room for its segments too
pub room_for_one : {X : Type 0} (f : X → LayoutData ℕ) (xs : List X) (i : ℕ) (x : X) (ps qs : List (List ℕ)) (u v : Vec Path) → i < length xs → x ≡ get_or xs i x
    → Took (all_segments (lays_of (map f (take i xs)))) ps qs u v → HasRoom (all_segments (lays_of (map f xs))) u → HasRoom (segments_in (f x)) v
room_for_one f xs i x ps qs u v lt is first room =
    let parts : length (all_segments (lays_of (map f xs))) ≡ length (all_segments (lays_of (map f (take i xs)))) + length (segments_in (f x)) + length (all_segments (lays_of (map f (drop (i + 1) xs)))) =
    ap length (all_segments-behind f xs (i + 1) ∙ ap (λ r. r ++ all_segments (lays_of (map f (drop (i + 1) xs)))) (all_segments_more f xs i x lt is))
    ∙ length-append (all_segments (lays_of (map f (take i xs))) ++ segments_in (f x)) (all_segments (lays_of (map f (drop (i + 1) xs))))
    ∙ ap (λ (n : ℕ). n + length (all_segments (lays_of (map f (drop (i + 1) xs))))) (length-append (all_segments (lays_of (map f (take i xs)))) (segments_in (f x))) in
    omega (arith, parts, first.count, first.capacity, room)

pub took_one_more : {X : Type 0} (f : X → LayoutData ℕ) (xs : List X) (i : ℕ) (x : X) (ps qs rs : List (List ℕ)) (u v w : Vec Path) → i < length xs → x ≡ get_or xs i x
    → Took (all_segments (lays_of (map f (take i xs)))) ps qs u v → Took (segments_in (f x)) qs rs v w → Took (all_segments (lays_of (map f (take (i + 1) xs)))) ps rs u w
took_one_more f xs i x ps qs rs u v w lt is first then =
    subst (λ ns. Took ns ps rs u w) (sym (all_segments_more f xs i x lt is)) (took_both (all_segments (lays_of (map f (take i xs)))) (segments_in (f x)) ps qs rs u v w first then)

-- ---- a layout's own segments

-- one more of several
pub own_more : (xs : List SegmentId) (i : ℕ) (d : SegmentId) (ps qs rs : List (List ℕ)) (u v w : Vec Path) → i < length xs
    → Took (map number (take i xs)) ps qs u v → Took ((get_or xs i d).0 ∷ []) qs rs v w → Took (map number (take (i + 1) xs)) ps rs u w
own_more xs i d ps qs rs u v w lt first then =
    subst (λ ns. Took ns ps rs u w) (sym (map_more number xs i d lt)) (took_both (map number (take i xs)) ((get_or xs i d).0 ∷ []) ps qs rs u v w first then)

-- ---- a layout by its kind

pub room_for_own : (l : LayoutData ℕ) (ns : List ℕ) (v : Vec Path) → ns ≡ segments_of l → HasRoom (segments_in l) v → HasRoom ns v
room_for_own (layout k t n names ls) ns v own room = omega (arith, ap length own, length-append names (all_segments ls), room)

pub room_for_children : (l : LayoutData ℕ) (ns : List ℕ) (ls : List (LayoutData ℕ)) (ps qs : List (List ℕ)) (u v : Vec Path) → ns ≡ segments_of l → children_of l ≡ ls
    → Took ns ps qs u v → HasRoom (segments_in l) u → HasRoom (all_segments (lays_of ls)) v
room_for_children l ns ls ps qs u v own kids first room =
    omega (arith, ap length own, ap length (segments_in-parts l ls kids), length-append (segments_of l) (all_segments (lays_of ls)), first.count, first.capacity, room)

pub took_children : (l : LayoutData ℕ) (ns : List ℕ) (ls : List (LayoutData ℕ)) (ps qs rs : List (List ℕ)) (u v w : Vec Path) → ns ≡ segments_of l → children_of l ≡ ls
    → Took ns ps qs u v → Took (all_segments (lays_of ls)) qs rs v w → Took (segments_in l) ps rs u w
took_children l ns ls ps qs rs u v w own kids first then =
    subst (λ ms. Took ms ps rs u w) (ap (λ r. r ++ all_segments (lays_of ls)) own ∙ sym (segments_in-parts l ls kids)) (took_both ns (all_segments (lays_of ls)) ps qs rs u v w first then)

-- ---- depths

pub depth_is : (l : LayoutData ℕ) (ls : List (LayoutData ℕ)) → children_of l ≡ ls → depth l ≡ depths (lays_of ls)
depth_is (layout k t n names cs) ls kids = ap depths (sym (lays_of-lays_in cs) ∙ ap lays_of kids)
