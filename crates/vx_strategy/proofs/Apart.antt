-- Overrides stay apart.
use Rattle.std.proofs.Common.{◌≡◌, ℕ, suc, ◌&&◌, Bool, true, false, List, [], ◌∷◌, ◌++◌, get_or, inl, inr, refl, sym, ◌∙◌, ap, subst, Some, None}
use Rattle.std.specs.Prelude.{not, option_map}
use Rattle.std.proofs.lemmas.Bool.{and_from, and_parts}
use Rattle.vx_strategy_spec.specs.StrategyData.{StrategyData, StrategyList, no_ways, way_at}
use Rattle.vx_strategy_spec.specs.Admitted.{is_root, overlaps, overlaps_none, are_apart, are_admitted}
use Rattle.vx_strategy.specs.AdmittedStrategy.{AdmittedStrategy, are_overrides, item_overrides}
use Rattle.vx_strategy.specs.PathWays.{path_ways}
use Rattle.vx_strategy.specs.Overridden.{Names, appended, first_overlap, is_over, overlap_place}
use Rattle.vx_strategy.specs.declared.overrides.PathWriter.{PathWriter}
use Rattle.vx_strategy.proofs.PlaceSteps.{later, place_below}
use Rattle.vx_strategy.proofs.Writers.{either, none_later, bytes_eq_sym}

-- ---- overlapping is symmetric

pub overlaps_sym : (p q : Names) → overlaps p q ≡ overlaps q p
overlaps_sym [] [] = refl
overlaps_sym [] (b ∷ q) = refl
overlaps_sym (a ∷ p) [] = refl
overlaps_sym (a ∷ p) (b ∷ q) = rw (bytes_eq_sym a b, overlaps_sym p q) refl

over_is : (path : Names) (w : PathWriter) → is_over path w ≡ overlaps path w.path
over_is path w = overlaps_sym w.path path

-- ---- one more override

pub path_push : (path : Names) (w : AdmittedStrategy) (ws : List PathWriter)
    → path_ways (ws ++ (record { path = path; writer = w } ∷ [])) ≡ appended (path_ways ws) path w.item
path_push path w [] = refl
path_push path w (x ∷ xs) = ap (way_at x.path x.writer.item) (path_push path w xs)

pub none_overlaps : (path : Names) (ws : List PathWriter) → overlap_place path ws ≡ None → overlaps_none path (path_ways ws) ≡ true
none_overlaps path [] is = refl
none_overlaps path (x ∷ xs) is = elim (either (is_over path x)) [
  | inl t ↦ let h : overlap_place path (x ∷ xs) ≡ Some 0 = rw t refl in absurd (cc (is, h))
  | inr t ↦
      let h : overlap_place path (x ∷ xs) ≡ option_map suc (overlap_place path xs) = rw t refl in
      let o : overlaps path x.path ≡ false = sym (over_is path x) ∙ t in
      rw (o, none_overlaps path xs (none_later (overlap_place path xs) (sym h ∙ is))) refl
]

Firsts : Names → List PathWriter → PathWriter → ℕ → Type 0
Firsts path ws x k = x ≡ get_or ws k x → first_overlap path (path_ways ws) ≡ Some x.path

first_here : (path : Names) (y x : PathWriter) (ys : List PathWriter) → is_over path y ≡ true → Firsts path (y ∷ ys) x 0
unfolding Firsts
first_here path y x ys t at = let o : overlaps path y.path ≡ true = sym (over_is path y) ∙ t in rw (o, at) refl

first_later : (path : Names) (y x : PathWriter) (ys : List PathWriter) (j : ℕ) → is_over path y ≡ false → Firsts path ys x j → Firsts path (y ∷ ys) x (suc j)
unfolding Firsts
first_later path y x ys j t rest at = let o : overlaps path y.path ≡ false = sym (over_is path y) ∙ t in rw (o) (rest at)

firsts : (path : Names) (ws : List PathWriter) (k : ℕ) (x : PathWriter) → overlap_place path ws ≡ Some k → Firsts path ws x k
firsts path [] k x is = absurd (cc is)
firsts path (y ∷ ys) k x is = elim (either (is_over path y)) [
  | inl t ↦ let h : overlap_place path (y ∷ ys) ≡ Some 0 = rw t refl in
      let e : 0 ≡ k = cc (is, h) in subst (Firsts path (y ∷ ys) x) e (first_here path y x ys t)
  | inr t ↦ let h : overlap_place path (y ∷ ys) ≡ option_map suc (overlap_place path ys) = rw t refl in
      let (j, at, e) = later (overlap_place path ys) k (sym h ∙ is) in
      subst (Firsts path (y ∷ ys) x) e (first_later path y x ys j t (firsts path ys j x at))
]

pub first_is : (path : Names) (ws : List PathWriter) (k : ℕ) (x : PathWriter) → overlap_place path ws ≡ Some k → x ≡ get_or ws k x
    → first_overlap path (path_ways ws) ≡ Some x.path
unfolding Firsts
first_is path ws k x is at = firsts path ws k x is at

-- ---- they stay apart

none_more : (p path : Names) (w : StrategyData) (ws : StrategyList) → overlaps_none p ws ≡ true → overlaps p path ≡ false → overlaps_none p (appended ws path w) ≡ true
none_more p path w no_ways e o = rw o refl
none_more p path w (way_at q v ws) e o = rw (and_parts (not (overlaps p q)) (overlaps_none p ws) e).0 (none_more p path w ws (and_parts (not (overlaps p q)) (overlaps_none p ws) e).1 o)

not_true : (b : Bool) → not b ≡ true → b ≡ false
not_true true e = sym e
not_true false e = refl

pub apart_more : (path : Names) (w : StrategyData) (ws : StrategyList) → is_root path ≡ false → overlaps_none path ws ≡ true → are_apart ws ≡ true → are_apart (appended ws path w) ≡ true
apart_more path w no_ways r o a = rw r refl
apart_more path w (way_at q v ws) r o a =
    let rest : (overlaps_none q ws && are_apart ws) ≡ true = (and_parts (not (is_root q)) _ a).1 in
    let off : overlaps q path ≡ false = overlaps_sym q path ∙ not_true (overlaps path q) (and_parts (not (overlaps path q)) (overlaps_none path ws) o).0 in
    and_from _ _ (and_parts (not (is_root q)) _ a).0
    (and_from _ _ (none_more q path w ws (and_parts (overlaps_none q ws) _ rest).0 off)
    (apart_more path w ws r (and_parts (not (overlaps path q)) _ o).1 (and_parts (overlaps_none q ws) _ rest).1))

each_more : (path : Names) (w : AdmittedStrategy) (ws : StrategyList) → are_admitted ws ≡ true → are_admitted (appended ws path w.item) ≡ true
each_more path w no_ways a = and_from _ _ w.passes refl
each_more path w (way_at q v ws) a = and_from _ _ (and_parts _ (are_admitted ws) a).0 (each_more path w ws (and_parts _ (are_admitted ws) a).1)

pub overrides_more : (path : Names) (w : AdmittedStrategy) (ws : StrategyList) → is_root path ≡ false → overlaps_none path ws ≡ true → are_overrides ws ≡ true
    → are_overrides (appended ws path w.item) ≡ true
overrides_more path w ws r o h =
    and_from _ _ (apart_more path w.item ws r o (and_parts (are_apart ws) (are_admitted ws) h).0) (each_more path w ws (and_parts (are_apart ws) (are_admitted ws) h).1)

pub ruleset apart_rules = (path_push, none_overlaps, first_is, overrides_more, item_overrides, place_below)
