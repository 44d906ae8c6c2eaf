-- Layouts of runs, taken off the end of layouts that are turned about.
use Rattle.std.proofs.Common.{◌≡◌, ℕ, false, List, [], ◌∷◌, ◌++◌, map, reverse, Result, IfOk, IfErr, Vec, Global, refl, subst, sym, ap, ◌∙◌, append_assoc, append-nil}
use Rattle.std.proofs.lemmas.List.{map_push, reverse-append, reverse-reverse}
use Rattle.vx_model.specs.Words.{total_by}
use Rattle.vx_model.specs.Ty.{Ty}
use Rattle.vx_model.specs.TyView.{ty}
use Rattle.vx_model.specs.declared.dtype.DType.{DType}
use Rattle.vx_model.specs.declared.segment.SegmentId.{SegmentId}
use Rattle.vx_layout_spec.specs.LayoutTree.{LayoutData, layout, dict_kind, lays_of, row_count, gathered, dict_layout}
use Rattle.vx_layout_tree.specs.declared.layout.Layout.{Layout}
use Rattle.vx_layout_tree.specs.LayoutView.{layout_data, number, seen_layout}
use Rattle.vx_machine_state.specs.State.{fold_runs}
use Rattle.vx_machine_state.specs.Coding.{runs_laid}
use Rattle.vx_machine_state.specs.Acts.{folded}
use Rattle.vx_write_answer.specs.declared.error.WriteError.{WriteError}
use Rattle.vx_machine_nodes.specs.Acting.{JoinRefused}

back : (ls : List Layout) (m : Layout) → map layout_data (reverse (ls ++ (m ∷ []))) ≡ layout_data m ∷ map layout_data (reverse ls)
back ls m = ap (map layout_data) (reverse-append ls (m ∷ []))

pub both_back : (ls fewer fewest : List Layout) (c v : Layout) → ls ≡ fewer ++ (c ∷ []) → fewer ≡ fewest ++ (v ∷ []) → map layout_data (reverse ls) ≡ layout_data c ∷ layout_data v ∷ map layout_data (reverse fewest)
both_back ls fewer fewest c v a b = ap (λ z. map layout_data (reverse z)) a ∙ back fewer c ∙ ap (λ z. layout_data c ∷ map layout_data (reverse z)) b ∙ ap (λ z. layout_data c ∷ z) (back fewest v)

-- one run
pub run_made : (d : DType) (u : Ty) (n : ℕ) (segments : Vec SegmentId Global) (two : List Layout) (v c l : Layout) → ty d ≡ u → segments.items ≡ [] → two ≡ v ∷ c ∷ []
    → layout_data l ≡ seen_layout (dict_kind false) d n segments (map layout_data two) → layout_data l ≡ dict_layout u n (layout_data v) (layout_data c)
run_made d u n segments two v c l is empty e h = h ∙ (λ j. layout (dict_kind false) (is j) n (map number (empty j)) (lays_of (map layout_data (e j))))

-- at first
pub none_laid : (t : Ty) (ns : List ℕ) (none ls turned : List Layout) → none ≡ [] → turned ≡ reverse ls → map layout_data none ++ runs_laid t ns (map layout_data (reverse turned)) ≡ runs_laid t ns (map layout_data ls)
none_laid t ns none ls turned n h = ap (λ z. map layout_data z ++ runs_laid t ns (map layout_data (reverse turned))) n ∙ ap (λ z. runs_laid t ns (map layout_data z)) (ap reverse h ∙ reverse-reverse ls)

-- a run
pub run_laid : (t : Ty) (counts rest : List ℕ) (n : ℕ) (ls fewer fewest runs more : List Layout) (c v l : Layout) (init : List (LayoutData ℕ)) → counts ≡ n ∷ rest → ls ≡ fewer ++ (c ∷ []) → fewer ≡ fewest ++ (v ∷ [])
    → more ≡ runs ++ (l ∷ []) → layout_data l ≡ dict_layout t n (layout_data v) (layout_data c) → map layout_data runs ++ runs_laid t counts (map layout_data (reverse ls)) ≡ init
    → map layout_data more ++ runs_laid t rest (map layout_data (reverse fewest)) ≡ init
run_laid t counts rest n ls fewer fewest runs more c v l init a b d e h k =
    let later : List (LayoutData ℕ) = runs_laid t rest (map layout_data (reverse fewest)) in
    ap (λ z. map layout_data z ++ later) e
    ∙ ap (λ z. z ++ later) (map_push layout_data runs l)
    ∙ append_assoc (map layout_data runs) (layout_data l ∷ []) later
    ∙ ap (λ z. map layout_data runs ++ (z ∷ later)) h
    ∙ (λ j. map layout_data runs ++ runs_laid t (sym a j) (sym (both_back ls fewer fewest c v b d) j))
    ∙ k

-- no more of them
pub all_laid : (t : Ty) (counts : List ℕ) (ls runs : List Layout) (init : List (LayoutData ℕ)) → counts ≡ [] → map layout_data runs ++ runs_laid t counts (map layout_data (reverse ls)) ≡ init → map layout_data runs ≡ init
all_laid t counts ls runs init a k = sym (append-nil (map layout_data runs)) ∙ ap (λ z. map layout_data runs ++ runs_laid t z (map layout_data (reverse ls))) (sym a) ∙ k

none_of : (t : Ty) (counts : List ℕ) → runs_laid {A = ℕ} t counts [] ≡ []
none_of t [] = refl
none_of t (n ∷ ns) = refl

half_of : (t : Ty) (counts : List ℕ) (l : LayoutData ℕ) → runs_laid t counts (l ∷ []) ≡ []
half_of t [] l = refl
half_of t (n ∷ ns) l = refl

pub no_codes : (t : Ty) (counts : List ℕ) (ls runs : List Layout) (init : List (LayoutData ℕ)) → ls ≡ [] → map layout_data runs ++ runs_laid t counts (map layout_data (reverse ls)) ≡ init → map layout_data runs ≡ init
no_codes t counts ls runs init a k =
    sym (append-nil (map layout_data runs)) ∙ ap (λ z. map layout_data runs ++ z) (sym (none_of t counts)) ∙ ap (λ z. map layout_data runs ++ runs_laid t counts (map layout_data (reverse z))) (sym a) ∙ k

pub no_values : (t : Ty) (counts : List ℕ) (ls fewer runs : List Layout) (c : Layout) (init : List (LayoutData ℕ)) → ls ≡ fewer ++ (c ∷ []) → fewer ≡ [] → map layout_data runs ++ runs_laid t counts (map layout_data (reverse ls)) ≡ init
    → map layout_data runs ≡ init
no_values t counts ls fewer runs c init a b k =
    sym (append-nil (map layout_data runs)) ∙ ap (λ z. map layout_data runs ++ z) (sym (half_of t counts (layout_data c)))
    ∙ ap (λ z. map layout_data runs ++ runs_laid t counts (map layout_data (reverse z))) (sym (a ∙ ap (λ z. z ++ (c ∷ [])) b)) ∙ k

-- ---- all of them

module _ (t u : Ty) (counts : List ℕ) (ls all : List (LayoutData ℕ)) (r : Result Layout WriteError) (same : t ≡ u) (laid : all ≡ runs_laid t counts ls) where
  all_are : all ≡ runs_laid u counts ls
  all_are = laid ∙ ap (λ z. runs_laid z counts ls) same

  pub runs_gathered : (v : Ty) → v ≡ u → IfOk r (λ l. layout_data l ≡ gathered v (total_by row_count all) all) → IfOk r (λ l. layout_data l ≡ folded (fold_runs u counts) ls)
  runs_gathered v is h = subst (λ z. IfOk r (λ l. layout_data l ≡ z)) (λ j. gathered (is j) (total_by row_count (all_are j)) (all_are j)) h

  pub runs_past : IfErr r (JoinRefused (total_by row_count all ∷ [])) → IfErr r (JoinRefused (total_by row_count (runs_laid u counts ls) ∷ []))
  runs_past h = subst (λ z. IfErr r (JoinRefused (total_by row_count z ∷ []))) all_are h
