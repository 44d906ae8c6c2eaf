-- The front of rows, a row at a time.
use Rattle.std.proofs.Common.{◌≡◌, ℕ, Bool, true, false, List, [], ◌∷◌, ◌++◌, refl, ap, ◌∙◌, append_assoc}
use Rattle.std.specs.Prelude.{if◌then◌else◌}
use Rattle.vx_model.specs.Ty.{Ty}
use Rattle.vx_model.specs.CellData.{CellData}
use Rattle.vx_rules.specs.Runs.{DictOptions, Cut, behind, stretches, with_cell, place_in, cells_fit}
use Rattle.vx_dict_encoder.specs.Front.{first_run, front}

-- codes that are there already stand before those of the rows
codes_before : (o : DictOptions) (t : Ty) (ds : List CellData) (before codes : List ℕ) (rows : List CellData)
    → first_run (stretches o t ds (before ++ codes) rows) ≡ (before ++ (first_run (stretches o t ds codes rows)).0, (first_run (stretches o t ds codes rows)).1)
codes_before o t ds before codes [] = refl
codes_before o t ds before codes (c ∷ cs) = go (cells_fit o t (with_cell ds c)) (codes_before o t (with_cell ds c) before (codes ++ (place_in c (with_cell ds c) ∷ [])) cs)
  where
    code : List ℕ
    code = place_in c (with_cell ds c) ∷ []

    next : Cut
    next = stretches o t (c ∷ []) (0 ∷ []) cs

    go : (b : Bool)
        → first_run (stretches o t (with_cell ds c) (before ++ (codes ++ code)) cs) ≡ (before ++ (first_run (stretches o t (with_cell ds c) (codes ++ code) cs)).0, (first_run (stretches o t (with_cell ds c) (codes ++ code) cs)).1)
        → first_run (if b then stretches o t (with_cell ds c) ((before ++ codes) ++ code) cs else behind (before ++ codes) ds next)
        ≡ (before ++ (first_run (if b then stretches o t (with_cell ds c) (codes ++ code) cs else behind codes ds next)).0, (first_run (if b then stretches o t (with_cell ds c) (codes ++ code) cs else behind codes ds next)).1)
    go true r = ap (λ (ns : List ℕ). first_run (stretches o t (with_cell ds c) ns cs)) (append_assoc before codes code) ∙ r
    go false r = refl

-- a row with which the cells fit
pub front_goes_on : (o : DictOptions) (t : Ty) (ds : List CellData) (c : CellData) (cs : List CellData) → cells_fit o t (with_cell ds c) ≡ true
    → front o t ds (c ∷ cs) ≡ (place_in c (with_cell ds c) ∷ (front o t (with_cell ds c) cs).0, (front o t (with_cell ds c) cs).1)
front_goes_on o t ds c cs h =
    ap (λ (b : Bool). first_run (if b then stretches o t (with_cell ds c) (place_in c (with_cell ds c) ∷ []) cs else behind [] ds (stretches o t (c ∷ []) (0 ∷ []) cs))) h
    ∙ codes_before o t (with_cell ds c) (place_in c (with_cell ds c) ∷ []) [] cs

-- a row with which they don't
pub front_ends : (o : DictOptions) (t : Ty) (ds : List CellData) (c : CellData) (cs : List CellData) → cells_fit o t (with_cell ds c) ≡ false → front o t ds (c ∷ cs) ≡ ([], ds)
front_ends o t ds c cs h =
    ap (λ (b : Bool). first_run (if b then stretches o t (with_cell ds c) (place_in c (with_cell ds c) ∷ []) cs else behind [] ds (stretches o t (c ∷ []) (0 ∷ []) cs))) h
