-- What a chunk gives, and what is held behind it.
use Rattle.std.proofs.Common.{◌≡◌, ℕ, suc, ◌+◌, Bool, true, false, List, [], ◌∷◌, ◌++◌, length, refl, sym, ap, ap₂, ◌∙◌, arith}
use Rattle.std.specs.Prelude.{if◌then◌else◌}
use Rattle.std.proofs.lemmas.List.{append-nil, length-map}
use Rattle.vx_model.specs.Ty.{Ty}
use Rattle.vx_model.specs.CellData.{CellData}
use Rattle.vx_model.specs.ChunkData.{ChunkData, plain_piece, cells}
use Rattle.vx_model.specs.declared.dtype.DType.{DType}
use Rattle.vx_model.specs.TyView.{ty}
use Rattle.vx_rules.specs.Runs.{DictOptions, Cut, behind, stretches, with_cell, place_in, cells_fit, codes_piece}
use Rattle.vx_react.specs.declared.place.Place.TheVariants.{Codes, Values}
use Rattle.vx_react.specs.Reactor.{Output}
use Rattle.vx_react.specs.Cutter.{Cutting, next_number, closed_outputs, cut_outputs}
use Rattle.vx_strategy_options.specs.declared.options.DictLayoutConstraints.{DictLayoutConstraints}
use Rattle.vx_strategy_options.specs.OptionViews.{dict_options}
use Rattle.vx_runs.specs.declared.rows.Closed.{Closed}
use Rattle.vx_runs.specs.Cutting.{pair_of, pairs, cut_of}
use Rattle.vx_runs.specs.CutterData.{CutterData, cutter_view, gives_at, held_at, with_cutting}

next_is : (n : ℕ) (xs : List (List ℕ × List CellData)) → next_number n xs ≡ n + length xs
next_is n [] = let e : n ≡ n + 0 = omega arith in e
next_is n (x ∷ xs) = let r : next_number (suc n) xs ≡ suc n + length xs = next_is (suc n) xs in omega arith

-- the number behind the runs that have ended
pub number_is : (n k : ℕ) (closed : List Closed) (codes : List ℕ) (ds : List CellData) (cut : Cut) → cut_of closed codes ds ≡ cut → k ≡ n + length closed → k ≡ next_number n cut.closed
number_is n k closed codes ds cut e l =
    let len : length (pairs closed) ≡ length closed = length-map closed pair_of in
    let next : next_number n (pairs closed) ≡ n + length (pairs closed) = next_is n (pairs closed) in
    let all : k ≡ next_number n (pairs closed) = omega arith in
    all ∙ ap (λ (z : Cut). next_number n z.closed) e

pub gives_open : (o : DictOptions) (t : Ty) (n : ℕ) (closed : List Closed) (codes : List ℕ) (ds : List CellData) (cut : Cut) (out : List Output) → cut_of closed codes ds ≡ cut
    → ((more : List Output) → out ++ more ≡ closed_outputs o t n (pairs closed) ((Codes (n + length closed), codes_piece o codes) ∷ more)) → out ≡ cut_outputs o t n cut false
gives_open o t n closed codes ds cut out e h =
    let k : n + length closed ≡ next_number n (pairs closed) = number_is n (n + length closed) closed codes ds (cut_of closed codes ds) refl refl in
    sym (append-nil out) ∙ h []
    ∙ ap (λ (j : ℕ). closed_outputs o t n (pairs closed) ((Codes j, codes_piece o codes) ∷ [])) k
    ∙ ap (λ (z : Cut). cut_outputs o t n z false) e

pub gives_last : (o : DictOptions) (t : Ty) (n k : ℕ) (closed : List Closed) (codes : List ℕ) (ds : List CellData) (cut : Cut) (out now : List Output) → cut_of closed codes ds ≡ cut → k ≡ n + length closed
    → ((more : List Output) → out ++ more ≡ closed_outputs o t n (pairs closed) ((Codes (n + length closed), codes_piece o codes) ∷ more)) → now ≡ out ++ (Values k, plain_piece t ds) ∷ [] → now ≡ cut_outputs o t n cut true
gives_last o t n k closed codes ds cut out now e l h w =
    let j : n + length closed ≡ next_number n (pairs closed) = number_is n (n + length closed) closed codes ds (cut_of closed codes ds) refl refl in
    w ∙ h ((Values k, plain_piece t ds) ∷ [])
    ∙ ap₂ (λ (a b : ℕ). closed_outputs o t n (pairs closed) ((Codes a, codes_piece o codes) ∷ (Values b, plain_piece t ds) ∷ [])) j (l ∙ j)
    ∙ ap (λ (z : Cut). cut_outputs o t n z true) e

-- ---- the probe isn't read

module _ (b l : ℕ) (t : Ty) (p q : ℕ) where
  abbrev at : ℕ → DictOptions
  at n = record { max_bytes = b; max_len = l; probe = n }

  stretches_probe : (ds : List CellData) (codes : List ℕ) (rows : List CellData) → stretches (at p) t ds codes rows ≡ stretches (at q) t ds codes rows
  stretches_probe ds codes [] = refl
  stretches_probe ds codes (c ∷ cs) =
      ap₂ (λ (x y : Cut). if cells_fit (at q) t (with_cell ds c) then x else y)
      (stretches_probe (with_cell ds c) (codes ++ place_in c (with_cell ds c) ∷ []) cs)
      (ap (behind codes ds) (stretches_probe (c ∷ []) (0 ∷ []) cs))

  closed_probe : (n : ℕ) (xs : List (List ℕ × List CellData)) (more : List Output) → closed_outputs (at p) t n xs more ≡ closed_outputs (at q) t n xs more
  closed_probe n [] more = refl
  closed_probe n (x ∷ xs) more = ap (λ (z : List Output). (Codes n, codes_piece (at q) x.0) ∷ (Values n, plain_piece t x.1) ∷ z) (closed_probe (suc n) xs more)

  outputs_probe : (n : ℕ) (cut : Cut) (last : Bool) → cut_outputs (at p) t n cut last ≡ cut_outputs (at q) t n cut last
  outputs_probe n cut true = closed_probe n cut.closed ((Codes (next_number n cut.closed), codes_piece (at q) cut.codes) ∷ (Values (next_number n cut.closed), plain_piece t cut.distinct) ∷ [])
  outputs_probe n cut false = closed_probe n cut.closed ((Codes (next_number n cut.closed), codes_piece (at q) cut.codes) ∷ [])

-- ---- a chunk

pub chunk_gives : (dtype : DType) (k : DictLayoutConstraints) (n : ℕ) (ds : List CellData) (w : CutterData) (p : ChunkData) (cs : List CellData) (last : Bool) (out : List Output) → cutter_view dtype k n ds ≡ w → cs ≡ cells p
    → out ≡ cut_outputs (dict_options k 0) (ty dtype) n (stretches (dict_options k 0) (ty dtype) ds [] cs) last → (probe : ℕ) → out ≡ gives_at probe w p last
chunk_gives dtype k n ds w p cs last out e f h probe =
    h
    ∙ ap (λ (z : List CellData). cut_outputs (dict_options k 0) (ty dtype) n (stretches (dict_options k 0) (ty dtype) ds [] z) last) f
    ∙ ap (λ (z : Cut). cut_outputs (dict_options k 0) (ty dtype) n z last) (stretches_probe k.max_bytes k.max_len (ty dtype) 0 probe ds [] (cells p))
    ∙ outputs_probe k.max_bytes k.max_len (ty dtype) 0 probe n (stretches (dict_options k probe) (ty dtype) ds [] (cells p)) last
    ∙ ap (λ (z : CutterData). gives_at probe z p last) e

abbrev after : ℕ → Cut → Cutting
after n z = record { number = next_number n z.closed; distinct = z.distinct }

pub chunk_holds : (dtype : DType) (k : DictLayoutConstraints) (n : ℕ) (ds : List CellData) (w : CutterData) (p : ChunkData) (cs : List CellData) (m : ℕ) (es : List CellData) → cutter_view dtype k n ds ≡ w → cs ≡ cells p
    → m ≡ next_number n (stretches (dict_options k 0) (ty dtype) ds [] cs).closed → es ≡ (stretches (dict_options k 0) (ty dtype) ds [] cs).distinct → (probe : ℕ)
    → cutter_view dtype k m es ≡ with_cutting w (held_at probe w p)
chunk_holds dtype k n ds w p cs m es e f g h probe =
    ap₂ (λ (a : ℕ) (b : List CellData). cutter_view dtype k a b) g h
    ∙ ap (λ (z : List CellData). with_cutting (cutter_view dtype k n ds) (after n (stretches (dict_options k 0) (ty dtype) ds [] z))) f
    ∙ ap (λ (z : Cut). with_cutting (cutter_view dtype k n ds) (after n z)) (stretches_probe k.max_bytes k.max_len (ty dtype) 0 probe ds [] (cells p))
    ∙ ap (λ (z : CutterData). with_cutting z (held_at probe z p)) e
