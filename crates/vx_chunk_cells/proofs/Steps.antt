-- Steps of the loops that put rows together.
use Rattle.std.proofs.Common.{◌≡◌, ℕ, zero, suc, ◌+◌, ◌-◌, ◌<◌, ◌≤◌, Bool, true, List, [], ◌∷◌, ◌++◌, length, take, drop, get_or, set, map, refl, ap, sym, ◌∙◌, arith, append_assoc}
use Rattle.std.specs.Prelude.{replicate}
use Rattle.std.proofs.lemmas.List.{map_push, map_more, drop_more, append-nil, drop_all, take_all, take_more_set, drop-set-lt, map-append, take-append-drop, set-get_or, take_at}
use Rattle.std.specs.Global.{Vec}
use Rattle.vx_model.specs.Words.{head_or, tail}
use Rattle.vx_model.specs.CellData.{CellData, null_cell}
use Rattle.vx_model.specs.ChunkData.{struct_rows}
use Rattle.vx_model.specs.declared.cell.Cell.{Cell}
use Rattle.vx_model.specs.declared.cell.Cell as cl
use Rattle.vx_model.specs.TreeView.{tree}
use Rattle.vx_model.proofs.CellViews.{tree_list, tree_struct}
use Rattle.vx_chunk_cells.specs.Columns.{rows_across, pushed_each, trees_in, structs}

pub replicate_push : {X : Type 0} (n : ℕ) (x : X) → replicate n x ++ x ∷ [] ≡ replicate (n + 1) x
replicate_push zero x = refl
replicate_push (suc n) x = let e : suc n + 1 ≡ suc (n + 1) = omega arith in rw e (ap (λ r. x ∷ r) (replicate_push n x))

pub map-replicate : {X Y : Type 0} (f : X → Y) (n : ℕ) (x : X) → map f (replicate n x) ≡ replicate n (f x)
map-replicate f zero x = refl
map-replicate f (suc n) x = ap (λ r. f x ∷ r) (map-replicate f n x)

pub flag_in : (bs : List Bool) (i : ℕ) (b : Bool) → i < length bs → b ≡ get_or bs i b → head_or true (drop i bs) ≡ b
flag_in bs i b lt is = rw (drop_more bs i b lt) (sym is)

pub flag_past : (bs : List Bool) (i : ℕ) → length bs ≤ i → head_or true (drop i bs) ≡ true
flag_past bs i le = rw (drop_all i bs le) refl

pub ruleset push_rules = (append_assoc, append-nil, map_push, map_more, replicate_push)

pub ruleset flag_rules = (flag_in, flag_past)

pub ruleset list_rules = (append_assoc, append-nil, map_push, tree_list)

-- rows of no columns
pub rows_more : (n : ℕ) → rows_across n [] ++ [] ∷ [] ≡ rows_across (n + 1) []
rows_more zero = refl
rows_more (suc n) = let e : suc n + 1 ≡ suc (n + 1) = omega arith in rw e (ap (λ (r : List (List CellData)). [] ∷ r) (rows_more n))

pub pushed_each-nil : (rs : List (List CellData)) → pushed_each rs [] ≡ rs
pushed_each-nil [] = refl
pushed_each-nil (r ∷ rs) = refl

-- one more cell behind the list at place i
pub push_more : (rows : List (Vec Cell)) (i : ℕ) (row grown : Vec Cell) (c : Cell) (cs : List Cell) → i < length rows → row ≡ get_or rows i row → grown.items ≡ row.items ++ c ∷ []
    → map trees_in (take (i + 1) (set rows i grown)) ++ pushed_each (map trees_in (drop (i + 1) (set rows i grown))) (map tree cs)
    ≡ map trees_in (take i rows) ++ pushed_each (map trees_in (drop i rows)) (map tree (c ∷ cs))
push_more rows i row grown c cs lt is e =
    let further : i < i + 1 = omega arith in
    rw (take_more_set rows i grown lt, drop-set-lt (i + 1) rows i grown further, drop_more rows i row lt, ← is, map-append trees_in (take i rows) (grown ∷ []), append_assoc, e, map-append tree row.items (c ∷ [])) refl

pub push_all : (rows : List (Vec Cell)) (i : ℕ) (cs : List Cell) → length rows ≤ i → map trees_in (take i rows) ++ pushed_each (map trees_in (drop i rows)) (map tree cs) ≡ map trees_in rows
push_all rows i cs le = rw (take_all i rows le, drop_all i rows le) (append-nil (map trees_in rows))

pub push_stop : (rows : List (Vec Cell)) (i : ℕ) → map trees_in (take i rows) ++ pushed_each (map trees_in (drop i rows)) [] ≡ map trees_in rows
push_stop rows i = rw (pushed_each-nil (map trees_in (drop i rows)), ← map-append trees_in (take i rows) (drop i rows), take-append-drop i rows) refl

-- no cell is left
pub push_stopped : (rows before : List (Vec Cell)) (i n : ℕ) (x : Vec Cell) (cs : List Cell) (target : List (List CellData)) → length rows ≡ n → length cs ≡ 0
    → map trees_in (take i rows) ++ pushed_each (map trees_in (drop i rows)) (map tree cs) ≡ target
    → map trees_in (take n (set rows i (get_or rows i x) ++ drop (length (set rows i (get_or rows i x))) before)) ≡ target
push_stopped rows before i n x [] target e z h = rw (set-get_or rows i x, take_at rows (drop (length rows) before) n e) (sym (push_stop rows i) ∙ h)
push_stopped rows before i n x (c ∷ cs) target e z h = absurd (omega arith)

pub tail-drop : {X : Type 0} (k : ℕ) (xs : List X) → tail (drop k xs) ≡ drop (k + 1) xs
tail-drop zero [] = refl
tail-drop zero (x ∷ xs) = refl
tail-drop (suc k) [] = let e : suc k + 1 ≡ suc (k + 1) = omega arith in rw e refl
tail-drop (suc k) (x ∷ xs) = let e : suc k + 1 ≡ suc (k + 1) = omega arith in rw e (tail-drop k xs)

pub structs_more : (out : List Cell) (flag : Bool) (row : Vec Cell) (rows rest : List (Vec Cell)) (i : ℕ) (valid : List Bool) (target : List CellData) → rows ≡ row ∷ rest → flag ≡ head_or true (drop i valid)
    → map tree out ++ structs (map trees_in rows) (drop i valid) ≡ target → map tree (out ++ cl.Struct flag row ∷ []) ++ structs (map trees_in rest) (drop (i + 1) valid) ≡ target
structs_more out flag row rows rest i valid target e f h = rw (map-append tree out (cl.Struct flag row ∷ []), tree_struct flag row, f, append_assoc, ← tail-drop i valid) (rw e at h)

-- a column behind the columns
pub column_more : (n : ℕ) (columns : List (List CellData)) (c : List CellData) → length c ≡ n → pushed_each (rows_across n columns) c ≡ rows_across n (columns ++ c ∷ [])
column_more zero columns c e = refl
column_more (suc n) columns [] e = absurd (omega arith)
column_more (suc n) columns (x ∷ c) e = rw (map-append (head_or null_cell) columns ((x ∷ c) ∷ []), map-append tail columns ((x ∷ c) ∷ []), column_more n (map tail columns) c (omega arith)) refl

pub structs-rows_across : (n : ℕ) (columns : List (List CellData)) (valid : List Bool) → structs (rows_across n columns) valid ≡ struct_rows n columns valid
structs-rows_across zero columns valid = refl
structs-rows_across (suc n) columns valid = rw (structs-rows_across n (map tail columns) (tail valid)) refl

pub ruleset struct_rules = (append_assoc, append-nil, map_push, tree_struct, rows_more)
