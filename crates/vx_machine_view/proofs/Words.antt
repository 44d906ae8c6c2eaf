-- Small lemmas: on lists that go in step, on what a task's past shows, on layouts and chunks.
use Rattle.std.proofs.Common.{◌≡◌, ◌||◌, ◌&&◌, ◌∷◌, ◌++◌, ◌∙◌, ℕ, zero, suc, Bool, true, false, List, map, length, refl, sym, ap, subst, append_assoc, Option, Some, None, []}
use Rattle.vx_model.specs.Ty.{Ty, Tys, boolean, primitive, utf8, binary, list, struct, extension, no_fields, field, ty_eq}
use Rattle.vx_model.specs.TyLaws.{ty_eq_decides}
use Rattle.vx_model.specs.CellData.{CellData}
use Rattle.vx_model.specs.ChunkData.{ChunkData, ChunkList, plain_piece, constant_piece, dict_piece, chunked_piece, list_piece, struct_piece, extension_piece, no_pieces, part, pieces_in, piece_type, cells}
use Rattle.vx_layout_spec.specs.LayoutTree.{LayoutData, layout, child, lays_of, row_count, renamed, each_renamed, struct_kind, list_kind}
use Rattle.vx_layout_spec.specs.Parts.{others_of, plain_fields, field_pieces}
use Rattle.vx_rules.specs.Columns.{struct_columns, list_columns}
use Rattle.vx_tasks.specs.Run.{nth}
use Rattle.vx_plan.specs.PlanData.{Item}
use Rattle.vx_machine_turns.specs.Locals.{Local}
use Rattle.vx_machine_turns.specs.Acts.{Act, Shape, or_else, shape_in, numbers_in}
use Rattle.vx_machine_state.specs.State.{Next, Mind}
use Rattle.vx_machine_turns.specs.Readings.{shaped}
use Rattle.vx_machine_state.specs.Acts.{columns_layout}
use Rattle.vx_machine_view.specs.Suited.{field_types, column_types, list_types}
use Rattle.vx_machine_view.specs.Shows.{columns_of, shape_rows}
use Rattle.vx_machine_state.specs.Typed.{Typed, PartsTyped, EachTyped}
use Rattle.vx_machine_view.specs.Steps.{AllPairs}

pub none_some : {A : Type 0} (x : A) → None ≡ Some x → ⊥
none_some x e = cc

pub same_some : {A : Type 0} (x y : A) → Some x ≡ Some y → x ≡ y
same_some x y e = cc

pub true_false : true ≡ false → ⊥
true_false e = cc

pub no_cons : {A : Type 0} (x : A) (xs : List A) → x ∷ xs ≡ [] → ⊥
no_cons x xs e = cc

pub left_nil : {A : Type 0} (xs ys : List A) → xs ++ ys ≡ [] → xs ≡ []
left_nil [] ys e = refl
left_nil (x ∷ xs) ys e = cc

pub right_nil : {A : Type 0} (xs ys : List A) → xs ++ ys ≡ [] → ys ≡ []
right_nil [] ys e = e
right_nil (x ∷ xs) ys e = cc

pub no_firsts : (xs : List Item) → map (λ x. x.0) xs ≡ [] → xs ≡ []
no_firsts [] e = refl
no_firsts (x ∷ xs) e = cc

-- a fact on what a task has in mind and left to do, and on what the abstract one has, where these are known
pub carried : (P : Mind → List Next → List Act → Local → Bool → Type 0) {m m' : Mind} {f f' : List Next} {a a' : List Act} {l l' : Local} {o o' : Bool}
    → m ≡ m' → f ≡ f' → a ≡ a' → l ≡ l' → o ≡ o' → P m' f' a' l' o' → P m f a l o
carried P {m} {m'} {f} {f'} {a} {a'} {l} {l'} {o} {o'} em ef ea el eo p =
    subst (λ z. P z f a l o) (sym em) (subst (λ z. P m' z a l o) (sym ef) (subst (λ z. P m' f' z l o) (sym ea) (subst (λ z. P m' f' a' z o) (sym el) (subst (λ z. P m' f' a' l' z) (sym eo) p))))

-- ---- lists that go in step

pub pairs_append : {A B : Type 0} (P : A → B → Type 0) (xs ys : List A) (us vs : List B) → AllPairs P xs us → AllPairs P ys vs → AllPairs P (xs ++ ys) (us ++ vs)
pairs_append P [] ys [] vs h k = k
pairs_append P [] ys (u ∷ us) vs h k = absurd h
pairs_append P (x ∷ xs) ys [] vs h k = absurd h
pairs_append P (x ∷ xs) ys (u ∷ us) vs h k = (h.0, pairs_append P xs ys us vs h.1 k)

pub pairs_map : {A B C D : Type 0} (P : A → B → Type 0) (Q : C → D → Type 0) (f : A → C) (g : B → D) → ((x : A) (y : B) → P x y → Q (f x) (g y))
    → (xs : List A) (ys : List B) → AllPairs P xs ys → AllPairs Q (map f xs) (map g ys)
pairs_map P Q f g k [] [] h = tt
pairs_map P Q f g k [] (y ∷ ys) h = absurd h
pairs_map P Q f g k (x ∷ xs) [] h = absurd h
pairs_map P Q f g k (x ∷ xs) (y ∷ ys) h = (k x y h.0, pairs_map P Q f g k xs ys h.1)

pub pairs_length : {A B : Type 0} (P : A → B → Type 0) (xs : List A) (ys : List B) → AllPairs P xs ys → length xs ≡ length ys
pairs_length P [] [] h = refl
pairs_length P [] (y ∷ ys) h = absurd h
pairs_length P (x ∷ xs) [] h = absurd h
pairs_length P (x ∷ xs) (y ∷ ys) h = ap suc (pairs_length P xs ys h.1)

pub pairs_nth : {A B : Type 0} (P : A → B → Type 0) (xs : List A) (ys : List B) (k : ℕ) (x : A) → AllPairs P xs ys → nth xs k ≡ Some x → (y : B) × (nth ys k ≡ Some y) × P x y
pairs_nth P [] [] k x h e = absurd (none_some x e)
pairs_nth P [] (y ∷ ys) k x h e = absurd h
pairs_nth P (z ∷ xs) [] k x h e = absurd h
pairs_nth P (z ∷ xs) (y ∷ ys) zero x h e = (y, refl, subst (λ v. P v y) (same_some z x e) h.0)
pairs_nth P (z ∷ xs) (y ∷ ys) (suc k) x h e = pairs_nth P xs ys k x h.1 e

-- ---- the shape in a task's past

pub or_none : {A : Type 0} (x y : Option A) → or_else x y ≡ None → (x ≡ None) × (y ≡ None)
or_none None y e = (refl, e)
or_none (Some x) y e = absurd (none_some x (sym e))

or_nil : {A : Type 0} (x : Option A) → or_else x None ≡ x
or_nil None = refl
or_nil (Some x) = refl

or_more : {A : Type 0} (o p q : Option A) (x : A) → or_else o p ≡ Some x → (p ≡ Some x → q ≡ Some x) → or_else o q ≡ Some x
or_more None p q x e f = f e
or_more (Some y) p q x e f = e

pub shape_last : (past : List Act) (a : Act) → shape_in past ≡ None → shape_in (past ++ (a ∷ [])) ≡ a.shape
shape_last [] a e = or_nil a.shape
shape_last (b ∷ past) a e =
    let k : (b.shape ≡ None) × (shape_in past ≡ None) = or_none b.shape (shape_in past) e in
    ap (λ z. or_else z (shape_in (past ++ (a ∷ [])))) k.0 ∙ shape_last past a k.1

pub shape_kept : (past : List Act) (a : Act) (x : Shape) → shape_in past ≡ Some x → shape_in (past ++ (a ∷ [])) ≡ Some x
shape_kept [] a x e = absurd (none_some x e)
shape_kept (b ∷ past) a x e = or_more b.shape (shape_in past) (shape_in (past ++ (a ∷ []))) x e (λ k. shape_kept past a x k)

pub numbers_in-append : (xs ys : List Act) → numbers_in (xs ++ ys) ≡ numbers_in xs ++ numbers_in ys
numbers_in-append [] ys = refl
numbers_in-append (a ∷ xs) ys = ap (λ z. a.numbers ++ z) (numbers_in-append xs ys) ∙ sym (append_assoc a.numbers (numbers_in xs) (numbers_in ys))

-- ---- truths

pub and_left : (a b : Bool) → (a && b) ≡ true → a ≡ true
and_left true b e = refl
and_left false b e = e

pub and_right : (a b : Bool) → (a && b) ≡ true → b ≡ true
and_right true b e = e
and_right false b e = cc

pub or_nothing : (a : Bool) → (a || false) ≡ a
or_nothing true = refl
or_nothing false = refl

pub or_all : (a : Bool) → (a || true) ≡ true
or_all true = refl
or_all false = refl

-- ---- layouts

each_renamed-lays_of : (f : List ℕ → ℕ) (ls : List (LayoutData (List ℕ))) → each_renamed f (lays_of ls) ≡ lays_of (map (renamed f) ls)
each_renamed-lays_of f [] = refl
each_renamed-lays_of f (l ∷ ls) = ap (child (renamed f l)) (each_renamed-lays_of f ls)

-- ---- of a node with columns

pub renamed-columns : (f : List ℕ → ℕ) (t : Ty) (n : ℕ) (ls : List (LayoutData (List ℕ))) → renamed f (columns_layout t n ls) ≡ columns_layout t n (map (renamed f) ls)
renamed-columns f (list t b) n ls = ap (λ z. layout list_kind (list t b) n [] z) (each_renamed-lays_of f ls)
renamed-columns f (struct fs b) n ls = ap (λ z. layout struct_kind (struct fs b) n [] z) (each_renamed-lays_of f ls)
renamed-columns f (boolean b) n ls = ap (λ z. layout struct_kind (boolean b) n [] z) (each_renamed-lays_of f ls)
renamed-columns f (primitive p b) n ls = ap (λ z. layout struct_kind (primitive p b) n [] z) (each_renamed-lays_of f ls)
renamed-columns f (utf8 b) n ls = ap (λ z. layout struct_kind (utf8 b) n [] z) (each_renamed-lays_of f ls)
renamed-columns f (binary b) n ls = ap (λ z. layout struct_kind (binary b) n [] z) (each_renamed-lays_of f ls)
renamed-columns f (extension tag t) n ls = ap (λ z. layout struct_kind (extension tag t) n [] z) (each_renamed-lays_of f ls)

pub shaped_columns : (t : Ty) (n : ℕ) (ls : List (LayoutData (List ℕ))) → shaped (Some (columns_of t n)) ls ≡ columns_layout t n ls ∷ []
shaped_columns (list t b) n ls = refl
shaped_columns (struct fs b) n ls = refl
shaped_columns (boolean b) n ls = refl
shaped_columns (primitive p b) n ls = refl
shaped_columns (utf8 b) n ls = refl
shaped_columns (binary b) n ls = refl
shaped_columns (extension tag t) n ls = refl

pub columns_rows : (t : Ty) (n below : ℕ) → shape_rows (Some (columns_of t n)) below ≡ n
columns_rows (list t b) n below = refl
columns_rows (struct fs b) n below = refl
columns_rows (boolean b) n below = refl
columns_rows (primitive p b) n below = refl
columns_rows (utf8 b) n below = refl
columns_rows (binary b) n below = refl
columns_rows (extension tag t) n below = refl

pub rows_of_columns : (t : Ty) (n : ℕ) (ls : List (LayoutData ℕ)) → row_count (columns_layout t n ls) ≡ n
rows_of_columns (list t b) n ls = refl
rows_of_columns (struct fs b) n ls = refl
rows_of_columns (boolean b) n ls = refl
rows_of_columns (primitive p b) n ls = refl
rows_of_columns (utf8 b) n ls = refl
rows_of_columns (binary b) n ls = refl
rows_of_columns (extension tag t) n ls = refl

-- ---- chunks

pub typed_is : (t : Ty) (p : ChunkData) → Typed t p → piece_type p ≡ t
typed_is t (struct_piece u ps valid n) h = h.0
typed_is t (plain_piece u cs) h = h
typed_is t (constant_piece u c n) h = h
typed_is t (dict_piece codes values) h = h
typed_is t (chunked_piece u ps) h = h
typed_is t (list_piece u e offsets valid) h = h
typed_is t (extension_piece u p) h = h

pub type_fits : (t : Ty) (p : ChunkData) → Typed t p → ty_eq (piece_type p) t ≡ true
type_fits t p h = (ty_eq_decides (piece_type p) t).1 (typed_is t p h)

parts_each : (fs : Tys) (ps : ChunkList) → PartsTyped fs ps → EachTyped (field_types fs) (pieces_in ps)
parts_each no_fields no_pieces h = tt
parts_each no_fields (part p ps) h = absurd h
parts_each (field name t fs) no_pieces h = absurd h
parts_each (field name t fs) (part p ps) h = (h.0, parts_each fs ps h.1)

plain_each : (fs : Tys) (cs : List CellData) → EachTyped (field_types fs) (plain_fields fs cs)
plain_each no_fields cs = tt
plain_each (field name t fs) cs = (refl, plain_each fs (map others_of cs))

fields_each : (fs : Tys) (n : Bool) (p : ChunkData) → Typed (struct fs n) p → EachTyped (field_types fs) (field_pieces fs p)
fields_each fs n (struct_piece u ps valid k) h = parts_each fs ps h.1
fields_each fs n (plain_piece u cs) h = plain_each fs cs
fields_each fs n (constant_piece u c k) h = plain_each fs (cells (constant_piece u c k))
fields_each fs n (dict_piece codes values) h = plain_each fs (cells (dict_piece codes values))
fields_each fs n (chunked_piece u ps) h = plain_each fs (cells (chunked_piece u ps))
fields_each fs n (list_piece u e offsets valid) h = plain_each fs (cells (list_piece u e offsets valid))
fields_each fs n (extension_piece u p) h = plain_each fs (cells (extension_piece u p))

-- the columns of a chunk of structs are of their types
pub columns_each : (fs : Tys) (n : Bool) (p : ChunkData) → Typed (struct fs n) p → EachTyped (column_types fs n) (struct_columns fs n p)
columns_each fs true p h = (refl, fields_each fs true p h)
columns_each fs false p h = fields_each fs false p h

-- those of a chunk of lists too
pub lists_each : (t : Ty) (n first : Bool) (from : ℕ) (p : ChunkData) → EachTyped (list_types t n) (list_columns t n first from p)
lists_each t true first from p = (refl, (refl, (refl, tt)))
lists_each t false first from p = (refl, (refl, tt))

pub each_length : (ts : List Ty) (ps : List ChunkData) → EachTyped ts ps → length ps ≡ length ts
each_length [] [] h = refl
each_length [] (p ∷ ps) h = absurd h
each_length (t ∷ ts) [] h = absurd h
each_length (t ∷ ts) (p ∷ ps) h = ap suc (each_length ts ps h.1)
