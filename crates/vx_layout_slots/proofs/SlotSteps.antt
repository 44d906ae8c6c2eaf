-- Walks over slots.
use Rattle.std.proofs.Common.{◌≡◌, ℕ, zero, suc, ◌+◌, ◌-◌, ◌<◌, ◌≤◌, ◌==◌, Bool, true, false, List, [], ◌∷◌, length, get_or, take, map, Option, Some, None, refl, sym, ◌∙◌, subst, arith}
use Rattle.std.specs.Prelude.{if◌then◌else◌, nat_lt, is_some, IsSome, codes}
use Rattle.std.proofs.lemmas.Bool.{ltb-true, eqb-false}
use Rattle.vx_model.specs.Words.{total_by}
use Rattle.vx_model.specs.Ty.{Ty, Named, nullable}
use Rattle.vx_layout_spec.specs.LayoutTree.{Kind, flat_kind, chunked_kind, struct_kind, list_kind, dict_kind, zoned_kind, unread_zoned_kind, stats_kind, foreign_kind, refused_kind, LayoutData, layout, layout_kind, layout_type, lays_in, row_count, children_of}
use Rattle.vx_layout_slots.specs.declared.child_type.LayoutChildType.{LayoutChildType}
use Rattle.vx_layout_slots.specs.declared.child_type.LayoutChildType.TheVariants.{Transparent, Auxiliary, Chunk, Field}
use Rattle.vx_layout_tree.specs.declared.kind.LayoutKind.TheVariants as kinds
use Rattle.vx_layout_tree.specs.Children.{kind_name}
use Rattle.vx_layout_shape.specs.Shape.{fields_of}
use Rattle.vx_layout_slots.specs.Slots.{slots, kind_slots, slot_place, slot_type, below, bracketed, field_type, kind_place, kind_type, child_offset}
use Rattle.vx_layout_slots.specs.SlotTypes.{types_from, kind_row, chunk_row}
use Rattle.vx_layout_slots.specs.SlotWalk.{row_of_slot}
use Rattle.vx_layout_tree.specs.declared.children.LayoutChildren.{LayoutChildren}
use Rattle.vx_layout_tree.specs.KidsView.{chunks, layout_kids}
use Rattle.vx_layout_tree.proofs.KidSteps.{chunk_total}
use Rattle.vx_session.specs.Made.{kid_rows}
use Rattle.vx_model.specs.declared.dtype.StructField.{StructField}
use Rattle.vx_model.specs.TyView.{field_ty}
use Rattle.vx_model.proofs.Views.{field_ty_is}
use Rattle.std.proofs.lemmas.List.{length-map}

-- ---- a slot that has a child has a type

abbrev Typed : Option LayoutChildType → Type 0
Typed o = (t : LayoutChildType) × (o ≡ Some t)

below_typed : (b : Bool) (slot i : ℕ) (t : LayoutChildType) → (if b then Some slot else None) ≡ Some i → Typed (if b then Some t else None)
below_typed true slot i t is = (t, refl)
below_typed false slot i t is = cc is

below_by : (b : Bool) (count place i : ℕ) → nat_lt place count ≡ b → (if b then Some place else None) ≡ Some i → place < count
below_by true count place i test is = ltb-true place count test
below_by false count place i test is = cc is

below_some : (count place i : ℕ) → below count place ≡ Some i → place < count
below_some count place i is = below_by (nat_lt place count) count place i refl is

field_typed : (fs : List Named) (i : ℕ) → i < length fs → Typed (field_type fs i)
field_typed [] i lt = absurd (omega (arith, lt))
field_typed (f ∷ fs) zero lt = (Field f.0, refl)
field_typed (f ∷ fs) (suc i) lt = field_typed fs i (omega (arith, lt))

-- the first of a struct's slots, and the others
struct_by : (b : Bool) (fs : List Named) (slot : ℕ) (t : LayoutChildType) → (slot == 0) ≡ b → slot < length fs + 1 → Typed (if b then Some t else field_type fs (slot - 1))
struct_by true fs slot t test lt = (t, refl)
struct_by false fs slot t test lt = field_typed fs (slot - 1) (omega (arith, lt, eqb-false slot 0 test))

no_validity : (b : Bool) (count slot i : ℕ) → (if b then None else below count (slot - 1)) ≡ Some i → slot < count + 1
no_validity true count slot i is = cc is
no_validity false count slot i is = omega (arith, below_some count (slot - 1) i is)

struct_bound : (n : Bool) (count slot i : ℕ) → (if n then below (count + 1) slot else if slot == 0 then None else below count (slot - 1)) ≡ Some i → slot < count + 1
struct_bound true count slot i is = below_some (count + 1) slot i is
struct_bound false count slot i is = no_validity (slot == 0) count slot i is

list_bound : (n : Bool) (slot i : ℕ) → (if n then below 3 slot else below 2 slot) ≡ Some i → slot < 3
list_bound true slot i is = below_some 3 slot i is
list_bound false slot i is = omega (arith, below_some 2 slot i is)

two_by : (a b : Bool) (slot : ℕ) (t u : LayoutChildType) → (slot == 0) ≡ a → (slot == 1) ≡ b → slot < 2 → Typed (if a then Some t else if b then Some u else None)
two_by true b slot t u is_zero is_one lt = (t, refl)
two_by false true slot t u is_zero is_one lt = (u, refl)
two_by false false slot t u is_zero is_one lt = absurd (omega (arith, lt, eqb-false slot 0 is_zero, eqb-false slot 1 is_one))

three_by : (a b d : Bool) (slot : ℕ) (t u v : LayoutChildType) → (slot == 0) ≡ a → (slot == 1) ≡ b → (slot == 2) ≡ d → slot < 3
    → Typed (if a then Some t else if b then Some u else if d then Some v else None)
three_by true b d slot t u v is_zero is_one is_two lt = (t, refl)
three_by false true d slot t u v is_zero is_one is_two lt = (u, refl)
three_by false false true slot t u v is_zero is_one is_two lt = (v, refl)
three_by false false false slot t u v is_zero is_one is_two lt =
    absurd (omega (arith, lt, eqb-false slot 0 is_zero, eqb-false slot 1 is_one, eqb-false slot 2 is_two))

kind_typed : (k : Kind) (t : Ty) (ls : List (LayoutData ℕ)) (slot i : ℕ) → kind_place k t (length ls) slot ≡ Some i → Typed (kind_type k t ls slot)
kind_typed (flat_kind e tree) t ls slot i is = cc is
kind_typed chunked_kind t ls slot i is = below_typed (nat_lt slot (length ls)) slot i (Chunk (slot, total_by row_count (take slot ls))) is
kind_typed struct_kind t ls slot i is =
    struct_by (slot == 0) (fields_of t) slot (Auxiliary (codes "validity")) refl (struct_bound (nullable t) (length (fields_of t)) slot i is)
kind_typed list_kind t ls slot i is =
    three_by (slot == 0) (slot == 1) (slot == 2) slot (Auxiliary (codes "elements")) (Auxiliary (codes "offsets")) (Auxiliary (codes "validity")) refl refl refl (list_bound (nullable t) slot i is)
kind_typed (dict_kind all) t ls slot i is =
    two_by (slot == 0) (slot == 1) slot (Auxiliary (codes "values")) (Transparent (codes "codes")) refl refl (below_some 2 slot i is)
kind_typed (zoned_kind z ss) t ls slot i is =
    two_by (slot == 0) (slot == 1) slot (Transparent (codes "data")) (Auxiliary (codes "zones")) refl refl (below_some 2 slot i is)
kind_typed (unread_zoned_kind m) t ls slot i is =
    two_by (slot == 0) (slot == 1) slot (Transparent (codes "data")) (Auxiliary (codes "zones")) refl refl (below_some 2 slot i is)
kind_typed (stats_kind z ss) t ls slot i is =
    two_by (slot == 0) (slot == 1) slot (Transparent (codes "data")) (Auxiliary (codes "zones")) refl refl (below_some 2 slot i is)
kind_typed (foreign_kind id m) t ls slot i is = below_typed (nat_lt slot (length ls)) slot i (Auxiliary (bracketed slot)) is
kind_typed (refused_kind f r) t ls slot i is = cc is

typed : (l : LayoutData ℕ) (slot i : ℕ) → slot_place l slot ≡ Some i → Typed (slot_type l slot)
typed (layout k t n names ls) slot i is = kind_typed k t (lays_in ls) slot i is

-- ---- from slot to slot

pub next_here : (l : LayoutData ℕ) (slot count i : ℕ) → slot < count → slot_place l slot ≡ Some i
    → (t : LayoutChildType) × (types_from l slot (count - slot) ≡ t ∷ types_from l (slot + 1) (count - (slot + 1))) × (slot_type l slot ≡ Some t)
next_here l slot count i lt is =
    let e : count - slot ≡ suc (count - (slot + 1)) = omega (arith, lt) in
    let t = typed l slot i is in
    (t.0, rw (e, is, t.1) refl, t.1)

pub next_some : (l : LayoutData ℕ) (slot count : ℕ) (o : Option ℕ) → slot < count → o ≡ slot_place l slot → is_some o ≡ true
    → (t : LayoutChildType) × (types_from l slot (count - slot) ≡ t ∷ types_from l (slot + 1) (count - (slot + 1))) × (slot_type l slot ≡ Some t)
next_some l slot count None lt at there = cc there
next_some l slot count (Some i) lt at there = next_here l slot count i lt (sym at)

pub next_absent : (l : LayoutData ℕ) (slot count : ℕ) → slot < count → slot_place l slot ≡ None → types_from l slot (count - slot) ≡ types_from l (slot + 1) (count - (slot + 1))
next_absent l slot count lt is =
    let e : count - slot ≡ suc (count - (slot + 1)) = omega (arith, lt) in
    rw (e, is) refl

pub none_left : (l : LayoutData ℕ) (slot count : ℕ) → count ≤ slot → types_from l slot (count - slot) ≡ []
none_left l slot count le = let e : count - slot ≡ 0 = omega (arith, le) in rw e refl

first_row_of : (k : Kind) (ls : List (LayoutData ℕ)) → kind_row k ls 0 ≡ 0
first_row_of (flat_kind e tree) ls = refl
first_row_of chunked_kind ls = empty ls
  where
    empty : (ls : List (LayoutData ℕ)) → total_by row_count (take 0 ls) ≡ 0
    empty [] = refl
    empty (l ∷ ls) = refl
first_row_of struct_kind ls = refl
first_row_of list_kind ls = refl
first_row_of (dict_kind all) ls = refl
first_row_of (zoned_kind z ss) ls = refl
first_row_of (unread_zoned_kind m) ls = refl
first_row_of (stats_kind z ss) ls = refl
first_row_of (foreign_kind id m) ls = refl
first_row_of (refused_kind f r) ls = refl

pub first_row : (l : LayoutData ℕ) → 0 ≡ chunk_row l 0
first_row l = sym (first_row_of (layout_kind l) (children_of l))

pub all_slots : (l : LayoutData ℕ) (count : ℕ) → count ≡ slots l → types_from l 0 (count - 0) ≡ types_from l 0 (slots l)
all_slots l count is = let e : count - 0 ≡ slots l = omega (arith, is) in rw e refl

pub ruleset first_rules = (first_row, all_slots)

pub ruleset next_rules = (next_here, next_absent, none_left)

pub ruleset pass_rules = (none_left)

-- ---- rows of chunks

pub rows_before_are : (l : LayoutData ℕ) (c : LayoutChildren) (slot row : ℕ) → layout_kind l ≡ chunked_kind → children_of l ≡ chunks (layout_type l) c → row ≡ chunk_row l slot → row ≡ total_by kid_rows (take slot (layout_kids c))
rows_before_are l c slot row kind below at = at ∙ rw (kind, below) (chunk_total (layout_type l) c slot)

pub rows_behind_are : (l : LayoutData ℕ) (c : LayoutChildren) (slot row : ℕ) → layout_kind l ≡ chunked_kind → children_of l ≡ chunks (layout_type l) c → row ≡ total_by kid_rows (take slot (layout_kids c)) → row ≡ chunk_row l slot
rows_behind_are l c slot row kind below at = at ∙ rw (kind, below) (sym (chunk_total (layout_type l) c slot))

pub ruleset chunk_rules = (rows_before_are, rows_behind_are)

-- ---- a layout by its kind

pub slots_by : (l : LayoutData ℕ) → slots l ≡ kind_slots (layout_kind l) (layout_type l) (length (children_of l))
slots_by (layout k t n names ls) = refl

pub place_by : (l : LayoutData ℕ) (slot : ℕ) → slot_place l slot ≡ kind_place (layout_kind l) (layout_type l) (length (children_of l)) slot
place_by (layout k t n names ls) slot = refl

pub type_by : (l : LayoutData ℕ) (slot : ℕ) → slot_type l slot ≡ kind_type (layout_kind l) (layout_type l) (children_of l) slot
type_by (layout k t n names ls) slot = refl

pub ruleset kind_rules = (slots_by, place_by, type_by)

-- ---- names of fields

found : (fs : List StructField) (i : ℕ) (f : StructField) → i < length fs → f ≡ get_or fs i f → field_type (map field_ty fs) i ≡ Some (Field f.name)
found [] i f lt is = absurd (omega (arith, lt))
found (g ∷ fs) zero f lt is = rw (field_ty_is g, is) refl
found (g ∷ fs) (suc i) f lt is = found fs i f (omega (arith, lt)) is

pub field_found : (fs : List StructField) (ns : List Named) (i : ℕ) (f : StructField) → map field_ty fs ≡ ns → i < length fs → f ≡ get_or fs i f → field_type ns i ≡ Some (Field f.name)
field_found fs ns i f all lt is = rw (← all) (found fs i f lt is)

past : (fs : List Named) (i : ℕ) → length fs ≤ i → field_type fs i ≡ None
past [] i le = refl
past (f ∷ fs) zero le = absurd (omega (arith, le))
past (f ∷ fs) (suc i) le = past fs i (omega (arith, le))

pub field_past : (fs : List StructField) (ns : List Named) (i : ℕ) → map field_ty fs ≡ ns → length fs ≤ i → field_type ns i ≡ None
field_past fs ns i all le = past ns i (rw (← all, length-map fs field_ty) le)

pub ruleset name_rules = (field_found, field_past, length-map)

-- ---- types and rows

chunked_is : (k : Kind) → kind_name k ≡ kinds.Chunked → k ≡ chunked_kind
chunked_is (flat_kind e tree) is = cc is
chunked_is chunked_kind is = refl
chunked_is struct_kind is = cc is
chunked_is list_kind is = cc is
chunked_is (dict_kind all) is = cc is
chunked_is (zoned_kind z ss) is = cc is
chunked_is (unread_zoned_kind m) is = cc is
chunked_is (stats_kind z ss) is = cc is
chunked_is (foreign_kind id m) is = cc is
chunked_is (refused_kind f r) is = cc is

chunk_of : (ls : List (LayoutData ℕ)) (slot row : ℕ) (b : Bool) → row ≡ total_by row_count (take slot ls) → IsSome (if b then Some (Chunk (slot, total_by row_count (take slot ls))) else None)
    → (if b then Some (Chunk (slot, total_by row_count (take slot ls))) else None) ≡ Some (Chunk (slot, row))
chunk_of ls slot row true is there = rw is refl
chunk_of ls slot row false is there = absurd (cc there)

chunk_kind : (k : Kind) (t : Ty) (ls : List (LayoutData ℕ)) (slot row : ℕ) → k ≡ chunked_kind → row ≡ kind_row k ls slot → IsSome (kind_type k t ls slot) → kind_type k t ls slot ≡ Some (Chunk (slot, row))
chunk_kind k t ls slot row is = let P : Kind → Type 0 = λ k. row ≡ kind_row k ls slot → IsSome (kind_type k t ls slot) → kind_type k t ls slot ≡ Some (Chunk (slot, row)) in
    subst P (sym is) (chunk_of ls slot row (nat_lt slot (length ls)))

pub chunk_type_is : (l : LayoutData ℕ) (slot row : ℕ) → kind_name (layout_kind l) ≡ kinds.Chunked → row ≡ chunk_row l slot → IsSome (slot_type l slot) → slot_type l slot ≡ Some (Chunk (slot, row))
chunk_type_is (layout k t n names ls) slot row is at there = chunk_kind k t (lays_in ls) slot row (chunked_is k is) at there

pub ruleset type_rules = (chunk_type_is)

-- ---- where a child begins

chunk_begins : (b : Bool) (c : ℕ × ℕ) (t : LayoutChildType) → (if b then Some (Chunk c) else None) ≡ Some t → child_offset t ≡ Some c.1
chunk_begins true c t is = let h : Chunk c ≡ t = cc is in rw (← h) refl
chunk_begins false c t is = cc is

aux_begins : (b : Bool) (name : List ℕ) (t : LayoutChildType) → (if b then Some (Auxiliary name) else None) ≡ Some t → child_offset t ≡ None
aux_begins true name t is = let h : Auxiliary name ≡ t = cc is in rw (← h) refl
aux_begins false name t is = cc is

field_begins : (fs : List Named) (i : ℕ) (t : LayoutChildType) → field_type fs i ≡ Some t → child_offset t ≡ Some 0
field_begins [] i t is = cc is
field_begins (f ∷ fs) zero t is = let h : Field f.0 ≡ t = cc is in rw (← h) refl
field_begins (f ∷ fs) (suc i) t is = field_begins fs i t is

struct_begins : (b : Bool) (fs : List Named) (i : ℕ) (name : List ℕ) (t : LayoutChildType) → (if b then Some (Auxiliary name) else field_type fs i) ≡ Some t → child_offset t ≡ (if b then None else Some 0)
struct_begins true fs i name t is = let h : Auxiliary name ≡ t = cc is in rw (← h) refl
struct_begins false fs i name t is = field_begins fs i t is

list_begins : (a b d : Bool) (x y z : List ℕ) (t : LayoutChildType) → (if a then Some (Auxiliary x) else if b then Some (Auxiliary y) else if d then Some (Auxiliary z) else None) ≡ Some t → child_offset t ≡ None
list_begins true b d x y z t is = let h : Auxiliary x ≡ t = cc is in rw (← h) refl
list_begins false true d x y z t is = let h : Auxiliary y ≡ t = cc is in rw (← h) refl
list_begins false false true x y z t is = let h : Auxiliary z ≡ t = cc is in rw (← h) refl
list_begins false false false x y z t is = cc is

dict_begins : (a b : Bool) (x y : List ℕ) (t : LayoutChildType) → (if a then Some (Auxiliary x) else if b then Some (Transparent y) else None) ≡ Some t → child_offset t ≡ (if a then None else Some 0)
dict_begins true b x y t is = let h : Auxiliary x ≡ t = cc is in rw (← h) refl
dict_begins false true x y t is = let h : Transparent y ≡ t = cc is in rw (← h) refl
dict_begins false false x y t is = cc is

zoned_begins : (a b : Bool) (x y : List ℕ) (t : LayoutChildType) → (if a then Some (Transparent x) else if b then Some (Auxiliary y) else None) ≡ Some t → child_offset t ≡ (if a then Some 0 else None)
zoned_begins true b x y t is = let h : Transparent x ≡ t = cc is in rw (← h) refl
zoned_begins false true x y t is = let h : Auxiliary y ≡ t = cc is in rw (← h) refl
zoned_begins false false x y t is = cc is

kind_begins : (k : Kind) (u : Ty) (ls : List (LayoutData ℕ)) (slot : ℕ) (t : LayoutChildType) → kind_type k u ls slot ≡ Some t → row_of_slot (kind_name k) slot (kind_row k ls slot) ≡ child_offset t
kind_begins (flat_kind e tree) u ls slot t is = cc is
kind_begins chunked_kind u ls slot t is = sym (chunk_begins (nat_lt slot (length ls)) (slot, total_by row_count (take slot ls)) t is)
kind_begins struct_kind u ls slot t is = sym (struct_begins (slot == 0) (fields_of u) (slot - 1) (codes "validity") t is)
kind_begins list_kind u ls slot t is = sym (list_begins (slot == 0) (slot == 1) (slot == 2) (codes "elements") (codes "offsets") (codes "validity") t is)
kind_begins (dict_kind all) u ls slot t is = sym (dict_begins (slot == 0) (slot == 1) (codes "values") (codes "codes") t is)
kind_begins (zoned_kind z ss) u ls slot t is = sym (zoned_begins (slot == 0) (slot == 1) (codes "data") (codes "zones") t is)
kind_begins (unread_zoned_kind m) u ls slot t is = sym (zoned_begins (slot == 0) (slot == 1) (codes "data") (codes "zones") t is)
kind_begins (stats_kind z ss) u ls slot t is = sym (zoned_begins (slot == 0) (slot == 1) (codes "data") (codes "zones") t is)
kind_begins (foreign_kind id m) u ls slot t is = sym (aux_begins (nat_lt slot (length ls)) (bracketed slot) t is)
kind_begins (refused_kind f r) u ls slot t is = cc is

pub begins : (l : LayoutData ℕ) (slot row : ℕ) (t : LayoutChildType) → slot_type l slot ≡ Some t → row ≡ chunk_row l slot → row_of_slot (kind_name (layout_kind l)) slot row ≡ child_offset t
begins (layout k u n names ls) slot row t is at = rw at (kind_begins k u (lays_in ls) slot t is)

pub ruleset row_rules = (begins)
