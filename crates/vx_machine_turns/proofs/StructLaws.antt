-- A struct's task and its columns are its plan.
use Rattle.std.proofs.Common.{◌≡◌, ℕ, suc, ◌+◌, ◌≤◌, ◌<◌, ◌||◌, inl, inr, ⊎_elim, Bool, true, false, List, [], ◌∷◌, ◌++◌, length, Option, Some, None, refl, sym, ap, ap₂, ◌∙◌, subst, arith}
use Rattle.vx_model.specs.Ty.{Ty, Tys, struct, no_fields, field}
use Rattle.vx_path.specs.Lists.{In}
use Rattle.vx_path.proofs.Lists.{in_left}
use Rattle.vx_path.specs.Path.{Eof, next}
use Rattle.vx_layout_spec.specs.LayoutTree.{struct_layout}
use Rattle.vx_rules.specs.Columns.{Split, struct_splits, struct_columns, other_columns}
use Rattle.vx_plan.specs.PlanData.{Setting, Item, Plan, Node, What, not_struct, duplicate_field, Place, at_start, fault, rows_in, totals, row_total, row_totals}
use Rattle.vx_plan.specs.ChunkedNode.{all_layouts}
use Rattle.vx_plan.specs.Valid.{Has}
use Rattle.vx_plan.specs.ColumnNodes.{marked, struct_writers, column_numbers, struct_plans, struct_node, not_struct_node}
use Rattle.vx_plan.proofs.Relate.{Both}
use Rattle.vx_machine_turns.specs.Forms.{Form, Forms, no_struct_form, struct_form, no_forms, form_then, forms_of, form_type, Writer}
use Rattle.vx_machine_turns.specs.Locals.{StructNode, struct_local, idle_local}
use Rattle.vx_machine_turns.specs.Acts.{Act, gifts, shut, births, wrote, first_refusal, shape_in, numbers_in, indices_in, raised_in, lowered_in, struct_of, or_else}
use Rattle.vx_machine_turns.specs.Starts.{start_fault, start_faults, marked_forms, struct_columns_of, local_of}
use Rattle.vx_machine_turns.specs.Columns.{column_seeds, column_puts}
use Rattle.vx_machine_turns.specs.Turns.{firsts, firsts_of, start_indices}
use Rattle.vx_machine_turns.specs.Scripts.{script}
use Rattle.vx_machine_turns.specs.Fuels.{Fuel, spent, fuel, Enough, AllEnough}
use Rattle.vx_machine_turns.specs.Readings.{shaped, pair_reading, fault_reading, number_reading, index_reading, start_reading, raise_reading, lower_reading}
use Rattle.vx_machine_turns.specs.Duties.{Duty, duty_of, seeds, duty_script, Given}
use Rattle.vx_machine_turns.specs.Planned.{Meets, Fair}
use Rattle.vx_machine_turns.proofs.DutyLaws.{Parent, spread, first_start, first_any, below_none, zero_more, unraised, has_here, some_none, cons_nil, some_same, most_right, most_later, most_here}
use Rattle.vx_machine_turns.proofs.ColumnLaws.{column_duties, puts_add, gifts_filled, gifts_append, all_puts, ends_last, columns_given, column_seeds_are, columns_ended, AllFair, columns_meet, same_length, one_fair}

-- ---- the script

module _ (s : Setting) (n : StructNode) where
  abbrev pub S : ℕ → List Item → Bool → List Act
  S rows items ended = script s (struct_local n rows) items ended

  record Facts (acts : List Act) (rows : ℕ) (items : List Item) (ended : Bool) : Type 0 where
    silent : wrote acts ≡ []
    calm : first_refusal acts ≡ []
    born : births acts ≡ []
    numbers : numbers_in acts ≡ totals rows_in rows items
    indices : (x : ℕ) → In x (indices_in acts) → x ≡ length n.writers
    raises : raised_in acts ≡ 0
    lowers : lowered_in acts ≡ 0
    closes : (k : ℕ) → k < length n.writers → shut k acts ≡ ended
    gives : (k : ℕ) → gifts k acts ≡ gifts k (all_puts n.writers 0 (struct_splits n.fields n.nullable items))
    shape : ended ≡ true → shape_in acts ≡ Some (struct_of (struct n.fields n.nullable) (rows + row_total items))

  facts : (rows : ℕ) (items : List Item) (ended : Bool) → Facts (S rows items ended) rows items ended
  facts rows [] true =
      let h = ends_last n.writers in
      record {
        silent = h.silent;
        calm = h.calm;
        born = h.born;
        numbers = h.numbers;
        indices = λ x i. absurd (subst (λ z. In x z) h.indices i);
        raises = zero_more h.raises;
        lowers = zero_more h.lowers;
        closes = λ k l. h.closes k l;
        gives = λ k. h.gives k;
        shape = λ q. ap (λ z. Some (struct_of (struct n.fields n.nullable) z)) (omega arith);
      }
  facts rows [] false = record { silent = refl; calm = refl; born = refl; numbers = refl; indices = λ x i. absurd i; raises = refl; lowers = refl; closes = λ k l. refl; gives = λ k. refl; shape = λ q. cc }
  facts rows (i ∷ is) ended =
      let rest : List Act = S (rows + rows_in i.1) is ended in
      let puts : List Act = column_puts 0 i.0 (struct_columns n.fields n.nullable i.1) n.writers in
      let q = puts_add [] 0 i.0 (struct_columns n.fields n.nullable i.1) n.writers rest in
      let h = facts (rows + rows_in i.1) is ended in
      record {
        silent = q.silent ∙ h.silent;
        calm = q.calm ∙ h.calm;
        born = q.born ∙ h.born;
        numbers = ap (λ z. (rows + rows_in i.1) ∷ z) (q.numbers ∙ h.numbers);
        indices = λ x k. ⊎_elim (λ e. e) (λ e. h.indices x (subst (λ z. In x z) q.indices e)) k;
        raises = zero_more (q.raises ∙ h.raises);
        lowers = zero_more (q.lowers ∙ h.lowers);
        closes = λ k l. q.closes k ∙ h.closes k l;
        gives = λ k. gifts_filled [] puts rest k ∙ ap (λ z. gifts k puts ++ z) (h.gives k)
            ∙ sym (gifts_append puts (all_puts n.writers 0 (struct_splits n.fields n.nullable is)) k);
        shape = λ e. q.shape ∙ h.shape e ∙ ap (λ z. Some (struct_of (struct n.fields n.nullable) z)) (omega arith);
      }

-- ---- what its columns' starts refuse

fields_start : (s : Setting) (ks : Forms) (m : Bool) (name : List ℕ) (c : ℕ) (xs : List Split) (ended : Bool) (e : Eof) → first_start (column_duties s (marked_forms m ks) name c xs ended e) ≡ start_faults s ks m
fields_start s no_forms m name c xs ended e = refl
fields_start s (form_then f fs) m name c xs ended e = ap (λ z. or_else (start_fault s f m) z) (fields_start s fs m name (suc c) (other_columns xs) ended (next e))

columns_start : (s : Setting) (fs : Tys) (n m : Bool) (v : Form) (ks : Forms) (name : List ℕ) (xs : List Split) (ended : Bool) (e : Eof)
    → first_start (column_duties s (struct_columns_of n m v ks) name 0 xs ended e) ≡ start_fault s (struct_form fs n None v ks) m
columns_start s fs true m v ks name xs ended e = ap (λ z. or_else (start_fault s v m) z) (fields_start s ks (m || true) name 1 (other_columns xs) ended (next e))
columns_start s fs false m v ks name xs ended e = fields_start s ks (m || false) name 0 xs ended e

-- ---- its columns' plans

fields_fair : (s : Setting) (g : Ty → Fuel) (fs : Tys) (ks : List Node) (ls : List Form) → Both (λ t k f. Fair s k f) fs ks ls → AllEnough g (forms_of ls) → (m : Bool) → AllFair s g (marked m ks) (marked_forms m (forms_of ls))
fields_fair s g no_fields [] [] h enough m = tt
fields_fair s g no_fields [] (l ∷ ls) h enough m = absurd h
fields_fair s g no_fields (k ∷ ks) ls h enough m = absurd h
fields_fair s g (field a t fs) [] ls h enough m = absurd h
fields_fair s g (field a t fs) (k ∷ ks) [] h enough m = absurd h
fields_fair s g (field a t fs) (k ∷ ks) (l ∷ ls) h enough m = one_fair s g k l h.0 enough.0 m (marked m ks) (marked_forms m (forms_of ls)) (fields_fair s g fs ks ls h.1 enough.1 m)

columns_fair : (s : Setting) (g : Ty → Fuel) (fs : Tys) (n m : Bool) (v : Node) (f : Form) (ks : List Node) (ls : List Form) → Fair s v f → Enough (g (form_type f)) f → Both (λ t k f. Fair s k f) fs ks ls → AllEnough g (forms_of ls)
    → AllFair s g (struct_writers n m v ks) (struct_columns_of n m f (forms_of ls))
columns_fair s g fs true m v f ks ls a b c d = one_fair s g v f a b m (marked (m || true) ks) (marked_forms (m || true) (forms_of ls)) (fields_fair s g fs ks ls c d (m || true))
columns_fair s g fs false m v f ks ls a b c d = fields_fair s g fs ks ls c d (m || false)

-- ---- a node that does nothing and refuses at its start

pub record Idle (acts : List Act) : Type 0 where
  pub silent : wrote acts ≡ []
  pub calm : first_refusal acts ≡ []
  pub born : births acts ≡ []
  pub numbers : numbers_in acts ≡ []
  pub indices : indices_in acts ≡ []
  pub raises : raised_in acts ≡ 0
  pub lowers : lowered_in acts ≡ 0

pub idle_acts : (s : Setting) (items : List Item) (ended : Bool) → Idle (script s idle_local items ended)
idle_acts s [] true = record { silent = refl; calm = refl; born = refl; numbers = refl; indices = refl; raises = refl; lowers = refl }
idle_acts s [] false = record { silent = refl; calm = refl; born = refl; numbers = refl; indices = refl; raises = refl; lowers = refl }
idle_acts s (i ∷ is) ended =
    let h = idle_acts s is ended in record { silent = h.silent; calm = h.calm; born = h.born; numbers = h.numbers; indices = h.indices; raises = zero_more h.raises; lowers = zero_more h.lowers }

refused_meets : (s : Setting) (d : Fuel) (c : Duty) (p : Plan) (w : What) (x : Place) → c.seed.local ≡ idle_local → c.start ≡ Some w → p.pairs ≡ [] → p.faults ≡ fault w x ∷ [] → p.reserved ≡ 0 → Meets s d c p
refused_meets s d c p w x l a b f r =
    let q : Idle (duty_script s c) = subst (λ z. Idle (script s z c.items c.ended)) (sym l) (idle_acts s c.items c.ended) in
    let none : firsts c.seed ++ births (duty_script s c) ≡ [] = ap (λ z. firsts_of z ++ births (duty_script s c)) l ∙ q.born in
    record {
      pairs = ap₂ (λ y z. y ++ z) q.silent (below_none s pair_reading d c none) ∙ sym b;
      cause = λ y i. absurd (subst (λ z. In y z) (ap₂ (λ u z. u ++ z) q.calm (below_none s fault_reading d c none)) i);
      clean = λ h n. absurd (some_none w (sym a ∙ n));
      begins = λ y h. subst (λ z. Has y z) (sym f) (has_here y (fault w x) [] (some_same y w (sym h ∙ a)));
      layout = λ h n. absurd (cons_nil (fault w x) [] (sym f ∙ n));
      numbers = λ y i. absurd (subst (λ z. In y z) (ap₂ (λ u z. u ++ z) q.numbers (below_none s number_reading d c none)) i);
      indices = λ y i. absurd (subst (λ z. In y z) (ap₂ (λ u z. u ++ z) q.indices (below_none s index_reading d c none)) i);
      starts = λ y i. absurd (subst (λ z. In y z) (ap₂ (λ u z. start_indices u ++ z) l (below_none s start_reading d c none)) i);
      raises = ap₂ (λ u z. u + z) q.raises (below_none s raise_reading d c none) ∙ sym r;
      lowers = λ h. ap₂ (λ u z. u + z) q.lowers (below_none s lower_reading d c none) ∙ sym r;
    }

pub not_struct_fair : (s : Setting) (t : Ty) → Fair s (not_struct_node t) (no_struct_form t)
not_struct_fair s t = record { fair = λ m name items ended e d enough. refused_meets s d (duty_of s (no_struct_form t) m name items ended e) (not_struct_node t m items ended e) not_struct at_start refl refl refl refl refl }

-- ---- the struct

-- the streams of its columns
pub struct_streams : (s : Setting) (fs : Tys) (n m : Bool) (f : Form) (ls : Forms) (name : List ℕ) (items : List Item) (ended : Bool) (e : Eof)
    → (column_seeds name 0 (struct_columns_of n m f ls) e ++ births (script s (local_of (struct_form fs n None f ls) m name e) items ended) ≡ seeds (column_duties s (struct_columns_of n m f ls) name 0 (struct_splits fs n items) ended e))
    × Given (script s (local_of (struct_form fs n None f ls) m name e) items ended) 0 (column_duties s (struct_columns_of n m f ls) name 0 (struct_splits fs n items) ended e)
struct_streams s fs n m f ls name items ended e =
    let ws : List Writer = struct_columns_of n m f ls in
    let node : StructNode = record { name = name; fields = fs; nullable = n; writers = ws; eof = e } in
    let h : Facts s node (S s node 0 items ended) 0 items ended = facts s node 0 items ended in (
      ap (λ z. column_seeds name 0 ws e ++ z) h.born ∙ column_seeds_are s ws name 0 (struct_splits fs n items) ended e,
      columns_given s (S s node 0 items ended) ended name (length ws) h.closes ws 0 (struct_splits fs n items) e (omega arith) (λ k l. h.gives k),
    )

struct_parent : (s : Setting) (fs : Tys) (n m : Bool) (v : Node) (f : Form) (ks : List Node) (ls : Forms) (name : List ℕ) (items : List Item) (ended : Bool) (e : Eof) → length (struct_columns_of n m f ls) ≡ length (struct_writers n m v ks)
    → Parent s (duty_of s (struct_form fs n None f ls) m name items ended e) (column_duties s (struct_columns_of n m f ls) name 0 (struct_splits fs n items) ended e) (struct_node fs n None v ks m items ended e)
    (struct_plans fs n v ks m items ended e) [] (column_numbers items (struct_writers n m v ks) e)
struct_parent s fs n m v f ks ls name items ended e same =
    let ws : List Writer = struct_columns_of n m f ls in
    let node : StructNode = record { name = name; fields = fs; nullable = n; writers = ws; eof = e } in
    let h : Facts s node (S s node 0 items ended) 0 items ended = facts s node 0 items ended in
    let cs : List Duty = column_duties s ws name 0 (struct_splits fs n items) ended e in
    record {
      seeds_are = (struct_streams s fs n m f ls name items ended e).0;
      given_are = (struct_streams s fs n m f ls name items ended e).1;
      silent = h.silent;
      pairs = refl;
      faults = refl;
      numbers = refl;
      reserved = unraised h.raises;
      flagged = λ w i. absurd (subst (λ z. In w z) h.calm i);
      unflagged = λ x q. (refl, columns_start s fs n m f ls name (struct_splits fs n items) ended e ∙ q);
      starts = λ w q. inr (first_any w cs (columns_start s fs n m f ls name (struct_splits fs n items) ended e ∙ q));
      ends = λ q. columns_ended s ws name 0 (struct_splits fs n items) ended e q;
      shapes = λ q. ap (λ z. shaped z (all_layouts (struct_plans fs n v ks m items ended e))) (h.shape q)
          ∙ ap (λ z. struct_layout (struct fs n) z (all_layouts (struct_plans fs n v ks m items ended e)) ∷ []) (omega arith);
      counts = λ x i. in_left x (row_totals items) (length (struct_writers n m v ks) ∷ (e.last + length (struct_writers n m v ks)) ∷ []) (subst (λ z. In x z) h.numbers i);
      moves = λ x i. most_right x (row_totals items) (length (struct_writers n m v ks) ∷ (e.last + length (struct_writers n m v ks)) ∷ [])
          (most_here x (length (struct_writers n m v ks)) ((e.last + length (struct_writers n m v ks)) ∷ []) (let q : x ≡ length ws = h.indices x i in omega (arith, q, same)));
      places = λ x i. most_right x (row_totals items) (length (struct_writers n m v ks) ∷ (e.last + length (struct_writers n m v ks)) ∷ [])
          (most_later x (length (struct_writers n m v ks)) ((e.last + length (struct_writers n m v ks)) ∷ [])
          (most_here x (e.last + length (struct_writers n m v ks)) [] (at_start_index x i)));
      lowers = λ q. h.lowers ∙ sym h.raises;
    }
  where
    at_start_index : (x : ℕ) → In x ((e.last + length (struct_columns_of n m f ls)) ∷ []) → x ≤ e.last + length (struct_writers n m v ks)
    at_start_index x (inl q) = omega (arith, q, same)
    at_start_index x (inr q) = absurd q

pub struct_fair : (s : Setting) (fs : Tys) (n : Bool) (dup : Option (List ℕ)) (v : Node) (f : Form) (ks : List Node) (ls : List Form) → Fair s v f → Both (λ t k f. Fair s k f) fs ks ls
    → Fair s (struct_node fs n dup v ks) (struct_form fs n dup f (forms_of ls))
struct_fair s fs n (Some a) v f ks ls hv hs = record {
  fair = λ m name items ended e d enough. refused_meets s d (duty_of s (struct_form fs n (Some a) f (forms_of ls)) m name items ended e) (struct_node fs n (Some a) v ks m items ended e) (duplicate_field a) at_start refl refl refl refl refl;
}
struct_fair s fs n None v f ks ls hv hs = record { fair = go }
  where
    go : (m : Bool) (name : List ℕ) (items : List Item) (ended : Bool) (e : Eof) (d : Fuel) → Enough d (struct_form fs n None f (forms_of ls))
        → Meets s d (duty_of s (struct_form fs n None f (forms_of ls)) m name items ended e) (struct_node fs n None v ks m items ended e)
    go m name items ended e spent enough = absurd enough
    go m name items ended e (fuel g) enough =
        let ws : List Writer = struct_columns_of n m f (forms_of ls) in
        let fair : AllFair s g (struct_writers n m v ks) ws = columns_fair s g fs n m v f ks ls hv enough.0 hs enough.1 in
        spread s g (duty_of s (struct_form fs n None f (forms_of ls)) m name items ended e) (column_duties s ws name 0 (struct_splits fs n items) ended e) (struct_node fs n None v ks m items ended e)
        (struct_plans fs n v ks m items ended e) [] (column_numbers items (struct_writers n m v ks) e) (struct_parent s fs n m v f ks (forms_of ls) name items ended e (same_length s g (struct_writers n m v ks) ws fair))
        (columns_meet s g (struct_writers n m v ks) ws fair name 0 (struct_splits fs n items) ended e)
