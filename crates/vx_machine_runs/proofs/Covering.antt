-- Each number of a plan is at most one that its tasks count.
use Rattle.std.proofs.Common.{◌⊎◌, ◌≡◌, ◌+◌, ◌≤◌, ◌∷◌, ◌++◌, ◌∙◌, ℕ, suc, inl, inr, ⊎_elim, Bool, true, false, List, length, refl, sym, ap, subst, arith, append_assoc, Option, Some, None, ◌||◌, []}
use Rattle.std.proofs.lemmas.Bool.{true≢false}
use Rattle.vx_model.specs.Ty.{Ty, Tys, no_fields, field}
use Rattle.vx_model.specs.ChunkData.{ChunkData, cells}
use Rattle.vx_path.specs.Lists.{In}
use Rattle.vx_path.specs.Path.{Eof, under, inside, next, root_eof}
use Rattle.vx_path.proofs.Lists.{in_left, in_right, in_cases}
use Rattle.vx_rules.specs.Columns.{Split, column, other_columns, struct_splits, struct_columns, list_splits, list_columns}
use Rattle.vx_strategy_spec.specs.StrategyData.{StrategyData, FlatOptions}
use Rattle.vx_strategy_spec.specs.Walk.{walk}
use Rattle.vx_tasks.specs.Runs.{first_batch}
use Rattle.vx_named_tasks.specs.Names.{Names, onward, handed, names_reach}
use Rattle.vx_plan.specs.PlanData.{Setting, Item, Node, rows_in, totals, row_totals}
use Rattle.vx_plan.specs.FlatNode.{flat_node, segment, length_of}
use Rattle.vx_plan.specs.ChunkedNode.{chunked_node, chunk_plans, chunked_numbers}
use Rattle.vx_plan.specs.ColumnNodes.{Column, marked, column_plans, column_numbers, struct_writers, struct_plans, struct_node, elements_in, list_writers, list_numbers, list_plans, list_columns_plan, list_node}
use Rattle.vx_plan.specs.SourcePlan.{plan_nodes, plan, batch_items, source_plan}
use Rattle.vx_plan.proofs.Relate.{Agree, relate, Both}
use Rattle.vx_machine_turns.specs.Forms.{Form, flat_form, chunked_form, struct_form, list_form, forms_of, form_nodes, form_type, Writer}
use Rattle.vx_machine_turns.specs.Acts.{Act, gifts, shut, numbers_in, indices_in}
use Rattle.vx_machine_turns.specs.Locals.{ChunkedNode, StructNode, ListNode, chunked_local, struct_local, list_local}
use Rattle.vx_machine_turns.specs.Turns.{firsts, start_indices}
use Rattle.vx_machine_turns.specs.Scripts.{script}
use Rattle.vx_machine_turns.specs.Starts.{struct_columns_of, list_columns_of, marked_forms}
use Rattle.vx_machine_turns.specs.Source.{named_acts, named_items, seed_at, source_acts, source_seed, stream_plan}
use Rattle.vx_machine_turns.specs.Fuels.{Fuel, spent, fuel, fuel_of, Enough, AllEnough}
use Rattle.vx_machine_turns.specs.Duties.{Duty, duty_of, duty_script, below}
use Rattle.vx_machine_turns.specs.Planned.{AtMost}
use Rattle.vx_machine_turns.proofs.DutyLaws.{row_is, unread_same}
use Rattle.vx_machine_turns.proofs.WholeLaws as named
use Rattle.vx_machine_turns.proofs.ChunkedLaws.{chunk_duties, all_seeds, all_given}
use Rattle.vx_machine_turns.proofs.ColumnLaws.{column_duties, puts_add, ends_last}
use Rattle.vx_machine_turns.proofs.StructLaws.{struct_streams}
use Rattle.vx_machine_turns.proofs.ListLaws.{list_streams}
use Rattle.vx_machine_turns.proofs.Fueled.{fuel_is_enough}
use Rattle.vx_machine_steps.specs.Tree.{read}
use Rattle.vx_machine_steps.specs.StartPlanned.{started_at, started}
use Rattle.vx_machine_steps.proofs.Start.{start_at_reads, start_reads}
use Rattle.vx_machine_promises.specs.Write.{Write, depth}
use Rattle.vx_machine_view.specs.Suited.{Suited, AllSuited}
use Rattle.vx_machine_view.specs.Whole.{form_of, outset_from}
use Rattle.vx_machine_view.proofs.Suiting.{forms_are_suited}
use Rattle.vx_machine_view.proofs.Words.{no_cons}
use Rattle.vx_machine_runs.specs.Courses.{names_last}
use Rattle.vx_machine_runs.proofs.Covers.{counted_by, count_reading, all_counted, Covers, most_over, most_in, AllCovered, parent_covers}
use Rattle.vx_machine_runs.proofs.GroupCovering.{group_covers}
use Rattle.vx_machine_runs.proofs.PressCovering.{compressed_covers}
use Rattle.vx_machine_runs.proofs.DictCovering.{dict_covers}
use Rattle.vx_machine_runs.proofs.ZoneCovering.{zoned_covers}

-- ---- flat

flat_covers : (s : Setting) (o : FlatOptions) (t : Ty) → Covers s (flat_node s o t) (flat_form o t)
flat_covers s o t = record { covers = λ m name items ended e d enough n i. go m name items ended e d n i }
  where
    one : (m : Bool) (name : List ℕ) (x : Item) (xs : List Item) (ended : Bool) (e : Eof) (d : Fuel) (n : ℕ) → In n (length (cells x.1) ∷ length_of (segment s o x))
        → AtMost n (e.last ∷ all_counted s d (duty_of s (flat_form o t) m name (x ∷ xs) ended e))
    one m name x xs ended e d n i =
        let c : Duty = duty_of s (flat_form o t) m name (x ∷ xs) ended e in
        most_in n e.last (all_counted s d c)
        (in_left n (counted_by c.seed (duty_script s c)) (below s count_reading d c)
        (in_left n (numbers_in (duty_script s c) ++ indices_in (duty_script s c)) []
        (in_left n (numbers_in (duty_script s c)) (indices_in (duty_script s c)) (by xs ended i))))
      where
        by : (xs : List Item) (ended : Bool) → In n (length (cells x.1) ∷ length_of (segment s o x)) → In n (numbers_in (duty_script s (duty_of s (flat_form o t) m name (x ∷ xs) ended e)))
        by [] true i = in_left n (length (cells x.1) ∷ length_of (segment s o x)) _ i
        by [] false i = in_left n (length (cells x.1) ∷ length_of (segment s o x)) _ i
        by (y ∷ ys) ended i = in_left n (length (cells x.1) ∷ length_of (segment s o x)) _ i

    go : (m : Bool) (name : List ℕ) (items : List Item) (ended : Bool) (e : Eof) (d : Fuel) (n : ℕ) → In n (flat_node s o t m items ended e).numbers
        → AtMost n (e.last ∷ all_counted s d (duty_of s (flat_form o t) m name items ended e))
    go m name [] ended e d n i = absurd i
    go m name (x ∷ []) ended e d n i = one m name x [] ended e d n i
    go m name (x ∷ y ∷ xs) ended e d n i = one m name x (y ∷ xs) ended e d n i

-- ---- chunked

module _ (s : Setting) (n : ChunkedNode) where
  chunk_rows : (j : ℕ) (e : Eof) (rows : ℕ) (items : List Item) (ended : Bool) → numbers_in (script s (chunked_local n j e rows) items ended) ≡ totals rows_in rows items
  chunk_rows j e rows [] true = refl
  chunk_rows j e rows [] false = refl
  chunk_rows j e rows (i ∷ is) ended = ap (λ z. (rows + rows_in i.1) ∷ z) (chunk_rows (suc j) (next e) (rows + rows_in i.1) is ended)

  -- the pointer comes as far as the last chunk's
  chunk_moves : (j : ℕ) (e : Eof) (rows : ℕ) (items : List Item) (ended : Bool) → AtMost (e.last + length items) (e.last ∷ indices_in (script s (chunked_local n j e rows) items ended))
  chunk_moves j e rows [] ended = (e.last, inl refl, omega arith)
  chunk_moves j e rows (i ∷ is) ended =
      let h = chunk_moves (suc j) (next e) (rows + rows_in i.1) is ended in
      let l : (e.last + 1) + length is ≤ h.0 = h.2 in
      (h.0, inr h.1, omega (arith, l))

  chunks_covered : (k : Node) → Covers s k n.child → (g : Ty → Fuel) → Enough (g (form_type n.child)) n.child → (j : ℕ) (items : List Item) (e : Eof)
      → AllCovered s g (chunk_duties s n j items e) (chunk_plans k n.mark items e)
  chunks_covered k h g enough j [] e = tt
  chunks_covered k h g enough j (i ∷ is) e =
      ((λ x y. h.covers n.mark (under n.name j) (i ∷ []) true (inside e) (g (form_type n.child)) enough x y), chunks_covered k h g enough (suc j) is (next e))

chunked_covers : (s : Setting) (t : Ty) (k : Node) (f : Form) → Covers s k f → Covers s (chunked_node t k) (chunked_form t f)
chunked_covers s t k f h = record { covers = go }
  where
    own : (n : ChunkedNode) (items : List Item) (ended : Bool) (e : Eof) (x : ℕ) → In x (chunked_numbers items e)
        → AtMost x (e.last ∷ ((numbers_in (script s (chunked_local n 0 e 0) items ended) ++ indices_in (script s (chunked_local n 0 e 0) items ended)) ++ []))
    own n items ended e x i =
        ⊎_elim (λ a. most_in x e.last (all ++ []) (in_left x all [] (in_left x rows moves (subst (λ z. In x z) (sym (chunk_rows s n 0 e 0 items ended)) a)))) by
        (in_cases x (row_totals items) ((e.last + length items) ∷ []) i)
      where
        rows : List ℕ
        rows = numbers_in (script s (chunked_local n 0 e 0) items ended)

        moves : List ℕ
        moves = indices_in (script s (chunked_local n 0 e 0) items ended)

        all : List ℕ
        all = rows ++ moves

        by : In x ((e.last + length items) ∷ []) → AtMost x (e.last ∷ (all ++ []))
        by (inl q) = subst (λ z. AtMost z (e.last ∷ (all ++ []))) (sym q)
            (most_over (e.last + length items) e.last e.last moves (all ++ []) (omega arith) (λ y z. in_left y all [] (in_right y rows moves z)) (chunk_moves s n 0 e 0 items ended))
        by (inr q) = absurd q

    go : (m : Bool) (name : List ℕ) (items : List Item) (ended : Bool) (e : Eof) (d : Fuel) → Enough d (chunked_form t f) → (n : ℕ) → In n (chunked_node t k m items ended e).numbers
        → AtMost n (e.last ∷ all_counted s d (duty_of s (chunked_form t f) m name items ended e))
    go m name items ended e spent enough n i = absurd enough
    go m name items ended e (fuel g) enough n i =
        let node : ChunkedNode = record { name = name; mark = m; type = t; child = f } in
        parent_covers s g (duty_of s (chunked_form t f) m name items ended e) (chunk_duties s node 0 items e) (chunked_node t k m items ended e) (chunk_plans k m items e) (chunked_numbers items e) e.last
        (all_seeds s node 0 e 0 items ended) (all_given s node 0 e 0 items ended) refl (own node items ended e) (chunks_covered s node k h g enough 0 items e) n i

-- ---- structs

struct_rows : (s : Setting) (n : StructNode) (rows : ℕ) (items : List Item) (ended : Bool) → numbers_in (script s (struct_local n rows) items ended) ≡ totals rows_in rows items
struct_rows s n rows [] true = (ends_last n.writers).numbers
struct_rows s n rows [] false = refl
struct_rows s n rows (i ∷ is) ended = ap (λ z. (rows + rows_in i.1) ∷ z)
    ((puts_add [] 0 i.0 (struct_columns n.fields n.nullable i.1) n.writers (script s (struct_local n (rows + rows_in i.1)) is ended)).numbers ∙ struct_rows s n (rows + rows_in i.1) is ended)

abbrev ColumnsCovered : Setting → (Ty → Fuel) → List Column → List Writer → Type 0
ColumnsCovered s g [] [] = Unit {0}
ColumnsCovered s g [] (w ∷ ws) = ⊥
ColumnsCovered s g (k ∷ ks) [] = ⊥
ColumnsCovered s g (k ∷ ks) (w ∷ ws) =
    ((name : List ℕ) (items : List Item) (ended : Bool) (e : Eof) (n : ℕ) → In n (k items ended e).numbers → AtMost n (e.last ∷ all_counted s (g (form_type w.1)) (duty_of s w.1 w.0 name items ended e)))
    × ColumnsCovered s g ks ws

same_length : (s : Setting) (g : Ty → Fuel) (ks : List Column) (ws : List Writer) → ColumnsCovered s g ks ws → length ws ≡ length ks
same_length s g [] [] h = refl
same_length s g [] (w ∷ ws) h = absurd h
same_length s g (k ∷ ks) [] h = absurd h
same_length s g (k ∷ ks) (w ∷ ws) (h, hs) = ap suc (same_length s g ks ws hs)

fields_covered : (s : Setting) (g : Ty → Fuel) (fs : Tys) (ks : List Node) (ls : List Form) → Both (λ t k f. Suited f → Covers s k f) fs ks ls → AllEnough g (forms_of ls) → AllSuited fs (forms_of ls) → (m : Bool)
    → ColumnsCovered s g (marked m ks) (marked_forms m (forms_of ls))
fields_covered s g no_fields [] [] h enough b m = tt
fields_covered s g no_fields [] (l ∷ ls) h enough b m = absurd h
fields_covered s g no_fields (k ∷ ks) ls h enough b m = absurd h
fields_covered s g (field a t fs) [] ls h enough b m = absurd h
fields_covered s g (field a t fs) (k ∷ ks) [] h enough b m = absurd h
fields_covered s g (field a t fs) (k ∷ ks) (l ∷ ls) h enough b m =
    ((λ name items ended e n i. (h.0 b.1).covers m name items ended e (g (form_type l)) enough.0 n i), fields_covered s g fs ks ls h.1 enough.1 b.2 m)

writers_covered : (s : Setting) (g : Ty → Fuel) (fs : Tys) (n m : Bool) (v : Node) (f : Form) (ks : List Node) (ls : List Form) → Covers s v f → Enough (g (form_type f)) f
    → Both (λ t k f. Suited f → Covers s k f) fs ks ls → AllEnough g (forms_of ls) → AllSuited fs (forms_of ls) → ColumnsCovered s g (struct_writers n m v ks) (struct_columns_of n m f (forms_of ls))
writers_covered s g fs true m v f ks ls a b c d q = ((λ name items ended e x i. a.covers m name items ended e (g (form_type f)) b x i), fields_covered s g fs ks ls c d q (m || true))
writers_covered s g fs false m v f ks ls a b c d q = fields_covered s g fs ks ls c d q (m || false)

columns_covered : (s : Setting) (g : Ty → Fuel) (ks : List Column) (ws : List Writer) → ColumnsCovered s g ks ws → (name : List ℕ) (c : ℕ) (xs : List Split) (ended : Bool) (e : Eof)
    → AllCovered s g (column_duties s ws name c xs ended e) (column_plans ks c xs ended e)
columns_covered s g [] [] h name c xs ended e = tt
columns_covered s g [] (w ∷ ws) h name c xs ended e = absurd h
columns_covered s g (k ∷ ks) [] h name c xs ended e = absurd h
columns_covered s g (k ∷ ks) (w ∷ ws) (h, hs) name c xs ended e =
    ((λ n i. h (under name c) (column c xs) ended (inside e) n i), columns_covered s g ks ws hs name (suc c) (other_columns xs) ended (next e))

struct_covers : (s : Setting) (fs : Tys) (n : Bool) (dup : Option (List ℕ)) (v : Node) (f : Form) (ks : List Node) (ls : List Form) → Covers s v f → Both (λ t k f. Suited f → Covers s k f) fs ks ls
    → AllSuited fs (forms_of ls) → Covers s (struct_node fs n dup v ks) (struct_form fs n dup f (forms_of ls))
struct_covers s fs n (Some a) v f ks ls hv hs b = record { covers = λ m name items ended e d enough x i. absurd i }
struct_covers s fs n None v f ks ls hv hs b = record { covers = go }
  where
    go : (m : Bool) (name : List ℕ) (items : List Item) (ended : Bool) (e : Eof) (d : Fuel) → Enough d (struct_form fs n None f (forms_of ls)) → (x : ℕ) → In x (struct_node fs n None v ks m items ended e).numbers
        → AtMost x (e.last ∷ all_counted s d (duty_of s (struct_form fs n None f (forms_of ls)) m name items ended e))
    go m name items ended e spent enough x i = absurd enough
    go m name items ended e (fuel g) enough x i =
        parent_covers s g (duty_of s (struct_form fs n None f (forms_of ls)) m name items ended e) (column_duties s ws name 0 (struct_splits fs n items) ended e) (struct_node fs n None v ks m items ended e)
        (struct_plans fs n v ks m items ended e) (column_numbers items (struct_writers n m v ks) e) e.last (struct_streams s fs n m f (forms_of ls) name items ended e).0
        (struct_streams s fs n m f (forms_of ls) name items ended e).1 refl own (columns_covered s g (struct_writers n m v ks) ws all name 0 (struct_splits fs n items) ended e) x i
      where
        ws : List Writer
        ws = struct_columns_of n m f (forms_of ls)

        all : ColumnsCovered s g (struct_writers n m v ks) ws
        all = writers_covered s g fs n m v f ks ls hv enough.0 hs enough.1 b

        same : length ws ≡ length (struct_writers n m v ks)
        same = same_length s g (struct_writers n m v ks) ws all

        node : StructNode
        node = record { name = name; fields = fs; nullable = n; writers = ws; eof = e }

        rows : List ℕ
        rows = numbers_in (script s (struct_local node 0) items ended)

        moves : List ℕ
        moves = indices_in (script s (struct_local node 0) items ended)

        by : (y : ℕ) → In y (length (struct_writers n m v ks) ∷ (e.last + length (struct_writers n m v ks)) ∷ []) → AtMost y (e.last ∷ ((rows ++ moves) ++ ((e.last + length ws) ∷ [])))
        by y (inl q) = (e.last + length ws, inr (in_right (e.last + length ws) (rows ++ moves) ((e.last + length ws) ∷ []) (inl refl)), omega (arith, q, same))
        by y (inr (inl q)) = (e.last + length ws, inr (in_right (e.last + length ws) (rows ++ moves) ((e.last + length ws) ∷ []) (inl refl)), omega (arith, q, same))
        by y (inr (inr q)) = absurd q

        own : (y : ℕ) → In y (column_numbers items (struct_writers n m v ks) e) → AtMost y (e.last ∷ ((rows ++ moves) ++ ((e.last + length ws) ∷ [])))
        own y j = ⊎_elim (λ a. most_in y e.last ((rows ++ moves) ++ ((e.last + length ws) ∷ []))
            (in_left y (rows ++ moves) ((e.last + length ws) ∷ []) (in_left y rows moves (subst (λ z. In y z) (sym (struct_rows s node 0 items ended)) a)))) (by y)
            (in_cases y (row_totals items) (length (struct_writers n m v ks) ∷ (e.last + length (struct_writers n m v ks)) ∷ []) j)

-- ---- lists

-- what is counted at each chunk: rows, offsets, elements
abbrev told_counts : ℕ → ℕ → List Item → List ℕ
told_counts from rows [] = []
told_counts from rows (i ∷ is) = (rows + rows_in i.1) ∷ suc (rows + rows_in i.1) ∷ (from + elements_in i.1) ∷ told_counts (from + elements_in i.1) (rows + rows_in i.1) is

list_counts : (s : Setting) (n : ListNode) (first : Bool) (from rows : ℕ) (items : List Item) (ended : Bool) → numbers_in (script s (list_local n first from rows) items ended) ≡ told_counts from rows items
list_counts s n true from rows [] true = refl
list_counts s n false from rows [] true = (ends_last n.writers).numbers
list_counts s n first from rows [] false = refl
list_counts s n first from rows (i ∷ is) ended = ap (λ z. (rows + rows_in i.1) ∷ suc (rows + rows_in i.1) ∷ (from + elements_in i.1) ∷ z)
    ((puts_add [] 0 i.0 (list_columns n.elements n.nullable first from i.1) n.writers (script s (list_local n false (from + elements_in i.1) (rows + rows_in i.1)) is ended)).numbers
    ∙ list_counts s n false (from + elements_in i.1) (rows + rows_in i.1) is ended)

rows_told : (from rows : ℕ) (items : List Item) (x : ℕ) → In x (totals rows_in rows items) → In x (told_counts from rows items)
rows_told from rows [] x h = absurd h
rows_told from rows (i ∷ is) x (inl e) = inl e
rows_told from rows (i ∷ is) x (inr h) = inr (inr (inr (rows_told (from + elements_in i.1) (rows + rows_in i.1) is x h)))

-- offsets are one more than rows, as they are from 1 on
offsets_told : (from rows more : ℕ) → suc rows ≡ more → (items : List Item) (x : ℕ) → In x (totals rows_in more items) → In x (told_counts from rows items)
offsets_told from rows more q [] x h = absurd h
offsets_told from rows more q (i ∷ is) x (inl e) = inr (inl (omega (arith, e, q)))
offsets_told from rows more q (i ∷ is) x (inr h) = inr (inr (inr (offsets_told (from + elements_in i.1) (rows + rows_in i.1) (more + rows_in i.1) (omega (arith, q)) is x h)))

elements_told : (from rows : ℕ) (items : List Item) (x : ℕ) → In x (totals elements_in from items) → In x (told_counts from rows items)
elements_told from rows [] x h = absurd h
elements_told from rows (i ∷ is) x (inl e) = inr (inr (inl e))
elements_told from rows (i ∷ is) x (inr h) = inr (inr (inr (elements_told (from + elements_in i.1) (rows + rows_in i.1) is x h)))

lists_covered : (s : Setting) (g : Ty → Fuel) (n m : Bool) (es os v : Node) (a b c : Form) → Covers s es a → Covers s os b → Covers s v c
    → Enough (g (form_type a)) a → Enough (g (form_type b)) b → Enough (g (form_type c)) c → ColumnsCovered s g (list_writers n m es os v) (list_columns_of n m a b c)
lists_covered s g true m es os v a b c h i j x y z = (
  (λ name items ended e k l. h.covers m name items ended e (g (form_type a)) x k l),
  ((λ name items ended e k l. i.covers m name items ended e (g (form_type b)) y k l), ((λ name items ended e k l. j.covers m name items ended e (g (form_type c)) z k l), tt)),
)
lists_covered s g false m es os v a b c h i j x y z = (
  (λ name items ended e k l. h.covers m name items ended e (g (form_type a)) x k l),
  ((λ name items ended e k l. i.covers m name items ended e (g (form_type b)) y k l), tt),
)

list_covers : (s : Setting) (t : Ty) (n : Bool) (es os v : Node) (a b c : Form) → Covers s es a → Covers s os b → Covers s v c → Covers s (list_node t n es os v) (list_form t n a b c)
list_covers s t n es os v a b c h i j = record { covers = go }
  where
    begun : (m : Bool) (name : List ℕ) (items : List Item) (ended : Bool) (e : Eof) (d : Fuel) → Enough d (list_form t n a b c) → (items ≡ [] → ended ≡ true → ⊥) → (x : ℕ)
        → In x (list_columns_plan t n es os v m items ended e).numbers → AtMost x (e.last ∷ all_counted s d (duty_of s (list_form t n a b c) m name items ended e))
    begun m name items ended e spent enough some x k = absurd enough
    begun m name items ended e (fuel g) enough some x k =
        parent_covers s g (duty_of s (list_form t n a b c) m name items ended e) (column_duties s ws name 0 (list_splits t n true 0 items) ended e) (list_columns_plan t n es os v m items ended e)
        (list_plans t n es os v m items ended e) (list_numbers items ks e) e.last (list_streams s t n m a b c name items ended e some).0
        (list_streams s t n m a b c name items ended e some).1 refl own (columns_covered s g ks ws all name 0 (list_splits t n true 0 items) ended e) x k
      where
        ks : List Column
        ks = list_writers n m es os v

        ws : List Writer
        ws = list_columns_of n m a b c

        all : ColumnsCovered s g ks ws
        all = lists_covered s g n m es os v a b c h i j enough.0 enough.1 enough.2

        same : length ws ≡ length ks
        same = same_length s g ks ws all

        node : ListNode
        node = record { name = name; elements = t; nullable = n; writers = ws; eof = e }

        told : List ℕ
        told = numbers_in (script s (list_local node true 0 0) items ended)

        moves : List ℕ
        moves = indices_in (script s (list_local node true 0 0) items ended)

        at_last : (y : ℕ) → y ≤ e.last + length ws → AtMost y (e.last ∷ ((told ++ moves) ++ ((e.last + length ws) ∷ [])))
        at_last y l = (e.last + length ws, inr (in_right (e.last + length ws) (told ++ moves) ((e.last + length ws) ∷ []) (inl refl)), l)

        at_told : (y : ℕ) → In y (told_counts 0 0 items) → AtMost y (e.last ∷ ((told ++ moves) ++ ((e.last + length ws) ∷ [])))
        at_told y q = most_in y e.last ((told ++ moves) ++ ((e.last + length ws) ∷ []))
            (in_left y (told ++ moves) ((e.last + length ws) ∷ []) (in_left y told moves (subst (λ z. In y z) (sym (list_counts s node true 0 0 items ended)) q)))

        by : (y : ℕ) → In y (length ks ∷ (e.last + length ks) ∷ []) → AtMost y (e.last ∷ ((told ++ moves) ++ ((e.last + length ws) ∷ [])))
        by y (inl q) = at_last y (omega (arith, q, same))
        by y (inr (inl q)) = at_last y (omega (arith, q, same))
        by y (inr (inr q)) = absurd q

        own : (y : ℕ) → In y (list_numbers items ks e) → AtMost y (e.last ∷ ((told ++ moves) ++ ((e.last + length ws) ∷ [])))
        own y q = ⊎_elim (λ z. at_told y (offsets_told 0 0 1 refl items y z))
            (λ z. ⊎_elim (λ w. at_told y (elements_told 0 0 items y w))
            (λ w. ⊎_elim (λ u. at_told y (rows_told 0 0 items y u)) (by y) (in_cases y (row_totals items) (length ks ∷ (e.last + length ks) ∷ []) w))
            (in_cases y (totals elements_in 0 items) (column_numbers items ks e) z))
            (in_cases y (totals rows_in 1 items) (totals elements_in 0 items ++ column_numbers items ks e) q)

    -- a node that refuses an empty stream counts what one does whose stream goes on
    empty : (m : Bool) (name : List ℕ) (e : Eof) (d : Fuel) → all_counted s d (duty_of s (list_form t n a b c) m name [] true e) ≡ all_counted s d (duty_of s (list_form t n a b c) m name [] false e)
    empty m name e d =
        let c0 : Duty = duty_of s (list_form t n a b c) m name [] true e in
        ap (λ z. start_indices c0.seed.local ++ z) (unread_same s count_reading d 0 (firsts c0.seed ++ []) (duty_script s c0) [] (λ k l. (refl, refl)))

    go : (m : Bool) (name : List ℕ) (items : List Item) (ended : Bool) (e : Eof) (d : Fuel) → Enough d (list_form t n a b c) → (x : ℕ) → In x (list_node t n es os v m items ended e).numbers
        → AtMost x (e.last ∷ all_counted s d (duty_of s (list_form t n a b c) m name items ended e))
    go m name [] true e d enough x k =
        subst (λ z. AtMost x (e.last ∷ z)) (sym (empty m name e d)) (begun m name [] false e d enough (λ q r. true≢false (sym r)) x k)
    go m name [] false e d enough x k = begun m name [] false e d enough (λ q r. true≢false (sym r)) x k
    go m name (y ∷ ys) ended e d enough x k = begun m name (y ∷ ys) ended e d enough (λ q r. no_cons y ys q) x k

-- ---- the whole strategy

all_covers : (s : Setting) → Agree Node Form (plan_nodes s) form_nodes false (λ t k f. Suited f → Covers s k f)
all_covers s = record {
  at_flat = λ o t b. flat_covers s o t;
  at_chunked = λ t k l h b. chunked_covers s t k l (h b.1);
  at_grouped = λ g r t k l h b. group_covers s g t k l (h b.1);
  at_compressed = λ which room r t k l h b. compressed_covers s which room t k l (h b.1);
  at_dict = λ o t is c v f d w g h i j b. dict_covers s o t c v f d w g (h b.1) (i b.3) (j b.5);
  at_zoned = λ o r t k l f g h i b. zoned_covers s o t k l f g (h b.1) (λ u. i u (b.2 u).1);
  at_not_struct = λ t b. record { covers = λ m name items ended e d enough n i. absurd i };
  at_struct = λ fs n dup v w ks ls h r b. struct_covers s fs n dup v w ks ls (h b.1) r b.2;
  at_list = λ t n e o v f p w h i j b. list_covers s t n e o v f p w (h b.1) (i b.3) (j b.5);
}

plan_covered : (s : Setting) (w : StrategyData) (t : Ty) → Covers s (plan s w t) (walk form_nodes w t)
plan_covered s w t = relate Node Form (plan_nodes s) form_nodes false (λ t k f. Suited f → Covers s k f) (all_covers s) w (λ e. absurd (true≢false (sym e))) t (forms_are_suited w t)

-- ---- the source

gives_batches : (i : ℕ) (bs : List ChunkData) (fits : Bool) → gifts 0 (source_acts (record { stem = 0 ∷ []; last = i }) bs fits) ≡ batch_items i bs
gives_batches i [] true = refl
gives_batches i [] false = refl
gives_batches i (b ∷ bs) fits =
    let e : suc i ≡ i + 1 = omega arith in
    ap (λ (z : List Item). (0 ∷ i ∷ [], b) ∷ z) (subst (λ n. gifts 0 (source_acts (record { stem = 0 ∷ []; last = n }) bs fits) ≡ batch_items (suc i) bs) e (gives_batches (suc i) bs fits))

closes_root : (here : Eof) (bs : List ChunkData) (fits : Bool) → shut 0 (source_acts here bs fits) ≡ fits
closes_root here [] true = refl
closes_root here [] false = refl
closes_root here (b ∷ bs) fits = closes_root (next here) bs fits

source_moves : (here : Eof) (bs : List ChunkData) (fits : Bool) → AtMost (here.last + length bs) (here.last ∷ indices_in (source_acts here bs fits))
source_moves here [] fits = (here.last, inl refl, omega arith)
source_moves here (b ∷ bs) fits =
    let h = source_moves (next here) bs fits in
    let l : (here.last + 1) + length bs ≤ h.0 = h.2 in
    (h.0, inr h.1, omega (arith, l))

-- the numbers of a plan of batches, against what is read off the start of their machine
pub start_covered : (g : Write) (bs : List ChunkData) (fits : Bool) → (n : ℕ) → In n (source_plan g.setting g.way g.type g.mark bs fits).numbers
    → AtMost n (1 ∷ read g.setting count_reading (depth g) 0 [] (started g.way g.type g.mark bs fits))
start_covered g bs fits n i = subst (λ z. AtMost n (1 ∷ z)) (sym is) (by i)
  where
    acts : List Act
    acts = source_acts first_batch bs fits

    c : Duty
    c = duty_of g.setting (form_of g) g.mark (1 ∷ []) (batch_items 0 bs) fits root_eof

    mine : List ℕ
    mine = counted_by (source_seed (form_of g) g.mark) acts

    own : List ℕ
    own = counted_by c.seed (duty_script g.setting c)

    kids : List ℕ
    kids = below g.setting count_reading (fuel_of (form_of g)) c

    is : read g.setting count_reading (depth g) 0 [] (started g.way g.type g.mark bs fits) ≡ mine ++ ((own ++ (kids ++ [])) ++ [])
    is = start_reads count_reading g.setting (depth g) (form_of g) g.mark bs fits
        ∙ ap (λ z. mine ++ (z ++ [])) (row_is g.setting count_reading (λ u. fuel_of (form_of g)) 0 acts (c ∷ []) (gives_batches 0 bs fits, closes_root first_batch bs fits, tt))

    from_root : (k : ℕ) → In k (own ++ kids) → In k (mine ++ ((own ++ (kids ++ [])) ++ []))
    from_root k z = in_right k mine ((own ++ (kids ++ [])) ++ [])
        (in_left k (own ++ (kids ++ [])) [] (subst (λ y. In k y) (append_assoc own kids []) (in_left k (own ++ kids) [] z)))

    from_source : (k : ℕ) → In k (indices_in acts) → In k (mine ++ ((own ++ (kids ++ [])) ++ []))
    from_source k z = in_left k mine ((own ++ (kids ++ [])) ++ []) (in_left k (numbers_in acts ++ indices_in acts) [] (in_right k (numbers_in acts) (indices_in acts) z))

    by : In n (source_plan g.setting g.way g.type g.mark bs fits).numbers → AtMost n (1 ∷ (mine ++ ((own ++ (kids ++ [])) ++ [])))
    by (inl e) =
        let h = source_moves first_batch bs fits in
        let l : 0 + length bs ≤ h.0 = h.2 in
        most_over n 0 1 (indices_in acts) (mine ++ ((own ++ (kids ++ [])) ++ [])) (omega arith) from_source (h.0, h.1, omega (arith, l, e))
    by (inr j) = most_over n 1 1 (own ++ kids) (mine ++ ((own ++ (kids ++ [])) ++ [])) (omega arith) from_root
        ((plan_covered g.setting g.way g.type).covers g.mark (1 ∷ []) (batch_items 0 bs) fits root_eof (fuel_of (form_of g)) (fuel_is_enough g.way g.type).1 n j)

-- ---- wherever it begins

-- how far a pointer comes with these batches
reaches : (names : Names) (bs : List ChunkData) (fits : Bool) (n : ℕ) → In n (names_reach names (length bs)) → AtMost n (names_last names ∷ indices_in (named_acts names bs fits))
reaches (onward e) bs fits n (inl q) =
    let h = source_moves e bs fits in
    let l : e.last + length bs ≤ h.0 = h.2 in
    (h.0, h.1, omega (arith, l, q))
reaches (onward e) bs fits n (inr z) = absurd z
reaches (handed ps) bs fits n z = absurd z

-- the same of a machine whose batches get these paths, and that goes on from this pointer: no pointer has come further than this
pub start_covered_at : (g : Write) (names : Names) (eof : Eof) (most : ℕ) (bs : List ChunkData) (fits : Bool) → names_last names ≤ most → eof.last ≤ most → (n : ℕ)
    → In n (stream_plan g.setting g.way g.type g.mark (outset_from names eof) bs fits).numbers
    → AtMost n (most ∷ read g.setting count_reading (depth g) 0 [] (started_at g.way g.type g.mark (outset_from names eof) bs fits))
start_covered_at g names eof most bs fits at_names at_eof n i = subst (λ z. AtMost n (most ∷ z)) (sym is) (by (in_cases n (names_reach names (length bs)) theirs i))
  where
    acts : List Act
    acts = named_acts names bs fits

    c : Duty
    c = duty_of g.setting (form_of g) g.mark (1 ∷ []) (named_items names bs) fits eof

    mine : List ℕ
    mine = counted_by (seed_at (form_of g) g.mark (outset_from names eof)) acts

    own : List ℕ
    own = counted_by c.seed (duty_script g.setting c)

    kids : List ℕ
    kids = below g.setting count_reading (fuel_of (form_of g)) c

    is : read g.setting count_reading (depth g) 0 [] (started_at g.way g.type g.mark (outset_from names eof) bs fits) ≡ mine ++ ((own ++ (kids ++ [])) ++ [])
    is = start_at_reads count_reading g.setting (depth g) (form_of g) g.mark (outset_from names eof) bs fits
        ∙ ap (λ z. mine ++ (z ++ [])) (row_is g.setting count_reading (λ u. fuel_of (form_of g)) 0 acts (c ∷ []) (named.gives_batches names bs fits, named.closes_root names bs fits, tt))

    from_root : (k : ℕ) → In k (own ++ kids) → In k (mine ++ ((own ++ (kids ++ [])) ++ []))
    from_root k z = in_right k mine ((own ++ (kids ++ [])) ++ [])
        (in_left k (own ++ (kids ++ [])) [] (subst (λ y. In k y) (append_assoc own kids []) (in_left k (own ++ kids) [] z)))

    from_source : (k : ℕ) → In k (indices_in acts) → In k (mine ++ ((own ++ (kids ++ [])) ++ []))
    from_source k z = in_left k mine ((own ++ (kids ++ [])) ++ []) (in_left k (numbers_in acts ++ indices_in acts) [] (in_right k (numbers_in acts) (indices_in acts) z))

    theirs : List ℕ
    theirs = (plan g.setting g.way g.type g.mark (named_items names bs) fits eof).numbers

    by : In n (names_reach names (length bs)) ⊎ In n theirs → AtMost n (most ∷ (mine ++ ((own ++ (kids ++ [])) ++ [])))
    by (inl j) = most_over n (names_last names) most (indices_in acts) (mine ++ ((own ++ (kids ++ [])) ++ [])) at_names from_source (reaches names bs fits n j)
    by (inr j) = most_over n eof.last most (own ++ kids) (mine ++ ((own ++ (kids ++ [])) ++ [])) at_eof from_root
        ((plan_covered g.setting g.way g.type).covers g.mark (1 ∷ []) (named_items names bs) fits eof (fuel_of (form_of g)) (fuel_is_enough g.way g.type).1 n j)
