-- What starts make is what the form starts, column by column.
use Rattle.std.proofs.Common.{◌≡◌, ℕ, suc, ◌+◌, ◌^◌, ◌<◌, ◌≤◌, ◌||◌, Bool, true, false, List, [], ◌∷◌, ◌++◌, length, map, Option, Some, None, refl, sym, ap, ap₂, subst, ◌∙◌, inl, inr, ⊎_elim, get_or, drop, append-nil, arith}
use Rattle.std.specs.Arc.{arc_value}
use Rattle.std.proofs.lemmas.List.{drop_more, drop_all, length-append}
use Rattle.vx_model.specs.declared.dtype.StructField.{StructField}
use Rattle.vx_model.specs.TyView.{ty, field_ty}
use Rattle.vx_model.proofs.Views.{field_ty_is}
use Rattle.vx_model.specs.Ty.{Ty, Tys, boolean, primitive, utf8, binary, list, struct, extension, no_fields, field, fields_in, nullable, is_struct, is_list}
use Rattle.vx_path.specs.Lists.{In}
use Rattle.vx_path.specs.Path.{Eof, under, inside, next}
use Rattle.vx_path.proofs.Lists.{in_left, in_right, in_cases}
use Rattle.vx_chunk_cells.specs.Parts.{element_type, struct_fields}
use Rattle.vx_rules.specs.Columns.{offset_type}
use Rattle.vx_split.specs.ListState.{state_at}
use Rattle.vx_table_dispatch.specs.Settled.{passes_on}
use Rattle.vx_layout_shape.specs.Shape.{fields_of}
use Rattle.vx_strategy_spec.specs.StrategyData.{StrategyData, Grouping, grouped}
use Rattle.vx_strategy_spec.specs.Walk.{chosen, duplicate, field_nodes, walk, walk_named}
use Rattle.vx_strategy_spec.specs.Dispatch.{override, given_or}
use Rattle.vx_strategy_spec.proofs.Lookups.{made, find_own}
use Rattle.vx_strategy.specs.FieldWays.{field_ways}
use Rattle.vx_strategy.specs.NodeViews.{struct_way, list_way}
use Rattle.vx_strategy.specs.declared.list.ListLayoutStrategy.{ListLayoutStrategy}
use Rattle.vx_strategy.specs.declared.structs.StructStrategy.{StructStrategy}
use Rattle.vx_plan.specs.PlanData.{Setting, What, not_struct, duplicate_field, forbidden_aggregate}
use Rattle.vx_machine_turns.specs.Acts.{or_else}
use Rattle.vx_machine_turns.specs.Forms.{Form, Forms, grouped_form, struct_form, list_form, no_forms, form_then, forms_of, form_nodes}
use Rattle.vx_machine_turns.specs.Starts.{start_fault, start_faults}
use Rattle.vx_machine_state.specs.State.{Tasks, no_tasks, task_then, by_list}
use Rattle.vx_machine_state.specs.Start.{waiting, first_mind, first_kids, field_tasks, form_count, first_indices, field_indices}
use Rattle.vx_machine_state.specs.Acts.{add}
use Rattle.vx_write_answer.specs.declared.error.WriteError.{WriteError}
use Rattle.vx_write_answer.specs.declared.error.WriteError.TheVariants as errors
use Rattle.vx_machine_node.specs.declared.kinds.ListsNode.{ListsNode}
use Rattle.vx_machine_node.specs.declared.node.Local.{Local}
use Rattle.vx_machine_node.specs.declared.node.Local.TheVariants.{Lists}
use Rattle.vx_machine_task.specs.declared.task.Task.{Task}
use Rattle.vx_machine_node.specs.View.{form_at, mind_of}
use Rattle.vx_machine_task.specs.View.{task_row, row}
use Rattle.vx_machine_node.specs.Context.{Allowed}
use Rattle.vx_machine_node.specs.Outcome.{AllFit}
use Rattle.vx_machine_fresh.specs.Fresh.{NodeRefused}
use Rattle.vx_machine_start.specs.Starting.{IsAllowed, Counted, writer_of, field_form, field_forms, validity_form, validity_forms, columns_form, list_forms, lists_form, Started, ManyStarted, OneStarted, AllStarted, TooFar, StartRefused, FormRefused, many_indices, ManyRefused, OneRefused, PointerRefused, OnlyStarted}
use Rattle.vx_machine_node.proofs.Fitting.{none_fit, then_fit, one_fits, both_fit, first_fits, rest_fit, left_fit}
use Rattle.vx_machine_task.proofs.ViewParts.{add_none, add_add, row_push}

no_true : false ≡ true → ⊥
no_true e = cc

none_some : {A : Type 0} (x : A) → None ≡ Some x → ⊥
none_some x e = cc

-- ---- forms

-- a field's node is that of its writer
fields_are : (s : StructStrategy) (fs : Tys) → forms_of (field_nodes (walk form_nodes s.default.item) (walk_named form_nodes (field_ways s.writers.items)) fs) ≡ field_forms s (fields_in fs)
fields_are s no_fields = refl
fields_are s (field name t fs) = ap₂ form_then (ap (λ o. chosen o t (walk form_nodes s.default.item t)) (find_own form_nodes name (field_ways s.writers.items)) ∙ go (override name (field_ways s.writers.items))) (fields_are s fs)
  where
    go : (o : Option StrategyData) → chosen (made form_nodes o) t (walk form_nodes s.default.item t) ≡ walk form_nodes (given_or o s.default.item) t
    go None = refl
    go (Some w) = refl

pub plain_form : (s : StructStrategy) (t : Ty) → is_struct t ≡ true → duplicate (struct_fields t) ≡ None → form_at (struct_way s) t ≡ columns_form s t
plain_form s (struct fs n) h d = λ j. struct_form fs n (d j) (validity_form s) (fields_are s fs j)
plain_form s (boolean n) h d = absurd (no_true h)
plain_form s (primitive p n) h d = absurd (no_true h)
plain_form s (utf8 n) h d = absurd (no_true h)
plain_form s (binary n) h d = absurd (no_true h)
plain_form s (list t n) h d = absurd (no_true h)
plain_form s (extension tag t) h d = absurd (no_true h)

pub typed : (t : Ty) → is_struct t ≡ true → t ≡ struct (struct_fields t) (nullable t)
typed (struct fs n) h = refl
typed (boolean n) h = absurd (no_true h)
typed (primitive p n) h = absurd (no_true h)
typed (utf8 n) h = absurd (no_true h)
typed (binary n) h = absurd (no_true h)
typed (list t n) h = absurd (no_true h)
typed (extension tag t) h = absurd (no_true h)

-- a field's form, by what its writer and its type are
pub field_form_is : (s : StructStrategy) (f : StructField) (w : StrategyData) (t : Ty) → w ≡ writer_of s f.name → t ≡ ty f.dtype → form_at w t ≡ field_form s (field_ty f)
field_form_is s f w t a b = (λ j. form_at (a j) (b j)) ∙ sym (ap (field_form s) (field_ty_is f))

-- fields from place i on, at one more step
pub fields_more : (s : StructStrategy) (xs : List StructField) (i : ℕ) (x : StructField) → i < length xs → x ≡ get_or xs i x
    → field_forms s (map field_ty (drop i xs)) ≡ form_then (field_form s (field_ty x)) (field_forms s (map field_ty (drop (i + 1) xs)))
fields_more s xs i x lt is = ap (λ z. field_forms s (map field_ty z)) (drop_more xs i x lt ∙ ap (λ z. z ∷ drop (i + 1) xs) (sym is))

pub fields_end : (s : StructStrategy) (xs : List StructField) (i : ℕ) → length xs ≤ i → field_forms s (map field_ty (drop i xs)) ≡ no_forms
fields_end s xs i h = ap (λ z. field_forms s (map field_ty z)) (drop_all i xs h)

-- ---- refusals

-- the same, said of others, perhaps where others may be recorded
pub refused_as : (a b : Allowed) (f g : Setting → Option What) (is js : List ℕ) (x : WriteError) → ((s : Setting) (w : What) → s.allowed ≡ b → ((r : Setting) → r.allowed ≡ a → f r ≡ Some w) → g s ≡ Some w) → (TooFar is → TooFar js)
    → StartRefused a f is x → StartRefused b g js x
refused_as a b f g is js errors.NotStruct same far h = λ s q. same s not_struct q h
refused_as a b f g is js (errors.DuplicateField name) same far h = λ s q. same s (duplicate_field name) q h
refused_as a b f g is js (errors.ForbiddenAggregate id) same far h = λ s q. same s (forbidden_aggregate id) q h
refused_as a b f g is js (errors.TooLarge n) same far h = (h.0, far h.1)
refused_as a b f g is js errors.OutOfMemory same far h = tt
refused_as a b f g is js errors.SourceFault same far h = absurd h
refused_as a b f g is js errors.SinkFault same far h = absurd h
refused_as a b f g is js errors.CompressFault same far h = absurd h
refused_as a b f g is js (errors.BatchType c) same far h = absurd h
refused_as a b f g is js errors.ManyChunks same far h = absurd h
refused_as a b f g is js errors.EmptyList same far h = absurd h
refused_as a b f g is js (errors.ZoneCut n) same far h = absurd h
refused_as a b f g is js (errors.ForbiddenEncoding id) same far h = absurd h
refused_as a b f g is js (errors.Stopped by name) same far h = absurd h

pub memory_refused : (a : Allowed) (f : Setting → Option What) (is : List ℕ) (x : WriteError) → x ≡ errors.OutOfMemory → StartRefused a f is x
memory_refused a f is x e = subst (λ y. StartRefused a f is y) (sym e) tt

other_type : (s : StructStrategy) (m : Bool) (c : Setting) (t : Ty) → is_struct t ≡ false → start_fault c (form_at (struct_way s) t) m ≡ Some not_struct
other_type s m c (struct fs n) h = absurd (no_true (sym h))
other_type s m c (boolean n) h = refl
other_type s m c (primitive p n) h = refl
other_type s m c (utf8 n) h = refl
other_type s m c (binary n) h = refl
other_type s m c (list t n) h = refl
other_type s m c (extension tag t) h = refl

twice_named : (s : StructStrategy) (m : Bool) (c : Setting) (name : List ℕ) (t : Ty) → is_struct t ≡ true → duplicate (struct_fields t) ≡ Some name → start_fault c (form_at (struct_way s) t) m ≡ Some (duplicate_field name)
twice_named s m c name (struct fs n) h d = ap (λ o. start_fault c (struct_form fs n o (validity_form s) (forms_of (field_nodes (walk form_nodes s.default.item) (walk_named form_nodes (field_ways s.writers.items)) fs))) m) d
twice_named s m c name (boolean n) h d = absurd (no_true h)
twice_named s m c name (primitive p n) h d = absurd (no_true h)
twice_named s m c name (utf8 n) h d = absurd (no_true h)
twice_named s m c name (binary n) h d = absurd (no_true h)
twice_named s m c name (list t n) h d = absurd (no_true h)
twice_named s m c name (extension tag t) h d = absurd (no_true h)

-- of a struct node
pub node_refused : (a : Allowed) (s : StructStrategy) (t : Ty) (m : Bool) (is : List ℕ) (x : WriteError) → NodeRefused t x → StartRefused a (λ c. start_fault c (form_at (struct_way s) t) m) is x
node_refused a s t m is errors.NotStruct h = λ c q. other_type s m c t h
node_refused a s t m is (errors.DuplicateField name) h = λ c q. twice_named s m c name t h.0 h.1
node_refused a s t m is errors.OutOfMemory h = tt
node_refused a s t m is (errors.TooLarge n) h = absurd h
node_refused a s t m is errors.SourceFault h = absurd h
node_refused a s t m is errors.SinkFault h = absurd h
node_refused a s t m is errors.CompressFault h = absurd h
node_refused a s t m is (errors.BatchType c) h = absurd h
node_refused a s t m is errors.ManyChunks h = absurd h
node_refused a s t m is errors.EmptyList h = absurd h
node_refused a s t m is (errors.ZoneCut n) h = absurd h
node_refused a s t m is (errors.ForbiddenAggregate id) h = absurd h
node_refused a s t m is (errors.ForbiddenEncoding id) h = absurd h
node_refused a s t m is (errors.Stopped by name) h = absurd h

or_some : (x y : Option What) (w : What) → x ≡ Some w → or_else x y ≡ Some w
or_some x y w e = ap (λ z. or_else z y) e

or_nil : (x : Option What) → or_else x None ≡ x
or_nil None = refl
or_nil (Some w) = refl

-- a column's task is refused, or its pointer
pub task_refused : (a : Allowed) (f : Form) (m : Bool) (e : Eof) (x : WriteError) → FormRefused a f m (inside e) x → OneRefused a f m e x
task_refused a f m e x h = refused_as a a (λ s. start_fault s f m) (λ s. start_faults s (form_then f no_forms) m) (first_indices f m (inside e)) (many_indices (form_then f no_forms) m e) x
    (λ s w q k. or_some (start_fault s f m) None w (k s q)) (λ p. (p.0, inr (in_left p.0 (first_indices f m (inside e)) [] p.1), p.2)) h

-- where only a pointer may come too far
pub far_refused : (a : Allowed) (last : ℕ) (g : Setting → Option What) (js : List ℕ) (x : WriteError) → (TooFar ((last + 1) ∷ []) → TooFar js) → PointerRefused last x → StartRefused a g js x
far_refused a last g js x far h = refused_as None a (λ s. None) g ((last + 1) ∷ []) js x (λ s w q k. absurd (none_some w (k (record s { allowed = None }) refl))) far h

pub pointer_refused : (a : Allowed) (f : Form) (m : Bool) (e : Eof) (x : WriteError) → PointerRefused e.last x → OneRefused a f m e x
pointer_refused a f m e x h = far_refused a e.last (λ s. start_faults s (form_then f no_forms) m) (many_indices (form_then f no_forms) m e) x (λ p. (p.0, ⊎_elim (λ k. inl k) (λ k. absurd k) p.1, p.2)) h

-- ---- one task

pub started : (a : Allowed) (f : Form) (m : Bool) (name : List ℕ) (e : Eof) (l : Local) (ks : List Task) (t : Task) → IsAllowed a f m → Counted e (first_indices f m e) → mind_of l ≡ first_mind f m e → row ks ≡ first_kids f m name e
    → ((r : Tasks) → task_row t r ≡ task_then (waiting name (mind_of l) [] false) (row ks) r) → Started a f m name e t
started a f m name e l ks t h fit mind kids is = record {
  allowed = h;
  counted = fit;
  tasks = λ r. is r ∙ (λ j. task_then (waiting name (mind j) [] false) (kids j) r);
}

-- ---- of a node that regroups

-- its form, by what its strategy, its child and its type are
pub grouped_at : (w c d : StrategyData) (g : Grouping) (t u : Ty) → w ≡ grouped g c → d ≡ c → u ≡ t → grouped_form g u (form_at d u) ≡ form_at w t
grouped_at w c d g t u a b e = (λ j. grouped_form g (e j) (form_at (b j) (e j))) ∙ ap (λ z. form_at z t) (sym a)

-- its only child
pub only_started : (a : Allowed) (f : Form) (m : Bool) (at name : List ℕ) (e : Eof) (js : List Task) (t : Task) → Started a f m name e t → name ≡ under at 0 → js ≡ t ∷ [] → OnlyStarted a f m at e js
only_started a f m at name e js t h n is = record {
  allowed = h.allowed;
  counted = h.counted;
  tasks = ap row is ∙ h.tasks no_tasks ∙ ap (λ z. task_then (waiting z (first_mind f m e) [] false) (first_kids f m z e) no_tasks) n;
}

-- ---- one more column

eof_is : (d e : Eof) (n : ℕ) → d.stem ≡ e.stem → d.last ≡ n → d ≡ record { stem = e.stem; last = n }
eof_is d e n a b = λ j. record { stem = a j; last = b j }

pub one_started : (a : Allowed) (f : Form) (m : Bool) (at name : List ℕ) (e d : Eof) (ks js : List Task) (t : Task) → Started a f m name (inside e) t → name ≡ under at (length ks) → d ≡ next e → e.last + 1 < 2 ^ 64 → js ≡ ks ++ (t ∷ [])
    → OneStarted a f m at e ks d js
one_started a f m at name e d ks js t h n p fit is = record {
  allowed = λ s q. ap (λ z. or_else z None) (h.allowed s q);
  counted = λ k. then_fit (e.last + 1) (first_indices f m (inside e) ++ []) fit (both_fit (first_indices f m (inside e)) [] (h.counted (omega arith)) none_fit);
  tasks =
      ap row is ∙ row_push ks t
      ∙ ap (add (row ks)) (h.tasks no_tasks ∙ ap (λ z. task_then (waiting z (first_mind f m (inside e)) [] false) (first_kids f m z (inside e)) no_tasks) n);
  count = ap length is ∙ length-append ks (t ∷ []);
  stem = ap (λ (z : Eof). z.stem) p;
  last = ap (λ (z : Eof). z.last) p;
}

plus_none : (n : ℕ) → n ≡ n + 0
plus_none n = omega arith

pub none_started : (a : Allowed) (m : Bool) (at : List ℕ) (e : Eof) (ks : List Task) → ManyStarted a no_forms m at e ks e ks
none_started a m at e ks = record {
  allowed = λ s q. refl;
  counted = λ k. one_fits (e.last + 0) (omega (arith, k));
  tasks = sym (add_none (row ks));
  count = plus_none (length ks);
  stem = refl;
  last = plus_none e.last;
}

-- ---- all columns

-- what is left of them: these are still to be started, and then all will be
pub record Left (a : Allowed) (f : Form) (m : Bool) (at : List ℕ) (e : Eof) (ts : List Task) (fs : Forms) (n : Bool) (ks : List Task) (d : Eof) : Type 0 where
  pub fault : (s : Setting) → s.allowed ≡ a → start_faults s fs n ≡ start_fault s f m
  pub far : TooFar (many_indices fs n d) → TooFar (first_indices f m e)
  pub fit : e.last < 2 ^ 64 → (d.last < 2 ^ 64) × (AllFit (many_indices fs n d) → AllFit (first_indices f m e))
  pub tasks : ts ≡ [] → add (row ks) (field_tasks fs n at (length ks) d) ≡ first_kids f m at e

-- a column with this mark, and the others with theirs
abbrev two_indices : Form → Bool → Forms → Bool → Eof → List ℕ
two_indices g m gs n d = (d.last + suc (form_count gs)) ∷ (first_indices g m (inside d) ++ field_indices gs n (next d))

-- behind one column more
later : (g : Form) (m : Bool) (gs : Forms) (n : Bool) (d p : Eof) → p ≡ next d → TooFar (many_indices gs n p) → TooFar (two_indices g m gs n d)
later g m gs n d p q h = ⊎_elim
    (λ a. let c : p.last ≡ d.last + 1 = ap (λ (z : Eof). z.last) q in (d.last + suc (form_count gs), inl refl, omega (arith, a, h.2, c)))
    (λ a. (h.0, inr (in_right h.0 (first_indices g m (inside d)) (field_indices gs n (next d)) (subst (λ z. In h.0 (field_indices gs n z)) q a)), h.2))
    h.1

-- it fits, and what comes behind it
then_fits : (g : Form) (m : Bool) (gs : Forms) (n : Bool) (d p : Eof) → p ≡ next d → AllFit (many_indices (form_then g no_forms) m d) → AllFit (many_indices gs n p) → AllFit (two_indices g m gs n d)
then_fits g m gs n d p q a b =
    let c : p.last ≡ d.last + 1 = ap (λ (z : Eof). z.last) q in
    then_fit (d.last + suc (form_count gs)) (first_indices g m (inside d) ++ field_indices gs n (next d)) (omega (arith, c, first_fits (p.last + form_count gs) (field_indices gs n p) b))
    (both_fit (first_indices g m (inside d)) (field_indices gs n (next d)) (left_fit (first_indices g m (inside d)) [] (rest_fit (d.last + 1) (first_indices g m (inside d) ++ []) a))
    (subst (λ z. AllFit (field_indices gs n z)) q (rest_fit (p.last + form_count gs) (field_indices gs n p) b)))

-- the first of more
wider : (g : Form) (m : Bool) (gs : Forms) (n : Bool) (d : Eof) → TooFar (many_indices (form_then g no_forms) m d) → TooFar (two_indices g m gs n d)
wider g m gs n d h = ⊎_elim
    (λ a. let b : h.0 ≡ d.last + 1 = a in (d.last + suc (form_count gs), inl refl, omega (arith, b, h.2)))
    (λ a. (h.0, inr (⊎_elim (λ z. in_left h.0 (first_indices g m (inside d)) (field_indices gs n (next d)) z) (λ z. absurd z) (in_cases h.0 (first_indices g m (inside d)) [] a)), h.2))
    h.1

none_wider : (m : Bool) (gs : Forms) (n : Bool) (d : Eof) → TooFar (many_indices no_forms m d) → TooFar (many_indices gs n d)
none_wider m gs n d h = ⊎_elim (λ a. let b : h.0 ≡ d.last + 0 = a in (d.last + form_count gs, inl refl, omega (arith, b, h.2))) (λ a. absurd a) h.1

-- the validity stands first
left_at : (a : Allowed) (s : StructStrategy) (fs : Tys) (gs : Forms) (n m : Bool) (at : List ℕ) (e d : Eof) (ks js : List Task) → ManyStarted a (validity_forms s.validity.item n) m at e ks d js
    → Left a (struct_form fs n None (validity_form s) gs) m at e ks gs (m || n) js d
left_at a s fs gs true m at e d ks js h =
    let p : d ≡ next e = eof_is d e (e.last + 1) h.stem h.last in
    record {
      fault = λ c q. sym (ap (λ z. or_else z (start_faults c gs (m || true))) (sym (or_nil (start_fault c (validity_form s) m)) ∙ h.allowed c q));
      far = λ q. later (validity_form s) m gs (m || true) e d p q;
      fit = λ k. (
        omega (arith, h.last, first_fits (e.last + 1) (first_indices (validity_form s) m (inside e) ++ []) (h.counted k)),
        λ q. then_fits (validity_form s) m gs (m || true) e d p (h.counted k) q,
      );
      tasks = λ k.
          (λ j. add (h.tasks j) (field_tasks gs (m || true) at (h.count j) (p j)))
          ∙ (λ j. add (add (row (k j)) (field_tasks (form_then (validity_form s) no_forms) m at (length (k j)) e)) (field_tasks gs (m || true) at (length (k j) + 1) (next e)));
    }
left_at a s fs gs false m at e d ks js h =
    let p : d ≡ e = eof_is d e e.last h.stem (h.last ∙ sym (plus_none e.last)) in
    record {
      fault = λ c q. refl;
      far = λ q. subst (λ z. TooFar (many_indices gs (m || false) z)) p q;
      fit = λ k. (omega (arith, k, h.last), λ q. subst (λ z. AllFit (many_indices gs (m || false) z)) p q);
      tasks = λ k.
          (λ j. add (h.tasks j) (field_tasks gs (m || false) at (h.count j) (p j)))
          ∙ (λ j. add (add (row (k j)) no_tasks) (field_tasks gs (m || false) at (length (k j) + 0) e));
    }

pub left_first : (a : Allowed) (s : StructStrategy) (t : Ty) (n m : Bool) (at : List ℕ) (e d : Eof) (ks js : List Task) → n ≡ nullable t → ManyStarted a (validity_forms s.validity.item n) m at e ks d js
    → Left a (columns_form s t) m at e ks (field_forms s (fields_of t)) (m || n) js d
left_first a s t n m at e d ks js b h =
    subst (λ z. Left a (struct_form (struct_fields t) z None (validity_form s) (field_forms s (fields_of t))) m at e ks (field_forms s (fields_of t)) (m || n) js d) b
    (left_at a s (struct_fields t) (field_forms s (fields_of t)) n m at e d ks js h)

one_more : (n : ℕ) → n + 1 ≡ suc n
one_more n = omega arith

-- then a field
pub left_next : (a : Allowed) (f : Form) (m : Bool) (at : List ℕ) (e : Eof) (ts : List Task) (g : Form) (gs : Forms) (n : Bool) (ks js : List Task) (d p : Eof) → Left a f m at e ts (form_then g gs) n ks d → OneStarted a g n at d ks p js
    → Left a f m at e ts gs n js p
left_next a f m at e ts g gs n ks js d p l h =
    let q : p ≡ next d = eof_is p d (d.last + 1) h.stem h.last in
    record {
      fault = λ c r. sym (ap (λ z. or_else z (start_faults c gs n)) (sym (or_nil (start_fault c g n)) ∙ h.allowed c r)) ∙ l.fault c r;
      far = λ k. l.far (later g n gs n d p q k);
      fit = λ b.
          let c = l.fit b in
          let k = h.counted c.0 in
          (omega (arith, h.last, first_fits (d.last + 1) (first_indices g n (inside d) ++ []) k), λ z. c.1 (then_fits g n gs n d p q k z));
      tasks = λ b.
          (λ j. add (h.tasks j) (field_tasks gs n at (h.count j) (q j)))
          ∙ add_add (row ks) (field_tasks (form_then g no_forms) n at (length ks) d) (field_tasks gs n at (length ks + 1) (next d))
          ∙ (λ j. add (row ks) (add (field_tasks (form_then g no_forms) n at (length ks) d) (field_tasks gs n at (one_more (length ks) j) (next d))))
          ∙ l.tasks b;
    }

-- the first of those that are left is refused
pub left_refused : (a : Allowed) (f : Form) (m : Bool) (at : List ℕ) (e : Eof) (ts : List Task) (g : Form) (gs : Forms) (n : Bool) (ks : List Task) (d : Eof) (x : WriteError) → Left a f m at e ts (form_then g gs) n ks d → OneRefused a g n d x
    → FormRefused a f m e x
left_refused a f m at e ts g gs n ks d x l h =
    refused_as a a (λ s. start_faults s (form_then g no_forms) n) (λ s. start_fault s f m) (many_indices (form_then g no_forms) n d) (first_indices f m e) x
    (λ s w q k. sym (l.fault s q) ∙ or_some (start_fault s g n) (start_faults s gs n) w (sym (or_nil (start_fault s g n)) ∙ k s q))
    (λ p. l.far (wider g n gs n d p)) h

-- none is left
pub all_started : (a : Allowed) (f : Form) (m : Bool) (at : List ℕ) (e : Eof) (ts : List Task) (n : Bool) (ks : List Task) (d : Eof) → Left a f m at e ts no_forms n ks d → ts ≡ [] → AllStarted a f m at e ks
all_started a f m at e ts n ks d l b = record {
  allowed = λ s q. sym (l.fault s q);
  counted = λ c. (l.fit c).1 (one_fits (d.last + 0) (omega (arith, (l.fit c).0)));
  tasks = sym (add_none (row ks)) ∙ l.tasks b;
}

-- the validity is refused
validity_at : (a : Allowed) (s : StructStrategy) (fs : Tys) (gs : Forms) (n m : Bool) (e : Eof) (x : WriteError) → ManyRefused a (validity_forms s.validity.item n) m e x
    → FormRefused a (struct_form fs n None (validity_form s) gs) m e x
validity_at a s fs gs true m e x h =
    refused_as a a (λ c. start_faults c (form_then (validity_form s) no_forms) m) (λ c. start_fault c (struct_form fs true None (validity_form s) gs) m)
    (many_indices (form_then (validity_form s) no_forms) m e) (first_indices (struct_form fs true None (validity_form s) gs) m e) x
    (λ c w q k. or_some (start_fault c (validity_form s) m) (start_faults c gs (m || true)) w (sym (or_nil (start_fault c (validity_form s) m)) ∙ k c q))
    (λ p. wider (validity_form s) m gs (m || true) e p) h
validity_at a s fs gs false m e x h =
    refused_as a a (λ c. start_faults c no_forms m) (λ c. start_fault c (struct_form fs false None (validity_form s) gs) m)
    (many_indices no_forms m e) (first_indices (struct_form fs false None (validity_form s) gs) m e) x
    (λ c w q k. absurd (none_some w (k c q)))
    (λ p. none_wider m gs (m || false) e p) h

pub validity_refused : (a : Allowed) (s : StructStrategy) (t : Ty) (n m : Bool) (e : Eof) (x : WriteError) → n ≡ nullable t → ManyRefused a (validity_forms s.validity.item n) m e x → FormRefused a (columns_form s t) m e x
validity_refused a s t n m e x b h =
    subst (λ z. FormRefused a (struct_form (struct_fields t) z None (validity_form s) (field_forms s (fields_of t))) m e x) b
    (validity_at a s (struct_fields t) (field_forms s (fields_of t)) n m e x h)

-- ---- a list

-- of a list type, where no other strategy stands for its node
pub list_at : (s : ListLayoutStrategy) (t : Ty) → passes_on (list_way s) t ≡ false → is_list t ≡ true
list_at s (list t n) h = refl
list_at s (boolean n) h = absurd (no_true (sym h))
list_at s (primitive p n) h = absurd (no_true (sym h))
list_at s (utf8 n) h = absurd (no_true (sym h))
list_at s (binary n) h = absurd (no_true (sym h))
list_at s (struct fs n) h = absurd (no_true (sym h))
list_at s (extension tag t) h = absurd (no_true (sym h))

pub list_plain : (s : ListLayoutStrategy) (t : Ty) → is_list t ≡ true → form_at (list_way s) t ≡ lists_form s t
list_plain s (list t n) h = refl
list_plain s (boolean n) h = absurd (no_true h)
list_plain s (primitive p n) h = absurd (no_true h)
list_plain s (utf8 n) h = absurd (no_true h)
list_plain s (binary n) h = absurd (no_true h)
list_plain s (struct fs n) h = absurd (no_true h)
list_plain s (extension tag t) h = absurd (no_true h)

-- no chunk came
pub list_mind : (n : ListsNode) (s : ListLayoutStrategy) (m : Bool) (e : Eof) → n.split ≡ state_at (ty (arc_value n.dtype)) true 0 → mind_of (Lists n 0) ≡ first_mind (lists_form s (ty (arc_value n.dtype))) m e
list_mind n s m e h = λ j. by_list (element_type (ty (arc_value n.dtype))) (nullable (ty (arc_value n.dtype))) (h j).first (h j).base 0

parts_fault : (c : Setting) (n m : Bool) (t : Ty) (es os : Form) (w : StrategyData) → start_faults c (form_then es (form_then os (validity_forms w n))) m ≡ start_fault c (list_form t n es os (form_at w (boolean false))) m
parts_fault c true m t es os w = ap (λ x. or_else (start_fault c es m) (or_else (start_fault c os m) x)) (or_nil (start_fault c (form_at w (boolean false)) m))
parts_fault c false m t es os w = refl

parts_indices : (n m : Bool) (t : Ty) (es os : Form) (w : StrategyData) (e : Eof) → many_indices (form_then es (form_then os (validity_forms w n))) m e ≡ first_indices (list_form t n es os (form_at w (boolean false))) m e
parts_indices true m t es os w e = ap (λ x. (e.last + 3) ∷ (first_indices es m (inside e) ++ (first_indices os m (inside (next e)) ++ x))) (append-nil (first_indices (form_at w (boolean false)) m (inside (next (next e)))))
parts_indices false m t es os w e = ap (λ x. (e.last + 2) ∷ (first_indices es m (inside e) ++ x)) (append-nil (first_indices os m (inside (next e))))

parts_tasks : (n m : Bool) (t : Ty) (es os : Form) (w : StrategyData) (at : List ℕ) (e : Eof) → field_tasks (form_then es (form_then os (validity_forms w n))) m at 0 e ≡ first_kids (list_form t n es os (form_at w (boolean false))) m at e
parts_tasks true m t es os w at e = refl
parts_tasks false m t es os w at e = refl

module _ (a : Allowed) (s : ListLayoutStrategy) (t : Ty) (m : Bool) (at : List ℕ) (e : Eof) (ts : List Task) where
  -- nothing is started yet
  left_parts : Left a (lists_form s t) m at e ts (list_forms s t) m ts e
  left_parts =
      let es : Form = form_at s.elements.item (element_type t) in
      let os : Form = form_at s.offsets.item offset_type in
      let is = parts_indices (nullable t) m (element_type t) es os s.validity.item e in
      record {
        fault = λ c q. parts_fault c (nullable t) m (element_type t) es os s.validity.item;
        far = λ h. subst TooFar is h;
        fit = λ k. (k, λ h. subst AllFit is h);
        tasks = λ k. ap (λ z. add (row z) (field_tasks (list_forms s t) m at (length z) e)) k ∙ parts_tasks (nullable t) m (element_type t) es os s.validity.item at e;
      }

  -- the elements are
  pub left_elements : (u : Ty) (js : List Task) (d : Eof) → u ≡ element_type t → OneStarted a (form_at s.elements.item u) m at e ts d js
      → Left a (lists_form s t) m at e ts (form_then (form_at s.offsets.item offset_type) (validity_forms s.validity.item (nullable t))) m js d
  left_elements u js d is h =
      left_next a (lists_form s t) m at e ts (form_at s.elements.item (element_type t)) (form_then (form_at s.offsets.item offset_type) (validity_forms s.validity.item (nullable t))) m ts js e d
      left_parts (subst (λ z. OneStarted a (form_at s.elements.item z) m at e ts d js) is h)

  -- the offsets are
  pub left_offsets : (u : Ty) (ks js : List Task) (d p : Eof) → u ≡ offset_type
      → Left a (lists_form s t) m at e ts (form_then (form_at s.offsets.item offset_type) (validity_forms s.validity.item (nullable t))) m ks d → OneStarted a (form_at s.offsets.item u) m at d ks p js
      → Left a (lists_form s t) m at e ts (validity_forms s.validity.item (nullable t)) m js p
  left_offsets u ks js d p is l h =
      left_next a (lists_form s t) m at e ts (form_at s.offsets.item offset_type) (validity_forms s.validity.item (nullable t)) m ks js d p
      l (subst (λ z. OneStarted a (form_at s.offsets.item z) m at d ks p js) is h)

  pub elements_refused : (u : Ty) (x : WriteError) → u ≡ element_type t → OneRefused a (form_at s.elements.item u) m e x → FormRefused a (lists_form s t) m e x
  elements_refused u x is h =
      left_refused a (lists_form s t) m at e ts (form_at s.elements.item (element_type t)) (form_then (form_at s.offsets.item offset_type) (validity_forms s.validity.item (nullable t))) m ts e x
      left_parts (subst (λ z. OneRefused a (form_at s.elements.item z) m e x) is h)

  pub offsets_refused : (u : Ty) (ks : List Task) (d : Eof) (x : WriteError) → u ≡ offset_type
      → Left a (lists_form s t) m at e ts (form_then (form_at s.offsets.item offset_type) (validity_forms s.validity.item (nullable t))) m ks d → OneRefused a (form_at s.offsets.item u) m d x
      → FormRefused a (lists_form s t) m e x
  offsets_refused u ks d x is l h =
      left_refused a (lists_form s t) m at e ts (form_at s.offsets.item offset_type) (validity_forms s.validity.item (nullable t)) m ks d x
      l (subst (λ z. OneRefused a (form_at s.offsets.item z) m d x) is h)

-- the validity is, where there is one
left_last : (a : Allowed) (f : Form) (m : Bool) (at : List ℕ) (e : Eof) (ts : List Task) (w : StrategyData) (b n : Bool) (ks js : List Task) (d p : Eof) → Left a f m at e ts (validity_forms w b) n ks d
    → ManyStarted a (validity_forms w b) n at d ks p js → Left a f m at e ts no_forms n js p
left_last a f m at e ts w true n ks js d p l h = left_next a f m at e ts (form_at w (boolean false)) no_forms n ks js d p l h
left_last a f m at e ts w false n ks js d p l h =
    let q : p ≡ d = eof_is p d d.last h.stem (h.last ∙ sym (plus_none d.last)) in
    record {
      fault = l.fault;
      far = λ k. l.far (subst (λ z. TooFar (many_indices no_forms n z)) q k);
      fit = λ c.
          let r = l.fit c in
          (omega (arith, h.last, r.0), λ k. r.1 (subst (λ z. AllFit (many_indices no_forms n z)) q k));
      tasks = λ c. (λ j. add (h.tasks j) no_tasks) ∙ ap (λ z. add z no_tasks) (add_none (row ks)) ∙ l.tasks c;
    }

pub last_started : (a : Allowed) (f : Form) (m : Bool) (at : List ℕ) (e : Eof) (ts : List Task) (w : StrategyData) (b n : Bool) (ks js : List Task) (d p : Eof) → Left a f m at e ts (validity_forms w b) n ks d
    → ManyStarted a (validity_forms w b) n at d ks p js → ts ≡ [] → AllStarted a f m at e js
last_started a f m at e ts w b n ks js d p l h none = all_started a f m at e ts n js p (left_last a f m at e ts w b n ks js d p l h) none

-- all that is left is refused
pub rest_refused : (a : Allowed) (f : Form) (m : Bool) (at : List ℕ) (e : Eof) (ts : List Task) (fs : Forms) (n : Bool) (ks : List Task) (d : Eof) (x : WriteError) → Left a f m at e ts fs n ks d → ManyRefused a fs n d x
    → FormRefused a f m e x
rest_refused a f m at e ts fs n ks d x l h =
    refused_as a a (λ s. start_faults s fs n) (λ s. start_fault s f m) (many_indices fs n d) (first_indices f m e) x (λ s w q k. sym (l.fault s q) ∙ k s q) l.far h
