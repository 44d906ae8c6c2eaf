-- A form's task shows the abstract one at its start, with all that is started with it.
use Rattle.std.proofs.Common.{◌≡◌, ◌+◌, ◌||◌, ◌∷◌, ◌++◌, ◌∙◌, ℕ, suc, Bool, true, false, List, length, refl, sym, ap, subst, inl, arith, append_assoc, append-nil, get_or, Some, None, []}
use Rattle.vx_model.specs.Ty.{Ty, Tys, boolean, list, struct, no_fields, field}
use Rattle.vx_model.specs.ChunkData.{ChunkData, held}
use Rattle.vx_path.specs.Path.{Eof, under, inside, next}
use Rattle.vx_rules.specs.Blocks.{block_len}
use Rattle.vx_rules.specs.Columns.{offset_type}
use Rattle.vx_strategy_spec.specs.StrategyData.{Grouping, by_blocks, by_bytes, into_one}
use Rattle.vx_plan.specs.SourcePlan.{first_what}
use Rattle.vx_plan.specs.ZonedNode.{recorded, forbidden_faults}
use Rattle.vx_plan.specs.PlanData.{Setting, Item, not_struct, duplicate_field}
use Rattle.vx_machine_turns.specs.Forms.{Form, Forms, flat_form, chunked_form, grouped_form, compressed_form, dict_form, zoned_form, no_struct_form, struct_form, list_form, no_forms, form_then, form_type, Writer}
use Rattle.vx_machine_turns.specs.Locals.{GroupedNode, CompressedNode, Local, struct_local, list_local, blocks_local, bytes_local, collect_local, compressed_local}
use Rattle.vx_machine_turns.specs.Acts.{Seed, or_else}
use Rattle.vx_machine_turns.specs.Columns.{column_seeds}
use Rattle.vx_machine_turns.specs.Starts.{start_fault, start_faults, marked_forms, local_of, seed_of}
use Rattle.vx_machine_turns.specs.Turns.{firsts, start_indices}
use Rattle.vx_machine_turns.specs.Fuels.{Fuel, spent, fuel, Enough, AllEnough}
use Rattle.vx_machine_steps.specs.Tree.{Tree, Leaf, Work, fresh, quiet, sprout, opened}
use Rattle.vx_machine_state.specs.Zoned.{zoner, no_zones}
use Rattle.vx_machine_state.specs.State.{Mind, by_column, by_list, by_block, by_size, as_one, by_image, Tasks, no_tasks, task_then}
use Rattle.vx_machine_state.specs.Start.{first_mind, first_kids, field_tasks, waiting, form_count, first_indices, field_indices, started_task}
use Rattle.vx_machine_view.specs.Suited.{Suited, AllSuited, field_types, column_types, list_types}
use Rattle.vx_machine_state.specs.Typed.{AllTyped}
use Rattle.vx_machine_view.specs.Shows.{Alike, Groups, Stage, waits_first, splits, hands, hands_lists, regroups_rows, regroups_chunks, collects, pressed, asks_first, records_zones, Shows, rows_of, types_of, local_rows}
use Rattle.vx_machine_view.proofs.Words.{none_some, or_none}
use Rattle.vx_machine_view.proofs.Feeding.{sprout_none, opened_none}
use Rattle.vx_machine_view.proofs.Outlets.{outlet_begun, outlet_rows, outlet_opened}

only_zero : (x : ℕ) → x ≡ 0 → (0 + 0) + (0 + ((x + 0) + 0)) ≡ 0
only_zero x e = omega (arith, e)

one_zero : (x : ℕ) → x ≡ 0 → 0 + (0 + ((x + 0) + 0)) ≡ 0
one_zero x e = omega (arith, e)

-- it has no rows but those in its queue
pub fresh_rows : (f : Form) (m : Bool) (name : List ℕ) (e : Eof) (d : Fuel) → Suited f → local_rows (local_of f m name e) (0 + rows_of (sprout d quiet 0 (firsts (seed_of f m name e)))) ≡ 0
fresh_rows (flat_form o t) m name e d b = refl
fresh_rows (chunked_form t k) m name e d b = refl
fresh_rows (struct_form fs n (Some a) v ks) m name e d b = refl
fresh_rows (struct_form fs n None v ks) m name e d b = refl
fresh_rows (no_struct_form t) m name e d b = refl
fresh_rows (grouped_form (by_blocks o) t k) m name e spent b = refl
fresh_rows (grouped_form (by_bytes size) t k) m name e spent b = refl
fresh_rows (grouped_form into_one t k) m name e spent b = refl
fresh_rows (grouped_form (by_blocks o) t k) m name e (fuel g) b = only_zero (local_rows (local_of k m (under name 0) e) (0 + rows_of (sprout (g (form_type k)) quiet 0 (firsts (seed_of k m (under name 0) e)))))
    (fresh_rows k m (under name 0) e (g (form_type k)) b.1)
fresh_rows (grouped_form (by_bytes size) t k) m name e (fuel g) b = only_zero (local_rows (local_of k m (under name 0) e) (0 + rows_of (sprout (g (form_type k)) quiet 0 (firsts (seed_of k m (under name 0) e)))))
    (fresh_rows k m (under name 0) e (g (form_type k)) b.1)
fresh_rows (grouped_form into_one t k) m name e (fuel g) b = one_zero (local_rows (local_of k m (under name 0) e) (0 + rows_of (sprout (g (form_type k)) quiet 0 (firsts (seed_of k m (under name 0) e)))))
    (fresh_rows k m (under name 0) e (g (form_type k)) b.1)
fresh_rows (compressed_form which room t k) m name e spent b = refl
fresh_rows (compressed_form which room t k) m name e (fuel g) b =
    ap (λ z. 0 + (((0 + z) + 0) + 0)) (outlet_rows (record { name = name; mark = m; which = which; room = room; child = k; eof = e }) (g (form_type k)) (λ x. fresh_rows k m (under name 1) e x b.1))
fresh_rows (dict_form o t c v w) m name e d b = refl
fresh_rows (zoned_form o t k stats) true name e d b = fresh_rows k true name e d b.1
fresh_rows (zoned_form o t k stats) false name e d b = refl
fresh_rows (list_form t n es os v) m name e d b = refl

module _ (s : Setting) (number : List ℕ → ℕ) where
  none_begun : (d : Fuel) (q : Seed) → Shows s number d q 0 no_tasks (sprout d quiet 0 [])
  none_begun d q = subst (Shows s number d q 0 no_tasks) (sym (sprout_none d quiet 0)) tt

  alike : (q : Seed) (j : ℕ) (f : Form) (m : Bool) (name : List ℕ) (e : Eof) (xs : List Item) (closed : Bool) → get_or q.spare j 0 ≡ 0 → AllTyped (form_type f) xs
      → Alike q j (waiting name (first_mind f m e) xs closed) (fresh (seed_of f m name e) xs closed)
  alike q j f m name e xs closed sp ty = record { name = refl; inbox = refl; closed = refl; places = ap (λ z. 1 + z) (sym sp); typed = ty }

  abbrev Columns : Forms → Tys → Bool → List ℕ → ℕ → Eof → (Ty → Fuel) → Seed → Type 0
  Columns ks fs m name c e g q =
      Shows s number (fuel g) q c (field_tasks ks m name c e) (sprout (fuel g) quiet c (column_seeds name c (marked_forms m ks) e))
      × (types_of (sprout (fuel g) quiet c (column_seeds name c (marked_forms m ks) e)) ≡ field_types fs) × (length (marked_forms m ks) ≡ length (field_types fs))

  -- columns from number c on, of these types
  abbrev Row : Tasks → List Seed → ℕ → (Ty → Fuel) → Seed → List Ty → Type 0
  Row ks qs c g q ts = Shows s number (fuel g) q c ks (sprout (fuel g) quiet c qs) × (types_of (sprout (fuel g) quiet c qs) ≡ ts)

  abbrev column : Form → Bool → List ℕ → ℕ → Eof → Tasks → Tasks
  column f m name c e ks = task_then (waiting (under name c) (first_mind f m (inside e)) [] false) (first_kids f m (under name c) (inside e)) ks

  abbrev Begun : Form → Bool → List ℕ → Eof → Fuel → Type 0
  Begun f m name e d =
      Stage s d (first_mind f m e) [] (first_kids f m name e) (seed_of f m name e) [] [] (local_of f m name e) false (sprout d quiet 0 (firsts (seed_of f m name e)))
      × Shows s number d (seed_of f m name e) 0 (first_kids f m name e) (sprout d quiet 0 (firsts (seed_of f m name e)))

  row_then : (f : Form) (m : Bool) (name : List ℕ) (c : ℕ) (e : Eof) (g : Ty → Fuel) (q : Seed) (t : Ty) (ks : Tasks) (qs : List Seed) (ts : List Ty) → q.spare ≡ [] → form_type f ≡ t
      → Begun f m (under name c) (inside e) (g (form_type f)) → Row ks qs (suc c) g q ts
      → Row (column f m name c e ks) (seed_of f m (under name c) (inside e) ∷ qs) c g q (t ∷ ts)
  row_then f m name c e g q t ks qs ts sp ft w k = (
    (alike q c f m (under name c) (inside e) [] false (ap (λ z. get_or z c 0) sp) tt, inl w, k.0),
    ap (λ z. z ∷ types_of (sprout (fuel g) quiet (suc c) qs)) ft ∙ ap (λ z. t ∷ z) k.1,
  )

  lists_stage : (t : Ty) (n : Bool) (ws : List Writer) (name : List ℕ) (e : Eof) (q : Seed) (d : Fuel) (hs : Tree) (ks : Tasks) → q.type ≡ list t n → types_of hs ≡ list_types t n
      → length ws ≡ length (list_types t n)
      → Stage s d (by_list t n true 0 0) [] ks q [] [] (list_local (record { name = name; elements = t; nullable = n; writers = ws; eof = e }) true 0 0) false hs
  lists_stage t n ws name e q d hs ks ty k l = hands_lists (record { name = name; elements = t; nullable = n; writers = ws; eof = e }) true 0 0 (length (list_types t n)) [] [] [] ty l (record {
    mind_is = refl;
    local_is = refl;
    left_is = refl;
    rest = refl;
    on = refl;
    unshaped = refl;
    kids = k;
    before = list_types t n;
    behind = [];
    split = sym (append-nil (list_types t n));
    place = refl;
    typed = tt;
    same = refl;
  })

  columns_stage : (fs : Tys) (n : Bool) (ws : List Writer) (name : List ℕ) (e : Eof) (q : Seed) (d : Fuel) (hs : Tree) (ks : Tasks) → q.type ≡ struct fs n → types_of hs ≡ column_types fs n
      → length ws ≡ length (column_types fs n)
      → Stage s d (by_column (struct fs n) 0) [] ks q [] [] (struct_local (record { name = name; fields = fs; nullable = n; writers = ws; eof = e }) 0) false hs
  columns_stage fs n ws name e q d hs ks t k l = hands (record { name = name; fields = fs; nullable = n; writers = ws; eof = e }) 0 (length (column_types fs n)) [] [] [] t l (record {
    mind_is = refl;
    local_is = refl;
    left_is = refl;
    rest = refl;
    on = refl;
    unshaped = refl;
    kids = k;
    before = column_types fs n;
    behind = [];
    split = sym (append-nil (column_types fs n));
    place = refl;
    typed = tt;
    same = refl;
  })

  groups_begun : (q : Seed) (hs : Tree) (mind : Mind) (l : Local) (t : Ty) (weight : ChunkData → ℕ) → q.type ≡ t → types_of hs ≡ t ∷ [] → Groups mind [] q [] [] l false hs mind l t weight [] []
  groups_begun q hs mind l t weight ty k = record { mind_is = refl; local_is = refl; left_is = refl; rest = refl; on = refl; unshaped = refl; type_is = ty; kids = k; typed = tt }

  groups_stage : (r : Grouping) (t : Ty) (k : Form) (m : Bool) (name : List ℕ) (e : Eof) (d : Fuel) (hs : Tree) (ks : Tasks) → form_type k ≡ t → types_of hs ≡ form_type k ∷ []
      → Stage s d (first_mind (grouped_form r t k) m e) [] ks (seed_of (grouped_form r t k) m name e) [] [] (local_of (grouped_form r t k) m name e) false hs
  groups_stage (by_blocks o) t k m name e d hs ks ty one =
      let n : GroupedNode = record { name = name; mark = m; type = t; child = k; eof = e } in
      regroups_rows o n [] None 0 [] tt refl
      (groups_begun (seed_of (grouped_form (by_blocks o) t k) m name e) hs (by_block (block_len o t) o.minimum t [] None 0) (blocks_local o n [] None 0) t (λ p. 0) ty (one ∙ ap (λ z. z ∷ []) ty))
  groups_stage (by_bytes size) t k m name e d hs ks ty one =
      let n : GroupedNode = record { name = name; mark = m; type = t; child = k; eof = e } in
      regroups_chunks size n [] None 0 [] tt tt refl
      (groups_begun (seed_of (grouped_form (by_bytes size) t k) m name e) hs (by_size size [] None 0) (bytes_local size n [] None 0) t held ty (one ∙ ap (λ z. z ∷ []) ty))
  groups_stage into_one t k m name e d hs ks ty one =
      let n : GroupedNode = record { name = name; mark = m; type = t; child = k; eof = e } in
      collects n None 0 (groups_begun (seed_of (grouped_form into_one t k) m name e) hs (as_one t None 0) (collect_local n None 0) t (λ p. 0) ty (one ∙ ap (λ z. z ∷ []) ty))

  -- its child is started with it
  groups_kid : (r : Grouping) (t : Ty) (k : Form) (m : Bool) (name : List ℕ) (e : Eof) → firsts (seed_of (grouped_form r t k) m name e) ≡ seed_of k m (under name 0) e ∷ []
  groups_kid (by_blocks o) t k m name e = refl
  groups_kid (by_bytes size) t k m name e = refl
  groups_kid into_one t k m name e = refl

  mutual
    pub begun : (f : Form) (m : Bool) (name : List ℕ) (e : Eof) (d : Fuel) → Suited f → start_fault s f m ≡ None → Enough d f
        → (Stage s d (first_mind f m e) [] (first_kids f m name e) (seed_of f m name e) [] [] (local_of f m name e) false (sprout d quiet 0 (firsts (seed_of f m name e)))
        × Shows s number d (seed_of f m name e) 0 (first_kids f m name e) (sprout d quiet 0 (firsts (seed_of f m name e))))
    begun (flat_form o t) m name e d b f n = (
      waits_first o t refl (record { mind_is = refl; local_is = refl; idle = refl; rest = refl; on = refl; unshaped = refl }),
      none_begun d (seed_of (flat_form o t) m name e),
    )
    begun (chunked_form t k) m name e spent b f n = absurd n
    begun (chunked_form t k) m name e (fuel g) b f n = (
      splits (record { name = name; mark = m; type = t; child = k }) e refl refl refl b n (inl refl) (record { mind_is = refl; local_is = refl; idle = refl; rest = refl; on = refl; unshaped = refl }),
      tt,
    )
    begun (struct_form fs n (Some a) v ks) m name e d b f h = absurd (none_some (duplicate_field a) (sym f))
    begun (struct_form fs n None v ks) m name e spent b f h = absurd h
    begun (struct_form fs true None v ks) m name e (fuel g) b f h =
        let q : Seed = seed_of (struct_form fs true None v ks) m name e in
        let no : (start_fault s v m ≡ None) × (start_faults s ks (m || true) ≡ None) = or_none (start_fault s v m) (start_faults s ks (m || true)) f in
        let k : Columns ks fs (m || true) name 1 (next e) g q = fields_begun ks fs (m || true) name 1 (next e) g q refl b.2 no.1 h.1 in (
          columns_stage fs true ((m, v) ∷ marked_forms (m || true) ks) name e q (fuel g) (sprout (fuel g) quiet 0 (firsts q)) (first_kids (struct_form fs true None v ks) m name e) refl
              (ap (λ z. z ∷ types_of (sprout (fuel g) quiet 1 (column_seeds name 1 (marked_forms (m || true) ks) (next e)))) b.0 ∙ ap (λ z. boolean false ∷ z) k.1) (ap suc k.2),
          (alike q 0 v m (under name 0) (inside e) [] false refl tt, inl (begun v m (under name 0) (inside e) (g (form_type v)) b.1 no.0 h.0), k.0),
        )
    begun (struct_form fs false None v ks) m name e (fuel g) b f h =
        let q : Seed = seed_of (struct_form fs false None v ks) m name e in
        let k : Columns ks fs (m || false) name 0 e g q = fields_begun ks fs (m || false) name 0 e g q refl b.2 f h.1 in (
          columns_stage fs false (marked_forms (m || false) ks) name e q (fuel g) (sprout (fuel g) quiet 0 (firsts q)) (first_kids (struct_form fs false None v ks) m name e) refl k.1 k.2,
          k.0,
        )
    begun (no_struct_form t) m name e d b f n = absurd (none_some not_struct (sym f))
    begun (grouped_form r t k) m name e spent b f n = absurd n
    begun (grouped_form r t k) m name e (fuel g) b f n =
        let q : Seed = seed_of (grouped_form r t k) m name e in
        subst (λ z. Stage s (fuel g) (first_mind (grouped_form r t k) m e) [] (first_kids (grouped_form r t k) m name e) q [] [] (local_of (grouped_form r t k) m name e) false (sprout (fuel g) quiet 0 z)
        × Shows s number (fuel g) q 0 (first_kids (grouped_form r t k) m name e) (sprout (fuel g) quiet 0 z)) (sym (groups_kid r t k m name e)) (
          groups_stage r t k m name e (fuel g) (sprout (fuel g) quiet 0 (seed_of k m (under name 0) e ∷ [])) (first_kids (grouped_form r t k) m name e) b.0 refl,
          (alike q 0 k m (under name 0) e [] false refl tt, inl (begun k m (under name 0) e (g (form_type k)) b.1 f n), tt),
        )
    begun (compressed_form which room t k) m name e spent b f n = absurd n
    begun (compressed_form which room t k) m name e (fuel g) b f n =
        let node : CompressedNode = record { name = name; mark = m; which = which; room = room; child = k; eof = e } in
        let q : Seed = seed_of (compressed_form which room t k) m name e in (
          pressed node (form_type k) [] (groups_begun q (sprout (fuel g) quiet 0 (firsts q)) (by_image which) (compressed_local node) (form_type k) (λ p. 0) refl refl),
          (
            record { name = refl; inbox = refl; closed = refl; places = refl; typed = tt },
            inl (outlet_begun s number node (g (form_type k)) n (λ x h. begun k m (under name 1) e x b.1 f h)),
            tt,
          ),
        )
    begun (dict_form o t c v w) m name e d b f n = (
      asks_first (record { name = name; mark = m; options = o; type = t; codes = c; values = v; fallback = w; eof = e })
          (record { name_is = refl; type_is = refl; spare = refl; suited = b; enough = n }) refl (record { mind_is = refl; local_is = refl; idle = refl; rest = refl; on = refl; unshaped = refl }),
      none_begun d (seed_of (dict_form o t c v w) m name e),
    )
    begun (zoned_form o t k stats) true name e spent b f n = absurd n
    begun (zoned_form o t k stats) true name e (fuel g) b f n = begun k true name e (fuel g) b.1 f n.0
    begun (zoned_form o t k stats) false name e spent b f n = absurd n
    begun (zoned_form o t k stats) false name e (fuel g) b f n =
        let no : (first_what (forbidden_faults s.allowed (recorded o t)) ≡ None) × (start_fault s k false ≡ None) = or_none (first_what (forbidden_faults s.allowed (recorded o t))) (start_fault s k false) f in
        let own : ℕ = local_rows (local_of k false (under name 0) (inside e)) (0 + rows_of (sprout (g (form_type k)) quiet 0 (firsts (seed_of k false (under name 0) (inside e))))) in
        let z : own ≡ 0 = fresh_rows k false (under name 0) (inside e) (g (form_type k)) b.1 in
        let rows : 0 ≡ 0 + ((own + 0) + 0) = omega (arith, z) in (
          records_zones (record { name = name; options = o; type = t; child = k; table = stats; eof = e }) (no_zones (zoner o t stats)) []
              (record { named = refl; type_is = b.0; spare = refl; suited = b; enough = n }) (ap (λ z. z ∷ []) b.0) rows tt
              (record { mind_is = refl; local_is = refl; left_is = refl; rest = refl; on = refl; unshaped = refl }),
          (record { name = refl; inbox = refl; closed = refl; places = refl; typed = tt }, inl (begun k false (under name 0) (inside e) (g (form_type k)) b.1 no.1 n.1), tt),
        )
    begun (list_form t n es os v) m name e spent b f h = absurd h
    begun (list_form t true es os v) m name e (fuel g) b f h =
        let q : Seed = seed_of (list_form t true es os v) m name e in
        let x : (start_fault s es m ≡ None) × (or_else (start_fault s os m) (start_fault s v m) ≡ None) = or_none (start_fault s es m) (or_else (start_fault s os m) (start_fault s v m)) f in
        let y : (start_fault s os m ≡ None) × (start_fault s v m ≡ None) = or_none (start_fault s os m) (start_fault s v m) x.1 in
        let k : Row (first_kids (list_form t true es os v) m name e) (firsts q) 0 g q (list_types t true) =
        row_then es m name 0 e g q t (column os m name 1 (next e) (column v m name 2 (next (next e)) no_tasks)) (column_seeds name 1 ((m, os) ∷ (m, v) ∷ []) (next e)) (offset_type ∷ boolean false ∷ []) refl b.0
        (begun es m (under name 0) (inside e) (g (form_type es)) b.1 x.0 h.0)
        (row_then os m name 1 (next e) g q offset_type (column v m name 2 (next (next e)) no_tasks) (column_seeds name 2 ((m, v) ∷ []) (next (next e))) (boolean false ∷ []) refl b.2 (begun os m (under name 1) (inside (next e)) (g (form_type os)) b.3 y.0 h.1)
        (row_then v m name 2 (next (next e)) g q (boolean false) no_tasks [] [] refl b.4 (begun v m (under name 2) (inside (next (next e))) (g (form_type v)) b.5 y.1 h.2) (tt, refl))) in (
          lists_stage t true ((m, es) ∷ (m, os) ∷ (m, v) ∷ []) name e q (fuel g) (sprout (fuel g) quiet 0 (firsts q)) (first_kids (list_form t true es os v) m name e) refl k.1 refl,
          k.0,
        )
    begun (list_form t false es os v) m name e (fuel g) b f h =
        let q : Seed = seed_of (list_form t false es os v) m name e in
        let x : (start_fault s es m ≡ None) × (or_else (start_fault s os m) None ≡ None) = or_none (start_fault s es m) (or_else (start_fault s os m) None) f in
        let y : (start_fault s os m ≡ None) × (None ≡ None) = or_none (start_fault s os m) None x.1 in
        let k : Row (first_kids (list_form t false es os v) m name e) (firsts q) 0 g q (list_types t false) =
        row_then es m name 0 e g q t (column os m name 1 (next e) no_tasks) (column_seeds name 1 ((m, os) ∷ []) (next e)) (offset_type ∷ []) refl b.0
        (begun es m (under name 0) (inside e) (g (form_type es)) b.1 x.0 h.0)
        (row_then os m name 1 (next e) g q offset_type no_tasks [] [] refl b.2 (begun os m (under name 1) (inside (next e)) (g (form_type os)) b.3 y.0 h.1) (tt, refl)) in (
          lists_stage t false ((m, es) ∷ (m, os) ∷ []) name e q (fuel g) (sprout (fuel g) quiet 0 (firsts q)) (first_kids (list_form t false es os v) m name e) refl k.1 refl,
          k.0,
        )

    fields_begun : (ks : Forms) (fs : Tys) (m : Bool) (name : List ℕ) (c : ℕ) (e : Eof) (g : Ty → Fuel) (q : Seed) → q.spare ≡ [] → AllSuited fs ks → start_faults s ks m ≡ None → AllEnough g ks
        → Columns ks fs m name c e g q
    fields_begun no_forms no_fields m name c e g q sp b f n = (tt, refl, refl)
    fields_begun no_forms (field a t fs) m name c e g q sp b f n = absurd b
    fields_begun (form_then k ks) no_fields m name c e g q sp b f n = absurd b
    fields_begun (form_then k ks) (field a t fs) m name c e g q sp b f n =
        let no : (start_fault s k m ≡ None) × (start_faults s ks m ≡ None) = or_none (start_fault s k m) (start_faults s ks m) f in
        let l : Columns ks fs m name (suc c) (next e) g q = fields_begun ks fs m name (suc c) (next e) g q sp b.2 no.1 n.1 in (
          (alike q c k m (under name c) (inside e) [] false (ap (λ z. get_or z c 0) sp) tt, inl (begun k m (under name c) (inside e) (g (form_type k)) b.1 no.0 n.0), l.0),
          ap (λ z. z ∷ types_of (sprout (fuel g) quiet (suc c) (column_seeds name (suc c) (marked_forms m ks) (next e)))) b.0 ∙ ap (λ z. t ∷ z) l.1,
          ap suc l.2,
        )

  -- the task alone, with this queue
  pub task_begun : (g : Ty → Fuel) (q : Seed) (j : ℕ) (f : Form) (m : Bool) (name : List ℕ) (e : Eof) (xs : List Item) (closed : Bool) → get_or q.spare j 0 ≡ 0 → AllTyped (form_type f) xs → Suited f
      → start_fault s f m ≡ None → Enough (g (form_type f)) f
      → Shows s number (fuel g) q j (started_task f m name e xs closed)
      (Work (fresh (seed_of f m name e) xs closed) (sprout (g (form_type f)) quiet 0 (firsts (seed_of f m name e))) Leaf)
  task_begun g q j f m name e xs closed sp ty b n h = (alike q j f m name e xs closed sp ty, inl (begun f m name e (g (form_type f)) b n h), tt)

-- ---- how far pointers come

column_length : (ks : Forms) (m : Bool) → length (marked_forms m ks) ≡ form_count ks
column_length no_forms m = refl
column_length (form_then k ks) m = ap suc (column_length ks m)

-- one more column
pub one_opened : (f : Form) (m : Bool) (name : List ℕ) (c : ℕ) (e : Eof) (g : Ty → Fuel) (qs : List Seed) (xs ys : List ℕ)
    → start_indices (local_of f m (under name c) (inside e)) ++ opened (g (form_type f)) (firsts (seed_of f m (under name c) (inside e))) ≡ xs → opened (fuel g) qs ≡ ys
    → opened (fuel g) (seed_of f m (under name c) (inside e) ∷ qs) ≡ xs ++ ys
one_opened f m name c e g qs xs ys h k =
    sym (append_assoc (start_indices (local_of f m (under name c) (inside e))) (opened (g (form_type f)) (firsts (seed_of f m (under name c) (inside e)))) (opened (fuel g) qs))
    ∙ ap (λ z. z ++ opened (fuel g) qs) h ∙ ap (λ z. xs ++ z) k

-- an only child gets the pointer itself
pub kid_opened : (k : Form) (m : Bool) (name : List ℕ) (e : Eof) (g : Ty → Fuel)
    → start_indices (local_of k m (under name 0) e) ++ opened (g (form_type k)) (firsts (seed_of k m (under name 0) e)) ≡ first_indices k m e
    → opened (fuel g) (seed_of k m (under name 0) e ∷ []) ≡ first_indices k m e
kid_opened k m name e g h = ap (λ z. start_indices (local_of k m (under name 0) e) ++ z) (append-nil (opened (g (form_type k)) (firsts (seed_of k m (under name 0) e)))) ∙ h

mutual
  pub opened_is : (f : Form) (m : Bool) (name : List ℕ) (e : Eof) (d : Fuel) → Suited f → Enough d f
      → start_indices (local_of f m name e) ++ opened d (firsts (seed_of f m name e)) ≡ first_indices f m e
  opened_is (flat_form o t) m name e d b n = opened_none d
  opened_is (chunked_form t k) m name e d b n = opened_none d
  opened_is (struct_form fs n (Some a) v ks) m name e d b h = opened_none d
  opened_is (struct_form fs n None v ks) m name e spent b h = absurd h
  opened_is (struct_form fs true None v ks) m name e (fuel g) b h =
      let a : List ℕ = start_indices (local_of v m (under name 0) (inside e)) in
      let z : List ℕ = opened (g (form_type v)) (firsts (seed_of v m (under name 0) (inside e))) in
      let r : List ℕ = opened (fuel g) (column_seeds name 1 (marked_forms (m || true) ks) (next e)) in
      ap (λ y. (e.last + y) ∷ (a ++ (z ++ r))) (ap suc (column_length ks (m || true)))
      ∙ ap (λ y. (e.last + suc (form_count ks)) ∷ y)
      (sym (append_assoc a z r) ∙ ap (λ y. y ++ r) (opened_is v m (under name 0) (inside e) (g (form_type v)) b.1 h.0)
      ∙ ap (λ y. first_indices v m (inside e) ++ y) (fields_opened ks fs (m || true) name 1 (next e) g b.2 h.1))
  opened_is (struct_form fs false None v ks) m name e (fuel g) b h =
      ap (λ y. (e.last + y) ∷ opened (fuel g) (column_seeds name 0 (marked_forms (m || false) ks) e)) (column_length ks (m || false))
      ∙ ap (λ y. (e.last + form_count ks) ∷ y) (fields_opened ks fs (m || false) name 0 e g b.2 h.1)
  opened_is (no_struct_form t) m name e d b n = opened_none d
  opened_is (grouped_form r t k) m name e spent b n = absurd n
  opened_is (grouped_form (by_blocks o) t k) m name e (fuel g) b n = kid_opened k m name e g (opened_is k m (under name 0) e (g (form_type k)) b.1 n)
  opened_is (grouped_form (by_bytes size) t k) m name e (fuel g) b n = kid_opened k m name e g (opened_is k m (under name 0) e (g (form_type k)) b.1 n)
  opened_is (grouped_form into_one t k) m name e (fuel g) b n = kid_opened k m name e g (opened_is k m (under name 0) e (g (form_type k)) b.1 n)
  opened_is (compressed_form which room t k) m name e spent b n = absurd n
  opened_is (compressed_form which room t k) m name e (fuel g) b n =
      append-nil (opened (g (form_type k)) (seed_of k m (under name 1) e ∷ []))
      ∙ outlet_opened (record { name = name; mark = m; which = which; room = room; child = k; eof = e }) (g (form_type k)) n (λ x h. opened_is k m (under name 1) e x b.1 h)
  opened_is (dict_form o t c v w) m name e d b n = opened_none d
  opened_is (zoned_form o t k stats) true name e spent b n = absurd n
  opened_is (zoned_form o t k stats) true name e (fuel g) b n = opened_is k true name e (fuel g) b.1 n.0
  opened_is (zoned_form o t k stats) false name e spent b n = absurd n
  opened_is (zoned_form o t k stats) false name e (fuel g) b n =
      ap (λ y. (e.last + 1) ∷ y) (kid_opened k false name (inside e) g (opened_is k false (under name 0) (inside e) (g (form_type k)) b.1 n.1))
  opened_is (list_form t n es os v) m name e spent b h = absurd h
  opened_is (list_form t true es os v) m name e (fuel g) b h =
      ap (λ y. (e.last + 3) ∷ y) (one_opened es m name 0 e g (column_seeds name 1 ((m, os) ∷ (m, v) ∷ []) (next e)) (first_indices es m (inside e)) (first_indices os m (inside (next e)) ++ first_indices v m (inside (next (next e))))
      (opened_is es m (under name 0) (inside e) (g (form_type es)) b.1 h.0)
      (one_opened os m name 1 (next e) g (column_seeds name 2 ((m, v) ∷ []) (next (next e))) (first_indices os m (inside (next e))) (first_indices v m (inside (next (next e))))
      (opened_is os m (under name 1) (inside (next e)) (g (form_type os)) b.3 h.1)
      (one_opened v m name 2 (next (next e)) g [] (first_indices v m (inside (next (next e)))) []
      (opened_is v m (under name 2) (inside (next (next e))) (g (form_type v)) b.5 h.2) refl ∙ append-nil (first_indices v m (inside (next (next e)))))))
  opened_is (list_form t false es os v) m name e (fuel g) b h =
      ap (λ y. (e.last + 2) ∷ y) (one_opened es m name 0 e g (column_seeds name 1 ((m, os) ∷ []) (next e)) (first_indices es m (inside e)) (first_indices os m (inside (next e)))
      (opened_is es m (under name 0) (inside e) (g (form_type es)) b.1 h.0)
      (one_opened os m name 1 (next e) g [] (first_indices os m (inside (next e))) []
      (opened_is os m (under name 1) (inside (next e)) (g (form_type os)) b.3 h.1) refl ∙ append-nil (first_indices os m (inside (next e)))))

  fields_opened : (ks : Forms) (fs : Tys) (m : Bool) (name : List ℕ) (c : ℕ) (e : Eof) (g : Ty → Fuel) → AllSuited fs ks → AllEnough g ks
      → opened (fuel g) (column_seeds name c (marked_forms m ks) e) ≡ field_indices ks m e
  fields_opened no_forms no_fields m name c e g b n = refl
  fields_opened no_forms (field a t fs) m name c e g b n = absurd b
  fields_opened (form_then k ks) no_fields m name c e g b n = absurd b
  fields_opened (form_then k ks) (field a t fs) m name c e g b n =
      let x : List ℕ = start_indices (local_of k m (under name c) (inside e)) in
      let z : List ℕ = opened (g (form_type k)) (firsts (seed_of k m (under name c) (inside e))) in
      let r : List ℕ = opened (fuel g) (column_seeds name (suc c) (marked_forms m ks) (next e)) in
      sym (append_assoc x z r) ∙ ap (λ y. y ++ r) (opened_is k m (under name c) (inside e) (g (form_type k)) b.1 n.0)
      ∙ ap (λ y. first_indices k m (inside e) ++ y) (fields_opened ks fs m name (suc c) (next e) g b.2 n.1)
