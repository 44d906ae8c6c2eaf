-- A zoned node's tasks are good: its first join holds the pointer that all of its data child's paths are below.
use Rattle.std.proofs.Common.{◌≡◌, ℕ, zero, suc, ◌+◌, ◌<◌, inl, inr, ⊎_elim, Bool, true, false, nat_eq, ◌||◌, List, [], ◌∷◌, ◌++◌, length, Option, Some, None, refl, sym, ◌∙◌, subst, arith}
use Rattle.std.proofs.lemmas.Bool.{true≢false}
use Rattle.vx_model.specs.Ty.{Ty}
use Rattle.vx_model.specs.ValueData.{ValueData}
use Rattle.vx_model.specs.ChunkData.{row_values}
use Rattle.vx_path.specs.Lists.{In}
use Rattle.vx_path.specs.Path.{begins, meets, under, path_lt, raised, Eof, inside, next, Region, Before}
use Rattle.vx_path.proofs.Path.{begins-refl, begins-under, raised_lt, raised_apart, raised-next, region_inside, region_next, region_below}
use Rattle.vx_zone_spec.specs.Record.{zone_record}
use Rattle.vx_zone_spec.specs.ZoneTable.{Filled, kept_columns, table_type}
use Rattle.vx_tasks.specs.Task.{Task, Forest}
use Rattle.vx_tasks.specs.Task.{Prompt}
use Rattle.vx_tasks.specs.Task.Kind.{Free, TakeEnd, Put, Join}
use Rattle.vx_tasks.specs.Task.Forest.{Bare, Node}
use Rattle.vx_tasks.specs.Rules.{AllHeld}
use Rattle.vx_tasks.specs.Good.{Good}
use Rattle.vx_tasks.specs.Joins.{Under, Joins}
use Rattle.vx_tasks.specs.Many.{AllGood}
use Rattle.vx_tasks.proofs.Befores.{before_from, before_inside}
use Rattle.vx_tasks.proofs.Fit.{held_where}
use Rattle.vx_strategy_spec.specs.StrategyData.{ZonedOptions}
use Rattle.vx_plan.specs.PlanData.{Setting, Item, places, rows_in}
use Rattle.vx_plan.specs.ZonedNode.{table_items, table_of}
use Rattle.vx_machine_turns.specs.Forms.{Form, zoned_form, form_type}
use Rattle.vx_machine_turns.specs.Locals.{ZonedNode, zoned_local}
use Rattle.vx_machine_turns.specs.Acts.{Act}
use Rattle.vx_machine_turns.specs.Starts.{seed_of, local_of}
use Rattle.vx_machine_turns.specs.Zoned.{zone_columns, zoned_end, zoned_ends}
use Rattle.vx_machine_turns.specs.Scripts.{as_kind, filled, script}
use Rattle.vx_machine_turns.specs.Fuels.{Fuel, spent, fuel, Enough}
use Rattle.vx_machine_turns.specs.Plain.{plain, task_of, script_reading}
use Rattle.vx_machine_turns.specs.Duties.{Duty, duty_of, duty_script, below, grown}
use Rattle.vx_machine_turns.proofs.DutyLaws.{below_is}
use Rattle.vx_machine_turns.proofs.TidyLaws.{scripts_are_tidy}
use Rattle.vx_machine_turns.proofs.ZonedLaws.{table_duties, zoned_duties, zoned_streams}
use Rattle.vx_machine_turns.proofs.GoodLaws.{StillLast, AllPlaced, OnceEnded, many_duties, node_good}
use Rattle.vx_machine_turns.proofs.JoinLaws.{not_still, take_join, end_join}
use Rattle.vx_machine_turns.proofs.GoodNodes.{IsGood}

put_join : {c : ℕ} → Put c ≡ Join → ⊥
put_join h = cc

free_join : {w : Prompt} → Free w ≡ Join → ⊥
free_join h = cc

module _ (s : Setting) (n : ZonedNode) where
  abbrev S : List (List ValueData) → ℕ → ℕ → ℕ → List Item → Bool → List Act
  S records last zones rows items ended = script s (zoned_local n records last zones rows) items ended

  abbrev at_end : ℕ → ℕ → Option (List Filled) → List Act
  at_end zones rows table = filled [] (as_kind TakeEnd (zoned_end n zones rows table) ∷ zoned_ends s n zones table)

  end_last : (zones rows : ℕ) (table : Option (List Filled)) → StillLast 1 (at_end zones rows table)
  end_last zones rows None = ((λ q. not_still _ q), ((λ q. not_still _ q), ((λ q j l. refl), tt)))
  end_last zones rows (Some cs) = ((λ q. not_still _ q), ((λ q. not_still _ q), ((λ q j l. only j l), ((λ q j l. refl), tt))))
    where
      only : (j : ℕ) → j < 1 → ((nat_eq 1 j || false) || false) ≡ false
      only zero l = refl
      only (suc j) l = absurd (omega (arith, l))

  zones_last : (items : List Item) (records : List (List ValueData)) (last zones rows : ℕ) (ended : Bool) → StillLast 1 (S records last zones rows items ended)
  zones_last [] records last zones rows true = end_last zones rows (kept_columns (zone_columns n) records)
  zones_last [] records last zones rows false = tt
  zones_last (i ∷ is) records last zones rows ended =
      ((λ q. not_still _ q), ((λ q. not_still _ q), zones_last is (records ++ (zone_record s.hash n.type (row_values i.1) (zone_columns n) ∷ [])) (rows_in i.1) (suc zones) (rows + rows_in i.1) ended))

  module _ (kids : Forest) (above : (m : List ℕ) → In m (raised n.eof 1 ∷ []) → Under m (0 ∷ []) 0 kids) where
    end_joins : (zones rows : ℕ) (table : Option (List Filled)) → Joins kids (0 ∷ []) (raised n.eof 1 ∷ []) (plain 1 (at_end zones rows table))
    end_joins zones rows None = ((λ q. absurd (end_join q)), ((λ q. absurd (free_join q)), ((λ q m i. above m i), tt)))
    end_joins zones rows (Some cs) = ((λ q. absurd (end_join q)), ((λ q. absurd (free_join q)), ((λ q m i. above m i), ((λ q m i. absurd i), tt))))

    zones_join : (items : List Item) (records : List (List ValueData)) (last zones rows : ℕ) (ended : Bool) → Joins kids (0 ∷ []) (raised n.eof 1 ∷ []) (plain 1 (S records last zones rows items ended))
    zones_join [] records last zones rows true = end_joins zones rows (kept_columns (zone_columns n) records)
    zones_join [] records last zones rows false = tt
    zones_join (i ∷ is) records last zones rows ended =
        ((λ q. absurd (take_join q)), ((λ q. absurd (put_join q)), zones_join is (records ++ (zone_record s.hash n.type (row_values i.1) (zone_columns n) ∷ [])) (rows_in i.1) (suc zones) (rows + rows_in i.1) ended))

-- ---- where the table stands

pointer_before : (e : Eof) → Before (raised e 1 ∷ []) (next (next e))
pointer_before e p i j = ⊎_elim (λ z. subst (λ y. (path_lt y (raised (next (next e)) j) ≡ true) × (meets y (raised (next (next e)) j) ≡ false)) (sym z) at) (λ z. absurd z) i
  where
    far : raised (next (next e)) j ≡ raised e (j + 1 + 1)
    far = raised-next (next e) j ∙ raised-next e (j + 1)

    at : (path_lt (raised e 1) (raised (next (next e)) j) ≡ true) × (meets (raised e 1) (raised (next (next e)) j) ≡ false)
    at = subst (λ y. (path_lt (raised e 1) y ≡ true) × (meets (raised e 1) y ≡ false)) (sym far) (raised_lt e 1 (j + 1 + 1) (omega arith), raised_apart e 1 (j + 1 + 1) (omega arith))

table_before : (e : Eof) → Before (under (raised e 1) 0 ∷ []) (next (next e))
table_before e = before_from (under (raised e 1) 0 ∷ []) (raised e 1 ∷ []) (next (next e))
    (λ p i. (raised e 1, inl refl, ⊎_elim (λ z. subst (λ y. begins (raised e 1) y ≡ true) (sym z) (begins-under (raised e 1) 0)) (λ z. absurd z) i)) (pointer_before e)

own_region : (ps : List (List ℕ)) (e : Eof) (i : ℕ) → Region ps e (raised e i)
own_region ps e i = inr (i, begins-refl (raised e i))

module _ (s : Setting) (n : ZonedNode) (items : List Item) (ended : Bool) (g : Ty → Fuel) where
  tables_placed : (table : Option (List Filled)) → AllPlaced (places items) n.eof (table_duties s n (length items) table)
  tables_placed None = tt
  tables_placed (Some cs) = (
    refl,
    (λ i. region_next (places items) n.eof (raised (next (next n.eof)) i) (region_next (places items) (next n.eof) (raised (next (next n.eof)) i) (own_region (places items) (next (next n.eof)) i))),
    tt,
  )

  tables_end : (table : Option (List Filled)) → OnceEnded ended (table_duties s n (length items) table)
  tables_end None = tt
  tables_end (Some cs) = ((λ z. refl), tt)

  tables_good : ((u : Ty) → IsGood s (n.table u)) → ((u : Ty) → Enough (g (form_type (n.table u))) (n.table u)) → (table : Option (List Filled)) → AllGood n.name 1 (many_duties (table_duties s n (length items) table)) (grown s script_reading g (table_duties s n (length items) table))
  tables_good h enough None = tt
  tables_good h enough (Some cs) = (
    h (table_type cs) false (under n.name 1) (table_items cs (length items) n.eof) true (next (next n.eof)) (g (form_type (n.table (table_type cs)))) (enough (table_type cs)) (table_before n.eof),
    tt,
  )

  -- the data child and all below it are below the pointer, and no other child is started by then
  data_under : (m : List ℕ) → m ≡ raised n.eof 1 → Before (places items) n.eof → (c : Task) (kk : Forest) → Good (under n.name 0) (places items) ended (inside n.eof) c kk → (table : Option (List Filled))
      → Under m (0 ∷ []) 0 (Node c kk (grown s script_reading g (table_duties s n (length items) table)))
  data_under m q b c kk h table = (
    (λ z. subst (λ y. AllHeld (λ x. path_lt x y ≡ true) (Node c kk Bare)) (sym q)
        (held_where (Region (places items) (inside n.eof)) (λ x. path_lt x (raised n.eof 1) ≡ true) (Node c kk Bare) (λ x r. region_below (places items) n.eof x b r) h.region)),
    others table,
  )
    where
      others : (table : Option (List Filled)) → Under m (0 ∷ []) 1 (grown s script_reading g (table_duties s n (length items) table))
      others None = tt
      others (Some cs) = ((λ z. absurd (true≢false (sym z))), tt)

pub zoned_good : (s : Setting) (o : ZonedOptions) (t : Ty) (k : Form) (stats : Ty → Form) → IsGood s k → ((u : Ty) → IsGood s (stats u)) → IsGood s (zoned_form o t k stats)
zoned_good s o t k stats h hs m name items ended e spent enough b = absurd enough
zoned_good s o t k stats h hs true name items ended e (fuel g) enough b = h true name items ended e (fuel g) enough.0 b
zoned_good s o t k stats h hs false name items ended e (fuel g) enough b =
    let n : ZonedNode = record { name = name; options = o; type = t; child = k; table = stats; eof = e } in
    let f : Form = zoned_form o t k stats in
    let table : Option (List Filled) = table_of s o t items ended in
    let cs : List Duty = zoned_duties s n items ended table in
    let c : Duty = duty_of s k false (under name 0) items ended (inside e) in
    let kids : Forest = grown s script_reading g cs in
    let streams = zoned_streams s n items ended in
    let inner : Good (under name 0) (places items) ended (inside e) (task_of c.seed (duty_script s c)) (below s script_reading (g (form_type k)) c) =
    h false (under name 0) items ended (inside e) (g (form_type k)) enough.1 (before_inside (places items) e b) in
    subst (λ z. Good name (places items) ended e (task_of (seed_of f false name e) (script s (local_of f false name e) items ended)) z) (sym (below_is s script_reading g (duty_of s f false name items ended e) cs streams.0 streams.1))
    (node_good s (seed_of f false name e) cs items ended e kids (record {
      eof_is = refl;
      at = refl;
      tidy = scripts_are_tidy s (local_of f false name e) items ended;
      seeds_are = streams.0;
      given_are = streams.1;
      last = zones_last s n items [] o.zone_len 0 0 ended;
      ends = ((λ z. z), tables_end s n items ended g table);
      held = λ x i. ⊎_elim (λ z. subst (λ y. Region (places items) e y) (sym z) (own_region (places items) e 1)) (λ z. absurd z) i;
      placed = (refl, (λ i. region_inside (places items) e (raised (inside e) i) (own_region (places items) (inside e) i)), tables_placed s n items ended g table);
      joins = zones_join s n kids (λ m i. data_under s n items ended g m (⊎_elim (λ z. z) (λ z. absurd z) i) b (task_of c.seed (duty_script s c)) (below s script_reading (g (form_type k)) c) inner table) items [] o.zone_len 0 0 ended;
    }) (inner, tables_good s n items ended g hs enough.2 table))
