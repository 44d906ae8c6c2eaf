-- How zoned, compressing and dictionary nodes start.
use Rattle.std.proofs.Common.{◌≡◌, ℕ, ◌+◌, ◌-◌, ◌<◌, Bool, true, false, if◌then◌else◌, List, [], ◌∷◌, Option, Some, None, refl, sym, ap, subst, ◌∙◌, arith}
use Rattle.std.proofs.lemmas.Bool.{true≢false}
use Rattle.std.specs.Arc.{arc_value}
use Rattle.vx_model.specs.Ty.{Ty, boolean, primitive, utf8, binary, list, struct, extension}
use Rattle.vx_model.specs.TyView.{ty}
use Rattle.vx_model.specs.ChunkData.{is_dict_type}
use Rattle.vx_path.specs.Path.{Eof, under, inside, next}
use Rattle.vx_rules.specs.Runs.{DictOptions, code_type}
use Rattle.vx_strategy_spec.specs.StrategyData.{StrategyData, ZonedOptions, coded, zoned}
use Rattle.vx_strategy_options.specs.RuleViews.{zone_rule}
use Rattle.vx_strategy.specs.declared.zoned.ZonedStrategy.{ZonedStrategy}
use Rattle.vx_strategy.specs.NodeViews.{zoned_way}
use Rattle.vx_table_dispatch.specs.Settled.{passes_on}
use Rattle.vx_plan.specs.PlanData.{Setting, Fault, What, forbidden_aggregate}
use Rattle.vx_plan.specs.SourcePlan.{first_what}
use Rattle.vx_plan.specs.ZonedNode.{recorded, forbidden_faults}
use Rattle.vx_machine_turns.specs.Acts.{or_else}
use Rattle.vx_machine_turns.specs.Forms.{Form, dict_form, zoned_form}
use Rattle.vx_machine_turns.specs.Starts.{start_fault}
use Rattle.vx_machine_state.specs.State.{Desk, Tasks, no_tasks, task_then, by_zone}
use Rattle.vx_machine_state.specs.Zoned.{Zones, zoner, no_zones}
use Rattle.vx_machine_state.specs.Start.{waiting, roomy, outlet_desk, first_mind, first_kids, first_indices}
use Rattle.vx_write_answer.specs.declared.error.WriteError.{WriteError}
use Rattle.vx_write_answer.specs.declared.error.WriteError.TheVariants.{SourceFault, SinkFault, CompressFault, BatchType, NotStruct, DuplicateField, ManyChunks, EmptyList, ZoneCut, ForbiddenAggregate, ForbiddenEncoding, TooLarge, OutOfMemory, Stopped}
use Rattle.vx_machine_node.specs.Context.{Allowed}
use Rattle.vx_machine_fresh.specs.Fresh.{BeginsZones, ZonesRefused}
use Rattle.vx_machine_node.specs.Outcome.{AllFit}
use Rattle.vx_machine_node.specs.View.{form_at, mind_of, zoner_in, zones_in}
use Rattle.vx_machine_node.specs.declared.zoned_node.ZonedNode.{ZonedNode}
use Rattle.vx_machine_node.specs.declared.node.Local.{Local}
use Rattle.vx_machine_node.specs.declared.node.Local.TheVariants.{Zoned}
use Rattle.vx_machine_task.specs.declared.task.Task.{Task, out-Task}
use Rattle.vx_machine_task.specs.declared.task.Task.TheOpen.{Task-F}
use Rattle.vx_machine_task.specs.declared.task.Task.TheViews.{roll-Task}
use Rattle.vx_machine_start.specs.Starting.{IsAllowed, Started, StartRefused, FormRefused, OneRefused, DataStarted, OutletStarted}
use Rattle.vx_machine_task.specs.View.{desk_of, task_row, row}
use Rattle.vx_machine_node.proofs.Fitting.{none_fit}
use Rattle.vx_machine_start.proofs.StartRows.{one_refused}
use Rattle.vx_machine_start.proofs.StartShows.{refused_as, started}
use Rattle.vx_machine_task.proofs.ViewParts.{row_out, row_roll}

or_first : (x y : Option What) (w : What) → x ≡ Some w → or_else x y ≡ Some w
or_first x y w e = ap (λ z. or_else z y) e

-- ---- a zoned node, by what it records

module _ (a : Allowed) (o : ZonedOptions) (t : Ty) (f : Form) (stats : Ty → Form) (e : Eof) where
  -- what may not be recorded
  pub zones_refused : (x : WriteError) → ZonesRefused (forbidden_faults a (recorded o t)) x → FormRefused a (zoned_form o t f stats) false e x
  zones_refused (ForbiddenAggregate id) h = λ s q. or_first (first_what (forbidden_faults s.allowed (recorded o t))) (start_fault s f false) (forbidden_aggregate id) (ap (λ z. first_what (forbidden_faults z (recorded o t))) q ∙ h)
  zones_refused OutOfMemory h = tt
  zones_refused NotStruct h = absurd h
  zones_refused (DuplicateField name) h = absurd h
  zones_refused (TooLarge n) h = absurd h
  zones_refused SourceFault h = absurd h
  zones_refused SinkFault h = absurd h
  zones_refused CompressFault h = absurd h
  zones_refused (BatchType c) h = absurd h
  zones_refused ManyChunks h = absurd h
  zones_refused EmptyList h = absurd h
  zones_refused (ZoneCut n) h = absurd h
  zones_refused (ForbiddenEncoding id) h = absurd h
  zones_refused (Stopped by name) h = absurd h

  -- where all may be recorded, its faults are the child's
  module _ (none : forbidden_faults a (recorded o t) ≡ []) where
    fault_is : (s : Setting) → s.allowed ≡ a → start_fault s (zoned_form o t f stats) false ≡ start_fault s f false
    fault_is s q = ap (λ z. or_else (first_what (forbidden_faults z (recorded o t))) (start_fault s f false)) q ∙ ap (λ z. or_else (first_what z) (start_fault s f false)) none

    pub data_refused : (x : WriteError) → OneRefused a f false e x → FormRefused a (zoned_form o t f stats) false e x
    data_refused x h =
        refused_as a a (λ s. start_fault s f false) (λ s. start_fault s (zoned_form o t f stats) false) ((e.last + 1) ∷ first_indices f false (inside e)) (first_indices (zoned_form o t f stats) false e) x
        (λ s w q k. fault_is s q ∙ k s q) (λ p. p) (one_refused a f false e x h)

    zoned_allowed : IsAllowed a f false → IsAllowed a (zoned_form o t f stats) false
    zoned_allowed h s q = fault_is s q ∙ h s q

-- what it has in mind, once its pointer went on behind the data child's
zones_mind : (a : Allowed) (w : ZonedStrategy) (n : ZonedNode) (e : Eof) → BeginsZones a w n → by_zone (zoner_in n) (next e) (zones_in n) ≡ first_mind (form_at (zoned_way w) (ty (arc_value n.dtype))) false e
zones_mind a w n e b = (λ j. by_zone (b.zoner j) (next e) (b.zones j)) ∙ ap (λ z. by_zone (zoner (zone_rule w.rule) (ty (arc_value n.dtype)) (λ u. form_at w.stats.item u)) (next e) (no_zones z)) b.zoner

pub zones_started : (a : Allowed) (w : ZonedStrategy) (n m : ZonedNode) (name : List ℕ) (ks : List Task) (t : Task) → BeginsZones a w n → zoner_in m ≡ zoner_in n → zones_in m ≡ zones_in n → m.eof ≡ next n.eof
    → DataStarted a (zone_rule w.rule).concurrency (form_at w.child.item (ty (arc_value n.dtype))) name n.eof ks
    → ((r : Tasks) → task_row t r ≡ task_then (waiting name (mind_of (Zoned m)) [] false) (row ks) r) → Started a (form_at (zoned_way w) (ty (arc_value n.dtype))) false name n.eof t
zones_started a w n m name ks t b p q r d shows =
    let u : Ty = ty (arc_value n.dtype) in
    let f : Form = form_at w.child.item u in
    started a (form_at (zoned_way w) u) false name n.eof (Zoned m) ks t (zoned_allowed a (zone_rule w.rule) u f (λ v. form_at w.stats.item v) n.eof b.allowed d.allowed) d.counted
    ((λ j. by_zone (p j) (r j) (q j)) ∙ zones_mind a w n n.eof b) d.tasks shows

-- ---- a dictionary node

-- of a type that a dictionary can hold, where no other strategy stands for its node
pub dict_at : (o : DictOptions) (c v f : StrategyData) (t : Ty) → passes_on (coded o c v f) t ≡ false → is_dict_type t ≡ true
dict_at o c v f (primitive p n) h = refl
dict_at o c v f (utf8 n) h = refl
dict_at o c v f (binary n) h = refl
dict_at o c v f (boolean n) h = absurd (true≢false h)
dict_at o c v f (list t n) h = absurd (true≢false h)
dict_at o c v f (struct fs n) h = absurd (true≢false h)
dict_at o c v f (extension tag t) h = absurd (true≢false h)

module _ (o : DictOptions) (c v f : StrategyData) (t : Ty) (h : is_dict_type t ≡ true) where
  dict_plain : form_at (coded o c v f) t ≡ dict_form o t (form_at c (code_type o)) (form_at v t) (form_at f t)
  dict_plain = ap (λ b. if b then dict_form o t (form_at c (code_type o)) (form_at v t) (form_at f t) else form_at f t) h

  dict_allowed : (a : Allowed) (m : Bool) → IsAllowed a (form_at (coded o c v f) t) m
  dict_allowed a m s q = ap (λ z. start_fault s z m) dict_plain

  dict_kids : (m : Bool) (at : List ℕ) (e : Eof) → no_tasks ≡ first_kids (form_at (coded o c v f) t) m at e
  dict_kids m at e = sym (ap (λ z. first_kids z m at e) dict_plain)

  dict_indices : (m : Bool) (e : Eof) → first_indices (form_at (coded o c v f) t) m e ≡ []
  dict_indices m e = ap (λ z. first_indices z m e) dict_plain

  pub dict_started : (a : Allowed) (m : Bool) (name : List ℕ) (e : Eof) (l : Local) (ks : List Task) (k : Task) → mind_of l ≡ first_mind (form_at (coded o c v f) t) m e → ks ≡ []
      → ((r : Tasks) → task_row k r ≡ task_then (waiting name (mind_of l) [] false) (row ks) r) → Started a (form_at (coded o c v f) t) m name e k
  dict_started a m name e l ks k mind none shows =
      started a (form_at (coded o c v f) t) m name e l ks k (dict_allowed a m) (λ b. subst AllFit (sym (dict_indices m e)) none_fit) mind (ap row none ∙ dict_kids m name e) shows
