-- What the program's tasks hold is what the abstract ones hold.
use Rattle.std.proofs.Common.{◌≡◌, ◌⊎◌, ◌∷◌, ◌++◌, ◌∙◌, ℕ, suc, Bool, true, false, if◌then◌else◌, subst, List, map, length, refl, sym, ap, inl, inr, arith, Option, Some, None, []}
use Rattle.vx_model.specs.ChunkData.{ChunkData, held}
use Rattle.vx_path.specs.Path.{under, eof_path, next}
use Rattle.vx_plan.specs.PlanData.{Setting, Item}
use Rattle.vx_machine_turns.specs.Forms.{Writer}
use Rattle.vx_machine_turns.specs.Locals.{DictNode, Local}
use Rattle.vx_zone_spec.specs.ZoneTable.{Filled}
use Rattle.vx_machine_turns.specs.Locals.{ZonedNode}
use Rattle.vx_machine_turns.specs.Zoned.{zoned_joins, zoned_ends, zoned_kept}
use Rattle.vx_machine_turns.specs.Acts.{Seed, Act, does, put_all, close_queues}
use Rattle.vx_machine_turns.specs.Grouped.{weighed_puts, group_kept}
use Rattle.vx_machine_turns.specs.Columns.{column_puts}
use Rattle.vx_machine_turns.specs.Scripts.{all_uses, filled}
use Rattle.vx_machine_turns.specs.Fuels.{Fuel, less}
use Rattle.vx_machine_steps.specs.Tree.{Tree, Leaf, Work}
use Rattle.vx_machine_steps.specs.Moves.{holding, all_paths}
use Rattle.vx_machine_steps.specs.Stands.{kept_now, AllHold}
use Rattle.vx_machine_state.specs.Zoned.{Zones}
use Rattle.vx_machine_view.specs.Zoning.{put_each, zones_mind, zones_left}
use Rattle.vx_machine_state.specs.State.{fold_runs, Next, shut_kids, join_kids, Mind, Tasks, no_tasks, task_then}
use Rattle.vx_machine_state.specs.Acts.{puts, hand_all}
use Rattle.vx_machine_view.specs.Shows.{Stage, waits_first, waits_end, appends, splits, gathers_all, hands, hands_lists, shuts, joins_columns, regroups_rows, regroups_chunks, collects, presses, pressed, lets_out, asks_first, probes, falls_back, cuts, last_cuts, passes_on, passed, records_zones, closes_zones, joins_data, joins_zones, Done, Shows}
use Rattle.vx_machine_view.specs.Machine.{next_ids, mind_ids, held_by}
use Rattle.vx_machine_state.specs.Coder.{coder_of}
use Rattle.vx_machine_state.specs.Coding.{Deed, puts_codes, puts_values, deed_nexts}
use Rattle.vx_machine_view.specs.Deeds.{deed_acts}
use Rattle.vx_machine_view.specs.Whole.{SameHeld}
use Rattle.vx_machine_view.proofs.Words.{carried}
use Rattle.vx_machine_view.proofs.Agreeing.{same_held, both_held, swapped}
use Rattle.vx_tasks.specs.Task.{Join}
use Rattle.vx_plan.specs.DictNode.{is_dictionary}
use Rattle.vx_machine_turns.specs.Dict.{runs_kept, runs_first, fallback_first}
use Rattle.vx_machine_turns.specs.Turns.{kept}

puts_ids : (j : ℕ) (p : List ℕ) (xs : List ChunkData) (ws : List Writer) → length ws ≡ length xs → next_ids (puts j p xs) ≡ all_uses (filled [] (column_puts j p xs ws))
puts_ids j p [] [] e = refl
puts_ids j p [] (w ∷ ws) e = absurd (omega (arith, e))
puts_ids j p (x ∷ xs) [] e = absurd (omega (arith, e))
puts_ids j p (x ∷ xs) (w ∷ ws) e = ap (λ z. under p j ∷ z) (puts_ids (suc j) p xs ws (omega (arith, e)))

hands_ids : (weight : ChunkData → ℕ) (keep : List (List ℕ)) (outs : List Item) → next_ids (hand_all weight outs) ≡ all_uses (filled keep (weighed_puts weight outs))
hands_ids weight keep [] = refl
hands_ids weight keep (i ∷ outs) = ap (λ z. i.0 ∷ z) (hands_ids weight keep outs)

ends_ids : (weight : ChunkData → ℕ) (outs : List Item) → next_ids (hand_all weight outs ++ (shut_kids ∷ [])) ≡ all_uses (filled [] (weighed_puts weight outs ++ (close_queues (0 ∷ []) ∷ [])))
ends_ids weight [] = refl
ends_ids weight (i ∷ outs) = ap (λ z. i.0 ∷ z) (ends_ids weight outs)

each_ids : (keep : List (List ℕ)) (outs : List Item) → next_ids (put_each outs) ≡ all_uses (filled keep (put_all outs))
each_ids keep [] = refl
each_ids keep (i ∷ outs) = ap (λ z. i.0 ∷ z) (each_ids keep outs)

-- behind the end of a zoned node's stream

close_ids : (s : Setting) (n : ZonedNode) (z : Zones) (table : Option (List Filled)) (l : Local)
    → next_ids (shut_kids ∷ zones_left n z table) ++ mind_ids (zones_mind table) ≡ all_uses (filled [] (zoned_ends s n z.zones table)) ++ kept_now true l
close_ids s n z None l = refl
close_ids s n z (Some cs) l = refl

data_ids : (s : Setting) (n : ZonedNode) (z : Zones) (table : Option (List Filled)) (l : Local)
    → next_ids (zones_left n z table) ++ mind_ids (zones_mind table) ≡ all_uses (filled [] (zoned_joins s n z.zones table)) ++ kept_now true l
data_ids s n z None l = refl
data_ids s n z (Some cs) l = refl

deeds_ids : (s : Setting) (n : DictNode) (keep : List (List ℕ)) (ds : List Deed) → next_ids (deed_nexts (coder_of n) ds) ≡ all_uses (filled keep (deed_acts s n ds))
deeds_ids s n keep [] = refl
deeds_ids s n keep (puts_codes j e true i ∷ ds) = ap (λ z. i.0 ∷ z) (deeds_ids s n keep ds)
deeds_ids s n keep (puts_codes j e false i ∷ ds) = ap (λ z. i.0 ∷ eof_path e ∷ eof_path (next e) ∷ z) (deeds_ids s n keep ds)
deeds_ids s n keep (puts_values j i ∷ ds) = ap (λ z. i.0 ∷ z) (deeds_ids s n keep ds)

last_ids : (s : Setting) (n : DictNode) (ds : List Deed) (ns : List ℕ) → next_ids (deed_nexts (coder_of n) ds ++ (join_kids (fold_runs n.type ns) ∷ [])) ≡ all_uses (filled [] (deed_acts s n ds ++ (does Join ∷ [])))
last_ids s n [] ns = refl
last_ids s n (puts_codes j e true i ∷ ds) ns = ap (λ z. i.0 ∷ z) (last_ids s n ds ns)
last_ids s n (puts_codes j e false i ∷ ds) ns = ap (λ z. i.0 ∷ eof_path e ∷ eof_path (next e) ∷ z) (last_ids s n ds ns)
last_ids s n (puts_values j i ∷ ds) ns = ap (λ z. i.0 ∷ z) (last_ids s n ds ns)

-- the paths of what is left and of what it has in mind are those that the abstract one holds
abbrev InOrder : Mind → List Next → List Act → Local → Bool → Type 0
InOrder mind left todo l over = next_ids left ++ mind_ids mind ≡ all_uses todo ++ kept_now over l

stage_holds : (s : Setting) (d : Fuel) (mind : Mind) (left : List Next) (ks : Tasks) (q : Seed) (past todo : List Act) (l : Local) (over : Bool) (hs : Tree)
    → Stage s d mind left ks q past todo l over hs → SameHeld (next_ids left ++ mind_ids mind) (all_uses todo ++ kept_now over l)
stage_holds s d mind left ks q past todo l over hs (waits_first o t k w) = same_held (carried InOrder w.mind_is w.idle w.rest w.local_is w.on refl)
stage_holds s d mind left ks q past todo l over hs (waits_end o t x b k w) = same_held (carried InOrder w.mind_is w.idle w.rest w.local_is w.on refl)
stage_holds s d mind left ks q past todo l over hs (appends x k w) = same_held (carried InOrder w.mind_is w.left_is w.rest refl w.off refl)
stage_holds s d mind left ks q past todo l over hs (splits n e nm t sp b en u w) = same_held (carried InOrder w.mind_is w.idle w.rest w.local_is w.on refl)
stage_holds s d mind left ks q past todo l over hs (gathers_all t u w) = same_held (carried InOrder w.mind_is w.left_is w.rest refl w.off refl)
stage_holds s d mind left ks q past todo l over hs (hands n rows j p xs ws t v w) = same_held (carried InOrder w.mind_is w.left_is w.rest w.local_is w.on
    (ap (λ z. z ++ []) (puts_ids j p xs ws w.same)))
stage_holds s d mind left ks q past todo l over hs (hands_lists n first from rows j p xs ws t v w) = same_held (carried InOrder w.mind_is w.left_is w.rest w.local_is w.on
    (ap (λ z. z ++ []) (puts_ids j p xs ws w.same)))
stage_holds s d mind left ks q past todo l over hs (shuts t rows c w) = same_held (carried InOrder w.mind_is w.left_is w.rest refl w.off refl)
stage_holds s d mind left ks q past todo l over hs (joins_columns t rows c w) = same_held (carried InOrder w.mind_is w.left_is w.rest refl w.off refl)
stage_holds s d mind left ks q past todo l over hs (regroups_rows o n x j rows outs tj nh w) = same_held (carried InOrder w.mind_is w.left_is w.rest w.local_is w.on
    (ap (λ z. z ++ group_kept j) (hands_ids (λ p. 0) (group_kept j) outs)))
stage_holds s d mind left ks q past todo l over hs (regroups_chunks size n x j rows outs tx tj nh w) = same_held (carried InOrder w.mind_is w.left_is w.rest w.local_is w.on
    (ap (λ z. z ++ group_kept j) (hands_ids held (group_kept j) outs)))
stage_holds s d mind left ks q past todo l over hs (collects n x rows w) = same_held (carried InOrder w.mind_is w.left_is w.rest w.local_is w.on refl)
stage_holds s d mind left ks q past todo l over hs (presses n t i ti w) = same_held (carried InOrder w.mind_is w.left_is w.rest w.local_is w.on refl)
stage_holds s d mind left ks q past todo l over hs (pressed n t outs w) = same_held (carried InOrder w.mind_is w.left_is w.rest w.local_is w.on
    (ap (λ z. z ++ []) (hands_ids (λ p. 0) [] outs)))
stage_holds s d mind left ks q past todo l over hs (lets_out n t outs w) = same_held (carried InOrder w.mind_is w.left_is w.rest w.local_is w.on
    (ap (λ z. z ++ []) (hands_ids (λ p. 0) [] outs)))
stage_holds s d mind left ks q past todo l over hs (asks_first n k nk w) = same_held (carried InOrder w.mind_is w.idle w.rest w.local_is w.on refl)
stage_holds s d mind left ks q past todo l over hs (probes n i k nk w) = carried (λ m f a l o. SameHeld (next_ids f ++ mind_ids m) (all_uses a ++ kept_now o l)) w.mind_is w.left_is w.rest w.local_is w.on
    (by (is_dictionary (s.image n.options.probe i.1)))
  where
    by : (b : Bool)
        → SameHeld (eof_path n.eof ∷ i.0 ∷ []) (all_uses (filled (kept (if b then runs_first n i else fallback_first s n i).after) (if b then runs_first n i else fallback_first s n i).more) ++ kept_now false (if b then runs_first n i else fallback_first s n i).after)
    by true = swapped (eof_path n.eof) i.0
    by false = same_held (let e : eof_path n.eof ∷ i.0 ∷ [] ≡ all_uses (filled (kept (fallback_first s n i).after) (fallback_first s n i).more) ++ kept_now false (fallback_first s n i).after = refl in e)
stage_holds s d mind left ks q past todo l over hs (falls_back t outs w) = same_held (carried InOrder w.mind_is w.left_is w.rest w.local_is w.on
    (ap (λ z. z ++ []) (hands_ids (λ p. 0) [] outs)))
stage_holds s d mind left ks q past todo l over hs (cuts n r i rows c ds k u w) = same_held (carried InOrder w.mind_is w.left_is w.rest w.local_is w.on
    (ap (λ z. z ++ runs_kept r i) (deeds_ids s n (runs_kept r i) ds)))
stage_holds s d mind left ks q past todo l over hs (last_cuts n rows ns c ds k u sum is go w) = same_held (carried InOrder w.mind_is w.left_is w.rest refl w.off
    (ap (λ z. z ++ []) (last_ids s n ds ns)))
stage_holds s d mind left ks q past todo l over hs (passes_on t weight outs one to w) = same_held (carried InOrder w.mind_is w.left_is w.rest refl w.off
    (ap (λ z. z ++ []) (ends_ids weight outs)))
stage_holds s d mind left ks q past todo l over hs (passed t one w) = same_held (carried InOrder w.mind_is w.left_is w.rest refl w.off refl)
stage_holds s d mind left ks q past todo l over hs (records_zones n z outs iz one rw to w) = same_held (carried InOrder w.mind_is w.left_is w.rest w.local_is w.on
    (ap (λ v. v ++ zoned_kept n) (each_ids (zoned_kept n) outs)))
stage_holds s d mind left ks q past todo l over hs (closes_zones n z table iz one w) = same_held (carried InOrder w.mind_is w.left_is w.rest refl w.off (close_ids s n z table l))
stage_holds s d mind left ks q past todo l over hs (joins_data n z table iz one w) = same_held (carried InOrder w.mind_is w.left_is w.rest refl w.off (data_ids s n z table l))
stage_holds s d mind left ks q past todo l over hs (joins_zones n rows cs both w) = same_held (carried InOrder w.mind_is w.left_is w.rest refl w.off refl)

done_holds : (number : List ℕ → ℕ) (mind : Mind) (left : List Next) (ks : Tasks) (past todo : List Act) (l : Local) (over : Bool) (hs : Tree) → Done number mind left ks past todo over hs
    → SameHeld (next_ids left ++ mind_ids mind) (all_uses todo ++ kept_now over l)
done_holds number mind left ks past todo l over hs w = same_held (carried InOrder w.mind_is w.idle w.rest refl w.off refl)

pub held_is : (s : Setting) (number : List ℕ → ℕ) (d : Fuel) (q : Seed) (j : ℕ) (cs : Tasks) (t : Tree) → Shows s number d q j cs t → AllHold t → SameHeld (held_by cs) (all_paths t)
held_is s number d q j no_tasks Leaf w k = ((λ p i. i), (λ p i. i))
held_is s number d q j no_tasks (Work h hs r) w k = absurd w
held_is s number d q j (task_then c ks more) Leaf w k = absurd w
held_is s number d q j (task_then c ks more) (Work h hs r) w k =
    both_held (map (λ i. i.0) c.inbox ++ ((next_ids c.todo ++ mind_ids c.mind) ++ held_by ks)) (map (λ i. i.0) h.inbox ++ (holding h ++ all_paths hs)) (held_by more) (all_paths r)
    (both_held (map (λ i. i.0) c.inbox) (map (λ i. i.0) h.inbox) ((next_ids c.todo ++ mind_ids c.mind) ++ held_by ks) (holding h ++ all_paths hs) (same_held (ap (map (λ i. i.0)) w.0.inbox))
    (by w.1 (λ v. held_is s number (less d h.seed.type) h.seed 0 ks hs v k.1)))
    (held_is s number d q (suc j) more r w.2 k.2)
  where
    by : (Stage s (less d h.seed.type) c.mind c.todo ks h.seed h.past h.todo h.local h.over hs × Shows s number (less d h.seed.type) h.seed 0 ks hs)
        ⊎ Done number c.mind c.todo ks h.past h.todo h.over hs
        → (Shows s number (less d h.seed.type) h.seed 0 ks hs → SameHeld (held_by ks) (all_paths hs)) → SameHeld ((next_ids c.todo ++ mind_ids c.mind) ++ held_by ks) (holding h ++ all_paths hs)
    by (inl (st, v)) below =
        both_held (next_ids c.todo ++ mind_ids c.mind) (holding h) (held_by ks) (all_paths hs)
        (subst (SameHeld (next_ids c.todo ++ mind_ids c.mind)) (sym k.0.held) (stage_holds s (less d h.seed.type) c.mind c.todo ks h.seed h.past h.todo h.local h.over hs st)) (below v)
    by (inr e) below =
        both_held (next_ids c.todo ++ mind_ids c.mind) (holding h) (held_by ks) (all_paths hs)
        (subst (SameHeld (next_ids c.todo ++ mind_ids c.mind)) (sym k.0.held) (done_holds number c.mind c.todo ks h.past h.todo h.local h.over hs e)) (same_held (ap held_by e.no_kids ∙ sym e.free))
