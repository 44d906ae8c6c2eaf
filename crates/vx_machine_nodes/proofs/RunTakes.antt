-- What a dictionary node has in mind behind a chunk and behind the end, against the same in plain data.
use Rattle.std.proofs.Common.{◌≡◌, ◌+◌, ◌*◌, ◌<◌, ◌≤◌, ◌^◌, ◌∷◌, ◌++◌, ◌∙◌, ℕ, suc, not, Bool, true, false, if◌then◌else◌, List, [], length, refl, sym, ap, subst, arith, append-nil, append_assoc, None, ap₂, length-append}
use Rattle.std.specs.Arc.{arc_value}
use Rattle.std.proofs.lemmas.Bool.{true≢false}
use Rattle.vx_path.specs.Path.{Eof, next}
use Rattle.vx_model.specs.Ty.{Ty, ty_eq}
use Rattle.vx_model.specs.TyLaws.{ty_eq_decides}
use Rattle.vx_model.specs.TyView.{ty}
use Rattle.vx_model.specs.CellData.{CellData}
use Rattle.vx_model.specs.ChunkData.{ChunkData, piece_type, cells}
use Rattle.vx_rules.specs.Runs.{DictOptions, Cut, with_cell, place_in, cells_fit, stretches, behind as behind_run}
use Rattle.vx_runs.specs.CutterData.{CutterData, options_of, gives_at, held_at, with_cutting}
use Rattle.vx_react.specs.Reactor.{Output}
use Rattle.vx_react.specs.Cutter.{next_number, cut_outputs}
use Rattle.vx_plan.specs.PlanData.{Setting}
use Rattle.vx_sequence.specs.Universe.{Active}
use Rattle.vx_machine_ids.specs.Stock.{Stock, none, both}
use Rattle.vx_machine_ids.specs.Balance.{Owned, Moved}
use Rattle.vx_machine_ids.proofs.Stocks.{both_assoc, both_swap}
use Rattle.vx_machine_ids.proofs.MoveLaws.{moved_beside, moved_as, moved_then, owned_now}
use Rattle.vx_machine_turns.specs.Locals.{RunsSoFar as SoFar}
use Rattle.vx_machine_turns.specs.Dict.{Stretch, eof_after, ended_rows, open_rows, rest_eof}
use Rattle.vx_machine_state.specs.Coding.{runs_after, cut_of, cut_indices, run_rows, deed_nexts, deeds_at, last_deeds}
use Rattle.vx_machine_state.specs.State.{Next, Tasks, by_run, join_kids, fold_runs}
use Rattle.vx_write_answer.specs.declared.error.WriteError.{WriteError}
use Rattle.vx_machine_node.specs.declared.dict_node.DictNode.{DictNode}
use Rattle.vx_machine_node.specs.declared.dict_node.DictRuns.{DictRuns}
use Rattle.vx_machine_node.specs.declared.dict_node.RunsSoFar.{RunsSoFar}
use Rattle.vx_machine_node.specs.declared.item.Due.{Due}
use Rattle.vx_machine_node.specs.declared.item.Item.{Item}
use Rattle.vx_machine_node.specs.declared.node.Local.TheVariants.{Runs, Over}
use Rattle.vx_machine_nodes.specs.Acting.{taken, Took, TakeRefused, SplitRefused, EndTaken, EndRefused}
use Rattle.vx_machine_node.specs.Outcome.{Refused, none_past}
use Rattle.vx_machine_node.specs.RunPaths.{begun_paths, run_eof}
use Rattle.vx_machine_nodes.specs.Runs.{behind_all, nexts_at, are_runs, all_rows, CutRefused}
use Rattle.vx_machine_node.specs.Stocks.{due_stock, dues_stock}
use Rattle.vx_machine_node.specs.View.{options_in, coder_in, runs_in, item_of, mind_of}
use Rattle.vx_machine_node.proofs.DueSteps.{one_free}
use Rattle.vx_machine_node.proofs.Fitting.{then_fit, one_fits}
use Rattle.vx_machine_nodes.proofs.RefusalSteps.{wider, not_in, by_rows}
use Rattle.vx_machine_nodes.proofs.RunLaws.{cut_total, cut_follow, cut_count, last_count, number_is, ended_count, cut_nexts, last_nexts, come_to, cut_behind, last_behind, rows_end}
use Rattle.vx_machine_nodes.proofs.RunSteps.{rest_is}

-- ---- the cutter's options and type are the node's

pub options_are : (c : CutterData) (n : DictNode) → c.max_bytes ≡ n.constraints.max_bytes → c.max_len ≡ n.constraints.max_len → options_of c n.probe ≡ options_in n
options_are c n b l = λ j. record { max_bytes = b j; max_len = l j; probe = n.probe }

abbrev cut_in : CutterData → DictNode → ChunkData → Cut
cut_in c n p = stretches (options_in n) (ty (arc_value n.dtype)) c.distinct [] (cells p)

abbrev outputs_in : CutterData → DictNode → ChunkData → Bool → List Output
outputs_in c n p b = cut_outputs (options_in n) (ty (arc_value n.dtype)) c.number (cut_in c n p) b

module _ (c : CutterData) (n : DictNode) (p : ChunkData) (bytes : c.max_bytes ≡ n.constraints.max_bytes) (len : c.max_len ≡ n.constraints.max_len) (typed : c.typed ≡ ty (arc_value n.dtype)) where
  pub gives_are : (b : Bool) → gives_at n.probe c p b ≡ outputs_in c n p b
  gives_are b = λ j. cut_outputs (options_are c n bytes len j) (typed j) c.number (stretches (options_are c n bytes len j) (typed j) c.distinct [] (cells p)) b

  pub held_number : (held_at n.probe c p).number ≡ c.number + length (cut_in c n p).closed
  held_number = (λ j. next_number c.number (stretches (options_are c n bytes len j) (typed j) c.distinct [] (cells p)).closed) ∙ number_is c.number (cut_in c n p).closed

  pub held_distinct : (held_at n.probe c p).distinct ≡ (cut_in c n p).distinct
  held_distinct = λ j. (stretches (options_are c n bytes len j) (typed j) c.distinct [] (cells p)).distinct

-- ---- how far pointers come

eofs_after : (e : Eof) (xs : List Stretch) → (eof_after e xs).last ≡ e.last + 2 * length xs
eofs_after e [] = let h : e.last ≡ e.last + 2 * 0 = omega arith in h
eofs_after e (x ∷ xs) = let q : (eof_after (next (next e)) xs).last ≡ ((e.last + 1) + 1) + 2 * length xs = eofs_after (next (next e)) xs in let h : (eof_after (next (next e)) xs).last ≡ e.last + 2 * suc (length xs) = omega (arith, q) in h

begun_eof : (r : RunsSoFar) (b : Bool) → r.begun ≡ b → 2 * length r.ended.items ≤ (run_eof r.pointer b).last
begun_eof r true h = let w : 2 * length r.ended.items + 2 ≤ r.pointer.last = subst (λ z. 2 * length r.ended.items + begun_paths z ≤ r.pointer.last) h r.behind in omega (arith, w)
begun_eof r false h = let w : 2 * length r.ended.items + 0 ≤ r.pointer.last = subst (λ z. 2 * length r.ended.items + begun_paths z ≤ r.pointer.last) h r.behind in omega (arith, w)

module _ (o : DictOptions) (t : Ty) (r : SoFar) (k : ℕ) (cut : Cut) where
  cut_rest : (rest_eof (behind_all r (cut_outputs o t k cut false))).last ≡ (r.eof.last + 2 * length cut.closed) + 2
  cut_rest =
      let e : (rest_eof (behind_all r (cut_outputs o t k cut false))).last ≡ ((eof_after r.eof cut.closed).last + 1) + 1 = ap (λ z. (rest_eof z).last) (cut_behind o t r k cut) in
      omega (arith, e, eofs_after r.eof cut.closed)

  last_rest : (rest_eof (behind_all r (cut_outputs o t k cut true))).last ≡ (r.eof.last + 2 * length cut.closed) + 2
  last_rest =
      let e : (rest_eof (behind_all r (cut_outputs o t k cut true))).last ≡ ((eof_after r.eof cut.closed).last + 1) + 1 = ap (λ z. (rest_eof z).last) (last_behind o t r k cut) in
      omega (arith, e, eofs_after r.eof cut.closed)

  rest_any : (b : Bool) → (rest_eof (behind_all r (cut_outputs o t k cut b))).last ≡ (r.eof.last + 2 * length cut.closed) + 2
  rest_any true = last_rest
  rest_any false = cut_rest

-- the probe isn't read
module _ (b l : ℕ) (t : Ty) (p q : ℕ) where
  abbrev at : ℕ → DictOptions
  at n = record { max_bytes = b; max_len = l; probe = n }

  any_probe : (ds : List CellData) (codes : List ℕ) (rows : List CellData) → stretches (at p) t ds codes rows ≡ stretches (at q) t ds codes rows
  any_probe ds codes [] = refl
  any_probe ds codes (c ∷ cs) =
      ap₂ (λ (x y : Cut). if cells_fit (at q) t (with_cell ds c) then x else y)
      (any_probe (with_cell ds c) (codes ++ (place_in c (with_cell ds c) ∷ [])) cs)
      (ap (behind_run codes ds) (any_probe (c ∷ []) (0 ∷ []) cs))

-- there are fewer runs than their eof paths
pub number_small : (c : CutterData) (q : ℕ) (p : ChunkData) (r : RunsSoFar) (b : Bool) → c.number ≡ length r.ended.items → (held_at 0 c p).number ≤ (rest_eof (behind_all (runs_in r []) (gives_at q c p b))).last
number_small c q p r b number =
    let cut : Cut = stretches (options_of c q) c.typed c.distinct [] (cells p) in
    let z : (held_at 0 c p).number ≡ next_number c.number cut.closed = ap (λ (x : Cut). next_number c.number x.closed) (any_probe c.max_bytes c.max_len c.typed 0 q c.distinct [] (cells p)) in
    let e : next_number c.number cut.closed ≡ c.number + length cut.closed = number_is c.number cut.closed in
    let f : (rest_eof (behind_all (runs_in r []) (gives_at q c p b))).last ≡ ((run_eof r.pointer r.begun).last + 2 * length cut.closed) + 2 = rest_any (options_of c q) c.typed (runs_in r []) c.number cut b in
    omega (arith, z, e, f, number, begun_eof r r.begun refl)

-- what a cutter gives, whatever its options
pub outputs_follow : (c : CutterData) (p : ChunkData) (begun last : Bool) (xs : List Output) → ((probe : ℕ) → xs ≡ gives_at probe c p last) → are_runs begun xs ≡ true
outputs_follow c p begun last xs e = ap (are_runs begun) (e 0) ∙ cut_follow (options_of c 0) c.typed c.number (stretches (options_of c 0) c.typed c.distinct [] (cells p)) begun last

pub outputs_rows : (c : CutterData) (p : ChunkData) (last : Bool) (xs : List Output) → ((probe : ℕ) → xs ≡ gives_at probe c p last) → all_rows xs ≡ length (cells p)
outputs_rows c p last xs e = ap all_rows (e 0) ∙ cut_total (options_of c 0) c.typed c.number c.distinct (cells p) last

-- ---- a take

typed_fits : (a b : Ty) → a ≡ b → not (ty_eq a b) ≡ false
typed_fits a b h = ap not ((ty_eq_decides a b).1 h)

-- what the runs come to, whichever distinct cells are held before
module _ (d : DictRuns) (next : RunsSoFar) where
  abbrev node_in : DictNode
  node_in = arc_value d.node

  abbrev gives : Bool → List Output
  gives b = gives_at node_in.probe d.cutter d.newest.chunk b

  abbrev cut_here : Cut
  cut_here = cut_in d.cutter node_in d.newest.chunk

  gives_is : (b : Bool) → gives b ≡ outputs_in d.cutter node_in d.newest.chunk b
  gives_is b = gives_are d.cutter node_in d.newest.chunk d.bytes d.len d.typed b

  pub runs_come : (cutter : CutterData) → cutter ≡ with_cutting d.cutter (held_at node_in.probe d.cutter d.newest.chunk) → ((ds : List CellData) → runs_in next ds ≡ behind_all (runs_in d.runs ds) (gives false))
      → runs_in next cutter.distinct ≡ runs_after (coder_in node_in) (runs_in d.runs d.cutter.distinct) (item_of d.newest)
  runs_come cutter c e =
      e cutter.distinct ∙ ap (behind_all (runs_in d.runs cutter.distinct)) (gives_is false)
      ∙ cut_behind (options_in node_in) (ty (arc_value node_in.dtype)) (runs_in d.runs cutter.distinct) d.cutter.number cut_here
      ∙ (λ j. record (come_to (runs_in d.runs cutter.distinct) cut_here.closed cut_here.codes) { distinct = (ap (λ (z : CutterData). z.distinct) c ∙ held_distinct d.cutter node_in d.newest.chunk d.bytes d.len d.typed) j })

  pub number_more : (cutter : CutterData) → cutter ≡ with_cutting d.cutter (held_at node_in.probe d.cutter d.newest.chunk) → ((ds : List CellData) → runs_in next ds ≡ behind_all (runs_in d.runs ds) (gives false)) → cutter.number ≡ length next.ended.items
  number_more cutter c e =
      let a : cutter.number ≡ d.cutter.number + length cut_here.closed = ap (λ (z : CutterData). z.number) c ∙ held_number d.cutter node_in d.newest.chunk d.bytes d.len d.typed in
      let b : length next.ended.items ≡ length (d.runs.ended.items ++ ended_rows d.runs.rows cut_here.closed)
      = ap (λ (z : SoFar). length z.ended) (e [] ∙ ap (behind_all (runs_in d.runs [])) (gives_is false) ∙ cut_behind (options_in node_in) (ty (arc_value node_in.dtype)) (runs_in d.runs []) d.cutter.number cut_here) in
      omega (arith, a, b, d.number, length-append d.runs.ended.items (ended_rows d.runs.rows cut_here.closed), ended_count d.runs.rows cut_here.closed)

  -- the last index of the eof paths that are taken
  rest_index : (b : Bool) → (rest_eof (behind_all (runs_in d.runs []) (gives b))).last ≡ (rest_eof (runs_after (coder_in node_in) (runs_in d.runs d.cutter.distinct) (item_of d.newest))).last
  rest_index b =
      let f : (rest_eof (behind_all (runs_in d.runs []) (gives b))).last ≡ ((run_eof d.runs.pointer d.runs.begun).last + 2 * length cut_here.closed) + 2
      = ap (λ z. (rest_eof (behind_all (runs_in d.runs []) z)).last) (gives_is b) ∙ rest_any (options_in node_in) (ty (arc_value node_in.dtype)) (runs_in d.runs []) d.cutter.number cut_here b in
      let g : (rest_eof (runs_after (coder_in node_in) (runs_in d.runs d.cutter.distinct) (item_of d.newest))).last ≡ ((eof_after (run_eof d.runs.pointer d.runs.begun) cut_here.closed).last + 1) + 1 = refl in
      omega (arith, f, g, eofs_after (run_eof d.runs.pointer d.runs.begun) cut_here.closed)

  rest_here : (b : Bool) → ((ds : List CellData) → runs_in next ds ≡ behind_all (runs_in d.runs ds) (gives b)) → next.pointer.last ≡ (rest_eof (runs_after (coder_in node_in) (runs_in d.runs d.cutter.distinct) (item_of d.newest))).last
  rest_here b e = ap (λ (z : Eof). z.last) (sym (rest_is next [])) ∙ ap (λ (z : SoFar). (rest_eof z).last) (e []) ∙ rest_index b

  made_here : length (gives false) ≡ 2 * length cut_here.closed + 1
  made_here = ap length (gives_is false) ∙ cut_count (options_in node_in) (ty (arc_value node_in.dtype)) d.cutter.number cut_here

  made_last : length (gives true) ≡ 2 * suc (length cut_here.closed)
  made_last = ap length (gives_is true) ∙ last_count (options_in node_in) (ty (arc_value node_in.dtype)) d.cutter.number cut_here

  -- whichever pointers are refused
  cut_why : (b : Bool) (made : ℕ) (c : Bool) (ns : List ℕ) (e : WriteError) → length (gives b) ≡ made → CutRefused (rest_eof (behind_all (runs_in d.runs []) (gives b))).last (length (gives b)) e
      → Refused None c ns ((rest_eof (runs_after (coder_in node_in) (runs_in d.runs d.cutter.distinct) (item_of d.newest))).last ∷ made ∷ []) [] none_past ⊥ [] e
  cut_why b made c ns e m h =
      wider [] [] None None false c [] ns
      ((rest_eof (runs_after (coder_in node_in) (runs_in d.runs d.cutter.distinct) (item_of d.newest))).last ∷ made ∷ []) ((rest_eof (runs_after (coder_in node_in) (runs_in d.runs d.cutter.distinct) (item_of d.newest))).last ∷ made ∷ [])
      none_past none_past ⊥ ⊥ (λ x w. w) (λ w. absurd (true≢false (sym w))) (not_in ns) (λ n w. w) (λ n w. w) (λ w. w) e
      (subst (λ z. CutRefused (rest_eof (runs_after (coder_in node_in) (runs_in d.runs d.cutter.distinct) (item_of d.newest))).last z e) m (subst (λ z. CutRefused z (length (gives b)) e) (rest_index b) h))

  -- ---- all that is to be done

  nexts_here : (todo : List Next) → ((ds : List CellData) → todo ≡ nexts_at (coder_in node_in) (runs_in d.runs ds) d.newest.id 0 (gives false)) → todo ≡ deed_nexts (coder_in node_in) (deeds_at (coder_in node_in) (runs_in d.runs d.cutter.distinct) (item_of d.newest))
  nexts_here todo t =
      t d.cutter.distinct ∙ ap (nexts_at (coder_in node_in) (runs_in d.runs d.cutter.distinct) d.newest.id 0) (gives_is false)
      ∙ cut_nexts (coder_in node_in) d.newest.id (runs_in d.runs d.cutter.distinct) d.cutter.number cut_here

  nexts_last : (ds : List CellData) → ds ≡ d.cutter.distinct
      → nexts_at (coder_in node_in) (runs_in d.runs ds) d.newest.id 0 (gives true) ≡ deed_nexts (coder_in node_in) (last_deeds (coder_in node_in) (runs_in d.runs d.cutter.distinct) (item_of d.newest))
  nexts_last ds e =
      ap (λ z. nexts_at (coder_in node_in) (runs_in d.runs z) d.newest.id 0 (gives true)) e
      ∙ ap (nexts_at (coder_in node_in) (runs_in d.runs d.cutter.distinct) d.newest.id 0) (gives_is true)
      ∙ last_nexts (coder_in node_in) d.newest.id (runs_in d.runs d.cutter.distinct) d.cutter.number cut_here

  rows_last : ((ds : List CellData) → runs_in next ds ≡ behind_all (runs_in d.runs ds) (gives true)) → next.ended.items ≡ run_rows (coder_in node_in) (runs_in d.runs d.cutter.distinct) (item_of d.newest)
  rows_last e =
      ap (λ (z : SoFar). z.ended) (e d.cutter.distinct ∙ ap (behind_all (runs_in d.runs d.cutter.distinct)) (gives_is true) ∙ last_behind (options_in node_in) (ty (arc_value node_in.dtype)) (runs_in d.runs d.cutter.distinct) d.cutter.number cut_here)
      ∙ append_assoc d.runs.ended.items (ended_rows d.runs.rows cut_here.closed) (open_rows d.runs.rows cut_here.closed cut_here.codes ∷ [])
      ∙ ap (λ z. d.runs.ended.items ++ z) (sym (rows_end d.runs.rows cut_here.closed cut_here.codes cut_here.distinct))

-- ---- the take of a chunk

module _ (s : Setting) (name : List ℕ) (ks : Tasks) (d : DictRuns) (i : Item) where
  pub runs_took : (cutter : CutterData) (runs : RunsSoFar) (rows : ℕ) (todo : List Next) → rows ≡ d.rows + length (cells i.chunk) → d.rows + length (cells i.chunk) < 2 ^ 64
      → piece_type i.chunk ≡ ty (arc_value (arc_value d.node).dtype) → cutter ≡ with_cutting d.cutter (held_at (arc_value d.node).probe d.cutter d.newest.chunk)
      → ((ds : List CellData) → runs_in runs ds ≡ behind_all (runs_in d.runs ds) (gives_at (arc_value d.node).probe d.cutter d.newest.chunk false))
      → ((ds : List CellData) → todo ≡ nexts_at (coder_in (arc_value d.node)) (runs_in d.runs ds) d.newest.id 0 (gives_at (arc_value d.node).probe d.cutter d.newest.chunk false))
      → runs.pointer.last < 2 ^ 64 → length (gives_at (arc_value d.node).probe d.cutter d.newest.chunk false) < 2 ^ 64
      → Took (taken s name ks (item_of i) (mind_of (Runs d))) (by_run (coder_in (arc_value d.node)) (runs_in runs cutter.distinct) (item_of i) rows) todo [] ks
  runs_took cutter next rows todo counted few typed held runs t eofs made = record {
    unrefused = refl;
    fits = typed_fits (piece_type i.chunk) (ty (arc_value (arc_value d.node).dtype)) typed;
    counted = then_fit (d.rows + length (cells i.chunk)) ((rest_eof (runs_after (coder_in (arc_value d.node)) (runs_in d.runs d.cutter.distinct) (item_of d.newest))).last ∷ (2 * (length (cut_of (coder_in (arc_value d.node)) (runs_in d.runs d.cutter.distinct) (item_of d.newest)).closed) + 1) ∷ []) few (then_fit (rest_eof (runs_after (coder_in (arc_value d.node)) (runs_in d.runs d.cutter.distinct) (item_of d.newest))).last ((2 * (length (cut_of (coder_in (arc_value d.node)) (runs_in d.runs d.cutter.distinct) (item_of d.newest)).closed) + 1) ∷ []) (subst (λ z. z < 2 ^ 64) (rest_here d next false runs) eofs) (one_fits (2 * (length (cut_of (coder_in (arc_value d.node)) (runs_in d.runs d.cutter.distinct) (item_of d.newest)).closed) + 1) (subst (λ z. z < 2 ^ 64) (made_here d next) made)));
    mind_is = (λ j. by_run (coder_in (arc_value d.node)) (runs_come d next cutter held runs j) (item_of i) (counted j));
    todo_is = nexts_here d next todo t ∙ sym (append-nil (deed_nexts (coder_in (arc_value d.node)) (deeds_at (coder_in (arc_value d.node)) (runs_in d.runs d.cutter.distinct) (item_of d.newest))));
    kids_are = refl;
  }

  -- where it is refused
  pub runs_why : (e : WriteError) → CutRefused (rest_eof (behind_all (runs_in d.runs []) (gives_at (arc_value d.node).probe d.cutter d.newest.chunk false))).last (length (gives_at (arc_value d.node).probe d.cutter d.newest.chunk false)) e
      → TakeRefused (taken s name ks (item_of i) (mind_of (Runs d))) e
  runs_why e h =
      cut_why d d.runs false (2 * length (cut_in d.cutter (arc_value d.node) d.newest.chunk).closed + 1) (not (ty_eq (piece_type i.chunk) (ty (arc_value (arc_value d.node).dtype)))) ((d.rows + length (cells i.chunk)) ∷ []) e (made_here d d.runs) h

-- ---- the end

-- the newest chunk's id, the pointer, and what is to be done
pub end_moved : (u v w : Active) (i p q : Stock) (xs ys ms zs : List Due) (x : Due) → ms ≡ ys → zs ≡ ms ++ (x ∷ []) → due_stock x ≡ none → Owned u (both (both i p) (dues_stock xs)) → Moved u v (both (both p (dues_stock xs)) i) (both q (dues_stock ys)) → Moved v w q none
    → Moved u w (both (both i p) (dues_stock xs)) (both none (dues_stock zs))
end_moved u v w i p q xs ys ms zs x l e f o m n =
    let s : both (both i p) (dues_stock xs) ≡ both (both p (dues_stock xs)) i = both_assoc i p (dues_stock xs) ∙ both_swap i (both p (dues_stock xs)) in
    let a : Moved u v (both (both i p) (dues_stock xs)) (both q (dues_stock ys)) = moved_as u v _ _ _ _ (sym s) refl m in
    let b : Owned v (both q (dues_stock ys)) = owned_now u v (both (both i p) (dues_stock xs)) (both q (dues_stock ys)) o a in
    let c : Moved v w (both q (dues_stock ys)) (both none (dues_stock ys)) = moved_beside v w q none (dues_stock ys) b n in
    moved_as u w _ _ _ _ refl (ap (both none) (sym (one_free ys zs x (e ∙ ap (λ z. z ++ (x ∷ [])) l) f))) (moved_then u v w (both (both i p) (dues_stock xs)) (both q (dues_stock ys)) (both none (dues_stock ys)) a c)

pub runs_ended : (d : DictRuns) (next : RunsSoFar) (todo before all : List Next)
    → ((ds : List CellData) → runs_in next ds ≡ behind_all (runs_in d.runs ds) (gives_at (arc_value d.node).probe d.cutter d.newest.chunk true))
    → ((ds : List CellData) → todo ≡ before ++ nexts_at (coder_in (arc_value d.node)) (runs_in d.runs ds) d.newest.id 0 (gives_at (arc_value d.node).probe d.cutter d.newest.chunk true))
    → next.pointer.last < 2 ^ 64 → length (gives_at (arc_value d.node).probe d.cutter d.newest.chunk true) < 2 ^ 64
    → all ≡ todo ++ (join_kids (fold_runs (ty (arc_value (arc_value d.node).dtype)) next.ended.items) ∷ []) → (n : ℕ) → EndTaken (Runs d) n Over all before
runs_ended d next todo before all runs t eofs made a n = λ s ks c. record {
  unrefused = refl;
  fits = refl;
  counted = then_fit (rest_eof (runs_after (coder_in (arc_value d.node)) (runs_in d.runs d.cutter.distinct) (item_of d.newest))).last ((2 * suc (length (cut_of (coder_in (arc_value d.node)) (runs_in d.runs d.cutter.distinct) (item_of d.newest)).closed)) ∷ []) (subst (λ z. z < 2 ^ 64) (rest_here d next true runs) eofs) (one_fits (2 * suc (length (cut_of (coder_in (arc_value d.node)) (runs_in d.runs d.cutter.distinct) (item_of d.newest)).closed)) (subst (λ z. z < 2 ^ 64) (made_last d next) made));
  mind_is = refl;
  todo_is =
      let deeds = deed_nexts (coder_in (arc_value d.node)) (last_deeds (coder_in (arc_value d.node)) (runs_in d.runs d.cutter.distinct) (item_of d.newest)) in
      a ∙ (λ j. (t d.cutter.distinct ∙ ap (λ z. before ++ z) (nexts_last d next d.cutter.distinct refl)) j ++ (join_kids (fold_runs (ty (arc_value (arc_value d.node).dtype)) (rows_last d next runs j)) ∷ []))
      ∙ append_assoc before deeds (join_kids (fold_runs (ty (arc_value (arc_value d.node).dtype)) (run_rows (coder_in (arc_value d.node)) (runs_in d.runs d.cutter.distinct) (item_of d.newest))) ∷ []);
}

pub end_why : (d : DictRuns) (n : ℕ) (e : WriteError)
    → CutRefused (rest_eof (behind_all (runs_in d.runs []) (gives_at (arc_value d.node).probe d.cutter d.newest.chunk true))).last (length (gives_at (arc_value d.node).probe d.cutter d.newest.chunk true)) e → EndRefused (Runs d) n e
end_why d n e h = λ s ks c. cut_why d d.runs true (2 * suc (length (cut_in d.cutter (arc_value d.node) d.newest.chunk).closed)) false [] e (made_last d d.runs) h
