-- What the take of a chunk or of the end does, against the same in plain data.
use Rattle.std.proofs.Common.{◌≡◌, ◌⊎◌, ◌+◌, ◌&&◌, ◌==◌, not, ℕ, Bool, true, false, List, [], ◌∷◌, ◌++◌, Option, Some, None, Global, Result, Ok, Err, IfOk, IfErr, OnOk, refl, sym, ap, subst, ◌∙◌, inl, inr, append-nil}
use Rattle.std.proofs.lemmas.Bool.{true≢false}
use Rattle.std.specs.Arc.{arc_value}
use Rattle.std.specs.declared.sync.Arc.{Arc}
use Rattle.vx_path.specs.Path.{Eof, next}
use Rattle.vx_model.specs.Ty.{Ty, boolean, primitive, utf8, binary, list, struct, extension, is_struct, ty_eq}
use Rattle.vx_model.specs.TyView.{ty}
use Rattle.vx_model.specs.ChunkData.{ChunkData, piece_type}
use Rattle.vx_hash.specs.XxHash3.{xxhash3_64}
use Rattle.vx_rules.specs.Columns.{list_columns}
use Rattle.vx_split.specs.ListState.{behind}
use Rattle.vx_layout_spec.specs.LayoutTree.{gathered, struct_layout}
use Rattle.vx_layout_shape.specs.Shape.{struct_children}
use Rattle.vx_sink.specs.declared.context.LayoutWriterContext.{LayoutWriterContext}
use Rattle.vx_sink.specs.ContextView.{allowed_in}
use Rattle.vx_zone_spec.specs.ZoneTable.{Filled, kept_columns}
use Rattle.vx_regroup.specs.declared.regroup.Regroup.{Regroup}
use Rattle.vx_regroup.specs.declared.regroup.Regroup.TheVariants.{Repartition, Buffered, Collect}
use Rattle.vx_order.specs.Outlet.{Outlet}
use Rattle.vx_plan.specs.PlanData.{Setting, Item as Piece}
use Rattle.vx_machine_state.specs.Coder.{Coder}
use Rattle.vx_machine_state.specs.Coding.{deeds_at, deed_nexts}
use Rattle.vx_machine_state.specs.Zoned.{Zoner, Zones}
use Rattle.vx_machine_state.specs.State.{fold_columns, Next, put, hand_on, press, probe, shut_kids, join_kids, Mind, no_chunk, one_chunk, by_chunk, by_column, by_list, by_block, by_size, as_one, by_image, as_is, by_probe, asking, by_run, by_zone, ending, passing, made, Desk, Tasks}
use Rattle.vx_machine_state.specs.Acts.{count, now, of_length, columns_in, column_count, puts, take_chunk, end_columns, end_lists, end_zones, take_end, do_take}
use Rattle.vx_write_answer.specs.declared.step.ActionKind.TheVariants as actions
use Rattle.vx_write_answer.specs.declared.error.WriteError.{WriteError}
use Rattle.vx_write_answer.specs.declared.error.WriteError.TheVariants.{OutOfMemory}
use Rattle.vx_machine_turns.specs.Grouped.{block_grouper, byte_grouper}
use Rattle.vx_machine_node.specs.declared.grouped_node.GroupedNode.{GroupedNode}
use Rattle.vx_machine_node.specs.declared.zoned_node.ZonedNode.{ZonedNode}
use Rattle.vx_machine_node.specs.declared.dict_node.DictNode.{DictNode}
use Rattle.vx_machine_node.specs.declared.dict_node.DictRuns.{DictRuns}
use Rattle.vx_machine_node.specs.Regrouped.{mind_in}
use Rattle.vx_machine_acts.proofs.GroupShows.{group_shows, group_stopped, group_kind, group_wrote, rest_shows, rest_fails, rest_kind, rest_wrote}
use Rattle.vx_machine_node.specs.declared.item.Due.{Due}
use Rattle.vx_machine_node.specs.declared.item.Item.{Item}
use Rattle.vx_machine_node.specs.declared.kinds.FlatNode.{FlatNode}
use Rattle.vx_machine_node.specs.declared.kinds.ChunkedNode.{ChunkedNode}
use Rattle.vx_machine_node.specs.declared.kinds.ColumnsNode.{ColumnsNode}
use Rattle.vx_machine_node.specs.declared.kinds.ListsNode.{ListsNode}
use Rattle.vx_machine_node.specs.declared.node.Local.{Local}
use Rattle.vx_machine_node.specs.declared.node.Local.TheVariants.{Empty, Full, Chunked, Columns, Lists, Grouped, Over, Passing, Made, Zoned, Pressing, AsIs, Probe, Asking, Runs}
use Rattle.vx_machine_task.specs.declared.task.Head.{Head}
use Rattle.vx_machine_task.specs.declared.task.Task.{Task}
use Rattle.vx_machine_nodes.specs.Acting.{Behind, bare, taken, Took, TakeRefused, TakeStopped, ChunkTaken, ChunkRefused, is_flat, is_probe, is_cutting, Ended, EndTaken, EndRefused}
use Rattle.vx_machine_acts.specs.Acting.{TakeDone, Acted}
use Rattle.vx_machine_node.specs.Context.{setting_of}
use Rattle.vx_machine_node.specs.Outcome.{action_of}
use Rattle.vx_machine_task.specs.Ready.{is_over}
use Rattle.vx_machine_node.specs.View.{item_of, todo_of, mind_of}
use Rattle.vx_machine_task.specs.View.{desk_of, row}
use Rattle.vx_machine_node.proofs.Fitting.{none_fit}
use Rattle.vx_machine_nodes.proofs.RefusalSteps.{memory_only}

-- ---- a flat node's

-- what is none of a node with children, and takes more, is a flat node's
pub flat_left : (l : Local) → ((n : GroupedNode) → l ≡ Grouped n → ⊥) → ((n : ChunkedNode) (eof : Eof) (rows : ℕ) → l ≡ Chunked n eof rows → ⊥) → ((n : ColumnsNode) (rows : ℕ) → l ≡ Columns n rows → ⊥) → ((n : ListsNode) (rows : ℕ) → l ≡ Lists n rows → ⊥) → ((n : ZonedNode) → l ≡ Zoned n → ⊥) → ((which : ℕ) → l ≡ Pressing which → ⊥) → (l ≡ AsIs → ⊥) → ((n : Arc DictNode Global) (eof : Eof) → l ≡ Probe n eof → ⊥) → (l ≡ Asking → ⊥) → ((r : DictRuns) → l ≡ Runs r → ⊥)
    → is_over l ≡ false → is_flat l ≡ true
flat_left (Empty n) q a b d z w x y v r h = refl
flat_left (Full f) q a b d z w x y v r h = refl
flat_left (Grouped n) q a b d z w x y v r h = absurd (q n refl)
flat_left (Chunked n eof rows) q a b d z w x y v r h = absurd (a n eof rows refl)
flat_left (Columns n rows) q a b d z w x y v r h = absurd (b n rows refl)
flat_left (Lists n rows) q a b d z w x y v r h = absurd (d n rows refl)
flat_left (Zoned n) q a b d z w x y v r h = absurd (z n refl)
flat_left (Pressing which) q a b d z w x y v r h = absurd (w which refl)
flat_left AsIs q a b d z w x y v r h = absurd (x refl)
flat_left (Probe n eof) q a b d z w x y v r h = absurd (y n eof refl)
flat_left Asking q a b d z w x y v r h = absurd (v refl)
flat_left (Runs f) q a b d z w x y v r h = absurd (r f refl)
flat_left Passing q a b d z w x y v r h = absurd (true≢false h)
flat_left Over q a b d z w x y v r h = absurd (true≢false h)
flat_left (Made f) q a b d z w x y v r h = absurd (true≢false h)

-- where a chunk came of each dictionary node, none is probed at the end
pub unprobed : (l : Local) → ((n : Arc DictNode Global) (eof : Eof) → l ≡ Probe n eof → ⊥) → is_probe l ≡ false
unprobed (Empty n) h = refl
unprobed (Full x) h = refl
unprobed (Chunked n eof rows) h = refl
unprobed (Columns n rows) h = refl
unprobed (Lists n rows) h = refl
unprobed (Grouped n) h = refl
unprobed (Zoned n) h = refl
unprobed (Pressing which) h = refl
unprobed AsIs h = refl
unprobed Asking h = refl
unprobed (Runs r) h = refl
unprobed Passing h = refl
unprobed Over h = refl
unprobed (Made x) h = refl
unprobed (Probe n eof) h = absurd (h n eof refl)

-- what isn't one of cutting runs
pub uncut : (l : Local) → ((r : DictRuns) → l ≡ Runs r → ⊥) → is_cutting l ≡ false
uncut (Runs r) h = absurd (h r refl)
uncut (Empty n) h = refl
uncut (Full x) h = refl
uncut (Chunked n eof rows) h = refl
uncut (Columns n rows) h = refl
uncut (Lists n rows) h = refl
uncut (Grouped n) h = refl
uncut (Zoned n) h = refl
uncut (Pressing which) h = refl
uncut AsIs h = refl
uncut (Probe n eof) h = refl
uncut Asking h = refl
uncut Passing h = refl
uncut Over h = refl
uncut (Made x) h = refl

regrouped : (r : Regroup) (j : Option Item) (rows : ℕ) (n : Coder) (e : Eof) → mind_in r j rows ≡ by_probe n e → ⊥
regrouped (Repartition h) j rows n e is = cc
regrouped (Buffered h) j rows n e is = cc
regrouped (Collect h) j rows n e is = cc

pub no_probe : (l : Local) → is_probe l ≡ false → (n : Coder) (e : Eof) → mind_of l ≡ by_probe n e → ⊥
no_probe (Probe n eof) h c e is = true≢false h
no_probe (Grouped n) h c e is = regrouped n.rule n.newest n.rows c e is
no_probe (Empty n) h c e is = cc
no_probe (Full x) h c e is = cc
no_probe (Chunked n eof rows) h c e is = cc
no_probe (Columns n rows) h c e is = cc
no_probe (Lists n rows) h c e is = cc
no_probe (Zoned n) h c e is = cc
no_probe (Pressing which) h c e is = cc
no_probe AsIs h c e is = cc
no_probe Asking h c e is = cc
no_probe (Runs r) h c e is = cc
no_probe Passing h c e is = cc
no_probe Over h c e is = cc
no_probe (Made x) h c e is = cc

-- ---- by what was in mind

module _ {A : Type 0} (ctx : LayoutWriterContext) (name : List ℕ) (ks : Tasks) (i : Item) (l k : Local) (is : l ≡ k) where
  -- told for each image
  pub taken_by : (m : Local) (todo before : List Next) (kids : Tasks) (r : Result A WriteError)
      → OnOk r ((image : ℕ → ChunkData → ChunkData) → Took (taken (setting_of ctx image) name ks (item_of i) (mind_of k)) (mind_of m) todo before kids) → OnOk r (ChunkTaken ctx name ks i l m todo before kids)
  taken_by m todo before kids (Ok x) h = λ image. subst (λ z. Took (taken (setting_of ctx image) name ks (item_of i) (mind_of z)) (mind_of m) todo before kids) (sym is) (h image)
  taken_by m todo before kids (Err e) h = tt

  pub untaken_by : (r : Result A WriteError) → IfErr r (λ e. (image : ℕ → ChunkData → ChunkData) → TakeRefused (taken (setting_of ctx image) name ks (item_of i) (mind_of k)) e) → IfErr r (ChunkRefused ctx name ks i l)
  untaken_by (Ok x) h = tt
  untaken_by (Err e) h = λ image. subst (λ z. TakeRefused (taken (setting_of ctx image) name ks (item_of i) (mind_of z)) e) (sym is) (h image)

  -- for each setting that allows so much, and whatever is left to do
  pub chunked_by : (m : Local) (todo : List Next) (kids : Tasks) (r : Result A WriteError)
      → OnOk r ((s : Setting) (td : List Next) → s.allowed ≡ allowed_in ctx → Took (taken s name ks (item_of i) (mind_of k)) (mind_of m) td td kids) → OnOk r (ChunkTaken ctx name ks i l m todo todo kids)
  chunked_by m todo kids (Ok x) h = taken_by m todo todo kids (Ok x) (λ image. h (setting_of ctx image) todo refl)
  chunked_by m todo kids (Err e) h = tt

  pub chunked_why_by : (r : Result A WriteError) → IfErr r (λ e. (s : Setting) → s.allowed ≡ allowed_in ctx → TakeRefused (taken s name ks (item_of i) (mind_of k)) e) → IfErr r (ChunkRefused ctx name ks i l)
  chunked_why_by (Ok x) h = tt
  chunked_why_by (Err e) h = untaken_by (Err e) (λ image. h (setting_of ctx image) refl)

  -- for each setting and each task
  pub columns_by : (m : Local) (todo before : List Next) (r : Result A WriteError)
      → OnOk r ((s : Setting) (n : List ℕ) (ts : Tasks) → Took (taken s n ts (item_of i) (mind_of k)) (mind_of m) todo before ts) → OnOk r (ChunkTaken ctx name ks i l m todo before ks)
  columns_by m todo before (Ok x) h = taken_by m todo before ks (Ok x) (λ image. h (setting_of ctx image) name ks)
  columns_by m todo before (Err e) h = tt

  pub columns_why_by : (r : Result A WriteError) → IfErr r (λ e. (s : Setting) (n : List ℕ) (ts : Tasks) → TakeRefused (taken s n ts (item_of i) (mind_of k)) e) → IfErr r (ChunkRefused ctx name ks i l)
  columns_why_by (Ok x) h = tt
  columns_why_by (Err e) h = untaken_by (Err e) (λ image. h (setting_of ctx image) name ks)

  -- what is in mind stays
  pub taken_as : (todo before : List Next) (r : Result A WriteError)
      → OnOk r ((s : Setting) (n : List ℕ) (ts : Tasks) → Took (taken s n ts (item_of i) (mind_of k)) (mind_of k) todo before ts) → OnOk r (ChunkTaken ctx name ks i l l todo before ks)
  taken_as todo before r h = columns_by l todo before r (subst (λ z. OnOk r ((s : Setting) (n : List ℕ) (ts : Tasks) → Took (taken s n ts (item_of i) (mind_of k)) (mind_of z) todo before ts)) (sym is) h)

  -- by the program's own hash
  pub zones_by : (m : Local) (todo before : List Next) (r : Result A WriteError)
      → OnOk r ((s : Setting) (n : List ℕ) (ts : Tasks) → s.hash ≡ xxhash3_64 → Took (taken s n ts (item_of i) (mind_of k)) (mind_of m) todo before ts) → OnOk r (ChunkTaken ctx name ks i l m todo before ks)
  zones_by m todo before (Ok x) h = taken_by m todo before ks (Ok x) (λ image. h (setting_of ctx image) name ks refl)
  zones_by m todo before (Err e) h = tt

module _ {A : Type 0} (ctx : LayoutWriterContext) (name : List ℕ) (ks : Tasks) (i : Item) (l : Local) where
  pub flat_by : (m : Local) (todo : List Next) (r : Result A WriteError) → OnOk r ((n : List ℕ) (ts : Tasks) (td : List Next) → ChunkTaken ctx n ts i l m td td ts)
      → OnOk r (ChunkTaken ctx name ks i l m todo todo ks)
  flat_by m todo (Ok x) h = h name ks todo
  flat_by m todo (Err e) h = tt

  pub flat_why_by : (r : Result A WriteError) → IfErr r (λ e. (n : List ℕ) (ts : Tasks) → ChunkRefused ctx n ts i l e) → IfErr r (ChunkRefused ctx name ks i l)
  flat_why_by (Ok x) h = tt
  flat_why_by (Err e) h = h name ks

-- ---- the end

-- of a struct the columns are counted alike
pub same_columns : (t : Ty) → is_struct t ≡ true → struct_children t ≡ column_count t
same_columns (struct fs n) h = refl
same_columns (boolean n) h = absurd (true≢false (sym h))
same_columns (primitive p n) h = absurd (true≢false (sym h))
same_columns (utf8 n) h = absurd (true≢false (sym h))
same_columns (binary n) h = absurd (true≢false (sym h))
same_columns (list u n) h = absurd (true≢false (sym h))
same_columns (extension tag u) h = absurd (true≢false (sym h))

-- whether there are neither children nor columns
abbrev pub bare_columns : ColumnsNode → ℕ → Bool
bare_columns n kids = (kids == 0) && (0 == column_count (ty (arc_value n.dtype)))

module _ (n : ColumnsNode) (rows kids : ℕ) (m : Local) (todo before : List Next) where
  columns_by_test : (b : Bool) → bare_columns n kids ≡ b → ((ks : Tasks) → Ended (end_columns b (ty (arc_value n.dtype)) rows (bare [] (mind_of (Columns n rows))) ks) (mind_of m) todo before)
      → EndTaken (Columns n rows) kids m todo before
  columns_by_test b is h = λ s ks same.
      subst (λ z. Ended (end_columns z (ty (arc_value n.dtype)) rows (bare [] (mind_of (Columns n rows))) ks) (mind_of m) todo before) (sym (ap (bare_columns n) same ∙ is)) (h ks)

  pub columns_made : bare_columns n kids ≡ true → mind_of m ≡ made (struct_layout (ty (arc_value n.dtype)) rows []) → todo ≡ before → EndTaken (Columns n rows) kids m todo before
  columns_made is a e = columns_by_test true is (λ ks. record { unrefused = refl; fits = refl; counted = none_fit; mind_is = a; todo_is = e ∙ sym (append-nil before) })

  pub columns_end : bare_columns n kids ≡ false → mind_of m ≡ ending → todo ≡ before ++ (shut_kids ∷ join_kids (fold_columns (ty (arc_value n.dtype)) rows) ∷ [])
      → EndTaken (Columns n rows) kids m todo before
  columns_end is a e = columns_by_test false is (λ ks. record { unrefused = refl; fits = refl; counted = none_fit; mind_is = a; todo_is = e })

-- memory may run out
pub end_memory : {A : Type 0} (l : Local) (kids : ℕ) (r : Result A WriteError) → IfErr r (λ e. e ≡ OutOfMemory) → IfErr r (EndRefused l kids)
end_memory l kids r h = memory_only (EndRefused l kids) r (λ s ks same. tt) h

-- of a local that was replaced, behind a reservation
pub ended_by : (l b a m : Local) (kids : ℕ) (todo : List Next) (mid before : List Due) → b ≡ l → m ≡ a → mid ≡ before → EndTaken b kids a todo (todo_of mid) → EndTaken l kids m todo (todo_of before)
ended_by l b a m kids todo mid before x y z h =
    subst (λ w. EndTaken w kids m todo (todo_of before)) x (subst (λ w. EndTaken b kids w todo (todo_of before)) (sym y) (subst (λ w. EndTaken b kids a todo (todo_of w)) z h))

-- by what was in mind
pub ended_as : (l k m : Local) (kids : ℕ) (todo before : List Next) → l ≡ k → EndTaken k kids m todo before → EndTaken l kids m todo before
ended_as l k m kids todo before e h = subst (λ w. EndTaken w kids m todo before) (sym e) h

-- of a node that only presses what it takes, or passes it on as it is
pub of_way : (P : Local → Type 0) (l : Local) → ((w : ℕ) × (l ≡ Pressing w)) ⊎ (l ≡ AsIs) → ((w : ℕ) → P (Pressing w)) → P AsIs → P l
of_way P l (inl (w, is)) f p = subst P (sym is) (f w)
of_way P l (inr is) f p = subst P (sym is) p

pub ended_empty : (l : Local) (n : FlatNode) (kids : ℕ) (todo : List Next) (r : Result Local WriteError) → l ≡ Empty n → IfOk r (λ m. mind_of m ≡ made (gathered (ty (arc_value n.dtype)) 0 []))
    → IfOk r (λ m. EndTaken l kids m todo todo)
ended_empty l n kids todo (Ok m) is h = ended_as l (Empty n) m kids todo todo is (λ s ks same. record { unrefused = refl; fits = refl; counted = none_fit; mind_is = h; todo_is = sym (append-nil todo) })
ended_empty l n kids todo (Err e) is h = tt

pub ended_where : (l k : Local) (kids : ℕ) (todo before : List Next) (r : Result Local WriteError) → l ≡ k → IfOk r (λ m. EndTaken k kids m todo before) → IfOk r (λ m. EndTaken l kids m todo before)
ended_where l k kids todo before r is h = subst (λ w. IfOk r (λ m. EndTaken w kids m todo before)) (sym is) h

pub unended_as : {A : Type 0} (l k : Local) (kids : ℕ) (r : Result A WriteError) → l ≡ k → IfErr r (EndRefused k kids) → IfErr r (EndRefused l kids)
unended_as l k kids r is h = subst (λ w. IfErr r (EndRefused w kids)) (sym is) h

-- ---- as the next act of a task

left_alone : (xs todo before : List Next) → todo ≡ xs ++ before → before ≡ [] → todo ≡ xs
left_alone xs todo before e n = e ∙ ap (λ z. xs ++ z) n ∙ append-nil xs

pub took_shows : (s : Setting) (c : Desk) (ks : Tasks) (i : Piece) (xs : List Piece) (mind m : Mind) (todo before : List Next) (h : Head) (kids : List Task)
    → Took (taken s c.name ks i mind) m todo before (row kids) → before ≡ [] → desk_of h ≡ now c m todo xs → TakeDone (take_chunk s c ks i xs mind) h kids
took_shows s c ks i xs (by_block len minimum t z j rows) m todo before h kids d n e = group_shows (block_grouper (of_length len minimum) t) (by_block len minimum t) (not (ty_eq (piece_type i.1) t)) z rows c ks i xs j m todo before h kids d n e
took_shows s c ks i xs (by_size size z j rows) m todo before h kids d n e = group_shows (byte_grouper size) (by_size size) false z rows c ks i xs j m todo before h kids d n e
took_shows s c ks i xs (no_chunk o t) m todo before h kids d n e =
    record { unrefused = d.unrefused; fits = d.fits; counted = d.counted; kids_are = d.kids_are; desk = e ∙ (λ j. now c (d.mind_is j) (left_alone [] todo before d.todo_is n j) xs) }
took_shows s c ks i xs (one_chunk x) m todo before h kids d n e =
    record { unrefused = d.unrefused; fits = d.fits; counted = d.counted; kids_are = d.kids_are; desk = e ∙ (λ j. now c (d.mind_is j) (left_alone [] todo before d.todo_is n j) xs) }
took_shows s c ks i xs (by_chunk a t f z rows) m todo before h kids d n e =
    record { unrefused = d.unrefused; fits = d.fits; counted = d.counted; kids_are = d.kids_are; desk = e ∙ (λ j. now c (d.mind_is j) (left_alone [] todo before d.todo_is n j) xs) }
took_shows s c ks i xs (by_column t rows) m todo before h kids d n e =
    record { unrefused = d.unrefused; fits = d.fits; counted = d.counted; kids_are = d.kids_are; desk = e ∙ (λ j. now c (d.mind_is j) (left_alone (puts 0 i.0 (columns_in t i.1)) todo before d.todo_is n j) xs) }
took_shows s c ks i xs (by_list t b first from rows) m todo before h kids d n e =
    record { unrefused = d.unrefused; fits = d.fits; counted = d.counted; kids_are = d.kids_are; desk = e ∙ (λ j. now c (d.mind_is j) (left_alone (puts 0 i.0 (list_columns t b first from i.1)) todo before d.todo_is n j) xs) }
took_shows s c ks i xs (as_one t z rows) m todo before h kids d n e =
    record { unrefused = d.unrefused; fits = d.fits; counted = d.counted; kids_are = d.kids_are; desk = e ∙ (λ j. now c (d.mind_is j) (left_alone [] todo before d.todo_is n j) xs) }
took_shows s c ks i xs (by_image which) m todo before h kids d n e =
    record { unrefused = d.unrefused; fits = d.fits; counted = d.counted; kids_are = d.kids_are; desk = e ∙ (λ j. now c (d.mind_is j) (left_alone (press which i ∷ []) todo before d.todo_is n j) xs) }
took_shows s c ks i xs as_is m todo before h kids d n e =
    record { unrefused = d.unrefused; fits = d.fits; counted = d.counted; kids_are = d.kids_are; desk = e ∙ (λ j. now c (d.mind_is j) (left_alone (hand_on 0 i ∷ []) todo before d.todo_is n j) xs) }
took_shows s c ks i xs (by_probe k z) m todo before h kids d n e =
    record { unrefused = d.unrefused; fits = d.fits; counted = d.counted; kids_are = d.kids_are; desk = e ∙ (λ j. now c (d.mind_is j) (left_alone (probe k z i ∷ []) todo before d.todo_is n j) xs) }
took_shows s c ks i xs asking m todo before h kids d n e =
    record { unrefused = d.unrefused; fits = d.fits; counted = d.counted; kids_are = d.kids_are; desk = e ∙ (λ j. now c (d.mind_is j) (left_alone [] todo before d.todo_is n j) xs) }
took_shows s c ks i xs (by_run k r z rows) m todo before h kids d n e =
    record { unrefused = d.unrefused; fits = d.fits; counted = d.counted; kids_are = d.kids_are; desk = e ∙ (λ j. now c (d.mind_is j) (left_alone (deed_nexts k (deeds_at k r z)) todo before d.todo_is n j) xs) }
took_shows s c ks i xs (by_zone g z zs) m todo before h kids d n e =
    record { unrefused = d.unrefused; fits = d.fits; counted = d.counted; kids_are = d.kids_are; desk = e ∙ (λ j. now c (d.mind_is j) (left_alone (put 0 i ∷ []) todo before d.todo_is n j) xs) }
took_shows s c ks i xs passing m todo before h kids d n e =
    record { unrefused = d.unrefused; fits = d.fits; counted = d.counted; kids_are = d.kids_are; desk = e ∙ (λ j. now c (d.mind_is j) (left_alone [] todo before d.todo_is n j) xs) }
took_shows s c ks i xs ending m todo before h kids d n e =
    record { unrefused = d.unrefused; fits = d.fits; counted = d.counted; kids_are = d.kids_are; desk = e ∙ (λ j. now c (d.mind_is j) (left_alone [] todo before d.todo_is n j) xs) }
took_shows s c ks i xs (made l) m todo before h kids d n e =
    record { unrefused = d.unrefused; fits = d.fits; counted = d.counted; kids_are = d.kids_are; desk = e ∙ (λ j. now c (d.mind_is j) (left_alone [] todo before d.todo_is n j) xs) }

pub took_stopped : (counts : ℕ) (s : Setting) (c : Desk) (ks : Tasks) (i : Piece) (xs : List Piece) (mind : Mind) (e : WriteError) → TakeStopped counts (taken s c.name ks i mind) e → TakeStopped counts (take_chunk s c ks i xs mind) e
took_stopped counts s c ks i xs (no_chunk o t) e h = h
took_stopped counts s c ks i xs (one_chunk x) e h = h
took_stopped counts s c ks i xs (by_chunk a t f z rows) e h = h
took_stopped counts s c ks i xs (by_column t rows) e h = h
took_stopped counts s c ks i xs (by_list t b first from rows) e h = h
took_stopped counts s c ks i xs (by_block len minimum t z j rows) e h = group_stopped (block_grouper (of_length len minimum) t) (by_block len minimum t) (not (ty_eq (piece_type i.1) t)) z rows c ks i xs counts j e h
took_stopped counts s c ks i xs (by_size size z j rows) e h = group_stopped (byte_grouper size) (by_size size) false z rows c ks i xs counts j e h
took_stopped counts s c ks i xs (as_one t z rows) e h = h
took_stopped counts s c ks i xs (by_image which) e h = h
took_stopped counts s c ks i xs as_is e h = h
took_stopped counts s c ks i xs (by_probe k z) e h = h
took_stopped counts s c ks i xs asking e h = h
took_stopped counts s c ks i xs (by_run k r z rows) e h = h
took_stopped counts s c ks i xs (by_zone g z zs) e h = h
took_stopped counts s c ks i xs passing e h = h
took_stopped counts s c ks i xs ending e h = h
took_stopped counts s c ks i xs (made l) e h = h

-- what a take of the end leaves, of whichever task
module _ (s : Setting) (c : Desk) (ks : Tasks) (m : Mind) (todo : List Next) (h : Head) (kids : List Task) (is : desk_of h ≡ now c m todo []) where
  module _ (same : row kids ≡ ks) where
    columns_shows : (b : Bool) (t : Ty) (rows : ℕ) (q : Mind) → Ended (end_columns b t rows (bare [] q) ks) m todo [] → TakeDone (end_columns b t rows c ks) h kids
    columns_shows true t rows q d = record { unrefused = d.unrefused; fits = d.fits; counted = d.counted; kids_are = same; desk = is ∙ (λ j. now c (d.mind_is j) (d.todo_is j) []) }
    columns_shows false t rows q d = record { unrefused = d.unrefused; fits = d.fits; counted = d.counted; kids_are = same; desk = is ∙ (λ j. now c (d.mind_is j) (d.todo_is j) []) }

    lists_shows : (b : Bool) (t : Ty) (rows : ℕ) (q : Mind) → Ended (end_lists b t rows (bare [] q) ks) m todo [] → TakeDone (end_lists b t rows c ks) h kids
    lists_shows true t rows q d = record { unrefused = d.unrefused; fits = d.fits; counted = d.counted; kids_are = same; desk = is ∙ (λ j. now c (d.mind_is j) (d.todo_is j) []) }
    lists_shows false t rows q d = record { unrefused = d.unrefused; fits = d.fits; counted = d.counted; kids_are = same; desk = is ∙ (λ j. now c (d.mind_is j) (d.todo_is j) []) }

    zones_shows : (table : Option (List Filled)) (g : Zoner) (e : Eof) (z : Zones) (q : Mind) → Ended (end_zones table g e z (bare [] q) ks) m todo [] → TakeDone (end_zones table g e z c ks) h kids
    zones_shows None g e z q d = record { unrefused = d.unrefused; fits = d.fits; counted = d.counted; kids_are = same; desk = is ∙ (λ j. now c (d.mind_is j) (d.todo_is j) []) }
    zones_shows (Some cs) g e z q d = record { unrefused = d.unrefused; fits = d.fits; counted = d.counted; kids_are = same; desk = is ∙ (λ j. now c (d.mind_is j) (d.todo_is j) []) }

    end_shows : (mind : Mind) → ((n : Coder) (e : Eof) → mind ≡ by_probe n e → ⊥) → Ended (take_end s (bare [] mind) ks mind) m todo [] → TakeDone (take_end s c ks mind) h kids
    end_shows (by_column t rows) f d = columns_shows ((count ks == 0) && (0 == column_count t)) t rows (by_column t rows) d
    end_shows (by_list t n first from rows) f d = lists_shows first (list t n) rows (by_list t n first from rows) d
    end_shows (by_block len minimum t z j rows) f d = rest_shows (block_grouper (of_length len minimum) t) z c ks (by_block len minimum t z j rows) m j todo h kids same is d
    end_shows (by_size size z j rows) f d = rest_shows (byte_grouper size) z c ks (by_size size z j rows) m j todo h kids same is d
    end_shows (by_zone g e z) f d = zones_shows (kept_columns g.columns z.records) g e z (by_zone g e z) d
    end_shows (by_probe n e) f d = absurd (f n e refl)
    end_shows (no_chunk o t) f d = record { unrefused = d.unrefused; fits = d.fits; counted = d.counted; kids_are = same; desk = is ∙ (λ j. now c (d.mind_is j) (d.todo_is j) []) }
    end_shows (one_chunk x) f d = record { unrefused = d.unrefused; fits = d.fits; counted = d.counted; kids_are = same; desk = is ∙ (λ j. now c (d.mind_is j) (d.todo_is j) []) }
    end_shows (by_chunk a t f z rows) k d = record { unrefused = d.unrefused; fits = d.fits; counted = d.counted; kids_are = same; desk = is ∙ (λ j. now c (d.mind_is j) (d.todo_is j) []) }
    end_shows (as_one t z rows) f d = record { unrefused = d.unrefused; fits = d.fits; counted = d.counted; kids_are = same; desk = is ∙ (λ j. now c (d.mind_is j) (d.todo_is j) []) }
    end_shows (by_image which) f d = record { unrefused = d.unrefused; fits = d.fits; counted = d.counted; kids_are = same; desk = is ∙ (λ j. now c (d.mind_is j) (d.todo_is j) []) }
    end_shows as_is f d = record { unrefused = d.unrefused; fits = d.fits; counted = d.counted; kids_are = same; desk = is ∙ (λ j. now c (d.mind_is j) (d.todo_is j) []) }
    end_shows asking f d = record { unrefused = d.unrefused; fits = d.fits; counted = d.counted; kids_are = same; desk = is ∙ (λ j. now c (d.mind_is j) (d.todo_is j) []) }
    end_shows (by_run k r z rows) f d = record { unrefused = d.unrefused; fits = d.fits; counted = d.counted; kids_are = same; desk = is ∙ (λ j. now c (d.mind_is j) (d.todo_is j) []) }
    end_shows passing f d = record { unrefused = d.unrefused; fits = d.fits; counted = d.counted; kids_are = same; desk = is ∙ (λ j. now c (d.mind_is j) (d.todo_is j) []) }
    end_shows ending f d = record { unrefused = d.unrefused; fits = d.fits; counted = d.counted; kids_are = same; desk = is ∙ (λ j. now c (d.mind_is j) (d.todo_is j) []) }
    end_shows (made l) f d = record { unrefused = d.unrefused; fits = d.fits; counted = d.counted; kids_are = same; desk = is ∙ (λ j. now c (d.mind_is j) (d.todo_is j) []) }

    pub ended_shows : (mind : Mind) (before : List Next) → ((n : Coder) (e : Eof) → mind ≡ by_probe n e → ⊥) → before ≡ [] → Ended (take_end s (bare [] mind) ks mind) m todo before → TakeDone (take_end s c ks mind) h kids
    ended_shows mind before f n d = end_shows mind f (subst (λ z. Ended (take_end s (bare [] mind) ks mind) m todo z) n d)

  -- a dictionary node's, to which no chunk came: its fallback is started
  probe_shows : (mind : Mind) (n : Coder) (e : Eof) → mind ≡ by_probe n e → row kids ≡ (take_end s (bare c.name mind) ks mind).kids → Ended (take_end s (bare c.name mind) ks mind) m todo [] → TakeDone (take_end s c ks mind) h kids
  probe_shows mind n e q same d = subst (λ z. row kids ≡ (take_end s (bare c.name z) ks z).kids → Ended (take_end s (bare c.name z) ks z) m todo [] → TakeDone (take_end s c ks z) h kids) (sym q)
      (λ same d. record { unrefused = d.unrefused; fits = d.fits; counted = d.counted; kids_are = same; desk = is ∙ (λ j. now c (d.mind_is j) (d.todo_is j) []) }) same d

  pub probed_shows : (mind : Mind) (n : Coder) (e : Eof) (before : List Next) → mind ≡ by_probe n e → before ≡ [] → row kids ≡ (take_end s (bare c.name mind) ks mind).kids → Ended (take_end s (bare c.name mind) ks mind) m todo before
      → TakeDone (take_end s c ks mind) h kids
  probed_shows mind n e before q none same d = probe_shows mind n e q same (subst (λ z. Ended (take_end s (bare c.name mind) ks mind) m todo z) none d)

-- why it isn't taken, of whichever task
module _ (s : Setting) (c : Desk) (at : List ℕ) (ks : Tasks) (e : WriteError) where
  columns_fail : (b : Bool) (t : Ty) (rows : ℕ) (q : Mind) → TakeRefused (end_columns b t rows (bare at q) ks) e → TakeRefused (end_columns b t rows c ks) e
  columns_fail true t rows q h = h
  columns_fail false t rows q h = h

  lists_fail : (b : Bool) (t : Ty) (rows : ℕ) (q : Mind) → TakeRefused (end_lists b t rows (bare at q) ks) e → TakeRefused (end_lists b t rows c ks) e
  lists_fail true t rows q h = h
  lists_fail false t rows q h = h

  zones_fail : (table : Option (List Filled)) (g : Zoner) (p : Eof) (z : Zones) (q : Mind) → TakeRefused (end_zones table g p z (bare at q) ks) e → TakeRefused (end_zones table g p z c ks) e
  zones_fail None g p z q h = h
  zones_fail (Some cs) g p z q h = h

  pub end_fails : (mind : Mind) → TakeRefused (take_end s (bare at mind) ks mind) e → TakeRefused (take_end s c ks mind) e
  end_fails (by_column t rows) h = columns_fail ((count ks == 0) && (0 == column_count t)) t rows (by_column t rows) h
  end_fails (by_list t n first from rows) h = lists_fail first (list t n) rows (by_list t n first from rows) h
  end_fails (by_block len minimum t z j rows) h = rest_fails (block_grouper (of_length len minimum) t) z c ks at (by_block len minimum t z j rows) j e h
  end_fails (by_size size z j rows) h = rest_fails (byte_grouper size) z c ks at (by_size size z j rows) j e h
  end_fails (by_zone g p z) h = zones_fail (kept_columns g.columns z.records) g p z (by_zone g p z) h
  end_fails (by_probe n p) h = h
  end_fails (no_chunk o t) h = h
  end_fails (one_chunk x) h = h
  end_fails (by_chunk a t f z rows) h = h
  end_fails (as_one t z rows) h = h
  end_fails (by_image which) h = h
  end_fails as_is h = h
  end_fails asking h = h
  end_fails (by_run k r z rows) h = h
  end_fails passing h = h
  end_fails ending h = h
  end_fails (made l) h = h

-- ---- a take is a take, and appends nothing

chunk_kind : (s : Setting) (c : Desk) (ks : Tasks) (i : Piece) (xs : List Piece) (mind : Mind) → actions.Take ≡ action_of (take_chunk s c ks i xs mind).kind
chunk_kind s c ks i xs (no_chunk o t) = refl
chunk_kind s c ks i xs (one_chunk x) = refl
chunk_kind s c ks i xs (by_chunk a t f z rows) = refl
chunk_kind s c ks i xs (by_column t rows) = refl
chunk_kind s c ks i xs (by_list t n first from rows) = refl
chunk_kind s c ks i xs (by_block len minimum t z j rows) = group_kind (block_grouper (of_length len minimum) t) (by_block len minimum t) (not (ty_eq (piece_type i.1) t)) z rows c ks i xs j
chunk_kind s c ks i xs (by_size size z j rows) = group_kind (byte_grouper size) (by_size size) false z rows c ks i xs j
chunk_kind s c ks i xs (as_one t z rows) = refl
chunk_kind s c ks i xs (by_image which) = refl
chunk_kind s c ks i xs as_is = refl
chunk_kind s c ks i xs (by_probe k z) = refl
chunk_kind s c ks i xs asking = refl
chunk_kind s c ks i xs (by_run k r z rows) = refl
chunk_kind s c ks i xs (by_zone g z zs) = refl
chunk_kind s c ks i xs passing = refl
chunk_kind s c ks i xs ending = refl
chunk_kind s c ks i xs (made l) = refl

chunk_wrote : (s : Setting) (c : Desk) (ks : Tasks) (i : Piece) (xs : List Piece) (mind : Mind) → (take_chunk s c ks i xs mind).wrote ≡ []
chunk_wrote s c ks i xs (no_chunk o t) = refl
chunk_wrote s c ks i xs (one_chunk x) = refl
chunk_wrote s c ks i xs (by_chunk a t f z rows) = refl
chunk_wrote s c ks i xs (by_column t rows) = refl
chunk_wrote s c ks i xs (by_list t n first from rows) = refl
chunk_wrote s c ks i xs (by_block len minimum t z j rows) = group_wrote (block_grouper (of_length len minimum) t) (by_block len minimum t) (not (ty_eq (piece_type i.1) t)) z rows c ks i xs j
chunk_wrote s c ks i xs (by_size size z j rows) = group_wrote (byte_grouper size) (by_size size) false z rows c ks i xs j
chunk_wrote s c ks i xs (as_one t z rows) = refl
chunk_wrote s c ks i xs (by_image which) = refl
chunk_wrote s c ks i xs as_is = refl
chunk_wrote s c ks i xs (by_probe k z) = refl
chunk_wrote s c ks i xs asking = refl
chunk_wrote s c ks i xs (by_run k r z rows) = refl
chunk_wrote s c ks i xs (by_zone g z zs) = refl
chunk_wrote s c ks i xs passing = refl
chunk_wrote s c ks i xs ending = refl
chunk_wrote s c ks i xs (made l) = refl

columns_kind : (b : Bool) (t : Ty) (rows : ℕ) (c : Desk) (ks : Tasks) → actions.Take ≡ action_of (end_columns b t rows c ks).kind
columns_kind true t rows c ks = refl
columns_kind false t rows c ks = refl

columns_wrote : (b : Bool) (t : Ty) (rows : ℕ) (c : Desk) (ks : Tasks) → (end_columns b t rows c ks).wrote ≡ []
columns_wrote true t rows c ks = refl
columns_wrote false t rows c ks = refl

lists_kind : (b : Bool) (t : Ty) (rows : ℕ) (c : Desk) (ks : Tasks) → actions.Take ≡ action_of (end_lists b t rows c ks).kind
lists_kind true t rows c ks = refl
lists_kind false t rows c ks = refl

lists_wrote : (b : Bool) (t : Ty) (rows : ℕ) (c : Desk) (ks : Tasks) → (end_lists b t rows c ks).wrote ≡ []
lists_wrote true t rows c ks = refl
lists_wrote false t rows c ks = refl

zones_kind : (table : Option (List Filled)) (g : Zoner) (e : Eof) (z : Zones) (c : Desk) (ks : Tasks) → actions.Take ≡ action_of (end_zones table g e z c ks).kind
zones_kind None g e z c ks = refl
zones_kind (Some cs) g e z c ks = refl

zones_wrote : (table : Option (List Filled)) (g : Zoner) (e : Eof) (z : Zones) (c : Desk) (ks : Tasks) → (end_zones table g e z c ks).wrote ≡ []
zones_wrote None g e z c ks = refl
zones_wrote (Some cs) g e z c ks = refl

end_kind : (s : Setting) (c : Desk) (ks : Tasks) (mind : Mind) → actions.Take ≡ action_of (take_end s c ks mind).kind
end_kind s c ks (no_chunk o t) = refl
end_kind s c ks (one_chunk x) = refl
end_kind s c ks (by_chunk a t f z rows) = refl
end_kind s c ks (by_column t rows) = columns_kind ((count ks == 0) && (0 == column_count t)) t rows c ks
end_kind s c ks (by_list t n first from rows) = lists_kind first (list t n) rows c ks
end_kind s c ks (by_block len minimum t z j rows) = rest_kind (block_grouper (of_length len minimum) t) z c ks j
end_kind s c ks (by_size size z j rows) = rest_kind (byte_grouper size) z c ks j
end_kind s c ks (as_one t z rows) = refl
end_kind s c ks (by_image which) = refl
end_kind s c ks as_is = refl
end_kind s c ks (by_probe k z) = refl
end_kind s c ks asking = refl
end_kind s c ks (by_run k r z rows) = refl
end_kind s c ks (by_zone g e z) = zones_kind (kept_columns g.columns z.records) g e z c ks
end_kind s c ks passing = refl
end_kind s c ks ending = refl
end_kind s c ks (made l) = refl

end_wrote : (s : Setting) (c : Desk) (ks : Tasks) (mind : Mind) → (take_end s c ks mind).wrote ≡ []
end_wrote s c ks (no_chunk o t) = refl
end_wrote s c ks (one_chunk x) = refl
end_wrote s c ks (by_chunk a t f z rows) = refl
end_wrote s c ks (by_column t rows) = columns_wrote ((count ks == 0) && (0 == column_count t)) t rows c ks
end_wrote s c ks (by_list t n first from rows) = lists_wrote first (list t n) rows c ks
end_wrote s c ks (by_block len minimum t z j rows) = rest_wrote (block_grouper (of_length len minimum) t) z c ks j
end_wrote s c ks (by_size size z j rows) = rest_wrote (byte_grouper size) z c ks j
end_wrote s c ks (as_one t z rows) = refl
end_wrote s c ks (by_image which) = refl
end_wrote s c ks as_is = refl
end_wrote s c ks (by_probe k z) = refl
end_wrote s c ks asking = refl
end_wrote s c ks (by_run k r z rows) = refl
end_wrote s c ks (by_zone g e z) = zones_wrote (kept_columns g.columns z.records) g e z c ks
end_wrote s c ks passing = refl
end_wrote s c ks ending = refl
end_wrote s c ks (made l) = refl

take_kind : (s : Setting) (c : Desk) (ks : Tasks) (xs : List Piece) → actions.Take ≡ action_of (do_take s c ks xs).kind
take_kind s c ks (i ∷ xs) = chunk_kind s c ks i xs c.mind
take_kind s c ks [] = end_kind s c ks c.mind

take_wrote : (s : Setting) (c : Desk) (ks : Tasks) (xs : List Piece) → (do_take s c ks xs).wrote ≡ []
take_wrote s c ks (i ∷ xs) = chunk_wrote s c ks i xs c.mind
take_wrote s c ks [] = end_wrote s c ks c.mind

pub take_acts : (s : Setting) (c : Desk) (ks : Tasks) (xs : List Piece) (o u : Outlet) (n : ℕ) (h : Head) (kids : List Task) → u ≡ o → TakeDone (do_take s c ks xs) h kids
    → Acted (do_take s c ks xs) o n u h kids actions.Take
take_acts s c ks xs o u n h kids e d = record {
  unrefused = d.unrefused;
  fits = d.fits;
  counted = d.counted;
  desk = d.desk;
  kids_are = d.kids_are;
  kind = take_kind s c ks xs;
  outlet = subst (λ ps. Behind o n ps u) (sym (take_wrote s c ks xs)) e;
}
