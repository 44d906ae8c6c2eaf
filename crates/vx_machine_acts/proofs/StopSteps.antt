-- Refusals of takes, also where the tracker is asked.
use Rattle.std.proofs.Common.{◌≡◌, ℕ, true, List, Result, Ok, Err, IfErr, OnOk, refl, sym, subst}
use Rattle.std.proofs.lemmas.Bool.{true≢false}
use Rattle.vx_sink.specs.declared.context.LayoutWriterContext.{LayoutWriterContext}
use Rattle.vx_sink.specs.ContextView.{counted}
use Rattle.vx_plan.specs.PlanData.{Setting}
use Rattle.vx_machine_state.specs.State.{Next, Tasks}
use Rattle.vx_write_answer.specs.declared.error.WriteError.{WriteError}
use Rattle.vx_write_answer.specs.declared.error.WriteError.TheVariants.{OutOfMemory}
use Rattle.vx_machine_node.specs.declared.item.Item.{Item}
use Rattle.vx_machine_node.specs.declared.grouped_node.GroupedNode.{GroupedNode}
use Rattle.vx_machine_node.specs.declared.node.Local.{Local}
use Rattle.vx_machine_node.specs.declared.node.Local.TheVariants.{Empty, Full, Chunked, Columns, Lists, Grouped, Over, Passing, Made, Zoned, Pressing, AsIs, Probe, Asking, Runs}
use Rattle.vx_machine_nodes.specs.Acting.{is_grouped, taken, Took, TakeRefused, TakeStopped, ChunkTaken, ChunkRefused, ChunkStopped}
use Rattle.vx_machine_node.specs.Context.{setting_of}
use Rattle.vx_machine_node.specs.View.{item_of, mind_of}
use Rattle.vx_machine_nodes.proofs.RefusalSteps.{memory_only, take_stops}

pub chunk_stops : {A : Type 0} (ctx : LayoutWriterContext) (name : List ℕ) (ks : Tasks) (i : Item) (l : Local) (r : Result A WriteError) → IfErr r (ChunkRefused ctx name ks i l) → IfErr r (ChunkStopped ctx name ks i l)
chunk_stops ctx name ks i l (Ok x) h = tt
chunk_stops ctx name ks i l (Err e) h = λ image. take_stops (counted ctx) (taken (setting_of ctx image) name ks (item_of i) (mind_of l)) e (h image)

-- memory may run out
pub chunk_memory : {A : Type 0} (ctx : LayoutWriterContext) (name : List ℕ) (ks : Tasks) (i : Item) (l : Local) (r : Result A WriteError) → IfErr r (λ e. e ≡ OutOfMemory) → IfErr r (ChunkStopped ctx name ks i l)
chunk_memory ctx name ks i l r h = memory_only (ChunkStopped ctx name ks i l) r (λ image. tt) h

-- of a node that regroups, told of each setting and each task

pub group_done : {A : Type 0} (ctx : LayoutWriterContext) (name : List ℕ) (ks : Tasks) (i : Item) (l m : Local) (todo before : List Next) (r : Result A WriteError)
    → OnOk r ((s : Setting) (n : List ℕ) (ts : Tasks) → Took (taken s n ts (item_of i) (mind_of l)) (mind_of m) todo before ts) → OnOk r (ChunkTaken ctx name ks i l m todo before ks)
group_done ctx name ks i l m todo before (Ok x) h = λ image. h (setting_of ctx image) name ks
group_done ctx name ks i l m todo before (Err e) h = tt

pub group_stops : {A : Type 0} (ctx : LayoutWriterContext) (name : List ℕ) (ks : Tasks) (i : Item) (l : Local) (r : Result A WriteError)
    → IfErr r (λ e. (s : Setting) (n : List ℕ) (ts : Tasks) → TakeStopped (counted ctx) (taken s n ts (item_of i) (mind_of l)) e) → IfErr r (ChunkStopped ctx name ks i l)
group_stops ctx name ks i l (Ok x) h = tt
group_stops ctx name ks i l (Err e) h = λ image. h (setting_of ctx image) name ks

-- of a local that was replaced, and then set anew

module _ (s : Setting) (name : List ℕ) (ks : Tasks) (i : Item) (l k : Local) (is : l ≡ k) where
  pub took_by : (m n : Local) (todo before : List Next) → n ≡ m → Took (taken s name ks (item_of i) (mind_of k)) (mind_of m) todo before ks → Took (taken s name ks (item_of i) (mind_of l)) (mind_of n) todo before ks
  took_by m n todo before e h =
      subst (λ z. Took (taken s name ks (item_of i) (mind_of z)) (mind_of n) todo before ks) (sym is)
      (subst (λ z. Took (taken s name ks (item_of i) (mind_of k)) (mind_of z) todo before ks) (sym e) h)

  pub stopped_by : (counts : ℕ) (e : WriteError) → TakeStopped counts (taken s name ks (item_of i) (mind_of k)) e → TakeStopped counts (taken s name ks (item_of i) (mind_of l)) e
  stopped_by counts e h = subst (λ z. TakeStopped counts (taken s name ks (item_of i) (mind_of z)) e) (sym is) h

module _ (s : Setting) (name : List ℕ) (ks : Tasks) (i : Item) (l k : Local) (is : l ≡ k) where
  pub refused_by : (e : WriteError) → TakeRefused (taken s name ks (item_of i) (mind_of k)) e → TakeRefused (taken s name ks (item_of i) (mind_of l)) e
  refused_by e h = subst (λ z. TakeRefused (taken s name ks (item_of i) (mind_of z)) e) (sym is) h

module _ {A : Type 0} (i : Item) (l k : Local) (is : l ≡ k) where
  pub took_each : (m n : Local) (todo before : List Next) → n ≡ m → (r : Result A WriteError)
      → OnOk r ((s : Setting) (name : List ℕ) (ks : Tasks) → Took (taken s name ks (item_of i) (mind_of k)) (mind_of m) todo before ks)
      → OnOk r ((s : Setting) (name : List ℕ) (ks : Tasks) → Took (taken s name ks (item_of i) (mind_of l)) (mind_of n) todo before ks)
  took_each m n todo before e (Ok x) h = λ s name ks. took_by s name ks i l k is m n todo before e (h s name ks)
  took_each m n todo before e (Err x) h = tt

  pub refused_each : (r : Result A WriteError) → IfErr r (λ e. (s : Setting) (name : List ℕ) (ks : Tasks) → TakeRefused (taken s name ks (item_of i) (mind_of k)) e)
      → IfErr r (λ e. (s : Setting) (name : List ℕ) (ks : Tasks) → TakeRefused (taken s name ks (item_of i) (mind_of l)) e)
  refused_each (Ok x) h = tt
  refused_each (Err e) h = λ s name ks. refused_by s name ks i l k is e (h s name ks)

pub grouped_only : (l : Local) → is_grouped l ≡ true → ((n : GroupedNode) → l ≡ Grouped n → ⊥) → ⊥
grouped_only (Grouped n) h f = f n refl
grouped_only (Empty n) h f = true≢false (sym h)
grouped_only (Full x) h f = true≢false (sym h)
grouped_only (Chunked n eof rows) h f = true≢false (sym h)
grouped_only (Columns n rows) h f = true≢false (sym h)
grouped_only (Lists n rows) h f = true≢false (sym h)
grouped_only (Zoned n) h f = true≢false (sym h)
grouped_only (Pressing which) h f = true≢false (sym h)
grouped_only AsIs h f = true≢false (sym h)
grouped_only (Probe n eof) h f = true≢false (sym h)
grouped_only Asking h f = true≢false (sym h)
grouped_only (Runs r) h f = true≢false (sym h)
grouped_only Over h f = true≢false (sym h)
grouped_only Passing h f = true≢false (sym h)
grouped_only (Made x) h f = true≢false (sym h)
