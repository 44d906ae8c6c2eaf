-- Where the compressor fails, it is called.
use Rattle.std.proofs.Common.{◌≡◌, ℕ, Bool, true, false, List, [], ◌∷◌, Result, Ok, Err, IfErr, refl, sym, subst}
use Rattle.std.proofs.lemmas.Bool.{true≢false}
use Rattle.std.proofs.lemmas.Result.{IfErr-weaker}
use Rattle.std.specs.Arc.{arc_value}
use Rattle.vx_path.specs.Path.{Eof}
use Rattle.vx_tasks.specs.Task.{Free, Call}
use Rattle.vx_plan.specs.PlanData.{Setting, Item as Piece}
use Rattle.vx_plan.specs.DictNode.{is_dictionary}
use Rattle.vx_machine_state.specs.Coder.{Coder}
use Rattle.vx_machine_state.specs.State.{Next, Desk, Tasks}
use Rattle.vx_machine_state.specs.Acts.{probed, do_act}
use Rattle.vx_write_answer.specs.declared.error.WriteError.{WriteError}
use Rattle.vx_write_answer.specs.declared.error.WriteError.TheVariants.{CompressFault, OutOfMemory}
use Rattle.vx_machine_node.specs.Causes.{MayCome, AppendMay}
use Rattle.vx_machine_node.specs.View.{coder_in, item_of, todo_of}
use Rattle.vx_machine_node.specs.declared.item.Due.{Due}
use Rattle.vx_machine_node.specs.declared.item.Due.TheVariants.{Put, HandOn, Press, Append, Close, Join, Table, Leave, Ask, OpenRun, EndRun}
use Rattle.vx_machine_acts.specs.Acting.{is_call, DueFails, NextFails, CallFails}

-- ---- of what is due

calls_fail : (d : Due) → is_call d ≡ true → (e : WriteError) → DueFails d e
calls_fail d h CompressFault = h
calls_fail d h e = tt

come_fails : (d : Due) (e : WriteError) → MayCome e → DueFails d e
come_fails d CompressFault h = absurd h
come_fails d e h = tt

appends_fail : (d : Due) (e : WriteError) → AppendMay e → DueFails d e
appends_fail d CompressFault h = absurd h
appends_fail d e h = tt

any_error : {A : Type 0} (r : Result A WriteError) (P : WriteError → Type 0) → ((e : WriteError) → P e) → IfErr r P
any_error (Ok x) P h = tt
any_error (Err e) P h = h e

module _ {A : Type 0} (d : Due) (r : Result A WriteError) where
  pub all_calls : (e : Due) → d ≡ e → is_call e ≡ true → IfErr r (DueFails d)
  all_calls e is h = any_error r (DueFails d) (calls_fail d (subst (λ z. is_call z ≡ true) (sym is) h))

  pub none_called : IfErr r MayCome → IfErr r (DueFails d)
  none_called h = IfErr-weaker r MayCome (DueFails d) (come_fails d) h

  pub none_appended : IfErr r AppendMay → IfErr r (DueFails d)
  none_appended h = IfErr-weaker r AppendMay (DueFails d) (appends_fail d) h

-- ---- of the next act

pub due_fails : (ds es : List Due) (d : Due) (e : WriteError) → ds ≡ d ∷ es → DueFails d e → NextFails ds e
due_fails ds es d e is h = subst (λ z. NextFails z e) (sym is) h

pub memory_fails : (ds : List Due) → NextFails ds OutOfMemory
memory_fails [] = tt
memory_fails (d ∷ ds) = tt

idle_fails : (e : WriteError) → MayCome e → NextFails [] e
idle_fails CompressFault h = absurd h
idle_fails e h = tt

pub take_fails : (ds : List Due) (e : WriteError) → ds ≡ [] → MayCome e → NextFails ds e
take_fails ds e is h = subst (λ z. NextFails z e) (sym is) (idle_fails e h)

-- ---- of a step

module _ (s : Setting) (n : ℕ) (c : Desk) (ks : Tasks) where
  probe_calls : (b : Bool) (x : Coder) (e : Eof) (i : Piece) (todo : List Next) → (probed s b x e i todo c ks).kind ≡ Free Call
  probe_calls true x e i todo = refl
  probe_calls false x e i todo = refl

  due_calls : (d : Due) (ds : List Due) → is_call d ≡ true → (do_act s n c ks (todo_of (d ∷ ds))).kind ≡ Free Call
  due_calls (Press which i) ds h = refl
  due_calls (Ask p) ds h =
      let x : Coder = coder_in (arc_value p.node) in
      probe_calls (is_dictionary (s.image x.options.probe (item_of p.item).1)) x p.pointer (item_of p.item) (todo_of ds)
  due_calls (Put j i) ds h = absurd (true≢false (sym h))
  due_calls (HandOn i r) ds h = absurd (true≢false (sym h))
  due_calls (Append x) ds h = absurd (true≢false (sym h))
  due_calls Close ds h = absurd (true≢false (sym h))
  due_calls (Join f) ds h = absurd (true≢false (sym h))
  due_calls (Table t) ds h = absurd (true≢false (sym h))
  due_calls (Leave e) ds h = absurd (true≢false (sym h))
  due_calls (OpenRun r i) ds h = absurd (true≢false (sym h))
  due_calls (EndRun j i) ds h = absurd (true≢false (sym h))

  pub act_calls : (ds : List Due) (e : WriteError) → NextFails ds e → CallFails (do_act s n c ks (todo_of ds)).kind e
  act_calls [] CompressFault h = absurd h
  act_calls (d ∷ ds) CompressFault h = due_calls d ds h
  act_calls ds e h = tt
