-- Runs so far, of the program and in plain data, an output at a time.
use Rattle.std.proofs.Common.{◌≡◌, ◌+◌, ◌*◌, ◌-◌, ◌≤◌, ◌^◌, ◌∷◌, ◌++◌, ◌∙◌, ℕ, suc, Bool, true, false, if◌then◌else◌, List, [], length, refl, sym, ap, subst, inl, inr, ⊎_elim, arith, length-append, append_assoc, Result, Ok, Err, OnOk}
use Rattle.std.proofs.lemmas.Bool.{and_parts}
use Rattle.std.proofs.lemmas.List.{map_push}
use Rattle.vx_path.specs.Path.{Eof, eof_path, next}
use Rattle.vx_model.specs.CellData.{CellData}
use Rattle.vx_model.specs.ChunkData.{ChunkData, cells}
use Rattle.vx_order.specs.Answers.{FullAt}
use Rattle.vx_order_answer.specs.declared.errors.OrderError.{OrderError}
use Rattle.vx_order_answer.specs.declared.errors.OrderError.TheVariants as order
use Rattle.vx_chunk.specs.Conditions.{IsTooLarge}
use Rattle.vx_chunk.specs.declared.error.ChunkError.{ChunkError}
use Rattle.vx_chunk.specs.declared.error.ChunkError.TheVariants as chunks
use Rattle.vx_sequence.specs.Universe.{Active}
use Rattle.vx_machine_ids.specs.Stock.{Stock, both}
use Rattle.vx_machine_ids.specs.Balance.{Owned, Moved}
use Rattle.vx_machine_ids.proofs.Stocks.{both_assoc, both_swap}
use Rattle.vx_machine_ids.proofs.MoveLaws.{moved_none, moved_beside, moved_as, owned_as}
use Rattle.vx_react.specs.declared.place.Place.{Place}
use Rattle.vx_react.specs.declared.place.Place.TheVariants.{Codes, Values}
use Rattle.vx_react.specs.Reactor.{Output}
use Rattle.vx_machine_turns.specs.Locals.{RunsSoFar as SoFar}
use Rattle.vx_machine_turns.specs.Dict.{rest_eof}
use Rattle.vx_plan.specs.PlanData.{Item as Piece}
use Rattle.vx_machine_state.specs.Coder.{Coder}
use Rattle.vx_machine_state.specs.Coding.{puts_codes, deed_next}
use Rattle.vx_machine_state.specs.State.{Next, put, open_run}
use Rattle.vx_write_answer.specs.Causes.{of_order}
use Rattle.vx_write_answer.specs.declared.error.WriteError.{WriteError}
use Rattle.vx_write_answer.specs.declared.error.WriteError.TheVariants.{SourceFault, SinkFault, CompressFault, BatchType, NotStruct, DuplicateField, ManyChunks, EmptyList, ZoneCut, ForbiddenAggregate, ForbiddenEncoding, TooLarge, OutOfMemory, Stopped}
use Rattle.vx_machine_node.specs.declared.dict_node.RunsSoFar.{RunsSoFar}
use Rattle.vx_machine_node.specs.declared.item.Due.{Due}
use Rattle.vx_machine_node.specs.Causes.{MayCome}
use Rattle.vx_machine_node.specs.RunPaths.{eof_at, begun_paths, run_eof}
use Rattle.vx_machine_nodes.specs.Runs.{behind, behind_all, next_at, nexts_at, may_follow, is_codes, rows_of, are_runs, all_rows, CutRefused}
use Rattle.vx_machine_node.specs.Ledger.{due_reserved, dues_reserved}
use Rattle.vx_machine_node.specs.Stocks.{due_stock, dues_stock}
use Rattle.vx_machine_node.specs.View.{runs_in, next_of, todo_of}
use Rattle.vx_machine_node.proofs.DueSteps.{one_more}
use Rattle.vx_machine_node.proofs.ReservedSteps.{dues_push}
use Rattle.vx_machine_nodes.proofs.RunLaws.{begun_is, rows_behind, all_later}

-- ---- paths

last_apart : (s : List ℕ) (n : ℕ) → eof_at (s ++ (n ∷ [])) ≡ record { stem = s; last = n }
last_apart [] n = refl
last_apart (x ∷ []) n = refl
last_apart (x ∷ y ∷ s) n = ap (λ (e : Eof). record { stem = x ∷ e.stem; last = e.last }) (last_apart (y ∷ s) n)

pub eof_of : (e : Eof) → eof_at (eof_path e) ≡ e
eof_of e = last_apart e.stem e.last

-- a pointer's path is that of its parts
pub first_path : (codes : List ℕ) (e : Eof) → codes ≡ eof_path e → codes ≡ eof_path (eof_at codes)
first_path codes e h = h ∙ ap eof_path (sym (eof_of e)) ∙ ap (λ p. eof_path (eof_at p)) (sym h)

pub second_path : (codes values : List ℕ) (e : Eof) → codes ≡ eof_path e → values ≡ eof_path (next e) → values ≡ eof_path (next (eof_at codes))
second_path codes values e h k = k ∙ ap (λ d. eof_path (next d)) (sym (eof_of e)) ∙ ap (λ p. eof_path (next (eof_at p))) (sym h)

two_back : (e : Eof) → run_eof (next (next e)) true ≡ e
two_back e = let q : ((e.last + 1) + 1) - 2 ≡ e.last = omega arith in λ j. record { stem = e.stem; last = q j }

two_on : (e : Eof) → 2 ≤ e.last → next (next (run_eof e true)) ≡ e
two_on e h = let q : ((e.last - 2) + 1) + 1 ≡ e.last = omega (arith, h) in λ j. record { stem = e.stem; last = q j }

rest_of : (e : Eof) (b : Bool) → begun_paths b ≤ e.last → (if b then next (next (run_eof e b)) else run_eof e b) ≡ e
rest_of e true h = two_on e h
rest_of e false h = refl

-- the pointer stands behind all eof paths that are taken
pub rest_is : (r : RunsSoFar) (ds : List CellData) → rest_eof (runs_in r ds) ≡ r.pointer
rest_is r ds = rest_of r.pointer r.begun (let h : 2 * length r.ended.items + begun_paths r.begun ≤ r.pointer.last = r.behind in omega (arith, h))

-- ---- refusals

module _ (eof below later deeper : ℕ) (a : eof ≤ later) (b : below ≤ deeper) where
  pub cut_wider : (e : WriteError) → CutRefused eof below e → CutRefused later deeper e
  cut_wider SourceFault h = h
  cut_wider SinkFault h = h
  cut_wider CompressFault h = h
  cut_wider (BatchType c) h = h
  cut_wider NotStruct h = h
  cut_wider (DuplicateField name) h = h
  cut_wider ManyChunks h = h
  cut_wider EmptyList h = h
  cut_wider (ZoneCut n) h = h
  cut_wider (ForbiddenAggregate id) h = h
  cut_wider (ForbiddenEncoding id) h = h
  cut_wider (TooLarge n) h =
      ⊎_elim (λ x. inl (⊎_elim (λ y. absurd y.0)
      (λ y. inr (⊎_elim (λ z. let l : 2 ^ 64 ≤ later = omega (arith, y.2, z, a) in (later, inl refl, l, y.3))
      (λ z. ⊎_elim (λ w. let l : 2 ^ 64 ≤ deeper = omega (arith, y.2, w, b) in (deeper, inr (inl refl), l, y.3)) (λ w. absurd w) z) y.1)) x))
      (λ x. inr x) h
  cut_wider OutOfMemory h = h
  cut_wider (Stopped by name) h = h

-- by the eof paths, and by the paths below the chunk's
pub full_eofs : (last eof below : ℕ) (e : OrderError) → FullAt last e → last + 1 ≤ eof → CutRefused eof below (of_order e)
full_eofs last eof below (order.TooLarge n) h l = let m : 2 ^ 64 ≤ eof = omega (arith, h.1, l) in inl (inr (eof, inl refl, m, h.0))
full_eofs last eof below order.SinkFault h l = absurd h
full_eofs last eof below order.OutOfMemory h l = tt
full_eofs last eof below (order.Stopped by name) h l = absurd h

pub full_below : (last eof below : ℕ) (e : OrderError) → FullAt last e → last + 1 ≤ below → CutRefused eof below (of_order e)
full_below last eof below (order.TooLarge n) h l = let m : 2 ^ 64 ≤ below = omega (arith, h.1, l) in inl (inr (below, inr (inl refl), m, h.0))
full_below last eof below order.SinkFault h l = absurd h
full_below last eof below order.OutOfMemory h l = tt
full_below last eof below (order.Stopped by name) h l = absurd h

-- ---- codes

-- the first ones of a run
pub began : (old new : RunsSoFar) (c : ChunkData) (k : ℕ) (ds : List CellData) → old.begun ≡ false → new.pointer ≡ next (next old.pointer) → new.begun ≡ true → new.rows ≡ old.rows + length (cells c) → new.ended.items ≡ old.ended.items
    → runs_in new ds ≡ behind (runs_in old ds) (Codes k) c
began old new c k ds h p b r e =
    let q : run_eof new.pointer new.begun ≡ run_eof old.pointer old.begun = (λ j. run_eof (p j) (b j)) ∙ two_back old.pointer ∙ ap (run_eof old.pointer) (sym h) in
    λ j. record { base = 2 * length (e j); eof = q j; begun = b j; distinct = ds; rows = r j; ended = e j }

pub open_is : (n : Coder) (r : RunsSoFar) (ds : List CellData) (k : ℕ) (i : Piece) → r.begun ≡ false → next_at n (runs_in r ds) (Codes k) i ≡ open_run n (2 * length r.ended.items) r.pointer i
open_is n r ds k i h = ap (λ b. deed_next n (puts_codes (2 * length r.ended.items) (run_eof r.pointer b) b i)) h

-- how far the eof paths come where a run begins
pub began_eof : (r : RunsSoFar) (k : ℕ) (c : ChunkData) → r.begun ≡ false → (rest_eof (behind (runs_in r []) (Codes k) c)).last ≡ r.pointer.last + 2
began_eof r k c h =
    let q : (next (next (run_eof r.pointer r.begun))).last ≡ (next (next r.pointer)).last = ap (λ b. (next (next (run_eof r.pointer b))).last) h in
    omega (arith, q)

-- ---- values

-- ---- what is to be done

-- the deque in between has room
put_last : (old now new : List Due) (d : Due) → now ≡ old → new ≡ now ++ (d ∷ []) → new ≡ old ++ (d ∷ [])
put_last old now new d a h = h ∙ ap (λ z. z ++ (d ∷ [])) a

pub pushed : (old now new : List Due) (d : Due) (x : Next) → now ≡ old → new ≡ now ++ (d ∷ []) → next_of d ≡ x → todo_of new ≡ todo_of old ++ (x ∷ [])
pushed old now new d x a h e = ap todo_of (put_last old now new d a h) ∙ map_push next_of old d ∙ ap (λ z. todo_of old ++ (z ∷ [])) e

-- by their number
pub many_runs : (n m number eof below : ℕ) (e : ChunkError) → e ≡ chunks.TooLarge n → m ≡ 2 ^ 64 → IsTooLarge number e → number ≤ eof → CutRefused eof below (TooLarge m)
many_runs n m number eof below e is large h l =
    let k : IsTooLarge number (chunks.TooLarge n) = subst (λ z. IsTooLarge number z) is h in
    let far : 2 ^ 64 ≤ eof = omega (arith, k.0, l) in
    inl (inr (eof, inl refl, far, large))

-- ---- ids of what is put last

pub last_moved : (u : Active) (i : Stock) (xs ms ys : List Due) (d : Due) → ms ≡ xs → ys ≡ ms ++ (d ∷ []) → due_stock d ≡ i → Owned u (both (dues_stock xs) i) → Moved u u (both (dues_stock xs) i) (dues_stock ys)
last_moved u i xs ms ys d a h k o =
    let e : both (dues_stock xs) i ≡ dues_stock ys = sym (one_more xs ys d (put_last xs ms ys d a h) ∙ ap (both (dues_stock xs)) k) in
    subst (λ z. Moved u u (both (dues_stock xs) i) z) e (moved_none u (both (dues_stock xs) i) o)

pub put_moved : (u : Active) (p i : Stock) (xs ms ys : List Due) (d : Due) → ms ≡ xs → ys ≡ ms ++ (d ∷ []) → due_stock d ≡ i → Owned u (both (both p (dues_stock xs)) i) → Moved u u (both (both p (dues_stock xs)) i) (both p (dues_stock ys))
put_moved u p i xs ms ys d a h k o =
    let e : dues_stock ys ≡ both (dues_stock xs) i = one_more xs ys d (put_last xs ms ys d a h) ∙ ap (both (dues_stock xs)) k in
    let q : both (both p (dues_stock xs)) i ≡ both p (dues_stock ys) = both_assoc p (dues_stock xs) i ∙ ap (both p) (sym e) in
    subst (λ z. Moved u u (both (both p (dues_stock xs)) i) z) q (moved_none u (both (both p (dues_stock xs)) i) o)

-- where a run begins besides
pub open_moved : (u v : Active) (p q r i : Stock) (xs ms ys : List Due) (d : Due) → ms ≡ xs → ys ≡ ms ++ (d ∷ []) → due_stock d ≡ both r i → Owned u (both (both p (dues_stock xs)) i) → Moved u v p (both q r)
    → Moved u v (both (both p (dues_stock xs)) i) (both q (dues_stock ys))
open_moved u v p q r i xs ms ys d l h k o m =
    let e : dues_stock ys ≡ both (dues_stock xs) (both r i) = one_more xs ys d (put_last xs ms ys d l h) ∙ ap (both (dues_stock xs)) k in
    let a : both (both p (dues_stock xs)) i ≡ both p (both (dues_stock xs) i) = both_assoc p (dues_stock xs) i in
    let b : Moved u v (both p (both (dues_stock xs) i)) (both (both q r) (both (dues_stock xs) i)) = moved_beside u v p (both q r) (both (dues_stock xs) i) (owned_as u _ _ a o) m in
    let c : both (both q r) (both (dues_stock xs) i) ≡ both q (dues_stock ys) =
    both_assoc q r (both (dues_stock xs) i)
    ∙ ap (both q) (sym (both_assoc r (dues_stock xs) i) ∙ ap (λ z. both z i) (both_swap r (dues_stock xs)) ∙ both_assoc (dues_stock xs) r i ∙ sym e) in
    moved_as u v _ _ _ _ (sym a) c b

pub put_reserved : (xs ms ys : List Due) (d : Due) → ms ≡ xs → ys ≡ ms ++ (d ∷ []) → due_reserved d ≡ 0 → dues_reserved ys ≡ dues_reserved xs
put_reserved xs ms ys d a h k = dues_push ys xs d (put_last xs ms ys d a h) ∙ (let e : dues_reserved xs + due_reserved d ≡ dues_reserved xs = omega (arith, k) in e)

-- ---- an output, by its place

pub at_place : (P : Place → Type 0) (x y : Place) → x ≡ y → P y → P x
at_place P x y e h = subst P (sym e) h

-- rows and beginnings, as the program counts them
pub begun_now : (old new : RunsSoFar) (x : Place) (c : ChunkData) → may_follow old.begun x ≡ true → ((ds : List CellData) → runs_in new ds ≡ behind (runs_in old ds) x c) → new.begun ≡ is_codes x
begun_now old new x c h e = ap (λ (z : SoFar). z.begun) (e []) ∙ begun_is (runs_in old []) x c h

pub rows_now : (old new : RunsSoFar) (x : Place) (c : ChunkData) → ((ds : List CellData) → runs_in new ds ≡ behind (runs_in old ds) x c) → new.rows ≤ old.rows + rows_of x c
rows_now old new x c e = let q : new.rows ≡ (behind (runs_in old []) x c).rows = ap (λ (z : SoFar). z.rows) (e []) in omega (arith, q, rows_behind (runs_in old []) x c)

-- ---- the first of some outputs

pub first_follows : (begun : Bool) (all : List Output) (x : Output) (xs : List Output) → all ≡ x ∷ xs → are_runs begun all ≡ true → may_follow begun x.0 ≡ true
first_follows begun all x xs e h = (and_parts (may_follow begun x.0) (are_runs (is_codes x.0) xs) (ap (are_runs begun) (sym e) ∙ h)).0

pub rest_follow : (begun : Bool) (all : List Output) (x : Output) (xs : List Output) → all ≡ x ∷ xs → are_runs begun all ≡ true → are_runs (is_codes x.0) xs ≡ true
rest_follow begun all x xs e h = (and_parts (may_follow begun x.0) (are_runs (is_codes x.0) xs) (ap (are_runs begun) (sym e) ∙ h)).1

pub first_few : (rows : ℕ) (all : List Output) (x : Output) (xs : List Output) → all ≡ x ∷ xs → rows + all_rows all ≡ (rows + rows_of x.0 x.1) + all_rows xs
first_few rows all x xs e = let h : all_rows all ≡ rows_of x.0 x.1 + all_rows xs = ap all_rows e in omega (arith, h)

-- a refusal of one is one of all
pub late_refusal : (r : RunsSoFar) (all : List Output) (x : Output) (xs : List Output) → all ≡ x ∷ xs → are_runs r.begun all ≡ true → (last end : ℕ) (whole : SoFar) → behind_all (runs_in r []) all ≡ whole → last + 1 ≤ end
    → (e : WriteError) → CutRefused (rest_eof (behind (runs_in r []) x.0 x.1)).last (last + 1) e → CutRefused (rest_eof whole).last end e
late_refusal r all x xs s h last end whole w l e c =
    let f = first_follows r.begun all x xs s h in
    let k : are_runs (behind (runs_in r []) x.0 x.1).begun xs ≡ true = ap (λ b. are_runs b xs) (begun_is (runs_in r []) x.0 x.1 f) ∙ rest_follow r.begun all x xs s h in
    let q : (rest_eof (behind_all (behind (runs_in r []) x.0 x.1) xs)).last ≡ (rest_eof whole).last = ap (λ ys. (rest_eof (behind_all (runs_in r []) ys)).last) (sym s) ∙ ap (λ (z : SoFar). (rest_eof z).last) w in
    let b = all_later (behind (runs_in r []) x.0 x.1) xs k in
    cut_wider (rest_eof (behind (runs_in r []) x.0 x.1)).last (last + 1) (rest_eof whole).last end (omega (arith, b, q)) l e c

one_up : (n : ℕ) → n + 1 ≡ suc n
one_up n = omega arith

pub one_nexts : (n : Coder) (r : SoFar) (e : Eof) (all : List Output) (x : Output) (xs : List Output) → all ≡ x ∷ xs → (todo : List Next)
    → (todo ++ (next_at n r x.0 (eof_path e, x.1) ∷ [])) ++ nexts_at n (behind r x.0 x.1) (next e).stem (next e).last xs ≡ todo ++ nexts_at n r e.stem e.last all
one_nexts n r e all x xs s todo =
    append_assoc todo (next_at n r x.0 (eof_path e, x.1) ∷ []) (nexts_at n (behind r x.0 x.1) e.stem (e.last + 1) xs)
    ∙ ap (λ k. todo ++ (next_at n r x.0 (eof_path e, x.1) ∷ nexts_at n (behind r x.0 x.1) e.stem k xs)) (one_up e.last)
    ∙ ap (λ ys. todo ++ nexts_at n r e.stem e.last ys) (sym s)

-- ---- answers

pub on_ok : {T E : Type 0} (r : Result T E) (A B : Type 0) → (A → B) → OnOk r A → OnOk r B
on_ok (Ok x) A B f h = f h
on_ok (Err e) A B f h = tt
