-- What a node that regroups holds behind a chunk, against the same in plain data.
use Rattle.std.proofs.Common.{◌≡◌, ℕ, ◌+◌, ◌<◌, ◌≤◌, ◌^◌, true, false, List, [], ◌∷◌, ◌++◌, map, length, Option, Some, None, refl, sym, ap, subst, ◌∙◌, arith}
use Rattle.std.proofs.lemmas.List.{map-append}
use Rattle.vx_model.specs.Ty.{Ty}
use Rattle.vx_model.specs.ChunkData.{ChunkData, cells, held}
use Rattle.vx_model.specs.Words.{total_by}
use Rattle.vx_plan.specs.PlanData.{Setting}
use Rattle.vx_regroup.specs.Regrouping.{given_by, after}
use Rattle.vx_regroup.specs.declared.regroup.Regroup.{Regroup}
use Rattle.vx_regroup.specs.declared.regroup.Regroup.TheVariants.{Repartition, Buffered, Collect}
use Rattle.vx_machine_state.specs.State.{as_one, Next, Tasks}
use Rattle.vx_machine_node.specs.declared.item.Item.{Item}
use Rattle.vx_machine_nodes.specs.Acting.{taken, Took}
use Rattle.vx_machine_node.specs.Regrouped.{is_of, misfits, misfit_in, reserved_of, sizes_of, chunks_held, sizes_in, is_idle, are_none, rows_counted, Weighs, numbers_of, handed, mind_in, ActedOn}
use Rattle.vx_machine_node.specs.Sizes.{sum_of}
use Rattle.vx_machine_node.specs.View.{item_of}
use Rattle.vx_machine_node.proofs.Fitting.{then_fit, one_fits, both_fit}
use Rattle.vx_machine_node.proofs.GroupSizes.{held_push, rows_more}

pub none_held : (cs : List ChunkData) → are_none cs ≡ true → cs ≡ []
none_held [] h = refl
none_held (c ∷ cs) h = absurd cc

-- a tracker that counts less can count it too
pub weighs_less : (a b : ℕ) (r : Regroup) (c : ChunkData) → a ≤ b → Weighs b r c → Weighs a r c
weighs_less a b (Buffered h) c l w = omega (arith, l, w)
weighs_less a b (Repartition h) c l w = tt
weighs_less a b (Collect h) c l w = tt

-- ---- what the node keeps

pub next_fits : (r : Regroup) (j : Option Item) (next : Regroup) (reserved : List ℕ) (todo before : List Next) (i : Item) → ActedOn r j next reserved todo before → misfits r i.chunk ≡ false → misfit_in next (Some i) ≡ false
next_fits r None next reserved todo before i a h = ap (λ x. misfits x i.chunk) a.0 ∙ h
next_fits (Repartition g) (Some j) next reserved todo before i a h = ap (λ x. misfits x i.chunk) a.next_is ∙ h
next_fits (Buffered g) (Some j) next reserved todo before i a h = ap (λ x. misfits x i.chunk) a.next_is ∙ h
next_fits (Collect g) (Some j) next reserved todo before i a h = ap (λ x. misfits x i.chunk) a.next_is ∙ h

pub next_of : (r : Regroup) (j : Option Item) (next : Regroup) (reserved : List ℕ) (todo before : List Next) (t : Ty) → ActedOn r j next reserved todo before → is_of r t ≡ true → is_of next t ≡ true
next_of r None next reserved todo before t a h = ap (λ x. is_of x t) a.0 ∙ h
next_of (Repartition g) (Some j) next reserved todo before t a h = ap (λ x. is_of x t) a.next_is ∙ h
next_of (Buffered g) (Some j) next reserved todo before t a h = ap (λ x. is_of x t) a.next_is ∙ h
next_of (Collect g) (Some j) next reserved todo before t a h = ap (λ x. is_of x t) a.next_is ∙ h

sizes_push : (r : Regroup) (cs : List ChunkData) (c : ChunkData) → sizes_of r cs ++ handed (reserved_of r c) ≡ sizes_of r (cs ++ (c ∷ []))
sizes_push (Repartition h) cs c = refl
sizes_push (Buffered h) cs c = sym (map-append held cs (c ∷ []))
sizes_push (Collect h) cs c = refl

-- the kind of the rule stays
same_sizes : (r : Regroup) (d c : ChunkData) → handed (reserved_of (after r d) c) ≡ handed (reserved_of r c)
same_sizes (Repartition h) d c = refl
same_sizes (Buffered h) d c = refl
same_sizes (Collect h) d c = refl

pub next_sizes : (r : Regroup) (j : Option Item) (next : Regroup) (reserved now : List ℕ) (todo before : List Next) (i : Item) → ActedOn r j next reserved todo before
    → now ≡ reserved ++ handed (reserved_of r i.chunk) → now ≡ sizes_in next (Some i)
next_sizes r None next reserved now todo before i a e =
    e ∙ ap (λ z. z ++ handed (reserved_of r i.chunk)) a.1 ∙ sizes_push r (chunks_held r) i.chunk ∙ ap (λ x. sizes_of x (chunks_held x ++ (i.chunk ∷ []))) (sym a.0)
next_sizes r (Some j) next reserved now todo before i a e =
    e ∙ ap (λ z. z ++ handed (reserved_of r i.chunk)) a.sizes
    ∙ ap (λ z. sizes_of next (chunks_held next) ++ z) (sym (same_sizes r j.chunk i.chunk) ∙ ap (λ x. handed (reserved_of x i.chunk)) (sym a.next_is))
    ∙ sizes_push next (chunks_held next) i.chunk

pub next_rows : (r : Regroup) (j : Option Item) (next : Regroup) (reserved : List ℕ) (todo before : List Next) (i : Item) (rows total : ℕ) → ActedOn r j next reserved todo before
    → rows_counted r j rows ≡ rows → total ≡ rows + length (cells i.chunk) → rows_counted next (Some i) total ≡ total
next_rows (Repartition h) None next reserved todo before i rows total a c t = ap (λ x. rows_counted x (Some i) total) a.0
next_rows (Repartition h) (Some j) next reserved todo before i rows total a c t = ap (λ x. rows_counted x (Some i) total) a.next_is
next_rows (Buffered h) None next reserved todo before i rows total a c t = ap (λ x. rows_counted x (Some i) total) a.0
next_rows (Buffered h) (Some j) next reserved todo before i rows total a c t = ap (λ x. rows_counted x (Some i) total) a.next_is
next_rows (Collect h) None next reserved todo before i rows total a c t =
    ap (λ x. rows_counted x (Some i) total) a.0 ∙ rows_more h.chunks i.chunk ∙ ap (λ n. n + length (cells i.chunk)) c ∙ sym t
next_rows (Collect h) (Some j) next reserved todo before i rows total a c t =
    ap (λ x. rows_counted x (Some i) total) a.next_is ∙ rows_more (h.chunks ++ (j.chunk ∷ [])) i.chunk ∙ ap (λ n. n + length (cells i.chunk)) c ∙ sym t

-- ---- the take

module _ (s : Setting) (name : List ℕ) (ks : Tasks) (i : Item) (rows total : ℕ) (next : Regroup) (reserved : List ℕ) (todo before : List Next)
    (sum : total ≡ rows + length (cells i.chunk)) (few : rows + length (cells i.chunk) < 2 ^ 64) where
  -- a buffer's sizes fit
  sizes_fit : (cs : List ChunkData) → reserved ≡ map held cs → sum_of reserved + held i.chunk < 2 ^ 64 → (held i.chunk < 2 ^ 64) × (sum_of (map held cs) + held i.chunk < 2 ^ 64)
  sizes_fit cs e w =
      let all : sum_of (map held cs) + held i.chunk < 2 ^ 64 = subst (λ z. sum_of z + held i.chunk < 2 ^ 64) e w in
      (omega (arith, all), all)

  pub group_took : (r : Regroup) (j : Option Item) → misfits r i.chunk ≡ false → is_idle r j ≡ true → ActedOn r j next reserved todo before → Weighs (sum_of reserved) r i.chunk
      → Took (taken s name ks (item_of i) (mind_in r j rows)) (mind_in next (Some i) total) todo before ks
  group_took (Repartition h) None m idle a w = record {
    unrefused = refl;
    fits = m;
    counted = one_fits (rows + length (cells i.chunk)) few;
    mind_is = λ k. mind_in (a.0 k) (Some i) (sum k);
    todo_is = a.2;
    kids_are = refl;
  }
  group_took (Repartition h) (Some j) m idle a w = record {
    unrefused = refl;
    fits = m;
    counted = then_fit (rows + length (cells i.chunk)) _ few (both_fit (numbers_of (Repartition h) j.chunk) (length (given_by (Repartition h) j.chunk false) ∷ []) a.numbers (one_fits (length (given_by (Repartition h) j.chunk false)) a.count));
    mind_is = λ k. mind_in (a.next_is k) (Some i) (sum k);
    todo_is = a.todo_is;
    kids_are = refl;
  }
  group_took (Buffered h) None m idle a w =
      let f = sizes_fit h.chunks a.1 w in
      record {
        unrefused = refl;
        fits = refl;
        counted = then_fit (rows + length (cells i.chunk)) (held i.chunk ∷ total_by held (h.chunks ++ (i.chunk ∷ [])) ∷ []) few (then_fit (held i.chunk) (total_by held (h.chunks ++ (i.chunk ∷ [])) ∷ []) f.0 (one_fits (total_by held (h.chunks ++ (i.chunk ∷ []))) (subst (λ n. n < 2 ^ 64) (sym (held_push h.chunks i.chunk)) f.1)));
        mind_is = λ k. mind_in (a.0 k) (Some i) (sum k);
        todo_is = a.2;
        kids_are = refl;
      }
  group_took (Buffered h) (Some j) m idle a w =
      let cs : List ChunkData = chunks_held (after (Buffered h) j.chunk) in
      let size : ℕ = total_by held (cs ++ (i.chunk ∷ [])) in
      let left : ℕ = length (given_by (Buffered h) j.chunk false) in
      let f = sizes_fit cs (a.sizes ∙ ap (λ x. sizes_of x (chunks_held x)) a.next_is) w in
      record {
        unrefused = refl;
        fits = refl;
        counted = then_fit (rows + length (cells i.chunk)) (held i.chunk ∷ size ∷ left ∷ []) few (then_fit (held i.chunk) (size ∷ left ∷ []) f.0 (then_fit size (left ∷ []) (subst (λ n. n < 2 ^ 64) (sym (held_push cs i.chunk)) f.1) (one_fits left a.count)));
        mind_is = λ k. mind_in (a.next_is k) (Some i) (sum k);
        todo_is = a.todo_is;
        kids_are = refl;
      }
  group_took (Collect h) None m idle a w = record {
    unrefused = refl;
    fits = m;
    counted = one_fits (rows + length (cells i.chunk)) few;
    mind_is = (λ k. mind_in (a.0 k) (Some i) (sum k)) ∙ ap (λ cs. as_one h.typed (Some (i.id, cs ++ (i.chunk ∷ []))) (rows + length (cells i.chunk))) (none_held h.chunks idle);
    todo_is = a.2;
    kids_are = refl;
  }
  group_took (Collect h) (Some j) m idle a w = record {
    unrefused = refl;
    fits = m;
    counted = one_fits (rows + length (cells i.chunk)) few;
    mind_is = λ k. mind_in (a.next_is k) (Some i) (sum k);
    todo_is = a.todo_is;
    kids_are = refl;
  }
