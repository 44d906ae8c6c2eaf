-- The end of a node that regroups, against that in plain data.
use Rattle.std.proofs.Common.{◌≡◌, ℕ, true, List, [], ◌∷◌, ◌++◌, length, Option, Some, None, refl, sym, ap, ◌∙◌}
use Rattle.vx_regroup.specs.Regrouping.{given_by}
use Rattle.vx_regroup.specs.declared.regroup.Regroup.{Regroup}
use Rattle.vx_regroup.specs.declared.regroup.Regroup.TheVariants.{Repartition, Buffered, Collect}
use Rattle.vx_plan.specs.PlanData.{Setting}
use Rattle.vx_machine_state.specs.State.{passing, shut_kids, Next, Tasks}
use Rattle.vx_machine_state.specs.Acts.{take_end}
use Rattle.vx_machine_node.specs.declared.item.Item.{Item}
use Rattle.vx_machine_nodes.specs.Acting.{bare, Ended}
use Rattle.vx_machine_node.specs.Regrouped.{numbers_of, mind_in, rest_hands, RestFits}
use Rattle.vx_machine_node.proofs.Fitting.{none_fit, one_fits, both_fit}

-- ---- the end

pub group_ended : (s : Setting) (r : Regroup) (j : Option Item) (rows : ℕ) (ks : Tasks) (todo before : List Next) → before ≡ [] → RestFits r j → todo ≡ rest_hands r j ++ (shut_kids ∷ [])
    → Ended (take_end s (bare [] (mind_in r j rows)) ks (mind_in r j rows)) passing todo before
group_ended s (Repartition h) None rows ks todo before n f e = record { unrefused = refl; fits = refl; counted = none_fit; mind_is = refl; todo_is = e ∙ ap (λ z. z ++ (shut_kids ∷ [])) (sym n) }
group_ended s (Repartition h) (Some j) rows ks todo before n f e = record {
  unrefused = refl;
  fits = refl;
  counted = both_fit (numbers_of (Repartition h) j.chunk) (length (given_by (Repartition h) j.chunk true) ∷ []) f.0 (one_fits (length (given_by (Repartition h) j.chunk true)) f.1);
  mind_is = refl;
  todo_is = e ∙ ap (λ z. z ++ (rest_hands (Repartition h) (Some j) ++ (shut_kids ∷ []))) (sym n);
}
group_ended s (Buffered h) None rows ks todo before n f e = record { unrefused = refl; fits = refl; counted = none_fit; mind_is = refl; todo_is = e ∙ ap (λ z. z ++ (shut_kids ∷ [])) (sym n) }
group_ended s (Buffered h) (Some j) rows ks todo before n f e = record {
  unrefused = refl;
  fits = refl;
  counted = one_fits (length (given_by (Buffered h) j.chunk true)) f.1;
  mind_is = refl;
  todo_is = e ∙ ap (λ z. z ++ (rest_hands (Buffered h) (Some j) ++ (shut_kids ∷ []))) (sym n);
}
group_ended s (Collect h) None rows ks todo before n f e = record { unrefused = refl; fits = refl; counted = none_fit; mind_is = refl; todo_is = e ∙ ap (λ z. z ++ (shut_kids ∷ [])) (sym n) }
group_ended s (Collect h) (Some j) rows ks todo before n f e = record {
  unrefused = refl;
  fits = refl;
  counted = none_fit;
  mind_is = refl;
  todo_is = e ∙ ap (λ z. z ++ (rest_hands (Collect h) (Some j) ++ (shut_kids ∷ []))) (sym n);
}
